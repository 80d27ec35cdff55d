-- Roots shared and released one after another.
use Rattle.std.proofs.Common.{◌≡◌, ℕ, ◌+◌, ◌<◌, List, [], ◌∷◌, ◌++◌, All, length, take, get_or, refl, sym, ap, subst, ◌∙◌, arith}
use Rattle.std.proofs.Math.ListN.{set}
use Rattle.std.proofs.lemmas.List.Elements.{All-nil, All-push}
use Rattle.std.proofs.lemmas.List.{take_more}
use Rattle.chain_owners.specs.Held.{Held}
use Rattle.chain_owners.specs.Owners.{Owns, Respects, times}
use Rattle.chain_owners.proofs.Ownership.{others-own, owns-fewer, respects-beside, respects-both, respects-same, times-append}
use Rattle.root_tiles.specs.Chains.{ChainState, Leaves}
use Rattle.root_tiles.specs.Roots.{IsRootOver, RootTiles, root_names}
use Rattle.chain_owners.proofs.Growing.{grows-both, grows-same}
use Rattle.buffer_view.specs.BufferLaws.{All-first, All-rest}
use Rattle.buffer_view.specs.BufferTables.{AreBuffersOver, BufferTable, names_of_roots}
use Rattle.buffer_view.specs.Shares.{Shares}
use Rattle.buffer_view.proofs.Beside.{roots-beside}
use Rattle.buffer_view.proofs.RootLists.{All-set, All-without, names-append, names-without, set-same, without}

-- one of some roots is shared
module _ (roots : List RootTiles) (n : ℕ) (root : RootTiles) (old new : Held) (below : n < length roots) (here : get_or roots n root ≡ root)
    (owns : Owns old (names_of_roots roots)) (respects : Respects old new (root_names root) (root_names root ++ root_names root)) where
  abbrev others : List RootTiles
  others = without n roots

  pub owned-others : Owns old (root_names root ++ names_of_roots others)
  owned-others =
      owns-fewer old (names_of_roots roots) (root_names root ++ names_of_roots others)
      (λ q. omega (arith, times-append (root_names root) (names_of_roots others) q, names-without n roots root below here q)) owns

  pub roots-shared : All (λ (r : RootTiles). IsRootOver r old) roots → IsRootOver root new → All (λ (r : RootTiles). IsRootOver r new) roots
  roots-shared over root_over =
      let P : RootTiles → Type 0 = λ (r : RootTiles). IsRootOver r new in
      let before : All P others =
      roots-beside old new (root_names root) (root_names root ++ root_names root) respects others owned-others
      (All-without (λ (r : RootTiles). IsRootOver r old) n roots over) in
      let all : All P (set roots n root) = All-set P n roots root before root_over in
      subst (All P) (set-same n roots root root here refl) all

pub shares-none : (roots shared : List RootTiles) (state : ChainState) → shared ≡ [] → All (λ (r : RootTiles). IsRootOver r state.held) roots
    → Owns state.held (names_of_roots roots) → Shares roots shared state state
shares-none roots shared state none over owns =
    let P : List RootTiles → Type 0 = λ s. Shares roots s state state in
    subst P (sym none) (record {
      lengths = refl;
      content = refl;
      over = over;
      shared_over = All-nil (λ (r : RootTiles). IsRootOver r state.held);
      owned = owns-fewer state.held (names_of_roots roots) (names_of_roots roots ++ []) (λ q. omega (arith, times-append (names_of_roots roots) [] q)) owns;
      others = respects-beside state.held state.held [] [] (respects-same state.held []) (names_of_roots roots) (names_of_roots roots ++ []) (names_of_roots roots)
          (λ q. omega arith) (λ q. omega (arith, times-append (names_of_roots roots) [] q));
      counts = refl;
      loans = refl;
      valid = λ is. is;
    })

-- a root more is shared
module _ (roots shared : List RootTiles) (s0 s1 s2 : ChainState) (shares : Shares roots shared s0 s1) (n : ℕ) (root : RootTiles)
    (below : n < length roots) (here : get_or roots n root ≡ root) (respects : Respects s1.held s2.held (root_names root) (root_names root ++ root_names root)) where
  abbrev more : List RootTiles
  more = shared ++ root ∷ []

  owns-roots : Owns s1.held (names_of_roots roots)
  owns-roots =
      owns-fewer s1.held (names_of_roots roots ++ names_of_roots shared) (names_of_roots roots)
      (λ q. omega (arith, times-append (names_of_roots roots) (names_of_roots shared) q)) shares.owned

  -- the names of the other roots, and of those that were shared
  abbrev beside : List ℕ
  beside = names_of_roots (without n roots) ++ names_of_roots shared

  count-before : (q : ℕ) → times (names_of_roots roots ++ names_of_roots shared) q ≡ times (root_names root) q + times beside q
  count-before q =
      omega (
        arith,
        times-append (names_of_roots roots) (names_of_roots shared) q,
        times-append (names_of_roots (without n roots)) (names_of_roots shared) q,
        names-without n roots root below here q,
      )

  count-after : (q : ℕ) → times (names_of_roots roots ++ names_of_roots more) q ≡ times (root_names root ++ root_names root) q + times beside q
  count-after q =
      omega (
        arith,
        times-append (names_of_roots roots) (names_of_roots more) q,
        names-append shared (root ∷ []) q,
        times-append (root_names root) [] q,
        times-append (root_names root) (root_names root) q,
        times-append (names_of_roots (without n roots)) (names_of_roots shared) q,
        names-without n roots root below here q,
      )

  pub shares-next : s2.held.lengths ≡ s1.held.lengths → s2.held.content ≡ s1.held.content
      → IsRootOver root s2.held → s2.counts ≡ s1.counts → s2.loans ≡ s1.loans → (s1.valid → s2.valid) → Shares roots more s0 s2
  shares-next lengths content root_over counts loans valid = record {
    lengths = lengths ∙ shares.lengths;
    content = content ∙ shares.content;
    over = roots-shared roots n root s1.held s2.held below here owns-roots respects shares.over root_over;
    shared_over =
        let owns : Owns s1.held (root_names root ++ names_of_roots shared) =
        owns-fewer s1.held (names_of_roots roots ++ names_of_roots shared) (root_names root ++ names_of_roots shared)
        (λ q. omega (
          arith,
          times-append (root_names root) (names_of_roots shared) q,
          times-append (names_of_roots roots) (names_of_roots shared) q,
          names-without n roots root below here q,
        )) shares.owned in
        All-push (λ (r : RootTiles). IsRootOver r s2.held) shared root
        (roots-beside s1.held s2.held (root_names root) (root_names root ++ root_names root) respects shared owns shares.shared_over) root_over;
    owned =
        let owns : Owns s1.held (root_names root ++ beside) =
        owns-fewer s1.held (names_of_roots roots ++ names_of_roots shared) (root_names root ++ beside)
        (λ q. omega (arith, count-before q, times-append (root_names root) beside q)) shares.owned in
        owns-fewer s2.held ((root_names root ++ root_names root) ++ beside) (names_of_roots roots ++ names_of_roots more)
        (λ q. omega (arith, count-after q, times-append (root_names root ++ root_names root) beside q))
        (others-own s1.held s2.held (root_names root) (root_names root ++ root_names root) respects beside owns);
    others =
        respects-both s0.held s1.held (names_of_roots roots) (names_of_roots roots ++ names_of_roots shared) shares.others s2.held (names_of_roots roots ++ names_of_roots more)
        (respects-beside s1.held s2.held (root_names root) (root_names root ++ root_names root) respects (names_of_roots roots ++ names_of_roots shared)
        (names_of_roots roots ++ names_of_roots more) beside count-before count-after);
    counts = counts ∙ shares.counts;
    loans = loans ∙ shares.loans;
    valid = λ is. valid (shares.valid is);
  }

-- the first roots, and one more
pub taken-next : (roots shared longer : List RootTiles) (i : ℕ) (root : RootTiles) → i < length roots → root ≡ get_or roots i root → shared ≡ take i roots
    → longer ≡ shared ++ root ∷ [] → longer ≡ take (i + 1) roots
taken-next roots shared longer i root below is taken added =
    added ∙ ap (λ (rs : List RootTiles). rs ++ root ∷ []) taken ∙ ap (λ (r : RootTiles). take i roots ++ r ∷ []) is ∙ sym (take_more roots i root below)

pub shares-over : (buffers : BufferTable) (shared : List RootTiles) (s0 s1 : ChainState) → AreBuffersOver buffers s0.held → Shares buffers.roots shared s0 s1
    → AreBuffersOver buffers s1.held
shares-over buffers shared s0 s1 over shares = record {
  table = over.table;
  owned =
      owns-fewer s1.held (names_of_roots buffers.roots ++ names_of_roots shared) (names_of_roots buffers.roots)
      (λ q. omega (arith, times-append (names_of_roots buffers.roots) (names_of_roots shared) q)) shares.owned;
  roots = shares.over;
}

-- ---- roots are released one after another

-- Some roots were released, and these are left.
pub record Releases (all left : List RootTiles) (old new : ChainState) : Type 0 where
  pub over : All (λ (r : RootTiles). IsRootOver r new.held) left
  pub owned : Owns new.held (names_of_roots left)
  pub leaves : Leaves 0 (names_of_roots all) (names_of_roots left) old new

pub releases-none : (all left : List RootTiles) (state : ChainState) → left ≡ all → All (λ (r : RootTiles). IsRootOver r state.held) all → Owns state.held (names_of_roots all)
    → Releases all left state state
releases-none all left state is over owns =
    let P : List RootTiles → Type 0 = λ rs. Releases all rs state state in
    subst P (sym is) (record {
      over = over;
      owned = owns;
      leaves = record { others = respects-same state.held (names_of_roots all); counts = grows-same state.counts; loans = refl; valid = λ is. is };
    })

pub releases-next : (all left rest : List RootTiles) (root : RootTiles) (s0 s1 s2 : ChainState) → left ≡ root ∷ rest → Releases all left s0 s1
    → Leaves 0 (root_names root) [] s1 s2 → Releases all rest s0 s2
releases-next all left rest root s0 s1 s2 is before released =
    let now : Releases all (root ∷ rest) s0 s1 = subst (λ (rs : List RootTiles). Releases all rs s0 s1) is before in record {
      over = roots-beside s1.held s2.held (root_names root) [] released.others rest now.owned (All-rest (λ (r : RootTiles). IsRootOver r s1.held) root rest now.over);
      owned = others-own s1.held s2.held (root_names root) [] released.others (names_of_roots rest) now.owned;
      leaves = record {
        others =
            respects-both s0.held s1.held (names_of_roots all) (names_of_roots (root ∷ rest)) now.leaves.others s2.held (names_of_roots rest)
            (respects-beside s1.held s2.held (root_names root) [] released.others (names_of_roots (root ∷ rest)) (names_of_roots rest) (names_of_roots rest)
            (times-append (root_names root) (names_of_roots rest)) (λ q. omega arith));
        counts = grows-both 0 0 s0.counts s1.counts s2.counts now.leaves.counts released.counts;
        loans = released.loans ∙ now.leaves.loans;
        valid = λ is. released.valid (now.leaves.valid is);
      };
    }

pub released-first : (all left rest : List RootTiles) (root : RootTiles) (s0 s1 : ChainState) → left ≡ root ∷ rest → Releases all left s0 s1 → IsRootOver root s1.held
released-first all left rest root s0 s1 is before =
    let now : Releases all (root ∷ rest) s0 s1 = subst (λ (rs : List RootTiles). Releases all rs s0 s1) is before in
    All-first (λ (r : RootTiles). IsRootOver r s1.held) root rest now.over

pub released-all : (all left : List RootTiles) (s0 s1 : ChainState) → length left ≡ 0 → Releases all left s0 s1 → Leaves 0 (names_of_roots all) [] s0 s1
released-all all [] s0 s1 none releases = releases.leaves
released-all all (root ∷ left) s0 s1 none releases = absurd (omega (arith, none))
