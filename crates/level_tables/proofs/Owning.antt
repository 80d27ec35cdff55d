-- Names of which one becomes an owner, and names that one gives up, one after another.
use Rattle.std.proofs.Common.{◌≡◌, ℕ, ◌+◌, ◌<◌, List, [], ◌∷◌, ◌++◌, Option, inl, inr, ap, subst, ◌∙◌, arith}
use Rattle.std.specs.Prelude.{IsSome}
use Rattle.std.specs.FinMap as map
use Rattle.std.specs.Option.{is_some, option_and_then}
use Rattle.std.specs.Map.{values_of}
use Rattle.std.proofs.lemmas.Bool.{cases_eq}
use Rattle.chain_owners.specs.Held.{Held, disowned, length_of, max_owners, owned, owners_of}
use Rattle.chain_owners.specs.Values.{Named}
use Rattle.chain_owners.specs.Owners.{Owns, Respects, times}
use Rattle.chain_owners.proofs.Ownership.{disowned-respects, others-own, others-unchanged, owned-more, owned-respects, owned-stopped, owns-fewer, respects-beside, respects-both, respects-same, times-append, times-here}
use Rattle.level_tables.specs.LevelTiles.{LevelTiles, names}
use Rattle.level_tables.specs.Over.{IsOver}
use Rattle.level_tables.proofs.Frames.{over-framed}

owned-lengths : (held : Held) (name : ℕ) → (owned held name).lengths ≡ held.lengths
owned-lengths held name = elim (cases_eq (owners_of held name) max_owners) [
  | inl is ↦ ap (λ (h : Held). h.lengths) (owned-stopped held name is)
  | inr ne ↦ ap (λ (h : Held). h.lengths) (owned-more held name ne)
]

owned-content : (held : Held) (name : ℕ) → (owned held name).content ≡ held.content
owned-content held name = elim (cases_eq (owners_of held name) max_owners) [
  | inl is ↦ ap (λ (h : Held). h.content) (owned-stopped held name is)
  | inr ne ↦ ap (λ (h : Held). h.content) (owned-more held name ne)
]

-- ---- one owner more of each

pub record Owning (all left : List ℕ) (old now : Held) : Type 0 where
  pub done : List ℕ
  pub count : (q : ℕ) → times done q + times left q ≡ times all q
  pub lengths : now.lengths ≡ old.lengths
  pub content : now.content ≡ old.content
  pub others : Respects old now all (done ++ all)

pub owning-next : {all left rest : List ℕ} {name : ℕ} {old now new : Held} → left ≡ name ∷ rest → new ≡ owned now name → Owning all left old now → Owning all rest old new
owning-next {all} {left} {rest} {name} {old} {now} {new} is is_new before =
    let some : 0 < times (before.done ++ all) name =
    omega (arith, times-append before.done all name, before.count name, ap (λ (l : List ℕ). times l name) is, times-here rest name) in
    let more : Respects now new (before.done ++ all) (name ∷ before.done ++ all) = rw is_new (owned-respects now (before.done ++ all) name (inr some)) in
    record {
      done = name ∷ before.done;
      count = λ q. omega (arith, before.count q, ap (λ (l : List ℕ). times l q) is);
      lengths = ap (λ (h : Held). h.lengths) is_new ∙ owned-lengths now name ∙ before.lengths;
      content = ap (λ (h : Held). h.content) is_new ∙ owned-content now name ∙ before.content;
      others = respects-both old now all (before.done ++ all) before.others new (name ∷ before.done ++ all) more;
    }

pub owning-end : (all left : List ℕ) (old now : Held) → left ≡ [] → Owning all left old now → Respects old now all (all ++ all)
owning-end all left old now is before =
    respects-beside old now all (before.done ++ all) before.others all (all ++ all) [] (λ q. omega arith)
    (λ q. omega (arith, before.count q, ap (λ (l : List ℕ). times l q) is, times-append before.done all q, times-append all all q))

-- ---- one owner fewer of each

pub record Disowning (all left : List ℕ) (old now : Held) : Type 0 where
  pub others : Respects old now all left
  pub owned : Owns now left
  pub there : (q : ℕ) → 0 < times left q → IsSome (length_of now q)

pub disowning-first : (all : List ℕ) (held : Held) → Owns held all → ((q : ℕ) → 0 < times all q → IsSome (length_of held q)) → Disowning all all held held
disowning-first all held owns there = record { others = respects-same held all; owned = owns; there = there }

pub disowning-there : (all left rest : List ℕ) (name : ℕ) (old now : Held) → left ≡ name ∷ rest → Disowning all left old now → IsSome (length_of now name)
disowning-there all left rest name old now is before =
    before.there name (omega (arith, ap (λ (l : List ℕ). times l name) is, times-here rest name))

pub disowning-next : {all left rest : List ℕ} {name : ℕ} {old now new : Held} → left ≡ name ∷ rest → new ≡ disowned now name → Disowning all left old now → Disowning all rest old new
disowning-next {all} {left} {rest} {name} {old} {now} {new} is is_new before =
    let owns : Owns now (name ∷ rest) = (let P : List ℕ → Type 0 = Owns now in subst P is before.owned) in
    let alone : Owns now (name ∷ []) = owns-fewer now (name ∷ rest) (name ∷ []) (λ q. omega (arith, times-append (name ∷ []) rest q)) owns in
    let one : Respects now new (name ∷ []) [] = rw is_new (disowned-respects now [] name alone) in
    let all_of : Respects now new (name ∷ rest) rest = rw is_new (disowned-respects now rest name owns) in
    record {
      others = respects-both old now all (name ∷ rest) (let P : List ℕ → Type 0 = Respects old now all in subst P is before.others) new rest all_of;
      owned = others-own now new (name ∷ []) [] one rest owns;
      there = λ q some.
          let same = others-unchanged now new (name ∷ []) [] one rest owns q some in
          rw same.length (before.there q (omega (arith, some, ap (λ (l : List ℕ). times l q) is, times-append (name ∷ []) rest q)));
    }

pub disowning-end : (all left : List ℕ) (old now : Held) → left ≡ [] → Disowning all left old now → Respects old now all []
disowning-end all left old now is before = let P : List ℕ → Type 0 = Respects old now all in subst P is before.others

-- ---- the names of a table

pub put-there : (tiles : LevelTiles) (held : Held) → IsOver tiles held → (q : ℕ) → 0 < times (values_of tiles.put) q → IsSome (length_of held q)
put-there tiles held over q some = ap is_some ((over.named q (omega (arith, some, times-append (values_of tiles.put) (values_of tiles.levels) q))).length)

pub levels-there : (tiles : LevelTiles) (held : Held) → IsOver tiles held → (q : ℕ) → 0 < times (values_of tiles.levels) q → IsSome (length_of held q)
levels-there tiles held over q some = ap is_some ((over.named q (omega (arith, some, times-append (values_of tiles.put) (values_of tiles.levels) q))).length)

module _ (tiles : LevelTiles) (old : Held) (over : IsOver tiles old) where
  abbrev put_names : List ℕ
  put_names = values_of tiles.put

  abbrev level_names : List ℕ
  level_names = values_of tiles.levels

  -- a table that is shared
  module _ (mid new : Held) (first : Respects old mid put_names (put_names ++ put_names)) (second : Respects mid new level_names (level_names ++ level_names)) where
    pub shared-others : Respects old new (names tiles) (names tiles ++ names tiles)
    shared-others =
        respects-both old mid (names tiles) (put_names ++ names tiles)
        (respects-beside old mid put_names (put_names ++ put_names) first (names tiles) (put_names ++ names tiles) level_names
        (λ q. omega (arith, times-append put_names level_names q))
        (λ q. omega (arith, times-append put_names (names tiles) q, times-append put_names level_names q, times-append put_names put_names q)))
        new (names tiles ++ names tiles)
        (respects-beside mid new level_names (level_names ++ level_names) second (put_names ++ names tiles) (names tiles ++ names tiles) (put_names ++ put_names)
        (λ q. omega (arith, times-append put_names (names tiles) q, times-append put_names level_names q, times-append put_names put_names q))
        (λ q. omega (arith, times-append (names tiles) (names tiles) q, times-append put_names level_names q, times-append put_names put_names q, times-append level_names level_names q)))

    pub shared-owns : Owns new (names tiles ++ names tiles)
    shared-owns =
        owns-fewer new ((names tiles ++ names tiles) ++ []) (names tiles ++ names tiles) (λ q. omega (arith, times-append (names tiles ++ names tiles) [] q))
        (others-own old new (names tiles) (names tiles ++ names tiles) shared-others []
        (owns-fewer old (names tiles) (names tiles ++ []) (λ q. omega (arith, times-append (names tiles) [] q)) over.owned))

    pub shared-over : new.lengths ≡ old.lengths → new.content ≡ old.content → IsOver tiles new
    shared-over lengths content =
        over-framed tiles old new (ap is_some content)
        (λ q some. record {
          length = ap (λ (l : Named ℕ). map.get l q) lengths;
          bytes = ap (λ (o : Option (Named (List ℕ))). option_and_then (λ (m : Named (List ℕ)). map.get m q) o) content;
        })
        over (owns-fewer new (names tiles ++ names tiles) (names tiles) (λ q. omega (arith, times-append (names tiles) (names tiles) q)) shared-owns)

  -- a table that is released
  pub put-owned : Owns old put_names
  put-owned = owns-fewer old (names tiles) put_names (λ q. omega (arith, times-append put_names level_names q)) over.owned

  module _ (mid : Held) (first : Respects old mid put_names []) where
    pub levels-owned : Owns mid level_names
    levels-owned = others-own old mid put_names [] first level_names over.owned

    pub levels-left : (q : ℕ) → 0 < times level_names q → IsSome (length_of mid q)
    levels-left q some =
        let same = others-unchanged old mid put_names [] first level_names over.owned q some in
        rw same.length (levels-there tiles old over q some)

    pub released-others : (new : Held) → Respects mid new level_names [] → Respects old new (names tiles) []
    released-others new second =
        respects-both old mid (names tiles) level_names
        (respects-beside old mid put_names [] first (names tiles) level_names level_names
        (λ q. omega (arith, times-append put_names level_names q)) (λ q. omega arith))
        new [] second
