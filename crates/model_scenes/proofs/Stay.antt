-- Pairs that meet no later rectangle stay right.
use Rattle.std.proofs.Common.{◌≡◌, ℕ, suc, zero, ◌+◌, ◌<◌, ◌≤◌, Bool, true, false, not, ◌&&◌, cond, IsTrue, IsSomeAnd, List, [], ◌∷◌, ◌++◌, length, slice_index_or, Option, Some, None, refl, ap, sym, ◌∙◌, subst, arith, ⊎_elim}
use Rattle.std.specs.Prelude.{filter, flat_map, map, nat_lt}
use Rattle.std.specs.List.{AllByRecursion}
use Rattle.std.specs.Str.{bytes_eq}
use Rattle.std.proofs.lemmas.Bool.Decides.{nat_tests}
use Rattle.std.proofs.lemmas.Slice.Eq.{bytes_eq-Decides}
use Rattle.plane_rect.specs.Rectangle.{Inside, Rectangle, meet}
use Rattle.plane_rect.specs.Tile.{meets, tile_square}
use Rattle.plane_rect.proofs.Differences.{no_positions}
use Rattle.plane_rect.proofs.Rectangles.{Inside-meet}
use Rattle.model_graphs.specs.Meanings.{Meanings}
use Rattle.model_graphs.specs.Node.{Node}
use Rattle.model_graphs.specs.Shapes.{Shape}
use Rattle.model_graphs.specs.declared.node.Body.{Body}
use Rattle.model_graphs.specs.declared.node.Body.TheVariants.{Source, Compute}
use Rattle.model_images.proofs.RawLaws.{raw-over}
use Rattle.model_states.specs.Cache.{Cached, IsComputed, IsPairOf, IsRight, Pair, all_voided, by_pair, voided}
use Rattle.model_states.specs.declared.damage.Damage.{Damage}
use Rattle.model_states.specs.Rectangles.{Rectangles}
use Rattle.model_states.specs.State.{image_of, node_of, node_shapes, shape_of}
use Rattle.model_states.proofs.RightPairs.{a_position}
use Rattle.model_states.proofs.Stated.{scene_shape-is}
use Rattle.model_scenes.proofs.Transitive.{has-node}
use Rattle.model_scenes.specs.Follows.{Follows, IsCovered, IsKept, IsLater, LiesLater, ShownScene, entries_after, is_source, listed, most_damages}

-- ---- lists

member : {X : Type 0} (P : X → Type 0) (xs : List X) (x : X) (k : ℕ) → AllByRecursion P xs → k < length xs → slice_index_or xs k x ≡ x → P x
member P [] x k all lt is = absurd (omega arith)
member P (y ∷ ys) x zero all lt is = subst P is all.0
member P (y ∷ ys) x (suc k) all lt is = member P ys x k all.1 (omega arith) is

all-first : {X : Type 0} (P : X → Type 0) (xs ys : List X) → AllByRecursion P (xs ++ ys) → AllByRecursion P xs × AllByRecursion P ys
all-first P [] ys all = (tt, all)
all-first P (x ∷ xs) ys all = let r = all-first P xs ys all.1 in ((all.0, r.0), r.1)

-- what holds of each entry after a number holds of each rectangle that is listed later
listed-each : (P : Rectangle → Type 0) (name : List ℕ) (rects : Rectangles) → AllByRecursion (λ (e : List ℕ × Rectangle). bytes_eq name e.0 ≡ true → P e.1) rects
    → AllByRecursion P (listed rects name)
listed-each P name [] all = tt
listed-each P name (e ∷ rects) all = by (bytes_eq name e.0) refl (listed-each P name rects all.1)
  where
    by : (b : Bool) → bytes_eq name e.0 ≡ b → AllByRecursion P (listed rects name)
        → AllByRecursion P (map (λ (e : List ℕ × Rectangle). e.1) (cond b (e ∷ filter (λ (e : List ℕ × Rectangle). bytes_eq name e.0) rects) (filter (λ (e : List ℕ × Rectangle). bytes_eq name e.0) rects)))
    by true is rest = (all.0 is, rest)
    by false is rest = rest

entries-each : (P : List ℕ × Rectangle → Type 0) (a : ℕ) (ds : List Damage) → AllByRecursion P (entries_after a ds)
    → AllByRecursion (λ (d : Damage). a < d.number → AllByRecursion P d.rects) ds
entries-each P a [] all = tt
entries-each P a (d ∷ ds) all = by (nat_lt a d.number) refl all (λ others. entries-each P a ds others)
  where
    rest : List Damage
    rest = filter (λ (d : Damage). nat_lt a d.number) ds

    by : (b : Bool) → nat_lt a d.number ≡ b → AllByRecursion P (flat_map (λ (d : Damage). d.rects) (cond b (d ∷ rest) rest))
        → (AllByRecursion P (flat_map (λ (d : Damage). d.rects) rest) → AllByRecursion (λ (d : Damage). a < d.number → AllByRecursion P d.rects) ds)
        → AllByRecursion (λ (d : Damage). a < d.number → AllByRecursion P d.rects) (d ∷ ds)
    by true is all on = let r = all-first P d.rects (flat_map (λ (d : Damage). d.rects) rest) all in (λ less. r.0, on r.1)
    by false is all on = (λ less. absurd (grind (arith, nat_tests, is, less)), on all)

later-each : (P : Rectangle → Type 0) (a : ℕ) (ds : List Damage) (name : List ℕ) (r : Rectangle)
    → AllByRecursion (λ (e : List ℕ × Rectangle). bytes_eq name e.0 ≡ true → P e.1) (entries_after a ds) → IsLater a ds name r → P r
later-each P a ds name r all is =
    let T : List ℕ × Rectangle → Type 0 = λ (e : List ℕ × Rectangle). bytes_eq name e.0 ≡ true → P e.1 in
    let of : is.damage.number ≡ is.damage.number = refl in
    let d = member (λ (d : Damage). a < d.number → AllByRecursion T d.rects) ds is.damage is.there.0 (entries-each T a ds all) is.there.1 is.there.2 is.later in
    member P (listed is.damage.rects name) r is.is_listed.0 (listed-each P name is.damage.rects d) is.is_listed.1 is.is_listed.2

-- ---- what voids leave

abbrev Passes : {X : Type 0} → (X → Pair) → X → List ℕ × Rectangle → Type 0
Passes key x e = bytes_eq e.0 (key x).node && meets (key x).tile e.1 ≡ false

voided-passes : {X : Type 0} (key : X → Pair) (P : X → Type 0) (e : List ℕ × Rectangle) (list : List X) → AllByRecursion P list
    → AllByRecursion (λ x. P x × Passes key x e) (voided key list e.0 e.1)
voided-passes key P e [] all = tt
voided-passes {X} key P e (x ∷ list) all = by (bytes_eq e.0 (key x).node && meets (key x).tile e.1) refl (voided-passes key P e list all.1)
  where
    rest : List X
    rest = voided key list e.0 e.1

    by : (b : Bool) → (bytes_eq e.0 (key x).node && meets (key x).tile e.1) ≡ b → AllByRecursion (λ x. P x × Passes key x e) rest
        → AllByRecursion (λ x. P x × Passes key x e) (cond (not b) (x ∷ rest) rest)
    by true is others = others
    by false is others = ((all.0, is), others)

pub all-weaken : {X : Type 0} (P Q : X → Type 0) (xs : List X) → ((x : X) → P x → Q x) → AllByRecursion P xs → AllByRecursion Q xs
all-weaken P Q [] of all = tt
all-weaken P Q (x ∷ xs) of all = (of x all.0, all-weaken P Q xs of all.1)

pub all_voided-pass : {X : Type 0} (key : X → Pair) (P : X → Type 0) (es : Rectangles) (list : List X) → AllByRecursion P list
    → AllByRecursion (λ x. P x × AllByRecursion (Passes key x) es) (all_voided key list es)
all_voided-pass key P [] list all = all-weaken P (λ x. P x × AllByRecursion (Passes key x) []) list (λ x p. (p, tt)) all
all_voided-pass key P (e ∷ es) list all =
    all-weaken (λ x. (P x × Passes key x e) × AllByRecursion (Passes key x) es) (λ x. P x × AllByRecursion (Passes key x) (e ∷ es))
    (all_voided key (voided key list e.0 e.1) es) (λ x p. (p.0.0, (p.0.1, p.1)))
    (all_voided-pass key (λ x. P x × Passes key x e) es (voided key list e.0 e.1) (voided-passes key P e list all))

-- ---- pairs that stay

computed-kind : {Op : Type 0} (p q : Body Op) → is_source p ≡ is_source q → IsComputed p → IsComputed q
computed-kind (Source b) q same is = absurd is
computed-kind (Compute f names) (Source b) same is = absurd (cc same)
computed-kind (Compute f names) (Compute g others) same is = tt

some-node : {Op : Type 0} (nodes : List (Node Op)) (name : List ℕ) (o : Option (Node Op)) → node_of nodes name ≡ o → IsSomeAnd o (λ (node : Node Op). IsComputed node.body)
    → (node : Node Op) × (node_of nodes name ≡ Some node)
some-node nodes name None is some = absurd some
some-node nodes name (Some node) is some = (node, is)

and-true : (a b : Bool) → a ≡ true → a && b ≡ false → b ≡ false
and-true true b is none = none
and-true false b is none = absurd (cc is)

passes-apart : {X : Type 0} (key : X → Pair) (x : X) (e : List ℕ × Rectangle) → Passes key x e → bytes_eq (key x).node e.0 ≡ true → meets (key x).tile e.1 ≡ false
passes-apart key x e passes same =
    and-true (bytes_eq e.0 (key x).node) (meets (key x).tile e.1)
    ((bytes_eq-Decides e.0 (key x).node).1 (sym ((bytes_eq-Decides (key x).node e.0).0 same))) passes

-- the tile meets no later rectangle of its node
abbrev pub IsApart : ℕ → List Damage → Pair → Type 0
IsApart number damages pair = (r : Rectangle) → IsLater number damages pair.node r → meets pair.tile r ≡ false

-- what voids leave meets no later rectangle, and what held of all of a list holds of it
pub left-each : {X : Type 0} (key : X → Pair) (P Q : X → Type 0) (number : ℕ) (damages : List Damage) → ((x : X) → IsApart number damages (key x) → P x → Q x)
    → (list : List X) → AllByRecursion P list → AllByRecursion Q (all_voided key list (entries_after number damages))
left-each key P Q number damages of list all =
    all-weaken (λ x. P x × AllByRecursion (Passes key x) (entries_after number damages)) Q (all_voided key list (entries_after number damages))
    (λ x p. of x (λ r is.
    later-each (λ s. meets (key x).tile s ≡ false) number damages (key x).node r
    (all-weaken (Passes key x) (λ (e : List ℕ × Rectangle). bytes_eq (key x).node e.0 ≡ true → meets (key x).tile e.1 ≡ false) (entries_after number damages)
    (λ e passes same. passes-apart key x e passes same) p.1) is) p.0)
    (all_voided-pass key P (entries_after number damages) list all)

module _ {Op : Type 0} (meanings : Meanings Op) (known : Bool) (x y : ShownScene Op) (follows : Follows meanings known x y) (near : y.number ≤ x.number + most_damages) where
  pub not-later : (pair : Pair) → IsApart x.number y.damages pair → (u v : ℕ) → Inside u v (tile_square pair.tile) → ¬ LiesLater x.number y.damages pair.node u v
  not-later pair apart u v inside lies =
      no_positions u v (meet (tile_square pair.tile) lies.rect) (apart lies.rect lies.is_later)
      ((Inside-meet u v (tile_square pair.tile) lies.rect).1 (inside, lies.inside))

  -- its node is in both scenes
  pub stays-kept : (pair : Pair) → IsApart x.number y.damages pair → IsPairOf x.scene.nodes (node_shapes meanings x.scene) pair → IsKept meanings known x y pair.node
  stays-kept pair apart right = ⊎_elim (λ (k : IsKept meanings known x y pair.node). k) covered (follows.cases near pair.node)
    where
      name : List ℕ
      name = pair.node

      covered : IsCovered meanings x.scene x.number y.damages name × IsCovered meanings y.scene x.number y.damages name → IsKept meanings known x y name
      covered both =
          let node = some-node x.scene.nodes name (node_of x.scene.nodes name) refl right.computed in
          let box : (shape_of meanings x.scene name).box ≡ (image_of meanings x.scene name).box = ap (λ (s : Shape). s.box) (scene_shape-is meanings x.scene name) in
          let part = meet (tile_square pair.tile) (image_of meanings x.scene name).box in
          let met : IsTrue (meets pair.tile (image_of meanings x.scene name).box) = subst (λ r. IsTrue (meets pair.tile r)) box right.meets_box in
          let there = (Inside-meet part.first_column part.first_row (tile_square pair.tile) (image_of meanings x.scene name).box).0 (a_position part met) in
          absurd (not-later pair apart part.first_column part.first_row there.0
          (both.0 (has-node x.scene.nodes name node.0 node.1) part.first_column part.first_row there.1))

  -- so it is a pair of the later one
  pub stays-pair : (pair : Pair) → IsApart x.number y.damages pair → IsPairOf x.scene.nodes (node_shapes meanings x.scene) pair
      → IsPairOf y.scene.nodes (node_shapes meanings y.scene) pair
  stays-pair pair apart right =
      let k = stays-kept pair apart right in
      let name = pair.node in
      record {
        computed = subst (λ (o : Option (Node Op)). IsSomeAnd o (λ (node : Node Op). IsComputed node.body)) (sym k.there_after)
            (computed-kind k.before.body k.after.body k.kind (subst (λ (o : Option (Node Op)). IsSomeAnd o (λ (node : Node Op). IsComputed node.body)) k.there_before right.computed));
        meets_box = subst (λ r. IsTrue (meets pair.tile r))
            (ap (λ (s : Shape). s.box) (scene_shape-is meanings x.scene name) ∙ k.box ∙ sym (ap (λ (s : Shape). s.box) (scene_shape-is meanings y.scene name)))
            right.meets_box;
      }

-- pairs stay right
pub stay-right : {Op : Type 0} (meanings : Meanings Op) (x y : ShownScene Op) → Follows meanings true x y → y.number ≤ x.number + most_damages
    → (list : List Cached) → AllByRecursion (IsRight meanings x.scene) list → AllByRecursion (IsRight meanings y.scene) (all_voided by_pair list (entries_after x.number y.damages))
stay-right {Op} meanings x y follows near list right =
    left-each by_pair (IsRight meanings x.scene) (IsRight meanings y.scene) x.number y.damages stays list right
  where
    stays : (cached : Cached) → IsApart x.number y.damages cached.pair → IsRight meanings x.scene cached → IsRight meanings y.scene cached
    stays cached apart is =
        let k = stays-kept meanings true x y follows near cached.pair apart is.pair in
        record {
          pair = stays-pair meanings true x y follows near cached.pair apart is.pair;
          bytes = is.bytes ∙ raw-over (image_of meanings x.scene cached.pair.node) (image_of meanings y.scene cached.pair.node) (tile_square cached.pair.tile) k.format
              (λ u v c inside. k.samples refl u v c (not-later meanings true x y follows near cached.pair apart u v inside));
        }

-- voids leave what holds of each
pub all-left : {X : Type 0} (key : X → Pair) (P : X → Type 0) (es : Rectangles) (list : List X) → AllByRecursion P list → AllByRecursion P (all_voided key list es)
all-left key P es list all =
    all-weaken (λ x. P x × AllByRecursion (Passes key x) es) P (all_voided key list es) (λ x p. p.0) (all_voided-pass key P es list all)
