-- Right pairs stay right outside the damage.
use Rattle.std.proofs.Common.{◌≡◌, ℕ, Bool, true, false, not, List, [], ◌∷◌, IsTrue, IsSomeAnd, cond, refl, sym, ap, ◌∙◌, subst, arith, Option, Some, None}
use Rattle.std.specs.List.{AllByRecursion}
use Rattle.std.proofs.lemmas.Bool.Decides.{nat_tests}
use Rattle.plane_rect.specs.Rectangle.{Includes, Rectangle, Inside, has_positions, meet}
use Rattle.plane_rect.specs.Tile.{Tile, tile_square, meets}
use Rattle.plane_rect.proofs.Differences.{no_positions}
use Rattle.plane_rect.proofs.Rectangles.{Inside-meet}
use Rattle.model_graphs.specs.Node.{Node}
use Rattle.model_graphs.specs.declared.node.Body.{Body}
use Rattle.model_states.specs.Cache.{by_pair, Cached, IsRight, IsComputed, without_damaged}
use Rattle.model_graphs.specs.Meanings.{Meanings}
use Rattle.model_graphs.specs.Shapes.{Shape}
use Rattle.model_states.specs.State.{Scene, image_of, node_of, shape_of}
use Rattle.model_states.specs.Damage.{Change, damage, is_unedited, side_shape}
use Rattle.model_states.specs.Neighbors.{IsChange, scene_of_side}
use Rattle.model_graphs.specs.Facts.{specs_of}
use Rattle.model_graphs.specs.Evaluation.{Buffers}
use Rattle.model_graphs.specs.Laws.{KeepsLaws, Distinguishes}
use Rattle.model_states.proofs.Agreeing.{same_tile_bytes}
use Rattle.model_states.proofs.Kept.{kept-from_test}
use Rattle.model_states.proofs.NodeDamage.{unchanged}
use Rattle.model_states.proofs.Stated.{scene_shape-is, side_shape-of}

-- ---- tiles

pub a_position : (r : Rectangle) → has_positions r ≡ true → Inside r.first_column r.first_row r
a_position r some = grind (arith, nat_tests)

-- a tile that does not meet a rectangle meets no part of it
pub meets_no_part : (t : Tile) (r part : Rectangle) → ((u v : ℕ) → Inside u v part → Inside u v r) → meets t r ≡ false → meets t part ≡ true → ⊥
meets_no_part t r part inside apart met =
    let both = meet (tile_square t) part in
    let there = (Inside-meet both.first_column both.first_row (tile_square t) part).0 (a_position both met) in
    no_positions both.first_column both.first_row (meet (tile_square t) r) apart
    ((Inside-meet both.first_column both.first_row (tile_square t) r).1 (there.0, inside both.first_column both.first_row there.1))

-- ---- pairs

module _ {Op : Type 0} (same : Op → Op → Bool) (meanings : Meanings Op) (change : Change Op)
    (old new : Buffers) (laws : KeepsLaws meanings) (tells : Distinguishes same) (valid : IsChange meanings change old new) where
  -- a node of the name is kept
  abbrev IsUnedited : List ℕ → Type 0
  IsUnedited name = (node : Node Op) × (node_of (specs_of change.new.nodes) name ≡ Some node) × (is_unedited same change node (node_of (specs_of change.old.nodes) name) ≡ true)

  -- or else none is
  pub by_kept : (P : Type 0) (name : List ℕ) → (IsUnedited name → P) → ((IsUnedited name → ⊥) → P) → P
  by_kept P name kept lost = at (node_of (specs_of change.new.nodes) name) refl
    where
      test : Node Op → Bool
      test node = is_unedited same change node (node_of (specs_of change.old.nodes) name)

      of : (node : Node Op) → node_of (specs_of change.new.nodes) name ≡ Some node → (b : Bool) → test node ≡ b → P
      of node found true e = kept (node, found, e)
      of node found false e =
          lost (λ k. let is : k.0 ≡ node = cc (k.1, found) in cc (k.2, e, ap test is))

      at : (o : Option (Node Op)) → node_of (specs_of change.new.nodes) name ≡ o → P
      at None none = lost (λ k. cc (k.1, none))
      at (Some node) found = of node found (test node) refl

  abbrev before : Scene Op
  before = scene_of_side change.old old

  abbrev after : Scene Op
  after = scene_of_side change.new new

  computed : (name : List ℕ) (kept : IsUnedited name) → IsSomeAnd (node_of (specs_of change.old.nodes) name) (λ (node : Node Op). IsComputed node.body) →
      IsSomeAnd (node_of (specs_of change.new.nodes) name) (λ (node : Node Op). IsComputed node.body)
  computed name kept was =
      let from = kept-from_test same change kept.0 (node_of (specs_of change.old.nodes) name) tells kept.2 in
      let was_computed : IsComputed from.old.body = subst (λ (o : Option (Node Op)). IsSomeAnd o (λ (node : Node Op). IsComputed node.body)) from.found_is was in
      subst (λ (o : Option (Node Op)). IsSomeAnd o (λ (node : Node Op). IsComputed node.body)) (sym kept.1)
      (subst (λ (body : Body Op). IsComputed body) from.body was_computed)

  old_box : (name : List ℕ) → (side_shape change.old name).box ≡ (shape_of meanings before name).box
  old_box name = ap (λ (s : Shape). s.box) (side_shape-of meanings change.old old valid.stated.old valid.old_images name)

  pub stays_right : (cached : Cached) → meets cached.pair.tile (damage same meanings change cached.pair.node) ≡ false →
      IsRight meanings before cached → IsRight meanings after cached
  stays_right cached apart right =
      let name = cached.pair.node in
      let r = damage same meanings change name in
      let all = unchanged same meanings change old new laws tells valid name in
      by_kept (IsRight meanings after cached) name
      (λ kept.
      let agreed = all.kept kept.0 kept.1 kept.2 in
      let box : (shape_of meanings before name).box ≡ (shape_of meanings after name).box =
      ap (λ (s : Shape). s.box) (scene_shape-is meanings before name) ∙ agreed.box ∙ sym (ap (λ (s : Shape). s.box) (scene_shape-is meanings after name)) in
      record {
        pair = record {
          computed = computed name kept right.pair.computed;
          meets_box = subst (λ r. IsTrue (meets cached.pair.tile r)) box right.pair.meets_box;
        };
        bytes = right.bytes ∙ same_tile_bytes (image_of meanings before name) (image_of meanings after name) r cached.pair.tile agreed apart;
      })
      (λ lost.
      absurd (meets_no_part cached.pair.tile r (shape_of meanings before name).box
      (subst (Includes r) (old_box name) (all.changed (λ node found test. lost (node, found, test)))) apart right.pair.meets_box))

  -- what is left of a list of right pairs
  pub stay_right : (list : List Cached) → AllByRecursion (IsRight meanings before) list →
      AllByRecursion (IsRight meanings after) (without_damaged by_pair (damage same meanings change) list)
  stay_right [] right = tt
  stay_right (c ∷ list) right = by (meets c.pair.tile (damage same meanings change c.pair.node)) refl (stay_right list right.1)
    where
      rest : List Cached
      rest = without_damaged by_pair (damage same meanings change) list

      by : (b : Bool) → meets c.pair.tile (damage same meanings change c.pair.node) ≡ b →
          AllByRecursion (IsRight meanings after) rest → AllByRecursion (IsRight meanings after) (cond (not b) (c ∷ rest) rest)
      by true e others = others
      by false e others = (stays_right c e right.0, others)
