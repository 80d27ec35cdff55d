-- What the tests that a node is kept tell.
use Rattle.std.proofs.Common.{◌≡◌, ℕ, Bool, true, List, [], ◌∷◌, refl, ap, ◌∙◌, Option, Some, None}
use Rattle.std.specs.List.{AllByRecursion, list_all}
use Rattle.std.specs.Str.{bytes_eq}
use Rattle.std.proofs.lemmas.Slice.Eq.{bytes_eq-Decides}
use Rattle.plane_rect.specs.Rectangle.{Rectangle, same_rectangle}
use Rattle.plane_rect.specs.SameRectangle.{same_rectangle-true}
use Rattle.pixel_formats.specs.Format.{same_format}
use Rattle.pixel_formats.proofs.FormatLaws.{Decides-same_format}
use Rattle.model_images.proofs.Tests.{both}
use Rattle.pixel_formats.specs.declared.format.Format.{Format}
use Rattle.model_graphs.specs.Node.{Node}
use Rattle.model_graphs.specs.declared.node.Body.{Body}
use Rattle.model_graphs.specs.declared.node.Body.TheVariants.{Source, Compute}
use Rattle.model_states.specs.Damage.{Change, have_same_shapes, side_shape, inputs_of, is_unedited, same_body, same_names, same_shape}
use Rattle.model_graphs.specs.Laws.{Distinguishes}
use Rattle.model_graphs.specs.Shapes.{Shape}

pub same_shape-true : (a b : Shape) → same_shape a b ≡ true → a ≡ b
same_shape-true a b e =
    let tests = both (same_rectangle a.box b.box) (same_format a.format b.format) e in
    let box = same_rectangle-true a.box b.box tests.0 in
    let format = (Decides-same_format a.format b.format).0 tests.1 in
    let joined : (of : Rectangle → Format → Shape) → of a.box a.format ≡ of b.box b.format = λ of. cc in
    joined (λ box format. record { box = box; format = format })

same_names-true : (a b : List (List ℕ)) → same_names a b ≡ true → a ≡ b
same_names-true [] [] e = refl
same_names-true [] (other ∷ others) e = absurd (cc)
same_names-true (name ∷ names) [] e = absurd (cc)
same_names-true (name ∷ names) (other ∷ others) e =
    let tests = both (bytes_eq name other) (same_names names others) e in
    let first : name ≡ other = (bytes_eq-Decides name other).0 tests.0 in
    ap (λ n. n ∷ names) first ∙ ap (λ rest. other ∷ rest) (same_names-true names others tests.1)

pub same_body-true : {Op : Type 0} (same : Op → Op → Bool) → Distinguishes same → (a b : Body Op) → same_body same a b ≡ true → a ≡ b
same_body-true same apart (Source a) (Source b) e = ap Source ((bytes_eq-Decides a b).0 e)
same_body-true same apart (Source a) (Compute g bs) e = absurd (cc)
same_body-true same apart (Compute f names) (Source b) e = absurd (cc)
same_body-true same apart (Compute f names) (Compute g others) e =
    let tests = both (same f g) (same_names names others) e in
    ap (λ op. Compute op names) (apart f g tests.0) ∙ ap (λ inputs. Compute g inputs) (same_names-true names others tests.1)

-- the inputs of these names have one shape in both states
abbrev pub SameShapes : {Op : Type 0} → Change Op → List (List ℕ) → Type 0
SameShapes change names =
    AllByRecursion (λ name. side_shape change.old name ≡ side_shape change.new name) names

same_shapes-from_test : {Op : Type 0} (change : Change Op) (names : List (List ℕ)) →
    list_all (λ name. same_shape (side_shape change.old name) (side_shape change.new name)) names ≡ true →
    SameShapes change names
same_shapes-from_test change [] e = tt
same_shapes-from_test change (name ∷ names) e =
    let a = side_shape change.old name in
    let b = side_shape change.new name in
    let tests = both (same_shape a b) (list_all (λ name. same_shape (side_shape change.old name) (side_shape change.new name)) names) e in
    (same_shape-true a b tests.0, same_shapes-from_test change names tests.1)

-- A node of the old state, of which a node has the body, and its inputs their shapes.
pub record KeptFrom {Op : Type 0} (change : Change Op) (node : Node Op) (found : Option (Node Op)) : Type 0 where
  pub old : Node Op
  pub found_is : found ≡ Some old
  pub body : old.body ≡ node.body
  pub shapes : SameShapes change (inputs_of node.body)

pub kept-from_test : {Op : Type 0} (same : Op → Op → Bool) (change : Change Op) (node : Node Op) (found : Option (Node Op)) →
    Distinguishes same → is_unedited same change node found ≡ true → KeptFrom change node found
kept-from_test same change node None apart e = absurd (cc)
kept-from_test same change node (Some old) apart e =
    let shapes = have_same_shapes change (inputs_of node.body) in
    let tests = both (same_body same old.body node.body) shapes e in
    record {
      old = old;
      found_is = refl;
      body = same_body-true same apart old.body node.body tests.0;
      shapes = same_shapes-from_test change (inputs_of node.body) tests.1;
    }
