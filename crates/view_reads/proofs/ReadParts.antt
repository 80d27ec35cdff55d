-- Parts of images by which alone rectangles can be read under a policy.
use Rattle.std.proofs.Common.{◌≡◌, ℕ, zero, suc, ◌+◌, ◌-◌, ◌*◌, ◌<◌, ◌≤◌, ◌⊎◌, inl, inr, false, max, min, refl, sym, ap, subst, ◌∙◌, arith}
use Rattle.std.specs.Prelude.{IfSome}
use Rattle.std.proofs.lemmas.Bool.Decides.{nat_tests}
use Rattle.plane_rect.specs.Rectangle.{InLimits, Includes, Inside, IsRectangle, Rectangle, area, empty, end_column, end_row, is_empty, meet, spanning}
use Rattle.plane_rect.proofs.RectangleLaws.{IsRectangle-empty, IsRectangle-spanning}
use Rattle.plane_rect.proofs.Rectangles.{Inside-meet, Inside-spanning, rectangle-some}
use Rattle.pixel_formats.specs.declared.abyss.Abyss.{Abyss}
use Rattle.pixel_formats.specs.declared.abyss.Abyss.TheVariants.{Black, Clamp, Loop, None, White}
use Rattle.pixel_formats.specs.declared.format.Format.{Format}
use Rattle.model_images.specs.Abyss.{abyss_at, nearest, outside_at}
use Rattle.model_images.specs.Image.{Image, IsImage, at, image_from_fn}
use Rattle.model_images.specs.Level.{level, level_box}
use Rattle.model_images.specs.Paint.{cut}
use Rattle.model_images.proofs.Agreeing.{at-cut}
use Rattle.model_images.proofs.AgreeingLevels.{level-box}
use Rattle.model_images.proofs.Laws.{generated_equal, image_from_fn-at}
use Rattle.model_images.proofs.LevelLaws.{InLimits-halved, level-format}
use Rattle.model_images.proofs.PolicyLaws.{abyss_at-inside, abyss_at-outside, clamp-empty, clamp-everywhere, clamp-position, loop-empty}
use Rattle.model_images.proofs.Positions.{by_positions}
use Rattle.chain_owners.specs.Held.{Held}
use Rattle.level_tables.proofs.Counting.{box-is}
use Rattle.root_tiles.specs.Roots.{RootTiles}
use Rattle.view_reads.specs.Needed.{IsEnough, moved}
use Rattle.view_reads.specs.declared.policies.Source.{Source}
use Rattle.view_reads.specs.Views.{view_image}
use Rattle.view_reads.proofs.Cuts.{limits-part}
use Rattle.view_reads.proofs.ViewTiles.{IsView, both-known, view-known}

-- a part of a box has, for each image over the box, the samples that a policy gives in a rectangle
pub record IsPart (policy : Abyss) (box r part : Rectangle) : Type 0 where
  pub rectangle : IsRectangle box → IsRectangle part
  pub inside : Includes box part
  pub samples : (image : Image) (u v c : ℕ) → image.box ≡ box → Inside u v r → abyss_at (cut image part) policy u v c ≡ abyss_at image policy u v c

-- a part where it is
moved-own : (image : Image) (box : Rectangle) → moved (cut image box) box ≡ cut image box
moved-own image box =
    generated_equal box image.format (λ u v. at (cut image box) (u - box.first_column + box.first_column) (v - box.first_row + box.first_row)) (at image)
    (λ u v c there few.
    let column : u - box.first_column + box.first_column ≡ u = omega (arith, there.column) in
    let row : v - box.first_row + box.first_row ≡ v = omega (arith, there.row) in
    ap (λ (m : ℕ). at (cut image box) m (v - box.first_row + box.first_row) c) column
    ∙ ap (λ (n : ℕ). at (cut image box) u n c) row
    ∙ at-cut image box u v c there)

pub in-place : (policy : Abyss) (box r part : Rectangle) (source : Source) → source.part ≡ part → source.placed ≡ part → IsPart policy box r part
    → IsEnough policy box r source
in-place policy box r part source from to is = record {
  rectangle = λ is_box. subst IsRectangle (sym from) (is.rectangle is_box);
  inside = subst (λ (q : Rectangle). Includes box q) (sym from) is.inside;
  width = ap (λ (q : Rectangle). q.width) to ∙ sym (ap (λ (q : Rectangle). q.width) from);
  height = ap (λ (q : Rectangle). q.height) to ∙ sym (ap (λ (q : Rectangle). q.height) from);
  samples = λ image u v c over there few.
      ap (λ (q : Rectangle). abyss_at (moved (cut image q) source.placed) policy u v c) from
      ∙ ap (λ (q : Rectangle). abyss_at (moved (cut image part) q) policy u v c) to
      ∙ ap (λ (i : Image). abyss_at i policy u v c) (moved-own image part)
      ∙ is.samples image u v c over there;
}

-- ---- what needs the common positions alone

meet-enough : (policy : Abyss) (box r : Rectangle)
    → ((image : Image) (part : Rectangle) (u v c : ℕ) → outside_at (cut image part) policy u v c ≡ outside_at image policy u v c) → IsPart policy box r (meet r box)
meet-enough policy box r same = record {
  rectangle = λ is.
      IsRectangle-spanning (max r.first_column box.first_column) (max r.first_row box.first_row) (min (end_column r) (end_column box)) (min (end_row r) (end_row box))
      (omega (arith, is.columns)) (omega (arith, is.rows));
  inside = λ u v there. ((Inside-meet u v r box).0 there).1;
  samples = λ image u v c over there.
      let part = meet r box in
      by_positions _ u v box
      (λ in_box.
      let in_part = (Inside-meet u v r box).1 (there, in_box) in
      abyss_at-inside (cut image part) policy u v c in_part ∙ at-cut image part u v c in_part
      ∙ sym (abyss_at-inside image policy u v c (subst (λ (b : Rectangle). Inside u v b) (sym over) in_box)))
      (λ out.
      abyss_at-outside (cut image part) policy u v c (λ in_part. out (((Inside-meet u v r box).0 in_part).1)) ∙ same image part u v c
      ∙ sym (abyss_at-outside image policy u v c (λ in_image. out (subst (λ (b : Rectangle). Inside u v b) over in_image))));
}

pub none-enough : (box r : Rectangle) → IsPart None box r (meet r box)
none-enough box r = meet-enough None box r (λ image part u v c. refl)

pub black-enough : (box r : Rectangle) → IsPart Black box r (meet r box)
black-enough box r = meet-enough Black box r (λ image part u v c. refl)

pub white-enough : (box r : Rectangle) → IsPart White box r (meet r box)
white-enough box r = meet-enough White box r (λ image part u v c. refl)

-- ---- the nearest positions

-- along one side
abbrev pub side_start : ℕ → ℕ → ℕ → ℕ
side_start start end first = max start (min first (end - 1))

abbrev pub side_end : ℕ → ℕ → ℕ → ℕ
side_end start end last = max start (min last (end - 1)) + 1

module _ (start end first last u : ℕ) (some : start < end) (low : first ≤ u) (high : u ≤ last) where
  pub side-some : side_start start end first < side_end start end last
  side-some = omega (arith, some, low, high)

  pub side-nearest : nearest (side_start start end first) (side_end start end last - side_start start end first) u ≡ nearest start (end - start) u
  side-nearest = omega (arith, some, low, high)

module _ (box r part : Rectangle) (wide : 0 < box.width) (high : 0 < box.height)
    (is : part ≡ spanning (side_start box.first_column (end_column box) r.first_column) (side_start box.first_row (end_row box) r.first_row)
    (side_end box.first_column (end_column box) (end_column r - 1)) (side_end box.first_row (end_row box) (end_row r - 1))) where
  abbrev first_column : ℕ
  first_column = side_start box.first_column (end_column box) r.first_column

  abbrev first_row : ℕ
  first_row = side_start box.first_row (end_row box) r.first_row

  abbrev end_of_columns : ℕ
  end_of_columns = side_end box.first_column (end_column box) (end_column r - 1)

  abbrev end_of_rows : ℕ
  end_of_rows = side_end box.first_row (end_row box) (end_row r - 1)

  inside-spanned : Includes box (spanning first_column first_row end_of_columns end_of_rows)
  inside-spanned u v h =
      let there = (Inside-spanning u v first_column first_row end_of_columns end_of_rows).0 h in
      record {
        column = (omega (arith, wide, there), omega (arith, wide, there));
        row = (omega (arith, high, there), omega (arith, high, there));
      }

  same-sample : (image : Image) (u v c : ℕ) → image.box ≡ box → Inside u v r
      → abyss_at (cut image (spanning first_column first_row end_of_columns end_of_rows)) Clamp u v c ≡ abyss_at image Clamp u v c
  same-sample image u v c over there =
      let q : Rectangle = record { first_column = first_column; first_row = first_row; width = end_of_columns - first_column; height = end_of_rows - first_row } in
      let columns = side-some box.first_column (end_column box) r.first_column (end_column r - 1) u (omega (arith, wide)) there.column.0 (omega (arith, there.column)) in
      let rows = side-some box.first_row (end_row box) r.first_row (end_row r - 1) v (omega (arith, high)) there.row.0 (omega (arith, there.row)) in
      let spans : spanning first_column first_row end_of_columns end_of_rows ≡ q =
      rectangle-some first_column first_row (end_of_columns - first_column) (end_of_rows - first_row) (omega (arith, columns)) (omega (arith, rows)) in
      let near = clamp-position q u v (omega (arith, columns)) (omega (arith, rows)) in
      let column : nearest q.first_column q.width u ≡ nearest image.box.first_column image.box.width u =
      side-nearest box.first_column (end_column box) r.first_column (end_column r - 1) u (omega (arith, wide)) there.column.0 (omega (arith, there.column))
      ∙ same_side box.first_column box.width u
      ∙ sym (ap (λ (b : Rectangle). nearest b.first_column b.width u) over) in
      let row : nearest q.first_row q.height v ≡ nearest image.box.first_row image.box.height v =
      side-nearest box.first_row (end_row box) r.first_row (end_row r - 1) v (omega (arith, high)) there.row.0 (omega (arith, there.row))
      ∙ same_side box.first_row box.height v
      ∙ sym (ap (λ (b : Rectangle). nearest b.first_row b.height v) over) in
      ap (λ (b : Rectangle). abyss_at (cut image b) Clamp u v c) spans
      ∙ clamp-everywhere (cut image q) u v c
      ∙ at-cut image q (nearest q.first_column q.width u) (nearest q.first_row q.height v) c near
      ∙ ap (λ (a : ℕ). at image a (nearest q.first_row q.height v) c) column
      ∙ ap (λ (b : ℕ). at image (nearest image.box.first_column image.box.width u) b c) row
      ∙ sym (clamp-everywhere image u v c)
    where
      same_side : (start len n : ℕ) → nearest start (start + len - start) n ≡ nearest start len n
      same_side start len n = ap (λ (m : ℕ). nearest start m n) (omega arith)

  pub clamp-enough : IsPart Clamp box r part
  clamp-enough = subst (IsPart Clamp box r) (sym is) (record {
    rectangle = λ is_box. IsRectangle-spanning first_column first_row end_of_columns end_of_rows
        (omega (arith, wide, is_box.columns)) (omega (arith, high, is_box.rows));
    inside = inside-spanned;
    samples = same-sample;
  })

no-inside : (u v : ℕ) → ¬ Inside u v empty
no-inside u v there = omega (arith, there.column)

-- nothing is read of a box of no position, or for a rectangle of none
pub unread : (policy : Abyss) → ((image : Image) → ((m n : ℕ) → ¬ Inside m n image.box) → (u v c : ℕ) → abyss_at image policy u v c ≡ 0) → (box r : Rectangle)
    → (r ≡ empty) ⊎ (box ≡ empty) → IsPart policy box r empty
unread policy is_zero box r none = record {
  rectangle = λ is. IsRectangle-empty;
  inside = λ u v there. absurd (no-inside u v there);
  samples = λ image u v c over there. elim none [
    | inl few ↦ absurd (no-inside u v (subst (λ (b : Rectangle). Inside u v b) few there))
    | inr few ↦
        is_zero (cut image empty) no-inside u v c
        ∙ sym (is_zero image (λ m n in_image. no-inside m n (subst (λ (b : Rectangle). Inside m n b) (over ∙ few) in_image)) u v c)
  ];
}

pub unread-clamp : (box r : Rectangle) → (r ≡ empty) ⊎ (box ≡ empty) → IsPart Clamp box r empty
unread-clamp = unread Clamp (λ image none u v c. clamp-empty image none u v c)

pub unread-loop : (box r : Rectangle) → (r ≡ empty) ⊎ (box ≡ empty) → IsPart Loop box r empty
unread-loop = unread Loop (λ image none u v c. loop-empty image none u v c)

-- ---- the levels of a view

limits-level : (box : Rectangle) (z : ℕ) → IsRectangle box → InLimits box → InLimits (level_box box z)
limits-level box zero is limits = limits
limits-level box (suc z) is limits = InLimits-halved (level_box box z) (box-is box z is) (limits-level box z is limits)

pub needed-limits : (policy : Abyss) (whole extent r : Rectangle) (source : Source) (z : ℕ) → InLimits whole → Includes whole extent → IsRectangle extent
    → IsEnough policy (level_box extent z) r source → InLimits source.part
needed-limits policy whole extent r source z limits inside is enough =
    limits-part (level_box extent z) source.part (enough.rectangle (box-is extent z is)) enough.inside
    (limits-level extent z is (limits-part whole extent is inside limits))

-- so is where it is put
pub placed-limits : (part placed : Rectangle) → placed.width ≡ part.width → placed.height ≡ part.height → InLimits part → InLimits placed
placed-limits part placed wide high limits =
    let same : area placed ≡ area part = ap (λ (n : ℕ). n * placed.height) wide ∙ ap (λ (n : ℕ). part.width * n) high in
    (omega (arith, wide, limits), omega (arith, high, limits), omega (arith, same, limits))

pub read-exact : (root : RootTiles) (extent : Rectangle) (held : Held) (z : ℕ) (policy : Abyss) (r : Rectangle) (source : Source) (part patch : Image)
    → IsEnough policy (level_box extent z) r source → IfSome (view_image root extent held) (λ known. part ≡ cut (level known z) source.part)
    → patch ≡ image_from_fn r (moved part source.placed).format (abyss_at (moved part source.placed) policy)
    → IfSome (view_image root extent held) (λ known. patch ≡ image_from_fn r known.format (abyss_at (level known z) policy))
read-exact root extent held z policy r source part patch enough exact is =
    both-known (view_image root extent held) (IsView extent root.tiles.format) (λ known. part ≡ cut (level known z) source.part)
    (λ known. patch ≡ image_from_fn r known.format (abyss_at (level known z) policy))
    (λ known view same.
    is
    ∙ ap (λ (i : Image). image_from_fn r i.format (abyss_at (moved i source.placed) policy)) same
    ∙ generated_equal r (level known z).format (abyss_at (moved (cut (level known z) source.part) source.placed) policy) (abyss_at (level known z) policy)
    (λ u v c there few. enough.samples (level known z) u v c (level-box known z ∙ ap (λ (b : Rectangle). level_box b z) view.box) there few)
    ∙ ap (λ (f : Format). image_from_fn r f (abyss_at (level known z) policy)) (level-format known z))
    (view-known root extent held) exact

-- a part is what any policy gives over its own box
pub own-policy : (part : Image) (policy : Abyss) (r : Rectangle) → IsImage part → part.box ≡ r → part ≡ image_from_fn r part.format (abyss_at part policy)
own-policy part policy r whole box =
    sym (image_from_fn-at part whole)
    ∙ generated_equal part.box part.format (at part) (abyss_at part policy) (λ u v c there few. sym (abyss_at-inside part policy u v c there))
    ∙ ap (λ (b : Rectangle). image_from_fn b part.format (abyss_at part policy)) box

pub some-sides : (r : Rectangle) → is_empty r ≡ false → (0 < r.width) × (0 < r.height)
some-sides r some = grind (arith, nat_tests, some)
