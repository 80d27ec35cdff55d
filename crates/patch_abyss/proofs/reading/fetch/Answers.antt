use Rattle.std.proofs.Common.{◌≡◌, ap, refl, ◌∙◌, rules, length, subst}
use Rattle.std.proofs.lemmas.List.{with_items_is}
use Rattle.std.specs.Prelude.{IfOk}
use Rattle.plane_rect.specs.Rectangle.{Rectangle, Includes}
use Rattle.model_images.specs.Image.{Image, at, image_from_fn}
use Rattle.pixel_formats.specs.declared.abyss.Abyss.TheVariants.{None}
use Rattle.model_images.specs.Abyss.{abyss_at}
use Rattle.model_images.specs.FromRaw.{image_from_raw}
use Rattle.patch_abyss.proofs.FilledRows.{RowsFilled-all, image_from_fn-none, image_from_fn-inside}
use Rattle.patch_abyss.proofs.reading.fetch.Goals as goal
use Rattle.patch_abyss.proofs.reading.fetch.Goals.{then-eq-via-then-eq, then-eq-via-else-eq+then-contains}

pub returns-then-eq : goal.returns-then-eq
returns-then-eq c =
    let image = c.args.image.now in
    let same : image_from_fn c.args.rect image.format (at image) ≡ image_from_fn c.args.rect image.format (abyss_at image c.args.abyss) =
    elim c.then-eq.branch [
      | then-eq-via-then-eq w ↦
          let none : c.args.abyss ≡ None = search rules in
          image_from_fn-none image c.args.abyss c.args.rect none
      | then-eq-via-else-eq+then-contains w ↦
          image_from_fn-inside image c.args.abyss c.args.rect
          (subst (λ (r : Rectangle). Includes r c.args.rect) w.rect.ensures.value (w.if-contains.ensures.positions.0 refl))
    ] in
    subst (λ (image : Image). IfOk c.part.result (λ patch. patch ≡ image)) same c.part.ensures

pub returns : goal.returns
returns c =
    let image = c.args.image.now in
    let rect = c.args.rect in
    let new = c.fetch_rows.new.bytes in
    let fits : length new ≡ c.in_ok-bytes.bytes.len = search rules in
    rw c.format-format.ensures at c.from_vec.ensures
    ∙ ap (image_from_raw rect image.format) (with_items_is c.in_ok-bytes.bytes new fits)
    ∙ RowsFilled-all rect image.format (abyss_at image c.args.abyss) new c.fetch_rows.ensures.generated
