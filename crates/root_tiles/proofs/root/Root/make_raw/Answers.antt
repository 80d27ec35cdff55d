use Rattle.std.proofs.Common.{ap, ◌∙◌}
use Rattle.pixel_formats.specs.declared.format.Format.{Format}
use Rattle.plane_rect.specs.Rectangle.{Rectangle}
use Rattle.root_tiles.specs.Cutting.{Cutting, raster_cutting}
use Rattle.model_images.specs.FromRaw.{pixels_from_raw}
use Rattle.root_tiles.proofs.root.Root.make_raw.Goals as goal

pub make_tiles-requires-2-clause-ready : goal.make_tiles-requires-2-clause-ready
make_tiles-requires-2-clause-ready g c =
    let rect = c.args.rect in
    let cutting : Format → Rectangle → Cutting = λ format box. record { format = format; box = box; rect = rect; pixels = pixels_from_raw rect format c.args.bytes.now } in (
      record { shared = c.type_bounds.sync-R.shared },
      ap raster_cutting c.new-ready.ensures.raster ∙ ap (λ (f : Format). cutting f c.bounds.result) c.format.ensures ∙ ap (cutting c.args.self.now.tiles.format) c.bounds.ensures,
      c.new-ready.ensures.cut,
    )
