use Rattle.std.proofs.Common.{◌≡◌, Some, refl, ap, sym, subst, ◌∙◌}
use Rattle.std.specs.Prelude.{slice_get}
use Rattle.model_images.specs.Image.{Image}
use Rattle.model_images.specs.Level.{level}
use Rattle.model_images.specs.Paint.{cut}
use Rattle.model_images.proofs.LevelLaws.{level-format}
use Rattle.plane_rect.specs.Tile.{strip_rectangles}
use Rattle.strip_patches.specs.LevelStrips.{AreOfOne, HasStrips, LevelStrips, source_of, strip_level}
use Rattle.strip_patches.proofs.Adding.{request-still, strip-added}
use Rattle.strip_patches.proofs.level_patch.LevelPatch.add.Goals as goal

pub lay-requires : goal.lay-requires
lay-requires c =
    ap (λ (x : Image). x.format) c.in_ok-part.ensures ∙ level-format c.args.strip c.min.result ∙ c.requires
    ∙ ap (λ (x : LevelStrips). x.patch.format) (sym c.self.view_is)

pub invariant_of-self : goal.invariant_of-self
invariant_of-self c =
    request-still c.self.inside.rect c.self.inside.level c.self.inside.patch c.lay.new.patch c.in_ok-part.part c.self.invariant c.lay.ensures

pub returns-clause-added : goal.returns-clause-added
returns-clause-added c = λ image k r has found strip.
    let old : LevelStrips = record { rect = c.self.inside.rect; at_level = c.self.inside.level; patch = c.self.inside.patch } in
    let new : LevelStrips = record { rect = c.self.inside.rect; at_level = c.self.inside.level; patch = c.lay.new.patch } in
    let of_one : AreOfOne old new = record { rect = refl; at_level = refl; format = ap (λ (x : Image). x.format) c.lay.ensures } in
    let part : c.in_ok-part.part ≡ level (cut image r) (strip_level c.self.inside.level) =
    c.in_ok-part.ensures ∙ ap (λ (x : Image). level x c.min.result) strip ∙ ap (level (cut image r)) c.min.ensures in
    strip-added image c.in_ok-part.part k r old new c.self.invariant of_one
    (subst (λ (x : LevelStrips). HasStrips image k x) (sym c.self.view_is) has)
    (subst (λ (x : LevelStrips). slice_get (strip_rectangles (source_of x)) k ≡ Some r) (sym c.self.view_is) found)
    part c.lay.ensures
