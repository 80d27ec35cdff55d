use Rattle.std.proofs.Common.{◌≡◌, ◌*◌, All, Ok, Err, Result, Some, refl, sym, ◌∙◌, subst, arith}
use Rattle.std.specs.Prelude.{OnOk, slice_get}
use Rattle.plane_rect.specs.Rectangle.{Includes, Rectangle}
use Rattle.pixel_formats.specs.Format.{pixel_bytes}
use Rattle.pixel_formats.specs.declared.format.Format.{Format}
use Rattle.plane_rect.specs.Tile.{strip_rectangles}
use Rattle.op_contracts.specs.TileList.{HasLength}
use Rattle.strip_patches.specs.LevelStrips.{HasStrips, LevelStrips, source_of}
use Rattle.strip_patches.proofs.Adding.{request-whole, strip-put}
use Rattle.strip_patches.proofs.Banded.{all-bands}
use Rattle.strip_patches.proofs.level_patch.LevelPatch.add_tiles.Goals as goal

-- what follows where a call wasn't refused
then-ok : {X E : Type 0} (result : Result X E) (P Q : Type 0) → OnOk result P → (P → Q) → OnOk result Q
then-ok (Ok x) P Q is then = then is
then-ok (Err e) P Q is then = tt

pub put_by_bands-requires-clause-lengths : goal.put_by_bands-requires-clause-lengths
put_by_bands-requires-clause-lengths c =
    subst (λ (x : LevelStrips). All (HasLength (4096 * pixel_bytes x.patch.format)) c.args.tiles.now) (sym c.self.view_is) c.requires.lengths

pub invariant_of-self : goal.invariant_of-self
invariant_of-self c =
    request-whole c.self.inside.rect c.self.inside.level c.self.inside.patch c.put_by_bands.new.patch c.self.invariant
    c.put_by_bands.ensures.rect c.put_by_bands.ensures.whole

pub returns-then-contains-clause-added : goal.returns-then-contains-clause-added
returns-then-contains-clause-added c = λ image box over k has found.
    let within : Includes image.box c.args.rect =
    subst (λ (r : Rectangle). Includes r c.args.rect) (sym box) (c.contains.ensures.positions.0 c.if-contains.true) in
    let none : c.self.inside.level ≡ 0 = omega arith in
    let had = subst (λ (x : LevelStrips). HasStrips image k x) (sym c.self.view_is) has in
    strip-put image k c.args.rect c.self.inside.rect c.self.inside.level c.self.inside.patch c.put_by_bands.new.patch none c.self.invariant
    c.put_by_bands.ensures.rect c.put_by_bands.ensures.format had
    (subst (λ (x : LevelStrips). slice_get (strip_rectangles (source_of x)) k ≡ Some c.args.rect) (sym c.self.view_is) found)
    within
    (all-bands image c.self.inside.patch c.put_by_bands.new.patch c.args.rect image.box c.args.tiles.now refl over.all
    (c.put_by_bands.ensures.image image (sym had.format) over.tiles))

pub patch_of_tiles-requires-clause-lengths : goal.patch_of_tiles-requires-clause-lengths
patch_of_tiles-requires-clause-lengths c =
    subst (λ (f : Format). All (HasLength (4096 * pixel_bytes f)) c.args.tiles.now) (sym c.format.ensures)
    (subst (λ (x : LevelStrips). All (HasLength (4096 * pixel_bytes x.patch.format)) c.args.tiles.now) (sym c.self.view_is) c.requires.lengths)

pub returns-clause-added : goal.returns-clause-added
returns-clause-added c = λ image box over k has found.
    let had = subst (λ (x : LevelStrips). HasStrips image k x) (sym c.self.view_is) has in
    then-ok c.add.result _ _ c.add.ensures.added
    (λ added. added image k c.args.rect has found (c.in_ok-strip.ensures.image image (sym had.format ∙ sym c.format.ensures) over))
