use Rattle.std.proofs.Common.{◌≡◌, ℕ, ◌+◌, ◌*◌, ◌/◌, ◌<◌, ◌≤◌, Some, length, sym, ap, ◌∙◌, subst, arith}
use Rattle.std.specs.Prelude.{slice_get}
use Rattle.plane_rect.specs.Rectangle.{InLimits, meet, plane_side}
use Rattle.plane_rect.specs.Tile.{tile_of, strip_rectangles, tile_line}
use Rattle.strip_patches.specs.Pictures.{TiledRect}
use Rattle.strip_patches.proofs.Tiled.{band-in_plane, limits-meet, line-spanned, strip-at}
use Rattle.strip_patches.proofs.tiled_patch.TiledPatch.band_rect.Goals.{After-first_row}
use Rattle.strip_patches.proofs.tiled_patch.TiledPatch.band_rect.Goals as goal

module _ (c : After-first_row) where
  below : c.args.index < length (strip_rectangles c.self.inside.rect)
  below = subst (λ (t : TiledRect). c.args.index < length (strip_rectangles t.rect)) (sym c.self.view_is) c.requires

  in_plane : (c.first_row.result / 64 + c.args.index) * 64 + 64 ≤ plane_side
  in_plane = omega (arith, c.first_row.ensures.value, band-in_plane c.self.inside.rect c.args.index c.self.invariant.rectangle below)

pub overflow_add-first_row : goal.overflow_add-first_row
overflow_add-first_row c = omega (arith, in_plane c)

pub overflow_mul-first_row : goal.overflow_mul-first_row
overflow_mul-first_row c = omega (arith, in_plane c)

pub overflow_add-first_row-2 : goal.overflow_add-first_row-2
overflow_add-first_row-2 c = omega (arith, in_plane c)

pub spanning-line-requires-clause-rows : goal.spanning-line-requires-clause-rows
spanning-line-requires-clause-rows c = in_plane c

pub returns-clause-value : goal.returns-clause-value
returns-clause-value c =
    let here = (goal.at.returns-clause-value c).After-first_row in
    let rect = c.self.inside.rect in
    let line : c.spanning-line.result ≡ tile_line (tile_of rect.first_row + c.args.index) =
    c.spanning-line.ensures
    ∙ line-spanned c.first_row.result c.args.index
    ∙ ap (λ (n : ℕ). tile_line (tile_of n + c.args.index)) c.first_row.ensures.value in
    subst (λ (t : TiledRect). slice_get (strip_rectangles t.rect) c.args.index ≡ Some c.meet.result) c.self.view_is
    (strip-at rect c.args.index (below here) ∙ ap Some (ap (meet rect) (sym line) ∙ sym c.meet.ensures.value))

pub returns-clause-limits : goal.returns-clause-limits
returns-clause-limits c =
    subst InLimits (sym c.meet.ensures.value) (limits-meet c.self.inside.rect c.spanning-line.result c.self.invariant.limits)
