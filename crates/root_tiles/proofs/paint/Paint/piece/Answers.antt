use Rattle.std.proofs.Common.{ℕ, ◌*◌, ap₂}
use Rattle.root_tiles.specs.Paints.{IsSolid}
use Rattle.root_tiles.proofs.Solid.{solid-paints}
use Rattle.root_tiles.proofs.paint.Paint.piece.Goals as goal

pub returns-in-Solid : goal.returns-in-Solid
returns-in-Solid c =
    let format = c.args.format in
    let part = c.args.part in
    let solid : IsSolid format c.in-Solid.tile.now = rw c.in-Solid.is at c.requires.paint in
    rw (c.in-Solid.is, c.bytes.ensures.value)
    (solid-paints format c.args.rect part c.in-Solid.tile.now (c.area.result * c.pixel_bytes.result) solid c.requires.inside c.requires.small
    (ap₂ (λ (a b : ℕ). a * b) c.area.ensures.value c.pixel_bytes.ensures))
