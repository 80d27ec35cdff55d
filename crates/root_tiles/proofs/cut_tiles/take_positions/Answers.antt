use Rattle.std.proofs.Common.{◌++◌, List, [], ◌∷◌, ap, sym, ◌∙◌}
use Rattle.std.proofs.lemmas.List.{append_assoc}
use Rattle.plane_rect.specs.Tile.{Tile}
use Rattle.root_tiles.proofs.cut_tiles.take_positions.Goals as goal

pub loop-init : goal.loop-init
loop-init c = ap (λ (positions : List Tile). positions ++ c.args.tiles.now) (sym c.in_ok-positions.ensures.items)

pub loop-preserved : goal.loop-preserved
loop-preserved c =
    let at = c.in-Some.at in
    let left = c.next.new.self in
    c.loop.invariant
    ∙ ap (λ (tiles : List Tile). c.loop.positions.items ++ tiles) c.in-Some.ensures.steps
    ∙ sym (append_assoc c.loop.positions.items (at ∷ []) left)
    ∙ ap (λ (positions : List Tile). positions ++ left) (sym c.in_ok-push.ensures.items)
