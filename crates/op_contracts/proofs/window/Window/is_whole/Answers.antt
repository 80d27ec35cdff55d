use Rattle.std.proofs.Common.{All, sym, ◌∙◌, subst}
use Rattle.std.specs.List.{IsDistinct}
use Rattle.plane_rect.specs.Tile.{same_tile}
use Rattle.model_graphs.specs.Windows.{HasTileLength, Window}
use Rattle.op_contracts.specs.TileList.{tiles_in}
use Rattle.op_contracts.proofs.window.Window.is_whole.Goals as goal
use Rattle.op_contracts.proofs.window.Window.is_whole.Goals.{then-are_distinct, else-are_distinct}

pub returns-else-have_length : goal.returns-else-have_length
returns-else-have_length c =
    let view = sym c.self.view_is in (
      λ h. absurd (cc (sym c.if-have_length.false ∙ h)),
      λ whole. elim c.if-are_distinct.branch [
        | then-are_distinct w ↦
            let lengths : All (HasTileLength c.self.inside.format) c.self.inside.tiles =
            subst (λ (window : Window). All (HasTileLength window.format) window.tiles) view whole.lengths in
            w.value-is ∙ w.have_length.ensures.1 (rw c.pixel_bytes.ensures lengths)
        | else-are_distinct w ↦
            let distinct : IsDistinct same_tile (tiles_in c.self.inside.tiles) =
            subst (λ (window : Window). IsDistinct same_tile (tiles_in window.tiles)) view whole.distinct in
            w.value-is ∙ c.are_distinct.ensures.1 distinct
      ],
    )
