-- Tiles that were given of buffers, after one more.
use Rattle.std.proofs.Common.{◌≡◌, ◌⊎◌, List, inl, inr, sym, subst}
use Rattle.std.specs.Prelude.{Contains}
use Rattle.chain_owners.specs.Held.{Held}
use Rattle.model_buffers.specs.Layout.{facts_of}
use Rattle.buffer_view.specs.BufferTables.{BufferTable, buffer_images}
use Rattle.buffer_view.specs.RecentTiles.{AreRecentOver, IsOfBuffer}
use Rattle.buffer_view.specs.declared.recent_tiles.GivenTile.{GivenTile}

module _ (buffers : BufferTable) (recent more : List GivenTile) (given : GivenTile) (old new : Held) where
  abbrev IsOwn : GivenTile → Type 0
  IsOwn = IsOfBuffer (facts_of buffers.layout) (buffer_images buffers old)

  either : AreRecentOver buffers recent old → IsOwn given → (one : GivenTile) → (one ≡ given) ⊎ Contains recent one → IsOwn one
  either over is one (inl same) = subst IsOwn (sym same) is
  either over is one (inr there) = over.tiles one there

  pub kept-over : new ≡ old → ((one : GivenTile) → Contains more one → (one ≡ given) ⊎ Contains recent one) → AreRecentOver buffers recent old
      → IsOwn given → AreRecentOver buffers more new
  kept-over same kept over is =
      subst (AreRecentOver buffers more) (sym same)
      (record { buffers_over = over.buffers_over; tiles = λ one there. either over is one (kept one there) })
