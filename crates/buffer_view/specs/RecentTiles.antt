-- Tiles that were given of buffers over a chain.
use Rattle.std.specs.Prelude.{List, Option, Contains}
use Rattle.std.proofs.Common.{sym, subst}
use Rattle.chain_owners.specs.Held.{Held}
use Rattle.model_buffers.specs.Layout.{facts_of}
use Rattle.model_graphs.specs.Evaluation.{Buffers}
use Rattle.model_graphs.specs.Facts.{Facts}
use Rattle.op_contracts.specs.Sources.{HasBufferLength, IsFramedCondition, IsTileOf}
use Rattle.buffer_view.specs.BufferLaws.{buffers_framed, buffers_framed_condition}
use Rattle.buffer_view.specs.BufferTables.{AreBuffersOver, BufferTable, buffer_images, buffers_names}
use Rattle.buffer_view.specs.declared.recent_tiles.GivenTile.{GivenTile}

-- a tile that was given is that of its buffer, which has such facts and images
abbrev pub IsOfBuffer : Facts → Option Buffers → GivenTile → Type 0
IsOfBuffer facts images given =
    IsTileOf images given.buffer given.at given.tile × HasBufferLength facts given.buffer given.tile

-- Buffers are over a chain, and tiles that were given of them are theirs.
pub record AreRecentOver (buffers : BufferTable) (recent : List GivenTile) (held : Held) : Type 0 where
  pub buffers_over : AreBuffersOver buffers held
  pub tiles : (given : GivenTile) → Contains recent given → IsOfBuffer (facts_of buffers.layout) (buffer_images buffers held) given

-- This depends on nothing of the chain but the bytes of the buffers' names.
pub recent_framed_condition : (buffers : BufferTable) (recent : List GivenTile) → IsFramedCondition (buffers_names buffers) (AreRecentOver buffers recent)
recent_framed_condition buffers recent = λ old new over exposed unchanged owns. record {
  buffers_over = buffers_framed_condition buffers old new over.buffers_over exposed unchanged owns;
  tiles = λ given there.
      subst (λ (images : Option Buffers). IsOfBuffer (facts_of buffers.layout) images given) (sym (buffers_framed buffers old new exposed unchanged)) (over.tiles given there);
}
