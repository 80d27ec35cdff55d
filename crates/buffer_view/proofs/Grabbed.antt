-- What reads of levels leave that are refused before the chain is read.
use Rattle.std.proofs.Common.{◌≡◌, ℕ, List, None, Some, Option, Err, refl, ap, arith}
use Rattle.std.specs.Option.{option_map}
use Rattle.buffer_layouts.specs.Views.{on_root, root_view}
use Rattle.chain_owners.specs.Counts.{Counts}
use Rattle.chain_owners.proofs.Growing.{continues-same}
use Rattle.chain_owners.proofs.Ownership.{respects-same}
use Rattle.model_buffers.specs.Layout.{TableLayout, View, find}
use Rattle.model_buffers.specs.declared.refused.EditRefused.TheVariants.{UnknownBuffer}
use Rattle.model_images.specs.TileCounts.{names_after_read}
use Rattle.pixel_formats.specs.declared.abyss.Abyss.{Abyss}
use Rattle.plane_rect.specs.Rectangle.{Rectangle}
use Rattle.root_tiles.specs.Chains.{ChainState}
use Rattle.chain_owners.specs.Cause.{HasSwapCause}
use Rattle.chain_owners.specs.declared.swap_refused.SwapRefused.{SwapRefused}
use Rattle.chain_owners.specs.declared.swap_refused.SwapRefused.TheVariants as swap_refusals
use Rattle.buffer_view.specs.BufferTables.{AreBuffersOver, BufferTable, buffers_names}
use Rattle.buffer_view.specs.Causes.{refusal_of}
use Rattle.buffer_view.specs.Reads.{GrabsBuffer, HasReadCause, box_of_root}
use Rattle.buffer_view.specs.declared.refused.BufferRefused.TheVariants.{Edit}

-- there is a buffer exactly where it shows a part of a root
pub none-found : (layout : TableLayout) (name : List ℕ) → root_view layout name ≡ None → find layout.buffers name ≡ None
none-found layout name none = by (find layout.buffers name) none
  where
    by : (o : Option View) → option_map (on_root layout) o ≡ None → o ≡ None
    by None none = refl
    by (Some view) none = absurd (cc)

pub no-view : (layout : TableLayout) (name : List ℕ) → find layout.buffers name ≡ None → root_view layout name ≡ None
no-view layout name none = ap (option_map (on_root layout)) none

-- no buffer has the name
pub unknown-grabbed : (name : List ℕ) (z : ℕ) (policy : Abyss) (r : Rectangle) (now : BufferTable) (state : ChainState) → find now.layout.buffers name ≡ None
    → AreBuffersOver now state.held → GrabsBuffer name z policy r (Err (Edit UnknownBuffer)) now now state state
unknown-grabbed name z policy r now state none over = record {
  shape = tt;
  image = tt;
  unknown = λ given. refl;
  cause = (refl, none);
  layout = refl;
  table = refl;
  over = over;
  left = record {
    others = respects-same state.held (buffers_names now);
    counts = record { continues = continues-same state.counts; names = omega arith };
    loans = refl;
    valid = λ valid. valid;
  };
}

-- a refusal of the swap is one of the read
pub read-cause : (layout : TableLayout) (name : List ℕ) (z : ℕ) (old new : Counts) (refused : SwapRefused)
    → HasSwapCause old new (names_after_read old.names (box_of_root layout name) z) refused → HasReadCause layout name z old new (refusal_of refused)
read-cause layout name z old new swap_refusals.SwapFault cause = cause
read-cause layout name z old new (swap_refusals.SwapFull needed longest) cause = cause
read-cause layout name z old new swap_refusals.NoMemory cause = tt
