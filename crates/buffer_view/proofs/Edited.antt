-- What edits leave that are refused, or that are carried out.
use Rattle.std.proofs.Common.{◌≡◌, ℕ, ◌+◌, None, Some, Ok, Err, Result, refl, ap, sym, subst, ◌∙◌, arith}
use Rattle.std.specs.Prelude.{OnErr, OnOk}
use Rattle.std.specs.Option.{option_map}
use Rattle.std.proofs.lemmas.Result.{IfErr-weaker}
use Rattle.chain_owners.specs.Held.{Held}
use Rattle.chain_owners.specs.Owners.{Respects}
use Rattle.chain_owners.proofs.Growing.{continues-same, grows-more}
use Rattle.chain_owners.proofs.Ownership.{respects-same}
use Rattle.model_buffers.specs.BufferEdit.{edit_refused, layout_with}
use Rattle.model_buffers.specs.Counts.{tiles_added}
use Rattle.model_buffers.specs.Edits.{table_with, written}
use Rattle.model_buffers.specs.declared.edit.BufferEdit.{BufferEdit}
use Rattle.model_buffers.specs.declared.refused.EditRefused.{EditRefused}
use Rattle.model_images.specs.TileCounts.{tile_count}
use Rattle.pixel_formats.specs.Row.{Pixel}
use Rattle.pixel_formats.specs.declared.format.Format.{Format}
use Rattle.plane_rect.specs.Rectangle.{Rectangle}
use Rattle.root_tiles.specs.Chains.{ChainState, IsRead, Leaves}
use Rattle.root_tiles.proofs.ChainReads.{refused-after}
use Rattle.chain_owners.specs.Cause.{HasSwapCause}
use Rattle.chain_owners.specs.declared.swap_refused.SwapRefused.{SwapRefused}
use Rattle.chain_owners.proofs.Causes.{cause-more}
use Rattle.buffer_view.specs.BufferTables.{AreBuffersOver, BufferTable, buffers_names, table_of}
use Rattle.buffer_view.specs.Causes.{refusal_of}
use Rattle.buffer_view.specs.Edits.{AddsBuffer, EditsBuffers, WritesRoot}
use Rattle.buffer_view.specs.declared.refused.BufferRefused.TheVariants.{Edit, NoMemory}
use Rattle.buffer_view.proofs.Refusals.{exact-none, exact-some, grows-after, swap-cause}

-- ---- what is written to a root

module _ {X : Type 0} (number : ℕ) (r : Rectangle) (f : Format → ℕ → ℕ → Pixel) (old new : BufferTable) where
  -- nothing is, where a read before it was refused
  pub unwritten : (swap : SwapRefused) (before after : ChainState) → IsRead before after → HasSwapCause before.counts after.counts before.counts.names swap
      → AreBuffersOver old before.held → WritesRoot {X = X} number r f (Err swap) old old before after
  unwritten swap before after read cause over = record {
    layout = refl;
    table = λ root shape there. tt;
    same = ap (table_of old) read.held;
    over = subst (AreBuffersOver old) (sym read.held) over;
    cause = cause-more before.counts after.counts before.counts.names (before.counts.names + tile_count r) swap (omega arith) cause;
    left = record {
      others = subst (λ (h : Held). Respects before.held h (buffers_names old) (buffers_names old)) (sym read.held) (respects-same before.held (buffers_names old));
      counts = grows-more 0 (tile_count r) before.counts after.counts (omega arith) read.counts;
      loans = read.loans;
      valid = read.valid;
    };
  }

  -- it is, after a read
  pub written-later : (result : Result X SwapRefused) (first middle last : ChainState) → IsRead first middle → WritesRoot number r f result old new middle last
      → WritesRoot number r f result old new first last
  written-later result first middle last read is = record {
    layout = is.layout;
    table = λ root shape there. subst (λ (h : Held). OnOk result (table_of new last.held ≡ option_map (λ table. written table root r (f shape.format)) (table_of old h))) read.held
        (is.table root shape there);
    same = subst (λ (h : Held). OnErr result (table_of new last.held ≡ table_of old h)) read.held is.same;
    over = is.over;
    cause = IfErr-weaker result (HasSwapCause middle.counts last.counts (middle.counts.names + tile_count r)) (HasSwapCause first.counts last.counts (first.counts.names + tile_count r))
        (λ refused cause. refused-after 0 (tile_count r) (tile_count r) (middle.counts.names + tile_count r) first.counts middle.counts last.counts refused (omega arith) (omega arith) read.counts cause)
        is.cause;
    left = record {
      others = subst (λ (h : Held). Respects h last.held (buffers_names old) (buffers_names new)) read.held is.left.others;
      counts = grows-after (tile_count r) (tile_count r) first.counts middle.counts last.counts refl read.counts is.left.counts;
      loans = is.left.loans ∙ read.loans;
      valid = λ valid. is.left.valid (read.valid valid);
    };
  }

module _ {X : Type 0} (edit : BufferEdit) (old new : BufferTable) where
  -- ---- edits that write

  -- the layout refuses it
  pub write-refused : (refused : EditRefused) (state : ChainState) → new ≡ old → edit_refused old.layout edit ≡ Some refused → AreBuffersOver old state.held
      → EditsBuffers {X = X} edit (Err (Edit refused)) old new state state
  write-refused refused state same is over = record {
    layout = ap (λ (b : BufferTable). b.layout) same;
    table = ap (λ (b : BufferTable). table_of b state.held) same;
    exact = λ cause given. exact-some (edit_refused old.layout edit) refused cause is given;
    cause = is;
    carried_out = tt;
    over = subst (λ (b : BufferTable). AreBuffersOver b state.held) (sym same) over;
    left = record {
      others = subst (λ (b : BufferTable). Respects state.held state.held (buffers_names old) (buffers_names b)) (sym same) (respects-same state.held (buffers_names old));
      counts = record { continues = continues-same state.counts; names = omega arith };
      loans = refl;
      valid = λ valid. valid;
    };
  }

  -- what it writes to a root is written, or the swap refuses that
  module _ {Y : Type 0} (number : ℕ) (r : Rectangle) (f : Format → ℕ → ℕ → Pixel) (before after : ChainState) (none : edit_refused old.layout edit ≡ None)
      (tiles : tile_count r ≡ tiles_added edit) where
    pub write-failed : (swap : SwapRefused) → WritesRoot {X = Y} number r f (Err swap) old new before after → EditsBuffers {X = X} edit (Err (refusal_of swap)) old new before after
    write-failed swap is = record {
      layout = is.layout;
      table = is.same;
      exact = λ cause given. exact-none _ (edit_refused old.layout edit) cause none given;
      cause = swap-cause old.layout edit before.counts after.counts (before.counts.names + tile_count r) swap (ap (λ (n : ℕ). before.counts.names + n) tiles) is.cause;
      carried_out = tt;
      over = is.over;
      left = subst (λ (n : ℕ). Leaves n (buffers_names old) (buffers_names new) before after) tiles is.left;
    }

    pub write-done : (value : X) (unit : Y) → layout_with old.layout edit ≡ old.layout
        → table_of new after.held ≡ option_map (λ table. table_with table edit) (table_of old before.held)
        → WritesRoot number r f (Ok unit) old new before after → EditsBuffers edit (Ok value) old new before after
    write-done value unit kept shown is = record {
      layout = is.layout ∙ sym kept;
      table = shown;
      exact = λ cause given. exact-none _ (edit_refused old.layout edit) cause none given;
      cause = tt;
      carried_out = none;
      over = is.over;
      left = subst (λ (n : ℕ). Leaves n (buffers_names old) (buffers_names new) before after) tiles is.left;
    }

  -- ---- edits that add a buffer

  -- the layout refuses it
  pub add-refused : (refused : EditRefused) → new ≡ old → edit_refused old.layout edit ≡ Some refused → AddsBuffer {X = X} edit (Err (Edit refused)) old new
  add-refused refused same is = record {
    layout = ap (λ (b : BufferTable). b.layout) same;
    table = λ held. ap (λ (b : BufferTable). table_of b held) same;
    exact = λ cause given. exact-some (edit_refused old.layout edit) refused cause is given;
    cause = is;
    carried_out = tt;
    over = λ held over. subst (λ (b : BufferTable). AreBuffersOver b held) (sym same) over;
    names = ap buffers_names same;
  }

  -- there is no memory for it
  pub add-failed : new ≡ old → edit_refused old.layout edit ≡ None → AddsBuffer {X = X} edit (Err NoMemory) old new
  add-failed same none = record {
    layout = ap (λ (b : BufferTable). b.layout) same;
    table = λ held. ap (λ (b : BufferTable). table_of b held) same;
    exact = λ cause given. exact-none _ (edit_refused old.layout edit) cause none given;
    cause = tt;
    carried_out = tt;
    over = λ held over. subst (λ (b : BufferTable). AreBuffersOver b held) (sym same) over;
    names = ap buffers_names same;
  }
