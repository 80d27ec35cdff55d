-- Why calls on buffers are refused.
use Rattle.std.specs.Prelude.{◌≡◌, ⊤, Some}
use Rattle.chain_owners.specs.Counts.{Counts}
use Rattle.model_buffers.specs.BufferEdit.{edit_refused}
use Rattle.model_buffers.specs.Counts.{names_after_edit}
use Rattle.model_buffers.specs.Layout.{TableLayout}
use Rattle.model_buffers.specs.declared.edit.BufferEdit.{BufferEdit}
use Rattle.chain_owners.specs.Cause.{HasSwapCause}
use Rattle.chain_owners.specs.declared.swap_refused.SwapRefused.{SwapRefused}
use Rattle.chain_owners.specs.declared.swap_refused.SwapRefused.TheVariants as swap_refusals
use Rattle.buffer_view.specs.declared.refused.BufferRefused.{BufferRefused}
use Rattle.buffer_view.specs.declared.refused.BufferRefused.TheVariants as refusals

-- a refusal of the swap, as one of a call on buffers
abbrev pub refusal_of : SwapRefused → BufferRefused
refusal_of swap_refusals.SwapFault = refusals.Swap swap_refusals.SwapFault
refusal_of (swap_refusals.SwapFull needed longest) = refusals.Swap (swap_refusals.SwapFull needed longest)
refusal_of swap_refusals.NoMemory = refusals.NoMemory

-- Why an edit is refused: by the layout alone, or by the swap, where the edit may leave so many names. It may run out of
-- memory at any time.
abbrev pub HasEditCause : TableLayout → BufferEdit → Counts → Counts → BufferRefused → Type 0
HasEditCause layout edit old new (refusals.Edit refused) = edit_refused layout edit ≡ Some refused
HasEditCause layout edit old new (refusals.Swap swap_refusals.NoMemory) = ⊥
HasEditCause layout edit old new (refusals.Swap refused) = HasSwapCause old new (names_after_edit old.names edit) refused
HasEditCause layout edit old new refusals.NoMemory = ⊤

-- The same of an edit that adds a buffer and touches no swap.
abbrev pub HasAddCause : TableLayout → BufferEdit → BufferRefused → Type 0
HasAddCause layout edit (refusals.Edit refused) = edit_refused layout edit ≡ Some refused
HasAddCause layout edit (refusals.Swap refused) = ⊥
HasAddCause layout edit refusals.NoMemory = ⊤
