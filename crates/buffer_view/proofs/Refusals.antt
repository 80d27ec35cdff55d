-- Refusals of edits, exactly where they come.
use Rattle.std.proofs.Common.{◌≡◌, ℕ, Option, Some, None, Result, Ok, Err, refl, subst, arith}
use Rattle.std.specs.Prelude.{OnErr}
use Rattle.chain_owners.specs.Counts.{Counts, Grows}
use Rattle.chain_owners.proofs.Growing.{continues-both}
use Rattle.model_buffers.specs.Counts.{names_after_edit}
use Rattle.model_buffers.specs.Layout.{TableLayout}
use Rattle.model_buffers.specs.declared.edit.BufferEdit.{BufferEdit}
use Rattle.chain_owners.specs.Cause.{HasSwapCause}
use Rattle.chain_owners.specs.declared.swap_refused.SwapRefused.{SwapRefused}
use Rattle.chain_owners.specs.declared.swap_refused.SwapRefused.TheVariants as swap_refusals
use Rattle.buffer_view.specs.Causes.{HasAddCause, HasEditCause, refusal_of}
use Rattle.buffer_view.specs.declared.refused.BufferRefused.TheVariants as refusals
use Rattle.model_buffers.specs.declared.refused.EditRefused.{EditRefused}
use Rattle.buffer_view.specs.declared.refused.BufferRefused.{BufferRefused}
use Rattle.buffer_view.specs.declared.refused.BufferRefused.TheVariants.{Edit}

-- two refusals are one
abbrev pub IsExactly : Type 0 → EditRefused → EditRefused → Type 0
IsExactly X refused cause = let first : Result X BufferRefused = Err (Edit refused) in let second : Result X BufferRefused = Err (Edit cause) in first ≡ second

pub exact-some : {X : Type 0} (o : Option EditRefused) (refused cause : EditRefused) → o ≡ Some refused → o ≡ Some cause
    → IsExactly X refused cause
exact-some {X} o refused cause is given = let same : refused ≡ cause = cc in subst (λ (r : EditRefused). IsExactly X refused r) same refl

pub exact-none : (P : Type 0) (o : Option EditRefused) (cause : EditRefused) → o ≡ None → o ≡ Some cause → P
exact-none P o cause is given = absurd (cc)

-- a refusal of the swap is one of the edit
pub swap-cause : (layout : TableLayout) (edit : BufferEdit) (old new : Counts) (names : ℕ) (refused : SwapRefused) → names ≡ names_after_edit old.names edit
    → HasSwapCause old new names refused → HasEditCause layout edit old new (refusal_of refused)
swap-cause layout edit old new names swap_refusals.SwapFault same cause = cause
swap-cause layout edit old new names (swap_refusals.SwapFull needed longest) same cause =
    subst (λ (n : ℕ). HasSwapCause old new n (swap_refusals.SwapFull needed longest)) same cause
swap-cause layout edit old new names swap_refusals.NoMemory same cause = tt

-- two facts of an error make a third
pub on_err_both : {X E : Type 0} {P Q R : Type 0} (result : Result X E) → (P → Q → R) → OnErr result P → OnErr result Q → OnErr result R
on_err_both (Ok x) then p q = tt
on_err_both (Err e) then p q = then p q

-- what a read and then a write add
pub grows-after : (most added : ℕ) (first second last : Counts) → most ≡ added → Grows 0 first second → Grows added second last → Grows most first last
grows-after most added first second last same a b = record {
  continues = continues-both first second last a.continues b.continues;
  names = omega (arith, a.names, b.names, same);
}

-- a refusal to add a buffer is one of the edit
pub added-cause : (layout : TableLayout) (edit : BufferEdit) (old new : Counts) (refused : BufferRefused) → HasAddCause layout edit refused
    → HasEditCause layout edit old new refused
added-cause layout edit old new (refusals.Edit cause) is = is
added-cause layout edit old new (refusals.Swap cause) is = absurd is
added-cause layout edit old new refusals.NoMemory is = tt
