-- Lines that are built, and in limits.
use Rattle.std.proofs.Common.{◌≡◌, ℕ, ◌+◌, Bool, true, false, IsTrue, cond, not, List, [], ◌∷◌, All, Option, Some, None, Result, Ok, Err, refl, sym, subst}
use Rattle.std.proofs.lemmas.List.Elements.{All-cons, All-head, All-nil, All-tail}
use Rattle.model_runs.specs.Built.{first_unbuilt, is_of_watch}
use Rattle.run_lines.specs.Commands.{IsBuiltLine}
use Rattle.script_fields.specs.declared.cause.ScriptCause.{ScriptCause}
use Rattle.script_read.specs.IsScript.{IsScript, MayContinue, MayFollow}
use Rattle.script_read.specs.Limits.{IsInLimits}
use Rattle.script_read.specs.Script.{open_after}
use Rattle.script_read.specs.declared.command.Line.{Line}

-- ---- limits

abbrev AreInLimits : List Line → Type 0
AreInLimits lines = All (λ (line : Line). IsInLimits line.command) lines

follow_limits : (number : ℕ) (watching : Option ℕ) (lines : List Line) → MayFollow number watching lines → AreInLimits lines
follow_limits number watching [] script = All-nil (λ (line : Line). IsInLimits line.command)
follow_limits number watching (line ∷ lines) script =
    All-cons (λ (line : Line). IsInLimits line.command) line lines script.2
    (of (open_after line.number watching line.command) (λ after rest. follow_limits (line.number + 1) after lines rest) script.3)
  where
    of : (r : Result (Option ℕ) ScriptCause) → ((after : Option ℕ) → MayFollow (line.number + 1) after lines → AreInLimits lines) →
        MayContinue r (λ after. MayFollow (line.number + 1) after lines) → AreInLimits lines
    of (Ok after) follow rest = follow after rest
    of (Err cause) follow rest = absurd rest

script_limits : (lines : List Line) → IsScript lines → AreInLimits lines
script_limits lines script = follow_limits 1 None lines script

-- ---- lines that are built

built_limits : (list : List Line) → first_unbuilt list ≡ None → AreInLimits list → All IsBuiltLine list
built_limits [] none limits = All-nil IsBuiltLine
built_limits (line ∷ list) none limits =
    by (is_of_watch line.command) refl none
    (λ rest. built_limits list rest (All-tail (λ (line : Line). IsInLimits line.command) line list limits))
    (All-head (λ (line : Line). IsInLimits line.command) line list limits)
  where
    by : (b : Bool) → is_of_watch line.command ≡ b → cond b (Some line.number) (first_unbuilt list) ≡ None → (first_unbuilt list ≡ None → All IsBuiltLine list) → IsInLimits line.command → All IsBuiltLine (line ∷ list)
    by true is none rest first = absurd (cc)
    by false is none rest first =
        All-cons IsBuiltLine line list (record { command = subst (λ b. IsTrue (not b)) (sym is) refl; limits = first }) (rest none)

-- the lines of a script where none is of a watch
pub are_built : (lines : List Line) → first_unbuilt lines ≡ None → IsScript lines → All IsBuiltLine lines
are_built lines none script = built_limits lines none (script_limits lines script)
