-- What a call on a graph refuses.
use Rattle.std.specs.Prelude.{◌≡◌, ⊤, Result, Err}
use Rattle.model_states.specs.declared.refused.StateRefused.{StateRefused}
use Rattle.graph_edits.specs.declared.refused.GraphRefused.{GraphRefused}
use Rattle.graph_edits.specs.declared.refused.GraphRefused.TheVariants.{State, NoMemory}

-- A refusal is the one of this result, unless memory ran out, of which the result knows nothing.
abbrev pub IsRefusalOf : {A : Type 0} → Result A StateRefused → GraphRefused → Type 0
IsRefusalOf result (State refused) = result ≡ Err refused
IsRefusalOf result NoMemory = ⊤
