-- States of the definitions that are held, as a graph knows them.
use Rattle.std.proofs.Common.{◌≡◌, ℕ, zero, suc, Bool, List, [], ◌∷◌, take, sym, ap, subst, ◌∙◌, Option}
use Rattle.std.specs.Prelude.{IfSome}
use Rattle.std.specs.List.{AllByRecursion}
use Rattle.chain_owners.specs.Held.{Held}
use Rattle.model_buffers.specs.Layout.{TableLayout, facts_of}
use Rattle.model_buffers.specs.Table.{Table}
use Rattle.model_graphs.specs.declared.node.NodeFact.{NodeFact}
use Rattle.model_graphs.specs.Facts.{Facts, shapes_of_facts}
use Rattle.model_graphs.specs.Meanings.{Meanings}
use Rattle.model_states.specs.Commits.{side_of}
use Rattle.model_states.specs.Damage.{IsStated, Side}
use Rattle.model_states.specs.History.{Committed}
use Rattle.model_states.specs.Rectangles.{Rectangles}
use Rattle.model_states.specs.Retained.{Separated}
use Rattle.model_states.specs.State.{State}
use Rattle.model_states.specs.Valid.{stated}
use Rattle.model_states.proofs.Stated.{stated_only}
use Rattle.model_sessions.specs.Histories.{side_of_state}
use Rattle.model_sessions.specs.Tables.{table_facts, table_shapes}
use Rattle.model_states.specs.declared.direction.Direction.{Direction}
use Rattle.buffer_view.specs.BufferTables.{BufferTable, table_of}
use Rattle.commit_session.specs.Seen.{AreOfState, AreOfTable, AreStatesAhead}

abbrev Steps : Type 0 → Type 0
Steps Op = List (Separated (Side Op) Rectangles)

pub shapes-same : (buffers : BufferTable) (held : Held) (table : Table) → AreOfTable buffers held table → table_shapes table ≡ shapes_of_facts (facts_of buffers.layout)
shapes-same buffers held table of = ap (λ (layout : TableLayout). shapes_of_facts (facts_of layout)) of.layout

module _ {Op : Type 0} (meanings : Meanings Op) where
  -- what a graph knows of a state that is held
  pub side-same : (side : Side Op) (buffers : BufferTable) (held : Held) (state : State Table Op) → AreOfState side buffers held state → IsStated meanings side
      → side_of_state meanings state ≡ side
  side-same side buffers held state of is =
      let facts : table_facts state.table ≡ side.buffers = ap facts_of of.table.layout ∙ sym of.facts in
      let shapes = shapes_of_facts side.buffers in
      let nodes : stated meanings shapes state.nodes ≡ side.nodes =
      ap (stated meanings shapes) (sym of.nodes) ∙ sym (stated_only meanings shapes side.nodes is) in
      ap (λ (f : Facts). side_of meanings f state.nodes) facts
      ∙ ap (λ (ns : List (NodeFact Op)). let s : Side Op = record { buffers = side.buffers; nodes = ns } in s) nodes

-- ---- the retained states

module _ {Op : Type 0} (same : Op → Op → Bool) (meanings : Meanings Op) (held : Held) where
  pub ahead-take : (direction : Direction) (n : ℕ) (latest : Side Op) (steps : Steps Op) (buffers : List BufferTable) (states : List (Committed Table Op))
      → AreStatesAhead direction same meanings latest steps buffers held states → AreStatesAhead direction same meanings latest (take n steps) (take n buffers) held (take n states)
  ahead-take direction zero latest steps buffers states are = tt
  ahead-take direction (suc n) latest [] [] [] are = tt
  ahead-take direction (suc n) latest [] [] (state ∷ states) are = absurd are
  ahead-take direction (suc n) latest [] (b ∷ buffers) states are = absurd are
  ahead-take direction (suc n) latest (step ∷ steps) [] states are = absurd are
  ahead-take direction (suc n) latest (step ∷ steps) (b ∷ buffers) [] are = absurd are
  ahead-take direction (suc n) latest (step ∷ steps) (b ∷ buffers) (state ∷ states) are =
      (are.0, are.1, ahead-take direction n step.state steps buffers states are.2)

-- ---- over another chain

abbrev pub IsSame : Held → Held → BufferTable → Type 0
IsSame old new b = table_of b new ≡ table_of b old

pub table-again : (old new : Held) (buffers : BufferTable) (table : Table) → IsSame old new buffers → AreOfTable buffers old table → AreOfTable buffers new table
table-again old new buffers table same of = record {
  layout = of.layout;
  images = subst (λ (o : Option Table). IfSome o (λ (known : Table). known ≡ table)) (sym same) of.images;
}

module _ {Op : Type 0} (old new : Held) where
  pub state-again : (side : Side Op) (buffers : BufferTable) (state : State Table Op) → IsSame old new buffers → AreOfState side buffers old state → AreOfState side buffers new state
  state-again side buffers state same of = record { facts = of.facts; nodes = of.nodes; table = table-again old new buffers state.table same of.table }

  module _ (same : Op → Op → Bool) (meanings : Meanings Op) where
    pub ahead-again : (direction : Direction) (latest : Side Op) (steps : Steps Op) (buffers : List BufferTable) (states : List (Committed Table Op)) → AllByRecursion (IsSame old new) buffers
        → AreStatesAhead direction same meanings latest steps buffers old states → AreStatesAhead direction same meanings latest steps buffers new states
    ahead-again direction latest [] [] [] all are = tt
    ahead-again direction latest [] [] (state ∷ states) all are = absurd are
    ahead-again direction latest [] (b ∷ buffers) states all are = absurd are
    ahead-again direction latest (step ∷ steps) [] states all are = absurd are
    ahead-again direction latest (step ∷ steps) (b ∷ buffers) [] all are = absurd are
    ahead-again direction latest (step ∷ steps) (b ∷ buffers) (state ∷ states) all are =
        (state-again step.state b state.state all.0 are.0, are.1, ahead-again direction step.state steps buffers states all.1 are.2)
