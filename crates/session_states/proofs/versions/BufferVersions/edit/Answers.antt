use Rattle.std.proofs.Common.{subst}
use Rattle.model_buffers.specs.Counts.{tiles_added}
use Rattle.root_tiles.specs.Chains.{chain_state}
use Rattle.buffer_view.specs.BufferTables.{BufferTable}
use Rattle.buffer_view.specs.Edits.{EditsBuffers}
use Rattle.session_states.specs.Versions.{Versions}
use Rattle.session_states.proofs.Edited.{IsWorkedOn, worked-on}
use Rattle.session_states.proofs.Returned.{four}
use Rattle.session_states.proofs.versions.BufferVersions.edit.Given
use Rattle.session_states.proofs.versions.BufferVersions.edit.Goals.{After-edit_buffers}
use Rattle.session_states.proofs.versions.BufferVersions.edit.Goals as goal

module _ (g : Given.Over) where
  module _ (c : After-edit_buffers g) where
    done : IsWorkedOn c.args.self.now (four c.edit_buffers.new.buffers c.self.inside.latest c.self.inside.undoable.items c.self.inside.redoable.items) (tiles_added c.args.edit.now)
        (chain_state g.C.ChainMeaning c.args.chain.now) (chain_state g.C.ChainMeaning c.edit_buffers.new.chain)
    done =
        worked-on _ c.args.self.now c.self.view_is c.edit_buffers.new.buffers (tiles_added c.args.edit.now) (chain_state g.C.ChainMeaning c.args.chain.now) (chain_state g.C.ChainMeaning c.edit_buffers.new.chain)
        c.edit_buffers.ensures.left c.requires.over c.edit_buffers.ensures.over

pub returns-clause-edited : goal.returns-clause-edited
returns-clause-edited g c =
    subst (λ (v : Versions BufferTable). EditsBuffers c.args.edit.now c.edit_buffers.result v.working c.edit_buffers.new.buffers (chain_state g.C.ChainMeaning c.args.chain.now) (chain_state g.C.ChainMeaning c.edit_buffers.new.chain))
    c.self.view_is c.edit_buffers.ensures

pub returns-clause-tables : goal.returns-clause-tables
returns-clause-tables g c = (done g (goal.at.returns-clause-tables g c).After-edit_buffers).tables

pub returns-clause-over : goal.returns-clause-over
returns-clause-over g c = (done g (goal.at.returns-clause-over g c).After-edit_buffers).over

pub returns-clause-left : goal.returns-clause-left
returns-clause-left g c = (done g (goal.at.returns-clause-left g c).After-edit_buffers).left
