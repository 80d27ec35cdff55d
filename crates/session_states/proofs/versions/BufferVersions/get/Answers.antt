use Rattle.std.proofs.Common.{ℕ, subst}
use Rattle.root_tiles.specs.Chains.{Leaves, chain_state}
use Rattle.buffer_view.specs.BufferTables.{BufferTable}
use Rattle.session_states.specs.OverChains.{versions_names}
use Rattle.session_states.specs.Versions.{Versions}
use Rattle.model_images.specs.TileCounts.{level_tiles}
use Rattle.buffer_view.specs.Reads.{GrabsBuffer, box_of_root}
use Rattle.session_states.proofs.Edited.{edited-left, edited-over, read-tables}
use Rattle.session_states.proofs.Returned.{four}
use Rattle.session_states.proofs.versions.BufferVersions.get.Given
use Rattle.session_states.proofs.versions.BufferVersions.get.Goals.{After-get}
use Rattle.session_states.proofs.versions.BufferVersions.get.Goals as goal

module _ (g : Given.Over) where
  module _ (c : After-get g) where
    abbrev added : BufferTable → ℕ
    added buffers = level_tiles (box_of_root buffers.layout c.args.name) c.args.level

pub returns-clause-read : goal.returns-clause-read
returns-clause-read g c =
    subst (λ (v : Versions BufferTable). GrabsBuffer c.args.name c.args.level c.args.abyss c.args.rect c.get.result v.working c.get.new.self (chain_state g.C.ChainMeaning c.args.chain.now) (chain_state g.C.ChainMeaning c.get.new.chain))
    c.self.view_is c.get.ensures

pub returns-clause-tables : goal.returns-clause-tables
returns-clause-tables g c =
    let at = (goal.at.returns-clause-tables g c).After-get in
    read-tables _ c.args.self.now c.self.view_is c.get.new.self (added g at c.self.inside.working) _ _ c.get.ensures.left c.requires.over c.get.ensures.table

pub returns-clause-over : goal.returns-clause-over
returns-clause-over g c =
    let at = (goal.at.returns-clause-over g c).After-get in
    edited-over _ c.args.self.now c.self.view_is c.get.new.self (added g at c.self.inside.working) _ _ c.get.ensures.left c.requires.over c.get.ensures.over

pub returns-clause-left : goal.returns-clause-left
returns-clause-left g c =
    let at = (goal.at.returns-clause-left g c).After-get in
    let last = four c.get.new.self c.self.inside.latest c.self.inside.undoable.items c.self.inside.redoable.items in
    subst (λ (v : Versions BufferTable). Leaves (added g at v.working) (versions_names c.args.self.now) (versions_names last) (chain_state g.C.ChainMeaning c.args.chain.now) (chain_state g.C.ChainMeaning c.get.new.chain))
    c.self.view_is (edited-left _ c.args.self.now c.self.view_is c.get.new.self (added g at c.self.inside.working) _ _ c.get.ensures.left c.requires.over)
