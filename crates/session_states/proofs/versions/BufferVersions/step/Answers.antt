use Rattle.root_tiles.specs.Chains.{chain_state}
use Rattle.session_states.proofs.Stepping.{step-released, stepped}
use Rattle.session_states.proofs.versions.BufferVersions.step.Goals as goal

pub returns-clause-stepped : goal.returns-clause-stepped
returns-clause-stepped g c =
    stepped c.args.direction c.args.self.now _ c.move_latest.new.self c.self.view_is c.move_latest.ensures c.args.shared c.replace-edited.new.dest
    c.replace-edited.result c.replace-edited.ensures.after c.replace-edited.ensures.value c.requires.shared

pub returns-clause-released : goal.returns-clause-released
returns-clause-released g c =
    step-released c.args.direction c.args.self.now _ c.move_latest.new.self c.self.view_is c.move_latest.ensures c.args.shared c.replace-edited.new.dest
    c.replace-edited.result c.replace-edited.ensures.after c.replace-edited.ensures.value c.requires.shared (chain_state g.C.ChainMeaning c.args.chain.now) (chain_state g.C.ChainMeaning c.release.new.chain)
    c.requires.over c.requires.shared_over c.requires.owned
    c.release.ensures
