use Rattle.root_tiles.specs.Chains.{chain_state}
use Rattle.session_states.proofs.Shared.{asked, shared-as}
use Rattle.session_states.proofs.versions.BufferVersions.share.Goals as goal

pub snapshot-requires : goal.snapshot-requires
snapshot-requires g c = asked c.args.self.now c.args.buffers.now c.requires.one (chain_state g.C.ChainMeaning c.args.chain.now) c.requires.over

pub returns-clause-kept : goal.returns-clause-kept
returns-clause-kept g c =
    shared-as c.args.self.now c.args.buffers.now c.requires.one (chain_state g.C.ChainMeaning c.args.chain.now) c.requires.over (chain_state g.C.ChainMeaning c.snapshot.new.chain) c.snapshot.ensures.over
    c.snapshot.ensures.table c.snapshot.result c.snapshot.ensures.counts c.snapshot.ensures.loans c.snapshot.ensures.valid c.snapshot.ensures.others
    c.snapshot.ensures.buffers
