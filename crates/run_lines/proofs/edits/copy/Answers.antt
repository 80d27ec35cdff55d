use Rattle.root_tiles.specs.Chains.{chain_state}
use Rattle.run_lines.proofs.EditLines.{copy_passed}
use Rattle.run_lines.proofs.edits.copy.Goals as goal

pub returns : goal.returns
returns g c =
    copy_passed c.args.from c.args.to c.args.rect c.args.dx c.args.dy c.make.result c.args.session.now c.make.new.session (chain_state g.C.ChainMeaning c.args.chain.now) (chain_state g.C.ChainMeaning c.make.new.chain)
    c.ranges.dx c.ranges.dy c.make.ensures
