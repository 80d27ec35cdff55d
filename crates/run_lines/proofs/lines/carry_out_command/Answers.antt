use Rattle.std.proofs.Common.{FitsSigned, rules, w64}
use Rattle.root_tiles.specs.Chains.{chain_state}
use Rattle.run_lines.proofs.Commands.{line_carried, session_carried}
use Rattle.run_lines.proofs.EditLines.{copy_passed}
use Rattle.run_lines.proofs.lines.carry_out_command.Goals as goal

pub returns-in-Buffer : goal.returns-in-Buffer
returns-in-Buffer g c = line_carried c.args.line.now _ _ _ _ c.in-Buffer.is (c.create.ensures c.args.line.now.number _ _ _ _ _)

pub returns-in-Sub : goal.returns-in-Sub
returns-in-Sub g c = line_carried c.args.line.now _ _ _ _ c.in-Sub.is (c.sub.ensures c.args.line.now.number _ _ _ _ _)

pub returns-in-Dup : goal.returns-in-Dup
returns-in-Dup g c = line_carried c.args.line.now _ _ _ _ c.in-Dup.is (c.duplicate.ensures c.args.line.now.number _ _ _ _ _)

pub returns-in-Load : goal.returns-in-Load
returns-in-Load g c = line_carried c.args.line.now _ _ _ _ c.in-Load.is (c.load.ensures c.args.line.now.number _ _)

pub returns-in-Fill : goal.returns-in-Fill
returns-in-Fill g c = line_carried c.args.line.now _ _ _ _ c.in-Fill.is (c.fill.ensures c.args.line.now.number _ _ _ _ _)

pub returns-in-Copy : goal.returns-in-Copy
returns-in-Copy g c =
    let copy = c.in-Copy in
    let dx : FitsSigned w64 copy.dx = search rules in
    let dy : FitsSigned w64 copy.dy = search rules in
    let passed = copy_passed copy.from copy.to copy.rect copy.dx copy.dy c.copy.result c.args.session.now c.copy.new.session (chain_state g.C.ChainMeaning c.args.chain.now) (chain_state g.C.ChainMeaning c.copy.new.chain)
    dx dy c.copy.ensures in
    line_carried c.args.line.now _ _ _ _ copy.is (passed c.args.line.now.number _ _ _ _ _)

pub returns-in-Node : goal.returns-in-Node
returns-in-Node g c = line_carried c.args.line.now _ _ _ _ c.in-Node.is (session_carried _ _ c.args.line.now.number _ _ c.requires.over c.set_node.ensures)

pub returns-in-Drop : goal.returns-in-Drop
returns-in-Drop g c = line_carried c.args.line.now _ _ _ _ c.in-Drop.is (session_carried _ _ c.args.line.now.number _ _ c.requires.over c.remove_node.ensures)

pub returns-in-Commit : goal.returns-in-Commit
returns-in-Commit g c = line_carried c.args.line.now _ _ _ _ c.in-Commit.is (c.commit.ensures c.args.line.now.number _ _ _ _ _)

pub returns-in-Undo : goal.returns-in-Undo
returns-in-Undo g c = line_carried c.args.line.now _ _ _ _ c.in-Undo.is (c.step.ensures c.args.line.now.number _ _ _ _ _)

pub returns-in-Redo : goal.returns-in-Redo
returns-in-Redo g c = line_carried c.args.line.now _ _ _ _ c.in-Redo.is (c.step-in-Redo.ensures c.args.line.now.number _ _ _ _ _)

pub returns-in-Render : goal.returns-in-Render
returns-in-Render g c = line_carried c.args.line.now _ _ _ _ c.in-Render.is c.render.ensures

pub returns-in-Grab : goal.returns-in-Grab
returns-in-Grab g c = line_carried c.args.line.now _ _ _ _ c.in-Grab.is c.grab.ensures
