use Rattle.std.proofs.Common.{rules, ◌≡◌, length, sym, arith}
use Rattle.std.proofs.lemmas.List.{take_all}
use Rattle.session_states.proofs.Beside.{same-itself}
use Rattle.session_states.proofs.steps.release_past.Goals as goal

pub returns-then-len-le-MAX_UNDOABLE-clause-items : goal.returns-then-len-le-MAX_UNDOABLE-clause-items
returns-then-len-le-MAX_UNDOABLE-clause-items g c =
    let count : length c.args.states.now.items ≡ c.len.result = search rules in
    sym (take_all 64 c.args.states.now.items (omega (arith, count, c.if-len-le-MAX_UNDOABLE.true)))

pub returns-then-len-le-MAX_UNDOABLE-clause-same : goal.returns-then-len-le-MAX_UNDOABLE-clause-same
returns-then-len-le-MAX_UNDOABLE-clause-same g c =
    same-itself (g.C.ChainMeaning.held c.args.chain.now) c.args.states.now.items
