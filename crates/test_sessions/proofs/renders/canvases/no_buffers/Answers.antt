use Rattle.std.proofs.Common.{sym, subst}
use Rattle.buffer_view.specs.BufferTables.{AreBuffersOver, BufferTable}
use Rattle.test_sessions.proofs.renders.canvases.no_buffers.Goals as goal

pub returns : goal.returns
returns g c =
    let held = g.C.ChainMeaning.held c.args._chain.now in
    subst (λ (buffers : BufferTable). AreBuffersOver buffers held) (sym c.new.ensures) (c.no_buffers_ask_nothing.ensures held)
