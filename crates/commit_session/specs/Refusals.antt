-- Why calls on a session are refused.
use Rattle.std.specs.Prelude.{◌≡◌}
use Rattle.buffer_view.specs.declared.refused.BufferRefused.{BufferRefused}
use Rattle.buffer_view.specs.declared.refused.BufferRefused.TheVariants as buffers
use Rattle.graph_edits.specs.declared.refused.GraphRefused.{GraphRefused}
use Rattle.graph_edits.specs.declared.refused.GraphRefused.TheVariants as graphs
use Rattle.render_workers.specs.declared.refused.RenderRefused.{RenderRefused}
use Rattle.render_workers.specs.declared.refused.RenderRefused.TheVariants as renders
use Rattle.commit_session.specs.declared.refused.SessionRefused.{SessionRefused}
use Rattle.commit_session.specs.declared.refused.SessionRefused.TheVariants.{Buffer, Graph, Render, NoMemory}

-- a refusal of a call on buffers, on the graph, or of a render, as one of a session: memory that ran out is no other's
abbrev pub by_buffers : BufferRefused → SessionRefused
by_buffers (buffers.Edit refused) = Buffer (buffers.Edit refused)
by_buffers (buffers.Swap refused) = Buffer (buffers.Swap refused)
by_buffers buffers.NoMemory = NoMemory

abbrev pub by_graph : GraphRefused → SessionRefused
by_graph (graphs.State refused) = Graph (graphs.State refused)
by_graph graphs.NoMemory = NoMemory

abbrev pub by_render : RenderRefused → SessionRefused
by_render renders.UnknownNode = Render renders.UnknownNode
by_render renders.Rect = Render renders.Rect
by_render (renders.Strip needed capacity) = Render (renders.Strip needed capacity)
by_render renders.SwapFault = Render renders.SwapFault
by_render (renders.SwapFull needed longest) = Render (renders.SwapFull needed longest)
by_render renders.NoMemory = NoMemory

-- A refusal is one of a lower call, by the cause of that.
pub record IsRefusedAs {Lower : Type 0} (as_session : Lower → SessionRefused) (cause : Lower → Type 0) (refused : SessionRefused) : Type 0 where
  pub lower : Lower
  pub is : refused ≡ as_session lower
  pub by_cause : cause lower
