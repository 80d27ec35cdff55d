use Rattle.std.proofs.Common.{◌∙◌, List, ap, subst}
use Rattle.root_tiles.specs.Chains.{chain_state}
use Rattle.root_tiles.specs.Roots.{RootTiles}
use Rattle.buffer_view.specs.BufferTables.{BufferTable}
use Rattle.buffer_view.specs.Shares.{Shares}
use Rattle.buffer_view.proofs.Sharing.{shares-over}
use Rattle.buffer_view.proofs.Shown.{table-content}
use Rattle.buffer_view.proofs.buffers.Buffers.snapshot.Given
use Rattle.buffer_view.proofs.buffers.Buffers.snapshot.Goals.{After-own_each}
use Rattle.buffer_view.proofs.buffers.Buffers.snapshot.Goals as goal

-- the roots of these buffers are shared
shares : (g : Given.Over) (c : After-own_each g) → Shares c.args.self.now.roots c.args.self.now.roots (chain_state g.C.ChainMeaning c.args.chain.now) (chain_state g.C.ChainMeaning c.own_each.new.chain)
shares g c =
    subst (λ (rs : List RootTiles). Shares rs rs (chain_state g.C.ChainMeaning c.args.chain.now) (chain_state g.C.ChainMeaning c.own_each.new.chain))
    (c.deref-2.ensures.value ∙ ap (λ (b : BufferTable). b.roots) c.self.view_is) c.own_each.ensures

pub returns-clause-table : goal.returns-clause-table
returns-clause-table g c = table-content c.args.self.now (g.C.ChainMeaning.held c.args.chain.now) (g.C.ChainMeaning.held c.own_each.new.chain) (shares g (goal.at.returns-clause-table g c).After-own_each).content

pub returns-clause-over : goal.returns-clause-over
returns-clause-over g c = shares-over c.args.self.now _ _ _ c.requires (shares g (goal.at.returns-clause-over g c).After-own_each)

pub returns-clause-owned : goal.returns-clause-owned
returns-clause-owned g c = (shares g (goal.at.returns-clause-owned g c).After-own_each).owned

pub returns-clause-others : goal.returns-clause-others
returns-clause-others g c = (shares g (goal.at.returns-clause-others g c).After-own_each).others
