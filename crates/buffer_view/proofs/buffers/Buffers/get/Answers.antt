use Rattle.std.proofs.Common.{◌≡◌, ◌∙◌, Some, ap, sym}
use Rattle.std.proofs.lemmas.Result.{err_from_is_err_and}
use Rattle.buffer_layouts.specs.Views.{root_view}
use Rattle.root_tiles.specs.Chains.{chain_state}
use Rattle.buffer_view.specs.BufferTables.{BufferTable}
use Rattle.buffer_view.proofs.Grabbed.{no-view, none-found, read-cause, unknown-grabbed}
use Rattle.buffer_view.proofs.RootReads.{view-inside}
use Rattle.buffer_view.proofs.buffers.Buffers.get.Given
use Rattle.buffer_view.proofs.buffers.Buffers.get.Goals.{After-level_of_view}
use Rattle.buffer_view.proofs.buffers.Buffers.get.Goals as goal

-- what the buffer shows, in the table as it was
target : (g : Given.Over) (c : After-level_of_view g) → root_view c.args.self.now.layout c.args.name ≡ Some c.in-Some.view
target g c = ap (λ (b : BufferTable). root_view b.layout c.args.name) (sym c.self.view_is) ∙ sym c.in-Some.ensures.value

pub level_of_view-requires-clause-inside : goal.level_of_view-requires-clause-inside
level_of_view-requires-clause-inside g c =
    let now = c.args.self.now in
    let target : root_view now.layout c.args.name ≡ Some c.in-Some.view =
    ap (λ (b : BufferTable). root_view b.layout c.args.name) (sym c.self.view_is) ∙ sym c.in-Some.ensures.value in
    view-inside now.layout c.requires.over.table.layout c.args.name c.in-Some.view target

pub returns-in_default : goal.returns-in_default
returns-in_default g c =
    unknown-grabbed c.args.name c.args.level c.args.abyss c.args.rect c.args.self.now (chain_state g.C.ChainMeaning c.args.chain.now)
    (none-found c.args.self.now.layout c.args.name (ap (λ (b : BufferTable). root_view b.layout c.args.name) (sym c.self.view_is) ∙ sym c.view.ensures.value ∙ c.in_default.is)) c.requires.over

pub returns-in_err-patch : goal.returns-in_err-patch
returns-in_err-patch g c =
    let is = target g (goal.at.returns-in_err-patch g c).After-level_of_view in
    let view = c.level_of_view.ensures in
    let p = err_from_is_err_and c.from_residual.result c.from_residual.ensures.1 in
    rw (p.1, p.2) (record {
      shape = tt;
      image = tt;
      unknown = λ none. (let other = no-view c.args.self.now.layout c.args.name none in absurd (cc));
      cause = read-cause c.args.self.now.layout c.args.name c.args.level (g.C.ChainMeaning.counts c.args.chain.now) (g.C.ChainMeaning.counts c.level_of_view.new.chain) c.in_err-patch.field-0.0
          (c.in_err-patch.ensures.cause c.args.name is);
      layout = view.layout;
      table = view.table;
      over = view.over;
      left = record { others = view.others; counts = view.counts c.args.name is; loans = view.loans; valid = view.valid };
    })

pub returns : goal.returns
returns g c =
    let is = target g (goal.at.returns g c).After-level_of_view in
    let view = c.level_of_view.ensures in
    record {
      shape = c.in_ok-patch.ensures.shape c.args.name is;
      image = c.in_ok-patch.ensures.image c.args.name is;
      unknown = λ none. (let other = no-view c.args.self.now.layout c.args.name none in absurd (cc));
      cause = tt;
      layout = view.layout;
      table = view.table;
      over = view.over;
      left = record { others = view.others; counts = view.counts c.args.name is; loans = view.loans; valid = view.valid };
    }
