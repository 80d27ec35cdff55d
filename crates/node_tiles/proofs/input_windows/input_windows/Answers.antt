use Rattle.std.proofs.Common.{◌≡◌, ℕ, ◌<◌, ◌≤◌, List, length, get_or, Some, sym, ap, subst, ◌∙◌, arith}
use Rattle.std.specs.Prelude.{slice_get}
use Rattle.std.proofs.lemmas.Option.{slice_get-get_or}
use Rattle.plane_rect.specs.Rectangle.{Rectangle}
use Rattle.model_graphs.specs.Windows.{Window}
use Rattle.node_tiles.specs.Inputs.{AreThere, IsInputWindow, required_of}
use Rattle.node_tiles.specs.Reads.{seen}
use Rattle.node_tiles.proofs.Entries.{all-there-still, window-from}
use Rattle.node_tiles.proofs.Reading.{cause-then, reads-both, reads-none}
use Rattle.node_tiles.proofs.Collected.{windows-more}
use Rattle.roi_planner.proofs.Widths.{handed-on}
use Rattle.chain_owners.specs.Cause.{HasSwapCause}
use Rattle.node_tiles.proofs.input_windows.input_windows.Goals as goal

pub loop-input-init : goal.loop-input-init
loop-input-init g c = record {
  count = ap length c.new-windows.ensures.items;
  within = omega arith;
  each = λ i window found fact there. absurd (let e = ap (λ (xs : List Window). slice_get xs i) c.new-windows.ensures.items in cc);
  over = c.requires.over;
  reads = reads-none _;
  valid = λ is. is;
}

pub bounds-nodes-position : goal.bounds-nodes-position
bounds-nodes-position g c =
    let i = c.loop-input.input in
    let items = c.positions-position-items.result.now in
    let positions = c.args.inputs.now.positions in
    let inside : i < length positions = subst (λ (xs : List ℕ). i < length xs) c.positions-position-items.ensures c.loop-input-test.true in
    let is : get_or items i 0 ≡ get_or positions i 0 = ap (λ (xs : List ℕ). get_or xs i 0) c.positions-position-items.ensures in
    omega (arith, is, c.requires.suits.among i 0 inside)

pub input_window-requires-clause-there : goal.input_window-requires-clause-there
input_window-requires-clause-there g c =
    let i = c.loop-input.input in
    let items = c.positions-position-items.result.now in
    let inputs = c.args.inputs.now in
    let nodes = c.args.nodes.now in
    let fact = c.index-nodes-position.result in
    let inside : i < length inputs.positions = subst (λ (xs : List ℕ). i < length xs) c.positions-position-items.ensures c.loop-input-test.true in
    let is : get_or items i 0 ≡ get_or inputs.positions i 0 = ap (λ (xs : List ℕ). get_or xs i 0) c.positions-position-items.ensures in
    let among : get_or inputs.positions i 0 < length nodes = c.requires.suits.among i 0 inside in
    let found : slice_get nodes (get_or inputs.positions i 0) ≡ Some fact =
    slice_get-get_or nodes (get_or inputs.positions i 0) fact among
    ∙ ap Some (ap (λ (n : ℕ). get_or nodes n fact) (sym is) ∙ sym c.index-nodes-position.is) in
    let need : c.required-need.result ≡ required_of g.K.Op.OpMeaning.meanings c.args.op.now inputs c.args.part i =
    c.required-need.ensures ∙ ap (λ (boxes : List Rectangle). g.K.Op.OpMeaning.meanings.required c.args.op.now boxes i c.args.part) c.boxes.ensures in
    all-there-still (g.S.SourceTiles.facts c.args.sources.now) (g.S.SourceTiles.facts c.loop-input.sources) c.loop-input.invariant.reads.facts
    c.args.held.now fact.spec.body (get_or items i 0) c.required-need.result
    (subst (λ (n : ℕ). AreThere (g.S.SourceTiles.facts c.args.sources.now) c.args.held.now fact.spec.body n c.required-need.result) (sym is)
    (subst (λ (r : Rectangle). AreThere (g.S.SourceTiles.facts c.args.sources.now) c.args.held.now fact.spec.body (get_or inputs.positions i 0) r) (sym need)
    (c.requires.there.each i fact inside found)))

pub returns-in_err-window-clause-reads : goal.returns-in_err-window-clause-reads
returns-in_err-window-clause-reads g c = reads-both _ _ _ c.loop-input.invariant.reads c.in_err-window.ensures.reads

pub returns-in_err-window-clause-valid : goal.returns-in_err-window-clause-valid
returns-in_err-window-clause-valid g c = λ is. c.in_err-window.ensures.valid (c.loop-input.invariant.valid is)

pub returns-in_err-push-clause-reads : goal.returns-in_err-push-clause-reads
returns-in_err-push-clause-reads g c = reads-both _ _ _ c.loop-input.invariant.reads c.in_ok-window.ensures.reads

pub returns-in_err-push-clause-valid : goal.returns-in_err-push-clause-valid
returns-in_err-push-clause-valid g c = λ is. c.in_ok-window.ensures.valid (c.loop-input.invariant.valid is)

pub loop-input-preserved : goal.loop-input-preserved
loop-input-preserved g c =
    let i = c.loop-input.input in
    let items = c.positions-position-items.result.now in
    let inputs = c.args.inputs.now in
    let nodes = c.args.nodes.now in
    let meanings = g.K.Op.OpMeaning.meanings in
    let fact = c.index-nodes-position.result in
    let facts = g.S.SourceTiles.facts c.args.sources.now in
    let images = g.S.SourceTiles.images c.args.sources.now (g.H.ChainMeaning.held c.args.chain.now) in
    let inside : i < length inputs.positions = subst (λ (xs : List ℕ). i < length xs) c.positions-position-items.ensures c.loop-input-test.true in
    let is : get_or items i 0 ≡ get_or inputs.positions i 0 = ap (λ (xs : List ℕ). get_or xs i 0) c.positions-position-items.ensures in
    let among : get_or inputs.positions i 0 < length nodes = c.requires.suits.among i 0 inside in
    let found : slice_get nodes (get_or inputs.positions i 0) ≡ Some fact =
    slice_get-get_or nodes (get_or inputs.positions i 0) fact among
    ∙ ap Some (ap (λ (n : ℕ). get_or nodes n fact) (sym is) ∙ sym c.index-nodes-position.is) in
    let need : c.required-need.result ≡ required_of meanings c.args.op.now inputs c.args.part i =
    c.required-need.ensures ∙ ap (λ (boxes : List Rectangle). meanings.required c.args.op.now boxes i c.args.part) c.boxes.ensures in
    let window : IsInputWindow facts images c.args.held.now fact (get_or items i 0) c.required-need.result c.in_ok-window.window =
    window-from facts (g.S.SourceTiles.facts c.loop-input.sources) c.loop-input.invariant.reads.facts c.args.held.now (get_or items i 0)
    fact images (g.S.SourceTiles.images c.loop-input.sources (g.H.ChainMeaning.held c.loop-input.chain)) c.required-need.result c.in_ok-window.window
    c.loop-input.invariant.reads.images c.in_ok-window.ensures.window in
    record {
      count = omega (arith, c.in_ok-push.ensures.items, c.loop-input.invariant.count, c.in_ok-push.ensures.len);
      within = omega (arith, inside);
      each = windows-more meanings facts images c.args.held.now nodes c.args.op.now inputs c.args.part c.loop-input.windows.items c.push.new.self.items c.in_ok-window.window i
          c.loop-input.invariant.count c.in_ok-push.ensures.items c.loop-input.invariant.each fact found
          (subst (λ (n : ℕ). IsInputWindow facts images c.args.held.now fact n (required_of meanings c.args.op.now inputs c.args.part i) c.in_ok-window.window) is
          (subst (λ (r : Rectangle). IsInputWindow facts images c.args.held.now fact (get_or items i 0) r c.in_ok-window.window) need window));
      over = c.in_ok-window.ensures.over;
      reads = reads-both _ _ _ c.loop-input.invariant.reads c.in_ok-window.ensures.reads;
      valid = λ is. c.in_ok-window.ensures.valid (c.loop-input.invariant.valid is);
    }

pub returns-clause-windows : goal.returns-clause-windows
returns-clause-windows g c =
    let past = subst (λ (xs : List ℕ). length xs ≤ c.loop-input.input) c.positions-position-items.ensures c.loop-input-test.false in
    record {
      count = omega (arith, past, c.loop-input.invariant.count, c.loop-input.invariant.within);
      each = c.loop-input.invariant.each;
    }

pub returns-in_err-window-clause-cause : goal.returns-in_err-window-clause-cause
returns-in_err-window-clause-cause g c =
    let start = seen (g.S.SourceTiles.facts c.args.sources.now) (g.S.SourceTiles.images c.args.sources.now (g.H.ChainMeaning.held c.args.chain.now)) (g.S.SourceTiles.names c.args.sources.now) (g.H.ChainMeaning.held c.args.chain.now) (g.H.ChainMeaning.counts c.args.chain.now) (g.H.ChainMeaning.loans c.args.chain.now) in
    let now = seen (g.S.SourceTiles.facts c.loop-input.sources) (g.S.SourceTiles.images c.loop-input.sources (g.H.ChainMeaning.held c.loop-input.chain)) (g.S.SourceTiles.names c.loop-input.sources) (g.H.ChainMeaning.held c.loop-input.chain) (g.H.ChainMeaning.counts c.loop-input.chain) (g.H.ChainMeaning.loans c.loop-input.chain) in
    let next = seen (g.S.SourceTiles.facts c.input_window.new.sources) (g.S.SourceTiles.images c.input_window.new.sources (g.H.ChainMeaning.held c.input_window.new.chain)) (g.S.SourceTiles.names c.input_window.new.sources) (g.H.ChainMeaning.held c.input_window.new.chain) (g.H.ChainMeaning.counts c.input_window.new.chain) (g.H.ChainMeaning.loans c.input_window.new.chain) in
    handed-on c.from_residual.result c.in_err-window.field-0.0
    (HasSwapCause (g.H.ChainMeaning.counts c.args.chain.now) (g.H.ChainMeaning.counts c.input_window.new.chain) (g.H.ChainMeaning.counts c.args.chain.now).names)
    c.from_residual.ensures.1
    (cause-then start now next c.in_err-window.field-0.0 c.loop-input.invariant.reads c.in_err-window.ensures.cause)
