use Rattle.std.proofs.Common.{◌≡◌, ℕ, ◌<◌, ◌≤◌, ◌++◌, List, length, get_or, take, ap, ◌∙◌, subst}
use Rattle.std.proofs.lemmas.List.{get_or_default}
use Rattle.plane_rect.specs.Rectangle.{Rectangle}
use Rattle.roi_planner.specs.Asked.{AreAsked, asked_of_part}
use Rattle.roi_planner.proofs.AskedLaws.{part-all, part-more}
use Rattle.roi_planner.proofs.asks.ask_part.Goals as goal

pub loop-input-preserved : goal.loop-input-preserved
loop-input-preserved g c =
    let meanings = g.K.Op.OpMeaning.meanings in
    let op = c.args.op.now in
    let inputs = c.args.inputs.now in
    let items = c.positions-position-items.result.now in
    let i = c.loop-input.input in
    let position = get_or items i 0 in
    let inside : i < length inputs.positions = subst (λ (xs : List ℕ). i < length xs) c.positions-position-items.ensures c.loop-input-test.true in
    let is : position ≡ get_or inputs.positions i position =
    ap (λ (xs : List ℕ). get_or xs i 0) c.positions-position-items.ensures ∙ get_or_default inputs.positions i 0 position inside in
    let asks : c.required-required.result ≡ meanings.required op inputs.boxes i c.args.part =
    c.required-required.ensures ∙ ap (λ (boxes : List Rectangle). meanings.required op boxes i c.args.part) c.boxes.ensures in
    record {
      count = c.in_ok-ask_one.ensures.count ∙ c.loop-input.invariant.count;
      asked = λ asked are.
          subst (AreAsked c.ask_one.new.regions.items)
          (part-more meanings op inputs c.args.part asked i position c.required-required.result inside is asks)
          (c.in_ok-ask_one.ensures.asked (asked ++ take i (asked_of_part meanings op inputs c.args.part)) (c.loop-input.invariant.asked asked are));
    }

pub returns-clause-asked : goal.returns-clause-asked
returns-clause-asked g c = λ asked are.
    let inputs = c.args.inputs.now in
    let i = c.loop-input.input in
    let past : length inputs.positions ≤ i = subst (λ (xs : List ℕ). length xs ≤ i) c.positions-position-items.ensures c.loop-input-test.false in
    subst (AreAsked c.loop-input.regions.items)
    (part-all g.K.Op.OpMeaning.meanings c.args.op.now inputs c.args.part asked i past)
    (c.loop-input.invariant.asked asked are)
