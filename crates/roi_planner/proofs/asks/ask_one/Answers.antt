use Rattle.std.proofs.Common.{◌≡◌, ◌∙◌, [], ◌∷◌, ◌++◌, List, get_or, subst}
use Rattle.std.proofs.lemmas.List.{get_or_default}
use Rattle.std.proofs.lemmas.Result.{on_ok_weaker}
use Rattle.plane_rect.specs.Rectangle.{Rectangle}
use Rattle.roi_planner.specs.Asked.{MeetSameTiles}
use Rattle.roi_planner.proofs.AskedLaws.{asked-one}
use Rattle.roi_planner.proofs.asks.ask_one.Goals as goal

pub returns-clause-asked : goal.returns-clause-asked
returns-clause-asked c = λ asked are.
    let regions = c.args.regions.now.items in
    let node = c.args.position in
    let before : c.index_mut-region.result.now ≡ get_or regions node [] =
    c.index_mut-region.ensures.value ∙ get_or_default regions node c.index_mut-region.result.now [] c.requires in
    on_ok_weaker c.add.result
    (λ added. asked-one regions c.add.new.self asked node c.args.rect are c.requires
    (subst (λ (old : List Rectangle). MeetSameTiles c.add.new.self (old ++ c.args.rect ∷ [])) before added))
    c.add.ensures
