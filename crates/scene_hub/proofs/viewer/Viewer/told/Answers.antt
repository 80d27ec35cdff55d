use Rattle.std.proofs.Common.{arith}
use Rattle.scene_hub.specs.HubList.{scenes}
use Rattle.scene_hub.proofs.HubSteps.{newer_prefix}
use Rattle.scene_hub.proofs.Prefixes.{begins_same, swapped}
use Rattle.scene_hub.proofs.viewer.Viewer.told.Goals as goal

pub returns-then-self-receipt-clause-told : goal.returns-then-self-receipt-clause-told
returns-then-self-receipt-clause-told g c =
    let old = c.args.self.now.told in
    let new = c.args.receipt in
    let numbered = g.S.Numbered in
    (newer_prefix numbered.number_of numbered.follows numbered.rises old.list new.list old.number new.number c.compare.ensures old.follow new.follow (omega arith), begins_same (scenes new.list))

pub returns-else-self-receipt-clause-told : goal.returns-else-self-receipt-clause-told
returns-else-self-receipt-clause-told g c =
    let old = c.args.self.now.told in
    let new = c.args.receipt in
    let numbered = g.S.Numbered in
    (begins_same (scenes old.list), newer_prefix numbered.number_of numbered.follows numbered.rises new.list old.list new.number old.number (swapped c.compare.ensures) new.follow old.follow (omega arith))
