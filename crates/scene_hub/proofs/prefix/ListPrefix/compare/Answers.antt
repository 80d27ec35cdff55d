use Rattle.std.proofs.Common.{◌≡◌, ◌⊎◌, ap, sym, subst}
use Rattle.scene_hub.specs.SceneLog.{Begins, list_of}
use Rattle.scene_hub.proofs.LogLists.{lists_meet}
use Rattle.scene_hub.proofs.Prefixes.{begins_prefix}
use Rattle.scene_hub.proofs.prefix.ListPrefix.compare.Goals as goal

pub returns : goal.returns
returns g c =
    let p = c.args.self.now in
    let q = c.args.other.now in
    let all = c.learn.new.self.log in
    let e : p.origin.log ≡ q.origin.log = ap (λ s. s.log) c.requires.0 in
    let one : Begins p.reached.log all = subst (λ l. Begins l all) (ap (λ s. s.log) c.again-both.ensures) (begins_prefix c.again-both.result.log all c.learn.ensures.2) in
    let other : Begins q.reached.log all = begins_prefix q.reached.log all c.learn.ensures.3 in
    let late : Begins p.origin.log q.reached.log = subst (λ l. Begins l q.reached.log) (sym e) c.requires.2.1 in
    let both = lists_meet p.origin.log p.reached.log q.reached.log all c.requires.1.1 late one other in
    subst (λ l. Begins (list_of p.origin.log p.reached.log).1 (list_of l q.reached.log).1 ⊎ Begins (list_of l q.reached.log).1 (list_of p.origin.log p.reached.log).1) e both
