use Rattle.std.proofs.Common.{ℕ, List, [], ◌∷◌, ◌++◌, replicate, ap, ◌∙◌, append_assoc}
use Rattle.std.proofs.lemmas.List.{replicate-append-replicate}
use Rattle.script_read.proofs.printer.put_feeds.Goals as goal

pub loop-feed-preserved : goal.loop-feed-preserved
loop-feed-preserved c =
    let text = c.args.text.now.items in
    let feeds = replicate c.loop-feed._feed 10 in
    c.in_ok-push.ensures.items
    ∙ ap (λ (prefix : List ℕ). prefix ++ 10 ∷ []) c.loop-feed.invariant
    ∙ append_assoc text feeds (10 ∷ [])
    ∙ ap (λ (rest : List ℕ). text ++ rest) (replicate-append-replicate c.loop-feed._feed 1 10)
