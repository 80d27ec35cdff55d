use Rattle.std.proofs.Common.{◌≡◌, ◌++◌, replicate}
use Rattle.script_read.proofs.printer.put_feeds.Given as goal

abbrev pub invariant-loop-feed : goal.invariant-loop-feed
invariant-loop-feed l = l.text.items ≡ l.initial.text.items ++ replicate l._feed 10
