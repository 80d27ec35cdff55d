use Rattle.model_runs.proofs.FrameNumbers.{ended}
use Rattle.model_runs.proofs.laws.frames_show_commits_of_the_watch.Goals as goal

pub returns-clause-ended : goal.returns-clause-ended
returns-clause-ended c watched numbers i are within = ended watched numbers i are within
