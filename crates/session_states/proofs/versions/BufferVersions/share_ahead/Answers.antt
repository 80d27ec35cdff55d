use Rattle.session_states.proofs.Shared.{ahead-one}
use Rattle.session_states.proofs.versions.BufferVersions.share_ahead.Goals as goal

pub share-requires-clause-one : goal.share-requires-clause-one
share-requires-clause-one g c = ahead-one c.args.direction c.args.self.now c.first_ahead.result.now c.first_ahead.ensures
