use Rattle.session_states.proofs.Shared.{working-one}
use Rattle.session_states.proofs.versions.BufferVersions.share_working.Goals as goal

pub share-requires-clause-one : goal.share-requires-clause-one
share-requires-clause-one g c = working-one c.args.self.now c.working.result.now c.working.ensures
