use Rattle.model_sessions.proofs.Actions as laws
use Rattle.model_sessions.proofs.sessions.actions_keep_sessions.Goals as goal

pub returns : goal.returns
returns g c = λ same meanings capacity session action keeps boxed distinguishes is proper.
    laws.action_keeps same meanings keeps boxed distinguishes capacity session action is proper
