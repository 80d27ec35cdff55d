use Rattle.model_sessions.proofs.Actions as laws
use Rattle.model_sessions.proofs.sessions.cached_pairs_are_right.Goals as goal

pub returns-clause-right : goal.returns-clause-right
returns-clause-right g c = λ same meanings capacity actions keeps boxed distinguishes proper.
    (laws.session_keeps same meanings keeps boxed distinguishes capacity actions proper).right

pub returns-clause-distinct : goal.returns-clause-distinct
returns-clause-distinct g c = λ same meanings capacity actions keeps boxed distinguishes proper.
    (laws.session_keeps same meanings keeps boxed distinguishes capacity actions proper).distinct

pub returns-clause-few : goal.returns-clause-few
returns-clause-few g c = λ same meanings capacity actions keeps boxed distinguishes proper.
    (laws.session_keeps same meanings keeps boxed distinguishes capacity actions proper).few
