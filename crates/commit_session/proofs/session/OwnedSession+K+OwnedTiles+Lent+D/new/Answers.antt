use Rattle.commit_session.proofs.session.OwnedSession+K+OwnedTiles+Lent+D.new.Goals as goal

pub over-requires : goal.over-requires
over-requires g c = c.in_ok-state.ensures.over _

pub returns-clause-over : goal.returns-clause-over
returns-clause-over g c = rw (c.over.ensures.state, c.over.ensures.chain) (c.in_ok-state.ensures.over _)

pub returns-clause-session : goal.returns-clause-session
returns-clause-session g c = rw (c.over.ensures.state, c.over.ensures.chain) (c.in_ok-state.ensures.session _)
