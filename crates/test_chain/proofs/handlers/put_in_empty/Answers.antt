use Rattle.test_chain.proofs.handlers.put_in_empty.Goals as goal

pub put_three-requires : goal.put_three-requires
put_three-requires g c = rw c.new-empty.ensures c.requires
