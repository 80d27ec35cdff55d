use Rattle.test_chain.proofs.handlers.put_in_cache.Goals as goal

pub check_page-requires : goal.check_page-requires
check_page-requires g c = rw (c.in_ok-cache.ensures.empty, c.in_ok-cache.ensures.below) c.requires
