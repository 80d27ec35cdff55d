use Rattle.tile_chain.specs.CacheCalls.{MovesTiles}
use Rattle.tile_chain.proofs.CacheCallLaws.{cannot-then, moves-both}
use Rattle.tile_chain.proofs.cache_handler.CacheHandler.evict.Given
use Rattle.tile_chain.proofs.cache_handler.CacheHandler.evict.Goals.{After-forget_below}
use Rattle.tile_chain.proofs.cache_handler.CacheHandler.evict.Goals as goal

-- the tile didn't move, and the tiles in memory gave up their places below
given_up : (g : Given.Over) (c : After-forget_below g)
    → MovesTiles g.H.ChainMeaning c.args.self.now.tiles c.forget_below.new.self.tiles c.args.self.now.below c.forget_below.new.self.below
given_up g c =
    moves-both g.H.ChainMeaning c.args.self.now.tiles c.evict_once.new.self.tiles c.forget_below.new.self.tiles
    c.args.self.now.below c.evict_once.new.self.below c.forget_below.new.self.below
    c.evict_once.ensures.moves c.forget_below.ensures.moves

pub returns-in-Err-SwapFull-clause-moves : goal.returns-in-Err-SwapFull-clause-moves
returns-in-Err-SwapFull-clause-moves g c =
    moves-both g.H.ChainMeaning c.args.self.now.tiles c.forget_below.new.self.tiles c.evict_once-in-Err-SwapFull.new.self.tiles
    c.args.self.now.below c.forget_below.new.self.below c.evict_once-in-Err-SwapFull.new.self.below
    (given_up g (goal.at.returns-in-Err-SwapFull-clause-moves g c).After-forget_below) c.evict_once-in-Err-SwapFull.ensures.moves

pub returns-in-Err-SwapFull-clause-refused : goal.returns-in-Err-SwapFull-clause-refused
returns-in-Err-SwapFull-clause-refused g c =
    cannot-then g.H.ChainMeaning c.args.self.now.tiles c.forget_below.new.self.tiles
    c.args.self.now.below c.forget_below.new.self.below c.evict_once-in-Err-SwapFull.new.self.below c.evict_once-in-Err-SwapFull.result
    (given_up g (goal.at.returns-in-Err-SwapFull-clause-refused g c).After-forget_below) c.evict_once-in-Err-SwapFull.ensures.refused
