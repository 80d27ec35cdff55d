use Rattle.std.proofs.Common.{◌≡◌, Err, rules}
use Rattle.tile_chain.specs.CacheCalls.{MovesTiles}
use Rattle.tile_chain.proofs.CacheCallLaws.{cannot-since, moves-both, moves-none}
use Rattle.tile_chain.proofs.cache_handler.CacheHandler.evict_all.Given
use Rattle.tile_chain.proofs.cache_handler.CacheHandler.evict_all.Goals.{After-evict}
use Rattle.tile_chain.proofs.cache_handler.CacheHandler.evict_all.Goals as goal

-- one tile more moved, or gave up its place below
moved : (g : Given.Over) (c : After-evict g)
    → MovesTiles g.H.ChainMeaning c.args.self.now.tiles c.evict.new.self.tiles c.args.self.now.below c.evict.new.self.below
moved g c =
    moves-both g.H.ChainMeaning c.args.self.now.tiles c.loop-self.self.tiles c.evict.new.self.tiles
    c.args.self.now.below c.loop-self.self.below c.evict.new.self.below c.loop-self.invariant c.evict.ensures.moves

pub loop-self-init : goal.loop-self-init
loop-self-init g c = moves-none g.H.ChainMeaning c.args.self.now.tiles c.args.self.now.below

pub loop-self-preserved : goal.loop-self-preserved
loop-self-preserved g c = moved g (goal.at.loop-self-preserved g c).After-evict

pub returns-in_err-evict-clause-moves : goal.returns-in_err-evict-clause-moves
returns-in_err-evict-clause-moves g c = moved g (goal.at.returns-in_err-evict-clause-moves g c).After-evict

pub returns-in_err-evict-clause-refused : goal.returns-in_err-evict-clause-refused
returns-in_err-evict-clause-refused g c =
    let same : c.from_residual.result ≡ Err c.in_err-evict.field-0.0 = search rules in
    rw same
    (cannot-since g.H.ChainMeaning c.args.self.now.tiles c.loop-self.self.tiles c.args.self.now.below c.loop-self.self.below c.evict.new.self.below
    c.in_err-evict.field-0.0 c.loop-self.invariant c.in_err-evict.ensures.refused)
