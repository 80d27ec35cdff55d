use Rattle.std.proofs.Common.{◌≡◌, Err, inl, refl, ap, ◌∙◌, rules}
use Rattle.tile_chain.specs.Overlay.{overlay, overlay_has_same_names}
use Rattle.tile_chain.specs.CacheCalls.{MovesTiles}
use Rattle.tile_chain.proofs.CacheCallLaws.{cannot-since, moves-above, moves-beneath, moves-both}
use Rattle.tile_chain.proofs.Moves.{cause-above, crowded-for, known-below, on-full, read-known, reads-above, reports-above}
use Rattle.tile_chain.proofs.cache_handler.CacheHandler.fetch.Given
use Rattle.tile_chain.proofs.cache_handler.CacheHandler.fetch.Goals.{After-bring_in, After-get, After-make_room}
use Rattle.tile_chain.proofs.cache_handler.CacheHandler.fetch.Goals as goal

pub get-requires-clause-known : goal.get-requires-clause-known
get-requires-clause-known g c =
    known-below c.args.self.now.tiles.entries c.args.name c.args.len (g.H.ChainMeaning.held c.args.self.now.below) c.requires.absent c.requires.known

-- a read below moves no tile of the cache
read : (g : Given.Over) (c : After-get g) → MovesTiles g.H.ChainMeaning c.args.self.now.tiles c.args.self.now.tiles c.args.self.now.below c.get.new.self
read g c =
    moves-beneath g.H.ChainMeaning c.args.self.now.tiles c.args.self.now.below c.get.new.self
    c.get.ensures.held c.get.ensures.continues c.get.ensures.loans c.get.ensures.valid

-- and then there is room
roomy : (g : Given.Over) (c : After-make_room g)
    → MovesTiles g.H.ChainMeaning c.args.self.now.tiles c.args.self.now.tiles c.args.self.now.below c.get.new.self
    → MovesTiles g.H.ChainMeaning c.args.self.now.tiles c.make_room.new.self.tiles c.args.self.now.below c.make_room.new.self.below
roomy g c read =
    moves-both g.H.ChainMeaning c.args.self.now.tiles c.args.self.now.tiles c.make_room.new.self.tiles
    c.args.self.now.below c.get.new.self c.make_room.new.self.below read c.make_room.ensures.moves

-- and the tile is in memory too
brought : (g : Given.Over) (c : After-bring_in g)
    → MovesTiles g.H.ChainMeaning c.args.self.now.tiles c.make_room.new.self.tiles c.args.self.now.below c.make_room.new.self.below
    → MovesTiles g.H.ChainMeaning c.args.self.now.tiles c.bring_in.new.self.tiles c.args.self.now.below c.bring_in.new.self.below
brought g c roomy =
    moves-both g.H.ChainMeaning c.args.self.now.tiles c.make_room.new.self.tiles c.bring_in.new.self.tiles
    c.args.self.now.below c.make_room.new.self.below c.bring_in.new.self.below roomy
    (moves-above g.H.ChainMeaning c.make_room.new.self.tiles c.bring_in.new.self.tiles c.make_room.new.self.below c.bring_in.new.self.below
    c.bring_in.ensures.held c.bring_in.ensures.capacity c.bring_in.ensures.below)

pub returns-in_err-tile-clause-moves : goal.returns-in_err-tile-clause-moves
returns-in_err-tile-clause-moves g c = read g (goal.at.returns-in_err-tile-clause-moves g c).After-get

pub returns-in_err-tile-clause-refused : goal.returns-in_err-tile-clause-refused
returns-in_err-tile-clause-refused g c =
    let same : c.from_residual.result ≡ Err c.in_err-tile.field-0.0 = search rules in
    rw same (record {
      cause = cause-above c.args.self.now.tiles.entries (g.H.ChainMeaning.held c.args.self.now.below) (g.H.ChainMeaning.counts c.args.self.now.below)
          (g.H.ChainMeaning.counts c.get.new.self) c.in_err-tile.field-0.0 (g.H.ChainMeaning.same_counts c.args.self.now.below).names c.in_err-tile.ensures.cause;
      full = λ valid. reports-above (g.H.ChainMeaning.held c.args.self.now.below) _ _ c.in_err-tile.field-0.0 c.args.self.now.cached.shown.lengths (c.in_err-tile.ensures.full valid);
    })

pub returns-in_err-make_room-clause-resident : goal.returns-in_err-make_room-clause-resident
returns-in_err-make_room-clause-resident g c =
    let same : c.from_residual-in_err-make_room.result ≡ Err c.in_err-make_room.field-0.0 = search rules in
    rw (same, c.in_err-make_room.ensures.unmoved)
    (on-full _ c.in_err-make_room.field-0.0 (inl
    (crowded-for c.args.self.now.tiles.entries c.args.self.now.tiles.cap c.args.name c.args.len (g.H.ChainMeaning.held c.args.self.now.below)
    c.in_err-make_room.ensures.crowded c.make_room.ensures.apart c.requires.absent c.requires.known)))

pub returns-clause-read : goal.returns-clause-read
returns-clause-read g c =
    reads-above c.args.self.now.tiles.entries c.args.name c.args.len c.in_ok-tile.tile (g.H.ChainMeaning.held c.args.self.now.below)
    (overlay c.args.self.now.tiles.entries (g.H.ChainMeaning.held c.args.self.now.below)) refl c.requires.absent c.requires.known c.in_ok-tile.ensures.read

pub bring_in-requires-clause-known : goal.bring_in-requires-clause-known
bring_in-requires-clause-known g c =
    let es = c.args.self.now.tiles.entries in
    let below = g.H.ChainMeaning.held c.args.self.now.below in
    read-known (overlay es below) (overlay c.make_room.new.self.tiles.entries (g.H.ChainMeaning.held c.make_room.new.self.below)) c.args.name c.args.len
    c.in_ok-tile.tile (c.make_room.ensures.moves.held ∙ ap (overlay es) c.get.ensures.held)
    (overlay_has_same_names es below (g.H.ChainMeaning.same_names c.args.self.now.below)) c.requires.known
    (reads-above es c.args.name c.args.len c.in_ok-tile.tile below (overlay es below) refl c.requires.absent c.requires.known c.in_ok-tile.ensures.read)

pub returns-in_err-make_room-clause-moves : goal.returns-in_err-make_room-clause-moves
returns-in_err-make_room-clause-moves g c =
    let at = goal.at.returns-in_err-make_room-clause-moves g c in
    roomy g at.After-make_room (read g at.After-get)

pub returns-in_err-make_room-clause-refused : goal.returns-in_err-make_room-clause-refused
returns-in_err-make_room-clause-refused g c =
    let same : c.from_residual-in_err-make_room.result ≡ Err c.in_err-make_room.field-0.0 = search rules in
    rw same
    (cannot-since g.H.ChainMeaning c.args.self.now.tiles c.args.self.now.tiles c.args.self.now.below c.get.new.self c.make_room.new.self.below
    c.in_err-make_room.field-0.0 (read g (goal.at.returns-in_err-make_room-clause-refused g c).After-get) c.in_err-make_room.ensures.refused)

pub returns-in_err-bring_in-clause-moves : goal.returns-in_err-bring_in-clause-moves
returns-in_err-bring_in-clause-moves g c =
    let at = goal.at.returns-in_err-bring_in-clause-moves g c in
    brought g at.After-bring_in (roomy g at.After-make_room (read g at.After-get))

pub returns-clause-moves : goal.returns-clause-moves
returns-clause-moves g c =
    let at = goal.at.returns-clause-moves g c in
    brought g at.After-bring_in (roomy g at.After-make_room (read g at.After-get))
