use Rattle.std.proofs.Common.{◌≡◌, Err, ap, ◌∙◌, rules, arith}
use Rattle.chain_owners.specs.Held.{Held, with_tile}
use Rattle.tile_chain.specs.Overlay.{overlay}
use Rattle.chain_contracts.specs.Tiles.{emptied}
use Rattle.tile_chain.proofs.Moves.{on-full, one-more-name, put-cause, put-report}
use Rattle.tile_chain.proofs.cache_handler.CacheHandler.keep.Goals as goal

pub returns-in_err-make_room_for-clause-cause : goal.returns-in_err-make_room_for-clause-cause
returns-in_err-make_room_for-clause-cause g c =
    let same : c.from_residual.result ≡ Err c.in_err-make_room_for.field-0.0 = search rules in
    rw same
    (put-cause (overlay c.args.self.now.tiles.entries (g.H.ChainMeaning.held c.args.self.now.below)) c.args.name c.args.tile.now
    (emptied (g.H.ChainMeaning.counts c.args.self.now.below)) (g.H.ChainMeaning.counts c.make_room_for.new.self.below) c.in_err-make_room_for.field-0.0
    c.in_err-make_room_for.ensures.refused.cause)

pub returns-in_err-make_room_for-clause-full : goal.returns-in_err-make_room_for-clause-full
returns-in_err-make_room_for-clause-full g c = λ valid.
    let same : c.from_residual.result ≡ Err c.in_err-make_room_for.field-0.0 = search rules in
    rw same
    (put-report (overlay c.args.self.now.tiles.entries (g.H.ChainMeaning.held c.args.self.now.below)) c.args.tile.now
    (g.H.ChainMeaning.store c.make_room_for.new.self.below) c.in_err-make_room_for.field-0.0 (c.in_err-make_room_for.ensures.refused.full valid))

pub returns-in_err-make_room_for-clause-resident : goal.returns-in_err-make_room_for-clause-resident
returns-in_err-make_room_for-clause-resident g c =
    let same : c.from_residual.result ≡ Err c.in_err-make_room_for.field-0.0 = search rules in
    let more = one-more-name c.make_room_for.new.self.tiles.entries c.args.name c.args.tile.now (g.H.ChainMeaning.held c.make_room_for.new.self.below)
    c.in_err-make_room_for.ensures.apart c.in_err-make_room_for.ensures.absent in
    let more' = rw c.make_room_for.ensures.moves.held at more in
    rw same (on-full _ c.in_err-make_room_for.field-0.0 (record { full = c.in_err-make_room_for.ensures.crowded; past = omega (arith, more', c.in_err-make_room_for.ensures.crowded) }))

pub returns-clause-put : goal.returns-clause-put
returns-clause-put g c =
    c.in_ok-insert.ensures.held ∙ ap (λ (held : Held). with_tile held c.args.name c.args.tile.now) c.make_room_for.ensures.moves.held
