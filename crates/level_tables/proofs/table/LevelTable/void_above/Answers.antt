use Rattle.std.proofs.Common.{◌≡◌, ◌+◌, ℕ, refl, ap, subst, ◌∙◌, arith}
use Rattle.plane_rect.specs.Tile.{Tile}
use Rattle.model_images.specs.Level.{tile_above, tile_at_level}
use Rattle.pixel_formats.specs.Limits.{max_level}
use Rattle.level_tables.specs.Steps.{VoidsAbove, VoidsOne, state}
use Rattle.level_tables.proofs.Keeping.{tile_at_level-next, voids-first, voids-next}
use Rattle.level_tables.proofs.table.LevelTable.void_above.Goals as goal

pub loop-level-init : goal.loop-level-init
loop-level-init g c = record {
  above = refl;
  voided = voids-first c.args.at (state c.args.self.now.tiles (g.C.ChainMeaning.held c.args.chain.now) (g.C.ChainMeaning.counts c.args.chain.now)) c.requires;
  room = refl;
  loans = refl;
  valid = λ is. is;
}

pub loop-level-preserved : goal.loop-level-preserved
loop-level-preserved g c =
    let n = c.loop-level.level in
    let old = state c.args.self.now.tiles (g.C.ChainMeaning.held c.args.chain.now) (g.C.ChainMeaning.counts c.args.chain.now) in
    let now = state c.loop-level.self.tiles (g.C.ChainMeaning.held c.loop-level.chain) (g.C.ChainMeaning.counts c.loop-level.chain) in
    let new = state c.void.new.self.tiles (g.C.ChainMeaning.held c.void.new.chain) (g.C.ChainMeaning.counts c.void.new.chain) in
    let here : c.tile_above-above.result ≡ tile_above (tile_at_level c.args.at n) = c.tile_above-above.ensures ∙ ap tile_above c.loop-level.invariant.above in
    let P : Tile → Type 0 = λ t. VoidsOne (record { level = n + 1; tile = t }) now new in
    record {
      above = here ∙ tile_at_level-next c.args.at n;
      voided = voids-next c.args.at n old now new c.loop-level.invariant.voided (subst P here c.void.ensures.voided);
      room = c.void.ensures.room ∙ c.loop-level.invariant.room;
      loans = c.void.ensures.loans ∙ c.loop-level.invariant.loans;
      valid = λ is. c.void.ensures.valid (c.loop-level.invariant.valid is);
    }

pub returns-clause-voided : goal.returns-clause-voided
returns-clause-voided g c =
    let all : c.loop-level.level ≡ max_level = omega arith in
    let P : ℕ → Type 0 = λ n. VoidsAbove c.args.at n
    (state c.args.self.now.tiles (g.C.ChainMeaning.held c.args.chain.now) (g.C.ChainMeaning.counts c.args.chain.now))
    (state c.loop-level.self.tiles (g.C.ChainMeaning.held c.loop-level.chain) (g.C.ChainMeaning.counts c.loop-level.chain)) in
    subst P all c.loop-level.invariant.voided
