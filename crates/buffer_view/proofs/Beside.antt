-- Roots that a call on the chain wasn't handed.
use Rattle.std.proofs.Common.{All, List, ℕ, ◌++◌, arith}
use Rattle.chain_owners.specs.Held.{Held}
use Rattle.chain_owners.specs.Owners.{Owns, Respects}
use Rattle.chain_owners.proofs.Ownership.{others-own, others-unchanged, owns-fewer, times-append}
use Rattle.root_tiles.specs.Roots.{IsRootOver, RootTiles}
use Rattle.buffer_view.specs.BufferLaws.{IsSameOver, images-framed, roots-framed}
use Rattle.buffer_view.specs.BufferTables.{names_of_roots}

module _ (old new : Held) (before after : List ℕ) (respects : Respects old new before after) (roots : List RootTiles)
    (owns : Owns old (before ++ names_of_roots roots)) where
  pub owned-beside : Owns new (names_of_roots roots)
  owned-beside =
      owns-fewer new (after ++ names_of_roots roots) (names_of_roots roots)
      (λ q. omega (arith, times-append after (names_of_roots roots) q)) (others-own old new before after respects (names_of_roots roots) owns)

  pub images-beside : All (IsSameOver old new) roots
  images-beside = images-framed old new respects.exposed roots (others-unchanged old new before after respects (names_of_roots roots) owns)

  pub roots-beside : All (λ (root : RootTiles). IsRootOver root old) roots → All (λ (root : RootTiles). IsRootOver root new) roots
  roots-beside = roots-framed old new respects.exposed roots (others-unchanged old new before after respects (names_of_roots roots) owns) owned-beside
