use Rattle.std.proofs.Common.{rules, ◌≡◌, ℕ, suc, ◌-◌, ◌+◌, ◌∷◌, ◌++◌, [], Contains, true≢false, sym, subst, ap, ◌∙◌, arith}
use Rattle.std.specs.List.{IsDistinct}
use Rattle.std.specs.Map.{keys_of}
use Rattle.std.proofs.lemmas.Result.{err_from_is_err_and}
use Rattle.plane_rect.specs.Tile.{Tile}
use Rattle.model_images.specs.Level.{tile_at_level}
use Rattle.chain_owners.proofs.Causes.{cause-more}
use Rattle.level_tables.specs.LevelTiles.{LevelTiles, image_of, positions, same_level_tile}
use Rattle.level_tables.specs.Over.{IsAbove, IsTileOfLevel}
use Rattle.level_tables.specs.Steps.{HoldsMore, names_with_levels, state}
use Rattle.level_tables.specs.declared.level_tile.LevelTile.{LevelTile}
use Rattle.level_tables.proofs.Finding.{average-exact, length-average, some-above}
use Rattle.level_tables.proofs.Holding.{holds-one, room-for}
use Rattle.level_tables.proofs.table.LevelTable.hold_average.Goals as goal

pub returns-in_err-name-clause-finds : goal.returns-in_err-name-clause-finds
returns-in_err-name-clause-finds g c =
    let tiles = c.args.self.now.tiles in
    let held = g.C.ChainMeaning.held c.args.chain.now in
    let counts = g.C.ChainMeaning.counts c.args.chain.now in
    let z = c.args.level - 1 in
    let next : suc z ≡ c.args.level = omega (arith, c.requires.some_level) in
    let some = some-above (image_of tiles held) (positions tiles) tiles.format z c.args.at c.args.four.now c.requires.four c.requires.half
    (λ none. true≢false (sym (c.is_empty.ensures.1 none) ∙ c.if-is_empty.false)) in
    let P : ℕ → Type 0 = λ n. (tile : Tile) × Contains (positions tiles) tile × (tile_at_level tile n ≡ c.args.at) in
    let key : LevelTile = record { level = c.args.level; tile = c.args.at } in
    let above : IsAbove (positions tiles) key = record { some_level = c.requires.some_level; known_level = c.requires.known_level; below = subst P next some } in
    let p = err_from_is_err_and c.from_residual-in_err-name.result c.from_residual-in_err-name.ensures.1 in
    rw (p.1, p.2) (record {
      found = tt;
      more = search rules;
      cause = λ top low.
          (cause-more counts (g.C.ChainMeaning.counts c.new_name.new.self) (counts.names + 1) (names_with_levels top (state tiles held counts)) _
          (room-for tiles held c.requires.over key above c.requires.absent counts top low) c.in_err-name.ensures.cause);
    })

pub returns-clause-finds : goal.returns-clause-finds
returns-clause-finds g c =
    let tiles = c.args.self.now.tiles in
    let held = g.C.ChainMeaning.held c.args.chain.now in
    let counts = g.C.ChainMeaning.counts c.args.chain.now in
    let counts' = g.C.ChainMeaning.counts c.new_name.new.self in
    let name = c.in_ok-name.name in
    let copy = c.in_ok-copy.copy in
    let z = c.args.level - 1 in
    let next : suc z ≡ c.args.level = omega (arith, c.requires.some_level) in
    let some = some-above (image_of tiles held) (positions tiles) tiles.format z c.args.at c.args.four.now c.requires.four c.requires.half
    (λ none. true≢false (sym (c.is_empty.ensures.1 none) ∙ c.if-is_empty.false)) in
    let P : ℕ → Type 0 = λ n. (tile : Tile) × Contains (positions tiles) tile × (tile_at_level tile n ≡ c.args.at) in
    let Q : ℕ → Type 0 = λ n. IsTileOfLevel (image_of tiles held) n c.args.at copy in
    let key : LevelTile = record { level = c.args.level; tile = c.args.at } in
    let above : IsAbove (positions tiles) key = record { some_level = c.requires.some_level; known_level = c.requires.known_level; below = subst P next some } in
    let mean = c.in_ok-copy.ensures ∙ (rw c.format.ensures at c.in_ok-tile.ensures) in
    let is : c.hold.new.self.tiles ≡ record tiles { levels = tiles.levels ++ (key, name) ∷ [] } =
    c.hold.ensures.held ∙ ap (λ (t : LevelTiles). record t { levels = t.levels ++ (key, name) ∷ [] }) c.reserve_level.ensures.tiles in
    let D : LevelTiles → Type 0 = λ t. IsDistinct same_level_tile (keys_of t.levels) in
    let T : LevelTiles → Type 0 = λ t. HoldsMore c.args.level (state tiles held counts) (state t (g.C.ChainMeaning.held c.new_name.new.self) counts') in
    let F : ℕ → Type 0 = λ n. IsTileOfLevel (image_of tiles held) n c.args.at c.in_ok-tile.tile in
    let average = rw c.format.ensures at c.in_ok-tile.ensures in
    record {
      found = record {
        length = length-average tiles.format c.args.at c.args.four.now c.in_ok-tile.tile average;
        exact = subst F next (average-exact tiles held z c.args.at c.args.four.now c.requires.half c.in_ok-tile.tile average c.requires.four);
        below = subst P next some;
      };
      more = subst T (sym is)
          (rw c.in_ok-name.ensures.named
          (holds-one tiles held c.requires.over key above c.requires.absent name copy c.in_ok-name.ensures.unowned
          (length-average tiles.format c.args.at c.args.four.now copy mean) c.bytes_of.ensures.small
          (subst Q next (average-exact tiles held z c.args.at c.args.four.now c.requires.half copy mean c.requires.four))
          counts counts' (subst D is c.hold.ensures.once) c.new_name.ensures.counts));
      cause = λ top low. tt;
    }
