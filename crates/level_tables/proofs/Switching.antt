-- A name that becomes the table's tile of a position.
use Rattle.std.proofs.Common.{◌≡◌, ℕ, cond, List, [], ◌∷◌, ◌++◌, Option, Some, None, sym, ap, subst, ◌∙◌, arith}
use Rattle.std.specs.Prelude.{IfSome, IsSome}
use Rattle.std.specs.Map.{keys_of, lookup}
use Rattle.std.specs.Option.{is_some}
use Rattle.indexmap.specs.IndexMap.{insert_entry}
use Rattle.plane_rect.specs.Tile.{IsWhole, Tile, same_tile}
use Rattle.pixel_formats.specs.declared.format.Format.{Format}
use Rattle.chain_owners.specs.Counts.{Counts, Grows}
use Rattle.chain_owners.specs.Held.{Held, bytes_of, disowned, length_of}
use Rattle.chain_owners.specs.Owners.{Owns, Respects, Unchanged, times}
use Rattle.chain_owners.proofs.Ownership.{disowned-respects, others-own, others-unchanged, owns-fewer, respects-beside, respects-both, respects-same, times-append, times-here}
use Rattle.model_images.specs.Tiles.{AreTileBytes}
use Rattle.pixel_formats.specs.Limits.{max_level}
use Rattle.level_tables.specs.LevelTiles.{LevelTiles, bytes_in, names, position_with, positions, tile_with}
use Rattle.level_tables.specs.Over.{IsOver, IsTileName}
use Rattle.level_tables.specs.Steps.{State, Switches, VoidsAbove, state}
use Rattle.level_tables.proofs.Entries.{keys-inserted}
use Rattle.level_tables.proofs.Frames.{bytes-beside, over-beside, put-named}
use Rattle.level_tables.proofs.Changes.{bytes-after, over-after, times-after}
use Rattle.chain_owners.proofs.Growing.{continues-both}
use Rattle.level_tables.proofs.Keeping.{kept-format, kept-put}

-- a name whose bytes are unchanged stays one of a tile
pub named-unchanged : (format : Format) (old new : Held) (name : ℕ) → is_some new.content ≡ is_some old.content → Unchanged old new name
    → IsTileName format old name → IsTileName format new name
named-unchanged format old new name exposed same is = record {
  length = same.length ∙ is.length;
  bytes = subst (λ (o : Option (List ℕ)). IfSome o (AreTileBytes format)) (sym same.bytes) is.bytes;
  known = λ shown. subst (λ (o : Option (List ℕ)). IsSome o) (sym same.bytes) (is.known (sym exposed ∙ shown));
}

-- a name that is held beside a table, whose names change
module _ (old new : Held) (before after : List ℕ) (respects : Respects old new before after) (name : ℕ) (owns : Owns old (name ∷ before)) where
  pub beside-owns : Owns new (name ∷ after)
  beside-owns =
      owns-fewer new (after ++ name ∷ []) (name ∷ after) (λ q. omega (arith, times-append after (name ∷ []) q, times-append (name ∷ []) after q))
      (others-own old new before after respects (name ∷ [])
      (owns-fewer old (name ∷ before) (before ++ name ∷ []) (λ q. omega (arith, times-append before (name ∷ []) q, times-append (name ∷ []) before q)) owns))

  pub beside-unchanged : Unchanged old new name
  beside-unchanged =
      others-unchanged old new before after respects (name ∷ [])
      (owns-fewer old (name ∷ before) (before ++ name ∷ []) (λ q. omega (arith, times-append before (name ∷ []) q, times-append (name ∷ []) before q)) owns)
      name (omega (arith, times-here [] name))

module _ (at : Tile) (name : ℕ) (old mid : State) (voided : VoidsAbove at max_level old mid)
    (owns : Owns old.held (name ∷ names old.tiles)) (named : IsTileName old.tiles.format old.held name) (whole : IsWhole at) where
  abbrev put : LevelTiles
  put = record mid.tiles { put = insert_entry same_tile mid.tiles.put at name }

  abbrev replaced : Option ℕ
  replaced = lookup (same_tile at) mid.tiles.put

  mid-owns : Owns mid.held (name ∷ names mid.tiles)
  mid-owns = beside-owns old.held mid.held (names old.tiles) (names mid.tiles) voided.kept.others name owns

  mid-unchanged : Unchanged old.held mid.held name
  mid-unchanged = beside-unchanged old.held mid.held (names old.tiles) (names mid.tiles) voided.kept.others name owns

  mid-over : IsOver put mid.held
  mid-over =
      over-after mid.tiles mid.held at name voided.kept.over whole mid-owns
      (subst (λ (f : Format). IsTileName f mid.held name) (sym (kept-format old mid voided.kept))
      (named-unchanged old.tiles.format old.held mid.held name voided.kept.others.exposed mid-unchanged named))
      (λ other q there. voided.void other q there ((voided.kept.over.shape.above other q there).known_level))

  mid-bytes : (other : Tile) → bytes_in mid.held put.put other ≡ tile_with (bytes_in old.held old.tiles.put) at (bytes_of old.held name) other
  mid-bytes other =
      bytes-after mid.tiles mid.held at name other
      ∙ ap (λ (o : Option (List ℕ)). cond (same_tile other at) o (bytes_in mid.held mid.tiles.put other)) mid-unchanged.bytes
      ∙ ap (λ (o : Option (List ℕ)). cond (same_tile other at) (bytes_of old.held name) o) (voided.kept.bytes other)

  mid-positions : positions put ≡ position_with (positions old.tiles) at
  mid-positions = keys-inserted mid.tiles.put at name ∙ ap (λ (es : List (Tile × ℕ)). position_with (keys_of es) at) (kept-put old mid voided.kept)

  -- the names of the table and this one
  first : Respects old.held mid.held (name ∷ names old.tiles) (name ∷ names mid.tiles)
  first =
      respects-beside old.held mid.held (names old.tiles) (names mid.tiles) voided.kept.others (name ∷ names old.tiles) (name ∷ names mid.tiles) (name ∷ [])
      (λ q. omega (arith, times-append (name ∷ []) (names old.tiles) q)) (λ q. omega (arith, times-append (name ∷ []) (names mid.tiles) q))

  pub put-fresh : (counts : Counts) → replaced ≡ None → Switches at name old (state put mid.held mid.counts)
  put-fresh counts none = record {
    format = kept-format old mid voided.kept;
    positions = mid-positions;
    bytes = mid-bytes;
    others = respects-both old.held mid.held (name ∷ names old.tiles) (name ∷ names mid.tiles) first mid.held (names put)
        (respects-beside mid.held mid.held [] [] (respects-same mid.held []) (name ∷ names mid.tiles) (names put) (names put)
        (λ q. omega (arith, rw none at (times-after mid.tiles mid.held at name q))) (λ q. omega arith));
    over = mid-over;
    counts = record { continues = voided.kept.counts; names = omega (arith, voided.names) };
  }

  module _ (gone : ℕ) (is : replaced ≡ Some gone) where
    times-gone : (q : ℕ) → times (name ∷ names mid.tiles) q ≡ times (gone ∷ names put) q
    times-gone q = sym (rw is at (times-after mid.tiles mid.held at name q))

    gone-owns : Owns mid.held (gone ∷ names put)
    gone-owns = owns-fewer mid.held (name ∷ names mid.tiles) (gone ∷ names put) (λ q. omega (arith, times-gone q)) mid-owns

    pub gone-there : IsSome (length_of mid.held gone)
    gone-there = ap is_some ((voided.kept.over.named gone (put-named mid.tiles at gone is)).length)

    pub put-again : (held : Held) (counts : Counts) → held ≡ disowned mid.held gone → Grows 0 mid.counts counts → Switches at name old (state put held counts)
    put-again held counts is_held grows =
        let alone : Owns mid.held (gone ∷ []) = owns-fewer mid.held (gone ∷ names put) (gone ∷ []) (λ q. omega (arith, times-append (gone ∷ []) (names put) q)) gone-owns in
        let respects : Respects mid.held held (gone ∷ []) [] = rw is_held (disowned-respects mid.held [] gone alone) in
        record {
          format = kept-format old mid voided.kept;
          positions = mid-positions;
          bytes = λ other. bytes-beside mid.held held (gone ∷ []) [] respects put gone-owns other ∙ mid-bytes other;
          others = respects-both old.held mid.held (name ∷ names old.tiles) (name ∷ names mid.tiles) first held (names put)
              (respects-beside mid.held held (gone ∷ []) [] respects (name ∷ names mid.tiles) (names put) (names put)
              (λ q. omega (arith, times-gone q, times-append (gone ∷ []) (names put) q)) (λ q. omega arith));
          over = over-beside mid.held held (gone ∷ []) [] respects put gone-owns mid-over;
          counts = record {
            continues = continues-both old.counts mid.counts counts voided.kept.counts grows.continues;
            names = omega (arith, voided.names, grows.names);
          };
        }
