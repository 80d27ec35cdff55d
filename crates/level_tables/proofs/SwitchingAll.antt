-- Names that become tiles of a table, one after another.
use Rattle.std.proofs.Common.{◌≡◌, ℕ, ◌+◌, ◌<◌, ◌≤◌, List, [], ◌∷◌, ◌++◌, drop, length, slice_index_or, Option, Some, Contains, cond, inl, inr, refl, sym, ap, subst, ◌∙◌, arith}
use Rattle.std.specs.Prelude.{IsSome}
use Rattle.std.specs.Map.{keys_of, values_of}
use Rattle.std.proofs.lemmas.Bool.{cases_eq}
use Rattle.plane_rect.specs.Tile.{IsWhole, Tile, same_tile}
use Rattle.plane_rect.proofs.Lists.{Contains-cases, Contains-first, Contains-later}
use Rattle.std.proofs.lemmas.List.{drop_all, drop_more}
use Rattle.pixel_formats.specs.declared.format.Format.{Format}
use Rattle.model_images.specs.FromRaw.{AreBytes}
use Rattle.model_images.specs.Tiles.{HeldTiles, put_image}
use Rattle.chain_owners.specs.Counts.{Grows}
use Rattle.chain_owners.specs.Held.{Held, bytes_of, owners_of, with_name}
use Rattle.chain_owners.specs.Owners.{Owns, Respects, Unchanged, times}
use Rattle.chain_owners.proofs.Ownership.{others-own, others-unchanged, owns-fewer, respects-beside, respects-both, respects-same, times-append, times-elsewhere, times-here}
use Rattle.level_tables.specs.LevelTiles.{LevelTiles, bytes_in, image_of, image_with, names, positions, positions_with, tile_with, tiles_with}
use Rattle.level_tables.specs.NewTiles.{AreNewTiles, tiles_in}
use Rattle.level_tables.specs.Over.{IsOver, IsTileName, tile_length}
use Rattle.level_tables.specs.Steps.{State, Switches}
use Rattle.level_tables.proofs.Empty.{none_in}
use Rattle.level_tables.proofs.Frames.{bytes-beside, put_image-same, where_exposed}
use Rattle.level_tables.proofs.Fresh.{fresh-bytes, fresh-named, fresh-owns, fresh-respects}
use Rattle.chain_owners.proofs.Growing.{continues-both, continues-same}
use Rattle.level_tables.proofs.Switching.{named-unchanged}

-- ---- tiles put in an order

pub tiles_with-same : (held later : HeldTiles) (entries : List (Tile × Option (List ℕ))) → ((tile : Tile) → held tile ≡ later tile)
    → (tile : Tile) → tiles_with held entries tile ≡ tiles_with later entries tile
tiles_with-same held later [] same tile = same tile
tiles_with-same held later (e ∷ entries) same tile =
    tiles_with-same (tile_with held e.0 e.1) (tile_with later e.0 e.1) entries (λ other. ap (λ (o : Option (List ℕ)). cond (same_tile other e.0) e.1 o) (same other)) tile

-- the image after tiles are put depends on nothing but the bytes of the table's names
pub image_with-beside : (old new : Held) (before after : List ℕ) → Respects old new before after → (tiles : LevelTiles) (entries : List (Tile × Option (List ℕ)))
    → Owns old (before ++ names tiles) → image_with tiles new entries ≡ image_with tiles old entries
image_with-beside old new before after respects tiles entries owns =
    where_exposed new.content old.content _ _ respects.exposed
    (put_image-same tiles.format (positions_with (positions tiles) (keys_of entries)) (tiles_with (bytes_in new tiles.put) entries) (tiles_with (bytes_in old tiles.put) entries)
    (tiles_with-same (bytes_in new tiles.put) (bytes_in old tiles.put) entries (bytes-beside old new before after respects tiles owns)))

-- ---- new tiles whose names are unchanged

pub tiles_in-framed : (entries : List (Tile × ℕ)) (old new : Held) → ((name : ℕ) → 0 < times (values_of entries) name → Unchanged old new name)
    → tiles_in new entries ≡ tiles_in old entries
tiles_in-framed [] old new same = refl
tiles_in-framed (e ∷ entries) old new same =
    ap (λ (o : Option (List ℕ)). (e.0, o) ∷ tiles_in new entries) ((same e.1 (omega (arith, times-here (values_of entries) e.1))).bytes)
    ∙ ap (λ (es : List (Tile × Option (List ℕ))). (e.0, bytes_of old e.1) ∷ es)
    (tiles_in-framed entries old new (λ q some. same q (omega (arith, some, times-append (e.1 ∷ []) (values_of entries) q))))

module _ (old new : Held) (before after : List ℕ) (respects : Respects old new before after) (entries : List (Tile × ℕ))
    (owns : Owns old (before ++ values_of entries)) where
  pub tiles_in-beside : tiles_in new entries ≡ tiles_in old entries
  tiles_in-beside = tiles_in-framed entries old new (others-unchanged old new before after respects (values_of entries) owns)

  pub made-beside : (format : Format) → AreNewTiles format entries old → AreNewTiles format entries new
  made-beside format made = record {
    owned = owns-fewer new (after ++ values_of entries) (values_of entries) (λ q. omega (arith, times-append after (values_of entries) q))
        (others-own old new before after respects (values_of entries) owns);
    named = λ q some. named-unchanged format old new q respects.exposed (others-unchanged old new before after respects (values_of entries) owns q some) (made.named q some);
    whole = made.whole;
  }

pub made-none : (format : Format) (held : Held) → AreNewTiles format [] held
made-none format held = record {
  owned = record { counted = λ name. inr (omega arith) };
  named = λ name some. absurd (omega (arith, some));
  whole = λ tile there. absurd (none_in tile there);
}

-- ---- one more

times-last : (entries : List (Tile × ℕ)) (e : Tile × ℕ) (q : ℕ) → times (values_of (entries ++ e ∷ [])) q ≡ times (e.1 ∷ values_of entries) q
times-last [] e q = refl
times-last (first ∷ entries) e q = omega (arith, times-last entries e q)

tiles_in-last : (held : Held) (entries : List (Tile × ℕ)) (e : Tile × ℕ) → tiles_in held (entries ++ e ∷ []) ≡ tiles_in held entries ++ (e.0, bytes_of held e.1) ∷ []
tiles_in-last held [] e = refl
tiles_in-last held (first ∷ entries) e = ap (λ (es : List (Tile × Option (List ℕ))). (first.0, bytes_of held first.1) ∷ es) (tiles_in-last held entries e)

whole-last : (entries : List (Tile × ℕ)) (e : Tile × ℕ) → ((tile : Tile) → Contains (keys_of entries) tile → IsWhole tile) → IsWhole e.0
    → (tile : Tile) → Contains (keys_of (entries ++ e ∷ [])) tile → IsWhole tile
whole-last [] e before here tile there = elim (Contains-cases e.0 [] tile there) [
  | inl is ↦ subst IsWhole is here
  | inr later ↦ absurd (none_in tile later)
]
whole-last (first ∷ entries) e before here tile there = elim (Contains-cases first.0 (keys_of (entries ++ e ∷ [])) tile there) [
  | inl is ↦ before tile (Contains-first first.0 (keys_of entries) tile is)
  | inr later ↦ whole-last entries e (λ other among. before other (Contains-later first.0 (keys_of entries) other among)) here tile later
]

module _ (held : Held) (name : ℕ) (bytes : List ℕ) (none : owners_of held name ≡ 0) (at : Tile) (entries : List (Tile × ℕ)) where
  abbrev more : List (Tile × ℕ)
  more = entries ++ (at, name) ∷ []

  pub added-others : Respects held (with_name held name bytes) (values_of entries) (values_of more)
  added-others =
      respects-beside held (with_name held name bytes) [] (name ∷ []) (fresh-respects held name bytes none) (values_of entries) (values_of more) (values_of entries)
      (λ q. omega arith) (λ q. omega (arith, times-last entries (at, name) q, times-append (name ∷ []) (values_of entries) q))

  module _ (format : Format) (made : AreNewTiles format entries held) where
    pub added-tiles : IsSome held.content → tiles_in (with_name held name bytes) more ≡ tiles_in held entries ++ (at, Some bytes) ∷ []
    added-tiles shown =
        tiles_in-last (with_name held name bytes) entries (at, name)
        ∙ ap (λ (o : Option (List ℕ)). tiles_in (with_name held name bytes) entries ++ (at, o) ∷ []) (fresh-bytes held name bytes none shown)
        ∙ ap (λ (es : List (Tile × Option (List ℕ))). es ++ (at, Some bytes) ∷ [])
        (tiles_in-beside held (with_name held name bytes) [] (name ∷ []) (fresh-respects held name bytes none) entries made.owned)

    pub added-over : IsWhole at → length bytes ≡ tile_length format → AreBytes bytes → AreNewTiles format more (with_name held name bytes)
    added-over whole len small =
        let again : AreNewTiles format entries (with_name held name bytes) =
        made-beside held (with_name held name bytes) [] (name ∷ []) (fresh-respects held name bytes none) entries made.owned format made in
        record {
          owned = owns-fewer (with_name held name bytes) (name ∷ values_of entries) (values_of more) (λ q. omega (arith, times-last entries (at, name) q))
              (fresh-owns held name bytes none (values_of entries) made.owned);
          named = λ q some. elim (cases_eq q name) [
            | inl here ↦ subst (IsTileName format (with_name held name bytes)) (sym here) (fresh-named held name bytes none format len small)
            | inr other ↦ again.named q (omega (arith, some, times-last entries (at, name) q, times-elsewhere (values_of entries) name q other))
          ];
          whole = whole-last entries (at, name) made.whole whole;
        }

-- ---- tiles that become a table's, one after another

module _ (all items : List (Tile × ℕ)) (same : items ≡ all) (i : ℕ) where
  pub next-left : (e : Tile × ℕ) → i < length items → e ≡ slice_index_or items i e → drop i all ≡ e ∷ drop (i + 1) all
  next-left e less is = rw (← same) (drop_more items i e less ∙ ap (λ (first : Tile × ℕ). first ∷ drop (i + 1) items) (sym is))

  pub none-left : length items ≤ i → drop i all ≡ []
  none-left end = rw (← same) (drop_all i items end)

pub record Switching (all left : List (Tile × ℕ)) (old now : State) : Type 0 where
  pub format : now.tiles.format ≡ old.tiles.format
  pub positions : positions_with (positions now.tiles) (keys_of left) ≡ positions_with (positions old.tiles) (keys_of all)
  pub bytes : (tile : Tile) → tiles_with (bytes_in now.held now.tiles.put) (tiles_in now.held left) tile ≡ tiles_with (bytes_in old.held old.tiles.put) (tiles_in old.held all) tile
  pub others : Respects old.held now.held (names old.tiles ++ values_of all) (names now.tiles ++ values_of left)
  pub owned : Owns now.held (names now.tiles ++ values_of left)
  pub over : IsOver now.tiles now.held
  pub made : AreNewTiles now.tiles.format left now.held
  pub counts : Grows 0 old.counts now.counts

pub switching-first : (all : List (Tile × ℕ)) (now : State) → IsOver now.tiles now.held → AreNewTiles now.tiles.format all now.held
    → Owns now.held (names now.tiles ++ values_of all) → Switching all all now now
switching-first all now over made owns = record {
  format = refl;
  positions = refl;
  bytes = λ tile. refl;
  others = respects-same now.held (names now.tiles ++ values_of all);
  owned = owns;
  over = over;
  made = made;
  counts = record { continues = continues-same now.counts; names = omega arith };
}

module _ (all left rest : List (Tile × ℕ)) (e : Tile × ℕ) (old now : State) (is : left ≡ e ∷ rest) (before : Switching all left old now) where
  owns-all : Owns now.held (names now.tiles ++ values_of (e ∷ rest))
  owns-all = let P : List (Tile × ℕ) → Type 0 = λ es. Owns now.held (names now.tiles ++ values_of es) in subst P is before.owned

  made-all : AreNewTiles now.tiles.format (e ∷ rest) now.held
  made-all = let P : List (Tile × ℕ) → Type 0 = λ es. AreNewTiles now.tiles.format es now.held in subst P is before.made

  pub next-owned : Owns now.held (e.1 ∷ names now.tiles)
  next-owned =
      owns-fewer now.held (names now.tiles ++ values_of (e ∷ rest)) (e.1 ∷ names now.tiles)
      (λ q. omega (arith, times-append (names now.tiles) (values_of (e ∷ rest)) q, times-append (e.1 ∷ []) (names now.tiles) q, times-append (e.1 ∷ []) (values_of rest) q)) owns-all

  pub next-named : IsTileName now.tiles.format now.held e.1
  next-named = made-all.named e.1 (omega (arith, times-here (values_of rest) e.1))

  pub next-whole : IsWhole e.0
  next-whole = made-all.whole e.0 (Contains-first e.0 (keys_of rest) e.0 refl)

  rest-owned : Owns now.held ((e.1 ∷ names now.tiles) ++ values_of rest)
  rest-owned =
      owns-fewer now.held (names now.tiles ++ values_of (e ∷ rest)) ((e.1 ∷ names now.tiles) ++ values_of rest)
      (λ q. omega (
        arith,
        times-append (names now.tiles) (values_of (e ∷ rest)) q,
        times-append (e.1 ∷ names now.tiles) (values_of rest) q,
        times-append (e.1 ∷ []) (names now.tiles) q,
        times-append (e.1 ∷ []) (values_of rest) q,
      )) owns-all

  rest-made : AreNewTiles now.tiles.format rest now.held
  rest-made = record {
    owned = owns-fewer now.held (values_of (e ∷ rest)) (values_of rest) (λ q. omega (arith, times-append (e.1 ∷ []) (values_of rest) q)) made-all.owned;
    named = λ q some. made-all.named q (omega (arith, some, times-append (e.1 ∷ []) (values_of rest) q));
    whole = λ tile there. made-all.whole tile (Contains-later e.0 (keys_of rest) tile there);
  }

  module _ (new : State) (step : Switches e.0 e.1 now new) where
    next-bytes : (tile : Tile) → tiles_with (bytes_in new.held new.tiles.put) (tiles_in new.held rest) tile ≡ tiles_with (bytes_in now.held now.tiles.put) (tiles_in now.held (e ∷ rest)) tile
    next-bytes tile =
        ap (λ (es : List (Tile × Option (List ℕ))). tiles_with (bytes_in new.held new.tiles.put) es tile)
        (tiles_in-beside now.held new.held (e.1 ∷ names now.tiles) (names new.tiles) step.others rest rest-owned)
        ∙ tiles_with-same (bytes_in new.held new.tiles.put) (tile_with (bytes_in now.held now.tiles.put) e.0 (bytes_of now.held e.1)) (tiles_in now.held rest) step.bytes tile

    next-others : Respects now.held new.held (names now.tiles ++ values_of (e ∷ rest)) (names new.tiles ++ values_of rest)
    next-others =
        respects-beside now.held new.held (e.1 ∷ names now.tiles) (names new.tiles) step.others (names now.tiles ++ values_of (e ∷ rest)) (names new.tiles ++ values_of rest) (values_of rest)
        (λ q. omega (arith, times-append (names now.tiles) (values_of (e ∷ rest)) q, times-append (e.1 ∷ []) (names now.tiles) q, times-append (e.1 ∷ []) (values_of rest) q))
        (λ q. omega (arith, times-append (names new.tiles) (values_of rest) q))

    pub switching-next : Switching all rest old new
    switching-next = record {
      format = step.format ∙ before.format;
      positions = ap (λ (ps : List Tile). positions_with ps (keys_of rest)) step.positions
          ∙ ap (λ (es : List (Tile × ℕ)). positions_with (positions now.tiles) (keys_of es)) (sym is) ∙ before.positions;
      bytes = λ tile. next-bytes tile
          ∙ ap (λ (es : List (Tile × ℕ)). tiles_with (bytes_in now.held now.tiles.put) (tiles_in now.held es) tile) (sym is) ∙ before.bytes tile;
      others = respects-both old.held now.held (names old.tiles ++ values_of all) (names now.tiles ++ values_of left) before.others new.held (names new.tiles ++ values_of rest)
          (let P : List (Tile × ℕ) → Type 0 = λ es. Respects now.held new.held (names now.tiles ++ values_of es) (names new.tiles ++ values_of rest) in subst P (sym is) next-others);
      owned = others-own now.held new.held (e.1 ∷ names now.tiles) (names new.tiles) step.others (values_of rest) rest-owned;
      over = step.over;
      made = subst (λ (f : Format). AreNewTiles f rest new.held) (sym step.format)
          (made-beside now.held new.held (e.1 ∷ names now.tiles) (names new.tiles) step.others rest rest-owned now.tiles.format rest-made);
      counts = record {
        continues = continues-both old.counts now.counts new.counts before.counts.continues step.counts.continues;
        names = omega (arith, before.counts.names, step.counts.names);
      };
    }

-- all of them are the table's
module _ (all left : List (Tile × ℕ)) (old now : State) (is : left ≡ []) (done : Switching all left old now) where
  pub switched-positions : positions now.tiles ≡ positions_with (positions old.tiles) (keys_of all)
  switched-positions = ap (λ (es : List (Tile × ℕ)). positions_with (positions now.tiles) (keys_of es)) (sym is) ∙ done.positions

  pub switched-bytes : (tile : Tile) → bytes_in now.held now.tiles.put tile ≡ tiles_with (bytes_in old.held old.tiles.put) (tiles_in old.held all) tile
  switched-bytes tile = ap (λ (es : List (Tile × ℕ)). tiles_with (bytes_in now.held now.tiles.put) (tiles_in now.held es) tile) (sym is) ∙ done.bytes tile

  keys-shown : (entries : List (Tile × ℕ)) → keys_of (tiles_in old.held entries) ≡ keys_of entries
  keys-shown [] = refl
  keys-shown (e ∷ entries) = ap (λ (ks : List Tile). e.0 ∷ ks) (keys-shown entries)

  pub switched-all : image_of now.tiles now.held ≡ image_with old.tiles old.held (tiles_in old.held all)
  switched-all =
      where_exposed now.held.content old.held.content _ _ done.others.exposed
      (ap (λ (f : Format). put_image f (positions now.tiles) (bytes_in now.held now.tiles.put)) done.format
      ∙ ap (λ (ps : List Tile). put_image old.tiles.format ps (bytes_in now.held now.tiles.put))
      (switched-positions ∙ ap (λ (ks : List Tile). positions_with (positions old.tiles) ks) (sym (keys-shown all)))
      ∙ put_image-same old.tiles.format (positions_with (positions old.tiles) (keys_of (tiles_in old.held all))) (bytes_in now.held now.tiles.put)
      (tiles_with (bytes_in old.held old.tiles.put) (tiles_in old.held all)) switched-bytes)

  pub switched-others : Respects old.held now.held (names old.tiles ++ values_of all) (names now.tiles)
  switched-others =
      respects-both old.held now.held (names old.tiles ++ values_of all) (names now.tiles ++ values_of left) done.others now.held (names now.tiles)
      (respects-beside now.held now.held [] [] (respects-same now.held []) (names now.tiles ++ values_of left) (names now.tiles) (names now.tiles)
      (λ q. omega (arith, times-append (names now.tiles) (values_of left) q, ap (λ (es : List (Tile × ℕ)). times (values_of es) q) is)) (λ q. omega arith))
