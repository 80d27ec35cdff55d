-- Tables of gray tiles, and calls beside them.
use Rattle.std.proofs.Common.{◌≡◌, ℕ, ◌+◌, List, [], ◌∷◌, ◌++◌, length, Result, Ok, Err, sym, ap, subst, ◌∙◌, arith}
use Rattle.std.specs.Result.{OnOk}
use Rattle.std.specs.Map.{values_of}
use Rattle.plane_rect.specs.Tile.{Tile}
use Rattle.pixel_formats.specs.declared.format.Format.{Format}
use Rattle.pixel_formats.specs.declared.format.Format.TheVariants as formats
use Rattle.chain_owners.specs.Held.{Held}
use Rattle.chain_owners.specs.Owners.{Owns, Respects}
use Rattle.chain_owners.proofs.Ownership.{others-own, owns-fewer, times-append}
use Rattle.level_tables.specs.LevelTiles.{LevelTiles, names}
use Rattle.level_tables.specs.NewTiles.{Adds, AreNewTiles}
use Rattle.level_tables.proofs.Frames.{over-beside}
use Rattle.level_tables.proofs.SwitchingAll.{made-none}
use Rattle.test_chain.specs.Tables.{AreTwo, HasBeside, IsGray}

-- names may be taken in any order
turned : (held : Held) (a b : List ℕ) → Owns held (a ++ b) → Owns held (b ++ a)
turned held a b owns = owns-fewer held (a ++ b) (b ++ a) (λ q. omega (arith, times-append a b q, times-append b a q)) owns

gray-beside : (held held' : Held) (before after : List ℕ) → Respects held held' before after → (tiles : LevelTiles) → Owns held (before ++ names tiles) → IsGray tiles held → IsGray tiles held'
gray-beside held held' before after respects tiles owns gray = record {
  format = gray.format;
  over = over-beside held held' before after respects tiles owns gray.over;
}

pub two-first : (one one' other : LevelTiles) (held held' : Held) → Respects held held' (names one) (names one') → AreTwo one other held → IsGray one' held' → AreTwo one' other held'
two-first one one' other held held' respects two gray = record {
  first = gray;
  second = gray-beside held held' (names one) (names one') respects other two.owned two.second;
  owned = others-own held held' (names one) (names one') respects (names other) two.owned;
}

pub two-second : (one other other' : LevelTiles) (held held' : Held) → Respects held held' (names other) (names other') → AreTwo one other held → IsGray other' held' → AreTwo one other' held'
two-second one other other' held held' respects two gray =
    let owns : Owns held (names other ++ names one) = turned held (names one) (names other) two.owned in
    record {
      first = gray-beside held held' (names other) (names other') respects one owns two.first;
      second = gray;
      owned = turned held' (names other') (names one) (others-own held held' (names other) (names other') respects (names one) owns);
    }

pub left-gray : (one other : LevelTiles) (held held' : Held) → Respects held held' (names one) [] → AreTwo one other held → IsGray other held'
left-gray one other held held' respects two = gray-beside held held' (names one) [] respects other two.owned two.second

pub beside-after : (tiles : LevelTiles) (format : Format) (entries entries' : List (Tile × ℕ)) (held held' : Held) → Respects held held' (values_of entries) (values_of entries')
    → HasBeside tiles format entries held → AreNewTiles format entries' held' → HasBeside tiles format entries' held'
beside-after tiles format entries entries' held held' respects beside made =
    let owns : Owns held (values_of entries ++ names tiles) = turned held (names tiles) (values_of entries) beside.owned in
    record {
      table = gray-beside held held' (values_of entries) (values_of entries') respects tiles owns beside.table;
      gray = beside.gray;
      made = made;
      owned = turned held' (values_of entries') (names tiles) (others-own held held' (values_of entries) (values_of entries') respects (names tiles) owns);
    }

pub beside-gone : (tiles : LevelTiles) (format : Format) (entries : List (Tile × ℕ)) (held held' : Held) → Respects held held' (values_of entries) []
    → HasBeside tiles format entries held → IsGray tiles held'
beside-gone tiles format entries held held' respects beside =
    gray-beside held held' (values_of entries) [] respects tiles (turned held (names tiles) (values_of entries) beside.owned) beside.table

pub beside-none : (tiles : LevelTiles) (format : Format) (held : Held) → format ≡ formats.Y8 → IsGray tiles held → HasBeside tiles format [] held
beside-none tiles format held gray table = record {
  table = table;
  gray = gray;
  made = made-none format held;
  owned = owns-fewer held (names tiles) (names tiles ++ []) (λ q. omega (arith, times-append (names tiles) [] q)) table.over.owned;
}

pub made-gray : (tiles : LevelTiles) (format : Format) (entries : List (Tile × ℕ)) (held : Held) → HasBeside tiles format entries held → AreNewTiles tiles.format entries held
made-gray tiles format entries held beside =
    let P : Format → Type 0 = λ f. AreNewTiles f entries held in
    subst P (beside.gray ∙ sym beside.table.format) beside.made

length-last : (entries : List (Tile × ℕ)) (e : Tile × ℕ) → length (entries ++ e ∷ []) ≡ length entries + 1
length-last [] e = omega arith
length-last (first ∷ entries) e = omega (arith, length-last entries e)

pub one-more : {X E : Type 0} (r : Result X E) (at : Tile) (bytes : List ℕ) (old new : List (Tile × ℕ)) (held held' : Held)
    → OnOk r (Adds at bytes old new held held') → OnOk r (length new ≡ length old + 1)
one-more (Ok x) at bytes old new held held' is = ap (λ (es : List (Tile × ℕ)). length es) is.entries ∙ length-last old (at, is.name)
one-more (Err e) at bytes old new held held' is = tt
