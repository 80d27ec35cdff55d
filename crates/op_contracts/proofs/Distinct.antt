-- Tiles of which none is in a list twice.
use Rattle.std.proofs.Common.{◌≡◌, ℕ, suc, ◌+◌, ◌-◌, ◌<◌, ◌↔◌, List, [], ◌∷◌, Bool, true, false, cond, length, get_or, drop, take, Option, Some, None, option_map, refl, sym, ap, ◌∙◌, add-one, drop-cons, rules}
use Rattle.std.specs.Prelude.{IsSome, is_some}
use Rattle.std.proofs.lemmas.List.{take_rest}
use Rattle.std.specs.List.{AllByRecursion, IsDistinct}
use Rattle.std.specs.Map.{lookup}
use Rattle.plane_rect.specs.Tile.{Tile, same_tile}
use Rattle.op_contracts.specs.TileList.{tiles_in}

-- a tile isn't among tiles of which the first is another and that lack it
none-first : (tile : Tile) (entry : Tile × List ℕ) (found : Option (List ℕ)) (b : Bool) → same_tile tile entry.0 ≡ b → cond b (Some entry.1) found ≡ None
    → (same_tile tile entry.0 ≡ false) × (found ≡ None)
none-first tile entry found true e none = absurd (cc none)
none-first tile entry found false e none = (e, none)

none-lacks : (tile : Tile) (entries : List (Tile × List ℕ)) → lookup (same_tile tile) entries ≡ None
    → AllByRecursion (λ (t : Tile). same_tile tile t ≡ false) (tiles_in entries)
none-lacks tile [] none = tt
none-lacks tile (entry ∷ entries) none =
    let first = none-first tile entry (lookup (same_tile tile) entries) (same_tile tile entry.0) refl none in
    (first.0, none-lacks tile entries first.1)

pub lacks-none : (tile : Tile) (entries : List (Tile × List ℕ))
    → AllByRecursion (λ (t : Tile). same_tile tile t ≡ false) (tiles_in entries) → lookup (same_tile tile) entries ≡ None
lacks-none tile [] lacks = refl
lacks-none tile (entry ∷ entries) lacks =
    ap (λ b. cond b (Some entry.1) (lookup (same_tile tile) entries)) lacks.0 ∙ lacks-none tile entries lacks.1

-- a tile that isn't among the others is added to them
pub distinct-step : (entry : Tile × List ℕ) (entries : List (Tile × List ℕ)) → lookup (same_tile entry.0) entries ≡ None
    → IsDistinct same_tile (tiles_in (entry ∷ entries)) ↔ IsDistinct same_tile (tiles_in entries)
unfolding IsDistinct
distinct-step entry entries none = (λ all. all.1, λ rest. (none-lacks entry.0 entries none, rest))

pub distinct-none : IsDistinct same_tile (tiles_in [])
unfolding IsDistinct
distinct-none = tt

-- the first of distinct tiles isn't among the others
pub distinct-first : (entry : Tile × List ℕ) (entries : List (Tile × List ℕ)) → IsDistinct same_tile (tiles_in (entry ∷ entries))
    → lookup (same_tile entry.0) entries ≡ None
unfolding IsDistinct
distinct-first entry entries all = lacks-none entry.0 entries all.0

pub distinct-rest : (entry : Tile × List ℕ) (entries : List (Tile × List ℕ)) → IsDistinct same_tile (tiles_in (entry ∷ entries))
    → IsDistinct same_tile (tiles_in entries)
unfolding IsDistinct
distinct-rest entry entries all = all.1

-- ---- a list from one of its entries on

pub entry-first : (entries : List (Tile × List ℕ)) (n : ℕ) (entry : Tile × List ℕ) → n < length entries → entry ≡ get_or entries n entry
    → drop n entries ≡ entry ∷ drop (n + 1) entries
entry-first entries n entry below is =
    drop-cons entries n entry below ∙ ap (λ (first : Tile × List ℕ). first ∷ drop (suc n) entries) (sym is)
    ∙ ap (λ (m : ℕ). entry ∷ drop m entries) (sym (add-one n))

pub distinct-next : (entries : List (Tile × List ℕ)) (n : ℕ) (entry : Tile × List ℕ) → n < length entries → entry ≡ get_or entries n entry
    → lookup (same_tile entry.0) (drop (n + 1) entries) ≡ None
    → IsDistinct same_tile (tiles_in (drop n entries)) ↔ IsDistinct same_tile (tiles_in (drop (n + 1) entries))
distinct-next entries n entry below is none = rw (entry-first entries n entry below is) (distinct-step entry (drop (n + 1) entries) none)

pub distinct-lacks : (entries : List (Tile × List ℕ)) (n : ℕ) (entry : Tile × List ℕ) → n < length entries → entry ≡ get_or entries n entry
    → IsDistinct same_tile (tiles_in (drop n entries)) → lookup (same_tile entry.0) (drop (n + 1) entries) ≡ None
distinct-lacks entries n entry below is distinct =
    distinct-first entry (drop (n + 1) entries) (rw (entry-first entries n entry below is) at distinct)

-- what is found in the rest of a slice
pub found-in-rest : (given entries : List (Tile × List ℕ)) (n : ℕ) (tile : Tile) → given ≡ entries
    → lookup (same_tile tile) (take (length given - n) (drop n given)) ≡ lookup (same_tile tile) (drop n entries)
found-in-rest given entries n tile same = rw same (ap (lookup (same_tile tile)) (take_rest entries n))

pub is_some-map : {A B : Type 0} (f : A → B) (o : Option A) → is_some (option_map f o) ≡ is_some o
is_some-map f None = refl
is_some-map f (Some a) = refl

pub none-from : {A : Type 0} (o : Option A) → is_some o ≡ false → o ≡ None
none-from None none = refl
none-from (Some a) none = absurd (cc none)

pub some-from : {A B : Type 0} (f : A → B) (o : Option A) (p : Option B) → option_map f o ≡ p → is_some o ≡ true → IsSome p
some-from f None p is some = absurd (cc some)
some-from f (Some a) p is some = rw (← is) (search rules)
