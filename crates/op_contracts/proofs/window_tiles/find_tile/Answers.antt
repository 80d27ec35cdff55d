use Rattle.std.proofs.Common.{◌≡◌, ℕ, List, [], ◌∷◌, Bool, true, false, cond, find, Option, Some, None, option_map, refl, ap, ◌∙◌, rules, tests}
use Rattle.std.specs.Map.{lookup}
use Rattle.std.proofs.lemmas.Iterator.{YieldsList-from_slice}
use Rattle.std.proofs.lemmas.Iterator.Search.{find_from_yields_List}
use Rattle.plane_rect.specs.Tile.{Tile, same_tile}
use Rattle.op_contracts.proofs.window_tiles.find_tile.Goals as goal

-- the bytes of the first entry of a tile
chosen : (b : Bool) (entry : Tile × List ℕ) (rest : Option (Tile × List ℕ)) (found : Option (List ℕ))
    → option_map (λ (e : Tile × List ℕ). e.1) rest ≡ found
    → option_map (λ (e : Tile × List ℕ). e.1) (cond b (Some entry) rest) ≡ cond b (Some entry.1) found
chosen true entry rest found is = refl
chosen false entry rest found is = is

find-is : (tile : Tile) (entries : List (Tile × List ℕ))
    → option_map (λ (e : Tile × List ℕ). e.1) (find (λ (e : Tile × List ℕ). same_tile tile e.0) entries) ≡ lookup (same_tile tile) entries
find-is tile [] = refl
find-is tile (entry ∷ entries) = chosen (same_tile tile entry.0) entry _ _ (find-is tile entries)

pub returns-in_err-entry : goal.returns-in_err-entry
returns-in_err-entry c =
    let found = find_from_yields_List (λ (e : Tile × List ℕ). same_tile c.args.at e.0) _ _ c.find.result c.find.ensures.ran (YieldsList-from_slice c.args.entries.now cc) (λ x b q k. search (rules, tests)) in
    let none : None ≡ find (λ (e : Tile × List ℕ). same_tile c.args.at e.0) c.args.entries.now = rw c.in_err-entry.was at found in
    rw c.from_residual.ensures (ap (option_map (λ (e : Tile × List ℕ). e.1)) none ∙ find-is c.args.at c.args.entries.now)

pub returns : goal.returns
returns c =
    let found = find_from_yields_List (λ (e : Tile × List ℕ). same_tile c.args.at e.0) _ _ c.find.result c.find.ensures.ran (YieldsList-from_slice c.args.entries.now cc) (λ x b q k. search (rules, tests)) in
    let some : Some c.in_ok-entry.entry.now ≡ find (λ (e : Tile × List ℕ). same_tile c.args.at e.0) c.args.entries.now = rw c.in_ok-entry.was at found in
    ap (option_map (λ (e : Tile × List ℕ). e.1)) some ∙ find-is c.args.at c.args.entries.now
