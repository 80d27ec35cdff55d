-- The values of names, in pages of 32 names each that follow one another.
use Rattle.std.specs.Prelude.{ℕ, zero, suc, ◌+◌, ◌*◌, List, [], ◌∷◌, Option, Some, None, slice_index_or}
use Rattle.std.specs.Global.{Vec}
use Rattle.std.specs.FinMap as map
use Rattle.chain_owners.specs.Values.{Named}

module _ {X : Type 0} where
  -- the map in which a name has this value, or none
  abbrev pub with_value : ℕ → Option X → Named X → Named X
  with_value name None values = map.remove values name
  with_value name (Some value) values = map.insert values name value

  -- the map in which so many names from a first one on have the values of a page
  abbrev pub with_page : ℕ → ℕ → List (Option X) → Named X → Named X
  with_page zero first page values = values
  with_page (suc n) first page values = with_value (first + n) (slice_index_or page n None) (with_page n first page values)

  -- the map of pages by their numbers
  unfoldable pub names_of : List (ℕ × Vec (Option X)) → Named X
  names_of [] = map.empty
  names_of (e ∷ es) = with_page 32 (32 * e.0) e.1.items (names_of es)
