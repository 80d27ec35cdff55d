-- What a chain of tiles holds: names, with their bytes and their owners.
use Rattle.std.specs.Prelude.{◌≡◌, ℕ, ◌+◌, ◌-◌, ◌^◌, ◌==◌, List, length, Option, Some, IfSome, if◌then◌else◌, nat_le}
use Rattle.std.specs.Option.{option_and_then, option_map, unwrap_or}
use Rattle.std.specs.FinMap as map
use Rattle.chain_owners.specs.Values.{Named, map_values}

-- how many bytes each name has, its bytes where the chain exposes them, and its number of owners
-- where the chain counts them
pub record Held : Type 0 where
  pub lengths : Named ℕ
  pub content : Option (Named (List ℕ))
  pub owners : Named ℕ

-- no name
abbrev pub nothing_held : Held
nothing_held = record { lengths = map.empty; content = Some map.empty; owners = map.empty }

-- the largest number of owners: a name that reaches it keeps it, and is never forgotten
abbrev pub max_owners : ℕ
max_owners = 2 ^ 32 - 1

-- how many owners a name has; 0 where it isn't there, or isn't counted
abbrev pub owners_of : Held → ℕ → ℕ
owners_of held name = unwrap_or (map.get held.owners name) 0

-- how many bytes a name has, where it is there
abbrev pub length_of : Held → ℕ → Option ℕ
length_of held name = map.get held.lengths name

-- the bytes of a name, where it is there and the chain exposes them
abbrev pub bytes_of : Held → ℕ → Option (List ℕ)
bytes_of held name = option_and_then (λ content. map.get content name) held.content

-- the same with these bytes under the name, which is added or has its bytes replaced
abbrev pub with_tile : Held → ℕ → List ℕ → Held
with_tile held name bytes = record {
  lengths = map.insert held.lengths name (length bytes);
  content = option_map (λ content. map.insert content name bytes) held.content;
  owners = held.owners;
}

-- the same without the bytes of the name
abbrev pub without_tile : Held → ℕ → Held
without_tile held name = record {
  lengths = map.remove held.lengths name;
  content = option_map (λ content. map.remove content name) held.content;
  owners = held.owners;
}

-- the same with so many owners of the name
abbrev pub with_owners : Held → ℕ → ℕ → Held
with_owners held name count = record {
  lengths = held.lengths;
  content = held.content;
  owners = map.insert held.owners name count;
}

-- the same with a name more, which has these bytes and one owner
abbrev pub with_name : Held → ℕ → List ℕ → Held
with_name held name bytes = with_owners (with_tile held name bytes) name 1

-- the same without the name, its bytes and its owners
abbrev pub without_name : Held → ℕ → Held
without_name held name = record {
  lengths = map.remove held.lengths name;
  content = option_map (λ content. map.remove content name) held.content;
  owners = map.remove held.owners name;
}

-- the same with one owner more of the name; the largest number stays
unfoldable pub owned : Held → ℕ → Held
owned held name =
    if owners_of held name == max_owners then held
    else with_owners held name (owners_of held name + 1)

-- the same with one owner fewer of the name, which goes with its last owner; the largest number stays
unfoldable pub disowned : Held → ℕ → Held
disowned held name =
    if owners_of held name == max_owners then held
    else if nat_le (owners_of held name) 1 then without_name held name
    else with_owners held name (owners_of held name - 1)

-- where the chain exposes its bytes, it has the bytes of exactly its names, and as many as it says
abbrev pub HasLengths : Held → Type 0
HasLengths held = IfSome held.content (λ content. held.lengths ≡ map_values length content)
