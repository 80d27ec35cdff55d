-- The list of scenes that a log gives.
use Rattle.std.specs.Prelude.{◌≡◌, ℕ, ◌==◌, List, [], ◌∷◌, ◌++◌, length, take, drop, fold, AllPairs, Option, Some, None, if◌then◌else◌}
use Rattle.std.specs.Option.{ForSome}
use Rattle.scene_hub.specs.declared.entry.Entry.{Entry}

-- the second list begins with the first
abbrev pub Begins : {A : Type 0} → List A → List A → Type 0
Begins xs ys = take (length xs) ys ≡ xs

-- the last item
abbrev pub last_of : {A : Type 0} → List A → Option A
last_of xs = fold (λ _ x. Some x) None xs

module _ {S : Type 0} where
  -- what the last entry of the log begins: the key of the next scene's pen, and the list of the one scene
  abbrev pub begun : List (Entry S) → ℕ × List S
  begun log = fold (λ _ e. (e.next, e.scene ∷ [])) (0, []) log

  -- an entry under the key of the next scene's pen appends its scene
  abbrev pub with_entry : ℕ × List S → Entry S → ℕ × List S
  with_entry list e = if e.key == list.0 then (e.next, list.1 ++ e.scene ∷ []) else list

  -- the key of the next scene's pen, and the scenes that the log has of the list that begins at the end of `origin`
  abbrev pub list_of : List (Entry S) → List (Entry S) → ℕ × List S
  list_of origin log = fold with_entry (begun origin) (drop (length origin) log)

  -- each scene follows all before it
  abbrev pub AllFollow : (S → S → Type 0) → List S → Type 0
  AllFollow follows scenes = AllPairs (λ s t. ∥ follows s t ∥₁) scenes

  -- the scene follows the last one of the list
  abbrev pub IsNext : (S → S → Type 0) → List S → S → Type 0
  IsNext follows scenes scene = ForSome (last_of scenes) (λ last. follows last scene)
