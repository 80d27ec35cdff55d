-- Tiles that are put, replaced and taken out in another order.
use Rattle.std.proofs.Common.{◌≡◌, ◌≢◌, ℕ, true, false, cond, eqb, List, length, Option, Some, None, IfSome, is_some, refl, sym, ap, ap₂, ◌∙◌, inl, inr}
use Rattle.std.specs.Option.{option_and_then, option_map}
use Rattle.std.specs.FinMap as map
use Rattle.std.proofs.lemmas.Bool.{cases_eq}
use Rattle.chain_owners.specs.Chain.{HasSameNames}
use Rattle.chain_owners.specs.Held.{Held, bytes_of, length_of, with_tile, without_tile}
use Rattle.chain_owners.specs.Values.{Named}
use Rattle.chain_owners.proofs.Names.{get-inserted, get_elsewhere, get_gone, get_here, get_left, same_names}

module _ {X : Type 0} where
  -- equal at one name, and equal elsewhere
  by_name : (m n : Named X) (k : ℕ) → map.get m k ≡ map.get n k → ((q : ℕ) → q ≢ k → map.get m q ≡ map.get n q) → m ≡ n
  by_name m n k here elsewhere = same_names m n (λ q. elim (cases_eq q k) [
    | inl e ↦ ap (map.get m) e ∙ here ∙ sym (ap (map.get n) e)
    | inr ne ↦ elsewhere q ne
  ])

  map-twice : (m : Named X) (k : ℕ) (v w : X) → map.insert (map.insert m k v) k w ≡ map.insert m k w
  map-twice m k v w = by_name _ _ k (get_here (map.insert m k v) k w ∙ sym (get_here m k w))
      (λ q ne. get_elsewhere (map.insert m k v) k w q ne ∙ get_elsewhere m k v q ne ∙ sym (get_elsewhere m k w q ne))

  map-swap : (m : Named X) (k j : ℕ) (v w : X) → k ≢ j → map.insert (map.insert m k v) j w ≡ map.insert (map.insert m j w) k v
  map-swap m k j v w ne = by_name _ _ k
      (get_elsewhere (map.insert m k v) j w k ne ∙ get_here m k v ∙ sym (get_here (map.insert m j w) k v))
      (λ q other. get-inserted (map.insert m k v) j w q ∙ ap (cond (eqb q j) (Some w)) (get_elsewhere m k v q other)
      ∙ sym (get-inserted m j w q) ∙ sym (get_elsewhere (map.insert m j w) k v q other))

  map-fill : (m : Named X) (k : ℕ) (v : X) → map.insert (map.remove m k) k v ≡ map.insert m k v
  map-fill m k v = by_name _ _ k (get_here (map.remove m k) k v ∙ sym (get_here m k v))
      (λ q ne. get_elsewhere (map.remove m k) k v q ne ∙ get_left m k q ne ∙ sym (get_elsewhere m k v q ne))

  map-swap_out : (m : Named X) (k j : ℕ) (w : X) → k ≢ j → map.remove (map.insert m j w) k ≡ map.insert (map.remove m k) j w
  map-swap_out m k j w ne = by_name _ _ k
      (get_gone (map.insert m j w) k ∙ sym (get_elsewhere (map.remove m k) j w k ne ∙ get_gone m k))
      (λ q other. get_left (map.insert m j w) k q other ∙ get-inserted m j w q
      ∙ sym (get-inserted (map.remove m k) j w q ∙ ap (cond (eqb q j) (Some w)) (get_left m k q other)))

  pub map-out : (m : Named X) (k : ℕ) (v : X) → map.remove (map.insert m k v) k ≡ map.remove m k
  map-out m k v = by_name _ _ k (get_gone (map.insert m k v) k ∙ sym (get_gone m k))
      (λ q ne. get_left (map.insert m k v) k q ne ∙ get_elsewhere m k v q ne ∙ sym (get_left m k q ne))

  pub map-absent : (m : Named X) (k : ℕ) → map.get m k ≡ None → map.remove m k ≡ m
  map-absent m k none = by_name _ _ k (get_gone m k ∙ sym none) (λ q ne. get_left m k q ne)

  map-known : (m : Named X) (k : ℕ) (v : X) → map.get m k ≡ Some v → map.insert m k v ≡ m
  map-known m k v known = by_name _ _ k (get_here m k v ∙ sym known) (λ q ne. get_elsewhere m k v q ne)

abbrev held_of : Held → Named ℕ → Option (Named (List ℕ)) → Held
held_of held lengths content = record { lengths = lengths; content = content; owners = held.owners }

abbrev putting : ℕ → List ℕ → Named (List ℕ) → Named (List ℕ)
putting name bytes content = map.insert content name bytes

abbrev taking : ℕ → Named (List ℕ) → Named (List ℕ)
taking name content = map.remove content name

-- two functions after one another are a third
mapped-twice : (f g h : Named (List ℕ) → Named (List ℕ)) (c : Option (Named (List ℕ))) → ((m : Named (List ℕ)) → f (g m) ≡ h m)
    → option_map f (option_map g c) ≡ option_map h c
mapped-twice f g h None is = refl
mapped-twice f g h (Some m) is = ap (λ n. Some n) (is m)

mapped-swap : (f g h k : Named (List ℕ) → Named (List ℕ)) (c : Option (Named (List ℕ))) → ((m : Named (List ℕ)) → f (g m) ≡ h (k m))
    → option_map f (option_map g c) ≡ option_map h (option_map k c)
mapped-swap f g h k None is = refl
mapped-swap f g h k (Some m) is = ap (λ n. Some n) (is m)

module _ (held : Held) (name : ℕ) where
  pub put-twice : (bytes bytes' : List ℕ) → with_tile (with_tile held name bytes) name bytes' ≡ with_tile held name bytes'
  put-twice bytes bytes' = ap₂ (held_of held) (map-twice held.lengths name (length bytes) (length bytes'))
      (mapped-twice (putting name bytes') (putting name bytes) (putting name bytes') held.content (λ m. map-twice m name bytes bytes'))

  pub put-swap : (other : ℕ) (bytes bytes' : List ℕ) → name ≢ other
      → with_tile (with_tile held name bytes) other bytes' ≡ with_tile (with_tile held other bytes') name bytes
  put-swap other bytes bytes' ne = ap₂ (held_of held) (map-swap held.lengths name other (length bytes) (length bytes') ne)
      (mapped-swap (putting other bytes') (putting name bytes) (putting name bytes) (putting other bytes') held.content
      (λ m. map-swap m name other bytes bytes' ne))

  pub put-fill : (bytes : List ℕ) → with_tile (without_tile held name) name bytes ≡ with_tile held name bytes
  put-fill bytes = ap₂ (held_of held) (map-fill held.lengths name (length bytes))
      (mapped-twice (putting name bytes) (taking name) (putting name bytes) held.content (λ m. map-fill m name bytes))

  pub out-swap : (other : ℕ) (bytes : List ℕ) → name ≢ other
      → without_tile (with_tile held other bytes) name ≡ with_tile (without_tile held name) other bytes
  out-swap other bytes ne = ap₂ (held_of held) (map-swap_out held.lengths name other (length bytes) ne)
      (mapped-swap (taking name) (putting other bytes) (putting other bytes) (taking name) held.content
      (λ m. map-swap_out m name other bytes ne))

  pub out-put : (bytes : List ℕ) → without_tile (with_tile held name bytes) name ≡ without_tile held name
  out-put bytes = ap₂ (held_of held) (map-out held.lengths name (length bytes))
      (mapped-twice (taking name) (putting name bytes) (taking name) held.content (λ m. map-out m name bytes))

  none-from : (o : Option (List ℕ)) → is_some o ≡ false → o ≡ None
  none-from None is = refl
  none-from (Some x) is = absurd (let no : true ≡ false = is in cc)

  absent-content : (c : Option (Named (List ℕ))) → IfSome c (λ content. (q : ℕ) → is_some (map.get content q) ≡ is_some (map.get held.lengths q))
      → length_of held name ≡ None → option_map (taking name) c ≡ c
  absent-content None same none = refl
  absent-content (Some m) same none =
      ap (λ n. Some n) (map-absent m name (none-from (map.get m name) (same name ∙ ap is_some none)))

  -- without a name that isn't there is the same
  pub out-absent : HasSameNames held → length_of held name ≡ None → without_tile held name ≡ held
  out-absent same none = ap₂ (held_of held) (map-absent held.lengths name none) (absent-content held.content same none)

  known-bytes : (m : Named (List ℕ)) (bytes : List ℕ) (o : Option (List ℕ)) → map.get m name ≡ o → is_some o ≡ true → IfSome o (λ b. bytes ≡ b)
      → map.get m name ≡ Some bytes
  known-bytes m bytes None is some same = absurd (let no : false ≡ true = some in cc)
  known-bytes m bytes (Some b) is some same = is ∙ ap (λ x. Some x) (sym same)

  known-content : (c : Option (Named (List ℕ))) (bytes : List ℕ) → IfSome c (λ content. (q : ℕ) → is_some (map.get content q) ≡ is_some (map.get held.lengths q))
      → is_some (length_of held name) ≡ true → IfSome c (λ content. IfSome (map.get content name) (λ b. bytes ≡ b))
      → option_map (putting name bytes) c ≡ c
  known-content None bytes same there is = refl
  known-content (Some m) bytes same there is =
      ap (λ n. Some n) (map-known m name bytes (known-bytes m bytes (map.get m name) refl (same name ∙ there) is))

  in-content : (c : Option (Named (List ℕ))) (bytes : List ℕ) → IfSome (option_and_then (λ content. map.get content name) c) (λ b. bytes ≡ b)
      → IfSome c (λ content. IfSome (map.get content name) (λ b. bytes ≡ b))
  in-content None bytes is = tt
  in-content (Some m) bytes is = is

  -- with the bytes that it has, a name is as it is
  pub put-known : (bytes : List ℕ) → HasSameNames held → length_of held name ≡ Some (length bytes) → IfSome (bytes_of held name) (λ b. bytes ≡ b)
      → with_tile held name bytes ≡ held
  put-known bytes same known is = ap₂ (held_of held) (map-known held.lengths name (length bytes) known)
      (known-content held.content bytes same (ap is_some known) (in-content held.content bytes is))
