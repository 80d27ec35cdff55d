-- What is below a cache, seen through it.
use Rattle.std.proofs.Common.{◌≡◌, ◌≢◌, ℕ, List, length, Option, Some, None, is_some, true, refl, sym, ap, ◌∙◌, inl, inr, subst}
use Rattle.std.specs.Option.{option_and_then, option_map}
use Rattle.std.specs.FinMap as map
use Rattle.std.proofs.lemmas.Bool.{cases_eq}
use Rattle.chain_owners.specs.Held.{Held, bytes_of, length_of, with_tile, without_tile}
use Rattle.chain_owners.specs.Values.{Named}
use Rattle.chain_owners.proofs.Names.{get_elsewhere, get_gone, get_here, get_left}
use Rattle.tile_chain.specs.Overlay.{IsShown}

abbrev Content : Type 0
Content = Option (Named (List ℕ))

none-some : {X : Type 0} (o : Option X) (x : X) → o ≡ None → ¬ (o ≡ Some x)
none-some o x none is = let no : None ≡ Some x = sym none ∙ is in cc

module _ (name : ℕ) where
  abbrev at : Content → Option (List ℕ)
  at c = option_and_then (λ content. map.get content name) c

  elsewhere : (c : Content) (k : ℕ) (v : List ℕ) → name ≢ k → at (option_map (λ (m : Named (List ℕ)). map.insert m k v) c) ≡ at c
  elsewhere None k v ne = refl
  elsewhere (Some m) k v ne = get_elsewhere m k v name ne

  left : (c : Content) (k : ℕ) → name ≢ k → at (option_map (λ (m : Named (List ℕ)). map.remove m k) c) ≡ at c
  left None k ne = refl
  left (Some m) k ne = get_left m k name ne

  gone : (c : Content) → at (option_map (λ (m : Named (List ℕ)). map.remove m name) c) ≡ None
  gone None = refl
  gone (Some m) = get_gone m name

  here : (c : Content) (v bytes : List ℕ) → at (option_map (λ (m : Named (List ℕ)). map.insert m name v) c) ≡ Some bytes
      → (is_some c ≡ true) × (v ≡ bytes)
  here None v bytes is = absurd (let no : None ≡ Some bytes = is in cc)
  here (Some m) v bytes is = (refl, let same : Some v ≡ Some bytes = sym (get_here m name v) ∙ is in cc)

pub shown-same : (inner outer new : Held) → new ≡ outer → IsShown inner outer → IsShown inner new
shown-same inner outer new same shown = subst (IsShown inner) (sym same) shown

module _ (inner outer : Held) (name : ℕ) (shown : IsShown inner outer) where
  -- less is shown as well
  pub shown-less : IsShown (without_tile inner name) outer
  shown-less = record {
    lengths = λ q len has. elim (cases_eq q name) [
      | inl same ↦ absurd (none-some _ len (ap (map.get (map.remove inner.lengths name)) same ∙ get_gone inner.lengths name) has)
      | inr ne ↦ shown.lengths q len (sym (get_left inner.lengths name q ne) ∙ has)
    ];
    bytes = λ q bytes has. elim (cases_eq q name) [
      | inl same ↦ absurd (none-some _ bytes (ap (bytes_of (without_tile inner name)) same ∙ gone name inner.content) has)
      | inr ne ↦ shown.bytes q bytes (sym (left q inner.content name ne) ∙ has)
    ];
  }

  -- without a name that is given up above and below, the rest is shown
  pub shown-out : IsShown (without_tile inner name) (without_tile outer name)
  shown-out = record {
    lengths = λ q len has. elim (cases_eq q name) [
      | inl same ↦ absurd (none-some _ len (ap (map.get (map.remove inner.lengths name)) same ∙ get_gone inner.lengths name) has)
      | inr ne ↦ get_left outer.lengths name q ne ∙ shown.lengths q len (sym (get_left inner.lengths name q ne) ∙ has)
    ];
    bytes = λ q bytes has. elim (cases_eq q name) [
      | inl same ↦ absurd (none-some _ bytes (ap (bytes_of (without_tile inner name)) same ∙ gone name inner.content) has)
      | inr ne ↦ left q outer.content name ne ∙ shown.bytes q bytes (sym (left q inner.content name ne) ∙ has)
    ];
  }

  -- a name that is given up below may have any bytes above
  pub shown-beneath : (bytes : List ℕ) → IsShown (without_tile inner name) (with_tile outer name bytes)
  shown-beneath new = record {
    lengths = λ q len has. elim (cases_eq q name) [
      | inl same ↦ absurd (none-some _ len (ap (map.get (map.remove inner.lengths name)) same ∙ get_gone inner.lengths name) has)
      | inr ne ↦ get_elsewhere outer.lengths name (length new) q ne ∙ shown.lengths q len (sym (get_left inner.lengths name q ne) ∙ has)
    ];
    bytes = λ q bytes has. elim (cases_eq q name) [
      | inl same ↦ absurd (none-some _ bytes (ap (bytes_of (without_tile inner name)) same ∙ gone name inner.content) has)
      | inr ne ↦ elsewhere q outer.content name new ne ∙ shown.bytes q bytes (sym (left q inner.content name ne) ∙ has)
    ];
  }

  -- the bytes that a name has above are shown once they are below
  pub shown-put : (bytes : List ℕ) → length_of outer name ≡ Some (length bytes)
      → (is_some inner.content ≡ true → bytes_of outer name ≡ Some bytes) → IsShown (with_tile inner name bytes) outer
  shown-put new known has-bytes = record {
    lengths = λ q len has. elim (cases_eq q name) [
      | inl same ↦ ap (map.get outer.lengths) same ∙ known
          ∙ sym (ap (map.get (map.insert inner.lengths name (length new))) same ∙ get_here inner.lengths name (length new)) ∙ has
      | inr ne ↦ shown.lengths q len (sym (get_elsewhere inner.lengths name (length new) q ne) ∙ has)
    ];
    bytes = λ q bytes has. elim (cases_eq q name) [
      | inl same ↦
          let there = here name inner.content new bytes (sym (ap (bytes_of (with_tile inner name new)) same) ∙ has) in
          ap (bytes_of outer) same ∙ has-bytes there.0 ∙ ap (λ b. Some b) there.1
      | inr ne ↦ shown.bytes q bytes (sym (elsewhere q inner.content name new ne) ∙ has)
    ];
  }
