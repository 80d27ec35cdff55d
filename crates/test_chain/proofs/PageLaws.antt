-- Chains of pages stay chains of pages.
use Rattle.std.proofs.Common.{◌≡◌, ◌≢◌, ℕ, List, length, Option, Some, None, IfSome, is_some, true, false, refl, sym, ap, ◌∙◌, inl, inr}
use Rattle.std.specs.FinMap as map
use Rattle.std.specs.Ordering.{nat_cmp}
use Rattle.std.proofs.lemmas.Bool.{cases_eq}
use Rattle.outside_io.specs.Swap.{Blocks}
use Rattle.chain_owners.specs.Held.{Held, disowned, length_of, owned, with_tile, without_name}
use Rattle.chain_owners.proofs.HeldLaws.{after-disowned, after-owned}
use Rattle.chain_owners.proofs.Names.{get_elsewhere, get_gone, get_here, get_left}
use Rattle.chain_owners.proofs.MapValues.{map_values-empty}
use Rattle.chain_owners.specs.Values.{Named}
use Rattle.tile_chain.specs.DiskTiles.{disk_held}
use Rattle.tile_chain.specs.OwnedTiles.{nothing_over}
use Rattle.swap_store.specs.Content.{lengths_of}
use Rattle.swap_store.specs.Placement.{Placement}
use Rattle.swap_store.specs.declared.block_map.Extent.{Extent}
use Rattle.test_chain.specs.Pages.{ArePages}

same-some : (m n : ℕ) → Some m ≡ Some n → m ≡ n
same-some m n is = cc

module _ (held : Held) (name : ℕ) (pages : ArePages held) where
  -- a page more
  pub pages-put : (bytes : List ℕ) → length bytes ≡ 4096 → ArePages (with_tile held name bytes)
  pages-put bytes size q len is = elim (cases_eq q name) [
    | inl same ↦ same-some len (length bytes)
        (sym is ∙ ap (length_of (with_tile held name bytes)) same ∙ get_here held.lengths name (length bytes)) ∙ size
    | inr ne ↦ pages q len (sym (get_elsewhere held.lengths name (length bytes) q ne) ∙ is)
  ]

  pub pages-removed : ArePages (without_name held name)
  pages-removed q len is = elim (cases_eq q name) [
    | inl same ↦ absurd (none-some len (sym (ap (length_of (without_name held name)) same ∙ get_gone held.lengths name) ∙ is))
    | inr ne ↦ pages q len (sym (get_left held.lengths name q ne) ∙ is)
  ]
    where
      none-some : (n : ℕ) → None ≡ Some n → ⊥
      none-some n wrong = cc

  pub pages-owned : ArePages (owned held name)
  pages-owned = after-owned ArePages held name pages (λ count. pages)

  pub pages-disowned : ArePages (disowned held name)
  pages-disowned = after-disowned ArePages held name pages (λ count. pages) pages-removed

  -- a name that is there has a page
  pub page-there : is_some (length_of held name) ≡ true → length_of held name ≡ Some 4096
  page-there there = known (length_of held name) refl there
    where
      known : (o : Option ℕ) → length_of held name ≡ o → is_some o ≡ true → length_of held name ≡ Some 4096
      known None is some = absurd (let no : false ≡ true = some in cc)
      known (Some len) is some = is ∙ ap (λ n. Some n) (pages name len is)

  pub page-known : IfSome (length_of held name) (λ there. there ≡ 4096)
  page-known = known (length_of held name) refl
    where
      known : (o : Option ℕ) → length_of held name ≡ o → IfSome o (λ there. there ≡ 4096)
      known None is = tt
      known (Some len) is = pages name len is

  -- a name that has owners is there
  pub owner-there : (owners : ℕ) → (length_of held name ≡ None → owners ≡ 0) → owners ≢ 0 → is_some (length_of held name) ≡ true
  owner-there owners absent some = there (length_of held name) refl
    where
      there : (o : Option ℕ) → length_of held name ≡ o → is_some o ≡ true
      there None is = absurd (some (absent is))
      there (Some len) is = refl

-- without a name there is no page
pub no_lengths : (held : Held) → held.lengths ≡ map.empty → ArePages held
no_lengths held none q len is = absurd (none-some (sym (ap (λ (lengths : Named ℕ). map.get lengths q) none ∙ map.get-empty nat_cmp q) ∙ is))
  where
    none-some : None ≡ Some len → ⊥
    none-some wrong = cc

pub no_pages : (held : Held) (blocks : Option Blocks) → held ≡ nothing_over blocks → ArePages held
no_pages held blocks fresh = no_lengths held (ap (λ (h : Held). h.lengths) fresh)

pub no_extents : (placement : Placement) (blocks : Option Blocks) → placement.extents ≡ map.empty → ArePages (disk_held placement blocks)
no_extents placement blocks none =
    no_lengths (disk_held placement blocks) (ap lengths_of none ∙ map_values-empty (λ (extent : Extent). extent.len))
