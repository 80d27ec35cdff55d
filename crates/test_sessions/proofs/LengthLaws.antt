-- Tiles of one length stay tiles of one length.
use Rattle.std.proofs.Common.{◌≡◌, ℕ, false, true≢false, not, List, ◌∷◌, Option, Some, None, refl, ap, ◌∙◌}
use Rattle.std.specs.Prelude.{IfSome, is_some}
use Rattle.plane_rect.specs.Rectangle.{Rectangle}
use Rattle.model_states.specs.Cache.{Pair, after_keep, after_look, find_pair, itself, same_pair, to_prefix, voided}
use Rattle.model_states.proofs.CacheLaws.{all-filter, all-within, found_has}
use Rattle.node_cache.specs.Stores.{Sized, by_sized}
use Rattle.test_sessions.specs.Lengths.{HaveLength}

module _ (len : ℕ) (list : List Sized) (have : HaveLength len list) where
  abbrev IsLong : Sized → Type 0
  IsLong sized = sized.length ≡ len

  -- what is found has this length
  pub length-found : (pair : Pair) → IfSome (find_pair by_sized list pair) IsLong
  length-found pair = by (find_pair by_sized list pair) refl
    where
      by : (o : Option Sized) → find_pair by_sized list pair ≡ o → IfSome o IsLong
      by None none = tt
      by (Some sized) found = found_has by_sized IsLong list pair sized have found

  pub lengths-looked : (pair : Pair) → HaveLength len (after_look by_sized list pair)
  lengths-looked pair = by (find_pair by_sized list pair) refl
    where
      by : (o : Option Sized) → find_pair by_sized list pair ≡ o → HaveLength len (to_prefix by_sized list pair o)
      by None none = have
      by (Some sized) found = (
        found_has by_sized IsLong list pair sized have found,
        all-filter by_sized IsLong (λ other. not (same_pair pair (by_sized other))) list have,
      )

  pub lengths-kept : (capacity : Option ℕ) (sized : Sized) → IsLong sized → HaveLength len (after_keep capacity list sized)
  lengths-kept capacity sized long = all-within by_sized IsLong capacity (sized ∷ list) (long, have)

  pub lengths-voided : (node : List ℕ) (rectangle : Rectangle) → HaveLength len (voided by_sized list node rectangle)
  lengths-voided node rectangle = all-filter by_sized IsLong _ list have

-- a pair that isn't there isn't there after it was looked for
pub still-absent : (old new : List Pair) (pair : Pair) → is_some (find_pair itself old pair) ≡ false → new ≡ after_look itself old pair
    → find_pair itself new pair ≡ None
still-absent old new pair absent is = by (find_pair itself old pair) refl absent
  where
    by : (o : Option Pair) → find_pair itself old pair ≡ o → is_some o ≡ false → find_pair itself new pair ≡ None
    by None none e = ap (λ (list : List Pair). find_pair itself list pair) (is ∙ ap (to_prefix itself old pair) none) ∙ none
    by (Some found) there e = absurd (true≢false e)
