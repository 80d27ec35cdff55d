-- Reads of views, one after another.
use Rattle.std.proofs.Common.{◌≡◌, ℕ, Option, Result, sym, ap, subst, arith}
use Rattle.std.specs.Prelude.{IfErr}
use Rattle.std.specs.Option.{option_map}
use Rattle.std.proofs.lemmas.Result.{IfErr-weaker}
use Rattle.model_images.specs.Image.{Image}
use Rattle.model_images.specs.Paint.{cut}
use Rattle.plane_rect.specs.Rectangle.{Includes, Rectangle}
use Rattle.chain_owners.specs.Cause.{HasSwapCause}
use Rattle.chain_owners.specs.declared.swap_refused.SwapRefused.{SwapRefused}
use Rattle.chain_owners.proofs.Causes.{cause-more}
use Rattle.root_tiles.specs.Chains.{ChainState, IsRead}
use Rattle.root_tiles.specs.Growth.{HoldsMoreTiles, RootState, names_with_root_levels, root_state}
use Rattle.root_tiles.specs.Roots.{IsRootOver, RootTiles}
use Rattle.root_tiles.proofs.MoreTiles.{read-holds}
use Rattle.view_reads.specs.Views.{ReadsLevels, view_image}

-- a refusal that is excused by the names is so by more
pub read-cause : (top : ℕ) (a b : RootState) (refused : SwapRefused) → HasSwapCause a.counts b.counts a.counts.names refused
    → HasSwapCause a.counts b.counts (names_with_root_levels top a) refused
read-cause top a b refused cause =
    cause-more a.counts b.counts a.counts.names (names_with_root_levels top a) refused (omega arith) cause

-- a read of the chain alone holds no tile more
pub reads-nothing : {X : Type 0} (z : ℕ) (result : Result X SwapRefused) (root : RootTiles) (old new : ChainState) → IsRootOver root old.held
    → IfErr result (HasSwapCause old.counts new.counts old.counts.names) → IsRead old new → ReadsLevels z result root root old new
reads-nothing z result root old new over cause read = record {
  more = read-holds z root old.held new.held old.counts new.counts over read.held read.counts;
  causes = λ top low.
      let a = root_state root old.held old.counts in
      let b = root_state root new.held new.counts in
      IfErr-weaker result (HasSwapCause a.counts b.counts a.counts.names) (HasSwapCause a.counts b.counts (names_with_root_levels top a))
      (λ refused is. read-cause top a b refused is) cause;
  loans = read.loans;
  valid = read.valid;
}

-- what stays after tiles of levels are held
module _ (z : ℕ) (a b : RootState) (more : HoldsMoreTiles z a b) where
  pub box-after : b.root.box ≡ a.root.box
  box-after = ap (λ (r : RootTiles). r.box) more.root

  pub inside-after : (extent : Rectangle) → Includes a.root.box extent → Includes b.root.box extent
  inside-after extent inside = subst (λ (r : Rectangle). Includes r extent) (sym box-after) inside

  pub view-after : (extent : Rectangle) → view_image b.root extent b.held ≡ view_image a.root extent a.held
  view-after extent = ap (λ (o : Option Image). option_map (λ (image : Image). cut image extent) o) more.image
