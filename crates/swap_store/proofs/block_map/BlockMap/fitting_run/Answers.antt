use Rattle.std.proofs.Common.{◌≡◌, ◌<◌, ℕ, Option, Some, None, MatchOption, MatchResult, OnErr, List, refl}
use Rattle.std.specs.Option.{ok_or}
use Rattle.std.specs.List.{position}
use Rattle.chain_owners.specs.declared.run.Run.{Run}
use Rattle.chain_owners.specs.declared.swap_refused.SwapRefused.{SwapRefused}
use Rattle.chain_owners.specs.declared.swap_refused.SwapRefused.TheVariants.{SwapFull}
use Rattle.swap_store.specs.Run.{IsFirstFit, blocks_for, longest}
use Rattle.swap_store.proofs.Fits.{fits, has_room}
use Rattle.swap_store.proofs.PlacementLaws.{blocks_for-some}
use Rattle.swap_store.proofs.block_map.BlockMap.fitting_run.Goals as goal

found_or_full : (runs : List Run) (needed : ℕ) (found : Option ℕ) → MatchOption found (longest runs < needed) (IsFirstFit runs needed)
    → MatchResult (ok_or found (SwapFull needed (longest runs))) (IsFirstFit runs needed) (λ refused. refused ≡ SwapFull needed (longest runs))
found_or_full runs needed None says = refl
found_or_full runs needed (Some i) says = says

full_if_none : (runs : List Run) (needed : ℕ) (found : Option ℕ) (e : SwapRefused) → MatchOption found (longest runs < needed) (IsFirstFit runs needed)
    → OnErr (ok_or found e) (longest runs < needed)
full_if_none runs needed None e says = says
full_if_none runs needed (Some i) e says = tt

pub returns-clause-found : goal.returns-clause-found
returns-clause-found c =
    let runs = c.self.inside.free.items in
    let needed = blocks_for c.args.len in
    rw (c.ok_or.ensures.value, c.longest_run.ensures, c.fitting_run.ensures, c.deref.ensures.value, c.deref-2.ensures.value, c.blocks_for-needed.ensures, ← c.self.view_is)
    (found_or_full runs needed (position (has_room needed) runs) (fits runs needed (blocks_for-some c.args.len c.requires.0)))

pub returns-clause-full : goal.returns-clause-full
returns-clause-full c =
    let runs = c.self.inside.free.items in
    let needed = blocks_for c.args.len in
    rw (c.ok_or.ensures.value, c.longest_run.ensures, c.fitting_run.ensures, c.deref.ensures.value, c.deref-2.ensures.value, c.blocks_for-needed.ensures, ← c.self.view_is)
    (full_if_none runs needed (position (has_room needed) runs) _ (fits runs needed (blocks_for-some c.args.len c.requires.0)))
