use Rattle.std.proofs.Common.{◌≡◌, ◌≤◌, ◌+◌, ◌++◌, [], ◌∷◌, List, Vec, Global, vec_len, vec_capacity, arith, ap, ◌∙◌}
use Rattle.std.specs.Ordering.{nat_cmp}
use Rattle.std.specs.FinMap as map
use Rattle.std.specs.FinMap.{len-empty}
use Rattle.swap_store.specs.declared.block_map.Extent.{Extent}
use Rattle.chain_owners.specs.declared.run.Run.{Run}
use Rattle.swap_store.proofs.PlacementLaws.{fresh, all_free, none_free, all_free_runs}
use Rattle.swap_store.proofs.block_map.BlockMap.new.Goals.{then-used-gt0+in_ok-push, else-used-gt0}
use Rattle.swap_store.proofs.block_map.BlockMap.new.Goals as goal

pub invariant_of-result : goal.invariant_of-result
invariant_of-result c =
    let room : vec_len c.if-used-gt0.free + map.len c.new.result ≤ vec_capacity c.if-used-gt0.free = rw c.new.ensures (omega (arith, c.if-used-gt0.free.ok.1, len-empty nat_cmp Extent)) in
    elim c.if-used-gt0.branch [
      | then-used-gt0+in_ok-push w ↦ let items : c.if-used-gt0.free.items ≡ record { first = 0; count = c.args.used } ∷ [] =
          ap (λ (v : Vec Run Global). v.items) w.free-is ∙ w.in_ok-push.ensures.items
          ∙ ap (λ (runs : List Run). runs ++ (record { first = 0; count = c.args.used } ∷ [])) c.new-free.ensures.items in (
            rw (c.new.ensures, items)
                (fresh c.args.used _ c.requires (all_free_runs c.args.used c.requires (omega (arith, w.if-used-gt0.true))) (all_free c.args.used)),
            room,
          )
      | else-used-gt0 w ↦ let items : c.if-used-gt0.free.items ≡ [] =
          ap (λ (v : Vec Run Global). v.items) w.free-is ∙ c.new-free.ensures.items in
          let none : c.args.used ≡ 0 = omega (arith, w.if-used-gt0.false) in
          (rw (c.new.ensures, items, none) (fresh 0 [] (omega arith) tt none_free), room)
    ]
