use Rattle.std.proofs.Common.{arith, ◌≡◌, ◌++◌, ◌≤◌, drop, length, refl, ◌∙◌}
use Rattle.std.proofs.lemmas.Slice.{take-put_mid_below}
use Rattle.std.proofs.lemmas.List.{take_at, length-append}
use Rattle.swap_store.proofs.extents.pad.Goals as goal

pub returns : goal.returns
returns c =
    let bytes = c.args.bytes.now in
    let copied : c.copy_from_slice.new.self ≡ bytes = c.copy_from_slice.ensures.after in
    let within : length bytes ≤ length (bytes ++ drop (length bytes) c.args.block.now) = omega (arith, length-append bytes (drop (length bytes) c.args.block.now)) in
    rw copied
    (take-put_mid_below (length bytes) _ (bytes ++ drop (length bytes) c.args.block.now) c.fill.new.self (length bytes) (omega arith) within
    ∙ take_at bytes (drop (length bytes) c.args.block.now) (length bytes) refl)
