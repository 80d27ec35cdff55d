use Rattle.std.proofs.Common.{◌+◌, ◌*◌, ◌<◌, ◌≡◌, ◌/◌, refl, arith, ◌∙◌, length, take, drop, sym, IfSome}
use Rattle.std.proofs.lemmas.Bool.{eqb-false}
use Rattle.std.proofs.lemmas.List.{length-drop, take_rest}
use Rattle.outside_io.specs.Swap.{Blocks, bytes_of_blocks}
use Rattle.swap_store.specs.Run.{blocks_for}
use Rattle.swap_store.specs.Content.{BeginsAt, bytes_in}
use Rattle.outside_io.proofs.BlockRanges.{unchanged-wider, unchanged-trans}
use Rattle.swap_store.proofs.Exposed.{extent_written, OnOk-weaker, exposed_weaker}
use Rattle.swap_store.proofs.extents.write_extent.Goals as goal

pub returns-in_err-write_whole_blocks-clause-others : goal.returns-in_err-write_whole_blocks-clause-others
returns-in_err-write_whole_blocks-clause-others g c =
    let len = length c.args.bytes.now in
    unchanged-wider c.args.first (len / 4096) c.args.first (blocks_for len) _ _ (omega arith) (omega arith) c.in_err-write_whole_blocks.ensures.others

pub returns-clause-others : goal.returns-clause-others
returns-clause-others g c =
    let first = c.args.first in
    let len = length c.args.bytes.now in
    let rest = length-drop (4096 * (len / 4096)) c.args.bytes.now in
    let more : 4096 * (len / 4096) < len = omega (arith, rest, eqb-false _ 0 (sym c.is_empty.ensures ∙ c.if-is_empty.false)) in
    unchanged-trans first (blocks_for len) _ _ _
    (unchanged-wider first (len / 4096) first (blocks_for len) _ _ (omega arith) (omega arith) c.in_ok-write_whole_blocks.ensures.others)
    (unchanged-wider (first + len / 4096) 1 first (blocks_for len) _ _ (omega arith) (omega (arith, more)) c.write_padded.ensures.others)

pub returns-clause-written : goal.returns-clause-written
returns-clause-written g c =
    let first = c.args.first in
    let len = length c.args.bytes.now in
    let rest = length-drop (4096 * (len / 4096)) c.args.bytes.now in
    let more : 4096 * (len / 4096) < len = omega (arith, rest, eqb-false _ 0 (sym c.is_empty.ensures ∙ c.if-is_empty.false)) in
    let count : blocks_for len ≡ len / 4096 + 1 = omega (arith, more) in
    let P : Blocks → Type 0 = λ blocks. take len (bytes_of_blocks blocks first (len / 4096 + 1)) ≡ c.args.bytes.now in
    let Q : Blocks → Type 0 = λ blocks. bytes_in blocks (record { first = first; len = len }) ≡ c.args.bytes.now in
    let exposed = g.D.SwapDisk.blocks c.write_padded.new.disk in
    let begins : Type 0 = IfSome exposed (BeginsAt (first + len / 4096) (drop (4096 * (len / 4096)) c.args.bytes.now)) in
    OnOk-weaker c.write_padded.result begins (IfSome exposed Q)
    (λ last. exposed_weaker exposed P Q (λ blocks is. rw count is)
    (extent_written _ exposed first (len / 4096) len c.args.bytes.now refl (omega arith) more c.write_padded.ensures.others
    c.in_ok-write_whole_blocks.ensures.written last))
    (rw (take_rest c.args.bytes.now (4096 * (len / 4096))) at c.write_padded.ensures.written)
