use Rattle.std.proofs.Common.{◌≡◌, ◌+◌, length, sym, ap, ◌∙◌, ◌++◌, arith, take-add}
use Rattle.std.proofs.lemmas.Simd.{length-chunk, take_more_put_chunk}
use Rattle.patch_abyss.proofs.rows.copy_block.Goals as goal
use lib.Lanes.{chunk}

pub returns-clause-copied : goal.returns-clause-copied
returns-clause-copied g c =
    let n = g.row.N in
    let start = c.args.start in
    let from = c.args.from.now in
    let block = chunk start n from in
    let long : length block ≡ n = length-chunk start n from c.requires.room in
    take_more_put_chunk start c.args.to.now block (start + n) (omega (arith, long)) (omega (arith, c.requires.room, c.requires.same))
    ∙ ap (λ xs. xs ++ block) c.requires.copied
    ∙ sym (take-add start n from)
