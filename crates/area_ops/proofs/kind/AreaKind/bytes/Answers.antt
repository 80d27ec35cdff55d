use Rattle.std.proofs.Common.{◌≡◌, ◌*◌, length, ◌∙◌, arith, rules}
use Rattle.std.proofs.lemmas.Grind.{common_steps}
use Rattle.pixel_formats.specs.Format.{pixel_bytes}
use Rattle.area_ops.proofs.kind.AreaKind.bytes.Goals as goal

pub write-requires-clause-written : goal.write-requires-clause-written
write-requires-clause-written c =
    let long : length c.deref_mut.result.now ≡ c.args.area.width * c.args.area.height * pixel_bytes c.args.format = search rules in
    long ∙ omega arith

pub returns-clause-count : goal.returns-clause-count
returns-clause-count c =
    let long : length c.in_ok-bytes.bytes.items ≡ c.args.area.width * c.args.area.height * pixel_bytes c.args.format = search rules in
    let written : length c.write.new.dst ≡ length c.in_ok-bytes.bytes.items = search rules in
    grind (arith, common_steps, long, written)
