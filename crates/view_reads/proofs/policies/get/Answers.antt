use Rattle.std.proofs.Common.{◌∙◌, ap, subst, sym, arith}
use Rattle.std.proofs.lemmas.Result.{err_from_is_err_and}
use Rattle.plane_rect.specs.Rectangle.{Rectangle}
use Rattle.model_images.specs.Abyss.{abyss_at}
use Rattle.model_images.specs.Image.{Image, image_from_fn}
use Rattle.root_tiles.specs.Growth.{root_state}
use Rattle.root_tiles.proofs.MoreTiles.{cause-plain}
use Rattle.view_reads.specs.Needed.{IsEnough}
use Rattle.view_reads.proofs.ReadParts.{needed-limits, placed-limits, read-exact}
use Rattle.view_reads.proofs.policies.get.Goals as goal

pub level_part-requires-clause-limits : goal.level_part-requires-clause-limits
level_part-requires-clause-limits g c =
    let P : Rectangle → Type 0 = λ box. IsEnough c.args.abyss box c.args.rect c.needed-source.result in
    needed-limits c.args.abyss c.args.root.now.box c.args.extent c.args.rect c.needed-source.result c.args.level c.requires.view.over.limits c.requires.view.inside c.requires.view.rectangle
    (subst P c.level_box.ensures c.needed-source.ensures)

pub put_at-placed-requires-clause-limits : goal.put_at-placed-requires-clause-limits
put_at-placed-requires-clause-limits g c =
    let P : Rectangle → Type 0 = λ box. IsEnough c.args.abyss box c.args.rect c.needed-source.result in
    placed-limits c.needed-source.result.part c.needed-source.result.placed c.needed-source.ensures.width c.needed-source.ensures.height
    (needed-limits c.args.abyss c.args.root.now.box c.args.extent c.args.rect c.needed-source.result c.args.level c.requires.view.over.limits c.requires.view.inside c.requires.view.rectangle
    (subst P c.level_box.ensures c.needed-source.ensures))

pub put_at-placed-requires-clause-width : goal.put_at-placed-requires-clause-width
put_at-placed-requires-clause-width g c =
    c.needed-source.ensures.width ∙ sym (ap (λ (r : Rectangle). r.width) c.in_ok-part.ensures.shape.box)

pub put_at-placed-requires-clause-height : goal.put_at-placed-requires-clause-height
put_at-placed-requires-clause-height g c =
    c.needed-source.ensures.height ∙ sym (ap (λ (r : Rectangle). r.height) c.in_ok-part.ensures.shape.box)

pub returns-in_err-part-clause-cause : goal.returns-in_err-part-clause-cause
returns-in_err-part-clause-cause g c =
    let p = err_from_is_err_and c.from_residual.result c.from_residual.ensures.1 in
    rw (p.1, p.2) (cause-plain c.args.level
    (root_state c.args.root.now (g.C.ChainMeaning.held c.args.chain.now) (g.C.ChainMeaning.counts c.args.chain.now))
    (root_state c.level_part.new.root (g.C.ChainMeaning.held c.level_part.new.chain) (g.C.ChainMeaning.counts c.level_part.new.chain)) _
    (c.in_err-part.ensures.reads.causes c.args.level (omega arith)))

pub returns-clause-image : goal.returns-clause-image
returns-clause-image g c =
    let P : Rectangle → Type 0 = λ box. IsEnough c.args.abyss box c.args.rect c.needed-source.result in
    read-exact c.args.root.now c.args.extent (g.C.ChainMeaning.held c.args.chain.now) c.args.level c.args.abyss c.args.rect c.needed-source.result
    c.in_ok-part.part c.in_ok-read.read (subst P c.level_box.ensures c.needed-source.ensures) c.in_ok-part.ensures.image
    (c.in_ok-read.ensures ∙ ap (λ (i : Image). image_from_fn c.args.rect i.format (abyss_at i c.args.abyss)) c.put_at-placed.ensures)
