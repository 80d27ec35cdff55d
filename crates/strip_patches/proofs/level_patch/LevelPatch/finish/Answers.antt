use Rattle.std.proofs.Common.{◌≡◌, ◌+◌, Ok, Err, Result, length, ap, sym, subst, ◌∙◌, arith}
use Rattle.std.specs.Prelude.{IfOk}
use Rattle.model_images.specs.Image.{Image}
use Rattle.model_images.specs.Level.{level}
use Rattle.model_images.specs.Paint.{cut}
use Rattle.model_images.proofs.LevelLaws.{level-format}
use Rattle.plane_rect.specs.Tile.{strip_rectangles}
use Rattle.strip_patches.specs.LevelStrips.{HasStrips, LevelStrips, source_of, strip_level}
use Rattle.strip_patches.proofs.Adding.{finished-box, request-finished}
use Rattle.strip_patches.proofs.level_patch.LevelPatch.finish.Goals as goal

-- what follows of the value of a result
on-ok : {X E : Type 0} (result : Result X E) (P Q : X → Type 0) → IfOk result P → ((x : X) → P x → Q x) → IfOk result Q
on-ok (Ok x) P Q is then = then x is
on-ok (Err e) P Q is then = tt

pub returns-clause-rect : goal.returns-clause-rect
returns-clause-rect c =
    let strips : LevelStrips = record { rect = c.self.inside.rect; at_level = c.self.inside.level; patch = c.self.inside.patch } in
    let levels : c.saturating_sub.result + strip_level c.self.inside.level ≡ c.self.inside.level = omega (arith, c.saturating_sub.ensures) in
    on-ok c.halved_patch.result (λ patch. patch ≡ level c.self.inside.patch c.saturating_sub.result) (λ patch. patch.box ≡ c.args.self.rect) c.halved_patch.ensures
    (λ patch is.
    finished-box patch strips c.saturating_sub.result c.self.invariant levels is
    ∙ ap (λ (x : LevelStrips). x.rect) c.self.view_is)

pub returns-clause-format : goal.returns-clause-format
returns-clause-format c =
    on-ok c.halved_patch.result (λ patch. patch ≡ level c.self.inside.patch c.saturating_sub.result) (λ patch. patch.format ≡ c.args.self.patch.format) c.halved_patch.ensures
    (λ patch is.
    ap (λ (x : Image). x.format) is ∙ level-format c.self.inside.patch c.saturating_sub.result
    ∙ ap (λ (x : LevelStrips). x.patch.format) c.self.view_is)

pub returns-clause-image : goal.returns-clause-image
returns-clause-image c = λ image has.
    let strips : LevelStrips = record { rect = c.self.inside.rect; at_level = c.self.inside.level; patch = c.self.inside.patch } in
    let levels : c.saturating_sub.result + strip_level c.self.inside.level ≡ c.self.inside.level = omega (arith, c.saturating_sub.ensures) in
    on-ok c.halved_patch.result (λ patch. patch ≡ level c.self.inside.patch c.saturating_sub.result)
    (λ patch. patch ≡ cut (level image c.args.self.at_level) c.args.self.rect) c.halved_patch.ensures
    (λ patch is.
    request-finished image patch strips c.saturating_sub.result c.self.invariant
    (subst (λ (x : LevelStrips). HasStrips image (length (strip_rectangles (source_of x))) x) (sym c.self.view_is) has) levels is
    ∙ ap (λ (x : LevelStrips). cut (level image x.at_level) x.rect) c.self.view_is)
