use Rattle.std.proofs.Common.{rules, ◌≡◌, ℕ, ◌+◌, ◌*◌, ◌<◌, ◌≤◌, get_or, sym, subst, ap, ◌∙◌, arith}
use Rattle.plane_rect.specs.Rectangle.{Inside}
use Rattle.pixel_formats.specs.Format.{channels, max_sample}
use Rattle.model_images.specs.Image.{Image, sample_index}
use Rattle.std.proofs.lemmas.Grind.{get_or_default_zero}
use Rattle.model_images.proofs.Samples.{sample_index_below}
use Rattle.model_images.proofs.Laws.{at_inside, at_no_channel, at_outside}
use Rattle.plain_images.proofs.Pictures.{at-most}
use Rattle.plain_images.proofs.picture.Picture.at.Goals as goal
use Rattle.plain_images.proofs.picture.Picture.at.Goals.{then-not-has_position-via-then-not-has_position, then-not-has_position-via-else-not-has_position+then-channel-channels}

pub returns-then-not-has_position-clause-value : goal.returns-then-not-has_position-clause-value
returns-then-not-has_position-clause-value c =
    let image : Image = record { box = c.self.inside.rect; format = c.self.inside.format; samples = c.self.inside.samples.items } in
    rw (← c.self.view_is)
    (elim c.then-not-has_position.branch [
      | then-not-has_position-via-then-not-has_position w ↦
          sym (at_outside image c.args.column c.args.row c.args.channel (search (rules, w.if-not-has_position)))
      | then-not-has_position-via-else-not-has_position+then-channel-channels w ↦
          sym (at_no_channel image c.args.column c.args.row c.args.channel (omega (arith, w.if-channel-channels, c.channels-channels.ensures)))
    ])

pub returns-clause-value : goal.returns-clause-value
returns-clause-value c =
    let image : Image = record { box = c.self.inside.rect; format = c.self.inside.format; samples = c.self.inside.samples.items } in
    let there : Inside c.args.column c.args.row image.box = search rules in
    let known : c.args.channel < channels image.format = omega (arith, c.if-channel-channels.false, c.channels-channels.ensures) in
    let i = sample_index image.box (channels image.format) c.args.column c.args.row c.args.channel in
    let index : c.offset-position.result * c.channels-channels.result + c.args.channel ≡ i =
    ap (λ (p : ℕ). p * c.channels-channels.result + c.args.channel) c.offset-position.ensures.value
    ∙ ap (λ (n : ℕ). sample_index image.box n c.args.column c.args.row c.args.channel) c.channels-channels.ensures in
    let below = sample_index_below image.box (channels image.format) c.args.column c.args.row c.args.channel there known in
    rw (← c.self.view_is)
    (c.index.ensures
    ∙ ap (λ (n : ℕ). get_or image.samples n c.index.result.now) index
    ∙ get_or_default_zero image.samples i c.index.result.now (omega (arith, below, c.self.invariant.whole))
    ∙ sym (at_inside image c.args.column c.args.row c.args.channel there known))

pub returns-clause-range : goal.returns-clause-range
returns-clause-range c =
    let image : Image = record { box = c.self.inside.rect; format = c.self.inside.format; samples = c.self.inside.samples.items } in
    let is = returns-clause-value c in
    subst (λ (n : ℕ). n ≤ max_sample c.args.self.now.format) (sym is) (rw (← c.self.view_is) (at-most image c.self.invariant c.args.column c.args.row c.args.channel))
