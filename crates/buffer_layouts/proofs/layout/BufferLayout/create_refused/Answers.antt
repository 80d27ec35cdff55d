use Rattle.std.proofs.Common.{◌<◌, ◌≤◌, ap, sym, subst, length, ◌∙◌}
use Rattle.std.specs.Option.{is_some}
use Rattle.pixel_formats.specs.Limits.{max_buffers}
use Rattle.model_graphs.specs.Facts.{Facts}
use Rattle.buffer_layouts.proofs.Answering.{addable, full, taken}
use Rattle.buffer_layouts.proofs.layout.BufferLayout.create_refused.Goals as goal

pub returns-then-is_some : goal.returns-then-is_some
returns-then-is_some c =
    let known = c.is_some.ensures ∙ ap is_some c.fact.ensures.value in
    λ format extent. taken c.args.self.now.layout c.args.name (sym known ∙ c.if-is_some.true)

pub returns-then-facts-ge-MAX_BUFFERS : goal.returns-then-facts-ge-MAX_BUFFERS
returns-then-facts-ge-MAX_BUFFERS c =
    let known = c.is_some.ensures ∙ ap is_some c.fact.ensures.value in
    let many = subst (λ (facts : Facts). max_buffers ≤ length facts) c.facts.ensures.facts c.if-facts-ge-MAX_BUFFERS.true in
    λ format extent. full c.args.self.now.layout c.args.name (sym known ∙ c.if-is_some.false) many

pub returns : goal.returns
returns c =
    let known = c.is_some.ensures ∙ ap is_some c.fact.ensures.value in
    let few = subst (λ (facts : Facts). length facts < max_buffers) c.facts.ensures.facts c.if-facts-ge-MAX_BUFFERS.false in
    λ format extent. addable c.args.self.now.layout c.args.name (sym known ∙ c.if-is_some.false) few
