use Rattle.std.proofs.Common.{◌≡◌, ◌+◌, ◌-◌, ◌*◌, ◌/◌, ◌%◌, min, cond, leb, ap, ◌∙◌, arith}
use Rattle.sample_rows.proofs.GainLaws.{factor_in_bits, scaled_is_gained, small}
use Rattle.sample_rows.proofs.gain.factors_of.Goals as goal

pub returns-clause-small : goal.returns-clause-small
returns-clause-small c =
    let last = c.last_within.result in
    let at : c.min.result ≡ min (c.args.num * (65536 * c.args.levels) / c.args.den + min 1 (c.args.num * (65536 * c.args.levels) % c.args.den)) (65536 * c.args.levels * c.args.levels - 1) =
    c.min.ensures ∙ (λ p. min (c.div_ceil-factor.ensures p) (c.saturating_mul-most.ensures p - 1))
    ∙ factor_in_bits c.args.num c.args.den c.args.levels last c.requires.num c.requires.some c.requires.den c.requires.some_levels c.requires.few_levels
    c.last_within.ensures.bound c.last_within.ensures.within c.last_within.ensures.last in
    omega (
      arith,
      ap (λ f. last * f) at,
      c.div_ceil.ensures,
      small c.args.num c.args.den c.args.levels last c.requires.num c.requires.some c.requires.den c.requires.some_levels c.requires.few_levels
          c.last_within.ensures.bound c.last_within.ensures.within c.last_within.ensures.last,
    )

pub returns-clause-exact : goal.returns-clause-exact
returns-clause-exact c cap color cap_lt lt =
    let last = c.last_within.result in
    let levels = c.args.levels in
    let at : c.min.result ≡ min (c.args.num * (65536 * levels) / c.args.den + min 1 (c.args.num * (65536 * levels) % c.args.den)) (65536 * levels * levels - 1) =
    c.min.ensures ∙ (λ p. min (c.div_ceil-factor.ensures p) (c.saturating_mul-most.ensures p - 1))
    ∙ factor_in_bits c.args.num c.args.den levels last c.requires.num c.requires.some c.requires.den c.requires.some_levels c.requires.few_levels
    c.last_within.ensures.bound c.last_within.ensures.within c.last_within.ensures.last in
    (λ p. min cap (cond (leb color last) ((color * at p + c.div_ceil.ensures p) / (65536 * levels)) (levels - 1)))
    ∙ scaled_is_gained c.args.num c.args.den levels last c.requires.num c.requires.some c.requires.den c.requires.some_levels c.requires.few_levels
    c.last_within.ensures.bound c.last_within.ensures.within c.last_within.ensures.last cap color cap_lt lt
