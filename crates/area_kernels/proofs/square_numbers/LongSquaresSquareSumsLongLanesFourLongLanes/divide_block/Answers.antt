use Rattle.std.proofs.Common.{◌≡◌, ℕ, ◌+◌, slice_index, sym, ap, ◌∙◌, inl, inr, arith}
use Rattle.std.proofs.lemmas.Bool.{cases_lt}
use Rattle.std.proofs.lemmas.List.{get_or-set_other, get_or-set_same, length-set}
use Rattle.area_kernels.specs.Sequences.{mean_sum}
use Rattle.area_kernels.proofs.DivisorLaws.{mean-below}
use Rattle.area_kernels.proofs.square_numbers.LongSquaresSquareSumsLongLanesFourLongLanes.divide_block.Goals as goal

pub loop-lane-preserved : goal.loop-lane-preserved
loop-lane-preserved c =
    let lane = c.loop-lane.lane in
    let quotients = c.loop-lane.quotients in
    let squares = c.args.self.now in
    let mean : ℕ → ℕ = λ j. mean_sum c.args.divisor.count (slice_index squares.numbers (c.args.at + j)) in
    record {
      long = length-set quotients lane c.mean.result ∙ c.loop-lane.invariant.long;
      made = λ j lt. elim (cases_lt j lane) [
        | inl earlier ↦ get_or-set_other quotients lane j c.mean.result 0 (omega arith) ∙ c.loop-lane.invariant.made j earlier
        | inr last ↦
            let at : lane ≡ j = omega arith in
            ap (slice_index _) (sym at) ∙ get_or-set_same quotients lane c.mean.result 0 (omega (arith, c.loop-lane.invariant.long)) ∙ c.mean.ensures ∙ ap mean at
      ];
    }

pub narrow-requires : goal.narrow-requires
narrow-requires c j lt =
    let squares = c.args.self.now in
    let sum = slice_index squares.numbers (c.args.at + j) in
    let is : slice_index c.load_at-wide.result j ≡ mean_sum c.args.divisor.count sum =
    c.load_at-wide.ensures j lt ∙ ap (λ (k : ℕ). slice_index c.loop-lane.quotients k) (omega arith) ∙ c.loop-lane.invariant.made j (omega arith) in
    omega (arith, is, mean-below c.args.divisor.count 4294967295 sum c.args.divisor.some (c.requires.small (c.args.at + j)))

pub returns-clause-here : goal.returns-clause-here
returns-clause-here c j lt =
    c.store_at.ensures.here j lt ∙ c.narrow.ensures j lt ∙ c.load_at-wide.ensures j lt ∙ ap (λ (k : ℕ). slice_index c.loop-lane.quotients k) (omega arith)
    ∙ c.loop-lane.invariant.made j (omega arith)
