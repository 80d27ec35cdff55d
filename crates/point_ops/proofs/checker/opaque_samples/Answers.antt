use Rattle.std.proofs.Common.{◌≡◌, List, ℕ, ◌∷◌, [], ◌++◌, All, ap, ◌∙◌, sym, subst, arith, map}
use Rattle.std.specs.List.{range_with_len}
use Rattle.std.proofs.lemmas.List.Elements.{All-push}
use Rattle.std.proofs.lemmas.List.FromFn.{map-range_with_len_more}
use Rattle.point_ops.specs.Generated.{opaque_pixel}
use Rattle.patch_abyss.specs.Samples.{IsSampleOf}
use Rattle.point_ops.proofs.checker.opaque_samples.Goals as goal

pub loop-channel-preserved : goal.loop-channel-preserved
loop-channel-preserved c =
    let pixel = opaque_pixel c.args.format c.args.value in
    let n = c.loop-channel.channel in
    let old = c.loop-channel.samples.items in
    let sample = c.opaque_sample.result in
    let pushed : c.push.new.self.items ≡ old ++ sample ∷ [] = c.in_ok-push.ensures.items in
    record {
      samples = pushed
          ∙ ap (λ (xs : List ℕ). xs ++ sample ∷ []) c.loop-channel.invariant.samples
          ∙ ap (λ (x : ℕ). map pixel (range_with_len 0 n) ++ x ∷ []) c.opaque_sample.ensures.value
          ∙ sym (map-range_with_len_more pixel 0 n n (omega arith));
      each = subst (All (IsSampleOf c.args.format)) (sym pushed) (All-push (IsSampleOf c.args.format) old sample c.loop-channel.invariant.each c.opaque_sample.ensures.sample);
    }
