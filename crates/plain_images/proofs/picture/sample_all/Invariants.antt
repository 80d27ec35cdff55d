use Rattle.std.proofs.Common.{◌≡◌, ℕ, ◌%◌, map}
use Rattle.std.specs.List.{range_with_len}
use Rattle.model_images.specs.Image.{column_of, row_of}
use Rattle.plain_images.specs.Picture.{AreSamples}
use Rattle.plain_images.proofs.picture.sample_all.Given as goal

abbrev pub invariant-loop-index : goal.invariant-loop-index
invariant-loop-index g l = record {
  value : (l.all.items ≡ map (λ (i : ℕ). g.S.Samples.value l.samples (column_of l.rect l.channels i) (row_of l.rect l.channels i) (i % l.channels)) (range_with_len 0 l.index));
  range : AreSamples (g.S.Samples.sample_format l.samples) l.all.items;
}
