use Rattle.std.proofs.Common.{◌≡◌, ℕ, ◌<◌, get_or, subst, sym, List}
use Rattle.std.proofs.lemmas.Result.{IfOk-weaker}
use Rattle.model_images.specs.Image.{image_from_fn}
use Rattle.pixel_formats.specs.Format.{channels, depth}
use Rattle.pixel_formats.specs.Row.{sample_at}
use Rattle.root_tiles.specs.Paints.{IsSolid}
use Rattle.root_tiles.proofs.Solid.{corner, solid-tile}
use Rattle.root_tiles.proofs.root.Root.solid_tile.Goals as goal

pub returns-clause-solid : goal.returns-clause-solid
returns-clause-solid c =
    let format = c.args.self.now.tiles.format in
    let items = c.into_raw.result.items in
    let is : c.in_ok-solid.solid ≡ image_from_fn corner format (λ u v k. get_or c.args.samples.now k 0) =
    rw (c.spanning-square.ensures, c.format.ensures) at c.in_ok-solid.ensures in
    let both = solid-tile format c.args.samples.now c.in_ok-solid.solid items is c.into_raw.ensures.value c.into_raw.ensures.count in
    IfOk-weaker c.from_vec.result (λ tile. tile ≡ items) (IsSolid format) (λ tile e. subst (IsSolid format) (sym e) both.0) c.from_vec.ensures

pub returns-clause-samples : goal.returns-clause-samples
returns-clause-samples c =
    let format = c.args.self.now.tiles.format in
    let samples = c.args.samples.now in
    let items = c.into_raw.result.items in
    let is : c.in_ok-solid.solid ≡ image_from_fn corner format (λ u v k. get_or samples k 0) =
    rw (c.spanning-square.ensures, c.format.ensures) at c.in_ok-solid.ensures in
    let both = solid-tile format samples c.in_ok-solid.solid items is c.into_raw.ensures.value c.into_raw.ensures.count in
    let P : List ℕ → Type 0 = λ bytes. (k : ℕ) → k < channels format → sample_at (depth format) bytes k ≡ get_or samples k 0 in
    IfOk-weaker c.from_vec.result (λ tile. tile ≡ items) P (λ tile e. subst P (sym e) both.1) c.from_vec.ensures
