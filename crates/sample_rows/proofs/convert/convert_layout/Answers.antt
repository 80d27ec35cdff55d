use Rattle.std.proofs.Common.{◌≡◌, ℕ, length, arith}
use Rattle.pixel_formats.specs.Format.{channels}
use Rattle.simd_pixels.specs.Components.{component_for, components_of_gray, components_of_gray_alpha, components_of_colors, components_of_colors_alpha}
use Rattle.pixel_formats.specs.Row.{Pixel, pixel_count}
use Rattle.sample_rows.proofs.ConvertLaws.{converted_by_parts, converted_by_samples, gray_to, gray_alpha_to, colors_to, colors_alpha_to, four_channels, whole_pixels}
use Rattle.sample_rows.proofs.convert.convert_layout.Goals as goal

pub returns-then-channels : goal.returns-then-channels
returns-then-channels g c =
    converted_by_samples c.args.from c.args.to g.S.Lanes.depth g.D.Lanes.depth c.args.src.now c.convert_pixels.new.dst c.requires.depth c.requires.to_depth (omega arith)
    (whole_pixels c.args.to (length c.convert_pixels.new.dst) (pixel_count c.args.from c.args.src.now) (omega arith)) c.convert_pixels.ensures

pub returns-in-1 : goal.returns-in-1
returns-in-1 g c =
    let from = c.args.from in
    let to = c.args.to in
    let is : channels from ≡ 1 = omega arith in
    converted_by_parts from to g.S.Lanes.depth g.D.Lanes.depth 1
    (λ (max_sample : ℕ) (pixel : Pixel) (i : ℕ). components_of_gray max_sample pixel (component_for (channels to) i)) c.args.src.now c.convert_channels.new.dst c.requires.depth c.requires.to_depth is
    (gray_to from to is) c.convert_channels.ensures

pub returns-in-2 : goal.returns-in-2
returns-in-2 g c =
    let from = c.args.from in
    let to = c.args.to in
    let is : channels from ≡ 2 = omega arith in
    converted_by_parts from to g.S.Lanes.depth g.D.Lanes.depth 2
    (λ (max_sample : ℕ) (pixel : Pixel) (i : ℕ). components_of_gray_alpha pixel (component_for (channels to) i)) c.args.src.now c.convert_channels-in-2.new.dst c.requires.depth c.requires.to_depth is
    (gray_alpha_to from to is) c.convert_channels-in-2.ensures

pub returns-in-3 : goal.returns-in-3
returns-in-3 g c =
    let from = c.args.from in
    let to = c.args.to in
    let is : channels from ≡ 3 = omega arith in
    converted_by_parts from to g.S.Lanes.depth g.D.Lanes.depth 3
    (λ (max_sample : ℕ) (pixel : Pixel) (i : ℕ). components_of_colors max_sample pixel (component_for (channels to) i)) c.args.src.now c.convert_channels-in-3.new.dst c.requires.depth c.requires.to_depth is
    (colors_to from to is) c.convert_channels-in-3.ensures

pub returns-in_default : goal.returns-in_default
returns-in_default g c =
    let from = c.args.from in
    let to = c.args.to in
    let is : channels from ≡ 4 = four_channels from (λ e. absurd (omega arith)) (λ e. absurd (omega arith)) (λ e. absurd (omega arith)) in
    converted_by_parts from to g.S.Lanes.depth g.D.Lanes.depth 4
    (λ (max_sample : ℕ) (pixel : Pixel) (i : ℕ). components_of_colors_alpha pixel (component_for (channels to) i)) c.args.src.now c.convert_channels-in_default.new.dst c.requires.depth c.requires.to_depth is
    (colors_alpha_to from to is) c.convert_channels-in_default.ensures
