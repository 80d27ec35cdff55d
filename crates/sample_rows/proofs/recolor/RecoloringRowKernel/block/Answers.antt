use Rattle.std.proofs.Common.{◌≡◌, ℕ, ◌<◌, cond}
use Rattle.pixel_formats.specs.Format.{max_sample_of}
use Rattle.pixel_formats.specs.Row.{sample_at}
use Rattle.sample_rows.proofs.VectorLaws.{written_two}
use Rattle.sample_rows.proofs.recolor.RecoloringRowKernel.block.Goals as goal

pub returns : goal.returns
returns g c =
    let L = g.L.Lanes in
    let P = g.P.Layout in
    let change = g.K.Recolor.change c.args.self.now.change in
    let cap = P.cap (max_sample_of L.depth) in
    let value : (ℕ → ℕ) → ℕ → ℕ = λ p i. cond (P.is_alpha i) (p i) (change (cap p) (p i)) in
    let same : (p q : ℕ → ℕ) → ((j : ℕ) → j < P.channels → p j ≡ q j) → (i : ℕ) → i < P.channels → value p i ≡ value q i =
    λ p q agree i within t. cond (P.is_alpha i) (agree i within t) (change (g.met.P.Layout.cap_of_pixel (max_sample_of L.depth) p q agree t) (agree i within t)) in
    written_two P.channels P.pixels g.met.P.Layout.sixteen g.met.P.Layout.index value same
    (sample_at L.depth c.args.src.now) (L.lane c.load_two-first.result.0) (L.lane c.load_two-first.result.1) (L.lane c.recolor-changed.result) (L.lane c.recolor-next.result)
    (sample_at L.depth c.store_two.new.dst) c.load_two-first.ensures c.store_two.ensures.here c.recolor-changed.ensures c.recolor-next.ensures
