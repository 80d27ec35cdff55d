use Rattle.std.proofs.Common.{◌≡◌, ◌+◌, ◌≤◌, ℕ, List, Some, length, take, arith, sym, ap, ◌∙◌}
use Rattle.std.specs.FinMap as map
use Rattle.std.proofs.lemmas.List.{take_at, length-take-le}
use Rattle.outside_io.specs.Swap.{Blocks}
use Rattle.tile_cow.specs.Tile.{IsTileLength}
use Rattle.swap_store.specs.Content.{bytes_in}
use Rattle.swap_store.specs.Run.{blocks_for}
use Rattle.swap_store.proofs.Exposed.{exposed_weaker}
use Rattle.swap_store.proofs.Contents.{known_len, known_extent, content-get}
use Rattle.swap_store.proofs.store.Store.get.Given
use Rattle.swap_store.proofs.store.Store.get.Goals.{After-deref, After-unwrap-first}
use Rattle.swap_store.proofs.store.Store.get.Goals as goal

pub unwrap-first-requires : goal.unwrap-first-requires
unwrap-first-requires g c =
    rw c.extent.ensures.value (known_extent c.self.inside.map.extents c.args.name c.args.len (rw (← c.self.view_is) at c.requires))

-- ---- the extent of the name

module _ (g : Given.Over) (c : After-unwrap-first g) where
  known : map.get c.self.inside.map.extents c.args.name ≡ Some c.unwrap-first.result
  known = sym c.extent.ensures.value ∙ c.unwrap-first.ensures

  len : c.unwrap-first.result.len ≡ c.args.len
  len = known_len c.self.inside.map.extents c.args.name c.args.len c.unwrap-first.result (rw (← c.self.view_is) at c.requires) known

  size : IsTileLength c.args.len
  size = rw (← len) (c.extent.ensures.laws.fits c.args.name c.unwrap-first.result known).0

  within : c.unwrap-first.result.first + blocks_for c.args.len ≤ c.self.inside.map.used
  within = rw (← len) (c.extent.ensures.laws.fits c.args.name c.unwrap-first.result known).1

pub read_extent-requires-clause-size : goal.read_extent-requires-clause-size
read_extent-requires-clause-size g c = size g (goal.at.read_extent-requires-clause-size g c).After-unwrap-first

pub read_extent-requires-clause-known : goal.read_extent-requires-clause-known
read_extent-requires-clause-known g c =
    omega (arith, within g (goal.at.read_extent-requires-clause-known g c).After-unwrap-first, c.self.invariant.0)

pub read_extent-requires-clause-bound : goal.read_extent-requires-clause-bound
read_extent-requires-clause-bound g c =
    omega (arith, within g (goal.at.read_extent-requires-clause-bound g c).After-unwrap-first, c.extent.ensures.laws.bounded)

-- ---- the bytes that are read

module _ (g : Given.Over) (c : After-deref g) where
  spare : c.deref.result.now ≡ c.read_extent.new.into
  spare =
      let whole : length c.read_extent.new.into ≡ 65536 = omega (arith, c.read_extent.auto.into, c.deref_mut.ensures.len, c.self.invariant.1) in
      c.deref.ensures.value ∙ take_at c.read_extent.new.into _ _ (omega (arith, whole, c.self.invariant.1))

  count : IsTileLength c.args.len → length (take c.args.len c.deref.result.now) ≡ c.args.len
  count fits =
      length-take-le c.args.len c.deref.result.now
      (omega (arith, ap (λ (ys : List ℕ). length ys) spare, c.read_extent.auto.into, c.deref_mut.ensures.len, c.self.invariant.1, fits))

pub slice_bounds-of-end : goal.slice_bounds-of-end
slice_bounds-of-end g c =
    let at = goal.at.slice_bounds-of-end g c in
    sym (count g at.After-deref (size g at.After-unwrap-first))

pub of-requires : goal.of-requires
of-requires g c =
    let at = goal.at.of-requires g c in
    let fits = size g at.After-unwrap-first in
    rw (count g at.After-deref fits) fits

pub returns-clause-length : goal.returns-clause-length
returns-clause-length g c =
    let at = goal.at.returns-clause-length g c in
    ap (λ (ys : List ℕ). length ys) c.in_ok-of.ensures ∙ count g at.After-deref (size g at.After-unwrap-first)

pub returns-clause-bytes : goal.returns-clause-bytes
returns-clause-bytes g c =
    let at = goal.at.returns-clause-bytes g c in
    let e = c.unwrap-first.result in
    let into = c.read_extent.new.into in
    let exposed = g.D.SwapDisk.blocks c.self.inside.disk in
    let tile : c.in_ok-of.field-0 ≡ take c.args.len into = c.in_ok-of.ensures ∙ ap (take c.args.len) (spare g at.After-deref) in
    let R : Blocks → Type 0 = λ blocks. take c.args.len into ≡ bytes_in blocks (record { first = e.first; len = c.args.len }) in
    let B : Blocks → Type 0 = λ blocks. c.in_ok-of.field-0 ≡ bytes_in blocks e in
    rw (← c.self.view_is)
    (content-get c.self.inside.map.extents c.args.name e c.in_ok-of.field-0 exposed (known g at.After-unwrap-first)
    (exposed_weaker exposed R B (λ blocks is. tile ∙ is ∙ ap (λ n. bytes_in blocks (record { first = e.first; len = n })) (sym (len g at.After-unwrap-first)))
    c.in_ok-read_extent.ensures.read))
