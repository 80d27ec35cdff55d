use Rattle.std.proofs.Common.{◌≡◌, ℕ, ◌∙◌, rules, arith, Err, refl, ap, sym, subst}
use Rattle.std.proofs.lemmas.Result.{err_from_is_err_and}
use Rattle.std.specs.Option.{option_map}
use Rattle.chain_owners.proofs.Growing.{grows-more, grows-same}
use Rattle.chain_owners.proofs.Ownership.{respects-both, respects-same}
use Rattle.chain_owners.specs.declared.swap_refused.SwapRefused.TheVariants.{NoMemory}
use Rattle.root_tiles.specs.Writes.{IsWritten}
use Rattle.chain_owners.specs.Owners.{Respects}
use Rattle.level_tables.specs.LevelTiles.{LevelTiles}
use Rattle.model_images.specs.Paint.{painted}
use Rattle.model_images.specs.TileCounts.{tile_count}
use Rattle.pixel_formats.specs.Row.{Pixel}
use Rattle.plane_rect.specs.Rectangle.{Includes, Rectangle}
use Rattle.root_tiles.specs.Chains.{ChainState, chain_state}
use Rattle.root_tiles.specs.Roots.{IsRootOver, RootTiles, root_image, root_names, root_shape}
use Rattle.root_tiles.proofs.Written.{given-up-image, given-up-others, given-up-over, switched-image, switched-over}
use Rattle.root_tiles.proofs.root.Root.write.Given
use Rattle.root_tiles.proofs.root.Root.write.Goals.{After-make}
use Rattle.root_tiles.proofs.root.Root.write.Goals as goal

pub make-requires-clause-inside : goal.make-requires-clause-inside
make-requires-clause-inside g c = subst (λ (box : Rectangle). Includes box c.args.rect) (sym (ap (λ (root : RootTiles). root.box) c.self.view_is)) c.requires.inside

pub make-requires-clause-fits : goal.make-requires-clause-fits
make-requires-clause-fits g c =
    let same : (record { box = c.self.inside.bounds; tiles = c.reserve.new.self.tiles }) ≡ c.args.self.now = ap (λ (tiles : LevelTiles). let r : RootTiles = record { box = c.self.inside.bounds; tiles = tiles } in r) c.reserve.ensures.tiles ∙ c.self.view_is in
    subst (λ (r : RootTiles). g.M.TileMaker.fits c.args.maker.now r c.args.rect) (sym same) c.requires.fits

-- ---- once the tiles are made

module _ (g : Given.Over) (c : After-make g) where
  -- the root, which has room for them
  abbrev root : RootTiles
  root = record { box = c.self.inside.bounds; tiles = c.reserve.new.self.tiles }

  same : root ≡ c.args.self.now
  same = ap (λ (tiles : LevelTiles). let r : RootTiles = record { box = c.self.inside.bounds; tiles = tiles } in r) c.reserve.ensures.tiles ∙ c.self.view_is

  abbrev f : ℕ → ℕ → Pixel
  f = g.M.TileMaker.pixels c.args.maker.now root.tiles.format c.args.rect

  abbrev s0 : ChainState
  s0 = chain_state g.C.ChainMeaning c.args.chain.now

  abbrev s2 : ChainState
  s2 = chain_state g.C.ChainMeaning c.make.new.chain

-- ---- what is left

-- there was no memory for them
unwritten : {X : Type 0} (r : Rectangle) (f : ℕ → ℕ → Pixel) (old new : RootTiles) (state : ChainState) → new ≡ old → IsRootOver old state.held
    → IsWritten {X = X} r f (Err NoMemory) old new state state
unwritten {X} r f old new state is over = subst (λ (root : RootTiles). IsWritten {X = X} r f (Err NoMemory) old root state state) (sym is) (record {
  image = tt;
  shape = refl;
  unchanged = refl;
  same = refl;
  over = over;
  cause = tt;
  left = record {
    others = respects-same state.held (root_names old);
    counts = grows-more 0 (tile_count r) state.counts state.counts (omega arith) (grows-same state.counts);
    loans = refl;
    valid = λ valid. valid;
  };
})

pub returns-in_err-reserve : goal.returns-in_err-reserve
returns-in_err-reserve g c =
    let same : (record { box = c.self.inside.bounds; tiles = c.reserve.new.self.tiles }) ≡ c.args.self.now = ap (λ (tiles : LevelTiles). let r : RootTiles = record { box = c.self.inside.bounds; tiles = tiles } in r) c.reserve.ensures.tiles ∙ c.self.view_is in
    let p = err_from_is_err_and c.from_residual.result c.from_residual.ensures.1 in
    rw (p.1, p.2) (unwritten c.args.rect (g.M.TileMaker.pixels c.args.maker.now c.args.self.now.tiles.format c.args.rect) c.args.self.now _ (chain_state g.C.ChainMeaning c.args.chain.now) same c.requires.over)

pub returns-in-Err : goal.returns-in-Err
returns-in-Err g c =
    let at = (goal.at.returns-in-Err g c).After-make in
    let n = tile_count c.args.rect in
    let made = c.make.ensures.made in
    let entries = c.make.new.made.entries in
    let held = (s0 g at).held in
    let new = g.C.ChainMeaning.held c.discard.new.chain in
    record {
      image = tt;
      shape = ap root_shape (same g at);
      unchanged = same g at;
      same = given-up-image (root g at) c.args.rect (f g at) n (s0 g at) (s2 g at) entries made new c.discard.ensures.others
          ∙ ap (λ (r : RootTiles). root_image r held) (same g at);
      over = given-up-over (root g at) c.args.rect (f g at) n (s0 g at) (s2 g at) entries made new c.discard.ensures.others;
      cause = search rules;
      left = record {
        others = subst (λ (r : RootTiles). Respects held new (root_names r) (root_names (root g at))) (same g at)
            (given-up-others (root g at) c.args.rect (f g at) n (s0 g at) (s2 g at) entries made new c.discard.ensures.others);
        counts = search rules;
        loans = search rules;
        valid = search rules;
      };
    }

pub returns : goal.returns
returns g c =
    let at = (goal.at.returns g c).After-make in
    let rect = c.args.rect in
    let n = tile_count rect in
    let made = c.make.ensures.made in
    let entries = c.make.new.made.entries in
    let tiles = c.switch.new.self.tiles in
    let held = (s0 g at).held in
    let new = g.C.ChainMeaning.held c.switch.new.chain in
    let over = subst (λ (r : RootTiles). IsRootOver r held) (sym (same g at)) c.requires.over in
    let inside = subst (λ (r : RootTiles). Includes r.box rect) (sym (same g at)) c.requires.inside in
    let all = c.in_default.ensures.all in
    let after : RootTiles = record { box = c.self.inside.bounds; tiles = tiles } in
    let P : RootTiles → Type 0 = λ r. root_image after new
    ≡ option_map (λ image. painted image rect (g.M.TileMaker.pixels c.args.maker.now r.tiles.format rect)) (root_image r held) in
    record {
      image = subst P (same g at)
          (switched-image (root g at) rect (f g at) n (s0 g at) (s2 g at) entries made tiles new
          c.switch.ensures.format c.switch.ensures.bytes c.switch.ensures.others.exposed over inside all);
      shape = search rules;
      unchanged = tt;
      same = tt;
      over = switched-over (root g at) rect (f g at) n (s0 g at) (s2 g at) entries made tiles new
          c.switch.ensures.format c.switch.ensures.bytes c.switch.ensures.others.exposed over inside all
          c.switch.ensures.over c.switch.ensures.positions;
      cause = tt;
      left = record {
        others = subst (λ (r : RootTiles). Respects held new (root_names r) (root_names after)) (same g at)
            (respects-both held (s2 g at).held (root_names (root g at)) _ made.others new (root_names after) c.switch.ensures.others);
        counts = search rules;
        loans = search rules;
        valid = search rules;
      };
    }
