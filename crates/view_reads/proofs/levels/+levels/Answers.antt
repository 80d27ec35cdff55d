use Rattle.std.proofs.Common.{◌≡◌, ℕ, suc, ◌-◌, ◌*◌, ◌∙◌, ◌∷◌, List, Contains, Option, length, refl, sym, ap, subst, arith}
use Rattle.std.proofs.lemmas.Result.{IfOk-weaker, err_from_is_err_and}
use Rattle.std.specs.Prelude.{IfSome, replicate}
use Rattle.level_tables.specs.Over.{IsTileOfLevel, tile_length}
use Rattle.model_images.specs.Image.{Image}
use Rattle.model_images.specs.Level.{halved_image, level_box, source_of_level}
use Rattle.model_images.specs.Paint.{blank}
use Rattle.model_images.specs.Raw.{tile_bytes}
use Rattle.model_images.proofs.AgreeingLevels.{Inside-source_of_tile}
use Rattle.model_images.proofs.ByteLaws.{length-tile_bytes}
use Rattle.pixel_formats.specs.Format.{pixel_bytes}
use Rattle.pixel_formats.specs.declared.format.Format.{Format}
use Rattle.plane_rect.specs.Rectangle.{Inside, Rectangle, meet}
use Rattle.plane_rect.specs.Tile.{Tile, tile_at, tile_square}
use Rattle.root_tiles.specs.Growth.{root_state}
use Rattle.root_tiles.specs.Roots.{IsPartOf, root_image}
use Rattle.chain_owners.proofs.Growing.{grows-same}
use Rattle.root_tiles.proofs.MoreTiles.{cause-later, read-holds, tiles-both, tiles-raise}
use Rattle.view_reads.specs.Views.{IsPartOfLevel, view_image}
use Rattle.root_tiles.proofs.ChainReads.{read-none}
use Rattle.view_reads.proofs.Growing.{inside-after, reads-nothing, view-after}
use Rattle.view_reads.proofs.LevelParts.{edge-exact, level-laid-first, level-laid-last, level-laid-next, rectangle-plane}
use Rattle.view_reads.proofs.ViewTiles.{level-first, part-first, view-inside, view-outside}
use Rattle.view_reads.proofs.levels.+levels.Goals as goal

-- ---- a part

pub level_part-returns-then-level-eq0-clause-image : goal.level_part-returns-then-level-eq0-clause-image
level_part-returns-then-level-eq0-clause-image g t c =
    let view = view_image c.args.root.now c.args.extent (g.C.ChainMeaning.held c.args.chain.now) in
    IfOk-weaker c.first_part.result (IsPartOf view c.args.rect) (IsPartOfLevel view c.args.level c.args.rect)
    (λ patch is. subst (λ (n : ℕ). IsPartOfLevel view n c.args.rect patch) (sym c.if-level-eq0.true) (part-first view c.args.rect patch is)) c.first_part.ensures.image

pub level_part-returns-then-level-eq0-clause-reads : goal.level_part-returns-then-level-eq0-clause-reads
level_part-returns-then-level-eq0-clause-reads g t c =
    reads-nothing c.args.level c.first_part.result c.args.root.now _ _ c.requires.view.over c.first_part.ensures.cause c.first_part.ensures.read

pub level_part-returns-in_err-patch-clause-reads : goal.level_part-returns-in_err-patch-clause-reads
level_part-returns-in_err-patch-clause-reads g t c =
    let p = err_from_is_err_and c.from_residual.result c.from_residual.ensures.1 in
    reads-nothing c.args.level c.from_residual.result c.args.root.now _ _ c.requires.view.over (rw (p.1, p.2) tt) (read-none _)

pub level_part-loop-at-init : goal.level_part-loop-at-init
level_part-loop-at-init g t c =
    let root = c.args.root.now in
    let rect = c.args.rect in
    let held = g.C.ChainMeaning.held c.args.chain.now in
    let counts = g.C.ChainMeaning.counts c.args.chain.now in
    let tiles = c.into_iter-at-iterator.result in
    let is : c.in_ok-patch.patch ≡ blank rect root.tiles.format = c.in_ok-patch.ensures ∙ ap (blank rect) c.format.ensures in
    let given : tiles ≡ c.tiles-at-items.result = c.into_iter-at-iterator.ensures.into_iter_gives in
    let shared : c.meet.result ≡ meet rect (level_box c.args.extent c.args.level) = c.meet.ensures.value ∙ ap (meet rect) c.level_box.ensures in
    let all : (u v : ℕ) → Inside u v (meet rect (level_box c.args.extent c.args.level)) → Contains tiles (tile_at u v) =
    λ u v there. subst (λ (ts : List Tile). Contains ts (tile_at u v)) (sym given)
    ((c.tiles-at-items.ensures.meeting (tile_at u v)).1 (u, v, subst (λ (r : Rectangle). Inside u v r) (sym shared) there, refl)) in (
      tt,
      tt,
      record {
        shape = record { box = ap (λ (image : Image). image.box) is; format = ap (λ (image : Image). image.format) is };
        more = read-holds c.args.level root held held counts counts c.requires.view.over refl (grows-same counts);
        over = c.requires.view.over;
        inside = c.requires.view.inside;
        loans = refl;
        valid = λ is. is;
        laid = level-laid-first root c.args.extent held c.args.level rect c.in_ok-patch.patch tiles is all;
      },
    )

pub level_part-returns-in_err-tile-clause-reads : goal.level_part-returns-in_err-tile-clause-reads
level_part-returns-in_err-tile-clause-reads g t c =
    let s0 = root_state c.args.root.now (g.C.ChainMeaning.held c.args.chain.now) (g.C.ChainMeaning.counts c.args.chain.now) in
    let s1 = root_state c.loop-at.root (g.C.ChainMeaning.held c.loop-at.chain) (g.C.ChainMeaning.counts c.loop-at.chain) in
    let s2 = root_state c.level_tile.new.root (g.C.ChainMeaning.held c.level_tile.new.chain) (g.C.ChainMeaning.counts c.level_tile.new.chain) in
    let before = c.loop-at.invariant.2 in
    let p = err_from_is_err_and c.from_residual-in_err-tile.result c.from_residual-in_err-tile.ensures.1 in
    rw (p.1, p.2) (record {
      more = tiles-both c.args.level s0 s1 s2 before.more c.level_tile.ensures.reads.more;
      causes = λ top low. cause-later c.args.level s0 s1 s2 before.more top low _ (c.in_err-tile.ensures.reads.causes top low);
      loans = c.level_tile.ensures.reads.loans ∙ before.loans;
      valid = λ is. c.level_tile.ensures.reads.valid (before.valid is);
    })

pub level_part-loop-at-preserved : goal.level_part-loop-at-preserved
level_part-loop-at-preserved g t c =
    let root = c.args.root.now in
    let held = g.C.ChainMeaning.held c.args.chain.now in
    let before = c.loop-at.invariant.2 in
    let s0 = root_state root held (g.C.ChainMeaning.counts c.args.chain.now) in
    let s1 = root_state c.loop-at.root (g.C.ChainMeaning.held c.loop-at.chain) (g.C.ChainMeaning.counts c.loop-at.chain) in
    let s2 = root_state c.level_tile.new.root (g.C.ChainMeaning.held c.level_tile.new.chain) (g.C.ChainMeaning.counts c.level_tile.new.chain) in
    let steps : c.loop-at.at-iterator ≡ c.in-Some.at ∷ c.next.new.self = c.in-Some.ensures.steps in
    let put = c.put_tile.ensures in
    let P : Option Image → Type 0 = λ o. IsTileOfLevel o c.args.level c.in-Some.at c.in_ok-tile.tile in
    let exact = subst P (view-after c.args.level s0 s1 before.more c.args.extent) c.in_ok-tile.ensures.bytes in (
      tt,
      tt,
      record {
        shape = record {
          box = ap (λ (image : Image). image.box) put ∙ before.shape.box;
          format = ap (λ (image : Image). image.format) put ∙ before.shape.format;
        };
        more = tiles-both c.args.level s0 s1 s2 before.more c.level_tile.ensures.reads.more;
        over = c.level_tile.ensures.reads.more.over;
        inside = inside-after c.args.level s1 s2 c.level_tile.ensures.reads.more c.args.extent before.inside;
        loans = c.level_tile.ensures.reads.loans ∙ before.loans;
        valid = λ is. c.level_tile.ensures.reads.valid (before.valid is);
        laid = level-laid-next root c.args.extent held c.args.level c.loop-at.patch c.put_tile.new.self c.in-Some.at c.in_ok-tile.tile c.next.new.self c.loop-at.at-iterator
            steps before.shape.format put exact before.laid;
      },
    )

pub level_part-returns-clause-image : goal.level_part-returns-clause-image
level_part-returns-clause-image g t c =
    let end = c.loop-at.invariant.2 in
    level-laid-last c.args.root.now c.args.extent (g.C.ChainMeaning.held c.args.chain.now) c.args.level c.args.rect c.loop-at.patch c.loop-at.at-iterator
    c.in-None.ensures.steps.0 end.shape.format end.shape.box end.laid

-- ---- a tile

pub level_tile-returns-in-Outside-clause-bytes : goal.level_tile-returns-in-Outside-clause-bytes
level_tile-returns-in-Outside-clause-bytes g t c =
    let root = c.args.root.now in
    let held = g.C.ChainMeaning.held c.args.chain.now in
    let at = c.args.at in
    let none : (u v : ℕ) → Inside u v (source_of_level (tile_square at) c.args.level) → ¬ Inside u v c.args.extent =
    λ u v source there. c.in-Outside.ensures u v (rectangle-plane u v c.args.extent c.requires.view.rectangle there) there
    ((Inside-source_of_tile u v at c.args.level).0 source) in
    IfOk-weaker c.zero_tile.result (λ tile. tile ≡ replicate (tile_length root.tiles.format) 0) (IsTileOfLevel (view_image root c.args.extent held) c.args.level at)
    (λ tile zero. view-outside root c.args.extent held c.requires.view.over c.requires.view.inside c.requires.view.rectangle c.args.level at tile none zero) c.zero_tile.ensures.bytes

pub level_tile-returns-in-Outside-clause-reads : goal.level_tile-returns-in-Outside-clause-reads
level_tile-returns-in-Outside-clause-reads g t c =
    reads-nothing c.args.level c.zero_tile.result c.args.root.now _ _ c.requires.view.over c.zero_tile.ensures.cause c.zero_tile.ensures.read

pub level_tile-returns-in-Contained-clause-bytes : goal.level_tile-returns-in-Contained-clause-bytes
level_tile-returns-in-Contained-clause-bytes g t c =
    let root = c.args.root.now in
    let held = g.C.ChainMeaning.held c.args.chain.now in
    let at = c.args.at in
    let all : (u v : ℕ) → Inside u v (source_of_level (tile_square at) c.args.level) → Inside u v root.box → Inside u v c.args.extent =
    λ u v source there. c.in-Contained.ensures u v (rectangle-plane u v root.box c.requires.view.over.rectangle there)
    ((Inside-source_of_tile u v at c.args.level).0 source) (subst (λ (r : Rectangle). Inside u v r) (sym c.bounds.ensures) there) in
    IfOk-weaker c.tile.result (IsTileOfLevel (root_image root held) c.args.level at) (IsTileOfLevel (view_image root c.args.extent held) c.args.level at)
    (λ tile is. view-inside root c.args.extent held c.requires.view.over c.requires.view.inside c.requires.view.rectangle c.args.level at tile all is) c.tile.ensures.bytes

-- ---- a tile that is averaged for the view alone

pub level_tile-returns-in-Edge-clause-bytes : goal.level_tile-returns-in-Edge-clause-bytes
level_tile-returns-in-Edge-clause-bytes g t c =
    let view = view_image c.args.root.now c.args.extent (g.C.ChainMeaning.held c.args.chain.now) in
    IfOk-weaker c.view_tile.result (λ tile. IfSome view (λ image. tile ≡ tile_bytes image c.args.at)) (IsTileOfLevel view c.args.level c.args.at)
    (λ tile is. subst (λ (n : ℕ). IsTileOfLevel view n c.args.at tile) (sym c.if-level-eq0.true) (level-first view c.args.at tile is)) c.view_tile.ensures.bytes

pub level_tile-returns-in-Edge-clause-reads : goal.level_tile-returns-in-Edge-clause-reads
level_tile-returns-in-Edge-clause-reads g t c =
    reads-nothing c.args.level c.view_tile.result c.args.root.now _ _ c.requires.view.over c.view_tile.ensures.cause c.view_tile.ensures.read

pub level_tile-returns-in_err-part-in-Edge-2-clause-reads : goal.level_tile-returns-in_err-part-in-Edge-2-clause-reads
level_tile-returns-in_err-part-in-Edge-2-clause-reads g t c =
    let p = err_from_is_err_and c.from_residual.result c.from_residual.ensures.1 in
    rw (p.1, p.2) (record {
      more = tiles-raise (c.args.level - 1) c.args.level (root_state c.args.root.now (g.C.ChainMeaning.held c.args.chain.now) (g.C.ChainMeaning.counts c.args.chain.now))
          (root_state c.level_part.new.root (g.C.ChainMeaning.held c.level_part.new.chain) (g.C.ChainMeaning.counts c.level_part.new.chain)) (omega arith) c.level_part.ensures.reads.more;
      causes = λ top low. c.in_err-part-in-Edge-2.ensures.reads.causes top (omega (arith, low));
      loans = c.level_part.ensures.reads.loans;
      valid = c.level_part.ensures.reads.valid;
    })

pub level_tile-returns-in_err-half_tile-in-Edge-2-clause-reads : goal.level_tile-returns-in_err-half_tile-in-Edge-2-clause-reads
level_tile-returns-in_err-half_tile-in-Edge-2-clause-reads g t c =
    let p = err_from_is_err_and c.from_residual-in_err-half_tile-in-Edge-2.result c.from_residual-in_err-half_tile-in-Edge-2.ensures.1 in
    rw (p.1, p.2) (record {
      more = tiles-raise (c.args.level - 1) c.args.level (root_state c.args.root.now (g.C.ChainMeaning.held c.args.chain.now) (g.C.ChainMeaning.counts c.args.chain.now))
          (root_state c.level_part.new.root (g.C.ChainMeaning.held c.level_part.new.chain) (g.C.ChainMeaning.counts c.level_part.new.chain)) (omega arith) c.level_part.ensures.reads.more;
      causes = λ top low. tt;
      loans = c.level_part.ensures.reads.loans;
      valid = c.level_part.ensures.reads.valid;
    })

pub level_tile-returns-in_ok-half_tile-in-Edge-2-clause-reads : goal.level_tile-returns-in_ok-half_tile-in-Edge-2-clause-reads
level_tile-returns-in_ok-half_tile-in-Edge-2-clause-reads g t c =
    record {
      more = tiles-raise (c.args.level - 1) c.args.level (root_state c.args.root.now (g.C.ChainMeaning.held c.args.chain.now) (g.C.ChainMeaning.counts c.args.chain.now))
          (root_state c.level_part.new.root (g.C.ChainMeaning.held c.level_part.new.chain) (g.C.ChainMeaning.counts c.level_part.new.chain)) (omega arith) c.level_part.ensures.reads.more;
      causes = λ top low. tt;
      loans = c.level_part.ensures.reads.loans;
      valid = c.level_part.ensures.reads.valid;
    }

pub level_tile-returns-in_ok-half_tile-in-Edge-2-clause-bytes : goal.level_tile-returns-in_ok-half_tile-in-Edge-2-clause-bytes
level_tile-returns-in_ok-half_tile-in-Edge-2-clause-bytes g t c =
    let next : c.args.level ≡ suc (c.args.level - 1) = omega (arith, c.if-level-eq0.false) in
    edge-exact c.args.root.now c.args.extent (g.C.ChainMeaning.held c.args.chain.now) (c.args.level - 1) c.args.level c.square_below.result c.args.at
    c.in_ok-part-in-Edge-2.part c.in_ok-half_tile-in-Edge-2.field-0 c.requires.view.rectangle c.square_below.ensures.rectangle c.square_below.ensures.positions next
    c.in_ok-part-in-Edge-2.ensures.image c.in_ok-half_tile-in-Edge-2.ensures

pub level_tile-returns-in_ok-half_tile-in-Edge-2-clause-length : goal.level_tile-returns-in_ok-half_tile-in-Edge-2-clause-length
level_tile-returns-in_ok-half_tile-in-Edge-2-clause-length g t c =
    ap (λ (bytes : List ℕ). length bytes) c.in_ok-half_tile-in-Edge-2.ensures
    ∙ length-tile_bytes (halved_image c.in_ok-part-in-Edge-2.part) c.args.at
    ∙ ap (λ (f : Format). 4096 * pixel_bytes f) c.in_ok-part-in-Edge-2.ensures.shape.format
