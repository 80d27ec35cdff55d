use Rattle.std.proofs.Common.{◌≡◌, ◌*◌, ◌∷◌, All, List, ℕ, length, ap, sym, subst, ◌∙◌}
use Rattle.std.proofs.lemmas.List.Elements.{All-head, All-nil, All-push, All-tail}
use Rattle.pixel_formats.specs.Format.{pixel_bytes}
use Rattle.plane_rect.specs.Tile.{IsWhole, Tile}
use Rattle.model_images.proofs.ByteLaws.{length-tile_bytes}
use Rattle.op_contracts.specs.TileList.{HasLength}
use Rattle.test_sessions.proofs.strips.pictures.tiles_of.Goals as goal

pub loop-at-init : goal.loop-at-init
loop-at-init c =
    let given : c.into_iter-at-iterator.result ≡ c.tiles-at-items.result = c.into_iter-at-iterator.ensures.into_iter_gives in
    record {
      can = tt;
      finite = tt;
      whole = subst (All IsWhole) (sym given) c.tiles-at-items.ensures.whole;
      in_plane = subst (All (λ (entry : Tile × List ℕ). IsWhole entry.0)) (sym c.new-entries.ensures.items) (All-nil (λ (entry : Tile × List ℕ). IsWhole entry.0));
      lengths = subst (All (HasLength (4096 * pixel_bytes c.args.patch.now.format))) (sym c.new-entries.ensures.items)
          (All-nil (HasLength (4096 * pixel_bytes c.args.patch.now.format)));
    }

pub loop-at-preserved : goal.loop-at-preserved
loop-at-preserved c =
    let at = c.in-Some.at in
    let rest = c.next.new.self in
    let entry : Tile × List ℕ = (at, c.in_ok-tile.tile) in
    let left : All IsWhole (at ∷ rest) = subst (All IsWhole) c.in-Some.ensures.steps c.loop-at.invariant.whole in
    let Whole : Tile × List ℕ → Type 0 = λ entry. IsWhole entry.0 in
    let Long = HasLength (4096 * pixel_bytes c.args.patch.now.format) in
    record {
      can = tt;
      finite = tt;
      whole = All-tail IsWhole at rest left;
      in_plane = subst (All Whole) (sym c.in_ok-push.ensures.items)
          (All-push Whole c.loop-at.entries.items entry c.loop-at.invariant.in_plane (All-head IsWhole at rest left));
      lengths = subst (All Long) (sym c.in_ok-push.ensures.items)
          (All-push Long c.loop-at.entries.items entry c.loop-at.invariant.lengths
          (ap length c.in_ok-tile.ensures ∙ length-tile_bytes c.args.patch.now at));
    }
