use Rattle.std.proofs.Common.{◌++◌, [], sym, subst}
use Rattle.chain_owners.specs.Owners.{Owns}
use Rattle.root_tiles.specs.Roots.{RootTiles, root_names}
use Rattle.test_buffers.proofs.roots.calls.share_and_release.Goals as goal

pub returns : goal.returns
returns g c =
    let root = c.args.root.now in
    let shared = c.in_ok-shared.shared in
    let first = g.C.ChainMeaning.held c.share.new.chain in
    let owns : Owns first (root_names shared ++ root_names root) =
    subst (λ (r : RootTiles). Owns first (root_names r ++ root_names root)) (sym c.in_ok-shared.ensures.root) c.in_ok-shared.ensures.owned in
    record {
      format = c.requires.format;
      over = c.other_roots_are_unchanged.ensures.over root first (g.C.ChainMeaning.held c.release.new.chain) (root_names shared) [] c.release.ensures.others owns
          c.share.ensures.over;
    }
