use Rattle.level_tables.specs.LevelTiles.{bytes_in}
use Rattle.root_tiles.specs.Cutting.{IsCut, cutting_of}
use Rattle.root_tiles.proofs.ChainReads.{read-none}
use Rattle.root_tiles.proofs.Cut.{cut-painted}
use Rattle.root_tiles.proofs.root.Root.next_tile.Goals as goal

pub returns-in-Some-clause-made : goal.returns-in-Some-clause-made
returns-in-Some-clause-made g c =
    let root = c.args.self.now in
    let cutting = cutting_of root c.args.rect c.args.paint.now in
    let cut : IsCut cutting c.args.at c.in-Some.tile = rw c.in-Some.is at c.in_ok-tile.ensures.ready cutting c.requires.ready in
    record {
      length = cut.length;
      painted = λ exposed. cut-painted cutting (bytes_in (g.C.ChainMeaning.held c.args.chain.now) root.tiles.put) c.args.at c.in-Some.tile c.requires.over.zero cut;
      cause = tt;
      read = read-none _;
    }
