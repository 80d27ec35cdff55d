use Rattle.std.proofs.Common.{◌≡◌, ℕ, List, Option, IfSome, Ok}
use Rattle.commit_session.specs.Seen.{IsOver}
use Rattle.model_operations.specs.Meanings.{int_meanings, same_operation}
use Rattle.outside_io.specs.Files.{Files, file}
use Rattle.run_lines.specs.Moments.{HasFaults}
use Rattle.run_lines.specs.Bands.{IsReached}
use Rattle.run_lines.proofs.LoadBands.{IsLoaded}
use Rattle.run_lines.proofs.loads.load_bands.Given as goal

abbrev pub invariant-loop-bytes : goal.invariant-loop-bytes
invariant-loop-bytes g l = record {
  reached : IsReached l.target.rect l.end;
  over : IsOver same_operation int_meanings l.session (g.C.ChainMeaning.held l.chain);
  loans : g.C.ChainMeaning.loans l.chain ≡ g.C.ChainMeaning.loans l.fn.chain;
  valid : g.C.ChainMeaning.is_valid l.fn.chain → g.C.ChainMeaning.is_valid l.chain;
  faults : (text : Option (List ℕ)) (puts : ℕ) → HasFaults (Ok tt)
      (record { files = g.F.Shelf.files l.fn.shelf; text = text; reads = g.F.Shelf.read_faults l.fn.shelf; writes = g.F.Shelf.write_faults l.fn.shelf; puts = puts; chain = g.C.ChainMeaning.counts l.fn.chain })
      (record { files = g.F.Shelf.files l.shelf; text = text; reads = g.F.Shelf.read_faults l.shelf; writes = g.F.Shelf.write_faults l.shelf; puts = puts; chain = g.C.ChainMeaning.counts l.chain });
  files : g.F.Shelf.files l.shelf ≡ g.F.Shelf.files l.fn.shelf;
  layout : l.session.versions.working.layout ≡ l.fn.session.versions.working.layout;
  loaded : IfSome (g.F.Shelf.files l.fn.shelf) (λ (files : Files). IsLoaded (file files l.file) l.target.name l.target.rect l.target.format l.end
      (record { parts = l.fn.session; held = g.C.ChainMeaning.held l.fn.chain; counts = g.C.ChainMeaning.counts l.fn.chain })
      (record { parts = l.session; held = g.C.ChainMeaning.held l.chain; counts = g.C.ChainMeaning.counts l.chain }));
}

abbrev pub decreases-loop-bytes : goal.decreases-loop-bytes
decreases-loop-bytes g l = l.end
