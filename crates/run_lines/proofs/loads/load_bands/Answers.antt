use Rattle.std.proofs.Common.{◌≡◌, ℕ, ◌-◌, ◌<◌, ◌≤◌, ◌==◌, List, Option, Some, Result, Ok, Err, IfSome, inl, refl, sym, ◌∙◌, subst, arith}
use Rattle.model_buffers.specs.declared.edit.BufferEdit.TheVariants.{Put}
use Rattle.model_graphs.specs.Facts.{fact_of}
use Rattle.model_images.specs.FromRaw.{byte_count}
use Rattle.commit_session.specs.Parts.{working_facts}
use Rattle.outside_io.specs.Files.{Files, file}
use Rattle.pixel_formats.specs.declared.format.Format.{Format}
use Rattle.plane_rect.specs.Rectangle.{Rectangle, end_row}
use Rattle.commit_session.specs.declared.refused.SessionRefused.{SessionRefused}
use Rattle.model_graphs.specs.declared.buffer.BufferFact.{BufferFact}
use Rattle.run_lines.specs.Moments.{HasFaults}
use Rattle.run_lines.proofs.Faults.{chain_faults, continues_same, faults_then}
use Rattle.run_lines.proofs.EditLines.{at_chain, stopped_faults}
use Rattle.run_lines.proofs.BandParts.{next-reached}
use Rattle.run_lines.proofs.LoadBands.{IsLoad, IsLoaded}
use Rattle.run_lines.proofs.LoadTurns.{all_some, roots-apart, turn_done, turn_put, turn_stopped}
use Rattle.run_lines.proofs.Loading.{known_fact, load_done, load_not_read, load_stopped}
use Rattle.run_lines.proofs.Stopping.{same_stop, same_stop_faults}
use Rattle.run_lines.specs.Bands.{bytes_of_rows, rows_between}
use Rattle.run_lines.specs.Edited.{IsEdited, SessionOver}
use Rattle.run_lines.specs.Rasters.{IsPartRead, IsTarget, IsUnread}
use Rattle.run_lines.specs.declared.loads.Target.{Target}
use Rattle.run_lines.specs.Stops.{stop_of}
use Rattle.run_lines.specs.declared.stop.Stop.{Stop}
use Rattle.run_lines.proofs.loads.load_bands.Given
use Rattle.run_lines.proofs.loads.load_bands.Goals.{After-put_band}
use Rattle.run_lines.proofs.loads.load_bands.Goals as goal

pub loop-bytes-init : goal.loop-bytes-init
loop-bytes-init g c =
    let old : SessionOver = record { parts = c.args.session.now; held = g.C.ChainMeaning.held c.args.chain.now; counts = g.C.ChainMeaning.counts c.args.chain.now } in
    let end = c.end_row-end.ensures.value in
    record {
      reached = record { first = omega (arith, end); some = λ some. omega (arith, end, some); last = omega (arith, end); edge = inl end };
      over = c.requires.over;
      loans = refl;
      valid = λ valid. valid;
      faults = λ text puts. chain_faults _ _ refl refl refl (continues_same old.counts old.counts refl);
      files = refl;
      layout = refl;
      loaded = all_some (g.F.Shelf.files c.args.shelf.now) (λ (files : Files). IsLoaded (file files c.args.file.now) c.args.target.now.name c.args.target.now.rect c.args.target.now.format c.end_row-end.result old old)
          (λ files. inl (end, refl));
    }

pub returns-in_err-read_band : goal.returns-in_err-read_band
returns-in_err-read_band g c = λ line text puts. record {
  did = λ exposed capacity state files holds.
      let target = c.args.target.now in
      let parts = c.args.session.now in
      let held = g.C.ChainMeaning.held c.args.chain.now in
      let later = g.C.ChainMeaning.held c.loop-bytes.chain in
      let shelf = g.F.Shelf.files c.args.shelf.now in
      let stop = c.in_err-read_band.field-0.0 in
      let fact = known_fact target.rect target.format (fact_of (working_facts parts) target.name) c.requires.target in
      let unread : IfSome shelf (λ (actual : Files). IsUnread (file actual c.args.file.now) (byte_count target.rect target.format) stop) =
      subst (λ (o : Option Files). IfSome o (λ (actual : Files). IsUnread (file actual c.args.file.now) (byte_count target.rect target.format) stop)) c.loop-bytes.invariant.files c.in_err-read_band.ensures.read in
      same_stop exposed capacity line state files _ stop _ _ _ c.loop-bytes.session later c.from_residual.ensures.1
      (load_not_read exposed capacity line state files parts held shelf target.name target.rect holds c.args.file.now stop fact.0 _ _ c.loop-bytes.session later fact.1 fact.2.inside
      (subst (λ (f : Format). IfSome shelf (λ (actual : Files). IsUnread (file actual c.args.file.now) (byte_count target.rect f) stop)) (sym fact.2.same) unread)
      (c.in_err-read_band.ensures.files ∙ c.loop-bytes.invariant.files) refl);
  faults =
      same_stop_faults c.read_band.result c.in_err-read_band.field-0.0 _ _ _ c.in_err-read_band.was c.from_residual.ensures.1
      (faults_then (Ok tt) _ _ _ _ (c.loop-bytes.invariant.faults text puts) (c.read_band.ensures.faults text puts (g.C.ChainMeaning.counts c.loop-bytes.chain)));
  over = c.loop-bytes.invariant.over;
  loans = c.loop-bytes.invariant.loans;
  valid = c.loop-bytes.invariant.valid;
}

-- the band that is put
module _ (g : Given.Over) (c : After-put_band g) where
  abbrev old : SessionOver
  old = record { parts = c.args.session.now; held = g.C.ChainMeaning.held c.args.chain.now; counts = g.C.ChainMeaning.counts c.args.chain.now }

  abbrev now : SessionOver
  now = record { parts = c.loop-bytes.session; held = g.C.ChainMeaning.held c.loop-bytes.chain; counts = g.C.ChainMeaning.counts c.loop-bytes.chain }

  abbrev next : SessionOver
  next = record { parts = c.put_band.new.session; held = g.C.ChainMeaning.held c.put_band.new.chain; counts = g.C.ChainMeaning.counts c.put_band.new.chain }

  abbrev shelf : Option Files
  shelf = g.F.Shelf.files c.args.shelf.now

  abbrev target : Target
  target = c.args.target.now

  abbrev read : List ℕ
  read = c.read_band.new.bytes.items

  abbrev Band : Result (Unit {0}) SessionRefused → Type 0
  Band result = IsEdited (Put target.name (rows_between target.rect c.band_row-row.result c.loop-bytes.end) read) result now next

  band : (result : Result (Unit {0}) SessionRefused) → IsEdited (Put target.name c.rows_between-band.result read) result now next → Band result
  band result edited = subst (λ (band : Rectangle). IsEdited (Put target.name band read) result now next) c.rows_between-band.ensures edited

  abbrev Part : Option Files → Type 0
  Part o = IfSome o (λ (actual : Files). IsPartRead (file actual c.args.file.now) (bytes_of_rows target.rect target.format (c.band_row-row.result - target.rect.first_row))
      (bytes_of_rows target.rect target.format (c.loop-bytes.end - c.band_row-row.result)) (c.loop-bytes.end == end_row target.rect) (byte_count target.rect target.format) read)

  part : Part shelf
  part = subst Part c.loop-bytes.invariant.files c.in_ok-read_band.ensures.read

  same_files : g.F.Shelf.files c.read_band.new.shelf ≡ shelf
  same_files = c.in_ok-read_band.ensures.files ∙ c.loop-bytes.invariant.files

  put : target.rect.first_row < c.band_row-row.result → Band (Ok tt) → IfSome shelf (λ (actual : Files). IsLoaded (file actual c.args.file.now) target.name target.rect target.format c.band_row-row.result old next)
  put =
      turn_put old now next target.name target.rect target.format c.requires.target (roots-apart old.parts old.held c.requires.over) c.loop-bytes.invariant.layout c.end_row-end.ensures.rectangle
      c.loop-bytes.end c.band_row-row.result c.loop-bytes.invariant.reached c.band_row-row.ensures shelf c.args.file.now read c.in_ok-read_band.ensures.length part c.loop-bytes.invariant.loaded

  done : c.band_row-row.result ≤ target.rect.first_row → Band (Ok tt) → IfSome shelf (λ (actual : Files). IsLoad (file actual c.args.file.now) target.name target.rect (Ok tt) old next)
  done =
      turn_done old now next target.name target.rect target.format c.requires.target (roots-apart old.parts old.held c.requires.over) c.loop-bytes.invariant.layout c.end_row-end.ensures.rectangle
      c.loop-bytes.end c.band_row-row.result c.loop-bytes.invariant.reached c.band_row-row.ensures shelf c.args.file.now read c.in_ok-read_band.ensures.length part c.loop-bytes.invariant.loaded

  stopped : (refused : SessionRefused) → Band (Err refused) → IfSome shelf (λ (actual : Files). IsLoad (file actual c.args.file.now) target.name target.rect (Err refused) old next)
  stopped =
      turn_stopped old now next target.name target.rect target.format c.requires.target (roots-apart old.parts old.held c.requires.over) c.loop-bytes.invariant.layout c.end_row-end.ensures.rectangle
      c.loop-bytes.end c.band_row-row.result c.loop-bytes.invariant.reached c.band_row-row.ensures shelf c.args.file.now read c.in_ok-read_band.ensures.length part c.loop-bytes.invariant.loaded

  fact : (fact : BufferFact) × (fact_of (working_facts old.parts) target.name ≡ Some fact) × IsTarget target.rect target.format fact
  fact = known_fact target.rect target.format (fact_of (working_facts old.parts) target.name) c.requires.target

  -- no I/O error came before the band was put
  read_faults : (text : Option (List ℕ)) (puts : ℕ) → HasFaults (Ok tt) (at_chain shelf text (g.F.Shelf.read_faults c.args.shelf.now) (g.F.Shelf.write_faults c.args.shelf.now) puts old.counts)
      (at_chain (g.F.Shelf.files c.read_band.new.shelf) text (g.F.Shelf.read_faults c.read_band.new.shelf) (g.F.Shelf.write_faults c.read_band.new.shelf) puts now.counts)
  read_faults text puts = faults_then (Ok tt) (Ok tt) _ _ _ (c.loop-bytes.invariant.faults text puts) (c.in_ok-read_band.ensures.faults text puts now.counts)

pub returns-in_err-bytes : goal.returns-in_err-bytes
returns-in_err-bytes g c = λ line text puts. record {
  did = λ exposed capacity state files holds.
      let at = (goal.at.returns-in_err-bytes g c).After-put_band in
      let target = c.args.target.now in
      let refused = c.in_err-bytes.field-0.0 in
      same_stop exposed capacity line state files _ (stop_of refused) _ _ _ (next g at).parts (next g at).held c.from_residual-in_err-bytes.ensures.1
      (load_stopped exposed capacity line state files (old g at) (next g at) (shelf g at) target.name target.rect c.args.file.now (fact g at).0 text _ _ _ _ _ _ _ (same_files g at) holds (fact g at).1 refused
      (stopped g at refused (band g at (Err refused) c.in_err-bytes.ensures.edited)));
  faults =
      let at = (goal.at.returns-in_err-bytes g c).After-put_band in
      let refused = c.in_err-bytes.field-0.0 in
      let put = Put c.args.target.now.name c.rows_between-band.result (read g at) in
      let stopped : Result (Unit {0}) Stop = Err (stop_of refused) in
      same_stop_faults stopped (stop_of refused) _ _ _ refl c.from_residual-in_err-bytes.ensures.1
      (faults_then (Ok tt) _ _ _ _ (read_faults g at text puts) (stopped_faults put (now g at) (next g at) _ text _ _ puts refused c.in_err-bytes.ensures.edited));
  over = c.in_err-bytes.ensures.over;
  loans = c.in_err-bytes.ensures.loans ∙ c.loop-bytes.invariant.loans;
  valid = λ valid. c.in_err-bytes.ensures.valid (c.loop-bytes.invariant.valid valid);
}

pub returns-then-row-first_row : goal.returns-then-row-first_row
returns-then-row-first_row g c = λ line text puts. record {
  did = λ exposed capacity state files holds.
      let at = (goal.at.returns-then-row-first_row g c).After-put_band in
      let target = c.args.target.now in
      let none : c.band_row-row.result ≤ target.rect.first_row = omega (arith, c.if-row-first_row.true, c.first_row.ensures.value) in
      load_done exposed capacity line state files (old g at) (next g at) (shelf g at) target.name target.rect c.args.file.now (fact g at).0 text _ _ _ _ _ _ _ (same_files g at) holds (fact g at).1
      (done g at none (band g at (Ok tt) c.in_ok-bytes.ensures.edited));
  faults =
      let at = (goal.at.returns-then-row-first_row g c).After-put_band in
      faults_then (Ok tt) (Ok tt) _ _ _ (read_faults g at text puts) (chain_faults _ _ refl refl refl c.in_ok-bytes.ensures.edited.counts.continues);
  over = c.in_ok-bytes.ensures.over;
  loans = c.in_ok-bytes.ensures.loans ∙ c.loop-bytes.invariant.loans;
  valid = λ valid. c.in_ok-bytes.ensures.valid (c.loop-bytes.invariant.valid valid);
}

pub loop-bytes-preserved : goal.loop-bytes-preserved
loop-bytes-preserved g c =
    let at = (goal.at.loop-bytes-preserved g c).After-put_band in
    let left : c.args.target.now.rect.first_row < c.band_row-row.result = omega (arith, c.if-row-first_row.false, c.first_row.ensures.value) in
    record {
      reached = next-reached c.args.target.now.rect c.loop-bytes.end c.band_row-row.result c.loop-bytes.invariant.reached c.band_row-row.ensures left;
      over = c.in_ok-bytes.ensures.over;
      loans = c.in_ok-bytes.ensures.loans ∙ c.loop-bytes.invariant.loans;
      valid = λ valid. c.in_ok-bytes.ensures.valid (c.loop-bytes.invariant.valid valid);
      faults = λ text puts. faults_then (Ok tt) (Ok tt) _ _ _ (read_faults g at text puts) (chain_faults _ _ refl refl refl c.in_ok-bytes.ensures.edited.counts.continues);
      files = same_files g at;
      layout = c.in_ok-bytes.ensures.layout ∙ c.loop-bytes.invariant.layout;
      loaded = put g at left (band g at (Ok tt) c.in_ok-bytes.ensures.edited);
    }
