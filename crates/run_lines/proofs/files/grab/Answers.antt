use Rattle.std.proofs.Common.{Result, Ok, Err, refl}
use Rattle.run_lines.specs.Moments.{Moment}
use Rattle.run_lines.proofs.Grabbing.{grab-faults, grab_done, grab_ended, grab_stopped}
use Rattle.run_lines.proofs.Seen.{moment}
use Rattle.run_lines.proofs.Stopping.{same_stop, same_stop_faults}
use Rattle.run_lines.proofs.Writing.{file-faults}
use Rattle.run_lines.specs.Stops.{stop_of}
use Rattle.run_lines.specs.declared.stop.Stop.{Stop}
use Rattle.run_lines.specs.declared.stop.Stop.TheVariants as stops
use Rattle.run_lines.proofs.files.grab.Goals as goal

pub returns-in_err-patch : goal.returns-in_err-patch
returns-in_err-patch g c = record {
  did = λ exposed capacity state files holds.
      let line = c.args.line.number in
      let parts = c.args.session.now in
      let held = g.C.ChainMeaning.held c.args.chain.now in
      let later = g.C.ChainMeaning.held c.grab.new.chain in
      let before : Moment = moment g.F.Shelf g.O.Sink g.C.ChainMeaning c.args.shelf.now c.args.out.now c.args.chain.now in
      let after : Moment = record before { chain = g.C.ChainMeaning.counts c.grab.new.chain } in
      (same_stop exposed capacity line state files _ _ _ _ _ c.grab.new.self later c.from_residual.ensures.1
      (grab_stopped exposed capacity line state files parts c.grab.new.self held later c.args.line.name c.args.line.level c.args.line.abyss c.args.line.rect c.args.line.file before after holds refl refl
      c.in_err-patch.field-0.0 c.in_err-patch.ensures.cause (λ none. (let other = c.in_err-patch.ensures.unknown none in cc))));
  faults =
      let before : Moment = moment g.F.Shelf g.O.Sink g.C.ChainMeaning c.args.shelf.now c.args.out.now c.args.chain.now in
      let after : Moment = record before { chain = g.C.ChainMeaning.counts c.grab.new.chain } in
      let refused = c.in_err-patch.field-0.0 in
      let stopped : Result (Unit {0}) Stop = Err (stop_of refused) in
      same_stop_faults stopped (stop_of refused) _ before after refl c.from_residual.ensures.1
      (grab-faults c.args.session.now.versions.working.layout c.args.line.name c.args.line.level refused before after c.in_err-patch.ensures.cause refl refl refl c.in_err-patch.ensures.left.counts.continues);
  over = c.in_err-patch.ensures.over;
  loans = c.in_err-patch.ensures.left.loans;
  valid = c.in_err-patch.ensures.left.valid;
}

pub returns-in_err-write_grab : goal.returns-in_err-write_grab
returns-in_err-write_grab g c =
    let before : Moment = moment g.F.Shelf g.O.Sink g.C.ChainMeaning c.args.shelf.now c.args.out.now c.args.chain.now in
    let after : Moment = moment g.F.Shelf g.O.Sink g.C.ChainMeaning c.write_grab.new.shelf c.write_grab.new.out c.grab.new.chain in
    let end = c.in_err-write_grab.field-0.0 in
    record {
      did = λ exposed capacity state files holds.
          (same_stop exposed capacity c.args.line.number state files _ _ _ _ _ c.grab.new.self (g.C.ChainMeaning.held c.grab.new.chain) c.from_residual-in_err-write_grab.ensures.1
          (grab_ended exposed capacity c.args.line.number state files c.args.session.now c.grab.new.self (g.C.ChainMeaning.held c.args.chain.now) (g.C.ChainMeaning.held c.grab.new.chain)
          c.args.line.name c.args.line.level c.args.line.abyss c.args.line.rect c.args.line.file before after holds (λ none. (let other = c.in_ok-patch.ensures.unknown none in cc))
          _ _ c.in_ok-patch.ensures.shape c.in_ok-patch.ensures.image c.raw_bytes.ensures.value c.raw_bytes.ensures.count _ c.in_err-write_grab.ensures.cause.room c.in_err-write_grab.ensures.leaves
          end refl));
      faults =
          let stopped : Result (Unit {0}) Stop = Err (stops.Ended end) in
          same_stop_faults stopped (stops.Ended end) _ before after refl c.from_residual-in_err-write_grab.ensures.1
          (file-faults (Err end) before after c.in_ok-patch.ensures.left.counts.continues c.in_err-write_grab.ensures.cause);
      over = c.in_ok-patch.ensures.over;
      loans = c.in_ok-patch.ensures.left.loans;
      valid = c.in_ok-patch.ensures.left.valid;
    }

pub returns : goal.returns
returns g c =
    let before : Moment = moment g.F.Shelf g.O.Sink g.C.ChainMeaning c.args.shelf.now c.args.out.now c.args.chain.now in
    let after : Moment = moment g.F.Shelf g.O.Sink g.C.ChainMeaning c.write_grab.new.shelf c.write_grab.new.out c.grab.new.chain in
    record {
      did = λ exposed capacity state files holds.
          (grab_done exposed capacity c.args.line.number state files c.args.session.now c.grab.new.self (g.C.ChainMeaning.held c.args.chain.now) (g.C.ChainMeaning.held c.grab.new.chain)
          c.args.line.name c.args.line.level c.args.line.abyss c.args.line.rect c.args.line.file before after holds (λ none. (let other = c.in_ok-patch.ensures.unknown none in cc))
          _ _ c.in_ok-patch.ensures.shape c.in_ok-patch.ensures.image c.raw_bytes.ensures.value c.raw_bytes.ensures.count _ c.in_ok-write_grab.ensures.cause.room c.in_ok-write_grab.ensures.leaves
          refl c.in_ok-patch.ensures.states.capacity c.in_ok-patch.ensures.left.others.exposed (c.in_ok-patch.ensures.same state.session holds.session) c.in_ok-patch.ensures.left.counts);
      faults = file-faults (Ok tt) before after c.in_ok-patch.ensures.left.counts.continues c.in_ok-write_grab.ensures.cause;
      over = c.in_ok-patch.ensures.over;
      loans = c.in_ok-patch.ensures.left.loans;
      valid = c.in_ok-patch.ensures.left.valid;
    }
