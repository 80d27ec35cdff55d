use Rattle.std.proofs.Common.{Err, refl, sym, ◌∙◌, arith}
use Rattle.model_runs.specs.declared.ending.End.TheVariants as ends
use Rattle.run_lines.proofs.Faults.{continues_same, faults_of_swap}
use Rattle.run_lines.specs.Moments.{HasFaults, Moment}
use Rattle.run_lines.proofs.Loading.{load_out_of_bounds, load_unknown}
use Rattle.run_lines.specs.Rasters.{IsTarget}
use Rattle.run_lines.proofs.loads.load.Goals as goal

refused_faults : (now : Moment) → HasFaults (Err ends.Refused) now now
refused_faults now = faults_of_swap (Err ends.Refused) now now refl (λ e. absurd (cc)) (omega arith) (omega arith) (omega arith) (continues_same now.chain now.chain refl)

pub returns-in_default : goal.returns-in_default
returns-in_default g c = λ line text puts. record {
  did = λ exposed capacity state files holds.
      let parts = c.args.session.now in
      let held = g.C.ChainMeaning.held c.args.chain.now in
      let shelf = g.F.Shelf.files c.args.shelf.now in
      (record {
        effect = load_unknown exposed capacity line state files parts held shelf c.args.name c.args.rect holds c.args.file.now (sym c.extent.ensures ∙ c.in_default.is);
        files = refl;
        text = refl;
      });
  faults = refused_faults _;
  over = c.requires.over;
  loans = refl;
  valid = λ valid. valid;
}

pub returns-then-not-contains : goal.returns-then-not-contains
returns-then-not-contains g c = λ line text puts. record {
  did = λ exposed capacity state files holds.
      let parts = c.args.session.now in
      let held = g.C.ChainMeaning.held c.args.chain.now in
      let shelf = g.F.Shelf.files c.args.shelf.now in
      (record {
        effect = load_out_of_bounds exposed capacity line state files parts held shelf c.args.name c.args.rect holds c.args.file.now c.in-Some.fact
            (sym c.extent.ensures ∙ c.in-Some.is) (sym c.contains.ensures.value ∙ c.if-not-contains.true);
        files = refl;
        text = refl;
      });
  faults = refused_faults _;
  over = c.requires.over;
  loans = refl;
  valid = λ valid. valid;
}

pub load_bands-requires-clause-target : goal.load_bands-requires-clause-target
load_bands-requires-clause-target g c κs within =
    let inside : IsTarget c.args.rect c.in-Some.fact.format c.in-Some.fact = record { inside = sym c.contains.ensures.value ∙ c.if-not-contains.false; same = refl } in
    rw (sym c.extent.ensures ∙ c.in-Some.is) inside

pub returns : goal.returns
returns g c = c.load_bands.ensures
