use Rattle.std.proofs.Common.{IsTrue, is_some, length, Result, Ok, Err, refl, sym, ap, ◌∙◌}
use Rattle.plane_rect.specs.Rectangle.{scaled}
use Rattle.model_runs.specs.Effects.{writes}
use Rattle.run_lines.specs.Moments.{Moment}
use Rattle.run_lines.proofs.Rendered.{IsLeft, render-done, render-ended, render-faults, render-stopped, shown-by}
use Rattle.run_lines.proofs.Seen.{moment}
use Rattle.run_lines.proofs.Stopping.{same_stop, same_stop_faults}
use Rattle.run_lines.proofs.Writing.{file-faults}
use Rattle.run_lines.specs.Stops.{stop_of}
use Rattle.run_lines.specs.declared.stop.Stop.{Stop}
use Rattle.run_lines.specs.declared.stop.Stop.TheVariants as stops
use Rattle.model_runs.specs.Events.{events_alone}
use Rattle.model_runs.specs.Texts.{render_text}
use Rattle.run_lines.proofs.renders.render.Goals as goal

pub returns-in_err-picture : goal.returns-in_err-picture
returns-in_err-picture g c = record {
  did = λ exposed capacity state files holds.
      let line = c.args.line.number in
      let ensures = c.in_err-picture.ensures in
      let before : Moment = moment g.F.Shelf g.O.Sink g.C.ChainMeaning c.args.shelf.now c.args.out.now c.args.chain.now in
      let after : Moment = record before { chain = g.C.ChainMeaning.counts c.render.new.chain } in
      let readable : IsTrue (is_some (scaled c.args.line.level c.args.line.rect)) = c.requires.limits.scaled in
      (same_stop exposed capacity line state files _ _ _ _ _ _ _ c.from_residual.ensures.1
      (render-stopped exposed capacity line state files c.args.session.now c.render.new.self (g.C.ChainMeaning.held c.args.chain.now) (g.C.ChainMeaning.held c.render.new.chain)
      c.args.line.name c.args.line.level c.args.line.rect c.args.line.file before after holds ensures.stated refl refl c.in_err-picture.field-0.0 readable ensures.cause));
  faults =
      let ensures = c.in_err-picture.ensures in
      let before : Moment = moment g.F.Shelf g.O.Sink g.C.ChainMeaning c.args.shelf.now c.args.out.now c.args.chain.now in
      let after : Moment = record before { chain = g.C.ChainMeaning.counts c.render.new.chain } in
      let refused = c.in_err-picture.field-0.0 in
      let stopped : Result (Unit {0}) Stop = Err (stop_of refused) in
      same_stop_faults stopped (stop_of refused) _ before after refl c.from_residual.ensures.1
      (render-faults refused _ before after ensures.cause (λ swap. swap.1) refl refl refl ensures.left.counts.continues);
  over = c.in_err-picture.ensures.over;
  loans = c.in_err-picture.ensures.left.loans;
  valid = c.in_err-picture.ensures.left.valid;
}

pub returns-in_err-write_render : goal.returns-in_err-write_render
returns-in_err-write_render g c =
    let before : Moment = moment g.F.Shelf g.O.Sink g.C.ChainMeaning c.args.shelf.now c.args.out.now c.args.chain.now in
    let after : Moment = moment g.F.Shelf g.O.Sink g.C.ChainMeaning c.write_render.new.shelf c.write_render.new.out c.render.new.chain in
    let ensures = c.in_ok-picture.ensures in
    let end = c.in_err-write_render.field-0.0 in
    record {
      did = λ exposed capacity state files holds.
          let written = shown-by exposed state c.args.session.now c.args.line.name c.args.line.level c.args.line.rect c.in_ok-picture.picture ensures.rect ensures.format
          (λ e. ensures.image state.session holds.session (holds.content ∙ e))
          (λ bytes. events_alone (writes c.args.line.file bytes (render_text c.args.line.number c.number.result (length bytes)))) _ _ _ c.in_err-write_render.ensures.leaves in
          (same_stop exposed capacity c.args.line.number state files _ _ _ _ _ _ _ c.from_residual-in_err-write_render.ensures.1
          (render-ended exposed capacity c.args.line.number state files c.args.session.now c.render.new.self (g.C.ChainMeaning.held c.args.chain.now) (g.C.ChainMeaning.held c.render.new.chain)
          c.args.line.name c.args.line.level c.args.line.rect c.args.line.file before after holds ensures.stated ensures.can written.0 written.1 c.number.result
          (c.number.ensures ∙ ap (λ graph. graph.number) ensures.states.graph ∙ sym holds.session.retained.number) _ c.in_err-write_render.ensures.cause.room written.2 end refl));
      faults =
          let stopped : Result (Unit {0}) Stop = Err (stops.Ended end) in
          same_stop_faults stopped (stops.Ended end) _ before after refl c.from_residual-in_err-write_render.ensures.1
          (file-faults (Err end) before after ensures.left.counts.continues c.in_err-write_render.ensures.cause);
      over = ensures.over;
      loans = ensures.left.loans;
      valid = ensures.left.valid;
    }

pub returns : goal.returns
returns g c =
    let before : Moment = moment g.F.Shelf g.O.Sink g.C.ChainMeaning c.args.shelf.now c.args.out.now c.args.chain.now in
    let after : Moment = moment g.F.Shelf g.O.Sink g.C.ChainMeaning c.write_render.new.shelf c.write_render.new.out c.render.new.chain in
    let ensures = c.in_ok-picture.ensures in
    record {
      did = λ exposed capacity state files holds.
          let written = shown-by exposed state c.args.session.now c.args.line.name c.args.line.level c.args.line.rect c.in_ok-picture.picture ensures.rect ensures.format
          (λ e. ensures.image state.session holds.session (holds.content ∙ e))
          (λ bytes. events_alone (writes c.args.line.file bytes (render_text c.args.line.number c.number.result (length bytes)))) _ _ _ c.in_ok-write_render.ensures.leaves in
          let left : IsLeft state c.args.session.now c.render.new.self (g.C.ChainMeaning.held c.args.chain.now) (g.C.ChainMeaning.held c.render.new.chain) c.args.line.name c.args.line.level c.args.line.rect before.chain after.chain = record {
            session = ensures.session state.session holds.session;
            states = ensures.states;
            content = ensures.left.others.exposed;
            continues = ensures.left.counts.continues;
            others = ensures.other_names;
          } in
          (render-done exposed capacity c.args.line.number state files c.args.session.now c.render.new.self (g.C.ChainMeaning.held c.args.chain.now) (g.C.ChainMeaning.held c.render.new.chain)
          c.args.line.name c.args.line.level c.args.line.rect c.args.line.file before after holds ensures.stated ensures.can written.0 written.1 c.number.result
          (c.number.ensures ∙ ap (λ graph. graph.number) ensures.states.graph ∙ sym holds.session.retained.number) _ c.in_ok-write_render.ensures.cause.room written.2 refl left);
      faults = file-faults (Ok tt) before after ensures.left.counts.continues c.in_ok-write_render.ensures.cause;
      over = ensures.over;
      loans = ensures.left.loans;
      valid = ensures.left.valid;
    }
