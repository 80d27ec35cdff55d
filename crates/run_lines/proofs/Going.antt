-- Lines that are carried out one after another.
use Rattle.std.proofs.Common.{◌≡◌, ◌≢◌, ℕ, Bool, List, [], ◌∷◌, Result, Ok, Err, IfOk, refl, sym, ap, ◌∙◌, subst}
use Rattle.std.specs.Result.{IsErrAnd}
use Rattle.chain_owners.specs.Held.{Held}
use Rattle.commit_session.specs.Parts.{Parts}
use Rattle.model_runs.specs.Counts.{HasTrueCounts, true_counts}
use Rattle.model_operations.specs.declared.operation.IntOp.{IntOp}
use Rattle.model_runs.specs.Effects.{effect}
use Rattle.model_runs.specs.Ending.{Leaves}
use Rattle.model_runs.specs.Run.{effects, files_after_all, state_after}
use Rattle.model_runs.specs.State.{Effect, RunState, refuses}
use Rattle.model_runs.specs.declared.ending.End.{End}
use Rattle.model_runs.specs.declared.ending.End.TheVariants as ends
use Rattle.model_sessions.specs.Sessions.{Counts, counts_of}
use Rattle.outside_io.specs.Files.{Files}
use Rattle.run_lines.proofs.Carrying.{carried_by_leaves}
use Rattle.run_lines.proofs.EventLines.{line_unrefused, lines_end, lines_then, none_left, state_then}
use Rattle.run_lines.specs.Carried.{CarriesOut, CarriesOutLines, IsCounted, most_of_line, outcome_of_line}
use Rattle.run_lines.specs.Moments.{Moment, world_at}
use Rattle.run_lines.specs.States.{Holds}
use Rattle.run_lines.specs.Stops.{Does, IsRefused}
use Rattle.model_runs.specs.Events.{refusal}
use Rattle.model_runs.specs.World.{World}
use Rattle.model_runs.specs.declared.cause.Cause.{Cause}
use Rattle.script_read.specs.declared.command.Line.{Line}

-- ---- a line that is refused

no_ok : (line : ℕ) (cause : Cause) (result : Result (Unit {0}) End) (old new : World) (P : Type 0) → Leaves (refusal line cause) result old new → IfOk result (λ _. P)
no_ok line cause (Ok done) old new P leaves = absurd (let none = leaves.refused in cc)
no_ok line cause (Err end) old new P leaves = tt

-- what is left between the same files and texts
pub leaves_between : (line : ℕ) (cause : Cause) (result : Result (Unit {0}) End) (old mid new : Moment) → mid.files ≡ old.files → mid.text ≡ old.text → new.files ≡ mid.files →
    Leaves (refusal line cause) result (record { files = mid.files; text = mid.text }) (record { files = mid.files; text = new.text }) →
    Leaves (refusal line cause) result (world_at old) (world_at new)
leaves_between line cause result old mid new files text same leaves =
    let old_is : (let w : World = record { files = mid.files; text = mid.text } in w) ≡ world_at old = cc in
    let new_is : (let w : World = record { files = mid.files; text = new.text } in w) ≡ world_at new = cc in
    subst (λ (w : World). Leaves (refusal line cause) result w (world_at new)) old_is
    (subst (λ (w : World). Leaves (refusal line cause) result (record { files = mid.files; text = mid.text }) w) new_is leaves)

-- the text of a refusal was put, or the run ended at it
pub refusal_does : (exposed : Bool) (capacity line : ℕ) (state : RunState) (files : Files) (done : Effect) (cause : Cause) (result : Result (Unit {0}) End) (old mid new : Moment) (parts : Parts IntOp) (held : Held) →
    IsRefused line state done cause old mid → new.files ≡ mid.files → result ≢ Err ends.SwapFull →
    Leaves (refusal line cause) result (record { files = mid.files; text = mid.text }) (record { files = mid.files; text = new.text }) →
    Does exposed capacity state files done result old new parts held
refusal_does exposed capacity line state files done cause result old mid new parts held is same room leaves =
    let world : Leaves (refusal line cause) result (world_at old) (world_at new) = leaves_between line cause result old mid new is.files is.text same leaves in
    record {
      carried = subst (λ (e : Effect). CarriesOut exposed (outcome_of_line e) (most_of_line capacity state old.chain.names e) result old new) (sym is.effect)
          (carried_by_leaves exposed (refusal line cause) (most_of_line capacity state old.chain.names (refuses line state cause)) result old new room world);
      next = no_ok line cause result (world_at old) (world_at new) _ world;
      names = no_ok line cause result (world_at old) (world_at new) _ world;
    }

-- ---- lines

-- Lines are carried out up to a position: the session is that of a state there, whose counts stay the true ones up to
-- the end, and what the rest does completes what all do.
pub record Reached (exposed : Bool) (capacity : ℕ) (state : RunState) (files : Files) (all rest : List Line) (first now : Moment) (parts : Parts IntOp) (held : Held) : Type 0 where
  pub there : RunState
  pub found : Files
  pub holds : Holds exposed capacity there found parts held now.files
  pub counts : HasTrueCounts (state_after there (effects capacity there found rest))
  pub last : state_after there (effects capacity there found rest) ≡ state_after state (effects capacity state files all)
  pub on : (result : Result (Unit {0}) End) (new : Moment) → CarriesOutLines exposed capacity there found rest result now new → CarriesOutLines exposed capacity state files all result first new

module _ (exposed : Bool) (capacity : ℕ) (state : RunState) (files : Files) (all : List Line) (first : Moment) where
  pub reached_first : (parts : Parts IntOp) (held : Held) → Holds exposed capacity state files parts held first.files → HasTrueCounts (state_after state (effects capacity state files all)) →
      Reached exposed capacity state files all all first first parts held
  reached_first parts held holds counts = record { there = state; found = files; holds = holds; counts = counts; last = refl; on = λ result new carried. carried }

  pub reached_next : (line : Line) (rest : List Line) (now next : Moment) (parts later : Parts IntOp) (held after : Held) →
      (reached : Reached exposed capacity state files all (line ∷ rest) first now parts held) →
      Does exposed capacity reached.there reached.found (effect capacity reached.there reached.found line.number line.command) (Ok tt) now next later after →
      Reached exposed capacity state files all rest first next later after
  reached_next line rest now next parts later held after reached does =
      let there = reached.there in
      let found = reached.found in
      let done = effect capacity there found line.number line.command in
      let none = line_unrefused exposed capacity there found line rest _ now next does.carried in
      record {
        there = done.next;
        found = files_after_all done.events found;
        holds = does.next;
        counts = subst HasTrueCounts (state_then exposed capacity there found line rest none) reached.counts;
        last = sym (state_then exposed capacity there found line rest none) ∙ reached.last;
        on = λ result new carried. reached.on result new (lines_then exposed capacity there found line rest result now next new does.carried does.names carried);
      }

  pub reached_end : (line : Line) (rest : List Line) (end : End) (now new : Moment) (parts later : Parts IntOp) (held after : Held) →
      (reached : Reached exposed capacity state files all (line ∷ rest) first now parts held) →
      Does exposed capacity reached.there reached.found (effect capacity reached.there reached.found line.number line.command) (Err end) now new later after →
      CarriesOutLines exposed capacity state files all (Err end) first new
  reached_end line rest end now new parts later held after reached does =
      reached.on (Err end) new (lines_end exposed capacity reached.there reached.found line rest end now new does.carried)

  -- the counts of the session are those of the last state
  pub reached_counts : (now : Moment) (parts : Parts IntOp) (held : Held) → Reached exposed capacity state files all [] first now parts held →
      IsCounted (state_after state (effects capacity state files all)) parts.applied parts.reused
  reached_counts now parts held reached =
      let there = reached.there in
      let shown : counts_of there.session ≡ true_counts there = reached.counts.reported in
      let here : IsCounted there parts.applied parts.reused = record {
        applied = sym reached.holds.session.applied ∙ ap (λ (c : Counts). c.applied) shown;
        reused = sym reached.holds.session.reused ∙ ap (λ (c : Counts). c.reused) shown;
      } in
      subst (λ (s : RunState). IsCounted s parts.applied parts.reused) reached.last here

  -- all lines are carried out
  pub reached_all : (now : Moment) (parts : Parts IntOp) (held : Held) → Reached exposed capacity state files all [] first now parts held →
      CarriesOutLines exposed capacity state files all (Ok tt) first now
  reached_all now parts held reached = reached.on (Ok tt) now (none_left exposed capacity reached.there reached.found now)

-- one end for another that is the same
pub lines_same_end : (exposed : Bool) (capacity : ℕ) (state : RunState) (files : Files) (lines : List Line) (end : End) (result : Result (Unit {0}) End) (old new : Moment) → IsErrAnd result (λ other. other ≡ end) →
    CarriesOutLines exposed capacity state files lines (Err end) old new → CarriesOutLines exposed capacity state files lines result old new
lines_same_end exposed capacity state files lines end (Ok done) old new same carried = absurd same
lines_same_end exposed capacity state files lines end (Err other) old new same carried = subst (λ (e : End). CarriesOutLines exposed capacity state files lines (Err e) old new) (sym same) carried
