-- What lines leave, one line after another.
use Rattle.std.proofs.Common.{◌≡◌, ◌≢◌, ℕ, suc, ◌+◌, ◌-◌, ◌≤◌, Bool, true, false, cond, List, [], ◌∷◌, ◌++◌, drop, length, map, min, sum, take, Option, Some, None, Result, Ok, Err, append_assoc, is_none, refl, sym, ap, ◌∙◌, subst, arith}
use Rattle.std.specs.Prelude.{nat_lt}
use Rattle.std.specs.Option.{option_map}
use Rattle.std.proofs.lemmas.Bool.Decides.{nat_tests}
use Rattle.std.proofs.lemmas.List.{length-append}
use Rattle.std.proofs.lemmas.List.Sums.{sum_by-cons}
use Rattle.std.proofs.Math.Seq.{drop-append_seam}
use Rattle.chain_owners.specs.Counts.{Counts}
use Rattle.model_runs.proofs.AppliedCounts.{AreRising, effects_rise, rising_end, rising_prefix}
use Rattle.model_runs.specs.Ending.{SaysRefused}
use Rattle.model_runs.specs.Effects.{effect}
use Rattle.model_runs.specs.Ran.{bytes_put, texts_in}
use Rattle.model_runs.specs.Run.{after_line, and_on, effects, files_after_all, no_ending, outcome_of_effects, state_after}
use Rattle.model_runs.specs.State.{Effect, RunState}
use Rattle.model_runs.specs.Swap.{effects_shown, effects_to_stop, text_length, texts_length}
use Rattle.model_runs.specs.declared.ending.End.{End}
use Rattle.model_runs.specs.declared.ending.End.TheVariants as ends
use Rattle.outside_io.specs.Files.{Files}
use Rattle.run_lines.proofs.Carrying.{carried_by_leaves, carried_then, end_carried, more_carried}
use Rattle.run_lines.proofs.Leaving.{nothing_left}
use Rattle.run_lines.specs.Carried.{CarriesOut, CarriesOutLines, HasNames, most_of_line, most_to_stop, other_names, outcome_of_line}
use Rattle.run_lines.specs.Moments.{Moment, world_at}
use Rattle.model_runs.specs.Events.{Event, Outcome, Puts, Refusal, Writes, events_alone, then_do}
use Rattle.model_runs.specs.declared.cause.Cause.{Cause}
use Rattle.script_read.specs.declared.command.Line.{Line}

-- ---- effects up to the stop

texts_lengths : (events : List Event) → texts_length events ≡ length (texts_in events)
texts_lengths [] = refl
texts_lengths (Writes name bytes ∷ events) = texts_lengths events
texts_lengths (Puts text ∷ events) =
    sum_by-cons (λ n. n) (length text) (map text_length events) ∙ ap (λ n. length text + n) (texts_lengths events) ∙ sym (length-append text (texts_in events))

-- the rest after an effect whose texts have all come
rest_shown : (put later : List ℕ) (done : Effect) (rest : List Effect) → put ≡ texts_in done.events ++ later →
    effects_to_stop (Some put) (done ∷ rest) ≡ done ∷ effects_to_stop (Some later) rest
rest_shown put later done rest is = by (nat_lt (length put) (texts_length done.events)) refl
  where
    counted : length put ≡ texts_length done.events + length later
    counted = ap length is ∙ length-append (texts_in done.events) later ∙ omega (arith, texts_lengths done.events)

    left : length put - texts_length done.events ≡ length later
    left = omega (arith, counted)

    by : (b : Bool) → nat_lt (length put) (texts_length done.events) ≡ b →
        take (cond b 1 (suc (effects_shown (length put - texts_length done.events) rest))) (done ∷ rest) ≡ done ∷ take (effects_shown (length later) rest) rest
    by true e = absurd (grind (arith, nat_tests, e, counted))
    by false e = ap (λ n. done ∷ take (effects_shown n rest) rest) left

-- the effects of lines, the first of which is carried out
effects_then : (old mid new : Option (List ℕ)) (done : Effect) (rest : List Effect) (later : List ℕ) → mid ≡ option_map (λ text. text ++ texts_in done.events) old →
    new ≡ option_map (λ text. text ++ later) mid →
    effects_to_stop (bytes_put old new) (done ∷ rest) ≡ done ∷ effects_to_stop (bytes_put mid new) rest
effects_then None mid new done rest later first second =
    let none : mid ≡ None = first in
    rw none refl
effects_then (Some old) mid new done rest later first second =
    let text = texts_in done.events in
    let there : mid ≡ Some (old ++ text) = first in
    let then : new ≡ Some ((old ++ text) ++ later) = second ∙ ap (option_map (λ text. text ++ later)) there in
    let all : drop (length old) ((old ++ text) ++ later) ≡ text ++ later = ap (drop (length old)) (append_assoc old text later) ∙ drop-append_seam old (text ++ later) in
    let some : drop (length (old ++ text)) ((old ++ text) ++ later) ≡ later = drop-append_seam (old ++ text) later in
    rw (there, then) (rest_shown _ later done rest all ∙ ap (λ (l : List ℕ). done ∷ effects_to_stop (Some l) rest) (sym some))

-- ---- names up to the stop

abbrev sum_tiles : List Effect → ℕ
sum_tiles effects = sum (map (λ (effect : Effect). effect.tiles) effects)

more_tiles : (done : Effect) (rest : List Effect) → sum_tiles (done ∷ rest) ≡ done.tiles + sum_tiles rest
more_tiles done rest = sum_by-cons (λ n. n) done.tiles (map (λ (effect : Effect). effect.tiles) rest)

-- how many names a chain has at most over effects that are all reached
abbrev most_over : ℕ → RunState → ℕ → List Effect → ℕ
most_over capacity state names reached =
    other_names state names + sum_tiles reached + min capacity (state_after state reached).session.cached.applied + 1

most_of_first : (capacity : ℕ) (state : RunState) (names : ℕ) (done : Effect) (rest : List Effect) → AreRising done.next rest →
    most_of_line capacity state names done ≤ most_over capacity state names (done ∷ rest)
most_of_first capacity state names done rest rising =
    let tiles = more_tiles done rest in
    let later = rising_end done.next rest rising in
    omega (arith, tiles, later)

-- the first effect counts in any case
first_shown : (capacity : ℕ) (state : RunState) (names : ℕ) (put : Option (List ℕ)) (done : Effect) (rest : List Effect) → AreRising done.next rest →
    most_of_line capacity state names done ≤ most_to_stop capacity state names put (done ∷ rest)
first_shown capacity state names None done rest rising = most_of_first capacity state names done rest rising
first_shown capacity state names (Some put) done rest rising = by (nat_lt (length put) (texts_length done.events))
  where
    by : (b : Bool) → most_of_line capacity state names done
        ≤ most_over capacity state names (take (cond b 1 (suc (effects_shown (length put - texts_length done.events) rest))) (done ∷ rest))
    by true = most_of_first capacity state names done [] tt
    by false =
        let shown = effects_shown (length put - texts_length done.events) rest in
        most_of_first capacity state names done (take shown rest) (rising_prefix shown done.next rest rising)

-- after an effect no more names are to come than before it
most_then : (capacity : ℕ) (state : RunState) (done : Effect) (rest : List Effect) (old mid : Counts) → HasNames done.tiles state done.next old mid →
    most_over capacity done.next mid.names rest ≤ most_over capacity state old.names (done ∷ rest)
most_then capacity state done rest old mid names =
    let tiles = more_tiles done rest in
    let others = names.others in
    omega (arith, tiles, others)

-- ---- lines

-- whether an effect's line is refused, and the effects of it and of what follows
abbrev lines_of : ℕ → Files → List Line → Effect → List Effect
lines_of capacity files lines done = and_on files (λ next later. effects capacity next later lines) done

-- what is left of lines from an effect on
abbrev CarriesOutFrom : Bool → ℕ → RunState → Files → List Line → Effect → Result (Unit {0}) End → Moment → Moment → Type 0
CarriesOutFrom exposed capacity state files lines done result old new =
    let all = lines_of capacity files lines done in
    CarriesOut exposed (outcome_of_effects no_ending state files all) (most_to_stop capacity state old.chain.names (bytes_put old.text new.text) all) result old new

abbrev refusal_at : ℕ → Cause → Refusal
refusal_at line cause = record { line = line; cause = cause }

pub not_refused : (end : End) → SaysRefused (Err end) None → end ≢ ends.Refused
not_refused ends.Refused says = absurd says
not_refused ends.ReadFault says = λ e. cc
not_refused ends.WriteFault says = λ e. cc
not_refused ends.SwapFault says = λ e. cc
not_refused ends.OutputFault says = λ e. cc
not_refused ends.NoMemory says = λ e. cc
not_refused ends.SwapFull says = λ e. cc

no_refusal : (line : ℕ) (refused : Option Cause) → option_map (λ (cause : Cause). refusal_at line cause) refused ≡ None → refused ≡ None
no_refusal line None none = refl
no_refusal line (Some cause) none = absurd (cc)

module _ (exposed : Bool) (capacity : ℕ) (state : RunState) (files : Files) (lines : List Line) (done : Effect) where
  abbrev later : List Effect
  later = effects capacity done.next (files_after_all done.events files) lines

  abbrev rest : Outcome
  rest = outcome_of_effects no_ending done.next (files_after_all done.events files) later

  -- how many names there are at most, from here on
  abbrev most_on : Moment → Moment → List Effect → ℕ
  most_on old new list = most_to_stop capacity state old.chain.names (bytes_put old.text new.text) list

  rising : AreRising done.next later
  rising = effects_rise capacity done.next (files_after_all done.events files) lines

  -- the lines after one that isn't refused
  unrefused : (result : Result (Unit {0}) End) (old new : Moment) → done.refused ≡ None →
      CarriesOut exposed (then_do done.events rest) (most_on old new (done ∷ later)) result old new →
      CarriesOutFrom exposed capacity state files lines done result old new
  unrefused result old new none carried =
      let all : lines_of capacity files lines done ≡ done ∷ later = ap (λ (r : Option Cause). cond (is_none r) (done ∷ later) (done ∷ [])) none in
      let outcome : outcome_of_effects no_ending state files (done ∷ later) ≡ then_do done.events rest = ap (λ (r : Option Cause). after_line done.line done.events r rest) none in
      subst (λ (list : List Effect). CarriesOut exposed (outcome_of_effects no_ending state files list) (most_on old new list) result old new) (sym all)
      (subst (λ (o : Outcome). CarriesOut exposed o (most_on old new (done ∷ later)) result old new) (sym outcome) carried)

  -- a line that is carried out, and the lines after it
  then_lines : (result : Result (Unit {0}) End) (old mid new : Moment) → done.refused ≡ None →
      CarriesOut exposed (outcome_of_line done) (most_of_line capacity state old.chain.names done) (Ok tt) old mid →
      HasNames done.tiles state done.next old.chain mid.chain →
      CarriesOut exposed rest (most_to_stop capacity done.next mid.chain.names (bytes_put mid.text new.text) later) result mid new →
      CarriesOutFrom exposed capacity state files lines done result old new
  then_lines result old mid new none first names second =
      let reached : List Effect = effects_to_stop (bytes_put mid.text new.text) later in
      let few : most_over capacity done.next mid.chain.names reached ≤ most_over capacity state old.chain.names (done ∷ reached) =
      most_then capacity state done reached old.chain mid.chain names in
      let both = carried_then exposed (outcome_of_line done) rest (most_of_line capacity state old.chain.names done)
      (most_over capacity done.next mid.chain.names reached) (most_over capacity state old.chain.names (done ∷ reached))
      result old mid new first names.continues second few in
      let all = effects_then old.text mid.text new.text done later (take second.texts_prefix.0 (texts_in rest.events)) (first.texts tt) second.texts_prefix.1 in
      unrefused result old new none
      (subst (λ (list : List Effect). CarriesOut exposed (then_do done.events rest) (most_over capacity state old.chain.names list) result old new) (sym all) both)

  -- a line that ends the run
  end_lines : (end : End) (old new : Moment) → CarriesOut exposed (outcome_of_line done) (most_of_line capacity state old.chain.names done) (Err end) old new →
      CarriesOutFrom exposed capacity state files lines done (Err end) old new
  end_lines end old new carried = by done.refused refl
    where
      by : (r : Option Cause) → done.refused ≡ r → CarriesOutFrom exposed capacity state files lines done (Err end) old new
      by None none =
          let other = not_refused end (subst (λ (r : Option Cause). SaysRefused (Err end) (option_map (λ cause. refusal_at done.line cause) r)) none carried.refused) in
          unrefused (Err end) old new none
          (end_carried exposed (outcome_of_line done) rest (most_of_line capacity state old.chain.names done) (most_on old new (done ∷ later)) end old new other
          (first_shown capacity state old.chain.names (bytes_put old.text new.text) done later rising) carried)
      by (Some cause) some =
          let all : lines_of capacity files lines done ≡ done ∷ [] = ap (λ (r : Option Cause). cond (is_none r) (done ∷ later) (done ∷ [])) some in
          let outcome : outcome_of_effects no_ending state files (done ∷ []) ≡ outcome_of_line done =
          ap (λ (r : Option Cause). after_line done.line done.events r (outcome_of_effects no_ending done.next (files_after_all done.events files) [])) some
          ∙ sym (ap (λ (r : Option Cause). (let o : Outcome = record { events = done.events; refused = option_map (λ cause. refusal_at done.line cause) r } in o)) some) in
          subst (λ (list : List Effect). CarriesOut exposed (outcome_of_effects no_ending state files list) (most_on old new list) (Err end) old new) (sym all)
          (subst (λ (o : Outcome). CarriesOut exposed o (most_on old new (done ∷ [])) (Err end) old new) (sym outcome)
          (more_carried exposed (outcome_of_line done) (most_of_line capacity state old.chain.names done) (most_on old new (done ∷ [])) (Err end) old new
          (first_shown capacity state old.chain.names (bytes_put old.text new.text) done [] tt) carried))

-- ---- a script's lines

module _ (exposed : Bool) (capacity : ℕ) (state : RunState) (files : Files) (line : Line) (lines : List Line) where
  abbrev done_by : Effect
  done_by = effect capacity state files line.number line.command

  pub lines_then : (result : Result (Unit {0}) End) (old mid new : Moment) → CarriesOut exposed (outcome_of_line done_by) (most_of_line capacity state old.chain.names done_by) (Ok tt) old mid →
      HasNames done_by.tiles state done_by.next old.chain mid.chain →
      CarriesOutLines exposed capacity done_by.next (files_after_all done_by.events files) lines result mid new → CarriesOutLines exposed capacity state files (line ∷ lines) result old new
  lines_then result old mid new first names second =
      then_lines exposed capacity state files lines done_by result old mid new (no_refusal done_by.line done_by.refused first.refused) first names second

  pub lines_end : (end : End) (old new : Moment) → CarriesOut exposed (outcome_of_line done_by) (most_of_line capacity state old.chain.names done_by) (Err end) old new →
      CarriesOutLines exposed capacity state files (line ∷ lines) (Err end) old new
  lines_end end old new carried = end_lines exposed capacity state files lines done_by end old new carried

  -- the last state of lines is that of the lines after one that isn't refused
  pub state_then : done_by.refused ≡ None →
      state_after state (effects capacity state files (line ∷ lines)) ≡ state_after done_by.next (effects capacity done_by.next (files_after_all done_by.events files) lines)
  state_then none =
      let later = effects capacity done_by.next (files_after_all done_by.events files) lines in
      ap (λ (r : Option Cause). state_after state (cond (is_none r) (done_by ∷ later) (done_by ∷ []))) none

  pub line_unrefused : (most : ℕ) (old new : Moment) → CarriesOut exposed (outcome_of_line done_by) most (Ok tt) old new → done_by.refused ≡ None
  line_unrefused most old new carried = no_refusal done_by.line done_by.refused carried.refused

-- nothing is done after the last line
pub none_left : (exposed : Bool) (capacity : ℕ) (state : RunState) (files : Files) (now : Moment) → CarriesOutLines exposed capacity state files [] (Ok tt) now now
none_left exposed capacity state files now =
    carried_by_leaves exposed (events_alone []) (most_to_stop capacity state now.chain.names (bytes_put now.text now.text) []) (Ok tt) now now (λ e. cc) (nothing_left (world_at now))
