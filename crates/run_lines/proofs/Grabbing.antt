-- What lines leave that write a file of a buffer.
use Rattle.std.proofs.Common.{◌≡◌, ◌≢◌, ℕ, ◌+◌, ◌*◌, Bool, true, IsTrue, List, length, None, Result, Ok, Err, is_some, refl, sym, ap, ◌∙◌, subst, arith}
use Rattle.buffer_view.specs.BufferTables.{table_of}
use Rattle.buffer_view.specs.Reads.{HasReadCause, IsReadOfBuffer, box_of_root, part_of_buffer}
use Rattle.buffer_view.specs.declared.refused.BufferRefused.{BufferRefused}
use Rattle.buffer_view.specs.declared.refused.BufferRefused.TheVariants as buffer_refusals
use Rattle.chain_owners.specs.Counts.{Continues, Grows, IsFullOver, Rose}
use Rattle.chain_owners.specs.Held.{Held}
use Rattle.commit_session.specs.Parts.{Parts}
use Rattle.commit_session.specs.Refusals.{IsRefusedAs, by_buffers}
use Rattle.commit_session.specs.declared.refused.SessionRefused.{SessionRefused}
use Rattle.commit_session.specs.declared.refused.SessionRefused.TheVariants.{Buffer}
use Rattle.model_buffers.specs.Layout.{TableLayout, find}
use Rattle.model_buffers.specs.declared.refused.EditRefused.{EditRefused}
use Rattle.model_buffers.specs.declared.refused.EditRefused.TheVariants.{UnknownBuffer}
use Rattle.model_images.specs.Image.{Image}
use Rattle.model_images.specs.Raw.{raw}
use Rattle.model_images.specs.TileCounts.{level_tiles, names_after_read}
use Rattle.model_operations.specs.declared.operation.IntOp.{IntOp}
use Rattle.model_runs.specs.Effects.{cause_of_edit, writes}
use Rattle.model_runs.specs.Ending.{Leaves}
use Rattle.model_runs.specs.Run.{files_after_all}
use Rattle.model_runs.specs.State.{Effect, RunState, refuses}
use Rattle.model_runs.specs.declared.ending.End.{End}
use Rattle.model_runs.specs.declared.ending.End.TheVariants as ends
use Rattle.outside_io.specs.Files.{Files}
use Rattle.pixel_formats.specs.Format.{pixel_bytes}
use Rattle.pixel_formats.specs.declared.abyss.Abyss.{Abyss}
use Rattle.plane_rect.specs.Rectangle.{Rectangle, area}
use Rattle.root_tiles.specs.Roots.{HasShape}
use Rattle.run_lines.proofs.Carrying.{Exceeds-more, nothing_carried}
use Rattle.run_lines.proofs.Faults.{faults_of_swap, only_swap}
use Rattle.run_lines.specs.Carried.{CarriesOut, Exceeds, most_of_line, outcome_of_line}
use Rattle.run_lines.specs.Moments.{HasFaults, Moment, world_at}
use Rattle.run_lines.proofs.Bounds.{full_exceeds, names_grow, names_within}
use Rattle.run_lines.proofs.Grabs.{grab_bytes, grab_given, grab_length, grab_tiles, grab_unknown, grabbed, planned}
use Rattle.run_lines.proofs.Writing.{Wants, file-carried, file-ended, file-written}
use Rattle.run_lines.specs.Edited.{IsHeld}
use Rattle.run_lines.specs.States.{Holds}
use Rattle.run_lines.specs.Stops.{Did, IsDone, IsEnded, end_of, stop_of}
use Rattle.model_runs.specs.Events.{events_alone}
use Rattle.model_runs.specs.Texts.{grab_text}
use Rattle.chain_owners.specs.declared.swap_refused.SwapRefused.TheVariants as swap_refusals

module _ (exposed : Bool) (capacity line : ℕ) (state : RunState) (files : Files) (parts later : Parts IntOp) (held after_held : Held) (name : List ℕ) (z : ℕ) (policy : Abyss) (r : Rectangle) (target : List ℕ) (before after : Moment)
    (holds : Holds exposed capacity state files parts held before.files) where
  abbrev layout : TableLayout
  layout = parts.versions.working.layout

  abbrev done : Effect
  done = grabbed exposed capacity line state files parts held before.files name z policy r target holds

  abbrev most : ℕ
  most = most_of_line capacity state before.chain.names done

  abbrev wanted : List ℕ
  wanted = planned exposed capacity line state files parts held before.files name z policy r target holds

  abbrev has_events : find layout.buffers name ≢ None → (done.events ≡ writes target wanted (grab_text line (length wanted))) × (done.refused ≡ None) × (done.next ≡ state)
  has_events = grab_given exposed capacity line state files parts held before.files name z policy r target holds

  -- ---- a level that was read

  module _ (there : find layout.buffers name ≢ None) (patch : Image) (bytes : List ℕ) (shape : HasShape (part_of_buffer layout name r) patch)
      (read : IsReadOfBuffer (table_of parts.versions.working held) name z policy r patch) (is : bytes ≡ raw patch patch.box) (count : length bytes ≡ area patch.box * pixel_bytes patch.format)
      (result : Result (Unit {0}) End) (room : result ≢ Err ends.SwapFull)
      (leaves : Leaves (events_alone (writes target bytes (grab_text line (length bytes)))) result (world_at before) (world_at after)) where
    as_long : length wanted ≡ length bytes
    as_long = grab_length exposed capacity line state files parts held before.files name z policy r target holds patch bytes shape count

    as_planned : IsTrue exposed → bytes ≡ wanted
    as_planned e = is ∙ grab_bytes exposed capacity line state files parts held before.files name z policy r target holds patch e shape read

    abbrev text : List ℕ
    text = grab_text line (length bytes)

    wants : Wants exposed done target wanted bytes text
    wants =
        let given = has_events there in
        record { events = given.0 ∙ ap (λ n. writes target wanted (grab_text line n)) as_long; none = given.1; as_long = as_long; as_wanted = as_planned }

    pub grab_done : result ≡ Ok tt → later.capacity ≡ parts.capacity → is_some after_held.content ≡ is_some held.content → IsHeld later after_held state.session →
        Grows (level_tiles (box_of_root layout name) z) before.chain after.chain → IsDone exposed capacity state files done before after later after_held
    grab_done ok as_many content session grows =
        let given = has_events there in
        let are_filed = file-written exposed done target wanted bytes text wants result before after leaves files ok holds.same_lengths holds.same in
        let tiles = grab_tiles exposed capacity line state files parts held before.files name z policy r target holds there in
        record {
          carried = subst (λ (r : Result (Unit {0}) End). CarriesOut exposed (outcome_of_line done) most r before after) ok
              (file-carried exposed done target wanted bytes text wants result before after leaves most room);
          next = subst (λ (s : RunState). Holds exposed capacity s (files_after_all done.events files) later after_held after.files) (sym given.2)
              (record {
                session = session;
                valid = holds.valid;
                applied = holds.applied;
                as_many = as_many ∙ holds.as_many;
                unwatched = holds.unwatched;
                content = content ∙ holds.content;
                same_lengths = are_filed.same_lengths;
                same = are_filed.same;
              });
          names = names_grow done.tiles state done.next before.chain after.chain (ap (λ (s : RunState). s.session.cached) given.2)
              (subst (λ n. Grows n before.chain after.chain) (sym tiles) grows);
        }

    pub grab_ended : (end : End) → result ≡ Err end → IsEnded exposed capacity state done end before after
    grab_ended end err = file-ended exposed done target wanted bytes text wants result before after leaves capacity state end room err

  -- ---- a level that was not read

  module _ (files_same : after.files ≡ before.files) (text_same : after.text ≡ before.text) where
    ended : (end : End) → end ≢ ends.Refused → (end ≡ ends.SwapFull → Exceeds before.chain most) → IsEnded exposed capacity state done end before after
    ended end other full = record { other = other; carried = nothing_carried exposed (outcome_of_line done) most end before after other files_same text_same full }

    unknown : (refused : EditRefused) → refused ≡ UnknownBuffer → find layout.buffers name ≡ None →
        Did exposed capacity line state files done (Err (stop_of (Buffer (buffer_refusals.Edit refused)))) before after later after_held
    unknown refused is none = record {
      effect = grab_unknown exposed capacity line state files parts held before.files name z policy r target holds none ∙ ap (λ (r : EditRefused). refuses line state (cause_of_edit r)) (sym is);
      files = files_same;
      text = text_same;
    }

    full_at : (needed longest : ℕ) → find layout.buffers name ≢ None → IsFullOver before.chain.used before.chain.capacity (names_after_read before.chain.names (box_of_root layout name) z) needed longest →
        Exceeds before.chain most
    full_at needed longest there full =
        let count = level_tiles (box_of_root layout name) z in
        let given = has_events there in
        let tiles = grab_tiles exposed capacity line state files parts held before.files name z policy r target holds there in
        let within = names_within exposed capacity state files parts held before.files holds before.chain.names done (ap (λ (s : RunState). s.session.cached) given.2) in
        Exceeds-more before.chain (before.chain.names + count) most (omega (arith, within, tiles)) (full_exceeds before.chain (before.chain.names + count) needed longest full)

    by_lower : (lower : BufferRefused) → HasReadCause layout name z before.chain after.chain lower → (find layout.buffers name ≡ None → by_buffers lower ≡ Buffer (buffer_refusals.Edit UnknownBuffer)) →
        Did exposed capacity line state files done (Err (stop_of (by_buffers lower))) before after later after_held
    by_lower (buffer_refusals.Edit refused) cause exact = unknown refused cause.0 cause.1
    by_lower (buffer_refusals.Swap swap_refusals.SwapFault) cause exact = ended ends.SwapFault (λ e. cc) (λ e. absurd (cc))
    by_lower (buffer_refusals.Swap (swap_refusals.SwapFull needed longest)) cause exact =
        ended ends.SwapFull (λ e. cc) (λ e. full_at needed longest (λ none. (let is = exact none in cc)) cause)
    by_lower (buffer_refusals.Swap swap_refusals.NoMemory) cause exact = absurd cause
    by_lower buffer_refusals.NoMemory cause exact = ended ends.NoMemory (λ e. cc) (λ e. absurd (cc))

    pub grab_stopped : (refused : SessionRefused) → IsRefusedAs by_buffers (HasReadCause layout name z before.chain after.chain) refused →
        (find layout.buffers name ≡ None → refused ≡ Buffer (buffer_refusals.Edit UnknownBuffer)) → Did exposed capacity line state files done (Err (stop_of refused)) before after later after_held
    grab_stopped refused cause exact =
        subst (λ (r : SessionRefused). Did exposed capacity line state files done (Err (stop_of r)) before after later after_held) (sym cause.is)
        (by_lower cause.lower cause.by_cause (λ none. sym cause.is ∙ exact none))

-- a read that is refused is no I/O error but the swap's
pub grab-faults : (layout : TableLayout) (name : List ℕ) (z : ℕ) (refused : SessionRefused) (old new : Moment) → IsRefusedAs by_buffers (HasReadCause layout name z old.chain new.chain) refused →
    new.reads ≡ old.reads → new.writes ≡ old.writes → new.puts ≡ old.puts → Continues old.chain new.chain → HasFaults (end_of {A = Unit {0}} (Err (stop_of refused))) old new
grab-faults layout name z refused old new is reads writes puts continues =
    subst (λ (s : SessionRefused). HasFaults (end_of {A = Unit {0}} (Err (stop_of s))) old new) (sym is.is) (by is.lower is.by_cause)
  where
    at : (end : End) → only_swap (Err end) ≡ true → (end ≡ ends.SwapFault → Rose old.chain.faults new.chain.faults) → HasFaults (Err end) old new
    at end only rose = faults_of_swap (Err end) old new only (λ e. rose (cc)) (omega (arith, reads)) (omega (arith, writes)) (omega (arith, puts)) continues

    by : (lower : BufferRefused) → HasReadCause layout name z old.chain new.chain lower → HasFaults (end_of {A = Unit {0}} (Err (stop_of (by_buffers lower)))) old new
    by (buffer_refusals.Edit edit) cause = at ends.Refused refl (λ e. absurd (cc))
    by (buffer_refusals.Swap swap_refusals.SwapFault) cause = at ends.SwapFault refl (λ e. cause)
    by (buffer_refusals.Swap (swap_refusals.SwapFull needed longest)) cause = at ends.SwapFull refl (λ e. absurd (cc))
    by (buffer_refusals.Swap swap_refusals.NoMemory) cause = absurd cause
    by buffer_refusals.NoMemory cause = at ends.NoMemory refl (λ e. absurd (cc))
