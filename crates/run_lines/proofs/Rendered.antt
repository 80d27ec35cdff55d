-- What lines leave that write a file of a node.
use Rattle.std.proofs.Common.{◌≡◌, ◌≢◌, ℕ, Bool, true, false, IsTrue, cond, List, length, Option, Some, None, Result, Ok, Err, IfSome, IsSome, is_some, is_none, refl, sym, ap, ◌∙◌, subst, arith}
use Rattle.std.specs.Prelude.{◌&&◌}
use Rattle.std.specs.Map.{values_of}
use Rattle.chain_owners.specs.Counts.{Continues, Counts, IsFullOver, Rose}
use Rattle.chain_owners.specs.Held.{Held}
use Rattle.commit_session.specs.Parts.{Parts}
use Rattle.commit_session.specs.Refusals.{IsRefusedAs, by_render}
use Rattle.commit_session.specs.Rendering.{HasSameButCache, names_in_render}
use Rattle.commit_session.specs.Seen.{IsSessionOf}
use Rattle.commit_session.specs.declared.refused.SessionRefused.{SessionRefused}
use Rattle.model_graphs.specs.Facts.{specs_of}
use Rattle.model_graphs.specs.Node.{index_of}
use Rattle.model_images.specs.FromRaw.{byte_count}
use Rattle.model_images.specs.Image.{Image}
use Rattle.model_images.specs.Level.{level}
use Rattle.model_images.specs.Raw.{raw}
use Rattle.model_operations.specs.Lawful.MeaningLaws.{is_boxed, is_dual, is_local}
use Rattle.model_operations.specs.Lawful.SameLaws.{is_equality}
use Rattle.model_operations.specs.Meanings.{int_meanings, same_operation}
use Rattle.model_operations.specs.declared.operation.IntOp.{IntOp}
use Rattle.model_runs.specs.Effects.{node_image, renders, writes}
use Rattle.model_runs.specs.Ending.{Leaves}
use Rattle.model_runs.specs.State.{Effect, RunState, number_in, scene_in}
use Rattle.model_runs.specs.declared.ending.End.{End}
use Rattle.model_runs.specs.declared.ending.End.TheVariants as ends
use Rattle.model_sessions.proofs.Actions.{action_keeps}
use Rattle.model_sessions.specs.Sessions.{IsSession, Render, Session, after_render, last_scene, with_render, render_need}
use Rattle.model_buffers.specs.Table.{Table}
use Rattle.model_states.specs.Cache.{by_pair, needed_pairs, with_bytes}
use Rattle.model_states.specs.Damage.{IsStated}
use Rattle.model_states.specs.Edits.{has_node}
use Rattle.model_states.specs.Need.{wide}
use Rattle.node_cache.specs.Stores.{AddsNoOther}
use Rattle.node_tiles.specs.Stated.{shape_at}
use Rattle.outside_io.specs.Files.{Files}
use Rattle.plane_rect.specs.Rectangle.{Rectangle, scaled}
use Rattle.render_workers.specs.Refusals.{CanBeRendered, IsRefusedBy}
use Rattle.render_workers.specs.Requests.{Request, request}
use Rattle.render_workers.specs.declared.refused.RenderRefused.{RenderRefused}
use Rattle.render_workers.specs.declared.refused.RenderRefused.TheVariants as render_refusals
use Rattle.run_lines.proofs.Carrying.{Exceeds-more, nothing_carried}
use Rattle.run_lines.proofs.Faults.{faults_of_swap, only_swap}
use Rattle.run_lines.specs.Carried.{CarriesOut, Exceeds, most_of_line, outcome_of_line}
use Rattle.run_lines.specs.Moments.{HasFaults, Moment, world_at}
use Rattle.run_lines.proofs.Bounds.{full_exceeds}
use Rattle.run_lines.proofs.CachedNames.{names-fall}
use Rattle.run_lines.proofs.LookingUp.{all-grow}
use Rattle.run_lines.proofs.RenderLines.{has-same, planned, render-length, render-names, render-narrow, render-unknown, render-wide, rendered, wide-same}
use Rattle.run_lines.proofs.Writing.{Wants, file-carried, file-ended, file-written}
use Rattle.run_lines.specs.PictureBytes.{LeavesBytes}
use Rattle.run_lines.specs.States.{Holds}
use Rattle.run_lines.specs.Stops.{Did, IsDone, IsEnded, end_of, stop_of}
use Rattle.model_runs.specs.Events.{Outcome, events_alone}
use Rattle.model_runs.specs.Texts.{render_text}
use Rattle.model_runs.specs.World.{World}
use Rattle.strip_patches.specs.Shown.{Shows, picture_box, picture_format}
use Rattle.strip_patches.specs.declared.picture.Picture.{Picture}
use Rattle.chain_owners.specs.Cause.{HasSwapCause}

none-there : (o : Option Rectangle) → IsSome o → o ≡ None → ⊥
none-there None some none = absurd (cc)
none-there (Some x) some none = absurd (cc)

-- the session after a render that isn't refused
is-rendered : (capacity : ℕ) (session : Session Table IntOp) (name : List ℕ) (z : ℕ) (r : Rectangle) → has_node (last_scene session).nodes name ≡ true →
    wide capacity (render_need int_meanings (last_scene session) name z r) ≡ None → after_render int_meanings capacity session name z r ≡ with_render int_meanings capacity session name z r
is-rendered capacity session name z r there narrow =
    let needed = wide capacity (render_need int_meanings (last_scene session) name z r) in
    let can : (has_node (last_scene session).nodes name && is_none needed) ≡ true =
    ap (λ (b : Bool). b && is_none needed) there ∙ ap (λ (o : Option ℕ). true && is_none o) narrow in
    ap (λ (b : Bool). cond b (with_render int_meanings capacity session name z r) session) can

-- is valid
render-valid : (capacity : ℕ) (session : Session Table IntOp) (name : List ℕ) (z : ℕ) (r : Rectangle) → IsSession int_meanings capacity session → IsSession int_meanings capacity (after_render int_meanings capacity session name z r)
render-valid capacity session name z r valid =
    action_keeps same_operation int_meanings (record { local = is_local; dual = is_dual }) is_boxed is_equality.apart capacity session (Render name z r) valid tt

-- The bytes that a render line writes: as many as its rectangle has in the node's format, and those of the node's image
-- where the chain exposes its bytes.
pub record IsShown (exposed : Bool) (state : RunState) (parts : Parts IntOp) (name : List ℕ) (z : ℕ) (r : Rectangle) (bytes : List ℕ) : Type 0 where
  pub count : length bytes ≡ byte_count r (shape_at parts.graph.latest.nodes (index_of (specs_of parts.graph.latest.nodes) name)).format
  pub image : IsTrue exposed → bytes ≡ raw (level (node_image state name) z) r

-- what a picture leaves that is written is left by such bytes
pub shown-by : (exposed : Bool) (state : RunState) (parts : Parts IntOp) (name : List ℕ) (z : ℕ) (r : Rectangle) (picture : Picture) → picture_box picture ≡ r →
    picture_format picture ≡ (shape_at parts.graph.latest.nodes (index_of (specs_of parts.graph.latest.nodes) name)).format → (IsTrue exposed → Shows (level (node_image state name) z) r picture) →
    (outcome : List ℕ → Outcome) (result : Result (Unit {0}) End) (old new : World) →
    ((known : Option Image) → IfSome known (λ image. Shows image (picture_box picture) picture) → LeavesBytes known (picture_box picture) (picture_format picture) outcome result old new) →
    (bytes : List ℕ) × IsShown exposed state parts name z r bytes × Leaves (outcome bytes) result old new
shown-by false state parts name z r picture box format shows outcome result old new leaves =
    let left = leaves None tt in
    let count = left.1.count ∙ ap (λ (b : Rectangle). byte_count b (picture_format picture)) box ∙ ap (byte_count r) format in
    (left.0, record { count = count; image = λ e. absurd (cc) }, left.2)
shown-by true state parts name z r picture box format shows outcome result old new leaves =
    let image = level (node_image state name) z in
    let left = leaves (Some image) (subst (λ (b : Rectangle). Shows image b picture) (sym box) (shows refl)) in
    let count = left.1.count ∙ ap (λ (b : Rectangle). byte_count b (picture_format picture)) box ∙ ap (byte_count r) format in
    (left.0, record { count = count; image = λ e. left.1.image ∙ ap (raw image) box }, left.2)

-- The session that a render left which isn't refused.
pub record IsLeft (state : RunState) (old new : Parts IntOp) (held later : Held) (name : List ℕ) (z : ℕ) (r : Rectangle) (before after : Counts) : Type 0 where
  pub session : IsSessionOf same_operation int_meanings new later (after_render int_meanings old.capacity state.session name z r)
  pub states : HasSameButCache old new
  pub content : is_some later.content ≡ is_some held.content
  pub continues : Continues before after
  pub others : AddsNoOther before after (values_of old.entries) (values_of new.entries)

module _ (exposed : Bool) (capacity line : ℕ) (state : RunState) (files : Files) (parts later : Parts IntOp) (held after_held : Held) (name : List ℕ) (z : ℕ) (r : Rectangle) (target : List ℕ) (before after : Moment)
    (holds : Holds exposed capacity state files parts held before.files) (stated_is : IsStated int_meanings parts.graph.latest) where
  abbrev done : Effect
  done = rendered exposed capacity line state files parts held before.files name z r target holds stated_is

  abbrev given : Effect
  given = renders capacity line state name z r target

  abbrev wanted : List ℕ
  wanted = planned exposed capacity line state files parts held before.files name z r target holds stated_is

  abbrev asked : Request
  asked = request name z r

  -- ---- renders that are refused

  module _ (files_same : after.files ≡ before.files) (text_same : after.text ≡ before.text) where
    ended : (end : End) → end ≢ ends.Refused → (end ≡ ends.SwapFull → Exceeds before.chain (most_of_line capacity state before.chain.names done)) → IsEnded exposed capacity state done end before after
    ended end other full = record {
      other = other;
      carried = nothing_carried exposed (outcome_of_line done) (most_of_line capacity state before.chain.names done) end before after other files_same text_same full;
    }

    full-at : (needed longest : ℕ) → CanBeRendered int_meanings parts.graph.latest.nodes asked parts.capacity →
        IsFullOver before.chain.used before.chain.capacity (names_in_render int_meanings parts asked before.chain) needed longest → Exceeds before.chain (most_of_line capacity state before.chain.names done)
    full-at needed longest can full =
        let names = names_in_render int_meanings parts asked before.chain in
        let is = render-narrow exposed capacity line state files parts held before.files name z r target holds stated_is can.node can.narrow in
        subst (λ (e : Effect). Exceeds before.chain (most_of_line capacity state before.chain.names e)) (sym is)
        (Exceeds-more before.chain names (most_of_line capacity state before.chain.names given)
        (render-names exposed capacity line state files parts held before.files name z r target holds stated_is before.chain) (full_exceeds before.chain names needed longest full))

    by-lower : IsSome (scaled z r) → (lower : RenderRefused) →
        IsRefusedBy int_meanings parts.graph.latest.nodes asked parts.capacity (HasSwapCause before.chain after.chain (names_in_render int_meanings parts asked before.chain)) lower →
        Did exposed capacity line state files done (Err (stop_of (by_render lower))) before after later after_held
    by-lower inside render_refusals.UnknownNode cause =
        record { effect = render-unknown exposed capacity line state files parts held before.files name z r target holds stated_is cause; files = files_same; text = text_same }
    by-lower inside render_refusals.Rect cause = absurd (none-there (scaled z r) inside cause.1)
    by-lower inside (render_refusals.Strip needed most) cause =
        record { effect = render-wide exposed capacity line state files parts held before.files name z r target holds stated_is needed cause.node cause.needed_is; files = files_same; text = text_same }
    by-lower inside render_refusals.SwapFault cause = ended ends.SwapFault (λ e. cc) (λ e. absurd (cc))
    by-lower inside (render_refusals.SwapFull needed longest) cause = ended ends.SwapFull (λ e. cc) (λ e. full-at needed longest cause.0 cause.1)
    by-lower inside render_refusals.NoMemory cause = ended ends.NoMemory (λ e. cc) (λ e. absurd (cc))

    pub render-stopped : (refused : SessionRefused) → IsSome (scaled z r) →
        IsRefusedAs by_render (IsRefusedBy int_meanings parts.graph.latest.nodes asked parts.capacity (HasSwapCause before.chain after.chain (names_in_render int_meanings parts asked before.chain))) refused →
        Did exposed capacity line state files done (Err (stop_of refused)) before after later after_held
    render-stopped refused inside cause =
        subst (λ (s : SessionRefused). Did exposed capacity line state files done (Err (stop_of s)) before after later after_held) (sym cause.is)
        (by-lower inside cause.lower cause.by_cause)

  -- ---- a render that isn't refused

  module _ (can : CanBeRendered int_meanings parts.graph.latest.nodes asked parts.capacity)
      (bytes : List ℕ) (shown : IsShown exposed state parts name z r bytes) (number : ℕ) (number_is : number ≡ number_in state)
      (result : Result (Unit {0}) End) (room : result ≢ Err ends.SwapFull)
      (leaves : Leaves (events_alone (writes target bytes (render_text line number (length bytes)))) result (world_at before) (world_at after)) where
    gives : done ≡ given
    gives = render-narrow exposed capacity line state files parts held before.files name z r target holds stated_is can.node can.narrow

    wants : Wants exposed given target wanted bytes (render_text line number (length bytes))
    wants =
        let long = render-length exposed capacity line state files parts held before.files name z r target holds stated_is bytes shown.count in
        record {
          events = ap (λ (n : ℕ). writes target wanted (render_text line n (length wanted))) (sym number_is) ∙ ap (λ (n : ℕ). writes target wanted (render_text line number n)) long;
          none = refl;
          as_long = long;
          as_wanted = shown.image;
        }

    -- its file or its text ends the run
    pub render-ended : (end : End) → result ≡ Err end → IsEnded exposed capacity state done end before after
    render-ended end err =
        subst (λ (e : Effect). IsEnded exposed capacity state e end before after) (sym gives)
        (file-ended exposed given target wanted bytes (render_text line number (length bytes)) wants result before after leaves capacity state end room err)

    -- its file is written and its text put
    pub render-done : result ≡ Ok tt → IsLeft state parts later held after_held name z r before.chain after.chain → IsDone exposed capacity state files done before after later after_held
    render-done ok left =
        let cached = state.session.cached in
        let next = with_render int_meanings capacity state.session name z r in
        let text = render_text line number (length bytes) in
        let pairs = needed_pairs (scene_in state).nodes (render_need int_meanings (scene_in state) name z r) in
        let grow = all-grow by_pair (with_bytes int_meanings (scene_in state)) (Some capacity) cached pairs in
        let has = sym (has-same exposed capacity line state files parts held before.files name z r target holds stated_is) ∙ can.node in
        let fits = sym (wide-same exposed capacity line state files parts held before.files name z r target holds stated_is) ∙ can.narrow in
        let is = is-rendered capacity state.session name z r has fits in
        let session : IsSessionOf same_operation int_meanings later after_held next =
        subst (IsSessionOf same_operation int_meanings later after_held) is
        (subst (λ (n : ℕ). IsSessionOf same_operation int_meanings later after_held (after_render int_meanings n state.session name z r)) holds.as_many left.session) in
        let filed = file-written exposed given target wanted bytes text wants result before after leaves files ok holds.same_lengths holds.same in
        subst (λ (e : Effect). IsDone exposed capacity state files e before after later after_held) (sym gives)
        (record {
          carried = subst (λ (r : Result (Unit {0}) End). CarriesOut exposed (outcome_of_line given) (most_of_line capacity state before.chain.names given) r before after) ok
              (file-carried exposed given target wanted bytes text wants result before after leaves (most_of_line capacity state before.chain.names given) room);
          next = record {
            session = session;
            valid = subst (IsSession int_meanings capacity) is (render-valid capacity state.session name z r holds.valid);
            applied = omega (arith, grow, holds.applied);
            as_many = left.states.capacity ∙ holds.as_many;
            unwatched = holds.unwatched;
            content = left.content ∙ holds.content;
            same_lengths = filed.same_lengths;
            same = filed.same;
          };
          names = names-fall state given.next before.chain after.chain parts later held after_held left.continues left.others holds.session.cached session.cached;
        })

-- ---- I/O errors

-- a render touches no device but the chain
pub render-faults : (refused : SessionRefused) (can : RenderRefused → Type 0) (old new : Moment) → IsRefusedAs by_render can refused →
    (can render_refusals.SwapFault → Rose old.chain.faults new.chain.faults) → new.reads ≡ old.reads → new.writes ≡ old.writes → new.puts ≡ old.puts → Continues old.chain new.chain →
    HasFaults (end_of {A = Unit {0}} (Err (stop_of refused))) old new
render-faults refused can old new is swap reads writes puts continues =
    subst (λ (s : SessionRefused). HasFaults (end_of {A = Unit {0}} (Err (stop_of s))) old new) (sym is.is) (by is.lower is.by_cause)
  where
    at : (end : End) → only_swap (Err end) ≡ true → (end ≡ ends.SwapFault → Rose old.chain.faults new.chain.faults) → HasFaults (Err end) old new
    at end only rose = faults_of_swap (Err end) old new only (λ e. rose (cc)) (omega (arith, reads)) (omega (arith, writes)) (omega (arith, puts)) continues

    by : (lower : RenderRefused) → can lower → HasFaults (end_of {A = Unit {0}} (Err (stop_of (by_render lower)))) old new
    by render_refusals.UnknownNode cause = at ends.Refused refl (λ e. absurd (cc))
    by render_refusals.Rect cause = at ends.Refused refl (λ e. absurd (cc))
    by (render_refusals.Strip needed capacity) cause = at ends.Refused refl (λ e. absurd (cc))
    by render_refusals.SwapFault cause = at ends.SwapFault refl (λ e. swap cause)
    by (render_refusals.SwapFull needed longest) cause = at ends.SwapFull refl (λ e. absurd (cc))
    by render_refusals.NoMemory cause = at ends.NoMemory refl (λ e. absurd (cc))
