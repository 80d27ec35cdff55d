-- Renders of sessions, by what the lower call is handed and answers.
use Rattle.std.proofs.Common.{◌≡◌, ℕ, ◌+◌, ◌-◌, Bool, true, false, cond, List, length, ◌++◌, Option, None, Some, Result, Ok, Err, refl, sym, ap, ◌∙◌, subst, arith}
use Rattle.std.specs.Prelude.{◌&&◌, IsSome, is_none, min}
use Rattle.std.specs.Map.{values_of}
use Rattle.std.proofs.lemmas.Option.{same_Some}
use Rattle.chain_owners.specs.Counts.{Grows}
use Rattle.chain_owners.specs.Owners.{Owns, Respects}
use Rattle.chain_owners.proofs.Ownership.{owns-fewer, times-append}
use Rattle.root_tiles.specs.Chains.{ChainState, Leaves}
use Rattle.model_buffers.specs.Counts.{names_after_render}
use Rattle.model_buffers.specs.Layout.{facts_of}
use Rattle.model_buffers.specs.Table.{Table}
use Rattle.model_graphs.specs.declared.node.NodeFact.{NodeFact}
use Rattle.model_graphs.specs.Evaluation.{Buffers}
use Rattle.model_graphs.specs.Facts.{AreImagesOf, shapes_of_facts, specs_of}
use Rattle.model_graphs.specs.Meanings.{Meanings}
use Rattle.model_images.specs.Image.{Image}
use Rattle.model_images.specs.Level.{level}
use Rattle.model_states.specs.Cache.{AreRight, Cached, Counted, Pair, all_looked_up, itself, uncounted}
use Rattle.model_states.specs.Damage.{IsStated}
use Rattle.model_states.specs.Edits.{has_node}
use Rattle.model_states.specs.Need.{wide}
use Rattle.model_states.specs.State.{Scene, image_of}
use Rattle.model_states.specs.Valid.{AreStated}
use Rattle.model_sessions.specs.Sessions.{Session, after_render, can_render, last_scene, max_count, render_need, with_render}
use Rattle.chain_owners.specs.Cause.{HasSwapCause}
use Rattle.node_cache.specs.NodeNames.{Entries, IsNodeCache, cached_in, pairs_in, sizes_in}
use Rattle.node_cache.specs.Stores.{AddsNoOther, HaveOneOwner}
use Rattle.node_tiles.specs.Stated.{scene_of}
use Rattle.strip_renders.specs.Moments.{Moment}
use Rattle.strip_renders.specs.Strips.{AreKnownRight, AreSizedPairs, counted, list_after}
use Rattle.render_workers.specs.declared.refused.RenderRefused.{RenderRefused}
use Rattle.render_workers.specs.declared.refused.RenderRefused.TheVariants as renders
use Rattle.render_workers.specs.Refusals.{CanBeRendered, ChangesNothing, IsRefusedBy}
use Rattle.render_workers.specs.Requests.{Request, level_requested, pairs_requested, strips_needed}
use Rattle.strip_patches.specs.Shown.{Shows}
use Rattle.strip_patches.specs.declared.picture.Picture.{Picture}
use Rattle.buffer_view.specs.BufferTables.{AreBuffersOver, BufferTable, buffer_images, buffers_names}
use Rattle.session_states.specs.OverChains.{names_of_all, versions_names}
use Rattle.session_states.proofs.Names.{leaves-beside}
use Rattle.commit_session.specs.Parts.{Parts, session_names}
use Rattle.commit_session.specs.Refusals.{by_render}
use Rattle.commit_session.specs.Rendering.{HasSameButCache, IsRecached, IsRendered, OnPlanRefused, looked_up_by, names_in_render}
use Rattle.commit_session.specs.Seen.{IsOver, IsSessionOf}
use Rattle.commit_session.proofs.Rendered.{level-rendered, images, images-known, known-exposed, list-known, over-after, refreshed, right-known, scene, scene-is, session-refreshed, session-rendered, shown, sized-old, stated-latest}

-- ---- what an answer rules out

pub holds-unless : (b : Bool) → (b ≡ false → ⊥) → b ≡ true
holds-unless true never = refl
holds-unless false never = absurd (never refl)

pub some-unless : {X : Type 0} (o : Option X) → (o ≡ None → ⊥) → IsSome o
some-unless None never = absurd (never refl)
some-unless (Some x) never = refl

-- one answer is not two
pub err-same : {T E : Type 0} (r : Result T E) (x y : E) → r ≡ Err x → r ≡ Err y → x ≡ y
err-same r x y first second = cc

pub ok-never : {T E : Type 0} (r : Result T E) (x : T) (y : E) → r ≡ Ok x → r ≡ Err y → ⊥
ok-never r x y first second = cc

-- a sum up to the largest count
pub saturated : (n old more count : ℕ) → n ≡ min (old + more) max_count → more ≡ count → n ≡ min max_count (old + count)
saturated n old more count is same = omega (arith, is, same)

-- what is unchanged where a plan refuses
pub plan-unchanged : (lower : RenderRefused) (old new : Moment) (before after : ℕ) (P : Type 0) → (new ≡ old → after ≡ before → P) → ChangesNothing old new before after lower → OnPlanRefused P (by_render lower)
plan-unchanged renders.UnknownNode old new before after P by nothing = by nothing.0 nothing.1
plan-unchanged renders.Rect old new before after P by nothing = by nothing.0 nothing.1
plan-unchanged (renders.Strip needed capacity) old new before after P by nothing = by nothing.0 nothing.1
plan-unchanged renders.SwapFault old new before after P by nothing = tt
plan-unchanged (renders.SwapFull needed longest) old new before after P by nothing = tt
plan-unchanged renders.NoMemory old new before after P by nothing = tt

module _ {Op : Type 0} (same : Op → Op → Bool) (meanings : Meanings Op) where
  -- What a render finds: a session over a chain, the buffers and the nodes of its last state, and how many pairs it may cache.
  pub record IsAsked (v now : Parts Op) (s0 : ChainState) (buffers : BufferTable) (nodes : List (NodeFact Op)) (limit : ℕ) : Type 0 where
    pub is : v ≡ now
    pub over : IsOver same meanings now s0.held
    pub stated : IsStated meanings v.graph.latest
    pub buffers_are : buffers ≡ v.versions.latest
    pub nodes_are : nodes ≡ v.graph.latest.nodes
    pub limit_is : limit ≡ v.capacity

module _ {Op : Type 0} (meanings : Meanings Op) (v : Parts Op) (s0 s1 : ChainState) (buffers : BufferTable) (nodes : List (NodeFact Op)) (asked : Request) (entries : Entries) where
  -- What is left of the cache and of the chain, whatever is answered.
  pub record IsLeft (most capacity : ℕ) : Type 0 where
    pub cache : IsNodeCache entries most capacity s1.held
    pub sized : AreSizedPairs nodes (sizes_in entries s1.held)
    pub bound : Some capacity ≡ Some v.capacity
    pub respects : Respects s0.held s1.held (values_of v.entries) (values_of entries)
    pub right : (images : Buffers) → buffer_images buffers s0.held ≡ Some images → AreKnownRight meanings nodes images (cached_in v.entries s0.held)
        → AreKnownRight meanings nodes images (cached_in entries s1.held)
    pub one_owner : HaveOneOwner s0.held (values_of v.entries) → HaveOneOwner s1.held (values_of entries)
    pub other_names : HaveOneOwner s0.held (values_of v.entries) → AddsNoOther s0.counts s1.counts (values_of v.entries) (values_of entries)
    pub counts : Grows (length (pairs_requested meanings nodes asked)) s0.counts s1.counts
    pub loans : s1.loans ≡ s0.loans
    pub valid : s0.valid → s1.valid

  -- What a picture shows, how many pairs were applied and reused for it, and both counts of the session from then on.
  pub record IsShownBy (picture : Picture) (limit more again applied reused : ℕ) : Type 0 where
    pub can : CanBeRendered meanings nodes asked limit
    pub pairs : counted (pairs_in entries) more again
        ≡ all_looked_up itself itself (Some v.capacity) (uncounted (pairs_in v.entries)) (pairs_requested meanings nodes asked)
    pub shown : (images : Buffers) (list : List Cached) → buffer_images buffers s0.held ≡ Some images → cached_in v.entries s0.held ≡ Some list
        → AreRight meanings (scene_of nodes images) list
        → (cached_in entries s1.held ≡ Some (list_after meanings nodes images (Some v.capacity) list (pairs_requested meanings nodes asked)))
        × Shows (level_requested meanings nodes images asked) asked.rect picture
    pub applied_is : applied ≡ min (v.applied + more) max_count
    pub reused_is : reused ≡ min (v.reused + again) max_count
    -- what renders need, and so what the definition's need
    pub needs : (images : Buffers) → AreImagesOf (facts_of v.versions.latest.layout) images → AreStated meanings (shapes_of_facts (facts_of v.versions.latest.layout)) v.graph.latest.nodes
        → strips_needed meanings v.graph.latest.nodes asked ≡ render_need meanings (scene_of v.graph.latest.nodes images) asked.node asked.at_level asked.rect

module _ {Op : Type 0} (same : Op → Op → Bool) (meanings : Meanings Op) (v now : Parts Op) (is : v ≡ now) (s0 s1 : ChainState)
    (requires : IsOver same meanings now s0.held) (stated : IsStated meanings v.graph.latest) where
  abbrev nodes : List (NodeFact Op)
  nodes = v.graph.latest.nodes

  abbrev latest : BufferTable
  latest = v.versions.latest

  over : IsOver same meanings v s0.held
  over = subst (λ (p : Parts Op). IsOver same meanings p s0.held) (sym is) requires

  held-by : (session : Session Table Op) → IsSessionOf same meanings now s0.held session → IsSessionOf same meanings v s0.held session
  held-by session of = subst (λ (p : Parts Op). IsSessionOf same meanings p s0.held session) (sym is) of

  -- ---- what is asked

  asked-stated : AreStated meanings (shapes_of_facts (facts_of latest.layout)) nodes
  asked-stated = stated-latest same meanings v s0.held over stated

  asked-buffers : AreBuffersOver latest s0.held
  asked-buffers = over.over.1.0

  asked-cache : IsNodeCache v.entries v.most v.capacity s0.held
  asked-cache = over.cache

  asked-owned : Owns s0.held (buffers_names latest ++ values_of v.entries)
  asked-owned =
      let working = buffers_names v.versions.working in
      let others = names_of_all (v.versions.undoable ++ v.versions.redoable) in
      owns-fewer s0.held (session_names v) (buffers_names latest ++ values_of v.entries)
      (λ q. omega (
        arith,
        times-append (buffers_names latest) (values_of v.entries) q,
        times-append (versions_names v.versions) (values_of v.entries) q,
        times-append working (buffers_names latest ++ others) q,
        times-append (buffers_names latest) others q,
      )) over.owned

  asked-sized : AreSizedPairs nodes (sizes_in v.entries s0.held)
  asked-sized = sized-old same meanings v s0.held over stated

  asked-alone : HaveOneOwner s0.held (values_of v.entries)
  asked-alone = over.alone

  -- ---- what is left

  module _ (entries : Entries) (most capacity applied reused : ℕ) (cache : IsNodeCache entries most capacity s1.held) (sized : AreSizedPairs nodes (sizes_in entries s1.held))
      (bound : Some capacity ≡ Some v.capacity) (respects : Respects s0.held s1.held (values_of v.entries) (values_of entries)) where
    abbrev final : Parts Op
    final = record v { entries = entries; most = most; capacity = capacity; applied = applied; reused = reused }

    final-states : HasSameButCache now final
    final-states = record {
      versions = ap (λ (p : Parts Op). p.versions) is;
      pending = ap (λ (p : Parts Op). p.pending) is;
      written = ap (λ (p : Parts Op). p.written) is;
      graph = ap (λ (p : Parts Op). p.graph) is;
      most = cache.same ∙ same_Some capacity v.capacity bound ∙ sym over.cache.same ∙ ap (λ (p : Parts Op). p.most) is;
      capacity = same_Some capacity v.capacity bound ∙ ap (λ (p : Parts Op). p.capacity) is;
    }

    final-same : entries ≡ v.entries → applied ≡ v.applied → reused ≡ v.reused → final ≡ now
    final-same first second third =
        ap (λ (es : Entries). let p : Parts Op = record final { entries = es } in p) first
        ∙ ap (λ (n : ℕ). let p : Parts Op = record v { most = n; capacity = capacity; applied = applied; reused = reused } in p) (cache.same ∙ same_Some capacity v.capacity bound ∙ sym over.cache.same)
        ∙ ap (λ (n : ℕ). let p : Parts Op = record v { capacity = n; applied = applied; reused = reused } in p) (same_Some capacity v.capacity bound)
        ∙ ap (λ (n : ℕ). let p : Parts Op = record v { applied = n; reused = reused } in p) second
        ∙ ap (λ (n : ℕ). let p : Parts Op = record v { reused = n } in p) third
        ∙ is

    final-left : (added : ℕ) → Grows added s0.counts s1.counts → s1.loans ≡ s0.loans → (s0.valid → s1.valid)
        → Leaves added (session_names now) (session_names final) s0 s1
    final-left added counts loans valid =
        subst (λ (p : Parts Op). Leaves added (session_names p) (session_names final) s0 s1) is
        (leaves-beside added (values_of v.entries) (values_of entries) (session_names v) (session_names final) (versions_names v.versions) s0 s1
        (record { others = respects; counts = counts; loans = loans; valid = valid })
        (λ q. omega (arith, times-append (versions_names v.versions) (values_of v.entries) q))
        (λ q. omega (arith, times-append (versions_names v.versions) (values_of entries) q)))

    module _ (right : (images : Buffers) → buffer_images latest s0.held ≡ Some images → AreKnownRight meanings nodes images (cached_in v.entries s0.held) → AreKnownRight meanings nodes images (cached_in entries s1.held)) where
      -- with other pairs, of which nothing was counted
      over-refused : (HaveOneOwner s0.held (values_of v.entries) → HaveOneOwner s1.held (values_of entries)) → applied ≡ v.applied → reused ≡ v.reused → IsOver same meanings final s1.held
      over-refused alone first second =
          over-after same meanings v s0.held over stated entries most capacity applied reused s1.held cache sized respects respects.exposed right
          (same_Some capacity v.capacity bound) alone over.session.cached.applied over.session.cached.reused (over.is.applied ∙ sym first) (over.is.reused ∙ sym second)

      session-refused : applied ≡ v.applied → reused ≡ v.reused → (session : Session Table Op) → IsSessionOf same meanings now s0.held session → IsRecached same meanings final s1.held session
      session-refused first second session of = record {
        list = refreshed same meanings v s0.held over stated entries most capacity applied reused s1.held cache sized respects respects.exposed right session (held-by session of);
        is =
            let its = held-by session of in
            session-refreshed same meanings v s0.held over stated entries most capacity applied reused s1.held cache sized respects respects.exposed right session its
            session.cached.applied session.cached.reused (its.applied ∙ sym first) (its.reused ∙ sym second);
      }

      -- with the pairs of a request looked up
      module _ (asked : Request) (picture : Picture)
          (pairs : pairs_in entries ≡ (looked_up_by meanings v asked).list)
          (first : applied ≡ min max_count (v.applied + (looked_up_by meanings v asked).applied))
          (second : reused ≡ min max_count (v.reused + (looked_up_by meanings v asked).reused))
          (shows : (images : Buffers) (list : List Cached) → buffer_images latest s0.held ≡ Some images → cached_in v.entries s0.held ≡ Some list → AreRight meanings (scene_of nodes images) list
          → (cached_in entries s1.held ≡ Some (list_after meanings nodes images (Some v.capacity) list (pairs_requested meanings nodes asked))) × Shows (level_requested meanings nodes images asked) asked.rect picture) where
        counted-up : (old more told : ℕ) → min max_count old ≡ told → min max_count (old + more) ≡ min max_count (told + more)
        counted-up old more told told-is = omega (arith, told-is)

        over-rendered : (HaveOneOwner s0.held (values_of v.entries) → HaveOneOwner s1.held (values_of entries)) → IsOver same meanings final s1.held
        over-rendered alone =
            over-after same meanings v s0.held over stated entries most capacity applied reused s1.held cache sized respects respects.exposed right
            (same_Some capacity v.capacity bound) alone
            (over.session.cached.applied + (looked_up_by meanings v asked).applied) (over.session.cached.reused + (looked_up_by meanings v asked).reused)
            (counted-up over.session.cached.applied (looked_up_by meanings v asked).applied v.applied over.is.applied ∙ sym first)
            (counted-up over.session.cached.reused (looked_up_by meanings v asked).reused v.reused over.is.reused ∙ sym second)

        module _ (can : CanBeRendered meanings nodes asked v.capacity) (needs : (images : Buffers) → AreImagesOf (facts_of latest.layout) images
            → strips_needed meanings nodes asked ≡ render_need meanings (scene_of nodes images) asked.node asked.at_level asked.rect)
            (session : Session Table Op) (of : IsSessionOf same meanings now s0.held session) where
          its : IsSessionOf same meanings v s0.held session
          its = held-by session of

          shown-at : (some : IsSome s0.held.content)
              → (cached_in entries s1.held ≡ Some (list_after meanings nodes (images same meanings v s0.held over stated session its) (Some v.capacity) session.cached.list (pairs_requested meanings nodes asked)))
              × Shows (level_requested meanings nodes (images same meanings v s0.held over stated session its) asked) asked.rect picture
          shown-at some =
              shows (images same meanings v s0.held over stated session its) session.cached.list (images-known same meanings v s0.held over stated session its some)
              (list-known same meanings v s0.held over stated session its some) (right-known same meanings v s0.held over stated session its some)

          own : Scene Op
          own = scene same meanings v s0.held over stated session its

          can-own : can_render meanings v.capacity own asked.node asked.at_level asked.rect ≡ true
          unfolding own
          can-own =
              ap (λ (b : Bool). b && is_none (wide v.capacity (render_need meanings own asked.node asked.at_level asked.rect))) can.node
              ∙ ap is_none (ap (wide v.capacity) (sym (needs (images same meanings v s0.held over stated session its) (shown same meanings v s0.held over stated session its))) ∙ can.narrow)

          can-session : can_render meanings v.capacity (last_scene session) asked.node asked.at_level asked.rect ≡ true
          unfolding own
          can-session =
              subst (λ (s : Scene Op). can_render meanings v.capacity s asked.node asked.at_level asked.rect ≡ true) (scene-is same meanings v s0.held over stated session its) can-own

          after-it : Bool → Session Table Op
          after-it b = cond b (with_render meanings v.capacity session asked.node asked.at_level asked.rect) session

          session-after : IsSessionOf same meanings final s1.held (after_render meanings now.capacity session asked.node asked.at_level asked.rect)
          unfolding after-it
          session-after =
              subst (λ (p : Parts Op). IsSessionOf same meanings final s1.held (after_render meanings p.capacity session asked.node asked.at_level asked.rect)) is
              (subst (λ (b : Bool). IsSessionOf same meanings final s1.held (after-it b)) (sym can-session)
              (session-rendered same meanings v s0.held over stated entries most capacity applied reused s1.held cache sized respects asked session its
              (needs (images same meanings v s0.held over stated session its) (shown same meanings v s0.held over stated session its)) pairs first second
              (λ list known. sym respects.exposed ∙ known-exposed entries s1.held list known) (λ some. (shown-at some).0)))

          image-after : IsSome s0.held.content → Shows (level (image_of meanings (last_scene session) asked.node) asked.at_level) asked.rect picture
          image-after some =
              subst (λ (image : Image). Shows image asked.rect picture)
              (level-rendered same meanings v s0.held over stated entries most capacity applied reused s1.held cache sized respects asked session its
              (needs (images same meanings v s0.held over stated session its) (shown same meanings v s0.held over stated session its)) pairs first second
              (λ list known. sym respects.exposed ∙ known-exposed entries s1.held list known) (λ some. (shown-at some).0))
              (shown-at some).1

-- ---- by what is handed and answered

module _ {Op : Type 0} {same : Op → Op → Bool} {meanings : Meanings Op} {v now : Parts Op} {s0 : ChainState} {buffers : BufferTable} {nodes : List (NodeFact Op)} {limit : ℕ}
    (asked : IsAsked same meanings v now s0 buffers nodes limit) where
  abbrev Nodes : Type 0
  Nodes = List (NodeFact Op)

  latest-stated : AreStated meanings (shapes_of_facts (facts_of v.versions.latest.layout)) v.graph.latest.nodes
  latest-stated = asked-stated same meanings v now asked.is s0 s0 asked.over asked.stated

  pub handed-stated : AreStated meanings (shapes_of_facts (facts_of buffers.layout)) nodes
  handed-stated =
      subst (λ (b : BufferTable). AreStated meanings (shapes_of_facts (facts_of b.layout)) nodes) (sym asked.buffers_are)
      (subst (λ (xs : Nodes). AreStated meanings (shapes_of_facts (facts_of v.versions.latest.layout)) xs) (sym asked.nodes_are) latest-stated)

  pub handed-buffers : AreBuffersOver buffers s0.held
  handed-buffers =
      subst (λ (b : BufferTable). AreBuffersOver b s0.held) (sym asked.buffers_are) (asked-buffers same meanings v now asked.is s0 s0 asked.over asked.stated)

  pub handed-cache : IsNodeCache v.entries v.most v.capacity s0.held
  handed-cache = asked-cache same meanings v now asked.is s0 s0 asked.over asked.stated

  pub handed-owned : Owns s0.held (buffers_names buffers ++ values_of v.entries)
  handed-owned =
      subst (λ (b : BufferTable). Owns s0.held (buffers_names b ++ values_of v.entries)) (sym asked.buffers_are)
      (asked-owned same meanings v now asked.is s0 s0 asked.over asked.stated)

  pub handed-sized : AreSizedPairs nodes (sizes_in v.entries s0.held)
  handed-sized =
      subst (λ (xs : Nodes). AreSizedPairs xs (sizes_in v.entries s0.held)) (sym asked.nodes_are) (asked-sized same meanings v now asked.is s0 s0 asked.over asked.stated)

  alone : HaveOneOwner s0.held (values_of v.entries)
  alone = asked-alone same meanings v now asked.is s0 s0 asked.over asked.stated

  -- a node of the call is one of the session
  pub handed-node : (name : List ℕ) (b : Bool) → has_node (specs_of now.graph.latest.nodes) name ≡ b → has_node (specs_of nodes) name ≡ b
  handed-node name b is =
      ap (λ (xs : Nodes). has_node (specs_of xs) name) asked.nodes_are ∙ ap (λ (p : Parts Op). has_node (specs_of p.graph.latest.nodes) name) asked.is ∙ is

  -- what is said of the call's nodes, and of its limit, holds of the session's
  pub by-session : (P : Nodes → ℕ → Type 0) → P nodes limit → P now.graph.latest.nodes now.capacity
  by-session P holds =
      subst (λ (p : Parts Op). P p.graph.latest.nodes p.capacity) asked.is
      (subst (λ (n : ℕ). P v.graph.latest.nodes n) asked.limit_is (subst (λ (xs : Nodes). P xs limit) asked.nodes_are holds))

  module _ {s1 : ChainState} {request : Request} {entries : Entries} {most capacity : ℕ} (left : IsLeft meanings v s0 s1 buffers nodes request entries most capacity) where
    abbrev pub parts_left : ℕ → ℕ → Parts Op
    parts_left applied reused = record v { entries = entries; most = most; capacity = capacity; applied = applied; reused = reused }

    of_latest : IsLeft meanings v s0 s1 v.versions.latest v.graph.latest.nodes request entries most capacity
    of_latest =
        subst (λ (b : BufferTable). IsLeft meanings v s0 s1 b v.graph.latest.nodes request entries most capacity) asked.buffers_are
        (subst (λ (xs : Nodes). IsLeft meanings v s0 s1 buffers xs request entries most capacity) asked.nodes_are left)

    pub left-others : AddsNoOther s0.counts s1.counts (values_of now.entries) (values_of entries)
    left-others = subst (λ (p : Parts Op). AddsNoOther s0.counts s1.counts (values_of p.entries) (values_of entries)) asked.is (left.other_names alone)

    -- the most names that the chain has meanwhile, by these nodes
    abbrev names_by : Nodes → ℕ
    names_by xs =
        names_after_render (s0.counts.names - length (values_of v.entries)) (length (pairs_in v.entries)) v.capacity
        (all_looked_up itself itself (Some v.capacity) (uncounted (pairs_in v.entries)) (pairs_requested meanings xs request)).applied

    pub left-cause : (refused : RenderRefused)
        → (HaveOneOwner s0.held (values_of v.entries) → IsRefusedBy meanings nodes request limit (HasSwapCause s0.counts s1.counts (names_by nodes)) refused)
        → IsRefusedBy meanings now.graph.latest.nodes request now.capacity (HasSwapCause s0.counts s1.counts (names_in_render meanings now request s0.counts)) refused
    left-cause refused cause =
        subst (λ (p : Parts Op). IsRefusedBy meanings p.graph.latest.nodes request p.capacity (HasSwapCause s0.counts s1.counts (names_in_render meanings p request s0.counts)) refused) asked.is
        (subst (λ (n : ℕ). IsRefusedBy meanings v.graph.latest.nodes request n (HasSwapCause s0.counts s1.counts (names_by v.graph.latest.nodes)) refused) asked.limit_is
        (subst (λ (xs : Nodes). IsRefusedBy meanings xs request limit (HasSwapCause s0.counts s1.counts (names_by xs)) refused) asked.nodes_are (cause alone)))

    pub left-names : Leaves (length (pairs_requested meanings now.graph.latest.nodes request)) (session_names now) (session_names (parts_left v.applied v.reused)) s0 s1
    left-names =
        subst (λ (p : Parts Op). Leaves (length (pairs_requested meanings p.graph.latest.nodes request)) (session_names now) (session_names (parts_left v.applied v.reused)) s0 s1) asked.is
        (final-left same meanings v now asked.is s0 s1 asked.over asked.stated entries most capacity v.applied v.reused of_latest.cache of_latest.sized left.bound left.respects
        (length (pairs_requested meanings v.graph.latest.nodes request)) of_latest.counts left.loans left.valid)

    module _ (applied reused : ℕ) where
      pub left-states : HasSameButCache now (parts_left applied reused)
      left-states =
          final-states same meanings v now asked.is s0 s1 asked.over asked.stated entries most capacity applied reused of_latest.cache of_latest.sized left.bound left.respects

      -- a refused request

      pub left-same : entries ≡ v.entries → applied ≡ v.applied → reused ≡ v.reused → parts_left applied reused ≡ now
      left-same =
          final-same same meanings v now asked.is s0 s1 asked.over asked.stated entries most capacity applied reused of_latest.cache of_latest.sized left.bound left.respects

      pub refused-over : applied ≡ v.applied → reused ≡ v.reused → IsOver same meanings (parts_left applied reused) s1.held
      refused-over =
          over-refused same meanings v now asked.is s0 s1 asked.over asked.stated entries most capacity applied reused of_latest.cache of_latest.sized left.bound left.respects
          of_latest.right left.one_owner

      pub refused-session : applied ≡ v.applied → reused ≡ v.reused → (session : Session Table Op) → IsSessionOf same meanings now s0.held session
          → IsRecached same meanings (parts_left applied reused) s1.held session
      refused-session =
          session-refused same meanings v now asked.is s0 s1 asked.over asked.stated entries most capacity applied reused of_latest.cache of_latest.sized left.bound left.respects
          of_latest.right

      -- a rendered one

      module _ {picture : Picture} {more again : ℕ} (done : IsShownBy meanings v s0 s1 buffers nodes request entries picture limit more again applied reused) where
        of_last : IsShownBy meanings v s0 s1 v.versions.latest v.graph.latest.nodes request entries picture v.capacity more again applied reused
        of_last =
            subst (λ (n : ℕ). IsShownBy meanings v s0 s1 v.versions.latest v.graph.latest.nodes request entries picture n more again applied reused) asked.limit_is
            (subst (λ (b : BufferTable). IsShownBy meanings v s0 s1 b v.graph.latest.nodes request entries picture limit more again applied reused) asked.buffers_are
            (subst (λ (xs : Nodes). IsShownBy meanings v s0 s1 buffers xs request entries picture limit more again applied reused) asked.nodes_are done))

        rendered-v : IsRendered meanings request v (parts_left applied reused)
        rendered-v = record {
          pairs = ap (λ (c : Counted Pair). c.list) of_last.pairs;
          applied = saturated applied v.applied more (looked_up_by meanings v request).applied done.applied_is (ap (λ (c : Counted Pair). c.applied) of_last.pairs);
          reused = saturated reused v.reused again (looked_up_by meanings v request).reused done.reused_is (ap (λ (c : Counted Pair). c.reused) of_last.pairs);
        }

        pub done-rendered : IsRendered meanings request now (parts_left applied reused)
        done-rendered = subst (λ (p : Parts Op). IsRendered meanings request p (parts_left applied reused)) asked.is rendered-v

        pub done-over : IsOver same meanings (parts_left applied reused) s1.held
        done-over =
            over-rendered same meanings v now asked.is s0 s1 asked.over asked.stated entries most capacity applied reused of_latest.cache of_latest.sized left.bound left.respects
            of_latest.right request picture rendered-v.pairs rendered-v.applied rendered-v.reused of_last.shown left.one_owner

        needed : (images : Buffers) → AreImagesOf (facts_of v.versions.latest.layout) images
            → strips_needed meanings v.graph.latest.nodes request ≡ render_need meanings (scene_of v.graph.latest.nodes images) request.node request.at_level request.rect
        needed images shown = done.needs images shown latest-stated

        pub done-session : (session : Session Table Op) → IsSessionOf same meanings now s0.held session
            → IsSessionOf same meanings (parts_left applied reused) s1.held (after_render meanings now.capacity session request.node request.at_level request.rect)
        done-session =
            session-after same meanings v now asked.is s0 s1 asked.over asked.stated entries most capacity applied reused of_latest.cache of_latest.sized left.bound left.respects
            of_latest.right request picture rendered-v.pairs rendered-v.applied rendered-v.reused of_last.shown of_last.can needed

        pub done-image : (session : Session Table Op) → IsSessionOf same meanings now s0.held session → IsSome s0.held.content
            → Shows (level (image_of meanings (last_scene session) request.node) request.at_level) request.rect picture
        done-image =
            image-after same meanings v now asked.is s0 s1 asked.over asked.stated entries most capacity applied reused of_latest.cache of_latest.sized left.bound left.respects
            of_latest.right request picture rendered-v.pairs rendered-v.applied rendered-v.reused of_last.shown of_last.can needed
