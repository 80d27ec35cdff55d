-- Sessions of which the buffers of the last state were read, and the cached pairs were handed to a render.
use Rattle.std.proofs.Common.{◌≡◌, ℕ, ◌+◌, Bool, List, ◌++◌, map, Option, None, Some, refl, sym, ap, ◌∙◌, subst, arith}
use Rattle.std.specs.Prelude.{IfSome, IsSome, is_some, min}
use Rattle.std.specs.List.{AllByRecursion, IsDistinct}
use Rattle.std.specs.Map.{values_of}
use Rattle.std.specs.Option.{option_map}
use Rattle.std.proofs.lemmas.List.{length-map}
use Rattle.std.proofs.lemmas.Option.{same_Some}
use Rattle.chain_owners.specs.Held.{Held}
use Rattle.chain_owners.specs.Owners.{Owns, Respects}
use Rattle.chain_owners.proofs.Ownership.{others-own, owns-fewer, times-append}
use Rattle.model_buffers.specs.Layout.{TableLayout, facts_of}
use Rattle.model_buffers.specs.Table.{Table}
use Rattle.model_graphs.specs.declared.node.NodeFact.{NodeFact}
use Rattle.model_graphs.specs.Evaluation.{Buffers}
use Rattle.model_graphs.specs.Facts.{AreImagesOf, Facts, shapes_of_facts, specs_of}
use Rattle.model_graphs.specs.Meanings.{Meanings}
use Rattle.model_graphs.specs.Node.{Node}
use Rattle.model_images.specs.Level.{level}
use Rattle.model_states.specs.Cache.{AreRight, Cached, Counted, Pair, all_looked_up, by_pair, counted_pairs, itself, needed_pairs, pairs_of, same_pair, uncounted, with_bytes}
use Rattle.model_states.specs.Damage.{IsStated}
use Rattle.model_states.specs.State.{Scene, State, image_of}
use Rattle.model_states.specs.Valid.{AreStated}
use Rattle.model_states.proofs.CacheLaws.{pairs_alone}
use Rattle.model_sessions.specs.Histories.{last_state}
use Rattle.model_sessions.specs.Sessions.{Session, last_scene, max_count, render_need, with_render}
use Rattle.model_sessions.specs.Tables.{table_images}
use Rattle.model_sessions.proofs.Sources.{images_known}
use Rattle.node_cache.specs.NodeLaws.{node_exposed, node_within, pairs_distinct}
use Rattle.node_cache.specs.NodeNames.{Entries, IsNodeCache, cached_in, pairs_in, sizes_in}
use Rattle.node_cache.specs.Stores.{HaveOneOwner}
use Rattle.node_tiles.specs.Stated.{scene_of}
use Rattle.strip_renders.specs.Strips.{AreKnownRight, AreSizedPairs, counted, list_after}
use Rattle.strip_renders.proofs.Looked.{pairs-exposed}
use Rattle.render_workers.specs.Requests.{Request, level_requested, pairs_requested, strips_needed}
use Rattle.render_workers.proofs.Folds.{looked-counted, more}
use Rattle.buffer_view.specs.BufferTables.{BufferTable, buffer_images, table_of}
use Rattle.session_states.specs.OverChains.{AreAllSame, versions_names}
use Rattle.session_states.specs.Versions.{all_versions}
use Rattle.session_states.proofs.Beside.{over-again, same-again}
use Rattle.session_states.proofs.Seen.{states-same}
use Rattle.commit_session.specs.Parts.{Parts, session_names}
use Rattle.commit_session.specs.Rendering.{looked_up_by}
use Rattle.commit_session.specs.Seen.{AreCached, AreRetained, IsOver, IsSessionOf}
use Rattle.commit_session.proofs.Held.{table-again}
use Rattle.commit_session.proofs.Requested.{HasLength, fresh-length, fresh-lengths, fresh-pairs, fresh-right, have-lengths, known-from, known-is, lengths-are, looked-lengths, map-itself, right-is, right-sized, sized_by, sizes-are}
use Rattle.commit_session.proofs.Working.{retained-again}

-- bytes that are known are exposed
pub known-exposed : (entries : Entries) (held : Held) (list : List Cached) → cached_in entries held ≡ Some list → IsSome held.content
known-exposed entries held list known = known-from held.content _ list known

module _ {Op : Type 0} (same : Op → Op → Bool) (meanings : Meanings Op) (parts : Parts Op) (held : Held) (over : IsOver same meanings parts held) (stated : IsStated meanings parts.graph.latest) where
  abbrev nodes : List (NodeFact Op)
  nodes = parts.graph.latest.nodes

  abbrev latest : BufferTable
  latest = parts.versions.latest

  -- the nodes are stated over the buffers of the last state
  pub stated-latest : AreStated meanings (shapes_of_facts (facts_of latest.layout)) nodes
  stated-latest = subst (λ (facts : Facts). AreStated meanings (shapes_of_facts facts) nodes) over.is.retained.latest.facts stated

  pub owned-latest : Owns held (versions_names parts.versions ++ values_of parts.entries) → Owns held (values_of parts.entries ++ versions_names parts.versions)
  owned-latest owned =
      owns-fewer held (session_names parts) (values_of parts.entries ++ versions_names parts.versions)
      (λ q. omega (arith, times-append (values_of parts.entries) (versions_names parts.versions) q, times-append (versions_names parts.versions) (values_of parts.entries) q)) owned

  -- ---- one of the sessions that are held

  module _ (session : Session Table Op) (is : IsSessionOf same meanings parts held session) where
    abbrev pub state : State Table Op
    state = last_state session.history

    abbrev pub images : Buffers
    images = table_images state.table

    abbrev pub scene : Scene Op
    scene = scene_of nodes images

    pub shown : AreImagesOf (facts_of latest.layout) images
    shown = subst (λ (layout : TableLayout). AreImagesOf (facts_of layout) images) is.retained.latest.table.layout (images_known state.table)

    pub scene-is : scene ≡ last_scene session
    scene-is = ap (λ (ns : List (Node Op)). let s : Scene Op = record { table = images; nodes = ns } in s) is.retained.latest.nodes

    -- its last table and its cached list are known where the chain exposes its bytes
    pub table-known : IsSome held.content → table_of latest held ≡ Some state.table
    table-known some = known-is held.content _ state.table some is.retained.latest.table.images

    pub images-known : IsSome held.content → buffer_images latest held ≡ Some images
    images-known some = ap (option_map table_images) (table-known some)

    pub list-known : IsSome held.content → cached_in parts.entries held ≡ Some session.cached.list
    list-known some = known-is held.content _ session.cached.list some is.cached.bytes

  -- ---- what a render asks

  abbrev own : Scene Op
  own = scene over.session over.is

  own-right : AreRight meanings own over.session.cached.list
  own-right = subst (λ (s : Scene Op). AreRight meanings s over.session.cached.list) (sym (scene-is over.session over.is)) over.valid.right

  pub sized-old : AreSizedPairs nodes (sizes_in parts.entries held)
  sized-old =
      subst (AreSizedPairs nodes) over.is.cached.sizes
      (right-sized meanings (facts_of latest.layout) nodes stated-latest (images over.session over.is) (shown over.session over.is) over.session.cached.list own-right)

  module _ (session : Session Table Op) (is : IsSessionOf same meanings parts held session) (some : IsSome held.content) where
    -- each session that is held has right pairs where the chain exposes its bytes
    pub right-known : AreRight meanings (scene session is) session.cached.list
    right-known =
        let tables : (state over.session over.is).table ≡ (state session is).table =
        same_Some (state over.session over.is).table (state session is).table (sym (table-known over.session over.is some) ∙ table-known session is some) in
        let lists : over.session.cached.list ≡ session.cached.list =
        same_Some over.session.cached.list session.cached.list (sym (list-known over.session over.is some) ∙ list-known session is some) in
        subst (λ (list : List Cached). AreRight meanings (scene session is) list) lists
        (subst (λ (table : Table). AreRight meanings (scene_of nodes (table_images table)) over.session.cached.list) tables own-right)

    pub known-right : AreKnownRight meanings nodes (images session is) (cached_in parts.entries held)
    known-right = record { list = session.cached.list; known = list-known session is some; right = right-known }

  -- ---- after a call that read the buffers of the last state, and kept and voided cached pairs

  module _ (entries : Entries) (most capacity applied reused : ℕ) (left : Held) where
    abbrev pub after : Parts Op
    after = record parts { entries = entries; most = most; capacity = capacity; applied = applied; reused = reused }

    module _ (cache : IsNodeCache entries most capacity left) (sized : AreSizedPairs nodes (sizes_in entries left))
        (respects : Respects held left (values_of parts.entries) (values_of entries)) where
      others : AreAllSame held left (all_versions parts.versions)
      others = same-again held left (values_of parts.entries) (values_of entries) respects (all_versions parts.versions) (owned-latest over.owned)

      retained-after : (session : Session Table Op) → AreRetained same meanings parts held session.history.workspace.retained
          → AreRetained same meanings after left session.history.workspace.retained
      retained-after session are =
          let again = retained-again same meanings parts parts.versions.working parts.written held left (states-same held left parts.versions others.1) session are in
          record { number = again.number; latest = again.latest; undoable = again.undoable; redoable = again.redoable }

      -- a list of these pairs is cached where its lengths, and its bytes where they are known, are those of the entries
      cached-after : (list : List Cached) → pairs_of by_pair list ≡ pairs_in entries → AllByRecursion (HasLength nodes) list
          → IfSome (cached_in entries left) (λ (known : List Cached). known ≡ list) → AreCached entries left list
      cached-after list pairs lengths bytes = record {
        pairs = pairs;
        sizes =
            lengths-are nodes list lengths
            ∙ ap (map (sized_by nodes)) (pairs ∙ sym (node_exposed entries most capacity left cache).of_pairs)
            ∙ sym (sizes-are nodes (sizes_in entries left) sized);
        bytes = bytes;
      }

      -- what is edited, pending, written and retained is as before
      pub session-after : (session : Session Table Op) → IsSessionOf same meanings parts held session → (cached : Counted Cached) → AreCached entries left cached.list
          → min max_count cached.applied ≡ applied → min max_count cached.reused ≡ reused → IsSessionOf same meanings after left (record session { cached = cached })
      session-after session is cached are first second = record {
        working = table-again held left parts.versions.working session.history.workspace.working others.0 is.working;
        pending = is.pending;
        written = is.written;
        retained = retained-after session is.retained;
        cached = are;
        applied = first;
        reused = second;
      }

      -- ---- with the pairs of the entries, whatever was looked up

      module _ (exposed : is_some left.content ≡ is_some held.content)
          (right : (images : Buffers) → buffer_images latest held ≡ Some images → AreKnownRight meanings nodes images (cached_in parts.entries held) → AreKnownRight meanings nodes images (cached_in entries left)) where
        still-exposed : (list : List Cached) → cached_in entries left ≡ Some list → IsSome held.content
        still-exposed list known = sym exposed ∙ known-exposed entries left list known

        module _ (session : Session Table Op) (is : IsSessionOf same meanings parts held session) where
          abbrev pub refreshed : List Cached
          refreshed = map (with_bytes meanings (scene session is)) (pairs_in entries)

          known-refreshed : (list : List Cached) → cached_in entries left ≡ Some list → list ≡ refreshed
          known-refreshed list known =
              let some : IsSome held.content = still-exposed list known in
              let found = right (images session is) (images-known session is some) (known-right session is some) in
              let its : found.list ≡ list = same_Some found.list list (sym found.known ∙ known) in
              right-is meanings (scene session is) list (subst (AreRight meanings (scene session is)) its found.right)
              ∙ ap (map (with_bytes meanings (scene session is)))
              (pairs-exposed (pairs_in entries) (sizes_in entries left) left (cached_in entries left) list (node_exposed entries most capacity left cache) known)

          refreshed-known : (o : Option (List Cached)) → cached_in entries left ≡ o → IfSome o (λ (known : List Cached). known ≡ refreshed)
          refreshed-known None known = tt
          refreshed-known (Some list) known = known-refreshed list known

          refreshed-cached : AreCached entries left refreshed
          refreshed-cached =
              cached-after refreshed (fresh-pairs meanings (scene session is) (pairs_in entries))
              (fresh-lengths nodes (with_bytes meanings (scene session is)) (pairs_in entries) (fresh-length meanings (facts_of latest.layout) nodes stated-latest (images session is) (shown session is)))
              (refreshed-known (cached_in entries left) refl)

          -- the session with these pairs, and so many counted
          pub session-refreshed : (first second : ℕ) → min max_count first ≡ applied → min max_count second ≡ reused
              → IsSessionOf same meanings after left (record session { cached = counted refreshed first second })
          session-refreshed first second one two = session-after session is (counted refreshed first second) refreshed-cached one two

        -- it is over its chain again
        pub over-after : capacity ≡ parts.capacity → (HaveOneOwner held (values_of parts.entries) → HaveOneOwner left (values_of entries))
            → (first second : ℕ) → min max_count first ≡ applied → min max_count second ≡ reused → IsOver same meanings after left
        over-after bound alone first second one two = let list : List Cached = refreshed over.session over.is in record {
          owned =
              owns-fewer left (values_of entries ++ versions_names parts.versions) (versions_names parts.versions ++ values_of entries)
              (λ q. omega (arith, times-append (values_of entries) (versions_names parts.versions) q, times-append (versions_names parts.versions) (values_of entries) q))
              (others-own held left (values_of parts.entries) (values_of entries) respects (versions_names parts.versions) (owned-latest over.owned));
          alone = alone over.alone;
          over = over-again held left (values_of parts.entries) (values_of entries) respects (all_versions parts.versions) (owned-latest over.owned) over.over;
          cache = cache;
          session = record over.session { cached = counted list first second };
          is = session-refreshed over.session over.is first second one two;
          valid = record {
            history = over.valid.history;
            right =
                subst (λ (s : Scene Op). AreRight meanings s list) (scene-is over.session over.is)
                (subst (λ (pairs : List Pair). AreRight meanings own (map (with_bytes meanings own) pairs)) (node_exposed entries most capacity left cache).of_pairs
                (fresh-right meanings (facts_of latest.layout) nodes stated-latest (images over.session over.is) (shown over.session over.is) (sizes_in entries left) sized));
            distinct =
                subst (λ (pairs : List Pair). IsDistinct same_pair pairs) (map-itself (pairs_in entries) ∙ sym (fresh-pairs meanings own (pairs_in entries)))
                (pairs_distinct entries cache.distinct);
            few = omega (arith, length-map (pairs_in entries) (with_bytes meanings own), node_within entries most capacity left cache);
          };
        }

      -- ---- with the pairs of a request looked up

      module _ (asked : Request) (session : Session Table Op) (is : IsSessionOf same meanings parts held session)
          (needs : strips_needed meanings nodes asked ≡ render_need meanings (scene session is) asked.node asked.at_level asked.rect)
          (pairs : pairs_in entries ≡ (looked_up_by meanings parts asked).list)
          (first : applied ≡ min max_count (parts.applied + (looked_up_by meanings parts asked).applied))
          (second : reused ≡ min max_count (parts.reused + (looked_up_by meanings parts asked).reused))
          (bytes : (list : List Cached) → cached_in entries left ≡ Some list → IsSome held.content)
          (made : IsSome held.content → cached_in entries left
          ≡ Some (list_after meanings nodes (images session is) (Some parts.capacity) session.cached.list (pairs_requested meanings nodes asked))) where
        abbrev requested : List Pair
        requested = pairs_requested meanings nodes asked

        abbrev fresh : Pair → Cached
        fresh = with_bytes meanings (scene session is)

        looked : Counted Cached
        looked = all_looked_up by_pair fresh (Some parts.capacity) (uncounted session.cached.list) requested

        counted-is : all_looked_up by_pair fresh (Some parts.capacity) session.cached requested ≡ more session.cached.applied session.cached.reused looked
        unfolding looked
        counted-is = looked-counted by_pair fresh (Some parts.capacity) session.cached.list session.cached.applied session.cached.reused requested

        pairs-are : counted_pairs by_pair looked ≡ looked_up_by meanings parts asked
        unfolding looked
        pairs-are =
            pairs_alone by_pair fresh (Some parts.capacity) (uncounted session.cached.list) requested (λ pair. refl)
            ∙ ap (λ (list : List Pair). all_looked_up itself itself (Some parts.capacity) (uncounted list) requested) is.cached.pairs

        list-made : (o : Option (List Cached)) → cached_in entries left ≡ o → IfSome o (λ (known : List Cached). known ≡ looked.list)
        unfolding looked
        list-made None known = tt
        list-made (Some list) known = same_Some list _ (sym known ∙ made (bytes list known))

        looked-all : AllByRecursion (HasLength nodes) looked.list
        unfolding looked
        looked-all =
            looked-lengths nodes fresh (Some parts.capacity) (uncounted session.cached.list) requested
            (fresh-length meanings (facts_of latest.layout) nodes stated-latest (images session is) (shown session is))
            (have-lengths nodes session.cached.list (subst (AreSizedPairs nodes) (sym is.cached.sizes) sized-old))

        looked-cached : AreCached entries left looked.list
        looked-cached =
            cached-after looked.list (ap (λ (c : Counted Pair). c.list) pairs-are ∙ sym pairs) looked-all (list-made (cached_in entries left) refl)

        count-more : (old more told all : ℕ) → min max_count old ≡ told → all ≡ min max_count (told + more) → min max_count (old + more) ≡ all
        count-more old more told all is all-is = omega (arith, is, all-is)

        session-looked : IsSessionOf same meanings after left (record session { cached = more session.cached.applied session.cached.reused looked })
        session-looked =
            session-after session is (more session.cached.applied session.cached.reused looked) looked-cached
            (count-more session.cached.applied looked.applied parts.applied applied is.applied (first ∙ ap (λ (c : Counted Pair). min max_count (parts.applied + c.applied)) (sym pairs-are)))
            (count-more session.cached.reused looked.reused parts.reused reused is.reused (second ∙ ap (λ (c : Counted Pair). min max_count (parts.reused + c.reused)) (sym pairs-are)))

        -- the session after a render of a scene
        rendered : Scene Op → Session Table Op
        rendered s = record session {
          cached = all_looked_up by_pair (with_bytes meanings s) (Some parts.capacity) session.cached (needed_pairs s.nodes (render_need meanings s asked.node asked.at_level asked.rect));
        }

        rendered-is : record session { cached = more session.cached.applied session.cached.reused looked } ≡ rendered (scene session is)
        unfolding rendered
        rendered-is =
            ap (λ (c : Counted Cached). let x : Session Table Op = record session { cached = c } in x) (sym counted-is)
            ∙ ap (λ strips. let x : Session Table Op = record session { cached = all_looked_up by_pair fresh (Some parts.capacity) session.cached (needed_pairs (specs_of nodes) strips) } in x) needs

        pub session-rendered : IsSessionOf same meanings after left (with_render meanings parts.capacity session asked.node asked.at_level asked.rect)
        unfolding rendered
        session-rendered =
            subst (λ (s : Scene Op). IsSessionOf same meanings after left (rendered s)) (scene-is session is)
            (subst (IsSessionOf same meanings after left) rendered-is session-looked)

        -- the image of a request is that of the node in the last state
        pub level-rendered : level_requested meanings nodes (images session is) asked ≡ level (image_of meanings (last_scene session) asked.node) asked.at_level
        level-rendered = ap (λ (s : Scene Op). level (image_of meanings s asked.node) asked.at_level) (scene-is session is)
