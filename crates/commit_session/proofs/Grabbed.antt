-- Sessions of which a level of a buffer was read.
use Rattle.std.proofs.Common.{◌≡◌, ℕ, Bool, List, Result, ap, subst}
use Rattle.model_graphs.specs.Meanings.{Meanings}
use Rattle.model_images.specs.Image.{Image}
use Rattle.model_images.specs.TileCounts.{level_tiles}
use Rattle.pixel_formats.specs.declared.abyss.Abyss.{Abyss}
use Rattle.plane_rect.specs.Rectangle.{Rectangle}
use Rattle.root_tiles.specs.Chains.{ChainState, Leaves}
use Rattle.buffer_view.specs.Reads.{GrabsBuffer, box_of_root}
use Rattle.buffer_view.specs.declared.refused.BufferRefused.{BufferRefused}
use Rattle.buffer_view.specs.BufferTables.{BufferTable}
use Rattle.session_states.specs.OverChains.{AreVersionsOver, tables_of, versions_names}
use Rattle.session_states.specs.Versions.{Versions}
use Rattle.commit_session.specs.Grabs.{Grabs}
use Rattle.commit_session.specs.Parts.{Parts, session_names}
use Rattle.commit_session.specs.Seen.{IsOver}
use Rattle.commit_session.proofs.Kept.{read-parts}
use Rattle.commit_session.proofs.Passed.{as_session, cause-as, edited-states, ok-as}

module _ {Op : Type 0} (same : Op → Op → Bool) (meanings : Meanings Op) (v now : Parts Op) (is : v ≡ now) (s0 s1 : ChainState) (requires : IsOver same meanings now s0.held) where
  -- what the read of the versions of buffers gives is what the session gives
  pub grabbed : (name : List ℕ) (z : ℕ) (policy : Abyss) (r : Rectangle) (result : Result Image BufferRefused) (edited : Versions BufferTable)
      → edited ≡ record v.versions { working = edited.working }
      → Leaves (level_tiles (box_of_root v.versions.working.layout name) z) (versions_names v.versions) (versions_names edited) s0 s1
      → tables_of edited s1.held ≡ tables_of v.versions s0.held → AreVersionsOver edited s1.held
      → GrabsBuffer name z policy r result v.versions.working edited.working s0 s1
      → Grabs same meanings name z policy r (as_session result) now (record v { versions = edited }) s0 s1
  grabbed name z policy r result edited states leaves tables versions read =
      let kept = read-parts same meanings v now is s0 s1 requires (level_tiles (box_of_root v.versions.working.layout name) z) edited states leaves read.layout tables versions in
      let then : GrabsBuffer name z policy r result now.versions.working edited.working s0 s1 =
      subst (λ (p : Parts Op). GrabsBuffer name z policy r result p.versions.working edited.working s0 s1) is read in
      record {
        shape = ok-as result _ then.shape;
        image = ok-as result _ then.image;
        unknown = λ none. ap as_session (then.unknown none);
        cause = cause-as result _ then.cause;
        layout = then.layout;
        states = edited-states v now edited v.written is states;
        pending = ap (λ (p : Parts Op). p.pending) is;
        written = ap (λ (p : Parts Op). p.written) is;
        same = kept.session;
        over = kept.over;
        left = subst (λ (p : Parts Op). Leaves (level_tiles (box_of_root p.versions.working.layout name) z) (session_names now) (session_names (record v { versions = edited })) s0 s1) is kept.left;
      }
