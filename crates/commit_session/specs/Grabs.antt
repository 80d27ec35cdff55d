-- Reads of levels of the buffers of a session.
use Rattle.std.specs.Prelude.{◌≡◌, ℕ, Bool, Err, IfErr, IfOk, List, None, Result}
use Rattle.model_buffers.specs.Layout.{find}
use Rattle.model_buffers.specs.Table.{Table}
use Rattle.model_buffers.specs.declared.refused.EditRefused.TheVariants.{UnknownBuffer}
use Rattle.model_graphs.specs.Meanings.{Meanings}
use Rattle.model_images.specs.Image.{Image}
use Rattle.model_images.specs.TileCounts.{level_tiles}
use Rattle.model_sessions.specs.Sessions.{Session}
use Rattle.pixel_formats.specs.declared.abyss.Abyss.{Abyss}
use Rattle.plane_rect.specs.Rectangle.{Rectangle}
use Rattle.root_tiles.specs.Chains.{ChainState, Leaves}
use Rattle.root_tiles.specs.Roots.{HasShape}
use Rattle.buffer_view.specs.BufferTables.{table_of}
use Rattle.buffer_view.specs.Reads.{HasReadCause, IsReadOfBuffer, box_of_root, part_of_buffer}
use Rattle.buffer_view.specs.declared.refused.BufferRefused.TheVariants.{Edit}
use Rattle.commit_session.specs.Parts.{Parts, session_names}
use Rattle.commit_session.specs.Refusals.{IsRefusedAs, by_buffers}
use Rattle.commit_session.specs.Seen.{IsOver, IsSessionOf}
use Rattle.commit_session.specs.Steps.{HasSameStates}
use Rattle.commit_session.specs.declared.refused.SessionRefused.{SessionRefused}
use Rattle.commit_session.specs.declared.refused.SessionRefused.TheVariants.{Buffer}

-- What a read of a level of the image of a buffer that is edited gives, under a policy outside the level, and what it leaves
-- of what a session holds and of its chain: the session is unchanged, whatever it answers.
pub record Grabs {Op : Type 0} (equal : Op → Op → Bool) (meanings : Meanings Op) (name : List ℕ) (z : ℕ) (policy : Abyss) (r : Rectangle) (result : Result Image SessionRefused) (old new : Parts Op) (before after : ChainState) : Type 0 where
  -- what is read has the rectangle, in the buffer's format
  pub shape : IfOk result (HasShape (part_of_buffer old.versions.working.layout name r))
  -- and the samples of the level there
  pub image : IfOk result (IsReadOfBuffer (table_of old.versions.working before.held) name z policy r)
  -- without a buffer of the name it is refused by this cause
  pub unknown : find old.versions.working.layout.buffers name ≡ None → result ≡ Err (Buffer (Edit UnknownBuffer))
  -- it is refused for that, by the swap, or where memory runs out
  pub cause : IfErr result (IsRefusedAs by_buffers (HasReadCause old.versions.working.layout name z before.counts after.counts))
  -- all that the session holds is as before, but the tiles of levels of the buffers that are edited
  pub layout : new.versions.working.layout ≡ old.versions.working.layout
  pub states : HasSameStates old new
  pub pending : new.pending ≡ old.pending
  pub written : new.written ≡ old.written
  -- and so is the session of the definitions
  pub same : (held : Session Table Op) → IsSessionOf equal meanings old before.held held → IsSessionOf equal meanings new after.held held
  -- the session is over its chain, which has at most a name more for each tile of the levels
  pub over : IsOver equal meanings new after.held
  pub left : Leaves (level_tiles (box_of_root old.versions.working.layout name) z) (session_names old) (session_names new) before after
