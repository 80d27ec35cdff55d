-- Versions of buffers by their values, and after a commit.
use Rattle.std.proofs.Common.{◌≡◌, List, [], ◌∷◌, take, drop, sym, ap, ◌∙◌, Some}
use Rattle.std.specs.Prelude.{slice_get}
use Rattle.std.proofs.lemmas.Option.{same_Some}
use Rattle.pixel_formats.specs.Limits.{max_undoable}
use Rattle.buffer_view.specs.BufferTables.{BufferTable}
use Rattle.session_states.specs.Versions.{Versions, after_commit}

-- the first of a list
pub first-is : (list rest : List BufferTable) (first shared : BufferTable) → list ≡ first ∷ rest → slice_get list 0 ≡ Some shared → first ≡ shared
first-is list rest first shared is there =
    same_Some first shared (sym (ap (λ (bs : List BufferTable). slice_get bs 0) is) ∙ there)

-- four values
abbrev pub four : BufferTable → BufferTable → List BufferTable → List BufferTable → Versions BufferTable
four working latest undoable redoable = record { working = working; latest = latest; undoable = undoable; redoable = redoable }

pub four-same : (w w' l l' : BufferTable) (u u' r r' : List BufferTable) → w ≡ w' → l ≡ l' → u ≡ u' → r ≡ r' → four w l u r ≡ four w' l' u' r'
four-same w w' l l' u u' r r' ew el eu er =
    ap (λ (x : BufferTable). four x l u r) ew ∙ ap (λ (x : BufferTable). four w' x u r) el
    ∙ ap (λ (x : List BufferTable). four w' l' x r) eu ∙ ap (λ (x : List BufferTable). four w' l' u' x) er

module _ (v now : Versions BufferTable) (is : v ≡ now) where
  latest-on : (rest : List BufferTable) (left : BufferTable) → left ≡ v.latest → left ∷ rest ≡ now.latest ∷ rest
  latest-on rest left same = ap (λ (b : BufferTable). b ∷ rest) (same ∙ ap (λ (x : Versions BufferTable). x.latest) is)

  -- ---- a commit

  module _ (shared left latest : BufferTable) (pushed : List BufferTable) (same : shared ≡ now.working) (latest_is : latest ≡ shared) (left_is : left ≡ v.latest)
      (put : pushed ≡ left ∷ v.undoable) where
    pub pushed-is : pushed ≡ now.latest ∷ now.undoable
    pushed-is = put ∙ latest-on v.undoable left left_is ∙ ap (λ (x : Versions BufferTable). now.latest ∷ x.undoable) is

    pub committed-is : (undoable redoable : List BufferTable) → undoable ≡ take max_undoable pushed → redoable ≡ []
        → four v.working latest undoable redoable ≡ after_commit now
    committed-is undoable redoable cut none =
        four-same v.working now.working latest now.working undoable (take max_undoable (now.latest ∷ now.undoable)) redoable []
        (ap (λ (x : Versions BufferTable). x.working) is) (latest_is ∙ same) (cut ∙ ap (λ (bs : List BufferTable). take max_undoable bs) pushed-is) none

-- a list that has this first one
pub list-first : (list : List BufferTable) (b : BufferTable) → slice_get list 0 ≡ Some b → list ≡ b ∷ drop 1 list
list-first [] b there = absurd (cc)
list-first (x ∷ list) b there = ap (λ (y : BufferTable). y ∷ list) (same_Some x b there)
