-- Sessions with the same parts.
use Rattle.std.proofs.Common.{◌≡◌, ℕ, List, ap, ◌∙◌}
use Rattle.model_graphs.specs.declared.node.NodeEdit.{NodeEdit}
use Rattle.model_states.specs.Commits.{Graph}
use Rattle.model_states.specs.Rectangles.{Rectangles}
use Rattle.node_cache.specs.NodeNames.{Entries}
use Rattle.buffer_view.specs.BufferTables.{BufferTable}
use Rattle.session_states.specs.Versions.{Versions}
use Rattle.commit_session.specs.Parts.{Parts}

-- what is the same as another thing
abbrev pub this : {X : Type 0} {x y : X} → x ≡ y → X
this {x = x} is = x

module _ {Op : Type 0} where
  abbrev parts_of : Versions BufferTable → List (NodeEdit Op) → Rectangles → Graph Op → Entries → ℕ → ℕ → Parts Op
  parts_of v p w g e m n =
      record { versions = v; pending = p; written = w; graph = g; entries = e; most = m; capacity = n; applied = 0; reused = 0 }

  pub parts-same : (v v' : Versions BufferTable) (p p' : List (NodeEdit Op)) (w w' : Rectangles) (g g' : Graph Op) (e e' : Entries) (m m' : ℕ) (n n' : ℕ)
      → v ≡ v' → p ≡ p' → w ≡ w' → g ≡ g' → e ≡ e' → m ≡ m' → n ≡ n' → parts_of v p w g e m n ≡ parts_of v' p' w' g' e' m' n'
  parts-same v v' p p' w w' g g' e e' m m' n n' ev ep ew eg ee em en =
      ap (λ (x : Versions BufferTable). parts_of x p w g e m n) ev ∙ ap (λ (x : List (NodeEdit Op)). parts_of v' x w g e m n) ep
      ∙ ap (λ (x : Rectangles). parts_of v' p' x g e m n) ew ∙ ap (λ (x : Graph Op). parts_of v' p' w' x e m n) eg
      ∙ ap (λ (x : Entries). parts_of v' p' w' g' x m n) ee ∙ ap (λ (x : ℕ). parts_of v' p' w' g' e' x n) em
      ∙ ap (λ (x : ℕ). parts_of v' p' w' g' e' m' x) en
