-- What a graph knows of the buffers of a layout.
use Rattle.std.proofs.Common.{◌≡◌, ◌≢◌, ℕ, ◌<◌, Bool, true, false, cond, List, [], ◌∷◌, map, length, Some, AllPairs, refl, sym, ap, subst, arith}
use Rattle.std.specs.Prelude.{option_map}
use Rattle.std.specs.List.{IsDistinct}
use Rattle.std.specs.Str.{bytes_eq}
use Rattle.std.proofs.lemmas.List.{get_or-map, length-map}
use Rattle.std.proofs.lemmas.Map.Made.{IsDistinct-from_AllPairs}
use Rattle.std.proofs.lemmas.Slice.Eq.{bytes_eq-Decides}
use Rattle.plane_rect.specs.Rectangle.{empty}
use Rattle.model_graphs.specs.Facts.{fact_names, fact_of, shapes_of_facts}
use Rattle.model_graphs.specs.Shapes.{shape_in}
use Rattle.model_graphs.specs.declared.buffer.BufferFact.{BufferFact}
use Rattle.model_buffers.specs.Layout.{AreDistinct, IsLayout, TableLayout, View, fact_in, facts_of, find, view_shape}
use Rattle.model_buffers.proofs.FindLaws.{name_from_test}

no_view : List ℕ × View
no_view = ([], record { root = []; extent = empty })

names_apart : (entries : List (List ℕ × View)) → AreDistinct entries → AllPairs (λ (a b : List ℕ). a ≢ b) (map (λ (entry : List ℕ × View). entry.0) entries)
names_apart entries distinct i j e before below =
    let name : List ℕ × View → List ℕ = λ entry. entry.0 in
    let count = length-map entries name in
    let later : j < length entries = omega arith in
    let sooner : i < length entries = omega arith in
    rw (get_or-map name entries i no_view e sooner, get_or-map name entries j no_view e later)
    (distinct i j no_view before later)

module _ (layout : TableLayout) where
  abbrev fact : List ℕ × View → BufferFact
  fact entry = fact_in layout entry.0 entry.1

  facts-found : (entries : List (List ℕ × View)) (name : List ℕ) → fact_of (map fact entries) name ≡ option_map (fact_in layout name) (find entries name)
  facts-found [] name = refl
  facts-found (entry ∷ entries) name = cases (bytes_eq name entry.0) refl (facts-found entries name)
    where
      cases : (b : Bool) → bytes_eq name entry.0 ≡ b → fact_of (map fact entries) name ≡ option_map (fact_in layout name) (find entries name)
          → cond b (Some (fact entry)) (fact_of (map fact entries) name) ≡ option_map (fact_in layout name) (cond b (Some entry.1) (find entries name))
      cases true t rest = ap (λ (q : List ℕ). Some (fact_in layout q entry.1)) (sym (name_from_test name entry.0 t))
      cases false t rest = rest

  shapes-found : (entries : List (List ℕ × View)) (name : List ℕ)
      → shape_in (shapes_of_facts (map fact entries)) name ≡ option_map (view_shape layout) (find entries name)
  shapes-found [] name = refl
  shapes-found (entry ∷ entries) name = cases (bytes_eq name entry.0) (shapes-found entries name)
    where
      cases : (b : Bool) → shape_in (shapes_of_facts (map fact entries)) name ≡ option_map (view_shape layout) (find entries name)
          → cond b (Some (view_shape layout entry.1)) (shape_in (shapes_of_facts (map fact entries)) name) ≡ option_map (view_shape layout) (cond b (Some entry.1) (find entries name))
      cases true rest = refl
      cases false rest = rest

  names-same : (entries : List (List ℕ × View)) → fact_names (map fact entries) ≡ map (λ (entry : List ℕ × View). entry.0) entries
  names-same [] = refl
  names-same (entry ∷ entries) = ap (λ (names : List (List ℕ)). entry.0 ∷ names) (names-same entries)

  pub fact-found : (name : List ℕ) → fact_of (facts_of layout) name ≡ option_map (fact_in layout name) (find layout.buffers name)
  fact-found name = facts-found layout.buffers name

  pub shape-found : (name : List ℕ) → shape_in (shapes_of_facts (facts_of layout)) name ≡ option_map (view_shape layout) (find layout.buffers name)
  shape-found name = shapes-found layout.buffers name

  pub facts-distinct : IsLayout layout → IsDistinct bytes_eq (fact_names (facts_of layout))
  facts-distinct is =
      subst (IsDistinct bytes_eq) (sym (names-same layout.buffers))
      (IsDistinct-from_AllPairs bytes_eq-Decides (map (λ (entry : List ℕ × View). entry.0) layout.buffers) (names_apart layout.buffers is.buffer_names))
