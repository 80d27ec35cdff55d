-- Layouts as they are held.
use Rattle.std.proofs.Common.{◌≡◌, ℕ, suc, All, List, [], ◌∷◌, ◌++◌, map, get_or, Option, Some, None, unwrap_or, refl, sym, ap, ◌∙◌, arith}
use Rattle.std.specs.Option.{IsSomeAnd}
use Rattle.std.proofs.lemmas.List.{map-append}
use Rattle.std.proofs.lemmas.List.Elements.{All-push}
use Rattle.pixel_formats.specs.declared.format.Format.{Format}
use Rattle.model_graphs.specs.Facts.{Facts}
use Rattle.model_graphs.specs.Shapes.{Shape, no_shape}
use Rattle.model_graphs.specs.declared.buffer.BufferFact.{BufferFact}
use Rattle.model_buffers.specs.Layout.{IsLayout, TableLayout, View, fact_in, facts_of, find}
use Rattle.model_buffers.proofs.FindLaws.{find-kept, find-new}
use Rattle.buffer_layouts.specs.Layouts.{AreHeld, HasRootFormat, buffer_entry, layout_of_facts, root_entry}
use Rattle.buffer_layouts.specs.declared.views.RootShape.{RootShape}

-- ---- facts

module _ (layout : TableLayout) where
  -- the fact of a name's view
  abbrev fact_at : List ℕ × View → BufferFact
  fact_at entry = fact_in layout entry.0 entry.1

  fact_stated : (fact : BufferFact) → HasRootFormat layout.roots fact → fact_at (buffer_entry fact) ≡ fact
  fact_stated fact has = by (find layout.roots fact.root) has
    where
      by : (o : Option Shape) → IsSomeAnd o (λ (shape : Shape). shape.format ≡ fact.format)
          → record { name = fact.name; root = fact.root; bounds = fact.bounds; format = (unwrap_or o no_shape).format } ≡ fact
      by None h = absurd h
      by (Some shape) h = ap (λ (format : Format). record { name = fact.name; root = fact.root; bounds = fact.bounds; format = format }) h

  facts_stated : (facts : Facts) → All (HasRootFormat layout.roots) facts → map fact_at (map buffer_entry facts) ≡ facts
  facts_stated [] all = refl
  facts_stated (fact ∷ facts) all =
      let first : fact_at (buffer_entry fact) ≡ fact = fact_stated fact (all 0 fact (omega arith)) in
      let rest : map fact_at (map buffer_entry facts) ≡ facts = facts_stated facts (λ k d below. all (suc k) d (omega (arith, below))) in
      ap (λ (f : BufferFact). f ∷ map fact_at (map buffer_entry facts)) first ∙ ap (λ fs. fact ∷ fs) rest

pub facts_are : (roots : List RootShape) (facts : Facts) → AreHeld roots facts → facts ≡ facts_of (layout_of_facts roots facts)
facts_are roots facts held = sym (facts_stated (layout_of_facts roots facts) facts held.formats)

-- ---- one more

module _ (roots : List RootShape) (facts : Facts) (held : AreHeld roots facts) where
  abbrev layout : TableLayout
  layout = layout_of_facts roots facts

  pub buffers_pushed : (fact : BufferFact) → map buffer_entry (facts ++ fact ∷ []) ≡ layout.buffers ++ buffer_entry fact ∷ []
  buffers_pushed fact = map-append buffer_entry facts (fact ∷ [])

  pub view_added : (fact : BufferFact) → IsLayout (record { roots = layout.roots; buffers = layout.buffers ++ buffer_entry fact ∷ [] })
      → HasRootFormat layout.roots fact → AreHeld roots (facts ++ fact ∷ [])
  view_added fact is has = record {
    layout = rw (buffers_pushed fact) is;
    formats = All-push (HasRootFormat layout.roots) facts fact held.formats has;
  }

  module _ (root : RootShape) (fact : BufferFact) where
    pub roots_pushed : map root_entry (roots ++ root ∷ []) ≡ layout.roots ++ root_entry root ∷ []
    roots_pushed = map-append root_entry roots (root ∷ [])

    abbrev after : List (List ℕ × Shape)
    after = layout.roots ++ root_entry root ∷ []

    still : (old : BufferFact) → HasRootFormat layout.roots old → HasRootFormat after old
    still old has = by (find layout.roots old.root) refl has
      where
        by : (o : Option Shape) → find layout.roots old.root ≡ o → IsSomeAnd o (λ (shape : Shape). shape.format ≡ old.format) → HasRootFormat after old
        by None e h = absurd h
        by (Some shape) e h = rw (find-kept layout.roots old.root root.name (root_entry root).1 shape e) h

    pub root_added : find layout.roots root.name ≡ None → fact.root ≡ root.name → fact.format ≡ root.format
        → IsLayout (record { roots = after; buffers = layout.buffers ++ buffer_entry fact ∷ [] }) → AreHeld (roots ++ root ∷ []) (facts ++ fact ∷ [])
    root_added none own format is =
        let own_format : HasRootFormat after fact = rw (own, find-new layout.roots root.name (root_entry root).1 none) (sym format) in
        let all : All (HasRootFormat after) facts = λ k d below. still (get_or facts k d) (held.formats k d below) in
        record {
          layout = rw (roots_pushed, buffers_pushed fact) is;
          formats = rw roots_pushed (All-push (HasRootFormat after) facts fact all own_format);
        }
