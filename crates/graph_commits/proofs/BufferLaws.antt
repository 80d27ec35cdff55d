-- Facts of buffers by their names.
use Rattle.std.proofs.Common.{◌≡◌, ℕ, Bool, true, false, ◌&&◌, cond, List, [], ◌∷◌, Option, Some, None, refl, ap, sym, subst, ◌∙◌}
use Rattle.std.specs.Bool.{OnTrue}
use Rattle.std.specs.List.{list_all}
use Rattle.std.specs.Option.{option_map_or}
use Rattle.std.specs.Str.{bytes_eq}
use Rattle.std.proofs.lemmas.Slice.Eq.{bytes_eq-Decides}
use Rattle.model_states.specs.Damage.{IsSteady, same_shape}
use Rattle.model_states.proofs.Kept.{same_shape-true}
use Rattle.graph_commits.specs.Graphs.{AreStillThere, is_still_there}
use Rattle.std.specs.Prelude.{option_map}
use Rattle.model_graphs.specs.declared.buffer.BufferFact.{BufferFact}
use Rattle.model_graphs.specs.Facts.{Facts, fact_of, shape_of_fact, shapes_of_facts}
use Rattle.model_graphs.specs.Shapes.{shape_in}
use Rattle.model_states.proofs.Shapes.{shape_in-facts}

-- the shape of a buffer is that of its fact
pub shape_found : (facts : Facts) (name : List ℕ) → shape_in (shapes_of_facts facts) name ≡ option_map shape_of_fact (fact_of facts name)
shape_found = shape_in-facts

and-true : (a b : Bool) → a && b ≡ true → (a ≡ true) × (b ≡ true)
and-true true b e = (refl, e)
and-true false b e = absurd (cc e)

-- buffers that pass the test one by one are still there
still_there_at : (new : Facts) (fact : BufferFact) (found : Option BufferFact) →
    option_map_or (λ (other : BufferFact). bytes_eq fact.root other.root && same_shape (shape_of_fact fact) (shape_of_fact other)) found false ≡ true →
    (b : BufferFact) × (found ≡ Some b) × IsSteady fact b
still_there_at new fact None passed = absurd (cc)
still_there_at new fact (Some other) passed =
    let both = and-true (bytes_eq fact.root other.root) (same_shape (shape_of_fact fact) (shape_of_fact other)) passed in
    (other, refl, record { root = (bytes_eq-Decides fact.root other.root).0 both.0; shape = same_shape-true (shape_of_fact fact) (shape_of_fact other) both.1 })

still_there : (old new : Facts) → list_all (is_still_there new) old ≡ true → AreStillThere old new
still_there [] new passed name a there = absurd (cc)
still_there (fact ∷ old) new passed name a there =
    let both = and-true (is_still_there new fact) (list_all (is_still_there new) old) passed in
    by (bytes_eq name fact.name) refl both.0 there (still_there old new both.1 name a)
  where
    by : (b : Bool) → bytes_eq name fact.name ≡ b → is_still_there new fact ≡ true → cond b (Some fact) (fact_of old name) ≡ Some a →
        (fact_of old name ≡ Some a → (b : BufferFact) × (fact_of new name ≡ Some b) × IsSteady a b) →
        (b : BufferFact) × (fact_of new name ≡ Some b) × IsSteady a b
    by true e here found rest =
        let same : fact ≡ a = cc in
        let named : name ≡ fact.name = (bytes_eq-Decides name fact.name).0 e in
        let at = still_there_at new fact (fact_of new fact.name) here in
        (at.0, ap (fact_of new) named ∙ at.1, subst (λ (f : BufferFact). IsSteady f at.0) same at.2)
    by false e here found rest = rest found

pub all_still_there : (b : Bool) (old new : Facts) → b ≡ list_all (is_still_there new) old → OnTrue b (AreStillThere old new)
all_still_there true old new e = still_there old new (sym e)
all_still_there false old new e = tt
