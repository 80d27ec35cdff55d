-- Shapes of buffers by their names.
use Rattle.std.proofs.Common.{◌≡◌, ℕ, List, Option, Some, None, refl, ap, ◌∙◌}
use Rattle.std.specs.Prelude.{is_some, option_map}
use Rattle.model_graphs.specs.declared.buffer.BufferFact.{BufferFact}
use Rattle.model_graphs.specs.Facts.{Facts, fact_of, shape_of_fact, shapes_of_facts}
use Rattle.model_graphs.specs.Shapes.{shape_in}
use Rattle.model_states.proofs.Shapes.{shape_in-facts}

pub some_shape : (facts : Facts) (name : List ℕ) → is_some (shape_in (shapes_of_facts facts) name) ≡ is_some (fact_of facts name)
some_shape facts name = ap is_some (shape_in-facts facts name) ∙ of (fact_of facts name)
  where
    of : (o : Option BufferFact) → is_some (option_map shape_of_fact o) ≡ is_some o
    of None = refl
    of (Some fact) = refl
