-- A buffer of zeros, over whatever chain.
use Rattle.std.specs.Prelude.{[], ◌∷◌, Some}
use Rattle.std.proofs.Common.{refl, inr, arith}
use Rattle.chain_owners.specs.Held.{Held}
use Rattle.chain_owners.specs.Owners.{Owns}
use Rattle.model_images.specs.Paint.{blank}
use Rattle.model_graphs.specs.Evaluation.{Buffers}
use Rattle.model_graphs.specs.declared.buffer.BufferFact.{BufferFact}
use Rattle.op_contracts.specs.Sources.{AreExposed}

-- the image of a buffer of zeros
abbrev pub blank_images : BufferFact → Buffers
blank_images fact = (fact.name, blank fact.bounds fact.format) ∷ []

pub owns-none : (held : Held) → Owns held []
owns-none held = record { counted = λ name. inr (omega arith) }

pub blank-exposed : (fact : BufferFact) (held : Held) → AreExposed (fact ∷ []) held (Some (blank_images fact))
blank-exposed fact held = record { shapes = refl; known = λ some. refl }
