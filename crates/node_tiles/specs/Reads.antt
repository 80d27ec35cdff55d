-- What calls that read tiles leave of a source of tiles and of its chain.
use Rattle.std.specs.Prelude.{◌≡◌, ℕ, List, [], Option}
use Rattle.std.specs.Borrow.{GName}
use Rattle.chain_owners.specs.Counts.{Counts, Grows}
use Rattle.chain_owners.specs.Held.{Held}
use Rattle.chain_owners.specs.Owners.{Respects}
use Rattle.model_graphs.specs.Evaluation.{Buffers}
use Rattle.model_graphs.specs.Facts.{Facts}

-- What a source of tiles is seen as over a chain, and what the chain is seen as.
pub record Seen : Type 0 where
  pub facts : Facts
  pub images : Option Buffers
  pub names : List ℕ
  pub held : Held
  pub counts : Counts
  pub loans : List GName

abbrev pub seen : Facts → Option Buffers → List ℕ → Held → Counts → List GName → Seen
seen facts images names held counts loans = record {
  facts = facts;
  images = images;
  names = names;
  held = held;
  counts = counts;
  loans = loans;
}

-- Tiles were read, and nothing else was done: the buffers, their images and the names that the source holds are
-- unchanged, and so are all owners, the bytes of each name that has one, and the loans. The chain has no name more.
pub record Reads (old new : Seen) : Type 0 where
  pub facts : new.facts ≡ old.facts
  pub images : new.images ≡ old.images
  pub names : new.names ≡ old.names
  pub others : Respects old.held new.held [] []
  pub owners : new.held.owners ≡ old.held.owners
  pub counts : Grows 0 old.counts new.counts
  pub loans : new.loans ≡ old.loans
