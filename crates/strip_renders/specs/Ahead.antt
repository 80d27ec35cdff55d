-- Tiles that were made ahead of their turn.
use Rattle.std.specs.Prelude.{◌≡◌, ℕ, ◌+◌, ◌++◌, ◌≤◌, ⊤, ◌⊎◌, Bool, true, false, IfSome, List, [], ◌∷◌, length, map, None, Option, Some}
use Rattle.std.specs.List.{AllByRecursion, IsDistinct}
use Rattle.model_graphs.specs.declared.node.NodeFact.{NodeFact}
use Rattle.model_graphs.specs.Evaluation.{Buffers}
use Rattle.model_graphs.specs.Facts.{specs_of}
use Rattle.model_graphs.specs.Meanings.{Meanings}
use Rattle.model_states.specs.Cache.{Pair, find_pair, itself, pair_of, same_pair}
use Rattle.model_states.specs.Need.{Needed}
use Rattle.node_tiles.specs.Held.{HeldTiles}
use Rattle.node_tiles.specs.Jobs.{IsTileJob, Job, job_bytes}
use Rattle.node_tiles.specs.Stated.{IsReady, bytes_at, length_at}
use Rattle.strip_renders.specs.Strips.{pairs_needed}

-- the elements of one list are in another, in their order
abbrev pub IsSublist : {X : Type 0} → List X → List X → Type 0
IsSublist [] ys = ⊤
IsSublist (x ∷ xs) [] = ⊥
IsSublist (x ∷ xs) (y ∷ ys) = ((x ≡ y) × IsSublist xs ys) ⊎ IsSublist (x ∷ xs) ys

-- no cached pair is that of a needed tile
abbrev pub IsAbsent : {Op : Type 0} → List (NodeFact Op) → List Pair → Needed → Type 0
IsAbsent nodes pairs needed = find_pair itself pairs (pair_of (specs_of nodes) needed) ≡ None

-- each of these tiles may be evaluated
abbrev pub AreReady : {Op : Type 0} → Meanings Op → List (NodeFact Op) → HeldTiles → List Needed → Type 0
AreReady meanings nodes held list = AllByRecursion (λ (needed : Needed). IsReady meanings nodes held needed.0 needed.1) list

-- ---- jobs

-- the needed tile that a job makes, and the tile with its bytes
abbrev pub job_needed : Job → Needed
job_needed job = (job.node, job.at)

abbrev pub made_of : {Op : Type 0} → Meanings Op → List (NodeFact Op) → Job → Needed × List ℕ
made_of meanings nodes job = (job_needed job, job_bytes meanings nodes job)

-- Jobs of some of these needed tiles, in their order: of none that is cached.
pub record AreJobs {Op : Type 0} (meanings : Meanings Op) (nodes : List (NodeFact Op)) (pairs : List Pair) (needed : List Needed) (jobs : List Job) : Type 0 where
  pub among : IsSublist (map job_needed jobs) needed
  pub absent : AllByRecursion (λ (job : Job). IsAbsent nodes pairs (job_needed job)) jobs
  pub each : AllByRecursion (IsTileJob meanings nodes) jobs

-- Over these images each makes the tile of its node's image.
abbrev pub AreJobsOf : {Op : Type 0} → Meanings Op → List (NodeFact Op) → Buffers → List Job → Type 0
AreJobsOf meanings nodes images jobs =
    AllByRecursion (λ (job : Job). job_bytes meanings nodes job ≡ bytes_at meanings nodes images job.node job.at) jobs

-- ---- tiles

-- needed tiles with their bytes
abbrev pub MadeTiles : Type 0
MadeTiles = List (Needed × List ℕ)

abbrev pub needed_in : MadeTiles → List Needed
needed_in made = map (λ (m : Needed × List ℕ). m.0) made

-- Tiles that were made ahead of their turn: some of these needed ones, in their order, none that is cached, and each as
-- long as one of its node.
pub record AreAhead {Op : Type 0} (nodes : List (NodeFact Op)) (pairs : List Pair) (needed : List Needed) (made : MadeTiles) : Type 0 where
  pub among : IsSublist (needed_in made) needed
  pub absent : AllByRecursion (λ (m : Needed × List ℕ). IsAbsent nodes pairs m.0) made
  pub lengths : AllByRecursion (λ (m : Needed × List ℕ). length m.1 ≡ length_at nodes m.0.0) made

-- They are of the first of the tiles that are needed from now on, of which none is needed twice.
pub record AreNext {Op : Type 0} (nodes : List (NodeFact Op)) (pairs : List Pair) (needed : List Needed) (made : MadeTiles) : Type 0 where
  pub first : List Needed
  pub others : List Needed
  pub parts : needed ≡ first ++ others
  pub once : IsDistinct same_pair (pairs_needed nodes first)
  pub ahead : AreAhead nodes pairs first made

-- Over these images each is the tile of its node's image.
abbrev pub AreMadeOf : {Op : Type 0} → Meanings Op → List (NodeFact Op) → Buffers → MadeTiles → Type 0
AreMadeOf meanings nodes images made =
    AllByRecursion (λ (m : Needed × List ℕ). m.1 ≡ bytes_at meanings nodes images m.0.0 m.0.1) made

-- The tile of a needed one is taken, where it is the first; else nothing is.
abbrev pub IsTaken : MadeTiles → MadeTiles → Needed → Option (List ℕ) → Type 0
IsTaken old new needed None = (new ≡ old) × ((bytes : List ℕ) (rest : MadeTiles) → old ≡ (needed, bytes) ∷ rest → ⊥)
IsTaken old new needed (Some bytes) = old ≡ (needed, bytes) ∷ new

-- ---- a tile at its turn, where it was made ahead

-- how many permits were spent for it
abbrev pub permits_of : Option (List ℕ) → ℕ
permits_of None = 0
permits_of (Some bytes) = 1

-- A call for it was refused: beside what was spent ahead a permit may be spent, where it wasn't made ahead.
abbrev pub IsRefusedAt : ℕ → ℕ → Option (List ℕ) → Type 0
IsRefusedAt old new made = (new ≤ old) × (old + permits_of made ≤ new + 1)

-- A look-up of it was carried out: it was found, and wasn't made ahead, or else one permit was spent.
abbrev pub IsPermitted : ℕ → ℕ → Option (List ℕ) → Bool → Type 0
IsPermitted old new made true = (new ≡ old) × (permits_of made ≡ 0)
IsPermitted old new made false = new + 1 ≡ old + permits_of made

-- of so many permits one was spent, unless the tile was found
abbrev pub IsSpentFor : ℕ → ℕ → Bool → Type 0
IsSpentFor old new true = new ≡ old
IsSpentFor old new false = new + 1 ≡ old

-- it isn't cached, and is as long as one of its node
pub record IsMade {Op : Type 0} (nodes : List (NodeFact Op)) (pairs : List Pair) (needed : Needed) (made : Option (List ℕ)) : Type 0 where
  pub absent : IfSome made (λ _. IsAbsent nodes pairs needed)
  pub length : IfSome made (λ tile. length tile ≡ length_at nodes needed.0)

-- over these images it is the tile of its node's image
abbrev pub IsMadeOf : {Op : Type 0} → Meanings Op → List (NodeFact Op) → Buffers → Needed → Option (List ℕ) → Type 0
IsMadeOf meanings nodes images needed made = IfSome made (λ tile. tile ≡ bytes_at meanings nodes images needed.0 needed.1)
