-- Jobs that are listed one by one, and the tiles that they make.
use Rattle.std.proofs.Common.{◌≡◌, ℕ, ◌≤◌, Bool, false, List, [], ◌∷◌, ◌++◌, map, length, Option, Some, None, Ok, refl, sym, ap, ap₂, ◌∙◌, subst, arith}
use Rattle.std.specs.Prelude.{Err, IfOk, Result, is_some}
use Rattle.std.specs.List.{AllZip}
use Rattle.std.proofs.lemmas.List.{length-map, map-append}
use Rattle.plane_rect.specs.Tile.{Tile}
use Rattle.model_graphs.specs.declared.node.NodeFact.{NodeFact}
use Rattle.model_graphs.specs.Evaluation.{Buffers}
use Rattle.model_graphs.specs.Meanings.{Meanings}
use Rattle.model_states.specs.Cache.{Pair, find_pair, itself}
use Rattle.model_states.specs.Need.{Needed}
use Rattle.node_tiles.specs.Jobs.{IsTileJob, Job, job_bytes}
use Rattle.node_tiles.specs.Stated.{bytes_at, length_at}
use Rattle.strip_renders.specs.Ahead.{AreAhead, AreJobs, AreJobsOf, AreMadeOf, IsAbsent, IsSublist, job_needed, made_of, needed_in}
use Rattle.strip_renders.proofs.AheadLaws.{all-last, all-under, all-also, sub-before, sub-both, sub-fewer}

-- a pair that isn't found isn't there
pub not-there : (pairs : List Pair) (pair other : Pair) (has : Bool) → has ≡ is_some (find_pair itself pairs other) → has ≡ false → pair ≡ other → find_pair itself pairs pair ≡ None
not-there pairs pair other has is absent same = ap (find_pair itself pairs) same ∙ none (find_pair itself pairs other) (sym is ∙ absent)
  where
    none : (o : Option Pair) → is_some o ≡ false → o ≡ None
    none None e = refl
    none (Some p) e = absurd (cc e)

module _ {Op : Type 0} (meanings : Meanings Op) (nodes : List (NodeFact Op)) where
  -- one more is needed, and there is no job of it
  pub jobs-past : (pairs : List Pair) (needed : List Needed) (n : Needed) (jobs : List Job) → AreJobs meanings nodes pairs needed jobs → AreJobs meanings nodes pairs (needed ++ n ∷ []) jobs
  jobs-past pairs needed n jobs are = record { among = sub-before (map job_needed jobs) needed (n ∷ []) are.among; absent = are.absent; each = are.each }

  module _ (node : ℕ) (at : Tile) (jobs more : List Job) (job : Job) (is : more ≡ jobs ++ job ∷ []) (its : job.node ≡ node) (tile : job.at ≡ at) where
    own : job_needed job ≡ (node, at)
    own = ap₂ (λ (n : ℕ) (t : Tile). (n, t)) its tile

    -- one more is needed, and there is a job of it
    pub jobs-more : (pairs : List Pair) (needed : List Needed) → IsAbsent nodes pairs (node, at) → IsTileJob meanings nodes job
        → AreJobs meanings nodes pairs needed jobs → AreJobs meanings nodes pairs (needed ++ (node, at) ∷ []) more
    jobs-more pairs needed absent one are =
        subst (AreJobs meanings nodes pairs (needed ++ (node, at) ∷ [])) (sym is)
        (record {
          among = subst (λ (list : List Needed). IsSublist list (needed ++ (node, at) ∷ []))
              (ap (λ (n : Needed). map job_needed jobs ++ n ∷ []) (sym own) ∙ sym (map-append job_needed jobs (job ∷ [])))
              (sub-both (map job_needed jobs) needed (node, at) are.among);
          absent = all-last (λ (job : Job). IsAbsent nodes pairs (job_needed job)) jobs job are.absent (subst (IsAbsent nodes pairs) (sym own) absent);
          each = all-last (IsTileJob meanings nodes) jobs job are.each one;
        })

    pub jobs_of-more : (images : Buffers) → job_bytes meanings nodes job ≡ bytes_at meanings nodes images node at
        → AreJobsOf meanings nodes images jobs → AreJobsOf meanings nodes images more
    jobs_of-more images bytes are =
        subst (AreJobsOf meanings nodes images) (sym is)
        (all-last (λ (job : Job). job_bytes meanings nodes job ≡ bytes_at meanings nodes images job.node job.at) jobs job are
        (bytes ∙ sym (ap₂ (bytes_at meanings nodes images) its tile)))

  -- there are no more jobs than needed tiles
  pub jobs-few : (pairs : List Pair) (needed : List Needed) (jobs : List Job) → AreJobs meanings nodes pairs needed jobs → length jobs ≤ length needed
  jobs-few pairs needed jobs are = let few = sub-fewer (map job_needed jobs) needed are.among in omega (arith, few, length-map jobs job_needed)

  -- ---- what they make

  made-needed : (jobs : List Job) → needed_in (map (made_of meanings nodes) jobs) ≡ map job_needed jobs
  made-needed [] = refl
  made-needed (job ∷ jobs) = ap (λ (list : List Needed). job_needed job ∷ list) (made-needed jobs)

  pub made-ahead : (pairs : List Pair) (needed : List Needed) (jobs : List Job) → AreJobs meanings nodes pairs needed jobs → AreAhead nodes pairs needed (map (made_of meanings nodes) jobs)
  made-ahead pairs needed jobs are = record {
    among = subst (λ (list : List Needed). IsSublist list needed) (sym (made-needed jobs)) are.among;
    absent = all-under (λ (m : Needed × List ℕ). IsAbsent nodes pairs m.0) (made_of meanings nodes) jobs are.absent;
    lengths = all-under (λ (m : Needed × List ℕ). length m.1 ≡ length_at nodes m.0.0) (made_of meanings nodes) jobs
        (all-also (IsTileJob meanings nodes) (λ (job : Job). length (job_bytes meanings nodes job) ≡ length_at nodes job.node) jobs (λ job one. one.length) are.each);
  }

  pub made-of : (images : Buffers) (jobs : List Job) → AreJobsOf meanings nodes images jobs → AreMadeOf meanings nodes images (map (made_of meanings nodes) jobs)
  made-of images jobs are = all-under (λ (m : Needed × List ℕ). m.1 ≡ bytes_at meanings nodes images m.0.0 m.0.1) (made_of meanings nodes) jobs are

-- what is made of each of a list, one after another
pub each-made : {X Y : Type 0} (f : X → Y) (xs : List X) (ys : List Y) → AllZip (λ x y. y ≡ f x) xs ys → ys ≡ map f xs
each-made f [] [] all = refl
each-made f [] (y ∷ ys) all = absurd all
each-made f (x ∷ xs) [] all = absurd all
each-made f (x ∷ xs) (y ∷ ys) all = ap₂ (λ y (ys : List _). y ∷ ys) all.0 (each-made f xs ys all.1)

pub all-made : {X Y V E : Type 0} (f : X → Y) (xs : List X) (items : V → List Y) (r : Result V E) → IfOk r (λ made. AllZip (λ x y. y ≡ f x) xs (items made)) → IfOk r (λ made. items made ≡ map f xs)
all-made f xs items (Ok made) all = each-made f xs (items made) all
all-made f xs items (Err e) all = tt
