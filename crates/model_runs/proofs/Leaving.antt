-- What parts of a run's events leave.
use Rattle.std.proofs.Common.{◌≡◌, List, [], ◌∷◌, ◌++◌, refl, sym, subst, inl, inr}
use Rattle.model_runs.specs.Events.{Event, Writes, Puts}
use Rattle.model_runs.specs.World.{World, after, after_all, IsPrefix, LeavesSome}

-- nothing has come
pub none_yet : (torn : Type 0) (events : List Event) (world : World) → LeavesSome torn events world world
none_yet torn [] world = refl
none_yet torn (event ∷ events) world = inl refl

-- every event has come
pub all_came : (torn : Type 0) (events : List Event) (world : World) → LeavesSome torn events world (after_all events world)
all_came torn [] world = refl
all_came torn (event ∷ events) world = inr (inr (all_came torn events (after event world)))

pub after_all-append : (first rest : List Event) (world : World) → after_all (first ++ rest) world ≡ after_all rest (after_all first world)
after_all-append [] rest world = refl
after_all-append (event ∷ first) rest world = after_all-append first rest (after event world)

-- after the first events, some of the rest
pub some_after : (torn : Type 0) (first rest : List Event) (old new : World) → LeavesSome torn rest (after_all first old) new → LeavesSome torn (first ++ rest) old new
some_after torn [] rest old new some = some
some_after torn (event ∷ first) rest old new some = inr (inr (some_after torn first rest (after event old) new some))

-- some of the first events are some of all
pub some_of_first : (torn : Type 0) (first rest : List Event) (old new : World) → LeavesSome torn first old new → LeavesSome torn (first ++ rest) old new
some_of_first torn [] rest old new same = subst (λ (w : World). LeavesSome torn rest old w) (sym same) (none_yet torn rest old)
some_of_first torn (event ∷ first) rest old new (inl same) = inl same
some_of_first torn (event ∷ first) rest old new (inr (inl prefix)) = inr (inl prefix)
some_of_first torn (event ∷ first) rest old new (inr (inr some)) = inr (inr (some_of_first torn first rest (after event old) new some))

prefix_weaker : (a b : Type 0) → (a → b) → (event : Event) (old new : World) → IsPrefix a event old new → IsPrefix b event old new
prefix_weaker a b weaker (Writes name bytes) old new prefix = (weaker prefix.0, prefix.1)
prefix_weaker a b weaker (Puts text) old new prefix = prefix

-- the same where files may be torn more often
pub some_weaker : (a b : Type 0) → (a → b) → (events : List Event) (old new : World) → LeavesSome a events old new → LeavesSome b events old new
some_weaker a b weaker [] old new some = some
some_weaker a b weaker (event ∷ events) old new (inl same) = inl same
some_weaker a b weaker (event ∷ events) old new (inr (inl prefix)) = inr (inl (prefix_weaker a b weaker event old new prefix))
some_weaker a b weaker (event ∷ events) old new (inr (inr some)) = inr (inr (some_weaker a b weaker events (after event old) new some))
