-- The texts of events.
use Rattle.std.proofs.Common.{◌≡◌, ℕ, ◌+◌, List, [], ◌∷◌, ◌++◌, drop, length, take, append_assoc, Option, Some, None, inl, inr, refl, sym, ap, ◌∙◌}
use Rattle.std.specs.Option.{option_map}
use Rattle.std.proofs.lemmas.List.{append-nil, take-append-drop}
use Rattle.std.proofs.Math.Seq.{take-append_seam, take-append-add}
use Rattle.model_runs.specs.Ran.{texts_in}
use Rattle.model_runs.specs.Events.{Event, Puts, Writes}
use Rattle.model_runs.specs.World.{World, LeavesSome, after, after_all}

pub put_after : (a b : List ℕ) (o : Option (List ℕ)) → option_map (λ text. text ++ b) (option_map (λ text. text ++ a) o) ≡ option_map (λ text. text ++ (a ++ b)) o
put_after a b None = refl
put_after a b (Some text) = ap Some (append_assoc text a b)

pub put_none : (o : Option (List ℕ)) → o ≡ option_map (λ text. text ++ []) o
put_none None = refl
put_none (Some text) = ap Some (sym (append-nil text))

pub text_after : (events : List Event) (world : World) → (after_all events world).text ≡ option_map (λ text. text ++ texts_in events) world.text
text_after [] world = put_none world.text
text_after (Writes name bytes ∷ events) world = text_after events (after (Writes name bytes) world)
text_after (Puts text ∷ events) world = text_after events (after (Puts text) world) ∙ put_after text (texts_in events) world.text

-- the new text is the old one and a prefix of a text
abbrev pub IsPrefixOf : List ℕ → Option (List ℕ) → Option (List ℕ) → Type 0
IsPrefixOf text old new = (n : ℕ) × (new ≡ option_map (λ t. t ++ take n text) old)

pub part_prefix : (n : ℕ) (text rest : List ℕ) → take (length (take n text)) (text ++ rest) ≡ take n text
part_prefix n text rest =
    let p = take n text in
    ap (λ t. take (length p) (t ++ rest)) (sym (take-append-drop n text))
    ∙ ap (take (length p)) (append_assoc p (drop n text) rest)
    ∙ take-append_seam p (drop n text ++ rest)

pub text_prefix : (torn : Type 0) (events : List Event) (old new : World) → LeavesSome torn events old new → IsPrefixOf (texts_in events) old.text new.text
text_prefix torn [] old new same = (0, ap (λ (w : World). w.text) same ∙ put_none old.text)
text_prefix torn (event ∷ events) old new (inl same) = (0, ap (λ (w : World). w.text) same ∙ put_none old.text)
text_prefix torn (Writes name bytes ∷ events) old new (inr (inl part)) = (0, ap (λ (w : World). w.text) part.1.1 ∙ put_none old.text)
text_prefix torn (Puts text ∷ events) old new (inr (inl part)) = (
  length (take part.0 text),
  ap (λ (w : World). w.text) part.1 ∙ ap (λ p. option_map (λ t. t ++ p) old.text) (sym (part_prefix part.0 text (texts_in events))),
)
text_prefix torn (Writes name bytes ∷ events) old new (inr (inr later)) = text_prefix torn events (after (Writes name bytes) old) new later
text_prefix torn (Puts text ∷ events) old new (inr (inr later)) =
    let rest = text_prefix torn events (after (Puts text) old) new later in (
      length text + rest.0,
      rest.1 ∙ put_after text (take rest.0 (texts_in events)) old.text
          ∙ ap (λ p. option_map (λ t. t ++ p) old.text) (sym (take-append-add text (texts_in events) rest.0)),
    )
