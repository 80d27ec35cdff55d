-- What parts of a run leave, one part after another.
use Rattle.std.proofs.Common.{◌≡◌, ◌≢◌, ℕ, ◌+◌, ◌*◌, ◌<◌, ◌≤◌, Bool, IsTrue, List, [], ◌∷◌, ◌++◌, length, take, Option, Some, None, Result, Ok, Err, IsSomeAnd, append_assoc, refl, sym, ap, ◌∙◌, subst, arith}
use Rattle.std.specs.Option.{option_map}
use Rattle.std.proofs.Math.Seq.{take-append-add}
use Rattle.chain_owners.specs.Counts.{Continues, Counts}
use Rattle.model_runs.specs.Ending.{IsWhole, Leaves, MayTear, SaysRefused}
use Rattle.model_runs.specs.Ran.{texts_in}
use Rattle.model_runs.specs.declared.ending.End.{End}
use Rattle.model_runs.specs.declared.ending.End.TheVariants as ends
use Rattle.run_lines.proofs.Texts.{part_prefix, put_after, put_none, text_after, text_prefix}
use Rattle.run_lines.specs.Carried.{CarriesOut, Exceeds}
use Rattle.run_lines.specs.Moments.{Moment, world_at}
use Rattle.model_runs.proofs.Leaving.{after_all-append, none_yet, some_after, some_of_first}
use Rattle.model_runs.specs.Events.{Event, Outcome, Puts, Refusal, Writes, events_alone, then_do}
use Rattle.model_runs.specs.World.{LeavesSome, World, after_all}

-- ---- ends

pub not_whole : (end : End) → end ≢ ends.Refused → IsWhole (Err end) → ⊥
not_whole ends.Refused other whole = other refl
not_whole ends.ReadFault other whole = whole
not_whole ends.WriteFault other whole = whole
not_whole ends.SwapFault other whole = whole
not_whole ends.OutputFault other whole = whole
not_whole ends.NoMemory other whole = whole
not_whole ends.SwapFull other whole = whole

pub says_any : (end : End) → end ≢ ends.Refused → (refused : Option Refusal) → SaysRefused (Err end) refused
says_any ends.Refused other refused = absurd (other refl)
says_any ends.ReadFault other refused = tt
says_any ends.WriteFault other refused = tt
says_any ends.SwapFault other refused = tt
says_any ends.OutputFault other refused = tt
says_any ends.NoMemory other refused = tt
says_any ends.SwapFull other refused = tt

-- ---- texts

pub texts_append : (first rest : List Event) → texts_in (first ++ rest) ≡ texts_in first ++ texts_in rest
texts_append [] rest = refl
texts_append (Writes name bytes ∷ first) rest = texts_append first rest
texts_append (Puts text ∷ first) rest = ap (λ (t : List ℕ). text ++ t) (texts_append first rest) ∙ sym (append_assoc text (texts_in first) (texts_in rest))

-- ---- one part

-- a part whose files are all known
pub carried_by_leaves : (exposed : Bool) (outcome : Outcome) (most : ℕ) (result : Result (Unit {0}) End) (old new : Moment) → result ≢ Err ends.SwapFull →
    Leaves outcome result (world_at old) (world_at new) → CarriesOut exposed outcome most result old new
carried_by_leaves exposed outcome most result old new room leaves = record {
  refused = leaves.refused;
  whole = λ e. leaves.whole;
  texts = λ at_end. ap (λ (w : World). w.text) (leaves.whole at_end) ∙ text_after outcome.events (world_at old);
  prefix = λ e. leaves.some;
  texts_prefix = text_prefix (MayTear result) outcome.events (world_at old) (world_at new) leaves.some;
  full = λ full. absurd (room full);
}

-- nothing is done before the end
pub nothing_carried : (exposed : Bool) (outcome : Outcome) (most : ℕ) (end : End) (old new : Moment) → end ≢ ends.Refused → new.files ≡ old.files → new.text ≡ old.text →
    (end ≡ ends.SwapFull → Exceeds old.chain most) → CarriesOut exposed outcome most (Err end) old new
nothing_carried exposed outcome most end old new other files text full =
    let same : world_at new ≡ world_at old = cc in
    record {
      refused = says_any end other outcome.refused;
      whole = λ e whole. absurd (not_whole end other whole);
      texts = λ whole. absurd (not_whole end other whole);
      prefix = λ e. subst (λ (w : World). LeavesSome (MayTear (Err end)) outcome.events (world_at old) w) (sym same) (none_yet _ outcome.events (world_at old));
      texts_prefix = (0, text ∙ put_none old.text);
      full = λ is. full (cc);
    }

-- events whose texts are the same, and which are the same where the chain exposes its bytes
pub carried_alike : (exposed : Bool) (events other : List Event) (most : ℕ) (result : Result (Unit {0}) End) (old new : Moment) → (IsTrue exposed → other ≡ events) → texts_in other ≡ texts_in events →
    CarriesOut exposed (events_alone other) most result old new → CarriesOut exposed (events_alone events) most result old new
carried_alike exposed events other most result old new same texts carried = record {
  refused = carried.refused;
  whole = λ e whole. subst (λ (list : List Event). world_at new ≡ after_all list (world_at old)) (same e) (carried.whole e whole);
  texts = λ whole. subst (λ (t : List ℕ). new.text ≡ option_map (λ text. text ++ t) old.text) texts (carried.texts whole);
  prefix = λ e. subst (λ (list : List Event). LeavesSome (MayTear result) list (world_at old) (world_at new)) (same e) (carried.prefix e);
  texts_prefix = subst (λ (t : List ℕ). (n : ℕ) × (new.text ≡ option_map (λ text. text ++ take n t) old.text)) texts carried.texts_prefix;
  full = carried.full;
}

-- ---- two parts

exceeds_more : (capacity : ℕ) (used : Option ℕ) (most more : ℕ) → most ≤ more → IsSomeAnd used (λ used. (capacity < most) × (used < 32 * (most + 1))) →
    IsSomeAnd used (λ used. (capacity < more) × (used < 32 * (more + 1)))
exceeds_more capacity None most more few past = past
exceeds_more capacity (Some used) most more few past = (omega (arith, past.0, few), omega (arith, past.1, few))

-- names that are more
pub Exceeds-more : (counts : Counts) (most more : ℕ) → most ≤ more → Exceeds counts most → Exceeds counts more
Exceeds-more counts most more few past = exceeds_more counts.capacity counts.used most more few past

-- names that exceed what there is later exceed what there was before
pub Exceeds-before : (old mid : Counts) (most : ℕ) → Continues old mid → Exceeds mid most → Exceeds old most
Exceeds-before old mid most continues past =
    subst (λ (capacity : ℕ). IsSomeAnd old.used (λ used. (capacity < most) × (used < 32 * (most + 1)))) continues.capacity
    (subst (λ (o : Option ℕ). IsSomeAnd o (λ used. (mid.capacity < most) × (used < 32 * (most + 1)))) continues.used past)

-- a part whose events have all come, and then the rest
pub carried_then : (exposed : Bool) (outcome rest : Outcome) (most more all : ℕ) (result : Result (Unit {0}) End) (old mid new : Moment) →
    CarriesOut exposed outcome most (Ok tt) old mid → Continues old.chain mid.chain → CarriesOut exposed rest more result mid new → more ≤ all →
    CarriesOut exposed (then_do outcome.events rest) all result old new
carried_then exposed outcome rest most more all result old mid new first continues second few = record {
  refused = second.refused;
  whole = λ e whole. second.whole e whole ∙ ap (after_all rest.events) (first.whole e tt) ∙ sym (after_all-append outcome.events rest.events (world_at old));
  texts = λ whole. second.texts whole ∙ ap (option_map (λ text. text ++ texts_in rest.events)) came ∙ put_after (texts_in outcome.events) (texts_in rest.events) old.text ∙ both;
  prefix = λ e. some_after (MayTear result) outcome.events rest.events (world_at old) (world_at new)
      (subst (λ (w : World). LeavesSome (MayTear result) rest.events w (world_at new)) (first.whole e tt) (second.prefix e));
  texts_prefix = (
    length (texts_in outcome.events) + second.texts_prefix.0,
    second.texts_prefix.1 ∙ ap (option_map (λ text. text ++ take second.texts_prefix.0 (texts_in rest.events))) came
        ∙ put_after (texts_in outcome.events) (take second.texts_prefix.0 (texts_in rest.events)) old.text
        ∙ ap (λ (t : List ℕ). option_map (λ text. text ++ t) old.text)
        (sym (take-append-add (texts_in outcome.events) (texts_in rest.events) second.texts_prefix.0)
        ∙ ap (take (length (texts_in outcome.events) + second.texts_prefix.0)) (sym (texts_append outcome.events rest.events))),
  );
  full = λ full. Exceeds-more old.chain more all few (Exceeds-before old.chain mid.chain more continues (second.full full));
}
  where
    came : mid.text ≡ option_map (λ text. text ++ texts_in outcome.events) old.text
    came = first.texts tt

    both : option_map (λ text. text ++ (texts_in outcome.events ++ texts_in rest.events)) old.text ≡ option_map (λ text. text ++ texts_in (outcome.events ++ rest.events)) old.text
    both = ap (λ (t : List ℕ). option_map (λ text. text ++ t) old.text) (sym (texts_append outcome.events rest.events))

-- more names
pub more_carried : (exposed : Bool) (outcome : Outcome) (most more : ℕ) (result : Result (Unit {0}) End) (old new : Moment) → most ≤ more →
    CarriesOut exposed outcome most result old new → CarriesOut exposed outcome more result old new
more_carried exposed outcome most more result old new few carried = record {
  refused = carried.refused;
  whole = carried.whole;
  texts = carried.texts;
  prefix = carried.prefix;
  texts_prefix = carried.texts_prefix;
  full = λ full. Exceeds-more old.chain most more few (carried.full full);
}

-- a part that ends early, and so ends what it is a part of
pub end_carried : (exposed : Bool) (outcome rest : Outcome) (most more : ℕ) (end : End) (old new : Moment) → end ≢ ends.Refused → most ≤ more →
    CarriesOut exposed outcome most (Err end) old new → CarriesOut exposed (then_do outcome.events rest) more (Err end) old new
end_carried exposed outcome rest most more end old new other few carried = record {
  refused = says_any end other rest.refused;
  whole = λ e whole. absurd (not_whole end other whole);
  texts = λ whole. absurd (not_whole end other whole);
  prefix = λ e. some_of_first (MayTear (Err end)) outcome.events rest.events (world_at old) (world_at new) (carried.prefix e);
  texts_prefix = (
    length (take carried.texts_prefix.0 (texts_in outcome.events)),
    carried.texts_prefix.1 ∙ ap (λ (t : List ℕ). option_map (λ text. text ++ t) old.text)
        (sym (part_prefix carried.texts_prefix.0 (texts_in outcome.events) (texts_in rest.events))
        ∙ ap (take (length (take carried.texts_prefix.0 (texts_in outcome.events)))) (sym (texts_append outcome.events rest.events))),
  );
  full = λ full. Exceeds-more old.chain most more few (carried.full full);
}
