-- What is asked for by words so far and words to come, as a word is taken.
use Rattle.std.proofs.Common.{◌≡◌, ◌<◌, ◌≤◌, ℕ, zero, suc, arith, get_or, map, ◌==◌, ◌++◌, ◌&&◌, Bool, true, false, List, [], ◌∷◌, Option, Some, None, length, refl, sym, ap, subst, ◌∙◌, cond}
use Rattle.std.specs.Prelude.{MatchOption, drop, position, take, nat_le, nat_lt}
use Rattle.std.specs.Char.{is_ascii_digit}
use Rattle.std.specs.List.{filter_map, list_all, position_or_len}
use Rattle.std.specs.Option.{option_map}
use Rattle.std.proofs.lemmas.Bool.{eqb-true}
use Rattle.outside_io.specs.FileName.{is_file_name}
use Rattle.script_words.specs.Numbers.{◌>>=◌, digits_value, natural_in, natural_of}
use Rattle.model_runs.specs.Words.{OptionName, Workers, Resident, Cache, SwapBlocks, Request as Asked, RunScript as AsksRun, Script, Setting, Value, default_options, max_value, once_or, only_one, option_named, option_setting, options_in, run_request, script_in, settings_of, split_at, split_word, split_words, then_settings, value_in, value_of}
use Rattle.run_words.specs.Parsing.{Parsed, asked_with, continued, halves_at, halves_of, list_of, nothing_parsed, set_to, settings_after, with_number, with_value}

-- ---- what is found, and what is made of it

none-some : {A : Type 0} (a : A) → ◌≡◌ {A = Option A} None (Some a) → ⊥
none-some a wrong = cc

bind-none : {A B : Type 0} (found : Option A) (f : A → Option B) → ((a : A) → f a ≡ None) → (found >>= f) ≡ None
bind-none None f none = refl
bind-none (Some a) f none = none a

none-2 : {A B C : Type 0} (x : Option A) (y : Option B) → ◌≡◌ {A = Option C} (x >>= (λ a. y >>= (λ b. None))) None
none-2 x y = bind-none x (λ a. y >>= (λ b. None)) (λ a. bind-none y (λ b. None) (λ b. refl))

none-3 : {A B C D : Type 0} (x : Option A) (y : Option B) (z : Option C) → ◌≡◌ {A = Option D} (x >>= (λ a. y >>= (λ b. z >>= (λ c. None)))) None
none-3 x y z = bind-none x (λ a. y >>= (λ b. z >>= (λ c. None))) (λ a. none-2 y z)

none-4 : {A B C D E : Type 0} (x : Option A) (y : Option B) (z : Option C) (w : Option D) → ◌≡◌ {A = Option E} (x >>= (λ a. y >>= (λ b. z >>= (λ c. w >>= (λ d. None))))) None
none-4 x y z w = bind-none x (λ a. y >>= (λ b. z >>= (λ c. w >>= (λ d. None)))) (λ a. none-3 y z w)

-- ---- a setting more

-- Where an option is set that was set before, no settings after it ask for anything; else they ask for what they ask
-- after the value.
abbrev IsTaken : Option Parsed → Option Asked → (Parsed → Option Asked) → Type 0
IsTaken next before after = MatchOption next (before ≡ None) (λ new. before ≡ after new)

set-workers : (p : Parsed) (w : Option ℕ) (v : ℕ) (s : List Setting) →
    IsTaken (with_number (record p { workers = w }) Workers v) (asked_with (record p { workers = w }) (Value Workers v ∷ s)) (λ new. asked_with new s)
set-workers p None v s = refl
set-workers p (Some w) v s = bind-none _ _ (λ name. refl)

set-resident : (p : Parsed) (w : Option ℕ) (v : ℕ) (s : List Setting) →
    IsTaken (with_number (record p { resident = w }) Resident v) (asked_with (record p { resident = w }) (Value Resident v ∷ s)) (λ new. asked_with new s)
set-resident p None v s = refl
set-resident p (Some w) v s = none-2 (only_one (list_of p.script ++ filter_map script_in s)) (once_or default_options.workers (list_of p.workers ++ filter_map (value_in Workers) s))

set-cache : (p : Parsed) (w : Option ℕ) (v : ℕ) (s : List Setting) →
    IsTaken (with_number (record p { cache = w }) Cache v) (asked_with (record p { cache = w }) (Value Cache v ∷ s)) (λ new. asked_with new s)
set-cache p None v s = refl
set-cache p (Some w) v s = none-3 (only_one (list_of p.script ++ filter_map script_in s)) (once_or default_options.workers (list_of p.workers ++ filter_map (value_in Workers) s)) (once_or default_options.resident (list_of p.resident ++ filter_map (value_in Resident) s))

set-swap_blocks : (p : Parsed) (w : Option ℕ) (v : ℕ) (s : List Setting) →
    IsTaken (with_number (record p { swap_blocks = w }) SwapBlocks v) (asked_with (record p { swap_blocks = w }) (Value SwapBlocks v ∷ s)) (λ new. asked_with new s)
set-swap_blocks p None v s = refl
set-swap_blocks p (Some w) v s = none-4 (only_one (list_of p.script ++ filter_map script_in s)) (once_or default_options.workers (list_of p.workers ++ filter_map (value_in Workers) s)) (once_or default_options.resident (list_of p.resident ++ filter_map (value_in Resident) s)) (once_or default_options.cache (list_of p.cache ++ filter_map (value_in Cache) s))

set-number : (p : Parsed) (option : OptionName) (v : ℕ) (s : List Setting) →
    IsTaken (with_number p option v) (asked_with p (Value option v ∷ s)) (λ new. asked_with new s)
set-number p Workers v s = set-workers p p.workers v s
set-number p Resident v s = set-resident p p.resident v s
set-number p Cache v s = set-cache p p.cache v s
set-number p SwapBlocks v s = set-swap_blocks p p.swap_blocks v s

none-taken : (next : Option Parsed) → IsTaken next None (λ new. None)
none-taken None = refl
none-taken (Some new) = refl

-- an option with a word for its value, before other words
value-taken : (p : Parsed) (option : OptionName) (word : List ℕ) (rest : List (List ℕ)) →
    IsTaken (with_value p option word) (then_settings (option_map (Value option) (value_of option word)) (settings_of rest) >>= asked_with p)
    (λ new. settings_of rest >>= asked_with new)
value-taken p option word rest = by (value_of option word) (settings_of rest)
  where
    by : (value : Option ℕ) (settings : Option (List Setting)) →
        IsTaken (value >>= with_number p option) (then_settings (option_map (Value option) value) settings >>= asked_with p) (λ new. settings >>= asked_with new)
    by None settings = refl
    by (Some v) None = none-taken (with_number p option v)
    by (Some v) (Some s) = set-number p option v s

-- a value leaves what is pending
abbrev Left : Parsed → Option Parsed → Type 0
Left p found = MatchOption found (p.pending ≡ p.pending) (λ new. new.pending ≡ p.pending)

pub pending-left : (p : Parsed) (option : OptionName) (word : List ℕ) (new : Parsed) → with_value p option word ≡ Some new → new.pending ≡ p.pending
pending-left p option word new is = by (with_value p option word) (left (value_of option word)) is
  where
    mapped : (f : Option ℕ → Parsed) → ((set : Option ℕ) → (f set).pending ≡ p.pending) → (o : Option (Option ℕ)) → Left p (option_map f o)
    mapped f is None = refl
    mapped f is (Some set) = is set

    number : (option : OptionName) (v : ℕ) → Left p (with_number p option v)
    number Workers v = mapped (λ set. record p { workers = set }) (λ set. refl) (set_to p.workers v)
    number Resident v = mapped (λ set. record p { resident = set }) (λ set. refl) (set_to p.resident v)
    number Cache v = mapped (λ set. record p { cache = set }) (λ set. refl) (set_to p.cache v)
    number SwapBlocks v = mapped (λ set. record p { swap_blocks = set }) (λ set. refl) (set_to p.swap_blocks v)

    left : (value : Option ℕ) → Left p (value >>= with_number p option)
    left None = refl
    left (Some v) = number option v

    by : (found : Option Parsed) → Left p found → found ≡ Some new → new.pending ≡ p.pending
    by found holds is = subst (Left p) is holds

-- ---- a word as it is split

abbrev split_of : List ℕ → Option (List ℕ × List ℕ) → List (List ℕ)
split_of word None = word ∷ []
split_of word (Some halves) = halves.0 ∷ halves.1 ∷ []

split-is : (word : List ℕ) → split_word word ≡ split_of word (halves_of word)
split-is [] = refl
split-is (byte ∷ bytes) = by (byte == 45) (position (λ b. b == 61) (byte ∷ bytes))
  where
    by : (test : Bool) (index : Option ℕ) →
        cond test (split_at (byte ∷ bytes) index) ((byte ∷ bytes) ∷ []) ≡ split_of (byte ∷ bytes) (cond test (halves_at (byte ∷ bytes) index) None)
    by true None = refl
    by true (Some index) = refl
    by false index = refl

-- what begins with `-`
record IsOption (word : List ℕ) : Type 0 where
  rest : List ℕ
  is : word ≡ 45 ∷ rest

halves-option : (word : List ℕ) (halves : List ℕ × List ℕ) → halves_of word ≡ Some halves → IsOption word × IsOption halves.0
halves-option [] halves found = absurd (none-some _ found)
halves-option (byte ∷ bytes) halves found = by (byte == 45) refl found
  where
    at : (test : Bool) (n m : ℕ) → n ≡ suc m → halves_at (45 ∷ bytes) (cond test (Some n) None) ≡ Some halves → IsOption halves.0
    at true n m next is = record { rest = take m bytes; is = ap first (sym is) ∙ ap (λ (k : ℕ). take k (45 ∷ bytes)) next }
      where
        first : Option (List ℕ × List ℕ) → List ℕ
        first None = []
        first (Some halves) = halves.0
    at false n m next is = absurd (none-some _ is)

    by : (test : Bool) → (byte == 45) ≡ test → cond test (halves_at (byte ∷ bytes) (position (λ b. b == 61) (byte ∷ bytes))) None ≡ Some halves →
        IsOption (byte ∷ bytes) × IsOption halves.0
    by true is found =
        let minus : byte ≡ 45 = eqb-true byte 45 is in (
          record { rest = bytes; is = ap (λ (b : ℕ). b ∷ bytes) minus },
          at _ _ (position_or_len (λ b. b == 61) bytes) (omega arith) (subst (λ (b : ℕ). halves_at (b ∷ bytes) (position (λ b. b == 61) (b ∷ bytes)) ≡ Some halves) minus found),
        )
    by false is found = absurd (none-some _ found)

-- such a word is the value of no option, and no file's name
no-value : (option : OptionName) (word : List ℕ) → IsOption word → value_of option word ≡ None
unfolding natural_in
no-value option word dash = subst (λ (w : List ℕ). value_of option w ≡ None) (sym dash.is) (by (nat_le (length (45 ∷ dash.rest)) 7))
  where
    natural : natural_of (45 ∷ dash.rest) ≡ None
    natural = tested (nat_lt 0 (length (45 ∷ dash.rest))) (nat_le (length (45 ∷ dash.rest)) 10)
      where
        tested : (some few : Bool) → cond (some && few && list_all is_ascii_digit (45 ∷ dash.rest)) (Some (digits_value (45 ∷ dash.rest))) None ≡ None
        tested true true = refl
        tested true false = refl
        tested false few = refl

    by : (few : Bool) → cond few (natural_in 1 (max_value option) (45 ∷ dash.rest)) None ≡ None
    by true = rw natural refl
    by false = refl

no-file : (word : List ℕ) → IsOption word → is_file_name word ≡ false
no-file word dash = ap is_file_name dash.is

-- ---- a word that is taken

-- what is asked for with the next word, and with the words after it once it is taken
abbrev pub Continues : Option (Unit {0}) → Parsed → Parsed → List ℕ → List (List ℕ) → Type 0
Continues found old new word rest =
    MatchOption found (continued old (split_word word ++ rest) ≡ None) (λ _. continued old (split_word word ++ rest) ≡ continued new rest)

-- what comes of giving an option the value that a word writes
abbrev pub Sets : Option (Unit {0}) → Parsed → Parsed → OptionName → List ℕ → Type 0
Sets found old new option word = MatchOption found (with_value old option word ≡ None) (λ _. with_value old option word ≡ Some new)

-- one more, where nothing is pending before and after
set-then : (found : Option (Unit {0})) (old new : Parsed) (option : OptionName) (word : List ℕ) (rest : List (List ℕ)) → old.pending ≡ None →
    Sets found old new option word →
    IsTaken (with_value old option word) (then_settings (option_map (Value option) (value_of option word)) (settings_of rest) >>= asked_with old) (λ new. settings_of rest >>= asked_with new) →
    MatchOption found (then_settings (option_map (Value option) (value_of option word)) (settings_of rest) >>= asked_with old ≡ None)
    (λ _. then_settings (option_map (Value option) (value_of option word)) (settings_of rest) >>= asked_with old ≡ continued new rest)
set-then None old new option word rest none sets taken =
    subst (λ (next : Option Parsed). IsTaken next (then_settings (option_map (Value option) (value_of option word)) (settings_of rest) >>= asked_with old) (λ new. settings_of rest >>= asked_with new)) sets taken
set-then (Some done) old new option word rest none sets taken =
    subst (λ (next : Option Parsed). IsTaken next (then_settings (option_map (Value option) (value_of option word)) (settings_of rest) >>= asked_with old) (λ new. settings_of rest >>= asked_with new)) sets taken
    ∙ ap (λ (pending : Option OptionName). settings_after pending rest >>= asked_with new) (sym (pending-left old option word new sets ∙ none))

-- the words after a split word
after-split : (word : List ℕ) (found : Option (List ℕ × List ℕ)) (rest : List (List ℕ)) → halves_of word ≡ found → split_word word ++ rest ≡ split_of word found ++ rest
after-split word found rest is = ap (λ (words : List (List ℕ)). words ++ rest) (split-is word ∙ ap (split_of word) is)

-- a word where the value of an option is next
pub take-pending : (found : Option (Unit {0})) (old new : Parsed) (option : OptionName) (word : List ℕ) (rest : List (List ℕ)) → old.pending ≡ Some option →
    Sets found (record old { pending = None }) new option word → Continues found old new word rest
take-pending found old new option word rest pending sets = by (halves_of word) refl
  where
    p : Parsed
    p = record old { pending = None }

    next : List (List ℕ) → Option Asked
    next words = settings_after old.pending words >>= asked_with old

    -- a word that is no value
    refused : (found : Option (Unit {0})) → Sets found p new option word → value_of option word ≡ None → (words : List (List ℕ)) → next words ≡ None →
        MatchOption found (next words ≡ None) (λ _. next words ≡ continued new rest)
    refused None sets none words is = is
    refused (Some done) sets none words is = absurd (none-some _ (sym (ap (λ (value : Option ℕ). value >>= with_number p option) none) ∙ sets))

    by : (halves : Option (List ℕ × List ℕ)) → halves_of word ≡ halves → Continues found old new word rest
    by None is =
        let split = after-split word None rest is in
        let here : next (word ∷ rest) ≡ (then_settings (option_map (Value option) (value_of option word)) (settings_of rest) >>= asked_with p) =
        ap (λ (o : Option OptionName). settings_after o (word ∷ rest) >>= asked_with old) pending in
        subst (λ (words : List (List ℕ)). MatchOption found (next words ≡ None) (λ _. next words ≡ continued new rest)) (sym split)
        (subst (λ (left : Option Asked). MatchOption found (left ≡ None) (λ _. left ≡ continued new rest)) (sym here)
        (set-then found p new option word rest refl sets (value-taken p option word rest)))
    by (Some halves) is =
        let dash = halves-option word halves is in
        let split = after-split word (Some halves) rest is in
        let none : next (halves.0 ∷ halves.1 ∷ rest) ≡ None =
        ap (λ (o : Option OptionName). settings_after o (halves.0 ∷ halves.1 ∷ rest) >>= asked_with old) pending
        ∙ ap (λ (value : Option ℕ). then_settings (option_map (Value option) value) (settings_of (halves.1 ∷ rest)) >>= asked_with old) (no-value option halves.0 dash.1) in
        subst (λ (words : List (List ℕ)). MatchOption found (next words ≡ None) (λ _. next words ≡ continued new rest)) (sym split)
        (refused found sets (no-value option word dash.0) (halves.0 ∷ halves.1 ∷ rest) none)

-- where nothing is pending
module _ (old : Parsed) (none : old.pending ≡ None) (word : List ℕ) (rest : List (List ℕ)) where
  abbrev next : List (List ℕ) → Option Asked
  next words = settings_after old.pending words >>= asked_with old

  next-is : (words : List (List ℕ)) → next words ≡ (settings_of words >>= asked_with old)
  next-is words = ap (λ (o : Option OptionName). settings_after o words >>= asked_with old) none

  -- ---- an option and its value in one word
  module _ (halves : List ℕ × List ℕ) (is : halves_of word ≡ Some halves) where
    halves-are : (split_word word ++ rest) ≡ halves.0 ∷ halves.1 ∷ rest
    halves-are = after-split word (Some halves) rest is

    both : next (split_word word ++ rest) ≡ (then_settings (option_setting halves.0 halves.1) (settings_of rest) >>= asked_with old)
    both =
        ap next halves-are ∙ next-is (halves.0 ∷ halves.1 ∷ rest)
        ∙ ap (λ (test : Bool). cond test (then_settings (Some (Script halves.0)) (settings_of (halves.1 ∷ rest))) (then_settings (option_setting halves.0 halves.1) (settings_of rest)) >>= asked_with old)
        (no-file halves.0 (halves-option word halves is).1)

    pub take-halves : (found : Option (Unit {0})) (new : Parsed) (option : OptionName) → option_named halves.0 ≡ Some option → Sets found old new option halves.1 → Continues found old new word rest
    take-halves found new option named sets =
        let here : next (split_word word ++ rest) ≡ (then_settings (option_map (Value option) (value_of option halves.1)) (settings_of rest) >>= asked_with old) =
        both ∙ ap (λ (o : Option OptionName). then_settings (o >>= (λ option. option_map (Value option) (value_of option halves.1))) (settings_of rest) >>= asked_with old) named in
        subst (λ (left : Option Asked). MatchOption found (left ≡ None) (λ _. left ≡ continued new rest)) (sym here)
        (set-then found old new option halves.1 rest none sets (value-taken old option halves.1 rest))

  -- ---- a whole word
  module _ (is : halves_of word ≡ None) where
    whole : split_word word ++ rest ≡ word ∷ rest
    whole = after-split word None rest is

    -- a script's name
    script-set : (s : Option (List ℕ)) (settings : List Setting) →
        MatchOption (set_to s word) (asked_with (record old { script = s }) (Script word ∷ settings) ≡ None)
        (λ set. asked_with (record old { script = s }) (Script word ∷ settings) ≡ asked_with (record old { script = set }) settings)
    script-set None settings = refl
    script-set (Some s) settings = refl

    script-first : is_file_name word ≡ true → (rest : List (List ℕ)) → settings_of (word ∷ rest) ≡ option_map (λ settings. Script word ∷ settings) (settings_of rest)
    script-first file [] = ap (λ (test : Bool). cond test (Some (Script word ∷ [])) None) file
    script-first file (second ∷ more) =
        ap (λ (test : Bool). cond test (then_settings (Some (Script word)) (settings_of (second ∷ more))) (then_settings (option_setting word second) (settings_of more))) file

    pub take-script : (found : Option (Unit {0})) (new : Parsed) (set : Option (List ℕ)) → is_file_name word ≡ true → new ≡ record old { script = set } →
        MatchOption found (set_to old.script word ≡ None) (λ _. set_to old.script word ≡ Some set) → Continues found old new word rest
    take-script found new set file is_new sets =
        subst (λ (left : Option Asked). MatchOption found (left ≡ None) (λ _. left ≡ continued new rest)) (sym here)
        (by found sets (settings_of rest))
      where
        here : next (split_word word ++ rest) ≡ (option_map (λ settings. Script word ∷ settings) (settings_of rest) >>= asked_with old)
        here = ap next whole ∙ next-is (word ∷ rest) ∙ ap (λ (s : Option (List Setting)). s >>= asked_with old) (script-first file rest)

        after : continued new rest ≡ (settings_of rest >>= asked_with (record old { script = set }))
        after =
            ap (λ (p : Parsed). settings_after p.pending rest >>= asked_with p) is_new
            ∙ ap (λ (o : Option OptionName). settings_after o rest >>= asked_with (record old { script = set })) none

        step : (settings : Option (List Setting)) → (settings >>= asked_with (record old { script = set })) ≡ continued new rest → (found : Option (Unit {0})) →
            MatchOption found (set_to old.script word ≡ None) (λ _. set_to old.script word ≡ Some set) →
            MatchOption found ((option_map (λ settings. Script word ∷ settings) settings >>= asked_with old) ≡ None)
            (λ _. (option_map (λ settings. Script word ∷ settings) settings >>= asked_with old) ≡ continued new rest)
        step None is None sets = refl
        step None is (Some done) sets = is
        step (Some s) is None sets = subst (λ (o : Option (Option (List ℕ))). MatchOption o (asked_with old (Script word ∷ s) ≡ None) (λ set. asked_with old (Script word ∷ s) ≡ asked_with (record old { script = set }) s)) sets (script-set old.script s)
        step (Some s) is (Some done) sets =
            subst (λ (o : Option (Option (List ℕ))). MatchOption o (asked_with old (Script word ∷ s) ≡ None) (λ set. asked_with old (Script word ∷ s) ≡ asked_with (record old { script = set }) s)) sets (script-set old.script s) ∙ is

        by : (found : Option (Unit {0})) → MatchOption found (set_to old.script word ≡ None) (λ _. set_to old.script word ≡ Some set) → (settings : Option (List Setting)) →
            MatchOption found ((option_map (λ settings. Script word ∷ settings) (settings_of rest) >>= asked_with old) ≡ None)
            (λ _. (option_map (λ settings. Script word ∷ settings) (settings_of rest) >>= asked_with old) ≡ continued new rest)
        by found sets settings = step (settings_of rest) (sym after) found sets

    -- the name of an option
    named-first : is_file_name word ≡ false → (rest : List (List ℕ)) → settings_of (word ∷ rest) ≡ (option_named word >>= (λ option. settings_after (Some option) rest))
    named-first file [] = ap (λ (test : Bool). cond test (Some (Script word ∷ [])) None) file ∙ sym (bind-none (option_named word) (λ option. settings_after (Some option) []) (λ option. refl))
    named-first file (second ∷ more) =
        ap (λ (test : Bool). cond test (then_settings (Some (Script word)) (settings_of (second ∷ more))) (then_settings (option_setting word second) (settings_of more))) file
        ∙ by (option_named word)
      where
        by : (found : Option OptionName) → then_settings (found >>= (λ option. option_map (Value option) (value_of option second))) (settings_of more) ≡ (found >>= (λ option. settings_after (Some option) (second ∷ more)))
        by None = refl
        by (Some option) = refl

    name-here : is_file_name word ≡ false → next (split_word word ++ rest) ≡ ((option_named word >>= (λ option. settings_after (Some option) rest)) >>= asked_with old)
    name-here file = ap next whole ∙ next-is (word ∷ rest) ∙ ap (λ (s : Option (List Setting)). s >>= asked_with old) (named-first file rest)

    pub take-name : (option : OptionName) → is_file_name word ≡ false → option_named word ≡ Some option →
        next (split_word word ++ rest) ≡ continued (record old { pending = Some option }) rest
    take-name option file named = name-here file ∙ ap (λ (o : Option OptionName). (o >>= (λ option. settings_after (Some option) rest)) >>= asked_with old) named

-- ---- all words

abbrev value_or : Option ℕ → ℕ → ℕ
value_or None default = default
value_or (Some value) default = value

-- a run's request as that of words none of which is taken yet
pub run-is : (words : List (List ℕ)) → run_request words ≡ continued nothing_parsed (split_words words)
run-is words = by (settings_of (split_words words))
  where
    asked : (settings : List Setting) (script : Option (List ℕ)) (workers resident cache blocks : Option ℕ) →
        (script >>= (λ name. option_map (AsksRun name) (workers >>= (λ w. resident >>= (λ r. cache >>= (λ c. blocks >>= (λ b. Some (record { workers = w; resident = r; cache = c; swap_blocks = b }))))))))
        ≡ (script >>= (λ name. workers >>= (λ w. resident >>= (λ r. cache >>= (λ c. blocks >>= (λ b. Some (AsksRun name (record { workers = w; resident = r; cache = c; swap_blocks = b }))))))))
    asked settings None workers resident cache blocks = refl
    asked settings (Some name) None resident cache blocks = refl
    asked settings (Some name) (Some w) None cache blocks = refl
    asked settings (Some name) (Some w) (Some r) None blocks = refl
    asked settings (Some name) (Some w) (Some r) (Some c) None = refl
    asked settings (Some name) (Some w) (Some r) (Some c) (Some b) = refl

    by : (settings : Option (List Setting)) → (settings >>= (λ s. only_one (filter_map script_in s) >>= (λ name. option_map (AsksRun name) (options_in s)))) ≡ (settings >>= asked_with nothing_parsed)
    by None = refl
    by (Some s) = asked s (only_one (filter_map script_in s)) (once_or default_options.workers (filter_map (value_in Workers) s)) (once_or default_options.resident (filter_map (value_in Resident) s)) (once_or default_options.cache (filter_map (value_in Cache) s)) (once_or default_options.swap_blocks (filter_map (value_in SwapBlocks) s))

-- ---- the words that are left

pub drop-next : {A : Type 0} (f : A → List ℕ) (xs : List A) (i : ℕ) (x : A) → i < length xs → x ≡ get_or xs i x → drop i (map f xs) ≡ f x ∷ drop (suc i) (map f xs)
drop-next f [] i x below is = absurd (omega (arith, below))
drop-next f (y ∷ ys) zero x below is = ap (λ z. f z ∷ map f ys) (sym is)
drop-next f (y ∷ ys) (suc i) x below is = drop-next f ys i x (omega (arith, below)) is

pub drop-last : {A : Type 0} (f : A → List ℕ) (xs : List A) (i : ℕ) → length xs ≤ i → drop i (map f xs) ≡ []
drop-last f [] zero past = refl
drop-last f [] (suc i) past = refl
drop-last f (y ∷ ys) zero past = absurd (omega (arith, past))
drop-last f (y ∷ ys) (suc i) past = drop-last f ys i (omega (arith, past))

pub next-word : {A : Type 0} (f : A → List ℕ) (parsed : Parsed) (xs : List A) (i : ℕ) (x : A) (word : List ℕ) → i < length xs → x ≡ get_or xs i x → word ≡ f x
    → continued parsed (split_words (drop i (map f xs))) ≡ continued parsed (split_word word ++ split_words (drop (suc i) (map f xs)))
next-word f parsed xs i x word below is spelled =
    ap (λ (words : List (List ℕ)). continued parsed (split_words words)) (drop-next f xs i x below is)
    ∙ ap (λ (first : List ℕ). continued parsed (split_word first ++ split_words (drop (suc i) (map f xs)))) (sym spelled)
