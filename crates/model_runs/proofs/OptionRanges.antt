-- Options of words are in their ranges.
use Rattle.std.proofs.Common.{◌≡◌, ◌≤◌, ◌&&◌, ◌-◌, ◌^◌, ℕ, Bool, true, false, cond, List, [], ◌∷◌, Option, Some, None, IfSome, refl, arith}
use Rattle.std.specs.Prelude.{⊤, codes, length, nat_le}
use Rattle.std.specs.List.{cons_option, filter_map}
use Rattle.std.specs.Option.{option_map}
use Rattle.std.specs.Str.{bytes_eq}
use Rattle.std.proofs.lemmas.Bool.Decides.{nat_tests}
use Rattle.model_runs.specs.Laws.{AreInRange, IsInRange}
use Rattle.model_runs.specs.Words.{Cache, MakeJob, OptionName, Options, Request, Resident, RunScript, Script, Setting, SwapBlocks, Value, Workers, default_options, make_request, max_value, once_or, only_one, option_named, option_setting, options_in, request_of, run_request, script_in, settings_of, split_words, then_settings, value_in, value_of}
use Rattle.outside_io.specs.FileName.{is_file_name}
use Rattle.script_words.specs.Numbers.{◌>>=◌, between, natural_in, natural_of}

-- ---- settings

-- a value is in the range of its option
abbrev Fits : Setting → Type 0
Fits (Script name) = ⊤
Fits (Value option value) = IsInRange option value

abbrev AllFit : List Setting → Type 0
AllFit [] = ⊤
AllFit (setting ∷ settings) = Fits setting × AllFit settings

between_in : (low high value : ℕ) → IfSome (between low high value) (λ found. (low ≤ found) × (found ≤ high))
between_in low high value = by (nat_le low value && nat_le value high) refl
  where
    by : (test : Bool) → (nat_le low value && nat_le value high) ≡ test → IfSome (cond test (Some value) None) (λ found. (low ≤ found) × (found ≤ high))
    by true e = (grind (arith, nat_tests, e), grind (arith, nat_tests, e))
    by false e = tt

natural_in_range : (low high : ℕ) (word : List ℕ) → IfSome (natural_in low high word) (λ found. (low ≤ found) × (found ≤ high))
unfolding natural_in
natural_in_range low high word = by (natural_of word)
  where
    by : (o : Option ℕ) → IfSome (o >>= between low high) (λ found. (low ≤ found) × (found ≤ high))
    by None = tt
    by (Some value) = between_in low high value

value_fits : (option : OptionName) (word : List ℕ) → IfSome (value_of option word) (IsInRange option)
value_fits option word = by (nat_le (length word) 7)
  where
    by : (test : Bool) → IfSome (cond test (natural_in 1 (max_value option) word) None) (IsInRange option)
    by true = natural_in_range 1 (max_value option) word
    by false = tt

setting_fits : (word value : List ℕ) → IfSome (option_setting word value) Fits
setting_fits word value = by (option_named word)
  where
    valued : (option : OptionName) (o : Option ℕ) → IfSome o (IsInRange option) → IfSome (option_map (Value option) o) Fits
    valued option None fits = tt
    valued option (Some v) fits = fits

    by : (o : Option OptionName) → IfSome (o >>= (λ option. option_map (Value option) (value_of option value))) Fits
    by None = tt
    by (Some option) = valued option (value_of option value) (value_fits option value)

then_fit : (first : Option Setting) (rest : Option (List Setting)) → IfSome first Fits → IfSome rest AllFit → IfSome (then_settings first rest) AllFit
then_fit None rest fits all = tt
then_fit (Some setting) None fits all = tt
then_fit (Some setting) (Some settings) fits all = (fits, all)

either : (test : Bool) (a b : Option (List Setting)) → IfSome a AllFit → IfSome b AllFit → IfSome (cond test a b) AllFit
either true a b one other = one
either false a b one other = other

settings_fit : (words : List (List ℕ)) → IfSome (settings_of words) AllFit
settings_fit [] = tt
settings_fit (word ∷ []) = either (is_file_name word) (Some (Script word ∷ [])) None (tt, tt) tt
settings_fit (word ∷ next ∷ words) =
    either (is_file_name word) (then_settings (Some (Script word)) (settings_of (next ∷ words))) (then_settings (option_setting word next) (settings_of words))
    (then_fit (Some (Script word)) (settings_of (next ∷ words)) tt (settings_fit (next ∷ words)))
    (then_fit (option_setting word next) (settings_of words) (setting_fits word next) (settings_fit words))

-- ---- values of one option

abbrev AllIn : OptionName → List ℕ → Type 0
AllIn option [] = ⊤
AllIn option (value ∷ values) = IsInRange option value × AllIn option values

here_in : (option : OptionName) (setting : Setting) → Fits setting → IfSome (value_in option setting) (IsInRange option)
here_in option (Script name) fits = tt
here_in Workers (Value Workers value) fits = fits
here_in Resident (Value Resident value) fits = fits
here_in Cache (Value Cache value) fits = fits
here_in SwapBlocks (Value SwapBlocks value) fits = fits
here_in Workers (Value Resident value) fits = tt
here_in Workers (Value Cache value) fits = tt
here_in Workers (Value SwapBlocks value) fits = tt
here_in Resident (Value Workers value) fits = tt
here_in Resident (Value Cache value) fits = tt
here_in Resident (Value SwapBlocks value) fits = tt
here_in Cache (Value Workers value) fits = tt
here_in Cache (Value Resident value) fits = tt
here_in Cache (Value SwapBlocks value) fits = tt
here_in SwapBlocks (Value Workers value) fits = tt
here_in SwapBlocks (Value Resident value) fits = tt
here_in SwapBlocks (Value Cache value) fits = tt

before_in : (option : OptionName) (o : Option ℕ) (values : List ℕ) → IfSome o (IsInRange option) → AllIn option values → AllIn option (cons_option o values)
before_in option None values is all = all
before_in option (Some value) values is all = (is, all)

values_in : (option : OptionName) (settings : List Setting) → AllFit settings → AllIn option (filter_map (value_in option) settings)
values_in option [] fit = tt
values_in option (setting ∷ settings) fit =
    before_in option (value_in option setting) (filter_map (value_in option) settings) (here_in option setting fit.0) (values_in option settings fit.1)

once_in : (option : OptionName) (default : ℕ) (values : List ℕ) → IsInRange option default → AllIn option values → IfSome (once_or default values) (IsInRange option)
once_in option default [] is all = is
once_in option default (value ∷ []) is all = all.0
once_in option default (value ∷ other ∷ values) is all = tt

-- ---- options

four : (workers resident cache blocks : Option ℕ) → IfSome workers (IsInRange Workers) → IfSome resident (IsInRange Resident) → IfSome cache (IsInRange Cache) → IfSome blocks (IsInRange SwapBlocks) →
    IfSome (workers >>= (λ w. resident >>= (λ r. cache >>= (λ c. blocks >>= (λ b. Some (let o : Options = record { workers = w; resident = r; cache = c; swap_blocks = b } in o)))))) AreInRange
four None resident cache blocks a b c d = tt
four (Some w) None cache blocks a b c d = tt
four (Some w) (Some r) None blocks a b c d = tt
four (Some w) (Some r) (Some k) None a b c d = tt
four (Some w) (Some r) (Some k) (Some n) a b c d = record { workers = a; resident = b; cache = c; swap_blocks = d }

options_in_range : (settings : List Setting) → AllFit settings → IfSome (options_in settings) AreInRange
options_in_range settings fit =
    four (once_or default_options.workers (filter_map (value_in Workers) settings)) (once_or default_options.resident (filter_map (value_in Resident) settings))
    (once_or default_options.cache (filter_map (value_in Cache) settings)) (once_or default_options.swap_blocks (filter_map (value_in SwapBlocks) settings))
    (once_in Workers default_options.workers (filter_map (value_in Workers) settings) (omega arith, omega arith) (values_in Workers settings fit))
    (once_in Resident default_options.resident (filter_map (value_in Resident) settings) (omega arith, omega arith) (values_in Resident settings fit))
    (once_in Cache default_options.cache (filter_map (value_in Cache) settings) (omega arith, omega arith) (values_in Cache settings fit))
    (once_in SwapBlocks default_options.swap_blocks (filter_map (value_in SwapBlocks) settings) (omega arith, omega arith) (values_in SwapBlocks settings fit))

-- ---- requests

-- its options are in range
abbrev InRange : Request → Type 0
InRange (RunScript script options) = AreInRange options
InRange (MakeJob number) = ⊤

asks_in_range : (script : List ℕ) (o : Option Options) → IfSome o AreInRange → IfSome (option_map (RunScript script) o) InRange
asks_in_range script None is = tt
asks_in_range script (Some options) is = is

run_in_range : (words : List (List ℕ)) → IfSome (run_request words) InRange
run_in_range words = by (settings_of (split_words words)) (settings_fit (split_words words))
  where
    named : (settings : List Setting) → AllFit settings → (o : Option (List ℕ)) → IfSome (o >>= (λ script. option_map (RunScript script) (options_in settings))) InRange
    named settings fit None = tt
    named settings fit (Some script) = asks_in_range script (options_in settings) (options_in_range settings fit)

    by : (o : Option (List Setting)) → IfSome o AllFit → IfSome (o >>= (λ settings. only_one (filter_map script_in settings) >>= (λ script. option_map (RunScript script) (options_in settings)))) InRange
    by None fit = tt
    by (Some settings) fit = named settings fit (only_one (filter_map script_in settings))

job_in_range : (o : Option ℕ) → IfSome (option_map MakeJob o) InRange
job_in_range None = tt
job_in_range (Some number) = tt

make_in_range : (words : List (List ℕ)) → IfSome (make_request words) InRange
make_in_range [] = tt
make_in_range (word ∷ []) = job_in_range (natural_in 0 (2 ^ 32 - 1) word)
make_in_range (word ∷ other ∷ words) = tt

either_request : (test : Bool) (a b : Option Request) → IfSome a InRange → IfSome b InRange → IfSome (cond test a b) InRange
either_request true a b one other = one
either_request false a b one other = other

request_in_range : (words : List (List ℕ)) → IfSome (request_of words) InRange
request_in_range [] = tt
request_in_range (command ∷ words) =
    either_request (bytes_eq command (codes "run")) (run_request words) (cond (bytes_eq command (codes "make")) (make_request words) None)
    (run_in_range words)
    (either_request (bytes_eq command (codes "make")) (make_request words) None (make_in_range words) tt)

asked_in_range : (found : Option Request) (request : Request) → found ≡ Some request → IfSome found InRange → InRange request
asked_in_range None request e is = absurd (cc)
asked_in_range (Some other) request e is = let same : other ≡ request = cc in rw same at is

pub in_range : (words : List (List ℕ)) (script : List ℕ) (options : Options) → request_of words ≡ Some (RunScript script options) → AreInRange options
in_range words script options e = asked_in_range (request_of words) (RunScript script options) e (request_in_range words)
