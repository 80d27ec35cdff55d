-- Words that are taken one after another.
use Rattle.std.specs.Prelude.{ℕ, suc, ◌==◌, ◌++◌, Bool, false, if◌then◌else◌, List, [], ◌∷◌, drop, position, take, Option, Some, None}
use Rattle.std.specs.List.{filter_map}
use Rattle.std.specs.Option.{option_map}
use Rattle.script_words.specs.Numbers.{◌>>=◌}
use Rattle.model_runs.specs.Words.{OptionName, Workers, Resident, Cache, SwapBlocks, Request as Asked, RunScript as AsksRun, Setting, Value, default_options, once_or, only_one, script_in, settings_of, then_settings, value_in, value_of}

-- ---- words so far

-- the script and the values of the options that words gave, and the option whose value is the next word
pub record Parsed : Type 0 where
  pub script : Option (List ℕ)
  pub workers : Option ℕ
  pub resident : Option ℕ
  pub cache : Option ℕ
  pub swap_blocks : Option ℕ
  pub pending : Option OptionName

-- what no word says
abbrev pub nothing_parsed : Parsed
nothing_parsed = record { script = None; workers = None; resident = None; cache = None; swap_blocks = None; pending = None }

-- a value where none is
abbrev pub set_to : {X : Type 0} → Option X → X → Option (Option X)
set_to None value = Some (Some value)
set_to (Some old) value = None

-- an option has a value, which it hadn't
abbrev pub with_number : Parsed → OptionName → ℕ → Option Parsed
with_number parsed Workers value = option_map (λ set. record parsed { workers = set }) (set_to parsed.workers value)
with_number parsed Resident value = option_map (λ set. record parsed { resident = set }) (set_to parsed.resident value)
with_number parsed Cache value = option_map (λ set. record parsed { cache = set }) (set_to parsed.cache value)
with_number parsed SwapBlocks value = option_map (λ set. record parsed { swap_blocks = set }) (set_to parsed.swap_blocks value)

-- the same of the value that a word writes
abbrev pub with_value : Parsed → OptionName → List ℕ → Option Parsed
with_value parsed option word = value_of option word >>= with_number parsed option

-- what a word that begins with `-` has before and after its first `=`
abbrev pub halves_at : List ℕ → Option ℕ → Option (List ℕ × List ℕ)
halves_at word None = None
halves_at word (Some index) = Some (take index word, drop (suc index) word)

abbrev pub is_option : List ℕ → Bool
is_option [] = false
is_option (byte ∷ bytes) = byte == 45

abbrev pub halves_of : List ℕ → Option (List ℕ × List ℕ)
halves_of word = if is_option word then halves_at word (position (λ b. b == 61) word) else None

-- ---- words to come

-- the settings that words are, of which the first is the value of an option where one is pending
abbrev pub settings_after : Option OptionName → List (List ℕ) → Option (List Setting)
settings_after None words = settings_of words
settings_after (Some option) [] = None
settings_after (Some option) (word ∷ words) = then_settings (option_map (Value option) (value_of option word)) (settings_of words)

-- a list of what there is
abbrev pub list_of : {X : Type 0} → Option X → List X
list_of None = []
list_of (Some x) = x ∷ []

-- What words so far and these settings after them ask for.
abbrev pub asked_with : Parsed → List Setting → Option Asked
asked_with parsed settings = do
  script ← only_one (list_of parsed.script ++ filter_map script_in settings)
  workers ← once_or default_options.workers (list_of parsed.workers ++ filter_map (value_in Workers) settings)
  resident ← once_or default_options.resident (list_of parsed.resident ++ filter_map (value_in Resident) settings)
  cache ← once_or default_options.cache (list_of parsed.cache ++ filter_map (value_in Cache) settings)
  blocks ← once_or default_options.swap_blocks (list_of parsed.swap_blocks ++ filter_map (value_in SwapBlocks) settings)
  Some (AsksRun script (record { workers = workers; resident = resident; cache = cache; swap_blocks = blocks }))

-- What words so far and these words after them ask for.
abbrev pub continued : Parsed → List (List ℕ) → Option Asked
continued parsed words = settings_after parsed.pending words >>= asked_with parsed
