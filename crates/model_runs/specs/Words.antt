-- The words of the program: what they ask for, and with which options.
use Rattle.std.specs.Prelude.{ℕ, suc, nat_le, ◌-◌, ◌^◌, ◌==◌, if◌then◌else◌, List, [], ◌∷◌, codes, drop, flat_map, length, position, take, Option, Some, None}
use Rattle.std.specs.List.{filter_map}
use Rattle.std.specs.Option.{option_map}
use Rattle.std.specs.Str.{bytes_eq}
use Rattle.outside_io.specs.FileName.{is_file_name}
use Rattle.script_words.specs.Numbers.{◌>>=◌, natural_in}

-- ---- options

-- How many workers there are, how many tiles of a chain may be resident, how many tiles of nodes may be cached, and how
-- many blocks of the swap may be used.
pub record Options : Type 0 where
  pub workers : ℕ
  pub resident : ℕ
  pub cache : ℕ
  pub swap_blocks : ℕ

-- without a word of them
abbrev pub default_options : Options
default_options = record { workers = 4; resident = 4096; cache = 16384; swap_blocks = 2 ^ 20 }

pub data OptionName : Type 0 where
  Workers : OptionName
  Resident : OptionName
  Cache : OptionName
  SwapBlocks : OptionName

-- the largest value, where 1 is the smallest
abbrev pub max_value : OptionName → ℕ
max_value Workers = 16
max_value Resident = 32768
max_value Cache = 65536
max_value SwapBlocks = 2 ^ 20

-- the option that a word names
abbrev pub option_named : List ℕ → Option OptionName
option_named word =
    if bytes_eq word (codes "--workers") then Some Workers
    else if bytes_eq word (codes "--resident") then Some Resident
    else if bytes_eq word (codes "--cache") then Some Cache
    else if bytes_eq word (codes "--swap-blocks") then Some SwapBlocks
    else None

-- ---- settings

-- the script's name, or an option with its value
pub data Setting : Type 0 where
  Script : List ℕ → Setting
  Value : OptionName → ℕ → Setting

abbrev pub script_in : Setting → Option (List ℕ)
script_in (Script name) = Some name
script_in (Value option value) = None

abbrev pub value_in : OptionName → Setting → Option ℕ
value_in option (Script name) = None
value_in Workers (Value Workers value) = Some value
value_in Resident (Value Resident value) = Some value
value_in Cache (Value Cache value) = Some value
value_in SwapBlocks (Value SwapBlocks value) = Some value
value_in option (Value other value) = None

-- a value of 1 to 7 digits in the range of its option
abbrev pub value_of : OptionName → List ℕ → Option ℕ
value_of option word = if nat_le (length word) 7 then natural_in 1 (max_value option) word else None

-- an option, and the word after it
abbrev pub option_setting : List ℕ → List ℕ → Option Setting
option_setting word value = do
  option ← option_named word
  option_map (Value option) (value_of option value)

-- a setting before others
abbrev pub then_settings : Option Setting → Option (List Setting) → Option (List Setting)
then_settings setting settings = do
  first ← setting
  option_map (λ rest. first ∷ rest) settings

-- The settings that words are: each is a file name, or the name of an option with its value after it. A file name
-- begins with no `-`.
abbrev pub settings_of : List (List ℕ) → Option (List Setting)
settings_of [] = Some []
settings_of (word ∷ []) = if is_file_name word then Some (Script word ∷ []) else None
settings_of (word ∷ next ∷ words) =
    if is_file_name word then then_settings (Some (Script word)) (settings_of (next ∷ words))
    else then_settings (option_setting word next) (settings_of words)

-- a word that begins with `-` and has a `=` is the two words before and after it
abbrev pub split_at : List ℕ → Option ℕ → List (List ℕ)
split_at word None = word ∷ []
split_at word (Some index) = take index word ∷ drop (suc index) word ∷ []

abbrev pub split_word : List ℕ → List (List ℕ)
split_word [] = [] ∷ []
split_word (byte ∷ bytes) =
    if byte == 45 then split_at (byte ∷ bytes) (position (λ b. b == 61) (byte ∷ bytes)) else (byte ∷ bytes) ∷ []

abbrev pub split_words : List (List ℕ) → List (List ℕ)
split_words words = flat_map split_word words

-- ---- what is asked for

-- a script of the shelf is run with options, or the job of a number is made and run
pub data Request : Type 0 where
  RunScript : List ℕ → Options → Request
  MakeJob : ℕ → Request

-- the value where it is given once, and the default where it isn't
abbrev pub once_or : ℕ → List ℕ → Option ℕ
once_or default [] = Some default
once_or default (value ∷ []) = Some value
once_or default (value ∷ other ∷ values) = None

abbrev pub only_one : List (List ℕ) → Option (List ℕ)
only_one [] = None
only_one (name ∷ []) = Some name
only_one (name ∷ other ∷ names) = None

-- each option at most once
abbrev pub options_in : List Setting → Option Options
options_in settings = do
  workers ← once_or default_options.workers (filter_map (value_in Workers) settings)
  resident ← once_or default_options.resident (filter_map (value_in Resident) settings)
  cache ← once_or default_options.cache (filter_map (value_in Cache) settings)
  blocks ← once_or default_options.swap_blocks (filter_map (value_in SwapBlocks) settings)
  Some (record { workers = workers; resident = resident; cache = cache; swap_blocks = blocks })

-- one script, and options in any order before and after it
abbrev pub run_request : List (List ℕ) → Option Request
run_request words = do
  settings ← settings_of (split_words words)
  script ← only_one (filter_map script_in settings)
  option_map (RunScript script) (options_in settings)

-- one number of 1 to 10 digits below 2^32
abbrev pub make_request : List (List ℕ) → Option Request
make_request [] = None
make_request (word ∷ []) = option_map MakeJob (natural_in 0 (2 ^ 32 - 1) word)
make_request (word ∷ other ∷ words) = None

-- What words ask for: `run` with a script and options, or `make` with a number. No other words are in the grammar.
abbrev pub request_of : List (List ℕ) → Option Request
request_of [] = None
request_of (command ∷ words) =
    if bytes_eq command (codes "run") then run_request words
    else if bytes_eq command (codes "make") then make_request words
    else None

-- ---- by kind

-- A run of a script: its name, and the options of the words.
pub record ScriptRun : Type 0 where
  pub script : List ℕ
  pub options : Options

abbrev pub script_run_of : Request → Option ScriptRun
script_run_of (RunScript script options) = Some (record { script = script; options = options })
script_run_of (MakeJob number) = None

abbrev pub job_of : Request → Option ℕ
job_of (RunScript script options) = None
job_of (MakeJob number) = Some number

-- the run of a script that words ask for, None where they ask for none
abbrev pub asked_script : List (List ℕ) → Option ScriptRun
asked_script words = request_of words >>= script_run_of

-- the number of the job that words ask for, None where they ask for none
abbrev pub asked_job : List (List ℕ) → Option ℕ
asked_job words = request_of words >>= job_of
