-- Words are read as the fields that they were printed from, and what is read is in its range.
use Rattle.std.proofs.Common.{◌≡◌, ℕ, ℤ, pos, neg_ℤ, ◌-◌, ◌^◌, ◌<◌, ◌≤◌, ◌≤ℤ◌, suc, nat_le, unsigned_abs, Bool, true, false, not, ◌&&◌, ◌||◌, if◌then◌else◌, IsTrue, List, [], ◌∷◌, Option, Some, None, is_some, Result, Ok, Err, length, refl, sym, ap, ◌∙◌, subst, arith}
use Rattle.std.specs.Prelude.{int_le}
use Rattle.std.specs.List.{list_all}
use Rattle.std.specs.Option.{ok_or, option_and_then, option_map}
use Rattle.std.proofs.lemmas.Bool.{le-leb, leb-true}
use Rattle.std.proofs.lemmas.Int.{ints}
use Rattle.outside_io.specs.FileName.{is_file_name}
use Rattle.plane_rect.specs.Name.{is_name}
use Rattle.pixel_formats.specs.Limits.{max_prefix_bytes, suits_areas}
use Rattle.pixel_formats.specs.Policies.{policy_named, policy_word}
use Rattle.pixel_formats.specs.declared.abyss.Abyss.{Abyss}
use Rattle.pixel_formats.specs.declared.abyss.Abyss.TheVariants as policies
use Rattle.script_words.specs.Numbers.{between, integer_between, integer_in, natural_in, natural_of}
use Rattle.script_words.proofs.NumberLaws.{natural_in-decimal, integer_in-signed_decimal}
use Rattle.script_words.proofs.Passing.{and_both, and_first, and_second}
use Rattle.script_fields.proofs.FormatLaws.{format_named-word}
use Rattle.script_fields.proofs.Values.{Value, Values, field_with, fields_with, is_small, word_with, words_with}
use Rattle.script_fields.specs.Fields.{◌>>=◌, area_policy_named, direction_named, fields_of_words, fits_as_number, for_areas, format_named, found, is_number, numbers_fit, prefix_named}
use Rattle.script_fields.specs.declared.cause.ScriptCause.{ScriptCause}
use Rattle.script_fields.specs.declared.cause.ScriptCause.TheVariants as causes
use Rattle.script_fields.specs.declared.field.Field.{Field}
use Rattle.script_fields.specs.declared.field.Field.TheVariants as fields
use Rattle.script_fields.specs.declared.kind.Kind.{Kind}
use Rattle.script_fields.specs.declared.kind.Kind.TheVariants as kinds

-- ---- what is printed is read

policy_named-word : (policy : Abyss) → policy_named (policy_word policy) ≡ Some policy
unfolding policy_named
policy_named-word policies.None = refl
policy_named-word policies.Clamp = refl
policy_named-word policies.Loop = refl
policy_named-word policies.Black = refl
policy_named-word policies.White = refl

pub small-natural : (low high value : ℕ) → IsTrue (is_small (kinds.Natural low high)) → value ≤ high → value < 10 ^ 10
small-natural low high value small maximum =
    let below : suc high ≤ 10 ^ 10 = leb-true (suc high) (10 ^ 10) small in
    omega arith

pub small-integer : (low high value : ℤ) → IsTrue (is_small (kinds.Integer low high)) → low ≤ℤ value → value ≤ℤ high → unsigned_abs value < 10 ^ 10
small-integer low high value small minimum maximum =
    let from_low : int_le (neg_ℤ (pos (10 ^ 10 - 1))) low ≡ true = and_first _ _ small in
    let to_high : int_le high (pos (10 ^ 10 - 1)) ≡ true = and_second (int_le (neg_ℤ (pos (10 ^ 10 - 1))) low) _ small in
    let above : neg_ℤ (pos (10 ^ 10 - 1)) ≤ℤ low = grind (arith, ints) in
    let below : high ≤ℤ pos (10 ^ 10 - 1) = grind (arith, ints) in
    omega (arith, ints)

pub found-word : (kind : Kind) (value : Value kind) → IsTrue (is_small kind) → found kind (word_with kind value) ≡ Some (field_with kind value)
found-word kinds.Name value small = ap (λ (test : Bool). if test then Some (fields.Name value.0) else None) value.1
found-word kinds.File value small = ap (λ (test : Bool). if test then Some (fields.File value.0) else None) value.1
found-word kinds.Prefix value small =
    ap (λ (test : Bool). option_map fields.File (if test then Some value.0 else None))
    (and_both (nat_le (length value.0) max_prefix_bytes) (is_file_name value.0) (le-leb (length value.0) max_prefix_bytes value.2) value.1)
found-word kinds.Format value small = ap (λ named. option_map fields.Format named) (format_named-word value)
found-word kinds.Policy value small = ap (λ named. option_map fields.Policy named) (policy_named-word value)
found-word kinds.AreaPolicy value small =
    ap (λ named. option_map fields.Policy (option_and_then for_areas named)) (policy_named-word value.0)
    ∙ ap (λ (test : Bool). option_map fields.Policy (if test then Some value.0 else None)) value.1
found-word kinds.Direction true small = refl
found-word kinds.Direction false small = refl
found-word kinds.Operation value small = refl
found-word (kinds.Natural low high) value small =
    ap (λ named. option_map fields.Natural named) (natural_in-decimal low high value.0 value.1 value.2 (small-natural low high value.0 small value.2))
found-word (kinds.Integer low high) value small =
    ap (λ named. option_map fields.Integer named) (integer_in-signed_decimal low high value.0 value.1 value.2 (small-integer low high value.0 small value.1 value.2))

pub fields_of_words-values : (all : List Kind) (values : Values all) → list_all is_small all ≡ true → fields_of_words all (words_with all values) ≡ Ok (fields_with all values)
fields_of_words-values [] values small = refl
fields_of_words-values (kind ∷ others) values small =
    rw (
      found-word kind values.0 (and_first _ _ small),
      fields_of_words-values others values.1 (and_second (is_small kind) _ small),
    ) refl

or-true : (test : Bool) → (test || true) ≡ true
or-true true = refl
or-true false = refl

pub numbers_fit-values : (all : List Kind) (values : Values all) → list_all is_small all ≡ true → numbers_fit all (words_with all values) ≡ true
numbers_fit-values [] values small = refl
numbers_fit-values (kind ∷ others) values small =
    and_both (fits_as_number kind (word_with kind values.0)) (numbers_fit others (words_with others values.1))
    (ap (λ (field : Option Field). not (is_number kind) || is_some field) (found-word kind values.0 (and_first _ _ small)) ∙ or-true (not (is_number kind)))
    (numbers_fit-values others values.1 (and_second (is_small kind) _ small))

-- ---- where fields are read, numbers fit

rest_read : (field : Field) (rest : Result (List Field) ScriptCause) (read : List Field) → (rest >>= λ more. Ok (field ∷ more)) ≡ Ok read → (more : List Field) × (rest ≡ Ok more)
rest_read field (Err cause) read is = absurd (cc)
rest_read field (Ok more) read is = (more, refl)

word_read : (named : Option Field) (rest : Result (List Field) ScriptCause) (read : List Field) → (ok_or named causes.Name >>= λ field. rest >>= λ more. Ok (field ∷ more)) ≡ Ok read
    → (is_some named ≡ true) × ((more : List Field) × (rest ≡ Ok more))
word_read None rest read is = absurd (cc)
word_read (Some field) rest read is = (refl, rest_read field rest read is)

pub numbers_fit_read : (all : List Kind) (words : List (List ℕ)) (read : List Field) → fields_of_words all words ≡ Ok read → numbers_fit all words ≡ true
numbers_fit_read all [] read is = refl
numbers_fit_read [] (word ∷ words) read is = refl
numbers_fit_read (kind ∷ others) (word ∷ words) read is =
    let named = word_read (found kind word) (fields_of_words others words) read is in
    and_both (fits_as_number kind word) (numbers_fit others words)
    (ap (λ (some : Bool). not (is_number kind) || some) named.0 ∙ or-true (not (is_number kind)))
    (numbers_fit_read others words named.1.0 named.1.1)

-- ---- what is read is in its range

-- a field is one of a kind
abbrev pub HasValue : Kind → Field → Type 0
HasValue kind field = (value : Value kind) × (field ≡ field_with kind value)

by_test : {A : Type 0} (test : Bool) (value result : A) → (if test then Some value else None) ≡ Some result → (test ≡ true) × (value ≡ result)
by_test true value result is = (refl, cc)
by_test false value result is = absurd (cc)

by_map : {A B : Type 0} (make : A → B) (named : Option A) (result : B) → option_map make named ≡ Some result → (value : A) × (named ≡ Some value) × (make value ≡ result)
by_map make None result is = absurd (cc)
by_map make (Some value) result is = (value, refl, cc)

area_range : (named : Option Abyss) (policy : Abyss) → option_and_then for_areas named ≡ Some policy → IsTrue (suits_areas policy)
area_range None policy is = absurd (cc)
area_range (Some one) policy is =
    let test = by_test (suits_areas one) one policy is in
    subst (λ (p : Abyss). IsTrue (suits_areas p)) test.1 test.0

natural_range : (low high : ℕ) (word : List ℕ) (value : ℕ) → natural_in low high word ≡ Some value → (low ≤ value) × (value ≤ high)
unfolding natural_in
natural_range low high word value is = by_number (natural_of word) is
  where
    by_number : (named : Option ℕ) → option_and_then (between low high) named ≡ Some value → (low ≤ value) × (value ≤ high)
    by_number None is = absurd (cc)
    by_number (Some n) is =
        let test = by_test (nat_le low n && nat_le n high) n value is in
        let from_low : low ≤ n = leb-true low n (and_first _ _ test.0) in
        let to_high : n ≤ high = leb-true n high (and_second (nat_le low n) _ test.0) in
        subst (λ (v : ℕ). (low ≤ v) × (v ≤ high)) test.1 (from_low, to_high)

integer_range : (low high : ℤ) (word : List ℕ) (value : ℤ) → integer_in low high word ≡ Some value → (low ≤ℤ value) × (value ≤ℤ high)
unfolding integer_in
integer_range low high word value is = by_number _ is
  where
    by_number : (named : Option ℤ) → option_and_then (integer_between low high) named ≡ Some value → (low ≤ℤ value) × (value ≤ℤ high)
    by_number None is = absurd (cc)
    by_number (Some z) is =
        let test = by_test (int_le low z && int_le z high) z value is in
        let from_low : int_le low z ≡ true = and_first _ _ test.0 in
        let to_high : int_le z high ≡ true = and_second (int_le low z) _ test.0 in
        let above : low ≤ℤ z = grind (arith, ints) in
        let below : z ≤ℤ high = grind (arith, ints) in
        subst (λ (v : ℤ). (low ≤ℤ v) × (v ≤ℤ high)) test.1 (above, below)

pub value-found : (kind : Kind) (word : List ℕ) (field : Field) → found kind word ≡ Some field → HasValue kind field
value-found kinds.Name word field is =
    let test = by_test (is_name word) (fields.Name word) field is in
    ((word, test.0), sym test.1)
value-found kinds.File word field is =
    let test = by_test (is_file_name word) (fields.File word) field is in
    ((word, test.0), sym test.1)
value-found kinds.Prefix word field is =
    let named = by_map fields.File (prefix_named word) field is in
    let test = by_test (nat_le (length word) max_prefix_bytes && is_file_name word) word named.0 named.1 in
    let file : is_file_name word ≡ true = and_second (nat_le (length word) max_prefix_bytes) _ test.0 in
    let short : length word ≤ max_prefix_bytes = leb-true (length word) max_prefix_bytes (and_first _ _ test.0) in
    ((word, file, short), sym (ap fields.File test.1 ∙ named.2))
value-found kinds.Format word field is =
    let named = by_map fields.Format (format_named word) field is in
    (named.0, sym named.2)
value-found kinds.Policy word field is =
    let named = by_map fields.Policy (policy_named word) field is in
    (named.0, sym named.2)
value-found kinds.AreaPolicy word field is =
    let named = by_map fields.Policy (area_policy_named word) field is in
    ((named.0, area_range (policy_named word) named.0 named.1), sym named.2)
value-found kinds.Direction word field is =
    let named = by_map fields.Sideways (direction_named word) field is in
    (named.0, sym named.2)
value-found kinds.Operation word field is =
    let same : fields.Operation ≡ field = cc in
    (word, sym same)
value-found (kinds.Natural low high) word field is =
    let named = by_map fields.Natural (natural_in low high word) field is in
    let range = natural_range low high word named.0 named.1 in
    ((named.0, range.0, range.1), sym named.2)
value-found (kinds.Integer low high) word field is =
    let named = by_map fields.Integer (integer_in low high word) field is in
    let range = integer_range low high word named.0 named.1 in
    ((named.0, range.0, range.1), sym named.2)

-- all fields are those of kinds
abbrev pub HaveValues : List Kind → List Field → Type 0
HaveValues all read = (values : Values all) × (read ≡ fields_with all values)

values-cons : (kind : Kind) (others : List Kind) (field : Field) (rest : Result (List Field) ScriptCause) (read : List Field) → HasValue kind field
    → ((more : List Field) → rest ≡ Ok more → HaveValues others more) → (rest >>= λ more. Ok (field ∷ more)) ≡ Ok read → HaveValues (kind ∷ others) read
values-cons kind others field (Err cause) read has have is = absurd (cc)
values-cons kind others field (Ok more) read has have is =
    let rest = have more refl in
    let same : (field ∷ more) ≡ read = cc in
    ((has.0, rest.0), sym same ∙ ap (λ (f : Field). f ∷ more) has.1 ∙ ap (λ (fs : List Field). field_with kind has.0 ∷ fs) rest.1)

values-word : (kind : Kind) (others : List Kind) (named : Option Field) (rest : Result (List Field) ScriptCause) (read : List Field) → ((field : Field) → named ≡ Some field → HasValue kind field)
    → ((more : List Field) → rest ≡ Ok more → HaveValues others more) → (ok_or named causes.Name >>= λ field. rest >>= λ more. Ok (field ∷ more)) ≡ Ok read
    → HaveValues (kind ∷ others) read
values-word kind others None rest read has have is = absurd (cc)
values-word kind others (Some field) rest read has have is = values-cons kind others field rest read (has field refl) have is

-- as many words as kinds that are read are fields of the kinds
pub words-values : (all : List Kind) (words : List (List ℕ)) (read : List Field) → length all ≡ length words → fields_of_words all words ≡ Ok read → HaveValues all read
words-values [] [] read count is =
    let none : [] ≡ read = cc in
    (tt, sym none)
words-values [] (word ∷ words) read count is = absurd (omega arith)
words-values (kind ∷ others) [] read count is = absurd (omega arith)
words-values (kind ∷ others) (word ∷ words) read count is =
    values-word kind others (found kind word) (fields_of_words others words) read (λ field. value-found kind word field)
    (λ more. words-values others words more (omega arith)) is
