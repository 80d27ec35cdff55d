-- The words of a command are those of its form's kinds: they are read as the command, and few and short enough for a
-- line.
use Rattle.std.proofs.Common.{◌≡◌, ℕ, pos, ◌+◌, ◌*◌, ◌^◌, ◌≤◌, ◌≤ℤ◌, neg_ℤ, ◌-◌, ℤ, IsTrue, true, false, List, [], ◌∷◌, Some, Result, Ok, ◌==◌, drop, length, refl, sym, ap, ◌∙◌, subst, arith}
use Rattle.std.specs.List.{list_all}
use Rattle.std.proofs.lemmas.Bool.{le-leb}
use Rattle.std.proofs.lemmas.Bool.Decides.{nat_tests}
use Rattle.std.proofs.lemmas.Int.{ints}
use Rattle.std.proofs.lemmas.List.Elements.{All-head, All-tail}
use Rattle.plane_rect.specs.Name.{is_name}
use Rattle.plane_rect.specs.Rectangle.{IsRectangle, Rectangle, plane_coordinate}
use Rattle.pixel_formats.specs.Limits.{ArePixel, IsMove, IsSample, max_checker_size, max_frames, max_viewers}
use Rattle.script_words.specs.Words.{is_word, joined}
use Rattle.script_words.proofs.WordLaws.{length-joined}
use Rattle.script_fields.proofs.Fitting.{AreShort, Fits, fits_append, fits_weaker, size, size-cons, words_fit}
use Rattle.script_fields.proofs.RectanglesBack.{level_rect_of-numbers, rect_of-numbers, watched_rect_of-numbers}
use Rattle.script_fields.proofs.Values.{Value, Values, fields_with, words_with}
use Rattle.script_fields.proofs.ValuesBack.{fields_of_words-values, numbers_fit-values}
use Rattle.script_fields.specs.Fields.{◌>>=◌, fields_of_words, numbers_fit}
use Rattle.script_fields.specs.Spelling.{AreNames, AreValid}
use Rattle.script_fields.specs.declared.cause.ScriptCause.{ScriptCause}
use Rattle.script_fields.specs.declared.field.Field.{Field}
use Rattle.script_fields.specs.declared.kind.Kind.{Kind}
use Rattle.script_fields.specs.declared.kind.Kind.TheVariants as kinds
use Rattle.script_read.specs.Commands.{command_of}
use Rattle.script_read.specs.Forms.{form_of, kinds_for, kinds_of, move, rectangle_then, sample}
use Rattle.script_read.specs.Keywords.{keyword_of, keyword_word}
use Rattle.script_read.specs.Limits.{HasArguments, HasPixel, IsInLimits, input_count}
use Rattle.script_read.specs.OperationWords.{operation_of, operation_word}
use Rattle.script_read.specs.Script.{command_by, command_of_words}
use Rattle.script_read.specs.Spelling.{HasValidFields, arguments, command_words, keyword, word_of}
use Rattle.script_read.specs.declared.command.Command.{Command}
use Rattle.script_read.specs.declared.command.Command.TheVariants.{Buffer, Sub, Dup, Load, Fill, Copy, Node, Drop, Commit, Undo, Redo, Render, Grab, Watch, EndWatch}
use Rattle.script_read.specs.declared.command.OpWords.{OpWords}
use Rattle.script_read.specs.declared.command.OpWords.TheVariants.{Source, Compute}
use Rattle.model_operations.specs.declared.operation.IntOp.TheVariants.{Color, Checker, Convert, Invert, Threshold, Gain, Translate, Crop, Flip, BoxMean, Dilate, Erode, Add, Over, Mask}
use Rattle.script_read.specs.declared.forms.Form.{Form}
use Rattle.script_read.specs.declared.forms.Form.TheVariants as forms
use Rattle.script_read.specs.declared.keyword.Keyword.{Keyword}
use Rattle.script_read.specs.declared.keyword.Keyword.TheVariants as keywords
use Rattle.script_read.specs.declared.operation_word.OperationWord.{OperationWord}
use Rattle.script_read.specs.declared.operation_word.OperationWord.TheVariants as operations
use Rattle.script_read.proofs.FormLaws.{kinds_few, kinds_small}

-- the form of a command's line
abbrev pub form_for : Command → Form
form_for (Node name op inputs) = forms.Node (word_of op)
form_for command = forms.Command (keyword command)

-- the words of a command are those of values of its form's kinds, of which the command is made
pub record IsSpelled (command : Command) : Type 0 where
  pub count : ℕ
  pub values : Values (kinds_of (form_for command) count)
  pub counted : length (kinds_of (form_for command) count) ≡ count
  pub short : AreShort (kinds_of (form_for command) count) values
  pub words : words_with (kinds_of (form_for command) count) values ≡ drop 1 (command_words command)
  pub made : command_of (form_for command) (fields_with (kinds_of (form_for command) count) values) ≡ Ok command

-- ---- values

column : (n : ℕ) → n ≤ 2 ^ 25 → (neg_ℤ (pos (2 ^ 31)) ≤ℤ plane_coordinate n) × (plane_coordinate n ≤ℤ pos (2 ^ 31 - 1))
column n maximum = (omega (arith, ints), omega (arith, ints))

side : (n : ℕ) → n ≤ 2 ^ 25 → (neg_ℤ (pos (2 ^ 31)) ≤ℤ pos n) × (pos n ≤ℤ pos (2 ^ 31 - 1))
side n maximum = (omega (arith, ints), omega (arith, ints))

bounds : (rect : Rectangle) → IsRectangle rect → (rect.first_column ≤ 2 ^ 25) × (rect.first_row ≤ 2 ^ 25) × (rect.width ≤ 2 ^ 25) × (rect.height ≤ 2 ^ 25)
bounds rect is =
    let columns : rect.first_column + rect.width ≤ 2 ^ 25 = is.columns in
    let rows : rect.first_row + rect.height ≤ 2 ^ 25 = is.rows in
    (omega arith, omega arith, omega arith, omega arith)

-- the four numbers of a rectangle, before others
abbrev with_rect : (rect : Rectangle) → IsRectangle rect → (others : List Kind) → Values others → Values (rectangle_then others)
with_rect rect is others values = (
  (plane_coordinate rect.first_column, (column rect.first_column (bounds rect is).0).0, (column rect.first_column (bounds rect is).0).1),
  (
    (plane_coordinate rect.first_row, (column rect.first_row (bounds rect is).1).0, (column rect.first_row (bounds rect is).1).1),
    (
      (pos rect.width, (side rect.width (bounds rect is).2).0, (side rect.width (bounds rect is).2).1),
      ((pos rect.height, (side rect.height (bounds rect is).3).0, (side rect.height (bounds rect is).3).1), values),
    ),
  ),
)

abbrev move_value : (value : ℤ) → IsMove value → Value move
move_value value is = (value, is.0, is.1)

abbrev sample_value : (value : ℕ) → IsSample value → Value sample
sample_value value is = (value, omega arith, is)

operation_fits : (operation : OperationWord) → Fits (operation_word operation ∷ []) 65
operation_fits operations.Source = (refl, omega arith)
operation_fits _ = (refl, omega arith)

-- one to four samples
by_pixel : (P : List ℕ → Type 0) → ((a : ℕ) → IsSample a → P (a ∷ [])) → ((a b : ℕ) → IsSample a → IsSample b → P (a ∷ b ∷ []))
    → ((a b c : ℕ) → IsSample a → IsSample b → IsSample c → P (a ∷ b ∷ c ∷ [])) → ((a b c d : ℕ) → IsSample a → IsSample b → IsSample c → IsSample d → P (a ∷ b ∷ c ∷ d ∷ []))
    → (samples : List ℕ) → ArePixel samples → P samples
by_pixel P one two three four [] are =
    let some : 1 ≤ 0 = are.number.0 in
    absurd (omega arith)
by_pixel P one two three four (a ∷ []) are = one a (All-head IsSample a [] are.each)
by_pixel P one two three four (a ∷ b ∷ []) are =
    let rest = All-tail IsSample a (b ∷ []) are.each in
    two a b (All-head IsSample a (b ∷ []) are.each) (All-head IsSample b [] rest)
by_pixel P one two three four (a ∷ b ∷ c ∷ []) are =
    let rest = All-tail IsSample a (b ∷ c ∷ []) are.each in
    let more = All-tail IsSample b (c ∷ []) rest in
    three a b c (All-head IsSample a (b ∷ c ∷ []) are.each) (All-head IsSample b (c ∷ []) rest) (All-head IsSample c [] more)
by_pixel P one two three four (a ∷ b ∷ c ∷ d ∷ []) are =
    let rest = All-tail IsSample a (b ∷ c ∷ d ∷ []) are.each in
    let more = All-tail IsSample b (c ∷ d ∷ []) rest in
    let last = All-tail IsSample c (d ∷ []) more in
    four a b c d (All-head IsSample a (b ∷ c ∷ d ∷ []) are.each) (All-head IsSample b (c ∷ d ∷ []) rest) (All-head IsSample c (d ∷ []) more) (All-head IsSample d [] last)
by_pixel P one two three four (a ∷ b ∷ c ∷ d ∷ e ∷ samples) are =
    let few : length (a ∷ b ∷ c ∷ d ∷ e ∷ samples) ≤ 4 = are.number.1 in
    absurd (omega arith)

-- ---- inputs by their number

with_none : (inputs : List (List ℕ)) (P : List (List ℕ) → Type 0) → length inputs ≡ 0 → P [] → P inputs
with_none [] P none here = here
with_none (input ∷ inputs) P none here = absurd (omega arith)

with_one : (inputs : List (List ℕ)) (P : List (List ℕ) → Type 0) → length inputs ≡ 1 → AreNames inputs →
    ((input : List ℕ) → IsTrue (is_name input) → P (input ∷ [])) → P inputs
with_one [] P one are here = absurd (omega arith)
with_one (input ∷ []) P one are here = here input are.0
with_one (input ∷ second ∷ inputs) P one are here = absurd (omega arith)

with_two : (inputs : List (List ℕ)) (P : List (List ℕ) → Type 0) → length inputs ≡ 2 → AreNames inputs →
    ((first second : List ℕ) → IsTrue (is_name first) → IsTrue (is_name second) → P (first ∷ second ∷ [])) → P inputs
with_two [] P two are here = absurd (omega arith)
with_two (first ∷ []) P two are here = absurd (omega arith)
with_two (first ∷ second ∷ []) P two are here = here first second are.0 are.1.0
with_two (first ∷ second ∷ third ∷ inputs) P two are here = absurd (omega arith)

-- ---- nodes

module _ (name : List ℕ) (named : IsTrue (is_name name)) where
  abbrev Spelled : OpWords → List (List ℕ) → Type 0
  Spelled op inputs = IsSpelled (Node name op inputs)

  node_spelled : (op : OpWords) (inputs : List (List ℕ)) → HasArguments op → HasPixel op → length inputs ≡ input_count op → AreValid (arguments op) → AreNames inputs → Spelled op inputs
  node_spelled (Source buffer) inputs range pixel number are names = with_none inputs (Spelled (Source buffer)) number
      (record { count = 3; values = ((name, named), (operation_word operations.Source, ((buffer, are.0), tt))); counted = refl; short = assumption (operation_fits operations.Source); words = refl; made = refl })
  node_spelled (Compute (Color format rect samples)) inputs range pixel number are names = with_none inputs (Spelled (Compute (Color format rect samples))) number
      (by_pixel (λ (all : List ℕ). Spelled (Compute (Color format rect all)) [])
      (λ a is_a. record { count = 8; values = ((name, named), (operation_word operations.Color, (format, with_rect rect are.1.0 (sample ∷ []) (sample_value a is_a, tt)))); counted = refl; short = assumption (operation_fits operations.Color); words = refl; made = rw (rect_of-numbers rect are.1.0 range.1.0) refl })
      (λ a b is_a is_b. record { count = 9; values = ((name, named), (operation_word operations.Color, (format, with_rect rect are.1.0 (sample ∷ sample ∷ []) (sample_value a is_a, (sample_value b is_b, tt))))); counted = refl; short = assumption (operation_fits operations.Color); words = refl; made = rw (rect_of-numbers rect are.1.0 range.1.0) refl })
      (λ a b c is_a is_b is_c. record { count = 10; values = ((name, named), (operation_word operations.Color, (format, with_rect rect are.1.0 (sample ∷ sample ∷ sample ∷ []) (sample_value a is_a, (sample_value b is_b, (sample_value c is_c, tt)))))); counted = refl; short = assumption (operation_fits operations.Color); words = refl; made = rw (rect_of-numbers rect are.1.0 range.1.0) refl })
      (λ a b c d is_a is_b is_c is_d. record { count = 11; values = ((name, named), (operation_word operations.Color, (format, with_rect rect are.1.0 (sample ∷ sample ∷ sample ∷ sample ∷ []) (sample_value a is_a, (sample_value b is_b, (sample_value c is_c, (sample_value d is_d, tt))))))); counted = refl; short = assumption (operation_fits operations.Color); words = refl; made = rw (rect_of-numbers rect are.1.0 range.1.0) refl })
      samples pixel)
  node_spelled (Compute (Checker format rect size v1 v2)) inputs range pixel number are names = with_none inputs (Spelled (Compute (Checker format rect size v1 v2))) number
      (record { count = 10; values = ((name, named), (operation_word operations.Checker, (format, with_rect rect are.1.0 (kinds.Natural 1 max_checker_size ∷ sample ∷ sample ∷ []) ((size, range.1.1.0.0, range.1.1.0.1), (sample_value v1 range.1.1.1.0.1, (sample_value v2 range.1.1.1.1.0.1, tt)))))); counted = refl; short = assumption (operation_fits operations.Checker); words = refl; made = rw (rect_of-numbers rect are.1.0 range.1.0) refl })
  node_spelled (Compute (Convert format)) inputs range pixel number are names = with_one inputs (Spelled (Compute (Convert format))) number names
      (λ input is_input. record { count = 4; values = ((name, named), (operation_word operations.Convert, (format, ((input, is_input), tt)))); counted = refl; short = assumption (operation_fits operations.Convert); words = refl; made = refl })
  node_spelled (Compute Invert) inputs range pixel number are names = with_one inputs (Spelled (Compute Invert)) number names
      (λ input is_input. record { count = 3; values = ((name, named), (operation_word operations.Invert, ((input, is_input), tt))); counted = refl; short = assumption (operation_fits operations.Invert); words = refl; made = refl })
  node_spelled (Compute (Threshold at)) inputs range pixel number are names = with_one inputs (Spelled (Compute (Threshold at))) number names
      (λ input is_input. record { count = 4; values = ((name, named), (operation_word operations.Threshold, (sample_value at range.0.1, ((input, is_input), tt)))); counted = refl; short = assumption (operation_fits operations.Threshold); words = refl; made = refl })
  node_spelled (Compute (Gain num den)) inputs range pixel number are names = with_one inputs (Spelled (Compute (Gain num den))) number names
      (λ input is_input. record { count = 5; values = ((name, named), (operation_word operations.Gain, ((num, range.0.0, range.0.1), ((den, range.1.0.0, range.1.0.1), ((input, is_input), tt))))); counted = refl; short = assumption (operation_fits operations.Gain); words = refl; made = refl })
  node_spelled (Compute (Translate dx dy)) inputs range pixel number are names = with_one inputs (Spelled (Compute (Translate dx dy))) number names
      (λ input is_input. record { count = 5; values = ((name, named), (operation_word operations.Translate, (move_value dx range.0, (move_value dy range.1.0, ((input, is_input), tt))))); counted = refl; short = assumption (operation_fits operations.Translate); words = refl; made = refl })
  node_spelled (Compute (Crop rect)) inputs range pixel number are names = with_one inputs (Spelled (Compute (Crop rect))) number names
      (λ input is_input. record { count = 7; values = ((name, named), (operation_word operations.Crop, with_rect rect are.0 (kinds.Name ∷ []) ((input, is_input), tt))); counted = refl; short = assumption (operation_fits operations.Crop); words = refl; made = rw (rect_of-numbers rect are.0 range.0) refl })
  node_spelled (Compute (Flip true)) inputs range pixel number are names = with_one inputs (Spelled (Compute (Flip true))) number names
      (λ input is_input. record { count = 4; values = ((name, named), (operation_word operations.Flip, (true, ((input, is_input), tt)))); counted = refl; short = assumption (operation_fits operations.Flip); words = refl; made = refl })
  node_spelled (Compute (Flip false)) inputs range pixel number are names = with_one inputs (Spelled (Compute (Flip false))) number names
      (λ input is_input. record { count = 4; values = ((name, named), (operation_word operations.Flip, (false, ((input, is_input), tt)))); counted = refl; short = assumption (operation_fits operations.Flip); words = refl; made = refl })
  node_spelled (Compute (BoxMean radius policy)) inputs range pixel number are names = with_one inputs (Spelled (Compute (BoxMean radius policy))) number names
      (λ input is_input. record { count = 5; values = ((name, named), (operation_word operations.BoxMean, ((radius, range.0.0, range.0.1), ((policy, range.1.0), ((input, is_input), tt))))); counted = refl; short = assumption (operation_fits operations.BoxMean); words = refl; made = refl })
  node_spelled (Compute (Dilate radius policy)) inputs range pixel number are names = with_one inputs (Spelled (Compute (Dilate radius policy))) number names
      (λ input is_input. record { count = 5; values = ((name, named), (operation_word operations.Dilate, ((radius, range.0.0, range.0.1), ((policy, range.1.0), ((input, is_input), tt))))); counted = refl; short = assumption (operation_fits operations.Dilate); words = refl; made = refl })
  node_spelled (Compute (Erode radius policy)) inputs range pixel number are names = with_one inputs (Spelled (Compute (Erode radius policy))) number names
      (λ input is_input. record { count = 5; values = ((name, named), (operation_word operations.Erode, ((radius, range.0.0, range.0.1), ((policy, range.1.0), ((input, is_input), tt))))); counted = refl; short = assumption (operation_fits operations.Erode); words = refl; made = refl })
  node_spelled (Compute Add) inputs range pixel number are names = with_two inputs (Spelled (Compute Add)) number names
      (λ first second is_first is_second. record { count = 4; values = ((name, named), (operation_word operations.Add, ((first, is_first), ((second, is_second), tt)))); counted = refl; short = assumption (operation_fits operations.Add); words = refl; made = refl })
  node_spelled (Compute Over) inputs range pixel number are names = with_two inputs (Spelled (Compute Over)) number names
      (λ first second is_first is_second. record { count = 4; values = ((name, named), (operation_word operations.Over, ((first, is_first), ((second, is_second), tt)))); counted = refl; short = assumption (operation_fits operations.Over); words = refl; made = refl })
  node_spelled (Compute Mask) inputs range pixel number are names = with_two inputs (Spelled (Compute Mask)) number names
      (λ first second is_first is_second. record { count = 4; values = ((name, named), (operation_word operations.Mask, ((first, is_first), ((second, is_second), tt)))); counted = refl; short = assumption (operation_fits operations.Mask); words = refl; made = refl })

-- ---- commands

pub spelled : (command : Command) → IsInLimits command → HasValidFields command → IsSpelled command
spelled (Buffer name format rect) limits types =
    record { count = 6; values = ((name, types.0), (format, with_rect rect types.1.1.0 ([]) tt)); counted = refl; short = assumption; words = refl; made = rw (rect_of-numbers rect types.1.1.0 limits.fields.1.1.0) refl }
spelled (Sub name parent rect) limits types =
    record { count = 6; values = ((name, types.0), ((parent, types.1.0), with_rect rect types.1.1.0 ([]) tt)); counted = refl; short = assumption; words = refl; made = rw (rect_of-numbers rect types.1.1.0 limits.fields.1.1.0) refl }
spelled (Dup name from) limits types =
    record { count = 2; values = ((name, types.0), ((from, types.1.0), tt)); counted = refl; short = assumption; words = refl; made = refl }
spelled (Load name rect file) limits types =
    record { count = 6; values = ((name, types.0), with_rect rect types.1.0 (kinds.File ∷ []) ((file, types.1.1.0), tt)); counted = refl; short = assumption; words = refl; made = rw (rect_of-numbers rect types.1.0 limits.fields.1.0) refl }
spelled (Fill name rect samples) limits types =
    by_pixel (λ (all : List ℕ). IsSpelled (Fill name rect all))
    (λ a is_a. record { count = 6; values = ((name, types.0), with_rect rect types.1.0 (sample ∷ []) (sample_value a is_a, tt)); counted = refl; short = assumption; words = refl; made = rw (rect_of-numbers rect types.1.0 limits.fields.1.0) refl })
    (λ a b is_a is_b. record { count = 7; values = ((name, types.0), with_rect rect types.1.0 (sample ∷ sample ∷ []) (sample_value a is_a, (sample_value b is_b, tt))); counted = refl; short = assumption; words = refl; made = rw (rect_of-numbers rect types.1.0 limits.fields.1.0) refl })
    (λ a b c is_a is_b is_c. record { count = 8; values = ((name, types.0), with_rect rect types.1.0 (sample ∷ sample ∷ sample ∷ []) (sample_value a is_a, (sample_value b is_b, (sample_value c is_c, tt)))); counted = refl; short = assumption; words = refl; made = rw (rect_of-numbers rect types.1.0 limits.fields.1.0) refl })
    (λ a b c d is_a is_b is_c is_d. record { count = 9; values = ((name, types.0), with_rect rect types.1.0 (sample ∷ sample ∷ sample ∷ sample ∷ []) (sample_value a is_a, (sample_value b is_b, (sample_value c is_c, (sample_value d is_d, tt))))); counted = refl; short = assumption; words = refl; made = rw (rect_of-numbers rect types.1.0 limits.fields.1.0) refl })
    samples limits.lists
spelled (Copy from to rect dx dy) limits types =
    record { count = 8; values = ((from, types.0), ((to, types.1.0), with_rect rect types.1.1.0 (move ∷ move ∷ []) (move_value dx limits.fields.1.1.1.0, (move_value dy limits.fields.1.1.1.1.0, tt)))); counted = refl; short = assumption; words = refl; made = rw (rect_of-numbers rect types.1.1.0 limits.fields.1.1.0) refl }
spelled (Node name op inputs) limits types = node_spelled name types.0 op inputs limits.lists.0 limits.lists.1 limits.lists.2 types.1 types.2
spelled (Drop name) limits types =
    record { count = 1; values = ((name, types.0), tt); counted = refl; short = assumption; words = refl; made = refl }
spelled Commit limits types = record { count = 0; values = tt; counted = refl; short = tt; words = refl; made = refl }
spelled Undo limits types = record { count = 0; values = tt; counted = refl; short = tt; words = refl; made = refl }
spelled Redo limits types = record { count = 0; values = tt; counted = refl; short = tt; words = refl; made = refl }
spelled (Render name level rect file) limits types =
    record { count = 7; values = ((name, types.0), ((level, limits.fields.1.0.0, limits.fields.1.0.1), with_rect rect types.1.1.0 (kinds.File ∷ []) ((file, types.1.1.1.0), tt))); counted = refl; short = assumption; words = refl; made = rw (level_rect_of-numbers level rect types.1.1.0 (record { range = limits.fields.1.0.1; limits = limits.fields.1.1.0; scaled = limits.rectangle })) refl }
spelled (Grab name level policy rect file) limits types =
    record { count = 8; values = ((name, types.0), ((level, limits.fields.1.0.0, limits.fields.1.0.1), (policy, with_rect rect types.1.1.1.0 (kinds.File ∷ []) ((file, types.1.1.1.1.0), tt)))); counted = refl; short = assumption; words = refl; made = rw (level_rect_of-numbers level rect types.1.1.1.0 (record { range = limits.fields.1.0.1; limits = limits.fields.1.1.1.0; scaled = limits.rectangle })) refl }
spelled (Watch name rect viewers frames prefix) limits types =
    record { count = 8; values = ((name, types.0), with_rect rect types.1.0 (kinds.Natural 1 max_viewers ∷ kinds.Natural 1 max_frames ∷ kinds.Prefix ∷ []) ((viewers, limits.fields.1.1.0.0, limits.fields.1.1.0.1), ((frames, limits.fields.1.1.1.0.0, limits.fields.1.1.1.0.1), ((prefix, types.1.1.1.1.0, limits.fields.1.1.1.1.0), tt)))); counted = refl; short = assumption; words = refl; made = rw (watched_rect_of-numbers viewers frames rect types.1.0 limits.fields.1.0 limits.fields.1.1.0.1 limits.fields.1.1.1.0.1 limits.rectangle) refl }
spelled EndWatch limits types = record { count = 0; values = tt; counted = refl; short = tt; words = refl; made = refl }

-- ---- what is printed is read

keyword_of-word : (keyword : Keyword) → keyword_of (keyword_word keyword) ≡ Some keyword
unfolding keyword_of
keyword_of-word keywords.Buffer = refl
keyword_of-word _ = refl

operation_of-word : (operation : OperationWord) → operation_of (operation_word operation) ≡ Some operation
unfolding operation_of
operation_of-word operations.Source = refl
operation_of-word _ = refl

form_of-words : (command : Command) → form_of (command_words command) ≡ Ok (form_for command)
form_of-words (Node name op inputs) =
    rw (keyword_of-word keywords.Node, le-leb 3 (length (command_words (Node name op inputs))) (omega arith), operation_of-word (word_of op)) refl
form_of-words command = rw (keyword_of-word (keyword command)) refl

length-words_with : (all : List Kind) (values : Values all) → length (words_with all values) ≡ length all
length-words_with [] values = refl
length-words_with (kind ∷ others) values =
    let rest : length (words_with others values.1) ≡ length others = length-words_with others values.1 in
    omega arith

same_number : (n m : ℕ) → n ≡ m → (n == m) ≡ true
same_number n m same = grind (arith, nat_tests)

by_kinds : (form : Form) (words : List (List ℕ)) (all : List Kind) (read : List Field) → kinds_for form words ≡ all → (length all == length words) ≡ true → numbers_fit all words ≡ true
    → fields_of_words all words ≡ Ok read → command_by form words ≡ command_of form read
unfolding command_by
by_kinds form words all read same counted fit are = rw (same, counted, fit, are) refl

command_by-values : (form : Form) (count : ℕ) (values : Values (kinds_of form count)) → length (kinds_of form count) ≡ count
    → command_by form (words_with (kinds_of form count) values) ≡ command_of form (fields_with (kinds_of form count) values)
command_by-values form count values counted =
    let all = kinds_of form count in
    let words = words_with all values in
    let long : length words ≡ length all = length-words_with all values in
    by_kinds form words all (fields_with all values) (ap (λ (n : ℕ). kinds_of form n) (long ∙ counted)) (same_number (length all) (length words) (sym long))
    (numbers_fit-values all values (kinds_small form count)) (fields_of_words-values all values (kinds_small form count))

command_of_words-spelled : (command : Command) → IsSpelled command → command_of_words (command_words command) ≡ Ok command
unfolding command_of_words
command_of_words-spelled command is =
    ap (λ (form : Result Form ScriptCause). form >>= λ f. command_by f (drop 1 (command_words command))) (form_of-words command)
    ∙ ap (λ (words : List (List ℕ)). command_by (form_for command) words) (sym is.words)
    ∙ command_by-values (form_for command) is.count is.values is.counted
    ∙ is.made

pub command_of_words-words : (command : Command) → IsInLimits command → HasValidFields command → command_of_words (command_words command) ≡ Ok command
command_of_words-words command limits types = command_of_words-spelled command (spelled command limits types)

-- ---- the line of a command

keyword_fits : (first : Keyword) → Fits (keyword_word first ∷ []) 10
keyword_fits keywords.Buffer = (refl, omega arith)
keyword_fits _ = (refl, omega arith)

command_words_fit : (command : Command) → IsSpelled command → Fits (command_words command) 725
command_words_fit command is =
    let all = kinds_of (form_for command) is.count in
    let few : length all ≤ 11 = kinds_few (form_for command) is.count in
    let others : Fits (words_with all is.values) 715 = fits_weaker (words_with all is.values) (65 * length all) 715 (omega arith) (words_fit all is.values (kinds_small (form_for command) is.count) is.short) in
    let whole : Fits (keyword_word (keyword command) ∷ words_with all is.values) 725 = fits_append (keyword_word (keyword command) ∷ []) (words_with all is.values) 10 715 (keyword_fits (keyword command)) others in
    subst (λ (words : List (List ℕ)). Fits (keyword_word (keyword command) ∷ words) 725) is.words whole

-- the words of a command are words of a text
pub are_words-of_command : (command : Command) → IsInLimits command → HasValidFields command → list_all is_word (command_words command) ≡ true
are_words-of_command command limits types = (command_words_fit command (spelled command limits types)).0

-- its line isn't too long
pub short-command : (command : Command) → IsInLimits command → HasValidFields command → length (joined (command_words command)) ≤ 1024
short-command command limits types =
    let first = keyword_word (keyword command) in
    let others = drop 1 (command_words command) in
    let short : (length first + 1) + size others ≤ 725 = rw size-cons at (command_words_fit command (spelled command limits types)).1 in
    let whole : length (joined (first ∷ others)) ≡ length first + size others = length-joined first others in
    omega arith
