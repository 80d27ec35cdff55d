-- Of fields that are in their ranges each form makes a command in limits, or its rectangle is refused.
use Rattle.std.proofs.Common.{◌≡◌, ℕ, zero, suc, ◌+◌, ◌-◌, ◌≤◌, min, max, IsTrue, true, Bool, List, [], ◌∷◌, Result, Ok, Err, length, take, refl, sym, subst, arith}
use Rattle.std.specs.List.{AllByRecursion, list_all}
use Rattle.std.proofs.lemmas.Bool.Decides.{nat_tests}
use Rattle.std.proofs.lemmas.List.Elements.{All-from_recursion}
use Rattle.plane_rect.specs.Rectangle.{Rectangle, in_limits}
use Rattle.pixel_formats.specs.Limits.{ArePixel, IsSample}
use Rattle.script_words.proofs.Passing.{and_both, and_first, and_second}
use Rattle.script_fields.proofs.RectanglesBack.{HasRectCause, level_rect_of-cause, level_rect_of-in_limits, rect_of-cause, rect_of-in_limits, watched_rect_of-cause, watched_rect_of-in_limits}
use Rattle.script_fields.proofs.Values.{Values, fields_with, is_small}
use Rattle.script_fields.proofs.ValuesBack.{words-values}
use Rattle.script_fields.specs.Fields.{◌>>=◌, fields_of_words, level_rect_of, rect_of, watched_rect_of}
use Rattle.script_fields.specs.declared.cause.ScriptCause.{ScriptCause}
use Rattle.script_fields.specs.declared.cause.ScriptCause.TheVariants as causes
use Rattle.script_fields.specs.declared.field.Field.{Field}
use Rattle.script_fields.specs.declared.kind.Kind.{Kind}
use Rattle.script_fields.specs.declared.kind.Kind.TheVariants as kinds
use Rattle.script_fields.specs.declared.rectangles.RectNumbers.{RectNumbers}
use Rattle.script_read.specs.Commands.{command_of, command_with, inputs_in, node_with}
use Rattle.script_read.specs.Forms.{is_counted, kinds_for, kinds_of, rectangle_then, samples}
use Rattle.script_read.specs.Limits.{HasArguments, HasPixel, IsInLimits}
use Rattle.script_read.specs.Spelling.{keyword}
use Rattle.script_read.specs.declared.command.Command.{Command}
use Rattle.script_read.specs.declared.command.Command.TheVariants as commands
use Rattle.model_operations.specs.Inputs.{input_count as inputs_of}
use Rattle.model_operations.specs.declared.operation.IntOp.{IntOp}
use Rattle.model_operations.specs.declared.operation.IntOp.TheVariants as ops
use Rattle.script_read.specs.declared.command.OpWords.TheVariants.{Compute}
use Rattle.script_read.specs.declared.forms.Form.{Form}
use Rattle.script_read.specs.declared.forms.Form.TheVariants as forms
use Rattle.script_read.specs.declared.keyword.Keyword.{Keyword}
use Rattle.script_read.specs.declared.keyword.Keyword.TheVariants as keywords
use Rattle.script_read.specs.declared.operation_word.OperationWord.{OperationWord}
use Rattle.script_read.specs.declared.operation_word.OperationWord.TheVariants as operations

-- the first word of a form
abbrev pub first_of : Form → Keyword
first_of (forms.Command word) = word
first_of (forms.Node operation) = keywords.Node

-- what is made of the fields of a form
abbrev pub Made : Form → Result Command ScriptCause → Type 0
Made form (Ok command) = IsInLimits command × (keyword command ≡ first_of form)
Made form (Err cause) = cause ≡ causes.Rect

-- ---- the kinds of forms

abbrev fill_kinds : List Kind
fill_kinds = kinds.Name ∷ rectangle_then samples

abbrev color_kinds : List Kind
color_kinds = kinds.Name ∷ kinds.Operation ∷ kinds.Format ∷ rectangle_then samples

list_all-take : {A : Type 0} (test : A → Bool) (n : ℕ) (items : List A) → list_all test items ≡ true → list_all test (take n items) ≡ true
list_all-take test zero items pass = refl
list_all-take test (suc n) [] pass = refl
list_all-take test (suc n) (item ∷ items) pass = and_both (test item) (list_all test (take n items)) (and_first _ _ pass) (list_all-take test n items (and_second (test item) _ pass))

take-few : {A : Type 0} (n : ℕ) (items : List A) (most : ℕ) → n ≤ most → length (take n items) ≤ most
take-few zero items most few = omega arith
take-few (suc n) [] most few = omega arith
take-few (suc n) (item ∷ items) zero few = absurd (omega arith)
take-few (suc n) (item ∷ items) (suc most) few =
    let rest : length (take n items) ≤ most = take-few n items most (omega arith) in
    omega arith

-- numbers of words have at most ten digits
pub kinds_small : (form : Form) (count : ℕ) → list_all is_small (kinds_of form count) ≡ true
kinds_small (forms.Command keywords.Fill) count = list_all-take is_small (min (max count 6) 9) fill_kinds refl
kinds_small (forms.Command word) count = refl
kinds_small (forms.Node operations.Color) count = list_all-take is_small (min (max count 8) 11) color_kinds refl
kinds_small (forms.Node operation) count = refl

-- a line has at most eleven words after the first
pub kinds_few : (form : Form) (count : ℕ) → length (kinds_of form count) ≤ 11
kinds_few (forms.Command keywords.Fill) count = take-few (min (max count 6) 9) fill_kinds 11 (omega arith)
kinds_few (forms.Command word) count = omega arith
kinds_few (forms.Node operations.Color) count = take-few (min (max count 8) 11) color_kinds 11 (omega arith)
kinds_few (forms.Node operation) count = omega arith

-- ---- what is made

made-with : {A : Type 0} (form : Form) (read : Result A ScriptCause) (make : A → Command) → HasRectCause read → ((value : A) → read ≡ Ok value → IsInLimits (make value))
    → ((value : A) → keyword (make value) ≡ first_of form) → Made form (read >>= λ value. Ok (make value))
made-with form (Ok value) make cause limits first = (limits value refl, first value)
made-with form (Err other) make cause limits first = cause

-- with a rectangle in limits
made-rect : (word : Keyword) (numbers : RectNumbers) (make : Rectangle → Command) → ((rect : Rectangle) → IsTrue (in_limits rect) → IsInLimits (make rect))
    → ((rect : Rectangle) → keyword (make rect) ≡ word) → Made (forms.Command word) (rect_of numbers >>= λ rect. Ok (make rect))
made-rect word numbers make limits first =
    made-with (forms.Command word) (rect_of numbers) make (rect_of-cause numbers) (λ rect is. limits rect (rect_of-in_limits numbers rect is)) first

-- the same of an operation
made-operation : (operation : OperationWord) (all : List Field) (name : List ℕ) (numbers : RectNumbers) (make : Rectangle → IntOp)
    → ((rect : Rectangle) → IsTrue (in_limits rect) → HasArguments (Compute (make rect)) × HasPixel (Compute (make rect))) → ((rect : Rectangle) → length (inputs_in all (Compute (make rect))) ≡ inputs_of (make rect))
    → Made (forms.Node operation) ((rect_of numbers >>= λ rect. Ok (Compute (make rect))) >>= λ op. Ok (commands.Node name op (inputs_in all op)))
made-operation operation all name numbers make range inputs =
    by_read (rect_of numbers) (rect_of-cause numbers) (λ rect is. rect_of-in_limits numbers rect is)
  where
    by_read : (read : Result Rectangle ScriptCause) → HasRectCause read → ((rect : Rectangle) → read ≡ Ok rect → IsTrue (in_limits rect))
        → Made (forms.Node operation) ((read >>= λ rect. Ok (Compute (make rect))) >>= λ op. Ok (commands.Node name op (inputs_in all op)))
    by_read (Ok rect) cause limits =
        let arguments = range rect (limits rect refl) in
        (record { fields = (tt, tt); lists = (arguments.0, arguments.1, inputs rect); rectangle = tt }, refl)
    by_read (Err other) cause limits = cause

-- one to four samples after other words
by_samples : (low : ℕ) (P : ℕ → Type 0) → P low → P (low + 1) → P (low + 2) → P (low + 3) → (n : ℕ) → low ≤ n → n ≤ low + 3 → P n
by_samples low P one two three four n from to = by_more (n - low) (omega arith) (omega arith)
  where
    by_more : (more : ℕ) → more ≤ 3 → low + more ≡ n → P n
    by_more zero few is = subst P (omega arith) one
    by_more (suc zero) few is = subst P (omega arith) two
    by_more (suc (suc zero)) few is = subst P (omega arith) three
    by_more (suc (suc (suc zero))) few is = subst P (omega arith) four
    by_more (suc (suc (suc (suc more)))) few is = absurd (omega arith)

pixel : (all : List ℕ) → 1 ≤ length all → length all ≤ 4 → AllByRecursion IsSample all → ArePixel all
pixel all some few are = record { number = (some, few); each = All-from_recursion IsSample all are }

made-fill : (n : ℕ) → 6 ≤ n → n ≤ 9 → (values : Values (take n fill_kinds))
    → Made (forms.Command keywords.Fill) (command_with keywords.Fill (fields_with (take n fill_kinds) values))
made-fill n from to =
    by_samples 6
    (λ (k : ℕ). (values : Values (take k fill_kinds)) → Made (forms.Command keywords.Fill) (command_with keywords.Fill (fields_with (take k fill_kinds) values)))
    (λ values. let given = values.1.1.1.1.1 in
    let numbers : RectNumbers = record { x = values.1.0.0; y = values.1.1.0.0; w = values.1.1.1.0.0; h = values.1.1.1.1.0.0 } in
    let all : List ℕ = given.0.0 ∷ [] in
    made-rect keywords.Fill numbers (λ rect. commands.Fill values.0.0 rect all) (λ rect limits. record { fields = (tt, (limits, tt)); lists = pixel all (omega arith) (omega arith) (given.0.2, tt); rectangle = tt }) (λ rect. refl))
    (λ values. let given = values.1.1.1.1.1 in
    let numbers : RectNumbers = record { x = values.1.0.0; y = values.1.1.0.0; w = values.1.1.1.0.0; h = values.1.1.1.1.0.0 } in
    let all : List ℕ = given.0.0 ∷ given.1.0.0 ∷ [] in
    made-rect keywords.Fill numbers (λ rect. commands.Fill values.0.0 rect all) (λ rect limits. record { fields = (tt, (limits, tt)); lists = pixel all (omega arith) (omega arith) (given.0.2, (given.1.0.2, tt)); rectangle = tt }) (λ rect. refl))
    (λ values. let given = values.1.1.1.1.1 in
    let numbers : RectNumbers = record { x = values.1.0.0; y = values.1.1.0.0; w = values.1.1.1.0.0; h = values.1.1.1.1.0.0 } in
    let all : List ℕ = given.0.0 ∷ given.1.0.0 ∷ given.1.1.0.0 ∷ [] in
    made-rect keywords.Fill numbers (λ rect. commands.Fill values.0.0 rect all) (λ rect limits. record { fields = (tt, (limits, tt)); lists = pixel all (omega arith) (omega arith) (given.0.2, (given.1.0.2, (given.1.1.0.2, tt))); rectangle = tt }) (λ rect. refl))
    (λ values. let given = values.1.1.1.1.1 in
    let numbers : RectNumbers = record { x = values.1.0.0; y = values.1.1.0.0; w = values.1.1.1.0.0; h = values.1.1.1.1.0.0 } in
    let all : List ℕ = given.0.0 ∷ given.1.0.0 ∷ given.1.1.0.0 ∷ given.1.1.1.0.0 ∷ [] in
    made-rect keywords.Fill numbers (λ rect. commands.Fill values.0.0 rect all) (λ rect limits. record { fields = (tt, (limits, tt)); lists = pixel all (omega arith) (omega arith) (given.0.2, (given.1.0.2, (given.1.1.0.2, (given.1.1.1.0.2, tt)))); rectangle = tt }) (λ rect. refl))
    n from (omega arith)

made-color : (n : ℕ) → 8 ≤ n → n ≤ 11 → (values : Values (take n color_kinds))
    → Made (forms.Node operations.Color) (node_with operations.Color (fields_with (take n color_kinds) values))
made-color n from to =
    by_samples 8
    (λ (k : ℕ). (values : Values (take k color_kinds)) → Made (forms.Node operations.Color) (node_with operations.Color (fields_with (take k color_kinds) values)))
    (λ values. let given = values.1.1.1.1.1.1.1 in
    let numbers : RectNumbers = record { x = values.1.1.1.0.0; y = values.1.1.1.1.0.0; w = values.1.1.1.1.1.0.0; h = values.1.1.1.1.1.1.0.0 } in
    let all : List ℕ = given.0.0 ∷ [] in
    made-operation operations.Color (fields_with (take 8 color_kinds) values) values.0.0 numbers (λ rect. ops.Color values.1.1.0 rect all)
    (λ rect limits. ((tt, (limits, tt)), pixel all (omega arith) (omega arith) (given.0.2, tt))) (λ rect. refl))
    (λ values. let given = values.1.1.1.1.1.1.1 in
    let numbers : RectNumbers = record { x = values.1.1.1.0.0; y = values.1.1.1.1.0.0; w = values.1.1.1.1.1.0.0; h = values.1.1.1.1.1.1.0.0 } in
    let all : List ℕ = given.0.0 ∷ given.1.0.0 ∷ [] in
    made-operation operations.Color (fields_with (take 9 color_kinds) values) values.0.0 numbers (λ rect. ops.Color values.1.1.0 rect all)
    (λ rect limits. ((tt, (limits, tt)), pixel all (omega arith) (omega arith) (given.0.2, (given.1.0.2, tt)))) (λ rect. refl))
    (λ values. let given = values.1.1.1.1.1.1.1 in
    let numbers : RectNumbers = record { x = values.1.1.1.0.0; y = values.1.1.1.1.0.0; w = values.1.1.1.1.1.0.0; h = values.1.1.1.1.1.1.0.0 } in
    let all : List ℕ = given.0.0 ∷ given.1.0.0 ∷ given.1.1.0.0 ∷ [] in
    made-operation operations.Color (fields_with (take 10 color_kinds) values) values.0.0 numbers (λ rect. ops.Color values.1.1.0 rect all)
    (λ rect limits. ((tt, (limits, tt)), pixel all (omega arith) (omega arith) (given.0.2, (given.1.0.2, (given.1.1.0.2, tt))))) (λ rect. refl))
    (λ values. let given = values.1.1.1.1.1.1.1 in
    let numbers : RectNumbers = record { x = values.1.1.1.0.0; y = values.1.1.1.1.0.0; w = values.1.1.1.1.1.0.0; h = values.1.1.1.1.1.1.0.0 } in
    let all : List ℕ = given.0.0 ∷ given.1.0.0 ∷ given.1.1.0.0 ∷ given.1.1.1.0.0 ∷ [] in
    made-operation operations.Color (fields_with (take 11 color_kinds) values) values.0.0 numbers (λ rect. ops.Color values.1.1.0 rect all)
    (λ rect limits. ((tt, (limits, tt)), pixel all (omega arith) (omega arith) (given.0.2, (given.1.0.2, (given.1.1.0.2, (given.1.1.1.0.2, tt)))))) (λ rect. refl))
    n from (omega arith)

-- fields of the kinds of a form
pub made : (form : Form) (count : ℕ) (values : Values (kinds_of form count)) → Made form (command_of form (fields_with (kinds_of form count) values))
made (forms.Command keywords.Buffer) count values =
    let numbers : RectNumbers = record { x = values.1.1.0.0; y = values.1.1.1.0.0; w = values.1.1.1.1.0.0; h = values.1.1.1.1.1.0.0 } in
    made-rect keywords.Buffer numbers (λ rect. commands.Buffer values.0.0 values.1.0 rect) (λ rect limits. record { fields = (tt, (tt, (limits, tt))); lists = tt; rectangle = tt }) (λ rect. refl)
made (forms.Command keywords.Sub) count values =
    let numbers : RectNumbers = record { x = values.1.1.0.0; y = values.1.1.1.0.0; w = values.1.1.1.1.0.0; h = values.1.1.1.1.1.0.0 } in
    made-rect keywords.Sub numbers (λ rect. commands.Sub values.0.0 values.1.0.0 rect) (λ rect limits. record { fields = (tt, (tt, (limits, tt))); lists = tt; rectangle = tt }) (λ rect. refl)
made (forms.Command keywords.Load) count values =
    let numbers : RectNumbers = record { x = values.1.0.0; y = values.1.1.0.0; w = values.1.1.1.0.0; h = values.1.1.1.1.0.0 } in
    made-rect keywords.Load numbers (λ rect. commands.Load values.0.0 rect values.1.1.1.1.1.0.0) (λ rect limits. record { fields = (tt, (limits, (tt, tt))); lists = tt; rectangle = tt }) (λ rect. refl)
made (forms.Command keywords.Fill) count values = made-fill (min (max count 6) 9) (omega arith) (omega arith) values
made (forms.Command keywords.Copy) count values =
    let moved = values.1.1.1.1.1.1 in
    let numbers : RectNumbers = record { x = values.1.1.0.0; y = values.1.1.1.0.0; w = values.1.1.1.1.0.0; h = values.1.1.1.1.1.0.0 } in
    made-rect keywords.Copy numbers (λ rect. commands.Copy values.0.0 values.1.0.0 rect moved.0.0 moved.1.0.0)
    (λ rect limits. record { fields = (tt, (tt, (limits, ((moved.0.1, moved.0.2), ((moved.1.0.1, moved.1.0.2), tt))))); lists = tt; rectangle = tt }) (λ rect. refl)
made (forms.Command keywords.Render) count values =
    let level = values.1.0.0 in
    let numbers : RectNumbers = record { x = values.1.1.0.0; y = values.1.1.1.0.0; w = values.1.1.1.1.0.0; h = values.1.1.1.1.1.0.0 } in
    made-with (forms.Command keywords.Render) (level_rect_of level numbers) (λ rect. commands.Render values.0.0 level rect values.1.1.1.1.1.1.0.0)
    (level_rect_of-cause level numbers) (λ rect is. let limits = level_rect_of-in_limits level numbers rect is in
    record { fields = (tt, ((values.1.0.1, values.1.0.2), (limits.limits, (tt, tt)))); lists = tt; rectangle = limits.scaled }) (λ rect. refl)
made (forms.Command keywords.Grab) count values =
    let level = values.1.0.0 in
    let numbers : RectNumbers = record { x = values.1.1.1.0.0; y = values.1.1.1.1.0.0; w = values.1.1.1.1.1.0.0; h = values.1.1.1.1.1.1.0.0 } in
    made-with (forms.Command keywords.Grab) (level_rect_of level numbers) (λ rect. commands.Grab values.0.0 level values.1.1.0 rect values.1.1.1.1.1.1.1.0.0)
    (level_rect_of-cause level numbers) (λ rect is. let limits = level_rect_of-in_limits level numbers rect is in
    record { fields = (tt, ((values.1.0.1, values.1.0.2), (tt, (limits.limits, (tt, tt))))); lists = tt; rectangle = limits.scaled }) (λ rect. refl)
made (forms.Command keywords.Watch) count values =
    let viewers = values.1.1.1.1.1.0 in
    let frames = values.1.1.1.1.1.1.0 in
    let prefix = values.1.1.1.1.1.1.1.0 in
    let numbers : RectNumbers = record { x = values.1.0.0; y = values.1.1.0.0; w = values.1.1.1.0.0; h = values.1.1.1.1.0.0 } in
    made-with (forms.Command keywords.Watch) (watched_rect_of viewers.0 frames.0 numbers) (λ rect. commands.Watch values.0.0 rect viewers.0 frames.0 prefix.0)
    (watched_rect_of-cause viewers.0 frames.0 numbers)
    (λ rect is. let limits = watched_rect_of-in_limits viewers.0 frames.0 numbers rect is in
    record { fields = (tt, (limits.0, ((viewers.1, viewers.2), ((frames.1, frames.2), (prefix.2, tt))))); lists = tt; rectangle = limits.1 }) (λ rect. refl)
made (forms.Command keywords.Node) count values = refl
made (forms.Command keywords.Dup) count values = (record { fields = (tt, (tt, tt)); lists = tt; rectangle = tt }, refl)
made (forms.Command keywords.Drop) count values = (record { fields = (tt, tt); lists = tt; rectangle = tt }, refl)
made (forms.Command word) count values = (record { fields = tt; lists = tt; rectangle = tt }, refl)
made (forms.Node operations.Color) count values = made-color (min (max count 8) 11) (omega arith) (omega arith) values
made (forms.Node operations.Checker) count values =
    let given = values.1.1.1.1.1.1.1 in
    let numbers : RectNumbers = record { x = values.1.1.1.0.0; y = values.1.1.1.1.0.0; w = values.1.1.1.1.1.0.0; h = values.1.1.1.1.1.1.0.0 } in
    made-operation operations.Checker (fields_with (kinds_of (forms.Node operations.Checker) count) values) values.0.0 numbers
    (λ rect. ops.Checker values.1.1.0 rect given.0.0 given.1.0.0 given.1.1.0.0)
    (λ rect limits. ((tt, (limits, ((given.0.1, given.0.2), ((given.1.0.1, given.1.0.2), ((given.1.1.0.1, given.1.1.0.2), tt))))), tt)) (λ rect. refl)
made (forms.Node operations.Threshold) count values = (record { fields = (tt, tt); lists = (((values.1.1.0.1, values.1.1.0.2), tt), tt, refl); rectangle = tt }, refl)
made (forms.Node operations.Gain) count values =
    (record { fields = (tt, tt); lists = (((values.1.1.0.1, values.1.1.0.2), ((values.1.1.1.0.1, values.1.1.1.0.2), tt)), tt, refl); rectangle = tt }, refl)
made (forms.Node operations.Translate) count values =
    (record { fields = (tt, tt); lists = (((values.1.1.0.1, values.1.1.0.2), ((values.1.1.1.0.1, values.1.1.1.0.2), tt)), tt, refl); rectangle = tt }, refl)
made (forms.Node operations.Crop) count values =
    let numbers : RectNumbers = record { x = values.1.1.0.0; y = values.1.1.1.0.0; w = values.1.1.1.1.0.0; h = values.1.1.1.1.1.0.0 } in
    made-operation operations.Crop (fields_with (kinds_of (forms.Node operations.Crop) count) values) values.0.0 numbers (λ rect. ops.Crop rect) (λ rect limits. ((limits, tt), tt)) (λ rect. refl)
made (forms.Node operations.BoxMean) count values =
    (record { fields = (tt, tt); lists = (((values.1.1.0.1, values.1.1.0.2), (values.1.1.1.0.1, tt)), tt, refl); rectangle = tt }, refl)
made (forms.Node operations.Dilate) count values =
    (record { fields = (tt, tt); lists = (((values.1.1.0.1, values.1.1.0.2), (values.1.1.1.0.1, tt)), tt, refl); rectangle = tt }, refl)
made (forms.Node operations.Erode) count values =
    (record { fields = (tt, tt); lists = (((values.1.1.0.1, values.1.1.0.2), (values.1.1.1.0.1, tt)), tt, refl); rectangle = tt }, refl)
made (forms.Node operations.Source) count values = (record { fields = (tt, tt); lists = ((tt, tt), tt, refl); rectangle = tt }, refl)
made (forms.Node operations.Convert) count values = (record { fields = (tt, tt); lists = ((tt, tt), tt, refl); rectangle = tt }, refl)
made (forms.Node operations.Flip) count values = (record { fields = (tt, tt); lists = ((tt, tt), tt, refl); rectangle = tt }, refl)
made (forms.Node operation) count values = (record { fields = (tt, tt); lists = (tt, tt, refl); rectangle = tt }, refl)

-- as many words as there have to be, whose fields are read
pub made-fields : (form : Form) (words : List (List ℕ)) (read : List Field) → is_counted form words ≡ true → fields_of_words (kinds_for form words) words ≡ Ok read → Made form (command_of form read)
made-fields form words read counted are =
    let same : length (kinds_for form words) ≡ length words = grind (arith, nat_tests) in
    let have = words-values (kinds_for form words) words read same are in
    subst (λ (fs : List Field). Made form (command_of form fs)) (sym have.1) (made form (length words) have.0)
