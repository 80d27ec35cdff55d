-- The operations of nodes, by themselves or through a mask.
use Rattle.std.proofs.Common.{◌≡◌, ℕ, suc, ◌+◌, ◌<◌, ◌≤◌, ltb, Bool, true, false, not, cond, List, take, Option, Some, None, unwrap_or, refl, sym, ap, ◌∙◌, subst, arith}
use Rattle.std.specs.Prelude.{IfSome, IsSome, slice_index_or}
use Rattle.std.specs.Option.{option_and_then}
use Rattle.std.proofs.lemmas.Bool.Decides.{nat_tests}
use Rattle.plane_rect.specs.Rectangle.{Includes, Rectangle, empty, in_limits, meet}
use Rattle.pixel_formats.specs.declared.format.Format.{Format}
use Rattle.pixel_formats.specs.declared.format.Format.TheVariants.{Y8}
use Rattle.model_images.specs.Image.{Image}
use Rattle.model_graphs.specs.Filter.{Filter, Plain, Through}
use Rattle.model_graphs.specs.Filters.{filter_box, filter_count, filter_format, filter_invalidated, filter_required, filter_value, filtered, format_through, invalidated_through}
use Rattle.model_graphs.specs.Meanings.{Meanings, formats_of, result_box}
use Rattle.model_graphs.specs.Windows.{Window}
use Rattle.op_contracts.specs.Applying.{CopiesInput, HaveRequired, bounds_of, result_of_windows}

-- what three rectangles have in common, where they are known by equations
pub common-positions : (a b c both all first second : Rectangle) → both ≡ meet a b → all ≡ meet both c → b ≡ first → c ≡ second → all ≡ meet (meet a first) second
common-positions a b c both all first second two three is other =
    three
    ∙ ap (λ r. meet r c) two
    ∙ ap (λ r. meet (meet a r) c) is
    ∙ ap (meet (meet a first)) other

-- inputs with a mask are those of a steady operation, and one more
inputs-if : (b : Bool) (n count own : ℕ) → count ≡ cond b (suc n) 0 → count ≡ own + 1 → (b ≡ true) × (n ≡ own)
inputs-if true n count own is more = (refl, omega (arith, is, more))
inputs-if false n count own is more = absurd (omega (arith, is, more))

-- the box that is in limits
abbrev limited : Option Rectangle → Option Rectangle
limited found = option_and_then (λ box. cond (in_limits box) (Some box) None) found

limited-if : (b : Bool) (o : Option Rectangle) → IsSome (limited (cond b o None)) → b ≡ true
limited-if true o some = refl
limited-if false o some = absurd (cc some)

module _ {Op : Type 0} (steady : Op → Bool) (meanings : Meanings Op) (nodes : Meanings (Filter Op)) (derived : nodes ≡ filtered steady meanings)
    (operation : Op) (node : Filter Op) (is : node ≡ Through operation) where
  abbrev inputs : ℕ
  inputs = meanings.input_count operation

  pub through-count : nodes.input_count node ≡ cond (steady operation) (suc inputs) 0
  through-count = ap (λ (m : Meanings (Filter Op)). m.input_count node) derived ∙ ap (filter_count steady meanings) is

  pub own-inputs : (count own : ℕ) → count ≡ nodes.input_count node → count ≡ own + 1 → (steady operation ≡ true) × (inputs ≡ own)
  own-inputs count own its more = inputs-if (steady operation) inputs count own (its ∙ through-count) more

  format-is : (formats : List Format) → nodes.format node formats
      ≡ cond (steady operation) (format_through (slice_index_or formats 0 Y8) (slice_index_or formats inputs Y8) (meanings.format operation (take inputs formats))) None
  format-is formats = ap (λ (m : Meanings (Filter Op)). m.format node formats) derived ∙ ap (λ (f : Filter Op). filter_format steady meanings f formats) is

  box-is : (boxes : List Rectangle) → nodes.box node boxes ≡ cond (steady operation) (meanings.box operation (take inputs boxes)) None
  box-is boxes = ap (λ (m : Meanings (Filter Op)). m.box node boxes) derived ∙ ap (λ (f : Filter Op). filter_box steady meanings f boxes) is

  -- a list of boxes that has bounds has a mask's
  pub inputs-there : (boxes : List Rectangle) → IsSome (bounds_of nodes node boxes) → nodes.input_count node ≡ inputs + 1
  inputs-there boxes some =
      let there : IsSome (limited (cond (steady operation) (meanings.box operation (take inputs boxes)) None)) =
      subst (λ (found : Option Rectangle). IsSome (limited found)) (box-is boxes) some in
      let steadily = limited-if (steady operation) (meanings.box operation (take inputs boxes)) there in
      through-count ∙ ap (λ b. cond b (suc inputs) 0) steadily ∙ omega arith

  -- ---- a steady operation with its own inputs

  module _ (own : ℕ) (steadily : steady operation ≡ true) (count : inputs ≡ own) where
    pub through-format : (formats : List Format) → nodes.format node formats
        ≡ format_through (slice_index_or formats 0 Y8) (slice_index_or formats own Y8) (meanings.format operation (take own formats))
    through-format formats =
        format-is formats
        ∙ ap (λ b. cond b (format_through (slice_index_or formats 0 Y8) (slice_index_or formats inputs Y8) (meanings.format operation (take inputs formats))) None) steadily
        ∙ ap (λ n. format_through (slice_index_or formats 0 Y8) (slice_index_or formats n Y8) (meanings.format operation (take n formats))) count

    pub through-box : (boxes : List Rectangle) → nodes.box node boxes ≡ meanings.box operation (take own boxes)
    through-box boxes =
        box-is boxes
        ∙ ap (λ b. cond b (meanings.box operation (take inputs boxes)) None) steadily
        ∙ ap (λ n. meanings.box operation (take n boxes)) count

    pub through-bounds : (boxes : List Rectangle) → bounds_of nodes node boxes ≡ bounds_of meanings operation (take own boxes)
    through-bounds boxes = ap limited (through-box boxes)

    pub through-result : (boxes : List Rectangle) → result_box nodes node boxes ≡ result_box meanings operation (take own boxes)
    through-result boxes = ap (λ (found : Option Rectangle). unwrap_or found empty) (through-box boxes)

    -- what is required of an input, and what a change of it invalidates
    abbrev required-if : List Rectangle → ℕ → Rectangle → Bool → ℕ → Rectangle
    required-if boxes i part b n =
        cond b (meanings.required operation (take n boxes) i part)
        (meet (meet part (result_box meanings operation (take n boxes))) (slice_index_or boxes i empty))

    required-is : (boxes : List Rectangle) (i : ℕ) (part : Rectangle) → nodes.required node boxes i part ≡ required-if boxes i part (ltb i own) own
    required-is boxes i part =
        ap (λ (m : Meanings (Filter Op)). m.required node boxes i part) derived
        ∙ ap (λ (f : Filter Op). filter_required meanings f boxes i part) is
        ∙ ap (λ n. required-if boxes i part (ltb i n) n) count

    pub own-required : (boxes : List Rectangle) (i : ℕ) (part : Rectangle) → i < own →
        nodes.required node boxes i part ≡ meanings.required operation (take own boxes) i part
    own-required boxes i part below =
        let less : ltb i own ≡ true = grind (arith, nat_tests) in
        required-is boxes i part ∙ ap (λ b. required-if boxes i part b own) less

    pub mask-required : (boxes : List Rectangle) (i : ℕ) (part : Rectangle) → own ≤ i →
        nodes.required node boxes i part ≡ meet (meet part (result_box meanings operation (take own boxes))) (slice_index_or boxes i empty)
    mask-required boxes i part past =
        let no : ltb i own ≡ false = grind (arith, nat_tests) in
        required-is boxes i part ∙ ap (λ b. required-if boxes i part b own) no

    abbrev invalidated-if : List Rectangle → ℕ → Rectangle → Bool → ℕ → Rectangle
    invalidated-if boxes i changed b n =
        cond b (meanings.invalidated operation (take n boxes) i changed)
        (meet (meet changed (slice_index_or boxes i empty)) (result_box meanings operation (take n boxes)))

    invalidated-is : (boxes : List Rectangle) (i : ℕ) (changed : Rectangle) → nodes.invalidated node boxes i changed ≡ invalidated-if boxes i changed (ltb i own) own
    invalidated-is boxes i changed =
        ap (λ (m : Meanings (Filter Op)). m.invalidated node boxes i changed) derived
        ∙ ap (λ (f : Filter Op). filter_invalidated steady meanings f boxes i changed) is
        ∙ ap (λ b. cond (not b) empty (invalidated_through meanings operation boxes i changed)) steadily
        ∙ ap (λ n. invalidated-if boxes i changed (ltb i n) n) count

    pub own-invalidated : (boxes : List Rectangle) (i : ℕ) (changed : Rectangle) → i < own →
        nodes.invalidated node boxes i changed ≡ meanings.invalidated operation (take own boxes) i changed
    own-invalidated boxes i changed below =
        let less : ltb i own ≡ true = grind (arith, nat_tests) in
        invalidated-is boxes i changed ∙ ap (λ b. invalidated-if boxes i changed b own) less

    pub mask-invalidated : (boxes : List Rectangle) (i : ℕ) (changed : Rectangle) → own ≤ i →
        nodes.invalidated node boxes i changed ≡ meet (meet changed (slice_index_or boxes i empty)) (result_box meanings operation (take own boxes))
    mask-invalidated boxes i changed past =
        let no : ltb i own ≡ false = grind (arith, nat_tests) in
        invalidated-is boxes i changed ∙ ap (λ b. invalidated-if boxes i changed b own) no

-- ---- by itself

module _ {Op : Type 0} (steady : Op → Bool) (meanings : Meanings Op) (nodes : Meanings (Filter Op)) (derived : nodes ≡ filtered steady meanings)
    (operation : Op) (node : Filter Op) (is : node ≡ Plain operation) where
  plain-required : (boxes : List Rectangle) (i : ℕ) (part : Rectangle) → nodes.required node boxes i part ≡ meanings.required operation boxes i part
  plain-required boxes i part =
      ap (λ (m : Meanings (Filter Op)). m.required node boxes i part) derived
      ∙ ap (λ (f : Filter Op). filter_required meanings f boxes i part) is

  pub plain-needed : (boxes : List Rectangle) (windows : List Window) (out : Rectangle) → HaveRequired nodes node boxes windows out
      → HaveRequired meanings operation boxes windows out
  plain-needed boxes windows out needed i window found =
      subst (λ (region : Rectangle). Includes window.need region) (plain-required boxes i out) (needed i window found)

  pub plain-result : (windows : List Window) → result_of_windows meanings operation windows ≡ result_of_windows nodes node windows
  plain-result windows =
      sym
      (ap (λ (m : Meanings (Filter Op)). result_of_windows m node windows) derived
      ∙ ap (λ (f : Filter Op). result_of_windows (filtered steady meanings) f windows) is)

  plain-format : (formats : List Format) → nodes.format node formats ≡ meanings.format operation formats
  plain-format formats =
      ap (λ (m : Meanings (Filter Op)). m.format node formats) derived
      ∙ ap (λ (f : Filter Op). filter_format steady meanings f formats) is

  plain-value : (images : List Image) (u v c : ℕ) → nodes.value node images u v c ≡ meanings.value operation images u v c
  plain-value images u v c =
      ap (λ (m : Meanings (Filter Op)). m.value node images u v c) derived
      ∙ ap (λ (f : Filter Op). filter_value meanings f images u v c) is

  plain-copies : (boxes : List Rectangle) (part : Rectangle) (input : ℕ) → CopiesInput meanings operation boxes part input → CopiesInput nodes node boxes part input
  plain-copies boxes part input copies = record {
    inside = copies.inside;
    format = λ formats format made. copies.format formats format (sym (plain-format formats) ∙ made);
    samples = λ images shaped some image there u v c here known most.
        plain-value images u v c
        ∙ copies.samples images shaped (subst IsSome (plain-format (formats_of images)) some) image there u v c here known most;
  }

  pub plain-copied : (boxes : List Rectangle) (part : Rectangle) (found : Option ℕ) → IfSome found (CopiesInput meanings operation boxes part)
      → IfSome found (CopiesInput nodes node boxes part)
  plain-copied boxes part None none = tt
  plain-copied boxes part (Some input) copies = plain-copies boxes part input copies
