-- The state after a step follows the one before it.
use Rattle.std.proofs.Common.{◌≡◌, ℕ, zero, suc, ◌+◌, ◌-◌, ◌<◌, ◌≤◌, ◌⊎◌, inl, inr, Bool, true, false, cond, IsTrue, List, [], ◌∷◌, ◌++◌, length, min, get_or, Option, Some, None, refl, ap, sym, ◌∙◌, subst, arith}
use Rattle.std.specs.Prelude.{drop, filter, map, slice_get, unwrap_or}
use Rattle.std.specs.List.{Contains, range_with_len}
use Rattle.std.specs.Map.{lookup}
use Rattle.std.specs.Str.{bytes_eq}
use Rattle.std.proofs.lemmas.Bool.{cases_lt}
use Rattle.std.proofs.lemmas.Bool.Decides.{nat_tests}
use Rattle.std.proofs.lemmas.List.{drop-map, get_or-drop, get_or_append_left, get_or_at, get_or_default, length-append, length-drop, length-map}
use Rattle.std.proofs.lemmas.List.FromFn.{length-range_with_len}
use Rattle.std.proofs.lemmas.Option.{slice_get_within}
use Rattle.plane_rect.specs.Rectangle.{Includes, Inside, Rectangle, empty, hull}
use Rattle.plane_rect.proofs.RectangleLaws.{Includes-hull_left, Includes-hull_right}
use Rattle.model_images.specs.Agreement.{AgreeOutside}
use Rattle.model_images.specs.Image.{Image, at}
use Rattle.model_images.specs.Paint.{blank, no_image}
use Rattle.model_images.proofs.Laws.{AgreeOutside-refl}
use Rattle.model_graphs.specs.declared.buffer.BufferFact.{BufferFact}
use Rattle.model_graphs.specs.declared.node.Body.{Body}
use Rattle.model_graphs.specs.Evaluation.{Buffers, buffer_image}
use Rattle.model_graphs.specs.Facts.{AreImagesOf, Facts, fact_of, shape_of_fact, shapes_of_facts, specs_of}
use Rattle.model_graphs.specs.Laws.{Distinguishes, KeepsLaws}
use Rattle.model_graphs.specs.Meanings.{Meanings}
use Rattle.model_graphs.specs.Node.{Node, index_of}
use Rattle.model_graphs.specs.Shapes.{Shape, Shapes, shapes_of_images, shape_of_image}
use Rattle.model_states.specs.Damage.{Change, Side, damage, is_unedited, side_shape}
use Rattle.model_states.specs.declared.damage.Damage.{Damage}
use Rattle.model_states.specs.Edits.{has_node}
use Rattle.model_states.specs.Neighbors.{AgreeOutsideRoots, IsChange, scene_of_side}
use Rattle.model_states.specs.Rectangles.{Rectangles, rectangle_of}
use Rattle.model_states.specs.State.{image_of, node_of}
use Rattle.model_states.proofs.Kept.{kept-from_test}
use Rattle.model_states.proofs.NodeDamage.{unchanged}
use Rattle.model_states.proofs.Stated.{side_shape-is}
use Rattle.model_states.proofs.Symmetric.{damage_absent, damage_named}
use Rattle.model_scenes.specs.Commits.{IsStepBetween, shown_side, with_damage}
use Rattle.model_scenes.specs.Follows.{AreLast, Follows, IsCovered, IsKept, LiesLater, is_source, listed, most_damages}

-- ---- images of zeros

abbrev pub zeros : Facts → Buffers
zeros facts = map (λ (fact : BufferFact). (fact.name, blank fact.bounds fact.format)) facts

pub zeros-shapes : (facts : Facts) → AreImagesOf facts (zeros facts)
zeros-shapes [] = refl
zeros-shapes (fact ∷ facts) = ap (λ (shapes : Shapes). (fact.name, shape_of_fact fact) ∷ shapes) (zeros-shapes facts)

zeros-image : (facts : Facts) (name : List ℕ) (a : BufferFact) → fact_of facts name ≡ Some a → buffer_image (zeros facts) name ≡ blank a.bounds a.format
zeros-image [] name a found = absurd (cc found)
zeros-image (fact ∷ facts) name a found = by (bytes_eq name fact.name) found (zeros-image facts name a)
  where
    by : (b : Bool) → cond b (Some fact) (fact_of facts name) ≡ Some a
        → (fact_of facts name ≡ Some a → buffer_image (zeros facts) name ≡ blank a.bounds a.format)
        → unwrap_or (cond b (Some (blank fact.bounds fact.format)) (lookup (bytes_eq name) (zeros facts))) no_image ≡ blank a.bounds a.format
    by true is rest = let one : fact ≡ a = cc is in ap (λ (f : BufferFact). blank f.bounds f.format) one
    by false is rest = rest is

-- ---- lists of damages

range-more : (a n j : ℕ) → a + n ≡ j → range_with_len a n ++ j ∷ [] ≡ range_with_len a (suc n)
range-more a zero j e = let same : a ≡ j = omega (arith, e) in ap (λ k. k ∷ []) (sym same)
range-more a (suc n) j e = ap (λ l. a ∷ l) (range-more (a + 1) n j (omega (arith, e)))

map-append : (xs : List Damage) (d : Damage) → map (λ (e : Damage). e.number) (xs ++ d ∷ []) ≡ map (λ (e : Damage). e.number) xs ++ d.number ∷ []
map-append [] d = refl
map-append (x ∷ xs) d = ap (λ l. x.number ∷ l) (map-append xs d)

module _ (a : ℕ) (ds : List Damage) (rects : Rectangles) (are : AreLast a ds) where
  abbrev one : Damage
  one = record { number = suc a; rects = rects }

  abbrev gone : ℕ
  gone = suc (length ds) - most_damages

  count : length ds ≡ min a most_damages
  count = sym (length-map ds (λ (e : Damage). e.number)) ∙ (ap length are ∙ length-range_with_len (suc a - min a most_damages) (min a most_damages))

  numbers : map (λ (e : Damage). e.number) (ds ++ one ∷ []) ≡ range_with_len (suc a - min a most_damages) (suc (min a most_damages))
  numbers =
      map-append ds one
      ∙ (ap (λ l. l ++ suc a ∷ []) are
      ∙ range-more (suc a - min a most_damages) (min a most_damages) (suc a) (omega arith))

  are-last : AreLast (suc a) (with_damage ds one)
  are-last =
      sym (drop-map (λ (e : Damage). e.number) gone (ds ++ one ∷ []))
      ∙ (ap (drop gone) numbers ∙ by (cases_lt a most_damages))
    where
      by : (a < most_damages) ⊎ (most_damages ≤ a) → drop gone (range_with_len (suc a - min a most_damages) (suc (min a most_damages))) ≡ range_with_len (suc (suc a) - min (suc a) most_damages) (min (suc a) most_damages)
      by (inl less) =
          let none : gone ≡ 0 = omega (arith, less, count) in
          let first : suc a - min a most_damages ≡ suc (suc a) - min (suc a) most_damages = omega (arith, less) in
          let many : suc (min a most_damages) ≡ min (suc a) most_damages = omega (arith, less) in
          ap (λ k. drop k (range_with_len (suc a - min a most_damages) (suc (min a most_damages)))) none
          ∙ (ap (λ k. range_with_len k (suc (min a most_damages))) first
          ∙ ap (range_with_len (suc (suc a) - min (suc a) most_damages)) many)
      by (inr more) =
          let some : gone ≡ 1 = omega (arith, more, count) in
          let first : suc a - min a most_damages + 1 ≡ suc (suc a) - min (suc a) most_damages = omega (arith, more) in
          let many : min a most_damages ≡ min (suc a) most_damages = omega (arith, more) in
          ap (λ k. drop k (range_with_len (suc a - min a most_damages) (suc (min a most_damages)))) some
          ∙ (ap (λ k. range_with_len k (min a most_damages)) first
          ∙ ap (range_with_len (suc (suc a) - min (suc a) most_damages)) many)

  -- the last one is there
  has-last : Contains (with_damage ds one) one
  has-last =
      let k = length ds - gone in
      let all : length (ds ++ one ∷ []) ≡ length ds + 1 = length-append ds (one ∷ []) in
      let whole : gone + k ≡ length ds = omega (arith, count) in (
        k,
        omega (arith, length-drop gone (ds ++ one ∷ []), all, whole),
        get_or-drop gone (ds ++ one ∷ []) k one ∙ (ap (λ i. get_or (ds ++ one ∷ []) i one) whole ∙ get_or_at ds one [] one (length ds) refl),
      )

  -- all others were there
  had : (d : Damage) → Contains (with_damage ds one) d → d.number ≤ a → Contains ds d
  had d has le =
      let k = gone + has.0 in
      let all : length (ds ++ one ∷ []) ≡ length ds + 1 = length-append ds (one ∷ []) in
      let short : length (with_damage ds one) ≡ length (ds ++ one ∷ []) - gone = length-drop gone (ds ++ one ∷ []) in
      let is : get_or (ds ++ one ∷ []) k d ≡ d = sym (get_or-drop gone (ds ++ one ∷ []) has.0 d) ∙ has.2 in
      elim (cases_lt k (length ds)) [
        | inl before ↦ (k, before, sym (get_or_append_left ds (one ∷ []) d k before) ∙ is)
        | inr after ↦
            let end : length ds ≡ k = omega (arith, after, has.1, all, short) in
            let same : d ≡ one = sym is ∙ get_or_at ds one [] d k end in
            absurd (let n : d.number ≡ suc a = ap (λ (e : Damage). e.number) same in omega (arith, n, le))
      ]

-- ---- a rectangle of a name

listed-there : (rects : Rectangles) (name : List ℕ) (u v : ℕ) → Inside u v (rectangle_of rects name) → Contains (listed rects name) (rectangle_of rects name)
listed-there [] name u v inside = absurd (omega (arith, inside.column))
listed-there (e ∷ rects) name u v inside = by (bytes_eq name e.0) inside (listed-there rects name u v)
  where
    R : Bool → Rectangle
    R b = unwrap_or (cond b (Some e.1) (lookup (bytes_eq name) rects)) empty

    L : Bool → List Rectangle
    L b = map (λ (e : List ℕ × Rectangle). e.1) (cond b (e ∷ filter (λ (e : List ℕ × Rectangle). bytes_eq name e.0) rects) (filter (λ (e : List ℕ × Rectangle). bytes_eq name e.0) rects))

    by : (b : Bool) → Inside u v (R b) → (Inside u v (rectangle_of rects name) → Contains (listed rects name) (rectangle_of rects name)) → Contains (L b) (R b)
    by true there rest = (0, omega arith, refl)
    by false there rest = rest there

-- ---- the cases of a name

module _ {Op : Type 0} (same : Op → Op → Bool) (meanings : Meanings Op) (known : Bool) (change : Change Op) (rects : Rectangles) (old new : Buffers)
    (laws : KeepsLaws meanings) (apart : Distinguishes same) (step : IsStepBetween same meanings known change rects old new)
    (a : ℕ) (ds : List Damage) (are : AreLast a ds) where
  abbrev damages : List Damage
  damages = with_damage ds (record { number = suc a; rects = rects })

  -- a position of its damage lies in a later rectangle
  lies : (name : List ℕ) (u v : ℕ) → Inside u v (damage same meanings change name) → LiesLater a damages name u v
  lies name u v inside =
      let there : Inside u v (rectangle_of rects name) = subst (Inside u v) (sym (step.each name)) inside in
      record {
        rect = rectangle_of rects name;
        is_later = record {
          damage = record { number = suc a; rects = rects };
          there = has-last a ds rects are;
          later = omega arith;
          is_listed = listed-there rects name u v there;
        };
        inside = there;
      }

  -- the boxes of the images
  old_box : (name : List ℕ) → (side_shape change.old name).box ≡ (image_of meanings (scene_of_side change.old old) name).box
  old_box name = ap (λ (s : Shape). s.box) (side_shape-is meanings change.old old step.stated.old step.old_images name)

  new_box : (name : List ℕ) → (side_shape change.new name).box ≡ (image_of meanings (scene_of_side change.new new) name).box
  new_box name = ap (λ (s : Shape). s.box) (side_shape-is meanings change.new new step.stated.new step.new_images name)

  abbrev IsCase : List ℕ → Type 0
  IsCase name =
      IsKept meanings known (shown_side a change.old old ds) (shown_side (suc a) change.new new damages) name
      ⊎ (IsCovered meanings (scene_of_side change.old old) a damages name × IsCovered meanings (scene_of_side change.new new) a damages name)

  -- over images of zeros nothing is unknown
  over-zeros : IsChange meanings change (zeros change.old.buffers) (zeros change.new.buffers)
  over-zeros = record {
    stated = step.stated;
    old_images = zeros-shapes change.old.buffers;
    new_images = zeros-shapes change.new.buffers;
    images = λ name a b was is.
        let steady = step.stated.steady name a b was is in
        let one : buffer_image (zeros change.old.buffers) name ≡ buffer_image (zeros change.new.buffers) name =
        zeros-image change.old.buffers name a was
        ∙ (ap (λ (s : Shape). blank s.box s.format) steady.shape
        ∙ sym (zeros-image change.new.buffers name b is)) in
        subst (λ (image : Image). AgreeOutside (buffer_image (zeros change.old.buffers) name) image (rectangle_of change.rectangles b.root)) one
        (AgreeOutside-refl (buffer_image (zeros change.old.buffers) name) (rectangle_of change.rectangles b.root));
  }

  over-images : IsTrue known → IsChange meanings change old new
  over-images is = record { stated = step.stated; old_images = step.old_images; new_images = step.new_images; images = step.agree is }

  -- a node that is kept has one shape
  shapes-same : (name : List ℕ) (node : Node Op) → node_of (specs_of change.new.nodes) name ≡ Some node
      → is_unedited same change node (node_of (specs_of change.old.nodes) name) ≡ true → side_shape change.old name ≡ side_shape change.new name
  shapes-same name node found kept =
      let was = zeros change.old.buffers in
      let is = zeros change.new.buffers in
      let agreed = (unchanged same meanings change was is laws apart over-zeros name).kept node found kept in
      let old-is = side_shape-is meanings change.old was step.stated.old (zeros-shapes change.old.buffers) name in
      let new-is = side_shape-is meanings change.new is step.stated.new (zeros-shapes change.new.buffers) name in
      let box = agreed.box in
      let format = agreed.format in
      old-is ∙ (ap (λ box. record { box = box; format = (image_of meanings (scene_of_side change.old was) name).format }) box
      ∙ (ap (λ format. record { box = (image_of meanings (scene_of_side change.new is) name).box; format = format }) format ∙ sym new-is))

  kept-case : (name : List ℕ) (node : Node Op) → node_of (specs_of change.new.nodes) name ≡ Some node
      → is_unedited same change node (node_of (specs_of change.old.nodes) name) ≡ true → IsCase name
  kept-case name node found kept =
      let from = kept-from_test same change node (node_of (specs_of change.old.nodes) name) apart kept in
      let shape = shapes-same name node found kept in
      let one = side_shape-is meanings change.old old step.stated.old step.old_images name in
      let two = side_shape-is meanings change.new new step.stated.new step.new_images name in
      inl (record {
        before = from.old;
        after = node;
        there_before = from.found_is;
        there_after = found;
        kind = ap is_source from.body;
        box = ap (λ (s : Shape). s.box) (sym one ∙ (shape ∙ two));
        format = ap (λ (s : Shape). s.format) (sym one ∙ (shape ∙ two));
        samples = λ is u v c outside.
            (unchanged same meanings change old new laws apart (over-images is) name).samples u v c (λ inside. outside (lies name u v inside));
      })

  covered-case : (name : List ℕ) → ((u v : ℕ) → Inside u v (side_shape change.old name).box → Inside u v (damage same meanings change name))
      → (IsTrue (has_node (specs_of change.new.nodes) name) → (u v : ℕ) → Inside u v (side_shape change.new name).box → Inside u v (damage same meanings change name)) → IsCase name
  covered-case name was is =
      inr (
        (λ has u v inside. lies name u v (was u v (subst (Inside u v) (sym (old_box name)) inside))),
        (λ has u v inside. lies name u v (is has u v (subst (Inside u v) (sym (new_box name)) inside))),
      )

  edited-case : (name : List ℕ) (node : Node Op) → node_of (specs_of change.new.nodes) name ≡ Some node
      → is_unedited same change node (node_of (specs_of change.old.nodes) name) ≡ false → IsCase name
  edited-case name node found edited =
      let was = (side_shape change.old name).box in
      let is = (side_shape change.new name).box in
      let whole : damage same meanings change name ≡ hull was is =
      damage_named same meanings change step.stated.new name node found
      ∙ rw edited refl in
      covered-case name
      (λ u v inside. subst (Inside u v) (sym whole) (Includes-hull_left was is u v inside))
      (λ has u v inside. subst (Inside u v) (sym whole) (Includes-hull_right was is u v inside))

  absent-case : (name : List ℕ) → length (specs_of change.new.nodes) ≤ index_of (specs_of change.new.nodes) name → IsCase name
  absent-case name past =
      covered-case name
      (λ u v inside. subst (Inside u v) (sym (damage_absent same meanings change step.stated.new name past)) inside)
      (λ has u v inside. absurd (grind (arith, nat_tests, has, past)))

  cases : (name : List ℕ) → IsCase name
  cases name = at (node_of (specs_of change.new.nodes) name) refl
    where
      test : Node Op → Bool
      test node = is_unedited same change node (node_of (specs_of change.old.nodes) name)

      past : (list : List (Node Op)) (i : ℕ) → slice_get list i ≡ None → length list ≤ i
      past [] i none = omega arith
      past (x ∷ list) zero none = absurd (cc)
      past (x ∷ list) (suc i) none = let rest = past list i none in omega (arith, rest)

      of : (node : Node Op) → node_of (specs_of change.new.nodes) name ≡ Some node → (b : Bool) → test node ≡ b → IsCase name
      of node found true e = kept-case name node found e
      of node found false e = edited-case name node found e

      at : (o : Option (Node Op)) → node_of (specs_of change.new.nodes) name ≡ o → IsCase name
      at None none = absent-case name (past (specs_of change.new.nodes) (index_of (specs_of change.new.nodes) name) none)
      at (Some node) found = of node found (test node) refl

  pub step-follows : Follows meanings known (shown_side a change.old old ds) (shown_side (suc a) change.new new damages)
  step-follows = record {
    later = omega arith;
    last = are-last a ds rects are;
    same = had a ds rects are;
    cases = λ near name. cases name;
  }
