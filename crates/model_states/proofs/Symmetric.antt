-- Damage is the same from either side of a change.
use Rattle.std.proofs.Common.{◌≡◌, ℕ, zero, suc, ◌+◌, ◌<◌, ◌≤◌, Bool, true, false, ◌&&◌, cond, List, [], ◌∷◌, ◌++◌, map, length, get_or, inl, inr, refl, sym, ap, ◌∙◌, subst, arith, Option, Some, None, IsSome, unwrap_or}
use Rattle.std.specs.Prelude.{All, option_map, slice_get}
use Rattle.std.specs.List.{AllByRecursion, enumerate_from}
use Rattle.std.proofs.lemmas.Bool.{cases_lt}
use Rattle.std.proofs.lemmas.Bool.Decides.{nat_tests}
use Rattle.std.proofs.lemmas.List.{get_or_append_left, get_or_at, get_or_default, get_or_past, length-append, length-map}
use Rattle.std.proofs.lemmas.Option.{same_Some}
use Rattle.plane_rect.specs.Rectangle.{IsRectangle, Rectangle, empty, hull, is_empty, meet}
use Rattle.model_graphs.specs.declared.buffer.BufferFact.{BufferFact}
use Rattle.model_graphs.specs.declared.node.Body.{Body}
use Rattle.model_graphs.specs.declared.node.Body.TheVariants.{Compute, Source}
use Rattle.model_graphs.specs.declared.node.NodeFact.{NodeFact}
use Rattle.model_graphs.specs.Facts.{Facts, fact_of, root_of, shape_of_fact, shapes_of_facts, specs_of, stated_shape, stated_shapes}
use Rattle.model_graphs.specs.Laws.{IsEquality}
use Rattle.model_graphs.specs.Meanings.{Meanings}
use Rattle.model_graphs.specs.Node.{Node, index_of, step_of}
use Rattle.model_graphs.specs.Shapes.{Shape, no_shape}
use Rattle.model_states.specs.Damage.{AreSteady, Change, HaveRectangles, IsStated, IsStatedChange, Side, damage, damage_of_node, damage_passed_on, damages, damages_after, have_same_shapes, inputs_of, invalidated_by, is_unedited, known_damage, new_boxes, new_shape, reversed, same_body, same_shape, side_shape}
use Rattle.model_states.specs.Rectangles.{rectangle_of}
use Rattle.model_states.specs.Regions.{hull_of}
use Rattle.model_states.specs.State.{node_of}
use Rattle.model_states.specs.Valid.{shapes_of, step_shape}
use Rattle.model_states.proofs.Kept.{KeptFrom, SameShapes, kept-from_test}
use Rattle.model_states.proofs.NodeDamage.{buffer_there, length-damages}
use Rattle.model_states.proofs.Indices.{found_name, inputs_before, source_there}
use Rattle.model_states.proofs.Shapes.{shape_in-facts}
use Rattle.model_states.proofs.Steady.{same_body-itself, same_shape-itself}
use Rattle.model_states.proofs.Suited.{suited_at}
use Rattle.model_states.proofs.Unrolled.{indices_of}

-- ---- hulls

pub hull_symmetric : (a b : Rectangle) → IsRectangle a → IsRectangle b → hull a b ≡ hull b a
hull_symmetric a b is also = by (is_empty a) refl (is_empty b) refl
  where
    none : (r : Rectangle) → IsRectangle r → is_empty r ≡ true → r ≡ empty
    none r rect e = elim (cases_lt 0 r.width) [
      | inl wide ↦ rect.empty_height (grind (arith, nat_tests))
      | inr thin ↦ rect.empty_width (omega (arith, thin))
    ]

    by : (x : Bool) → is_empty a ≡ x → (y : Bool) → is_empty b ≡ y → hull a b ≡ hull b a
    by true e true f = let p = none a is e in let q = none b also f in rw (p, q) refl
    by true e false f = rw (e, f) refl
    by false e true f = rw (e, f) refl
    by false e false f = rw (e, f) (grind (arith, nat_tests))

empty_rectangle : IsRectangle empty
empty_rectangle = record { columns = omega arith; rows = omega arith; empty_width = λ e. refl; empty_height = λ e. refl }

box_rectangle : {Op : Type 0} (facts : List (NodeFact Op)) (i : ℕ) → AllByRecursion (λ (fact : NodeFact Op). IsRectangle fact.bounds) facts → IsRectangle (get_or (stated_shapes facts) i no_shape).box
box_rectangle [] i all = empty_rectangle
box_rectangle (fact ∷ facts) zero all = all.0
box_rectangle (fact ∷ facts) (suc i) all = box_rectangle facts i all.1

-- ---- damage by names

module _ {Op : Type 0} (same : Op → Op → Bool) (meanings : Meanings Op) where
  -- what the damage of a body's inputs invalidates, by their names
  abbrev passed_on : Change Op → List ℕ → Body Op → Rectangle
  passed_on change name (Source buffer) = meet (rectangle_of change.rectangles (root_of change.new.buffers buffer)) (side_shape change.new name).box
  passed_on change name (Compute operation inputs) = hull_of (invalidated_by meanings operation (new_boxes change inputs) (damage same meanings change) inputs)

  abbrev by_name : Change Op → List ℕ → Node Op → Rectangle
  by_name change name node =
      cond (is_unedited same change node (node_of (specs_of change.old.nodes) name)) (passed_on change name node.body)
      (hull (side_shape change.old name).box (side_shape change.new name).box)

  module _ (change : Change Op) (stated : IsStated meanings change.new) where
    abbrev nodes : List (Node Op)
    nodes = specs_of change.new.nodes

    abbrev all : List Rectangle
    all = damages same meanings change

    damages-keep : (known : List Rectangle) (rest : List (Node Op)) (i : ℕ) → i < length known → get_or (damages_after same meanings change known rest) i empty ≡ get_or known i empty
    damages-keep known [] i less = refl
    damages-keep known (node ∷ rest) i less =
        let r = damage_of_node same meanings change known node in
        damages-keep (known ++ r ∷ []) rest i (omega (arith, less, length-append known (r ∷ [])))
        ∙ get_or_append_left known (r ∷ []) empty i less

    -- the damage of a node that is there
    there : (name : List ℕ) → index_of nodes name < length nodes → damage same meanings change name ≡ get_or all (index_of nodes name) empty
    there name inside = sym (get_or_default all (index_of nodes name) empty (side_shape change.old name).box (omega (arith, inside, length-damages same meanings change)))

    hurt_known : (known : List Rectangle) (inputs : List (List ℕ)) (n : ℕ) (operation : Op) (boxes : List Rectangle) → length known ≤ length nodes →
        ((i : ℕ) → i < length known → get_or all i empty ≡ get_or known i empty) → All (λ i. i < length known) (indices_of nodes inputs) →
        map (λ (input : ℕ × List ℕ). meanings.invalidated operation boxes input.0 (known_damage change known input.1)) (enumerate_from n inputs)
        ≡ map (λ (input : ℕ × List ℕ). meanings.invalidated operation boxes input.0 (damage same meanings change input.1)) (enumerate_from n inputs)
    hurt_known known [] n operation boxes few keeps earlier = refl
    hurt_known known (input ∷ inputs) n operation boxes few keeps earlier =
        let low : index_of nodes input < length known = earlier 0 0 (omega arith) in
        let is : known_damage change known input ≡ damage same meanings change input = sym (keeps (index_of nodes input) low) ∙ sym (there input (omega (arith, low, few))) in
        ap (λ r. meanings.invalidated operation boxes n r ∷ map (λ (input : ℕ × List ℕ). meanings.invalidated operation boxes input.0 (known_damage change known input.1)) (enumerate_from (n + 1) inputs)) is
        ∙ ap (λ rest. meanings.invalidated operation boxes n (damage same meanings change input) ∷ rest)
        (hurt_known known inputs (n + 1) operation boxes few keeps (λ k d less. earlier (suc k) d (omega arith)))

    -- a node that is found, of which the damage of those before it is known
    at_node : (known : List Rectangle) (node : Node Op) → length known ≤ length nodes → ((i : ℕ) → i < length known → get_or all i empty ≡ get_or known i empty) →
        node_of nodes node.name ≡ Some node → index_of nodes node.name ≡ length known → damage_of_node same meanings change known node ≡ by_name change node.name node
    at_node known node few keeps found position = by (is_unedited same change node (node_of (specs_of change.old.nodes) node.name))
      where
        box : (new_shape change (length known)).box ≡ (side_shape change.new node.name).box
        box = ap (λ i. (new_shape change i).box) (sym position)

        passed : (body : Body Op) → node.body ≡ body → damage_passed_on meanings change known (new_shape change (length known)).box body ≡ passed_on change node.name body
        passed (Source buffer) is = ap (meet (rectangle_of change.rectangles (root_of change.new.buffers buffer))) box
        passed (Compute operation inputs) is =
            let earlier = inputs_before meanings (shapes_of_facts change.new.buffers) nodes node.name node operation inputs stated.valid found is in
            ap hull_of (hurt_known known inputs 0 operation (new_boxes change inputs) few keeps (subst (λ n. All (λ i. i < n) (indices_of nodes inputs)) position earlier))

        by : (b : Bool) → cond b (damage_passed_on meanings change known (new_shape change (length known)).box node.body) (hull (side_shape change.old node.name).box (new_shape change (length known)).box)
            ≡ cond b (passed_on change node.name node.body) (hull (side_shape change.old node.name).box (side_shape change.new node.name).box)
        by true = passed node.body refl
        by false = ap (hull (side_shape change.old node.name).box) box

    walk : (known : List Rectangle) (rest : List (Node Op)) → all ≡ damages_after same meanings change known rest → length known + length rest ≡ length nodes →
        ((i : ℕ) → slice_get nodes (length known + i) ≡ slice_get rest i) → (i : ℕ) (node : Node Op) → slice_get rest i ≡ Some node →
        index_of nodes node.name ≡ length known + i → damage same meanings change node.name ≡ by_name change node.name node
    walk known [] is count after i node found position = absurd (cc)
    walk known (first ∷ rest) is count after zero node found position =
        let here : length known + 0 ≡ length known = omega arith in
        let r = damage_of_node same meanings change known node in
        let named : first ≡ node = same_Some first node found in
        let whole : all ≡ damages_after same meanings change (known ++ r ∷ []) rest = is ∙ ap (λ (n : Node Op). damages_after same meanings change (known ++ damage_of_node same meanings change known n ∷ []) rest) named in
        let at : index_of nodes node.name ≡ length known = position ∙ here in
        let inside : length known < length (known ++ r ∷ []) = omega (arith, length-append known (r ∷ [])) in
        let own : node_of nodes node.name ≡ Some node = ap (λ k. slice_get nodes k) position ∙ after 0 ∙ found in
        there node.name (omega (arith, at, count))
        ∙ ap (λ i. get_or all i empty) at
        ∙ ap (λ (all : List Rectangle). get_or all (length known) empty) whole
        ∙ damages-keep (known ++ r ∷ []) rest (length known) inside
        ∙ get_or_at known r [] empty (length known) refl
        ∙ at_node known node (omega (arith, count))
        (λ i less. ap (λ (all : List Rectangle). get_or all i empty) is ∙ damages-keep known (first ∷ rest) i less) own at
    walk known (first ∷ rest) is count after (suc i) node found position =
        let r = damage_of_node same meanings change known first in
        let longer : length (known ++ r ∷ []) ≡ length known + 1 = length-append known (r ∷ []) in
        walk (known ++ r ∷ []) rest is (omega (arith, longer, count))
        (λ k. ap (λ n. slice_get nodes n) (let e : length (known ++ r ∷ []) + k ≡ length known + suc k = omega (arith, longer) in e) ∙ after (suc k))
        i node found (omega (arith, longer, position))

    pub damage_named : (name : List ℕ) (node : Node Op) → node_of nodes name ≡ Some node → damage same meanings change name ≡ by_name change name node
    damage_named name node found =
        let named : node.name ≡ name = found_name nodes name node found in
        let start : (k : ℕ) → slice_get nodes (0 + k) ≡ slice_get nodes k = λ k. ap (λ n. slice_get nodes n) (let e : 0 + k ≡ k = omega arith in e) in
        subst (λ n. damage same meanings change n ≡ by_name change n node) named
        (walk [] nodes refl (omega arith) start (index_of nodes name) node found (let e : index_of nodes name ≡ 0 + index_of nodes name = omega arith in ap (index_of nodes) named ∙ e))

    -- and of one that is not
    pub damage_absent : (name : List ℕ) → length nodes ≤ index_of nodes name → damage same meanings change name ≡ (side_shape change.old name).box
    damage_absent name past = get_or_past all (index_of nodes name) (side_shape change.old name).box (omega (arith, past, length-damages same meanings change))

-- ---- both sides

reverse_named : {Op : Type 0} (change : Change Op) (names : List (List ℕ)) → SameShapes change names → have_same_shapes (reversed change) names ≡ true
reverse_named change [] shapes = refl
reverse_named change (name ∷ names) shapes =
    let is : same_shape (side_shape change.new name) (side_shape change.old name) ≡ true =
    ap (same_shape (side_shape change.new name)) shapes.0 ∙ same_shape-itself (side_shape change.new name) in
    ap (λ b. b && have_same_shapes (reversed change) names) is ∙ reverse_named change names shapes.1

boxes_reversed : {Op : Type 0} (change : Change Op) (names : List (List ℕ)) → SameShapes change names → new_boxes (reversed change) names ≡ new_boxes change names
boxes_reversed change [] shapes = refl
boxes_reversed change (name ∷ names) shapes =
    ap (λ (s : Shape). s.box ∷ new_boxes (reversed change) names) shapes.0
    ∙ ap (λ boxes. (side_shape change.new name).box ∷ boxes) (boxes_reversed change names shapes.1)

steady_back : (old new : Facts) → AreSteady old new → AreSteady new old
steady_back old new steady name b a again found = let is = steady name a b found again in record { root = sym is.root; shape = sym is.shape }

-- what both tables have of a buffer
same_fact : (o p : Option BufferFact) → IsSome o → IsSome p → ((a b : BufferFact) → o ≡ Some a → p ≡ Some b → (a.root ≡ b.root) × (shape_of_fact a ≡ shape_of_fact b)) →
    (unwrap_or (option_map (λ (fact : BufferFact). fact.root) o) [] ≡ unwrap_or (option_map (λ (fact : BufferFact). fact.root) p) []) × (option_map shape_of_fact o ≡ option_map shape_of_fact p)
same_fact None p there again same = absurd (cc)
same_fact (Some a) None there again same = absurd (cc)
same_fact (Some a) (Some b) there again same = let is = same a b refl refl in (is.0, ap Some is.1)

module _ {Op : Type 0} (same : Op → Op → Bool) (meanings : Meanings Op) (equality : IsEquality same) where
  -- a node that is kept is kept from the other side
  kept_back : (change : Change Op) (name : List ℕ) (node : Node Op) → node_of (specs_of change.new.nodes) name ≡ Some node →
      (kept : KeptFrom change node (node_of (specs_of change.old.nodes) name)) → is_unedited same (reversed change) kept.old (node_of (specs_of change.new.nodes) name) ≡ true
  kept_back change name node found kept =
      let bodies : same_body same node.body kept.old.body ≡ true = ap (same_body same node.body) kept.body ∙ same_body-itself same equality.itself node.body in
      let shapes : have_same_shapes (reversed change) (inputs_of kept.old.body) ≡ true =
      ap (λ (body : Body Op). have_same_shapes (reversed change) (inputs_of body)) kept.body ∙ reverse_named change (inputs_of node.body) kept.shapes in
      ap (is_unedited same (reversed change) kept.old) found
      ∙ ap (λ b. b && have_same_shapes (reversed change) (inputs_of kept.old.body)) bodies
      ∙ shapes

  module _ (change : Change Op) (stated : IsStatedChange meanings change) (old_boxes : HaveRectangles change.old) (new_rectangles : HaveRectangles change.new) where
    abbrev back : Change Op
    back = reversed change

    abbrev news : List (Node Op)
    news = specs_of change.new.nodes

    abbrev olds : List (Node Op)
    olds = specs_of change.old.nodes

    -- the damages of these names are the same from both sides
    abbrev AreSame : ℕ → Type 0
    AreSame n = (name : List ℕ) → index_of news name < n → damage same meanings back name ≡ damage same meanings change name

    inputs_same : (operation : Op) (boxes : List Rectangle) (n : ℕ) (inputs : List (List ℕ)) (k : ℕ) → AreSame n → All (λ i. i < n) (indices_of news inputs) →
        map (λ (input : ℕ × List ℕ). meanings.invalidated operation boxes input.0 (damage same meanings back input.1)) (enumerate_from k inputs)
        ≡ map (λ (input : ℕ × List ℕ). meanings.invalidated operation boxes input.0 (damage same meanings change input.1)) (enumerate_from k inputs)
    inputs_same operation boxes n [] k are earlier = refl
    inputs_same operation boxes n (input ∷ inputs) k are earlier =
        ap (λ r. meanings.invalidated operation boxes k r ∷ map (λ (input : ℕ × List ℕ). meanings.invalidated operation boxes input.0 (damage same meanings back input.1)) (enumerate_from (k + 1) inputs)) (are input (earlier 0 0 (omega arith)))
        ∙ ap (λ rest. meanings.invalidated operation boxes k (damage same meanings change input) ∷ rest)
        (inputs_same operation boxes n inputs (k + 1) are (λ i d less. earlier (suc i) d (omega arith)))

    -- the shape of a source, on a side
    source_shape : (side : Side Op) → IsStated meanings side → (name : List ℕ) (node : Node Op) (buffer : List ℕ) → node_of (specs_of side.nodes) name ≡ Some node → node.body ≡ Source buffer →
        side_shape side name ≡ unwrap_or (option_map shape_of_fact (fact_of side.buffers buffer)) no_shape
    source_shape side is name node buffer found body =
        let suited = suited_at meanings (shapes_of_facts side.buffers) (specs_of side.nodes) (index_of (specs_of side.nodes) name) node is.valid found in
        ap (λ shapes. get_or shapes (index_of (specs_of side.nodes) name) no_shape) is.shapes
        ∙ suited.shape
        ∙ ap (λ (body : Body Op). step_shape meanings (shapes_of_facts side.buffers) (shapes_of meanings (shapes_of_facts side.buffers) (specs_of side.nodes)) (step_of (specs_of side.nodes) body)) body
        ∙ ap (λ o. unwrap_or o no_shape) (shape_in-facts side.buffers buffer)

    -- what passes on to a node that is kept
    kept_same : (name : List ℕ) (node : Node Op) → node_of news name ≡ Some node → AreSame (index_of news name) → (kept : KeptFrom change node (node_of olds name)) →
        passed_on same meanings back name kept.old.body ≡ passed_on same meanings change name node.body
    kept_same name node found are kept = ap (passed_on same meanings back name) kept.body ∙ of node.body refl
      where
        of : (body : Body Op) → node.body ≡ body → passed_on same meanings back name body ≡ passed_on same meanings change name body
        of (Source buffer) is =
            let was : IsSome (fact_of change.old.buffers buffer) =
            buffer_there change.old.buffers buffer (source_there meanings (shapes_of_facts change.old.buffers) olds name kept.old buffer stated.old.valid kept.found_is (kept.body ∙ is)) in
            let now : IsSome (fact_of change.new.buffers buffer) =
            buffer_there change.new.buffers buffer (source_there meanings (shapes_of_facts change.new.buffers) news name node buffer stated.new.valid found is) in
            let both = same_fact (fact_of change.old.buffers buffer) (fact_of change.new.buffers buffer) was now
            (λ a b f g. let s = stated.steady buffer a b f g in (s.root, s.shape)) in
            let shape : side_shape change.old name ≡ side_shape change.new name =
            source_shape change.old stated.old name kept.old buffer kept.found_is (kept.body ∙ is)
            ∙ ap (λ o. unwrap_or o no_shape) both.1
            ∙ sym (source_shape change.new stated.new name node buffer found is) in
            ap (λ root. meet (rectangle_of change.rectangles root) (side_shape change.old name).box) both.0
            ∙ ap (λ (s : Shape). meet (rectangle_of change.rectangles (root_of change.new.buffers buffer)) s.box) shape
        of (Compute operation inputs) is =
            let shapes = subst (λ (body : Body Op). SameShapes change (inputs_of body)) is kept.shapes in
            let earlier = inputs_before meanings (shapes_of_facts change.new.buffers) news name node operation inputs stated.new.valid found is in
            ap (λ boxes. hull_of (invalidated_by meanings operation boxes (damage same meanings back) inputs)) (boxes_reversed change inputs shapes)
            ∙ ap hull_of (inputs_same operation (new_boxes change inputs) (index_of news name) inputs 0 are earlier)

    -- a name of no node has the shape of no image
    no_node : (side : Side Op) (name : List ℕ) → length (specs_of side.nodes) ≤ index_of (specs_of side.nodes) name → side_shape side name ≡ no_shape
    no_node side name past =
        let shape : NodeFact Op → Shape = λ fact. stated_shape fact in
        let spec : NodeFact Op → Node Op = λ fact. fact.spec in
        get_or_past (stated_shapes side.nodes) (index_of (specs_of side.nodes) name) no_shape
        (omega (arith, past, length-map side.nodes shape, length-map side.nodes spec))

    -- the node of a name, or there is none
    by_node : (P : Type 0) (list : List (Node Op)) (name : List ℕ) → ((node : Node Op) → node_of list name ≡ Some node → P) → (length list ≤ index_of list name → node_of list name ≡ None → P) → P
    by_node P list name found lost = of (node_of list name) refl
      where
        past : (list : List (Node Op)) (i : ℕ) → slice_get list i ≡ None → length list ≤ i
        past [] i none = omega arith
        past (x ∷ list) zero none = absurd (cc)
        past (x ∷ list) (suc i) none = let rest = past list i none in omega (arith, rest)

        of : (o : Option (Node Op)) → node_of list name ≡ o → P
        of None none = lost (past list (index_of list name) none) none
        of (Some node) is = found node is

    abbrev IsSame : List ℕ → Type 0
    IsSame name = damage same meanings back name ≡ damage same meanings change name

    -- a new node
    new_same : (name : List ℕ) (node : Node Op) → node_of news name ≡ Some node → AreSame (index_of news name) → IsSame name
    new_same name node found are =
        by (is_unedited same change node (node_of olds name)) refl (damage_named same meanings change stated.new name node found)
      where
        -- from the other side it is edited too
        edited : (onode : Node Op) → node_of olds name ≡ Some onode → is_unedited same change node (node_of olds name) ≡ false → (b : Bool) →
            is_unedited same back onode (node_of news name) ≡ b → cond b (passed_on same meanings back name onode.body) (hull (side_shape change.new name).box (side_shape change.old name).box) ≡ hull (side_shape change.old name).box (side_shape change.new name).box
        edited onode was e true f =
            let from = kept-from_test same back onode (node_of news name) equality.apart f in
            let again : is_unedited same change from.old (node_of olds name) ≡ true = kept_back back name onode was from in
            let is : from.old ≡ node = cc (from.found_is, found) in
            absurd (cc (e, again, ap (λ (n : Node Op). is_unedited same change n (node_of olds name)) is))
        edited onode was e false f =
            hull_symmetric (side_shape change.new name).box (side_shape change.old name).box
            (box_rectangle change.new.nodes (index_of news name) new_rectangles)
            (box_rectangle change.old.nodes (index_of olds name) old_boxes)

        by : (b : Bool) → is_unedited same change node (node_of olds name) ≡ b →
            damage same meanings change name ≡ cond b (passed_on same meanings change name node.body) (hull (side_shape change.old name).box (side_shape change.new name).box) → IsSame name
        by true e is =
            let kept = kept-from_test same change node (node_of olds name) equality.apart e in
            damage_named same meanings back stated.old name kept.old kept.found_is
            ∙ ap (λ b. cond b (passed_on same meanings back name kept.old.body) (hull (side_shape change.new name).box (side_shape change.old name).box)) (kept_back change name node found kept)
            ∙ kept_same name node found are kept
            ∙ sym is
        by false e is =
            by_node (IsSame name) olds name
            (λ onode was.
            damage_named same meanings back stated.old name onode was
            ∙ edited onode was e (is_unedited same back onode (node_of news name)) refl
            ∙ sym is)
            (λ past none.
            damage_absent same meanings back stated.old name past
            ∙ sym (ap (λ (s : Shape). hull s.box (side_shape change.new name).box) (no_node change.old name past))
            ∙ sym is)

    -- a name that is in no new node
    gone_same : (name : List ℕ) → length news ≤ index_of news name → node_of news name ≡ None → IsSame name
    gone_same name past none =
        let nothing : side_shape change.new name ≡ no_shape = no_node change.new name past in
        let is = damage_absent same meanings change stated.new name past in
        by_node (IsSame name) olds name
        (λ onode was.
        damage_named same meanings back stated.old name onode was
        ∙ ap (λ (found : Option (Node Op)). cond (is_unedited same back onode found) (passed_on same meanings back name onode.body) (hull (side_shape change.new name).box (side_shape change.old name).box)) none
        ∙ ap (λ (s : Shape). hull s.box (side_shape change.old name).box) nothing
        ∙ sym is)
        (λ also absent.
        damage_absent same meanings back stated.old name also
        ∙ ap (λ (s : Shape). s.box) (nothing ∙ sym (no_node change.old name also))
        ∙ sym is)

    at_name : (name : List ℕ) → AreSame (index_of news name) → IsSame name
    at_name name are = by_node (IsSame name) news name (λ node found. new_same name node found are) (λ past none. gone_same name past none)

    all_same : (n : ℕ) → AreSame n
    all_same zero name less = absurd (omega (arith, less))
    all_same (suc n) name less = elim (cases_lt (index_of news name) n) [
      | inl before ↦ all_same n name before
      | inr at ↦
          let is : n ≡ index_of news name = omega (arith, less, at) in
          at_name name (subst AreSame is (all_same n))
    ]

    pub symmetric : (name : List ℕ) → damage same meanings back name ≡ damage same meanings change name
    symmetric name = at_name name (all_same (index_of news name))
