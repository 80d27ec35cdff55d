-- A void per damage entry leaves what the damage leaves.
use Rattle.std.proofs.Common.{◌≡◌, ℕ, ◌+◌, Bool, true, false, not, ◌&&◌, ◌||◌, cond, List, [], ◌∷◌, ◌++◌, map, filter, length, refl, sym, ap, ◌∙◌, arith, Some, unwrap_or}
use Rattle.std.specs.List.{AllByRecursion, list_any}
use Rattle.std.specs.Map.{lookup}
use Rattle.std.specs.Str.{bytes_eq}
use Rattle.std.proofs.lemmas.Bool.Decides.{nat_tests}
use Rattle.std.proofs.lemmas.List.{get_or_past, length-map}
use Rattle.std.proofs.lemmas.Slice.Eq.{bytes_eq-Decides}
use Rattle.plane_rect.specs.Rectangle.{Rectangle, empty}
use Rattle.plane_rect.specs.Tile.{Tile, meets}
use Rattle.model_graphs.specs.Facts.{specs_of, stated_shape, stated_shapes}
use Rattle.model_graphs.specs.declared.node.NodeFact.{NodeFact}
use Rattle.model_graphs.specs.Meanings.{Meanings}
use Rattle.model_graphs.specs.Node.{Node, index_of}
use Rattle.model_graphs.specs.Shapes.{Shape, no_shape}
use Rattle.model_states.specs.Cache.{Pair, all_voided, voided, without_damaged}
use Rattle.model_states.specs.Damage.{Change, damage, damage_list, damages, gone_names, side_shape}
use Rattle.model_states.specs.Edits.{has_node}
use Rattle.model_states.specs.Rectangles.{rectangle_of}
use Rattle.model_states.specs.Valid.{node_names}
use Rattle.model_states.proofs.NodeDamage.{length-damages}
use Rattle.model_states.proofs.PrefixLaws.{before_name, index_of-is}

-- ---- names

bytes-false : (a b : List ℕ) → (r : Bool) → bytes_eq a b ≡ r → bytes_eq b a ≡ false → r ≡ false
bytes-false a b true e apart = let same : a ≡ b = (bytes_eq-Decides a b).0 e in cc (apart, (bytes_eq-Decides b a).1 (sym same))
bytes-false a b false e apart = refl

-- the test, from the other side
apart-back : (a b : List ℕ) → bytes_eq b a ≡ false → bytes_eq a b ≡ false
apart-back a b apart = let is = bytes-false a b (bytes_eq a b) refl apart in is

-- a name is none of these
abbrev IsNone : List ℕ → List (List ℕ) → Type 0
IsNone name names = AllByRecursion (λ other. bytes_eq name other ≡ false) names

module _ {Op : Type 0} where
  before_none : (nodes : List (Node Op)) (name : List ℕ) → IsNone name (node_names nodes) → before_name nodes name ≡ length nodes
  before_none [] name none = refl
  before_none (node ∷ nodes) name none =
      ap (λ b. cond (not b) (1 + before_name nodes name) 0) (apart-back node.name name none.0)
      ∙ (let rest = before_none nodes name none.1 in omega (arith, rest))

  pub index_none : (nodes : List (Node Op)) (name : List ℕ) → IsNone name (node_names nodes) → index_of nodes name ≡ length nodes
  index_none nodes name none = index_of-is nodes name ∙ before_none nodes name none

  -- a name that is none of the nodes', and none of those of others that they lack, is none of the others'
  none_gone : (name : List ℕ) (nodes : List (Node Op)) (others : List (List ℕ)) → has_node nodes name ≡ false →
      IsNone name (filter (λ other. not (has_node nodes other)) others) → IsNone name others
  none_gone name nodes [] lacks none = tt
  none_gone name nodes (other ∷ others) lacks none = by (bytes_eq name other) refl (has_node nodes other) refl none (none_gone name nodes others lacks)
    where
      rest : List (List ℕ)
      rest = filter (λ other. not (has_node nodes other)) others

      by : (same : Bool) → bytes_eq name other ≡ same → (has : Bool) → has_node nodes other ≡ has → IsNone name (cond (not has) (other ∷ rest) rest) →
          (IsNone name rest → IsNone name others) → IsNone name (other ∷ others)
      by true e true has none later =
          let is : name ≡ other = (bytes_eq-Decides name other).0 e in
          absurd (cc (lacks, has, ap (has_node nodes) is))
      by true e false has none later = absurd (cc (e, none.0))
      by false e true has none later = (e, later none)
      by false e false has none later = (e, later none.1)

none_split : (name : List ℕ) (xs ys : List (List ℕ)) → IsNone name (xs ++ ys) → IsNone name xs × IsNone name ys
none_split name [] ys none = (tt, none)
none_split name (x ∷ xs) ys none = let rest = none_split name xs ys none.1 in ((none.0, rest.0), rest.1)

-- ---- rectangles by a function of names

-- a name is there, or none of these
record IsListed (f : List ℕ → Rectangle) (names : List (List ℕ)) (name : List ℕ) : Type 0 where
  there : list_any (λ other. bytes_eq name other) names ≡ true → rectangle_of (map (λ n. (n, f n)) names) name ≡ f name
  none : list_any (λ other. bytes_eq name other) names ≡ false → IsNone name names × (rectangle_of (map (λ n. (n, f n)) names) name ≡ empty)

listed : (f : List ℕ → Rectangle) (names : List (List ℕ)) (name : List ℕ) → IsListed f names name
listed f [] name = record { there = λ some. absurd (cc); none = λ none. (tt, refl) }
listed f (other ∷ names) name = by (bytes_eq name other) refl (listed f names name)
  where
    more : List (List ℕ × Rectangle)
    more = map (λ n. (n, f n)) names

    by : (b : Bool) → bytes_eq name other ≡ b → IsListed f names name → IsListed f (other ∷ names) name
    by true e rest =
        let is : name ≡ other = (bytes_eq-Decides name other).0 e in
        record {
          there = λ some. ap (λ b. unwrap_or (cond b (Some (f other)) (lookup (bytes_eq name) more)) empty) e ∙ ap f (sym is);
          none = λ none. absurd (cc (e, none));
        }
    by false e rest =
        let later : (b : Bool) → list_any (λ other. bytes_eq name other) (other ∷ names) ≡ b → list_any (λ other. bytes_eq name other) names ≡ b =
        λ b some. ap (λ c. c || list_any (λ other. bytes_eq name other) names) (sym e) ∙ some in
        record {
          there = λ some. ap (λ b. unwrap_or (cond b (Some (f other)) (lookup (bytes_eq name) more)) empty) e ∙ rest.there (later true some);
          none = λ none.
              let others = rest.none (later false none) in
              ((e, others.0), ap (λ b. unwrap_or (cond b (Some (f other)) (lookup (bytes_eq name) more)) empty) e ∙ others.1);
        }

-- ---- the damage of all nodes

module _ {Op : Type 0} (same : Op → Op → Bool) (meanings : Meanings Op) (change : Change Op) where
  abbrev names : List (List ℕ)
  names = node_names (specs_of change.new.nodes) ++ gone_names change

  -- a name of no node of either state has no damage
  undamaged : (name : List ℕ) → IsNone name names → damage same meanings change name ≡ empty
  undamaged name none =
      let new = specs_of change.new.nodes in
      let old = specs_of change.old.nodes in
      let apart = none_split name (node_names new) (gone_names change) none in
      let past : index_of new name ≡ length new = index_none new name apart.0 in
      let lacks : has_node new name ≡ false = grind (arith, nat_tests, past) in
      let absent : index_of old name ≡ length old = index_none old name (none_gone name new (node_names old) lacks apart.1) in
      let shape : NodeFact Op → Shape = λ fact. stated_shape fact in
      let spec : NodeFact Op → Node Op = λ fact. fact.spec in
      get_or_past (damages same meanings change) (index_of new name) (side_shape change.old name).box
      (omega (arith, past, length-damages same meanings change))
      ∙ ap (λ (s : Shape). s.box)
      (get_or_past (stated_shapes change.old.nodes) (index_of old name) no_shape
      (omega (arith, absent, length-map change.old.nodes shape, length-map change.old.nodes spec)))

  pub listed_damage : (name : List ℕ) → rectangle_of (damage_list same meanings change) name ≡ damage same meanings change name
  listed_damage name = by (list_any (λ other. bytes_eq name other) names) refl
    where
      by : (b : Bool) → list_any (λ other. bytes_eq name other) names ≡ b → rectangle_of (damage_list same meanings change) name ≡ damage same meanings change name
      by true some = (listed (damage same meanings change) names name).there some
      by false none =
          let apart = (listed (damage same meanings change) names name).none none in
          apart.1 ∙ sym (undamaged name apart.0)

-- ---- voids

meets_empty : (t : Tile) → meets t empty ≡ false
meets_empty t = grind (arith, nat_tests)

two_filters : {X : Type 0} (p q r : X → Bool) → ((x : X) → r x ≡ cond (q x) (p x) false) → (xs : List X) → filter p (filter q xs) ≡ filter r xs
two_filters p q r same [] = refl
two_filters {X} p q r same (x ∷ xs) = by (q x) (p x) refl (same x) (two_filters p q r same xs)
  where
    twice : List X
    twice = filter p (filter q xs)

    once : List X
    once = filter r xs

    by : (a b : Bool) → p x ≡ b → r x ≡ cond a b false → twice ≡ once → filter p (cond a (x ∷ filter q xs) (filter q xs)) ≡ cond (r x) (x ∷ once) once
    by true true e is rest = ap (λ b. cond b (x ∷ twice) twice) e ∙ ap (λ l. x ∷ l) rest ∙ sym (ap (λ b. cond b (x ∷ once) once) is)
    by true false e is rest = ap (λ b. cond b (x ∷ twice) twice) e ∙ rest ∙ sym (ap (λ b. cond b (x ∷ once) once) is)
    by false b e is rest = rest ∙ sym (ap (λ b. cond b (x ∷ once) once) is)

module _ {X : Type 0} (key : X → Pair) (f : List ℕ → Rectangle) where
  -- what stays when these names' tiles are voided
  abbrev stays : List (List ℕ) → X → Bool
  stays names x = not (list_any (λ name. bytes_eq name (key x).node) names && meets (key x).tile (f (key x).node))

  one_more : (name : List ℕ) (names : List (List ℕ)) (x : X) → stays (name ∷ names) x ≡ cond (not (bytes_eq name (key x).node && meets (key x).tile (f name))) (stays names x) false
  one_more name names x = by (bytes_eq name (key x).node) refl (list_any (λ name. bytes_eq name (key x).node) names) (meets (key x).tile (f (key x).node)) refl
    where
      by : (a : Bool) → bytes_eq name (key x).node ≡ a → (l m : Bool) → meets (key x).tile (f (key x).node) ≡ m →
          not ((a || l) && m) ≡ cond (not (a && meets (key x).tile (f name))) (not (l && m)) false
      by true e l m met =
          let is : name ≡ (key x).node = (bytes_eq-Decides name (key x).node).0 e in
          let here : meets (key x).tile (f name) ≡ m = ap (λ n. meets (key x).tile (f n)) is ∙ met in
          both l m ∙ ap (λ h. cond (not h) (not (l && m)) false) (sym here)
        where
          both : (l m : Bool) → not m ≡ cond (not m) (not (l && m)) false
          both true true = refl
          both true false = refl
          both false true = refl
          both false false = refl
      by false e l m met = refl

  all_names : (names : List (List ℕ)) (list : List X) → all_voided key list (map (λ n. (n, f n)) names) ≡ filter (stays names) list
  all_names [] list = kept list
    where
      kept : (list : List X) → list ≡ filter (stays []) list
      kept [] = refl
      kept (x ∷ list) = ap (λ l. x ∷ l) (kept list)
  all_names (name ∷ names) list =
      all_names names (voided key list name (f name))
      ∙ two_filters (stays names) (λ x. not (bytes_eq name (key x).node && meets (key x).tile (f name))) (stays (name ∷ names)) (one_more name names) list

  -- what stays where the names that are none of these have no rectangle
  pub voids_leave : (names : List (List ℕ)) → ((name : List ℕ) → IsNone name names → f name ≡ empty) → (list : List X) →
      all_voided key list (map (λ n. (n, f n)) names) ≡ without_damaged key f list
  voids_leave names outside list = all_names names list ∙ of list
    where
      none_of : (node : List ℕ) (names : List (List ℕ)) → list_any (λ name. bytes_eq name node) names ≡ false → IsNone node names
      none_of node [] none = tt
      none_of node (name ∷ names) none = pair (bytes_eq name node) refl none (none_of node names)
        where
          pair : (b : Bool) → bytes_eq name node ≡ b → (b || list_any (λ name. bytes_eq name node) names) ≡ false →
              (list_any (λ name. bytes_eq name node) names ≡ false → IsNone node names) → IsNone node (name ∷ names)
          pair true e none rest = absurd (cc)
          pair false e none rest = (apart-back node name e, rest none)

      test : (x : X) (b : Bool) → list_any (λ name. bytes_eq name (key x).node) names ≡ b → not (b && meets (key x).tile (f (key x).node)) ≡ not (meets (key x).tile (f (key x).node))
      test x true some = refl
      test x false none =
          let nothing : f (key x).node ≡ empty = outside (key x).node (none_of (key x).node names none) in
          sym (ap not (ap (meets (key x).tile) nothing ∙ meets_empty (key x).tile))

      of : (list : List X) → filter (stays names) list ≡ without_damaged key f list
      of [] = refl
      of (x ∷ list) =
          let t = test x (list_any (λ name. bytes_eq name (key x).node) names) refl in
          ap (λ b. cond b (x ∷ filter (stays names) list) (filter (stays names) list)) t
          ∙ ap (λ l. cond (not (meets (key x).tile (f (key x).node))) (x ∷ l) l) (of list)

-- a void per entry of the damage of all nodes
pub damage_voids : {X Op : Type 0} (key : X → Pair) (same : Op → Op → Bool) (meanings : Meanings Op) (change : Change Op) (list : List X) →
    all_voided key list (damage_list same meanings change) ≡ without_damaged key (damage same meanings change) list
damage_voids key same meanings change list =
    voids_leave key (damage same meanings change) (names same meanings change) (undamaged same meanings change) list
