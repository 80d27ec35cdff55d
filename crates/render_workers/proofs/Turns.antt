-- What one turn of the loop over strips meets.
use Rattle.std.proofs.Common.{◌≡◌, ℕ, suc, ◌+◌, ◌^◌, ◌<◌, ◌≤◌, List, [], ◌∷◌, ◌++◌, map, take, drop, length, get_or, zero, Some, refl, sym, ap, ◌∙◌, subst, arith, length-append, Contains}
use Rattle.std.specs.Prelude.{slice_get}
use Rattle.std.specs.List.{AllByRecursion, range_with_len}
use Rattle.std.proofs.lemmas.List.{length-map}
use Rattle.std.proofs.lemmas.List.Elements.{All-drop, recursion_from_All}
use Rattle.std.proofs.lemmas.Option.{same_Some, slice_get-get_or}
use Rattle.plane_rect.specs.Rectangle.{InLimits, Rectangle, meet}
use Rattle.plane_rect.specs.Tile.{tile_lines, tile_of, strip_rectangles, tile_line}
use Rattle.plane_rect.proofs.Lists.{All-from_contains}
use Rattle.model_graphs.specs.declared.node.NodeFact.{NodeFact}
use Rattle.model_graphs.specs.Facts.{specs_of}
use Rattle.model_graphs.specs.Meanings.{Meanings}
use Rattle.model_states.specs.declared.strip.Strip.{Strip}
use Rattle.model_states.specs.Cache.{Pair, pair_of}
use Rattle.model_states.specs.Need.{need, strip_of}
use Rattle.op_contracts.proofs.Limits.{InLimits-meet}
use Rattle.strip_renders.specs.Ahead.{AreNext, MadeTiles}
use Rattle.strip_renders.specs.Moments.{RenderState}
use Rattle.strip_renders.specs.Strips.{IsStripOf, needed_from, pairs_needed}
use Rattle.strip_renders.proofs.Nexts.{next-few}
use Rattle.strip_patches.specs.Shown.{AreOfOneRequest}
use Rattle.strip_patches.specs.declared.picture_strips.PictureStrips.{PictureStrips}
use Rattle.render_workers.specs.Parts.{LooksUp}
use Rattle.render_workers.proofs.Joined.{looks-count}
use Rattle.render_workers.proofs.Needs.{pairs-from, pairs-parted, pairs_of}

-- ---- the picture of the request

pub of-one : (a b c : PictureStrips) → AreOfOneRequest a b → AreOfOneRequest b c → AreOfOneRequest a c
of-one a b c one two = record {
  rect = two.rect ∙ one.rect;
  at_level = two.at_level ∙ one.at_level;
  source = two.source ∙ one.source;
  format = two.format ∙ one.format;
  patch = two.patch ∙ one.patch;
}

-- ---- tiles that are ahead

-- there are none where nothing is needed
pub next-past : {Op : Type 0} (nodes : List (NodeFact Op)) (pairs : List Pair) (made : MadeTiles) → AreNext nodes pairs [] made → made ≡ []
next-past nodes pairs [] next = refl
next-past nodes pairs (m ∷ made) next = let few = next-few nodes pairs [] (m ∷ made) next in absurd (omega (arith, few))

-- ---- its strips

-- an element of mapped ones is that of one of the others
mapped-at : {X Y : Type 0} (f : X → Y) (xs : List X) (i : ℕ) (y : Y) → slice_get (map f xs) i ≡ Some y → (x : X) × (slice_get xs i ≡ Some x) × (y ≡ f x)
mapped-at f [] i y found = absurd (cc found)
mapped-at f (x ∷ xs) zero y found = (x, refl, sym (same_Some (f x) y found))
mapped-at f (x ∷ xs) (suc i) y found = mapped-at f xs i y found

module _ {Op : Type 0} (meanings : Meanings Op) (nodes : List (NodeFact Op)) (node : ℕ) (request : Rectangle) (plan : List Strip) (planned : plan ≡ need meanings nodes node request) where
  -- each of those after one is a strip of a request
  pub strips-later : (n : ℕ) (later : List Strip) → later ≡ drop n plan → AllByRecursion (IsStripOf meanings nodes) later
  strips-later n later after =
      subst (AllByRecursion (IsStripOf meanings nodes)) (sym after)
      (recursion_from_All (IsStripOf meanings nodes) (drop n plan)
      (All-drop (IsStripOf meanings nodes) n plan
      (All-from_contains (IsStripOf meanings nodes) plan (λ strip at. (node, request, subst (λ (list : List Strip). Contains list strip) planned at)))))

  module _ (strip : Strip) (i : ℕ) (inside : i < length plan) (is : strip ≡ get_or plan i strip) where
    item-at : (r : Rectangle) × (slice_get (strip_rectangles request) i ≡ Some r) × (strip ≡ strip_of meanings nodes node r)
    item-at =
        mapped-at (strip_of meanings nodes node) (strip_rectangles request) i strip
        (subst (λ (list : List Strip). slice_get list i ≡ Some strip) planned (slice_get-get_or plan i strip inside ∙ ap Some (sym is)))

    -- its rectangle
    pub item-found : slice_get (strip_rectangles request) i ≡ Some strip.rect
    item-found = item-at.1 ∙ ap (λ (s : Strip). Some s.rect) (sym item-at.2)

    -- it is in limits where that of the request is
    pub item-limits : InLimits request → InLimits strip.rect
    item-limits limits = by (range_with_len (tile_of request.first_row) (tile_lines request)) i item-found
      where
        by : (rows : List ℕ) (n : ℕ) → slice_get (map (λ row. meet request (tile_line row)) rows) n ≡ Some strip.rect → InLimits strip.rect
        by [] n found = absurd (cc found)
        by (row ∷ rows) zero found = subst InLimits (same_Some (meet request (tile_line row)) strip.rect found) (InLimits-meet request (tile_line row) limits)
        by (row ∷ rows) (suc n) found = by rows n found

    pub item-rect : strip ≡ strip_of meanings nodes node strip.rect
    item-rect = item-at.2 ∙ ap (λ (s : Strip). strip_of meanings nodes node s.rect) (sym item-at.2)

    pub item-strip : IsStripOf meanings nodes strip
    item-strip = (node, request, subst (λ (list : List Strip). Contains list strip) planned (i, inside, sym is))

module _ {Op : Type 0} (meanings : Meanings Op) (nodes : List (NodeFact Op)) (plan : List Strip) (i : ℕ) (strip : Strip) (later : List Strip)
    (inside : i < length plan) (is : strip ≡ get_or plan i strip) (after : later ≡ drop (i + 1) plan) where
  abbrev all : List Pair
  all = pairs_of nodes plan

  abbrev before : List Pair
  before = pairs_of nodes (take i plan)

  abbrev mine : List Pair
  mine = pairs_needed nodes strip.need

  abbrev rest : List Pair
  rest = pairs_of nodes later

  lengths : length before + (length mine + length rest) ≡ length all
  lengths = omega (arith, ap length (pairs-parted nodes plan i strip later inside is after), length-append before (mine ++ rest), length-append mine rest)

  module _ (first now : RenderState) (made : MadeTiles) (applied reused : ℕ) (looks : LooksUp meanings nodes before applied reused first now [] made) where
    count : applied + reused ≡ length before
    count = looks-count meanings nodes before applied reused first now [] made looks

    -- permits are left for the strip and those after it
    pub item-permits : length all < 2 ^ 32 → 2 ^ 32 ≤ first.permits → length (needed_from strip later 0) ≤ now.permits + length made
    item-permits few many =
        let needed = needed_from strip later 0 in
        let own : length (pairs_needed nodes needed) ≡ length needed = length-map needed (pair_of (specs_of nodes)) in
        omega (arith, few, many, count, lengths, own, ap length (pairs-from nodes strip later), length-append mine rest, looks.permits)

    -- the counts stay small
    pub sums-small : (next : RenderState) (made' : MadeTiles) (applied' reused' : ℕ) → LooksUp meanings nodes mine applied' reused' now next made made' → length all < 2 ^ 32
        → applied + reused + (applied' + reused') < 2 ^ 32
    sums-small next made' applied' reused' more few =
        let own : applied' + reused' ≡ length mine = looks-count meanings nodes mine applied' reused' now next made made' more in
        omega (arith, few, count, lengths, own)
