-- Tables of buffers of which one root is changed.
use Rattle.std.proofs.Common.{◌≡◌, ◌≢◌, ℕ, zero, suc, ◌<◌, Bool, true, false, cond, List, [], ◌∷◌, ◌++◌, All, length, map, get_or, Option, Some, None, refl, sym, ap, subst, ◌∙◌, arith}
use Rattle.std.specs.Prelude.{slice_get}
use Rattle.std.specs.Option.{option_map}
use Rattle.std.specs.Str.{bytes_eq}
use Rattle.std.proofs.Math.ListN.{set}
use Rattle.chain_owners.specs.Held.{Held}
use Rattle.chain_owners.specs.Owners.{Owns, Respects}
use Rattle.chain_owners.proofs.Ownership.{others-own, owns-fewer, respects-beside, times-append}
use Rattle.model_buffers.specs.Edits.{written}
use Rattle.model_buffers.specs.Layout.{AreDistinct, TableLayout}
use Rattle.model_buffers.specs.Table.{Table}
use Rattle.model_buffers.proofs.FindLaws.{apart_test, same_name}
use Rattle.model_graphs.specs.Shapes.{Shape}
use Rattle.model_images.specs.Image.{Image}
use Rattle.model_images.specs.Paint.{painted}
use Rattle.plane_rect.specs.Rectangle.{Rectangle}
use Rattle.root_tiles.specs.Roots.{IsRootOver, RootTiles, root_image, root_names, root_shape}
use Rattle.buffer_view.specs.BufferLaws.{IsSameOver, images-same}
use Rattle.buffer_view.specs.BufferTables.{AreBuffersOver, BufferTable, IsBufferTable, buffers_names, image_over, images_over, names_of_roots, table_of}
use Rattle.buffer_view.proofs.RootLists.{All-set, All-without, names-set, names-without, set-same, shapes-set, without}
use Rattle.buffer_view.proofs.Beside.{images-beside, roots-beside}
use Rattle.buffer_view.proofs.Shown.{known-both}

-- ---- an entry of a list by its number

module _ {X : Type 0} where
  pub numbered-below : (xs : List X) (n : ℕ) (x : X) → slice_get xs n ≡ Some x → n < length xs
  numbered-below [] n x is = absurd (cc)
  numbered-below (y ∷ xs) zero x is = omega arith
  numbered-below (y ∷ xs) (suc n) x is = omega (arith, numbered-below xs n x is)

  pub numbered-is : (xs : List X) (n : ℕ) (x d : X) → slice_get xs n ≡ Some x → get_or xs n d ≡ x
  numbered-is [] n x d is = absurd (cc)
  numbered-is (y ∷ xs) zero x d is = cc
  numbered-is (y ∷ xs) (suc n) x d is = numbered-is xs n x d is

abbrev Entries : Type 0
Entries = List (List ℕ × Shape)

-- the other entries have other names
pub distinct-rest : (e : List ℕ × Shape) (entries : Entries) → AreDistinct (e ∷ entries) → AreDistinct entries
distinct-rest e entries distinct = λ i j d before below. distinct (suc i) (suc j) d (omega (arith, before)) (omega (arith, below))

pub first-apart : (e : List ℕ × Shape) (entries : Entries) (n : ℕ) (root : List ℕ) (shape : Shape) → AreDistinct (e ∷ entries)
    → slice_get entries n ≡ Some (root, shape) → root ≢ e.0
first-apart e entries n root shape distinct is same =
    let below = numbered-below entries n (root, shape) is in
    let at : get_or entries n e ≡ (root, shape) = numbered-is entries n (root, shape) e is in
    distinct 0 (suc n) e (omega arith) (omega (arith, below)) (sym same ∙ sym (ap (λ (x : List ℕ × Shape). x.0) at))

rest-apart : (e : List ℕ × Shape) (entries : Entries) → AreDistinct (e ∷ entries) → All (λ (other : List ℕ × Shape). e.0 ≢ other.0) entries
rest-apart e entries distinct = λ k d below. distinct 0 (suc k) d (omega arith) (omega (arith, below))

-- ---- the images once one root is painted

module _ (old new : Held) (root : List ℕ) (r : Rectangle) (f : ℕ → ℕ → ℕ → ℕ) where
  abbrev painting : List ℕ × Image → List ℕ × Image
  painting entry = (entry.0, cond (bytes_eq root entry.0) (painted entry.1 r f) entry.1)

  -- images of other names are as they were
  others-kept : (entries : Entries) (roots : List RootTiles) → All (λ (other : List ℕ × Shape). root ≢ other.0) entries
      → images_over old entries roots ≡ map painting (images_over old entries roots)
  others-kept [] roots apart = refl
  others-kept (entry ∷ entries) [] apart = refl
  others-kept (entry ∷ entries) (first ∷ roots) apart =
      let miss : bytes_eq root entry.0 ≡ false = apart_test root entry.0 (apart 0 entry (omega arith)) in
      ap (λ (rest : List (List ℕ × Image)). (entry.0, image_over old first) ∷ rest)
      (others-kept entries roots (λ k d below. apart (suc k) d (omega (arith, below))))
      ∙ ap (λ (b : Bool). (entry.0, cond b (painted (image_over old first) r f) (image_over old first)) ∷ map painting (images_over old entries roots)) (sym miss)

  pub images-painted : (n : ℕ) (entries : Entries) (roots : List RootTiles) (before after : RootTiles) (shape : Shape)
      → slice_get entries n ≡ Some (root, shape) → AreDistinct entries → n < length roots → get_or roots n before ≡ before
      → All (IsSameOver old new) (without n roots) → image_over new after ≡ painted (image_over old before) r f
      → images_over new entries (set roots n after) ≡ map painting (images_over old entries roots)
  images-painted n [] roots before after shape there distinct below is same image = absurd (cc)
  images-painted n (entry ∷ entries) [] before after shape there distinct below is same image = absurd (omega (arith, below))
  images-painted zero (entry ∷ entries) (first ∷ roots) before after shape there distinct below is same image =
      let here : entry ≡ (root, shape) = cc in
      let name : entry.0 ≡ root = ap (λ (e : List ℕ × Shape). e.0) here in
      let hit : bytes_eq root entry.0 ≡ true = ap (bytes_eq root) name ∙ same_name root in
      let apart : All (λ (other : List ℕ × Shape). root ≢ other.0) entries =
      subst (λ (q : List ℕ). All (λ (other : List ℕ × Shape). q ≢ other.0) entries) name (rest-apart entry entries distinct) in
      ap (λ (i : Image). (entry.0, i) ∷ images_over new entries roots) (image ∙ ap (λ (b : RootTiles). painted (image_over old b) r f) (sym is))
      ∙ ap (λ (b : Bool). (entry.0, cond b (painted (image_over old first) r f) (image_over old first)) ∷ images_over new entries roots) (sym hit)
      ∙ ap (λ (rest : List (List ℕ × Image)). painting (entry.0, image_over old first) ∷ rest)
      (images-same old new entries roots same ∙ others-kept entries roots apart)
  images-painted (suc n) (entry ∷ entries) (first ∷ roots) before after shape there distinct below is same image =
      let miss : bytes_eq root entry.0 ≡ false = apart_test root entry.0 (first-apart entry entries n root shape distinct there) in
      let here : image_over new first ≡ image_over old first = same 0 first (omega arith) in
      ap (λ (i : Image). (entry.0, i) ∷ images_over new entries (set roots n after)) here
      ∙ ap (λ (b : Bool). (entry.0, cond b (painted (image_over old first) r f) (image_over old first)) ∷ images_over new entries (set roots n after)) (sym miss)
      ∙ ap (λ (rest : List (List ℕ × Image)). painting (entry.0, image_over old first) ∷ rest)
      (images-painted n entries roots before after shape there (distinct-rest entry entries distinct) (omega (arith, below)) is
      (λ k d inside. same (suc k) d (omega (arith, inside))) image)

-- ---- one root of a table is changed

-- a table by its parts
abbrev pub held_as : TableLayout → List RootTiles → BufferTable
held_as layout roots = record { layout = layout; roots = roots }

-- the root of a number in a table that is this one
pub root-here : (v now : BufferTable) → v ≡ now → (n : ℕ) (root : RootTiles) → root ≡ get_or v.roots n root → get_or now.roots n root ≡ root
root-here v now is n root at = sym (at ∙ ap (λ (b : BufferTable). get_or b.roots n root) is)

-- what holds of a table with another root holds of it where the table is given another way
pub changed-of : (v now : BufferTable) → v ≡ now → (n : ℕ) (after : RootTiles) (P : BufferTable → Type 0) → P (held_as now.layout (set now.roots n after))
    → P (held_as v.layout (set v.roots n after))
changed-of v now is n after P holds = subst (λ (b : BufferTable). P (held_as b.layout (set b.roots n after))) (sym is) holds

-- what a change of one root leaves
pub record IsChanged (buffers final : BufferTable) (old new : Held) : Type 0 where
  pub table : IsBufferTable final
  pub over : AreBuffersOver final new
  pub others : Respects old new (buffers_names buffers) (buffers_names final)

module _ (buffers : BufferTable) (n : ℕ) (before after : RootTiles) (old new : Held) (over : AreBuffersOver buffers old)
    (below : n < length buffers.roots) (is : get_or buffers.roots n before ≡ before)
    (respects : Respects old new (root_names before) (root_names after)) (shape : root_shape after ≡ root_shape before) where
  abbrev others : List RootTiles
  others = without n buffers.roots

  abbrev changed : BufferTable
  changed = record { layout = buffers.layout; roots = set buffers.roots n after }

  owned-others : Owns old (root_names before ++ names_of_roots others)
  owned-others =
      owns-fewer old (names_of_roots buffers.roots) (root_names before ++ names_of_roots others)
      (λ q. omega (arith, times-append (root_names before) (names_of_roots others) q, names-without n buffers.roots before below is q)) over.owned

  table-changed : IsBufferTable changed
  table-changed = record {
    layout = over.table.layout;
    shapes = shapes-set n buffers.roots before after is shape ∙ over.table.shapes;
  }

  over-changed : IsRootOver after new → AreBuffersOver changed new
  over-changed is_over = record {
    table = table-changed;
    owned =
        owns-fewer new (root_names after ++ names_of_roots others) (names_of_roots (set buffers.roots n after))
        (λ q. omega (arith, times-append (root_names after) (names_of_roots others) q, names-set n buffers.roots after below q))
        (others-own old new (root_names before) (root_names after) respects (names_of_roots others) owned-others);
    roots = All-set (λ (root : RootTiles). IsRootOver root new) n buffers.roots after
        (roots-beside old new (root_names before) (root_names after) respects others owned-others
        (All-without (λ (root : RootTiles). IsRootOver root old) n buffers.roots over.roots)) is_over;
  }

  others-changed : Respects old new (buffers_names buffers) (buffers_names changed)
  others-changed =
      respects-beside old new (root_names before) (root_names after) respects (names_of_roots buffers.roots) (names_of_roots (set buffers.roots n after)) (names_of_roots others)
      (names-without n buffers.roots before below is) (names-set n buffers.roots after below)

  pub root-changed : IsRootOver after new → IsChanged buffers (held_as buffers.layout (set buffers.roots n after)) old new
  root-changed is_over = record { table = table-changed; over = over-changed is_over; others = others-changed }

  same-others : All (IsSameOver old new) others
  same-others = images-beside old new (root_names before) (root_names after) respects others owned-others

  pub shown-painted : (root : List ℕ) (given : Shape) (r : Rectangle) (f : ℕ → ℕ → ℕ → ℕ) → slice_get buffers.layout.roots n ≡ Some (root, given)
      → root_image after new ≡ option_map (λ (image : Image). painted image r f) (root_image before old)
      → table_of changed new ≡ option_map (λ (table : Table). written table root r f) (table_of buffers old)
  shown-painted root given r f there image =
      known-both new.content old.content (image_over new after) (image_over old before) _ _ (λ (i : Image). painted i r f) (λ (table : Table). written table root r f)
      respects.exposed image
      (λ painted_is. ap (λ (images : List (List ℕ × Image)). let t : Table = record { roots = images; buffers = buffers.layout.buffers } in t)
      (images-painted old new root r f n buffers.layout.roots buffers.roots before after given there over.table.layout.root_names below is same-others painted_is))

  -- the root is as it was
  pub shown-same : after ≡ before → root_image after new ≡ root_image before old → table_of changed new ≡ table_of buffers old
  shown-same same image =
      let back : set buffers.roots n after ≡ buffers.roots = set-same n buffers.roots before after is same in
      known-both new.content old.content (image_over new after) (image_over old before) _ _ (λ (i : Image). i) (λ (table : Table). table)
      respects.exposed (image ∙ sym (known-id (root_image before old)))
      (λ here.
      ap (λ (images : List (List ℕ × Image)). let t : Table = record { roots = images; buffers = buffers.layout.buffers } in t)
      (images-same old new buffers.layout.roots (set buffers.roots n after)
      (All-set (IsSameOver old new) n buffers.roots after same-others (here ∙ ap (image_over old) (sym same)))
      ∙ ap (images_over old buffers.layout.roots) back))
      ∙ known-id (table_of buffers old)
    where
      known-id : {X : Type 0} (o : Option X) → option_map (λ (x : X). x) o ≡ o
      known-id None = refl
      known-id (Some x) = refl
