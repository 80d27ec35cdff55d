-- The laws of samples that are written to a root.
use Rattle.std.proofs.Common.{◌≡◌, ◌≢◌, ℕ, ◌<◌, Bool, true, false, cond, List, Option, Some, None, refl, sym, ap, ◌∙◌, subst}
use Rattle.std.specs.Prelude.{IfSome, unwrap_or}
use Rattle.std.specs.Option.{is_some, option_map}
use Rattle.std.specs.Str.{bytes_eq}
use Rattle.plane_rect.specs.Rectangle.{Rectangle, Inside, Includes}
use Rattle.pixel_formats.specs.declared.format.Format.{Format}
use Rattle.pixel_formats.specs.Format.{channels}
use Rattle.model_images.specs.Agreement.{AgreeOutside}
use Rattle.model_images.specs.Image.{Image, IsImage, at, is_inside}
use Rattle.model_images.specs.Paint.{cut, no_image, painted}
use Rattle.model_graphs.specs.Shapes.{Shape}
use Rattle.model_images.proofs.Laws.{AgreeOutside-refl, IsImage-image_from_fn}
use Rattle.model_buffers.specs.Edits.{written}
use Rattle.model_buffers.specs.Effects.{IsWritten, ShowsOver}
use Rattle.model_buffers.specs.Layout.{View, find, IsRooted}
use Rattle.model_buffers.specs.Table.{Table, image_of, layout_of, root_image, root_of, seen, IsTable}
use Rattle.model_buffers.proofs.AddingLaws.{root_there}
use Rattle.model_buffers.proofs.FindLaws.{same_name, apart_test, find-mapped}
use Rattle.model_images.proofs.Agreeing.{at-cut}
use Rattle.model_images.proofs.Painting.{at-painted, AgreeOutside-painted, AgreeOutside-cut}
use Rattle.model_buffers.proofs.LayoutLaws.{by_value, rooted_view}
use Rattle.model_buffers.proofs.ShapeLaws.{root_shape-is}

-- ---- a write to a root

module _ (table : Table) (root : List ℕ) (r : Rectangle) (f : ℕ → ℕ → ℕ → ℕ) where
  abbrev change : List ℕ → Image → Image
  change name image = cond (bytes_eq root name) (painted image r f) image

  pub find-written : (q : List ℕ) → find (written table root r f).roots q ≡ option_map (change q) (find table.roots q)
  find-written q = find-mapped change table.roots q

  pub AgreeOutside-change : (name : List ℕ) (image : Image) → AgreeOutside image (change name image) r
  AgreeOutside-change name image = cases (bytes_eq root name)
    where
      cases : (b : Bool) → AgreeOutside image (cond b (painted image r f) image) r
      cases true = AgreeOutside-painted image r f
      cases false = AgreeOutside-refl image r

  AgreeOutside-root : (q : List ℕ) → AgreeOutside (root_image table q) (root_image (written table root r f) q) r
  AgreeOutside-root q = rw (find-written q) (cases (find table.roots q))
    where
      cases : (o : Option Image) → AgreeOutside (unwrap_or o no_image) (unwrap_or (option_map (change q) o) no_image) r
      cases (Some image) = AgreeOutside-change q image
      cases None = AgreeOutside-refl no_image r

  pub AgreeOutside-written : (other : List ℕ) → AgreeOutside (image_of table other) (image_of (written table root r f) other) r
  AgreeOutside-written other = cases (find table.buffers other)
    where
      cases : (o : Option View) → AgreeOutside (seen table o) (seen (written table root r f) o) r
      cases (Some view) =
          AgreeOutside-cut (root_image table view.root) (root_image (written table root r f) view.root) view.extent r (AgreeOutside-root view.root)
      cases None = AgreeOutside-refl no_image r

  root-other : (q : List ℕ) → q ≢ root → root_image (written table root r f) q ≡ root_image table q
  root-other q apart = rw (find-written q) (cases (find table.roots q) (bytes_eq root q) (apart_test root q (λ e. apart (sym e))))
    where
      cases : (o : Option Image) (b : Bool) → b ≡ false → unwrap_or (option_map (λ (image : Image). cond b (painted image r f) image) o) no_image ≡ unwrap_or o no_image
      cases (Some image) true e = absurd (cc)
      cases (Some image) false e = refl
      cases None b e = refl

  pub written-other : (other : List ℕ) → root_of table other ≢ Some root → image_of (written table root r f) other ≡ image_of table other
  written-other other apart = cases (find table.buffers other) apart
    where
      cases : (o : Option View) → option_map (λ (view : View). view.root) o ≢ Some root → seen (written table root r f) o ≡ seen table o
      cases (Some view) out = ap (λ (image : Image). cut image view.extent) (root-other view.root (λ e. out (ap Some e)))
      cases None out = refl

  root-written : (image : Image) → find table.roots root ≡ Some image → root_image (written table root r f) root ≡ painted image r f
  root-written image there = rw (find-written root, there, same_name root) refl

  pub written-shown : IsTable table → (other : List ℕ) → root_of table other ≡ Some root → ShowsOver r f (image_of (written table root r f) other)
  written-shown is other same = cases (find table.buffers other) refl same
    where
      shown : (view : View) → IsRooted (layout_of table) view → view.root ≡ root → (image : Image) → find table.roots root ≡ Some image
          → ShowsOver r f (cut (root_image (written table root r f) view.root) view.extent)
      shown view rooted on image there u v c in_r in_extent few =
          let now : root_image (written table root r f) view.root ≡ painted image r f = ap (root_image (written table root r f)) on ∙ root-written image there in
          let was : root_image table view.root ≡ image = ap (root_image table) on ∙ rw there refl in
          let box : (root_image table view.root).box ≡ image.box = ap (λ (i : Image). i.box) was in
          let root_box = ap (λ (s : Shape). s.box) (root_shape-is table view.root) in
          let inside : Inside u v image.box = subst (λ (b : Rectangle). Inside u v b) (root_box ∙ box) (rooted.inside u v in_extent) in
          let several : c < channels image.format = subst (λ (i : Image). c < channels i.format) now few in
          at-cut (root_image (written table root r f) view.root) view.extent u v c in_extent
          ∙ ap (λ (i : Image). at i u v c) now
          ∙ at-painted image r f u v c in_r inside several

      cases : (o : Option View) → find table.buffers other ≡ o → option_map (λ (view : View). view.root) o ≡ Some root → ShowsOver r f (seen (written table root r f) o)
      cases (Some view) e on =
          let rooted = rooted_view (layout_of table) is.layout other view e in
          let here : view.root ≡ root = cc on in
          by_value _ (find table.roots root)
          (root_there table root (subst (λ (q : List ℕ). is_some (find (layout_of table).roots q) ≡ true) here rooted.root))
          (shown view rooted here)
      cases None e on = absurd (cc)

  pub IsWritten-written : IsTable table → (name : List ℕ) → root_of table name ≡ Some root → Includes (image_of table name).box r
      → IsWritten table name r f (written table root r f)
  IsWritten-written is name on inside = record {
    named = λ u v c here few. let agreed = AgreeOutside-written name in
        written-shown is name on u v c here (subst (λ (box : Rectangle). Inside u v box) agreed.box (inside u v here)) (subst (λ (f : Format). c < channels f) agreed.format few);
    shown = λ other same. written-shown is other (same ∙ on);
    elsewhere = AgreeOutside-written;
    other_roots = λ other apart. written-other other (λ e. apart (e ∙ sym on));
    roots = λ other. refl;
  }

  -- ---- a write keeps images whole

  IsImage-change : (name : List ℕ) (image : Image) → IsImage image → IsImage (change name image)
  IsImage-change name image whole = cases (bytes_eq root name)
    where
      cases : (b : Bool) → IsImage (cond b (painted image r f) image)
      cases true = IsImage-image_from_fn image.box image.format (λ u v c. cond (is_inside u v r) (f u v c) (at image u v c))
      cases false = whole

  pub whole-written : IsTable table → (q : List ℕ) → IfSome (find (written table root r f).roots q) IsImage
  whole-written is q = rw (find-written q) (cases (find table.roots q) (is.whole q))
    where
      cases : (o : Option Image) → IfSome o IsImage → IfSome (option_map (change q) o) IsImage
      cases (Some image) whole = IsImage-change q image whole
      cases None whole = tt
