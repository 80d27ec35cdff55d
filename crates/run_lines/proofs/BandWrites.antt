-- Files that hold the bands of a picture.
use Rattle.std.proofs.Common.{◌≡◌, ℕ, suc, ◌+◌, ◌≤◌, inl, inr, List, [], ◌∷◌, ◌++◌, length, drop, drop-cons, Option, Some, None, Result, Ok, Err, IfSome, refl, sym, ap, ◌∙◌, subst, arith}
use Rattle.std.specs.List.{slice_get}
use Rattle.std.specs.Option.{option_map}
use Rattle.std.proofs.lemmas.List.{drop_all}
use Rattle.std.proofs.lemmas.Option.{get_or_from_slice_get, slice_get_within}
use Rattle.model_images.specs.FromRaw.{byte_count}
use Rattle.model_images.specs.Image.{Image}
use Rattle.model_images.specs.Paint.{cut}
use Rattle.model_images.specs.Raw.{raw}
use Rattle.model_runs.specs.Ending.{Leaves}
use Rattle.model_runs.specs.declared.ending.End.{End}
use Rattle.model_runs.specs.declared.ending.End.TheVariants as ends
use Rattle.outside_io.specs.Bands.{BandsLeave}
use Rattle.outside_io.specs.Files.{Files, filed}
use Rattle.outside_io.specs.Shelf.{WriteLeaves}
use Rattle.outside_io.specs.declared.bands.BandsAnswer.{BandsAnswer}
use Rattle.outside_io.specs.declared.bands.BandsAnswer.TheVariants as answers
use Rattle.outside_io.specs.declared.shelf.ShelfAnswer.TheVariants as shelf
use Rattle.pixel_formats.specs.declared.format.Format.{Format}
use Rattle.plane_rect.specs.Rectangle.{Rectangle}
use Rattle.plane_rect.specs.Tile.{strip_rectangles}
use Rattle.run_lines.specs.PictureBytes.{AreBandsOf, AreBytesOf, HaveBands, LeavesBands}
use Rattle.run_lines.proofs.BandBytes.{band-alone, bands-some, bands-then, no_bands}
use Rattle.run_lines.proofs.RawBands.{raw-cut}
use Rattle.model_runs.specs.Events.{Outcome, Writes, events_alone}
use Rattle.model_runs.specs.World.{World}
use Rattle.strip_patches.specs.Pictures.{HasRows, TiledRect}

-- a file is made to hold these bytes, and nothing else is done
abbrev writes_alone : List ℕ → List ℕ → Outcome
writes_alone file bytes = events_alone (Writes file bytes ∷ [])

-- files, and a text that is as it was
abbrev with_files : Option (List ℕ) → Option Files → World
with_files text files = record { files = files; text = text }

-- ---- what is known of a picture's image

pub known-then : (known : Option Image) (P Q : Image → Type 0) → ((image : Image) → P image → Q image) → IfSome known P → IfSome known Q
known-then None P Q then is = tt
known-then (Some image) P Q then is = then image is

-- tiles have the format of the image of which they are
rows-format : (known : Option Image) (count : ℕ) (tiled : TiledRect) → IfSome known (λ image. HasRows image count tiled) → IfSome known (λ image. image.format ≡ tiled.format)
rows-format known count tiled has = known-then known (λ image. HasRows image count tiled) (λ image. image.format ≡ tiled.format) (λ image rows. sym rows.format) has

-- The bytes that a patch of a band has.
pub band-bytes : (known : Option Image) (format : Format) (band : Rectangle) (patch : Image) (bytes : List ℕ) → patch.box ≡ band → patch.format ≡ format → IfSome known (λ image. patch ≡ cut image patch.box) →
    bytes ≡ raw patch patch.box → length bytes ≡ byte_count patch.box patch.format → AreBytesOf known band format bytes
band-bytes known format band patch bytes box same shown is count = record {
  count = count ∙ ap (λ (b : Rectangle). byte_count b patch.format) box ∙ ap (byte_count band) same;
  image = by known shown;
}
  where
    by : (known : Option Image) → IfSome known (λ image. patch ≡ cut image patch.box) → IfSome known (λ image. bytes ≡ raw image band)
    by None shown = tt
    by (Some image) shown = is ∙ ap (λ (p : Image). raw p patch.box) shown ∙ raw-cut image patch.box ∙ ap (raw image) box

-- ---- bands

drop-next : (rects : List Rectangle) (k : ℕ) (band : Rectangle) → slice_get rects k ≡ Some band → drop k rects ≡ band ∷ drop (k + 1) rects
drop-next rects k band is =
    let next : suc k ≡ k + 1 = omega arith in
    drop-cons rects k band (slice_get_within rects k band is)
    ∙ ap (λ (r : Rectangle). r ∷ drop (suc k) rects) (get_or_from_slice_get rects k band band is)
    ∙ ap (λ (n : ℕ). band ∷ drop n rects) next

-- a band goes before those below it
pub band-before : (tiled : TiledRect) (k : ℕ) (patch : Image) (bytes rest : List ℕ) → slice_get (strip_rectangles tiled.rect) k ≡ Some patch.box → patch.format ≡ tiled.format →
    ((image : Image) → HasRows image (length (strip_rectangles tiled.rect)) tiled → patch ≡ cut image patch.box) → bytes ≡ raw patch patch.box → length bytes ≡ byte_count patch.box patch.format →
    HaveBands tiled (k + 1) rest → HaveBands tiled k (bytes ++ rest)
band-before tiled k patch bytes rest is format shown value count have = λ known has.
    let bands = strip_rectangles tiled.rect in
    let image = known-then known (λ image. HasRows image (length bands) tiled) (λ image. patch ≡ cut image patch.box) shown has in
    let are = band-bytes known tiled.format patch.box patch bytes refl format image value count in
    subst (λ (list : List Rectangle). AreBandsOf known list tiled.format (bytes ++ rest)) (sym (drop-next bands k patch.box is))
    (bands-then known tiled.format (patch.box ∷ []) (drop (k + 1) bands) bytes rest (band-alone known tiled.format patch.box bytes are) (have known has))

-- no band is left
pub none-below : (tiled : TiledRect) (k : ℕ) → length (strip_rectangles tiled.rect) ≤ k → HaveBands tiled k []
none-below tiled k all = λ known has.
    subst (λ (list : List Rectangle). AreBandsOf known list tiled.format []) (sym (drop_all k (strip_rectangles tiled.rect) all)) (no_bands known tiled.format)

-- ---- files

-- What a call leaves that writes the bands of tiles, where an image may be known of which they are.
abbrev pub LeavesTiles : Option Image → TiledRect → List ℕ → Option (List ℕ) → Result (Unit {0}) End → Option Files → Option Files → Type 0
LeavesTiles known tiled file text result old new = LeavesBands known (strip_rectangles tiled.rect) tiled.format (writes_alone file) result (with_files text old) (with_files text new)

module _ (known : Option Image) (tiled : TiledRect) (file : List ℕ) (text : Option (List ℕ)) (has : IfSome known (λ image. HasRows image (length (strip_rectangles tiled.rect)) tiled)) where
  any : (bytes : List ℕ) × AreBandsOf known (strip_rectangles tiled.rect) tiled.format bytes
  any = bands-some known tiled.format (strip_rectangles tiled.rect) (rows-format known (length (strip_rectangles tiled.rect)) tiled has)

  -- all is written
  whole : (bytes : List ℕ) (old new : Option Files) → new ≡ option_map (λ files. filed files file bytes) old → Leaves (writes_alone file bytes) (Ok tt) (with_files text old) (with_files text new)
  whole bytes old new is = let came = ap (with_files text) is in record { refused = refl; whole = λ whole. came; some = inr (inr came) }

  pub tiles-written : (E : Type 0) (name : List ℕ) (old new : Option Files) → name ≡ file → BandsLeave {E = E} (HaveBands tiled 0) old name (Ok tt) new → LeavesTiles known tiled file text (Ok tt) old new
  tiles-written E name old new named left = by old (subst (λ (n : List ℕ). BandsLeave {E = E} (HaveBands tiled 0) old n (Ok tt) new) named left)
    where
      by : (old : Option Files) → BandsLeave {E = E} (HaveBands tiled 0) old file (Ok tt) new → LeavesTiles known tiled file text (Ok tt) old new
      by None leaves = (any.0, any.1, whole any.0 None new leaves)
      by (Some files) leaves = (leaves.0, leaves.1 known has, whole leaves.0 (Some files) new leaves.2)

  -- the shelf fails
  failed : (E : Type 0) (old new : Option Files) → BandsLeave {E = E} (HaveBands tiled 0) old file (Err answers.Failed) new → LeavesTiles known tiled file text (Err ends.WriteFault) old new
  failed E None new leaves = (any.0, any.1, record { refused = tt; whole = λ whole. absurd whole; some = inl (ap (with_files text) leaves) })
  failed E (Some files) new leaves =
      (leaves.0, leaves.1 known has, record { refused = tt; whole = λ whole. absurd whole; some = inr (inl (tt, (leaves.2.0, ap (with_files text) leaves.2.1))) })

  -- memory runs out
  unwritten : (old new : Option Files) → new ≡ old → LeavesTiles known tiled file text (Err ends.NoMemory) old new
  unwritten old new same = (any.0, any.1, record { refused = tt; whole = λ whole. absurd whole; some = inl (ap (with_files text) same) })

  begun : (bytes : List ℕ) (old new : Option Files) → AreBandsOf known (strip_rectangles tiled.rect) tiled.format bytes → WriteLeaves old file bytes (Err shelf.NoMemory) new →
      LeavesTiles known tiled file text (Err ends.NoMemory) old new
  begun bytes old new are (inl same) = unwritten old new same
  begun bytes old new are (inr part) = (bytes, are, record { refused = tt; whole = λ whole. absurd whole; some = inr (inl (tt, (part.0, ap (with_files text) part.1))) })

  no_memory : (E : Type 0) (old new : Option Files) → BandsLeave {E = E} (HaveBands tiled 0) old file (Err answers.NoMemory) new → LeavesTiles known tiled file text (Err ends.NoMemory) old new
  no_memory E None new leaves = unwritten None new leaves
  no_memory E (Some files) new (inl same) = unwritten (Some files) new same
  no_memory E (Some files) new (inr some) = begun some.0 (Some files) new (some.1 known has) some.2

  -- a band has no memory
  refused_band : (E : Type 0) (why : E) (old new : Option Files) → BandsLeave {E = E} (HaveBands tiled 0) old file (Err (answers.Refused why)) new → LeavesTiles known tiled file text (Err ends.NoMemory) old new
  refused_band E why None new leaves = unwritten None new leaves
  refused_band E why (Some files) new leaves = unwritten (Some files) new leaves

  -- What an answer leaves, of a name that is the file's.
  module _ (E : Type 0) (answer : BandsAnswer E) (name : List ℕ) (old new : Option Files) (named : name ≡ file) (left : BandsLeave {E = E} (HaveBands tiled 0) old name (Err answer) new) where
    left_as : (other : BandsAnswer E) → answer ≡ other → BandsLeave {E = E} (HaveBands tiled 0) old file (Err other) new
    left_as other is =
        subst (λ (n : List ℕ). BandsLeave {E = E} (HaveBands tiled 0) old n (Err other) new) named
        (subst (λ (a : BandsAnswer E). BandsLeave {E = E} (HaveBands tiled 0) old name (Err a) new) is left)

    pub tiles-failed : answer ≡ answers.Failed → LeavesTiles known tiled file text (Err ends.WriteFault) old new
    tiles-failed is = failed E old new (left_as answers.Failed is)

    pub tiles-no_memory : answer ≡ answers.NoMemory → LeavesTiles known tiled file text (Err ends.NoMemory) old new
    tiles-no_memory is = no_memory E old new (left_as answers.NoMemory is)

    pub tiles-refused : (why : E) → answer ≡ answers.Refused why → LeavesTiles known tiled file text (Err ends.NoMemory) old new
    tiles-refused why is = refused_band E why old new (left_as (answers.Refused why) is)
