-- What tables of buffers show over chains.
use Rattle.std.proofs.Common.{◌≡◌, ℕ, List, [], ◌∷◌, ◌++◌, map, Option, Some, None, is_some, true≢false, refl, sym, ap, ◌∙◌}
use Rattle.std.specs.Option.{option_map}
use Rattle.chain_owners.specs.Held.{Held}
use Rattle.chain_owners.specs.Values.{Named}
use Rattle.model_buffers.specs.Table.{Table}
use Rattle.model_graphs.specs.Shapes.{Shape}
use Rattle.model_images.specs.Image.{Image}
use Rattle.root_tiles.specs.Roots.{RootTiles, root_shape}
use Rattle.buffer_view.specs.BufferLaws.{known-same}
use Rattle.buffer_view.specs.BufferTables.{BufferTable, image_over, images_over, table_of}
use Rattle.buffer_view.proofs.RootLists.{entry_shape}

-- ---- what is known where the bytes of a chain are exposed

-- two facts of chains of which both expose their bytes or none does
pub known-both : {X Y Z W : Type 0} (o : Option X) (p : Option Y) (a c : Z) (b d : W) (g : Z → Z) (h : W → W) → is_some o ≡ is_some p
    → option_map (λ (x : X). a) o ≡ option_map g (option_map (λ (y : Y). c) p) → (a ≡ g c → b ≡ h d)
    → option_map (λ (x : X). b) o ≡ option_map h (option_map (λ (y : Y). d) p)
known-both None None a c b d g h same first then = refl
known-both None (Some y) a c b d g h same first then = absurd (true≢false (sym same))
known-both (Some x) None a c b d g h same first then = absurd (true≢false same)
known-both (Some x) (Some y) a c b d g h same first then = let is : a ≡ g c = cc in ap Some (then is)

-- ---- images by their names

pub images-added : (held : Held) (entries : List (List ℕ × Shape)) (roots : List RootTiles) (name : List ℕ) (shape : Shape) (root : RootTiles)
    → map root_shape roots ≡ map entry_shape entries
    → images_over held (entries ++ (name, shape) ∷ []) (roots ++ root ∷ []) ≡ images_over held entries roots ++ (name, image_over held root) ∷ []
images-added held [] [] name shape root same = refl
images-added held [] (first ∷ roots) name shape root same = absurd (cc)
images-added held (entry ∷ entries) [] name shape root same = absurd (cc)
images-added held (entry ∷ entries) (first ∷ roots) name shape root same =
    ap (λ (rest : List (List ℕ × Image)). (entry.0, image_over held first) ∷ rest) (images-added held entries roots name shape root (cc))

-- the images depend on the bytes alone
pub content-same : (old new : Held) (entries : List (List ℕ × Shape)) (roots : List RootTiles) → new.content ≡ old.content
    → images_over new entries roots ≡ images_over old entries roots
content-same old new entries roots same =
    ap (λ (content : Option (Named (List ℕ))). images_over (record { lengths = new.lengths; content = content; owners = new.owners }) entries roots) same
    ∙ framed-by entries roots
  where
    framed-by : (entries : List (List ℕ × Shape)) (roots : List RootTiles)
        → images_over (record { lengths = new.lengths; content = old.content; owners = new.owners }) entries roots ≡ images_over old entries roots
    framed-by [] roots = refl
    framed-by (entry ∷ entries) [] = refl
    framed-by (entry ∷ entries) (root ∷ roots) =
        ap (λ (rest : List (List ℕ × Image)). (entry.0, image_over old root) ∷ rest) (framed-by entries roots)

pub table-content : (buffers : BufferTable) (old new : Held) → new.content ≡ old.content → table_of buffers new ≡ table_of buffers old
table-content buffers old new same =
    known-same new.content old.content _ _ (ap is_some same)
    (ap (λ (images : List (List ℕ × Image)). let t : Table = record { roots = images; buffers = buffers.layout.buffers } in t)
    (content-same old new buffers.layout.roots buffers.roots same))
