-- Roots of gray pixels over a chain.
use Rattle.std.specs.Prelude.{◌≡◌}
use Rattle.pixel_formats.specs.declared.format.Format.TheVariants as formats
use Rattle.chain_owners.specs.Held.{Held}
use Rattle.root_tiles.specs.Roots.{IsRootOver, RootTiles}

-- a root whose pixels have a sample of one byte
pub record IsGray (root : RootTiles) (held : Held) : Type 0 where
  pub format : root.tiles.format ≡ formats.Y8
  pub over : IsRootOver root held
