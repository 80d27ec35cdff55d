-- Several rectangles at once, and the tiles that they meet.
use Rattle.std.specs.Prelude.{◌≡◌, true, List, [], ◌∷◌, filter}
use Rattle.std.specs.List.{list_any, AllByRecursion}
use Rattle.plane_rect.specs.Rectangle.{Rectangle, empty, hull, is_empty}
use Rattle.plane_rect.specs.Tile.{Tile, meets, tiles}

-- the hull of all of them
abbrev pub hull_of : List Rectangle → Rectangle
hull_of [] = empty
hull_of (r ∷ rs) = hull r (hull_of rs)

-- the tiles that meet one of them, row by row from the top, each row from the left
abbrev pub tiles_of_any : List Rectangle → List Tile
tiles_of_any rs = filter (λ t. list_any (meets t) rs) (tiles (hull_of rs))

-- none of them has a position
abbrev pub HaveNoPosition : List Rectangle → Type 0
HaveNoPosition rs = AllByRecursion (λ (r : Rectangle). is_empty r ≡ true) rs
