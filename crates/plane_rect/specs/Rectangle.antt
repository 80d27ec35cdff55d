-- Positions and rectangles, in natural numbers: columns and rows are counted from the plane's upper left corner, which
-- is at x = y = -2^24. So the column of x is x + 2^24, and no definition above this file has a sign.
use Rattle.std.specs.Prelude.{List, [], ◌∷◌, filter, nat_le, nat_lt, ◌≡◌, ℕ, ◌+◌, ◌-◌, ◌*◌, ◌/◌, ◌^◌, ◌<◌, ◌≤◌, ◌⊎◌, ◌&&◌, ◌||◌, ◌==◌, not, Bool, min, max, if◌then◌else◌, ℤ, pos, negsuc, ◌+ℤ◌, ◌-ℤ◌, ◌*ℤ◌, ◌≤ℤ◌, ◌<ℤ◌, int_le, unsigned_abs, Result, Ok, Err, Option, Some, None}
use Rattle.plane_rect.specs.declared.rect.RectRefused.{RectRefused}
use Rattle.plane_rect.specs.declared.rect.RectRefused.TheVariants.{Place, Size}

-- ---- the plane

-- the distance from the plane's corner to the origin
abbrev pub origin : ℕ
origin = 2 ^ 24

-- how many columns, and how many rows, the plane has
abbrev pub plane_side : ℕ
plane_side = 2 ^ 25

-- the column of an x, or the row of a y, that is not before the plane's corner
abbrev pub plane_index : ℤ → ℕ
plane_index (pos n) = n + origin
plane_index (negsuc n) = origin - (n + 1)

-- the x of a column, or the y of a row
abbrev pub plane_coordinate : ℕ → ℤ
plane_coordinate n = pos n -ℤ pos origin

-- an x or a y is not before the plane's corner
abbrev pub StartsInPlane : ℤ → Type 0
StartsInPlane z = plane_coordinate 0 ≤ℤ z

-- ---- rectangles

-- A rectangle, by its first column and row and by how many it has of each.
pub record Rectangle : Type 0 where
  pub first_column : ℕ
  pub first_row : ℕ
  pub width : ℕ
  pub height : ℕ

-- a number is one of the len numbers from start on
abbrev pub Within : ℕ → ℕ → ℕ → Type 0
Within start len n = (start ≤ n) × (n < start + len)

-- The position of column u and row v is in the rectangle: a rectangle is the set of these positions.
pub record Inside (u v : ℕ) (r : Rectangle) : Type 0 where
  pub column : Within r.first_column r.width u
  pub row : Within r.first_row r.height v

-- the same of signed numbers
abbrev pub WithinSigned : ℤ → ℤ → ℤ → Type 0
WithinSigned start len z = (start ≤ℤ z) × (z <ℤ (start +ℤ len))

-- the position of x and y, which may be outside the plane, is in the rectangle
abbrev pub InsideSigned : ℤ → ℤ → Rectangle → Type 0
InsideSigned x y r =
    WithinSigned (plane_coordinate r.first_column) (pos r.width) x × WithinSigned (plane_coordinate r.first_row) (pos r.height) y

-- the rectangle of no position, which is put at the origin
abbrev pub empty : Rectangle
empty = record { first_column = origin; first_row = origin; width = 0; height = 0 }

-- a rectangle of the plane, where a rectangle without a position is the empty one
pub record IsRectangle (r : Rectangle) : Type 0 where
  pub columns : r.first_column + r.width ≤ plane_side
  pub rows : r.first_row + r.height ≤ plane_side
  pub empty_width : r.width ≡ 0 → r ≡ empty
  pub empty_height : r.height ≡ 0 → r ≡ empty

-- from these columns and rows on, so many of each
abbrev pub rectangle : ℕ → ℕ → ℕ → ℕ → Rectangle
rectangle first_column first_row width height =
    if width == 0 || height == 0 then empty else record { first_column = first_column; first_row = first_row; width = width; height = height }

-- the first column after the rectangle
abbrev pub end_column : Rectangle → ℕ
end_column r = r.first_column + r.width

-- the first row below it
abbrev pub end_row : Rectangle → ℕ
end_row r = r.first_row + r.height

-- from the first columns and rows up to those that are after the last
abbrev pub spanning : ℕ → ℕ → ℕ → ℕ → Rectangle
spanning first_column first_row end_column end_row = rectangle first_column first_row (end_column - first_column) (end_row - first_row)

-- how many positions a rectangle has
abbrev pub area : Rectangle → ℕ
area r = r.width * r.height

-- the index of a position among those of the rectangle, which are numbered row by row
abbrev pub offset : Rectangle → ℕ → ℕ → ℕ
offset r u v = (v - r.first_row) * r.width + (u - r.first_column)

-- a rectangle that is in the limits of an image
abbrev pub in_limits : Rectangle → Bool
in_limits r = nat_le r.width (2 ^ 15) && nat_le r.height (2 ^ 15) && nat_le (area r) (2 ^ 25)

-- the same as a fact
abbrev pub InLimits : Rectangle → Type 0
InLimits r = (r.width ≤ 2 ^ 15) × (r.height ≤ 2 ^ 15) × (area r ≤ 2 ^ 25)

-- two rectangles are one
abbrev pub same_rectangle : Rectangle → Rectangle → Bool
same_rectangle a b = a.first_column == b.first_column && a.first_row == b.first_row && a.width == b.width && a.height == b.height

-- ---- a rectangle as it is written, by signed numbers

-- the rectangle that begins at x and y, neither before the plane's corner
abbrev pub placed : ℤ → ℤ → ℕ → ℕ → Rectangle
placed x y w h = record { first_column = plane_index x; first_row = plane_index y; width = w; height = h }

-- these numbers are the fields of a rectangle
pub record AreFields (x y : ℤ) (w h : ℕ) : Type 0 where
  pub column_in_plane : StartsInPlane x
  pub row_in_plane : StartsInPlane y
  pub rectangle : IsRectangle (placed x y w h)

-- an x or a y is one at which a rectangle may begin
abbrev pub is_coordinate : ℤ → Bool
is_coordinate z = int_le (plane_coordinate 0) z && int_le z (pos origin)

-- the same as a fact
abbrev pub IsCoordinate : ℤ → Type 0
IsCoordinate z = (plane_coordinate 0 ≤ℤ z) × (z ≤ℤ pos origin)

-- no rectangle may begin there
abbrev pub IsNoCoordinate : ℤ → Type 0
IsNoCoordinate z = (z <ℤ plane_coordinate 0) ⊎ (pos origin <ℤ z)

-- so many columns from an x on, or rows from a y on, may be a rectangle's
abbrev pub is_extent : ℤ → ℤ → Bool
is_extent z len = int_le (pos 0) len && int_le (z +ℤ len) (pos origin)

-- the same as a fact
abbrev pub IsExtent : ℤ → ℤ → Type 0
IsExtent z len = (pos 0 ≤ℤ len) × ((z +ℤ len) ≤ℤ pos origin)

-- they can not
abbrev pub IsNoExtent : ℤ → ℤ → Type 0
IsNoExtent z len = (len <ℤ pos 0) ⊎ (pos origin <ℤ (z +ℤ len))

-- a rectangle may begin at x and y
abbrev pub begins_inside : ℤ → ℤ → Bool
begins_inside x y = is_coordinate x && is_coordinate y

-- the same as a fact
abbrev pub BeginsInside : ℤ → ℤ → Type 0
BeginsInside x y = IsCoordinate x × IsCoordinate y

-- no rectangle may begin there
abbrev pub BeginsOutside : ℤ → ℤ → Type 0
BeginsOutside x y = IsNoCoordinate x ⊎ IsNoCoordinate y

-- it may have w columns from x on and h rows from y on
abbrev pub ends_inside : ℤ → ℤ → ℤ → ℤ → Bool
ends_inside x y w h = is_extent x w && is_extent y h

-- the same as a fact
abbrev pub EndsInside : ℤ → ℤ → ℤ → ℤ → Type 0
EndsInside x y w h = IsExtent x w × IsExtent y h

-- it can not
abbrev pub EndsOutside : ℤ → ℤ → ℤ → ℤ → Type 0
EndsOutside x y w h = IsNoExtent x w ⊎ IsNoExtent y h

-- the rectangle of signed fields, or why there is none
abbrev pub new_rectangle : ℤ → ℤ → ℤ → ℤ → Result Rectangle RectRefused
new_rectangle x y w h =
    if not (begins_inside x y) then Err Place
    else if not (ends_inside x y w h) then Err Size
    else Ok (rectangle (plane_index x) (plane_index y) (unsigned_abs w) (unsigned_abs h))

-- ---- rectangles made of rectangles

-- no position is in the rectangle
abbrev pub is_empty : Rectangle → Bool
is_empty r = r.width == 0 || r.height == 0

-- some position is in the rectangle
abbrev pub has_positions : Rectangle → Bool
has_positions r = not (is_empty r)

-- each position of b is in a
abbrev pub Includes : Rectangle → Rectangle → Type 0
Includes a b = (u v : ℕ) → Inside u v b → Inside u v a

-- the same as a test of rectangles of the plane
abbrev pub includes : Rectangle → Rectangle → Bool
includes a b =
    is_empty b
    || nat_le a.first_column b.first_column && nat_le a.first_row b.first_row && nat_le (end_column b) (end_column a) && nat_le (end_row b) (end_row a)

-- no position is in both
abbrev pub AreDisjoint : Rectangle → Rectangle → Type 0
AreDisjoint a b = (u v : ℕ) → Inside u v a → ¬ Inside u v b

-- the positions that are in both
abbrev pub meet : Rectangle → Rectangle → Rectangle
meet a b = spanning (max a.first_column b.first_column) (max a.first_row b.first_row) (min (end_column a) (end_column b)) (min (end_row a) (end_row b))

-- the smallest rectangle that includes both
abbrev pub hull : Rectangle → Rectangle → Rectangle
hull a b =
    if is_empty a then b
    else if is_empty b then a
    else spanning (min a.first_column b.first_column) (min a.first_row b.first_row) (max (end_column a) (end_column b)) (max (end_row a) (end_row b))

-- what surrounds a part of a rectangle: the rows above it, what is left and right of it, and the rows below it
abbrev pub surroundings : Rectangle → Rectangle → List Rectangle
surroundings a part =
    spanning a.first_column a.first_row (end_column a) part.first_row
    ∷ spanning a.first_column part.first_row part.first_column (end_row part)
    ∷ spanning (end_column part) part.first_row (end_column a) (end_row part)
    ∷ spanning a.first_column (end_row part) (end_column a) (end_row a)
    ∷ []

-- the positions of a that are not in b, as rectangles that have some
abbrev pub minus : Rectangle → Rectangle → List Rectangle
minus a b =
    let part = meet a b in
    filter has_positions (if is_empty part then a ∷ [] else surroundings a part)

-- ---- rectangles moved and scaled

-- the x at which a rectangle begins that is moved by so much
abbrev pub moved_x : ℤ → Rectangle → ℤ
moved_x dx r = plane_coordinate r.first_column +ℤ dx

-- the y so
abbrev pub moved_y : ℤ → Rectangle → ℤ
moved_y dy r = plane_coordinate r.first_row +ℤ dy

-- the rectangle moved by dx and dy, or why that is none: an empty one stays
abbrev pub shifted : ℤ → ℤ → Rectangle → Result Rectangle RectRefused
shifted dx dy r =
    if is_empty r then Ok r else new_rectangle (moved_x dx r) (moved_y dy r) (pos r.width) (pos r.height)

-- the rectangle with so many more positions on each side, or why that is none: an empty one stays
abbrev pub grown : ℕ → Rectangle → Result Rectangle RectRefused
grown by r =
    if is_empty r then Ok r
    else if nat_lt r.first_column by || nat_lt r.first_row by then Err Place
    else if nat_lt plane_side (end_column r + by) || nat_lt plane_side (end_row r + by) then Err Size
    else Ok (spanning (r.first_column - by) (r.first_row - by) (end_column r + by) (end_row r + by))

-- two numbers are at most so far apart
abbrev pub AreNear : ℕ → ℕ → ℕ → Type 0
AreNear by m n = (m ≤ n + by) × (n ≤ m + by)

-- some position of the rectangle is at most so many columns and rows away
abbrev pub InsideGrown : ℕ → ℕ → ℕ → Rectangle → Type 0
InsideGrown by u v r = (u' : ℕ) × (v' : ℕ) × Inside u' v' r × AreNear by u u' × AreNear by v v'

-- the column of half an x, rounded down, or the row of half a y
abbrev pub half : ℕ → ℕ
half n = n / 2 + origin / 2

-- from half the first to half of what is after the last, the first rounded down and the second up
abbrev pub halved : Rectangle → Rectangle
halved r = spanning (half r.first_column) (half r.first_row) (half (end_column r + 1)) (half (end_row r + 1))

-- the position is that of half the x and half the y of a position of the rectangle
abbrev pub InsideHalved : ℕ → ℕ → Rectangle → Type 0
InsideHalved u v r = (u' : ℕ) × (v' : ℕ) × Inside u' v' r × (u ≡ half u') × (v ≡ half v')

-- the column of an x divided by 2 ^ level, rounded down, or the row of a y so divided
abbrev pub coarse : ℕ → ℕ → ℕ
coarse level n = n / 2 ^ level + (origin - origin / 2 ^ level)

-- all four fields times 2 ^ level, or why that is no rectangle
abbrev pub enlarged : ℕ → Rectangle → Result Rectangle RectRefused
enlarged level r =
    new_rectangle
    (plane_coordinate r.first_column *ℤ pos (2 ^ level))
    (plane_coordinate r.first_row *ℤ pos (2 ^ level))
    (pos r.width *ℤ pos (2 ^ level))
    (pos r.height *ℤ pos (2 ^ level))

-- a rectangle in limits, where there is one
abbrev pub if_in_limits : Result Rectangle RectRefused → Option Rectangle
if_in_limits (Ok r) = if in_limits r then Some r else None
if_in_limits (Err refused) = None

-- all four fields times 2 ^ level, where that is a rectangle in limits
abbrev pub scaled : ℕ → Rectangle → Option Rectangle
scaled level r = if_in_limits (enlarged level r)
