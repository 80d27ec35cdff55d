-- The limits of the script language, of the operations and of what a session holds. Lengths are in pixels, samples are
-- of every depth.
use Rattle.std.specs.Prelude.{ℕ, ℤ, pos, neg_ℤ, ◌-◌, ◌^◌, ◌≤◌, ◌≤ℤ◌, ◌&&◌, not, nat_le, unsigned_abs, Bool, true, false, IsTrue, All, List, length}
use Rattle.pixel_formats.specs.declared.abyss.Abyss.{Abyss}
use Rattle.pixel_formats.specs.declared.abyss.Abyss.TheVariants.{None, Clamp, Loop, Black, White}

-- ---- the limits

-- the largest sample of all formats
abbrev pub max_sample : ℕ
max_sample = 2 ^ 32 - 1

-- the largest number that a gain multiplies by, and the largest that it divides by
abbrev pub max_factor : ℕ
max_factor = 2 ^ 16 - 1

-- the largest level: how many times an image is halved
abbrev pub max_level : ℕ
max_level = 8

-- how far an image or a copy may be moved along each axis
abbrev pub max_move : ℕ
max_move = 2 ^ 25

-- the largest radius of the square that an operation reads around a position
abbrev pub max_radius : ℕ
max_radius = 64

-- the longest side of a checker's squares
abbrev pub max_checker_size : ℕ
max_checker_size = 4096

-- the most pixels that the viewers of a watch may render
abbrev pub max_watched_pixels : ℕ
max_watched_pixels = 2 ^ 25

-- the most viewers of a watch, and the most frames of each but the last
abbrev pub max_viewers : ℕ
max_viewers = 16

abbrev pub max_frames : ℕ
max_frames = 64

-- the most bytes of what the names of a watch's files begin with
abbrev pub max_prefix_bytes : ℕ
max_prefix_bytes = 58

-- the most bytes of a script, the most of a line without its end, and the most lines
abbrev pub max_script_bytes : ℕ
max_script_bytes = 2 ^ 20

abbrev pub max_line_bytes : ℕ
max_line_bytes = 1024

abbrev pub max_lines : ℕ
max_lines = 10000

-- the most buffers of a table, nodes of a graph, and states that can be undone or redone
abbrev pub max_buffers : ℕ
max_buffers = 64

abbrev pub max_nodes : ℕ
max_nodes = 256

abbrev pub max_undoable : ℕ
max_undoable = 64

-- ---- what is in them

-- a number of a range, whose ends are included
abbrev pub IsIn : ℕ → ℕ → ℕ → Type 0
IsIn low high value = (low ≤ value) × (value ≤ high)

-- the test for it
abbrev pub is_in : ℕ → ℕ → ℕ → Bool
is_in low high value = nat_le low value && nat_le value high

-- a sample of some format
abbrev pub IsSample : ℕ → Type 0
IsSample sample = sample ≤ max_sample

-- 1 to 4 samples
pub record ArePixel (samples : List ℕ) : Type 0 where
  pub number : IsIn 1 4 (length samples)
  pub each : All IsSample samples

-- how far something may be moved along an axis
abbrev pub IsMove : ℤ → Type 0
IsMove d = (neg_ℤ (pos max_move) ≤ℤ d) × (d ≤ℤ pos max_move)

-- the test for it
abbrev pub is_move : ℤ → Bool
is_move d = nat_le (unsigned_abs d) max_move

-- the policy repeats the image periodically
abbrev pub is_loop : Abyss → Bool
is_loop None = false
is_loop Clamp = false
is_loop Loop = true
is_loop Black = false
is_loop White = false

-- operations read squares under each policy but the one that repeats the image
abbrev pub suits_areas : Abyss → Bool
suits_areas policy = not (is_loop policy)

-- an operation may read squares of this radius under this policy
abbrev pub IsArea : ℕ → Abyss → Type 0
IsArea radius policy = IsIn 1 max_radius radius × IsTrue (suits_areas policy)

-- the test for it
abbrev pub is_area : ℕ → Abyss → Bool
is_area radius policy = is_in 1 max_radius radius && suits_areas policy
