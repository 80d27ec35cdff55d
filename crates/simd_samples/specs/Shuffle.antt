-- Shuffles of vectors: which lanes they pick. The lanes of several vectors are counted one after the other.
use Rattle.std.specs.Prelude.{ℕ, ◌+◌, ◌*◌, ◌/◌, ◌%◌, ◌==◌, List, ◌++◌, map, slice_index, if◌then◌else◌}
use Rattle.simd_samples.specs.declared.positions.TheConstants.{EVENS, EVEN_FOURS, EVEN_PAIRS, FIRST_JOINED_BY_LAST, FIRST_JOINED_BY_TWO, FIRST_OF_LAST, FIRST_OF_THREE, FOURTH_OF_FOUR, HIGHS, KEEPING_FOURTH, KEEPING_SECOND, LOWS, ODDS, ODD_FOURS, ODD_PAIRS, SECOND_JOINED_BY_LAST, SECOND_JOINED_BY_TWO, SECOND_OF_LAST, SECOND_OF_THREE, SECOND_OF_TWO, THIRD_JOINED_BY_LAST, THIRD_JOINED_BY_TWO, THIRD_OF_LAST, THIRD_OF_THREE}
use Rattle.simd_samples.specs.declared.shuffles.ShuffleOfTwo.{ShuffleOfTwo}
use Rattle.simd_samples.specs.declared.shuffles.ShuffleOfTwo.TheVariants.{SpreadSecond, SpreadFourth, WithSecond, WithFourth, Evens, Odds, EvenPairs, OddPairs, EvenFours, OddFours, JoinedLow, JoinedHigh}
use Rattle.simd_samples.specs.declared.shuffles.ShuffleOfThree.{ShuffleOfThree}
use Rattle.simd_samples.specs.declared.shuffles.ShuffleOfThree.TheVariants.{Firsts, Seconds, Thirds, JoinedFirst, JoinedSecond, JoinedThird}

-- the lane of two vectors that comes to lane j
abbrev pub position_of_two : ShuffleOfTwo → ℕ → ℕ
position_of_two SpreadSecond j = j / 2 * 2 + 1
position_of_two SpreadFourth j = j / 4 * 4 + 3
position_of_two WithSecond j = if j % 2 == 1 then 16 + j else j
position_of_two WithFourth j = if j % 4 == 3 then 16 + j else j
position_of_two Evens j = 2 * j
position_of_two Odds j = 2 * j + 1
position_of_two EvenPairs j = j / 2 * 4 + j % 2
position_of_two OddPairs j = j / 2 * 4 + 2 + j % 2
position_of_two EvenFours j = j / 4 * 8 + j % 4
position_of_two OddFours j = j / 4 * 8 + 4 + j % 4
position_of_two JoinedLow j = 16 * (j % 2) + j / 2
position_of_two JoinedHigh j = 16 * (j % 2) + 8 + j / 2

-- the lane of three vectors that comes to lane j
abbrev pub position_of_three : ShuffleOfThree → ℕ → ℕ
position_of_three Firsts j = 3 * j
position_of_three Seconds j = 3 * j + 1
position_of_three Thirds j = 3 * j + 2
position_of_three JoinedFirst j = 16 * (j % 3) + j / 3
position_of_three JoinedSecond j = 16 * ((16 + j) % 3) + (16 + j) / 3
position_of_three JoinedThird j = 16 * ((32 + j) % 3) + (32 + j) / 3

-- the lanes at some positions
abbrev pub picked : List ℕ → List ℕ → List ℕ
picked lanes positions = map (slice_index lanes) positions

-- the positions that the shuffle of two vectors is computed by
abbrev pub table_of_two : ShuffleOfTwo → List ℕ
table_of_two SpreadSecond = SECOND_OF_TWO
table_of_two SpreadFourth = FOURTH_OF_FOUR
table_of_two WithSecond = KEEPING_SECOND
table_of_two WithFourth = KEEPING_FOURTH
table_of_two Evens = EVENS
table_of_two Odds = ODDS
table_of_two EvenPairs = EVEN_PAIRS
table_of_two OddPairs = ODD_PAIRS
table_of_two EvenFours = EVEN_FOURS
table_of_two OddFours = ODD_FOURS
table_of_two JoinedLow = LOWS
table_of_two JoinedHigh = HIGHS

-- the positions that the shuffle of three vectors is computed by: among the first two, and then among these and the third
abbrev pub table_of_three : ShuffleOfThree → List ℕ
table_of_three Firsts = FIRST_OF_THREE
table_of_three Seconds = SECOND_OF_THREE
table_of_three Thirds = THIRD_OF_THREE
table_of_three JoinedFirst = FIRST_JOINED_BY_TWO
table_of_three JoinedSecond = SECOND_JOINED_BY_TWO
table_of_three JoinedThird = THIRD_JOINED_BY_TWO

abbrev pub table_of_last : ShuffleOfThree → List ℕ
table_of_last Firsts = FIRST_OF_LAST
table_of_last Seconds = SECOND_OF_LAST
table_of_last Thirds = THIRD_OF_LAST
table_of_last JoinedFirst = FIRST_JOINED_BY_LAST
table_of_last JoinedSecond = SECOND_JOINED_BY_LAST
table_of_last JoinedThird = THIRD_JOINED_BY_LAST

-- two vectors, and three, that are shuffled
abbrev pub shuffled_of_two : List ℕ → List ℕ → ShuffleOfTwo → List ℕ
shuffled_of_two xs ys w = picked (xs ++ ys) (table_of_two w)

abbrev pub shuffled_of_three : List ℕ → List ℕ → List ℕ → ShuffleOfThree → List ℕ
shuffled_of_three xs ys zs w = picked (picked (xs ++ ys) (table_of_three w) ++ zs) (table_of_last w)
