-- What the test programs read off their input.
use Rattle.std.specs.Prelude.{ℕ, ◌+◌, ◌*◌, cond, List, [], ltb, leb, length, take, drop}
use Rattle.std.proofs.Math.Option.{Option, none, some}
use Rattle.sheet.specs.Limits.{most_columns}
use Rattle.sheet.specs.Field.{read_field}

-- n bytes from a place on; none where they are not all there
unfoldable pub part_of : List ℕ → ℕ → ℕ → List ℕ
part_of b at n = cond (leb (at + n) (length b)) (take n (drop at b)) []

-- the largest number of 32 bits
abbrev pub largest : ℕ
largest = 4294967295

-- a number that may be missing; the largest of 32 bits, which no field holds, where it is
abbrev pub number_of : Option ℕ → ℕ
number_of none = largest
number_of (some n) = n

-- the number whose field stands at a place
unfoldable pub number_at : List ℕ → ℕ → ℕ
number_at b at = number_of (read_field most_columns (part_of b at most_columns))

-- where the parts of a case stand, counted from its kind, which is its first byte: five numbers, the size of its data, its data
abbrev pub data_size_place : ℕ
data_size_place = 1 + 5 * most_columns

abbrev pub data_place : ℕ
data_place = data_size_place + most_columns

-- the size of the data of the case at a place
abbrev pub data_size : List ℕ → ℕ → ℕ
data_size b at = number_at b (at + data_size_place)

unfoldable pub data_of : List ℕ → ℕ → List ℕ
data_of b at = part_of b (at + data_place) (data_size b at)

-- where the next case stands: after the data, and at the end at the latest
unfoldable pub next_of : List ℕ → ℕ → ℕ
next_of b at =
    let next = at + data_place + data_size b at in
    cond (ltb next (length b)) next (length b)
