-- Computed examples in other widths than the one in force: document 01's worked sheet in the fewest columns that hold it and in six, and numbers that
-- only wide fields can show.
use Prim.Native.Nat.{ℕ}
use Prim.Native.String.{String}
use mathlib.Core.Path.{◌≡◌, refl}
use mathlib.Core.List.{List, ◌++◌}
use Rattle.std.specs.Prelude.{None}
use Rattle.sheet.specs.Limits.{field_width, record_columns}
use Rattle.sheet.specs.Rows.{answer}
use Rattle.sheet.specs.Record.{refused, accepted}
use Rattle.sheet.specs.Reading.{read_in}
use Rattle.sheet.specs.Writing.{write_in}
use Rattle.sheet.specs.Job.{asks, job_in}
use Rattle.sheet.specs.Text.{bytes}
use Rattle.sheet.proofs.Sheets.{open_all, worked_sheet, worked_net}

abbrev wide : ℕ
wide = 6

-- the worked sheet with other lines 1, 3 and 6
abbrev wide_sheet : String → String → String → List ℕ
wide_sheet line1 line3 line6 =
    bytes line1
    ++ bytes "     2     1     0     0     0\n"
    ++ bytes line3
    ++ bytes "     2     3     2     0     0\n"
    ++ bytes "     2     4     1     0     0\n"
    ++ bytes line6
    ++ bytes "     3     2     3     1   103\n"
    ++ bytes "     3     3     4     0    11\n"
    ++ bytes "     3     4     1     0   103\n"

abbrev header : String
header = "     1     4     4     1     1\n"

abbrev vertex2 : String
vertex2 = "     2     2     0     1     0\n"

abbrev edge1 : String
edge1 = "     3     2     3     1    11\n"

wide_read : read_in wide (wide_sheet header vertex2 edge1) ≡ accepted worked_net
unfolding open_all worked_net
wide_read = refl

wide-written : write_in wide worked_net ≡ wide_sheet header vertex2 edge1
unfolding open_all worked_net
wide-written = refl

fewest_columns : read_in record_columns (write_in record_columns worked_net) ≡ accepted worked_net
unfolding open_all worked_net
fewest_columns = refl

-- a sheet of one width is none of another: its bytes are no whole number of lines
narrow_in_wide : read_in wide worked_sheet ≡ refused (answer 11 0)
unfolding open_all
narrow_in_wide = refl

wide_in_narrow : read_in field_width (wide_sheet header vertex2 edge1) ≡ refused (answer 11 0)
unfolding open_all
wide_in_narrow = refl

-- numbers that fill their fields are five fields, and no values that are allowed; the last four have an allowed value in their last 16 or 8 bits
large_count : read_in wide (wide_sheet "     1999999     4     1     1\n" vertex2 edge1) ≡ refused (answer 13 1)
unfolding open_all
large_count = refl

count_beyond_16_bits : read_in wide (wide_sheet "     1 65540     4     1     1\n" vertex2 edge1) ≡ refused (answer 13 1)
unfolding open_all
count_beyond_16_bits = refl

label_beyond_16_bits : read_in wide (wide_sheet header "     2     2     0 65537     0\n" edge1) ≡ refused (answer 15 3)
unfolding open_all
label_beyond_16_bits = refl

end_beyond_8_bits : read_in wide (wide_sheet header vertex2 "     3   258     3     1    11\n") ≡ refused (answer 16 6)
unfolding open_all
end_beyond_8_bits = refl

symbol_beyond_16_bits : read_in wide (wide_sheet header vertex2 "     3     2     3     1 65547\n") ≡ refused (answer 16 6)
unfolding open_all
symbol_beyond_16_bits = refl

-- job lines
wide_job : job_in wide (bytes "     4     3    12 65535     0\n") ≡ asks 3 12 65535
unfolding open_all
wide_job = refl

narrow_job : job_in wide (bytes "   4   3  12   7   0\n") ≡ None
unfolding open_all
narrow_job = refl
