-- The widths of a sheet and its bytes, written once.
use Rattle.std.specs.Prelude.{ℕ, ◌+◌, ◌*◌, ◌≤◌}
use Rattle.net.specs.Limits.{most_vertices, most_edges}
use Rattle.sheet.specs.declared.Widths.{Widths}

-- how many columns a field has
abbrev pub Columns : Type 0
Columns = ℕ

-- in force; and the fields of a line
abbrev pub field_width : Columns
field_width = 4

abbrev pub field_count : ℕ
field_count = 5

-- the widest field that is read: the numbers of a line are held in 32 bits, and so each of 9 digits is, but not each of 10
abbrev pub most_columns : Columns
most_columns = 9

-- fields of so many columns are read: of some, and no more
pub record ReadColumns (w : Columns) : Type 0 where
  pub some_column : 1 ≤ w
  pub held : w ≤ most_columns

-- the fewest columns that hold every number of a record: its symbols have three digits
abbrev pub record_columns : Columns
record_columns = 3

-- the bytes of a line with w columns a field: the fields, and the byte that ends the line
abbrev pub line_bytes : Columns → ℕ
line_bytes w = w * field_count + 1

abbrev pub line_width : ℕ
line_width = line_bytes field_width

-- a header, and a line for each vertex and each edge
abbrev pub most_lines : ℕ
most_lines = 1 + most_vertices + most_edges

-- the most bytes of a sheet
abbrev pub sheet_bytes : Columns → ℕ
sheet_bytes w = line_bytes w * most_lines

abbrev pub most_bytes : ℕ
most_bytes = sheet_bytes field_width

-- bytes: a blank, the digit 0 (the others follow it), the end of a line
abbrev pub blank : ℕ
blank = 32

abbrev pub digit_zero : ℕ
digit_zero = 48

abbrev pub line_end : ℕ
line_end = 10

-- the edition that a header names
abbrev pub edition : ℕ
edition = 1

abbrev pub widths : Widths
widths =
    record {
      field = field_width;
      fields = field_count;
      columns = most_columns;
      line = line_width;
      lines = most_lines;
      sheet = most_bytes;
      blank = blank;
      digit_zero = digit_zero;
      line_end = line_end;
      edition = edition;
    }
