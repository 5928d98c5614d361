-- Limits and bytes of the program's output, written once.
use Rattle.std.specs.Prelude.{ℕ, ◌+◌, ◌*◌}
use Rattle.net.specs.Limits.{most_key_nodes}
use Rattle.sheet.specs.Limits.{field_width, line_width}

-- jobs past this one stay unread
abbrev pub most_jobs : ℕ
most_jobs = 9999

-- jobs that one call takes
abbrev pub piece_jobs : ℕ
piece_jobs = 3333

-- the bytes of their lines
abbrev pub piece_lines : ℕ
piece_lines = piece_jobs * line_width

-- what each line opens with: four numbers, a field each
abbrev pub four_fields : ℕ
four_fields = 4 * field_width

-- the first line: four fields and its end
abbrev pub opening_bytes : ℕ
opening_bytes = four_fields + 1

-- the line of a job of h key nodes: four fields, two blanks, two vectors and its end
abbrev pub job_bytes : ℕ → ℕ
job_bytes h = four_fields + 2 * h + 3

abbrev pub piece_bytes : ℕ
piece_bytes = piece_jobs * job_bytes most_key_nodes

-- the character of an unknown signal, and the one that stands for each signal under a refusal
abbrev pub letter_x : ℕ
letter_x = 88

abbrev pub hyphen : ℕ
hyphen = 45
