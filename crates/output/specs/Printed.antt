-- Where the output has the line of a job, and in it the numbers and the characters of r and t.
use Rattle.std.specs.Prelude.{ℕ, suc, ◌+◌, ◌*◌, ◌≡◌, ◌⊎◌, List, take, drop}
use Rattle.sheet.specs.Limits.{field_width, digit_zero}
use Rattle.output.specs.Limits.{four_fields, opening_bytes, job_bytes}

-- the line of job n, from 0, of a net of h key nodes
abbrev pub printed_line : ℕ → ℕ → List ℕ → List ℕ
printed_line h n output = take (job_bytes h) (drop (opening_bytes + n * job_bytes h) output)

-- its four numbers
abbrev pub printed_numbers : List ℕ → List ℕ
printed_numbers line = take four_fields line

-- the second of them, the job's answer
abbrev pub printed_answer : List ℕ → List ℕ
printed_answer line = take field_width (drop field_width line)

-- r and t, each after a blank
abbrev pub printed_r : ℕ → List ℕ → List ℕ
printed_r h line = take h (drop (four_fields + 1) line)

abbrev pub printed_t : ℕ → List ℕ → List ℕ
printed_t h line = take h (drop (four_fields + 1 + h + 1) line)

-- the value v is the other one of a printed 0 or 1
abbrev pub AgainstPrinted : ℕ → ℕ → Type 0
AgainstPrinted c v = ((c ≡ digit_zero) × (v ≡ 1)) ⊎ ((c ≡ suc digit_zero) × (v ≡ 0))
