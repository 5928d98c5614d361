-- What is written of a text that a call made in a buffer.
use Rattle.std.specs.Prelude.{ℕ, ◌≡◌, Bool, true, List, Option}
use Rattle.std.specs.Io.KnownBytes.{Appends}
use Rattle.output.specs.declared.Written.{Written}
use Rattle.output.specs.Program.{written_part}

-- if all of it could be written, the writer's bytes grew by the part that the call says
abbrev pub PartWritten : Option (List ℕ) → Option (List ℕ) → Bool → Written → List ℕ → Type 0
PartWritten before after is_written written text = is_written ≡ true → Appends before after (written_part written text)
