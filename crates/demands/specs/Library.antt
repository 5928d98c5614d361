-- The numbers that a batch asked for by a C program can have.
use Rattle.std.specs.Prelude.{ℕ, ◌≡◌, ◌⊎◌}
use Rattle.sheet.specs.declared.Answer.{Answer}
use Rattle.sheet.specs.Rows.{answer}
use Rattle.sheet.specs.Outcome.{Listed}

-- 0, a number of the reader with a place that it can have, 31 or 45
pub data BatchNumber : Answer → Type 0 where
  fit : BatchNumber (answer 0 0)
  unread : {n p : ℕ} → Listed n p → BatchNumber (answer n p)
  refused : {n p : ℕ} → (n ≡ 31) ⊎ (n ≡ 45) → BatchNumber (answer n p)
