-- A part is there or not, and a field at a place reads as a number or not. The next case stands later, and no later than the end.
use Prim.Native.Nat.{ℕ, ◌+◌, ◌-◌, ◌≤◌, ◌<◌, min}
use native.Mathlib.Omega.{arith}
use mathlib.Core.Path.{◌≡◌}
use mathlib.Core.Bool.{cond}
use mathlib.Core.List.{List, []}
use mathlib.Core.Option.{Option}
use lib.Dec.{ltb}
use lib.ListN.{length, take, drop}
use borrow.Author.Tests.{le-leb, lt-leb, le-ltb, ltb-true, ltb-false}
use Rattle.std.specs.Prelude.{Some, None}
use Rattle.ternary.proofs.Tests.{by_test, cond_by}
use Rattle.sheet.specs.Limits.{most_columns}
use Rattle.sheet.specs.Field.{read_field, field_answer}
use Rattle.sheet.proofs.LineSteps.{number_of, refused_of, part}
use Rattle.cases.specs.Input.{part_of, largest, number_at, data_place, data_size, next_of}

module _ (b : List ℕ) (at n : ℕ) where
  pub part_missing : length b < at + n → [] ≡ part_of b at n
  unfolding part_of
  part_missing h = rw (lt-leb (at + n) (length b) h)

  pub part_there : at + n ≤ length b → take (at + n - at) (drop at b) ≡ part_of b at n
  unfolding part_of
  part_there h = rw (le-leb (at + n) (length b) h) (part b at n)

-- the lesser of two numbers, by a test
pub min_test : (a b : ℕ) → min a b ≡ cond (ltb a b) a b
min_test a b = by_test (ltb a b) (λ t. rw t (omega (arith, ltb-true a b t))) (λ t. rw t (omega (arith, ltb-false a b t)))

-- the field at a place, once it is read
abbrev field : List ℕ → ℕ → Option ℕ
field b at = read_field most_columns (part_of b at most_columns)

module _ (b : List ℕ) (at : ℕ) where
  pub number_there : (n : ℕ) → field_answer (field b at) ≡ Some n → n ≡ number_at b at
  unfolding number_at
  number_there n e = rw (number_of (field b at) n e)

  pub number_missing : field_answer (field b at) ≡ None → largest ≡ number_at b at
  unfolding number_at
  number_missing e = rw (refused_of (field b at) e)

module _ (b : List ℕ) (at : ℕ) where
  -- where the next case would stand, were there no end
  abbrev after : ℕ
  after = at + data_place + data_size b at

  pub next_beyond : length b < at → length b ≡ next_of b at
  unfolding next_of
  next_beyond h = rw (le-ltb after (length b) (omega arith))

  next-later : at < length b → at < next_of b at
  unfolding next_of
  next-later h = cond_by (λ i. at < i) (ltb after (length b)) (λ _. omega arith) (λ _. h)

  pub next-within : next_of b at ≤ length b
  unfolding next_of
  next-within = cond_by (λ i. i ≤ length b) (ltb after (length b)) (λ e. omega (arith, ltb-true after (length b) e)) (λ _. omega arith)

  -- less is left of the input
  pub next_less : at < length b → length b - next_of b at < length b - at
  next_less h = omega (arith, next-later h, next-within)
