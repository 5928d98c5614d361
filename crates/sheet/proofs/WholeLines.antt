-- Numbers of lines of a length: what division by the length of a line says, for any length. A product of two unknowns is none that `omega` reads.
use Prim.Native.Nat.{ℕ, ◌+◌, ◌*◌, ◌/◌, ◌%◌, ◌^◌, ◌≤◌, ◌<◌}
use native.Mathlib.Nat.{mul_comm, mul-suc, mul-le-mul_left, mod-eq_of_lt, mod-add-div, mul-div-le, mul-mod_right, div-eq_of_eq-mul_right, le-div_iff_mul-le, pow-le-pow_right}
use native.Mathlib.Omega.{arith}
use mathlib.Core.Path.{◌≡◌, sym, ap, ◌∙◌}
use mathlib.Core.Logic.{◌↔◌}
use lib.Dec.{ltb, lit<}
use borrow.Author.Tests.{ltb-true, ltb-false}
use Rattle.ternary.proofs.Tests.{by_test}
use Rattle.sheet.specs.Limits.{record_columns}

module _ (L n : ℕ) where
  -- whole lines, and not none
  pub whole-first : 1 ≤ n → n % L ≡ 0 → L ≤ n
  whole-first some whole =
      by_test (ltb n L) (λ t. absurd (omega (arith, some, whole, mod-eq_of_lt {n = n} {m = L} (ltb-true n L t)))) (ltb-false n L)

  pub lines_room : (k : ℕ) → n / L ≡ k → L * k ≤ n
  lines_room k e = rw (← e) (mul-div-le n L)

  pub lines_whole : (k : ℕ) → n % L ≡ 0 → n / L ≡ k → n ≡ L * k
  lines_whole k whole e = let parts = rw (whole, e) at (mod-add-div n L) in omega (arith, parts)

  module _ (k : ℕ) (pos : 0 < L) where
    pub line-count : n ≡ L * k → n / L ≡ k
    line-count e = div-eq_of_eq-mul_right pos e

    pub lines_fill : n ≡ L * k → n % L ≡ 0
    lines_fill e = rw e (mul-mod_right L k)

    pub by_division : (k ≤ n / L) ↔ (L * k ≤ n)
    by_division = rw (mul_comm L k) (le-div_iff_mul-le {k = L} {x = k} {y = n} pos)

-- a line after the one that stands behind j lines and the header
pub line_after : (L j : ℕ) → L * (1 + j) + L ≡ L * (1 + (j + 1))
line_after L j = sym (mul-suc L (1 + j)) ∙ ap (λ (n : ℕ). L * n) (omega arith)

pub line-within : (L j count : ℕ) → j < count → L * (1 + j) + L ≤ L * (1 + count)
line-within L j count h = rw (line_after L j) (mul-le-mul_left {m = 1 + (j + 1)} {n = 1 + count} L (omega arith))

-- ---- what a field of some columns holds

pub holds_ten : (w : ℕ) → 1 ≤ w → 10 ≤ 10 ^ w
holds_ten w h = pow-le-pow_right {n = 10} (lit< tt) {i = 1} {j = w} h

pub holds_record : (w : ℕ) → record_columns ≤ w → 10 ^ record_columns ≤ 10 ^ w
holds_record w h = pow-le-pow_right {n = 10} (lit< tt) {i = record_columns} {j = w} h
