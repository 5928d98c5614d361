-- A table grown in place: the halves and the thirds that the code takes, and what stands in the slice once each third is written.
use Prim.Native.Nat.{ℕ, zero, suc, ◌-◌, ◌*◌, ◌/◌, ◌^◌, ◌<◌}
use mathlib.Core.Path.{◌≡◌, refl, sym, ap, ◌∙◌}
use mathlib.Core.Logic.{◌≢◌}
use mathlib.Core.List.{List, ◌++◌}
use native.Mathlib.Omega.{arith}
use native.Mathlib.Nat.{pow-zero, pow-succ', one-le-pow}
use native.Mathlib.Numerals.{sub-one}
use lib.Dec.{lit<}
use lib.ListN.{length, get_or, take, drop, set, length-append, length-set, length-drop}
use lib.Seq.{length-take-le, take_all, take_at, drop_at, get_or-set_same, ext_get_or}
use borrow.Rule.Slice.PartMut.{put_mid}
use Rattle.ternary.specs.TruthTable.{signal_kinds, grow}
use Rattle.ternary.proofs.TruthTableLaws.{grow_halves}
use Rattle.lanes.specs.Grid.{set_row}
use Rattle.growth.proofs.JoinLaws.{shared, joined}

-- a power of b is b times the one before it
power : (b n : ℕ) → n ≢ 0 → b ^ n ≡ b * b ^ (n - 1)
power b zero p = absurd (p refl)
power b (suc n) p = rw (sub-one (suc n)) (pow-succ' b n)

-- ---- a table over no variable

pub grown_none : (n : ℕ) (t o : List ℕ) → n ≡ 0 → length t ≡ 2 ^ n → length o ≡ signal_kinds ^ n → set o 0 (get_or t 0 0) ≡ grow n t
unfolding grow
grown_none n t o e lt lo =
    let size : length t ≡ 1 = lt ∙ ap (λ (k : ℕ). 2 ^ k) e ∙ pow-zero 2 in
    let room : length o ≡ 1 = lo ∙ ap (λ (k : ℕ). signal_kinds ^ k) e ∙ pow-zero signal_kinds in
    rw e (ext_get_or 0 (set o 0 (get_or t 0 0)) t (length-set o 0 _ ∙ room ∙ sym size)
    (λ i l. let q : i ≡ 0 = omega (arith, length-set o 0 (get_or t 0 0)) in rw q (get_or-set_same o 0 (get_or t 0 0) 0 (omega arith))))

pub entry_inside : (b n : ℕ) (t : List ℕ) → 0 < b → length t ≡ b ^ n → 0 < length t
entry_inside b n t h l = omega (arith, one-le-pow n b h)

-- ---- the halves of the table and the thirds of the slice

abbrev half : List ℕ → ℕ
half t = length t / 2

abbrev pub third : List ℕ → ℕ
third o = length o / signal_kinds

-- a table over n variables, and a slice that the grown one fits into
pub record Sized (n : ℕ) (t o : List ℕ) : Type 0 where
  pub positive : n ≢ 0
  pub table : length t ≡ 2 ^ n
  pub slice : length o ≡ signal_kinds ^ n

module _ {n : ℕ} {t o : List ℕ} (s : Sized n t o) where
  half_power : half t ≡ 2 ^ (n - 1)
  half_power = omega (arith, power 2 n s.positive)

  third_power : third o ≡ signal_kinds ^ (n - 1)
  third_power = omega (arith, power signal_kinds n s.positive)

  pub three_thirds : length o ≡ signal_kinds * third o
  three_thirds = omega (arith, power signal_kinds n s.positive)

  pub third-positive : 0 < third o
  third-positive = omega (arith, third_power, one-le-pow (n - 1) signal_kinds (lit< tt))

  pub low_size : length (take (half t) t) ≡ 2 ^ (n - 1)
  low_size = length-take-le (half t) t (omega arith) ∙ half_power

  high_is : take (length t - half t) (drop (half t) t) ≡ drop (half t) t
  high_is = take_all (length t - half t) (drop (half t) t) (rw length-drop (omega arith))

  pub high_size : length (take (length t - half t) (drop (half t) t)) ≡ 2 ^ (n - 1)
  high_size = rw (high_is, length-drop (half t) t) (omega (arith, power 2 n s.positive))

  pub first_size : length (take (third o) o) ≡ signal_kinds ^ (n - 1)
  first_size = length-take-le (third o) o (omega arith) ∙ third_power

-- ---- the first third is written

abbrev once : List ℕ → List ℕ → List ℕ
once o a = a ++ drop (third o) o

-- the part where the second third goes
abbrev pub second : List ℕ → List ℕ → List ℕ
second o a = take (2 * third o - third o) (drop (third o) (once o a))

-- the call wrote a where the first third was
pub record First (n : ℕ) (t o a : List ℕ) : Type 0 where
  pub sized : Sized n t o
  pub kept : length a ≡ length (take (third o) o)

module _ {n : ℕ} {t o a : List ℕ} (f : First n t o a) where
  length-first : length a ≡ third o
  length-first = f.kept ∙ length-take-le (third o) o (omega arith)

  pub once_size : length (once o a) ≡ length o
  once_size = rw (length-append, length-drop (third o) o) (omega (arith, length-first, three_thirds f.sized))

  length-second : length (second o a) ≡ third o
  length-second =
      length-take-le (2 * third o - third o) (drop (third o) (once o a)) (rw (length-drop (third o) (once o a), once_size) (omega (arith, three_thirds f.sized)))
      ∙ omega arith

  pub second_size : length (second o a) ≡ signal_kinds ^ (n - 1)
  second_size = length-second ∙ third_power f.sized

-- ---- the second third is written

abbrev twice : List ℕ → List ℕ → List ℕ → List ℕ
twice o a b = put_mid (third o) (2 * third o - third o) (once o a) b

-- and b where the second was
pub record Second (n : ℕ) (t o a b : List ℕ) : Type 0 where
  pub first : First n t o a
  pub kept : length b ≡ length (second o a)

module _ {n : ℕ} {t o a b : List ℕ} (f : Second n t o a b) where
  -- what is left of the slice
  abbrev rest : List ℕ
  rest = drop (2 * third o - third o) (drop (third o) o)

  length_rest : length rest ≡ third o
  length_rest = rw (length-drop (2 * third o - third o) (drop (third o) o), length-drop (third o) o) (omega (arith, three_thirds f.first.sized))

  twice_is : twice o a b ≡ a ++ (b ++ rest)
  twice_is = rw (take_at a (drop (third o) o) (third o) (length-first f.first), drop_at a (drop (third o) o) (third o) (length-first f.first))

  pub twice_size : length (twice o a b) ≡ signal_kinds * third o
  twice_size = rw (twice_is, length-append, length-append) (omega (arith, length-first f.first, f.kept, length-second f.first, length_rest))

  -- the last third is joined from both
  pub grown_of : {r : List ℕ} → a ≡ grow (n - 1) (take (half t) t) → b ≡ grow (n - 1) (take (length t - half t) (drop (half t) t))
      → r ≡ set_row (third o) 2 (shared (third o) (twice o a b)) (twice o a b) → r ≡ grow n t
  grown_of {r} ea eb er =
      er
      ∙ ap (λ (l : List ℕ). set_row (third o) 2 (shared (third o) l) l) twice_is
      ∙ joined a b rest (third o) (third-positive f.first.sized) (length-first f.first) (f.kept ∙ length-second f.first) length_rest
      ∙ rw (ea, eb, high_is f.first.sized, half_power f.first.sized) (sym (grow_halves n t f.first.sized.positive))
