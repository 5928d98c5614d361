-- `decode` and `condition_of` case by case, for the proofs of code that matches on numbers.
use mathlib.Core.Path.{◌≡◌, refl}
use mathlib.Core.Logic.{◌≢◌}
use Prim.Native.Nat.{ℕ, zero, suc, ◌+◌, ◌-◌, ◌≤◌, ◌<◌}
use native.Mathlib.Omega.{arith}
use borrow.Author.Tests.{le-leb, lt-leb, ne_eqb}
use Rattle.net.specs.declared.Symbol.TheVariants.{Constant, Letter, Vertex, Unknown}
use Rattle.net.specs.declared.Condition.TheVariants.{Open, NClosed, PClosed}
use Rattle.net.specs.Limits.{most_vertices, most_letters, letter_base, vertex_base}
use Rattle.net.specs.Symbols.{decode}
use Rattle.net.specs.State.{condition_of}

module _ (s : ℕ) where
  pub decode_constant : s ≤ 1 → Constant s ≡ decode s
  unfolding decode
  decode_constant h = rw (le-leb s 1 h)

  pub decode-low : 1 < s → s ≤ letter_base → Unknown ≡ decode s
  unfolding decode
  decode-low h l = rw (lt-leb s 1 h, lt-leb (letter_base + 1) s (omega arith), lt-leb (vertex_base + 1) s (omega arith))

  pub decode_letter : letter_base < s → s ≤ letter_base + most_letters → Letter (s - letter_base) ≡ decode s
  unfolding decode
  decode_letter h l = rw (lt-leb s 1 (omega arith), le-leb (letter_base + 1) s (omega arith), le-leb s (letter_base + most_letters) l)

  pub decode_middle : letter_base + most_letters < s → s ≤ vertex_base → Unknown ≡ decode s
  unfolding decode
  decode_middle h l = rw (lt-leb s 1 (omega arith), le-leb (letter_base + 1) s (omega arith), lt-leb s (letter_base + most_letters) h, lt-leb (vertex_base + 1) s (omega arith))

  pub decode-vertex : vertex_base < s → s ≤ vertex_base + most_vertices → Vertex (s - vertex_base) ≡ decode s
  unfolding decode
  decode-vertex h l =
      rw (
        lt-leb s 1 (omega arith),
        le-leb (letter_base + 1) s (omega arith),
        lt-leb s (letter_base + most_letters) (omega arith),
        le-leb (vertex_base + 1) s (omega arith),
        le-leb s (vertex_base + most_vertices) l,
      )

  pub decode-high : vertex_base + most_vertices < s → Unknown ≡ decode s
  unfolding decode
  decode-high h =
      rw (
        lt-leb s 1 (omega arith),
        le-leb (letter_base + 1) s (omega arith),
        lt-leb s (letter_base + most_letters) (omega arith),
        le-leb (vertex_base + 1) s (omega arith),
        lt-leb s (vertex_base + most_vertices) h,
      )

-- the type and the closing value of each form
module _ (f v : ℕ) where
  pub n_closed_0 : f ≡ 0 → v ≡ 1 → NClosed ≡ condition_of f v
  unfolding condition_of
  n_closed_0 p e = rw (p, e)

  pub p_closed_1 : f ≡ 1 → v ≡ 0 → PClosed ≡ condition_of f v
  unfolding condition_of
  p_closed_1 p e = rw (p, e)

  pub n_closed_2 : f ≡ 2 → v ≡ 0 → NClosed ≡ condition_of f v
  unfolding condition_of
  n_closed_2 p e = rw (p, e)

  pub p_closed_3 : f ≡ 3 → v ≡ 1 → PClosed ≡ condition_of f v
  unfolding condition_of
  p_closed_3 p e = rw (p, e)

  pub open_0 : f ≡ 0 → v ≢ 1 → Open ≡ condition_of f v
  unfolding condition_of
  open_0 p e = rw (p, ne_eqb v 1 e)

  pub open_1 : f ≡ 1 → v ≢ 0 → Open ≡ condition_of f v
  unfolding condition_of
  open_1 p e = rw (p, ne_eqb v 0 e)

  pub open_2 : f ≡ 2 → v ≢ 0 → Open ≡ condition_of f v
  unfolding condition_of
  open_2 p e = rw (p, ne_eqb v 0 e)

  pub open_3 : f ≡ 3 → v ≢ 1 → Open ≡ condition_of f v
  unfolding condition_of
  open_3 p e = rw (p, ne_eqb v 1 e)

pub open_more : (f v : ℕ) → 3 < f → Open ≡ condition_of f v
unfolding condition_of
open_more zero v h = absurd (omega arith)
open_more (suc zero) v h = absurd (omega arith)
open_more (suc (suc zero)) v h = absurd (omega arith)
open_more (suc (suc (suc zero))) v h = absurd (omega arith)
open_more (suc (suc (suc (suc f)))) v h = refl
