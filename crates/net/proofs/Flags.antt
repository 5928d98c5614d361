-- Flags: a list of n digits that holds the answers of a test. Assumes nothing.
use mathlib.Core.Path.{◌≡◌, refl, sym, ap, subst, ◌∙◌}
use mathlib.Core.Bool.{Bool, true, false, ◌&&◌, ◌||◌}
use mathlib.Core.Logic.{◌≢◌}
use mathlib.Core.List.{List}
use Prim.Native.Nat.{ℕ, ◌<◌}
use native.Mathlib.Omega.{arith}
use lib.Dec.{eqb}
use lib.ListN.{length, get_or, set, length-set, length-replicate}
use lib.Seq.{get_or-set_same, get_or-set_other, ext_get_or}
use borrow.Author.Tests.{eqb-true, eqb-false}
use Rattle.ternary.specs.Bits.{digit}
use Rattle.ternary.specs.Lists.{table}
use Rattle.ternary.proofs.Tests.{by_test}
use Rattle.ternary.proofs.ListLaws.{length-table, get_or-table}
use Rattle.net.proofs.Filling.{zeros, zeros_read}

pub and_false_right : (b : Bool) → (b && false) ≡ false
and_false_right true = refl
and_false_right false = refl

pub or_true_right : (b : Bool) → (b || true) ≡ true
or_true_right true = refl
or_true_right false = refl

pub or_false_right : (b : Bool) → (b || false) ≡ b
or_false_right true = refl
or_false_right false = refl

pub record Flagged (n : ℕ) (p : ℕ → Bool) (r : List ℕ) : Type 0 where
  pub size : length r ≡ n
  pub entry : (j : ℕ) → j < n → get_or r j 0 ≡ digit (p j)

-- none is set
pub flags_none : (n : ℕ) {p : ℕ → Bool} → ((j : ℕ) → p j ≡ false) → Flagged n p (zeros n)
flags_none n {p} e = record { size = length-replicate n _; entry = λ j h. zeros_read n j ∙ sym (ap digit (e j)) }

-- one is stored, and the others stay
pub flags_store : {n : ℕ} {p q : ℕ → Bool} {r : List ℕ} → Flagged n p r → (x y : ℕ) → x < n → y ≡ digit (q x) → ((j : ℕ) → j < n → j ≢ x → p j ≡ q j) → Flagged n q (set r x y)
flags_store {n} {p} {q} {r} m x y h e same = record { size = length-set r x y ∙ m.size; entry = go }
  where
    go : (j : ℕ) → j < n → get_or (set r x y) j 0 ≡ digit (q j)
    go j l = by_test (eqb j x)
        (λ t. subst (λ (k : ℕ). get_or (set r x y) k 0 ≡ digit (q k)) (sym (eqb-true j x t)) (get_or-set_same r x y 0 (omega (arith, m.size)) ∙ e))
        (λ t. get_or-set_other r x j y 0 (eqb-false j x t) ∙ m.entry j l ∙ ap digit (same j l (eqb-false j x t)))

-- all stay
pub flags_kept : {n : ℕ} {p q : ℕ → Bool} {r : List ℕ} → Flagged n p r → ((j : ℕ) → j < n → p j ≡ q j) → Flagged n q r
flags_kept m same = record { size = m.size; entry = λ j l. m.entry j l ∙ ap digit (same j l) }

pub flags_table : {n : ℕ} {p : ℕ → Bool} {r : List ℕ} → Flagged n p r → r ≡ table n (λ j. digit (p j))
flags_table {n} {p} {r} m =
    ext_get_or 0 r (table n (λ j. digit (p j))) (m.size ∙ sym (length-table n _))
    (λ j l. m.entry j (omega (arith, m.size)) ∙ sym (get_or-table n (λ k. digit (p k)) j 0 (omega (arith, m.size))))
