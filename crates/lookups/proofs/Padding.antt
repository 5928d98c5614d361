-- Vectors in more places than they have entries: the rest is 0. Assumes nothing.
use Prim.Native.Nat.{ℕ, ◌^◌, ◌≤◌, ◌<◌}
use mathlib.Core.Path.{◌≡◌, refl, sym, ap, ◌∙◌}
use mathlib.Core.List.{List}
use native.Mathlib.Omega.{arith}
use lib.Dec.{ltb}
use lib.ListN.{length, get_or-eq_default}
use lib.Seq.{ext_get_or}
use borrow.Author.Tests.{ltb-true, ltb-false}
use Rattle.ternary.specs.Bits.{bit}
use Rattle.ternary.specs.Lists.{table, same}
use Rattle.ternary.specs.Signal.{at}
use Rattle.ternary.specs.Passes.{mix}
use Rattle.ternary.proofs.Tests.{by_test, same_test}
use Rattle.ternary.proofs.BitLaws.{bit_beyond}
use Rattle.ternary.proofs.ListLaws.{length-table, table_ext, same_true, same_refl}
use Rattle.ternary.proofs.SignalLaws.{at_table}
use Rattle.lookups.specs.Passing.{padded, bits}

-- a longer table of what is 0 beyond place h
pub table-padded : (n h : ℕ) (f : ℕ → ℕ) → ((k : ℕ) → h ≤ k → f k ≡ 0) → table n f ≡ padded n (table h f)
table-padded n h f beyond = table_ext n f (at (table h f)) (λ k _. by_test (ltb k h)
    (λ t. sym (at_table h f k (ltb-true k h t)))
    (λ t. let b : h ≤ k = ltb-false k h t in beyond k b ∙ sym (get_or-eq_default (table h f) 0 (omega (arith, length-table h f)))))

pub bits-padded : (n h x : ℕ) → x < 2 ^ h → bits n x ≡ padded n (table h (bit x))
bits-padded n h x l = table-padded n h (bit x) (λ k b. bit_beyond h x k l b)

pub mix-padded : (n L A B : ℕ) → A < 2 ^ L → B < 2 ^ L → mix n A B ≡ padded n (mix L A B)
unfolding mix
mix-padded n L A B a b = table-padded n L _ (λ j l. rw (bit_beyond L A j a l, bit_beyond L B j b l) refl)

-- vectors that have room are told apart
pub padded-same : (n h : ℕ) → h ≤ n → (r s : List ℕ) → length r ≡ h → length s ≡ h → same (padded n r) (padded n s) ≡ same r s
padded-same n h l r s lr ls = same_test _ _ (λ t. rw (equal (same_true _ _ t)) (same_refl s)) (λ t. rw (same_true r s t) (same_refl (padded n s)))
  where
    equal : padded n r ≡ padded n s → r ≡ s
    equal e = ext_get_or 0 r s (lr ∙ sym ls) (λ k b. sym (at_table n (at r) k (omega arith)) ∙ ap (λ (v : List ℕ). at v k) e ∙ at_table n (at s) k (omega arith))
