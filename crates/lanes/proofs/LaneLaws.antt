-- Laws of lanes: columns, one lane, what a raised row holds lane by lane, and what level rows tell. Assumes nothing.
use Prim.Native.Nat.{ℕ, suc, ◌*◌, ◌^◌, ◌<◌, ◌≤◌}
use mathlib.Core.Path.{◌≡◌, refl, ap, ◌∙◌}
use mathlib.Core.Bool.{Bool, true, false, not, ◌&&◌}
use mathlib.Core.Logic.{◌⊎◌, inl, inr, ◌≢◌}
use mathlib.Core.List.{List}
use native.Mathlib.Omega.{arith}
use lib.Dec.{eqb}
use lib.ListN.{length}
use borrow.Author.Tests.{eqb-true, eqb-false, eq-eqb, ne_eqb, not-true, not-false}
use Rattle.ternary.specs.Bits.{bit, digit}
use Rattle.ternary.specs.Lists.{any_below}
use Rattle.ternary.proofs.ListLaws.{any_found, any_none}
use Rattle.ternary.proofs.Tests.{and_left, and_right, and_false, by_test}
use Rattle.net.specs.Limits.{most_signals}
use Rattle.lanes.specs.Lanes.{assignments, lane, columns, chosen, raised, raise_row, level}
use Rattle.lanes.proofs.GridLaws.{length-grid, grid-cell, length-set_row, set_row-same, set_row-other}

pub assignments_power : assignments ≡ 2 ^ most_signals
assignments_power = refl

-- ---- columns

pub length-columns : length columns ≡ suc most_signals * assignments
unfolding columns
length-columns = length-grid assignments (suc most_signals) _

pub column_read : (p w : ℕ) → p ≤ most_signals → w < assignments → lane columns p w ≡ bit w p
unfolding columns
column_read p w h l = grid-cell assignments (suc most_signals) (λ p w. bit w p) p w (omega arith) l

-- ---- one lane

pub chosen-high : (low high b : ℕ) → b ≡ 1 → chosen low high b ≡ high
unfolding chosen
chosen-high low high b e = simp (eq-eqb b 1 e)

pub chosen-low : (low high b : ℕ) → b ≢ 1 → chosen low high b ≡ low
unfolding chosen
chosen-low low high b n = simp (ne_eqb b 1 n)

pub raised_up : (on from mark : ℕ) → on ≡ 1 → from ≡ 1 → raised on from mark ≡ 1
unfolding raised
raised_up on from mark e f = simp (eq-eqb on 1 e, eq-eqb from 1 f)

pub raised_off : (on from mark : ℕ) → on ≢ 1 → raised on from mark ≡ mark
unfolding raised
raised_off on from mark n = simp (ne_eqb on 1 n)

pub raised-unset : (on from mark : ℕ) → from ≢ 1 → raised on from mark ≡ mark
unfolding raised
raised-unset on from mark n = by_test (eqb on 1) (λ t. simp (t, ne_eqb from 1 n)) (λ t. simp t)

-- ---- a row raised

pub length-raise_row : (on : List ℕ) (i from to : ℕ) (r : List ℕ) → length (raise_row on i from to r) ≡ length r
unfolding raise_row
length-raise_row on i from to r = length-set_row assignments to _ r

pub raise_row-same : (on : List ℕ) (i from to : ℕ) (r : List ℕ) (w : ℕ) → w < assignments → suc to * assignments ≤ length r → lane (raise_row on i from to r) to w ≡ raised (lane on i w) (lane r from w) (lane r to w)
unfolding raise_row
raise_row-same on i from to r w l k = set_row-same assignments to (λ w. raised (lane on i w) (lane r from w) (lane r to w)) r w l (omega arith)

pub raise_row-other : (on : List ℕ) (i from to : ℕ) (r : List ℕ) (u w : ℕ) → w < assignments → u ≢ to → lane (raise_row on i from to r) u w ≡ lane r u w
unfolding raise_row
raise_row-other on i from to r u w l n = set_row-other assignments to _ r u w l n

-- ---- level rows

-- edge i is on in lane w, and rows u and v differ there
abbrev pub differs : List ℕ → ℕ → List ℕ → ℕ → ℕ → ℕ → Bool
differs on i r u v w = eqb (lane on i w) 1 && not (eqb (lane r u w) (lane r v w))

pub level_read : (on : List ℕ) (i : ℕ) (r : List ℕ) (u v w : ℕ) → level on i r u v ≡ true → w < assignments → lane on i w ≡ 1 → lane r u w ≡ lane r v w
unfolding level
level_read on i r u v w e l o = go (and_false (eqb (lane on i w) 1) (not (eqb (lane r u w) (lane r v w))) (any_none (differs on i r u v) assignments (not-true _ e) w l))
  where
    go : (eqb (lane on i w) 1 ≡ false) ⊎ (not (eqb (lane r u w) (lane r v w)) ≡ false) → lane r u w ≡ lane r v w
    go (inl f) = absurd (eqb-false (lane on i w) 1 f o)
    go (inr f) = eqb-true (lane r u w) (lane r v w) (not-false _ f)

pub level-found : (on : List ℕ) (i : ℕ) (r : List ℕ) (u v : ℕ) → level on i r u v ≡ false → (w : ℕ) × (w < assignments) × (lane on i w ≡ 1) × (lane r u w ≢ lane r v w)
unfolding level
level-found on i r u v e =
    let f = any_found (differs on i r u v) assignments (not-false _ e) in
    let w : ℕ = f.0 in (
      w,
      f.1,
      eqb-true (lane on i w) 1 (and_left (eqb (lane on i w) 1) _ f.2),
      eqb-false (lane r u w) (lane r v w) (not-true _ (and_right (eqb (lane on i w) 1) (not (eqb (lane r u w) (lane r v w))) f.2)),
    )

pub level_of : (on : List ℕ) (i : ℕ) (r : List ℕ) (u v : ℕ) → ((w : ℕ) → w < assignments → lane on i w ≡ 1 → lane r u w ≡ lane r v w) → level on i r u v ≡ true
level_of on i r u v h = by_test (level on i r u v) (λ t. t) (λ t. let f = level-found on i r u v t in absurd (f.3 (h f.0 f.1 f.2)))

-- what a loop over the lanes has found at its end
pub found-level : {found : ℕ} (on : List ℕ) (i : ℕ) (r : List ℕ) (u v : ℕ) → found ≡ digit (any_below assignments (differs on i r u v)) → eqb found 0 ≡ level on i r u v
unfolding level
found-level on i r u v e = ap (λ (k : ℕ). eqb k 0) e ∙ go (any_below assignments (differs on i r u v))
  where
    go : (a : Bool) → eqb (digit a) 0 ≡ not a
    go true = refl
    go false = refl
