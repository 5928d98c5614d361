-- The last third of a table, stored from the two before it, is what they agree on.
use Prim.Native.Nat.{ℕ, ◌*◌, ◌<◌}
use mathlib.Core.Path.{◌≡◌, refl, sym, ap, ap₂, ◌∙◌}
use mathlib.Core.List.{List, ◌++◌, append_assoc}
use native.Mathlib.Omega.{arith}
use lib.ListN.{length, get_or, length-append, get_or-append, get_or-eq_default}
use Rattle.ternary.specs.TruthTable.{signal_kinds, agree, agreeing}
use Rattle.ternary.proofs.TruthTableLaws.{length-agreeing, get_or_agreeing, first-third, second-third, last_third}
use Rattle.lanes.specs.Grid.{cell, set_row}
use Rattle.lanes.proofs.GridLaws.{row_end}

-- entry i of the last third of l, where each third has m entries
abbrev pub shared : ℕ → List ℕ → ℕ → ℕ
shared m l i = agree (cell m l 0 i) (cell m l 1 i)

-- a and b are the first two thirds, r stands where the last one goes
module _ (a b r : List ℕ) (m : ℕ) (p : 0 < m) (la : length a ≡ m) (lb : length b ≡ m) (lr : length r ≡ m) where
  abbrev whole : List ℕ → List ℕ
  whole c = a ++ (b ++ c)

  abbrev grown : List ℕ
  grown = whole (agreeing a b)

  length_whole : (c : List ℕ) → length c ≡ m → length (whole c) ≡ signal_kinds * m
  length_whole c lc = rw (length-append, length-append) (omega arith)

  length-grown : length grown ≡ signal_kinds * m
  length-grown = length_whole (agreeing a b) (length-agreeing a b (la ∙ sym lb) ∙ la)

  -- the first two thirds are the same whatever stands behind them
  before : (c d : List ℕ) (i : ℕ) → i < 2 * m → get_or (whole c) i 0 ≡ get_or (whole d) i 0
  before c d i l =
      let h : i < length (a ++ b) = rw length-append (omega arith) in
      rw (← append_assoc a b c, ← append_assoc a b d) (get_or-append (a ++ b) c 0 i h ∙ sym (get_or-append (a ++ b) d 0 i h))

  -- entry i of the last third
  last : (i : ℕ) → i < m → cell m grown 2 i ≡ shared m (whole r) i
  last i l =
      ap (λ (k : ℕ). get_or grown k 0) (omega arith)
      ∙ last_third a b (agreeing a b) m i 0 la lb
      ∙ get_or_agreeing a b (la ∙ sym lb) i 0
      ∙ sym (ap₂ agree
      (ap (λ (k : ℕ). get_or (whole r) k 0) (omega arith) ∙ first-third a b r m i 0 la lb l)
      (ap (λ (k : ℕ). get_or (whole r) k 0) (omega arith) ∙ second-third a b r m i 0 la lb l))

  pub joined : set_row m 2 (shared m (whole r)) (whole r) ≡ grown
  joined = sym (row_end (record {
    size = length-grown ∙ sym (length_whole r lr);
    stored = last;
    below = λ i l. before (agreeing a b) r i l;
    above = λ i l. get_or-eq_default grown 0 (omega (arith, length-grown)) ∙ sym (get_or-eq_default (whole r) 0 (omega (arith, length_whole r lr)));
  }) p refl)
