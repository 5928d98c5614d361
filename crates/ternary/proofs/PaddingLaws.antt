-- Zeros behind a vector change neither its index nor what a function has in common at its completions, so a table that is grown over n places serves
-- every vector of at most n. Assumes nothing.
use Prim.Native.Nat.{ℕ, zero, suc, ◌-◌, ◌^◌, ◌<◌, ◌≤◌}
use mathlib.Core.Path.{◌≡◌, sym, ap, ◌∙◌}
use mathlib.Core.List.{List, [], ◌∷◌, ◌++◌, append-nil}
use native.Mathlib.Omega.{arith}
use native.Mathlib.Nat.{pow-le-pow_right, mul-zero, add-zero}
use lib.Dec.{lit<}
use lib.ListN.{length, get_or, replicate, length-append, length-replicate}
use lib.Seq.{append_snoc}
use Rattle.ternary.specs.Lists.{table}
use Rattle.ternary.specs.Signal.{X, Signal}
use Rattle.ternary.specs.Excitation.{common_of}
use Rattle.ternary.specs.TruthTable.{signal_kinds, grow, ternary_index}
use Rattle.ternary.proofs.ListLaws.{length-table, get_or-table, get_or_inside}
use Rattle.ternary.proofs.ExcitationLaws.{common_of_ext}
use Rattle.ternary.proofs.TruthTableLaws.{ternary_index_lt, ternary_index_last, common_of_zero, grow-length, grow-common}

abbrev zeros : ℕ → List ℕ
zeros m = replicate m 0

-- one zero more goes to the end of the vector
one_more_lem : (r : List ℕ) (m : ℕ) → r ++ zeros (suc m) ≡ (r ++ 0 ∷ []) ++ zeros m
one_more_lem r m = sym (append_snoc r 0 (zeros m))

pub ternary_index-zeros : (r : List ℕ) (m : ℕ) → ternary_index (r ++ zeros m) ≡ ternary_index r
ternary_index-zeros r zero = rw append-nil
ternary_index-zeros r (suc m) = rw one_more_lem (ternary_index-zeros (r ++ 0 ∷ []) m ∙ ternary_index_last r 0 ∙ rw (mul-zero, add-zero))

pub common_of-zeros : (f : ℕ → ℕ) (r : List ℕ) (m : ℕ) → common_of f (r ++ zeros m) ≡ common_of f r
common_of-zeros f r zero = rw append-nil
common_of-zeros f r (suc m) = rw one_more_lem (common_of-zeros f (r ++ 0 ∷ []) m ∙ common_of_zero f r)

-- the table grown from a function's signals over n places holds the function's common value at every vector of at most n places
pub grow-padded : (n : ℕ) (f : ℕ → ℕ) (r : List ℕ) (d : ℕ) → length r ≤ n → ((w : ℕ) → w < 2 ^ n → Signal (f w)) → get_or (grow n (table (2 ^ n) f)) (ternary_index r) d ≡ common_of f r
grow-padded n f r d h g =
    get_or_inside grown (ternary_index r) d X inside
    ∙ ap (λ (i : ℕ). get_or grown i X) (sym (ternary_index-zeros r (n - length r)))
    ∙ grow-common n (table (2 ^ n) f) v size (length-table (2 ^ n) f) (λ w l. rw (entry w l) (g w l))
    ∙ common_of_ext _ f v (λ w c. entry w (rw size at c.below))
    ∙ common_of-zeros f r (n - length r)
  where
    grown : List ℕ
    grown = grow n (table (2 ^ n) f)

    v : List ℕ
    v = r ++ zeros (n - length r)

    size : length v ≡ n
    size = rw (length-append, length-replicate) (omega arith)

    entry : (w : ℕ) → w < 2 ^ n → get_or (table (2 ^ n) f) w X ≡ f w
    entry w l = get_or-table (2 ^ n) f w X l

    inside : ternary_index r < length grown
    inside = omega (arith, ternary_index_lt r, pow-le-pow_right {n = signal_kinds} (lit< tt) h, grow-length n (table (2 ^ n) f) (length-table (2 ^ n) f))
