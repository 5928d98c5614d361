-- What signals add to the indices, summed up signal by signal: bounds, and the turns of the loops. Assumes nothing.
use Prim.Native.Nat.{ℕ, suc, ◌+◌, ◌*◌, ◌≤◌, ◌<◌}
use mathlib.Core.Path.{◌≡◌, refl, ap, ◌∙◌}
use mathlib.Core.Bool.{cond}
use mathlib.Core.List.{List}
use native.Mathlib.Omega.{arith}
use native.Mathlib.Numerals.{add-one}
use native.Mathlib.Decide.{le_ind}
use lib.Dec.{ltb}
use lib.ListN.{length}
use borrow.Author.Tests.{lt-ltb, le-ltb}
use Rattle.ternary.specs.Lists.{table}
use Rattle.ternary.specs.Signal.{at}
use Rattle.ternary.specs.TruthTable.{signal_kinds, ternary_digit}
use Rattle.ternary.proofs.ListLaws.{length-table, table_ext}
use Rattle.ternary.proofs.SignalLaws.{at_table}
use Rattle.net.specs.Limits.{most_letters, most_key_nodes}
use Rattle.net.proofs.Filling.{zeros, fill_zeros, fill_end}
use Rattle.lanes.specs.Grid.{cell}
use Rattle.lookups.specs.TernaryTables.{ternary_assignments}
use Rattle.lookups.specs.LookUps.{added, Indexed, looked_up, sums, next_by, Addable, Summable, IndexedFrom}

module _ (A : List ℕ) (from : ℕ) (s : List ℕ) where
  -- more signals add no less
  added-step : (n k : ℕ) → added A from s n k ≤ added A from s (suc n) k
  unfolding added
  added-step n k = omega arith

  added_mono : (m n k : ℕ) → m ≤ n → added A from s m k ≤ added A from s n k
  added_mono m n k l = le_ind (λ (j : ℕ). added A from s m k ≤ added A from s j k) (omega arith) (λ j i c. omega (arith, c, added-step j k)) n l

  -- ---- a loop that adds a row for each signal

  pub sums-start : zeros most_key_nodes ≡ table most_key_nodes (added A from s 0)
  unfolding added
  sums-start = fill_end (fill_zeros most_key_nodes) (λ j a b. refl)

  module _ (i : ℕ) {sum : List ℕ} {d : ℕ} (e : sum ≡ table most_key_nodes (added A from s i)) (f : d ≡ ternary_digit (at s i)) where
    -- one signal more
    turn : (k : ℕ) → k < most_key_nodes → at sum k + cell most_key_nodes A ((from + i) * signal_kinds + d) k ≡ added A from s (i + 1) k
    unfolding added
    turn k l = rw (add-one, added, e, at_table most_key_nodes (added A from s i) k l, f)

    pub sums_addable : i < length s → Summable A from s → Addable sum A ((from + i) * signal_kinds + d)
    sums_addable l small k b = rw (turn k b) (omega (arith, small k b, added_mono (i + 1) (length s) k (omega arith)))

    pub sums_turn : {next : List ℕ} → next ≡ table most_key_nodes (λ k. at sum k + cell most_key_nodes A ((from + i) * signal_kinds + d) k)
        → next ≡ table most_key_nodes (added A from s (i + 1))
    sums_turn g = g ∙ table_ext most_key_nodes _ _ turn

-- ---- indices

module _ (A : List ℕ) where
  -- what the letters, and what the key nodes add, is no more than an index
  pub letters_summable : Indexed A → (p : List ℕ) → length p ≡ most_letters → Summable A 0 p
  letters_summable small p e k l = rw e (omega (arith, small p p k l))

  pub keys_summable : (b : List ℕ) → IndexedFrom b A → (v : List ℕ) → length v ≡ most_key_nodes → Summable A most_letters v
  keys_summable b small v e k l = rw e (omega (arith, small v k l))

  sums_at : {b : List ℕ} (from n : ℕ) (s : List ℕ) → length s ≡ n → b ≡ sums A from s → (k : ℕ) → k < most_key_nodes → at b k ≡ added A from s n k
  unfolding sums
  sums_at from n s e f k l = rw (f, at_table most_key_nodes (added A from s (length s)) k l, e)

  pub letters_indexed : {b : List ℕ} → Indexed A → (p : List ℕ) → length p ≡ most_letters → b ≡ sums A 0 p → IndexedFrom b A
  letters_indexed small p e f v k l = rw (sums_at 0 most_letters p e f k l) (small p v k l)

  module _ (T : List ℕ) (h : ℕ) where
    -- where the letters' sums are at hand
    pub next-looked_up : {b r : List ℕ} (p v : List ℕ) → length p ≡ most_letters → b ≡ sums A 0 p → r ≡ next_by T A h b v → r ≡ looked_up T A h p v
    unfolding next_by looked_up
    next-looked_up p v e f g =
        g ∙ table_ext most_key_nodes _ _ (λ k l. ap (λ (x : ℕ). cond (ltb k h) (cell ternary_assignments T k (x + added A most_letters v most_key_nodes k)) 0) (sums_at 0 most_letters p e f k l))

    pub length-looked_up : {r : List ℕ} (p v : List ℕ) → r ≡ looked_up T A h p v → length r ≡ most_key_nodes
    unfolding looked_up
    length-looked_up p v g = ap length g ∙ length-table most_key_nodes _

    -- ---- a loop that looks up the key nodes from the first

    -- key node k has the entry whose index is the letters' sum b and the key nodes' sum
    module _ (b v : List ℕ) where
      abbrev pub next_at : ℕ → ℕ
      next_at k = cond (ltb k h) (cell ternary_assignments T k (at b k + added A most_letters v most_key_nodes k)) 0

      pub next_beyond : (k : ℕ) → h ≤ k → 0 ≡ next_at k
      next_beyond k l = rw (le-ltb k h l)

      module _ {s : List ℕ} (e : length v ≡ most_key_nodes) (f : s ≡ sums A most_letters v) (k : ℕ) where
        next_index : k < most_key_nodes → at b k + at s k ≡ at b k + added A most_letters v most_key_nodes k
        next_index l = ap (λ (x : ℕ). at b k + x) (sums_at most_letters most_key_nodes v e f k l)

        pub next_small : IndexedFrom b A → k < most_key_nodes → at b k + at s k < ternary_assignments
        next_small small l = rw (next_index l) (small v k l)

        pub next-found : h ≤ most_key_nodes → k < h → cell ternary_assignments T k (at b k + at s k) ≡ next_at k
        next-found m l = rw (lt-ltb k h l) (ap (cell ternary_assignments T k) (next_index (omega arith)))
