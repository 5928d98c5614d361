-- What a record is refused with, before anything is settled on it.
use Prim.Native.Nat.{ℕ}
use mathlib.Core.Path.{◌≡◌, refl}
use mathlib.Core.Bool.{Bool, true, false, cond, true≢false}
use mathlib.Core.List.{List}
use mathlib.Core.Option as math
use Rattle.std.specs.Prelude.{Option, Some, None}
use Rattle.net.specs.declared.Net.{Net}
use Rattle.net.specs.WellFormed.{place_c1}
use Rattle.sheet.specs.declared.Answer.{Answer}
use Rattle.sheet.specs.Rows.{answer}
use Rattle.sheet.specs.Search.{found_of}
use Rattle.sheet.specs.Valid.{valid}
use Rattle.sheet.proofs.SearchLaws.{found_some, found_none}
use Rattle.settlements.specs.Numbers.{net_refusal}
use Rattle.settlements.specs.Settle.{settlement, settling, settle_of}
use Rattle.settlements.specs.Batch.{batched, batch_of}
use Rattle.settlements.proofs.SettleSteps as settle
use Rattle.settlements.proofs.BatchSteps as batch

module _ (N : Net) where
  pub refused_record : valid N ≡ false → Some (answer 41 0) ≡ net_refusal N
  unfolding net_refusal
  refused_record e = rw e

  module _ (v : valid N ≡ true) where
    pub refused_c1 : {p : ℕ} → found_of (place_c1 N) ≡ Some p → Some (answer 31 p) ≡ net_refusal N
    unfolding net_refusal
    refused_c1 e = rw (v, found_some (place_c1 N) e)

    pub accepted : found_of (place_c1 N) ≡ None → None ≡ net_refusal N
    unfolding net_refusal
    accepted e = rw (v, found_none (place_c1 N) e)

  -- by the record test and what the test of C1 gives
  data Refusal : Option Answer → Type 0 where
    bad_record : valid N ≡ false → Refusal (Some (answer 41 0))
    breaks_c1 : valid N ≡ true → {p : ℕ} → place_c1 N ≡ math.some p → Refusal (Some (answer 31 p))
    sound : valid N ≡ true → place_c1 N ≡ math.none → Refusal None

  refusal : Refusal (net_refusal N)
  unfolding net_refusal
  refusal = go (valid N) refl (place_c1 N) refl
    where
      go : (b : Bool) → valid N ≡ b → (o : math.Option ℕ) → place_c1 N ≡ o → Refusal (cond b (elim o [ math.none ↦ None | math.some p ↦ Some (answer 31 p) ]) (Some (answer 41 0)))
      go true v math.none c = sound v c
      go true v (math.some p) c = breaks_c1 v c
      go false v o c = bad_record v

  pub passed : net_refusal N ≡ None → (valid N ≡ true) × (place_c1 N ≡ math.none)
  passed e = go refusal e
    where
      go : {o : Option Answer} → Refusal o → o ≡ None → (valid N ≡ true) × (place_c1 N ≡ math.none)
      go (bad_record v) e = absurd (true≢false (cc))
      go (breaks_c1 v c) e = absurd (true≢false (cc))
      go (sound v c) e = (v, c)

  pub unsettled_by : (A B q : ℕ) (R T : List ℕ) {a : Answer} → net_refusal N ≡ Some a → settlement (settling a.number a.place 0 0) R T ≡ settle_of N A B q R T
  unsettled_by A B q R T e = go refusal e
    where
      go : {o : Option Answer} → Refusal o → {a : Answer} → o ≡ Some a → settlement (settling a.number a.place 0 0) R T ≡ settle_of N A B q R T
      go (bad_record v) e = let s = settle.bad_record N A B q R T v in cc
      go (breaks_c1 v {p} c) e = let s = settle.breaks_c1 N A B q R T v {p = p} (rw c refl) in cc
      go (sound v c) e = absurd (true≢false (cc))

  pub unrun_by : (lines results answers : List ℕ) {a : Answer} → net_refusal N ≡ Some a → batched a results answers ≡ batch_of N lines results answers
  unrun_by lines results answers e = go refusal e
    where
      go : {o : Option Answer} → Refusal o → {a : Answer} → o ≡ Some a → batched a results answers ≡ batch_of N lines results answers
      go (bad_record v) e = let s = batch.bad_record N lines results answers v in cc
      go (breaks_c1 v {p} c) e = let s = batch.breaks_c1 N lines results answers v {p = p} (rw c refl) in cc
      go (sound v c) e = absurd (true≢false (cc))
