-- One job, test by test, on its own bytes.
use Prim.Native.Nat.{ℕ}
use mathlib.Core.Path.{◌≡◌, sym}
use mathlib.Core.Bool.{true, false}
use mathlib.Core.List.{List}
use lib.ListN.{take, drop}
use Rattle.net.specs.declared.Net.{Net}
use Rattle.net.specs.Graph.{key_count}
use Rattle.net.specs.Network.{stable}
use Rattle.std.specs.Prelude.{Option, Some, None}
use Rattle.sheet.specs.declared.Job.{Job}
use Rattle.sheet.specs.Job.{asks}
use Rattle.sheet.specs.Rows.{answer, first_row, by_rows}
use Rattle.settlements.specs.Settle.{Settlement, settling, settlement, written, settle_under}
use Rattle.settlements.specs.Batch.{job_rows, job_settlement}
use Rattle.settlements.proofs.NumberLaws.{number_of, state_refused, inputs_told, key_told}
use Rattle.settlements.proofs.SettleLaws.{settle_some}

-- an answer that leaves a job's bytes as they are
abbrev pub left : Net → List ℕ → ℕ → Settlement
left N own n = settlement (settling n 0 0 0) (take (key_count N) own) (drop (key_count N) own)

module _ (N : Net) (own : List ℕ) {j : Option Job} where
  pub no_job : j ≡ None → left N own 46 ≡ job_settlement N j own
  unfolding job_settlement
  no_job e = rw e

  module _ {A B q : ℕ} (asked : j ≡ asks A B q) where
    pub bad_state : {n : ℕ} → number_of N A B q ≡ Some n → left N own n ≡ job_settlement N j own
    unfolding job_settlement job_rows
    bad_state {n} e = rw asked (sym (settle_some N A B q (job_rows N A B q) (take (key_count N) own) (drop (key_count N) own) (answer n 0) (state_refused N A B q _ e)))

    module _ (states : number_of N A B q ≡ None) where
      pub not_stable : stable N A q ≡ false → left N own 44 ≡ job_settlement N j own
      unfolding job_settlement settle_under job_rows by_rows first_row
      not_stable e = rw (asked, inputs_told N A B q states, key_told N A B q states, e)

      pub at_rest : stable N A q ≡ true → written N A B q (take (key_count N) own) (drop (key_count N) own) ≡ job_settlement N j own
      unfolding job_settlement settle_under job_rows by_rows first_row
      at_rest e = rw (asked, inputs_told N A B q states, key_told N A B q states, e)
