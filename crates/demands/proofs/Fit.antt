-- What it tells of a net, a job and the buffers that no row's condition holds.
use Prim.Native.Nat.{ℕ, ◌*◌, ◌≤◌}
use mathlib.Core.Path.{◌≡◌, refl}
use mathlib.Core.Bool.{Bool, true, not, ◌&&◌, ◌||◌, true≢false}
use mathlib.Core.List.{List}
use mathlib.Core.Option.{none}
use lib.Dec.{ltb}
use lib.ListN.{length}
use borrow.Author.Tests.{not-false, ltb-true, ltb-false}
use Rattle.ternary.proofs.Tests.{and_left, and_right, or_false_iff}
use Rattle.net.specs.declared.Net.{Net}
use Rattle.net.specs.Graph.{key_count}
use Rattle.net.specs.Network.{is_input_state, is_key_state, stable}
use Rattle.net.specs.WellFormed.{C1}
use Rattle.net.proofs.WellFormed.{place_c1_none, stable_iff}
use Rattle.std.specs.Prelude.{Some, None}
use Rattle.std.specs.Prelude.{Option as Answered}
use Rattle.sheet.specs.declared.Job.{Job}
use Rattle.sheet.specs.Job.{asks}
use Rattle.sheet.specs.Rows.{when, NoRow}
use Rattle.sheet.specs.Rows.NoRow.{end, next}
use Rattle.sheet.specs.Valid.{valid}
use Rattle.sheet.proofs.RowLaws.{when_none}
use Rattle.settlements.specs.Settle.{settle_rows}
use Rattle.settlements.specs.Batch.{job_width, answer_width, job_rows, batch_rows}
use Rattle.settlements.proofs.SettleLaws.{Startable}
use Rattle.demands.specs.Demand1.{job_line_rows}

-- a row that asks for a test to fail
passes : (b : Bool) → when (not b) ≡ none → b ≡ true
passes b e = not-false b ((when_none (not b)).0 e)

-- the row of two buffers, each too short or not
long_enough : (m a n b : ℕ) → when (ltb m a || ltb n b) ≡ none → (a ≤ m) × (b ≤ n)
long_enough m a n b e =
    let f = (or_false_iff (ltb m a) (ltb n b)).0 ((when_none (ltb m a || ltb n b)).0 e) in
    (ltb-false m a f.0, ltb-false n b f.1)

module _ (N : Net) (A B q : ℕ) where
  starts : (is_input_state N A && is_input_state N B) ≡ true → is_key_state N q ≡ true → stable N A q ≡ true → Startable N A B q
  starts inputs key rest =
      let old = ltb-true A _ (and_left (is_input_state N A) (is_input_state N B) inputs) in
      let new = ltb-true B _ (and_right (is_input_state N A) (is_input_state N B) inputs) in
      let start = ltb-true q _ key in
      record { old = record { input = old; key = start }; new = record { input = new; key = start }; rest = (stable_iff N A q).0 rest }

  pub job_fit : NoRow (job_rows N A B q) → Startable N A B q
  unfolding job_rows
  job_fit (next inputs (next key (next rest end))) = starts (passes _ inputs) (passes _ key) (passes _ rest)

  pub record SettleFit (R T : List ℕ) : Type 0 where
    pub is_valid : valid N ≡ true
    pub c1 : C1 N
    pub startable : Startable N A B q
    pub r_room : key_count N ≤ length R
    pub t_room : key_count N ≤ length T

  pub settle_fit : (R T : List ℕ) → NoRow (settle_rows N A B q R T) → SettleFit R T
  unfolding settle_rows
  settle_fit R T (next v (next c1 (next inputs (next key (next room (next rest end)))))) =
      let fits = long_enough (length R) (key_count N) (length T) (key_count N) room in
      record {
        is_valid = passes _ v;
        c1 = (place_c1_none N).0 c1;
        startable = starts (passes _ inputs) (passes _ key) (passes _ rest);
        r_room = fits.0;
        t_room = fits.1;
      }

-- a job line asks for states that may be settled
pub record JobFit (N : Net) (j : Answered Job) : Type 0 where
  pub A : ℕ
  pub B : ℕ
  pub q : ℕ
  pub asked : j ≡ asks A B q
  pub startable : Startable N A B q

pub job_line_fit : (N : Net) (j : Answered Job) → NoRow (job_line_rows N j) → JobFit N j
job_line_fit N (Some line) (next _ f) = record { A = line.old; B = line.new; q = line.start; asked = refl; startable = job_fit N line.old line.new line.start f }
job_line_fit N None (next e _) = absurd (true≢false (cc))

module _ (N : Net) (count : ℕ) (results answers : List ℕ) where
  pub record BatchFit : Type 0 where
    pub is_valid : valid N ≡ true
    pub c1 : C1 N
    pub results_room : count * job_width N ≤ length results
    pub answers_room : count * answer_width ≤ length answers

  pub batch_fit : NoRow (batch_rows N count results answers) → BatchFit
  unfolding batch_rows
  batch_fit (next v (next c1 (next room end))) =
      let fits = long_enough (length results) (count * job_width N) (length answers) (count * answer_width) room in
      record { is_valid = passes _ v; c1 = (place_c1_none N).0 c1; results_room = fits.0; answers_room = fits.1 }
