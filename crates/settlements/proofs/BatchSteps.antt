-- A batch as a whole, test by test.
use Prim.Native.Nat.{ℕ, ◌*◌}
use mathlib.Core.Path.{◌≡◌}
use mathlib.Core.Bool.{true, false}
use mathlib.Core.List.{List}
use mathlib.Core.Option.{none}
use lib.Dec.{ltb}
use lib.ListN.{length}
use Rattle.net.specs.declared.Net.{Net}
use Rattle.net.specs.WellFormed.{place_c1}
use Rattle.std.specs.Prelude.{Some}
use Rattle.sheet.specs.Rows.{answer, first_row, by_rows}
use Rattle.sheet.specs.Search.{found_of}
use Rattle.sheet.specs.Valid.{valid}
use Rattle.sheet.proofs.SearchLaws.{found_some}
use Rattle.settlements.specs.Batch.{job_count, job_width, answer_width, buffers, run_jobs, batched, batch_rows, batch_of}
use Rattle.settlements.proofs.PieceLaws.{jobs_of}

module _ (N : Net) (lines results answers : List ℕ) where
  pub bad_record : valid N ≡ false → batched (answer 41 0) results answers ≡ batch_of N lines results answers
  unfolding batch_of batch_rows by_rows first_row
  bad_record e = rw e

  module _ (ok : valid N ≡ true) where
    pub breaks_c1 : {p : ℕ} → found_of (place_c1 N) ≡ Some p → batched (answer 31 p) results answers ≡ batch_of N lines results answers
    unfolding batch_of batch_rows by_rows first_row
    breaks_c1 e = rw (ok, found_some (place_c1 N) e)

    module _ (c1 : place_c1 N ≡ none) where
      pub short_results : ltb (length results) (job_count lines * job_width N) ≡ true → batched (answer 45 0) results answers ≡ batch_of N lines results answers
      unfolding batch_of batch_rows by_rows first_row
      short_results e = rw (ok, c1, e)

      module _ (room : ltb (length results) (job_count lines * job_width N) ≡ false) where
        pub short_answers : ltb (length answers) (job_count lines * answer_width) ≡ true → batched (answer 45 0) results answers ≡ batch_of N lines results answers
        unfolding batch_of batch_rows by_rows first_row
        short_answers e = rw (ok, c1, room, e)

        pub all_run : ltb (length answers) (job_count lines * answer_width) ≡ false → {r a : List ℕ} → buffers r a ≡ run_jobs N (jobs_of lines) results answers
            → batched (answer 0 0) r a ≡ batch_of N lines results answers
        unfolding batch_of batch_rows by_rows first_row
        all_run e same = rw (ok, c1, room, e, ← same)
