-- Where the passes' vectors stand in the buffers that settling and a job of a batch write.
use Prim.Native.Nat.{ℕ, ◌≤◌}
use native.Mathlib.Omega.{arith}
use mathlib.Core.Path.{◌≡◌, ap, ◌∙◌}
use mathlib.Core.List.{List, ◌++◌, append-nil}
use lib.ListN.{length, take, drop, length-drop, drop_of_length-le}
use lib.Seq.{take_all, take_at, drop_at, length-take-le}
use Rattle.ternary.proofs.Passes.{first_vector_length, second_vector_length}
use Rattle.net.specs.declared.Net.{Net}
use Rattle.net.specs.Graph.{key_count}
use Rattle.net.specs.Network.{network}
use Rattle.net.specs.Ternary.{settled}
use Rattle.settlements.specs.Settle.{written}
use Rattle.settlements.specs.Batch.{job_width}
use Rattle.settlements.proofs.BatchLaws.{vectors_of}

module _ (N : Net) (A B q : ℕ) where
  abbrev r : List ℕ
  r = (settled N A B q).r

  abbrev t : List ℕ
  t = (settled N A B q).t

  pub r_size : length r ≡ key_count N
  r_size = first_vector_length N.letter_count (key_count N) (network N) A B q

  pub t_size : length t ≡ key_count N
  t_size = second_vector_length N.letter_count (key_count N) (network N) A B q

  -- the first h bytes of two buffers are the passes' vectors
  pub record Holds (first second : List ℕ) : Type 0 where
    pub holds_r : take (key_count N) first ≡ r
    pub holds_t : take (key_count N) second ≡ t

  pub vectors_hold : Holds r t
  vectors_hold = record { holds_r = take_all (key_count N) r (omega (arith, r_size)); holds_t = take_all (key_count N) t (omega (arith, t_size)) }

  pub settle_holds : (R T : List ℕ) → Holds (written N A B q R T).r (written N A B q R T).t
  unfolding written
  settle_holds R T = record { holds_r = take_at r _ (key_count N) r_size; holds_t = take_at t _ (key_count N) t_size }

  -- a job's own bytes: r, then t
  pub job_holds : Holds (r ++ t) (drop (key_count N) (r ++ t))
  job_holds = record {
    holds_r = take_at r t (key_count N) r_size;
    holds_t = ap (take (key_count N)) (drop_at r t (key_count N) r_size) ∙ take_all (key_count N) t (omega (arith, t_size));
  }

  pub job_writes : (own : List ℕ) → length own ≡ job_width N → vectors_of (written N A B q (take (key_count N) own) (drop (key_count N) own)) ≡ r ++ t
  unfolding written
  job_writes own size =
      let r-whole : length (take (key_count N) own) ≤ key_count N = omega (arith, length-take-le (key_count N) own (omega arith)) in
      let t-whole : length (drop (key_count N) own) ≤ key_count N = omega (arith, length-drop (key_count N) own) in
      rw (drop_of_length-le _ r-whole, drop_of_length-le _ t-whole, append-nil r, append-nil t)
