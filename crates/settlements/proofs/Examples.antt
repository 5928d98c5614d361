-- Computed examples: settling and a batch on document 01's worked net, with their numbers in order. They open the definitions and use no law.
use Prim.Native.Nat.{ℕ}
use mathlib.Core.Path.{◌≡◌, refl}
use mathlib.Core.List.{List, [], ◌∷◌, ◌++◌, map}
use lib.ListN.{replicate}
use Rattle.ternary.specs.Signal.{X, every}
use Rattle.ternary.specs.Excitation.{common, H}
use Rattle.ternary.specs.Passes as passes
use Rattle.net.specs.declared.Net.{Net}
use Rattle.net.proofs.Concrete.{vertex, edge, net}
use Rattle.sheet.specs.Rows.{answer, by_rows}
use Rattle.sheet.specs.Record.{empty_net}
use Rattle.sheet.specs.Text.{bytes}
use Rattle.sheet.proofs.Sheets.{open_all, worked_net}
use Rattle.settlements.specs.Settle.{Settlement, settlement, settling, written, settle_under, settle_rows, settle_of}
use Rattle.settlements.specs.Batch.{job_count, pieces, job_rows, job_settlement, run_jobs, batch_rows, batch_of}

opened : Unit {0}
unfolding
    open_all every common H passes.settle_by passes.mix passes.first_pass passes.second_pass passes.settled by_rows worked_net written settle_under
    settle_rows settle_of job_count pieces job_rows job_settlement run_jobs batch_rows batch_of
opened = tt

-- h is 1: one byte of each buffer is written, and what lies beyond stays
worked_settles : settle_of worked_net 0 1 1 (7 ∷ 8 ∷ []) (9 ∷ []) ≡ settlement (settling 0 0 1 0) (X ∷ 8 ∷ []) (X ∷ [])
unfolding opened
worked_settles = refl

worked_stays : settle_of worked_net 0 0 1 (7 ∷ 8 ∷ []) (9 ∷ []) ≡ settlement (settling 0 0 0 0) (1 ∷ 8 ∷ []) (1 ∷ [])
unfolding opened
worked_stays = refl

-- three inverters in a row; from a = 0 to a = 1 both key nodes go through X and settle
follower : Net
unfolding open_all
follower =
    net (vertex 0 0 ∷ vertex 0 1 ∷ vertex 1 0 ∷ vertex 1 0 ∷ vertex 2 0 ∷ [])
    (edge 2 3 1 11 ∷ edge 3 1 0 11 ∷ edge 2 4 1 103 ∷ edge 4 1 0 103 ∷ edge 2 5 1 104 ∷ edge 5 1 0 104 ∷ [])
    1

follower_settles : settle_of follower 0 1 1 (7 ∷ 7 ∷ []) (9 ∷ 9 ∷ []) ≡ settlement (settling 0 0 2 2) (X ∷ X ∷ []) (0 ∷ 1 ∷ [])
unfolding opened follower
follower_settles = refl

-- key node 3 floats at a = 1
broken : Net
unfolding open_all
broken = net (vertex 0 0 ∷ vertex 0 1 ∷ vertex 1 0 ∷ vertex 2 0 ∷ []) (edge 2 3 1 11 ∷ edge 2 4 1 103 ∷ edge 4 1 0 103 ∷ []) 1

-- each number before the next in its order; under each no byte changes
numbers : map (λ (s : Settlement). s.answer) (
    settle_of empty_net 9 9 9 [] []
    ∷ settle_of broken 9 9 9 [] []
    ∷ settle_of worked_net 2 0 9 [] []
    ∷ settle_of worked_net 0 2 9 [] []
    ∷ settle_of worked_net 0 0 2 [] []
    ∷ settle_of worked_net 1 0 1 [] (9 ∷ [])
    ∷ settle_of worked_net 1 0 1 (9 ∷ []) []
    ∷ settle_of worked_net 1 0 1 (9 ∷ []) (9 ∷ [])
    ∷ [])
    ≡ settling 41 0 0 0 ∷ settling 31 3 0 0 ∷ settling 42 0 0 0 ∷ settling 42 0 0 0 ∷ settling 43 0 0 0 ∷ settling 45 0 0 0 ∷ settling 45 0 0 0
    ∷ settling 44 0 0 0 ∷ []
unfolding opened broken
numbers = refl

unstable-start : settle_of worked_net 1 0 1 (7 ∷ 8 ∷ []) (9 ∷ []) ≡ settlement (settling 44 0 0 0) (7 ∷ 8 ∷ []) (9 ∷ [])
unfolding opened
unstable-start = refl

-- ---- a batch: the worked example's four jobs and a short last piece

jobs : List ℕ
jobs = bytes "   4   0   1   1   0\n" ++ bytes "   4   0   0   1   0\n" ++ bytes "   4   1   0   1   0\n" ++ bytes "   4   2   0   1   0\n" ++ bytes "   4"

-- a refused job leaves its own bytes and writes its number and two zeros; what lies beyond the last job stays
worked-batch : batch_of worked_net jobs (replicate 11 9) (replicate 16 9) ≡ record {
  answer = answer 0 0;
  buffers = record {
    results = X ∷ X ∷ 1 ∷ 1 ∷ 9 ∷ 9 ∷ 9 ∷ 9 ∷ 9 ∷ 9 ∷ 9 ∷ [];
    answers = 0 ∷ 1 ∷ 0 ∷ 0 ∷ 0 ∷ 0 ∷ 44 ∷ 0 ∷ 0 ∷ 42 ∷ 0 ∷ 0 ∷ 46 ∷ 0 ∷ 0 ∷ 9 ∷ [];
  };
}
unfolding opened jobs
worked-batch = refl

-- r comes before t
follower_batch : batch_of follower (bytes "   4   0   1   1   0\n") (replicate 4 9) (replicate 3 9) ≡ record {
  answer = answer 0 0;
  buffers = record { results = X ∷ X ∷ 0 ∷ 1 ∷ []; answers = 0 ∷ 2 ∷ 2 ∷ [] };
}
unfolding opened follower
follower_batch = refl

-- a batch of no bytes answers 0 and writes nothing; five jobs do not fit nine result bytes, nor fourteen answer bytes
sizes : (batch_of worked_net [] [] []).answer ∷ (batch_of worked_net jobs (replicate 9 9) (replicate 15 9)).answer ∷ (batch_of worked_net jobs (replicate 10 9) (replicate 14 9)).answer
    ∷ (batch_of broken jobs [] []).answer ∷ (batch_of empty_net jobs [] []).answer ∷ []
    ≡ answer 0 0 ∷ answer 45 0 ∷ answer 45 0 ∷ answer 31 3 ∷ answer 41 0 ∷ []
unfolding opened jobs broken
sizes = refl
