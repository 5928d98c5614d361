-- A piece, by the reader's answer.
use Prim.Native.Nat.{ℕ, ◌≤◌, ◌<◌}
use mathlib.Core.Path.{◌≡◌, ◌∙◌}
use mathlib.Core.List.{List}
use mathlib.Core.Logic.{◌≢◌}
use lib.ListN.{length}
use borrow.Author.Tests.{eq-eqb, ne_eqb}
use Rattle.sheet.specs.declared.Reading.{Reading}
use Rattle.sheet.specs.Reading.{read_sheet}
use Rattle.output.specs.declared.Written.TheVariants.{Short, Bytes}
use Rattle.output.specs.Limits.{piece_bytes}
use Rattle.output.specs.Output.{net_text, jobs_text}
use Rattle.output.specs.Calls.{Report, report, put, read_lines, piece_of}
use Rattle.output.proofs.Placed.{put_short, put_none}

module _ (sheet : List ℕ) (n : ℕ) (lines out : List ℕ) where
  pub piece_short : length out < piece_bytes → report Short out ≡ piece_of sheet n lines out
  unfolding piece_of
  piece_short h = put_short Bytes piece_bytes (jobs_text sheet n (read_lines n lines)) out h

  module _ (r : Reading) (read : r ≡ read_sheet sheet) where
    pub piece-refused : piece_bytes ≤ length out → r.answer.number ≢ 0 → report (Bytes 0) out ≡ piece_of sheet n lines out
    unfolding piece_of jobs_text
    piece-refused room ne = put_none piece_bytes (jobs_text sheet n (read_lines n lines)) out room (rw (← read, ne_eqb r.answer.number 0 ne))

    pub piece_read : r.answer.number ≡ 0 → {part : List ℕ} → part ≡ read_lines n lines → {w : Report} → w ≡ put Bytes piece_bytes (net_text r.net n part) out
        → w ≡ piece_of sheet n lines out
    unfolding piece_of jobs_text
    piece_read e readable same = same ∙ rw (readable, ← read, eq-eqb r.answer.number 0 e)
