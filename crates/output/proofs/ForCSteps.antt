-- What the calls leave, by what the calls beneath them ensure.
use Prim.Native.Nat.{ℕ}
use mathlib.Core.Path.{◌≡◌}
use mathlib.Core.List.{List}
use mathlib.Core.Logic.{◌≢◌}
use borrow.Author.Tests.{eq-eqb, ne_eqb}
use Rattle.net.specs.Graph.{key_count}
use Rattle.sheet.specs.declared.Reading.{Reading}
use Rattle.sheet.specs.Reading.{read_sheet}
use Rattle.settlements.specs.Batch.{Batch, batched, batch_of}
use Rattle.output.specs.declared.Written.{Written}
use Rattle.output.specs.Calls.{report, opening_of, piece_of}
use Rattle.output.specs.ForC.{sheet_batch, sheet_batch_of, Told, numbers_of, text_call, opening_call_of, piece_call_of}

-- a batch, by the reader's answer
module _ (sheet jobs results answers : List ℕ) (r : Reading) (read : r ≡ read_sheet sheet) where
  pub batch-refused : r.answer.number ≢ 0 → sheet_batch (batched r.answer results answers) 0 ≡ sheet_batch_of sheet jobs results answers
  unfolding sheet_batch_of
  batch-refused ne = rw (← read, ne_eqb r.answer.number 0 ne)

  pub batch_run : r.answer.number ≡ 0 → {b : Batch} → b ≡ batch_of r.net jobs results answers → {h : ℕ} → h ≡ key_count r.net
      → sheet_batch b h ≡ sheet_batch_of sheet jobs results answers
  unfolding sheet_batch_of
  batch_run e batch keys = rw (← read, eq-eqb r.answer.number 0 e, batch, keys)

-- a text, by what the report's call wrote
module _ {wrote : Written} {after : List ℕ} {t : Told} (numbers : t ≡ numbers_of wrote) where
  pub opening_told : (sheet out : List ℕ) → report wrote after ≡ opening_of sheet out → text_call t after ≡ opening_call_of sheet out
  unfolding opening_call_of
  opening_told sheet out same = rw (numbers, ← same)

  pub piece-told : (sheet : List ℕ) (n : ℕ) (lines out : List ℕ) → report wrote after ≡ piece_of sheet n lines out
      → text_call t after ≡ piece_call_of sheet n lines out
  unfolding piece_call_of
  piece-told sheet n lines out same = rw (numbers, ← same)
