-- What each call for C answers, and what it leaves in the numbers and buffers lent to it. The verdict of a sheet is `judged_of` as it stands.
use Rattle.std.specs.Prelude.{ℕ, cond, List, eqb}
use Rattle.net.specs.Graph.{key_count}
use Rattle.sheet.specs.Reading.{read_sheet}
use Rattle.settlements.specs.Batch.{Batch, batched, batch_of}
use Rattle.output.specs.declared.Written.{Written}
use Rattle.output.specs.declared.Written.TheVariants.{Short, Bytes, Last}
use Rattle.output.specs.Calls.{Report, opening_of, piece_of}

-- a batch with its answer and buffers, and h
pub record SheetBatch : Type 0 where
  pub batch : Batch
  pub keys : ℕ

abbrev pub sheet_batch : Batch → ℕ → SheetBatch
sheet_batch b h = record { batch = b; keys = h }

-- a batch on the net of a sheet; a number of the reader comes first, h then being 0 and both buffers as they were
unfoldable pub sheet_batch_of : List ℕ → List ℕ → List ℕ → List ℕ → SheetBatch
sheet_batch_of sheet jobs results answers =
    let reading = read_sheet sheet in
    cond (eqb reading.answer.number 0)
    (sheet_batch (batch_of reading.net jobs results answers) (key_count reading.net))
    (sheet_batch (batched reading.answer results answers) 0)

-- what a call of the report wrote, as numbers: 0 and how many bytes, or 45 and none where the buffer is too short
pub record Told : Type 0 where
  pub number : ℕ
  pub written : ℕ

abbrev pub told : ℕ → ℕ → Told
told n written = record { number = n; written = written }

abbrev pub numbers_of : Written → Told
numbers_of Short = told 45 0
numbers_of (Bytes n) = told 0 n
numbers_of (Last n) = told 0 n

-- the numbers of such a call, and its buffer
pub record TextCall : Type 0 where
  pub numbers : Told
  pub out : List ℕ

abbrev pub text_call : Told → List ℕ → TextCall
text_call t out = record { numbers = t; out = out }

abbrev pub in_numbers : Report → TextCall
in_numbers r = text_call (numbers_of r.written) r.out

-- the first line
unfoldable pub opening_call_of : List ℕ → List ℕ → TextCall
opening_call_of sheet out = in_numbers (opening_of sheet out)

-- the lines of a piece's jobs
unfoldable pub piece_call_of : List ℕ → ℕ → List ℕ → List ℕ → TextCall
piece_call_of sheet n lines out = in_numbers (piece_of sheet n lines out)
