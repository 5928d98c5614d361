-- Writing a record's sheet: demand 1 of both calls and of the program's text, and what document 02 asks of the agreed order.
use Rattle.std.specs.Prelude.{ℕ, ◌≤◌, ◌≡◌, true, ◌++◌, length, take, drop}
use Rattle.ternary.specs.Lists.{Bytes}
use Rattle.ternary.specs.Bits.{InputState, KeyState}
use Rattle.net.specs.declared.Net.{Net}
use Rattle.net.specs.Graph.{is_storage, keys}
use Rattle.net.specs.Excitation.{excitation}
use Rattle.net.specs.WellFormed.{place_c1, test_c2, place_c3}
use Rattle.net.specs.Ternary.{settled}
use Rattle.sheet.specs.Rows.{answer, First, NoRow}
use Rattle.sheet.specs.Record.{accepted}
use Rattle.sheet.specs.SheetRows.{net_of, sheet_rows}
use Rattle.sheet.specs.Reading.{read_sheet}
use Rattle.sheet.specs.Valid.{valid}
use Rattle.soundness.specs.Verdict.{verdict_of}
use Rattle.settlements.specs.Settle.{settle_of}
use Rattle.settlements.specs.Batch.{batch_of}
use Rattle.output.specs.Output.{first_line}
use Rattle.writer.specs.SameNet.{SameNet}
use Rattle.writer.specs.Agreed.{InAgreedOrder, canonical_sheet}
use Rattle.writer.specs.Write.{Writing, writing, writing_rows, writing_of}
use Rattle.demands.specs.Demand1.{Answers}

-- a sheet of record N is to be written: a refusal has length 0 and leaves the buffer as it was; without one the sheet stands at its front, and the bytes
-- beyond stay
pub record WritingAnswers (N : Net) (sheet buffer : Bytes) (given : Writing) : Type 0 where
  pub answered : Answers (writing_rows N sheet buffer) given.answer
  pub untouched : (n p : ℕ) → First (writing_rows N sheet buffer) n p → given ≡ writing (answer n p) 0 buffer
  pub written : NoRow (writing_rows N sheet buffer) → given ≡ writing (answer 0 0) (length sheet) (sheet ++ drop (length sheet) buffer)

-- the bytes that were written
abbrev pub bytes_of : Writing → Bytes
bytes_of W = take W.length W.buffer

-- two records that behave alike: the same letters and key nodes, in every state the same excitation of every storage vertex, C1 to C3 broken at the same
-- places if at all and the same verdict, the same passes, and the same from settling and from a batch, refusals included
pub record BehavesAs (M N : Net) : Type 0 where
  pub letters : M.letter_count ≡ N.letter_count
  pub key_nodes : keys M ≡ keys N
  pub storage : (y : ℕ) → is_storage M y ≡ is_storage N y
  pub excitations : (a : InputState) (q : KeyState) (y : ℕ) → is_storage M y ≡ true → excitation M a q y ≡ excitation N a q y
  pub c1 : place_c1 M ≡ place_c1 N
  pub c2 : test_c2 M ≡ test_c2 N
  pub c3 : place_c3 M ≡ place_c3 N
  pub verdict : verdict_of M ≡ verdict_of N
  pub passes : (A B : InputState) (q : KeyState) → settled M A B q ≡ settled N A B q
  pub settling : (A B : InputState) (q : KeyState) (R T : Bytes) → settle_of M A B q R T ≡ settle_of N A B q R T
  pub batch : (jobs results answers : Bytes) → batch_of M jobs results answers ≡ batch_of N jobs results answers

-- what was written of record N in the agreed order: it reads to an accepted record of the same net, which is in the agreed order and the only one that is;
-- writing that record once more gives the same bytes; and it behaves as N
pub record WritingKept (N : Net) (W : Writing) : Type 0 where
  pub shown : Net
  pub reads : read_sheet (bytes_of W) ≡ accepted shown
  pub same : SameNet shown N
  pub ordered : InAgreedOrder shown
  pub only : (M : Net) → valid M ≡ true → SameNet M N → InAgreedOrder M → M ≡ shown
  pub again : (buffer : Bytes) → length (bytes_of W) ≤ length buffer → bytes_of (writing_of shown buffer) ≡ bytes_of W
  pub behaves : BehavesAs shown N

-- what the program prints for the bytes of a sheet: the number and the place under a refusal of the reader, else the sheet in the agreed order
pub record NetTextAnswers (sheet text : Bytes) : Type 0 where
  pub refused : (n p : ℕ) → First (sheet_rows sheet) n p → text ≡ first_line (answer n p) 0
  pub written : NoRow (sheet_rows sheet) → text ≡ canonical_sheet (net_of sheet)
