-- Writing a record's sheet: demand 1 of both calls and of the program's text, and what holds of what was written.
use Prim.Native.Nat.{◌*◌, ◌≤◌}
use native.Mathlib.Omega.{arith}
use mathlib.Core.Path.{◌≡◌, refl, sym, ap, ap₂, subst, ◌∙◌}
use mathlib.Core.Bool.{true}
use mathlib.Core.Logic.{◌↔◌}
use mathlib.Core.List.{◌++◌}
use lib.ListN.{length, take, drop}
use lib.Seq.{take_at}
use borrow.Author.Tests.{not-false}
use Rattle.ternary.specs.Lists.{Bytes}
use Rattle.net.specs.declared.Net.{Net}
use Rattle.sheet.specs.Limits.{field_width, line_width}
use Rattle.sheet.specs.declared.Reading.{Reading}
use Rattle.sheet.specs.Rows.{NoRow}
use Rattle.sheet.specs.Rows.NoRow.{next}
use Rattle.sheet.specs.Record.{accepted}
use Rattle.sheet.specs.SheetRows.{net_of, sheet_rows}
use Rattle.sheet.specs.Reading.{read_sheet}
use Rattle.sheet.specs.Writing.{write_sheet}
use Rattle.sheet.specs.Valid.{valid}
use Rattle.sheet.proofs.RowLaws.{when_none, by_rows_fit, by_rows-first}
use Rattle.sheet.proofs.SheetRowLaws.{sheet_accepted, sheet_then}
use Rattle.sheet.proofs.ReadLaws.{read_valid}
use Rattle.sheet.proofs.WriteLaws.{read_write_sheet}
use Rattle.output.specs.Limits.{most_jobs}
use Rattle.output.specs.Output.{first_line, judged_of, opening_text, jobs_text, output_of}
use Rattle.writer.specs.SameNet.{SameNet}
use Rattle.writer.specs.Agreed.{canonical, canonical_sheet}
use Rattle.writer.specs.Write.{Writing, writing_rows, writing_by, writing_of, own_writing_of}
use Rattle.writer.proofs.SameGraph.{same-key_count}
use Rattle.writer.proofs.AgreedLaws.{canonical-same, canonical_ordered, canonical-valid, canonical_only, read_canonical, sheets_equal, written_again}
use Rattle.writer.proofs.WriteLaws.{writing_zero, writing-number, writing-refused, writing_fit, written_record}
use Rattle.writer_text.specs.Text.{printed, text_of}
use Rattle.demands.specs.Writer.{WritingAnswers, bytes_of, WritingKept, NetTextAnswers}
use Rattle.demands.proofs.Behaviour.{same_behaviour, same-net_text}

-- ---- demand 1

by_its_rows : (N : Net) (sheet buffer : Bytes) → WritingAnswers N sheet buffer (writing_by N sheet buffer)
by_its_rows N sheet buffer = record {
  answered = record { fit = writing_zero N sheet buffer; wrong = writing-number N sheet buffer };
  untouched = writing-refused N sheet buffer;
  written = writing_fit N sheet buffer;
}

pub demand1_writing : (N : Net) (buffer : Bytes) → WritingAnswers N (canonical_sheet N) buffer (writing_of N buffer)
demand1_writing N buffer = by_its_rows N (canonical_sheet N) buffer

pub demand1_own-writing : (N : Net) (buffer : Bytes) → WritingAnswers N (write_sheet N) buffer (own_writing_of N buffer)
demand1_own-writing N buffer = by_its_rows N (write_sheet N) buffer

-- ---- what was written where the answer is 0: the sheet, of a valid record

is_valid : (N : Net) (sheet buffer : Bytes) → NoRow (writing_rows N sheet buffer) → valid N ≡ true
unfolding writing_rows
is_valid N sheet buffer (next v _) = not-false _ ((when_none _).0 v)

module _ (N : Net) (sheet buffer : Bytes) {W : Writing} (e : writing_by N sheet buffer ≡ W) (ok : W.answer.number ≡ 0) where
  no_row : NoRow (writing_rows N sheet buffer)
  no_row = (writing_zero N sheet buffer).0 (ap (λ (x : Writing). x.answer.number) e ∙ ok)

  written-valid : valid N ≡ true
  written-valid = is_valid N sheet buffer no_row

  written-bytes : bytes_of W ≡ sheet
  written-bytes = ap bytes_of (sym e ∙ writing_fit N sheet buffer no_row) ∙ take_at sheet (drop (length sheet) buffer) (length sheet) refl

module _ (N : Net) (v : valid N ≡ true) where
  abbrev shown : Net
  shown = canonical N

  -- with room, the record shown is written as N is
  again : (buffer : Bytes) → length (canonical_sheet N) ≤ length buffer → bytes_of (writing_of shown buffer) ≡ canonical_sheet N
  again buffer room =
      let same : canonical_sheet shown ≡ canonical_sheet N =
      ap (λ (r : Reading). canonical_sheet r.net) (sym (read_canonical field_width (omega arith) N v)) ∙ written_again field_width (omega arith) N v in
      ap bytes_of (written_record shown (canonical_sheet shown) buffer (canonical-valid N v) (rw same room))
      ∙ take_at (canonical_sheet shown) (drop (length (canonical_sheet shown)) buffer) (length (canonical_sheet shown)) refl ∙ same

-- all that is promised of what the call writes
pub writing_kept : (N : Net) (buffer : Bytes) {W : Writing} → writing_of N buffer ≡ W → W.answer.number ≡ 0 → WritingKept N W
writing_kept N buffer {W} e ok =
    let v = written-valid N (canonical_sheet N) buffer e ok in
    let bytes = written-bytes N (canonical_sheet N) buffer e ok in
    record {
      shown = canonical N;
      reads = ap read_sheet bytes ∙ read_canonical field_width (omega arith) N v;
      same = canonical-same N;
      ordered = canonical_ordered N;
      only = λ M vm s o. canonical_only M N vm v s o;
      again = λ b room. again N v b (subst (λ (l : Bytes). length l ≤ length b) bytes room) ∙ sym bytes;
      behaves = same_behaviour (canonical-same N) (canonical-valid N v) v;
    }

-- equal bytes exactly for records that differ at most in the order of edges and of their ends
pub writing_equal : (M N : Net) (b c : Bytes) {W Z : Writing} → writing_of M b ≡ W → W.answer.number ≡ 0 → writing_of N c ≡ Z → Z.answer.number ≡ 0
    → (bytes_of W ≡ bytes_of Z) ↔ SameNet M N
writing_equal M N b c d ok-m e ok-n =
    rw (written-bytes M (canonical_sheet M) b d ok-m, written-bytes N (canonical_sheet N) c e ok-n)
    (sheets_equal field_width (omega arith) M N (written-valid M (canonical_sheet M) b d ok-m) (written-valid N (canonical_sheet N) c e ok-n))

-- in its own order, what is written reads to the record itself
pub own-writing_kept : (N : Net) (buffer : Bytes) {W : Writing} → own_writing_of N buffer ≡ W → W.answer.number ≡ 0 → read_sheet (bytes_of W) ≡ accepted N
own-writing_kept N buffer e ok =
    ap read_sheet (written-bytes N (write_sheet N) buffer e ok) ∙ read_write_sheet field_width (omega arith) N (written-valid N (write_sheet N) buffer e ok)

-- ---- the program's text

pub demand1_net_text : (sheet : Bytes) → NetTextAnswers sheet (text_of sheet)
unfolding text_of printed
demand1_net_text sheet =
    let by = sheet_then field_width sheet canonical_sheet (λ a. first_line a 0) in
    record { refused = λ n p f. by ∙ by_rows-first (sheet_rows sheet) _ _ n p f; written = λ f. by ∙ by_rows_fit (sheet_rows sheet) _ _ f }

-- two accepted sheets have the same text exactly if their records differ at most in the order of edges and of their ends
pub net_text_equal : (s t : Bytes) → NoRow (sheet_rows s) → NoRow (sheet_rows t) → (text_of s ≡ text_of t) ↔ SameNet (net_of s) (net_of t)
net_text_equal s t f g =
    rw ((demand1_net_text s).written f, (demand1_net_text t).written g)
    (sheets_equal field_width (omega arith) (net_of s) (net_of t)
    (read_valid field_width s (net_of s) (sheet_accepted field_width s f)) (read_valid field_width t (net_of t) (sheet_accepted field_width t g)))

-- and the program `settle` prints for that text what it prints for the sheet itself
pub net_text_settles : (sheet jobs : Bytes) → NoRow (sheet_rows sheet) → output_of (text_of sheet) jobs ≡ output_of sheet jobs
unfolding output_of opening_text judged_of jobs_text
net_text_settles sheet jobs f =
    let N = net_of sheet in
    let reads = sheet_accepted field_width sheet f in
    let v = read_valid field_width sheet N reads in
    let again : read_sheet (text_of sheet) ≡ accepted (canonical N) =
    ap read_sheet ((demand1_net_text sheet).written f) ∙ read_canonical field_width (omega arith) N v in
    let b = same_behaviour (canonical-same N) (canonical-valid N v) v in
    let lines = take (most_jobs * line_width) jobs in
    rw (again, reads)
    (ap₂ {C = Bytes} (λ x y. x ++ y) (ap₂ first_line b.verdict (same-key_count (canonical-same N))) (same-net_text (canonical-same N) (canonical-valid N v) v 1 lines))
