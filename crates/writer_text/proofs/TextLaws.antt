-- The text of a reading that is refused and of one that is accepted, at the front of a buffer; what a program writes of that buffer is the text.
use Prim.Native.Nat.{ℕ, ◌≤◌, ◌<◌}
use native.Mathlib.Omega.{arith}
use mathlib.Core.Path.{◌≡◌, refl, sym, ap, ◌∙◌}
use mathlib.Core.Bool.{true}
use mathlib.Core.Logic.{◌≢◌}
use mathlib.Core.List.{◌++◌}
use lib.ListN.{length, drop}
use lib.Seq.{take_at}
use borrow.Author.Tests.{ne_eqb, eq-eqb}
use Rattle.ternary.specs.Lists.{Bytes}
use Rattle.net.specs.declared.Net.{Net}
use Rattle.sheet.specs.declared.Answer.{Answer}
use Rattle.sheet.specs.declared.Reading.{Reading}
use Rattle.sheet.specs.Limits.{field_width, most_bytes}
use Rattle.sheet.specs.Reading.{read_sheet}
use Rattle.sheet.specs.Valid.{valid}
use Rattle.sheet.proofs.Outcome.{valid-at_zero}
use Rattle.output.specs.declared.Written.TheVariants.{Short, Last}
use Rattle.output.specs.Limits.{opening_bytes}
use Rattle.output.specs.Output.{first_line}
use Rattle.output.specs.Calls.{Report, report}
use Rattle.output.specs.Program.{written_of}
use Rattle.output.proofs.Lengths.{length-first}
use Rattle.output.proofs.Placed.{put_short, put_whole}
use Rattle.writer.specs.Agreed.{canonical_sheet}
use Rattle.writer.specs.Write.{Writing, writing, writing_by, writing_of}
use Rattle.writer.proofs.WriteLaws.{canonical-fits, written_record}
use Rattle.writer_text.specs.Text.{printed, whole_report, text_of, report_of}

module _ (text out : Bytes) where
  pub text_short : length out < most_bytes → report Short out ≡ whole_report text out
  text_short h = put_short Last most_bytes text out h

  module _ (room : most_bytes ≤ length out) where
    -- so many bytes of the buffer are the text
    text-whole : {n : ℕ} → length text ≡ n → report (Last n) (text ++ drop n out) ≡ whole_report text out
    text-whole size = put_whole Last most_bytes text out room size

    pub program_text_lem : written_of (whole_report text out) ≡ text
    program_text_lem = ap written_of (sym (text-whole refl)) ∙ take_at text (drop (length text) out) (length text) refl

-- the line of a refusal
pub line-report : (a : Answer) (out : Bytes) → most_bytes ≤ length out → {part : Bytes} → part ≡ first_line a 0
    → report (Last opening_bytes) (part ++ drop opening_bytes out) ≡ whole_report (first_line a 0) out
line-report a out room p = rw p (text-whole (first_line a 0) out room (length-first a 0))

module _ (write : Net → Bytes) (r : Reading) (out : Bytes) where
  pub text-refused : r.answer.number ≢ 0 → {w : Report} → w ≡ whole_report (first_line r.answer 0) out → w ≡ whole_report (printed write r) out
  unfolding printed
  text-refused h e = rw (ne_eqb r.answer.number 0 h) e

  -- as the call that writes the sheet says
  pub text-written : most_bytes ≤ length out → r.answer.number ≡ 0 → valid r.net ≡ true → length (write r.net) ≤ most_bytes
      → {a : Answer} {n : ℕ} {after : Bytes} → writing a n after ≡ writing_by r.net (write r.net) out → report (Last n) after ≡ whole_report (printed write r) out
  unfolding printed
  text-written room h v fits e =
      let sheet = write r.net in
      ap (λ (x : Writing). report (Last x.length) x.buffer) (e ∙ written_record r.net sheet out v (omega (arith, room, fits)))
      ∙ rw (eq-eqb r.answer.number 0 h) (text-whole sheet out room refl)

-- ---- the program `write_net`

module _ (sheet out : Bytes) {r : Reading} (read : r ≡ read_sheet sheet) where
  net_text_lem : whole_report (printed canonical_sheet r) out ≡ report_of sheet out
  unfolding text_of
  net_text_lem = rw read

  pub net-refused : r.answer.number ≢ 0 → {w : Report} → w ≡ whole_report (first_line r.answer 0) out → w ≡ report_of sheet out
  net-refused h e = text-refused canonical_sheet r out h e ∙ net_text_lem

  pub net-written : most_bytes ≤ length out → r.answer.number ≡ 0 → {a : Answer} {n : ℕ} {after : Bytes} → writing a n after ≡ writing_of r.net out
      → report (Last n) after ≡ report_of sheet out
  net-written room h e =
      let v = valid-at_zero field_width sheet r read h in
      text-written canonical_sheet r out room h v (canonical-fits field_width r.net v) e ∙ net_text_lem
