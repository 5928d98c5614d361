-- What a sheet is judged to be, by the reader's answer, and its first line.
use Prim.Native.Nat.{ℕ, ◌≤◌, ◌<◌}
use mathlib.Core.Path.{◌≡◌}
use mathlib.Core.List.{List, ◌++◌}
use mathlib.Core.Logic.{◌≢◌}
use lib.ListN.{length, drop}
use borrow.Author.Tests.{eq-eqb, ne_eqb}
use Rattle.net.specs.Graph.{key_count}
use Rattle.sheet.specs.declared.Answer.{Answer}
use Rattle.sheet.specs.declared.Reading.{Reading}
use Rattle.sheet.specs.Reading.{read_sheet}
use Rattle.soundness.specs.Verdict.{verdict_of}
use Rattle.output.specs.declared.Judged.{Judged}
use Rattle.output.specs.declared.Written.{Written}
use Rattle.output.specs.declared.Written.TheVariants.{Short}
use Rattle.output.specs.Limits.{opening_bytes}
use Rattle.output.specs.Output.{first_line, judged, judged_of, opening_text}
use Rattle.output.specs.Calls.{report, opening_says, opening_of}
use Rattle.output.proofs.Lengths.{length-first}
use Rattle.output.proofs.Placed.{put_short, put_whole}

module _ (sheet : List ℕ) (r : Reading) (read : r ≡ read_sheet sheet) where
  pub judge_refused : r.answer.number ≢ 0 → judged r.answer 0 ≡ judged_of sheet
  unfolding judged_of
  judge_refused ne = rw (← read, ne_eqb r.answer.number 0 ne)

  pub judge_read : r.answer.number ≡ 0 → {a : Answer} → a ≡ verdict_of r.net → {h : ℕ} → h ≡ key_count r.net → judged a h ≡ judged_of sheet
  unfolding judged_of
  judge_read e verdict keys = rw (← read, eq-eqb r.answer.number 0 e, verdict, keys)

module _ (sheet out : List ℕ) where
  pub opening_short : length out < opening_bytes → report Short out ≡ opening_of sheet out
  unfolding opening_of
  opening_short h = put_short (opening_says (judged_of sheet).answer.number) opening_bytes (opening_text sheet) out h

  pub opening_judged : opening_bytes ≤ length out → {j : Judged} → j ≡ judged_of sheet → {text : List ℕ} → text ≡ first_line j.answer j.keys
      → {w : Written} → w ≡ opening_says j.answer.number opening_bytes → report w (text ++ drop opening_bytes out) ≡ opening_of sheet out
  unfolding opening_of opening_text
  opening_judged room {j = j} is same says =
      rw (says, same, ← is) (put_whole (opening_says j.answer.number) opening_bytes (first_line j.answer j.keys) out room (length-first j.answer j.keys))
