-- Lines as code reads them: the tests of a line in their order, and where a part of a line or of a sheet stands.
use Prim.Native.Nat.{ℕ, zero, suc, ◌+◌, ◌-◌, ◌*◌, ◌/◌, ◌≤◌, ◌<◌}
use native.Mathlib.Nat.{add-zero, mul-suc, mul-le-mul_left}
use native.Mathlib.Omega.{arith}
use mathlib.Core.Path.{◌≡◌, refl, sym, ap, ◌∙◌}
use mathlib.Core.Bool.{false, true≢false}
use mathlib.Core.List.{List, [], ◌∷◌}
use mathlib.Core.Option.{Option, none, some}
use lib.ListN.{length, take, drop, get_or, length-drop, drop_of_length-le}
use lib.Seq.{drop-cons, get_or-drop}
use lib.Dec.{leb}
use borrow.Author.Tests.{le-leb, leb-true}
use Rattle.ternary.specs.Lists.{same}
use Rattle.ternary.proofs.Tests.{cond_by, fails, same_test}
use Rattle.ternary.proofs.ListLaws.{same_true}
use Rattle.std.specs.Prelude.{Some, None}
use Rattle.sheet.specs.declared.Line.{Line}
use Rattle.sheet.specs.Limits.{field_count, line_bytes, line_end}
use Rattle.sheet.specs.Field.{field_answer}
use Rattle.sheet.specs.Line.{line, field_at, five_fields, read_line, line_answer, FullLineIn, has_line, line_in}
use Rattle.sheet.proofs.WholeLines.{by_division}
use Rattle.sheet.proofs.LineLaws.{five, line_bytes_lem, line_room}

-- ---- the five numbers of a line

pub number_of : (o : Option ℕ) (n : ℕ) → field_answer o ≡ Some n → o ≡ some n
number_of none n e = absurd (true≢false (cc))
number_of (some m) n e = cc

pub refused_of : (o : Option ℕ) → field_answer o ≡ None → o ≡ none
refused_of none e = refl
refused_of (some m) e = absurd (true≢false (cc))

-- a field that is no number
clash : (o : Option ℕ) (n : ℕ) → o ≡ none → o ≡ some n → ⊥
clash o n gone there = absurd (true≢false (cc))

not_five : (f : ℕ → Option ℕ) (i : ℕ) → i < field_count → f i ≡ none → (v : Line) → five_fields (f 0) (f 1) (f 2) (f 3) (f 4) ≡ some v → ⊥
not_five f zero h gone v e = clash (f 0) _ gone (five v (f 0) (f 1) (f 2) (f 3) (f 4) e).kind
not_five f (suc zero) h gone v e = clash (f 1) _ gone (five v (f 0) (f 1) (f 2) (f 3) (f 4) e).second
not_five f (suc (suc zero)) h gone v e = clash (f 2) _ gone (five v (f 0) (f 1) (f 2) (f 3) (f 4) e).third
not_five f (suc (suc (suc zero))) h gone v e = clash (f 3) _ gone (five v (f 0) (f 1) (f 2) (f 3) (f 4) e).fourth
not_five f (suc (suc (suc (suc zero)))) h gone v e = clash (f 4) _ gone (five v (f 0) (f 1) (f 2) (f 3) (f 4) e).fifth
not_five f (suc (suc (suc (suc (suc i))))) h gone v e = absurd (omega (arith, h))

pub missing_field : (w : ℕ) (b : List ℕ) (i : ℕ) → i < field_count → field_answer (field_at w b i) ≡ None → read_line w b ≡ none
unfolding read_line
missing_field w b i h e =
    cond_by (λ o. o ≡ none) (same (drop (w * field_count) b) (line_end ∷ []))
    (λ _. none_of _ (not_five (field_at w b) i h (refused_of (field_at w b i) e)))
    (λ _. refl)
  where
    none_of : (o : Option Line) → ((v : Line) → o ≡ some v → ⊥) → o ≡ none
    none_of none f = refl
    none_of (some v) f = absurd (f v refl)

-- the code works out the width of a line
module _ (w : ℕ) (b : List ℕ) (width : ℕ) (is : width ≡ line_bytes w) where
  last_byte : width - 1 ≡ w * field_count
  last_byte = omega (arith, is)

  not_ended : (drop (w * field_count) b ≡ line_end ∷ [] → ⊥) → read_line w b ≡ none
  unfolding read_line
  not_ended f = rw (fails (same (drop (w * field_count) b) (line_end ∷ [])) (λ t. f (same_true _ _ t)))

  pub wrong_length : (length b ≡ width → ⊥) → read_line w b ≡ none
  wrong_length f = not_ended (λ e. f (omega (arith, is, simp length-drop at (ap length e))))

  pub wrong_end : (get_or b (width - 1) 0 ≡ line_end → ⊥) → read_line w b ≡ none
  wrong_end f =
      not_ended
      (λ e. f (rw (last_byte, ← (add-zero (w * field_count))) (sym (get_or-drop (w * field_count) b 0 0) ∙ ap (λ (l : List ℕ). get_or l 0 0) e)))

  -- a line of that length and end, whose fields are numbers
  module _ (size : length b ≡ width) (end : get_or b (width - 1) 0 ≡ line_end) where
    fields : read_line w b ≡ five_fields (field_at w b 0) (field_at w b 1) (field_at w b 2) (field_at w b 3) (field_at w b 4)
    unfolding read_line same
    fields =
        let ends : get_or b (w * field_count) 0 ≡ line_end = rw last_byte at end in
        let last : drop (w * field_count) b ≡ line_end ∷ [] =
        drop-cons b (w * field_count) 0 (omega arith) ∙ rw (ends, drop_of_length-le b {i = suc (w * field_count)} (omega arith)) in
        rw (last, read_line)

    module _ (k l m n o : ℕ) where
      pub all_fields : field_answer (field_at w b 0) ≡ Some k → field_answer (field_at w b 1) ≡ Some l → field_answer (field_at w b 2) ≡ Some m
          → field_answer (field_at w b 3) ≡ Some n → field_answer (field_at w b 4) ≡ Some o → read_line w b ≡ some (line k l m n o)
      unfolding five_fields
      all_fields e0 e1 e2 e3 e4 =
          rw (
            fields,
            number_of (field_at w b 0) k e0,
            number_of (field_at w b 1) l e1,
            number_of (field_at w b 2) m e2,
            number_of (field_at w b 3) n e3,
            number_of (field_at w b 4) o e4,
          )

-- ---- what the code's answer for a line says

pub five_of : (o : Option Line) (v : Line) → line_answer o ≡ Some v → o ≡ some v
five_of none v e = absurd (true≢false (cc))
five_of (some w) v e = cc

pub unread_of : (o : Option Line) → line_answer o ≡ None → o ≡ none
unread_of none e = refl
unread_of (some w) e = absurd (true≢false (cc))

-- ---- parts

-- the part from a to a + w
pub part : (b : List ℕ) (a w : ℕ) → take (a + w - a) (drop a b) ≡ take w (drop a b)
part b a w = let cancel : a + w - a ≡ w = omega arith in rw cancel

-- field i ends within the fields
pub field_end : (w i : ℕ) → i < field_count → w * i + w ≤ w * field_count
field_end w i h = rw (← (mul-suc w i)) (mul-le-mul_left {m = suc i} {n = field_count} w h)

-- ---- one line of a sheet

pub no_line_0 : (w : ℕ) (b : List ℕ) (n : ℕ) → n ≡ 0 → has_line w b n ≡ false
unfolding has_line
no_line_0 w b n e = rw e

module _ (w : ℕ) (b : List ℕ) (n width : ℕ) (is : width ≡ line_bytes w) where
  pub line_by_division : (n ≡ 0 → ⊥) → leb n (length b / width) ≡ has_line w b n
  unfolding has_line
  line_by_division f =
      rw (is, le-leb 1 n (omega (arith, f)))
      (same_test (leb n (length b / line_bytes w)) (leb (line_bytes w * n) (length b))
      (λ t. le-leb (line_bytes w * n) (length b) ((by_division (line_bytes w) (length b) n (omega arith)).0 (leb-true n (length b / line_bytes w) t)))
      (λ t. le-leb n (length b / line_bytes w) ((by_division (line_bytes w) (length b) n (omega arith)).1 (leb-true (line_bytes w * n) (length b) t))))

  pub part_room : FullLineIn w b n → width * (n - 1) + width ≤ length b
  part_room f = rw is (line_room w b n f)

  pub line_part : FullLineIn w b n → take (width * (n - 1) + width - width * (n - 1)) (drop (width * (n - 1)) b) ≡ line_in w b n
  line_part f = part b (width * (n - 1)) width ∙ rw is (sym (line_bytes_lem w b n f))
