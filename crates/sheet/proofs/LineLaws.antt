-- Lines: reading one and writing one undo each other; and where one line of a sheet stands.
use Prim.Native.Nat.{ℕ, suc, ◌+◌, ◌-◌, ◌*◌, ◌^◌, ◌≤◌, ◌<◌}
use native.Mathlib.Nat.{mul-zero, mul-suc}
use native.Mathlib.Omega.{arith}
use mathlib.Core.Path.{◌≡◌, ap, ◌∙◌}
use mathlib.Core.Logic.{◌↔◌}
use mathlib.Core.Bool.{true, false, true≢false}
use mathlib.Core.List.{List, [], ◌∷◌, ◌++◌, append_assoc}
use mathlib.Core.Option.{Option, none, some}
use lib.ListN.{length, take, drop, length-drop, length-append, take-append-drop}
use lib.Seq.{drop-drop, take_at, drop_at, length-take-le}
use borrow.Author.Tests.{le-leb, leb-true}
use Rattle.ternary.specs.Lists.{same}
use Rattle.ternary.proofs.Tests.{ands, both, cond_by, fails}
use Rattle.ternary.proofs.ListLaws.{same_true}
use Rattle.sheet.specs.Limits.{field_count, line_bytes, line_end}
use Rattle.sheet.specs.Field.{write_field}
use Rattle.sheet.specs.declared.Line.{Line}
use Rattle.sheet.specs.Line.{line, write_line, field_at, five_fields, read_line, FullLineIn, has_line, line_in, line_number_in}
use Rattle.sheet.proofs.FieldLaws.{length-field, read_write_field, write_read_field}

-- every number fits its field
pub record SmallLine (w : ℕ) (v : Line) : Type 0 where
  pub kind : v.kind < 10 ^ w
  pub second : v.second < 10 ^ w
  pub third : v.third < 10 ^ w
  pub fourth : v.fourth < 10 ^ w
  pub fifth : v.fifth < 10 ^ w

-- behind i fields a number's field stands at the front of what is left: it reads as the number, and the rest stands behind one field more
module _ (w : ℕ) (b : List ℕ) (i n : ℕ) (rest : List ℕ) (small : n < 10 ^ w) (e : drop (w * i) b ≡ write_field w n ++ rest) where
  field_read : field_at w b i ≡ some n
  unfolding field_at
  field_read = rw (e, take_at (write_field w n) rest w (length-field w n)) (read_write_field w n small)

  field_behind : drop (w * suc i) b ≡ rest
  field_behind = rw (mul-suc, ← (drop-drop w (w * i) b), e) (drop_at (write_field w n) rest w (length-field w n))

module _ (w : ℕ) (v : Line) where
  -- a written line, field by field from the left
  abbrev fields : List ℕ
  fields =
      write_field w v.kind
      ++ (write_field w v.second ++ (write_field w v.third ++ (write_field w v.fourth ++ (write_field w v.fifth ++ line_end ∷ []))))

  line-fields : write_line w v ≡ fields
  unfolding write_line
  line-fields = simp append_assoc

  pub read_write_line : SmallLine w v → read_line w (write_line w v) ≡ some v
  unfolding read_line same five_fields
  read_write_line s =
      let d0 : drop (w * 0) fields ≡ fields = rw mul-zero in
      let d1 = field_behind w fields 0 v.kind _ s.kind d0 in
      let d2 = field_behind w fields 1 v.second _ s.second d1 in
      let d3 = field_behind w fields 2 v.third _ s.third d2 in
      let d4 = field_behind w fields 3 v.fourth _ s.fourth d3 in
      rw (
        line-fields,
        field_behind w fields 4 v.fifth _ s.fifth d4,
        field_read w fields 0 v.kind _ s.kind d0,
        field_read w fields 1 v.second _ s.second d1,
        field_read w fields 2 v.third _ s.third d2,
        field_read w fields 3 v.fourth _ s.fourth d3,
        field_read w fields 4 v.fifth _ s.fifth d4,
      )

  pub length-line : length (write_line w v) ≡ line_bytes w
  unfolding write_line
  length-line = simp (length-append, length-field) (omega arith)

  pub take-line : (rest : List ℕ) → take (line_bytes w) (write_line w v ++ rest) ≡ write_line w v
  take-line rest = take_at (write_line w v) rest (line_bytes w) length-line

  pub drop-line : (rest : List ℕ) → drop (line_bytes w) (write_line w v ++ rest) ≡ rest
  drop-line rest = drop_at (write_line w v) rest (line_bytes w) length-line

pub record Written (w : ℕ) (b : List ℕ) (v : Line) : Type 0 where
  pub written : write_line w v ≡ b
  pub small : SmallLine w v

-- five pieces of w bytes, and all that follows them: stated for any w, so that nothing is computed
module _ (w : ℕ) (b : List ℕ) where
  abbrev piece : ℕ → List ℕ
  piece i = take w (drop (w * i) b)

  pub piece-rest : (i : ℕ) → piece i ++ drop (w * suc i) b ≡ drop (w * i) b
  piece-rest i = rw (mul-suc, ← (drop-drop w (w * i) b)) (take-append-drop w (drop (w * i) b))

  pieces : piece 0 ++ piece 1 ++ piece 2 ++ piece 3 ++ piece 4 ++ drop (w * field_count) b ≡ b
  pieces = simp append_assoc (rw (piece-rest 4, piece-rest 3, piece-rest 2, piece-rest 1, piece-rest 0, mul-zero))

-- the numbers of a line that was read
pub record Fields (p q r s t : Option ℕ) (v : Line) : Type 0 where
  pub kind : p ≡ some v.kind
  pub second : q ≡ some v.second
  pub third : r ≡ some v.third
  pub fourth : s ≡ some v.fourth
  pub fifth : t ≡ some v.fifth

pub five : (v : Line) (p q r s t : Option ℕ) → five_fields p q r s t ≡ some v → Fields p q r s t v
unfolding five_fields
five v (some a) (some b) (some c) (some d) (some e) h =
    let is : line a b c d e ≡ v = cc in
    record {
      kind = ap (λ (x : Line). some x.kind) is;
      second = ap (λ (x : Line). some x.second) is;
      third = ap (λ (x : Line). some x.third) is;
      fourth = ap (λ (x : Line). some x.fourth) is;
      fifth = ap (λ (x : Line). some x.fifth) is;
    }
five v (some a) (some b) (some c) (some d) none h = absurd (true≢false (cc))
five v (some a) (some b) (some c) none e h = absurd (true≢false (cc))
five v (some a) (some b) none d e h = absurd (true≢false (cc))
five v (some a) none c d e h = absurd (true≢false (cc))
five v none b c d e h = absurd (true≢false (cc))

pub write_read_line : (w : ℕ) (b : List ℕ) (v : Line) → read_line w b ≡ some v → Written w b v
unfolding read_line field_at write_line
write_read_line w b v =
    cond_by (λ o. o ≡ some v → Written w b v) (same (drop (w * field_count) b) (line_end ∷ []))
    (λ t e.
    let end : drop (w * field_count) b ≡ line_end ∷ [] = same_true _ _ t in
    let f = five v (field_at w b 0) (field_at w b 1) (field_at w b 2) (field_at w b 3) (field_at w b 4) e in
    let f0 = write_read_field w _ v.kind f.kind in
    let f1 = write_read_field w _ v.second f.second in
    let f2 = write_read_field w _ v.third f.third in
    let f3 = write_read_field w _ v.fourth f.fourth in
    let f4 = write_read_field w _ v.fifth f.fifth in
    record {
      written =
          rw (f0.written, f1.written, f2.written, f3.written, f4.written, ← end) (pieces w b);
      small = record { kind = f0.small; second = f1.small; third = f2.small; fourth = f3.small; fifth = f4.small };
    })
    (λ _ e. absurd (true≢false (cc)))

-- ---- one line of a sheet

module _ (w : ℕ) (b : List ℕ) (n : ℕ) where
  pub has_line_iff : (has_line w b n ≡ true) ↔ FullLineIn w b n
  unfolding has_line
  has_line_iff = (
    λ t. record { first = leb-true 1 n (search ands); room = leb-true (line_bytes w * n) (length b) (search ands) },
    λ f. both (le-leb 1 n f.first) (le-leb (line_bytes w * n) (length b) f.room),
  )

  no_line : (¬ FullLineIn w b n) → has_line w b n ≡ false
  no_line f = fails (has_line w b n) (λ t. f (has_line_iff.0 t))

  pub line-found : (line_number_in w b n ≡ 0) ↔ FullLineIn w b n
  unfolding line_number_in
  line-found = (
    cond_by (λ (k : ℕ). k ≡ 0 → FullLineIn w b n) (has_line w b n) (λ t _. has_line_iff.0 t) (λ _ e. absurd (omega arith)),
    λ f. rw (has_line_iff.1 f),
  )

  pub line_missing : (line_number_in w b n ≡ 47) ↔ (¬ FullLineIn w b n)
  unfolding line_number_in
  line_missing = (
    λ e f. absurd (omega (arith, e, line-found.1 f)),
    λ f. rw (no_line f),
  )

  pub line_bytes_lem : FullLineIn w b n → line_in w b n ≡ take (line_bytes w) (drop (line_bytes w * (n - 1)) b)
  unfolding line_in
  line_bytes_lem f = rw (has_line_iff.1 f)

  pub line_room : FullLineIn w b n → line_bytes w * (n - 1) + line_bytes w ≤ length b
  line_room f = let here : suc (n - 1) ≡ n = omega (arith, f.first) in rw (← (mul-suc (line_bytes w) (n - 1)), here) f.room

  pub line-length : FullLineIn w b n → length (line_in w b n) ≡ line_bytes w
  line-length f =
      ap length (line_bytes_lem f) ∙ length-take-le (line_bytes w) (drop (line_bytes w * (n - 1)) b) (rw length-drop (omega (arith, line_room f)))

  pub line_empty : (¬ FullLineIn w b n) → line_in w b n ≡ []
  unfolding line_in
  line_empty f = rw (no_line f)
