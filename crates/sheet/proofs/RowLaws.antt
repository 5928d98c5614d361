-- The first row whose condition holds: what is computed is what is declared, for any list of rows.
use Prim.Native.Nat.{ℕ, ◌≤◌}
use native.Mathlib.Omega.{arith}
use mathlib.Core.Path.{◌≡◌, refl, sym, ap, subst, ◌∙◌}
use mathlib.Core.Logic.{◌↔◌, ◌⊎◌, inl, inr}
use mathlib.Core.Bool.{Bool, true, false, not, cond, ◌&&◌, true≢false}
use mathlib.Core.List.{List, [], ◌∷◌, ◌++◌}
use mathlib.Core.Option.{Option, none, some}
use lib.Dec.{leb}
use borrow.Author.Tests.{leb-true}
use Rattle.ternary.proofs.Tests.{ands, both}
use Rattle.sheet.specs.declared.Answer.{Answer}
use Rattle.sheet.specs.Rows.{answer, Row, row, when_at, when, first_row, by_rows, answered, First, NoRow}
use Rattle.sheet.specs.Rows.First.{here, later}
use Rattle.sheet.specs.Rows.NoRow.{end, next}

-- ---- what `first_row` answers

-- the two answers, each with what it declares
pub data RowsAnswer (rs : List Row) : Option Answer → Type 0 where
  nothing : NoRow rs → RowsAnswer rs none
  found : {n p : ℕ} → First rs n p → RowsAnswer rs (some (answer n p))

pub rows-answer : (rs : List Row) → RowsAnswer rs (first_row rs)
unfolding first_row
rows-answer [] = nothing end
rows-answer (r ∷ rs) = go r.place refl (first_row rs) (rows-answer rs)
  where
    go : (o : Option ℕ) → r.place ≡ o → (a : Option Answer) → RowsAnswer rs a
        → RowsAnswer (r ∷ rs) (elim o [ none ↦ a | some p ↦ some (answer r.number p) ])
    go none h none (nothing f) = nothing (next h f)
    go none h (some a) (found f) = found (later h f)
    go (some p) h a f = found (here h)

no_row : {rs : List Row} → NoRow rs → first_row rs ≡ none
unfolding first_row
no_row end = refl
no_row (next h f) = rw h (no_row f)

first_row_lem : {rs : List Row} {n p : ℕ} → First rs n p → first_row rs ≡ some (answer n p)
unfolding first_row
first_row_lem (here h) = rw h
first_row_lem (later h f) = rw h (first_row_lem f)

module _ (rs : List Row) where
  pub first_none : (first_row rs ≡ none) ↔ NoRow rs
  first_none = (there (rows-answer rs), no_row)
    where
      there : {o : Option Answer} → RowsAnswer rs o → o ≡ none → NoRow rs
      there (nothing f) e = f
      there (found f) e = absurd (true≢false (cc))

  pub first_some : (n p : ℕ) → (first_row rs ≡ some (answer n p)) ↔ First rs n p
  first_some n p = (there (rows-answer rs), first_row_lem)
    where
      there : {o : Option Answer} → RowsAnswer rs o → o ≡ some (answer n p) → First rs n p
      there (nothing f) e = absurd (true≢false (cc))
      there (found {n = m} {p = q} f) e =
          let is : answer m q ≡ answer n p = cc in
          subst (λ (a : Answer). First rs a.number a.place) is f

-- of two lists of rows in turn
pub none_append : (rs ss : List Row) → NoRow (rs ++ ss) → NoRow rs × NoRow ss
none_append [] ss f = (end, f)
none_append (r ∷ rs) ss (next h f) = let g = none_append rs ss f in (next h g.0, g.1)

pub first-append : (rs ss : List Row) {n p : ℕ} → First (rs ++ ss) n p → First rs n p ⊎ First ss n p
first-append [] ss f = inr f
first-append (r ∷ rs) ss (here h) = inl (here h)
first-append (r ∷ rs) ss (later h f) = go (first-append rs ss f)
  where
    go : {n p : ℕ} → First rs n p ⊎ First ss n p → First (r ∷ rs) n p ⊎ First ss n p
    go (inl g) = inl (later h g)
    go (inr g) = inr g

-- ---- what a call gives by its rows

module _ {A : Type 0} (rs : List Row) (x : A) (refuse : Answer → A) where
  pub by_rows_none : first_row rs ≡ none → by_rows rs x refuse ≡ x
  unfolding by_rows
  by_rows_none e = rw (e, by_rows)

  pub by_rows_some : (a : Answer) → first_row rs ≡ some a → by_rows rs x refuse ≡ refuse a
  unfolding by_rows
  by_rows_some a e = rw (e, by_rows)

  -- the same, by what is declared of the rows
  pub by_rows_fit : NoRow rs → by_rows rs x refuse ≡ x
  by_rows_fit f = by_rows_none ((first_none rs).1 f)

  pub by_rows-first : (n p : ℕ) → First rs n p → by_rows rs x refuse ≡ refuse (answer n p)
  by_rows-first n p f = by_rows_some (answer n p) ((first_some rs n p).1 f)

  -- where what is given tells its answer, that is 0 or the first row's
  pub by_rows-answer : (answer_of : A → Answer) → answer_of x ≡ answer 0 0 → ((a : Answer) → answer_of (refuse a) ≡ a)
      → answer_of (by_rows rs x refuse) ≡ answered (first_row rs)
  by_rows-answer answer_of e f = go (first_row rs) refl
    where
      go : (o : Option Answer) → first_row rs ≡ o → answer_of (by_rows rs x refuse) ≡ answered o
      go none h = ap answer_of (by_rows_none h) ∙ e
      go (some a) h = ap answer_of (by_rows_some a h) ∙ f a

  -- a row whose condition is that c fails: where it does the call is refused, else the later rows tell what it gives
  pub by_rows-tested : (c : Bool) (n p : ℕ) {y : A} → (c ≡ true → y ≡ by_rows rs x refuse)
      → cond c y (refuse (answer n p)) ≡ by_rows (row n (when_at p (not c)) ∷ rs) x refuse
  unfolding by_rows first_row
  by_rows-tested true n p e = e refl
  by_rows-tested false n p e = refl

  -- what is made of it, by the same rows
  pub by_rows-map : {B : Type 0} (f : A → B) → f (by_rows rs x refuse) ≡ by_rows rs (f x) (λ a. f (refuse a))
  unfolding by_rows
  by_rows-map f = go (first_row rs)
    where
      go : (o : Option Answer) → f (elim o as (λ _. A) [ none ↦ x | some a ↦ refuse a ]) ≡ elim o [ none ↦ f x | some a ↦ f (refuse a) ]
      go none = refl
      go (some a) = refl

  passed-row : (r : Row) → r.place ≡ none → by_rows (r ∷ rs) x refuse ≡ by_rows rs x refuse
  unfolding by_rows first_row
  passed-row r h = rw h

  refusing_row : (r : Row) (p : ℕ) → r.place ≡ some p → by_rows (r ∷ rs) x refuse ≡ refuse (answer r.number p)
  unfolding by_rows first_row
  refusing_row r p h = rw h

-- rows after others are those of what the others let through
pub by_rows-append : {A : Type 0} (rs ss : List Row) (x : A) (refuse : Answer → A) → by_rows (rs ++ ss) x refuse ≡ by_rows rs (by_rows ss x refuse) refuse
unfolding by_rows first_row
by_rows-append [] ss x refuse = refl
by_rows-append (r ∷ rs) ss x refuse = go (by_rows-append rs ss x refuse) r.place refl
  where
    go : by_rows (rs ++ ss) x refuse ≡ by_rows rs (by_rows ss x refuse) refuse
        → (o : Option ℕ) → r.place ≡ o → by_rows (r ∷ (rs ++ ss)) x refuse ≡ by_rows (r ∷ rs) (by_rows ss x refuse) refuse
    go e none h = passed-row (rs ++ ss) x refuse r h ∙ e ∙ sym (passed-row rs (by_rows ss x refuse) refuse r h)
    go e (some p) h = refusing_row (rs ++ ss) x refuse r p h ∙ sym (refusing_row rs (by_rows ss x refuse) refuse r p h)

-- ---- what a call answers with: number 0 stands for no row, if no row has it

-- every row's number is at least 1
unfoldable pub positive : List Row → Bool
positive [] = true
positive (r ∷ rs) = leb 1 r.number && positive rs

pub positive-append : (rs ss : List Row) → positive rs ≡ true → positive ss ≡ true → positive (rs ++ ss) ≡ true
unfolding positive
positive-append [] ss a c = c
positive-append (r ∷ rs) ss a c = both {a = leb 1 r.number} (search ands) (positive-append rs ss (search ands) c)

pub positive-first : {rs : List Row} {n p : ℕ} → positive rs ≡ true → First rs n p → 1 ≤ n
unfolding positive
positive-first t (here {r = r} h) = leb-true 1 r.number (search ands)
positive-first t (later h f) = positive-first (search ands) f

module _ (rs : List Row) where
  pub answered_zero : positive rs ≡ true → ((answered (first_row rs)).number ≡ 0) ↔ NoRow rs
  answered_zero t = (there (rows-answer rs), λ f. rw ((first_none rs).1 f))
    where
      there : {o : Option Answer} → RowsAnswer rs o → (answered o).number ≡ 0 → NoRow rs
      there (nothing f) e = f
      there (found f) e = absurd (omega (arith, positive-first t f))

  pub answered_some : (n p : ℕ) → 1 ≤ n → (answered (first_row rs) ≡ answer n p) ↔ First rs n p
  answered_some n p l = (there (first_row rs) refl, λ f. rw ((first_some rs n p).1 f))
    where
      there : (o : Option Answer) → first_row rs ≡ o → answered o ≡ answer n p → First rs n p
      there none h e = absurd (omega (arith, ap (λ (a : Answer). a.number) e))
      there (some a) h e = (first_some rs n p).0 (rw e at h)

-- ---- a row by its condition

pub not_held : (p : ℕ) (b : Bool) → when_at p b ≡ none → b ≡ false
not_held p true e = absurd (true≢false (cc))
not_held p false e = refl

pub held_at : (q : ℕ) (b : Bool) {p : ℕ} → when_at q b ≡ some p → p ≡ q
held_at q true e = cc
held_at q false e = absurd (true≢false (cc))

pub when_none : (b : Bool) → (when b ≡ none) ↔ (b ≡ false)
when_none b = (not_held 0 b, λ e. rw e)

pub when_some : (b : Bool) (p : ℕ) → (when b ≡ some p) ↔ ((b ≡ true) × (p ≡ 0))
when_some true p = (λ e. (refl, cc), λ h. rw h.1)
when_some false p = (λ e. absurd (true≢false (cc)), λ h. absurd (true≢false (sym h.0)))
