-- Numbers by place of checking: a call tests its rows in order, and the first whose condition holds gives the answer.
use Rattle.std.specs.Prelude.{ℕ, Bool, cond, List, [], ◌∷◌, ◌≡◌}
use Rattle.std.proofs.Math.Option.{Option, none, some}
use Rattle.sheet.specs.declared.Answer.{Answer}

abbrev pub answer : ℕ → ℕ → Answer
answer n p = record { number = n; place = p }

-- a row of document 01's table: its number, and its place where its condition holds
pub record Row : Type 0 where
  pub number : ℕ
  pub place : Option ℕ

abbrev pub row : ℕ → Option ℕ → Row
row n p = record { number = n; place = p }

-- the place p of a row, where the condition b holds; most rows have place 0
abbrev pub when_at : ℕ → Bool → Option ℕ
when_at p b = cond b (some p) none

abbrev pub when : Bool → Option ℕ
when b = when_at 0 b

-- the first row whose condition holds
unfoldable pub first_row : List Row → Option Answer
first_row [] = none
first_row (r ∷ rs) = elim r.place [ none ↦ first_row rs | some p ↦ some (answer r.number p) ]

-- what a call gives by its rows: x where no row's condition holds, else a refusal with the first one's answer
unfoldable pub by_rows : {A : Type 0} → List Row → A → (Answer → A) → A
by_rows rows x refuse = elim (first_row rows) [ none ↦ x | some a ↦ refuse a ]

-- answer 0 where no row's condition holds
abbrev pub answered : Option Answer → Answer
answered none = answer 0 0
answered (some a) = a

-- the same, declared: in the list of rows the first whose condition holds has number n and place p
pub data First : List Row → ℕ → ℕ → Type 0 where
  here : {r : Row} {rs : List Row} {p : ℕ} → r.place ≡ some p → First (r ∷ rs) r.number p
  later : {r : Row} {rs : List Row} {n p : ℕ} → r.place ≡ none → First rs n p → First (r ∷ rs) n p

-- no row's condition holds
pub data NoRow : List Row → Type 0 where
  end : NoRow []
  next : {r : Row} {rs : List Row} → r.place ≡ none → NoRow rs → NoRow (r ∷ rs)
