-- The two passes of ternary settling, the report's algorithms A and B, with their step counts. Assumes nothing.
use Rattle.std.specs.Prelude.{ℕ, zero, suc, ◌≤◌, ◌<◌, ◌≡◌, ◌≢◌, true, false, cond, List, eqb}
use Rattle.ternary.specs.Lists.{table, same}
use Rattle.ternary.specs.Bits.{bit}
use Rattle.ternary.specs.Signal.{X}
use Rattle.ternary.specs.Excitation.{H}

-- a pass's last vector, and how often the vector changed
pub record Pass : Type 0 where
  pub vector : List ℕ
  pub steps : ℕ

-- r becomes f r until that changes nothing, at most n times (for both passes n is enough: `first_ends`, `second-ends`)
unfoldable pub settle_by : (List ℕ → List ℕ) → ℕ → List ℕ → Pass
settle_by f zero r = record { vector = r; steps = 0 }
settle_by f (suc n) r = elim (same (f r) r) [
  | true ↦ record { vector = r; steps = 0 }
  | false ↦ let p = settle_by f n (f r) in record { vector = p.vector; steps = suc p.steps }
]

-- ---- what a pass means: the first fixed point that applying f over and over reaches

-- the vector after n applications of f
unfoldable pub iterate : (List ℕ → List ℕ) → ℕ → List ℕ → List ℕ
iterate f zero r = r
iterate f (suc n) r = f (iterate f n r)

-- pass p by f from r, of at most n steps: its vector is fixed, it is reached by as many applications as the pass has steps, and no fewer reach a
-- fixed one
pub record Ends (f : List ℕ → List ℕ) (n : ℕ) (r : List ℕ) (p : Pass) : Type 0 where
  pub is_fixed : f p.vector ≡ p.vector
  pub reached : p.vector ≡ iterate f p.steps r
  pub least : (m : ℕ) → m < p.steps → f (iterate f m r) ≢ iterate f m r
  pub bounded : p.steps ≤ n

-- ---- the two passes

-- the vector p of the first pass: X where A and B differ
unfoldable pub mix : ℕ → ℕ → ℕ → List ℕ
mix L A B = table L (λ j. cond (eqb (bit A j) (bit B j)) (bit A j) X)

-- what the two passes give
pub record Settled : Type 0 where
  pub r : List ℕ
  pub t : List ℕ
  pub first_steps : ℕ
  pub second_steps : ℕ

module _ (L h : ℕ) (F : ℕ → ℕ → ℕ → ℕ) where
  -- the changing letters are X, and the vector starts at q
  unfoldable pub first_pass : ℕ → ℕ → ℕ → Pass
  first_pass A B q = settle_by (H F h (mix L A B)) h (table h (bit q))

  -- the letters are those of B, and the vector starts at the first pass's last
  unfoldable pub second_pass : ℕ → List ℕ → Pass
  second_pass B r = settle_by (H F h (table L (bit B))) h r

  unfoldable pub settled : ℕ → ℕ → ℕ → Settled
  settled A B q =
      let one = first_pass A B q in
      let two = second_pass B one.vector in
      record { r = one.vector; t = two.vector; first_steps = one.steps; second_steps = two.steps }
