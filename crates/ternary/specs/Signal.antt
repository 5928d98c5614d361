-- Ternary signals, their vectors and the binary completions of a vector. Assumes nothing.
use Rattle.std.specs.Prelude.{ℕ, zero, suc, ◌+◌, ◌*◌, ◌^◌, ◌<◌, ◌≡◌, ◌⊎◌, Bool, ◌&&◌, List, [], ◌∷◌, length, get_or}
use Rattle.ternary.specs.Bits.{bit}

-- the signal X, the report's one half; in a buffer it is this byte
abbrev pub X : ℕ
X = 4

-- a signal is 0, 1 or X
abbrev pub Signal : ℕ → Type 0
Signal s = (s ≡ 0) ⊎ ((s ≡ 1) ⊎ (s ≡ X))

-- 0 and 1 cover themselves, X covers both (a number that is no signal counts as X). Between two signals: the second is no less certain.
unfoldable pub Covers : ℕ → ℕ → Type 0
Covers zero v = v ≡ 0
Covers (suc zero) v = v ≡ 1
Covers (suc (suc s)) v = Unit {0}

-- the value v is the other one of a binary signal s; against X no value is
abbrev pub Against : ℕ → ℕ → Type 0
Against s v = ((s ≡ 0) × (v ≡ 1)) ⊎ ((s ≡ 1) × (v ≡ 0))

-- the signal at place k of a vector
abbrev pub at : List ℕ → ℕ → ℕ
at r k = get_or r k 0

-- n is a binary completion of the vector r: bit k of n is covered by place k of r, and n has no further bit
pub record Completes (r : List ℕ) (n : ℕ) : Type 0 where
  pub below : n < 2 ^ length r
  pub covered : (k : ℕ) → k < length r → Covers (at r k) (bit n k)

-- does every completion of r pass the test? (`every_iff` ties this to `Completes`)
unfoldable pub every : List ℕ → (ℕ → Bool) → Bool
every [] P = P 0
every (zero ∷ r) P = every r (λ n. P (2 * n))
every (suc zero ∷ r) P = every r (λ n. P (2 * n + 1))
every (suc (suc s) ∷ r) P = every r (λ n. P (2 * n)) && every r (λ n. P (2 * n + 1))
