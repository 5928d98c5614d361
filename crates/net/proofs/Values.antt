-- The value of a symbol is 0 or 1, and only a variable's depends on the state.
use mathlib.Core.Path.{◌≡◌, refl}
use mathlib.Core.Bool.{true, false, true≢false, false≢true}
use mathlib.Core.Logic.{◌⊎◌, inl, inr}
use Prim.Native.Nat.{ℕ, ◌+◌, ◌-◌, ◌<◌, ◌≤◌}
use native.Mathlib.Omega.{arith}
use lib.Dec.{leb, lit<}
use borrow.Author.Tests.{leb-true, eq-eqb}
use Rattle.net.specs.declared.Net.{Net}
use Rattle.net.specs.declared.Symbol.{Symbol}
use Rattle.net.specs.declared.Symbol.TheVariants.{Constant, Letter, Vertex, Unknown}
use Rattle.net.specs.Limits.{most_vertices, most_letters, letter_base, vertex_base}
use Rattle.net.specs.Symbols.{within, decode, is_variable, symbol_bound}
use Rattle.net.specs.Graph.{vertex_at, is_input}
use Rattle.net.specs.State.{symbol_value, value, input_of}
use Rattle.ternary.proofs.Tests.{ands, both, cond_by}
use Rattle.ternary.proofs.BitLaws.{bit_lt, binary_iff}

pub within_low : (low high n : ℕ) → within low high n ≡ true → low ≤ n
within_low low high n e = leb-true low n (search ands)

pub within-high : (low high n : ℕ) → within low high n ≡ true → n ≤ high
within-high low high n e = leb-true n high (search ands)

-- by the tests of `decode`
pub decode_by {ℓ} : (P : Symbol → Type ℓ) (s : ℕ) → (s ≤ 1 → P (Constant s)) → (letter_base < s → s ≤ letter_base + most_letters → P (Letter (s - letter_base))) → (vertex_base < s → s ≤ vertex_base + most_vertices → P (Vertex (s - vertex_base))) → P Unknown → P (decode s)
unfolding decode
decode_by P s c l v u =
    cond_by P (leb s 1) (λ e. c (leb-true s 1 e)) (λ _.
    cond_by P (within (letter_base + 1) (letter_base + most_letters) s) (λ e. l (within_low _ _ s e) (within-high _ _ s e)) (λ _.
    cond_by P (within (vertex_base + 1) (vertex_base + most_vertices) s) (λ e. v (within_low _ _ s e) (within-high _ _ s e)) (λ _. u)))

pub value_lt : (N : Net) (a q s : ℕ) → value N a q s < 2
unfolding value symbol_value
value_lt N a q s = decode_by (λ x. symbol_value N a q x < 2) s (λ h. omega arith) (λ _ _. bit_lt a _) (λ _ _. bit_lt q _) (lit< tt)

pub value_cases : (N : Net) (a q s : ℕ) → (value N a q s ≡ 0) ⊎ (value N a q s ≡ 1)
value_cases N a q s = (binary_iff (value N a q s)).0 (value_lt N a q s)

-- a variable is a symbol number below the bound
pub variable_range : (s : ℕ) → is_variable (decode s) ≡ true → s < symbol_bound
variable_range s = decode_by (λ x. is_variable x ≡ true → s < symbol_bound) s (λ h _. omega arith) (λ _ h _. omega arith) (λ _ h _. omega arith) (λ e. absurd (false≢true e))

pub fixed_value : (N : Net) (a q a' q' s : ℕ) → is_variable (decode s) ≡ false → value N a q s ≡ value N a' q' s
unfolding value symbol_value
fixed_value N a q a' q' s = decode_by (λ x. is_variable x ≡ false → symbol_value N a q x ≡ symbol_value N a' q' x) s (λ _ _. refl) (λ _ _ e. absurd (true≢false e)) (λ _ _ e. absurd (true≢false e)) (λ _. refl)

-- an input vertex has value 0 or value 1
pub input_cases : (N : Net) (a q x : ℕ) → is_input N x ≡ true → (input_of N a q 0 x ≡ true) ⊎ (input_of N a q 1 x ≡ true)
unfolding input_of
input_cases N a q x i = go (value_cases N a q (vertex_at N x).label)
  where
    go : (value N a q (vertex_at N x).label ≡ 0) ⊎ (value N a q (vertex_at N x).label ≡ 1) → (input_of N a q 0 x ≡ true) ⊎ (input_of N a q 1 x ≡ true)
    go (inl e) = inl (both i (eq-eqb _ _ e))
    go (inr e) = inr (both i (eq-eqb _ _ e))

pub input_of_lem : (N : Net) (a q b x : ℕ) → input_of N a q b x ≡ true → is_input N x ≡ true
unfolding input_of
input_of_lem N a q b x e = search ands
