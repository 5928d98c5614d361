-- The lines of a gate sheet, as code tests them.
use Prim.Native.Nat.{ℕ, zero, suc, ◌+◌, ◌-◌, ◌≤◌, ◌<◌}
use native.Mathlib.Omega.{arith}
use mathlib.Core.Path.{◌≡◌, refl, sym, ap}
use mathlib.Core.Logic.{◌≢◌}
use mathlib.Core.Bool.{Bool, true, false, true≢false, cond, ◌&&◌}
use lib.Dec.{ltb, eqb}
use borrow.Author.Tests.{leb-true, eqb-true, eq-eqb, ne_eqb, le-leb, lt-leb, ltb-true, ltb-false, lt-ltb}
use Rattle.ternary.proofs.Tests.{ands, fails, same_test, both, by_test, not_both}
use Rattle.net.specs.Limits.{most_vertices, most_letters, vertex_base}
use Rattle.net.specs.Symbols.{within, decode, symbol_bound}
use Rattle.net.proofs.Cases.{decode-high}
use Rattle.net.proofs.Values.{within_low, within-high}
use Rattle.sheet.specs.declared.Line.{Line}
use Rattle.gates.specs.declared.Gate.{Gate}
use Rattle.gates.specs.declared.Gate.TheVariants.{Inverter, Nand, Nor}
use Rattle.std.specs.Prelude.{Some, None}
use Rattle.gates.specs.Limits.{most_gates, gate_edition}
use Rattle.gates.specs.Gates.{high, first_output, output_at}
use Rattle.gates.specs.GateRows.{gate_symbol, gate_header_ok, gate_of, line_gate, gate_line_ok}
use Rattle.gates.specs.Building.{decode_gate}

-- ---- a symbol

module _ (G v : ℕ) where
  pub below_outputs : v < first_output → false ≡ within first_output (high + G) v
  below_outputs h = rw (lt-leb first_output v h)

  pub from_outputs : first_output ≤ v → ltb (v - first_output) G ≡ within first_output (high + G) v
  from_outputs h =
      same_test _ _ (λ t. both (le-leb first_output v h) (le-leb v (high + G) (omega (arith, ltb-true (v - first_output) G t))))
      (λ t. lt-ltb (v - first_output) G (omega (arith, within-high first_output (high + G) v t)))

module _ (G L s : ℕ) where
  -- above the last vertex's there is no symbol
  pub beyond_symbols : vertex_base + most_vertices < s → false ≡ gate_symbol G L (decode s)
  beyond_symbols h = ap (gate_symbol G L) (decode-high s h)

  symbol_range : gate_symbol G L (decode s) ≡ true → s < symbol_bound
  symbol_range t = by_test (ltb s symbol_bound) (ltb-true s symbol_bound) (λ f. absurd (not_both _ t (sym (beyond_symbols (ltb-false s symbol_bound f)))))

-- ---- the gate of a line

pub is_inverter : (n s t : ℕ) → n ≤ 1 → Inverter s ≡ gate_of n s t
unfolding gate_of
is_inverter zero s t h = refl
is_inverter (suc zero) s t h = refl
is_inverter (suc (suc n)) s t h = absurd (omega arith)

pub is_nand : (n s t : ℕ) → n ≡ 2 → Nand s t ≡ gate_of n s t
unfolding gate_of
is_nand n s t h = rw h

pub is_nor : (n s t : ℕ) → 2 < n → Nor s t ≡ gate_of n s t
unfolding gate_of
is_nor zero s t h = absurd (omega arith)
is_nor (suc zero) s t h = absurd (omega arith)
is_nor (suc (suc zero)) s t h = absurd (omega arith)
is_nor (suc (suc (suc n))) s t h = refl

-- ---- the header

pub record HeaderLine (h : Line) : Type 0 where
  pub kind : h.kind ≡ 6
  pub some_gate : 1 ≤ h.second
  pub gates : h.second ≤ most_gates
  pub letters : h.third ≤ most_letters
  pub fourth : h.fourth ≡ 0
  pub fifth : h.fifth ≡ gate_edition

header_facts : (h : Line) → gate_header_ok h ≡ true → HeaderLine h
unfolding gate_header_ok
header_facts h ok =
    record {
      kind = eqb-true h.kind 6 (search ands);
      some_gate = within_low 1 most_gates h.second (search ands);
      gates = within-high 1 most_gates h.second (search ands);
      letters = leb-true h.third most_letters (search ands);
      fourth = eqb-true h.fourth 0 (search ands);
      fifth = eqb-true h.fifth gate_edition (search ands);
    }

pub no_header : (h : Line) (more : Bool) → (HeaderLine h → ⊥) → false ≡ (gate_header_ok h && more)
no_header h more f = rw (fails (gate_header_ok h) (λ t. f (header_facts h t)))

pub a_header : (h : Line) (more : Bool) → HeaderLine h → more ≡ (gate_header_ok h && more)
unfolding gate_header_ok
a_header h more f =
    rw (
      eq-eqb h.kind 6 f.kind,
      le-leb 1 h.second f.some_gate,
      le-leb h.second most_gates f.gates,
      le-leb h.third most_letters f.letters,
      eq-eqb h.fourth 0 f.fourth,
      eq-eqb h.fifth gate_edition f.fifth,
    )

-- ---- the line of a gate

module _ (G L g : ℕ) (v : Line) where
  -- all but the second symbol
  pub record GateLine : Type 0 where
    pub kind : v.kind ≡ 7
    pub type_low : 1 ≤ v.second
    pub type_high : v.second ≤ 3
    pub output : v.third ≡ vertex_base + output_at g

  line_facts : gate_line_ok G L g v ≡ true → GateLine × (gate_symbol G L (decode v.fourth) ≡ true)
  unfolding gate_line_ok
  line_facts ok = (
    record {
      kind = eqb-true v.kind 7 (search ands);
      type_low = within_low 1 3 v.second (search ands);
      type_high = within-high 1 3 v.second (search ands);
      output = eqb-true v.third (vertex_base + output_at g) (search ands);
    },
    search ands,
  )

  pub no_gate_line : (GateLine → ⊥) → false ≡ gate_line_ok G L g v
  no_gate_line f = sym (fails (gate_line_ok G L g v) (λ t. f (line_facts t).0))

  pub bad_symbol : gate_symbol G L (decode v.fourth) ≡ false → false ≡ gate_line_ok G L g v
  unfolding gate_line_ok
  bad_symbol e = rw (e) (no_more (eqb v.kind 7 && within 1 3 v.second && eqb v.third (vertex_base + output_at g)) _)
    where
      no_more : (a b : Bool) → false ≡ (a && false && b)
      no_more true b = refl
      no_more false b = refl

  module _ (f : GateLine) (ok : gate_symbol G L (decode v.fourth) ≡ true) where
    pub last_field : cond (eqb v.second 1) (eqb v.fifth 0) (gate_symbol G L (decode v.fifth)) ≡ gate_line_ok G L g v
    unfolding gate_line_ok
    last_field =
        rw (
          eq-eqb v.kind 7 f.kind,
          le-leb 1 v.second f.type_low,
          le-leb v.second 3 f.type_high,
          eq-eqb v.third (vertex_base + output_at g) f.output,
          ok,
        )

    pub of_inverter : v.second ≡ 1 → eqb v.fifth 0 ≡ gate_line_ok G L g v
    of_inverter e = rw (eq-eqb v.second 1 e) at last_field

    pub of_two : v.second ≢ 1 → gate_symbol G L (decode v.fifth) ≡ gate_line_ok G L g v
    of_two e = rw (ne_eqb v.second 1 e) at last_field

  -- the symbols of an allowed line are within the range of symbols
  pub line_range : gate_line_ok G L g v ≡ true → (v.fourth < symbol_bound) × (v.fifth < symbol_bound)
  unfolding gate_line_ok
  line_range ok =
      let last : cond (eqb v.second 1) (eqb v.fifth 0) (gate_symbol G L (decode v.fifth)) ≡ true = search ands in (
        symbol_range G L v.fourth (search ands),
        by_test (eqb v.second 1)
            (λ t. omega (arith, eqb-true v.fifth 0 (rw t at last)))
            (λ t. symbol_range G L v.fifth (rw t at last)),
      )

  -- ---- what it is decoded to

  pub decoded_refused : decode_gate G L g v ≡ None → gate_line_ok G L g v ≡ false
  decoded_refused e = by_test (gate_line_ok G L g v) (λ t. absurd (clash (rw t at e))) (λ t. t)
    where
      clash : Some (line_gate v) ≡ None → ⊥
      clash q = true≢false (cc)

  pub decoded_gate : (γ : Gate) → decode_gate G L g v ≡ Some γ → (gate_line_ok G L g v ≡ true) × (line_gate v ≡ γ)
  decoded_gate γ e = by_test (gate_line_ok G L g v) (λ t. (t, same (rw t at e))) (λ t. absurd (clash (rw t at e)))
    where
      same : Some (line_gate v) ≡ Some γ → line_gate v ≡ γ
      same q = cc

      clash : None ≡ Some γ → ⊥
      clash q = true≢false (cc)
