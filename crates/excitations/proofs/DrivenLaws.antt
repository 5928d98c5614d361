-- The marks that connections start from: how the code sets them, one edge after the other.
use Prim.Native.Nat.{ℕ, suc, ◌+◌, ◌*◌, ◌<◌, ◌≤◌}
use mathlib.Core.Path.{◌≡◌, refl, sym, ap, ◌∙◌}
use mathlib.Core.Bool.{Bool, true, false, cond, ◌&&◌, ◌||◌}
use mathlib.Core.List.{List}
use mathlib.Core.Logic.{◌≢◌}
use native.Mathlib.Numerals.{add-one}
use native.Mathlib.Omega.{arith}
use lib.Dec.{eqb}
use lib.ListN.{length}
use borrow.Author.Tests.{eq-eqb, ne_eqb}
use Rattle.ternary.specs.Bits.{bit, digit}
use Rattle.ternary.specs.Lists.{any_below}
use Rattle.ternary.proofs.BitLaws.{eqb_digit}
use Rattle.ternary.proofs.Tests.{by_test, not_both}
use Rattle.net.specs.declared.Net.{Net}
use Rattle.net.specs.Limits.{most_vertices, most_signals}
use Rattle.net.specs.Symbols.{decode, symbol_bound}
use Rattle.net.specs.Graph.{edge_at, is_input, is_storage}
use Rattle.net.specs.State.{input_of}
use Rattle.net.specs.SignalTable.{signal_index}
use Rattle.net.proofs.Filling.{zeros}
use Rattle.net.proofs.Flags.{and_false_right, or_false_right}
use Rattle.lanes.specs.Lanes.{assignments, lanes, lane, chosen, columns, raised, mark_row}
use Rattle.lanes.proofs.GridLaws.{length-grid, grid-cell, grid_ext, set_row-grid}
use Rattle.lanes.proofs.LaneLaws.{column_read}
use Rattle.excitations.specs.Fit.{Fit}
use Rattle.excitations.specs.Conditions.{symbol_at, owner, other}
use Rattle.excitations.specs.Sweeps.{drives, driven_at, driven_lanes}
use Rattle.excitations.proofs.FirstRows.{zeros-grid}
use Rattle.excitations.proofs.OwnerLaws.{owner_range, label_of, other_input, storage_no_input}
use Rattle.excitations.proofs.PlaceLaws.{place_small}
use Rattle.excitations.proofs.StateValues.{chosen-bit, label_bound, input_at}

-- one number more
any_next : (p : ℕ → Bool) (n : ℕ) → any_below (n + 1) p ≡ (any_below n p || p n)
unfolding any_below
any_next p n = rw (add-one, any_below)

-- a mark raised, where all three are digits of tests
raised-digit : (on : ℕ) (d a : Bool) → raised on (digit d) (digit a) ≡ digit (a || (eqb on 1 && d))
unfolding raised
raised-digit on d a = rw (eqb_digit d) (go (eqb on 1 && d) a)
  where
    go : (t a : Bool) → cond t 1 (digit a) ≡ digit (a || t)
    go true true = refl
    go true false = refl
    go false true = refl
    go false false = refl

-- the label opposite to a storage vertex, and its place
module _ (N : Net) (fit : Fit N) (n : ℕ) (h : n < N.edge_count) (sx : is_storage N (other N (edge_at N n)) ≡ false) where
  pub label_small : label_of N n < symbol_bound
  label_small = label_bound N fit.known _ (other_input N fit n h sx)

  pub label-place : is_storage N (owner N (edge_at N n)) ≡ true → signal_index N (owner N (edge_at N n)) (label_of N n) ≤ most_signals
  label-place sy = place_small N _ _ fit sy (omega (arith, label_small))

module _ (N : Net) (on : List ℕ) (b : ℕ) where
  abbrev entry : ℕ → ℕ → ℕ → ℕ
  entry n y w = digit (driven_at N on b n y w)

  -- the marks after the first n edges
  unfoldable pub first_driven : ℕ → List ℕ
  first_driven n = lanes (suc most_vertices) (entry n)

  pub length_driven : (n : ℕ) → length (first_driven n) ≡ suc most_vertices * assignments
  unfolding first_driven
  length_driven n = length-grid assignments (suc most_vertices) (entry n)

  pub driven_none : zeros (suc most_vertices * assignments) ≡ first_driven 0
  unfolding first_driven driven_at any_below
  driven_none = zeros-grid assignments (suc most_vertices) (entry 0) (λ y w _ _. rw and_false_right)

  pub driven_all : first_driven N.edge_count ≡ driven_lanes N on b
  unfolding first_driven driven_lanes
  driven_all = refl

  -- edge n is on at w and drives y
  abbrev driving : ℕ → ℕ → ℕ → Bool
  driving n y w = eqb (lane on n w) 1 && drives N b y w n

  driven_next : (n y w : ℕ) → is_storage N y ≡ true → driven_at N on b (n + 1) y w ≡ (driven_at N on b n y w || driving n y w)
  unfolding driven_at
  driven_next n y w e = rw (e, any_next (λ i. driving i y w) n)

  -- an edge that does not drive y leaves its marks
  kept : (n y w : ℕ) → (is_storage N y ≡ true → drives N b y w n ≡ false) → entry n y w ≡ entry (n + 1) y w
  unfolding driven_at
  kept n y w h = by_test (is_storage N y)
      (λ e. rw (e, any_next (λ i. driving i y w) n, h e, and_false_right, or_false_right))
      (λ e. rw e)

  elsewhere : (n y w : ℕ) → owner N (edge_at N n) ≢ y → drives N b y w n ≡ false
  unfolding drives
  elsewhere n y w h = rw (ne_eqb (owner N (edge_at N n)) y h)

  no_input : (n y w : ℕ) → is_input N (other N (edge_at N n)) ≡ false → drives N b y w n ≡ false
  unfolding drives input_of
  no_input n y w h = rw (h, and_false_right)

  skip : (n : ℕ) {r : List ℕ} → ((y w : ℕ) → is_storage N y ≡ true → drives N b y w n ≡ false) → r ≡ first_driven n → r ≡ first_driven (n + 1)
  unfolding first_driven
  skip n h q = q ∙ grid_ext assignments (suc most_vertices) (entry n) (entry (n + 1)) (λ y w _ _. kept n y w (h y w))

  -- an edge between input vertices
  pub driven_outer : (n : ℕ) {r : List ℕ} → is_storage N (owner N (edge_at N n)) ≡ false → r ≡ first_driven n → r ≡ first_driven (n + 1)
  driven_outer n e = skip n (λ y w sy. elsewhere n y w (λ q. not_both (is_storage N y) sy (rw q at e)))

  -- an edge between storage vertices
  pub driven_inner : (n : ℕ) {r : List ℕ} → is_storage N (other N (edge_at N n)) ≡ true → r ≡ first_driven n → r ≡ first_driven (n + 1)
  driven_inner n e = skip n (λ y w _. no_input n y w (storage_no_input N _ e))

  -- label l has the value b where its signal has the value c
  abbrev hits : ℕ → ℕ → Bool
  hits l c = eqb (symbol_at (decode l) c) b

  module _ (fit : Fit N) (n : ℕ) (h : n < N.edge_count) (sy : is_storage N (owner N (edge_at N n)) ≡ true) (sx : is_storage N (other N (edge_at N n)) ≡ false) where
    abbrev y : ℕ
    y = owner N (edge_at N n)

    abbrev l : ℕ
    l = label_of N n

    abbrev place : ℕ
    place = signal_index N y l

    drives-owner : (w : ℕ) → drives N b y w n ≡ hits l (bit w place)
    unfolding drives
    drives-owner w = rw (eq-eqb y y refl) (input_at N fit.known n h sy b w (other_input N fit n h sx))

    marked : (w : ℕ) → w < assignments → raised (lane on n w) (chosen (digit (hits l 0)) (digit (hits l 1)) (lane columns place w)) (lane (first_driven n) y w) ≡ entry (n + 1) y w
    unfolding first_driven
    marked w k =
        rw (column_read place w (label-place N fit n h sx sy) k, chosen-bit (λ c. digit (hits l c)) w place, grid-cell assignments (suc most_vertices) (entry n) y w (omega (arith, owner_range N fit.readable n h)) k)
        (raised-digit (lane on n w) (hits l (bit w place)) (driven_at N on b n y w) ∙ ap digit (sym (driven_next n y w sy ∙ ap (λ (d : Bool). driven_at N on b n y w || (eqb (lane on n w) 1 && d)) (drives-owner w))))

    -- an edge that joins the storage vertex y to an input vertex: the bits of its label's signal choose
    pub driven_step : {u m p low high : ℕ} {r r' : List ℕ} → u ≡ y → m ≡ l → p ≡ place → low ≡ digit (hits m 0) → high ≡ digit (hits m 1)
        → r ≡ first_driven n → r' ≡ mark_row on n u p low high r → r' ≡ first_driven (n + 1)
    unfolding mark_row first_driven
    driven_step eu em ep el eh q q' =
        rw (q', eu, ep, el, eh, em, q)
        (set_row-grid assignments (suc most_vertices) y _ (entry n) (entry (n + 1)) (omega (arith, owner_range N fit.readable n h))
        marked
        (λ v w _ o _. kept n v w (λ _. elsewhere n v w (λ e. o (sym e)))))
