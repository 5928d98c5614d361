-- The places of symbols among a component's signals: what the table holds, and how the code fills it.
use Prim.Native.Nat.{ℕ, suc, ◌+◌, ◌*◌, ◌<◌, ◌≤◌}
use mathlib.Core.Path.{◌≡◌, sym, ap, ◌∙◌}
use mathlib.Core.Bool.{Bool, true, false, cond}
use mathlib.Core.List.{List}
use native.Mathlib.Omega.{arith}
use lib.Dec.{eqb}
use lib.ListN.{length, get_or}
use Rattle.ternary.specs.Bits.{digit}
use Rattle.ternary.specs.Lists.{count_below}
use Rattle.ternary.proofs.BitLaws.{eqb_digit}
use Rattle.ternary.proofs.ListLaws.{get_or-table, count_ext, count_mono, length_list}
use Rattle.net.specs.declared.Net.{Net}
use Rattle.net.specs.Limits.{most_vertices, most_signals}
use Rattle.net.specs.Symbols.{symbol_bound}
use Rattle.net.specs.Graph.{is_storage}
use Rattle.net.specs.Component.{SameComponent, components, is_signal, signals}
use Rattle.net.specs.SignalTable.{signal_count, signal_index}
use Rattle.net.specs.Tables.{signal_flags}
use Rattle.net.proofs.Filling.{zeros}
use Rattle.net.proofs.SignalLists.{is_signal_component}
use Rattle.lanes.specs.Grid.{cell, set_row}
use Rattle.lanes.proofs.GridLaws.{grid-cell, set_row_ext}
use Rattle.excitations.specs.Fit.{Fit}
use Rattle.excitations.specs.Conditions.{signal_places}
use Rattle.excitations.proofs.FirstRows.{first_rows, length-rows, rows_read, rows_none, rows_step, rows_skip, rows_end}

module _ (N : Net) where
  -- the flags before a symbol's own tell its place
  pub index_flags : (y s : ℕ) → s ≤ symbol_bound → count_below s (λ t. eqb (get_or (signal_flags N y) t 0) 1) ≡ signal_index N y s
  unfolding signal_index signal_flags
  index_flags y s h =
      count_ext s _ (is_signal N (components N) y)
      (λ t l. ap (λ (x : ℕ). eqb x 1) (get_or-table symbol_bound (λ u. digit (is_signal N (components N) y u)) t 0 (omega arith)) ∙ eqb_digit (is_signal N (components N) y t))

  -- ---- reading the table

  pub place_read : (y s : ℕ) → is_storage N y ≡ true → y ≤ most_vertices → s < symbol_bound → cell symbol_bound (signal_places N) y s ≡ signal_index N y s
  unfolding signal_places
  place_read y s e h l =
      grid-cell symbol_bound (suc most_vertices) (λ v u. cond (is_storage N v) (signal_index N v u) 0) y s (omega arith) l
      ∙ ap (λ (b : Bool). cond b (signal_index N y s) 0) e

  -- a place is at most the number of signals
  pub place_small : (y s : ℕ) → Fit N → is_storage N y ≡ true → s ≤ symbol_bound → signal_index N y s ≤ most_signals
  unfolding signal_index signal_count signals
  place_small y s fit e h =
      let p = is_signal N (components N) y in
      omega (arith, count_mono p s symbol_bound h, length_list p symbol_bound, fit.signals y e)

  -- ---- filling it

  abbrev place : ℕ → ℕ → ℕ
  place y s = cond (is_storage N y) (signal_index N y s) 0

  -- the rows of the numbers below n
  abbrev pub first_places : ℕ → List ℕ
  first_places = first_rows symbol_bound (suc most_vertices) place

  pub length-first_places : (n : ℕ) → length (first_places n) ≡ suc most_vertices * symbol_bound
  length-first_places = length-rows symbol_bound (suc most_vertices) place

  pub places_none : zeros (suc most_vertices * symbol_bound) ≡ first_places 0
  places_none = rows_none symbol_bound (suc most_vertices) place

  -- the rows of the storage vertices below n are there
  pub places_stored : (n : ℕ) {r : List ℕ} → n ≤ suc most_vertices → r ≡ first_places n
      → (x s : ℕ) → is_storage N x ≡ true → x < n → s < symbol_bound → cell symbol_bound r x s ≡ signal_index N x s
  places_stored n m q x s e h l =
      rw q
      (rows_read symbol_bound (suc most_vertices) place n x s h (omega arith) l ∙ ap (λ (b : Bool). cond b (signal_index N x s) 0) e)

  -- the row of y by its flags, and by the row of another vertex of its component
  pub row-counted : (y : ℕ) {flags : List ℕ} (r : List ℕ) → flags ≡ signal_flags N y
      → set_row symbol_bound y (λ s. count_below s (λ t. eqb (get_or flags t 0) 1)) r ≡ set_row symbol_bound y (signal_index N y) r
  row-counted y r f = rw f (set_row_ext symbol_bound y _ _ r (omega arith) (λ s l. index_flags y s (omega arith)))

  pub row_shared : {y x : ℕ} (r : List ℕ) → SameComponent N y x → ((s : ℕ) → s < symbol_bound → cell symbol_bound r x s ≡ signal_index N x s)
      → set_row symbol_bound y (cell symbol_bound r x) r ≡ set_row symbol_bound y (signal_index N y) r
  unfolding signal_index
  row_shared r c h =
      set_row_ext symbol_bound _ _ _ r (omega arith) (λ s l. h s l ∙ count_ext s _ _ (λ t _. sym (is_signal_component N c t)))

  -- it is stored
  pub places_step : (y : ℕ) {r r' : List ℕ} → is_storage N y ≡ true → y ≤ most_vertices → r ≡ first_places y
      → r' ≡ set_row symbol_bound y (signal_index N y) r → r' ≡ first_places (y + 1)
  places_step y e h q p =
      rw (p, q)
      (rows_step symbol_bound (suc most_vertices) place y (signal_index N y) (omega arith)
      (λ s l. sym (ap (λ (b : Bool). cond b (signal_index N y s) 0) e)))

  -- another number's stays zero
  pub places_skip : (y : ℕ) {r : List ℕ} → is_storage N y ≡ false → r ≡ first_places y → r ≡ first_places (y + 1)
  places_skip y e q = q ∙ rows_skip symbol_bound (suc most_vertices) place y (λ s l. ap (λ (b : Bool). cond b (signal_index N y s) 0) e)

  pub places_all : first_places (suc most_vertices) ≡ signal_places N
  unfolding signal_places
  places_all = rows_end symbol_bound (suc most_vertices) place (suc most_vertices) (λ v a h l _. absurd (omega arith))
