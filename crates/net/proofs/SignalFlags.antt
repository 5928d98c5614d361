-- The signals that the first n edges show.
use mathlib.Core.Path.{◌≡◌, refl, sym, ap, ◌∙◌}
use mathlib.Core.Bool.{Bool, true, false, cond, ◌&&◌, ◌||◌}
use mathlib.Core.List.{List}
use Prim.Native.Nat.{ℕ, suc, ◌+◌, ◌-◌, ◌<◌, ◌≤◌}
use native.Mathlib.Numerals.{add-one}
use native.Mathlib.Omega.{arith}
use lib.Dec.{eqb}
use lib.ListN.{length, get_or, set}
use lib.Seq.{get_or-take}
use borrow.Author.Tests.{eqb-true, eq-eqb, ne_eqb}
use Rattle.ternary.specs.Lists.{any_below, count_below}
use Rattle.ternary.proofs.Tests.{by_test, not_both, fails}
use Rattle.ternary.proofs.ListLaws.{get_or-table, length_list}
use Rattle.net.specs.declared.Net.{Net}
use Rattle.net.specs.Limits.{most_vertices}
use Rattle.net.specs.Symbols.{decode, is_variable, symbol_bound}
use Rattle.net.specs.Graph.{no_vertex, vertex_at, edge_at, is_input, is_storage}
use Rattle.net.specs.Classes.{same_label, exits, leads}
use Rattle.net.specs.Component.{components, carries, gives, is_signal, signals}
use Rattle.net.specs.SignalTable.{signal_count}
use Rattle.net.specs.Tables.{Prepared, input_labels, mark_symbol, mark_end, signal_flags}
use Rattle.net.proofs.Cases.{decode_constant}
use Rattle.net.proofs.Values.{variable_range}
use Rattle.net.proofs.Classes.{role_range, storage_range}
use Rattle.net.proofs.TableLaws.{storage_test, role_at, no_vertex_0}
use Rattle.net.proofs.Filling.{zeros}
use Rattle.net.proofs.Flags.{and_false_right, or_true_right, or_false_right, Flagged, flags_none, flags_store, flags_kept, flags_table}
use Rattle.net.proofs.Counting.{count-table}

-- ---- tests

-- two marks, one after the other
two_marks : (p v x z : Bool) → ((p || (v && x)) || (v && z)) ≡ (p || (v && (x || z)))
two_marks true v x z = refl
two_marks false false x z = refl
two_marks false true x z = refl

-- o: some earlier edge gives s. a and b: the ends are members. x: the edge's symbol is s. c1 and c2: the ends carry s
step-on : (o a b x c1 c2 : Bool) → ((o || (a && (x || c2))) || (b && (x || c1))) ≡ (o || ((x && ((a && true) || (b && true))) || ((a && c2) || (b && c1))))
step-on true a b x c1 c2 = refl
step-on false a b false c1 c2 = refl
step-on false true b true c1 c2 = refl
step-on false false true true c1 c2 = refl
step-on false false false true c1 c2 = refl

one_more_lem : (v o a b x c1 c2 i1 i2 : Bool) → (v ≡ true → i1 ≡ c1) → (v ≡ true → i2 ≡ c2)
    → (((v && o) || (a && (v && (x || i2)))) || (b && (v && (x || i1)))) ≡ (v && (o || ((x && ((a && true) || (b && true))) || ((a && c2) || (b && c1)))))
one_more_lem true o a b x c1 c2 i1 i2 h1 h2 = rw (h1 refl, h2 refl) (step-on o a b x c1 c2)
one_more_lem false o a b x c1 c2 i1 i2 h1 h2 = rw (and_false_right a, and_false_right b)

-- ---- marks, as the code makes them

pub mark_variable : (s : ℕ) (r : List ℕ) → is_variable (decode s) ≡ true → set r s 1 ≡ mark_symbol s r
unfolding mark_symbol
mark_variable s r e = rw e

pub mark_constant : (s : ℕ) (r : List ℕ) → is_variable (decode s) ≡ false → r ≡ mark_symbol s r
unfolding mark_symbol
mark_constant s r e = rw e

pub mark_member : (m : Bool) (s l : ℕ) (r : List ℕ) → m ≡ true → mark_symbol l (mark_symbol s r) ≡ mark_end m s l r
unfolding mark_end
mark_member m s l r e = rw e

pub mark_stranger : (m : Bool) (s l : ℕ) (r : List ℕ) → m ≡ false → r ≡ mark_end m s l r
unfolding mark_end
mark_stranger m s l r e = rw e

-- ---- the labels of input vertices

module _ (N : Net) where
  pub no_input_0 : 0 ≡ cond (is_input N 0) (vertex_at N 0).label 0
  no_input_0 = rw (no_vertex_0 N 0)

  pub no_input_above : (v : ℕ) → N.vertex_count < v → 0 ≡ cond (is_input N v) (vertex_at N v).label 0
  no_input_above v h = rw (fails (is_input N v) (λ e. omega (arith, role_range N v 0 e)))

  -- the vertex at index i, which is vertex i + 1
  pub input_at : (i : ℕ) → i < N.vertex_count
      → cond (eqb (get_or N.vertices i no_vertex).role 0) (get_or N.vertices i no_vertex).label 0 ≡ cond (is_input N (i + 1)) (vertex_at N (i + 1)).label 0
  unfolding vertex_at
  input_at i h =
      let q : i + 1 - 1 ≡ i = omega arith in
      rw (role_at N i 0 h, q)

  -- a variable that stands in the table at v is carried by v
  pub input_read : (v s : ℕ) → v ≤ most_vertices → is_variable (decode s) ≡ true → eqb (get_or (input_labels N) v 0) s ≡ carries N s v
  unfolding input_labels carries
  input_read v s h e =
      ap (λ (l : ℕ). eqb l s) (get_or-table (suc most_vertices) (λ x. cond (is_input N x) (vertex_at N x).label 0) v 0 (omega arith))
      ∙ by_test (is_input N v) (λ i. rw i) (λ i. rw i (ne_eqb 0 s (λ q. not_both (is_variable (decode 0)) (rw q e) constant_0)))
    where
      constant_0 : is_variable (decode 0) ≡ false
      constant_0 = sym (ap is_variable (decode_constant 0 (omega arith)))

-- ---- one mark

abbrev variable : ℕ → Bool
variable s = is_variable (decode s)

flags_symbol : {p : ℕ → Bool} {r : List ℕ} → Flagged symbol_bound p r → (s : ℕ) → Flagged symbol_bound (λ j. p j || (variable j && eqb s j)) (mark_symbol s r)
flags_symbol {p} {r} m s = by_test (variable s)
    (λ v. rw (sym (mark_variable s r v)) (flags_store m s 1 (variable_range s v) (rw (v, eq-eqb s s refl, or_true_right)) (λ j _ n. rw (ne_eqb s j (λ q. n (sym q)), and_false_right, or_false_right))))
    (λ v. rw (sym (mark_constant s r v)) (flags_kept m (λ j _. by_test (eqb s j)
    (λ e. rw (sym (ap variable (eqb-true s j e)), v, or_false_right))
    (λ e. rw (e, and_false_right, or_false_right)))))

flags_end : {p : ℕ → Bool} {r : List ℕ} → Flagged symbol_bound p r → (m : Bool) (s l : ℕ) → Flagged symbol_bound (λ j. p j || (m && (variable j && (eqb s j || eqb l j)))) (mark_end m s l r)
flags_end {p} {r} f m s l = by_test m
    (λ e. rw (sym (mark_member m s l r e), e) (flags_kept (flags_symbol (flags_symbol f s) l) (λ j _. two_marks (p j) (variable j) (eqb s j) (eqb l j))))
    (λ e. rw (sym (mark_stranger m s l r e), e) (flags_kept f (λ j _. rw or_false_right)))

-- ---- one edge

module _ (N : Net) (y : ℕ) where
  -- s is a variable that one of the first n edges gives
  abbrev pub signal_among : ℕ → ℕ → Bool
  signal_among n s = variable s && any_below n (λ i. gives N (components N) y s (edge_at N i))

  -- v is a storage vertex of y's component
  abbrev pub member : ℕ → Bool
  member v = is_storage N v && same_label (components N) y v

  pub signals_none : Flagged symbol_bound (signal_among 0) (zeros symbol_bound)
  unfolding any_below
  signals_none = flags_none symbol_bound (λ s. rw and_false_right)

  pub signal_step : (n : ℕ) {r : List ℕ} → Flagged symbol_bound (signal_among n) r → (edge_at N n).end1 ≤ most_vertices → (edge_at N n).end2 ≤ most_vertices
      → Flagged symbol_bound (signal_among (n + 1))
      (mark_end (member (edge_at N n).end2) (edge_at N n).symbol (get_or (input_labels N) (edge_at N n).end1 0)
      (mark_end (member (edge_at N n).end1) (edge_at N n).symbol (get_or (input_labels N) (edge_at N n).end2 0) r))
  unfolding any_below gives leads exits
  signal_step n f h1 h2 =
      rw add-one
      (flags_kept (flags_end (flags_end f (member e1) s (get_or (input_labels N) e2 0)) (member e2) s (get_or (input_labels N) e1 0))
      (λ j _. one_more_lem (variable j) (any_below n (λ i. gives N (components N) y j (edge_at N i))) (member e1) (member e2) (eqb s j) (carries N j e1) (carries N j e2) _ _ (input_read N e1 j h1) (input_read N e2 j h2)))
    where
      e1 : ℕ
      e1 = (edge_at N n).end1

      e2 : ℕ
      e2 = (edge_at N n).end2

      s : ℕ
      s = (edge_at N n).symbol

  -- the same, as the code does it: the second end's marks follow the first's
  pub signal_turn : (n : ℕ) {r r1 r2 inputs : List ℕ} {m1 m2 : Bool} → Flagged symbol_bound (signal_among n) r → (edge_at N n).end1 ≤ most_vertices → (edge_at N n).end2 ≤ most_vertices
      → inputs ≡ input_labels N
      → m1 ≡ member (edge_at N n).end1 → r1 ≡ mark_end m1 (edge_at N n).symbol (get_or inputs (edge_at N n).end2 0) r
      → m2 ≡ member (edge_at N n).end2 → r2 ≡ mark_end m2 (edge_at N n).symbol (get_or inputs (edge_at N n).end1 0) r1
      → Flagged symbol_bound (signal_among (n + 1)) r2
  signal_turn n f h1 h2 i e1 q1 e2 q2 = rw (q2, q1, e1, e2, i) (signal_step n f h1 h2)

  pub signals_all : {r : List ℕ} → is_storage N y ≡ true → Flagged symbol_bound (signal_among N.edge_count) r → r ≡ signal_flags N y
  unfolding signal_flags is_signal
  signals_all sy f = flags_table {p = is_signal N (components N) y} (flags_kept f (λ j _. rw sy))

  -- the number of flags
  pub signal_count_lem : (r : List ℕ) → r ≡ signal_flags N y → count_below (length r) (λ i. eqb (get_or r i 0) 1) ≡ signal_count N y
  unfolding signal_flags signal_count signals
  signal_count_lem r e = count-table symbol_bound (is_signal N (components N) y) r e ∙ sym (length_list (is_signal N (components N) y) symbol_bound)

  -- ---- membership, as the code tests it
  module _ (storage labels : List ℕ) (prepared : Prepared N storage labels) (sy : is_storage N y ≡ true) where
    label_read : (v : ℕ) → is_storage N v ≡ true → get_or labels v 0 ≡ get_or (components N) v 0
    label_read v e = sym (get_or-take (suc N.vertex_count) labels v 0 (storage_range N v e)) ∙ ap (λ (l : List ℕ). get_or l v 0) prepared.labelled

    pub member_test : (v : ℕ) → v ≤ most_vertices → (eqb (get_or storage v 0) 1 && eqb (get_or labels y 0) (get_or labels v 0)) ≡ member v
    unfolding same_label
    member_test v h = by_test (is_storage N v)
        (λ e. rw (storage_test N storage prepared.flags v h, e, label_read y sy, label_read v e))
        (λ e. rw (storage_test N storage prepared.flags v h, e))

    pub member_range : y ≤ most_vertices
    member_range = omega (arith, storage_range N y sy, prepared.readable.vertices)
