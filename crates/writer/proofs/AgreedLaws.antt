-- The record in the agreed order: it is a valid record of the same net, and the only one in that order; so records of the same net have one sheet.
use Prim.Native.Nat.{ℕ, zero, suc, ◌+◌, ◌-◌, ◌≤◌, ◌<◌}
use native.Mathlib.Nat.{le_of_suc-le-suc}
use native.Mathlib.Omega.{arith}
use mathlib.Core.Path.{◌≡◌, refl, sym, ap, ap₂, subst, ◌∙◌}
use mathlib.Core.Logic.{◌↔◌}
use mathlib.Core.Bool.{Bool, true, not}
use mathlib.Core.List.Permᴰ
use mathlib.Core.List.{List, [], ◌∷◌, ◌++◌, map, Permᴰ}
use lib.Dec.{leb, eqb}
use lib.ListN.{length, get_or, take, drop, replicate, length-append, length-drop, length-map, take-append-drop, get_or-append}
use lib.Seq.{take_at, drop_at, take_all}
use borrow.Author.Tests.{le-leb, leb-true, leb-false, eqb-false, ne_eqb, not-true}
use Rattle.net.specs.declared.Edge.{Edge}
use Rattle.net.specs.declared.Net.{Net}
use Rattle.net.specs.Limits.{most_edges}
use Rattle.net.specs.Symbols.{within}
use Rattle.net.specs.Graph.{no_edge, edge_at, vertex_at, has_role, is_storage}
use Rattle.ternary.specs.Lists.{table}
use Rattle.ternary.proofs.Tests.{ands, and_left, and_right, both, cond_by}
use Rattle.ternary.proofs.ListLaws.{length-table, get_or-table, table_ext}
use Rattle.sheet.specs.Limits.{Columns, record_columns}
use Rattle.sheet.specs.Rules.{vertex_ok, symbol_ok, edge_ok}
use Rattle.sheet.specs.Record.{accepted}
use Rattle.sheet.specs.Writing.{write_in}
use Rattle.sheet.specs.Reading.{with_edges, read_in}
use Rattle.sheet.specs.declared.Reading.{Reading}
use Rattle.sheet.specs.Valid.{all_of, is_no_edge, valid}
use Rattle.sheet.proofs.Places.{all_same}
use Rattle.sheet.proofs.RuleLaws.{no_edge_lem}
use Rattle.sheet.proofs.Validity.{Valid, valid_iff, counts_of}
use Rattle.sheet.proofs.WriteLaws.{read_write_sheet}
use Rattle.writer.specs.SameNet.{edges_of, turned, SameNet}
use Rattle.writer.specs.Sorting.{sort}
use Rattle.writer.specs.Agreed.{edge_up_to, InAgreedOrder, low_first, ordered_edges, canonical, canonical_in}
use Rattle.writer.proofs.OrderLaws.{edge_trans, edge_total, edge_both}
use Rattle.writer.proofs.SortingLaws.{sorted, sort_permuted, sort_sorted, sort_fixed, sorted-at, sorted_of, permuted_sort}
use Rattle.writer.proofs.Permuted.{permuted_length, permuted_all}
use Rattle.writer.proofs.SameNetLaws.{redrawn_back, each_low, permuted_redrawn, redrawn_permuted, net-back, net_onward}
use Rattle.writer.specs.SameNet.Redrawn.{onward}
use Rattle.writer.proofs.SameRows.{same_graph}

-- ---- lists

table_taken : {A : Type 0} (z : A) (n : ℕ) (l : List A) → n ≤ length l → table n (λ i. get_or l i z) ≡ take n l
unfolding table
table_taken z zero l h = refl
table_taken z (suc n) [] h = absurd (omega arith)
table_taken {A} z (suc n) (x ∷ l) h = ap (λ (m : List A). x ∷ m) (table_taken z n l (le_of_suc-le-suc h))

all_mapped : {A B : Type 0} (p : A → Bool) (r : B → Bool) (f : A → B) → ((x : A) → p x ≡ true → r (f x) ≡ true)
    → (l : List A) → all_of p l ≡ true → all_of r (map f l) ≡ true
unfolding all_of
all_mapped p r f keep [] h = refl
all_mapped p r f keep (x ∷ l) h = both (keep x (and_left (p x) _ h)) (all_mapped p r f keep l (and_right (p x) _ h))

all_fixed : {A : Type 0} (p : A → Bool) (f : A → A) → ((x : A) → p x ≡ true → f x ≡ x) → (l : List A) → all_of p l ≡ true → map f l ≡ l
unfolding all_of
all_fixed p f keep [] h = refl
all_fixed {A} p f keep (x ∷ l) h = ap₂ {C = List A} (λ y m. y ∷ m) (keep x (and_left (p x) _ h)) (all_fixed p f keep l (and_right (p x) _ h))

any_passes : {A : Type 0} (l : List A) → all_of (λ x. true) l ≡ true
unfolding all_of
any_passes [] = refl
any_passes (x ∷ l) = any_passes l

all_at : {A : Type 0} (p : A → Bool) (z : A) (l : List A) → all_of p l ≡ true → (i : ℕ) → i < length l → p (get_or l i z) ≡ true
unfolding all_of
all_at p z [] h i k = absurd (omega arith)
all_at p z (x ∷ l) h zero k = and_left (p x) _ h
all_at p z (x ∷ l) h (suc i) k = all_at p z l (and_right (p x) _ h) i (le_of_suc-le-suc k)

all_in_table : {A : Type 0} (p : A → Bool) (n : ℕ) (f : ℕ → A) → ((i : ℕ) → i < n → p (f i) ≡ true) → all_of p (table n f) ≡ true
unfolding all_of table
all_in_table p zero f h = refl
all_in_table p (suc n) f h = both (h 0 (omega arith)) (all_in_table p n (λ k. f (suc k)) (λ i k. h (suc i) (omega arith)))

-- ---- an edge with its lower end first

is_low_first : Edge → Bool
is_low_first e = leb e.end1 e.end2

low_ordered : (e : Edge) → is_low_first (low_first e) ≡ true
unfolding low_first is_low_first
low_ordered e =
    cond_by (λ (f : Edge). leb f.end1 f.end2 ≡ true) (leb e.end1 e.end2) (λ t. t)
    (λ t. le-leb e.end2 e.end1 (omega (arith, leb-false e.end1 e.end2 t)))

low_fixed : (e : Edge) → is_low_first e ≡ true → low_first e ≡ e
unfolding low_first is_low_first
low_fixed e h = rw h

module _ (N : Net) where
  turned_ok : (e : Edge) → edge_ok N e ≡ true → edge_ok N (turned e) ≡ true
  unfolding edge_ok symbol_ok
  turned_ok e h =
      let v : ℕ = N.vertex_count in
      let one : within 1 v e.end1 ≡ true = search ands in
      let two : within 1 v e.end2 ≡ true = search ands in
      let differ : not (eqb e.end1 e.end2) ≡ true = search ands in
      let turn : not (eqb e.end2 e.end1) ≡ true = rw (ne_eqb e.end2 e.end1 (λ q. eqb-false e.end1 e.end2 (not-true _ differ) (sym q))) in
      let form : leb e.form 3 ≡ true = search ands in
      let symbol : symbol_ok N e ≡ true = search ands in
      both (both (both (both two one) turn) form) symbol

  low_ok : (e : Edge) → edge_ok N e ≡ true → edge_ok N (low_first e) ≡ true
  unfolding low_first
  low_ok e h = cond_by (λ (f : Edge). edge_ok N f ≡ true) (leb e.end1 e.end2) (λ _. h) (λ _. turned_ok e h)

  -- ---- the edges in the agreed order

  ordered_permuted : Permᴰ (ordered_edges N) (map low_first (edges_of N))
  unfolding ordered_edges
  ordered_permuted = sort_permuted edge_up_to (map low_first (edges_of N))

  ordered_sorted : sorted edge_up_to (ordered_edges N) ≡ true
  unfolding ordered_edges
  ordered_sorted = sort_sorted edge_up_to edge_trans edge_total edge_both (map low_first (edges_of N))

  pub ordered_length : length (ordered_edges N) ≡ N.edge_count
  unfolding edges_of
  ordered_length = permuted_length ordered_permuted ∙ length-map (edges_of N) low_first ∙ length-table N.edge_count (edge_at N)

  -- a test that every edge passes once its lower end is first
  all_ordered : (p r : Edge → Bool) → ((e : Edge) → p e ≡ true → r (low_first e) ≡ true) → all_of p (edges_of N) ≡ true → all_of r (ordered_edges N) ≡ true
  all_ordered p r keep h = permuted_all r (Permᴰ.symm ordered_permuted) (all_mapped p r low_first keep (edges_of N) h)

  edge-canonical : (i : ℕ) → i < N.edge_count → edge_at (canonical N) i ≡ get_or (ordered_edges N) i no_edge
  unfolding canonical edge_at
  edge-canonical i h = get_or-append (ordered_edges N) (drop N.edge_count N.edges) no_edge i (rw ordered_length h)

  edges_canonical : edges_of (canonical N) ≡ ordered_edges N
  unfolding edges_of canonical
  edges_canonical =
      table_ext N.edge_count _ _ edge-canonical
      ∙ table_taken no_edge N.edge_count (ordered_edges N) (omega (arith, ordered_length))
      ∙ take_all N.edge_count (ordered_edges N) (omega (arith, ordered_length))

  -- it is a record of the same net
  pub canonical-same : SameNet (canonical N) N
  unfolding canonical
  canonical-same =
      record {
        vertices = refl;
        vertex_count = refl;
        edge_count = refl;
        letter_count = refl;
        edges = rw edges_canonical (onward (permuted_redrawn ordered_permuted) (redrawn_back (each_low (edges_of N))));
      }

  -- and in the agreed order
  pub canonical_ordered : InAgreedOrder (canonical N)
  unfolding canonical is_low_first
  canonical_ordered =
      record {
        lower-first = λ i h.
            let low : all_of is_low_first (ordered_edges N) ≡ true = all_ordered (λ e. true) is_low_first (λ e _. low_ordered e) (any_passes (edges_of N)) in
            let here = all_at is_low_first no_edge (ordered_edges N) low i (omega (arith, ordered_length)) in
            rw (edge-canonical i h) (leb-true _ _ here);
        rising = λ i h.
            rw (edge-canonical i (omega arith), edge-canonical (suc i) h) (sorted-at edge_up_to no_edge (ordered_edges N) ordered_sorted i (omega (arith, ordered_length)));
      }

  -- a record in the agreed order is its own
  pub ordered_own : N.edge_count ≤ length N.edges → InAgreedOrder N → canonical N ≡ N
  unfolding canonical ordered_edges edges_of edge_at is_low_first
  ordered_own fits o =
      let n = N.edge_count in
      let low : map low_first (edges_of N) ≡ edges_of N =
      all_fixed is_low_first low_first low_fixed (edges_of N) (all_in_table is_low_first n (edge_at N) (λ i h. le-leb _ _ (o.lower-first i h))) in
      let rising : sorted edge_up_to (edges_of N) ≡ true =
      sorted_of edge_up_to no_edge (edges_of N) (λ i h.
      let below : suc i < n = rw (length-table n (edge_at N)) at h in
      rw (get_or-table n (edge_at N) i no_edge (omega arith), get_or-table n (edge_at N) (suc i) no_edge below) (o.rising i below)) in
      let same : ordered_edges N ≡ take n N.edges =
      ap (sort edge_up_to) low ∙ sort_fixed edge_up_to (edges_of N) rising ∙ table_taken no_edge n N.edges fits in
      ap (with_edges N) (ap (λ (l : List Edge). l ++ drop n N.edges) same ∙ take-append-drop n N.edges)

  -- ---- it is valid

  edges_ok : Valid N → all_of (edge_ok N) (edges_of N) ≡ true
  unfolding edges_of edge_at
  edges_ok f = rw (table_taken no_edge N.edge_count N.edges (omega (arith, f.edge_places, (counts_of N f).edges))) f.edges

  rest : List Edge
  rest = drop N.edge_count N.edges

  pub canonical_facts : Valid N → Valid (canonical N)
  unfolding canonical rest vertex_ok edge_ok symbol_ok is_storage has_role vertex_at
  canonical_facts f =
      let places : length (ordered_edges N ++ rest) ≡ most_edges = rw (length-append, ordered_length, length-drop, f.edge_places) (omega (arith, (counts_of N f).edges)) in
      record {
        vertex_places = f.vertex_places;
        edge_places = places;
        counts = f.counts;
        vertices = f.vertices;
        vertices_end = f.vertices_end;
        edges = rw (take_at (ordered_edges N) rest N.edge_count ordered_length) (all_ordered (edge_ok N) (edge_ok N) low_ok (edges_ok f));
        edges_end = rw (drop_at (ordered_edges N) rest N.edge_count ordered_length) f.edges_end;
        graph = same_graph (net-back canonical-same) f.graph;
      }

  pub canonical-valid : valid N ≡ true → valid (canonical N) ≡ true
  canonical-valid h = (valid_iff (canonical N)).1 (canonical_facts ((valid_iff N).0 h))

  unused_zero : Valid N → drop N.edge_count N.edges ≡ replicate (most_edges - N.edge_count) no_edge
  unused_zero f =
      all_same is_no_edge no_edge no_edge_lem _ f.edges_end
      ∙ ap (λ (n : ℕ). replicate n no_edge) (length-drop N.edge_count N.edges ∙ ap (λ (n : ℕ). n - N.edge_count) f.edge_places)

-- ---- one record for each net

module _ (M N : Net) where
  ordered_one : SameNet M N → ordered_edges M ≡ ordered_edges N
  unfolding ordered_edges
  ordered_one s = permuted_sort edge_up_to edge_trans edge_total edge_both (redrawn_permuted s.edges)

  canonical_one : valid M ≡ true → valid N ≡ true → SameNet M N → canonical M ≡ canonical N
  unfolding canonical
  canonical_one vm vn s =
      let edges : ordered_edges M ++ drop M.edge_count M.edges ≡ ordered_edges N ++ drop N.edge_count N.edges =
      ap₂ {C = List Edge} (λ l r. l ++ r) (ordered_one s)
      (unused_zero M ((valid_iff M).0 vm) ∙ ap (λ (n : ℕ). replicate (most_edges - n) no_edge) s.edge_count ∙ sym (unused_zero N ((valid_iff N).0 vn))) in
      λ i. record { vertices = s.vertices i; edges = edges i; vertex_count = s.vertex_count i; edge_count = s.edge_count i; letter_count = s.letter_count i }

  -- the same net, from the same record in the agreed order
  canonical-back : canonical M ≡ canonical N → SameNet M N
  canonical-back e = net_onward (net-back (canonical-same M)) (subst (λ (K : Net). SameNet K N) (sym e) (canonical-same N))

  -- no other valid record of the net is in the agreed order
  pub canonical_only : valid M ≡ true → valid N ≡ true → SameNet M N → InAgreedOrder M → M ≡ canonical N
  canonical_only vm vn s o =
      let f = (valid_iff M).0 vm in
      sym (ordered_own M (omega (arith, f.edge_places, (counts_of M f).edges)) o) ∙ canonical_one vm vn s

canonical-twice : (N : Net) → valid N ≡ true → canonical (canonical N) ≡ canonical N
canonical-twice N v = canonical_one (canonical N) N (canonical-valid N v) v (canonical-same N)

-- ---- the bytes, in a width that holds a record's numbers

module _ (w : Columns) (wide : record_columns ≤ w) where
  pub read_canonical : (N : Net) → valid N ≡ true → read_in w (canonical_in w N) ≡ accepted (canonical N)
  unfolding canonical_in
  read_canonical N v = read_write_sheet w wide (canonical N) (canonical-valid N v)

  -- equal bytes exactly for records of the same net
  pub sheets_equal : (M N : Net) → valid M ≡ true → valid N ≡ true → (canonical_in w M ≡ canonical_in w N) ↔ SameNet M N
  unfolding canonical_in
  sheets_equal M N vm vn = (
    λ e. canonical-back M N (ap (λ (r : Reading). r.net) (sym (read_canonical M vm) ∙ ap (read_in w) e ∙ read_canonical N vn)),
    λ s. ap (write_in w) (canonical_one M N vm vn s),
  )

  -- reading the bytes and writing once more gives those bytes
  pub written_again : (N : Net) → valid N ≡ true → canonical_in w (read_in w (canonical_in w N)).net ≡ canonical_in w N
  unfolding canonical_in
  written_again N v = ap (λ (r : Reading). write_in w (canonical r.net)) (read_canonical N v) ∙ ap (write_in w) (canonical-twice N v)
