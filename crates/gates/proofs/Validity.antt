-- The record of accepted gates is valid, so no call refuses it with 41; of the rows over the graph only 22 can hold.
use Prim.Native.Nat.{ℕ, zero, suc, ◌-◌, ◌<◌, ◌≤◌}
use native.Mathlib.Omega.{arith}
use mathlib.Core.Path.{◌≡◌, refl, sym, ap, ◌∙◌}
use mathlib.Core.Logic.{inl, inr, ⊎_elim}
use mathlib.Core.Bool.{true, ◌&&◌}
use mathlib.Core.Option.{none}
use lib.Dec.{ltb}
use lib.ListN.{length, get_or, take, drop}
use borrow.Author.Tests.{le-leb, lt-leb, ne_eqb}
use Rattle.ternary.proofs.Tests.{ands, both, fails, cond_by}
use Rattle.net.specs.declared.Edge.{Edge}
use Rattle.net.specs.declared.Net.{Net}
use Rattle.net.specs.Limits.{most_vertices, most_edges, most_letters}
use Rattle.net.specs.Graph.{no_vertex, no_edge, edge_at}
use Rattle.net.specs.Symbols.{decode}
use Rattle.net.specs.Known.{known_symbol}
use Rattle.sheet.specs.Checked.{Checked}
use Rattle.sheet.specs.Pairs.{Unpaired, lacks_partner}
use Rattle.sheet.specs.Graph.{partner_place, key_place, signal_place}
use Rattle.sheet.specs.Rules.{counts_ok, vertex_ok, symbol_ok, edge_ok}
use Rattle.sheet.specs.Valid.{all_of, is_no_vertex, is_no_edge, valid}
use Rattle.sheet.proofs.FittingLaws.{placed_fit}
use Rattle.sheet.proofs.PairLaws.{lacks_iff, paired_iff}
use Rattle.sheet.proofs.GraphLaws.{partner_none, signal_none, graph_none}
use Rattle.sheet.proofs.PlacedLaws.{length-placed}
use Rattle.sheet.proofs.Validity.{valid_iff}
use Rattle.gates.specs.declared.Gate.{Gate}
use Rattle.gates.specs.Limits.{most_gates}
use Rattle.gates.specs.Gates.{edges_before, vertex_from, net_of_first, gate_net, vertices_before}
use Rattle.gates.proofs.Vertices.{vertices_few, vertex_at_lem, edges_few}
use Rattle.gates.proofs.Patterns.{Fitting, pattern-fits}
use Rattle.gates.proofs.Located.{place_at, image_at, pattern_edge, located, edge_at_lem}
use Rattle.gates.proofs.Placing.{apart, place_range}
use Rattle.gates.proofs.Sound.{Allowed, symbol_allowed, symbol_known}
use Rattle.gates.proofs.Signals.{few_signals}

-- an edge between two vertices that differ, of a form that is not primed
plain_ok : (M : Net) (e : Edge) → (1 ≤ e.end1) × (e.end1 ≤ M.vertex_count) → (1 ≤ e.end2) × (e.end2 ≤ M.vertex_count)
    → (e.end1 ≡ e.end2 → ⊥) → e.form ≤ 1 → known_symbol M (decode e.symbol) ≡ true → edge_ok M e ≡ true
unfolding edge_ok symbol_ok
plain_ok M e u v d f known =
    rw (
      le-leb 1 e.end1 u.0,
      le-leb e.end1 M.vertex_count u.1,
      le-leb 1 e.end2 v.0,
      le-leb e.end2 M.vertex_count v.1,
      ne_eqb e.end1 e.end2 d,
      le-leb e.form 3 (omega arith),
      lt-leb 2 e.form (omega arith),
      known,
    )

module _ (G : ℕ) (gate : ℕ → Gate) (L : ℕ) (few : G ≤ most_gates) where
  abbrev N : Net
  N = gate_net G gate L

  -- ---- forms and ends

  plain_form : (i : ℕ) → i < N.edge_count → (edge_at N i).form ≤ 1
  plain_form i h =
      let r = located G gate L few i h in
      rw r.2.2 (pattern-fits (gate r.0) r.2.0 r.2.1).form

  -- the ends of an edge: vertices that differ
  ends_ok : (g : ℕ) → g < G → (d : Edge) → Fitting (gate g) d → (place_at G gate g d.end1 ≡ place_at G gate g d.end2) → ⊥
  ends_ok g l d f e =
      f.differ
      (⊎_elim (λ s. (apart G gate g g d.end1 d.end2 l l s e).1) (λ s. sym (apart G gate g g d.end2 d.end1 l l s (sym e)).1) f.storage)

  vertex_ok_lem : (i : ℕ) → vertex_ok N (vertex_from G i) ≡ true
  unfolding vertex_ok decode
  vertex_ok_lem zero = refl
  vertex_ok_lem (suc zero) = refl
  vertex_ok_lem (suc (suc g)) = cond_by (λ x. vertex_ok N x ≡ true) (ltb g G) (λ _. refl) (λ _. refl)

  -- no form is primed, so no edge wants a partner
  pub partners : partner_place N ≡ none
  partners = (partner_none N).1 ((paired_iff N).0 (λ i h. fails (lacks_partner N i) (λ t. plain i h ((lacks_iff N i).0 t))))
    where
      plain : (i : ℕ) → i < N.edge_count → Unpaired N i → ⊥
      plain i h (inl e) = omega (arith, e.form, plain_form i h)
      plain i h (inr e) = omega (arith, e.form, plain_form i h)

  pub signals_few : signal_place N ≡ none
  signals_few = (signal_none N).1 (λ y m. omega (arith, m.over, few_signals G gate L few y m.storage))

  module _ (letters : L ≤ most_letters) (allowed : (g : ℕ) → g < G → Allowed G L (gate g)) where
    edge_ok_lem : (i : ℕ) → i < N.edge_count → edge_ok N (edge_at N i) ≡ true
    unfolding net_of_first
    edge_ok_lem i h =
        let r = located G gate L few i h in
        let d = pattern_edge G gate r.0 r.2.0 in
        let f = pattern-fits (gate r.0) r.2.0 r.2.1 in
        let known = symbol_known G gate L few allowed (decode (edge_at N i).symbol) (symbol_allowed G gate L few allowed i h) in
        rw r.2.2
        (plain_ok N (image_at G gate r.0 d)
        (place_range G gate L few r.0 r.1 d.end1 f.first-low f.first-high)
        (place_range G gate L few r.0 r.1 d.end2 f.second-low f.second-high)
        (ends_ok r.0 r.1 d f) f.form (rw r.2.2 at known))

    -- ---- the record

    vertices_fit : (all_of (vertex_ok N) (take N.vertex_count N.vertices) && all_of is_no_vertex (drop N.vertex_count N.vertices)) ≡ true
    unfolding net_of_first is_no_vertex
    vertices_fit = placed_fit (vertex_ok N) is_no_vertex no_vertex most_vertices (vertices_before G gate G) (vertex_from G) (omega (arith, vertices_few G gate L few)) (λ i h. vertex_ok_lem i) refl

    edges_fit : (all_of (edge_ok N) (take N.edge_count N.edges) && all_of is_no_edge (drop N.edge_count N.edges)) ≡ true
    unfolding net_of_first is_no_edge
    edges_fit =
        placed_fit (edge_ok N) is_no_edge no_edge most_edges (length (edges_before G gate G)) (λ i. get_or (edges_before G gate G) i no_edge) (omega (arith, edges_few G gate G))
        (λ i h. ap (edge_ok N) (sym (edge_at_lem G gate L few i h)) ∙ edge_ok_lem i h) refl

    counts_ok_lem : counts_ok N.vertex_count N.edge_count N.letter_count ≡ true
    unfolding net_of_first counts_ok
    counts_ok_lem =
        both
        (both
        (both (le-leb 1 (vertices_before G gate G) (omega arith)) (le-leb (vertices_before G gate G) most_vertices (omega (arith, vertices_few G gate L few))))
        (le-leb (length (edges_before G gate G)) most_edges (omega (arith, edges_few G gate G))))
        (le-leb L most_letters letters)

    -- what the rows over the graph may count on
    pub gates_checked : Checked N
    unfolding net_of_first
    gates_checked = record { counts = counts_ok_lem; vertices = λ v from to. rw (vertex_at_lem G gate L few v from to) (vertex_ok_lem (v - 1)); edges = edge_ok_lem }

    pub gates_valid : key_place N ≡ none → valid N ≡ true
    unfolding net_of_first
    gates_valid keys =
        let vs = vertices_fit in
        let es = edges_fit in
        (valid_iff N).1 (record {
          vertex_places = length-placed most_vertices (vertex_from G) no_vertex _;
          edge_places = length-placed most_edges (λ i. get_or (edges_before G gate G) i no_edge) no_edge _;
          counts = counts_ok_lem;
          vertices = search ands;
          vertices_end = search ands;
          edges = search ands;
          edges_end = search ands;
          graph = (graph_none N).1 (record { partner = partners; key = keys; signal = signals_few });
        })
