-- Appending gate by gate builds the record of the gates.
use Prim.Native.Nat.{ℕ, suc, ◌+◌, ◌<◌, ◌≤◌}
use native.Mathlib.Numerals.{add-one}
use native.Mathlib.Omega.{arith}
use mathlib.Core.Path.{◌≡◌, refl, sym, ap, ◌∙◌}
use mathlib.Core.Bool.{Bool, true, false, cond}
use mathlib.Core.List.{List, [], ◌∷◌, ◌++◌, append-nil}
use lib.ListN.{length, get_or, set, length-append, get_or-append}
use lib.Seq.{get_or-append_seam, append_snoc}
use Rattle.ternary.proofs.Tests.{by_test}
use Rattle.ternary.specs.Lists.{count_below}
use Rattle.net.specs.declared.Vertex.{Vertex}
use Rattle.net.specs.declared.Edge.{Edge}
use Rattle.net.specs.declared.Net.{Net}
use Rattle.net.specs.Limits.{most_vertices, most_edges}
use Rattle.net.specs.Graph.{no_vertex, no_edge}
use Rattle.sheet.specs.Record.{start_net}
use Rattle.sheet.specs.SheetRows.{placed}
use Rattle.sheet.proofs.PlacedLaws.{placed_none, placed_more, placed_ext}
use Rattle.gates.specs.declared.Gate.{Gate}
use Rattle.gates.specs.declared.Gate.TheVariants.{Inverter, Nand, Nor}
use Rattle.gates.specs.Limits.{most_gates}
use Rattle.gates.specs.Gates.{net_with, edge, gate_edges, has_inner, inner, output, rail, output_at, inners_before, inner_at, edges_before, vertex_from, net_of_first, vertices_before}
use Rattle.gates.specs.Building.{append_vertex, append_edge, append_edges, add_gate, outputs_of}
use Rattle.gates.proofs.Vertices.{few_edges, inners_few, edges_few, vertex-output, vertex-inner}

-- the record with these edges
abbrev edged : Net → List Edge → Net
edged N es = net_with N.vertices N.vertex_count (placed most_edges (length es) (λ i. get_or es i no_edge) no_edge) (length es) N.letter_count

module _ (N : Net) where
  stored_edge : (es : List Edge) (e : Edge) → length es < most_edges
      → set (placed most_edges (length es) (λ i. get_or es i no_edge) no_edge) (length es) e
      ≡ placed most_edges (length es + 1) (λ i. get_or (es ++ e ∷ []) i no_edge) no_edge
  stored_edge es e h =
      let f : ℕ → Edge = λ i. get_or (es ++ e ∷ []) i no_edge in
      let here : f (length es) ≡ e = get_or-append_seam es e [] no_edge in
      ap (λ (l : List Edge). set l (length es) e) (placed_ext most_edges (length es) (λ i. get_or es i no_edge) f no_edge (λ i b. sym (get_or-append es (e ∷ []) no_edge i b)))
      ∙ ap (set (placed most_edges (length es) f no_edge) (length es)) (sym here)
      ∙ placed_more most_edges f no_edge (length es) h
      ∙ ap (λ (k : ℕ). placed most_edges k f no_edge) (sym (add-one (length es)))

  append_edge_lem : (es : List Edge) (e : Edge) → length es < most_edges → append_edge (edged N es) e ≡ edged N (es ++ e ∷ [])
  append_edge_lem es e h =
      let size : length es + 1 ≡ length (es ++ e ∷ []) = sym (length-append es (e ∷ [])) in
      let stored = stored_edge es e h ∙ ap (λ (k : ℕ). placed most_edges k (λ i. get_or (es ++ e ∷ []) i no_edge) no_edge) size in
      λ i. net_with N.vertices N.vertex_count (stored i) (size i) N.letter_count

  pub append_edges_lem : (es ds : List Edge) → length es + length ds ≤ most_edges → append_edges (edged N es) ds ≡ edged N (es ++ ds)
  unfolding append_edges
  append_edges_lem es [] h = ap (edged N) (sym (append-nil es))
  append_edges_lem es (d ∷ ds) h =
      ap (λ (M : Net). append_edges M ds) (append_edge_lem es d (omega arith))
      ∙ append_edges_lem (es ++ d ∷ []) ds (rw length-append (omega arith))
      ∙ ap (edged N) (append_snoc es d ds)

module _ (G : ℕ) (gate : ℕ → Gate) (L : ℕ) (few : G ≤ most_gates) where
  -- the record of k vertices and these edges
  abbrev built : ℕ → List Edge → Net
  built k es = net_with (placed most_vertices k (vertex_from G) no_vertex) k (placed most_edges (length es) (λ i. get_or es i no_edge) no_edge) (length es) L

  vertex-added : (k : ℕ) (x : Vertex) (es : List Edge) → k < most_vertices → vertex_from G k ≡ x → append_vertex (built k es) x ≡ built (k + 1) es
  vertex-added k x es h is =
      let more : set (placed most_vertices k (vertex_from G) no_vertex) k x ≡ placed most_vertices (k + 1) (vertex_from G) no_vertex =
      ap (set (placed most_vertices k (vertex_from G) no_vertex) k) (sym is)
      ∙ placed_more most_vertices (vertex_from G) no_vertex k h
      ∙ ap (λ (j : ℕ). placed most_vertices j (vertex_from G) no_vertex) (sym (add-one k)) in
      λ i. net_with (more i) (k + 1) (built k es).edges (length es) L

  edges_added : (k : ℕ) (es ds : List Edge) → length es + length ds ≤ most_edges → append_edges (built k es) ds ≡ built k (es ++ ds)
  edges_added k es ds h = append_edges_lem (built k es) es ds h

  -- the count of inner vertices after gate n
  counted : (n : ℕ) (b : Bool) → has_inner (gate n) ≡ b → inners_before G gate (suc n) ≡ cond b (suc (inners_before G gate n)) (inners_before G gate n)
  unfolding inners_before count_below
  counted n b e = rw (count_below, e)

  pub gate_added : (n : ℕ) → n < G → add_gate (net_of_first G gate L n) (output_at n) (gate n) ≡ net_of_first G gate L (suc n)
  unfolding add_gate net_of_first edges_before
  gate_added n h =
      let k = vertices_before G gate n in
      let es = edges_before G gate n in
      let own = gate_edges (output_at n) (inner_at G gate n) (gate n) in
      let room : length es + length own ≤ most_edges = omega (arith, edges_few G gate n, few_edges (output_at n) (inner_at G gate n) (gate n)) in
      let next : k + 1 ≡ inner_at G gate n = omega arith in
      ap (λ (m : ℕ). append_edges (cond (has_inner (gate n)) (append_vertex (built k es) inner) (built k es)) (gate_edges (output_at n) m (gate n))) next
      ∙ by_test (has_inner (gate n))
      (λ i.
      let size : k + 1 ≡ vertices_before G gate (suc n) = omega (arith, counted n true i) in
      ap (λ (b : Bool). append_edges (cond b (append_vertex (built k es) inner) (built k es)) own) i
      ∙ ap (λ (M : Net). append_edges M own) (vertex-added k inner es (omega (arith, inners_few G gate n)) (vertex-inner G k (omega arith)))
      ∙ edges_added (k + 1) es own room
      ∙ ap (λ (j : ℕ). built j (es ++ own)) size)
      (λ i.
      let size : k ≡ vertices_before G gate (suc n) = omega (arith, counted n false i) in
      ap (λ (b : Bool). append_edges (cond b (append_vertex (built k es) inner) (built k es)) own) i
      ∙ edges_added k es own room
      ∙ ap (λ (j : ℕ). built j (es ++ own)) size)

-- ---- the rails and the outputs

module _ (G L : ℕ) (few : G ≤ most_gates) where
  -- as a record of no gates
  outputs_built : (gate : ℕ → Gate) (k : ℕ) → outputs_of G L k ≡ built G gate L few (2 + k) []
  unfolding outputs_of
  outputs_built gate k =
      let none_yet = placed_none most_edges (λ i. get_or [] i no_edge) no_edge in
      λ i. net_with (placed most_vertices (2 + k) (vertex_from G) no_vertex) (2 + k) (none_yet i) 0 L

  pub output-added : (k : ℕ) → k < G → append_vertex (outputs_of G L k) output ≡ outputs_of G L (k + 1)
  output-added k h =
      let gate : ℕ → Gate = λ _. Inverter 0 in
      let size : 2 + k + 1 ≡ 2 + (k + 1) = omega arith in
      ap (λ (M : Net). append_vertex M output) (outputs_built gate k)
      ∙ vertex-added G gate L few (2 + k) output [] (omega arith) (vertex-output G (2 + k) (omega arith) (omega arith))
      ∙ ap (λ (j : ℕ). built G gate L few j []) size
      ∙ sym (outputs_built gate (k + 1))

  pub outputs_first : (gate : ℕ → Gate) → outputs_of G L G ≡ net_of_first G gate L 0
  unfolding net_of_first edges_before inners_before count_below
  outputs_first gate = outputs_built gate G ∙ ap (λ (j : ℕ). built G gate L few j []) (omega arith)

  pub rails_added : append_vertex (append_vertex (start_net 0 0 L) (rail 0)) (rail 1) ≡ outputs_of G L 0
  unfolding start_net
  rails_added =
      let gate : ℕ → Gate = λ _. Inverter 0 in
      let empty : start_net 0 0 L ≡ built G gate L few 0 [] =
      λ i. net_with (placed_none most_vertices (vertex_from G) no_vertex i) 0 (placed_none most_edges (λ i. get_or [] i no_edge) no_edge i) 0 L in
      ap (λ (M : Net). append_vertex (append_vertex M (rail 0)) (rail 1)) empty
      ∙ ap (λ (M : Net). append_vertex M (rail 1)) (vertex-added G gate L few 0 (rail 0) [] (omega arith) refl)
      ∙ vertex-added G gate L few 1 (rail 1) [] (omega arith) refl
      ∙ sym (outputs_built gate 0)

-- ---- the edges of each type, as code appends them

module _ (N : Net) (o : ℕ) (γ : Gate) where
  pub inverter_added : (s : ℕ) → γ ≡ Inverter s → append_edges N (edge 2 o 1 s ∷ edge o 1 0 s ∷ []) ≡ add_gate N o γ
  unfolding add_gate gate_edges
  inverter_added s e = rw e

  pub nand_added : (s t : ℕ) → γ ≡ Nand s t
      → append_edges (append_vertex N inner) (edge 2 o 1 s ∷ edge 2 o 1 t ∷ edge o (N.vertex_count + 1) 0 s ∷ edge (N.vertex_count + 1) 1 0 t ∷ []) ≡ add_gate N o γ
  unfolding add_gate gate_edges
  nand_added s t e = rw e

  pub nor_added : (s t : ℕ) → γ ≡ Nor s t
      → append_edges (append_vertex N inner) (edge 2 (N.vertex_count + 1) 1 s ∷ edge (N.vertex_count + 1) o 1 t ∷ edge o 1 0 s ∷ edge o 1 0 t ∷ []) ≡ add_gate N o γ
  unfolding add_gate gate_edges
  nor_added s t e = rw e
