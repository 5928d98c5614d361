-- What the rows over the graph say: pairs (21), key nodes (22) and signals (23), each where it is silent and where it gives a place.
use Prim.Native.Nat.{ℕ, suc, ◌+◌, ◌≤◌, ◌<◌}
use native.Mathlib.Omega.{arith}
use mathlib.Core.Path.{◌≡◌, ap}
use mathlib.Core.Logic.{◌↔◌}
use mathlib.Core.Bool.{true}
use mathlib.Core.Option.{none, some, map, map-eq-none_iff, map-eq-some_iff}
use borrow.Author.Tests.{ltb-true, lt-ltb}
use Rattle.net.specs.declared.Net.{Net}
use Rattle.net.specs.Limits.{most_key_nodes, most_signals}
use Rattle.net.specs.Graph.{is_storage, keys, key_count, key_vertex}
use Rattle.net.specs.SignalTable.{signal_count}
use Rattle.net.proofs.Classes.{storage_low, storage_range}
use Rattle.net.proofs.Keys.{key_at, key_storage}
use Rattle.ternary.specs.Lists.{least_below}
use Rattle.ternary.proofs.Tests.{ands, both, fails, not_both}
use Rattle.ternary.proofs.ListLaws.{least_none, least_some, least_none_iff, least_some_iff}
use Rattle.std.specs.Prelude.{Some, None}
use Rattle.sheet.specs.Rows.{answer, first_row, answered, NoRow}
use Rattle.sheet.specs.Rows.NoRow.{end, next}
use Rattle.sheet.specs.Pairs.{Paired, Unpaired, lacks_partner}
use Rattle.sheet.specs.Graph.{edge_place, partner_place, key_place, over_signals, signal_place, graph_rows}
use Rattle.sheet.specs.Search.{found_of}
use Rattle.sheet.proofs.SearchLaws.{found_some, found_none}
use Rattle.sheet.proofs.Places.{get_none, get_some}
use Rattle.sheet.proofs.RowLaws.{first_none}
use Rattle.sheet.proofs.PairLaws.{lacks_iff, paired_iff}

module _ (N : Net) where
  -- ---- 21: pairs

  -- silent exactly if the rule holds for any two vertices and any symbol
  pub partner_none : (partner_place N ≡ none) ↔ Paired N
  unfolding partner_place
  partner_none = (
    λ e. (paired_iff N).0 ((least_none (lacks_partner N) N.edge_count).0 ((map-eq-none_iff (edge_place N) _).0 e)),
    λ r. (map-eq-none_iff (edge_place N) _).1 ((least_none (lacks_partner N) N.edge_count).1 ((paired_iff N).1 r)),
  )

  -- the first line that is one too many
  pub record FirstUnpaired (place : ℕ) : Type 0 where
    pub edge : ℕ
    pub below : edge < N.edge_count
    pub unpaired : Unpaired N edge
    pub earlier : (i : ℕ) → i < edge → ¬ Unpaired N i
    pub line : edge_place N edge ≡ place

  pub partner_some : (place : ℕ) → (partner_place N ≡ some place) ↔ FirstUnpaired place
  unfolding partner_place
  partner_some place = (there, back)
    where
      there : map (edge_place N) (least_below N.edge_count (lacks_partner N)) ≡ some place → FirstUnpaired place
      there e =
          let m = (map-eq-some_iff (edge_place N) _).0 e in
          let l = (least_some (lacks_partner N) N.edge_count m.0).0 m.1 in
          record {
            edge = m.0;
            below = l.below;
            unpaired = (lacks_iff N m.0).0 l.passes;
            earlier = λ i h u. not_both (lacks_partner N i) ((lacks_iff N i).1 u) (l.earlier i h);
            line = m.2;
          }

      back : FirstUnpaired place → map (edge_place N) (least_below N.edge_count (lacks_partner N)) ≡ some place
      back f =
          (map-eq-some_iff (edge_place N) _).1 (
            f.edge,
            (least_some (lacks_partner N) N.edge_count f.edge).1
                (record {
                  below = f.below;
                  passes = (lacks_iff N f.edge).1 f.unpaired;
                  earlier = λ i h. fails (lacks_partner N i) (λ t. f.earlier i h ((lacks_iff N i).0 t));
                }),
            f.line,
          )

  -- ---- 22: key nodes

  pub key_none : (key_place N ≡ none) ↔ (key_count N ≤ most_key_nodes)
  unfolding key_place key_count
  key_none = get_none (keys N) most_key_nodes 0

  -- the key node of index mostKeyNodes, counted from 0, is the first above the limit
  pub key_some : (place : ℕ) → (key_place N ≡ some place) ↔ ((most_key_nodes < key_count N) × (key_vertex N most_key_nodes ≡ place))
  unfolding key_place key_count key_vertex
  key_some place = get_some (keys N) most_key_nodes 0 place

  -- ---- 23: signals

  -- y is a storage vertex whose component has too many signals
  pub record TooMany (y : ℕ) : Type 0 where
    pub storage : is_storage N y ≡ true
    pub over : most_signals < signal_count N y

  too_many_iff : (y : ℕ) → (over_signals N y ≡ true) ↔ TooMany y
  unfolding over_signals
  too_many_iff y = (
    λ t. record { storage = search ands; over = ltb-true most_signals (signal_count N y) (search ands) },
    λ m. both m.storage (lt-ltb most_signals (signal_count N y) m.over),
  )

  pub signal_none : (signal_place N ≡ none) ↔ ((y : ℕ) → ¬ TooMany y)
  unfolding signal_place
  signal_none = least_none_iff (over_signals N) TooMany too_many_iff (suc N.vertex_count) (λ y m. storage_range N y m.storage)

  pub signal_some : (y : ℕ) → (signal_place N ≡ some y) ↔ (TooMany y × ((z : ℕ) → z < y → ¬ TooMany z))
  unfolding signal_place
  signal_some = least_some_iff (over_signals N) TooMany too_many_iff (suc N.vertex_count) (λ y m. storage_range N y m.storage)

  -- ---- all three

  pub record NoGraphRow : Type 0 where
    pub partner : partner_place N ≡ none
    pub key : key_place N ≡ none
    pub signal : signal_place N ≡ none

  pub graph_none : (first_row (graph_rows N) ≡ none) ↔ NoGraphRow
  unfolding graph_rows
  graph_none = (λ e. there ((first_none (graph_rows N)).0 e), λ r. (first_none (graph_rows N)).1 (next r.partner (next r.key (next r.signal end))))
    where
      there : NoRow (graph_rows N) → NoGraphRow
      there (next p (next k (next s end))) = record { partner = p; key = k; signal = s }

  -- places of 22 and 23 are vertices
  pub record VertexPlace (y : ℕ) : Type 0 where
    pub low : 1 ≤ y
    pub high : y ≤ N.vertex_count

  storage_place : (y : ℕ) → is_storage N y ≡ true → VertexPlace y
  storage_place y e = record { low = storage_low N y e; high = omega (arith, storage_range N y e) }

  pub key_vertex_lem : (place : ℕ) → key_place N ≡ some place → VertexPlace place
  key_vertex_lem place e =
      let k = (key_some place).0 e in
      let at = key_at N most_key_nodes k.0 in
      storage_place place (rw k.1 at (key_storage N _ at.key))

  pub signal_vertex : (place : ℕ) → signal_place N ≡ some place → VertexPlace place
  signal_vertex place e = storage_place place ((signal_some place).0 e).0.storage

-- ---- what the code answers for a row's place, where its loop has found one and where it has found none

pub partner_found : (N : Net) (i : ℕ) → least_below N.edge_count (lacks_partner N) ≡ some i → Some (N.vertex_count + 2 + i) ≡ found_of (partner_place N)
unfolding partner_place
partner_found N i e = rw e (ap Some (omega arith))

pub partner_missing : (N : Net) → least_below N.edge_count (lacks_partner N) ≡ none → None ≡ found_of (partner_place N)
unfolding partner_place
partner_missing N e = rw e

-- ---- the first of the rows, by what the code found for each

module _ (N : Net) where
  pub answer_21 : (p : ℕ) → found_of (partner_place N) ≡ Some p → answer 21 p ≡ answered (first_row (graph_rows N))
  unfolding graph_rows first_row
  answer_21 p e = rw (found_some (partner_place N) e)

  pub answer_22 : (p : ℕ) → found_of (partner_place N) ≡ None → found_of (key_place N) ≡ Some p → answer 22 p ≡ answered (first_row (graph_rows N))
  unfolding graph_rows first_row
  answer_22 p e f = rw (found_none (partner_place N) e, found_some (key_place N) f)

  pub answer_23 : (p : ℕ) → found_of (partner_place N) ≡ None → found_of (key_place N) ≡ None → found_of (signal_place N) ≡ Some p
      → answer 23 p ≡ answered (first_row (graph_rows N))
  unfolding graph_rows first_row
  answer_23 p e f g = rw (found_none (partner_place N) e, found_none (key_place N) f, found_some (signal_place N) g)

  pub answer_none : found_of (partner_place N) ≡ None → found_of (key_place N) ≡ None → found_of (signal_place N) ≡ None
      → answer 0 0 ≡ answered (first_row (graph_rows N))
  unfolding graph_rows first_row
  answer_none e f g = rw (found_none (partner_place N) e, found_none (key_place N) f, found_none (signal_place N) g)
