-- Symbols and labels that an accepted sheet may have.
use Rattle.std.specs.Prelude.{ℕ, ◌<◌, Bool, true, false, ◌≡◌, leb}
use Rattle.net.specs.declared.Net.{Net}
use Rattle.net.specs.declared.Symbol.{Symbol}
use Rattle.net.specs.declared.Symbol.TheVariants.{Constant, Letter, Vertex, Unknown}
use Rattle.net.specs.Symbols.{decode}
use Rattle.net.specs.Graph.{vertex_at, edge_at, is_input, is_storage}

-- an edge's symbol is a constant, a letter of the net or a storage vertex
abbrev pub known_symbol : Net → Symbol → Bool
known_symbol N s = elim s [ Constant c ↦ true | Letter j ↦ leb j N.letter_count | Vertex v ↦ is_storage N v | Unknown ↦ false ]

-- an input vertex's label is a constant or a letter of the net
abbrev pub known_label : Net → Symbol → Bool
known_label N s = elim s [ Constant c ↦ true | Letter j ↦ leb j N.letter_count | Vertex v ↦ false | Unknown ↦ false ]

pub record Known (N : Net) : Type 0 where
  pub symbols : (i : ℕ) → i < N.edge_count → known_symbol N (decode (edge_at N i).symbol) ≡ true
  pub labels : (x : ℕ) → is_input N x ≡ true → known_label N (decode (vertex_at N x).label) ≡ true
