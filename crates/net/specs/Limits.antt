-- Every limit of a net, written once, and where the symbols of letters and vertices begin.
use Rattle.std.specs.Prelude.{ℕ}
use Rattle.net.specs.declared.Limits.{Limits}

abbrev pub most_vertices : ℕ
most_vertices = 96

abbrev pub most_edges : ℕ
most_edges = 192

abbrev pub most_letters : ℕ
most_letters = 8

abbrev pub most_key_nodes : ℕ
most_key_nodes = 12

-- of one component
abbrev pub most_signals : ℕ
most_signals = 8

-- letter j, counted from 1, has the symbol letterBase + j
abbrev pub letter_base : ℕ
letter_base = 10

-- vertex v, counted from 1, has the symbol vertexBase + v
abbrev pub vertex_base : ℕ
vertex_base = 100

abbrev pub limits : Limits
limits =
    record {
      vertices = most_vertices;
      edges = most_edges;
      letters = most_letters;
      key_nodes = most_key_nodes;
      signals = most_signals;
      letter_symbols = letter_base;
      vertex_symbols = vertex_base;
    }
