-- Symbols by number: 0 and 1 are the constants; the letters' and the vertices' symbols follow their bases.
use Rattle.std.specs.Prelude.{ℕ, suc, ◌+◌, ◌-◌, Bool, true, false, cond, ◌&&◌, leb}
use Rattle.net.specs.declared.Symbol.{Symbol}
use Rattle.net.specs.declared.Symbol.TheVariants.{Constant, Letter, Vertex, Unknown}
use Rattle.net.specs.Limits.{most_vertices, most_letters, letter_base, vertex_base}

-- n is from low to high
abbrev pub within : ℕ → ℕ → ℕ → Bool
within low high n = leb low n && leb n high

unfoldable pub decode : ℕ → Symbol
decode s =
    cond (leb s 1) (Constant s)
    (cond (within (letter_base + 1) (letter_base + most_letters) s) (Letter (s - letter_base))
    (cond (within (vertex_base + 1) (vertex_base + most_vertices) s) (Vertex (s - vertex_base)) Unknown))

-- a letter or a vertex: its value depends on the state
abbrev pub is_variable : Symbol → Bool
is_variable (Constant c) = false
is_variable (Letter j) = true
is_variable (Vertex v) = true
is_variable Unknown = false

-- every variable's symbol is below this number
abbrev pub symbol_bound : ℕ
symbol_bound = suc (vertex_base + most_vertices)
