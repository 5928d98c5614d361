-- Which values a line may have (numbers 13, 15 and 16).
use Rattle.std.specs.Prelude.{ℕ, zero, suc, Bool, cond, not, ◌&&◌, ◌||◌, leb, eqb}
use Rattle.net.specs.Limits.{most_vertices, most_edges, most_letters}
use Rattle.net.specs.Symbols.{within, decode, is_variable}
use Rattle.net.specs.Known.{known_symbol, known_label}
use Rattle.net.specs.declared.Vertex.{Vertex}
use Rattle.net.specs.declared.Edge.{Edge}
use Rattle.net.specs.declared.Net.{Net}
use Rattle.sheet.specs.Limits.{edition}
use Rattle.sheet.specs.declared.Line.{Line}
use Rattle.sheet.specs.declared.Form.{Form}
use Rattle.sheet.specs.declared.Form.TheVariants.{Plain, Primed, Unknown}

-- at least one vertex, and no count above its limit
unfoldable pub counts_ok : ℕ → ℕ → ℕ → Bool
counts_ok v e l = within 1 most_vertices v && leb e most_edges && leb l most_letters

-- header: 1, vertices, edges, letters, the edition
unfoldable pub header_ok : Line → Bool
header_ok h = eqb h.kind 1 && eqb h.fifth edition && counts_ok h.second h.third h.fourth

-- role 0, an input vertex: its label is 0, 1 or a letter's symbol; roles 1 and 2, a storage vertex: label 0
unfoldable pub vertex_ok : Net → Vertex → Bool
vertex_ok N x = cond (eqb x.role 0) (known_label N (decode x.label)) (leb x.role 2 && eqb x.label 0)

-- forms 2 and 3 are those of the primed labels
abbrev pub primed : ℕ → Bool
primed form = leb 2 form

-- a form as the code tells it
unfoldable pub form_of : ℕ → Form
form_of zero = Plain
form_of (suc zero) = Plain
form_of (suc (suc zero)) = Primed
form_of (suc (suc (suc zero))) = Primed
form_of (suc (suc (suc (suc f)))) = Unknown

-- the symbol is a constant, a letter of the net or a storage vertex; a primed form has no constant
unfoldable pub symbol_ok : Net → Edge → Bool
symbol_ok N e = known_symbol N (decode e.symbol) && (not (primed e.form) || is_variable (decode e.symbol))

-- two ends from 1 to V that differ, a form from 0 to 3 and a symbol
unfoldable pub edge_ok : Net → Edge → Bool
edge_ok N e =
    within 1 N.vertex_count e.end1
    && within 1 N.vertex_count e.end2
    && not (eqb e.end1 e.end2)
    && leb e.form 3
    && symbol_ok N e
