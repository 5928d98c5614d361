-- Computed examples: document 01's worked net, the same net as another draughtsman enters it, and the order that each number of an edge decides.
use native.Mathlib.Omega.{arith}
use mathlib.Core.Path.{◌≡◌, refl, sym, ◌∙◌}
use mathlib.Core.List.{List, [], ◌∷◌, ◌++◌}
use lib.ListN.{replicate}
use Rattle.ternary.specs.Lists.{Bytes}
use Rattle.net.specs.declared.Edge.{Edge}
use Rattle.net.specs.declared.Net.{Net}
use Rattle.net.proofs.Concrete.{vertex, edge, net}
use Rattle.sheet.specs.Limits.{field_width}
use Rattle.sheet.specs.Rows.{answer, by_rows}
use Rattle.sheet.specs.Record.{empty_net}
use Rattle.sheet.specs.Text.{text}
use Rattle.sheet.proofs.Sheets.{open_all, worked_sheet, worked_net}
use Rattle.writer.specs.SameNet.{edges_of, SameNet}
use Rattle.writer.specs.Sorting.{insert, sort, up_to}
use Rattle.writer.specs.Agreed.{edge_up_to, low_first, ordered_edges, canonical, canonical_in, canonical_sheet}
use Rattle.writer.specs.Write.{writing, writing_rows, writing_by, writing_of, own_writing_of}
use Rattle.writer.proofs.AgreedLaws.{sheets_equal}

-- opens every definition of the agreed order and of the calls
unfoldable open_writer : Unit {0}
unfolding open_all worked_net edges_of insert sort up_to edge_up_to low_first ordered_edges canonical canonical_in writing_rows writing_by by_rows
open_writer = tt

-- the worked net in the agreed order: its last edge was drawn from 4 to 1
agreed_sheet : Bytes
agreed_sheet =
    text
    ("   1   4   4   1   1\n"
    ∷ "   2   1   0   0   0\n"
    ∷ "   2   2   0   1   0\n"
    ∷ "   2   3   2   0   0\n"
    ∷ "   2   4   1   0   0\n"
    ∷ "   3   1   4   0 103\n"
    ∷ "   3   2   3   1  11\n"
    ∷ "   3   2   3   1 103\n"
    ∷ "   3   3   4   0  11\n"
    ∷ [])

worked-agreed : canonical_sheet worked_net ≡ agreed_sheet
unfolding open_writer agreed_sheet
worked-agreed = refl

-- the same edges in another order, three of them turned
redrawn_net : Net
redrawn_net =
    net (vertex 0 0 ∷ vertex 0 1 ∷ vertex 2 0 ∷ vertex 1 0 ∷ [])
    (edge 3 2 1 103 ∷ edge 4 3 0 11 ∷ edge 1 4 0 103 ∷ edge 3 2 1 11 ∷ [])
    1

redrawn_agreed : canonical_sheet redrawn_net ≡ agreed_sheet
unfolding open_writer redrawn_net agreed_sheet
redrawn_agreed = refl

redrawn_same : SameNet redrawn_net worked_net
unfolding open_writer redrawn_net
redrawn_same = (sheets_equal field_width (omega arith) redrawn_net worked_net refl refl).0 (redrawn_agreed ∙ sym worked-agreed)

-- ---- which number decides, whatever those after it

ordered : List Edge → List Edge
ordered es = ordered_edges (net [] es 0)

low_end_first : ordered (edge 2 3 0 0 ∷ edge 4 1 3 18 ∷ []) ≡ edge 1 4 3 18 ∷ edge 2 3 0 0 ∷ []
unfolding open_writer ordered
low_end_first = refl

then_high_end : ordered (edge 1 4 0 0 ∷ edge 3 1 3 18 ∷ []) ≡ edge 1 3 3 18 ∷ edge 1 4 0 0 ∷ []
unfolding open_writer ordered
then_high_end = refl

then_form : ordered (edge 1 3 1 0 ∷ edge 3 1 0 18 ∷ []) ≡ edge 1 3 0 18 ∷ edge 1 3 1 0 ∷ []
unfolding open_writer ordered
then_form = refl

then_symbol : ordered (edge 1 3 1 18 ∷ edge 3 1 1 11 ∷ []) ≡ edge 1 3 1 11 ∷ edge 1 3 1 18 ∷ []
unfolding open_writer ordered
then_symbol = refl

-- equal edges stay as many as they are
equal_edges : ordered (edge 3 1 0 11 ∷ edge 2 3 1 11 ∷ edge 1 3 0 11 ∷ []) ≡ edge 1 3 0 11 ∷ edge 1 3 0 11 ∷ edge 2 3 1 11 ∷ []
unfolding open_writer ordered
equal_edges = refl

-- ---- the calls: no record comes before a short buffer; a byte too few, just enough, and a byte more, which stays

no_record : writing_of empty_net [] ≡ writing (answer 41 0) 0 []
unfolding open_writer
no_record = refl

one_short : writing_of worked_net (replicate 188 7) ≡ writing (answer 51 0) 0 (replicate 188 7)
unfolding open_writer
one_short = refl

just_enough : writing_of worked_net (replicate 189 7) ≡ writing (answer 0 0) 189 agreed_sheet
unfolding open_writer agreed_sheet
just_enough = refl

one_more_lem : writing_of worked_net (replicate 190 7) ≡ writing (answer 0 0) 189 (agreed_sheet ++ 7 ∷ [])
unfolding open_writer agreed_sheet
one_more_lem = refl

own_order : own_writing_of worked_net (replicate 189 7) ≡ writing (answer 0 0) 189 worked_sheet
unfolding open_writer
own_order = refl
