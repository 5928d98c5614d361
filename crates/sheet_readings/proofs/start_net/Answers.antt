-- All places are zero.
use mathlib.Core.Path.{◌≡◌}
use borrow.Author.Rules.{rules}
use Rattle.net.specs.Graph.{no_vertex, no_edge}
use Rattle.sheet.specs.Record.{start_net}
use Rattle.sheet_readings.proofs.start_net.Goals as goal

pub returns : goal.returns
unfolding start_net
returns c =
    let v : c.default.result ≡ no_vertex = search rules in
    let e : c.default-2.result ≡ no_edge = search rules in
    rw (v, e)
