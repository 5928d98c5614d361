-- `vertex_rows::fill_from` meets its contract: what the four tables of connections give. Assumes nothing.
use mathlib.Core.Path.{◌∙◌}
use Rattle.excitations.proofs.LaneTables.{excitations_of}
use Rattle.vertex_rows.proofs.fill_from.Goals as goal

pub returns : goal.returns
returns c =
    c.combine.ensures
    ∙ excitations_of _ _ _ _ _ c.connected_lanes-3.ensures c.connected_lanes.ensures c.connected_lanes-4.ensures c.connected_lanes-2.ensures
