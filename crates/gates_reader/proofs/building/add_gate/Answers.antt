-- The edges of each type, as `gate_edges` lists them, behind those of the gates before; a NAND and a NOR have a vertex more. In the answers p is the place where
-- the p edges are made, i the one where the inner vertex is appended.
use Rattle.gates.proofs.BuildLaws.{inverter_added, nand_added, nor_added}
use Rattle.gates_reader.proofs.building.add_gate.Goals as goal

pub returns-in-Inverter : goal.returns-in-Inverter
returns-in-Inverter c =
    rw (c.append_edges.ensures, c.n_edge.ensures, c.p_edge.ensures) (inverter_added _ _ _ _ c.in-Inverter.is)

pub returns-in-Nand : goal.returns-in-Nand
returns-in-Nand c =
    rw (c.append_edges-in-Nand.ensures, c.n_edge-in-Nand-2.ensures, c.n_edge-in-Nand.ensures, c.p_edge-in-Nand-2.ensures, c.p_edge-in-Nand.ensures, c.append_vertex.ensures)
    (nand_added _ _ _ _ _ c.in-Nand.is)

pub returns-in-Nor : goal.returns-in-Nor
returns-in-Nor c =
    rw (c.append_edges-in-Nor.ensures, c.n_edge-in-Nor-2.ensures, c.n_edge-in-Nor.ensures, c.p_edge-in-Nor-2.ensures, c.p_edge-in-Nor.ensures, c.append_vertex-in-Nor.ensures)
    (nor_added _ _ _ _ _ c.in-Nor.is)
