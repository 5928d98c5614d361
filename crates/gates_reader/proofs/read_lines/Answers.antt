-- To read what is left, with the gates so far in the record, gives the whole answer.
use Prim.Native.Nat.{◌+◌, ◌*◌}
use native.Mathlib.Omega.{arith}
use mathlib.Core.Path.{◌≡◌, sym, ◌∙◌}
use Rattle.std.specs.Prelude.{Some}
use Rattle.sheet.specs.Line.{read_line, line_answer}
use Rattle.sheet.proofs.ReaderSteps.{lent}
use Rattle.sheet.proofs.WholeLines.{line_after}
use Rattle.gates.specs.Limits.{gate_columns, gate_line_bytes}
use Rattle.gates.specs.Building.{decode_gate}
use Rattle.gates.proofs.GateRowLaws.{few_gates}
use Rattle.gates.proofs.LoopSteps.{loop_starts, next-line, few_lines, vertex_room, edge_room, refuses_12, refuses_52, takes_gate, loop_checked, loop_ends}
use Rattle.gates_reader.proofs.read_lines.Goals as goal
use Rattle.gates_reader.proofs.read_lines.Goals.{In-Some, In-Some-decode_gate}

-- the line is five fields, and what it is decoded to where it is allowed
five : (c : In-Some) →
    line_answer (read_line gate_columns (lent gate_line_bytes c.args.sheet.now (gate_line_bytes * (1 + c.loop-g.g)))) ≡ Some c.in-Some.line
five c = sym c.read_line.ensures ∙ c.in-Some.is

gate-is : (c : In-Some-decode_gate) → let a = c.args in
    decode_gate a.gates a.letters c.loop-g.g c.in-Some.line ≡ Some c.in-Some-decode_gate.gate
gate-is c = sym c.decode_gate.ensures ∙ c.in-Some-decode_gate.is

pub outputs-net-requires : goal.outputs-net-requires
outputs-net-requires c = let p = c.requires in rw p.1 (few_gates _ p.0)

pub loop-g-init : goal.loop-g-init
loop-g-init c = let p = c.requires in loop_starts _ _ _ _ p.0 p.1 p.2 c.outputs-net.ensures

pub overflow_mul-at : goal.overflow_mul-at
overflow_mul-at c = omega (arith, few_lines _ c.loop-g.invariant, c.loop-g-test.true)

pub overflow_add-end : goal.overflow_add-end
overflow_add-end c = let inv = c.loop-g.invariant in omega (arith, next-line _ inv c.loop-g-test.true)

pub slice_bounds-read_line-end : goal.slice_bounds-read_line-end
slice_bounds-read_line-end c = next-line _ c.loop-g.invariant c.loop-g-test.true

pub overflow_add-g : goal.overflow_add-g
overflow_add-g c = omega (arith, few_lines _ c.loop-g.invariant, c.loop-g-test.true)

pub overflow_cast-g : goal.overflow_cast-g
overflow_cast-g c = omega (arith, few_lines _ c.loop-g.invariant, c.loop-g-test.true)

pub returns-in_default : goal.returns-in_default
returns-in_default c =
    c.refusal.ensures ∙ refuses_12 _ c.loop-g.invariant c.loop-g-test.true (sym c.read_line.ensures ∙ c.in_default.is)

pub overflow_add-g-in_default-decode_gate : goal.overflow_add-g-in_default-decode_gate
overflow_add-g-in_default-decode_gate c = omega (arith, few_lines _ c.loop-g.invariant, c.loop-g-test.true)

pub overflow_cast-g-in_default-decode_gate : goal.overflow_cast-g-in_default-decode_gate
overflow_cast-g-in_default-decode_gate c = omega (arith, few_lines _ c.loop-g.invariant, c.loop-g-test.true)

pub returns-in_default-decode_gate : goal.returns-in_default-decode_gate
returns-in_default-decode_gate c =
    c.refusal-in_default-decode_gate.ensures
    ∙ refuses_52 _ c.loop-g.invariant c.loop-g-test.true _ (five (goal.at.returns-in_default-decode_gate c).In-Some) (sym c.decode_gate.ensures ∙ c.in_default-decode_gate.is)

pub overflow_add-output : goal.overflow_add-output
overflow_add-output c = omega (arith, few_lines _ c.loop-g.invariant, c.loop-g-test.true)

pub overflow_cast-output-in-loop-g : goal.overflow_cast-output-in-loop-g
overflow_cast-output-in-loop-g c = omega (arith, few_lines _ c.loop-g.invariant, c.loop-g-test.true)

pub add_gate-net-requires : goal.add_gate-net-requires
add_gate-net-requires c =
    (vertex_room _ c.loop-g.invariant c.loop-g-test.true, edge_room _ c.loop-g.invariant c.loop-g-test.true)

pub loop-g-preserved : goal.loop-g-preserved
loop-g-preserved c =
    rw (c.add_gate-net.ensures, ← line_after gate_line_bytes c.loop-g.g) (takes_gate _ c.loop-g.invariant c.loop-g-test.true _ (five (goal.at.loop-g-preserved c).In-Some) _ (gate-is (goal.at.loop-g-preserved c).In-Some-decode_gate))

pub concluded-requires : goal.concluded-requires
concluded-requires c = loop_checked _ c.loop-g.invariant c.loop-g-test.false

pub returns : goal.returns
returns c = c.concluded.ensures ∙ loop_ends _ c.loop-g.invariant c.loop-g-test.false
