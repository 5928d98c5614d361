-- `Symbol::from` meets its contract: one law for each range of numbers.
use native.Mathlib.Omega.{arith}
use Rattle.net.proofs.Cases.{decode_constant, decode-low, decode_letter, decode_middle, decode-vertex, decode-high}
use Rattle.net.proofs.SymbolFromU16.from.Goals as goal

pub returns-in-0-to-1 : goal.returns-in-0-to-1
returns-in-0-to-1 c = decode_constant _ (omega arith)

pub returns-in-11-to-18 : goal.returns-in-11-to-18
returns-in-11-to-18 c = decode_letter _ (omega arith) (omega arith)

pub returns-in-101-to-196 : goal.returns-in-101-to-196
returns-in-101-to-196 c = decode-vertex _ (omega arith) (omega arith)

pub returns-in_default : goal.returns-in_default
returns-in_default c = decode-low _ (omega arith) (omega arith)

pub returns-in_default-2 : goal.returns-in_default-2
returns-in_default-2 c = decode_middle _ (omega arith) (omega arith)

pub returns-in_default-3 : goal.returns-in_default-3
returns-in_default-3 c = decode-high _ (omega arith)
