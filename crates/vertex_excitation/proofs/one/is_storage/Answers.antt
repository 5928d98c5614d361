-- `vertex_excitation::one::is_storage` meets its contract. Assumes nothing.
use native.Mathlib.Omega.{arith}
use mathlib.Core.Path.{sym}
use Rattle.net.proofs.TableLaws.{no_storage_above, storage_test}
use Rattle.vertex_excitation.proofs.one.is_storage.Goals as goal

pub returns-then-vertex-gt-MOST_VERTICES : goal.returns-then-vertex-gt-MOST_VERTICES
returns-then-vertex-gt-MOST_VERTICES c = sym (no_storage_above _ _ (omega (arith, c.requires, c.if-vertex-gt-MOST_VERTICES.true)))

pub returns : goal.returns
returns c = storage_test _ _ c.storage_flags-storage.ensures _ (omega arith)
