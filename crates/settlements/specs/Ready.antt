-- What the code has at hand of a net that it settles on.
use Rattle.std.specs.Prelude.{ℕ, ◌≡◌, List}
use Rattle.net.specs.declared.Net.{Net}
use Rattle.net.specs.Graph.{key_count}
use Rattle.net.specs.WellFormed.{C1}
use Rattle.excitations.specs.Fit.{Fit}
use Rattle.lookups.specs.TernaryTables.{ternary_tables}
use Rattle.lookups.specs.Additions as lookups

-- a net that is fit and meets C1, its h, its ternary tables and what its signals add
pub record Ready (N : Net) (h : ℕ) (tables additions : List ℕ) : Type 0 where
  pub fit : Fit N
  pub c1 : C1 N
  pub keys : h ≡ key_count N
  pub tabled : tables ≡ ternary_tables N
  pub added : additions ≡ lookups.additions N
