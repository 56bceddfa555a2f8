use mathlib.Core.Path.{◌≡◌}
use mathlib.Core.List.{map}
use lib.ListN.{drop}
use Rattle.eval.specs.Edges.{edges_of, is_edge, edge_in}
use Rattle.eval.specs.Lists.{any}
use Rattle.build.proofs.push.is_known.Given as goal

abbrev pub invariant-loop-i : goal.invariant-loop-i
invariant-loop-i l = edge_in (edges_of l.edges l.count) l.e.role.0 l.e.from.0 l.e.to.0 ≡ any (map (is_edge l.e.role.0 l.e.from.0 l.e.to.0) (drop l.i (edges_of l.edges l.count)))
