use mathlib.Core.Path.{ap}
use Rattle.atoms.specs.Label.{insert_all}
use Rattle.deck.proofs.MatchLaws.{at_least}
use Rattle.atoms.proofs.FloorLaws.{floor-sub-class, floor-equivalent, floor-other}
use Rattle.atoms.proofs.floor.join_axiom.Goals as goal

pub returns-in-0 : goal.returns-in-0
returns-in-0 c =
    rw (floor-sub-class _ _ c.axiom_at-record.ensures c.in-0.is) at c.join_sub_class.ensures

pub returns-in-1 : goal.returns-in-1
returns-in-1 c =
    rw (floor-equivalent _ _ c.axiom_at-record.ensures c.in-1.is) at c.join_equivalent.ensures

pub returns-in_default : goal.returns-in_default
unfolding insert_all
returns-in_default c =
    ap (insert_all c.args.label.now) (floor-other _ _ c.axiom_at-record.ensures (at_least c.axiom_at-record.result.tag 2 c.in_default.in_default-own.rest))
