use borrow.Enum.Refused.{opened}
use mathlib.Core.Path.{refl}
use mathlib.Core.List.{flat_map}
use Rattle.atoms.specs.Label.{insert_all}
use Rattle.atoms.specs.Floor.{atom_rows}
use Rattle.atoms.proofs.FloorLaws.{rows-atomic}
use Rattle.atoms.proofs.LeafLaws.{leaf-atomless}
use Rattle.atoms.proofs.floor.join_leaf.Goals as goal

pub returns-in-Atomic : goal.returns-in-Atomic
returns-in-Atomic c =
    rw (rows-atomic _ c.args.deck.now.accepted c.args.concept.0 c.concept_at-expr.ensures _ c.in-Atomic.is) at c.insert_satisfiable.ensures

pub returns-in_default : goal.returns-in_default
unfolding atom_rows flat_map insert_all
returns-in_default c =
    let e = leaf-atomless _ c.args.deck.now.accepted c.args.concept.0 c.concept_at-expr.ensures (opened c.in_default.in_default-own.keys2) c.requires.leaf in rw (← e) refl
