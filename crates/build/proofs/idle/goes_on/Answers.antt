use borrow.Enum.Refused.{opened}
use Rattle.build.proofs.IdleLaws.{builds-and, builds-some, builds-other}
use Rattle.build.proofs.idle.goes_on.Goals as goal

pub returns-in-And : goal.returns-in-And
returns-in-And c =
    builds-and _ c.args.deck.now.accepted c.args.concept.0 c.concept_at-expr.ensures _ c.in-And.is

pub returns-in_default : goal.returns-in_default
returns-in_default c =
    builds-other _ c.args.deck.now.accepted c.args.concept.0 c.concept_at-expr.ensures (opened c.in_default.in_default-own.keys3)

pub returns-in-Some : goal.returns-in-Some
returns-in-Some c = builds-some _ c.args.deck.now.accepted c.args.concept.0 c.concept_at-expr.ensures _ _ c.in-Some.is c.is_inverse.ensures
