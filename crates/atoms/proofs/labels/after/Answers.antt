use borrow.Author.Tests.{eq-eqb, ne_eqb}
use Rattle.atoms.proofs.labels.after.Goals as goal

pub returns-then-rest-eq0 : goal.returns-then-rest-eq0
returns-then-rest-eq0 c =
    rw (eq-eqb _ _ c.if-rest-eq0.true)

pub returns : goal.returns
returns c =
    rw (ne_eqb _ _ c.if-rest-eq0.false)
