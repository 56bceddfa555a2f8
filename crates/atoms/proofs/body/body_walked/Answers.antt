use borrow.Author.Tests.{not-true, not-false}
use Rattle.atoms.proofs.BodyLaws.{close-none, close-all, close_open}
use Rattle.atoms.proofs.body.body_walked.Goals as goal

pub returns-in_default : goal.returns-in_default
returns-in_default c =
    close-none _ _ _ _ _ c.args.label.now _ c.clear.ensures c.requires.label_len c.join_atoms-j.ensures c.in_default.is c.join_ranges.ensures

pub returns-then-not-j : goal.returns-then-not-j
returns-then-not-j c =
    close-all _ _ _ _ _ c.args.label.now _ c.clear.ensures c.requires.label_len c.join_atoms-j.ensures c.in-Some.is (not-true _ c.if-not-j.true)

pub returns : goal.returns
returns c =
    close_open _ _ _ _ _ c.args.label.now _ c.clear.ensures c.requires.label_len c.join_atoms-j.ensures c.in-Some.is (not-false _ c.if-not-j.false) c.note.ensures.0 c.note.ensures.1
