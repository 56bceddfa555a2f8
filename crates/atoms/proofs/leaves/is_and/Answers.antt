use borrow.Enum.Refused.{opened}
use mathlib.Core.Path.{sym}
use Rattle.eval.proofs.Clash.{clash}
use Rattle.atoms.proofs.LeafLaws.{leaves-other, is-leaf-read}
use Rattle.atoms.proofs.leaves.is_and.Goals as goal

pub returns-in-And : goal.returns-in-And
returns-in-And c =
    record { leaf = (λ e. clash (cc)); alone = (λ e. clash (cc)) }

pub returns-in_default : goal.returns-in_default
returns-in_default c =
    let R = c.concept_at-expr.ensures in record { leaf = (λ e. is-leaf-read _ c.args.deck.now.accepted c.args.concept.0 R (opened c.in_default.in_default-own.keys2)); alone = (λ e. sym (leaves-other _ c.args.deck.now.accepted c.args.concept.0 R (opened c.in_default.in_default-own.keys2))) }
