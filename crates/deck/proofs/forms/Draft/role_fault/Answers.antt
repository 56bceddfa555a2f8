use mathlib.Core.Path.{sym}
use native.Mathlib.Omega.{arith}
use Rattle.deck.proofs.FaultLaws.{first_two, walk}
use Rattle.deck.proofs.AnswerLaws.{refused_on}
use Rattle.deck.specs.Faults.Piece.{Items}
use Rattle.deck.specs.declared.forms.Kind.TheVariants.{Role, Class}
use Rattle.deck.proofs.forms.Draft.role_fault.Goals as goal

pub returns-in_err-items_fault : goal.returns-in_err-items_fault
returns-in_err-items_fault c =
    refused_on _ _ _ c.from_residual.ensures.1 (simp (walk c.args.self.now.parts.bytes.now c.args.k 1 (omega arith), first_two c.args.self.now.parts.bytes.now 1 c.args.k (Items 0 Role) (Items 2 Class), sym c.in_err-items_fault.ensures))

pub returns : goal.returns
returns c = simp (walk c.args.self.now.parts.bytes.now c.args.k 1 (omega arith), first_two c.args.self.now.parts.bytes.now 1 c.args.k (Items 0 Role) (Items 2 Class), sym c.in_ok-items_fault.ensures) c.items_fault-2.ensures
