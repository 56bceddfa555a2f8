use mathlib.Core.Path.{refl}
use native.Mathlib.Omega.{arith}
use Rattle.deck.proofs.AnswerLaws.{handed_on}
use Rattle.eval.proofs.EntryLaws.{axiom-refused, axiom-absent, axiom-checked}
use Rattle.eval.proofs.entry.check_axiom_in.Goals as goal

pub returns-in_err-lent-clause-is : goal.returns-in_err-lent-clause-is
returns-in_err-lent-clause-is c =
    let p = axiom-refused _ _ _ _ _ _ (c.in_err-lent.ensures.refused _ refl) in rw (handed_on _ _ c.from_residual.ensures.1) p.0

pub returns-then-axiom-axiom_count-clause-is : goal.returns-then-axiom-axiom_count-clause-is
returns-then-axiom-axiom_count-clause-is c =
    let W = c.in_ok-lent.ensures.read in
    let n = rw W.deck at c.axiom_count.ensures.is in
    let p = axiom-absent _ _ _ _ _ W.answer (omega (arith, n, c.if-axiom-axiom_count.true)) in p.0

pub returns-clause-is : goal.returns-clause-is
returns-clause-is c =
    let W = c.in_ok-lent.ensures.read in
    let n = rw W.deck at c.axiom_count.ensures.is in
    let v = rw (W.deck, W.labels_same, W.edges, W.shape_same) at c.judge_axiom.ensures.is in
    let j = rw (W.deck, W.labels_same, W.edges, W.shape_same) at c.judge_axiom.ensures.justified in
    let p = axiom-checked _ _ _ _ _ _ W.answer (omega (arith, c.if-axiom-axiom_count.false, n)) v j in p.0
