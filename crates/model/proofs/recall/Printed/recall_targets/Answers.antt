use native.Mathlib.Omega.{arith}
use Rattle.deck.proofs.SoundLaws.{limited}
use Rattle.model.proofs.recall.Printed.recall_targets.Goals as goal

pub overflow_add-from : goal.overflow_add-from
overflow_add-from c =
    let d = c.args.facts.now.deck in
    omega (arith, c.in-Some.ensures.met.0, (limited d.bytes.now d.accepted).classes)
