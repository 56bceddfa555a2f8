use native.Mathlib.Omega.{arith}
use Rattle.report.proofs.LengthLaws.{summary-most}
use Rattle.report.proofs.WriteLaws.{puts-more, room-after}
use Rattle.report.proofs.lines.Page.put_answer.Goals as goal

pub invariant_of-deck : goal.invariant_of-deck
invariant_of-deck c = record { accepted = (c.requires.accepted _ _ c.in-Ok.is).0 }

pub put_axioms-requires : goal.put_axioms-requires
put_axioms-requires c =
    let n = (c.requires.accepted _ _ c.in-Ok.is).1 in
    record {
      words = omega (arith, n, c.axiom_count.ensures.is);
      room = omega (arith, n, c.requires.verdicts_len_bound, c.axiom_count.ensures.is, room-after 64 204800 c.requires.room c.put_summary.ensures (summary-most _ _));
    }

pub returns-in-Err : goal.returns-in-Err
returns-in-Err c = rw (c.in-Err.is, ← c.number.ensures) c.put_refusal.ensures

pub returns-in-Ok : goal.returns-in-Ok
returns-in-Ok c = rw (c.in-Ok.is, ← c.axiom_count.ensures.is) (puts-more c.put_summary.ensures c.put_axioms.ensures)
