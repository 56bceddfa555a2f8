use mathlib.Core.Path.{sym, ap, ◌∙◌}
use native.Mathlib.Omega.{arith}
use Rattle.model.specs.Run.{Ran}
use Rattle.model.proofs.RunLaws.{done-passed}
use Rattle.report.specs.Text.{labels_lent, edges_lent, log_lent, verdicts_lent}
use Rattle.report.proofs.TextLaws.{run-text}
use Rattle.report.proofs.lines.Page.put_run.Goals as goal

pub put_answer-requires : goal.put_answer-requires
put_answer-requires c =
    let n = c.run-answer.auto.verdicts in
    let v = c.blank-verdicts.ensures.size in
    record {
      room = c.requires;
      verdicts_len_bound = omega (arith, n, v);
      accepted = λ o t h.
          let P = done-passed _ _ _ _ _ _ _ o t (sym (ap (λ (x : Ran). x.answer) c.run-answer.ensures.is) ∙ h) in
          (P.deck, omega (arith, P.room.words, n));
    }

pub returns : goal.returns
unfolding labels_lent edges_lent log_lent verdicts_lent
returns c =
    rw (run-text _ c.blank-labels.ensures.value c.blank-edges.ensures.value c.blank-log.ensures.value c.blank-verdicts.ensures.value c.run-answer.ensures.is) at c.put_answer.ensures
