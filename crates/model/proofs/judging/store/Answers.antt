use mathlib.Core.Path.{sym, ◌∙◌}
use native.Mathlib.Omega.{arith}
use Rattle.std.proofs.lemmas.Slice.{put_mid-paste}
use Rattle.eval.specs.Verdict.{words_of}
use Rattle.model.proofs.JudgingLaws.{length-words, paste-sets}
use Rattle.model.proofs.judging.store.Goals as goal

pub returns : goal.returns
returns c =
    let a = c.args in
    let n = length-words a.verdict in
    put_mid-paste a.at _ a.verdicts.now _ (words_of a.verdict) 4 (c.copy_from_slice.ensures.after ∙ c.from.ensures) (omega arith) (sym n) ∙ paste-sets a.verdicts.now (words_of a.verdict) a.at 4 n c.requires
