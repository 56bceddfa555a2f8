use mathlib.Core.Path.{ap, ◌∙◌}
use Rattle.deck.specs.Content.{deck_of}
use Rattle.deck.specs.Deck.{role_of}
use Rattle.deck.proofs.SoundLaws.{sound}
use Rattle.eval.specs.Demand.{blame}
use Rattle.eval.specs.declared.verdict.Verdict.TheVariants.{Fails}
use Rattle.eval.specs.InLent.{structure}
use Rattle.eval.proofs.PairLaws.{pairs-fail, pairs-pass, steady}
use Rattle.eval.proofs.lent.Judging.check_pairs.Goals as goal

pub returns-in-Some-clause-is : goal.returns-in-Some-clause-is
returns-in-Some-clause-is c =
    ap Fails c.blame_at.ensures ∙ pairs-fail _ _ _ _ c.args.self.now.lent.fits (role_of c.args.role.0) _ (blame c.args.demand) c.lowest_failing-lowest.ensures.is _ c.in-Some.is

pub returns-in-None-clause-is : goal.returns-in-None-clause-is
returns-in-None-clause-is c =
    let s = c.args.self.now.lent.deck.bytes.now in
    c.unresolved_or_holds.ensures ∙ pairs-pass _ _ _ _ c.args.self.now.lent.fits (role_of c.args.role.0) _ (blame c.args.demand) c.lowest_failing-lowest.ensures.is _
    (steady (deck_of s) (sound s c.args.self.now.lent.fits.accepted) (structure c.args.self.now.lent) c.args.demand) c.in-None.is
