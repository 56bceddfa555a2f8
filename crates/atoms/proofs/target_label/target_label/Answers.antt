use mathlib.Core.Path.{sym, ap, subst, ◌∙◌}
use Rattle.deck.specs.Content.{deck_of}
use Rattle.deck.proofs.SoundLaws.{sound}
use Rattle.atoms.specs.Target.{by_injected, TargetFits}
use Rattle.atoms.proofs.TargetLaws.{injected-fits, target_row, target-else}
use Rattle.atoms.proofs.target_label.target_label.Goals as goal

pub returns-then-holds_range : goal.returns-then-holds_range
returns-then-holds_range c =
    record { value = target_row _ _ _ (sym c.holds_range.ensures ∙ c.if-holds_range.true); target_fits = c.requires.y_bound }

pub returns : goal.returns
returns c =
    let D = deck_of c.args.deck.now.bytes.now in
    let y = c.args.y.0 in
    let q = c.injected_class.ensures in
    let e = c.injected_target.ensures in record { value = e ∙ ap (by_injected D y) q.is ∙ target-else D y _ (sym c.holds_range.ensures ∙ c.if-holds_range.false); target_fits = subst (TargetFits D) (sym e) (injected-fits D y (sound _ c.args.deck.now.accepted) c.requires.y_bound c.injected_class.result q.fits) }
