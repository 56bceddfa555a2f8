use Rattle.deck.specs.Content.{deck_of}
use mathlib.Core.Path.{sym, ◌∙◌}
use Rattle.deck.proofs.SoundLaws.{sound}
use Rattle.atoms.proofs.TargetLaws.{none-injected, unsatisfiable-injected, satisfiable-injected, injected-below}
use Rattle.atoms.proofs.target_label.injected_target.Goals as goal

pub returns-in_default : goal.returns-in_default
returns-in_default c =
    none-injected (deck_of c.args.deck.now.bytes.now) _ _ c.in_default.is

pub is_unsatisfiable-requires : goal.is_unsatisfiable-requires
is_unsatisfiable-requires c =
    record { class_bound = injected-below (deck_of c.args.deck.now.bytes.now) 0 _ _ c.in-Some.is (sound _ c.args.deck.now.accepted) c.requires.real_class }

pub returns-then-is_unsatisfiable : goal.returns-then-is_unsatisfiable
returns-then-is_unsatisfiable c =
    unsatisfiable-injected (deck_of c.args.deck.now.bytes.now) _ _ _ c.in-Some.is (sym c.is_unsatisfiable.ensures ∙ c.if-is_unsatisfiable.true)

pub returns : goal.returns
returns c =
    satisfiable-injected (deck_of c.args.deck.now.bytes.now) _ _ _ c.in-Some.is (sym c.is_unsatisfiable.ensures ∙ c.if-is_unsatisfiable.false)
