use Rattle.eval.proofs.LeafLaws.{leaf-is, leaf-inverse}
use Rattle.eval.specs.Judge.{judge_of, truth}
use mathlib.Core.Path.{sym, ap, ◌∙◌}
use Rattle.eval.proofs.lent.Lent.eval_leaf.Goals as goal

pub returns-then-is_inverse : goal.returns-then-is_inverse
returns-then-is_inverse c =
    leaf-inverse _ c.args.self.now.fits.accepted c.args.concept.0 c.concept_at-expr.ensures _ _ c.in-Some.is c.args.self.now.labels.now c.args.self.now.shape c.args.e.0 (sym c.is_inverse.ensures ∙ c.if-is_inverse.true)

pub returns-in-Top : goal.returns-in-Top
unfolding judge_of
returns-in-Top c =
    leaf-is _ c.args.self.now.fits.accepted c.args.concept.0 c.concept_at-expr.ensures c.args.self.now.labels.now c.args.self.now.shape c.args.e.0 _ c.in-Top.is

pub returns-in-Bot : goal.returns-in-Bot
unfolding judge_of
returns-in-Bot c =
    leaf-is _ c.args.self.now.fits.accepted c.args.concept.0 c.concept_at-expr.ensures c.args.self.now.labels.now c.args.self.now.shape c.args.e.0 _ c.in-Bot.is

pub returns-in-Atomic : goal.returns-in-Atomic
unfolding judge_of
returns-in-Atomic c =
    λ rows. c.from.ensures ∙ ap truth (rw (c.class_labels.ensures.0, c.class_labels.ensures.1) at c.has_class.ensures) ∙ leaf-is _ c.args.self.now.fits.accepted c.args.concept.0 c.concept_at-expr.ensures c.args.self.now.labels.now c.args.self.now.shape c.args.e.0 _ c.in-Atomic.is rows

pub returns-in-Nominal : goal.returns-in-Nominal
unfolding judge_of
returns-in-Nominal c =
    leaf-is _ c.args.self.now.fits.accepted c.args.concept.0 c.concept_at-expr.ensures c.args.self.now.labels.now c.args.self.now.shape c.args.e.0 _ c.in-Nominal.is

pub returns-in-SelfRestriction : goal.returns-in-SelfRestriction
unfolding judge_of
returns-in-SelfRestriction c =
    leaf-is _ c.args.self.now.fits.accepted c.args.concept.0 c.concept_at-expr.ensures c.args.self.now.labels.now c.args.self.now.shape c.args.e.0 _ c.in-SelfRestriction.is

pub returns-in-Not : goal.returns-in-Not
unfolding judge_of
returns-in-Not c =
    leaf-is _ c.args.self.now.fits.accepted c.args.concept.0 c.concept_at-expr.ensures c.args.self.now.labels.now c.args.self.now.shape c.args.e.0 _ c.in-Not.is

pub returns-in-Or : goal.returns-in-Or
unfolding judge_of
returns-in-Or c =
    leaf-is _ c.args.self.now.fits.accepted c.args.concept.0 c.concept_at-expr.ensures c.args.self.now.labels.now c.args.self.now.shape c.args.e.0 _ c.in-Or.is

pub returns-in-All : goal.returns-in-All
unfolding judge_of
returns-in-All c =
    leaf-is _ c.args.self.now.fits.accepted c.args.concept.0 c.concept_at-expr.ensures c.args.self.now.labels.now c.args.self.now.shape c.args.e.0 _ c.in-All.is

pub returns-in-Min : goal.returns-in-Min
unfolding judge_of
returns-in-Min c =
    leaf-is _ c.args.self.now.fits.accepted c.args.concept.0 c.concept_at-expr.ensures c.args.self.now.labels.now c.args.self.now.shape c.args.e.0 _ c.in-Min.is

pub returns-in-Max : goal.returns-in-Max
unfolding judge_of
returns-in-Max c =
    leaf-is _ c.args.self.now.fits.accepted c.args.concept.0 c.concept_at-expr.ensures c.args.self.now.labels.now c.args.self.now.shape c.args.e.0 _ c.in-Max.is
