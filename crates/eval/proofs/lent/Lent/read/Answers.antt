use mathlib.Core.List.{List}
use Prim.Native.Nat.{ℕ}
use mathlib.Core.Path.{refl, sym, ap, ◌∙◌}
use Rattle.deck.proofs.AnswerLaws.{handed_on}
use Rattle.eval.specs.Entry.{lent_answer}
use Rattle.eval.proofs.EntryLaws.{deck-refused, lent-foreign, lent-read, same-refusal}
use Rattle.eval.proofs.ForeignLaws.{fits}
use Rattle.eval.proofs.lent.Lent.read.Goals as goal

pub returns-in_err-deck-clause-refused : goal.returns-in_err-deck-clause-refused
returns-in_err-deck-clause-refused c =
    λ r h. same-refusal (handed_on _ _ c.from_residual.ensures.1) h (deck-refused _ _ _ _ (c.in_err-deck.ensures.refused _ refl))

pub returns-then-not-structure_fits-clause-refused : goal.returns-then-not-structure_fits-clause-refused
returns-then-not-structure_fits-clause-refused c =
    let a = c.args in
    λ r h. same-refusal refl h (ap (λ (s : List ℕ). lent_answer s a.labels.now a.edges.now a.shape) (sym c.in_ok-deck.ensures.read) ∙ lent-foreign _ _ _ _ c.in_ok-deck.deck.accepted (sym c.structure_fits.ensures ∙ c.if-not-structure_fits.true))

pub invariant_of-result : goal.invariant_of-result
invariant_of-result c =
    record { fits = fits _ _ _ _ c.in_ok-deck.deck.accepted (sym c.structure_fits.ensures ∙ c.if-not-structure_fits.false) }

pub returns-clause-read : goal.returns-clause-read
returns-clause-read c =
    let a = c.args in
    record {
      deck = c.in_ok-deck.ensures.read;
      labels_same = refl;
      edges = refl;
      shape_same = refl;
      answer = ap (λ (s : List ℕ). lent_answer s a.labels.now a.edges.now a.shape) (sym c.in_ok-deck.ensures.read) ∙ lent-read _ _ _ _ c.in_ok-deck.deck.accepted (sym c.structure_fits.ensures ∙ c.if-not-structure_fits.false);
    }
