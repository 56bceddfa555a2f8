use mathlib.Core.Bool.{Bool, true, false, not}
use mathlib.Core.Path.{◌≡◌, refl, sym, ap, ◌∙◌}
use Rattle.deck.specs.Content.{deck_of}
use Rattle.deck.proofs.SoundLaws.{sound}
use Rattle.atoms.specs.Antecedent.{has_atom}
use Rattle.atoms.proofs.LeafLaws.{atom-leaves}
use Rattle.atoms.proofs.antecedent.has_atom.Goals as goal

not-not : (b : Bool) → not (not b) ≡ b
not-not true = refl
not-not false = refl

pub returns : goal.returns
returns c =
    ap not (c.answer_soon.ensures ∙ sym (atom-leaves _ (sound _ c.args.deck.now.accepted) c.args.concept.0)) ∙ not-not (has_atom (deck_of c.args.deck.now.bytes.now) c.args.concept.0)
