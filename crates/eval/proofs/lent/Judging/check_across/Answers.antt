use mathlib.Core.Path.{◌≡◌, refl, sym, ◌∙◌}
use borrow.Author.Tests.{eq-eqb, ne_eqb, eqb-false}
use mathlib.Core.Bool.{Bool, true, false}
use Rattle.deck.specs.Deck.{Deck, Role}
use Rattle.eval.specs.Structure.{Structure}
use Rattle.eval.specs.declared.verdict.Verdict.{Verdict}
use Rattle.eval.specs.declared.verdict.Verdict.TheVariants.{Holds}
use Rattle.deck.specs.Deck.{role_of, role_id}
use Rattle.deck.proofs.TagLaws.{role-id}
use Rattle.eval.specs.Verdict.{across, across_by, within}
use Rattle.eval.proofs.lent.Judging.check_across.Goals as goal

turned : {b : Bool} (D : Deck) (S : Structure) (x y : Role) → b ≡ true → across_by b D S x y ≡ across D S y x
turned D S x y e = rw e refl

straight : {b : Bool} (D : Deck) (S : Structure) (x y : Role) → b ≡ false → across_by b D S x y ≡ across D S x y
straight D S x y e = rw e refl

same-role : (b : Bool) (D : Deck) (S : Structure) (x y : Role) → role_id x ≡ role_id y → Holds ≡ across_by b D S x y
same-role true D S x y e = simp (eq-eqb (role_id y) (role_id x) (sym e))
same-role false D S x y e = simp (eq-eqb (role_id x) (role_id y) e)

other-role : (D : Deck) (S : Structure) (x y : Role) → (role_id x ≡ role_id y → ⊥) → {v : Verdict} → v ≡ within D S x y → v ≡ across D S x y
other-role D S x y e p = simp (ne_eqb (role_id x) (role_id y) e) p

pub returns-then-turned-clause-is : goal.returns-then-turned-clause-is
unfolding within
returns-then-turned-clause-is c =
    let z = c.args in
    let a = role-id z.a.0 ∙ sym c.role_id.ensures in
    let b = role-id z.b.0 ∙ sym c.role_id-2.ensures in
    other-role _ _ (role_of z.b.0) (role_of z.a.0) (λ e. eqb-false c.role_id.result.0 c.role_id-2.result.0 (sym c.eq.ensures ∙ c.if-eq.false) (sym a ∙ sym e ∙ b)) c.check_pairs.ensures.is ∙ sym (turned _ _ (role_of z.a.0) (role_of z.b.0) c.if-turned.true)

pub returns-else-turned-clause-is : goal.returns-else-turned-clause-is
unfolding within
returns-else-turned-clause-is c =
    let z = c.args in
    let a = role-id z.a.0 ∙ sym c.role_id.ensures in
    let b = role-id z.b.0 ∙ sym c.role_id-2.ensures in
    other-role _ _ (role_of z.a.0) (role_of z.b.0) (λ e. eqb-false c.role_id.result.0 c.role_id-2.result.0 (sym c.eq.ensures ∙ c.if-eq.false) (sym a ∙ e ∙ b)) c.check_pairs-else-turned.ensures.is ∙ sym (straight _ _ (role_of z.a.0) (role_of z.b.0) c.if-turned.false)
