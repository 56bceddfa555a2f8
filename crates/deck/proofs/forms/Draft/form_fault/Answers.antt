use mathlib.Core.Path.{ap, sym, ◌∙◌}
use Prim.Native.Nat.{ℕ, ◌+◌}
use Rattle.std.specs.Prelude.{Err}
use Rattle.deck.specs.declared.refusal.Refusal.TheVariants.{UnknownTag}
use Rattle.deck.specs.Faults.Piece.{Field, Items, NoForm}
use Rattle.deck.proofs.FaultLaws.{first_one, first_two, first_three}
use Rattle.deck.proofs.AnswerLaws.{refused_on}
use Rattle.deck.proofs.forms.Draft.form_fault.Goals as goal

pub returns-in_err-field_fault-in-Fields : goal.returns-in_err-field_fault-in-Fields
returns-in_err-field_fault-in-Fields c =
    refused_on _ _ _ c.from_residual.ensures.1 (rw c.in-Fields.is (simp (first_three c.args.self.now.parts.bytes.now c.args.p c.args.k (Field c.args.f c.in-Fields.a) (Field (c.args.f + 1) c.in-Fields.b) (Field (c.args.f + 2) c.in-Fields.c), sym c.in_err-field_fault-in-Fields.ensures)))

pub returns-in_err-field_fault-in-Fields-2 : goal.returns-in_err-field_fault-in-Fields-2
returns-in_err-field_fault-in-Fields-2 c =
    refused_on _ _ _ c.from_residual-in_err-field_fault-in-Fields-2.ensures.1 (rw c.in-Fields.is (simp (first_three c.args.self.now.parts.bytes.now c.args.p c.args.k (Field c.args.f c.in-Fields.a) (Field (c.args.f + 1) c.in-Fields.b) (Field (c.args.f + 2) c.in-Fields.c), sym c.in_ok-field_fault-in-Fields.ensures, sym c.in_err-field_fault-in-Fields-2.ensures)))

pub returns-in_ok-field_fault-in-Fields-2 : goal.returns-in_ok-field_fault-in-Fields-2
returns-in_ok-field_fault-in-Fields-2 c =
    rw c.in-Fields.is (simp (first_three c.args.self.now.parts.bytes.now c.args.p c.args.k (Field c.args.f c.in-Fields.a) (Field (c.args.f + 1) c.in-Fields.b) (Field (c.args.f + 2) c.in-Fields.c), sym c.in_ok-field_fault-in-Fields.ensures, sym c.in_ok-field_fault-in-Fields-2.ensures) c.field_fault-in-Fields-2.ensures)

pub returns-in_err-items_fault-in-ListField : goal.returns-in_err-items_fault-in-ListField
returns-in_err-items_fault-in-ListField c =
    refused_on _ _ _ c.from_residual-in_err-items_fault-in-ListField.ensures.1 (rw c.in-ListField.is (simp (first_two c.args.self.now.parts.bytes.now c.args.p c.args.k (Items c.args.f c.in-ListField.e) (Field (c.args.f + 2) c.in-ListField.a), sym c.in_err-items_fault-in-ListField.ensures)))

pub returns-in_ok-items_fault-in-ListField : goal.returns-in_ok-items_fault-in-ListField
returns-in_ok-items_fault-in-ListField c =
    rw c.in-ListField.is (simp (first_two c.args.self.now.parts.bytes.now c.args.p c.args.k (Items c.args.f c.in-ListField.e) (Field (c.args.f + 2) c.in-ListField.a), sym c.in_ok-items_fault-in-ListField.ensures) c.field_fault-in-ListField.ensures)

pub returns-in_err-field_fault-in-FieldList : goal.returns-in_err-field_fault-in-FieldList
returns-in_err-field_fault-in-FieldList c =
    refused_on _ _ _ c.from_residual-in_err-field_fault-in-FieldList.ensures.1 (rw c.in-FieldList.is (simp (first_two c.args.self.now.parts.bytes.now c.args.p c.args.k (Field c.args.f c.in-FieldList.a) (Items (c.args.f + 1) c.in-FieldList.e), sym c.in_err-field_fault-in-FieldList.ensures)))

pub returns-in_ok-field_fault-in-FieldList : goal.returns-in_ok-field_fault-in-FieldList
returns-in_ok-field_fault-in-FieldList c =
    rw c.in-FieldList.is (simp (first_two c.args.self.now.parts.bytes.now c.args.p c.args.k (Field c.args.f c.in-FieldList.a) (Items (c.args.f + 1) c.in-FieldList.e), sym c.in_ok-field_fault-in-FieldList.ensures) c.items_fault-in-FieldList.ensures)

pub returns-in-Unknown : goal.returns-in-Unknown
returns-in-Unknown c =
    rw c.in-Unknown.is (ap (λ (w : ℕ). Err (UnknownTag (record { 0 = w }))) c.word_index.ensures ∙ sym (first_one _ _ _ NoForm))
