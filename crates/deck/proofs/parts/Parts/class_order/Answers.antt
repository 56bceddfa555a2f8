use mathlib.Core.Path.{◌≡◌, sym, ◌∙◌}
use native.Mathlib.Omega.{arith}
use Prim.Native.Nat.{◌+◌, ◌≤◌}
use borrow.Author.Tests.{eq-eqb, ne_eqb}
use Rattle.deck.specs.Trailer.{part_count}
use Rattle.deck.specs.Rows.{row_rises}
use Rattle.deck.specs.Parts.{part_word}
use Rattle.deck.proofs.RowLaws.{class-row-within}
use Rattle.deck.proofs.parts.Parts.class_order.Goals as goal
use Rattle.deck.proofs.parts.Parts.class_order.Goals.{After-part_word-count, After-row_rises}

-- the row lies within lists
within : (c : After-part_word-count) → c.part_word-start.result + c.part_word-count.result ≤ part_count c.args.self.now.bytes.now 6
within c =
    omega (arith, class-row-within c.args.self.now.bytes.now c.args.k c.requires.k_value)

rises : (c : After-row_rises) → let a = c.args in
    c.row_rises.result ≡ row_rises a.self.now.bytes.now (part_word a.self.now.bytes.now 0 a.k 1) (part_word a.self.now.bytes.now 0 a.k 2)
rises c = rw (c.part_word-start.ensures, c.part_word-count.ensures) at c.row_rises.ensures

pub row_rises-requires : goal.row_rises-requires
row_rises-requires c =
    within (goal.at.row_rises-requires c).After-part_word-count

pub returns-then-not-row_rises : goal.returns-then-not-row_rises
returns-then-not-row_rises c =
    simp (sym (rises (goal.at.returns-then-not-row_rises c).After-row_rises) ∙ c.if-not-row_rises.true)

pub returns-then-part_word-eq1 : goal.returns-then-part_word-eq1
returns-then-part_word-eq1 c =
    let a = c.args in
    simp (sym (rises (goal.at.returns-then-part_word-eq1 c).After-row_rises) ∙ c.if-not-row_rises.false, eq-eqb (part_word a.self.now.bytes.now 0 a.k 0) 1 (omega arith))

pub find-requires : goal.find-requires
find-requires c =
    record { count_bound = within (goal.at.find-requires c).After-part_word-count; count_value = sym c.row_rises.ensures ∙ c.if-not-row_rises.false }

pub returns : goal.returns
returns c =
    let a = c.args in
    simp (sym (rises (goal.at.returns c).After-row_rises) ∙ c.if-not-row_rises.false, ne_eqb (part_word a.self.now.bytes.now 0 a.k 0) 1 (λ e. c.if-part_word-eq1.false (omega arith)))
    (rw (c.part_word-start.ensures, c.part_word-count.ensures) at c.find.ensures)
