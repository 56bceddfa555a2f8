use mathlib.Core.Path.{◌≡◌, sym, ◌∙◌}
use native.Mathlib.Omega.{arith}
use Rattle.deck.specs.Parts.{part_word}
use Prim.Native.Nat.{◌+◌, ◌≤◌}
use Rattle.deck.specs.Trailer.{part_count}
use Rattle.deck.specs.Rows.{row_rises}
use Rattle.deck.proofs.RowLaws.{role-row-within, role-range-within}
use Rattle.deck.proofs.parts.Parts.role_order.Goals as goal
use Rattle.deck.proofs.parts.Parts.role_order.Goals.{After-part_word-count, After-row_rises, After-row_rises-2}

within : (c : After-part_word-count) → c.part_word-start.result + c.part_word-count.result ≤ part_count c.args.self.now.bytes.now 6
within c =
    omega (arith, role-row-within c.args.self.now.bytes.now c.args.k c.requires.k_value)

rises : (c : After-row_rises) → let a = c.args in
    c.row_rises.result ≡ row_rises a.self.now.bytes.now (part_word a.self.now.bytes.now 1 a.k 0) (part_word a.self.now.bytes.now 1 a.k 1)
rises c = rw (c.part_word-start.ensures, c.part_word-count.ensures) at c.row_rises.ensures

rises2 : (c : After-row_rises-2) → let a = c.args in
    c.row_rises-2.result ≡ row_rises a.self.now.bytes.now (part_word a.self.now.bytes.now 1 a.k 2) (part_word a.self.now.bytes.now 1 a.k 3)
rises2 c = rw (c.part_word.ensures, c.part_word-2.ensures) at c.row_rises-2.ensures

pub row_rises-requires : goal.row_rises-requires
row_rises-requires c =
    within (goal.at.row_rises-requires c).After-part_word-count

pub returns-then-not-row_rises : goal.returns-then-not-row_rises
returns-then-not-row_rises c =
    simp (sym (rises (goal.at.returns-then-not-row_rises c).After-row_rises) ∙ c.if-not-row_rises.true)

pub row_rises-requires-2 : goal.row_rises-requires-2
row_rises-requires-2 c =
    omega (arith, role-range-within c.args.self.now.bytes.now c.args.k c.requires.k_value)

pub returns-then-not-row_rises-2 : goal.returns-then-not-row_rises-2
returns-then-not-row_rises-2 c =
    simp (sym (rises (goal.at.returns-then-not-row_rises-2 c).After-row_rises) ∙ c.if-not-row_rises.false, sym (rises2 (goal.at.returns-then-not-row_rises-2 c).After-row_rises-2) ∙ c.if-not-row_rises-2.true)

pub find-requires : goal.find-requires
find-requires c =
    record { count_bound = within (goal.at.find-requires c).After-part_word-count; count_value = sym c.row_rises.ensures ∙ c.if-not-row_rises.false }

pub returns : goal.returns
returns c =
    simp (sym (rises (goal.at.returns c).After-row_rises) ∙ c.if-not-row_rises.false, sym (rises2 (goal.at.returns c).After-row_rises-2) ∙ c.if-not-row_rises-2.false)
    (rw (c.part_word-start.ensures, c.part_word-count.ensures) at c.find.ensures)
