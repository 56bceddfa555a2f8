use mathlib.Core.Path.{◌≡◌, sym, ◌∙◌}
use Rattle.deck.specs.Parts.{part_word}
use Rattle.deck.specs.Trailer.{part_count}
use Rattle.deck.specs.Rows.{row_shape}
use Rattle.deck.proofs.parts.Parts.role_shape.Goals as goal
use Rattle.deck.proofs.parts.Parts.role_shape.Goals.{After-row_shape}

first : (c : After-row_shape) → let a = c.args in
    c.row_shape.result ≡ row_shape a.self.now.bytes.now (part_word a.self.now.bytes.now 1 a.k 0) (part_word a.self.now.bytes.now 1 a.k 1) (part_count a.self.now.bytes.now 1)
first c =
    rw (c.part_word.ensures, c.part_word-2.ensures, c.count.ensures) at c.row_shape.ensures

pub returns-then-not-row_shape : goal.returns-then-not-row_shape
returns-then-not-row_shape c =
    simp (sym (first (goal.at.returns-then-not-row_shape c).After-row_shape) ∙ c.if-not-row_shape.true)

pub returns : goal.returns
returns c =
    simp (sym (first (goal.at.returns c).After-row_shape) ∙ c.if-not-row_shape.false)
    (rw (c.part_word-3.ensures, c.part_word-4.ensures, c.count-2.ensures) at c.row_shape-2.ensures)
