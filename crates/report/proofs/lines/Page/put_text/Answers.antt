use borrow.Author.Tests.{lt-ltb, le-ltb}
use Rattle.report.specs.Text.{program_text}
use Rattle.report.proofs.lines.Page.put_text.Goals as goal

pub returns-then-input-gt65536 : goal.returns-then-input-gt65536
unfolding program_text
returns-then-input-gt65536 c =
    rw (lt-ltb _ _ c.if-input-gt65536.true, ← c.number.ensures) c.put_refusal.ensures

pub returns : goal.returns
unfolding program_text
returns c =
    rw (le-ltb _ _ c.if-input-gt65536.false) c.put_run.ensures
