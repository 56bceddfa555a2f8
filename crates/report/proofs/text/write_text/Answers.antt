use Rattle.std.proofs.Common.{rules}
use Rattle.report.specs.Text.{program_text}
use Rattle.report.specs.Writes.{Wrote}
use Rattle.report.proofs.text.write_text.Goals as goal

pub returns : goal.returns
returns c =
    let p = c.put_text.new.self in
    let W : Wrote c.args.buf.now 0 (program_text c.args.input.now) p.buf.now p.used = c.put_text.ensures.wrote in
    search (rules, W)
