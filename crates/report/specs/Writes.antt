-- What writing leaves in a lent buffer, and in a text in the making.
use Rattle.std.specs.Prelude.{ℕ, ◌+◌, ◌≤◌, ◌≡◌, List, length}
use Rattle.std.proofs.Math.Seq.{paste}
use Rattle.report.specs.declared.lines.Page.{Page}

-- some bytes are written at a place: all others are as they were, and `next` is the place after them
pub record Wrote (was : List ℕ) (at : ℕ) (bytes now : List ℕ) (next : ℕ) : Type 0 where
  pub is : now ≡ paste was at bytes (length bytes)
  pub end : next ≡ at + length bytes
  pub fits : at + length bytes ≤ length was

-- the buffer has room for n bytes more
abbrev pub HasRoom : Page → ℕ → Type 0
HasRoom p n = p.used + n ≤ length p.buf.now

-- some bytes more stand in the buffer, which is the same one
pub record Puts (p p' : Page) (bytes : List ℕ) : Type 0 where
  pub same : p'.buf.ghost_name ≡ p.buf.ghost_name
  pub wrote : Wrote p.buf.now p.used bytes p'.buf.now p'.used
