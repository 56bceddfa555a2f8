-- Laws of writing into a lent buffer. Assumes nothing.
--     wrote_none     nothing is written
--     wrote-more     bytes after bytes
--     wrote-length   the buffer keeps its length
--     puts-none, puts-more, puts-is, room-after   the same of a text in the making
use mathlib.Core.Path.{◌≡◌, refl, sym, ap, ◌∙◌}
use mathlib.Core.List.{List, [], ◌++◌, append_assoc}
use Prim.Native.Nat.{ℕ, ◌+◌, ◌≤◌}
use native.Mathlib.Nat.{add-zero}
use native.Mathlib.Omega.{arith}
use lib.ListN.{length, take, drop, length-append}
use lib.Seq.{paste-zero, length-paste, take-paste, drop-paste, take-length, drop-drop}
use Rattle.report.specs.declared.lines.Page.{Page}
use Rattle.report.specs.Writes.{Wrote, HasRoom, Puts}

pub wrote_none : (was : List ℕ) (at : ℕ) → at ≤ length was → Wrote was at [] was at
wrote_none was at h = record { is = paste-zero was at []; end = sym (add-zero at); fits = omega arith }

pub wrote-length : {was : List ℕ} {at : ℕ} {bytes now : List ℕ} {r : ℕ} → Wrote was at bytes now r → length now ≡ length was
wrote-length {was} {at} {bytes} W = ap length W.is ∙ length-paste was at bytes (length bytes) W.fits (omega arith)

pub wrote-more : {was : List ℕ} {at : ℕ} {a mid : List ℕ} {m : ℕ} {b now : List ℕ} {r : ℕ} → Wrote was at a mid m → Wrote mid m b now r → Wrote was at (a ++ b) now r
wrote-more {was} {at} {a} {mid} {m} {b} {now} {r} A B =
    let l : length (a ++ b) ≡ length a + length b = length-append a b in
    let s : length mid ≡ length was = wrote-length A in
    let t : take m mid ≡ take at was ++ a = rw (A.end, A.is) (take-paste was at a (length a) (omega (arith, A.fits)) (omega arith) ∙ ap (λ (x : List ℕ). take at was ++ x) (take-length a)) in
    let d : drop m mid ≡ drop (at + length a) was = rw (A.end, A.is) (drop-paste was at a (length a) (omega (arith, A.fits)) (omega arith)) in
    let f : at + length a + length b ≡ at + length (a ++ b) = omega arith in
    let e : drop (m + length b) mid ≡ drop (at + length (a ++ b)) was = sym (drop-drop (length b) m mid) ∙ ap (drop (length b)) d ∙ drop-drop (length b) (at + length a) was ∙ ap (λ (k : ℕ). drop k was) f in
    record {
      is =
          B.is
          ∙ ap (λ (x : List ℕ). x ++ take (length b) b ++ drop (m + length b) mid) t
          ∙ ap (λ (x : List ℕ). take at was ++ a ++ x ++ drop (m + length b) mid) (take-length b)
          ∙ ap (λ (x : List ℕ). take at was ++ a ++ b ++ x) e
          ∙ ap (λ (x : List ℕ). x ++ drop (at + length (a ++ b)) was) (append_assoc (take at was) a b)
          ∙ ap (λ (x : List ℕ). take at was ++ x ++ drop (at + length (a ++ b)) was) (sym (take-length (a ++ b)));
      end = omega (arith, A.end, B.end);
      fits = omega (arith, A.end, B.fits);
    }

-- ---- a text in the making
pub puts-none : {p : Page} → p.used ≤ length p.buf.now → Puts p p []
puts-none {p} h = record { same = refl; wrote = wrote_none _ _ h }

pub puts-more : {p q r : Page} {a b : List ℕ} → Puts p q a → Puts q r b → Puts p r (a ++ b)
puts-more A B = record { same = B.same ∙ A.same; wrote = wrote-more A.wrote B.wrote }

pub puts-is : {p q : Page} {a b : List ℕ} → Puts p q a → a ≡ b → Puts p q b
puts-is A e = rw e at A

-- after at most k bytes there is room for k fewer
pub room-after : {p q : Page} {a : List ℕ} (k n : ℕ) → HasRoom p (k + n) → Puts p q a → length a ≤ k → HasRoom q n
room-after k n h A l = omega (arith, h, l, A.wrote.end, wrote-length A.wrote)
