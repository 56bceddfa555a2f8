use native.Mathlib.Omega.{arith}
use borrow.Author.Tests.{lt-ltb, le-ltb, eq-eqb, ne_eqb}
use Rattle.deck.specs.Parts.{part_word}
use Prim.Native.Nat.{◌-◌}
use Rattle.deck.proofs.parts.Parts.injected_order.Goals as goal

pub returns-then-k-eq0 : goal.returns-then-k-eq0
returns-then-k-eq0 c =
    simp (eq-eqb c.args.k 0 c.if-k-eq0.true)

pub returns-then-before-class : goal.returns-then-before-class
returns-then-before-class c =
    let a = c.args in
    let s = a.self.now.bytes.now in
    simp (ne_eqb a.k 0 c.if-k-eq0.false, lt-ltb (part_word s 2 (a.k - 1) 0) (part_word s 2 a.k 0) (omega arith))

pub returns-then-before-class-2 : goal.returns-then-before-class-2
returns-then-before-class-2 c =
    let a = c.args in
    let s = a.self.now.bytes.now in
    simp (
      ne_eqb a.k 0 c.if-k-eq0.false,
      le-ltb (part_word s 2 (a.k - 1) 0) (part_word s 2 a.k 0) (omega arith),
      ne_eqb (part_word s 2 (a.k - 1) 0) (part_word s 2 a.k 0) (λ e. c.if-before-class-2.true (omega arith)),
    )

pub returns : goal.returns
returns c =
    let a = c.args in
    let s = a.self.now.bytes.now in
    simp (
      ne_eqb a.k 0 c.if-k-eq0.false,
      le-ltb (part_word s 2 (a.k - 1) 0) (part_word s 2 a.k 0) (omega arith),
      eq-eqb (part_word s 2 (a.k - 1) 0) (part_word s 2 a.k 0) (omega arith),
      c.part_word.ensures,
      c.part_word-2.ensures,
    )
