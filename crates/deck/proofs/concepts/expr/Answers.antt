use mathlib.Core.Path.{◌≡◌}
use native.Mathlib.Omega.{arith}
use Rattle.deck.specs.Exprs.{expr_at}
use Rattle.deck.proofs.MatchLaws.{at_least}
use Rattle.deck.proofs.concepts.expr.Goals as goal

pub returns-in-0 : goal.returns-in-0
unfolding expr_at
returns-in-0 c =
    rw c.in-0.is

pub returns-in-1 : goal.returns-in-1
unfolding expr_at
returns-in-1 c =
    rw c.in-1.is

pub returns-in-2 : goal.returns-in-2
unfolding expr_at
returns-in-2 c =
    rw c.in-2.is

pub returns-in-3 : goal.returns-in-3
unfolding expr_at
returns-in-3 c =
    rw c.in-3.is

pub returns-in-4 : goal.returns-in-4
unfolding expr_at
returns-in-4 c =
    rw c.in-4.is

pub returns-in-5 : goal.returns-in-5
unfolding expr_at
returns-in-5 c =
    rw c.in-5.is

pub returns-in-6 : goal.returns-in-6
unfolding expr_at
returns-in-6 c =
    rw c.in-6.is

pub returns-in-7 : goal.returns-in-7
unfolding expr_at
returns-in-7 c =
    rw c.in-7.is

pub returns-in-8 : goal.returns-in-8
unfolding expr_at
returns-in-8 c =
    rw c.in-8.is

pub returns-in-9 : goal.returns-in-9
unfolding expr_at
returns-in-9 c =
    rw c.in-9.is

pub returns-in-10 : goal.returns-in-10
unfolding expr_at
returns-in-10 c =
    rw c.in-10.is

pub returns-in_default : goal.returns-in_default
unfolding expr_at
returns-in_default c =
    let tag = c.args.tag in
    let last : tag ≡ 11 = omega (arith, at_least tag 11 c.in_default.in_default-own.rest) in
    rw last
