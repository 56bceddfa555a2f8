use Prim.Native.Nat.{◌%◌}
use mathlib.Core.Path.{◌≡◌, sym, ◌∙◌}
use mathlib.Core.Bool.{true}
use native.Mathlib.Omega.{arith}
use borrow.Author.Tests.{eq-eqb, ne_eqb, le-leb, lt-leb}
use lib.Dec.{eqb, leb}
use lib.ListN.{length}
use Rattle.deck.specs.Answer.{trailer_answer}
use Rattle.deck.specs.Trailer.{edition, counts_fit}
use Rattle.deck.proofs.check_trailer.Goals as goal
use Rattle.deck.proofs.check_trailer.Goals.{Else-deck-lt72, Else-deck-ne0, Else-not-counts_fit, Else-word-edition}

whole : (c : Else-deck-ne0) → eqb (length c.args.deck.now % 4) 0 ≡ true
whole c = eq-eqb (length c.args.deck.now % 4) 0 (omega arith)

long : (c : Else-deck-lt72) → leb 72 (length c.args.deck.now) ≡ true
long c = le-leb 72 (length c.args.deck.now) (omega arith)

right-edition : (c : Else-word-edition) → eqb (edition c.args.deck.now) c.args.edition ≡ true
right-edition c = eq-eqb (edition c.args.deck.now) c.args.edition (omega arith)

counts : (c : Else-not-counts_fit) → counts_fit c.args.deck.now ≡ true
counts c = sym c.counts_fit.ensures ∙ c.if-not-counts_fit.false

pub returns-then-deck-ne0 : goal.returns-then-deck-ne0
unfolding trailer_answer
returns-then-deck-ne0 c =
    simp (ne_eqb (length c.args.deck.now % 4) 0 c.if-deck-ne0.true)

pub returns-then-deck-lt72 : goal.returns-then-deck-lt72
unfolding trailer_answer
returns-then-deck-lt72 c =
    simp (whole (goal.at.returns-then-deck-lt72 c).Else-deck-ne0, lt-leb 72 (length c.args.deck.now) c.if-deck-lt72.true)

pub returns-then-word-edition : goal.returns-then-word-edition
unfolding trailer_answer
returns-then-word-edition c =
    simp (whole (goal.at.returns-then-word-edition c).Else-deck-ne0, long (goal.at.returns-then-word-edition c).Else-deck-lt72, ne_eqb (edition c.args.deck.now) c.args.edition (λ e. c.if-word-edition.true (omega arith)))

pub returns-then-not-counts_fit : goal.returns-then-not-counts_fit
unfolding trailer_answer
returns-then-not-counts_fit c =
    simp (whole (goal.at.returns-then-not-counts_fit c).Else-deck-ne0, long (goal.at.returns-then-not-counts_fit c).Else-deck-lt72, right-edition (goal.at.returns-then-not-counts_fit c).Else-word-edition, sym c.counts_fit.ensures ∙ c.if-not-counts_fit.true)

pub returns-then-not-layout_fits : goal.returns-then-not-layout_fits
unfolding trailer_answer
returns-then-not-layout_fits c =
    simp (whole (goal.at.returns-then-not-layout_fits c).Else-deck-ne0, long (goal.at.returns-then-not-layout_fits c).Else-deck-lt72, right-edition (goal.at.returns-then-not-layout_fits c).Else-word-edition, counts (goal.at.returns-then-not-layout_fits c).Else-not-counts_fit, sym c.layout_fits.ensures ∙ c.if-not-layout_fits.true)

pub returns : goal.returns
unfolding trailer_answer
returns c =
    simp (whole (goal.at.returns c).Else-deck-ne0, long (goal.at.returns c).Else-deck-lt72, right-edition (goal.at.returns c).Else-word-edition, counts (goal.at.returns c).Else-not-counts_fit, sym c.layout_fits.ensures ∙ c.if-not-layout_fits.false)
