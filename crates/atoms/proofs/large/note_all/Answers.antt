use Prim.Native.Nat.{ℕ}
use mathlib.Core.Path.{sym, ◌∙◌}
use native.Mathlib.Omega.{arith}
use lib.ListN.{length-replicate}
use borrow.Author.Tests.{not-true, not-false}
use Rattle.deck.proofs.SoundLaws.{limited}
use Rattle.atoms.proofs.LargeLaws.{all_closed, all-open}
use Rattle.atoms.proofs.large.note_all.Goals as goal

pub note_counted-total-requires : goal.note_counted-total-requires
note_counted-total-requires c =
    record { r_bound = c.requires.r_bound; concept_bound = c.requires.concept_bound; delta_value = c.requires.seen_of.delta; concept_in_bounds = omega (arith, c.requires.concept_bound, (limited _ c.args.deck.now.accepted).concepts, length-replicate {A = ℕ} 16384 0) }

pub returns-then-not-seen : goal.returns-then-not-seen
returns-then-not-seen c =
    all_closed _ _ _ _ c.note_counted-total.ensures c.requires.seen_of.unclosed (not-true _ c.if-not-seen.true)

pub note_open-requires : goal.note_open-requires
note_open-requires c =
    record { concept_bound = c.requires.concept_bound; concept_value = sym c.requires.seen_of.found ∙ c.requires.found_value; concept_in_bounds = omega (arith, c.note_counted-total.auto.table, length-replicate {A = ℕ} 16384 0, c.requires.concept_bound, (limited _ c.args.deck.now.accepted).concepts) }

pub returns : goal.returns
returns c =
    all-open _ _ _ _ c.note_counted-total.ensures c.requires.seen_of.unclosed (not-false _ c.if-not-seen.false) c.note_open.ensures.0 c.note_open.ensures.1
