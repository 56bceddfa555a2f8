use borrow.Author.Tests.{not-true, not-false}
use Rattle.atoms.proofs.LargeLaws.{seen_of, large-none, large-some}
use Rattle.atoms.proofs.large.body_large.Goals as goal

pub returns-then-not-seen : goal.returns-then-not-seen
returns-then-not-seen c =
    large-none _ _ _ c.args.label.now _ c.clear.ensures c.requires.label_len c.join_leaves-seen.ensures (not-true _ c.if-not-seen.true) c.join_ranges.ensures _ _

pub note_all-requires : goal.note_all-requires
note_all-requires c =
    record { r_bound = c.requires.r_bound; concept_bound = c.requires.concept_bound; seen_of = seen_of _ _ _ c.args.label.now _ c.clear.ensures c.requires.label_len c.join_leaves-seen.ensures; found_value = not-false _ c.if-not-seen.false }

pub returns : goal.returns
returns c =
    large-some _ _ _ c.args.label.now _ c.clear.ensures c.requires.label_len c.join_leaves-seen.ensures (not-false _ c.if-not-seen.false) _ _ c.note_all.ensures
