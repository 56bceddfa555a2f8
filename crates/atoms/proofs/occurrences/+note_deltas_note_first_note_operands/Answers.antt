use borrow.Enum.Refused.{opened}
use Prim.Native.Nat.{◌+◌, ◌-◌}
use mathlib.Core.Path.{◌≡◌, refl, sym, ◌∙◌}
use native.Mathlib.Omega.{arith}
use Rattle.deck.specs.Content.{deck_of}
use Rattle.deck.specs.Reads.{list_of}
use Rattle.deck.proofs.TableLaws.{list_length}
use Rattle.atoms.specs.Occurrences.{entry_at, deltas_of}
use Rattle.atoms.proofs.WalkLaws.{walk_end, walk_step}
use Rattle.atoms.proofs.OccurrenceLaws.{noted-none, noted-full, noted-atomic, noted-and, noted_other}
use Rattle.atoms.proofs.StandingLaws.{placed, noted-again, places-noted, places-put}
use Rattle.atoms.proofs.occurrences.+note_deltas_note_first_note_operands.Goals as goal

pub note_deltas-returns-then-count-eq0 : goal.note_deltas-returns-then-count-eq0
note_deltas-returns-then-count-eq0 t c =
    let x = c.requires.deltas_to c.args.concept.0 (omega arith) in
    record { log = noted-none (deck_of c.args.deck.now.bytes.now) c.args.r.0 c.args.concept.0 _ _ x c.if-count-eq0.true; places = c.requires.places }

pub note_deltas-note_again-requires : goal.note_deltas-note_again-requires
note_deltas-note_again-requires t c =
    let e : entry_at c.args.places.now c.args.concept.0 ≡ entry_at c.args.places.now c.args.concept.0 - 1 + 1 = omega (arith, c.if-place-ne0.true) in
    (c.requires.places c.args.concept.0 _ e).since

pub note_deltas-returns-then-place-ne0 : goal.note_deltas-returns-then-place-ne0
note_deltas-returns-then-place-ne0 t c =
    let D = deck_of c.args.deck.now.bytes.now in
    let k = c.args.concept.0 in
    let e : entry_at c.args.places.now k ≡ entry_at c.args.places.now k - 1 + 1 = omega (arith, c.if-place-ne0.true) in
    let S = placed D c.args.r.0 _ _ _ c.requires.places k _ e (c.requires.deltas_to k (omega arith)) in
    let q = noted-again D c.args.r.0 k _ _ (c.note_again.ensures (deltas_of D c.args.r.0 k) S) in
    record { log = q; places = places-noted D c.args.r.0 _ _ _ k q c.requires.places }

pub note_deltas-returns-then-not-has_room : goal.note_deltas-returns-then-not-has_room
note_deltas-returns-then-not-has_room t c =
    let D = deck_of c.args.deck.now.bytes.now in
    let k = c.args.concept.0 in
    let q = noted-full D c.args.r.0 k _ c.args.total (c.requires.deltas_to k (omega arith)) (omega arith) (sym c.has_room.ensures ∙ c.if-not-has_room.true) c.saturating_add.ensures in
    record { log = q; places = places-noted D c.args.r.0 _ _ _ k q c.requires.places }

pub note_deltas-returns : goal.note_deltas-returns
note_deltas-returns t c =
    let D = deck_of c.args.deck.now.bytes.now in
    let F = c.note_first-held in
    record { log = F.ensures.log; places = places-put D c.args.r.0 _ _ c.args.total c.args.concept.0 F.ensures.log (omega arith) (omega (arith, F.auto.places, c.requires.concept_in_bounds.1)) F.ensures.places }

pub note_first-returns-in-Atomic : goal.note_first-returns-in-Atomic
note_first-returns-in-Atomic t c =
    let D = deck_of c.args.deck.now.bytes.now in
    let k = c.args.concept.0 in
    let q = noted-atomic _ c.args.deck.now.accepted k c.concept_at-expr.ensures c.args.r.0 _ _ _ c.in-Atomic.is c.requires.some c.note.ensures.0 c.note.ensures.1 in
    record { log = q; places = places-noted D c.args.r.0 _ _ _ k q c.requires.places }

pub note_first-returns-in-And : goal.note_first-returns-in-And
note_first-returns-in-And t c =
    record { log = c.note_operands.ensures.log ∙ noted-and _ c.args.deck.now.accepted c.args.concept.0 c.concept_at-expr.ensures _ _ _ _ c.in-And.is; places = c.note_operands.ensures.places }

pub note_first-returns-in_default : goal.note_first-returns-in_default
note_first-returns-in_default t c =
    record { log = noted_other _ c.args.deck.now.accepted c.args.concept.0 c.concept_at-expr.ensures _ _ _ (opened c.in_default.in_default-own.keys3); places = c.requires.places }

pub note_operands-loop-i-init : goal.note_operands-loop-i-init
note_operands-loop-i-init t c =
    record { places = c.requires.places; goes = refl }

pub note_operands-loop-i-preserved : goal.note_operands-loop-i-preserved
note_operands-loop-i-preserved t c =
    let l = c.args.list in
    let w = c.loop-i in
    record {
      places = c.note_deltas-held.ensures.places;
      goes = w.invariant.goes ∙ walk_step 0 _ (list_of c.args.deck.now.bytes.now l) w.i _ (omega (arith, list_length c.args.deck.now.bytes.now l.start l.count)) (rw c.operand.ensures.is at c.note_deltas-held.ensures.log);
    }

pub note_operands-returns : goal.note_operands-returns
note_operands-returns t c =
    let l = c.args.list in
    let w = c.loop-i.invariant in
    record { log = walk_end 0 _ (list_of c.args.deck.now.bytes.now l) c.loop-i.i _ (omega (arith, list_length c.args.deck.now.bytes.now l.start l.count)) ∙ sym w.goes; places = w.places }
