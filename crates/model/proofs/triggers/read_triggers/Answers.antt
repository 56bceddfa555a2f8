use native.Mathlib.Omega.{arith}
use Prim.Native.Nat.{◌+◌, ◌-◌, ◌<◌}
use mathlib.Core.Path.{◌≡◌}
use Rattle.deck.specs.Content.{deck_of}
use Rattle.deck.specs.Deck.{axiom_count}
use Rattle.deck.proofs.SoundLaws.{limited}
use Rattle.model.specs.Triggers.{Entry, Triggers}
use Rattle.model.proofs.TriggerLaws.{IdleFrom, entry-of, idle-entry, table_more}
use Rattle.model.proofs.triggers.read_triggers.Goals as goal

pub loop-i-preserved : goal.loop-i-preserved
loop-i-preserved c =
    let D = deck_of c.args.deck.now.bytes.now in
    let i = c.loop-i.i - 1 in
    let e : c.loop-i.i ≡ i + 1 = omega arith in
    let T : Triggers D c.loop-i.table (i + 1) = rw e at c.loop-i.invariant.0 in
    let I : IdleFrom D (i + 1) c.loop-i.never = rw e at c.loop-i.invariant.1 in
    let b : i < axiom_count D = omega (arith, I.within) in
    let E : Entry D i c.word-word.result = rw c.word-word.ensures (entry-of c.trigger_of.result (limited _ c.args.deck.now.accepted).classes b c.trigger_of.ensures I) in
    (table_more T b E, rw c.saturating_sub-never.ensures (idle-entry E))
