use Prim.Native.Nat.{ℕ, ◌+◌, ◌<◌}
use mathlib.Core.Path.{◌≡◌, refl}
use mathlib.Core.List.{[], ◌∷◌}
use native.Mathlib.Omega.{arith}
use lib.ListN.{get_or}
use Rattle.deck.specs.Content.{deck_of}
use Rattle.deck.proofs.SoundLaws.{limited}
use Rattle.atoms.specs.Label.{insert_all}
use Rattle.atoms.proofs.LeafLaws.{begins}
use Rattle.atoms.proofs.marks.Leaves.of_concept.Goals as goal

pub returns : goal.returns
unfolding insert_all
returns c =
    let s = c.args.deck.now.bytes.now in
    let k = c.args.concept.0 in
    let one : (j : ℕ) → j < 1 → get_or (k ∷ []) j 0 < k + 1 = λ j b. let y : j ≡ 0 = omega arith in rw y (omega arith) in record { deck = refl; same = begins (deck_of s) 256 (k ∷ []) (k + 1) (omega (arith, (limited _ c.args.deck.now.accepted).concepts, c.requires.concept_bound)) one c.insert_bit.ensures }

pub insert_bit-requires : goal.insert_bit-requires
insert_bit-requires c =
    omega (arith, (limited _ c.args.deck.now.accepted).concepts, c.requires.concept_bound)

pub overflow_add-result : goal.overflow_add-result
overflow_add-result c =
    omega (arith, (limited _ c.args.deck.now.accepted).concepts, c.requires.concept_bound)
