use Rattle.deck.proofs.SoundLaws.{sound, limited}
use Rattle.build.proofs.SeedLaws.{named-facts}
use Rattle.build.proofs.seed.load_named.Goals as goal

pub returns : goal.returns
returns c =
    λ k r b. rw c.load_facts.ensures (named-facts _ (sound _ c.args.deck.now.accepted) (limited _ c.args.deck.now.accepted).classes k r b)
