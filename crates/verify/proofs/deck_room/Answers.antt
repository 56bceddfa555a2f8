-- an array of equal bytes is as long as it says; by the lemma, since the list is too long to be written out
use Rattle.std.proofs.Common.{ℕ, sym}
use Rattle.std.proofs.lemmas.List.{length-replicate}
use Rattle.verify.proofs.deck_room.Goals as goal

pub returns : goal.returns
returns c = sym (length-replicate {A = ℕ} _ 0)
