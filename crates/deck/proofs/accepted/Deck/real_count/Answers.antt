use mathlib.Core.Path.{sym}
use native.Mathlib.Omega.{arith}
use Rattle.deck.proofs.DeckLaws.{real-is, class-count}
use Rattle.deck.proofs.TrailerLaws.{real-within}
use Rattle.deck.proofs.AcceptedLaws.{framed}
use Rattle.deck.proofs.accepted.Deck.real_count.Goals as goal

pub returns : goal.returns
returns c =
    let s = c.args.self.now.bytes.now in
    rw (c.word.ensures, c.trailer.ensures, c.parts.ensures) record { is = sym (real-is s); most = omega (arith, real-within s (framed s c.args.self.now.accepted), class-count s) }
