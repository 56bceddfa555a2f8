use mathlib.Core.Path.{sym}
use native.Mathlib.Omega.{arith}
use Rattle.deck.proofs.DeckLaws.{fact-count}
use Rattle.deck.proofs.TrailerLaws.{count-within}
use Rattle.deck.proofs.AcceptedLaws.{framed}
use Rattle.deck.proofs.accepted.Deck.fact_count.Goals as goal

pub returns : goal.returns
returns c =
    let is = fact-count c.args.self.now.bytes.now in
    let most = count-within _ (framed _ c.args.self.now.accepted) 5 (omega arith) in
    rw (c.part_count.ensures, c.trailer.ensures, c.parts.ensures) record { is = sym is; most = most }
