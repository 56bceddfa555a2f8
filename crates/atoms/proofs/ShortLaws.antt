-- What a short walk came to, as the walk over the operands and its caller take it.
use Prim.Native.Nat.{ℕ, ◌<◌}
use mathlib.Core.Bool.{Bool}
use mathlib.Core.Path.{◌≡◌, sym, subst, ◌∙◌}
use mathlib.Core.List.{List, map}
use lib.ListN.{length, get_or, drop}
use Rattle.std.specs.Prelude.{Result, Err, IsErrAnd}
use Rattle.deck.proofs.AnswerLaws.{handed_on}
use Rattle.eval.specs.Lists.{every}
use Rattle.atoms.specs.declared.short.Stop.{Stop}
use Rattle.atoms.specs.Leaves.{Decides}
use Rattle.atoms.proofs.ListWalks.{every-stop}

-- the walk stands at operand i, those before it answered yes, and it ends the walk
pub decides-stop : (d : ℕ) (l : List ℕ) (i : ℕ) (p : ℕ → Bool) → i < length l → every (map p l) ≡ every (map p (drop i l)) → (r : Stop) → Decides (Err r) (p (get_or l i d)) → (v : Result ℕ Stop) → IsErrAnd v (λ q. q ≡ r) → Decides v (every (map p l))
decides-stop d l i p h g r e v q = subst (λ (w : Result ℕ Stop). Decides w (every (map p l))) (sym (handed_on v r q)) (go r e)
  where
    go : (s : Stop) → Decides (Err s) (p (get_or l i d)) → Decides (Err s) (every (map p l))
    go Stop.No e = g ∙ sym (every-stop d l i p h e)
    go Stop.Undecided e = tt
