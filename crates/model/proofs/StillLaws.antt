-- The pairs of a member of EquivalentClasses only add: where they leave the counts of a structure as they were, no other member would change anything.
use Prim.Native.Nat.{ℕ}
use mathlib.Core.Bool.{true, ◌&&◌}
use mathlib.Core.Path.{◌≡◌, sym, ◌∙◌}
use mathlib.Core.List.{List, [], Memᴰ as Member}
use lib.ListN.{get_or}
use lib.Dec.{eqb}
use Rattle.deck.specs.Deck.{Deck}
use Rattle.build.specs.declared.bounds.Bounds.{Bounds}
use Rattle.build.specs.Model.{Model}
use Rattle.build.specs.Exists.{work}
use Rattle.model.specs.Rounds.{fire, fire_pair, fire_from}
use Rattle.atoms.specs.Antecedent.{is_rule, holds_atoms}
use Rattle.build.proofs.InternLaws.{by_cond}
use Rattle.model.proofs.RoundLaws.{pair-differs}
use Rattle.build.specs.Again.{model_size, LiveModel}
use Rattle.build.proofs.GrowLaws.{grows_same, walk-grows, each-still, Builds}
use Rattle.build.proofs.GivesLaws.{work-grows}

module _ (D : Deck) (floor : List ℕ) (B : Bounds) where
  -- ---- the pairs of a member at an element
  module _ (e : ℕ) where
    fire-grows : (ante sup : ℕ) (m : Model) → Builds m (fire D floor B e ante sup m)
    unfolding fire
    fire-grows ante sup m = by_cond (Builds m) (holds_atoms D (get_or m.labels e []) ante && is_rule D ante) (work D floor B sup e m) m (work-grows D floor B sup e m) (grows_same m)

    pair-grows : (a b : ℕ) (m : Model) → Builds m (fire_pair D floor B e a b m)
    unfolding fire_pair
    pair-grows a b m = by_cond (Builds m) (eqb a b) m (fire D floor B e a b m) (grows_same m) (fire-grows a b m)

    pub from-grows : (l : List ℕ) (a : ℕ) (m : Model) → Builds m (fire_from D floor B e l a m)
    unfolding fire_from
    from-grows l a m = walk-grows (fire_pair D floor B e a) l (λ b i. pair-grows a b) m

    -- where the member fires and the counts stand, no other member would change anything
    pub others-still : (l : List ℕ) (a : ℕ) (m : Model) → (holds_atoms D (get_or m.labels e []) a && is_rule D a) ≡ true → model_size (fire_from D floor B e l a m) ≡ model_size m → LiveModel (fire_from D floor B e l a m)
        → (c : ℕ) → Member c l → (a ≡ c → ⊥) → work D floor B c e m ≡ m
    unfolding fire_from fire
    others-still l a m h q v c i d =
        let p : fire_pair D floor B e a c m ≡ m = each-still (fire_pair D floor B e a) l (pair-grows a) m q v c i in
        let w : fire D floor B e a c m ≡ work D floor B c e m = rw h in
        sym w ∙ pair-differs D floor B e m a c d ∙ p
