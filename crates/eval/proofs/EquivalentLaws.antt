-- Equivalent roles, none of them inverse: the first member's pairs in each member, then each member's in the first. Inclusion is transitive, so no other two members can fail.
--     words-none                 a list of no role words
--     words-stop, words-go       one with a first, that is not within each member, or is
use mathlib.Core.Bool.{Bool, true, false, cond}
use mathlib.Core.Path.{◌≡◌, refl, sym, ◌∙◌}
use mathlib.Core.List.Memᴰ.{head as here}
use mathlib.Core.List.Memᴰ.{tail as there}
use mathlib.Core.List.{List, [], ◌∷◌, map, Memᴰ as Member}
use Prim.Native.Nat.{ℕ, ◌<◌}
use native.Mathlib.Omega.{arith}
use lib.ListN.{length, get_or}
use Rattle.eval.proofs.Clash.{clash, both_ways}
use lib.Dec.{eqb}
use borrow.Author.Tests.{eq-eqb, eqb-true}
use Rattle.deck.specs.Deck.{Deck, Role, role_of, role_id}
use Rattle.eval.specs.declared.verdict.Verdict.{Verdict}
use Rattle.eval.specs.declared.verdict.Verdict.TheVariants.{Holds, Fails, UnhandledAxiom, UnhandledConcept, GuardedRoleHasEdges}
use Rattle.eval.specs.Structure.{Structure, has_pair, inverse, any_inverse}
use Rattle.eval.specs.Verdict.{within, across, equivalent, in_turn, or_else, is_holds}
use Rattle.eval.proofs.ListLaws.{map_same, none-at}
use Rattle.eval.proofs.ScanLaws.{Case, turn-case}
use Rattle.eval.proofs.EdgeLaws.{PairAt, named-pair, within-case}
use Rattle.eval.proofs.Order.{turn-all}
use Rattle.eval.proofs.RoleLaws.{else-first, else-second}

-- where all checks in turn hold, each does
module _ {A : Type 0} (g : A → Verdict) (xs : List A) where
  abbrev Each : Verdict → Type 0
  Each v = v ≡ Holds → (x : A) → Member x xs → g x ≡ Holds

  turn-each : Each (in_turn (map g xs))
  turn-each = turn-case g (λ x. g x ≡ Holds) Each xs (λ x m. by (g x)) (λ h e. h)
    where
      by : (v : Verdict) → Case (v ≡ Holds) Each v
      by Holds = refl
      by (Fails w) = λ e. clash (cc)
      by (UnhandledAxiom tag part) = λ e. clash (cc)
      by (UnhandledConcept tag) = λ e. clash (cc)
      by (GuardedRoleHasEdges r) = λ e. clash (cc)

-- what comes second counts only where the first holds
else_same : (u v w : Verdict) → (u ≡ Holds → v ≡ w) → or_else u v ≡ or_else u w
else_same Holds v w h = h refl
else_same (Fails x) v w h = refl
else_same (UnhandledAxiom tag part) v w h = refl
else_same (UnhandledConcept tag) v w h = refl
else_same (GuardedRoleHasEdges r) v w h = refl

else-holds : (u v : Verdict) → (u ≡ Holds → v ≡ Holds) → or_else u v ≡ u
else-holds Holds v h = h refl
else-holds (Fails x) v h = refl
else-holds (UnhandledAxiom tag part) v h = refl
else-holds (UnhandledConcept tag) v h = refl
else-holds (GuardedRoleHasEdges r) v h = refl

module _ (D : Deck) (S : Structure) where
  -- each pair of a is one of b
  abbrev Included : Role → Role → Type 0
  Included a b = (x y : ℕ) → PairAt D S a x y → has_pair D S b x y ≡ true

  included : (a b : Role) → inverse a ≡ false → inverse b ≡ false → across D S a b ≡ Holds → Included a b
  included a b i j = go (eqb (role_id a) (role_id b)) refl
    where
      go : (t : Bool) → eqb (role_id a) (role_id b) ≡ t → cond t Holds (within D S a b) ≡ Holds → Included a b
      go true q = λ h x y p. named-pair D S b x y j ∙ rw (eqb-true (role_id a) (role_id b) q) at (sym (named-pair D S a x y i) ∙ p.has)
      go false q = within-case D S (λ v. v ≡ Holds → Included a b) a b (λ x y p n h. clash (cc)) (λ h e. h)

  across-holds : (a b : Role) → Included a b → across D S a b ≡ Holds
  across-holds a b h = go (eqb (role_id a) (role_id b))
    where
      go : (t : Bool) → cond t Holds (within D S a b) ≡ Holds
      go true = refl
      go false = within-case D S (λ v. v ≡ Holds) a b (λ x y p n. absurd (both_ways (h x y p) n)) (λ k. refl)

  across-self : (a : Role) → across D S a a ≡ Holds
  across-self a = rw (eq-eqb (role_id a) (role_id a) refl)

  across-trans : (a b c : Role) → inverse a ≡ false → inverse b ≡ false → inverse c ≡ false → across D S b a ≡ Holds → across D S a c ≡ Holds → across D S b c ≡ Holds
  across-trans a b c i j k h g =
      let p = included b a j i h in
      let q = included a c i k g in
      across-holds b c (λ x y e. q x y (record { from_in = e.from_in; to_in = e.to_in; has = p x y e }))

  equivalent-none : Holds ≡ equivalent D S []
  unfolding equivalent in_turn
  equivalent-none = refl

  module _ (a : Role) (l : List Role) (named : any_inverse (a ∷ l) ≡ false) where
    plain : (b : Role) → Member b (a ∷ l) → inverse b ≡ false
    plain b m = none-at inverse (a ∷ l) b named m

    -- a member that is within the first is within all
    later : in_turn (map (across D S a) (a ∷ l)) ≡ Holds → (b : Role) → Member b l → in_turn (map (across D S b) (a ∷ l)) ≡ across D S b a
    unfolding in_turn
    later h b m =
        else-holds (across D S b a) (in_turn (map (across D S b) l))
        (λ e. turn-all (across D S b) l (λ c n. across-trans a b c (plain a (here refl)) (plain b (there m)) (plain c (there n)) e (turn-each (across D S a) (a ∷ l) h c (there n))))

    equivalent-first : or_else (in_turn (map (across D S a) (a ∷ l))) (in_turn (map (λ b. across D S b a) (a ∷ l))) ≡ equivalent D S (a ∷ l)
    unfolding equivalent in_turn
    equivalent-first =
        else_same (in_turn (map (across D S a) (a ∷ l))) (in_turn (map (λ b. across D S b a) (a ∷ l))) (in_turn (map (λ b. in_turn (map (across D S b) (a ∷ l))) l))
        (λ h. rw (across-self a, map_same (λ b. in_turn (map (across D S b) (a ∷ l))) (λ b. across D S b a) l (λ b m. later h b m)))

  -- the same for a list of role words
  pub words-none : (ws : List ℕ) → length ws ≡ 0 → Holds ≡ equivalent D S (map role_of ws)
  words-none [] h = equivalent-none
  words-none (w ∷ ws) h = absurd (omega arith)

  abbrev from_first : ℕ → List ℕ → Verdict
  from_first f ws = in_turn (map (across D S (role_of f)) (map role_of ws))

  abbrev into_first : ℕ → List ℕ → Verdict
  into_first f ws = in_turn (map (λ b. across D S b (role_of f)) (map role_of ws))

  words-first : (ws : List ℕ) → 0 < length ws → any_inverse (map role_of ws) ≡ false → or_else (from_first (get_or ws 0 0) ws) (into_first (get_or ws 0 0) ws) ≡ equivalent D S (map role_of ws)
  words-first [] h named = absurd (omega arith)
  words-first (w ∷ ws) h named = equivalent-first (role_of w) (map role_of ws) named

  module _ (ws : List ℕ) (h : 0 < length ws) (named : any_inverse (map role_of ws) ≡ false) (f : ℕ) (is : f ≡ get_or ws 0 0) {u : Verdict} (p : u ≡ from_first f ws) where
    both : or_else u (into_first f ws) ≡ equivalent D S (map role_of ws)
    both = rw (p, is) (words-first ws h named)

    -- the first member is not within each, and it is
    pub words-stop : is_holds u ≡ false → u ≡ equivalent D S (map role_of ws)
    words-stop n = else-first u (into_first f ws) n ∙ both

    pub words-go : is_holds u ≡ true → {v : Verdict} → v ≡ into_first f ws → v ≡ equivalent D S (map role_of ws)
    words-go n q = q ∙ else-second u (into_first f ws) n ∙ both
