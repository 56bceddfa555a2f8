-- Role words in axioms: one test after another for an inverse word, and lists of words.
use Prim.Native.Nat.{ℕ, ◌/◌}
use mathlib.Core.Bool.{Bool, true, false, cond}
use mathlib.Core.Path.{◌≡◌, refl, sym, ap, ◌∙◌}
use mathlib.Core.List.{List, [], ◌∷◌, map}
use native.Mathlib.Omega.{arith}
use lib.ListN.{length, get_or, get_or-map}
use Rattle.deck.specs.Numbers.{inverse_word, role_number}
use Rattle.deck.specs.Deck.{Deck, Role, role_of, role_id}
use Rattle.deck.proofs.TagLaws.{role-id}
use Rattle.eval.specs.declared.verdict.Verdict.{Verdict}
use Rattle.eval.specs.declared.verdict.Unhandled.TheVariants.{Inverse, ChainLength}
use Rattle.eval.specs.declared.verdict.Verdict.TheVariants.{Holds, Fails, UnhandledAxiom, UnhandledConcept, GuardedRoleHasEdges}
use Rattle.eval.specs.Lists.{any}
use Rattle.eval.specs.Structure.{Structure, inverse}
use Rattle.eval.specs.Verdict.{unless_inverse, is_holds, or_else, chain, links}
use Rattle.eval.proofs.Clash.{clash}

pub inverse-word : (w : ℕ) → inverse (role_of w) ≡ inverse_word w
inverse-word w = go (inverse_word w)
  where
    go : (b : Bool) → inverse (cond b (Role.Inverse (role_number w)) (Role.Named (role_number w))) ≡ b
    go true = refl
    go false = refl

module _ (tag w : ℕ) (rs : List Role) (v : Verdict) where
  pub inverse-first : inverse_word w ≡ true → UnhandledAxiom tag Inverse ≡ unless_inverse tag (role_of w ∷ rs) v
  unfolding any
  inverse-first h = rw (inverse-word w, h)

  pub named-first : inverse_word w ≡ false → unless_inverse tag (role_of w ∷ rs) v ≡ unless_inverse tag rs v
  unfolding any
  named-first h = rw (inverse-word w, h)

pub none-inverse : (tag : ℕ) (v : Verdict) → unless_inverse tag [] v ≡ v
unfolding any
none-inverse tag v = refl

-- the last of the words is not inverse
pub named-last : (tag w : ℕ) (v : Verdict) → inverse_word w ≡ false → v ≡ unless_inverse tag (role_of w ∷ []) v
named-last tag w v h = sym (named-first tag w [] v h ∙ none-inverse tag v)

-- one check that does not hold, and one that does
pub holds-is : (v : Verdict) → is_holds v ≡ true → v ≡ Holds
holds-is Holds h = refl
holds-is (Fails w) h = clash (cc)
holds-is (UnhandledAxiom tag part) h = clash (cc)
holds-is (UnhandledConcept tag) h = clash (cc)
holds-is (GuardedRoleHasEdges r) h = clash (cc)

pub not-holds : (v : Verdict) → is_holds v ≡ false → v ≡ Holds → ⊥
not-holds v h e = clash (cc (ap is_holds e))

pub else-first : (u v : Verdict) → is_holds u ≡ false → u ≡ or_else u v
else-first Holds v h = clash (cc)
else-first (Fails w) v h = refl
else-first (UnhandledAxiom tag part) v h = refl
else-first (UnhandledConcept tag) v h = refl
else-first (GuardedRoleHasEdges r) v h = refl

pub else-second : (u v : Verdict) → is_holds u ≡ true → v ≡ or_else u v
else-second u v h = rw (holds-is u h)

-- ---- chains
pub chain-two : (D : Deck) (S : Structure) (l : List ℕ) (sup : Role) → length l ≡ 2 → links D S (role_of (get_or l 0 0)) (role_of (get_or l 1 0)) sup ≡ chain D S (map role_of l) sup
chain-two D S [] sup h = absurd (omega arith)
chain-two D S (a ∷ []) sup h = absurd (omega arith)
chain-two D S (a ∷ b ∷ []) sup h = refl
chain-two D S (a ∷ b ∷ c ∷ l) sup h = absurd (omega arith)

pub chain-other : (D : Deck) (S : Structure) (l : List ℕ) (sup : Role) → (length l ≡ 2 → ⊥) → UnhandledAxiom 5 ChainLength ≡ chain D S (map role_of l) sup
chain-other D S [] sup h = refl
chain-other D S (a ∷ []) sup h = refl
chain-other D S (a ∷ b ∷ []) sup h = absurd (h refl)
chain-other D S (a ∷ b ∷ c ∷ l) sup h = refl

-- ---- members by position
pub word_at : (l : List ℕ) (i : ℕ) → get_or (map role_of l) i (Role.Named 0) ≡ role_of (get_or l i 0)
word_at l i = get_or-map role_of l i 0

-- ---- a check of one, two or three roles, by their words: open at the first that is inverse, else by their numbers
module _ (tag w : ℕ) where
  module _ (f : ℕ → Verdict) where
    abbrev one : Verdict
    one = f (role_id (role_of w))

    pub inverse-one : inverse_word w ≡ true → UnhandledAxiom tag Inverse ≡ unless_inverse tag (role_of w ∷ []) one
    inverse-one h = inverse-first tag w [] one h

    pub named-one : inverse_word w ≡ false → f (w / 2) ≡ unless_inverse tag (role_of w ∷ []) one
    named-one h = ap f (sym (role-id w)) ∙ sym (named-first tag w [] one h ∙ none-inverse tag one)

module _ (tag w v : ℕ) (f : ℕ → ℕ → Verdict) where
  abbrev two : Verdict
  two = f (role_id (role_of w)) (role_id (role_of v))

  pub inverse-two : inverse_word w ≡ true → UnhandledAxiom tag Inverse ≡ unless_inverse tag (role_of w ∷ role_of v ∷ []) two
  inverse-two h = inverse-first tag w (role_of v ∷ []) two h

  module _ (h : inverse_word w ≡ false) where
    then_one : unless_inverse tag (role_of v ∷ []) two ≡ unless_inverse tag (role_of w ∷ role_of v ∷ []) two
    then_one = sym (named-first tag w (role_of v ∷ []) two h)

    pub inverse-two-2 : inverse_word v ≡ true → UnhandledAxiom tag Inverse ≡ unless_inverse tag (role_of w ∷ role_of v ∷ []) two
    inverse-two-2 k = inverse-one tag v (f (role_id (role_of w))) k ∙ then_one

    pub named-two : inverse_word v ≡ false → f (w / 2) (v / 2) ≡ unless_inverse tag (role_of w ∷ role_of v ∷ []) two
    named-two k = ap (λ (n : ℕ). f n (v / 2)) (sym (role-id w)) ∙ named-one tag v (f (role_id (role_of w))) k ∙ then_one

module _ (tag w v u : ℕ) (f : ℕ → ℕ → ℕ → Verdict) where
  abbrev three : Verdict
  three = f (role_id (role_of w)) (role_id (role_of v)) (role_id (role_of u))

  pub inverse-three : inverse_word w ≡ true → UnhandledAxiom tag Inverse ≡ unless_inverse tag (role_of w ∷ role_of v ∷ role_of u ∷ []) three
  inverse-three h = inverse-first tag w (role_of v ∷ role_of u ∷ []) three h

  module _ (h : inverse_word w ≡ false) where
    then-two : unless_inverse tag (role_of v ∷ role_of u ∷ []) three ≡ unless_inverse tag (role_of w ∷ role_of v ∷ role_of u ∷ []) three
    then-two = sym (named-first tag w (role_of v ∷ role_of u ∷ []) three h)

    pub inverse-three-2 : inverse_word v ≡ true → UnhandledAxiom tag Inverse ≡ unless_inverse tag (role_of w ∷ role_of v ∷ role_of u ∷ []) three
    inverse-three-2 k = inverse-two tag v u (f (role_id (role_of w))) k ∙ then-two

    pub inverse-three-3 : inverse_word v ≡ false → inverse_word u ≡ true → UnhandledAxiom tag Inverse ≡ unless_inverse tag (role_of w ∷ role_of v ∷ role_of u ∷ []) three
    inverse-three-3 k m = inverse-two-2 tag v u (f (role_id (role_of w))) k m ∙ then-two

    pub named-three : inverse_word v ≡ false → inverse_word u ≡ false → f (w / 2) (v / 2) (u / 2) ≡ unless_inverse tag (role_of w ∷ role_of v ∷ role_of u ∷ []) three
    named-three k m = ap (λ (n : ℕ). f n (v / 2) (u / 2)) (sym (role-id w)) ∙ named-two tag v u (f (role_id (role_of w))) k m ∙ then-two
