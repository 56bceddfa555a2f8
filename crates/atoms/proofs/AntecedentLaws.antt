-- Antecedents: their required atoms at a label, and whether there is one.
-- Assumes nothing.
use Prim.Native.Nat.{ℕ, ◌<◌}
use mathlib.Core.Bool.{Bool, true, false, ◌||◌, ◌&&◌}
use mathlib.Core.Path.{◌≡◌, refl, sym, ap, ◌∙◌}
use mathlib.Core.List.{List, [], ◌∷◌, ◌++◌, map, flat_map}
use native.Mathlib.Omega.{arith}
use lib.ListN.{get_or}
use types.Run.{OneOf}
use denote.Enum.Declared.{tag_of}
use Rattle.deck.specs.contracts.concepts.ConceptExpr.{the_type}
use Rattle.deck.specs.declared.concepts.ConceptExpr.{ConceptExpr}
use Rattle.deck.specs.declared.rows.Span.{Span}
use Rattle.deck.specs.Deck.{Deck}
use Rattle.deck.specs.Content.{IsAccepted, deck_of}
use Rattle.deck.specs.Reads.{ConceptRead, list_of}
use Rattle.eval.specs.Lent.{label_width, member_in}
use Rattle.eval.specs.Lists.{every, any}
use Rattle.atoms.specs.Label.{label_has}
use Rattle.atoms.specs.Rows.{rows_of}
use Rattle.atoms.specs.Floor.{universal, required_atoms}
use Rattle.atoms.specs.Antecedent.{some_in, has_atom, is_rule, holds_atoms}
use Rattle.atoms.proofs.ListWalks.{map-append}
use Rattle.atoms.proofs.MemberLaws.{label-member}
use Rattle.atoms.proofs.FloorLaws.{fits_read, atoms-atomic, atoms-and, atoms-other}

-- ---- lists of lists
every_append : (xs ys : List Bool) → every (xs ++ ys) ≡ (every xs && every ys)
unfolding every
every_append [] ys = refl
every_append (true ∷ xs) ys = every_append xs ys
every_append (false ∷ xs) ys = refl

pub every-flat : {A B : Type 0} (p : B → Bool) (f : A → List B) (l : List A) → every (map p (flat_map f l)) ≡ every (map (λ x. every (map p (f x))) l)
unfolding every flat_map
every-flat p f [] = refl
every-flat p f (x ∷ xs) = rw (map-append p (f x) (flat_map f xs), every_append (map p (f x)) (map p (flat_map f xs)), every-flat p f xs)

some-append : (xs ys : List ℕ) → some_in (xs ++ ys) ≡ (some_in xs || some_in ys)
some-append [] ys = refl
some-append (x ∷ xs) ys = refl

pub some-flat : {A : Type 0} (f : A → List ℕ) (l : List A) → some_in (flat_map f l) ≡ any (map (λ x. some_in (f x)) l)
unfolding any flat_map
some-flat f [] = refl
some-flat f (x ∷ xs) = rw (some-append (f x) (flat_map f xs), some-flat f xs)

-- ---- a concept that was read
module _ (s : List ℕ) (A : IsAccepted s) (c : ℕ) {expr : ConceptExpr} (R : ConceptRead s c expr) where
  abbrev D : Deck
  D = deck_of s

  module _ (label : List ℕ) where
    pub holds-atomic : (k : ℕ) → expr ≡ ConceptExpr.Atomic (record { 0 = k }) → label_has label k ≡ holds_atoms D label c
    unfolding holds_atoms every
    holds-atomic k p = go (label_has label k) refl ∙ ap (λ l. every (map (label_has label) l)) (atoms-atomic s A c R k p)
      where
        go : (b : Bool) → label_has label k ≡ b → label_has label k ≡ (label_has label k && true)
        go true e = rw e
        go false e = rw e

    pub holds-and : (l : Span) → expr ≡ ConceptExpr.And l → every (map (holds_atoms D label) (list_of s l)) ≡ holds_atoms D label c
    unfolding holds_atoms
    holds-and l p = sym (every-flat (label_has label) (required_atoms D) (list_of s l)) ∙ ap (λ l. every (map (label_has label) l)) (atoms-and s A c R l p)

    pub holds-other : OneOf (0 ∷ 1 ∷ 3 ∷ 4 ∷ 5 ∷ 7 ∷ 8 ∷ 9 ∷ 10 ∷ 11 ∷ []) (tag_of the_type expr) → true ≡ holds_atoms D label c
    unfolding holds_atoms every
    holds-other h = ap (λ l. every (map (label_has label) l)) (atoms-other s A c R h)

  -- an atom, as the code reads it from the labels
  pub holds-atom-at : (n : ℕ) (buf : List ℕ) (e k : ℕ) → e < n → expr ≡ ConceptExpr.Atomic (record { 0 = k }) → member_in buf (label_width D) e k ≡ holds_atoms D (get_or (rows_of (label_width D) n buf) e []) c
  holds-atom-at n buf e k h p = let f = fits_read s A c R _ p in sym (label-member (label_width D) n buf e k h (omega (arith, f))) ∙ holds-atomic (get_or (rows_of (label_width D) n buf) e []) k p

  pub some-atomic : (k : ℕ) → expr ≡ ConceptExpr.Atomic (record { 0 = k }) → true ≡ has_atom D c
  unfolding has_atom
  some-atomic k p = ap some_in (atoms-atomic s A c R k p)

  pub some-and : (l : Span) → expr ≡ ConceptExpr.And l → any (map (has_atom D) (list_of s l)) ≡ has_atom D c
  unfolding has_atom
  some-and l p = sym (some-flat (required_atoms D) (list_of s l)) ∙ ap some_in (atoms-and s A c R l p)

  pub some-other : OneOf (0 ∷ 1 ∷ 3 ∷ 4 ∷ 5 ∷ 7 ∷ 8 ∷ 9 ∷ 10 ∷ 11 ∷ []) (tag_of the_type expr) → false ≡ has_atom D c
  unfolding has_atom
  some-other h = ap some_in (atoms-other s A c R h)

-- ---- a rule's antecedent
module _ (D : Deck) (c : ℕ) where
  pub rule-atom : has_atom D c ≡ true → true ≡ is_rule D c
  unfolding is_rule
  rule-atom h = rw h

  pub rule-universal : has_atom D c ≡ false → universal D c ≡ is_rule D c
  unfolding is_rule
  rule-universal h = rw h
