-- Consequents that add nothing.
--     either                        both sides of a test come to the same
--     no-build, form-idle           by the form of the concept
--     builds-and, …, builds-other   whether a concept that was read goes further
use Prim.Native.Nat.{ℕ}
use mathlib.Core.Bool.{Bool, true, false, cond, not}
use mathlib.Core.Path.{◌≡◌, refl, ap, ◌∙◌}
use mathlib.Core.List.{List, [], ◌∷◌}
use types.Run.{OneOf, miss}
use denote.Enum.Declared.{tag_of}
use Rattle.deck.specs.contracts.concepts.ConceptExpr.{the_type}
use Rattle.deck.specs.declared.concepts.ConceptExpr.{ConceptExpr}
use Rattle.deck.specs.declared.numbers.ConceptId.{ConceptId}
use Rattle.deck.specs.declared.numbers.RoleWord.{RoleWord}
use Rattle.deck.specs.declared.rows.Span.{Span}
use Rattle.deck.specs.Numbers.{inverse_word}
use Rattle.deck.specs.Deck.{Deck, Concept, Role, concept_at}
use Rattle.deck.specs.Content.{IsAccepted, deck_of}
use Rattle.deck.specs.Reads.{ConceptRead, expr_of}
use Rattle.eval.specs.Numbered.{numbered}
use Rattle.eval.proofs.Clash.{clash}
use Rattle.atoms.proofs.FloorLaws.{read_is}
use Rattle.build.specs.declared.bounds.Bounds.{Bounds}
use Rattle.build.specs.Model.{Model}
use Rattle.build.specs.Exists.{builds, builds_at, work_of, work_step, work}

pub either : {A : Type 0} (b : Bool) {x y z : A} → x ≡ z → y ≡ z → cond b x y ≡ z
either true p q = p
either false p q = q

-- ---- a consequent that adds nothing
pub no-build : (D : Deck) (floor : List ℕ) (B : Bounds) (f : ℕ → ℕ → Model → Model) (e : ℕ) (m : Model) (k : Concept) → builds k ≡ false → work_of D floor B f k e m ≡ m
unfolding work_of
no-build D floor B f e m (Concept.And l) h = clash (cc)
no-build D floor B f e m (Concept.Some (Role.Named r) b) h = clash (cc)
no-build D floor B f e m (Concept.Some (Role.Inverse r) b) h = refl
no-build D floor B f e m Concept.Top h = refl
no-build D floor B f e m Concept.Bot h = refl
no-build D floor B f e m (Concept.Atomic k) h = refl
no-build D floor B f e m (Concept.Nominal i) h = refl
no-build D floor B f e m (Concept.SelfRestriction r) h = refl
no-build D floor B f e m (Concept.Not b) h = refl
no-build D floor B f e m (Concept.Or l) h = refl
no-build D floor B f e m (Concept.All r b) h = refl
no-build D floor B f e m (Concept.Min n r b) h = refl
no-build D floor B f e m (Concept.Max n r b) h = refl

pub form-idle : (D : Deck) (floor : List ℕ) (B : Bounds) (c e : ℕ) (m : Model) → builds_at D c ≡ false → work D floor B c e m ≡ m
unfolding work numbered work_step builds_at
form-idle D floor B c e m h = either m.state.tripped refl (no-build D floor B _ e m (concept_at D c) h)

-- a concept that is neither an And nor a Some
not-builds : (s : List ℕ) (v : ConceptExpr) → OneOf (0 ∷ 1 ∷ 2 ∷ 3 ∷ 4 ∷ 5 ∷ 7 ∷ 9 ∷ 10 ∷ 11 ∷ []) (tag_of the_type v) → false ≡ builds (expr_of s v)
not-builds s ConceptExpr.Top h = refl
not-builds s ConceptExpr.Bot h = refl
not-builds s (ConceptExpr.Atomic k) h = refl
not-builds s (ConceptExpr.Nominal i) h = refl
not-builds s (ConceptExpr.SelfRestriction r) h = refl
not-builds s (ConceptExpr.Not b) h = refl
not-builds s (ConceptExpr.And l) h = absurd (miss (0 ∷ 1 ∷ 2 ∷ 3 ∷ 4 ∷ 5 ∷ 7 ∷ 9 ∷ 10 ∷ 11 ∷ []) 6 tt h)
not-builds s (ConceptExpr.Or l) h = refl
not-builds s (ConceptExpr.Some r b) h = absurd (miss (0 ∷ 1 ∷ 2 ∷ 3 ∷ 4 ∷ 5 ∷ 7 ∷ 9 ∷ 10 ∷ 11 ∷ []) 8 tt h)
not-builds s (ConceptExpr.All r b) h = refl
not-builds s (ConceptExpr.Min n r b) h = refl
not-builds s (ConceptExpr.Max n r b) h = refl

module _ (s : List ℕ) (A : IsAccepted s) (c : ℕ) {expr : ConceptExpr} (R : ConceptRead s c expr) where
  builds-read : (v : ConceptExpr) → expr ≡ v → builds (expr_of s v) ≡ builds_at (deck_of s) c
  unfolding builds_at
  builds-read v p = ap builds (read_is s A c R v p)

  pub builds-and : (l : Span) → expr ≡ ConceptExpr.And l → true ≡ builds_at (deck_of s) c
  builds-and l p = builds-read _ p

  pub builds-some : (w : RoleWord) (k : ConceptId) → expr ≡ ConceptExpr.Some w k → {b : Bool} → b ≡ inverse_word w.0 → not b ≡ builds_at (deck_of s) c
  builds-some w k p e = ap not e ∙ by-word (inverse_word w.0) refl ∙ builds-read _ p
    where
      by-word : (b : Bool) → inverse_word w.0 ≡ b → not b ≡ builds (expr_of s (ConceptExpr.Some w k))
      by-word true h = rw h refl
      by-word false h = rw h refl

  pub builds-other : OneOf (0 ∷ 1 ∷ 2 ∷ 3 ∷ 4 ∷ 5 ∷ 7 ∷ 9 ∷ 10 ∷ 11 ∷ []) (tag_of the_type expr) → false ≡ builds_at (deck_of s) c
  builds-other h = not-builds s expr h ∙ builds-read expr refl
