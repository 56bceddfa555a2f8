-- `work` by the form of its concept, and what a step of the code leaves by it.
--     work-stuck                                                    after a trip nothing
--     and-leaves, inverse-leaves, some-stops, some-goes, other-leaves   a concept that was read
--     Descending                                                    the loop that goes down Somes
--     body-ready, body-leaves                                       the target of a Some
use Prim.Native.Nat.{ℕ, ◌<◌, ◌≤◌}
use mathlib.Core.Bool.{true, false}
use mathlib.Core.Path.{◌≡◌, refl, sym, ap, ◌∙◌}
use mathlib.Core.List.{List, [], ◌∷◌}
use native.Mathlib.Omega.{arith}
use lib.ListN.{length}
use types.Run.{OneOf, miss}
use denote.Enum.Declared.{tag_of}
use Rattle.deck.specs.contracts.concepts.ConceptExpr.{the_type}
use Rattle.deck.specs.declared.concepts.ConceptExpr.{ConceptExpr}
use Rattle.deck.specs.declared.numbers.ConceptId.{ConceptId}
use Rattle.deck.specs.declared.numbers.RoleId.{RoleId}
use Rattle.deck.specs.declared.numbers.RoleWord.{RoleWord}
use Rattle.deck.specs.declared.rows.Span.{Span}
use Rattle.deck.specs.Numbers.{inverse_word, role_number}
use Rattle.deck.specs.Deck.{Deck, Concept, Role, role_of, concept_at}
use Rattle.deck.specs.Content.{IsAccepted, deck_of}
use Rattle.deck.specs.Reads.{ConceptRead, expr_of, list_of}
use Rattle.eval.specs.Lent.{label_width}
use Rattle.eval.specs.Numbered.{numbered, below}
use Rattle.eval.proofs.Falling.{below-is}
use Rattle.eval.proofs.Steps.{each_below}
use Rattle.build.specs.declared.bounds.Bounds.{Bounds}
use Rattle.build.specs.declared.tally.Tally.{Tally}
use Rattle.build.specs.Push.{Step}
use Rattle.atoms.specs.Walk.{walk}
use Rattle.atoms.specs.Floor.{floored}
use Rattle.build.specs.Intern.{index_of}
use Rattle.build.specs.Push.{quiet}
use Rattle.build.specs.Model.{Model, reach, Buffers, lent, begun, Prepared, Built}
use Rattle.build.specs.Exists.{body_label, reach_body, work_of, work_step, idle, work}
use Rattle.atoms.specs.Body.{Joined, body_of}
use Rattle.atoms.proofs.FloorLaws.{read_is, fits_read}
use Rattle.atoms.proofs.WalkLaws.{walk_same}
use Rattle.build.proofs.BuildLaws.{built-same, built-log, built-is, built-quiet, built-start, built-trans, built-tripped, prepared-after}

module _ (D : Deck) (floor : List ℕ) (B : Bounds) where
  pub work-stuck : (c e : ℕ) (m : Model) → m.state.tripped ≡ true → work D floor B c e m ≡ m
  unfolding work numbered work_step
  work-stuck c e m w = rw w

  -- before one
  work-at : (c e : ℕ) (m : Model) → m.state.tripped ≡ false → work_of D floor B (below (idle D floor B) (work_step D floor B) c) (concept_at D c) e m ≡ work D floor B c e m
  unfolding work numbered work_step
  work-at c e m w = rw w

  -- a concept below another, as the work of that one sees it
  pub below-work : (c o : ℕ) → o < c → below (idle D floor B) (work_step D floor B) c o ≡ work D floor B o
  unfolding work
  below-work c o h = below-is (idle D floor B) (work_step D floor B) c o h

-- a concept that is neither an And nor a Some
no-work : (D : Deck) (floor : List ℕ) (B : Bounds) (s : List ℕ) (f : ℕ → ℕ → Model → Model) (e : ℕ) (m : Model) (v : ConceptExpr) → OneOf (0 ∷ 1 ∷ 2 ∷ 3 ∷ 4 ∷ 5 ∷ 7 ∷ 9 ∷ 10 ∷ 11 ∷ []) (tag_of the_type v)
    → m ≡ work_of D floor B f (expr_of s v) e m
unfolding work_of
no-work D floor B s f e m ConceptExpr.Top h = refl
no-work D floor B s f e m ConceptExpr.Bot h = refl
no-work D floor B s f e m (ConceptExpr.Atomic k) h = refl
no-work D floor B s f e m (ConceptExpr.Nominal i) h = refl
no-work D floor B s f e m (ConceptExpr.SelfRestriction r) h = refl
no-work D floor B s f e m (ConceptExpr.Not b) h = refl
no-work D floor B s f e m (ConceptExpr.And l) h = absurd (miss (0 ∷ 1 ∷ 2 ∷ 3 ∷ 4 ∷ 5 ∷ 7 ∷ 9 ∷ 10 ∷ 11 ∷ []) 6 tt h)
no-work D floor B s f e m (ConceptExpr.Or l) h = refl
no-work D floor B s f e m (ConceptExpr.Some r b) h = absurd (miss (0 ∷ 1 ∷ 2 ∷ 3 ∷ 4 ∷ 5 ∷ 7 ∷ 9 ∷ 10 ∷ 11 ∷ []) 8 tt h)
no-work D floor B s f e m (ConceptExpr.All r b) h = refl
no-work D floor B s f e m (ConceptExpr.Min n r b) h = refl
no-work D floor B s f e m (ConceptExpr.Max n r b) h = refl

-- ---- a concept that was read, from the model that the buffers hold
module _ (s : List ℕ) (A : IsAccepted s) (c : ℕ) {expr : ConceptExpr} (R : ConceptRead s c expr) (floor : List ℕ) (B : Bounds) (e : ℕ) (b : Buffers) (t : Tally) where
  abbrev D : Deck
  D = deck_of s

  abbrev M : Model
  M = begun D b t

  work-read : (v : ConceptExpr) → expr ≡ v → work_of D floor B (below (idle D floor B) (work_step D floor B) c) (expr_of s v) e M ≡ work D floor B c e M
  work-read v p = ap (λ (k : Concept). work_of D floor B (below (idle D floor B) (work_step D floor B) c) k e M) (read_is s A c R v p) ∙ work-at D floor B c e M refl

  pub other-leaves : OneOf (0 ∷ 1 ∷ 2 ∷ 3 ∷ 4 ∷ 5 ∷ 7 ∷ 9 ∷ 10 ∷ 11 ∷ []) (tag_of the_type expr) → {label : List ℕ} → Prepared s B b t floor label → Built D B b t b label (quiet t) (work D floor B c e M)
  other-leaves h P = built-is (built-same P) (no-work D floor B s _ e M expr h ∙ work-read expr refl)

  pub and-leaves : (l : Span) → expr ≡ ConceptExpr.And l → {b₁ : Buffers} {l₁ : List ℕ} {z : Step}
      → Built D B b t b₁ l₁ z (walk (λ o. work D floor B o e) (list_of s l) M) → Built D B b t b₁ l₁ z (work D floor B c e M)
  unfolding work_of
  and-leaves l p X =
      let f : ℕ → Model → Model = λ o. below (idle D floor B) (work_step D floor B) c o e in
      let same = walk_same f (λ o. work D floor B o e) (list_of s l) (λ o i. ap (λ (h : ℕ → Model → Model). h e) (below-work D floor B c o (each_below c (list_of s l) (fits_read s A c R _ p).below o i))) M in
      built-is X (sym same ∙ work-read (ConceptExpr.And l) p)

  module _ (w : RoleWord) (k : ConceptId) (p : expr ≡ ConceptExpr.Some w k) where
    -- the role of the word
    by-role : (r : Role) → role_of w.0 ≡ r → work_of D floor B (below (idle D floor B) (work_step D floor B) c) (Concept.Some r k.0) e M ≡ work D floor B c e M
    by-role r q = ap (λ (r : Role). work_of D floor B (below (idle D floor B) (work_step D floor B) c) (Concept.Some r k.0) e M) (sym q) ∙ work-read (ConceptExpr.Some w k) p

    pub inverse-leaves : inverse_word w.0 ≡ true → {label : List ℕ} → Prepared s B b t floor label → Built D B b t b label (quiet t) (work D floor B c e M)
    unfolding work_of
    inverse-leaves h P = built-is (built-same P) (by-role (Role.Inverse (role_number w.0)) (rw h))

    module _ (h : inverse_word w.0 ≡ false) {r : RoleId} (q : r.0 ≡ role_number w.0) where
      some_is : work D floor B k.0 (index_of M.labels (body_label D floor B r.0 k.0 M)) (reach_body D floor B r.0 k.0 e M) ≡ work D floor B c e M
      unfolding work_of
      some_is =
          ap (λ (f : ℕ → Model → Model). f (index_of M.labels (body_label D floor B r.0 k.0 M)) (reach_body D floor B r.0 k.0 e M)) (sym (below-work D floor B c k.0 (fits_read s A c R _ p).1))
          ∙ by-role (Role.Named r.0) (rw (h, q))

      module _ {b₁ : Buffers} {l₁ : List ℕ} {z : Step} (X : Built D B b t b₁ l₁ z (reach_body D floor B r.0 k.0 e M)) where
        pub some-stops : z.tripped ≡ true → Built D B b t b₁ l₁ z (work D floor B c e M)
        some-stops u = built-is X (sym (work-stuck D floor B k.0 _ _ (built-tripped X ∙ u)) ∙ some_is)

        pub some-goes : z.tripped ≡ false → {to : ℕ} → to ≡ index_of M.labels (body_label D floor B r.0 k.0 M) → work D floor B c e M ≡ work D floor B k.0 to (begun D b₁ z.tally)
        some-goes u g =
            sym
            (ap (λ (x : ℕ). work D floor B k.0 x (begun D b₁ z.tally)) g ∙ ap (work D floor B k.0 (index_of M.labels (body_label D floor B r.0 k.0 M))) (built-start X u)
            ∙ some_is)

-- ---- a loop down Somes: from concept c at element e it has come to concept c₁ at e₁, and the buffers hold where it is
pub record Descending (D : Deck) (floor : List ℕ) (B : Bounds) (b : Buffers) (t : Tally) (c e : ℕ) (b₁ : Buffers) (l₁ : List ℕ) (held : Tally) (c₁ e₁ : ℕ) : Type 0 where
  pub built : Built D B b t b₁ l₁ (quiet held) (begun D b₁ held)
  pub goes : work D floor B c e (begun D b t) ≡ work D floor B c₁ e₁ (begun D b₁ held)
  pub down : c₁ ≤ c

pub descending-start : {s : List ℕ} {B : Bounds} {b : Buffers} {t : Tally} {floor label : List ℕ} → Prepared s B b t floor label → (c e : ℕ) → Descending (deck_of s) floor B b t c e b label t c e
descending-start P c e = record { built = built-same P; goes = refl; down = omega arith }

module _ {D : Deck} {floor : List ℕ} {B : Bounds} {b : Buffers} {t : Tally} {c e : ℕ} {b₁ : Buffers} {l₁ : List ℕ} {held : Tally} {c₁ e₁ : ℕ} (G : Descending D floor B b t c e b₁ l₁ held c₁ e₁) {b₂ : Buffers} {l₂ : List ℕ} {z : Step} where
  pub descending-next : {m : Model} → Built D B b₁ held b₂ l₂ z m → z.tripped ≡ false → {k to : ℕ} → k < c₁ → work D floor B c₁ e₁ (begun D b₁ held) ≡ work D floor B k to (begun D b₂ z.tally)
      → Descending D floor B b t c e b₂ l₂ z.tally k to
  descending-next X u h q = record { built = built-quiet (built-trans G.built X) u; goes = G.goes ∙ q; down = omega (arith, h, G.down) }

  pub descending-ends : Built D B b₁ held b₂ l₂ z (work D floor B c₁ e₁ (begun D b₁ held)) → Built D B b t b₂ l₂ z (work D floor B c e (begun D b t))
  descending-ends X = built-is (built-trans G.built X) (sym G.goes)

-- ---- the target of a Some: the label l and the log g are those of its body, n the total of reasons
module _ {s : List ℕ} {B : Bounds} {b : Buffers} {t : Tally} {floor label : List ℕ} (P : Prepared s B b t floor label) (r k : ℕ) {l g : List ℕ} {n : ℕ} (J : Joined l g n (body_of (deck_of s) r k b.log t.reasons))
    (wide : length l ≡ label_width (deck_of s)) (size : length g ≡ length b.log) where
  abbrev after : Tally
  after = record { elements = t.elements; edges = t.edges; reasons = n }

  body-built : Built (deck_of s) B b t (lent b.labels b.edges g) l (quiet after) (begun (deck_of s) (lent b.labels b.edges g) after)
  body-built = built-log P g size n wide

  pub body-ready : Prepared s B (lent b.labels b.edges g) after floor l
  body-ready = prepared-after P body-built refl

  pub body-label : floored (deck_of s) floor l ≡ body_label (deck_of s) floor B r k (begun (deck_of s) b t)
  body-label = ap (floored (deck_of s) floor) J.label

  pub body-leaves : (e : ℕ) {b₁ : Buffers} {l₁ : List ℕ} {z : Step} → Built (deck_of s) B (lent b.labels b.edges g) after b₁ l₁ z (reach B r e (floored (deck_of s) floor l) (begun (deck_of s) (lent b.labels b.edges g) after))
      → Built (deck_of s) B b t b₁ l₁ z (reach_body (deck_of s) floor B r k e (begun (deck_of s) b t))
  unfolding reach_body
  body-leaves e X = built-is (built-trans body-built X) (rw (J.label, J.log, J.reasons))
