-- Judging a concept that was read: what a leaf is, what an And and a Some come to, and one step of a Some over the edges that leave an element.
use Prim.Native.Nat.{ℕ, ◌+◌, ◌/◌, ◌<◌}
use mathlib.Core.Bool.{Bool, true, false, cond, ◌&&◌}
use mathlib.Core.Path.{◌≡◌, refl, sym, ap, ◌∙◌}
use mathlib.Core.List.{List, [], ◌∷◌}
use borrow.Author.Tests.{eq-eqb}
use lib.Dec.{eqb}
use lib.ListN.{length, get_or, drop}
use Rattle.deck.specs.Deck.{Deck, Role, Concept, concept_at}
use Rattle.deck.specs.Numbers.{inverse_word}
use Rattle.deck.specs.declared.concepts.ConceptExpr.{ConceptExpr}
use Rattle.deck.specs.declared.rows.Span.{Span}
use Rattle.deck.specs.Reads.{ConceptRead, expr_of, ExprFits, list_of}
use Rattle.deck.specs.Content.{IsAccepted, deck_of}
use Rattle.deck.proofs.SoundLaws.{sound}
use Rattle.eval.specs.declared.edges.Edge.{Edge}
use Rattle.eval.specs.declared.judgement.Construct.TheVariants.{InverseSome}
use Rattle.eval.specs.declared.judgement.Judgement.{Judgement}
use Rattle.eval.specs.declared.judgement.Judgement.TheVariants.{True, Unresolved}
use Rattle.eval.specs.declared.shape.Shape.{Shape}
use Rattle.eval.specs.declared.standing.Standing.{Standing}
use Rattle.eval.specs.Edges.{edges_of, leaves, under}
use Rattle.eval.specs.Leaving.{leaving}
use Rattle.eval.specs.Judge.{judge, judge_of, and_from, some_from}
use Rattle.eval.specs.Leaf.{AndAt, SomeAt}
use Rattle.eval.specs.Lent.{Fits, structure_of}
use Rattle.eval.specs.Memo.{Remembers, code_of, key_of, stored}
use Rattle.eval.specs.Standing.{fresh, some_next}
use Rattle.eval.specs.Structure.{Structure}
use Rattle.eval.proofs.Clash.{clash}
use Rattle.eval.proofs.Hits.{hits, hits-skip, hits-step, hits-stop}
use Rattle.eval.proofs.LeavingLaws.{leaves-from}
use Rattle.eval.proofs.LentLaws.{some_walk}
use Rattle.eval.proofs.MemoLaws.{stored-right}
use Rattle.eval.proofs.RoleLaws.{inverse-word}
use Rattle.eval.proofs.Steps.{judge-is}

-- ---- a concept that was read
module _ (s : List ℕ) (A : IsAccepted s) (c : ℕ) {expr : ConceptExpr} (R : ConceptRead s c expr) where
  abbrev judged : List ℕ → Shape → ℕ → List (List ℕ) → Judgement
  judged labels shape e rows = judge (deck_of s) (structure_of (deck_of s) labels rows shape) c e

  pub leaf-is : (labels : List ℕ) (shape : Shape) (e : ℕ) (v : ConceptExpr) → expr ≡ v → (rows : List (List ℕ)) → judge_of (deck_of s) (structure_of (deck_of s) labels rows shape) (expr_of s v) (judge (deck_of s) (structure_of (deck_of s) labels rows shape)) e ≡ judged labels shape e rows
  leaf-is labels shape e v p rows = judge-is (deck_of s) (sound s A) (structure_of (deck_of s) labels rows shape) c e (expr_of s v) (sym R.is ∙ ap (expr_of s) p)

  pub leaf-fits : (v : ConceptExpr) → expr ≡ v → ExprFits s c v
  leaf-fits v p = rw p at R.fits

  pub leaf-and : (l : Span) → expr ≡ ConceptExpr.And l → AndAt s c l
  leaf-and l p = record { is = sym R.is ∙ ap (expr_of s) p; fits = leaf-fits (ConceptExpr.And l) p }

  module _ (w b : ℕ) (p : expr ≡ ConceptExpr.Some (record { 0 = w }) (record { 0 = b })) where
    pub leaf-some : inverse_word w ≡ false → SomeAt s c w b
    leaf-some q =
        let f = leaf-fits (ConceptExpr.Some (record { 0 = w }) (record { 0 = b })) p in
        record { is = sym R.is ∙ ap (expr_of s) p; role = f.0; body = f.1; named = inverse-word w ∙ q }

    pub leaf-inverse : (labels : List ℕ) (shape : Shape) (e : ℕ) → inverse_word w ≡ true → (rows : List (List ℕ)) → Unresolved InverseSome ≡ judged labels shape e rows
    unfolding judge_of
    leaf-inverse labels shape e q rows = rw (inverse-word w ∙ q) at (leaf-is labels shape e (ConceptExpr.Some (record { 0 = w }) (record { 0 = b })) p rows)

-- ---- an And, a Some
-- where the edges of role q that leave x lead
abbrev pub hits_from : Deck → ℕ → ℕ → List Edge → List ℕ
hits_from D q x l = hits (leaves D q x) (λ e. e.to.0) l

-- the edges that leave x, alone
pub hits-leaving : (D : Deck) (q x : ℕ) (es : List Edge) → hits_from D q x (leaving x es) ≡ hits_from D q x es
unfolding hits
hits-leaving D q x [] = refl
hits-leaving D q x (e ∷ es) = go (eqb e.from.0 x) refl (hits-leaving D q x es)
  where
    go : (b : Bool) → eqb e.from.0 x ≡ b → hits_from D q x (leaving x es) ≡ hits_from D q x es → hits_from D q x (cond b (e ∷ leaving x es) (leaving x es)) ≡ cond (b && under D q e) (e.to.0 ∷ hits_from D q x es) (hits_from D q x es)
    go true h ih = rw (h, ih) refl
    go false h ih = ih

module _ (s labels : List ℕ) (rows : List (List ℕ)) (shape : Shape) where
  abbrev D : Deck
  D = deck_of s

  abbrev S : Structure
  S = structure_of D labels rows shape

  abbrev es : List Edge
  es = edges_of rows shape.edges

  module _ (F : Fits s labels rows shape) where
    pub and_is : (c e : ℕ) {l : Span} → AndAt s c l → and_from (λ o. judge D S o e) fresh (list_of s l) ≡ judge D S c e
    unfolding judge_of
    and_is c e {l} a = judge-is D (sound s F.accepted) S c e (Concept.And (list_of s l)) a.is

    pub some_is : (c x : ℕ) {w b q : ℕ} → SomeAt s c w b → q ≡ w / 2 → some_from (judge D S b) fresh (hits_from D q x es) ≡ judge D S c x
    unfolding judge_of
    some_is c x {w} {b} {q} a of = rw of (go (inverse_word w) (sym (inverse-word w) ∙ a.named) a.is)
      where
        go : (v : Bool) → v ≡ false → concept_at D c ≡ Concept.Some (cond v (Role.Inverse (w / 2)) (Role.Named (w / 2))) b → some_from (judge D S b) fresh (hits_from D (w / 2) x es) ≡ judge D S c x
        go true n q = clash (cc)
        go false n q = some_walk s labels rows shape F (Role.Named (w / 2)) x b ∙ judge-is D (sound s F.accepted) S c x (Concept.Some (Role.Named (w / 2)) b) q

-- one step of a Some over the edges that leave x, at position i of them
module _ (D : Deck) (q x : ℕ) (es : List Edge) (f : ℕ → Judgement) (s : Standing) (i : ℕ) (e : Edge) (h : i < length (leaving x es)) (is : get_or (leaving x es) i e ≡ e) {b : Bool} (of : b ≡ under D q e) where
  test : leaves D q x (get_or (leaving x es) i e) ≡ b
  test = rw (is, eq-eqb e.from.0 x (leaves-from x es i e h is)) (sym of)

  pub some-skip : b ≡ false → some_from f s (hits_from D q x (drop i (leaving x es))) ≡ some_from f s (hits_from D q x (drop (i + 1) (leaving x es)))
  some-skip n = hits-skip (leaves D q x) (λ (d : Edge). d.to.0) f s e (leaving x es) i h (test ∙ n)

  module _ (y : b ≡ true) {j : Judgement} {next : Standing} (v : j ≡ f e.to.0) (u : next ≡ some_next s j) where
    to : j ≡ f (get_or (leaving x es) i e).to.0
    to = v ∙ ap (λ (d : Edge). f d.to.0) (sym is)

    pub some-step : some_from f s (hits_from D q x (drop i (leaving x es))) ≡ some_from f next (hits_from D q x (drop (i + 1) (leaving x es)))
    some-step = hits-step (leaves D q x) (λ (d : Edge). d.to.0) f s e (leaving x es) i h (test ∙ y) to u

    pub some-stop : next.ended ≡ true → True ≡ some_from f s (hits_from D q x (drop i (leaving x es)))
    some-stop k = hits-stop (leaves D q x) (λ (d : Edge). d.to.0) f s e (leaving x es) i h (test ∙ y) to u k

-- ---- what is remembered
pub remembered-with : {D : Deck} {S : Structure} {memo : List ℕ} → Remembers D S memo → (c e : ℕ) → e < S.size → {j : Judgement} → j ≡ judge D S c e → {is : List ℕ} → is ≡ stored memo (key_of S.size c e) (code_of j) → Remembers D S is
remembered-with {D} {S} R c e h {j} p q = rw q (stored-right D S R c e h j p)
