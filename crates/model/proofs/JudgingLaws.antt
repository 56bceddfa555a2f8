-- Judging all axioms: the words stored so far, and what is still to come. Assumes nothing.
use Prim.Native.Nat.{ℕ, ◌+◌, ◌-◌, ◌*◌, ◌<◌, ◌≤◌}
use mathlib.Core.Bool.{Bool, true, false, ◌||◌}
use mathlib.Core.Path.{◌≡◌, refl, sym, ap, ◌∙◌}
use mathlib.Core.List.{List, [], ◌∷◌, ◌++◌, map, flat_map}
use native.Mathlib.Omega.{arith}
use lib.ListN.{length, get_or, take, drop, drop_of_length-le, length-append}
use lib.Seq.{sets, sets-eq, length-sets, paste, take_all}
use borrow.Author.Tests.{lt-ltb}
use Rattle.deck.specs.Deck.{Deck, Axiom, axiom_at, axiom_count}
use Rattle.eval.specs.declared.verdict.Verdict.{Verdict}
use Rattle.eval.specs.declared.verdict.Verdict.TheVariants.{Holds, Fails, UnhandledAxiom, UnhandledConcept, GuardedRoleHasEdges}
use Rattle.eval.specs.declared.verdict.Witnesses.TheVariants.{One, Two, Three}
use Rattle.eval.specs.Lists.{any}
use Rattle.eval.specs.Structure.{Structure}
use Rattle.eval.specs.Verdict.{words_of, verdict}
use Rattle.eval.proofs.Walks.{list-step}
use Rattle.std.specs.Ordering.{ord_max}
use Rattle.model.specs.contracts.outcome.OutcomeOrd.TheImpl.{cmp-value}
use Rattle.model.specs.declared.outcome.Outcome.{Outcome}
use Rattle.model.specs.declared.outcome.Outcome.TheVariants.{Confirmed, Open, Failed}
use Rattle.atoms.specs.Rows.{put}
use Rattle.model.specs.Outcome.{is_fails, is_unresolved, outcome_by, outcome_at, outcome_of}
use Rattle.model.specs.Run.{verdicts_in, words_in}
use Rattle.build.proofs.PushLaws.{sets-append}

-- what is put at the start is stored from the start on
pub put-sets : {A : Type 0} (buf xs : List A) → length xs ≤ length buf → sets buf 0 xs ≡ put buf xs
unfolding put
put-sets buf xs h = let z : 0 + length xs ≡ length xs = omega arith in rw z at (sets-eq xs buf 0 (omega arith))

-- so is what is pasted
pub paste-sets : (buf xs : List ℕ) (i n : ℕ) → length xs ≡ n → i + n ≤ length buf → paste buf i xs n ≡ sets buf i xs
paste-sets buf xs i n e h =
    ap (λ l. take i buf ++ l ++ drop (i + n) buf) (take_all n xs (omega (arith, e))) ∙ ap (λ m. take i buf ++ xs ++ drop (i + m) buf) (sym e) ∙ sym (sets-eq xs buf i (omega (arith, e, h)))

-- a verdict has four words
pub four-words : (v : Verdict) → get_or (words_of v) 0 0 ∷ get_or (words_of v) 1 0 ∷ get_or (words_of v) 2 0 ∷ get_or (words_of v) 3 0 ∷ [] ≡ words_of v
four-words Holds = refl
four-words (Fails (One x)) = refl
four-words (Fails (Two x y)) = refl
four-words (Fails (Three x y z)) = refl
four-words (UnhandledAxiom tag part) = refl
four-words (UnhandledConcept tag) = refl
four-words (GuardedRoleHasEdges r) = refl

pub length-words : (v : Verdict) → length (words_of v) ≡ 4
length-words v = ap length (sym (four-words v))

-- ---- outcomes
abbrev pub worse : Outcome → Outcome → Outcome
worse Failed b = Failed
worse Open Failed = Failed
worse Open Open = Open
worse Open Confirmed = Open
worse Confirmed b = b

-- `max` of their order
pub worse-max : (a b : Outcome) → ord_max cmp-value.it a b ≡ worse a b
worse-max Failed Failed = refl
worse-max Failed Open = refl
worse-max Failed Confirmed = refl
worse-max Open Failed = refl
worse-max Open Open = refl
worse-max Open Confirmed = refl
worse-max Confirmed Failed = refl
worse-max Confirmed Open = refl
worse-max Confirmed Confirmed = refl

worse-assoc : (a b c : Outcome) → worse (worse a b) c ≡ worse a (worse b c)
worse-assoc Failed b c = refl
worse-assoc Open Failed c = refl
worse-assoc Open Open Failed = refl
worse-assoc Open Open Open = refl
worse-assoc Open Open Confirmed = refl
worse-assoc Open Confirmed c = refl
worse-assoc Confirmed b c = refl

worse-best : (a : Outcome) → worse a Confirmed ≡ a
worse-best Failed = refl
worse-best Open = refl
worse-best Confirmed = refl

worse-by : (f u g w : Bool) → outcome_by (f || g) (u || w) ≡ worse (outcome_by f u) (outcome_by g w)
worse-by true u g w = refl
worse-by false true true w = refl
worse-by false true false true = refl
worse-by false true false false = refl
worse-by false false g w = refl

worse-open : (f u : Bool) → outcome_by f true ≡ worse (outcome_by f u) Open
worse-open true u = refl
worse-open false true = refl
worse-open false false = refl

-- one more verdict
outcome-more : (v : Verdict) (vs : List Verdict) → outcome_of 0 (v ∷ vs) ≡ worse (outcome_at v) (outcome_of 0 vs)
unfolding outcome_of any
outcome-more v vs = worse-by (is_fails v) (is_unresolved v) (any (map is_fails vs)) (any (map is_unresolved vs))

-- a reason beside the verdicts
pub outcome-reasons : (n : ℕ) (vs : List Verdict) → 0 < n → outcome_of n vs ≡ worse (outcome_of 0 vs) Open
unfolding outcome_of
outcome-reasons n vs h = rw (lt-ltb 0 n h) (worse-open (any (map is_fails vs)) (any (map is_unresolved vs)))

module _ (D : Deck) (S : Structure) where
  -- the axiom before the next is this one
  pub last-next : (i : ℕ) {v : Verdict} → v ≡ verdict D S (axiom_at D i) → v ≡ verdict D S (axiom_at D (i + 1 - 1))
  last-next i p = p ∙ ap (λ n. verdict D S (axiom_at D n)) (omega arith)

  pub length-all : (l : List Axiom) → length (words_in (map (verdict D S) l)) ≡ 4 * length l
  unfolding flat_map
  length-all [] = refl
  length-all (a ∷ l) = length-append (words_of (verdict D S a)) (words_in (map (verdict D S) l)) ∙ omega (arith, length-words (verdict D S a), length-all l)

  -- the verdicts from axiom i on
  abbrev rest : ℕ → List Verdict
  rest i = map (verdict D S) (drop i D.axioms)

  -- axioms below i are judged
  pub record Judging (was : List ℕ) (i : ℕ) (now : List ℕ) (j : Outcome) : Type 0 where
    pub words : put was (words_in (verdicts_in D S)) ≡ sets now (i * 4) (words_in (rest i))
    pub worst : outcome_of 0 (verdicts_in D S) ≡ worse j (outcome_of 0 (rest i))
    pub size : length now ≡ length was

  pub judging-start : (was : List ℕ) → 4 * axiom_count D ≤ length was → Judging was 0 was Confirmed
  judging-start was h = record { words = sym (put-sets was (words_in (verdicts_in D S)) (omega (arith, length-all D.axioms))); worst = refl; size = refl }

  module _ {was : List ℕ} {i : ℕ} {now : List ℕ} {j : Outcome} (G : Judging was i now j) where
    none_left : axiom_count D ≤ i → rest i ≡ []
    none_left h = rw (drop_of_length-le D.axioms h)

    pub judged-words : axiom_count D ≤ i → now ≡ put was (words_in (verdicts_in D S))
    unfolding flat_map
    judged-words h = sym (G.words ∙ ap (λ l. sets now (i * 4) (words_in l)) (none_left h))

    pub judged-worst : axiom_count D ≤ i → j ≡ outcome_of 0 (verdicts_in D S)
    unfolding outcome_of any
    judged-worst h = sym (G.worst ∙ ap (λ l. worse j (outcome_of 0 l)) (none_left h) ∙ worse-best j)

    module _ (h : i < axiom_count D) (v : Verdict) (p : v ≡ verdict D S (axiom_at D i)) where
      one_left : rest i ≡ v ∷ rest (i + 1)
      one_left = ap (map (verdict D S)) (list-step (Axiom.DeclareClass 0) D.axioms i h) ∙ ap (λ w. w ∷ rest (i + 1)) (sym p)

      pub judging-next : {now' : List ℕ} {j' : Outcome} → now' ≡ sets now (i * 4) (words_of v) → j' ≡ worse j (outcome_at v) → Judging was (i + 1) now' j'
      unfolding flat_map
      judging-next {now'} {j'} q r =
          let e : i * 4 + length (words_of v) ≡ (i + 1) * 4 = omega (arith, length-words v) in
          record {
            words = G.words ∙ ap (λ l. sets now (i * 4) (words_in l)) one_left ∙ sets-append (words_of v) (words_in (rest (i + 1))) now (i * 4) ∙ ap (λ n. sets (sets now (i * 4) (words_of v)) n (words_in (rest (i + 1)))) e ∙ ap (λ b. sets b ((i + 1) * 4) (words_in (rest (i + 1)))) (sym q);
            worst = G.worst ∙ ap (λ l. worse j (outcome_of 0 l)) one_left ∙ ap (worse j) (outcome-more v (rest (i + 1))) ∙ sym (worse-assoc j (outcome_at v) (outcome_of 0 (rest (i + 1)))) ∙ rw r;
            size = ap length q ∙ length-sets now (i * 4) (words_of v) ∙ G.size;
          }
