-- The tables of expanding by the facts: filling them, and going by them.
--     comes, fact-turn, facts-walk  a walk over the facts of a class goes from one to the next
--     indexed-start, indexed-step  the facts by class
--     marked_step                  the classes with a fact
--     class-passed                 a class that e has not, or that no fact is of, changes nothing
--     turns-idle                   without a fact no turn changes anything
use Rattle.build.specs.declared.plan.Plan.{Plan}
use Rattle.deck.specs.Content.{deck_of}
use Rattle.std.specs.Option.{ForSome}
use Rattle.std.specs.Prelude.{Option, Some, None, IfSome}
use mathlib.Core.List.{Memᴰ as Member}
use Rattle.model.specs.FactIndex.{entry_of, FactOf}
use Rattle.model.specs.FactWalk.{facts_from, facts_at}
use Rattle.eval.proofs.ListLaws.{member-at, in-keep, in-range}
use Rattle.eval.specs.Lists.{keep}
use Prim.Native.Nat.{ℕ, zero, suc, ◌+◌, ◌-◌, ◌/◌, ◌<◌, ◌≤◌}
use mathlib.Core.Path.{◌≡◌, refl, sym, ap, ◌∙◌, subst}
use mathlib.Core.Bool.{Bool, true, false, cond, ◌||◌, ◌&&◌, or-true}
use mathlib.Core.List.{List, [], ◌∷◌}
use mathlib.Core.Logic.{⊎_elim}
use native.Mathlib.Nat.{eq-or-lt_of_le}
use native.Mathlib.Numerals.{add-one}
use native.Mathlib.Omega.{arith}
use lib.ListN.{length, get_or, drop, set, drop_of_length-le, length-set}
use lib.Seq.{get_or-set_same, get_or-set_other}
use lib.Dec.{eqb}
use borrow.Author.Tests.{eq-eqb, ne_eqb, eqb-true, eqb-false}
use Rattle.deck.specs.Deck.{Deck, Fact, class_count, fact_count, fact_at}
use Rattle.eval.specs.Lists.{range}
use Rattle.eval.proofs.Clash.{clash}
use Rattle.eval.proofs.Walks.{list-step, range-end, range-step}
use Rattle.build.specs.declared.bounds.Bounds.{Bounds}
use Rattle.atoms.specs.Walk.{walk}
use Rattle.atoms.specs.Label.{label_has, insert_bit}
use Rattle.build.specs.Model.{Model}
use Rattle.model.specs.Expand.{fact_step, work_facts, class_step, work_classes, highest, next_turn, turns}
use Rattle.model.specs.FactIndex.{next_fact, Indexed, Marked}
use Rattle.build.proofs.SeedLaws.{no_fact}
use Rattle.atoms.proofs.WalkLaws.{walk-fixed}
use Rattle.model.proofs.SkipLaws.{range-skip}
use Rattle.atoms.proofs.MemberLaws.{by_cases, has-insert, none_has}
use Rattle.model.proofs.ExpandLaws.{fact-other, class-yes, class-no}

-- ---- the next fact of a class
next-end : (k i : ℕ) (l : List Fact) → length l ≤ i → next_fact k i (drop i l) ≡ 0
unfolding next_fact
next-end k i l h = rw (drop_of_length-le l h)

next-step : (k i : ℕ) (l : List Fact) → i < length l → next_fact k i (drop i l) ≡ cond (eqb (get_or l i no_fact).from k) (suc i) (next_fact k (i + 1) (drop (i + 1) l))
unfolding next_fact
next-step k i l h = rw (list-step no_fact l i h, add-one i)

-- ---- the facts of a class, by their numbers
module _ (D : Deck) (k : ℕ) where
  pub facts-step : (i : ℕ) → i < fact_count D → facts_from D k i ≡ cond (eqb (fact_at D i).from k) (i ∷ facts_from D k (i + 1)) (facts_from D k (i + 1))
  unfolding keep
  facts-step i h = rw (range-step i (fact_count D) h)

  facts-end : (i : ℕ) → fact_count D ≤ i → facts_from D k i ≡ []
  unfolding keep
  facts-end i h = rw (range-end i (fact_count D) h)

  -- one that comes next from i on, if one does
  abbrev Comes : ℕ → Option ℕ → Type 0
  Comes i r = (facts_at D k r ≡ facts_from D k i) × IfSome r (FactOf D k)

  comes-by : (d i : ℕ) → i + d ≡ fact_count D → (r : Option ℕ) → entry_of r ≡ next_fact k i (drop i D.facts) → Comes i r
  comes-by zero i e None q = (sym (facts-end i (omega (arith, e))), tt)
  comes-by zero i e (Some j) q = absurd (omega (arith, q, next-end k i D.facts (omega (arith, e))))
  comes-by (suc d) i e r q = by (eqb (fact_at D i).from k) refl (comes-by d (i + 1) (omega (arith, e))) (q ∙ next-step k i D.facts b)
    where
      b : i < fact_count D
      b = omega (arith, e)

      here : eqb (fact_at D i).from k ≡ true → (o : Option ℕ) → entry_of o ≡ suc i → Comes i o
      here w None q' = absurd (omega (arith, q'))
      here w (Some j) q' = let z : i ≡ j = omega (arith, q') in subst (λ (n : ℕ). Comes i (Some n)) z (refl, record { below = b; own = eqb-true _ _ w })

      by : (t : Bool) → eqb (fact_at D i).from k ≡ t → ((o : Option ℕ) → entry_of o ≡ next_fact k (i + 1) (drop (i + 1) D.facts) → Comes (i + 1) o) → entry_of r ≡ cond t (suc i) (next_fact k (i + 1) (drop (i + 1) D.facts)) → Comes i r
      by true w g q' = here w r q'
      by false w g q' = let G = g r q' in (G.0 ∙ sym (facts-step i b ∙ rw w), G.1)

  pub comes : (i : ℕ) → i ≤ fact_count D → (r : Option ℕ) → entry_of r ≡ next_fact k i (drop i D.facts) → (facts_at D k r ≡ facts_from D k i) × ForSome r (FactOf D k)
  comes i h r q = let C = comes-by (fact_count D - i) i (omega (arith, h)) r q in (C.0, λ x p. rw p at C.1)

  -- one, and what the table says comes after it
  pub after-fact : {words : List ℕ} → Indexed D 0 words → (i : ℕ) → FactOf D k i → (classes : ℕ) → classes ≡ class_count D → (r : Option ℕ) → get_or words (classes + i) 0 ≡ entry_of r → (facts_from D k i ≡ i ∷ facts_at D k r) × ForSome r (FactOf D k)
  after-fact {words} X i F classes c r q =
      let C = comes (i + 1) (omega (arith, F.below)) r (sym q ∙ ap (λ (n : ℕ). get_or words (n + i) 0) c ∙ X.links i (omega arith) F.below ∙ ap (λ (y : ℕ). next_fact y (i + 1) (drop (i + 1) D.facts)) F.own) in
      (facts-step i F.below ∙ rw (eq-eqb (fact_at D i).from k F.own) (ap (λ (l : List ℕ). i ∷ l) (sym C.0)), C.1)

  -- one that was given
  pub fact-turn : (n x : ℕ) → n < length (facts_from D k 0) → get_or (facts_from D k 0) n x ≡ x → (drop n (facts_from D k 0) ≡ x ∷ drop (n + 1) (facts_from D k 0)) × FactOf D k x
  fact-turn n x h e =
      let m : Member x (facts_from D k 0) = rw e at (member-at x (facts_from D k 0) n h) in
      let i = in-keep (λ f. eqb (fact_at D f).from k) (range 0 (fact_count D - 0)) x m in
      (rw e at (list-step x (facts_from D k 0) n h), record { below = omega (arith, (in-range 0 (fact_count D - 0) x i.0).1); own = eqb-true _ _ i.1 })

-- a step that changes nothing where a test fails
walk-keep : {S : Type 0} (p : ℕ → Bool) (f : ℕ → S → S) → ((x : ℕ) → p x ≡ false → (s : S) → f x s ≡ s) → (l : List ℕ) (s : S) → walk f (keep p l) s ≡ walk f l s
unfolding keep walk
walk-keep p f idle [] s = refl
walk-keep {S} p f idle (x ∷ xs) s = by (p x) refl (λ t. walk-keep p f idle xs t)
  where
    by : (b : Bool) → p x ≡ b → ((t : S) → walk f (keep p xs) t ≡ walk f xs t) → walk f (cond b (x ∷ keep p xs) (keep p xs)) s ≡ walk f xs (f x s)
    by true w g = g (f x s)
    by false w g = g s ∙ ap (walk f xs) (sym (idle x w s))

-- the walk over all facts is that over those of the class
abbrev pub facts_of : ℕ → ℕ → Plan → ℕ → Model → Model
facts_of e k p i = fact_step (deck_of p.deck.bytes.now) p.floor.now p.bounds e k (fact_at (deck_of p.deck.bytes.now) i)

pub facts-walk : (p : Plan) (e k : ℕ) (m : Model) → walk (facts_of e k p) (facts_from (deck_of p.deck.bytes.now) k 0) m ≡ work_facts (deck_of p.deck.bytes.now) p.floor.now p.bounds e k m
unfolding work_facts
facts-walk p e k m =
    let D = deck_of p.deck.bytes.now in
    let z : fact_count D - 0 ≡ fact_count D = omega arith in
    rw z (walk-keep (λ f. eqb (fact_at D f).from k) (facts_of e k p) (λ i w s. fact-other D p.floor.now p.bounds e k (fact_at D i) s (eqb-false _ _ w)) (range 0 (fact_count D)) m)

-- ---- the facts by class, from the last down
pub indexed-start : (D : Deck) {index : List ℕ} → ((k : ℕ) → get_or index k 0 ≡ 0) → {n : ℕ} → n ≡ fact_count D → Indexed D n index
indexed-start D z {n} e = record {
  heads = λ k b. z k ∙ sym (next-end k n D.facts (omega (arith, e)));
  links = λ j l b. absurd (omega (arith, l, b, e));
}

module _ {D : Deck} {index : List ℕ} (i : ℕ) (X : Indexed D (i + 1) index) (h : i < fact_count D) (c : (fact_at D i).from < class_count D) (room : class_count D + fact_count D ≤ length index) where
  abbrev k₀ : ℕ
  k₀ = (fact_at D i).from

  abbrev at : ℕ
  at = class_count D + i

  abbrev linked : List ℕ
  linked = set index at (get_or index k₀ 0)

  pub indexed-step : {next : List ℕ} → next ≡ set linked k₀ (i + 1) → Indexed D i next
  indexed-step q = record { heads = λ k b. ap (λ (x : List ℕ). get_or x k 0) q ∙ head k b; links = λ j l b. ap (λ (x : List ℕ). get_or x (class_count D + j) 0) q ∙ link j l b }
    where
      head : (k : ℕ) → k < class_count D → get_or (set linked k₀ (i + 1)) k 0 ≡ next_fact k i (drop i D.facts)
      head k b =
          by_cases k₀ k
          (λ (e : k₀ ≡ k).
          subst (λ (j : ℕ). get_or (set linked k₀ (i + 1)) j 0 ≡ next_fact j i (drop i D.facts)) e
          (get_or-set_same linked k₀ (i + 1) 0 (omega (arith, c, room, length-set index at (get_or index k₀ 0))) ∙ add-one i ∙ sym (next-step k₀ i D.facts h ∙ rw (eq-eqb k₀ k₀ refl))))
          (λ (n : k₀ ≡ k → ⊥).
          get_or-set_other linked k₀ k (i + 1) 0 (λ e. n (sym e))
          ∙ get_or-set_other index at k (get_or index k₀ 0) 0 (λ e. omega (arith, e, b))
          ∙ X.heads k b ∙ sym (next-step k i D.facts h ∙ rw (ne_eqb k₀ k n)))

      link : (j : ℕ) → i ≤ j → j < fact_count D → get_or (set linked k₀ (i + 1)) (class_count D + j) 0 ≡ next_fact (fact_at D j).from (j + 1) (drop (j + 1) D.facts)
      link j l b =
          get_or-set_other linked k₀ (class_count D + j) (i + 1) 0 (λ e. omega (arith, e, c))
          ∙ ⊎_elim
          (λ (e : i ≡ j).
          subst (λ (y : ℕ). get_or linked (class_count D + y) 0 ≡ next_fact (fact_at D y).from (y + 1) (drop (y + 1) D.facts)) e
          (get_or-set_same index at (get_or index k₀ 0) 0 (omega (arith, h, room)) ∙ X.heads k₀ c))
          (λ (g : i < j). get_or-set_other index at (class_count D + j) (get_or index k₀ 0) 0 (λ e. omega (arith, e, g)) ∙ X.links j (omega (arith, g)) b)
          (eq-or-lt_of_le l)

-- the loop's step
pub indexed-down : (D : Deck) {index : List ℕ} (i : ℕ) → 0 < i → i ≤ fact_count D → Indexed D i index → class_count D + fact_count D ≤ length index → (classes k : ℕ) → classes ≡ class_count D → k ≡ (fact_at D (i - 1)).from → k < class_count D
    → {next : List ℕ} → next ≡ set (set index (classes + (i - 1)) (get_or index k 0)) k (i - 1 + 1) → Indexed D (i - 1) next
indexed-down D {index} i h b X room classes k c o f q =
    let y : i ≡ i - 1 + 1 = omega (arith, h) in
    indexed-step (i - 1) (subst (λ (n : ℕ). Indexed D n index) y X) (omega (arith, h, b)) (subst (λ (n : ℕ). n < class_count D) o f) room
    (q ∙ ap (λ (n : ℕ). set (set index (n + (i - 1)) (get_or index k 0)) k (i - 1 + 1)) c ∙ ap (λ (n : ℕ). set (set index (class_count D + (i - 1)) (get_or index n 0)) n (i - 1 + 1)) o)

-- ---- the classes with a fact
pub marked_step : {D : Deck} {n : ℕ} {mask : List ℕ} → Marked D n mask → {k : ℕ} → k ≡ (fact_at D n).from → k / 64 < length mask → {next : List ℕ} → next ≡ insert_bit mask k → Marked D (n + 1) next
marked_step {D} {n} {mask} X {k} e h₀ q = record { marks = λ i b. rw (q, e) (marks i b) }
  where
    h : (fact_at D n).from / 64 < length mask
    h = subst (λ (y : ℕ). y / 64 < length mask) e h₀

    marks : (i : ℕ) → i < n + 1 → label_has (insert_bit mask (fact_at D n).from) (fact_at D i).from ≡ true
    marks i b =
        has-insert mask (fact_at D n).from (fact_at D i).from h
        ∙ by_cases i n (λ (z : i ≡ n). subst (λ (j : ℕ). (label_has mask (fact_at D j).from || eqb (fact_at D n).from (fact_at D j).from) ≡ true) (sym z) (rw (eq-eqb (fact_at D n).from (fact_at D n).from refl) (or-true (label_has mask (fact_at D n).from))))
        (λ (z : i ≡ n → ⊥). rw (X.marks i (omega (arith, b, z))))

-- ---- classes that are passed over
module _ (D : Deck) (floor : List ℕ) (B : Bounds) (e : ℕ) {mask : List ℕ} (M : Marked D (fact_count D) mask) (k : ℕ) (m : Model) where
  no-facts : label_has mask k ≡ false → work_facts D floor B e k m ≡ m
  unfolding work_facts walk
  no-facts w =
      let n = fact_count D in
      let z : n - 0 ≡ n = omega arith in
      let f : ℕ → Model → Model = λ i. fact_step D floor B e k (fact_at D i) in
      let g : walk f (range 0 (n - 0)) m ≡ walk f (range n (n - n)) m = range-skip f n m 0 n (omega arith) (omega arith) (λ h l u. fact-other D floor B e k (fact_at D h) m (λ q. clash (let y = M.marks h u in let x : label_has mask k ≡ true = rw q at y in cc))) in
      ap (λ (j : ℕ). walk f (range 0 j) m) (sym z) ∙ g ∙ ap (λ (l : List ℕ). walk f l m) (range-end n n (omega arith))

  pub class-passed : (label_has (get_or m.labels e []) k && label_has mask k) ≡ false → class_step D floor B e k m ≡ m
  class-passed h = by (label_has (get_or m.labels e []) k) refl h
    where
      by : (b : Bool) → label_has (get_or m.labels e []) k ≡ b → (b && label_has mask k) ≡ false → class_step D floor B e k m ≡ m
      by true q w = class-yes D floor B e k m q ∙ no-facts w
      by false q w = class-no D floor B e k m q

-- ---- without a fact nothing changes
module _ (D : Deck) (floor : List ℕ) (B : Bounds) (z : fact_count D ≡ 0) where
  class-idle : (e k : ℕ) (m : Model) → class_step D floor B e k m ≡ m
  class-idle e k m = class-passed D floor B e {mask = []} (record { marks = λ i b. absurd (omega (arith, b, z)) }) k m (no-bit (label_has (get_or m.labels e []) k) k)
    where
      no-bit : (b : Bool) (j : ℕ) → (b && label_has [] j) ≡ false
      no-bit b j = rw (none_has 0 j) (and_none b)
        where
          and_none : (x : Bool) → (x && false) ≡ false
          and_none true = refl
          and_none false = refl

  classes-idle : (e : ℕ) (m : Model) → work_classes D floor B e m ≡ m
  unfolding work_classes
  classes-idle e m = walk-fixed (class_step D floor B e) (range 0 (class_count D)) m (λ k. class-idle e k m)

  pub turns-idle : (n : ℕ) (taken : List ℕ) (m : Model) → turns D floor B n taken m ≡ m
  unfolding turns next_turn
  turns-idle zero taken m = refl
  turns-idle (suc n) taken m = by m.state.tripped (highest taken (length m.labels)) (λ l. turns-idle n l m)
    where
      next : (h : ℕ) → ((l : List ℕ) → turns D floor B n l m ≡ m) → next_turn D floor B (turns D floor B n) taken m h ≡ m
      next zero f = refl
      next (suc e) f = ap (turns D floor B n (insert_bit taken e)) (classes-idle e m) ∙ f (insert_bit taken e)

      by : (b : Bool) (h : ℕ) → ((l : List ℕ) → turns D floor B n l m ≡ m) → cond b m (next_turn D floor B (turns D floor B n) taken m h) ≡ m
      by true h f = refl
      by false h f = next h f
