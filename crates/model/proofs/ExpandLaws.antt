-- Expanding by the facts: case by case, and turn by turn.
--     fact-other, fact-own, fact-links, class-yes, class-no
--     Taking                               the loop: the bound on the number of turns is never what ends it
use Rattle.build.specs.declared.building.Build.{Build}
use Rattle.build.specs.declared.plan.Plan.{Plan}
use Rattle.build.specs.Building.{Ready, Holds, deck_in, buffers, model_of, model_by}
use Rattle.build.proofs.BuildingLaws.{holds-same, holds-is, holds-trans, holds-start, ready-after}
use Rattle.atoms.proofs.LabelLaws.{length-insert}
use Rattle.model.proofs.CursorLaws.{cond-true, cond-false, has-own}
use Prim.Native.Nat.{ℕ, zero, suc, ◌+◌, ◌-◌, ◌/◌, ◌<◌, ◌≤◌}
use mathlib.Core.Path.{◌≡◌, refl, sym, ap, ◌∙◌, subst}
use mathlib.Core.Bool.{Bool, true, false, cond, or-false}
use mathlib.Core.List.{List, []}
use mathlib.Core.Logic.{⊎_elim}
use native.Mathlib.Nat.{eq-or-lt_of_le, le_of_suc-le-suc}
use native.Mathlib.Omega.{arith}
use lib.ListN.{length, get_or, replicate, length-replicate}
use lib.Dec.{eqb}
use borrow.Author.Tests.{eq-eqb, ne_eqb}
use Rattle.deck.specs.Deck.{Deck, Fact}
use Rattle.deck.specs.Content.{deck_of}
use Rattle.eval.specs.Lent.{label_width}
use Rattle.build.specs.declared.bounds.Bounds.{Bounds}
use Rattle.atoms.specs.declared.target_label.Target.{Target}
use Rattle.atoms.specs.Label.{label_has, insert_bit}
use Rattle.atoms.specs.Target.{target_of}
use Rattle.build.specs.Model.{Model, begun}
use Rattle.model.specs.Expand.{link_target, work_fact, fact_step, work_facts, class_step, work_classes, highest, next_turn, turns, expand_in}
use Rattle.atoms.proofs.MemberLaws.{has-insert, none_has}
use Rattle.atoms.proofs.RowLaws.{length-rows}
use Rattle.atoms.specs.Walk.{walk}
use Rattle.build.proofs.SeedLaws.{no_fact}
use Rattle.atoms.proofs.WalkLaws.{walk-fixed, walk-placed}
use Rattle.build.proofs.BuildLaws.{built-quiet, built-tripped}

cond_same : {A : Type 0} (b : Bool) (x y : A) → x ≡ y → cond b x y ≡ y
cond_same true x y h = h
cond_same false x y h = refl

module _ (D : Deck) (floor : List ℕ) (B : Bounds) (e : ℕ) where
  -- ---- a fact
  pub fact-stuck : (k : ℕ) (f : Fact) (m : Model) → m.state.tripped ≡ true → fact_step D floor B e k f m ≡ m
  unfolding fact_step work_fact
  fact-stuck k f m w = cond_same (eqb f.from k) _ m (cond-true m.state.tripped m _ w)

  pub fact-other : (k : ℕ) (f : Fact) (m : Model) → (f.from ≡ k → ⊥) → fact_step D floor B e k f m ≡ m
  unfolding fact_step
  fact-other k f m n = rw (ne_eqb f.from k n)

  pub fact-own : (k : ℕ) (f : Fact) (m : Model) → f.from ≡ k → fact_step D floor B e k f m ≡ work_fact D floor B e f m
  unfolding fact_step
  fact-own k f m h = rw (eq-eqb f.from k h)

  -- its edge, as its target is labelled
  pub fact-links : (f g : Fact) (m : Model) → m.state.tripped ≡ false → g ≡ f → {target : Target} → target ≡ target_of D g.to g.role → link_target D floor B e g.to g.role target m ≡ work_fact D floor B e f m
  unfolding work_fact
  fact-links f g m w q p = rw (p, ← q) (sym (cond-false m.state.tripped m _ w))

  -- ---- a class
  pub facts-in-order : (k : ℕ) (m : Model) → work_facts D floor B e k m ≡ walk (fact_step D floor B e k) D.facts m
  unfolding work_facts
  facts-in-order k m = walk-placed no_fact (fact_step D floor B e k) D.facts m

  pub facts-stuck : (k : ℕ) (m : Model) → m.state.tripped ≡ true → work_facts D floor B e k m ≡ m
  facts-stuck k m w = facts-in-order k m ∙ walk-fixed (fact_step D floor B e k) D.facts m (λ f. fact-stuck k f m w)

  pub class-stuck : (k : ℕ) (m : Model) → m.state.tripped ≡ true → class_step D floor B e k m ≡ m
  unfolding class_step
  class-stuck k m w = cond_same (label_has (get_or m.labels e []) k) _ m (facts-stuck k m w)

  pub class-yes : (k : ℕ) (m : Model) → label_has (get_or m.labels e []) k ≡ true → class_step D floor B e k m ≡ work_facts D floor B e k m
  unfolding class_step
  class-yes k m h = rw h

  pub class-no : (k : ℕ) (m : Model) → label_has (get_or m.labels e []) k ≡ false → class_step D floor B e k m ≡ m
  unfolding class_step
  class-no k m h = rw h

-- ---- who is taken
-- how many elements below n are not: what is left of the turns
unfoldable pub untaken : List ℕ → ℕ → ℕ
untaken taken zero = zero
untaken taken (suc n) = cond (label_has taken n) (untaken taken n) (suc (untaken taken n))

has_other : (l : List ℕ) (k j : ℕ) → k / 64 < length l → (k ≡ j → ⊥) → label_has (insert_bit l k) j ≡ label_has l j
has_other l k j h n = has-insert l k j h ∙ rw (ne_eqb k j n) (or-false (label_has l j))

untaken-past : (taken : List ℕ) (e n : ℕ) → n ≤ e → e / 64 < length taken → untaken (insert_bit taken e) n ≡ untaken taken n
unfolding untaken
untaken-past taken e zero h b = refl
untaken-past taken e (suc n) h b = rw (has_other taken e n b (λ q. omega (arith, q, h)), untaken-past taken e n (omega (arith, h)) b)

one_less : (b : Bool) (x y : ℕ) → x ≡ suc y → cond b x (suc x) ≡ suc (cond b y (suc y))
one_less true x y h = h
one_less false x y h = ap suc h

pub untaken-take : (taken : List ℕ) (e n : ℕ) → e < n → e / 64 < length taken → label_has taken e ≡ false → untaken taken n ≡ suc (untaken (insert_bit taken e) n)
unfolding untaken
untaken-take taken e zero h b f = absurd (omega (arith, h))
untaken-take taken e (suc n) h b f =
    ⊎_elim
    (λ (q : e ≡ n).
    subst
    (λ (k : ℕ). cond (label_has taken k) (untaken taken k) (suc (untaken taken k)) ≡ suc (cond (label_has (insert_bit taken e) k) (untaken (insert_bit taken e) k) (suc (untaken (insert_bit taken e) k))))
    q (rw (f, has-own taken e b, untaken-past taken e e (omega arith) b)))
    (λ (l : e < n). rw (has_other taken e n b (λ q. omega (arith, q, l))) (one_less (label_has taken n) (untaken taken n) (untaken (insert_bit taken e) n) (untaken-take taken e n l b f)))
    (eq-or-lt_of_le (le_of_suc-le-suc h))

pub untaken-none : (w n : ℕ) → untaken (replicate w 0) n ≡ n
unfolding untaken
untaken-none w zero = refl
untaken-none w (suc n) = rw (none_has w n) (ap suc (untaken-none w n))

-- ---- the highest
pub highest-skip : (taken : List ℕ) (i : ℕ) → 0 < i → label_has taken (i - 1) ≡ true → highest taken i ≡ highest taken (i - 1)
unfolding highest
highest-skip taken i h e = let q : i ≡ suc (i - 1) = omega arith in ap (highest taken) q ∙ rw e

pub highest-here : (taken : List ℕ) (i : ℕ) → 0 < i → label_has taken (i - 1) ≡ false → highest taken i ≡ i
unfolding highest
highest-here taken i h e = let q : i ≡ suc (i - 1) = omega arith in ap (highest taken) q ∙ rw e (sym q)

pub highest-none : (taken : List ℕ) → highest taken 0 ≡ 0
unfolding highest
highest-none taken = refl

-- it is below the number, and is not taken
pub highest-is : (taken : List ℕ) (n e : ℕ) → highest taken n ≡ suc e → (e < n) × (label_has taken e ≡ false)
unfolding highest
highest-is taken zero e h = absurd (omega (arith, h))
highest-is taken (suc n) e h = by (label_has taken n) refl (λ q. highest-is taken n e q) h
  where
    by : (b : Bool) → label_has taken n ≡ b → (highest taken n ≡ suc e → (e < n) × (label_has taken e ≡ false)) → cond b (highest taken n) (suc n) ≡ suc e → (e < suc n) × (label_has taken e ≡ false)
    by true q f h' = (omega (arith, (f h').0), (f h').1)
    by false q f h' = let s : n ≡ e = omega (arith, h') in (omega arith, rw s at q)

-- ---- turns
module _ (D : Deck) (floor : List ℕ) (B : Bounds) (taken : List ℕ) (m : Model) where
  pub turns-tripped : (f : ℕ) → m.state.tripped ≡ true → turns D floor B f taken m ≡ m
  unfolding turns
  turns-tripped zero h = refl
  turns-tripped (suc f) h = cond-true m.state.tripped m _ h

  pub turns-none : (f : ℕ) → highest taken (length m.labels) ≡ 0 → turns D floor B f taken m ≡ m
  unfolding turns next_turn
  turns-none zero h = refl
  turns-none (suc f) h = by m.state.tripped
    where
      by : (b : Bool) → cond b m (next_turn D floor B (turns D floor B f) taken m (highest taken (length m.labels))) ≡ m
      by true = refl
      by false = rw h

  pub turns_next : (f e : ℕ) → m.state.tripped ≡ false → highest taken (length m.labels) ≡ suc e → turns D floor B (suc f) taken m ≡ turns D floor B f (insert_bit taken e) (work_classes D floor B e m)
  unfolding turns next_turn
  turns_next f e t h = cond-false m.state.tripped m _ t ∙ rw h

-- the turns have come from a to b, where `taken` are taken, whatever surplus d of turns there is
pub record Taking (a b : Build) (taken : List ℕ) : Type 0 where
  pub held : Holds a b false (model_by a b)
  pub size : length taken ≡ 1024
  pub goes : (d : ℕ) → expand_in (deck_in a) a.plan.floor.now a.plan.bounds (65536 + d) (model_of a) ≡ turns (deck_in a) a.plan.floor.now a.plan.bounds (untaken taken 65536 + d) taken (model_by a b)

pub taking-start : {a : Build} → Ready a → {taken : List ℕ} → taken ≡ replicate 1024 0 → Taking a a taken
taking-start P {taken} e = record {
  held = holds-same P;
  size = ap length e ∙ length-replicate {A = ℕ} 1024 0;
  goes = λ d. rw (e, untaken-none 1024 65536);
}

module _ {a b : Build} {taken : List ℕ} (P : Ready a) (T : Taking a b taken) where
  pub taking-ready : Ready b
  taking-ready = ready-after P T.held

  count : (n : ℕ) → highest taken b.tally.elements ≡ n → highest taken (length (model_by a b).labels) ≡ n
  count n q = ap (highest taken) (length-rows (label_width (deck_in a)) b.tally.elements b.labels.now) ∙ q

  pub taking-done : highest taken b.tally.elements ≡ 0 → (d : ℕ) → Holds a b false (expand_in (deck_in a) a.plan.floor.now a.plan.bounds (65536 + d) (model_of a))
  taking-done z d = holds-is T.held (sym (T.goes d ∙ turns-none (deck_in a) a.plan.floor.now a.plan.bounds taken (model_by a b) (untaken taken 65536 + d) (count 0 z)))

  module _ (e : ℕ) (q : highest taken b.tally.elements ≡ suc e) where
    -- the element that is taken is one of them
    pub taking-below : e < b.tally.elements
    taking-below = (highest-is taken b.tally.elements e q).0

    pub taking-new : label_has taken e ≡ false
    taking-new = (highest-is taken b.tally.elements e q).1

    pub taking-place : e / 64 < length taken
    taking-place = omega (arith, taking-below, T.size, taking-ready.few, taking-ready.most)

    fewer : untaken taken 65536 ≡ suc (untaken (insert_bit taken e) 65536)
    fewer = untaken-take taken e 65536 (omega (arith, taking-below, taking-ready.few, taking-ready.most)) taking-place taking-new

    pub taking-less : {now : List ℕ} → now ≡ insert_bit taken e → untaken now 65536 < untaken taken 65536
    taking-less p = rw p (omega (arith, fewer))

    step : (d : ℕ) → expand_in (deck_in a) a.plan.floor.now a.plan.bounds (65536 + d) (model_of a)
        ≡ turns (deck_in a) a.plan.floor.now a.plan.bounds (untaken (insert_bit taken e) 65536 + d) (insert_bit taken e) (work_classes (deck_in a) a.plan.floor.now a.plan.bounds e (model_by a b))
    step d =
        let y : untaken taken 65536 + d ≡ suc (untaken (insert_bit taken e) 65536 + d) = omega (arith, fewer) in
        T.goes d ∙ ap (λ f. turns (deck_in a) a.plan.floor.now a.plan.bounds f taken (model_by a b)) y
        ∙ turns_next (deck_in a) a.plan.floor.now a.plan.bounds taken (model_by a b) (untaken (insert_bit taken e) 65536 + d) e refl (count (suc e) q)

    module _ {c : Build} {r : Bool} (H : Holds b c r (work_classes (deck_in b) b.plan.floor.now b.plan.bounds e (model_of b))) where
      turned : Holds a c r (work_classes (deck_in a) a.plan.floor.now a.plan.bounds e (model_by a b))
      turned =
          holds-trans T.held
          (holds-is H (ap (λ (p : Plan). work_classes (deck_of p.deck.bytes.now) p.floor.now p.bounds e (begun (deck_of p.deck.bytes.now) (buffers b) b.tally)) T.held.same.plan))

      pub taking-stop : r ≡ true → (d : ℕ) → Holds a c r (expand_in (deck_in a) a.plan.floor.now a.plan.bounds (65536 + d) (model_of a))
      taking-stop w d =
          holds-is turned
          (sym (step d ∙ turns-tripped (deck_in a) a.plan.floor.now a.plan.bounds (insert_bit taken e) (work_classes (deck_in a) a.plan.floor.now a.plan.bounds e (model_by a b)) (untaken (insert_bit taken e) 65536 + d) (built-tripped turned.built ∙ w)))

    pub taking-next : {c : Build} → Holds b c false (work_classes (deck_in b) b.plan.floor.now b.plan.bounds e (model_of b)) → {now : List ℕ} → now ≡ insert_bit taken e → Taking a c now
    taking-next H p =
        let X = turned H in
        record {
          held = record { same = X.same; built = built-quiet X.built refl };
          size = ap length p ∙ length-insert taken e ∙ T.size;
          goes = λ d. rw p (step d ∙ ap (turns (deck_in a) a.plan.floor.now a.plan.bounds (untaken (insert_bit taken e) 65536 + d) (insert_bit taken e)) (sym (holds-start X)));
        }
