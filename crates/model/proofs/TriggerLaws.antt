-- Rules that add nothing, and the table that passes over them.
--     work-idle                             a consequent that adds nothing
--     adds-and, …, adds-other               whether a concept that was read may add something
--     pair-idle, from-idle                  members of EquivalentClasses
--     any-members, found-member             what a chain over the members of a list finds
--     needs-atomic, needs-and, needs-operand    a class that an antecedent needs
--     sub-needs, …, pair-both               an axiom's trigger
--     IdleFrom, entry-of, table_more        the table's entries
--     steps, pass-over                      from one axiom to the next that may add something
use Prim.Native.Nat.{ℕ, zero, suc, ◌+◌, ◌-◌, ◌<◌, ◌≤◌}
use mathlib.Core.Bool.{Bool, true, false, cond, ◌&&◌, ◌||◌}
use mathlib.Core.Path.{◌≡◌, refl, sym, ap, ◌∙◌}
use mathlib.Core.List.{List, [], ◌∷◌, map, Memᴰ as Member}
use mathlib.Core.Logic.{⊎_elim}
use native.Mathlib.Nat.{eq-or-lt_of_le}
use native.Mathlib.Omega.{arith}
use lib.ListN.{length, get_or, set, drop, length-set}
use lib.Seq.{get_or-set_same, get_or-set_other}
use lib.Dec.{eqb}
use borrow.Author.Tests.{lt-ltb, le-ltb, eqb-true}
use denote.Param.Members.{Mut}
use Rattle.std.specs.Prelude.{Option, None, Some, IfSome, MatchOption, IsSomeAnd}
use Rattle.std.specs.Fn.{Called}
use Rattle.std.specs.List.{FoldsTo}
use Rattle.std.specs.Iterator.{YieldsThen}
use Rattle.std.specs.Iterator.Runs.{SomeRun, AllItemsGive, IsFirstToGive, CallKeepsClosure}
use Rattle.std.proofs.iter.runs.Sources.{range_runs}
use Rattle.std.proofs.iter.Yields.{nat_range_steps}
use Rattle.std.proofs.lemmas.Iterator.{YieldsList-from_range}
use Rattle.std.proofs.lemmas.Iterator.Search.{any_from_yields_List}
use Rattle.deck.proofs.TableLaws.{list_length}
use Rattle.atoms.proofs.ListWalks.{any-places}
use types.Run.{OneOf, miss}
use denote.Enum.Declared.{tag_of}
use Rattle.deck.specs.contracts.concepts.ConceptExpr.{the_type}
use Rattle.deck.specs.declared.concepts.ConceptExpr.{ConceptExpr}
use Rattle.deck.specs.declared.numbers.ClassId.{ClassId}
use Rattle.deck.specs.declared.rows.Span.{Span}
use Rattle.deck.specs.declared.axioms.AxiomRecord.{AxiomRecord}
use Rattle.deck.specs.Deck.{Deck, Concept, Role, Axiom, class_count, concept_at, axiom_count, axiom_at}
use Rattle.deck.specs.Content.{IsAccepted, deck_of}
use Rattle.deck.specs.Reads.{ConceptRead, expr_of, list_of, AxiomRead}
use Rattle.deck.proofs.CaseLaws.{lt-or-le}
use Rattle.eval.specs.Lists.{every, any}
use Rattle.eval.specs.Lent.{label_width}
use Rattle.eval.specs.Numbered.{numbered, below}
use Rattle.eval.proofs.Clash.{clash}
use Rattle.eval.proofs.ListLaws.{every-at, none-at, member-at}
use Rattle.eval.proofs.Walks.{list-step}
use Rattle.build.specs.declared.bounds.Bounds.{Bounds}
use Rattle.atoms.specs.Label.{label_has}
use Rattle.atoms.specs.Walk.{walk}
use Rattle.build.specs.declared.building.Build.{Build}
use Rattle.build.specs.Model.{Model}
use Rattle.build.specs.Building.{deck_in, model_by, Same}
use Rattle.build.specs.Exists.{builds, builds_at, work_of, work_step, idle, work}
use Rattle.model.specs.Rounds.{fire, fire_pair, fire_from, fire_axiom}
use Rattle.atoms.specs.Antecedent.{is_rule, holds_atoms}
use Rattle.model.specs.declared.triggers.Trigger.{Trigger}
use Rattle.model.specs.Triggers.{adds_as, may_add, Needs, Idle, IsTrigger, word_of, Entry, Triggers, step_of, step_in, Chain, Steps}
use Rattle.atoms.proofs.FloorLaws.{read_is, fits_read}
use Rattle.atoms.proofs.WalkLaws.{walk-keeps, walk-fixed}
use Rattle.atoms.proofs.AntecedentLaws.{holds-and, holds-atomic}
use Rattle.build.proofs.BuildingLaws.{Walking}
use Rattle.build.proofs.IdleLaws.{either, no-build}
use Rattle.model.proofs.SkipLaws.{walk-skip}
use Rattle.model.proofs.RoundLaws.{pair_same, other-fires}

-- ---- a consequent that adds nothing
-- what a walk does from a concept that does not go further, whatever is below it
below-idle : (D : Deck) (floor : List ℕ) (B : Bounds) (n o e : ℕ) (m : Model) → builds_at D o ≡ false → below (idle D floor B) (work_step D floor B) n o e m ≡ m
unfolding below work_step builds_at
below-idle D floor B zero o e m h = refl
below-idle D floor B (suc n) o e m h = go (eqb o n) refl (below-idle D floor B n o e m h)
  where
    go : (b : Bool) → eqb o n ≡ b → below (idle D floor B) (work_step D floor B) n o e m ≡ m → cond b (work_step D floor B n (below (idle D floor B) (work_step D floor B) n)) (below (idle D floor B) (work_step D floor B) n o) e m ≡ m
    go true q ih = either m.state.tripped refl (no-build D floor B _ e m (concept_at D n) (ap (λ (k : ℕ). builds (concept_at D k)) (sym (eqb-true o n q)) ∙ h))
    go false q ih = ih

or-both : (a b : Bool) → (a || b) ≡ false → (a ≡ false) × (b ≡ false)
or-both true b e = clash (cc)
or-both false b e = (refl, e)

walk-idle : (D : Deck) (f : ℕ → Model → Model) (l : List ℕ) (m : Model) → any (map (builds_at D) l) ≡ false → ((o : ℕ) → builds_at D o ≡ false → f o m ≡ m) → walk f l m ≡ m
unfolding walk any
walk-idle D f [] m h q = refl
walk-idle D f (x ∷ xs) m h q = let p = or-both (builds_at D x) (any (map (builds_at D) xs)) h in rw (q x p.0) (walk-idle D f xs m p.1 q)

adds-idle : (D : Deck) (floor : List ℕ) (B : Bounds) (c e : ℕ) (m : Model) (k : Concept) → k ≡ concept_at D c → adds_as D c k ≡ false → work_of D floor B (below (idle D floor B) (work_step D floor B) c) k e m ≡ m
unfolding work_of builds_at
adds-idle D floor B c e m (Concept.And l) q h = walk-idle D (λ o. below (idle D floor B) (work_step D floor B) c o e) l m h (λ o p. below-idle D floor B c o e m p)
adds-idle D floor B c e m (Concept.Some (Role.Named r) b) q h = let z : true ≡ false = ap builds q ∙ h in clash (cc)
adds-idle D floor B c e m (Concept.Some (Role.Inverse r) b) q h = refl
adds-idle D floor B c e m Concept.Top q h = refl
adds-idle D floor B c e m Concept.Bot q h = refl
adds-idle D floor B c e m (Concept.Atomic k) q h = refl
adds-idle D floor B c e m (Concept.Nominal i) q h = refl
adds-idle D floor B c e m (Concept.SelfRestriction r) q h = refl
adds-idle D floor B c e m (Concept.Not b) q h = refl
adds-idle D floor B c e m (Concept.Or l) q h = refl
adds-idle D floor B c e m (Concept.All r b) q h = refl
adds-idle D floor B c e m (Concept.Min n r b) q h = refl
adds-idle D floor B c e m (Concept.Max n r b) q h = refl

work-idle : (D : Deck) (floor : List ℕ) (B : Bounds) (c e : ℕ) (m : Model) → may_add D c ≡ false → work D floor B c e m ≡ m
unfolding work numbered work_step may_add
work-idle D floor B c e m h = either m.state.tripped refl (adds-idle D floor B c e m (concept_at D c) refl h)

module _ (s : List ℕ) (A : IsAccepted s) (c : ℕ) {expr : ConceptExpr} (R : ConceptRead s c expr) where
  -- whether it may add something
  adds-read : (v : ConceptExpr) → expr ≡ v → adds_as (deck_of s) c (expr_of s v) ≡ may_add (deck_of s) c
  unfolding may_add
  adds-read v p = ap (adds_as (deck_of s) c) (read_is s A c R v p)

  pub adds-and : (l : Span) → expr ≡ ConceptExpr.And l → any (map (builds_at (deck_of s)) (list_of s l)) ≡ may_add (deck_of s) c
  adds-and l p = adds-read _ p

  pub adds-other : OneOf (0 ∷ 1 ∷ 2 ∷ 3 ∷ 4 ∷ 5 ∷ 7 ∷ 8 ∷ 9 ∷ 10 ∷ 11 ∷ []) (tag_of the_type expr) → builds_at (deck_of s) c ≡ may_add (deck_of s) c
  adds-other h = by expr h ∙ adds-read expr refl
    where
      by : (v : ConceptExpr) → OneOf (0 ∷ 1 ∷ 2 ∷ 3 ∷ 4 ∷ 5 ∷ 7 ∷ 8 ∷ 9 ∷ 10 ∷ 11 ∷ []) (tag_of the_type v) → builds_at (deck_of s) c ≡ adds_as (deck_of s) c (expr_of s v)
      by ConceptExpr.Top h = refl
      by ConceptExpr.Bot h = refl
      by (ConceptExpr.Atomic k) h = refl
      by (ConceptExpr.Nominal i) h = refl
      by (ConceptExpr.SelfRestriction r) h = refl
      by (ConceptExpr.Not b) h = refl
      by (ConceptExpr.And l) h = absurd (miss (0 ∷ 1 ∷ 2 ∷ 3 ∷ 4 ∷ 5 ∷ 7 ∷ 8 ∷ 9 ∷ 10 ∷ 11 ∷ []) 6 tt h)
      by (ConceptExpr.Or l) h = refl
      by (ConceptExpr.Some r b) h = refl
      by (ConceptExpr.All r b) h = refl
      by (ConceptExpr.Min n r b) h = refl
      by (ConceptExpr.Max n r b) h = refl

-- ---- rules that add nothing
and-false : (a : Bool) → (a && false) ≡ false
and-false true = refl
and-false false = refl

module _ (D : Deck) (floor : List ℕ) (B : Bounds) (e : ℕ) where
  -- an antecedent that does not hold
  fire-unmet : (ante sup : ℕ) (m : Model) → (holds_atoms D (get_or m.labels e []) ante && is_rule D ante) ≡ false → fire D floor B e ante sup m ≡ m
  unfolding fire
  fire-unmet ante sup m h = rw h

  fire-no-rule : (ante sup : ℕ) (m : Model) → is_rule D ante ≡ false → fire D floor B e ante sup m ≡ m
  fire-no-rule ante sup m h = fire-unmet ante sup m (rw h (and-false (holds_atoms D (get_or m.labels e []) ante)))

  fire-lacks : (ante sup : ℕ) (m : Model) → holds_atoms D (get_or m.labels e []) ante ≡ false → fire D floor B e ante sup m ≡ m
  fire-lacks ante sup m h = fire-unmet ante sup m (rw h)

  fire-idle : (ante sup : ℕ) (m : Model) → may_add D sup ≡ false → fire D floor B e ante sup m ≡ m
  unfolding fire
  fire-idle ante sup m h = either (holds_atoms D (get_or m.labels e []) ante && is_rule D ante) (work-idle D floor B sup e m h) refl

  pair-as-fire : (a b : ℕ) (m : Model) → fire D floor B e a b m ≡ m → fire_pair D floor B e a b m ≡ m
  unfolding fire_pair
  pair-as-fire a b m h = either (eqb a b) refl h

  pub pair-idle : (a b : ℕ) (m : Model) → may_add D b ≡ false → m ≡ fire_pair D floor B e a b m
  pair-idle a b m h = sym (pair-as-fire a b m (fire-idle a b m h))

  from-fixed : (l : List ℕ) (a : ℕ) (m : Model) → ((b : ℕ) → fire D floor B e a b m ≡ m) → fire_from D floor B e l a m ≡ m
  unfolding fire_from
  from-fixed l a m h = walk-fixed (fire_pair D floor B e a) l m (λ b. pair-as-fire a b m (h b))

  -- a member that does not fire
  pub from-idle : (l : List ℕ) (a : ℕ) (m : Model) {f : Bool} → f ≡ (holds_atoms D (get_or m.labels e []) a && is_rule D a) → f ≡ false → m ≡ fire_from D floor B e l a m
  from-idle l a m k w = sym (from-fixed l a m (λ b. fire-unmet a b m (sym k ∙ w)))

  from-barren : (l : List ℕ) (a : ℕ) (m : Model) → any (map (may_add D) l) ≡ false → fire_from D floor B e l a m ≡ m
  unfolding fire_from
  from-barren l a m h = walk-keeps (λ k. k ≡ m) (fire_pair D floor B e a) l (λ b i k q. sym (pair-idle a b k (none-at (may_add D) l b h i)) ∙ q) m refl

  equal-barren : (l : List ℕ) (m : Model) → any (map (may_add D) l) ≡ false → fire_axiom D floor B e (Axiom.EquivalentClasses l) m ≡ m
  unfolding fire_axiom
  equal-barren l m h = walk-fixed (fire_from D floor B e l) l m (λ a. from-barren l a m h)

  equal-ruleless : (l : List ℕ) (m : Model) → any (map (is_rule D) l) ≡ false → fire_axiom D floor B e (Axiom.EquivalentClasses l) m ≡ m
  unfolding fire_axiom
  equal-ruleless l m h = walk-keeps (λ k. k ≡ m) (fire_from D floor B e l) l (λ a i k q. from-fixed l a k (λ b. fire-no-rule a b k (none-at (is_rule D) l a h i)) ∙ q) m refl

  sub-barren : (a b : ℕ) (m : Model) → may_add D b ≡ false → fire_axiom D floor B e (Axiom.SubClassOf a b) m ≡ m
  unfolding fire_axiom
  sub-barren a b m h = fire-idle a b m h

  sub-ruleless : (a b : ℕ) (m : Model) → is_rule D a ≡ false → fire_axiom D floor B e (Axiom.SubClassOf a b) m ≡ m
  unfolding fire_axiom
  sub-ruleless a b m h = fire-no-rule a b m h

  sub-lacks : (a b : ℕ) (m : Model) → holds_atoms D (get_or m.labels e []) a ≡ false → fire_axiom D floor B e (Axiom.SubClassOf a b) m ≡ m
  unfolding fire_axiom
  sub-lacks a b m h = fire-lacks a b m h

-- ---- whether a member of a list passes, as a chain asks in turn
pub any-members : {F : Type 0} {g : Mut F (ℕ × Unit {0}) Bool} {f : F} {u : _} {r : Bool} (s : List ℕ) (l : Span) (p : ℕ → Bool)
    → (xs : List ℕ) × (o : Option ℕ) × (j : F) × YieldsThen nat_range_steps (record { start = 0; end = l.count }) xs o u × FoldsTo (λ p x q. Called g p (x, tt) false q) f xs j × MatchOption o (r ≡ false) (λ x. (r ≡ true) × ((h : F) × Called g j (x, tt) true h))
    → ((x : ℕ) (b : Bool) (q : F) → Called g f (x, tt) b q → (q ≡ f) × (b ≡ p (get_or (list_of s l) x 0))) → r ≡ any (map p (list_of s l))
any-members s l p ran k =
    let at : ℕ → Bool = λ i. p (get_or (list_of s l) i 0) in
    any_from_yields_List at _ _ _ ran (YieldsList-from_range 0 l.count l.count refl (omega arith)) k ∙ any-places p (list_of s l) l.count (list_length s l.start l.count)

-- ---- what a member of a list gives, where a chain finds one that gives something
pub found-member : {F B : Type 0} {g : Mut F (ℕ × Unit {0}) (Option B)} {f : F} (n : ℕ) (Q : B → Type 0) (r : Option B)
    → SomeRun nat_range_steps (record { start = 0; end = n }) (λ p. MatchOption r ((p.whole ≡ true) × AllItemsGive p g f None) (λ y. (i : ℕ) × (i < p.len) × (p.len ≡ i + 1) × IsFirstToGive p g f (Some y) None i))
    → CallKeepsClosure g f → ((x : ℕ) (y : B) → x < n → Called g f (x, tt) (Some y) f → Q y) → IfSome r Q
found-member n Q None d k h = tt
found-member {g = g} {f = f} n Q (Some y) d k h = by (d.0.at d.2.0) (d.2.3 k).0 ((range_runs d.0 d.0.seen).2 d.2.0)
  where
    by : (o : Option ℕ) → IsSomeAnd o (λ x. Called g f (x, tt) (Some y) f) → IfSome o (λ x. (x ≡ d.0.from.start + d.2.0) × (x < d.0.from.end)) → Q y
    by None a b = absurd a
    by (Some x) a b = h x y (rw d.1 at b.1) a

-- ---- a class that an antecedent needs
module _ (s : List ℕ) (A : IsAccepted s) (c : ℕ) {expr : ConceptExpr} (R : ConceptRead s c expr) where
  pub needs-atomic : (k : ClassId) → expr ≡ ConceptExpr.Atomic k → Needs (deck_of s) (λ label. holds_atoms (deck_of s) label c) k
  needs-atomic k p = record { known = fits_read s A c R _ p; lacks = λ label w. sym (holds-atomic s A c R label k.0 p) ∙ w }

  pub needs-and : (l : Span) → expr ≡ ConceptExpr.And l → (r : Option ClassId) → IfSome r (Needs (deck_of s) (λ label. every (map (holds_atoms (deck_of s) label) (list_of s l)))) → IfSome r (Needs (deck_of s) (λ label. holds_atoms (deck_of s) label c))
  needs-and l p None N = N
  needs-and l p (Some k) N = record { known = N.known; lacks = λ label w. sym (holds-and s A c R label l p) ∙ N.lacks label w }

every-false : (p : ℕ → Bool) (l : List ℕ) (x : ℕ) → Member x l → p x ≡ false → every (map p l) ≡ false
every-false p l x i h = go (every (map p l)) refl
  where
    go : (b : Bool) → every (map p l) ≡ b → every (map p l) ≡ false
    go true q = let y : p x ≡ true = every-at p l x q i in clash (cc)
    go false q = q

pub needs-operand : (D : Deck) (l : List ℕ) (i : ℕ) → i < length l → {k : ClassId} → Needs D (λ label. holds_atoms D label (get_or l i 0)) k → Needs D (λ label. every (map (holds_atoms D label) l)) k
needs-operand D l i b N = record { known = N.known; lacks = λ label w. every-false (holds_atoms D label) l (get_or l i 0) (member-at 0 l i b) (N.lacks label w) }

-- ---- an axiom's trigger
pub trigger-is : (D : Deck) {x y : Axiom} (t : Trigger) → x ≡ y → IsTrigger D x t → IsTrigger D y t
trigger-is D t e T = rw e at T

pub sub-adds-nothing : (D : Deck) (a b : ℕ) → may_add D b ≡ false → Idle D (Axiom.SubClassOf a b)
sub-adds-nothing D a b h floor B e m = sub-barren D floor B e a b m h

pub sub-no-rule : (D : Deck) (a b : ℕ) → is_rule D a ≡ false → Idle D (Axiom.SubClassOf a b)
sub-no-rule D a b h floor B e m = sub-ruleless D floor B e a b m h

pub sub-needs : (D : Deck) (a b : ℕ) {k : ClassId} → Needs D (λ label. holds_atoms D label a) k → IsTrigger D (Axiom.SubClassOf a b) (Trigger.Needs k)
sub-needs D a b N = (N.known, λ floor B e m h. sub-lacks D floor B e a b m (N.lacks (get_or m.labels e []) h))

pub members-add-nothing : (D : Deck) (l : List ℕ) → any (map (may_add D) l) ≡ false → Idle D (Axiom.EquivalentClasses l)
members-add-nothing D l h floor B e m = equal-barren D floor B e l m h

pub members-no-rule : (D : Deck) (l : List ℕ) → any (map (is_rule D) l) ≡ false → Idle D (Axiom.EquivalentClasses l)
members-no-rule D l h floor B e m = equal-ruleless D floor B e l m h

pub trigger-other : {s : List ℕ} {a : ℕ} {r : AxiomRecord} → AxiomRead s a r → 2 ≤ r.tag → Idle (deck_of s) (axiom_at (deck_of s) a)
trigger-other R h floor B e m = sym (other-fires R floor B e m h)

-- ---- EquivalentClasses with two members: SubClassOf both ways
module _ (D : Deck) (x y : ℕ) where
  pair-walk : (floor : List ℕ) (B : Bounds) (e : ℕ) (m : Model) → fire_axiom D floor B e (Axiom.SubClassOf x y) m ≡ m → fire_axiom D floor B e (Axiom.SubClassOf y x) m ≡ m → fire_axiom D floor B e (Axiom.EquivalentClasses (x ∷ y ∷ [])) m ≡ m
  unfolding fire_axiom fire_from walk
  pair-walk floor B e m p q =
      let f : ℕ → ℕ → Model → Model = fire_pair D floor B e in
      let first : f x y (f x x m) ≡ m = ap (f x y) (sym (pair_same D floor B e m x x refl)) ∙ pair-as-fire D floor B e x y m p in
      let second : f y y (f y x m) ≡ m = ap (f y y) (pair-as-fire D floor B e y x m q) ∙ sym (pair_same D floor B e m y y refl) in
      ap (λ (k : Model). f y y (f y x k)) first ∙ second

  pub pair-backward : (t : Trigger) → Idle D (Axiom.SubClassOf x y) → IsTrigger D (Axiom.SubClassOf y x) t → IsTrigger D (Axiom.EquivalentClasses (x ∷ y ∷ [])) t
  pair-backward (Trigger.Needs k) I U = (U.0, λ floor B e m h. pair-walk floor B e m (I floor B e m) (U.1 floor B e m h))
  pair-backward Trigger.Always I U = tt
  pair-backward Trigger.Never I U = λ floor B e m. pair-walk floor B e m (I floor B e m) (U floor B e m)

  pub pair-forward : (t : Trigger) → IsTrigger D (Axiom.SubClassOf x y) t → Idle D (Axiom.SubClassOf y x) → IsTrigger D (Axiom.EquivalentClasses (x ∷ y ∷ [])) t
  pair-forward (Trigger.Needs k) T I = (T.0, λ floor B e m h. pair-walk floor B e m (T.1 floor B e m h) (I floor B e m))
  pair-forward Trigger.Always T I = tt
  pair-forward Trigger.Never T I = λ floor B e m. pair-walk floor B e m (T floor B e m) (I floor B e m)

  pub pair-both : (j k : ClassId) → IsTrigger D (Axiom.SubClassOf x y) (Trigger.Needs j) → IsTrigger D (Axiom.SubClassOf y x) (Trigger.Needs k) → j.0 ≡ k.0 → IsTrigger D (Axiom.EquivalentClasses (x ∷ y ∷ [])) (Trigger.Needs j)
  pair-both j k T U q = (T.0, λ floor B e m h. pair-walk floor B e m (T.1 floor B e m h) (U.1 floor B e m (rw q at h)))

-- a list of two
pub two-members : (l : List ℕ) → length l ≡ 2 → {x y : ℕ} → x ≡ get_or l 0 0 → y ≡ get_or l 1 0 → x ∷ y ∷ [] ≡ l
two-members [] h p q = absurd (omega arith)
two-members (a ∷ []) h p q = absurd (omega arith)
two-members (a ∷ b ∷ []) h p q = rw (p, q)
two-members (a ∷ b ∷ c ∷ l) h p q = absurd (omega arith)

-- ---- the table
-- so many axioms from i on add nothing
pub record IdleFrom (D : Deck) (i n : ℕ) : Type 0 where
  pub within : i + n ≤ axiom_count D
  pub never : (k : ℕ) → i ≤ k → k < i + n → Idle D (axiom_at D k)

pub idle-entry : {D : Deck} {i w : ℕ} → Entry D i w → IdleFrom D i (w - 4096)
idle-entry E = record { within = E.within; never = E.never }

-- an axiom's entry, by its trigger and how many after it add nothing
pub entry-of : {D : Deck} {i n : ℕ} (t : Trigger) → class_count D ≤ 4096 → i < axiom_count D → IsTrigger D (axiom_at D i) t → IdleFrom D (i + 1) n → Entry D i (word_of t n)
entry-of (Trigger.Needs k) c b T I = record { known = λ q. T.0; lacks = λ q. T.1; within = omega (arith, T.0, c, b); never = λ j p q. absurd (omega (arith, p, q, T.0, c)) }
entry-of Trigger.Always c b T I = record { known = λ q. absurd (omega arith); lacks = λ q. absurd (omega arith); within = omega arith; never = λ j p q. absurd (omega arith) }
entry-of {i = i} Trigger.Never c b T I = record {
  known = λ q. absurd (omega arith);
  lacks = λ q. absurd (omega arith);
  within = omega (arith, I.within);
  never = λ j p q. ⊎_elim (λ (z : i ≡ j). rw z at T) (λ (z : i < j). I.never j (omega arith) (omega (arith, q))) (eq-or-lt_of_le p);
}

module _ {D : Deck} {table : List ℕ} where
  -- one more entry in front
  pub table_more : {i w : ℕ} → Triggers D table (i + 1) → i < axiom_count D → Entry D i w → Triggers D (set table i w) i
  table_more {i} {w} T b E = record {
    wide = length-set table i w ∙ T.wide;
    at = λ k p q. ⊎_elim
        (λ (z : i ≡ k). rw (sym z, get_or-set_same table i w 0 (omega (arith, T.wide, b))) E)
        (λ (z : i < k). rw (get_or-set_other table i k w 0 (λ y. omega (arith, y))) (T.at k (omega arith) q))
        (eq-or-lt_of_le p);
  }

-- ---- from one axiom to the next that may add something, at an element of a label
abbrev Passed : Deck → List ℕ → ℕ → ℕ → Type 0
Passed D label i j = (k : ℕ) → i ≤ k → k < j → (floor : List ℕ) (B : Bounds) (e : ℕ) (m : Model) → get_or m.labels e [] ≡ label → fire_axiom D floor B e (axiom_at D k) m ≡ m

one_more : (b : Bool) (k n : ℕ) → k < n → k + cond b 0 1 ≤ n
one_more true k n h = omega arith
one_more false k n h = omega arith

module _ {D : Deck} {table : List ℕ} (T : Triggers D table 0) (label : List ℕ) where
  entry : (k : ℕ) → k < length table → Entry D k (get_or table k 0)
  entry k b = T.at k (omega arith) (omega (arith, T.wide, b))

  step-within : (k : ℕ) → k < length table → k + step_in label table k ≤ length table
  step-within k b =
      let w = get_or table k 0 in
      ⊎_elim
      (λ (l : w < 4096). rw (lt-ltb w 4096 l) (one_more (label_has label w) k (length table) b))
      (λ (l : 4096 ≤ w). rw (le-ltb w 4096 l) (omega (arith, T.wide, (entry k b).within)))
      (lt-or-le w 4096)

  pub steps : length label ≡ label_width D → Steps table label
  steps q = record { words = λ k b l. omega (arith, q, (entry k b).known l); within = step-within }

  by-class : (j : ℕ) (b : j < length table) → get_or table j 0 < 4096 → (f : Bool) → label_has label (get_or table j 0) ≡ f → Passed D label j (j + cond f 0 1)
  by-class j b l true z k p u floor B x m y = absurd (omega arith)
  by-class j b l false z k p u floor B x m y =
      let w = get_or table j 0 in
      let same : j ≡ k = omega arith in
      rw (sym same) ((entry j b).lacks l floor B x m (ap (λ (a : List ℕ). label_has a w) y ∙ z))

  step-passes : (j : ℕ) → j < length table → Passed D label j (j + step_in label table j)
  step-passes j b =
      let w = get_or table j 0 in
      ⊎_elim
      (λ (l : w < 4096). rw (lt-ltb w 4096 l) (by-class j b l (label_has label w) refl))
      (λ (l : 4096 ≤ w). rw (le-ltb w 4096 l) (λ k p u floor B x m y. (entry j b).never k p u floor B x m))
      (lt-or-le w 4096)

  pub chain-within : {i j : ℕ} → Chain (step_in label table) (length table) i j → i ≤ length table → (i ≤ j) × (j ≤ length table)
  chain-within Chain.here b = (omega arith, b)
  chain-within (Chain.more {j} C l) b = (omega (arith, (chain-within C b).0), step-within j l)

  chain-passes : {i j : ℕ} → Chain (step_in label table) (length table) i j → Passed D label i j
  chain-passes Chain.here k p u = absurd (omega arith)
  chain-passes (Chain.more {j} C l) k p u = ⊎_elim (λ (v : k < j). chain-passes C k p v) (λ (v : j ≤ k). step-passes j l k v u) (lt-or-le k j)

-- as the code reads a step
module _ (label : List ℕ) (w : ℕ) where
  pub step_run : 4096 ≤ w → w - 4096 ≡ step_of label w
  step_run h = rw (le-ltb w 4096 h)

  pub step-class : w < 4096 → label_has label w ≡ false → 1 ≡ step_of label w
  step-class h e = rw (lt-ltb w 4096 h, e)

-- the next axiom of a walk, as a later step has it
pub axiom-step : {a b : Build} → Same a b → (i : ℕ) → i < axiom_count (deck_in a) → drop i (deck_in a).axioms ≡ axiom_at (deck_in b) i ∷ drop (i + 1) (deck_in a).axioms
axiom-step {a} S i h = rw S.plan (list-step (Axiom.DeclareClass 0) (deck_in a).axioms i h)

-- a walk of the axioms at element e passes over what the table does
module _ {a b : Build} {table : List ℕ} (T : Triggers (deck_in a) table 0) (e : ℕ) {label : List ℕ} (q : label ≡ get_or (model_by a b).labels e []) {i j : ℕ} (C : Chain (step_in label table) (length table) i j) (h : i ≤ length table) where
  pub pass-over : Walking a (λ p. fire_axiom (deck_of p.deck.bytes.now) p.floor.now p.bounds e) (deck_in a).axioms (drop i (deck_in a).axioms) b → Walking a (λ p. fire_axiom (deck_of p.deck.bytes.now) p.floor.now p.bounds e) (deck_in a).axioms (drop j (deck_in a).axioms) b
  pass-over W = let far = chain-within T label C h in record {
    same = W.same;
    on = record {
      built = W.on.built;
      goes = W.on.goes ∙ walk-skip (Axiom.DeclareClass 0) (fire_axiom (deck_in a) a.plan.floor.now a.plan.bounds e) (deck_in a).axioms (model_by a b) i j far.0 (omega (arith, T.wide, far.1)) (λ k p u. chain-passes T label C k p u a.plan.floor.now a.plan.bounds e (model_by a b) (sym q));
    };
  }
