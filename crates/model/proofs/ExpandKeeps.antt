-- Expanding by the facts keeps labels, and edges that fit: a fact's role is one of R, and a turn takes an element.
use Prim.Native.Nat.{ℕ, zero, suc, ◌<◌}
use mathlib.Core.Bool.{false, cond}
use mathlib.Core.Path.{◌≡◌, refl}
use mathlib.Core.List.{List, [], Memᴰ as Member}
use lib.ListN.{length, get_or, replicate}
use lib.Dec.{eqb}
use Rattle.deck.specs.Deck.{Deck, Fact, role_count, class_count}
use Rattle.deck.specs.Sound.{Sound}
use Rattle.eval.specs.Lists.{range}
use Rattle.eval.proofs.ListLaws.{position}
use Rattle.build.specs.declared.bounds.Bounds.{Bounds}
use Rattle.atoms.specs.declared.target_label.Target.{Target}
use Rattle.atoms.specs.declared.target_label.Target.TheVariants.{Row, Delta, NotClosed}
use Rattle.atoms.specs.Label.{label_has, insert_bit}
use Rattle.build.specs.Seed.{row_label}
use Rattle.atoms.specs.Reasons.{run_delta, label_not_closed}
use Rattle.atoms.specs.Target.{target_of}
use Rattle.build.specs.Model.{Model, note_in}
use Rattle.model.specs.Expand.{highest, link_target, work_fact, fact_step, work_facts, class_step, work_classes, next_turn, turns, expand}
use Rattle.build.proofs.InternLaws.{by_cond, by-case}
use Rattle.build.proofs.SeedLaws.{no_fact}
use Rattle.model.proofs.TidyLaws.{Tidy, tidy-row-label}
use Rattle.model.proofs.ExpandLaws.{highest-is, facts-in-order}
use Rattle.model.proofs.KeepLaws.{Kept, kept_same, kept_trans, note-kept, walk_kept, reach-kept}

module _ (D : Deck) (W : Sound D) (floor : List ℕ) (F : Tidy D floor) (B : Bounds) where
  fact-role : (f : Fact) → Member f D.facts → f.role < role_count D
  fact-role f i = let p = position no_fact f D.facts i in rw p.2 at (W.facts p.0 p.1).role

  -- ---- from an element
  module _ (e : ℕ) where
    link-kept : (y r : ℕ) (target : Target) (m : Model) → r < role_count D → e < length m.labels → m.state.tripped ≡ false → Kept D B m (link_target D floor B e y r target m)
    link-kept y r (Row k) m hr he q = reach-kept B r e (row_label D floor k.0) m (tidy-row-label D W floor F k.0) hr he q
    link-kept y r (Delta k) m hr he q = kept_trans (note-kept (run_delta y) m) (reach-kept B r e (row_label D floor k.0) (note_in (run_delta y) m) (tidy-row-label D W floor F k.0) hr he q)
    link-kept y r NotClosed m hr he q = note-kept (label_not_closed y r) m

    fact-kept : (k : ℕ) (f : Fact) → Member f D.facts → (m : Model) → e < length m.labels → Kept D B m (fact_step D floor B e k f m)
    unfolding fact_step work_fact
    fact-kept k f i m h =
        let linked = link_target D floor B e f.to f.role (target_of D f.to f.role) m in
        by_cond (Kept D B m) (eqb f.from k) (cond m.state.tripped m linked) m
        (by-case (Kept D B m) m.state.tripped m linked (λ w. kept_same m) (link-kept f.to f.role (target_of D f.to f.role) m (fact-role f i) h)) (kept_same m)

    class-kept : (k : ℕ) (m : Model) → e < length m.labels → Kept D B m (class_step D floor B e k m)
    unfolding class_step
    class-kept k m h =
        by_cond (Kept D B m) (label_has (get_or m.labels e []) k) (work_facts D floor B e k m) m
        (rw (facts-in-order D floor B e k m) (walk_kept (suc e) (fact_step D floor B e k) D.facts (fact-kept k) m h)) (kept_same m)

    pub classes-kept : (m : Model) → e < length m.labels → Kept D B m (work_classes D floor B e m)
    unfolding work_classes
    classes-kept = walk_kept (suc e) (class_step D floor B e) (range 0 (class_count D)) (λ k i. class-kept k)

  -- ---- turns
  next-kept : (others : List ℕ → Model → Model) → ((taken : List ℕ) (m : Model) → Kept D B m (others taken m))
      → (taken : List ℕ) (m : Model) (n : ℕ) → highest taken (length m.labels) ≡ n → Kept D B m (next_turn D floor B others taken m n)
  unfolding next_turn
  next-kept others h taken m zero q = kept_same m
  next-kept others h taken m (suc e) q = kept_trans (classes-kept e m (highest-is taken (length m.labels) e q).0) (h (insert_bit taken e) (work_classes D floor B e m))

  turns-kept : (n : ℕ) (taken : List ℕ) (m : Model) → Kept D B m (turns D floor B n taken m)
  unfolding turns
  turns-kept zero taken m = kept_same m
  turns-kept (suc n) taken m =
      let next = highest taken (length m.labels) in
      by_cond (Kept D B m) m.state.tripped m (next_turn D floor B (turns D floor B n) taken m next) (kept_same m) (next-kept (turns D floor B n) (turns-kept n) taken m next refl)

  pub expand-kept : (m : Model) → Kept D B m (expand D floor B m)
  unfolding expand
  expand-kept m = turns-kept 65536 (replicate 1024 0) m
