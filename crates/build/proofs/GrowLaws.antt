-- Steps of building only add: one that leaves the counts of a structure as they were has changed nothing.
--     Grows                                  what a step may do
--     grows_same, grows-trans, walk-grows    no step, two steps, a walk of steps
--     each-still                             where a walk changed nothing, none of its steps would
--     note-grows, notes-grow                 one more reason, and several
use Prim.Native.Nat.{ℕ, ◌+◌, ◌<◌, ◌≤◌}
use mathlib.Core.Path.{◌≡◌, refl, ap, subst, ◌∙◌}
use mathlib.Core.List.Memᴰ.{cases_cons}
use mathlib.Core.List.Memᴰ.{not-nil as nothing-in}
use mathlib.Core.List.{List, [], ◌∷◌, Memᴰ as Member}
use mathlib.Core.Logic.{⊎_elim}
use native.Mathlib.Omega.{arith}
use lib.Dec.{ltb}
use borrow.Author.Tests.{lt-ltb, le-ltb}
use Rattle.deck.proofs.CaseLaws.{lt-or-le}
use Rattle.atoms.specs.declared.reasons.Reason.{Reason}
use Rattle.atoms.specs.Walk.{walk}
use Rattle.atoms.specs.Reasons.{counted, noted, Log, note}
use Rattle.build.specs.Model.{Model}
use Rattle.build.specs.Again.{model_size, LiveModel}
use Rattle.build.proofs.InternLaws.{by_cond}
use Rattle.atoms.proofs.WalkLaws.{walk-keeps}

-- the size does not fall, and where it stands, and what is left is live, nothing has changed
pub record Grows {S : Type 0} (size : S → ℕ) (Live : S → Type 0) (s t : S) : Type 0 where
  pub up : size s ≤ size t
  pub still : size t ≡ size s → Live t → t ≡ s

module _ {S : Type 0} {size : S → ℕ} {Live : S → Type 0} where
  pub grows_same : (s : S) → Grows size Live s s
  grows_same s = record { up = omega arith; still = λ q v. refl }

  pub grows-trans : {s t u : S} → Grows size Live s t → Grows size Live t u → Grows size Live s u
  grows-trans {s} {t} {u} X Y = record {
    up = omega (arith, X.up, Y.up);
    still = λ q v.
        let e : u ≡ t = Y.still (omega (arith, X.up, Y.up, q)) v in
        e ∙ X.still (omega (arith, X.up, Y.up, q)) (subst Live e v);
  }

  pub walk-grows : {A : Type 0} (f : A → S → S) (l : List A) → ((x : A) → Member x l → (s : S) → Grows size Live s (f x s)) → (s : S) → Grows size Live s (walk f l s)
  walk-grows f l h s = walk-keeps (Grows size Live s) f l (λ x i k q. grows-trans q (h x i k)) s (grows_same s)

  -- a walk that changed nothing
  pub each-still : {A : Type 0} (f : A → S → S) (l : List A) → ((x : A) (s : S) → Grows size Live s (f x s)) → (s : S) → size (walk f l s) ≡ size s → Live (walk f l s) → (x : A) → Member x l → f x s ≡ s
  unfolding walk
  each-still f [] g s q v x i = absurd (nothing-in i)
  each-still {A} f (y ∷ ys) g s q v x i =
      let first : Grows size Live s (f y s) = g y s in
      let rest : Grows size Live (f y s) (walk f ys (f y s)) = walk-grows f ys (λ z j. g z) (f y s) in
      let e : walk f ys (f y s) ≡ f y s = rest.still (omega (arith, first.up, rest.up, q)) v in
      let d : f y s ≡ s = first.still (omega (arith, first.up, rest.up, q)) (subst Live e v) in
      ⊎_elim (λ (p : x ≡ y). ap (λ (z : A). f z s) p ∙ d)
      (λ (j : Member x ys). each-still f ys g s (subst (λ (k : S). size (walk f ys k) ≡ size s) d q) (subst (λ (k : S). Live (walk f ys k)) d v) x j) (cases_cons i)

-- ---- reasons: below its largest value the total counts each; there no more is written, so nothing else is asked
abbrev pub Counting : Log → Type 0
Counting g = Unit {0}

abbrev pub total : Log → ℕ
total g = g.total

pub counted-up : (n : ℕ) → n ≤ counted n
unfolding counted
counted-up n = by_cond (λ (k : ℕ). n ≤ k) (ltb n 4294967295) (n + 1) n (omega arith) (omega arith)

note-still : (x : Reason) (g : Log) → counted g.total ≡ g.total → note x g ≡ g
unfolding counted noted
note-still x g q =
    ⊎_elim (λ (h : g.total < 4294967295). let e : counted g.total ≡ g.total + 1 = rw (lt-ltb g.total 4294967295 h) in absurd (omega (arith, e, q)))
    (λ (h : 4294967295 ≤ g.total). let p : note x g ≡ record { words = g.words; total = g.total } = rw (le-ltb g.total 4294967295 h) in p) (lt-or-le g.total 4294967295)

note-grows : (x : Reason) (g : Log) → Grows total Counting g (note x g)
note-grows x g = record { up = counted-up g.total; still = λ q v. note-still x g q }

pub notes-grow : (xs : List Reason) (g : Log) → Grows total Counting g (walk note xs g)
notes-grow xs g = walk-grows note xs (λ x i. note-grows x) g

-- ---- a structure in the making, with its reasons
abbrev pub Builds : Model → Model → Type 0
Builds = Grows model_size LiveModel
