-- The edges that leave an element, from a position of the list on.
use Prim.Native.Nat.{ℕ, ◌+◌, ◌<◌, ◌≤◌}
use mathlib.Core.Bool.{Bool, true, false, cond, ◌||◌}
use mathlib.Core.Logic.{◌⊎◌, ⊎_elim}
use mathlib.Core.List.Memᴰ.{cases_cons}
use mathlib.Core.List.Memᴰ.{head as here}
use mathlib.Core.List.Memᴰ.{not-nil as nothing-in}
use mathlib.Core.List.Memᴰ.{tail as there}
use mathlib.Core.List.{List, [], ◌∷◌, map, Memᴰ as Member}
use mathlib.Core.Path.{◌≡◌, refl, ap, ◌∙◌}
use native.Mathlib.Omega.{arith}
use lib.ListN.{length, get_or, drop, drop_of_length-le}
use lib.Dec.{eqb}
use borrow.Author.Tests.{ne_eqb, eq-eqb, eqb-true, eqb-false}
use Rattle.std.specs.List.{filter, list_any}
use Rattle.eval.specs.declared.edges.Edge.{Edge}
use Rattle.eval.specs.Edges.{edge_of, edges_of}
use Rattle.eval.specs.Index.{Gap, from_at}
use Rattle.eval.specs.Leaving.{leaving}
use Rattle.eval.specs.Lists.{any}
use Rattle.eval.specs.Lowest.{Among, Seen}
use Rattle.eval.specs.declared.judgement.Judgement.{Judgement}
use Rattle.eval.specs.declared.lowest.Lowest.{Lowest}
use Rattle.eval.proofs.Clash.{clash}
use Rattle.eval.proofs.EdgeWalks.{no_edge, edges-length, edges_at}
use Rattle.eval.proofs.IndexLaws.{climb}
use Rattle.eval.proofs.ListLaws.{member-at}
use Rattle.eval.proofs.Walks.{list-step}

filter-skip : {A : Type 0} (p : A → Bool) (x : A) (xs : List A) → p x ≡ false → filter p (x ∷ xs) ≡ filter p xs
filter-skip p x xs h = rw h

filter-take : {A : Type 0} (p : A → Bool) (x : A) (xs : List A) → p x ≡ true → filter p (x ∷ xs) ≡ x ∷ filter p xs
filter-take p x xs h = rw h

module _ (rows : List (List ℕ)) (n : ℕ) (k : n ≤ length rows) (x : ℕ) where
  step : (i : ℕ) → i < n → drop i (edges_of rows n) ≡ edge_of (get_or rows i []) ∷ drop (i + 1) (edges_of rows n)
  step i h = list-step no_edge (edges_of rows n) i (omega (arith, edges-length rows n k)) ∙ ap (λ e. e ∷ drop (i + 1) (edges_of rows n)) (edges_at rows n i h k)

  pub leaving-here : (i : ℕ) → i < n → from_at rows i ≡ x → leaving x (drop i (edges_of rows n)) ≡ edge_of (get_or rows i []) ∷ leaving x (drop (i + 1) (edges_of rows n))
  leaving-here i h e = ap (leaving x) (step i h) ∙ filter-take (λ (e : Edge). eqb e.from.0 x) (edge_of (get_or rows i [])) (drop (i + 1) (edges_of rows n)) (eq-eqb _ _ e)

  pub leaving-skip : (i j : ℕ) → i ≤ j → j ≤ n → Gap rows x i j → leaving x (drop i (edges_of rows n)) ≡ leaving x (drop j (edges_of rows n))
  leaving-skip i j l w gap =
      climb (λ (m : ℕ). leaving x (drop i (edges_of rows n)) ≡ leaving x (drop m (edges_of rows n))) i j l
      (λ m a b e. e ∙ ap (leaving x) (step m (omega (arith, b, w))) ∙ filter-skip (λ (e : Edge). eqb e.from.0 x) (edge_of (get_or rows m [])) (drop (m + 1) (edges_of rows n)) (ne_eqb _ _ (gap m a b))) refl

  pub leaving-end : (i : ℕ) → n ≤ i → leaving x (drop i (edges_of rows n)) ≡ []
  leaving-end i h = rw (drop_of_length-le (edges_of rows n) {i = i} (omega (arith, edges-length rows n k)))

-- a test q of edges from x that says what p says, where only edges from x pass p
pub any-leaving : (q p : Edge → Bool) (x : ℕ) → ((e : Edge) → e.from.0 ≡ x → q e ≡ p e) → ((e : Edge) → (e.from.0 ≡ x → ⊥) → p e ≡ false) → (es : List Edge) → list_any q (leaving x es) ≡ any (map p es)
unfolding any
any-leaving q p x on off [] = refl
any-leaving q p x on off (e ∷ es) = go (eqb e.from.0 x) refl (any-leaving q p x on off es)
  where
    go : (b : Bool) → eqb e.from.0 x ≡ b → list_any q (leaving x es) ≡ any (map p es) → list_any q (cond b (e ∷ leaving x es) (leaving x es)) ≡ (p e || any (map p es))
    go true k h = rw (on e (eqb-true e.from.0 x k)) (ap (λ b. p e || b) h)
    go false k h = rw (off e (eqb-false e.from.0 x k)) h

filter-in : {A : Type 0} (p : A → Bool) (xs : List A) (a : A) → Member a xs → p a ≡ true → Member a (filter p xs)
filter-in p [] a m e = absurd (nothing-in m)
filter-in {A} p (x ∷ xs) a m e = go (p x) refl (cases_cons m) (λ n. filter-in p xs a n e)
  where
    go : (b : Bool) → p x ≡ b → (a ≡ x) ⊎ Member a xs → (Member a xs → Member a (filter p xs)) → Member a (cond b (x ∷ filter p xs) (filter p xs))
    go true q (◌⊎◌.inl i) ih = here i
    go true q (◌⊎◌.inr n) ih = there (ih n)
    go false q (◌⊎◌.inl i) ih = clash (cc)
    go false q (◌⊎◌.inr n) ih = ih n

pub in-filter : {A : Type 0} (p : A → Bool) (xs : List A) (a : A) → Member a (filter p xs) → Member a xs
in-filter p [] a m = m
in-filter {A} p (x ∷ xs) a m = go (p x) m (in-filter p xs a)
  where
    go : (b : Bool) → Member a (cond b (x ∷ filter p xs) (filter p xs)) → (Member a (filter p xs) → Member a xs) → Member a (x ∷ xs)
    go true m ih = later (cases_cons m)
      where
        later : (a ≡ x) ⊎ Member a (filter p xs) → Member a (x ∷ xs)
        later (◌⊎◌.inl i) = here i
        later (◌⊎◌.inr n) = there (ih n)
    go false m ih = there (ih m)

passes-filter : {A : Type 0} (p : A → Bool) (xs : List A) (a : A) → Member a (filter p xs) → p a ≡ true
passes-filter p [] a m = absurd (nothing-in m)
passes-filter {A} p (x ∷ xs) a m = go (p x) refl m (passes-filter p xs a)
  where
    go : (b : Bool) → p x ≡ b → Member a (cond b (x ∷ filter p xs) (filter p xs)) → (Member a (filter p xs) → p a ≡ true) → p a ≡ true
    go true q m ih = ⊎_elim (λ (e : a ≡ x). ap p e ∙ q) ih (cases_cons m)
    go false q m ih = ih m

-- the edge at position i of those that leave x
module _ (x : ℕ) (es : List Edge) (i : ℕ) (e : Edge) (h : i < length (leaving x es)) (is : get_or (leaving x es) i e ≡ e) where
  there-in : Member e (leaving x es)
  there-in = rw is at (member-at e (leaving x es) i h)

  pub leaves-from : e.from.0 ≡ x
  leaves-from = eqb-true e.from.0 x (passes-filter (λ (d : Edge). eqb d.from.0 x) es e there-in)

  pub leaves-in : Member e es
  leaves-in = in-filter (λ (d : Edge). eqb d.from.0 x) es e there-in

-- what was seen among the edges that leave x was seen among all, by a test that only those pass
pub seen-leaving : (p : Edge → Bool) (f : Edge → Judgement) (x : ℕ) (es : List Edge) → ((e : Edge) → p e ≡ true → eqb e.from.0 x ≡ true) → {l : Lowest} → Seen (Among p (leaving x es)) f l → Seen (Among p es) f l
seen-leaving p f x es on S =
    let at = λ (e : Edge). eqb e.from.0 x in
    let to : (e : Edge) → Among p (leaving x es) e → Among p es e = λ e m. record { member = in-filter at es e m.member; passes = m.passes } in
    let back : (e : Edge) → Among p es e → Among p (leaving x es) e = λ e m. record { member = filter-in at es e m.member (on e m.passes); passes = m.passes } in
    record {
      fails = λ d h. let m = S.fails d h in record { met = to d m.met; fails = m.fails; least = λ e q. m.least e (back e q) };
      sound = λ h e q. S.sound h e (back e q);
      opens = λ t h. let m = S.opens t h in record { edge = m.edge; met = to m.edge m.met; unresolved = m.unresolved };
      closed = λ h e t q. S.closed h e t (back e q);
    }
