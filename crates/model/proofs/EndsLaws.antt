-- Closing from a pair with the ends of edges as bits: what is ahead, and what is known.
--     marking-start, marking-skip, marking-take, marking-end    the ends of an element's edges, edge by edge
--     new-step, new-here, new-end          the next element that is ahead and not known
--     adding-start, adding-done, adding-stop, adding-next    the loop that adds an edge to each
--     from-ends, pair-step, pair-closes    closing from a pair adds an edge to each element that is ahead and not known
use Prim.Native.Nat.{ℕ, zero, suc, ◌+◌, ◌-◌, ◌*◌, ◌/◌, ◌%◌, ◌^◌, ◌<◌, ◌≤◌}
use mathlib.Core.Bool.{Bool, true, false, cond, not, ◌&&◌, ◌||◌, or-false, or_assoc}
use mathlib.Core.Path.{◌≡◌, refl, sym, ap, ◌∙◌}
use mathlib.Core.List.{List, [], ◌∷◌, ◌++◌}
use native.Mathlib.Nat.{zero-div, sub-zero}
use native.Mathlib.Omega.{arith}
use lib.ListN.{length, get_or, drop, drop_of_length-le}
use lib.Bits.{bit_and, bit_xor}
use lib.Dec.{eqb}
use borrow.Author.Tests.{eq-eqb, ne_eqb}
use Rattle.deck.specs.Deck.{Deck, role_at, has}
use Rattle.eval.specs.declared.edges.Edge.{Edge}
use Rattle.eval.specs.Lists.{keep, range}
use Rattle.eval.specs.Lent.{bit}
use Rattle.eval.specs.Edges.{under, goes, linked}
use Rattle.eval.specs.Leaving.{leaving}
use Rattle.eval.proofs.LeavingLaws.{any-leaving, leaves-in, leaves-from}
use Rattle.eval.proofs.Walks.{list-step}
use Rattle.eval.specs.Structure.{Pair, has_edge, successors}
use Rattle.eval.proofs.Clash.{clash}
use Rattle.eval.proofs.IndexLaws.{goes-off}
use Rattle.atoms.specs.Label.{label_has, insert_bit}
use Rattle.build.specs.declared.building.Build.{Build}
use Rattle.build.specs.Building.{HasRoom, Pushed, deck_in, state_of}
use Rattle.deck.proofs.SoundLaws.{sound}
use Rattle.model.specs.declared.rules.Rule.{Rule}
use Rattle.model.specs.Rules.{RuleFits}
use Rattle.std.specs.Prelude.{Some, None}
use Rattle.std.specs.List.{list_any}
use Rattle.deck.specs.declared.numbers.Element.{Element}
use Rattle.model.specs.Pairs.{pair_of, Nearest}
use Rattle.build.specs.Push.{State, edge, added}
use Rattle.atoms.specs.Walk.{walk}
use Rattle.model.specs.Closing.{graph, join, close_from, EdgesFit, Closes}
use Rattle.model.specs.Ends.{Ends, is_new, add_end, add_ends}
use Rattle.atoms.proofs.MemberLaws.{has-insert}
use Rattle.model.proofs.NextLaws.{any_snoc, near_first, near-nothing, next-none, next-some}
use Rattle.model.proofs.WordLaws.{NoneOf, bit-without, word-step, word-hit}
use Rattle.model.proofs.EdgeSteps.{OnBuild, on-start, on-done, on-stop, on-next, pushed-is, pushed-by, closes-on}
use Rattle.model.proofs.CloseLaws.{linked-is, join-known, join-new, join-stuck, from-fits}

-- ---- edge by edge, of those that leave x: the first i are marked
pub record Marking (D : Deck) (n : ℕ) (es : List Edge) (r x i : ℕ) (bits : List ℕ) : Type 0 where
  pub has : (z : ℕ) → z < n → linked D es r x z ≡ (label_has bits z || list_any (goes D r x z) (drop i (leaving x es)))

module _ (D : Deck) (n : ℕ) (es : List Edge) (r x : ℕ) where
  -- words that are 0
  pub marking-start : (bits : List ℕ) (words : ℕ) → n ≤ words * 64 → ((k : ℕ) → k < words → get_or bits k 0 ≡ 0) → Marking D n es r x 0 bits
  unfolding linked label_has
  marking-start bits words h zero-at = record {
    has = λ (z : ℕ) (l : z < n).
        sym (rw (zero-at (z / 64) (omega (arith, l, h)), zero-div (2 ^ (z % 64))) (any-leaving (goes D r x z) (goes D r x z) x (λ e h. refl) (λ e d. goes-off D r x e d z) es));
  }

  module _ (F : EdgesFit D n es) (i : ℕ) (bits : List ℕ) (e : Edge) (l : i < length (leaving x es)) (is : get_or (leaving x es) i e ≡ e) where
    -- its end is one of the elements
    pub leaving-to : e.to.0 < n
    unfolding EdgesFit
    leaving-to = (F e (leaves-in x es i e l is)).to

    next : (z : ℕ) → list_any (goes D r x z) (drop i (leaving x es)) ≡ (goes D r x z e || list_any (goes D r x z) (drop (i + 1) (leaving x es)))
    next z = ap (list_any (goes D r x z)) (list-step e (leaving x es) i l ∙ ap (λ (d : Edge). d ∷ drop (i + 1) (leaving x es)) is)

    pub marking-skip : under D r e ≡ false → Marking D n es r x i bits → Marking D n es r x (i + 1) bits
    marking-skip h M = record { has = λ z b. M.has z b ∙ ap (λ (t : Bool). label_has bits z || t) (next z ∙ rw (off z)) }
      where
        and-off : (b : Bool) → (b && false) ≡ false
        and-off true = refl
        and-off false = refl

        off : (z : ℕ) → goes D r x z e ≡ false
        off z = rw (h, and-off (eqb e.to.0 z), and-off (eqb e.from.0 x))

    pub marking-take : under D r e ≡ true → e.to.0 / 64 < length bits → Marking D n es r x i bits → Marking D n es r x (i + 1) (insert_bit bits e.to.0)
    marking-take h fit M = record {
      has = λ z b.
          M.has z b ∙ ap (λ (t : Bool). label_has bits z || t) (next z ∙ ap (λ (t : Bool). t || list_any (goes D r x z) (drop (i + 1) (leaving x es))) (on z))
          ∙ sym (or_assoc (label_has bits z) (eqb e.to.0 z) (list_any (goes D r x z) (drop (i + 1) (leaving x es))))
          ∙ ap (λ (t : Bool). t || list_any (goes D r x z) (drop (i + 1) (leaving x es))) (sym (has-insert bits e.to.0 z fit));
    }
      where
        and-on : (b : Bool) → (b && true) ≡ b
        and-on true = refl
        and-on false = refl

        on : (z : ℕ) → goes D r x z e ≡ eqb e.to.0 z
        on z = rw (h, and-on (eqb e.to.0 z), eq-eqb e.from.0 x (leaves-from x es i e l is))

  pub marking-end : (i : ℕ) (bits : List ℕ) → length (leaving x es) ≤ i → Marking D n es r x i bits → Ends D n es r x bits
  marking-end i bits h M = record { has = λ z b. sym (M.has z b ∙ rw (drop_of_length-le (leaving x es) {i = i} h, or-false (label_has bits z))) }

-- ---- the next that is new
module _ (ahead known : List ℕ) where
  abbrev word : ℕ → ℕ
  word j = bit_xor (get_or ahead j 0) (bit_and (get_or ahead j 0) (get_or known j 0))

  new-bit : (i : ℕ) → is_new ahead known i ≡ bit (word (i / 64)) (i % 64)
  unfolding is_new label_has
  new-bit i = sym (bit-without (get_or ahead (i / 64) 0) (get_or known (i / 64) 0) (i % 64))

  pub new-start : (k : ℕ) → NoneOf (is_new ahead known) k k
  new-start k h l u = absurd (omega (arith, l, u))

  pub new-end : (n k i : ℕ) → NoneOf (is_new ahead known) k i → n ≤ i → Nearest (λ (e : Element). e.0) (is_new ahead known) k n None
  new-end n k i N h = record {
    some = tt;
    none = record { le = omega arith; none = λ (u : ℕ) (l : k ≤ u) (b : u < n). N u l (omega (arith, b, h)); got = λ (b : n < n). absurd (omega (arith, b)) };
  }

  module _ (k i : ℕ) (N : NoneOf (is_new ahead known) k i) {rest : ℕ} (q : rest ≡ word (i / 64) / 2 ^ (i % 64)) where
    pub new-here : (n : ℕ) → k ≤ i → i < n → rest % 2 ≡ 1 → Nearest (λ (e : Element). e.0) (is_new ahead known) k n (Some (record { 0 = i }))
    new-here n l h o = record { some = (h, record { le = omega (arith, h); none = N; got = λ (b : i < n). (l, word-hit (is_new ahead known) word new-bit k i N q o) }); none = tt }

    pub new-step : (rest % 2 ≡ 1 → ⊥) → {next : ℕ} → next ≡ cond (eqb rest 0) ((i / 64 + 1) * 64) (i + 1) → NoneOf (is_new ahead known) k next
    new-step o p = word-step (is_new ahead known) word new-bit k i N q o p

-- ---- an edge more
pub add-stuck : (limit v x z : ℕ) (s : State) → s.tripped ≡ true → add_end limit v x z s ≡ s
unfolding add_end
add-stuck limit v x z s e = rw e

pub add-quiet : (limit v x z : ℕ) (s : State) → s.tripped ≡ false → added limit (edge v x z) s ≡ add_end limit v x z s
unfolding add_end
add-quiet limit v x z s e = rw e

-- ---- the loop: edges to the elements below `from` that pass are in
pub record Adding (a : Build) (v x : ℕ) (p : ℕ → Bool) (b : Build) (from : ℕ) : Type 0 where
  pub le : from ≤ a.tally.elements
  pub on : OnBuild a (add_end a.plan.bounds.max_edges v x) (keep p (range 0 a.tally.elements)) (keep p (range from (a.tally.elements - from))) b

module _ {a : Build} (v x : ℕ) (p : ℕ → Bool) where
  pub adding-start : HasRoom a → Adding a v x p a 0
  adding-start R = record { le = omega arith; on = on-start (ap (λ (n : ℕ). keep p (range 0 n)) (sym (sub-zero a.tally.elements))) R }

  module _ {b : Build} {from : ℕ} (G : Adding a v x p b from) where
    pub adding-done : Nearest (λ (e : Element). e.0) p from a.tally.elements None → Pushed a b false (add_ends a.plan.bounds.max_edges v x p a.tally.elements (state_of a))
    unfolding add_ends
    adding-done N = on-done G.on (next-none p from a.tally.elements G.le (near-nothing p from a.tally.elements a.tally.elements G.le N.none (omega arith)) refl)

    module _ {z : Element} (N : Nearest (λ (e : Element). e.0) p from a.tally.elements (Some z)) where
      rest : keep p (range from (a.tally.elements - from)) ≡ z.0 ∷ keep p (range (z.0 + 1) (a.tally.elements - (z.0 + 1)))
      rest = next-some p from a.tally.elements G.le (near_first p from a.tally.elements z.0 N.some.1 N.some.0) z.0 refl

      step : {c : Build} {r : Bool} → Pushed b c r (added b.plan.bounds.max_edges (edge v x z.0) (state_of b)) → Pushed b c r (add_end a.plan.bounds.max_edges v x z.0 (state_of b))
      step P = pushed-is (pushed-by G.on.built (λ q n. added q.bounds.max_edges (edge v x z.0) (state_of b)) P) (add-quiet a.plan.bounds.max_edges v x z.0 (state_of b) refl)

      pub adding-stop : {c : Build} → Pushed b c true (added b.plan.bounds.max_edges (edge v x z.0) (state_of b)) → Pushed a c true (add_ends a.plan.bounds.max_edges v x p a.tally.elements (state_of a))
      unfolding add_ends
      adding-stop P = on-stop G.on rest (step P) (λ y u e. add-stuck a.plan.bounds.max_edges v x y u e)

      pub adding-next : {c : Build} → Pushed b c false (added b.plan.bounds.max_edges (edge v x z.0) (state_of b)) → Adding a v x p c (z.0 + 1)
      adding-next P = record { le = omega (arith, N.some.0); on = on-next G.on rest (step P) }

-- ---- closing from a pair
module _ (D : Deck) (n limit v x : ℕ) (own : has (role_at D v).sub_roles v ≡ true) where
  -- an edge more from x to a changes the test at a alone
  added-other : (a z : ℕ) (es : List Edge) → (a ≡ z → ⊥) → linked D (es ++ (edge v x a ∷ [])) v x z ≡ linked D es v x z
  unfolding linked
  added-other a z es d =
      any_snoc (goes D v x z) es (edge v x a)
      ∙ ap (λ (b : Bool). linked D es v x z || b) (let f : goes D v x z (edge v x a) ≡ false = rw (eq-eqb x x refl, ne_eqb a z d) in f) ∙ or-false (linked D es v x z)

  end-other : (a z : ℕ) (s : State) → (a ≡ z → ⊥) → linked D (add_end limit v x a s).edges v x z ≡ linked D s.edges v x z
  unfolding add_end
  end-other a z s d = go s.tripped
    where
      go : (b : Bool) → linked D (cond b s (added limit (edge v x a) s)).edges v x z ≡ linked D s.edges v x z
      go true = refl
      go false = added-other a z s.edges d

  join-end : (a : ℕ) (s : State) → linked D s.edges v x a ≡ false → join D n limit v x a s ≡ add_end limit v x a s
  join-end a s h = go s.tripped refl
    where
      go : (b : Bool) → s.tripped ≡ b → join D n limit v x a s ≡ add_end limit v x a s
      go true e = join-stuck D n limit v x a s e ∙ sym (add-stuck limit v x a s e)
      go false e = join-new D n limit v x a s own e h ∙ add-quiet limit v x a s e

  -- a join where there is an edge changes nothing, and one where there is none adds it
  joins : (q p : ℕ → Bool) (m a : ℕ) (s : State) → ((z : ℕ) → a ≤ z → z < a + m → p z ≡ (q z && not (linked D s.edges v x z)))
      → walk (join D n limit v x) (keep q (range a m)) s ≡ walk (add_end limit v x) (keep p (range a m)) s
  unfolding walk keep range
  joins q p zero a s h = refl
  joins q p (suc m) a s h =
      go (q a) refl (linked D s.edges v x a) refl (p a) (h a (omega arith) (omega arith)) (λ (t : State) f. joins q p m (suc a) t (λ z l u. h z (omega (arith, l)) (omega (arith, u)) ∙ f z l))
    where
      go : (b : Bool) → q a ≡ b → (c : Bool) → linked D s.edges v x a ≡ c → (o : Bool) → o ≡ (q a && not (linked D s.edges v x a))
          → ((t : State) → ((z : ℕ) → suc a ≤ z → (q z && not (linked D s.edges v x z)) ≡ (q z && not (linked D t.edges v x z))) → walk (join D n limit v x) (keep q (range (suc a) m)) t ≡ walk (add_end limit v x) (keep p (range (suc a) m)) t)
          → walk (join D n limit v x) (cond b (a ∷ keep q (range (suc a) m)) (keep q (range (suc a) m))) s ≡ walk (add_end limit v x) (cond o (a ∷ keep p (range (suc a) m)) (keep p (range (suc a) m))) s
      go false e c f true w ih = clash (let y : true ≡ false = rw e at w in cc)
      go false e c f false w ih = ih s (λ z l. refl)
      go true e true f true w ih = clash (let y : true ≡ false = rw (e, f) at w in cc)
      go true e true f false w ih = ap (walk (join D n limit v x) (keep q (range (suc a) m))) (join-known D n limit v x a s f) ∙ ih s (λ z l. refl)
      go true e false f false w ih = clash (let y : false ≡ true = rw (e, f) at w in cc)
      go true e false f true w ih =
          ap (walk (join D n limit v x) (keep q (range (suc a) m))) (join-end a s f)
          ∙ ih (add_end limit v x a s) (λ z l. ap (λ (b : Bool). q z && not b) (sym (end-other a z s (λ u. omega (arith, u, l)))))

  pub from-ends : (b : ℕ) (p : Pair) → p.from ≡ x → (s : State) {ahead known : List ℕ} → Ends D n s.edges b p.to ahead → Ends D n s.edges v x known
      → add_ends limit v x (is_new ahead known) n s ≡ close_from D n limit b v p s
  unfolding close_from successors add_ends is_new
  from-ends b p e s {ahead} {known} A K =
      rw e
      (sym
      (joins (has_edge D (graph n s.edges) b p.to) (λ z. label_has ahead z && not (label_has known z)) n 0 s
      (λ z l u. rw (linked-is D n s.edges b p.to z, A.has z (omega (arith, u)), K.has z (omega (arith, u))))))

-- the same of structures: from B, which closing by a rule that began with S has come to
module _ {S B : Build} (R : Closes S) (G : Pushed S B false (state_of B)) (rule : Rule) (F : RuleFits (deck_in S) rule) (k : ℕ) {c : Build} {r : Bool} where
  pub pair-step : {ahead known : List ℕ} → Ends (deck_in S) S.tally.elements (state_of B).edges rule.second.0 (k % 65536) ahead → Ends (deck_in S) S.tally.elements (state_of B).edges rule.third.0 (k / 65536) known
      → Pushed B c r (add_ends B.plan.bounds.max_edges rule.third.0 (k / 65536) (is_new ahead known) B.tally.elements (state_of B))
      → Pushed B c r (close_from (deck_in S) S.tally.elements S.plan.bounds.max_edges rule.second.0 rule.third.0 (pair_of k) (state_of B))
  pair-step {ahead} {known} A K P =
      pushed-is (pushed-by G (λ p n. add_ends p.bounds.max_edges rule.third.0 (k / 65536) (is_new ahead known) n (state_of B)) P)
      (from-ends (deck_in S) S.tally.elements S.plan.bounds.max_edges rule.third.0 (k / 65536) ((sound _ R.accepted).roles _ F.third).own rule.second.0 (pair_of k) refl (state_of B) A K)

-- and what it leaves
pub pair-closes : {S B c : Build} → Closes S → Closes B → Pushed S B false (state_of B) → (rule : Rule) → RuleFits (deck_in S) rule → (k : ℕ) → k / 65536 < S.tally.elements
    → Pushed B c false (close_from (deck_in S) S.tally.elements S.plan.bounds.max_edges rule.second.0 rule.third.0 (pair_of k) (state_of B)) → Closes c
pair-closes {S} {B} R C G rule F k h Q = closes-on R C G Q (from-fits (deck_in S) S.tally.elements S.plan.bounds.max_edges rule.second.0 rule.third.0 F.third (pair_of k) h (state_of B))
