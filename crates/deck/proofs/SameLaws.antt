-- Two decks that agree on counts, on records but for the starts of lists, and on the words of each list say the same: `alike-deck`.
-- Nothing else of the bytes counts. Decks with equal records and referenced list words are such: `same-deck`.
-- Assumes nothing.
use mathlib.Core.Path.{◌≡◌, refl, ap, ◌∙◌}
use mathlib.Core.Logic.{⊎_elim}
use mathlib.Core.Bool.{true, false}
use mathlib.Core.List.{List}
use Prim.Native.Nat.{ℕ, ◌+◌, ◌<◌, ◌≤◌}
use native.Mathlib.Omega.{arith}
use lib.ListN.{length, get_or, get_or-eq_default}
use Rattle.deck.specs.declared.forms.Form.{Form}
use Rattle.deck.specs.declared.forms.Form.TheVariants.{Fields, ListField, FieldList, Unknown}
use Rattle.deck.specs.Trailer.{part_count}
use Rattle.deck.specs.Parts.{part_word, list_word}
use Rattle.deck.specs.Records.{concept_form, concept_forms, axiom_form, axiom_forms}
use Rattle.deck.specs.Content.{table, list_at, list_in, make_concept, make_axiom, concept_of, axiom_of, class_in, role_in, injected_in, concept_in, axiom_in, fact_in, deck_of}
use Rattle.deck.specs.Same.{form_names_list, names_list, Same, Alike}
use Rattle.deck.proofs.CaseLaws.{Cases, case_at, lt-or-le}
use Rattle.deck.proofs.TableLaws.{table-ext}

-- ---- what is made of three fields and a list does not hang on where the list starts
abbrev StartFree : {A : Type 0} → Form → (ℕ → ℕ → ℕ → List ℕ → A) → Type 0
StartFree (Fields a b c) m = Unit {0}
StartFree (ListField e a) m = (x x' y z : ℕ) (l : List ℕ) → m x y z l ≡ m x' y z l
StartFree (FieldList a e) m = (x y y' z : ℕ) (l : List ℕ) → m x y z l ≡ m x y' z l
StartFree Unknown m = Unit {0}

ConceptFree : ℕ → Type 0
ConceptFree tag = StartFree (concept_form tag) (make_concept tag)

AxiomFree : ℕ → Type 0
AxiomFree tag = StartFree (axiom_form tag) (make_axiom tag)

concept-tags : Cases ConceptFree 12
unfolding ConceptFree make_concept
concept-tags =
    ((((((((((((tt, tt), tt), tt), tt), tt), tt), λ x x' y z l. refl), λ x x' y z l. refl), tt), tt), tt), tt)

axiom-tags : Cases AxiomFree 26
unfolding AxiomFree make_axiom
axiom-tags =
    ((((((((((((((((((((((((((tt, tt), λ x x' y z l. refl), λ x x' y z l. refl), λ x y y' z l. refl), tt), λ x x' y z l. refl), λ x x' y z l. refl), λ x x' y z l. refl), tt), tt), tt), tt), tt), tt), tt), tt), tt), tt), tt), tt), tt), λ x x' y z l. refl), λ x x' y z l. refl), tt), tt), tt)

unknown-free : {A : Type 0} (tag : ℕ) (forms : List Form) (m : ℕ → ℕ → ℕ → List ℕ → A) → length forms ≤ tag → StartFree (get_or forms tag Unknown) m
unknown-free tag forms m h = let e : get_or forms tag Unknown ≡ Unknown = get_or-eq_default forms Unknown h in rw e tt

concept-free : (tag : ℕ) → StartFree (concept_form tag) (make_concept tag)
unfolding ConceptFree
concept-free tag =
    ⊎_elim (λ (l : tag < 12). case_at ConceptFree 12 tag concept-tags l) (λ (g : 12 ≤ tag). unknown-free tag concept_forms (make_concept tag) g) (lt-or-le tag 12)

axiom-free : (tag : ℕ) → StartFree (axiom_form tag) (make_axiom tag)
unfolding AxiomFree
axiom-free tag =
    ⊎_elim (λ (l : tag < 26). case_at AxiomFree 26 tag axiom-tags l) (λ (g : 26 ≤ tag). unknown-free tag axiom_forms (make_axiom tag) g) (lt-or-le tag 26)

-- three fields whose words, but for a list's start, agree, and whose lists have the same words
made_alike : {A : Type 0} (s t : List ℕ) (form : Form) (m : ℕ → ℕ → ℕ → List ℕ → A) (x y z x' y' z' : ℕ) → StartFree form m
    → (form_names_list form 1 ≡ false → x ≡ x') → (form_names_list form 2 ≡ false → y ≡ y') → (form_names_list form 3 ≡ false → z ≡ z')
    → (form_names_list form 1 ≡ true → list_at s x y ≡ list_at t x' y') → (form_names_list form 2 ≡ true → list_at s y z ≡ list_at t y' z')
    → m x y z (list_in s form x y z) ≡ m x' y' z' (list_in t form x' y' z')
made_alike s t (Fields a b c) m x y z x' y' z' free f g h l1 l2 = rw (f refl, g refl, h refl)
made_alike s t (ListField e a) m x y z x' y' z' free f g h l1 l2 = rw (l1 refl, g refl, h refl) (free x x' y' z' (list_at t x' y'))
made_alike s t (FieldList a e) m x y z x' y' z' free f g h l1 l2 = rw (l2 refl, f refl, h refl) (free x' y y' z' (list_at t y' z'))
made_alike s t Unknown m x y z x' y' z' free f g h l1 l2 = rw (f refl, g refl, h refl)

-- a tag is no list's start
tag-plain : (form : Form) → form_names_list form 0 ≡ false
tag-plain (Fields a b c) = refl
tag-plain (ListField e a) = refl
tag-plain (FieldList a e) = refl
tag-plain Unknown = refl

-- a table of another count and of other values that are the same
table_same : {A : Type 0} (f g : ℕ → A) (n m : ℕ) → n ≡ m → ((i : ℕ) → i < n → f i ≡ g i) → table f n ≡ table g m
table_same f g n m e h = table-ext f g n h ∙ ap (table g) e

module _ (s t : List ℕ) (S : Alike s t) where
  class-alike : (k : ℕ) → k < part_count s 0 → class_in s k ≡ class_in t k
  unfolding class_in
  class-alike k l = rw (S.words 0 k 0 (omega arith) l (omega arith) refl, S.lists 0 k 1 (omega arith) l (omega arith) refl)

  role-alike : (k : ℕ) → k < part_count s 1 → role_in s k ≡ role_in t k
  unfolding role_in
  role-alike k l = rw (S.lists 1 k 0 (omega arith) l (omega arith) refl, S.lists 1 k 2 (omega arith) l (omega arith) refl)

  injected-alike : (k : ℕ) → k < part_count s 2 → injected_in s k ≡ injected_in t k
  unfolding injected_in
  injected-alike k l =
      let w : (f : ℕ) → f < 3 → part_word s 2 k f ≡ part_word t 2 k f = λ f h. S.words 2 k f (omega arith) l h refl in
      rw (w 0 (omega arith), w 1 (omega arith), w 2 (omega arith))

  fact-alike : (k : ℕ) → k < part_count s 5 → fact_in s k ≡ fact_in t k
  unfolding fact_in
  fact-alike k l =
      let w : (f : ℕ) → f < 3 → part_word s 5 k f ≡ part_word t 5 k f = λ f h. S.words 5 k f (omega arith) l h refl in
      rw (w 0 (omega arith), w 1 (omega arith), w 2 (omega arith))

  concept-alike : (k : ℕ) → k < part_count s 3 → concept_in s k ≡ concept_in t k
  unfolding concept_in concept_of
  concept-alike k l =
      let tag = part_word s 3 k 0 in
      let form = concept_form tag in
      let w : (f : ℕ) → f < 4 → form_names_list form f ≡ false → part_word s 3 k f ≡ part_word t 3 k f = λ f h e. S.words 3 k f (omega arith) l h e in
      rw (← w 0 (omega arith) (tag-plain form))
      (made_alike s t form (make_concept tag) (part_word s 3 k 1) (part_word s 3 k 2) (part_word s 3 k 3) (part_word t 3 k 1) (part_word t 3 k 2) (part_word t 3 k 3) (concept-free tag)
      (w 1 (omega arith)) (w 2 (omega arith)) (w 3 (omega arith)) (S.lists 3 k 1 (omega arith) l (omega arith)) (S.lists 3 k 2 (omega arith) l (omega arith)))

  axiom-alike : (k : ℕ) → k < part_count s 4 → axiom_in s k ≡ axiom_in t k
  unfolding axiom_in axiom_of
  axiom-alike k l =
      let tag = part_word s 4 k 0 in
      let form = axiom_form tag in
      let w : (f : ℕ) → f < 4 → form_names_list form f ≡ false → part_word s 4 k f ≡ part_word t 4 k f = λ f h e. S.words 4 k f (omega arith) l h e in
      rw (← w 0 (omega arith) (tag-plain form))
      (made_alike s t form (make_axiom tag) (part_word s 4 k 1) (part_word s 4 k 2) (part_word s 4 k 3) (part_word t 4 k 1) (part_word t 4 k 2) (part_word t 4 k 3) (axiom-free tag)
      (w 1 (omega arith)) (w 2 (omega arith)) (w 3 (omega arith)) (S.lists 4 k 1 (omega arith) l (omega arith)) (S.lists 4 k 2 (omega arith) l (omega arith)))

  pub alike-deck : deck_of s ≡ deck_of t
  unfolding deck_of
  alike-deck =
      rw (
        S.real,
        S.dropped,
        table_same (class_in s) (class_in t) (part_count s 0) (part_count t 0) (S.counts 0 (omega arith)) class-alike,
        table_same (role_in s) (role_in t) (part_count s 1) (part_count t 1) (S.counts 1 (omega arith)) role-alike,
        table_same (injected_in s) (injected_in t) (part_count s 2) (part_count t 2) (S.counts 2 (omega arith)) injected-alike,
        table_same (concept_in s) (concept_in t) (part_count s 3) (part_count t 3) (S.counts 3 (omega arith)) concept-alike,
        table_same (axiom_in s) (axiom_in t) (part_count s 4) (part_count t 4) (S.counts 4 (omega arith)) axiom-alike,
        table_same (fact_in s) (fact_in t) (part_count s 5) (part_count t 5) (S.counts 5 (omega arith)) fact-alike,
      )

module _ (s t : List ℕ) (S : Same s t) where
  list_same : (p k f : ℕ) → p < 6 → k < part_count s p → names_list s p k f ≡ true → list_at s (part_word s p k f) (part_word s p k (f + 1)) ≡ list_at t (part_word s p k f) (part_word s p k (f + 1))
  unfolding list_at
  list_same p k f lp lk e =
      table-ext (λ i. list_word s (part_word s p k f + i)) (λ i. list_word t (part_word s p k f + i)) (part_word s p k (f + 1))
      (λ i h. S.lists (part_word s p k f + i) (record { part = p; place = k; field = f; part-known = lp; place-known = lk; names = e; from = omega arith; to = omega arith }))

  pub same_alike : Alike s t
  same_alike = record {
    real = S.real;
    dropped = S.dropped;
    counts = S.counts;
    words = λ p k f lp lk lf e. S.words p k f lp lk lf;
    lists = λ p k f lp lk lf e. rw (← S.words p k f lp lk (omega arith), ← S.words p k (f + 1) lp lk lf) (list_same p k f lp lk e);
  }

  pub same-deck : deck_of s ≡ deck_of t
  same-deck = alike-deck s t same_alike
