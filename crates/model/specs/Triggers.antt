-- What an axiom's rules need before they can add something: what the table that the rounds read promises.
use Rattle.std.specs.Prelude.{ℕ, ◌+◌, ◌-◌, ◌/◌, ◌<◌, ◌≤◌, Bool, false, cond, List, [], map, ◌≡◌, length, get_or, ltb, Option, IfSome, IfNone}
use Rattle.deck.specs.declared.numbers.ClassId.{ClassId}
use Rattle.deck.specs.Deck.{Deck, Concept, Axiom, class_count, concept_at, axiom_count, axiom_at}
use Rattle.eval.specs.Lists.{any}
use Rattle.build.specs.declared.bounds.Bounds.{Bounds}
use Rattle.atoms.specs.Label.{label_has}
use Rattle.build.specs.Model.{Model}
use Rattle.build.specs.Exists.{builds_at}
use Rattle.model.specs.declared.triggers.Trigger.{Trigger}
use Rattle.model.specs.Rounds.{fire_axiom}

-- a consequent that may add something: an And where an operand goes further
abbrev pub adds_as : Deck → ℕ → Concept → Bool
adds_as D c (Concept.And l) = any (map (builds_at D) l)
adds_as D c (Concept.Some r b) = builds_at D c
adds_as D c Concept.Top = builds_at D c
adds_as D c Concept.Bot = builds_at D c
adds_as D c (Concept.Atomic k) = builds_at D c
adds_as D c (Concept.Nominal i) = builds_at D c
adds_as D c (Concept.SelfRestriction r) = builds_at D c
adds_as D c (Concept.Not b) = builds_at D c
adds_as D c (Concept.Or l) = builds_at D c
adds_as D c (Concept.All r b) = builds_at D c
adds_as D c (Concept.Min n r b) = builds_at D c
adds_as D c (Concept.Max n r b) = builds_at D c

unfoldable pub may_add : Deck → ℕ → Bool
may_add D c = adds_as D c (concept_at D c)

-- a class without which p holds of no label
pub record Needs (D : Deck) (p : List ℕ → Bool) (class : ClassId) : Type 0 where
  pub known : class.0 < class_count D
  pub lacks : (label : List ℕ) → label_has label class.0 ≡ false → p label ≡ false

-- the axiom adds nothing at any element
abbrev pub Idle : Deck → Axiom → Type 0
Idle D x = (floor : List ℕ) (B : Bounds) (e : ℕ) (m : Model) → fire_axiom D floor B e x m ≡ m

-- the axiom adds nothing at an element without class w
abbrev pub IdleWithout : Deck → Axiom → ℕ → Type 0
IdleWithout D x w = (floor : List ℕ) (B : Bounds) (e : ℕ) (m : Model) → label_has (get_or m.labels e []) w ≡ false → fire_axiom D floor B e x m ≡ m

-- an axiom's trigger: a class that it needs, nothing that is known, or that it adds nothing
abbrev pub IsTrigger : Deck → Axiom → Trigger → Type 0
IsTrigger D x (Trigger.Needs class) = (class.0 < class_count D) × IdleWithout D x class.0
IsTrigger D x Trigger.Always = Unit {0}
IsTrigger D x Trigger.Never = Idle D x

-- the table's word for a trigger, before the words of so many axioms that add nothing
abbrev pub word_of : Trigger → ℕ → ℕ
word_of (Trigger.Needs class) never = class.0
word_of Trigger.Always never = 4096
word_of Trigger.Never never = 4097 + never

-- the table's entry at axiom i: below 4,096 a class that it needs, above 4,096 so many axioms from i on add nothing
pub record Entry (D : Deck) (i w : ℕ) : Type 0 where
  pub known : w < 4096 → w < class_count D
  pub lacks : w < 4096 → IdleWithout D (axiom_at D i) w
  pub within : i + (w - 4096) ≤ axiom_count D
  pub never : (k : ℕ) → i ≤ k → k < i + (w - 4096) → Idle D (axiom_at D k)

-- a table of a word for each axiom, whose entries stand from axiom i on
pub record Triggers (D : Deck) (table : List ℕ) (i : ℕ) : Type 0 where
  pub wide : length table ≡ axiom_count D
  pub at : (k : ℕ) → i ≤ k → k < axiom_count D → Entry D k (get_or table k 0)

-- ---- from one axiom to the next that may add something, by a label
-- how many axioms to pass over at an entry w
abbrev pub step_of : List ℕ → ℕ → ℕ
step_of label w = cond (ltb w 4096) (cond (label_has label w) 0 1) (w - 4096)

abbrev pub step_in : List ℕ → List ℕ → ℕ → ℕ
step_in label table k = step_of label (get_or table k 0)

-- step by step from i to j, each step from below n
pub data Chain (f : ℕ → ℕ) (n i : ℕ) : ℕ → Type 0 where
  here : Chain f n i i
  more : {j : ℕ} → Chain f n i j → j < n → Chain f n i (j + f j)

-- the table's classes are in the label's words, and no step goes past its end
pub record Steps (table label : List ℕ) : Type 0 where
  pub words : (k : ℕ) → k < length table → get_or table k 0 < 4096 → get_or table k 0 / 64 < length label
  pub within : (k : ℕ) → k < length table → k + step_in label table k ≤ length table

-- where the steps from the first on come to: an axiom, or the end
pub record Next (table label : List ℕ) (first : ℕ) (r : Option ℕ) : Type 0 where
  pub some : IfSome r (λ i. (i < length table) × Chain (step_in label table) (length table) first i)
  pub none : IfNone r (Chain (step_in label table) (length table) first (length table))
