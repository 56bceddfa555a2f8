-- What reading an accepted deck gives: each value as the deck has it, with its range.
use Rattle.std.specs.Prelude.{ℕ, ◌+◌, ◌*◌, ◌<◌, ◌≤◌, ◌≡◌, List}
use Rattle.deck.specs.declared.rows.Span.{Span}
use Rattle.deck.specs.declared.numbers.ClassId.{ClassId}
use Rattle.std.specs.Prelude.{Option}
use Rattle.deck.specs.Parts.{part_word}
use Rattle.deck.specs.declared.forms.Form.{Form}
use Rattle.deck.specs.declared.forms.Form.TheVariants.{Fields, ListField, FieldList, Unknown}
use Rattle.deck.specs.declared.concepts.ConceptExpr.{ConceptExpr}
use Rattle.deck.specs.declared.axioms.AxiomRecord.{AxiomRecord}
use Rattle.deck.specs.declared.facts.FactRecord.{FactRecord}
use Rattle.deck.specs.Trailer.{part_count}
use Rattle.deck.specs.Forms.{bound_of}
use Rattle.deck.specs.Records.{axiom_form}
use Rattle.deck.specs.Deck.{Concept, Deck, injected_class, role_of, Fact, concept_at, axiom_at, fact_at, class_count, role_count, concept_count}
use Rattle.deck.specs.Content.{list_at, axiom_of, deck_of}
use Rattle.deck.specs.Exprs.{expr_at}
use Rattle.deck.specs.Sound.{EachBelow, Rises, counts_in, FactFits}

-- a count, and its limit
pub record CountRead (n limit r : ℕ) : Type 0 where
  pub is : r ≡ n
  pub most : r ≤ limit

-- the words of a list
abbrev pub list_of : List ℕ → Span → List ℕ
list_of s l = list_at s l.start l.count

-- the list lies within the lists part
abbrev pub Within : List ℕ → Span → Type 0
Within s l = l.start + l.count ≤ part_count s 6

-- a list that lies within the lists part, its words below a bound
pub record ListFits (s : List ℕ) (bound : ℕ) (l : Span) : Type 0 where
  pub within : Within s l
  pub below : EachBelow bound (list_of s l)

-- "row start; row count": the start and the count that stand at fields f and f + 1 of record k of part p
abbrev pub span_at : List ℕ → ℕ → ℕ → ℕ → Span
span_at s p k f = record { start = part_word s p k f; count = part_word s p k (f + 1) }

-- a row: it rises besides; its start and count are those of the record
pub record RowRead (s : List ℕ) (bound : ℕ) (row : List ℕ) (p k f : ℕ) (r : Span) : Type 0 where
  pub is : list_of s r ≡ row
  pub fits : ListFits s bound r
  pub rises : Rises (list_of s r)
  pub words : r ≡ span_at s p k f

-- what three fields hold
abbrev pub FormFits : List ℕ → ℕ → Form → ℕ → ℕ → ℕ → Type 0
FormFits s c (Fields a b e) x y z =
    (x < bound_of (counts_in (deck_of s)) c a) × ((y < bound_of (counts_in (deck_of s)) c b) × (z < bound_of (counts_in (deck_of s)) c e))
FormFits s c (ListField e a) x y z =
    ListFits s (bound_of (counts_in (deck_of s)) c e) (record { start = x; count = y }) × (z < bound_of (counts_in (deck_of s)) c a)
FormFits s c (FieldList a e) x y z =
    (x < bound_of (counts_in (deck_of s)) c a) × ListFits s (bound_of (counts_in (deck_of s)) c e) (record { start = y; count = z })
FormFits s c Unknown x y z = ⊥

-- the concept that the code's value stands for
abbrev pub expr_of : List ℕ → ConceptExpr → Concept
expr_of s ConceptExpr.Top = Concept.Top
expr_of s ConceptExpr.Bot = Concept.Bot
expr_of s (ConceptExpr.Atomic c) = Concept.Atomic c.0
expr_of s (ConceptExpr.Nominal i) = Concept.Nominal i.0
expr_of s (ConceptExpr.SelfRestriction r) = Concept.SelfRestriction (role_of r.0)
expr_of s (ConceptExpr.Not c) = Concept.Not c.0
expr_of s (ConceptExpr.And l) = Concept.And (list_of s l)
expr_of s (ConceptExpr.Or l) = Concept.Or (list_of s l)
expr_of s (ConceptExpr.Some r c) = Concept.Some (role_of r.0) c.0
expr_of s (ConceptExpr.All r c) = Concept.All (role_of r.0) c.0
expr_of s (ConceptExpr.Min n r c) = Concept.Min n (role_of r.0) c.0
expr_of s (ConceptExpr.Max n r c) = Concept.Max n (role_of r.0) c.0

-- its numbers are in range, its operands below k
abbrev pub ExprFits : List ℕ → ℕ → ConceptExpr → Type 0
ExprFits s k ConceptExpr.Top = Unit {0}
ExprFits s k ConceptExpr.Bot = Unit {0}
ExprFits s k (ConceptExpr.Atomic c) = c.0 < class_count (deck_of s)
ExprFits s k (ConceptExpr.Nominal i) = Unit {0}
ExprFits s k (ConceptExpr.SelfRestriction r) = r.0 < 2 * role_count (deck_of s)
ExprFits s k (ConceptExpr.Not c) = c.0 < k
ExprFits s k (ConceptExpr.And l) = ListFits s k l
ExprFits s k (ConceptExpr.Or l) = ListFits s k l
ExprFits s k (ConceptExpr.Some r c) = (r.0 < 2 * role_count (deck_of s)) × (c.0 < k)
ExprFits s k (ConceptExpr.All r c) = (r.0 < 2 * role_count (deck_of s)) × (c.0 < k)
ExprFits s k (ConceptExpr.Min n r c) = (r.0 < 2 * role_count (deck_of s)) × (c.0 < k)
ExprFits s k (ConceptExpr.Max n r c) = (r.0 < 2 * role_count (deck_of s)) × (c.0 < k)

-- concept k, as the four words of its record give it
pub record ConceptRead (s : List ℕ) (k : ℕ) (r : ConceptExpr) : Type 0 where
  pub is : expr_of s r ≡ concept_at (deck_of s) k
  pub fits : ExprFits s k r
  pub words : r ≡ expr_at (part_word s 3 k 0) (part_word s 3 k 1) (part_word s 3 k 2) (part_word s 3 k 3)

-- "tag and three fields": the four words of axiom k
abbrev pub axiom_words : List ℕ → ℕ → AxiomRecord
axiom_words s k = record { tag = part_word s 4 k 0; first = part_word s 4 k 1; second = part_word s 4 k 2; third = part_word s 4 k 3 }

-- axiom k: its tag, and three fields of that tag's form
pub record AxiomRead (s : List ℕ) (k : ℕ) (r : AxiomRecord) : Type 0 where
  pub is : axiom_of s r.tag r.first r.second r.third ≡ axiom_at (deck_of s) k
  pub known : r.tag < 26
  pub fits : FormFits s (concept_count (deck_of s)) (axiom_form r.tag) r.first r.second r.third
  pub words : r ≡ axiom_words s k

-- fact k
abbrev pub fact_of : FactRecord → Fact
fact_of r = record { from = r.from.0; role = r.role.0; to = r.to.0 }

pub record FactRead (s : List ℕ) (k : ℕ) (r : FactRecord) : Type 0 where
  pub is : fact_of r ≡ fact_at (deck_of s) k
  pub fits : FactFits (counts_in (deck_of s)) (fact_of r)

-- the order of injected records, as one number: r is below 1,024
abbrev pub injected_key : List ℕ → ℕ → ℕ
injected_key s k = part_word s 2 k 0 * 1024 + part_word s 2 k 1

-- a class that was found is real
abbrev pub RealClass : Deck → Option ClassId → Type 0
RealClass D (Option.Some q) = q.0 < D.real
RealClass D Option.None = Unit {0}

-- the injected class of (y, r)
pub record InjectedRead (D : Deck) (y r : ℕ) (q : Option ClassId) : Type 0 where
  pub is : q ≡ injected_class D.injected y r
  pub fits : RealClass D q
