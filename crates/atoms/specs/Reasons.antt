-- Reasons: document 01, section 3, "Reasons are three words".
use Rattle.std.specs.Prelude.{ℕ, zero, suc, ◌+◌, ◌*◌, ◌/◌, ◌≡◌, Bool, true, cond, ◌&&◌, List, [], ◌∷◌, length, get_or, set, ltb}
use Rattle.deck.specs.declared.numbers.ClassId.{ClassId}
use Rattle.deck.specs.declared.numbers.RoleId.{RoleId}
use Rattle.atoms.specs.declared.reasons.Bound.{Bound}
use Rattle.atoms.specs.declared.reasons.Bound.TheVariants.{Elements, Edges, Rounds}
use Rattle.atoms.specs.declared.reasons.Reason.{Reason}
use Rattle.atoms.specs.declared.reasons.Reason.TheVariants.{LabelNotClosed, RunDelta, BoundTripped, AxiomsDropped}

abbrev class_id : ℕ → ClassId
class_id k = record { 0 = k }

abbrev role_id : ℕ → RoleId
role_id k = record { 0 = k }

-- "0 elements, 1 edges, 2 rounds"
abbrev pub bound_number : Bound → ℕ
bound_number Elements = 0
bound_number Edges = 1
bound_number Rounds = 2

abbrev bound_of : ℕ → Bound
bound_of zero = Elements
bound_of (suc zero) = Edges
bound_of (suc (suc n)) = Rounds

-- "LabelNotClosed (class, role)"
abbrev pub label_not_closed : ℕ → ℕ → Reason
label_not_closed class role = LabelNotClosed (class_id class) (role_id role)

-- "RunDelta (class, 0)"
abbrev pub run_delta : ℕ → Reason
run_delta class = RunDelta (class_id class)

-- "BoundTripped (0 elements, 1 edges, 2 rounds; limit)"
abbrev pub bound_tripped : ℕ → ℕ → Reason
bound_tripped bound limit = BoundTripped (bound_of bound) limit

-- "AxiomsDroppedAtConversion (D, 0)"
abbrev pub axioms_dropped : ℕ → Reason
axioms_dropped dropped = AxiomsDropped dropped

-- "Reasons are three words": "1 LabelNotClosed", "2 RunDelta", "3 BoundTripped", "4 AxiomsDroppedAtConversion", each with two words
abbrev pub words_of : Reason → List ℕ
words_of (LabelNotClosed class role) = 1 ∷ class.0 ∷ role.0 ∷ []
words_of (RunDelta class) = 2 ∷ class.0 ∷ 0 ∷ []
words_of (BoundTripped bound limit) = 3 ∷ bound_number bound ∷ limit ∷ []
words_of (AxiomsDropped dropped) = 4 ∷ dropped ∷ 0 ∷ []

-- reason n of the log, in its three words
abbrev pub reason_at : List ℕ → ℕ → List ℕ
reason_at log n = get_or log (n * 3) 0 ∷ get_or log (n * 3 + 1) 0 ∷ get_or log (n * 3 + 2) 0 ∷ []

-- the log after reason n became these words, and after it became r
abbrev pub written : List ℕ → ℕ → List ℕ → List ℕ
written log n w = set (set (set log (n * 3) (get_or w 0 0)) (n * 3 + 1) (get_or w 1 0)) (n * 3 + 2) (get_or w 2 0)

abbrev pub logged : List ℕ → ℕ → Reason → List ℕ
logged log n r = written log n (words_of r)

-- would one more reason be written, where `total` were given?
abbrev pub has_room : List ℕ → ℕ → Bool
has_room log total = ltb total 4294967295 && ltb total (length log / 3)

-- "The log keeps the first that fit": its words after one more reason, where `total` were given
unfoldable pub noted : List ℕ → ℕ → Reason → List ℕ
noted log total r = cond (has_room log total) (logged log total r) log

-- "the total stops at 4,294,967,295": the total after one more
unfoldable pub counted : ℕ → ℕ
counted total = cond (ltb total 4294967295) (total + 1) total

-- the log and the total of reasons, after one more
pub record Log : Type 0 where
  pub words : List ℕ
  pub total : ℕ

abbrev pub note : Reason → Log → Log
note x g = record { words = noted g.words g.total x; total = counted g.total }

-- reasons that stand in the log from reason n on, as far as it takes them in
unfoldable pub Stand : List ℕ → ℕ → List Reason → Type 0
Stand log n [] = Unit {0}
Stand log n (x ∷ xs) = (has_room log n ≡ true → reason_at log n ≡ words_of x) × Stand log (n + 1) xs
