-- Going through edges in any order: the lowest one that fails so far, "by from then to", and the last construct that was left open.
use Rattle.std.specs.Prelude.{ℕ, ◌≡◌, Bool, true, false, cond, Option, Some, None, ◌&&◌, ◌||◌, eqb, ltb}
use mathlib.Core.List.{List, Memᴰ as Member}
use Rattle.eval.specs.declared.edges.Edge.{Edge}
use Rattle.eval.specs.declared.judgement.Construct.{Construct}
use Rattle.eval.specs.declared.judgement.Judgement.{Judgement}
use Rattle.eval.specs.declared.judgement.Judgement.TheVariants.{False, True, Unresolved}
use Rattle.eval.specs.declared.lowest.Lowest.{Lowest}

abbrev pub nothing_yet : Lowest
nothing_yet = record { failing = None; noted = None }

-- is (x, y) before (u, v)?
abbrev pub before : ℕ → ℕ → ℕ → ℕ → Bool
before x y u v = ltb x u || (eqb x u && ltb y v)

-- the lower of an edge that may be there and another
abbrev pub lower_of : Option Edge → Edge → Edge
lower_of None e = e
lower_of (Some d) e = cond (before e.from.0 e.to.0 d.from.0 d.to.0) e d

abbrev pub lower : Lowest → Edge → Lowest
lower s e = record { failing = Some (lower_of s.failing e); noted = s.noted }

-- after one more edge, with the outcome there
abbrev pub lowest_next : Lowest → Judgement → Edge → Lowest
lowest_next s False e = lower s e
lowest_next s True e = s
lowest_next s (Unresolved t) e = record { failing = s.failing; noted = Some t }

-- an edge of the list that passes a test
pub record Among (hit : Edge → Bool) (es : List Edge) (e : Edge) : Type 0 where
  pub member : Member e es
  pub passes : hit e ≡ true

-- an edge that fails, and none before it does
pub record Least (P : Edge → Type 0) (f : Edge → Judgement) (d : Edge) : Type 0 where
  pub met : P d
  pub fails : f d ≡ False
  pub least : (e : Edge) → P e → f e ≡ False → before e.from.0 e.to.0 d.from.0 d.to.0 ≡ false

-- an edge that is left open, with the construct
pub record LeftOpen (P : Edge → Type 0) (f : Edge → Judgement) (t : Construct) : Type 0 where
  pub edge : Edge
  pub met : P edge
  pub unresolved : f edge ≡ Unresolved t

-- what going through the edges of P came to
pub record Seen (P : Edge → Type 0) (f : Edge → Judgement) (l : Lowest) : Type 0 where
  pub fails : (d : Edge) → l.failing ≡ Some d → Least P f d
  pub sound : l.failing ≡ None → (e : Edge) → P e → f e ≡ False → ⊥
  pub opens : (t : Construct) → l.noted ≡ Some t → LeftOpen P f t
  pub closed : l.noted ≡ None → (e : Edge) (t : Construct) → P e → f e ≡ Unresolved t → ⊥
