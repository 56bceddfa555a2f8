-- Closing under chains and transitive roles: document 01, section 3, "`close_chains_and_transitivity`".
use Rattle.std.specs.Prelude.{ℕ, zero, suc, ◌-◌, ◌≤◌, false, cond, ◌||◌, length, eqb, Option, Some, None}
use mathlib.Core.List.{List, Memᴰ as Member}
use Rattle.deck.specs.Deck.{Deck, Axiom, axiom_count, axiom_at}
use Rattle.deck.specs.Content.{IsAccepted, deck_of}
use Rattle.eval.specs.declared.edges.Edge.{Edge}
use Rattle.eval.specs.Lists.{range}
use Rattle.eval.specs.Structure.{Structure, Pair, has_edge, successors, pairs}
use Rattle.eval.specs.Edges.{edges_of, edge_in}
use Rattle.eval.specs.Lent.{EdgeFits}
use Rattle.model.specs.declared.rules.Rule.{Rule}
use Rattle.build.specs.declared.building.Build.{Build}
use Rattle.build.specs.declared.tally.Tally.{Tally}
use Rattle.build.specs.Push.{State, edge, push_edge, Room}
use Rattle.model.specs.Rules.{rule_of}
use Rattle.atoms.specs.Walk.{walk}

-- "edges(a)", "edges(b)" and "the test for an edge" are those of section 4, over n elements with these edges; labels do not count
abbrev pub graph : ℕ → List Edge → Structure
graph n es = record { size = n; member = λ e k. false; edge = edge_in es }

module _ (D : Deck) (n limit : ℕ) where
  -- "while the test for an edge reads the present state"
  unfoldable pub join : ℕ → ℕ → ℕ → State → State
  join v x z s = cond (has_edge D (graph n s.edges) v x z) s (push_edge limit (edge v x z) s)

  -- "and edges(b) afresh for each outer pair"
  unfoldable pub close_from : ℕ → ℕ → Pair → State → State
  close_from b v p s = walk (join v p.from) (successors D (graph n s.edges) b p.to) s

  -- "It takes edges(a) before the outer walk"
  unfoldable pub close_rule : ℕ → ℕ → ℕ → State → State
  close_rule a b v s = walk (close_from b v) (pairs D (graph n s.edges) a) s

  -- by a rule, and by an axiom's rule if it has one
  abbrev pub close_by : Option Rule → State → State
  close_by (Some q) s = close_rule q.first.0 q.second.0 q.third.0 s
  close_by None s = s

  unfoldable pub close_axiom : Axiom → State → State
  close_axiom x s = close_by (rule_of x) s

  -- "takes its rules in axiom order": axiom by axiom, each by its place
  unfoldable pub close_pass : State → State
  close_pass s = walk (λ i. close_axiom (axiom_at D i)) (range 0 (axiom_count D)) s

  -- "until a pass adds nothing", or trips; at most `turns` passes
  unfoldable pub closing : ℕ → State → State
  closing zero s = s
  closing (suc turns) s = let t = close_pass s in cond (t.tripped || eqb (length t.edges) (length s.edges)) t (closing turns t)

  -- a pass that does not end it adds an edge, so this many passes are enough: `close-turns` of proofs/Passes.antt
  unfoldable pub close : State → State
  close s = closing (suc (limit - length s.edges)) s

-- ---- what the functions require
-- each edge's role is one of R, and its ends are among n elements
unfoldable pub EdgesFit : Deck → ℕ → List Edge → Type 0
EdgesFit D n es = (e : Edge) → Member e es → EdgeFits D n e

-- the deck is accepted, the edges fit it, and there is room for one edge more than the bound
pub record Ready (s : List ℕ) (limit : ℕ) (rows : List (List ℕ)) (t : Tally) : Type 0 where
  pub accepted : IsAccepted s
  pub few : t.elements ≤ 65536
  pub space : Room limit rows t.edges
  pub fits : EdgesFit (deck_of s) t.elements (edges_of rows t.edges)

abbrev pub Closes : Build → Type 0
Closes b = Ready b.plan.deck.bytes.now b.plan.bounds.max_edges b.edges.now b.tally
