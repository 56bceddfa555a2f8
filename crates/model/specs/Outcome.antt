-- The outcome: document 01, section 5.
use Rattle.std.specs.Prelude.{ℕ, Bool, true, false, cond, ◌||◌, List, map, ltb}
use Rattle.eval.specs.declared.verdict.Verdict.{Verdict}
use Rattle.eval.specs.declared.verdict.Verdict.TheVariants.{Holds, Fails, UnhandledAxiom, UnhandledConcept, GuardedRoleHasEdges}
use Rattle.eval.specs.Lists.{any}
use Rattle.model.specs.declared.outcome.Outcome.{Outcome}
use Rattle.model.specs.declared.outcome.Outcome.TheVariants.{Confirmed, Failed, Open}

abbrev pub is_fails : Verdict → Bool
is_fails Holds = false
is_fails (Fails w) = true
is_fails (UnhandledAxiom tag part) = false
is_fails (UnhandledConcept tag) = false
is_fails (GuardedRoleHasEdges r) = false

abbrev pub is_unresolved : Verdict → Bool
is_unresolved Holds = false
is_unresolved (Fails w) = false
is_unresolved (UnhandledAxiom tag part) = true
is_unresolved (UnhandledConcept tag) = true
is_unresolved (GuardedRoleHasEdges r) = true

abbrev pub outcome_by : Bool → Bool → Outcome
outcome_by fails open-too = cond fails Failed (cond open-too Open Confirmed)

-- what one verdict comes to
abbrev pub outcome_at : Verdict → Outcome
outcome_at v = outcome_by (is_fails v) (is_unresolved v)

-- "failed if an axiom Fails, else open if a reason or an unresolved verdict exists, else confirmed, an empty structure included"
unfoldable pub outcome_of : ℕ → List Verdict → Outcome
outcome_of reasons vs = outcome_by (any (map is_fails vs)) (ltb 0 reasons || any (map is_unresolved vs))
