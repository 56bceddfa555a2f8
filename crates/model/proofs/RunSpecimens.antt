-- What a run builds of deck W, by the definition alone: the structure of the specimens.
use Rattle.std.specs.Prelude.{Ok}
use Prim.Native.Nat.{ℕ, zero, suc, ◌<◌}
use mathlib.Core.Bool.{false, ◌&&◌, or-false}
use mathlib.Core.Path.{◌≡◌, refl, sym, ◌∙◌}
use mathlib.Core.List.{List, [], ◌∷◌, map, flat_map}
use native.Mathlib.Omega.{arith}
use lib.Dec.{eqb}
use borrow.Author.Tests.{eq-eqb, ne_eqb}
use Rattle.deck.specs.Below.{any_below}
use Rattle.deck.specs.Deck.{has}
use Rattle.eval.specs.Lists.{range, keep, any, every}
use Rattle.eval.specs.Numbered.{numbered, below}
use Rattle.eval.specs.Structure.{Structure, has_edge, successors}
use Rattle.eval.specs.Edges.{row_of, edges_of, edge_in}
use Rattle.eval.specs.Lent.{member_in, structure_of}
use Rattle.eval.specs.Judge.{judge, judge_of, some_from}
use Rattle.eval.specs.Verdict.{verdict, scan}
use Rattle.eval.proofs.Specimens.{W, E}
use Rattle.build.specs.declared.bounds.Bounds.{Bounds}
use Rattle.model.specs.declared.outcome.Outcome.TheVariants.{Confirmed}
use Rattle.atoms.specs.Rows.{put, flat}
use Rattle.model.specs.Outcome.{outcome_of}
use Rattle.model.specs.Run.{ran, judged, accepted}
use Rattle.atoms.specs.Walk.{walk}
use Rattle.atoms.specs.Label.{label_has, insert_bit, insert_all, label_of, join_to, joined, same_label}
use Rattle.build.specs.Intern.{index_of, interned}
use Rattle.atoms.specs.Floor.{universal_of, universal, atoms_of, required_atoms, satisfiable_row, atom_rows, member_rows, floor_of, floor_label, has_real, floored}
use Rattle.build.specs.Seed.{names, is_seeded, row_label, seeds}
use Rattle.atoms.specs.Reasons.{noted, counted}
use Rattle.build.specs.Push.{edge, push_edge}
use Rattle.atoms.specs.Target.{holds_range, target_of}
use Rattle.model.specs.Rules.{rule_of}
use Rattle.build.specs.Model.{Model, reach}
use Rattle.model.specs.Expand.{highest, work_fact, fact_step, work_facts, class_step, work_classes, next_turn, turns, expand}
use Rattle.build.specs.Exists.{reach_body, work_of, work_step, work}
use Rattle.atoms.specs.Body.{join_atom, join_atoms, body_of}
use Rattle.model.specs.Rounds.{fire, fire_axiom, visit, round, rounds, expand_from_axioms}
use Rattle.atoms.specs.Antecedent.{has_atom, is_rule, holds_atoms}
use Rattle.model.specs.Closing.{close_axiom, close_pass, closing, close}
use Rattle.model.specs.Phases.{phase, seeded, close_in, later_phases, phases, with_dropped, construct}
use Rattle.atoms.proofs.MemberLaws.{by_cases}

-- "with bounds 255, 1,000, 100"
abbrev pub bounds : Bounds
bounds = record { max_elements = 255; max_edges = 1000; max_rounds = 100 }

-- "Elements {0}, {0, 1}, edge 1 to 0."
abbrev pub built : List ℕ → Model
built log = record { labels = (1 ∷ []) ∷ (3 ∷ []) ∷ []; state = record { edges = edge 0 1 0 ∷ []; log = log; reasons = 0; tripped = false } }

pub built-W : (log : List ℕ) → construct (W [] []) bounds 4 log ≡ built log
unfolding construct phases later_phases phase seeded seeds is_seeded names interned index_of same_label row_label floored has_real label_has joined join_to label_of insert_all insert_bit floor_label floor_of universal universal_of required_atoms atoms_of satisfiable_row atom_rows member_rows any every any_below has flat_map numbered below with_dropped walk range expand turns next_turn highest work_classes class_step work_facts fact_step work_fact target_of holds_range reach push_edge edge_in noted counted expand_from_axioms rounds round visit fire_axiom fire holds_atoms is_rule has_atom work work_step work_of reach_body body_of join_atoms join_atom close_in close closing close_pass close_axiom rule_of
built-W log = refl

eqb-turn : (a b : ℕ) → eqb a b ≡ eqb b a
eqb-turn a b = by_cases a b (λ e. eq-eqb a b e ∙ sym (eq-eqb b a (sym e))) (λ n. ne_eqb a b n ∙ sym (ne_eqb b a (λ e. n (sym e))))

module _ (labels : List ℕ) (edges : List (List ℕ)) where
  abbrev pub S : Structure
  S = structure_of (W [] []) (put labels (1 ∷ 3 ∷ [])) (put edges ((0 ∷ 1 ∷ 0 ∷ []) ∷ [])) (record { elements = 2; edges = 1 })

  -- it is the structure of the specimens
  pub same-member : (e k : ℕ) → e < 2 → k < 2 → S.member e k ≡ E.member e k
  unfolding member_in put has
  same-member zero zero a b = refl
  same-member zero (suc zero) a b = refl
  same-member zero (suc (suc k)) a b = absurd (omega (arith, b))
  same-member (suc zero) zero a b = refl
  same-member (suc zero) (suc zero) a b = refl
  same-member (suc zero) (suc (suc k)) a b = absurd (omega (arith, b))
  same-member (suc (suc e)) k a b = absurd (omega (arith, a))

  pub same-edge : (r x y : ℕ) → S.edge r x y ≡ E.edge r x y
  unfolding edge_in edges_of put any
  same-edge r x y = rw (eqb-turn 0 r, eqb-turn 1 x, eqb-turn 0 y) (or-false (eqb r 0 && (eqb x 1 && eqb y 0)))

  -- "confirmed 2 1 0", and each axiom holds
  pub run-W : (log verdicts : List ℕ) → accepted (W [] []) bounds 4 labels edges log verdicts
      ≡ ran (Ok (Confirmed, (record { elements = 2; edges = 1; reasons = 0 }))) (put labels (1 ∷ 3 ∷ [])) (put edges ((0 ∷ 1 ∷ 0 ∷ []) ∷ [])) log (put verdicts (0 ∷ 0 ∷ 0 ∷ 0 ∷ 0 ∷ 0 ∷ 0 ∷ 0 ∷ []))
  unfolding accepted judged outcome_of verdict scan judge judge_of some_from numbered below successors has_edge range keep any has flat flat_map put edges_of edge_in member_in
  run-W log verdicts = rw (built-W log) judged-W
    where
      judged-W : judged (W [] []) (built log) (put labels (flat (built log).labels)) (put edges (map row_of (built log).state.edges)) verdicts
          ≡ ran (Ok (Confirmed, (record { elements = 2; edges = 1; reasons = 0 }))) (put labels (1 ∷ 3 ∷ [])) (put edges ((0 ∷ 1 ∷ 0 ∷ []) ∷ [])) log (put verdicts (0 ∷ 0 ∷ 0 ∷ 0 ∷ 0 ∷ 0 ∷ 0 ∷ 0 ∷ []))
      judged-W = refl
