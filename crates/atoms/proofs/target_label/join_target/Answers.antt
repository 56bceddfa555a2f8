use mathlib.Core.Path.{sym, ap, ◌∙◌}
use Rattle.deck.specs.Content.{deck_of}
use Rattle.atoms.specs.declared.target_label.Target.{Target}
use Rattle.atoms.specs.Label.{insert_all}
use Rattle.atoms.specs.Body.{row_by}
use Rattle.atoms.proofs.TargetLaws.{row-by, class-by-fits}
use Rattle.atoms.proofs.target_label.join_target.Goals as goal

pub insert_subsumers-requires-clause-class_bound : goal.insert_subsumers-requires-clause-class_bound
insert_subsumers-requires-clause-class_bound c =
    rw c.class_or.ensures (class-by-fits (deck_of c.args.deck.now.bytes.now) c.args.y c.target_label-target.result c.target_label-target.ensures.target_fits c.requires.y_bound)

pub returns-clause-taken : goal.returns-clause-taken
returns-clause-taken c =
    let D = deck_of c.args.deck.now.bytes.now in
    let y = c.args.y in
    c.insert_subsumers.ensures ∙ ap (insert_all c.args.label.now) (rw c.class_or.ensures (sym (row-by D y c.target_label-target.result)) ∙ ap (λ (t : Target). row_by D y.0 t) c.target_label-target.ensures.value)
