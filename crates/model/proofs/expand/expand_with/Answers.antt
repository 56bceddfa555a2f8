use Rattle.model.proofs.expand.expand_with.Goals as goal

pub returns : goal.returns
returns g c =
    λ d. let X = c.turns.ensures d in
    let S = X.same in
    record { same = record { plan = S.plan; label = S.label; labels = S.labels; edges = S.edges; log = S.log }; built = X.built }
