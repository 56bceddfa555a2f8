-- The constructs that are left open, by their tags: document 01, section 1, "Concept tags".
use Rattle.std.specs.Prelude.{ℕ, cond, eqb, Result, Ok, Err}
use Rattle.eval.specs.declared.judgement.Construct.{Construct}
use Rattle.eval.specs.declared.judgement.UnknownConstruct.{UnknownConstruct}
use Rattle.eval.specs.declared.judgement.Construct.TheVariants.{Nominal, SelfRestriction, Not, Or, InverseSome, All, Min, Max}

abbrev pub tag_of : Construct → ℕ
tag_of Nominal = 3
tag_of SelfRestriction = 4
tag_of Not = 5
tag_of Or = 7
tag_of InverseSome = 8
tag_of All = 9
tag_of Min = 10
tag_of Max = 11

-- the construct with a tag
abbrev pub construct_of : ℕ → Result Construct UnknownConstruct
construct_of t =
    cond (eqb t 3) (Ok Nominal)
    (cond (eqb t 4) (Ok SelfRestriction)
    (cond (eqb t 5) (Ok Not)
    (cond (eqb t 7) (Ok Or)
    (cond (eqb t 8) (Ok InverseSome)
    (cond (eqb t 9) (Ok All)
    (cond (eqb t 10) (Ok Min)
    (cond (eqb t 11) (Ok Max)
    (Err (record { 0 = t })))))))))
