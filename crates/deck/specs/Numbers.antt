-- Role words: "A role word is twice the role number, plus 1 if inverse."
use Rattle.std.specs.Prelude.{ℕ, ◌/◌, ◌%◌, Bool, eqb}

abbrev pub inverse_word : ℕ → Bool
inverse_word w = eqb (w % 2) 1

abbrev pub role_number : ℕ → ℕ
role_number w = w / 2
