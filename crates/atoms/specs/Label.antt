-- Labels: "ceil(N / 64) words of 64 bits, class k being bit k mod 64 of word k / 64".
use Rattle.std.specs.Prelude.{ℕ, zero, suc, ◌/◌, ◌%◌, ◌^◌, Bool, true, false, ◌&&◌, List, [], ◌∷◌, length, get_or, set, replicate, eqb}
use Rattle.std.specs.Int.Bits.{bit_or}
use Rattle.eval.specs.Lent.{bit}

-- does the label have class k?
unfoldable pub label_has : List ℕ → ℕ → Bool
label_has l k = bit (get_or l (k / 64) 0) (k % 64)

-- the label takes class k in
unfoldable pub insert_bit : List ℕ → ℕ → List ℕ
insert_bit l k = set l (k / 64) (bit_or (get_or l (k / 64) 0) (2 ^ (k % 64)))

-- the label takes several classes in, from the first
unfoldable pub insert_all : List ℕ → List ℕ → List ℕ
insert_all l [] = l
insert_all l (k ∷ ks) = insert_all (insert_bit l k) ks

-- the label of w words that has the given classes
unfoldable pub label_of : ℕ → List ℕ → List ℕ
label_of w ks = insert_all (replicate w 0) ks

-- the first n words take another label's classes in
unfoldable pub join_to : List ℕ → List ℕ → ℕ → List ℕ
join_to l f zero = l
join_to l f (suc n) = set (join_to l f n) n (bit_or (get_or (join_to l f n) n 0) (get_or f n 0))

-- the label takes another label's classes in
unfoldable pub joined : List ℕ → List ℕ → List ℕ
joined l f = join_to l f (length l)

-- "equal labels": word by word
unfoldable pub same_label : List ℕ → List ℕ → Bool
same_label [] [] = true
same_label [] (y ∷ ys) = false
same_label (x ∷ xs) [] = false
same_label (x ∷ xs) (y ∷ ys) = eqb x y && same_label xs ys
