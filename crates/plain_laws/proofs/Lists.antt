-- Lists: their fronts and ends, joined and mapped.
use Rattle.std.proofs.Common.{◌++◌, ◌+◌, ◌-◌, ◌<◌, ◌∙◌, ◌∷◌, ◌≡◌, ◌≤◌, List, [], ap, append_assoc, arith, drop, false, fold, get_or, length, map, max, refl, slice_index, suc, sym, take, true, zero, ℕ}
use Rattle.std.proofs.Math.ListN.{drop_of_length-le}
use Rattle.std.proofs.Math.Seq.{take-suc}
use Rattle.std.proofs.lemmas.Bool.{eqb-true}
use Rattle.std.proofs.lemmas.List.{append-nil, get_or-drop, take_more}
use Rattle.std.specs.Prelude.{◌==◌}

-- nothing is left
pub all_written : (into whole left : List ℕ) → left ≡ [] → into ++ left ≡ whole → into ≡ whole
all_written into whole left none is =
    sym (append-nil into) ∙ ap (λ (text : List ℕ). into ++ text) (sym none) ∙ is

-- nothing is left of nothing
pub drop_nil : {A : Type 0} (k : ℕ) → drop {A = A} k [] ≡ []
drop_nil zero = refl
drop_nil (suc k) = refl

-- what is left of what is left
pub drop_more : {A : Type 0} (n k : ℕ) (xs : List A) → drop k (drop n xs) ≡ drop (n + k) xs
drop_more zero k xs = let e : 0 + k ≡ k = omega arith in ap (λ (j : ℕ). drop j xs) (sym e)
drop_more (suc n) k [] = drop_nil k ∙ sym (drop_nil (suc n + k))
drop_more (suc n) k (x ∷ xs) =
    let e : suc n + k ≡ suc (n + k) = omega arith in
    drop_more n k xs ∙ ap (λ (j : ℕ). drop j (x ∷ xs)) (sym e)

-- nothing is left past the end
pub drop_whole : {X : Type 0} (xs : List X) (i : ℕ) → length xs ≤ i → drop i xs ≡ []
drop_whole xs i le = drop_of_length-le xs le

-- the greatest is none below
pub greatest_from : (groups : List ℕ) (most : ℕ) → most ≤ fold max most groups
greatest_from [] most = omega arith
greatest_from (g ∷ gs) most = let r = greatest_from gs (max most g) in grind arith

-- the byte at a place is the first from there on
pub head_is : (bytes : List ℕ) (at b : ℕ) (rest : List ℕ) → drop at bytes ≡ b ∷ rest → slice_index bytes at ≡ b
head_is bytes at b rest h = ap (λ n. get_or bytes n 0) at_zero ∙ sym (get_or-drop at bytes 0 0) ∙ ap (λ t. get_or t 0 0)
    h
  where
    at_zero : at ≡ at + 0
    at_zero = omega arith

-- what a test for the empty list says
pub is_nil : {X : Type 0} (xs : List X) → (length xs == 0) ≡ true → xs ≡ []
is_nil [] is = refl
is_nil (x ∷ xs) is = absurd (omega (arith, eqb-true (suc (length xs)) 0 is))

-- a piece that was left is written
pub joined_on : (into new whole piece rest left : List ℕ) → left ≡ piece ++ rest → into ++ left ≡ whole
    → new ≡ into ++ piece → new ++ rest ≡ whole
joined_on into new whole piece rest left parts is made =
    ap (λ (text : List ℕ). text ++ rest) made
    ∙ append_assoc into piece rest
    ∙ ap (λ (text : List ℕ). into ++ text) (sym parts)
    ∙ is

-- the bytes behind the first 64
pub keeps_dropped : (old new : List ℕ) → drop 64 new ≡ drop 64 old → (k : ℕ) → 64 ≤ k
    → slice_index new k ≡ slice_index old k
keeps_dropped old new e k l =
    let j : 64 + (k - 64) ≡ k = omega arith in
    ap (λ n. get_or new n 0) (sym j) ∙ sym (get_or-drop 64 new (k - 64) 0) ∙ ap (λ xs. get_or xs (k - 64) 0) e ∙
    get_or-drop 64 old (k - 64) 0 ∙ ap (λ n. get_or old n 0) j

-- one element more
pub length_snoc : {X : Type 0} (xs : List X) (x : X) → length (xs ++ x ∷ []) ≡ suc (length xs)
length_snoc [] x = refl
length_snoc (y ∷ ys) x = ap suc (length_snoc ys x)

-- as many
pub map_length : {A B : Type 0} (f : A → B) (xs : List A) → length (map f xs) ≡ length xs
map_length f [] = refl
map_length f (x ∷ xs) = ap suc (map_length f xs)

-- one element more
pub map_snoc : {X Y : Type 0} (f : X → Y) (xs : List X) (x : X) → map f (xs ++ x ∷ []) ≡ map f xs ++ f x ∷ []
map_snoc f [] x = refl
map_snoc f (y ∷ ys) x = ap (λ zs. f y ∷ zs) (map_snoc f ys x)

-- one after another
pub map_twice : {X Y Z : Type 0} (f : X → Y) (g : Y → Z) (xs : List X) → map g (map f xs) ≡ map (λ x. g (f x)) xs
map_twice f g [] = refl
map_twice f g (x ∷ xs) = ap (λ ys. g (f x) ∷ ys) (map_twice f g xs)

-- what has no length is empty
pub nil_by_length : {X : Type 0} (xs : List X) → length xs ≡ 0 → xs ≡ []
nil_by_length [] e = refl
nil_by_length (x ∷ xs) e = absurd (omega (arith, e))

-- equal lists have equal first elements
pub same_head : {A : Type 0} (x y : A) (xs ys : List A) → x ∷ xs ≡ y ∷ ys → x ≡ y
same_head x y xs ys e = cc

-- and are equal behind them
pub same_tail : {A : Type 0} (x y : A) (xs ys : List A) → x ∷ xs ≡ y ∷ ys → xs ≡ ys
same_tail x y xs ys e = cc

-- what a loop's test says
pub some_first : {X : Type 0} (xs : List X) → (length xs == 0) ≡ false → 0 < length xs
some_first [] is = absurd cc
some_first (x ∷ xs) is = omega arith

-- the last byte of a front
pub take-last : (text : List ℕ) (n : ℕ) → 0 < n → n ≤ length text
    → take n text ≡ take (n - 1) text ++ get_or text (n - 1) 0 ∷ []
take-last text zero some within = absurd (omega arith)
take-last text (suc n) some within = let e : suc n - 1 ≡ n = omega arith in rw e (take-suc text n 0 (omega arith))

-- a front of nothing
pub take_nil : {A : Type 0} (k : ℕ) → take {A = A} k [] ≡ []
take_nil zero = refl
take_nil (suc k) = refl

-- one byte more of a text
pub take_snoc : (xs : List ℕ) (i : ℕ) → i < length xs → take (i + 1) xs ≡ take i xs ++ get_or xs i 0 ∷ []
take_snoc xs i lt = take_more xs i 0 lt

-- a front that is the whole
pub take_whole : {X : Type 0} (xs : List X) (n : ℕ) → length xs ≤ n → take n xs ≡ xs
take_whole [] zero le = refl
take_whole [] (suc n) le = refl
take_whole (x ∷ xs) zero le = absurd (omega (arith, le))
take_whole (x ∷ xs) (suc n) le = ap (λ ys. x ∷ ys) (take_whole xs n (omega (arith, le)))
