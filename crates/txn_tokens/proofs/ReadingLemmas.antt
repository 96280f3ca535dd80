-- Reading parts one after another, as a loop does.
use Rattle.std.proofs.Common.{◌≡◌, ℕ, zero, suc, ◌≤◌, ◌<◌, Bool, true, false, List, [], ◌∷◌, ◌++◌, length, Some, None, Ok, Err, refl, sym, ap, subst, ◌∙◌, append_assoc, arith, if◌then◌else◌}
use Rattle.std.specs.Prelude.{◌≢◌, ok_or}
use Rattle.std.proofs.lemmas.List.{append-nil}
use Rattle.txn_tokens.specs.declared.fault.LineFault.{LineFault}
use Rattle.txn_tokens.specs.declared.fault.LineFault.TheVariants.{Syntax, Memory}
use Rattle.txn_tokens.specs.Readings.{Reading, many, all_by}
use Rattle.fp_model.specs.Readings.{◌>>=◌}

-- what a reading leaves is shorter than so many
abbrev pub IsShorter : {X A : Type 0} → ℕ → Reading (A × List X) → Type 0
IsShorter n (Ok read) = length read.1 < n
IsShorter n (Err e) = Unit {0}

-- a part takes something
abbrev pub Shrinks : {X A : Type 0} → (List X → Reading (A × List X)) → Type 0
Shrinks {X} part = (xs : List X) → IsShorter (length xs) (part xs)

pub shorter_if : {X A : Type 0} (n : ℕ) (b : Bool) (r s : Reading (A × List X)) → (b ≡ true → IsShorter n r)
    → (b ≡ false → IsShorter n s) → IsShorter n (if b then r else s)
shorter_if n true r s h k = h refl
shorter_if n false r s h k = k refl

pub shorter_bind : {X A B : Type 0} (n : ℕ) (r : Reading B) (f : B → Reading (A × List X))
    → ((b : B) → r ≡ Ok b → IsShorter n (f b)) → IsShorter n (r >>= f)
shorter_bind n (Ok b) f h = h b refl
shorter_bind n (Err e) f h = tt

pub shorter_option : {X A B : Type 0} (n : ℕ) (c : Bool) (x : B) (f : B → Reading (A × List X))
    → (c ≡ true → IsShorter n (f x)) → IsShorter n (ok_or (if c then Some x else None) Syntax >>= f)
shorter_option n true x f h = h refl
shorter_option n false x f h = tt

pub shorter_le : {X A : Type 0} (m n : ℕ) (r : Reading (A × List X)) → m ≤ n → IsShorter m r → IsShorter n r
shorter_le m n (Ok read) le h = omega arith
shorter_le m n (Err e) le h = tt

pub shorter_at : {X A : Type 0} (n : ℕ) (r : Reading (A × List X)) (a : A) (rest : List X) → r ≡ Ok (a, rest)
    → IsShorter n r → length rest < n
shorter_at {X} {A} n r a rest is h = subst (λ (x : Reading (A × List X)). IsShorter n x) is h

-- what was read before, and what is still read
abbrev pub with_front : {A : Type 0} → List A → Reading (List A) → Reading (List A)
with_front front read = read >>= λ xs. Ok (front ++ xs)

pub regroup : {A : Type 0} (front : List A) (a : A) (read : Reading (List A))
    → with_front front (read >>= λ xs. Ok (a ∷ xs)) ≡ with_front (front ++ a ∷ []) read
regroup {A = A} front a (Ok xs) = ap (λ (all : List A). Ok all) (simp append_assoc)
regroup front a (Err e) = refl

module _ {X A : Type 0} (part : List X → Reading (A × List X)) (shrinks : Shrinks part) where
  abbrev then_many : ℕ → Reading (A × List X) → Reading (List A)
  then_many n read = read >>= λ first. many part n first.1 >>= λ others. Ok (first.0 ∷ others)

  -- as many as there are elements are enough
  many_same : (n m : ℕ) (xs : List X) → length xs ≤ n → length xs ≤ m → many part n xs ≡ many part m xs
  many_same n m [] h k = refl
  many_same zero m (x ∷ xs) h k = absurd (omega arith)
  many_same (suc n) zero (x ∷ xs) h k = absurd (omega arith)
  many_same (suc n) (suc m) (x ∷ xs) h k = next (part (x ∷ xs)) (shrinks (x ∷ xs))
      (λ ys le. many_same n m ys (omega arith) (omega arith))
    where
      next : (r : Reading (A × List X)) → IsShorter (suc (length xs)) r
          → ((ys : List X) → length ys ≤ length xs → many part n ys ≡ many part m ys) → then_many n r ≡ then_many m r
      next (Ok first) lt same = ap (λ (read : Reading (List A)). read >>= λ others. Ok (first.0 ∷ others))
          (same first.1 (omega arith))
      next (Err e) lt same = refl

  -- one part, and the others
  pub all_first : (xs : List X) (a : A) (rest : List X) → part xs ≡ Ok (a, rest)
      → all_by part xs ≡ (all_by part rest >>= λ others. Ok (a ∷ others))
  unfolding all_by
  all_first [] a rest is = let lt = shorter_at 0 (part []) a rest is (shrinks []) in absurd (omega (arith, lt))
  all_first (x ∷ xs) a rest is =
      let lt : length rest < suc (length xs) = shorter_at (suc (length xs)) (part (x ∷ xs)) a rest is (shrinks (x ∷ xs))
      in
      ap (then_many (length xs)) is ∙ ap (λ (read : Reading (List A)). read >>= λ others. Ok (a ∷ others))
      (many_same (length xs) (length rest) rest (omega arith) (omega arith))

  pub all_fails : (e : LineFault) (xs : List X) → 0 < length xs → part xs ≡ Err e → all_by part xs ≡ Err e
  unfolding all_by
  all_fails e [] lt is = absurd (omega arith)
  all_fails e (x ∷ xs) lt is = ap (then_many (length xs)) is

  pub goes_on : (front : List A) (xs : List X) (a : A) (rest : List X) (total : Reading (List A))
      → part xs ≡ Ok (a, rest)
      → with_front front (all_by part xs) ≡ total → with_front (front ++ a ∷ []) (all_by part rest) ≡ total
  goes_on front xs a rest total is so_far = sym (ap (with_front front) (all_first xs a rest is) ∙ regroup front a
      (all_by part rest)) ∙ so_far

  pub fails : (e : LineFault) (front : List A) (xs : List X) (total : Reading (List A)) → 0 < length xs
      → (e ≢ Memory → part xs ≡ Err e)
      → with_front front (all_by part xs) ≡ total → e ≢ Memory → total ≡ Err e
  fails e front xs total lt is so_far other = sym so_far ∙ ap (with_front front) (all_fails e xs lt (is other))

pub is_done : {X A : Type 0} (part : List X → Reading (A × List X)) (front : List A) (xs : List X)
    (total : Reading (List A)) → xs ≡ []
    → with_front front (all_by part xs) ≡ total → total ≡ Ok front
unfolding all_by
is_done {X = X} {A = A} part front xs total none so_far =
    sym so_far ∙ ap (λ (ys : List X). with_front front (all_by part ys)) none ∙ ap (λ (all : List A). Ok all)
    (append-nil front)

pub with_nothing : {A : Type 0} (read : Reading (List A)) → with_front [] read ≡ read
with_nothing (Ok xs) = refl
with_nothing (Err e) = refl
