-- Terminals one by one: as they are written, and as they are put by their names.
use Rattle.std.proofs.Common.{◌≡◌, ℕ, zero, suc, ◌+◌, ◌≤◌, drop, List, [], ◌∷◌, ◌++◌, length, take, Option, Some, None, refl, sym, ◌∙◌, ap, subst, true, slice_get, append_assoc, arith}
use Rattle.std.specs.Prelude.{if◌then◌else◌, Bool, false}
use Rattle.std.specs.Int.{w64}
use Rattle.std.specs.List.{AllByRecursion, flat_map}
use Rattle.std.proofs.lemmas.Bool.{le-ltb}
use Rattle.log_format.specs.Reading.{long_at, number_at, part_at}
use Rattle.fp_model.specs.declared.name.Name.{Name}
use Rattle.checkpoint_format.specs.Reading.{is_stored_name, last_at, last_in}
use Rattle.std.proofs.lemmas.List.{append-nil}
use Rattle.std.proofs.lemmas.List.Concat.{flat_map-cons}
use Rattle.std.proofs.lemmas.Option.{none-some, same_Some}

-- one element more is written behind the others
one_suc : {X : Type 0} (text : X → List ℕ) (xs : List X) (n : ℕ) (x : X) → slice_get xs n ≡ Some x
    → flat_map text (take (suc n) xs) ≡ flat_map text (take n xs) ++ text x
one_suc text [] n x e = cc
one_suc text (y ∷ ys) zero x e =
    flat_map-cons text y [] ∙ ap (λ z. text z ++ []) (same_Some y x e) ∙ append-nil (text x)
one_suc text (y ∷ ys) (suc n) x e =
    flat_map-cons text y (take (suc n) ys) ∙ ap (λ t. text y ++ t) (one_suc text ys n x e)
    ∙ sym (append_assoc (text y) (flat_map text (take n ys)) (text x))
    ∙ ap (λ t. t ++ text x) (sym (flat_map-cons text y (take n ys)))

pub one_written : {X : Type 0} (text : X → List ℕ) (xs : List X) (n : ℕ) (x : X) → slice_get xs n ≡ Some x
    → flat_map text (take (n + 1) xs) ≡ flat_map text (take n xs) ++ text x
one_written text xs n x e = let is : n + 1 ≡ suc n = omega arith in
    ap (λ m. flat_map text (take m xs)) is ∙ one_suc text xs n x e

-- the element at a place has what all have
pub element : {X : Type 0} (P : X → Type 0) (xs : List X) (n : ℕ) (x : X) → slice_get xs n ≡ Some x
    → AllByRecursion P xs → P x
element P [] n x e all = cc
element P (y ∷ ys) zero x e all = subst P (same_Some y x e) all.0
element P (y ∷ ys) (suc n) x e all = element P ys n x e all.1

pub three : (a b c d : List ℕ) → (a ++ (b ++ c)) ++ d ≡ a ++ (b ++ (c ++ d))
three a b c d = simp append_assoc

-- ---- reading one

pub part_is : (n : ℕ) (bytes front rest : List ℕ) → n ≤ length bytes → front ≡ take n bytes → rest ≡ drop n bytes
    → part_at n bytes ≡ Some (front, rest)
part_is n bytes front rest enough is_front is_rest =
    rw (le-ltb (length bytes) n enough) (ap (λ f. Some (f, drop n bytes)) (sym is_front)
    ∙ ap (λ r. Some (front, r)) (sym is_rest))

module _ (bytes name after : List ℕ) (number : ℕ) (behind line rest : List ℕ) where
  in_steps : part_at 8 bytes ≡ Some (name, after) → number_at w64 after ≡ Some (number, behind)
      → long_at behind ≡ Some (line, rest) → last_at bytes ≡ last_in name number (line, rest)
  unfolding last_at
  in_steps p n l = rw (p, n, l) refl

  pub last_is : (lterm : Name) → part_at 8 bytes ≡ Some (name, after) → number_at w64 after ≡ Some (number, behind)
      → long_at behind ≡ Some (line, rest)
      → (if is_stored_name name then Some (record { 0 = name }) else None) ≡ Some lterm
      → last_at bytes ≡ Some (record { lterm = lterm; number = number; line = line }, rest)
  last_is lterm p n l is = in_steps p n l ∙ by (is_stored_name name) refl
    where
      by : (b : Bool) → is_stored_name name ≡ b
          → last_in name number (line, rest) ≡ Some (record { lterm = lterm; number = number; line = line }, rest)
      by true e = rw e (ap (λ t. Some (record { lterm = t; number = number; line = line }, rest))
          (same_Some (record { 0 = name }) lterm
          (sym (ap (λ (t : Bool). if t then Some (record { 0 = name }) else None) e)
          ∙ is)))
      by false e = absurd (none-some lterm (sym (ap (λ (t : Bool). if t then Some (record { 0 = name }) else None) e)
          ∙ is))

  pub last_isnt : part_at 8 bytes ≡ Some (name, after) → number_at w64 after ≡ Some (number, behind)
      → long_at behind ≡ Some (line, rest)
      → (if is_stored_name name then Some (record { 0 = name }) else None) ≡ (let none : Option Name = None in none)
      → last_at bytes ≡ None
  last_isnt p n l is = in_steps p n l ∙ by (is_stored_name name) refl
    where
      by : (b : Bool) → is_stored_name name ≡ b → last_in name number (line, rest) ≡ None
      by true e = absurd (none-some (record { 0 = name }) (sym is ∙ ap
          (λ (t : Bool). if t then Some (record { 0 = name }) else None) e))
      by false e = rw e refl
