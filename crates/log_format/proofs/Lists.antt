-- The law of elements behind their count.
use Rattle.std.proofs.Common.{◌≡◌, ℕ, zero, suc, ◌^◌, ◌<◌, List, [], ◌∷◌, ◌++◌, length, get_or, Option, Some, refl, sym, ap, subst, ◌∙◌, append_assoc, arith}
use Rattle.std.specs.List.{flat_map, AllByRecursion}
use Rattle.std.proofs.lemmas.List.Concat.{flat_map-cons}
use Rattle.fp_model.specs.Spellings.{be32}
use Rattle.fp_model.specs.LogText.{IsBytes}
use Rattle.log_format.specs.Reading.{many_at, counted_at}
use Rattle.log_format.specs.Laws.{Takes, Lawful, counted_text}
use Rattle.log_format.proofs.Fields.{then, next, law32}
use Rattle.model_laws.proofs.Texts.{some_step}
use Rattle.std.proofs.lemmas.Option.{same_Some}

module _ (X : Type 0) (text : X → List ℕ) (at : List ℕ → Option (X × List ℕ)) (Fits : X → Type 0)
    (law : Lawful X text at Fits) where
  -- what reading so many takes
  pub many_takes : (n : ℕ) (bytes : List ℕ) (x : List X × List ℕ) → IsBytes bytes → many_at at n bytes ≡ Some x
      → Takes bytes (flat_map text x.0) x.1 × (length x.0 ≡ n) × AllByRecursion Fits x.0
  unfolding many_at
  many_takes zero bytes x fits e =
      subst (λ (y : List X × List ℕ). Takes bytes (flat_map text y.0) y.1 × (length y.0 ≡ 0) × AllByRecursion Fits y.0)
      (same_Some ([], bytes) x e) (record { parts = refl; rest_fits = fits }, refl, tt)
  many_takes (suc n) bytes x fits e =
      let a = next law bytes _ x fits e in
      let b = some_step (many_at at n a.0.1) _ x a.3 in
      let second = many_takes n a.0.1 b.0 a.1.rest_fits b.1 in
      let both = then bytes (text a.0.0) a.0.1 (flat_map text b.0.0) b.0.1 a.1 second.0 in
      let made : List X × List ℕ = (a.0.0 ∷ b.0.0, b.0.1) in
      subst (λ (y : List X × List ℕ). Takes bytes (flat_map text y.0) y.1 × (length y.0 ≡ suc n)
      × AllByRecursion Fits y.0) (same_Some made x b.2) (rw flat_map-cons both, ap suc second.1, (a.2, second.2))

  -- so many are read again
  pub many_again : (xs : List X) (rest : List ℕ) → AllByRecursion Fits xs
      → many_at at (length xs) (flat_map text xs ++ rest) ≡ Some (xs, rest)
  unfolding many_at
  many_again [] rest fits = refl
  many_again (x ∷ xs) rest fits =
      let regrouped : flat_map text (x ∷ xs) ++ rest ≡ text x ++ (flat_map text xs ++ rest) =
      ap (λ (t : List ℕ). t ++ rest) (flat_map-cons text x xs) ∙ append_assoc (text x) (flat_map text xs) rest in
      ap (many_at at (suc (length xs))) regrouped ∙ rw
      (law.again x (flat_map text xs ++ rest) fits.0, many_again xs rest fits.1) refl

  -- elements behind their count in four bytes
  pub counted_law : Lawful (List X) (counted_text text) (counted_at at)
      (λ xs. (length xs < 2 ^ 32) × AllByRecursion Fits xs)
  unfolding counted_at
  counted_law = record {
    takes = λ bytes x fits e.
        let a = next law32 bytes _ x fits e in
        let b = many_takes a.0.0 a.0.1 x a.1.rest_fits a.3 in
        let t = then bytes (be32 a.0.0) a.0.1 (flat_map text x.0) x.1 a.1 b.0 in
        (record { parts = rw b.1 t.parts; rest_fits = t.rest_fits }, (omega (arith, b.1, a.2), b.2));
    again = λ xs rest fits.
        let regrouped : (be32 (length xs) ++ flat_map text xs) ++ rest ≡ be32 (length xs) ++ (flat_map text xs ++ rest)
        = append_assoc (be32 (length xs)) (flat_map text xs) rest in
        ap (counted_at at) regrouped ∙ rw (law32.again (length xs) (flat_map text xs ++ rest) fits.0)
        (many_again xs rest fits.1);
  }

-- an element has what all have
pub element : {X : Type 0} (P : X → Type 0) (xs : List X) (i : ℕ) (x : X) → i < length xs → x ≡ get_or xs i x
    → AllByRecursion P xs → P x
element P [] i x lt is all = absurd (omega arith)
element P (y ∷ ys) zero x lt is all = subst P (sym is) all.0
element P (y ∷ ys) (suc i) x lt is all = element P ys i x (omega arith) is all.1
