-- Reading one element after another, as a loop does: what was read, and what is left to read.
use Rattle.std.proofs.Common.{◌≡◌, ◌≢◌, ℕ, suc, ◌-◌, ◌+◌, ◌≤◌, ◌<◌, List, [], ◌∷◌, ◌++◌, Option, Some, None, refl, sym, ap, ◌∙◌, append_assoc, arith}
use Rattle.std.proofs.lemmas.List.{append-nil}
use Rattle.log_format.specs.declared.fault.ReadError.{ReadError}
use Rattle.log_format.specs.declared.fault.ReadError.TheVariants.{Bad, Memory}
use Rattle.log_format.specs.Reading.{many_at}
use Rattle.fp_model.specs.Values.{◌>>=◌}

pub bad_is_other : Bad ≢ Memory
bad_is_other same = absurd cc

-- what was read before, and what is still read
abbrev pub with_front : {X : Type 0} → List X → Option (List X × List ℕ) → Option (List X × List ℕ)
with_front front read = read >>= λ x. Some (front ++ x.0, x.1)

module _ {X : Type 0} (at : List ℕ → Option (X × List ℕ)) where
  regroup : (front : List X) (n : X) (read : Option (List X × List ℕ))
      → with_front front (read >>= λ x. Some (n ∷ x.0, x.1)) ≡ with_front (front ++ n ∷ []) read
  regroup front n (Some x) = ap (λ (ns : List X). Some (ns, x.1)) (simp append_assoc)
  regroup front n None = refl

  pub goes_on : (front : List X) (count i : ℕ) (bytes : List ℕ) (n : X) (after : List ℕ)
      (total : Option (List X × List ℕ)) → i < count → at bytes ≡ Some (n, after)
      → with_front front (many_at at (count - i) bytes) ≡ total
      → with_front (front ++ n ∷ []) (many_at at (count - (i + 1)) after) ≡ total
  unfolding many_at
  goes_on front count i bytes n after total lt h so_far =
      let k : count - i ≡ suc (count - (i + 1)) = omega arith in
      let one : with_front front (many_at at (count - i) bytes) ≡ with_front (front ++ n ∷ [])
      (many_at at (count - (i + 1)) after) = rw (k, h) (regroup front n (many_at at (count - (i + 1)) after)) in
      sym one ∙ so_far

  pub ends : (e : ReadError) (front : List X) (count i : ℕ) (bytes : List ℕ) (total : Option (List X × List ℕ))
      → i < count → (e ≢ Memory → at bytes ≡ None)
      → with_front front (many_at at (count - i) bytes) ≡ total → e ≢ Memory → total ≡ None
  unfolding many_at
  ends e front count i bytes total lt h so_far other =
      let k : count - i ≡ suc (count - (i + 1)) = omega arith in
      let none : at bytes ≡ None = h other in
      let one : with_front front (many_at at (count - i) bytes) ≡ None = rw (k, none) refl in
      sym so_far ∙ one

  pub is_done : (front : List X) (count i : ℕ) (bytes : List ℕ) (total : Option (List X × List ℕ)) → count ≤ i
      → with_front front (many_at at (count - i) bytes) ≡ total → total ≡ Some (front, bytes)
  unfolding many_at
  is_done front count i bytes total le so_far =
      let k : count - i ≡ 0 = omega arith in
      let one : with_front front (many_at at (count - i) bytes) ≡ Some (front, bytes) =
      rw k (ap (λ (ns : List X). Some (ns, bytes)) (append-nil front)) in
      sym so_far ∙ one
