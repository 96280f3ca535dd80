-- The interval sizes of areas, by their number.
use Rattle.std.proofs.Common.{◌≡◌, ℕ, zero, suc, ◌+◌, ◌-◌, ◌<◌, ◌≤◌, List, ◌∷◌, ◌++◌, length, drop, get_or, refl, sym, ap, ◌∙◌, arith, Some}
use Rattle.std.specs.Prelude.{replicate, slice_get}
use Rattle.std.specs.List.{flat_map}
use Rattle.std.proofs.Math.Seq.{drop-cons}
use Rattle.std.proofs.lemmas.List.Concat.{flat_map-cons}
use Rattle.fp_model.specs.declared.definitions.DedbDef.{DedbDef}

-- the interval size of each area of these databases
abbrev pub sizes_of : List DedbDef → List ℕ
sizes_of dedbs = flat_map (λ dedb. replicate (length dedb.areas) dedb.ci) dedbs

-- an element among equal ones
among : (n x : ℕ) (ys : List ℕ) (i : ℕ) → i < n → slice_get (replicate n x ++ ys) i ≡ Some x
among zero x ys i lt = absurd (omega arith)
among (suc n) x ys zero lt = refl
among (suc n) x ys (suc i) lt = among n x ys i (omega arith)

-- and one behind them
behind : (n x : ℕ) (ys : List ℕ) (i : ℕ) → n ≤ i → slice_get (replicate n x ++ ys) i ≡ slice_get ys (i - n)
behind zero x ys i le = let e : i ≡ i - 0 = omega arith in ap (slice_get ys) e
behind (suc n) x ys zero le = absurd (omega arith)
behind (suc n) x ys (suc i) le = let e : suc i - suc n ≡ i - n = omega arith in
    behind n x ys i (omega arith) ∙ ap (slice_get ys) (sym e)

module _ (dedbs : List DedbDef) (at : ℕ) (dedb : DedbDef) (within : at < length dedbs)
    (is : dedb ≡ get_or dedbs at dedb) where
  parts : sizes_of (drop at dedbs) ≡ replicate (length dedb.areas) dedb.ci ++ sizes_of (drop (at + 1) dedbs)
  parts =
      let e : suc at ≡ at + 1 = omega arith in
      ap sizes_of (drop-cons dedbs at dedb within ∙ ap (λ d. d ∷ drop (suc at) dedbs) (sym is) ∙ ap
      (λ n. dedb ∷ drop n dedbs) e)
      ∙ flat_map-cons (λ d. replicate (length d.areas) d.ci) dedb (drop (at + 1) dedbs)

  -- the area is one of this database
  pub size_here : (left : ℕ) → left < length dedb.areas → slice_get (sizes_of (drop at dedbs)) left ≡ Some dedb.ci
  size_here left lt = ap (λ l. slice_get l left) parts ∙ among (length dedb.areas) dedb.ci
      (sizes_of (drop (at + 1) dedbs)) left lt

  -- or of one behind it
  pub size_behind : (left count : ℕ) → count ≡ length dedb.areas → count ≤ left
      → slice_get (sizes_of (drop (at + 1) dedbs)) (left - count) ≡ slice_get (sizes_of (drop at dedbs)) left
  size_behind left count e le =
      let le2 : length dedb.areas ≤ left = omega (arith, e) in
      ap (λ n. slice_get (sizes_of (drop (at + 1) dedbs)) (left - n)) e ∙ sym
      (ap (λ l. slice_get l left) parts ∙ behind (length dedb.areas) dedb.ci (sizes_of (drop (at + 1) dedbs)) left
      le2)
