-- How many cells wait, once one is written.
use Rattle.std.proofs.Common.{◌≡◌, inl, inr, ℕ, ◌+◌, ◌<◌, true, List, [], ◌∷◌, refl, sym, ◌∙◌, ap, arith}
use Rattle.std.specs.Prelude.{Some, IsSome, is_some, if◌then◌else◌}
use Rattle.std.proofs.lemmas.Bool.{cases_Bool}
use Rattle.ci_pool.specs.declared.cell.Cell.{Cell}
use Rattle.ci_pool.specs.Cells.{cell_at, is_of, comes_before, waiting_number, pending_number}
use Rattle.ci_pool.specs.Changes.{is_staged}
use Rattle.ci_pool.specs.inside.Changes.{without, with_cell, after_write}
use Rattle.ci_pool.specs.Held.{waiting_of}

-- one is taken out,
pub number_without : (set ci : ℕ) (l : List Cell) (c : Cell) → cell_at set ci l ≡ Some c
    → pending_number (without set ci l) + waiting_number c ≡ pending_number l
number_without set ci [] c is = cc
number_without set ci (x ∷ l) c is = elim (cases_Bool (is_of set ci x)) [
  | inl here ↦
      let first : Some x ≡ Some c = rw here at is in
      let same : x ≡ c = cc in
      let e = ap waiting_number same in
      rw here (omega arith)
  | inr other ↦
      let later : cell_at set ci l ≡ Some c = rw other at is in
      let rest = number_without set ci l c later in
      rw other (omega arith)
]

-- one is put in,
pub number_with : (new : Cell) (l : List Cell) → pending_number (with_cell new l) ≡ waiting_number new + pending_number l
number_with new [] = refl
number_with new (x ∷ l) = elim (cases_Bool (comes_before x.set x.ci new.set new.ci)) [
  | inl first ↦ let rest = number_with new l in rw first (omega arith)
  | inr behind ↦ rw behind refl
]

-- and one that waits is written
pub number_written : (set ci : ℕ) (l : List Cell) (c : Cell) → cell_at set ci l ≡ Some c
    → IsSome (waiting_of (cell_at set ci l))
    → pending_number (if is_staged c then with_cell (after_write c) (without set ci l) else without set ci l)
    < pending_number l
number_written set ci l c is waits =
    let some : is_some c.waiting ≡ true = ap (λ o. is_some (waiting_of o)) (sym is) ∙ waits in
    let one : waiting_number c ≡ 1 = ap (λ b. if b then 1 else 0) some in
    let less = number_without set ci l c is in
    elim (cases_Bool (is_staged c)) [
      | inl staged ↦ let more = number_with (after_write c) (without set ci l) in rw staged (omega arith)
      | inr only ↦ rw only (omega arith)
    ]
