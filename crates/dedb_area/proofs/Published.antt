-- What is staged of areas becomes pending, or is dropped: the pool fits again.
use Rattle.std.proofs.Common.{◌≡◌, inl, inr, ℕ, ◌-◌, ◌<◌, ◌^◌, Bool, true, List, [], ◌∷◌, not, refl, sym, ◌∙◌, ap, subst, arith}
use Rattle.std.specs.Prelude.{Option, Some, None, IsSome, filter, is_some}
use Rattle.std.specs.Map.{lookup}
use Rattle.std.proofs.lemmas.Bool.{cases_Bool}
use Rattle.std.proofs.lemmas.Bool.Decides.{nat_tests}
use Rattle.ci_pool.specs.declared.cell.Waiting.{Waiting}
use Rattle.ci_pool.specs.Cells.{Listed, is_key, renewed_by}
use Rattle.ci_pool.specs.Held.{Held, HasSize, bytes_of, clean_at, first_of, held_at, pending_at, staged_at}
use Rattle.area_states.specs.declared.place.Place.{Place}
use Rattle.area_states.specs.Places.{place_at}
use Rattle.dedb_area.specs.Publishing.{ArePublished, IsFitStaged}
use Rattle.dedb_area.specs.Standing.{IsFitPool, IsUnstaged}

of_area : (place : ℕ) (places : List Place) (set : ℕ) (st : Option (List ℕ)) (was : Option Waiting) (w : Waiting)
    → renewed_by place st was ≡ Some w
    → ((bytes : List ℕ) → st ≡ Some bytes → IsSome (place_at places set))
    → ((v : Waiting) → was ≡ Some v → IsSome (place_at places set)) → IsSome (place_at places set)
of_area place places set None was w e f h = h w e
of_area place places set (Some bytes) was w e f h = f bytes refl

newest_of : (place : ℕ) (st : Option (List ℕ)) (was : Option Waiting) (w : Waiting) → renewed_by place st was ≡ Some w
    → place < 2 ^ 64 - 1 → ((v : Waiting) → was ≡ Some v → v.newest < 2 ^ 64 - 1) → w.newest < 2 ^ 64 - 1
newest_of place None was w e small h = h w e
newest_of place (Some bytes) None w e small h =
    let n : place ≡ w.newest = cc in
    omega (arith, n, small)
newest_of place (Some bytes) (Some v) w e small h =
    let n : place ≡ w.newest = cc in
    omega (arith, n, small)

pub fit_published : (place : ℕ) (places : List Place) (before after : Held) → place < 2 ^ 64 - 1
    → IsFitStaged places before → ArePublished place before after → IsUnstaged after
    → ((s n : ℕ) → HasSize s n before → HasSize s n after) → IsFitPool places after
fit_published place places before after small fit published none sizes = record {
  sizes = λ set p is. sizes set p.shape.ci (fit.sizes set p is);
  areas = λ set ci w is.
      of_area place places set (staged_at before set ci) (pending_at before set ci) w (sym (published set ci) ∙ is)
      (fit.staged set ci) (fit.areas set ci);
  below = λ set ci w is.
      newest_of place (staged_at before set ci) (pending_at before set ci) w (sym (published set ci) ∙ is) small
      (fit.below set ci);
  unstaged = none;
}

pub fit_dropped : (places : List Place) (before after : Held) → IsFitStaged places before
    → ((set ci : ℕ) → pending_at after set ci ≡ pending_at before set ci) → IsUnstaged after
    → ((s n : ℕ) → HasSize s n before → HasSize s n after) → IsFitPool places after
fit_dropped places before after fit same none sizes = record {
  sizes = λ set p is. sizes set p.shape.ci (fit.sizes set p is);
  areas = λ set ci w is. fit.areas set ci w (sym (same set ci) ∙ is);
  below = λ set ci w is. fit.below set ci w (sym (same set ci) ∙ is);
  unstaged = none;
}

-- ---- what is at hand

key_is : (set ci : ℕ) (key : ℕ × ℕ) → is_key set ci key ≡ true → (set ≡ key.0) × (ci ≡ key.1)
key_is set ci key is = (grind (arith, nat_tests), grind (arith, nat_tests))

-- what isn't left out is found as before
found_kept : (test : ((ℕ × ℕ) × List ℕ) → Bool) (set ci : ℕ) (list : Listed)
    → ((b : List ℕ) → test ((set, ci), b) ≡ true)
    → lookup (is_key set ci) (filter test list) ≡ lookup (is_key set ci) list
found_kept test set ci [] keep = refl
found_kept test set ci (e ∷ list) keep = elim (cases_Bool (is_key set ci e.0)) [
  | inl here ↦
      let at = key_is set ci e.0 here in
      let entry : ((set, ci), e.1) ≡ e = λ i. ((at.0 i, at.1 i), e.1) in
      let kept : test e ≡ true = ap test (sym entry) ∙ keep e.1 in
      rw kept (rw here refl)
  | inr other ↦ elim (cases_Bool (test e)) [
    | inl kept ↦ rw kept (rw other (found_kept test set ci list keep))
    | inr out ↦ rw out (rw other (found_kept test set ci list keep))
  ]
]

some_renewed : (place : ℕ) (bytes : List ℕ) (w : Option Waiting) (other : Option (List ℕ))
    → IsSome (first_of (bytes_of (renewed_by place (Some bytes) w)) other)
some_renewed place bytes w other = refl

pub hand_published : (place : ℕ) (before after : Held) → ArePublished place before after
    → after.clean ≡ filter (λ e. not (is_some (staged_at before e.0.0 e.0.1))) before.clean → (set ci : ℕ)
    → IsSome (held_at before set ci) → IsSome (held_at after set ci)
hand_published place before after published list set ci some = by (staged_at before set ci) refl
  where
    by : (o : Option (List ℕ)) → staged_at before set ci ≡ o → IsSome (held_at after set ci)
    by (Some bytes) e =
        let waits : pending_at after set ci ≡ renewed_by place (Some bytes) (pending_at before set ci) =
        published set ci ∙ ap (λ o. renewed_by place o (pending_at before set ci)) e in
        subst (λ w. IsSome (first_of (bytes_of w) (clean_at after set ci))) (sym waits)
        (some_renewed place bytes (pending_at before set ci) (clean_at after set ci))
    by None e =
        let waits : pending_at after set ci ≡ pending_at before set ci =
        published set ci ∙ ap (λ o. renewed_by place o (pending_at before set ci)) e in
        let found : clean_at after set ci ≡ clean_at before set ci =
        ap (lookup (is_key set ci)) list
        ∙ found_kept (λ x. not (is_some (staged_at before x.0.0 x.0.1))) set ci before.clean
        (λ b. ap (λ o. not (is_some o)) e) in
        subst IsSome
        (sym (ap (λ w. first_of (bytes_of w) (clean_at after set ci)) waits
        ∙ ap (first_of (bytes_of (pending_at before set ci))) found)) some
