-- What each interval owes, as entries come, are sealed and are written.
use Rattle.std.proofs.Common.{◌≡◌, inl, inr, ℕ, zero, suc, ◌+◌, ◌-◌, ◌<◌, ◌≤◌, true, false, List, [], ◌∷◌, ◌++◌, length, drop, refl, sym, ◌∙◌, ap, subst, arith, append_assoc}
use Rattle.std.specs.Prelude.{Option, Some, None}
use Rattle.std.proofs.lemmas.Bool.{cases_Bool, cases_lt}
use Rattle.std.proofs.lemmas.Bool.Decides.{nat_tests}
use Rattle.std.proofs.lemmas.List.{length-append}
use Rattle.fp_model.specs.declared.log.Entry.{Entry}
use Rattle.area_redo.specs.Redo.{names}
use Rattle.area_redo.specs.Standing.{names_at, Way, all_of, Due, Owed, is_below, owes_below, IsOwedBy, renewed, with_entry, IsDue, Owes}
use Rattle.area_redo.specs.Steps.{next_place, longer}

-- an entry that has an item is there,
pub names_within : (set ci : ℕ) (entries : List Entry) (k : ℕ) → names_at set ci entries k ≡ true → k < length entries
names_within set ci [] k is = cc
names_within set ci (e ∷ entries) zero is = omega arith
names_within set ci (e ∷ entries) (suc k) is = let lt = names_within set ci entries k is in omega arith

-- past the end is none,
pub names_past : (set ci : ℕ) (entries : List Entry) (k : ℕ) → length entries ≤ k → names_at set ci entries k ≡ false
names_past set ci [] k le = refl
names_past set ci (e ∷ entries) zero le = absurd (omega arith)
names_past set ci (e ∷ entries) (suc k) le = names_past set ci entries k (omega arith)

-- and more behind change nothing before
pub names_before : (set ci : ℕ) (entries more : List Entry) (k : ℕ) → k < length entries
    → names_at set ci (entries ++ more) k ≡ names_at set ci entries k
names_before set ci [] more k lt = absurd (omega arith)
names_before set ci (e ∷ entries) more zero lt = refl
names_before set ci (e ∷ entries) more (suc k) lt = names_before set ci entries more k (omega arith)

pub names_behind : (set ci : ℕ) (entries more : List Entry) (k : ℕ)
    → names_at set ci (entries ++ more) (length entries + k) ≡ names_at set ci more k
names_behind set ci [] more k = ap (names_at set ci more) (let e : 0 + k ≡ k = omega arith in e)
names_behind set ci (e ∷ entries) more k = ap (names_at set ci (e ∷ (entries ++ more)))
    (let q : suc (length entries) + k ≡ suc (length entries + k) = omega arith in q)
    ∙ names_behind set ci entries more k

-- those behind a place
pub names_drop : (set ci n : ℕ) (entries : List Entry) (k : ℕ)
    → names_at set ci (drop n entries) k ≡ names_at set ci entries (n + k)
names_drop set ci zero entries k = ap (names_at set ci entries) (let e : k ≡ 0 + k = omega arith in e)
names_drop set ci (suc n) [] k = refl
names_drop set ci (suc n) (e ∷ entries) k = names_drop set ci n entries k
    ∙ sym (ap (names_at set ci (e ∷ entries)) (let q : suc n + k ≡ suc (n + k) = omega arith in q))

-- an entry that makes an interval due changes nothing of what was due before it
pub below_renewed : (n place : ℕ) (o : Option Due) → is_below n (Some (renewed place o)) ≡ false → is_below n o ≡ false
below_renewed n place None h = refl
below_renewed n place (Some due) h = h

pub below_with : (n place : ℕ) (e : Entry) (owed : Owed) (set ci : ℕ)
    → owes_below n (with_entry place e owed) set ci ≡ false → owes_below n owed set ci ≡ false
below_with n place e owed set ci h = elim (cases_Bool (names set ci e.items)) [
  | inl is ↦ below_renewed n place (owed set ci) (rw is at h)
  | inr other ↦ rw other at h
]

-- what owes nothing below a place owes nothing below an earlier one
pub below_earlier : (n m : ℕ) (o : Option Due) → m ≤ n → is_below n o ≡ false → is_below m o ≡ false
below_earlier n m None le h = refl
below_earlier n m (Some due) le h = grind (arith, nat_tests)

-- what is owed by an entry below a place owes a change below it
pub owed_below : (n place : ℕ) (o : Option Due) → place < n → IsOwedBy place o → is_below n o ≡ true
owed_below n place None lt h = absurd h
owed_below n place (Some due) lt h = let le : due.oldest ≤ place = h in grind (arith, nat_tests)

-- one entry more
module _ (way : Way) (e : Entry) where
  pub all_longer : all_of (longer way e) ≡ all_of way ++ e ∷ []
  all_longer = sym (append_assoc way.tail way.unsealed (e ∷ []))

  old_name : (set ci k : ℕ) → k < length (all_of way) → names_at set ci (all_of (longer way e)) k ≡ names_at set ci
      (all_of way) k
  old_name set ci k lt = ap (λ l. names_at set ci l k) all_longer ∙ names_before set ci (all_of way) (e ∷ []) k lt

  new_name : (set ci k : ℕ) → k ≡ length (all_of way) → names_at set ci (all_of (longer way e)) k ≡ names set ci e.items
  new_name set ci k is = ap (λ l. names_at set ci l k) all_longer
      ∙ ap (names_at set ci (all_of way ++ e ∷ []))
      (is ∙ (let q : length (all_of way) ≡ length (all_of way) + 0 = omega arith in q))
      ∙ names_behind set ci (all_of way) (e ∷ []) 0

  past_name : (set ci k : ℕ) → length (all_of way) < k → names_at set ci (all_of (longer way e)) k ≡ false
  past_name set ci k lt = ap (λ l. names_at set ci l k) all_longer
      ∙ names_past set ci (all_of way ++ e ∷ []) k (omega (arith, length-append (all_of way) (e ∷ [])))

  -- an interval that it changes
  due_new : (set ci : ℕ) (o : Option Due) → ((due : Due) → o ≡ Some due → IsDue way set ci due)
      → names set ci e.items ≡ true → IsDue (longer way e) set ci (renewed (next_place way) o)
  due_new set ci None old is = record {
    ordered = omega arith;
    from = omega arith;
    oldest = new_name set ci ((next_place way) - way.count) (omega arith) ∙ is;
    newest = new_name set ci ((next_place way) - way.count) (omega arith) ∙ is;
    last = λ k lt. past_name set ci k (omega arith);
  }
  due_new set ci (Some due) old is =
      let d = old due refl in
      let low = names_within set ci (all_of way) (due.oldest - way.count) d.oldest in
      let from = d.from in
      record {
        ordered = omega arith;
        from = d.from;
        oldest = old_name set ci (due.oldest - way.count) low ∙ d.oldest;
        newest = new_name set ci ((next_place way) - way.count) (omega arith) ∙ is;
        last = λ k lt. past_name set ci k (omega arith);
      }

  -- and one that it doesn't
  due_old : (set ci : ℕ) (due : Due) → IsDue way set ci due → names set ci e.items ≡ false
      → IsDue (longer way e) set ci due
  due_old set ci due d other =
      let low = names_within set ci (all_of way) (due.oldest - way.count) d.oldest in
      let high = names_within set ci (all_of way) (due.newest - way.count) d.newest in
      record {
        ordered = d.ordered;
        from = d.from;
        oldest = old_name set ci (due.oldest - way.count) low ∙ d.oldest;
        newest = old_name set ci (due.newest - way.count) high ∙ d.newest;
        last = λ k lt. elim (cases_lt k (length (all_of way))) [
          | inl below ↦ old_name set ci k below ∙ d.last k lt
          | inr ge ↦ elim (cases_lt (length (all_of way)) k) [
            | inl past ↦ past_name set ci k past
            | inr le ↦ new_name set ci k (omega arith) ∙ other
          ]
        ];
      }

  pub due_longer : (owed : Owed) (set ci : ℕ) (due : Due) → ((d : Due) → owed set ci ≡ Some d → IsDue way set ci d)
      → with_entry (next_place way) e owed set ci ≡ Some due → IsDue (longer way e) set ci due
  due_longer owed set ci due old is = elim (cases_Bool (names set ci e.items)) [
    | inl named ↦ let eq : Some (renewed (next_place way) (owed set ci)) ≡ Some due = rw named at is in
        let eq2 : renewed (next_place way) (owed set ci) ≡ due = cc in
        subst (IsDue (longer way e) set ci) eq2 (due_new set ci (owed set ci) old named)
    | inr other ↦ let eq : owed set ci ≡ Some due = rw other at is in due_old set ci due (old due eq) other
  ]

  -- what it makes due by an earlier entry stays so
  still_owed : (k : ℕ) (o : Option Due) → IsOwedBy k o → IsOwedBy k (Some (renewed (next_place way) o))
  still_owed k None h = absurd h
  still_owed k (Some due) h = h

  fresh_owed : (set ci : ℕ) (o : Option Due) → ((due : Due) → o ≡ Some due → IsDue way set ci due)
      → IsOwedBy (next_place way) (Some (renewed (next_place way) o))
  fresh_owed set ci None old = let le : (next_place way) ≤ (next_place way) = omega arith in le
  fresh_owed set ci (Some due) old =
      let d = old due refl in
      let low = names_within set ci (all_of way) (due.oldest - way.count) d.oldest in
      let from = d.from in
      let le : due.oldest ≤ (next_place way) = omega arith in le

  pub waits_longer : (owed : Owed) → Owes way owed → (set ci k : ℕ) → length way.tail ≤ k
      → names_at set ci (all_of (longer way e)) k ≡ true → IsOwedBy (way.count + k)
      (with_entry (next_place way) e owed set ci)
  waits_longer owed owes set ci k ge named = elim (cases_lt k (length (all_of way))) [
    | inl below ↦
        let was = owes.waits set ci k ge (sym (old_name set ci k below) ∙ named) in
        elim (cases_Bool (names set ci e.items)) [
          | inl is ↦ rw is (still_owed (way.count + k) (owed set ci) was)
          | inr other ↦ rw other was
        ]
    | inr above ↦ elim (cases_lt (length (all_of way)) k) [
      | inl past ↦ let both : true ≡ false = sym named ∙ past_name set ci k past in cc
      | inr le ↦
          let at : k ≡ length (all_of way) = omega arith in
          let is : names set ci e.items ≡ true = sym (new_name set ci k at) ∙ named in
          rw is (subst (λ v. IsOwedBy (way.count + v) (Some (renewed (next_place way) (owed set ci)))) (sym at)
          (fresh_owed set ci (owed set ci) (owes.each set ci)))
    ]
  ]
