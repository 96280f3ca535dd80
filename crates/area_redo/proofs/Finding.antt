-- What a restart finds, and that what a crash leaves is whole.
use Rattle.std.proofs.Common.{◌≡◌, ◌⊎◌, inl, inr, ⊎_elim, ℕ, ◌+◌, ◌-◌, ◌<◌, ◌≤◌, true, false, ◌||◌, List, [], ◌∷◌, ◌++◌, length, take, drop, refl, sym, ◌∙◌, ap, subst, arith, append_assoc}
use Rattle.std.specs.Prelude.{Option, Some, None}
use Rattle.std.proofs.lemmas.Bool.{cases_Bool, cases_lt}
use Rattle.std.proofs.lemmas.Bool.Decides.{nat_tests}
use Rattle.std.proofs.lemmas.List.{length-append, append-nil, drop_all, take-append-drop}
use Rattle.fp_site.specs.Disk.{Disk, IsDurable, IsLawful}
use Rattle.fp_model.specs.declared.log.Entry.{Entry}
use Rattle.fp_model.specs.Items.{items_of}
use Rattle.area_redo.specs.Redo.{AreaBytes, names, redone_at, AllBegin, Layout, IsLayout, count_in, interval_in, AreRedone}
use Rattle.area_redo.specs.Standing.{behind, EachGrows, names_at, Way, all_of, sealed_of, Due, Owed, nothing_owed, is_below, owes_below, IsOwedBy, renewed, with_entry, with_entries, IsDue, Stands}
use Rattle.area_redo.specs.Steps.{longer}
use Rattle.area_redo.specs.Restart.{found_bytes, IsWhole, found_way, found_owed, AreSame, tail_with}
use Rattle.area_redo.proofs.Items.{redone_none, redone_any, redone_more, names_more}
use Rattle.area_redo.proofs.Entries.{named_at, entries_redone, grows_first}
use Rattle.area_redo.proofs.Opening.{first_begins, tail_begins}
use Rattle.area_redo.proofs.Dues.{names_within, names_behind, due_longer}
use Rattle.model_laws.proofs.Entries.{items-append}

-- the way with more entries
abbrev with_more : Way → List Entry → Way
with_more way entries = record {
  count = way.count;
  mark = way.mark;
  tail = way.tail;
  unsealed = way.unsealed ++ entries;
}

-- what is due once entries come
entries_due : (entries : List Entry) (way : Way) (owed : Owed) (n : ℕ) → n ≡ way.count + length (all_of way)
    → ((set ci : ℕ) (due : Due) → owed set ci ≡ Some due → IsDue way set ci due)
    → (set ci : ℕ) (due : Due) → with_entries n entries owed set ci ≡ Some due
    → IsDue (with_more way entries) set ci due
entries_due [] way owed n at old set ci due is = subst
    (λ l. IsDue (record { count = way.count; mark = way.mark; tail = way.tail; unsealed = l }) set ci due)
    (sym (append-nil way.unsealed)) (same_way way (old set ci due is))
  where
    same_way : (w : Way) → IsDue w set ci due → IsDue
        (record { count = w.count; mark = w.mark; tail = w.tail; unsealed = w.unsealed }) set ci due
    same_way w d = record { ordered = d.ordered; from = d.from; oldest = d.oldest; newest = d.newest; last = d.last }
entries_due (e ∷ entries) way owed n at old set ci due is =
    subst (λ l. IsDue (record { count = way.count; mark = way.mark; tail = way.tail; unsealed = l }) set ci due)
    (append_assoc way.unsealed (e ∷ []) entries)
    (entries_due entries (longer way e) (with_entry n e owed) (n + 1)
    (at_next n at) (λ s c d h. due_longer way e owed s c d (old s c)
    (ap (λ k. with_entry k e owed s c) (sym at) ∙ h)) set ci due is)
  where
    at_next : (n : ℕ) → n ≡ way.count + length (all_of way)
        → n + 1 ≡ way.count + length (way.tail ++ (way.unsealed ++ e ∷ []))
    at_next n at = omega (
      arith,
      length-append way.tail (way.unsealed ++ e ∷ []),
      length-append way.unsealed
          (e ∷ []),
      length-append way.tail way.unsealed,
    )

-- where the same entries are sealed
due_sealed : (count mark mark2 : ℕ) (entries : List Entry) (set ci : ℕ) (due : Due)
    → IsDue (record { count = count; mark = mark; tail = []; unsealed = entries }) set ci due
    → IsDue (record { count = count; mark = mark2; tail = entries; unsealed = [] }) set ci due
due_sealed count mark mark2 entries set ci due d = record {
  ordered = d.ordered;
  from = d.from;
  oldest = ap (λ l. names_at set ci l (due.oldest - count)) (append-nil entries) ∙ d.oldest;
  newest = ap (λ l. names_at set ci l (due.newest - count)) (append-nil entries) ∙ d.newest;
  last = λ k lt. ap (λ l. names_at set ci l k) (append-nil entries) ∙ d.last k lt;
}

-- an interval that entries name owes something then, of one of them
entries_owed : (entries : List Entry) (n : ℕ) (owed : Owed) (set ci : ℕ) (n2 : ℕ) → n + length entries ≤ n2
    → ((due : Due) → owed set ci ≡ Some due → due.oldest < n2)
    → (names set ci (items_of entries) ≡ true) ⊎ (is_below n2 (owed set ci) ≡ true)
    → is_below n2 (with_entries n entries owed set ci) ≡ true
entries_owed [] n owed set ci n2 le low h = ⊎_elim (λ none. let both : false ≡ true = none in cc) (λ was. was) h
entries_owed (e ∷ entries) n owed set ci n2 le low h = entries_owed entries (n + 1) (with_entry n e owed) set ci n2
    (omega arith) low2 next
  where
    renewed_low : (o : Option Due) → ((due : Due) → o ≡ Some due → due.oldest < n2) → (due : Due)
        → Some (renewed n o) ≡ Some due → due.oldest < n2
    renewed_low None old due is = let eq : renewed n None ≡ due = cc in let at : due.oldest ≡ n =
        ap (λ d. d.oldest) (sym eq) in omega arith
    renewed_low (Some d) old due is = let eq : renewed n (Some d) ≡ due = cc in let at : due.oldest ≡ d.oldest =
        ap (λ x. x.oldest) (sym eq) in let lt = old d refl in omega arith

    low2 : (due : Due) → with_entry n e owed set ci ≡ Some due → due.oldest < n2
    low2 due is = elim (cases_Bool (names set ci e.items)) [
      | inl here ↦ renewed_low (owed set ci) low due (rw here at is)
      | inr other ↦ low due (rw other at is)
    ]

    fresh : (o : Option Due) → ((due : Due) → o ≡ Some due → due.oldest < n2) → is_below n2 (Some (renewed n o)) ≡ true
    fresh None old = let lt : n < n2 = omega arith in grind (arith, nat_tests)
    fresh (Some due) old = let lt = old due refl in grind (arith, nat_tests)

    next : (names set ci (items_of entries) ≡ true) ⊎ (is_below n2 (with_entry n e owed set ci) ≡ true)
    next = elim (cases_Bool (names set ci e.items)) [
      | inl here ↦ inr (rw here (fresh (owed set ci) low))
      | inr other ↦ ⊎_elim (λ named. let both : (names set ci e.items || names set ci (items_of entries)) ≡ true = sym
          (names_more set ci e.items (items_of entries)) ∙ named in inl (rw other at both))
          (λ was. inr (rw other was)) h
    ]

module _ (layout : Layout) (count : ℕ) (tail : List Entry) (disk : Disk) where
  -- the areas over images that every crash leaves
  pub found : IsWhole layout tail disk.contents
      → ((set : ℕ) → 0 < count_in layout (found_bytes layout tail disk.contents) set → IsDurable disk set)
      → Stands layout (found_way count tail) (found_owed count tail) (found_bytes layout tail disk.contents) disk
  found whole durable = record {
    owes = record {
      marked = omega arith;
      mark_sealed = omega arith;
      all_begin = subst (λ l. AllBegin (items_of l)) (sym (append-nil tail)) whole.begin;
      since_begin = subst (λ l. AllBegin (items_of l)) (sym nothing) (λ set ci. refl);
      each = λ set ci due is. due_sealed count count (count + length tail) tail set ci due
          (entries_due tail (record { count = count; mark = count; tail = []; unsealed = [] }) nothing_owed count
          (omega arith) (λ s c d h. cc) set ci due is);
      waits = λ set ci k ge named. absurd (let lt = names_within set ci (tail ++ []) k named in
          omega (arith, lt, length-append tail []));
    };
    grows = tt;
    redoes = λ s left set. record {
      gives = λ ci below. ap (λ image. redone_at set ci (items_of tail) (interval_in (layout.size set) image ci))
          (durable set (some set ci below) s left);
      inside = λ ci below none.
          let le = whole.inside set ci below none in
          let e = ap length (durable set (some set ci below) s left) in
          omega arith;
    };
    stand = λ set. record {
      same = λ ci below clean. sym (redone_none set ci (items_of tail)
          (interval_in (layout.size set) (disk.contents set) ci) (unnamed set ci clean));
      inside = λ ci below clean. whole.inside set ci below (unnamed set ci clean);
    };
  }
    where
      some : (set ci : ℕ) → ci < count_in layout (found_bytes layout tail disk.contents) set
          → 0 < count_in layout (found_bytes layout tail disk.contents) set
      some set ci below = omega arith

      nothing : drop (count + length tail - count) (tail ++ []) ≡ []
      nothing = drop_all (count + length tail - count) (tail ++ []) (omega (arith, length-append tail []))

      unnamed : (set ci : ℕ) → owes_below (count + length tail) (found_owed count tail) set ci ≡ false
          → names set ci (items_of tail) ≡ false
      unnamed set ci clean = elim (cases_Bool (names set ci (items_of tail))) [
        | inr other ↦ other
        | inl is ↦ let both : true ≡ false = sym
            (entries_owed tail count nothing_owed set ci (count + length tail) (omega arith) (λ due h. cc) (inl is))
            ∙ clean in cc
      ]

-- What a crash leaves at some moment, while the log on the disk has the sealed entries and so many of the others: it is
-- whole, and a restart makes of it the areas' bytes behind those.
module _ (layout : Layout) (way : Way) (owed : Owed) (bytes : AreaBytes) (disk : Disk) (n : ℕ) (images : ℕ → List ℕ)
    (lawful : IsLayout layout) (stands : Stands layout way owed bytes disk)
    (redone_now : AreRedone layout (items_of way.tail) bytes images) where
  abbrev pub then_bytes : AreaBytes
  then_bytes = behind (take n way.unsealed) bytes

  redone_then : AreRedone layout (items_of (tail_with n way)) then_bytes images
  redone_then = subst (λ l. AreRedone layout l then_bytes images) (sym (items-append way.tail (take n way.unsealed)))
      (entries_redone layout (items_of way.tail) (take n way.unsealed) bytes images redone_now
      (grows_first layout (take n way.unsealed) (drop n way.unsealed) bytes
      (subst (λ l. EachGrows layout l bytes) (sym (take-append-drop n way.unsealed)) stands.grows)).0)

  same_count : (set : ℕ) → 0 < count_in layout then_bytes set
      → count_in layout (found_bytes layout (tail_with n way) images) set ≡ count_in layout then_bytes set
  same_count set some = ap (layout.counted set) ((redone_then set).gives 0 some)

  counts_then : (set ci : ℕ) → ci < count_in layout (found_bytes layout (tail_with n way) images) set
      → ci < count_in layout then_bytes set
  counts_then set ci below =
      let here : 0 < count_in layout (found_bytes layout (tail_with n way) images) set = omega arith in
      let there : 0 < count_in layout then_bytes set = lawful set (found_bytes layout (tail_with n way) images set 0)
      (then_bytes set 0) here in
      let same = same_count set there in
      omega arith

  pub left_counts : (set : ℕ) → count_in layout (found_bytes layout (tail_with n way) images) set ≡
      count_in layout then_bytes set
  left_counts set = elim (cases_lt 0 (count_in layout then_bytes set)) [
    | inl some ↦ same_count set some
    | inr none ↦ elim (cases_lt 0 (count_in layout (found_bytes layout (tail_with n way) images) set)) [
      | inl here ↦ let there = lawful set (found_bytes layout (tail_with n way) images set 0) (then_bytes set 0) here in
          absurd (omega arith)
      | inr neither ↦ omega arith
    ]
  ]

  pub left_whole : IsWhole layout (tail_with n way) images
  left_whole = record {
    begin = first_begins (tail_with n way) (drop n way.unsealed)
        (subst (λ l. AllBegin (items_of l)) (ap (λ l. way.tail ++ l) (sym (take-append-drop n way.unsealed))
        ∙ sym (append_assoc way.tail (take n way.unsealed) (drop n way.unsealed))) stands.owes.all_begin);
    inside = λ set ci below none. (redone_then set).inside ci (counts_then set ci below) none;
  }

  pub left_same : AreSame layout then_bytes (found_bytes layout (tail_with n way) images)
  left_same set ci below = sym ((redone_then set).gives ci below)

-- What is owed to no entry is in the data sets: an interval that some entry names has there the bytes that all entries'
-- items give, whatever stood before.
pub written_out : (layout : Layout) (way : Way) (owed : Owed) (bytes : AreaBytes) (disk : Disk) (set ci : ℕ)
    (any : List ℕ) → IsLawful disk → Stands layout way owed bytes disk → owed set ci ≡ None
    → names set ci (items_of (all_of way)) ≡ true → ci < count_in layout bytes set
    → interval_in (layout.size set) (disk.contents set) ci ≡ redone_at set ci (items_of (all_of way)) any
written_out layout way owed bytes disk set ci any law s none named below =
    (s.stand set).same ci below clean
    ∙ sym given
    ∙ sym (redone_none set ci (items_of way.unsealed) (redone_at set ci (items_of way.tail) any) unsealed)
    ∙ sym (redone_more set ci (items_of way.tail) (items_of way.unsealed) any)
    ∙ ap (λ l. redone_at set ci l any) (sym (items-append way.tail way.unsealed))
  where
    clean : owes_below (sealed_of way) owed set ci ≡ false
    clean = ap (is_below (sealed_of way)) none

    unsealed : names set ci (items_of way.unsealed) ≡ false
    unsealed = elim (cases_Bool (names set ci (items_of way.unsealed))) [
      | inr other ↦ other
      | inl is ↦
          let found = named_at set ci way.unsealed is in
          let all : names_at set ci (all_of way) (length way.tail + found.0) ≡ true =
          names_behind set ci way.tail way.unsealed found.0 ∙ found.2 in
          let waits = s.owes.waits set ci (length way.tail + found.0) (omega arith) all in
          absurd (subst (IsOwedBy (way.count + (length way.tail + found.0))) none waits)
    ]

    in_tail : names set ci (items_of way.tail) ≡ true
    in_tail = elim (cases_Bool (names set ci (items_of way.tail))) [
      | inl is ↦ is
      | inr other ↦
          let both : (names set ci (items_of way.tail) || names set ci (items_of way.unsealed)) ≡ true =
          sym (names_more set ci (items_of way.tail) (items_of way.unsealed))
          ∙ ap (names set ci) (sym (items-append way.tail way.unsealed)) ∙ named in
          let neither : (names set ci (items_of way.tail) || names set ci (items_of way.unsealed)) ≡ false =
          rw (other, unsealed) refl in
          let false_true : true ≡ false = sym both ∙ neither in
          cc
    ]

    -- the tail gives the bytes, whatever is below it
    given : redone_at set ci (items_of way.tail) any ≡ bytes set ci
    given =
        redone_any set ci (items_of way.tail) any (interval_in (layout.size set) (law.stands.0.images set) ci) in_tail
        (tail_begins layout way owed bytes s.owes set ci)
        ∙ (s.redoes law.stands.0 law.stands.1 set).gives ci below
