-- The steps of a run keep where the areas stand.
use Rattle.std.proofs.Common.{◌≡◌, inl, inr, ℕ, ◌+◌, ◌-◌, ◌*◌, ◌<◌, ◌≤◌, true, false, List, [], ◌∷◌, ◌++◌, length, take, drop, refl, sym, ◌∙◌, ap, subst, arith, append_assoc}
use Rattle.std.specs.Prelude.{Some, None, ◌==◌, ◌&&◌}
use Rattle.std.proofs.lemmas.Bool.{cases_Bool, cases_lt, cases_eq}
use Rattle.std.proofs.lemmas.Bool.Decides.{nat_tests}
use Rattle.std.proofs.lemmas.List.{length-append, take-append-drop, append-nil, drop-append-le}
use Rattle.fp_site.specs.Disk.{Disk, Broken, Tears, Elapses, Leaves, IsLawful, written}
use Rattle.fp_site.specs.Written.{length-written}
use Rattle.fp_model.specs.declared.log.Item.{Item}
use Rattle.fp_model.specs.declared.log.Entry.{Entry}
use Rattle.fp_model.specs.Items.{items_of, begins_with_image}
use Rattle.area_redo.specs.Redo.{AreaBytes, names, AllBegin, Layout, count_in, interval_in, AreRedone, Redoes, GrowByImages, StandsIn}
use Rattle.area_redo.specs.Standing.{behind, EachGrows, names_at, Way, all_of, sealed_of, Due, Owed, is_below, owes_below, IsOwedBy, with_entry, without, IsDue, Owes, Stands, BeginsSinceMark}
use Rattle.area_redo.specs.Steps.{next_place, longer, with_sealed}
use Rattle.area_redo.proofs.Items.{begins_named, begins_none, begins_first}
use Rattle.area_redo.proofs.Places.{interval_written, interval_other, written_reaches, broken_other}
use Rattle.area_redo.proofs.Areas.{write_redoes}
use Rattle.area_redo.proofs.Entries.{named_from, named_at, behind_none, grows_more, grows_first, grown_named, entries_redone}
use Rattle.area_redo.proofs.Dues.{names_before, names_behind, names_drop, below_with, below_earlier, owed_below, all_longer, due_longer, waits_longer}
use Rattle.model_laws.proofs.Entries.{items-append}

-- an entry behind a list that begins well, whose later part names what it doesn't begin with an image
begins_on : (items later : List Item) (e : Entry) → AllBegin items
    → ((set ci : ℕ) → names set ci later ≡ false → begins_with_image set ci e.items ≡ true)
    → ((set ci : ℕ) → names set ci later ≡ true → names set ci items ≡ true) → AllBegin (items ++ e.items)
begins_on items later e all fresh within set ci = elim (cases_Bool (names set ci items)) [
  | inl is ↦ begins_named set ci items e.items is ∙ all set ci
  | inr none ↦ elim (cases_Bool (names set ci later)) [
    | inl named ↦ let both : true ≡ false = sym (within set ci named) ∙ none in cc
    | inr other ↦ begins_none set ci items e.items none ∙ fresh set ci other
  ]
]

-- what entries behind a place name the whole list names
dropped_named : (set ci n : ℕ) (entries : List Entry) → names set ci (items_of (drop n entries)) ≡ true
    → names set ci (items_of entries) ≡ true
dropped_named set ci n entries is =
    let found = named_at set ci (drop n entries) is in
    named_from set ci entries (n + found.0) (sym (names_drop set ci n entries found.0) ∙ found.2)

pub items_one : (entries : List Entry) (e : Entry) → items_of (entries ++ e ∷ []) ≡ items_of entries ++ e.items
items_one entries e = items-append entries (e ∷ []) ∙ ap (λ l. items_of entries ++ l) (append-nil e.items)

module _ (layout : Layout) (way : Way) (owed : Owed) (bytes : AreaBytes) where
  -- A transaction's entry is appended, and its intervals are published
  pub published : (e : Entry) (disk : Disk) → Stands layout way owed bytes disk → BeginsSinceMark way e
      → GrowByImages layout e.items (behind way.unsealed bytes)
      → Stands layout (longer way e) (with_entry (next_place way) e owed) bytes disk
  published e disk s fresh grow = record {
    owes = record {
      marked = s.owes.marked;
      mark_sealed = s.owes.mark_sealed;
      all_begin = subst AllBegin (sym (items_one (all_of way) e) ∙ ap items_of (sym (all_longer way e)))
          (begins_on (items_of (all_of way)) (items_of
          (drop (way.mark - way.count) (all_of way))) e s.owes.all_begin fresh
          (λ set ci named. dropped_named set ci (way.mark - way.count) (all_of way) named));
      since_begin = subst AllBegin (sym (items_one (drop (way.mark - way.count) (all_of way)) e)
          ∙ ap items_of (sym (drop-append-le (way.mark - way.count) (all_of way) (e ∷ []) low)
          ∙ ap (drop (way.mark - way.count)) (sym (all_longer way e))))
          (begins_on (items_of (drop (way.mark - way.count) (all_of way)))
          (items_of (drop (way.mark - way.count) (all_of way))) e s.owes.since_begin fresh (λ set ci named. named));
      each = λ set ci due is. due_longer way e owed set ci due (s.owes.each set ci) is;
      waits = waits_longer way e owed s.owes;
    };
    grows = grows_more layout way.unsealed (e ∷ []) bytes s.grows (grow, tt);
    redoes = s.redoes;
    stand = λ set. record {
      same = λ ci below clean. (s.stand set).same ci below
          (below_with (sealed_of way) (next_place way) e owed set ci clean);
      inside = λ ci below clean. (s.stand set).inside ci below
          (below_with (sealed_of way) (next_place way) e owed set ci clean);
    };
  }
    where
      low : way.mark - way.count ≤ length (all_of way)
      low = let m = s.owes.mark_sealed in omega (arith, m, length-append way.tail way.unsealed)

  -- What an unsealed entry has an item of owes it.
  unsealed_owed : Owes way owed → (n set ci : ℕ) → names set ci (items_of (take n way.unsealed)) ≡ true
      → owes_below (way.count + length (way.tail ++ take n way.unsealed)) owed set ci ≡ true
  unsealed_owed owes n set ci is =
      let found = named_at set ci (take n way.unsealed) is in
      let k = found.0 in
      let lt = found.1 in
      let e = take-append-drop n way.unsealed in
      let here : names_at set ci way.unsealed k ≡ true = ap (λ l. names_at set ci l k) (sym e)
      ∙ names_before set ci (take n way.unsealed) (drop n way.unsealed) k lt ∙ found.2 in
      let all : names_at set ci (all_of way) (length way.tail + k) ≡ true = names_behind set ci way.tail way.unsealed k
      ∙ here in
      let waits = owes.waits set ci (length way.tail + k) (omega arith) all in
      owed_below (way.count + length (way.tail ++ take n way.unsealed)) (way.count + (length way.tail + k))
      (owed set ci) (omega (arith, lt, length-append way.tail (take n way.unsealed))) waits

  all_sealing : (n : ℕ) → all_of (with_sealed n way) ≡ all_of way
  all_sealing n = append_assoc way.tail (take n way.unsealed) (drop n way.unsealed)
      ∙ ap (λ l. way.tail ++ l) (take-append-drop n way.unsealed)

  due_sealing : (n set ci : ℕ) (due : Due) → IsDue way set ci due → IsDue (with_sealed n way) set ci due
  due_sealing n set ci due d = record {
    ordered = d.ordered;
    from = d.from;
    oldest = ap (λ l. names_at set ci l (due.oldest - way.count)) (all_sealing n) ∙ d.oldest;
    newest = ap (λ l. names_at set ci l (due.newest - way.count)) (all_sealing n) ∙ d.newest;
    last = λ k lt. ap (λ l. names_at set ci l k) (all_sealing n) ∙ d.last k lt;
  }

  -- The oldest entries are sealed: nothing of the areas changes on the disk, and the tail goes on.
  pub sealed : (n : ℕ) (disk : Disk) → Stands layout way owed bytes disk
      → Stands layout (with_sealed n way) owed (behind (take n way.unsealed) bytes) disk
  sealed n disk s = record {
    owes = record {
      marked = s.owes.marked;
      mark_sealed = let m = s.owes.mark_sealed in omega (arith, m, length-append way.tail (take n way.unsealed));
      all_begin = subst AllBegin (ap items_of (sym (all_sealing n))) s.owes.all_begin;
      since_begin = subst AllBegin (ap (λ l. items_of (drop (way.mark - way.count) l))
          (sym (all_sealing n))) s.owes.since_begin;
      each = λ set ci due is. due_sealing n set ci due (s.owes.each set ci due is);
      waits = λ set ci k ge named. s.owes.waits set ci k
          (omega (arith, ge, length-append way.tail (take n way.unsealed)))
          (sym (ap (λ l. names_at set ci l k) (all_sealing n)) ∙ named);
    };
    grows = parts.1;
    redoes = λ snap left. subst (λ l. AreRedone layout l (behind (take n way.unsealed) bytes) snap.images)
        (sym (items-append way.tail (take n way.unsealed)))
        (entries_redone layout (items_of way.tail) (take n way.unsealed) bytes snap.images
        (s.redoes snap left) parts.0);
    stand = λ set. record {
      same = λ ci below clean. stands_bytes set ci below clean;
      inside = λ ci below clean. (s.stand set).inside ci (counted set ci below clean) (was_clean set ci clean);
    };
  }
    where
      parts : EachGrows layout (take n way.unsealed) bytes × EachGrows layout (drop n way.unsealed)
          (behind (take n way.unsealed) bytes)
      parts = grows_first layout (take n way.unsealed) (drop n way.unsealed) bytes
          (subst (λ l. EachGrows layout l bytes) (sym (take-append-drop n way.unsealed)) s.grows)

      unnamed : (set ci : ℕ) → owes_below (sealed_of (with_sealed n way)) owed set ci ≡ false
          → names set ci (items_of (take n way.unsealed)) ≡ false
      unnamed set ci clean = elim (cases_Bool (names set ci (items_of (take n way.unsealed)))) [
        | inl is ↦ let both : true ≡ false = sym (unsealed_owed s.owes n set ci is) ∙ clean in cc
        | inr other ↦ other
      ]

      was_clean : (set ci : ℕ) → owes_below (sealed_of (with_sealed n way)) owed set ci ≡ false
          → owes_below (sealed_of way) owed set ci ≡ false
      was_clean set ci clean = below_earlier (sealed_of (with_sealed n way)) (sealed_of way) (owed set ci)
          (omega (arith, length-append way.tail (take n way.unsealed))) clean

      counted : (set ci : ℕ) → ci < count_in layout (behind (take n way.unsealed) bytes) set
          → owes_below (sealed_of (with_sealed n way)) owed set ci ≡ false → ci < count_in layout bytes set
      counted set ci below clean = elim (cases_lt ci (count_in layout bytes set)) [
        | inl lt ↦ lt
        | inr ge ↦ let both : true ≡ false = sym
            (grown_named layout set ci (take n way.unsealed) bytes parts.0 ge below) ∙ unnamed set ci clean in cc
      ]

      stands_bytes : (set ci : ℕ) → ci < count_in layout (behind (take n way.unsealed) bytes) set
          → owes_below (sealed_of (with_sealed n way)) owed set ci ≡ false
          → interval_in (layout.size set) (disk.contents set) ci ≡ behind (take n way.unsealed) bytes set ci
      stands_bytes set ci below clean = (s.stand set).same ci (counted set ci below clean) (was_clean set ci clean)
          ∙ sym (behind_none set ci (take n way.unsealed) bytes (unnamed set ci clean))

  -- the way of a sealed change: the tail names it
  pub tail_named : (set ci : ℕ) (due : Due) → IsDue way set ci due → due.newest < sealed_of way
      → names set ci (items_of way.tail) ≡ true
  tail_named set ci due d sealed_ =
      let from = d.from in
      let order = d.ordered in
      named_from set ci way.tail (due.newest - way.count)
      (sym (names_before set ci way.tail way.unsealed (due.newest - way.count) (omega arith)) ∙ d.newest)

  -- and no unsealed entry does
  pub unsealed_unnamed : (set ci : ℕ) (due : Due) → IsDue way set ci due → due.newest < sealed_of way
      → names set ci (items_of way.unsealed) ≡ false
  unsealed_unnamed set ci due d sealed_ = elim (cases_Bool (names set ci (items_of way.unsealed))) [
    | inr other ↦ other
    | inl is ↦
        let found = named_at set ci way.unsealed is in
        let all : names_at set ci (all_of way) (length way.tail + found.0) ≡ true =
        names_behind set ci way.tail way.unsealed found.0 ∙ found.2 in
        let both : true ≡ false = sym all ∙ d.last (length way.tail + found.0) (omega arith) in
        cc
  ]

  -- An interval whose newest change is sealed is written with its newest bytes. A crash at any moment of it is no loss;
  pub wrote_redoes : (set ci : ℕ) (due : Due) (old new : Disk) → Stands layout way owed bytes old
      → owed set ci ≡ Some due → due.newest < sealed_of way → IsLawful old → IsLawful new
      → Elapses old new (Tears old set (ci * layout.size set) (layout.size set))
      → Redoes layout (items_of way.tail) bytes new
  wrote_redoes set ci due old new s is below law law2 more =
      write_redoes layout (items_of way.tail) bytes set ci old new law law2
      (λ a b. begins_first a b (items_of way.tail) (items_of way.unsealed)
      (sym (ap (begins_with_image a b) (items-append way.tail way.unsealed)) ∙ s.owes.all_begin a b))
      (tail_named set ci due (s.owes.each set ci due is) below) more s.redoes

  without_other : (set ci other_set other : ℕ) → ((other_set == set) && (other == ci)) ≡ false
      → without set ci owed other_set other ≡ owed other_set other
  without_other set ci other_set other ne = rw ne refl

  pub without_due : (set ci other_set other : ℕ) (due : Due) → without set ci owed other_set other ≡ Some due
      → owed other_set other ≡ Some due
  without_due set ci other_set other due is = elim (cases_Bool ((other_set == set) && (other == ci))) [
    | inl same ↦ let none : None ≡ Some due = rw same at is in cc
    | inr ne ↦ rw ne at is
  ]

  -- who owes less waits as before, where the one that is written is named by no unsealed entry
  owes_without : (set ci : ℕ) (due : Due) → Owes way owed → owed set ci ≡ Some due → due.newest < sealed_of way
      → Owes way (without set ci owed)
  owes_without set ci due owes is below = record {
    marked = owes.marked;
    mark_sealed = owes.mark_sealed;
    all_begin = owes.all_begin;
    since_begin = owes.since_begin;
    each = λ s c d h. owes.each s c d (without_due set ci s c d h);
    waits = waits;
  }
    where
      not_this : (k : ℕ) → length way.tail ≤ k → names_at set ci (all_of way) k ≡ true → ⊥
      not_this k ge named =
          let last = (owes.each set ci due is).last k (omega arith) in
          let both : true ≡ false = sym named ∙ last in
          cc

      waits : (s c k : ℕ) → length way.tail ≤ k → names_at s c (all_of way) k ≡ true
          → IsOwedBy (way.count + k) (without set ci owed s c)
      waits s c k ge named = elim (cases_eq s set) [
        | inl es ↦ elim (cases_eq c ci) [
          | inl ec ↦ absurd (not_this k ge (subst (λ v. names_at set v (all_of way) k ≡ true) ec
              (subst (λ v. names_at v c (all_of way) k ≡ true) es named)))
          | inr ne ↦ let t : ((s == set) && (c == ci)) ≡ false = grind (arith, nat_tests) in
              rw t (owes.waits s c k ge named)
        ]
        | inr ne ↦ let t : ((s == set) && (c == ci)) ≡ false = grind (arith, nat_tests) in
            rw t (owes.waits s c k ge named)
      ]

  -- After an Ok it owes nothing more.
  pub wrote : (set ci : ℕ) (due : Due) (new_bytes : List ℕ) (old new : Disk) → Stands layout way owed bytes old
      → owed set ci ≡ Some due → due.newest < sealed_of way → 1 ≤ layout.size set → length new_bytes ≡ layout.size set
      → new_bytes ≡ behind way.unsealed bytes set ci → IsLawful old → IsLawful new
      → Elapses old new (Tears old set (ci * layout.size set) (layout.size set)) → Leaves set old new
      → new.contents set ≡ written (old.contents set) (ci * layout.size set) new_bytes
      → Stands layout way (without set ci owed) bytes new
  wrote set ci due new_bytes old new s is below some long newest law law2 more leaves wrote_is = record {
    owes = owes_without set ci due s.owes is below;
    grows = s.grows;
    redoes = wrote_redoes set ci due old new s is below law law2 more;
    stand = λ k. elim (cases_eq k set) [
      | inl e ↦ subst (λ v. StandsIn (layout.size v) (count_in layout bytes v)
          (owes_below (sealed_of way) (without set ci owed) v) (new.contents v) (bytes v)) (sym e) this
      | inr ne ↦ record {
        same = λ other lt clean. ap (λ l. interval_in (layout.size k) l other) (leaves.contents k ne)
            ∙ (s.stand k).same other lt (other_clean k other ne clean);
        inside = λ other lt clean. let le = (s.stand k).inside other lt (other_clean k other ne clean) in let e =
            ap length (leaves.contents k ne) in omega arith;
      }
    ];
  }
    where
      other_clean : (k other : ℕ) → (k ≡ set → ⊥) → is_below (sealed_of way) (without set ci owed k other) ≡ false
          → owes_below (sealed_of way) owed k other ≡ false
      other_clean k other ne clean = let t : ((k == set) && (other == ci)) ≡ false = grind (arith, nat_tests) in
          rw t at clean

      here_clean : (other : ℕ) → (other ≡ ci → ⊥) → is_below (sealed_of way) (without set ci owed set other) ≡ false
          → owes_below (sealed_of way) owed set other ≡ false
      here_clean other ne clean = let t : ((set == set) && (other == ci)) ≡ false = grind (arith, nat_tests) in
          rw t at clean

      contents_longer : length (old.contents set) ≤ length (new.contents set)
      contents_longer = let e = ap length wrote_is in let l =
          (length-written (old.contents set) (ci * layout.size set) new_bytes).0 in omega arith

      reaches : (ci + 1) * layout.size set ≤ length (new.contents set)
      reaches = let e = ap length wrote_is in let l = written_reaches (old.contents set)
          (ci * layout.size set) new_bytes (omega arith) in let f : (ci + 1) * layout.size set ≡
          ci * layout.size set + layout.size set = grind arith in omega arith

      this : StandsIn (layout.size set) (count_in layout bytes set)
          (owes_below (sealed_of way) (without set ci owed) set) (new.contents set) (bytes set)
      this = record {
        same = λ other lt clean. elim (cases_eq other ci) [
          | inl e ↦ subst (λ v. interval_in (layout.size set) (new.contents set) v ≡ bytes set v) (sym e)
              (ap (λ l. interval_in (layout.size set) l ci) wrote_is
              ∙ interval_written (layout.size set) ci (old.contents set) new_bytes long ∙ newest
              ∙ behind_none set ci way.unsealed bytes (unsealed_unnamed set ci due (s.owes.each set ci due is) below))
          | inr ne ↦ ap (λ l. interval_in (layout.size set) l other) wrote_is
              ∙ interval_other (layout.size set) ci other (old.contents set) new_bytes ne long
              ∙ (s.stand set).same other lt (here_clean other ne clean)
        ];
        inside = λ other lt clean. elim (cases_eq other ci) [
          | inl e ↦ subst (λ v. (v + 1) * layout.size set ≤ length (new.contents set)) (sym e) reaches
          | inr ne ↦ let le = (s.stand set).inside other lt (here_clean other ne clean) in let l = contents_longer in
              omega arith
        ];
      }

  -- After a fault it still owes what it owed.
  pub wrote_not : (set ci : ℕ) (due : Due) (old new : Disk) → Stands layout way owed bytes old → owed set ci ≡ Some due
      → due.newest < sealed_of way → IsLawful old → IsLawful new
      → Elapses old new (Tears old set (ci * layout.size set) (layout.size set)) → Leaves set old new
      → Broken (ci * layout.size set) (layout.size set) (old.contents set) (new.contents set)
      → Stands layout way owed bytes new
  wrote_not set ci due old new s is below law law2 more leaves broken = record {
    owes = s.owes;
    grows = s.grows;
    redoes = wrote_redoes set ci due old new s is below law law2 more;
    stand = λ k. elim (cases_eq k set) [
      | inl e ↦ subst (λ v. StandsIn (layout.size v) (count_in layout bytes v) (owes_below (sealed_of way) owed v)
          (new.contents v) (bytes v)) (sym e) this
      | inr ne ↦ record {
        same = λ other lt clean. ap (λ l. interval_in (layout.size k) l other) (leaves.contents k ne)
            ∙ (s.stand k).same other lt clean;
        inside = λ other lt clean. let le = (s.stand k).inside other lt clean in let e =
            ap length (leaves.contents k ne) in omega arith;
      }
    ];
  }
    where
      owing : owes_below (sealed_of way) owed set ci ≡ true
      owing = rw is (let le = (s.owes.each set ci due is).ordered in grind (arith, nat_tests))

      this : StandsIn (layout.size set) (count_in layout bytes set) (owes_below (sealed_of way) owed set)
          (new.contents set) (bytes set)
      this = record {
        same = λ other lt clean. elim (cases_eq other ci) [
          | inl e ↦ let both : true ≡ false = sym owing ∙ ap (λ v. owes_below (sealed_of way) owed set v) (sym e)
              ∙ clean in cc
          | inr ne ↦ broken_other (layout.size set) ci other (old.contents set) (new.contents set) ne broken
              ∙ (s.stand set).same other lt clean
        ];
        inside = λ other lt clean. let le = (s.stand set).inside other lt clean in let l = broken.no_shorter in
            omega arith;
      }
