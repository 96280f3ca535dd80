-- How the position from which restart redoes moves on: the mark, the syncs, and the checkpoint that opens.
use Rattle.std.proofs.Common.{◌≡◌, inl, inr, ℕ, ◌+◌, ◌-◌, ◌*◌, ◌<◌, ◌≤◌, true, List, [], ◌++◌, length, take, drop, refl, sym, ◌∙◌, ap, subst, arith}
use Rattle.std.specs.Prelude.{Option, Some, None}
use Rattle.std.proofs.lemmas.Bool.{cases_Bool, cases_eq, cases_lt}
use Rattle.std.proofs.lemmas.Bool.Decides.{nat_tests}
use Rattle.std.proofs.lemmas.List.{length-append, length-drop, take-append-drop, append-nil, drop-append-le, drop_all}
use Rattle.fp_site.specs.Disk.{Disk, Tears, Syncs, Elapses, Leaves, IsLawful, IsDurable}
use Rattle.fp_model.specs.declared.log.Entry.{Entry}
use Rattle.fp_model.specs.Items.{items_of, begins_with_image}
use Rattle.area_redo.specs.Redo.{AreaBytes, names, AllBegin, Layout, count_in, AreRedone, Redoes, RedoesThrough, StandsIn}
use Rattle.area_redo.specs.Standing.{behind, EachGrows, names_at, Way, all_of, sealed_of, since_mark, Due, Owed, is_below, owes_below, IsOwedBy, renewed, with_entry, IsDue, Owes, Stands, MayOpen}
use Rattle.area_redo.specs.Steps.{next_place, longer, with_sealed, with_mark, from_mark, SparesAreas}
use Rattle.area_redo.proofs.Items.{begins_first}
use Rattle.area_redo.proofs.Areas.{write_redoes, write_through, sync_redoes, spared_redoes, later_redoes}
use Rattle.area_redo.proofs.Entries.{named_from, entries_redone, grows_first}
use Rattle.area_redo.proofs.Dues.{names_before, names_drop}
use Rattle.model_laws.proofs.Entries.{items-append}

-- where a list begins well its first part does
pub first_begins : (a b : List Entry) → AllBegin (items_of (a ++ b)) → AllBegin (items_of a)
first_begins a b all set ci = begins_first set ci (items_of a) (items_of b)
    (sym (ap (begins_with_image set ci) (items-append a b)) ∙ all set ci)

module _ (layout : Layout) (way : Way) (owed : Owed) (bytes : AreaBytes) where
  pub tail_begins : Owes way owed → AllBegin (items_of way.tail)
  tail_begins owes = first_begins way.tail way.unsealed owes.all_begin

  low : Owes way owed → way.mark - way.count ≤ length way.tail
  low owes = let a = owes.marked in let b = owes.mark_sealed in omega arith

  since_is : Owes way owed → drop (way.mark - way.count) (all_of way) ≡ since_mark way ++ way.unsealed
  since_is owes = drop-append-le (way.mark - way.count) way.tail way.unsealed (low owes)

  pub since_begins : Owes way owed → AllBegin (items_of (since_mark way))
  since_begins owes = first_begins (since_mark way) way.unsealed
      (subst (λ l. AllBegin (items_of l)) (since_is owes) owes.since_begin)

  -- A sync, whatever it answers, of a data set of which no byte changes
  pub synced : (set : ℕ) (old new : Disk) → Stands layout way owed bytes old → IsLawful old → IsLawful new
      → Elapses old new (Syncs old set) → Leaves set old new → new.contents set ≡ old.contents set
      → Stands layout way owed bytes new
  synced set old new s law law2 more leaves same = record {
    owes = s.owes;
    grows = s.grows;
    redoes = sync_redoes layout (items_of way.tail) bytes set old new law law2 (tail_begins s.owes) more s.redoes;
    stand = λ k. subst (λ l. StandsIn (layout.size k) (count_in layout bytes k) (owes_below (sealed_of way) owed k) l
        (bytes k)) (sym (elim (cases_eq k set) [
          | inl e ↦ ap new.contents e ∙ same ∙ ap old.contents (sym e)
          | inr ne ↦
              leaves.contents k ne
        ])) (s.stand k);
  }

  -- and calls that spare the areas
  pub spared : (old new : Disk) → Stands layout way owed bytes old → SparesAreas layout bytes old new
      → Stands layout way owed bytes new
  spared old new s spares = record {
    owes = s.owes;
    grows = s.grows;
    redoes = spared_redoes layout (items_of way.tail) bytes old new spares s.redoes;
    stand = λ k. elim (cases_lt 0 (count_in layout bytes k)) [
      | inl some ↦ subst (λ l. StandsIn (layout.size k) (count_in layout bytes k) (owes_below (sealed_of way) owed k) l
          (bytes k)) (sym (spares.contents k some)) (s.stand k)
      | inr none ↦ record {
        same = λ ci below clean. absurd (omega arith);
        inside = λ ci below clean. absurd (omega arith);
      }
    ];
  }

  -- A checkpoint begins where every entry is sealed: from now on each interval's first item is an image.
  pub begun : (disk : Disk) → Stands layout way owed bytes disk → way.unsealed ≡ []
      → Stands layout (with_mark way) owed bytes disk
  begun disk s none = record {
    owes = record {
      marked = let a = s.owes.marked in let b = s.owes.mark_sealed in omega arith;
      mark_sealed = omega arith;
      all_begin = s.owes.all_begin;
      since_begin = subst (λ l. AllBegin (items_of l)) (sym nothing) (λ set ci. refl);
      each = λ set ci due is. let d = s.owes.each set ci due is in
          record { ordered = d.ordered; from = d.from; oldest = d.oldest; newest = d.newest; last = d.last };
      waits = s.owes.waits;
    };
    grows = s.grows;
    redoes = s.redoes;
    stand = s.stand;
  }
    where
      all_tail : all_of way ≡ way.tail
      all_tail = ap (λ l. way.tail ++ l) none ∙ append-nil way.tail

      nothing : drop (sealed_of way - way.count) (all_of way) ≡ []
      nothing = ap (drop (sealed_of way - way.count)) all_tail
          ∙ drop_whole way.tail (sealed_of way - way.count) (omega arith)
        where
          drop_whole : (xs : List Entry) (n : ℕ) → length xs ≤ n → drop n xs ≡ []
          drop_whole xs n le = drop_all n xs le

  -- Where nothing below the mark is owed and the areas are synced, the checkpoint may open.
  pub may_open : (disk : Disk) → Stands layout way owed bytes disk
      → ((set ci : ℕ) (due : Due) → owed set ci ≡ Some due → way.mark ≤ due.oldest) → IsLawful disk
      → ((set : ℕ) → 0 < count_in layout bytes set → IsDurable disk set) → MayOpen layout way owed bytes disk
  may_open disk s none law durable = record {
    none_below = none;
    redoes = later_redoes layout (items_of (take (way.mark - way.count) way.tail)) (items_of (since_mark way)) bytes
        (owes_below (sealed_of way) owed) disk law (since_begins s.owes)
        (subst (λ l. Redoes layout l bytes disk) split s.redoes) s.stand named durable;
  }
    where
      split : items_of way.tail ≡ items_of (take (way.mark - way.count) way.tail) ++ items_of (since_mark way)
      split = ap items_of (sym (take-append-drop (way.mark - way.count) way.tail))
          ∙ items-append (take (way.mark - way.count) way.tail) (since_mark way)

      of_due : (set ci : ℕ) (o : Option Due) → owed set ci ≡ o → is_below (sealed_of way) o ≡ true
          → names set ci (items_of (since_mark way)) ≡ true
      of_due set ci None is below = cc
      of_due set ci (Some due) is below =
          let d = s.owes.each set ci due is in
          let least = none set ci due is in
          let from = s.owes.marked in
          let lt : due.oldest < sealed_of way = grind (arith, nat_tests) in
          named_from set ci (since_mark way) (due.oldest - way.mark)
          (names_drop set ci (way.mark - way.count) way.tail (due.oldest - way.mark)
          ∙ ap (names_at set ci way.tail) (let e : way.mark - way.count + (due.oldest - way.mark) ≡
          due.oldest - way.count = omega arith in e)
          ∙ sym (names_before set ci way.tail way.unsealed (due.oldest - way.count) (omega arith))
          ∙ d.oldest)

      named : (set ci : ℕ) → owes_below (sealed_of way) owed set ci ≡ true
          → names set ci (items_of (since_mark way)) ≡ true
      named set ci below = of_due set ci (owed set ci) refl below

  -- And once it is sure the items since the mark are the tail.
  pub opened : (disk : Disk) → Stands layout way owed bytes disk → MayOpen layout way owed bytes disk
      → Stands layout (from_mark way) owed bytes disk
  opened disk s may = record {
    owes = record {
      marked = omega arith;
      mark_sealed = omega arith;
      all_begin = subst (λ l. AllBegin (items_of l)) (since_is s.owes) s.owes.since_begin;
      since_begin = subst (λ l. AllBegin (items_of l))
          (since_is s.owes ∙ (let z : 0 ≡ way.mark - way.mark = omega arith in
          ap (λ n. drop n (since_mark way ++ way.unsealed)) z)) s.owes.since_begin;
      each = each;
      waits = waits;
    };
    grows = s.grows;
    redoes = may.redoes;
    stand = λ set. subst (λ n. StandsIn (layout.size set) (count_in layout bytes set) (owes_below n owed set)
        (disk.contents set) (bytes set)) sealed_same (s.stand set);
  }
    where
      sealed_same : sealed_of way ≡ way.mark + length (since_mark way)
      sealed_same = let a = s.owes.marked in let b = s.owes.mark_sealed in
          omega (arith, length-drop (way.mark - way.count) way.tail)

      at_place : (set ci k : ℕ) → names_at set ci (since_mark way ++ way.unsealed) k ≡ names_at set ci (all_of way)
          (way.mark - way.count + k)
      at_place set ci k = ap (λ l. names_at set ci l k) (sym (since_is s.owes))
          ∙ names_drop set ci (way.mark - way.count) (all_of way) k

      each : (set ci : ℕ) (due : Due) → owed set ci ≡ Some due → IsDue (from_mark way) set ci due
      each set ci due is =
          let d = s.owes.each set ci due is in
          let least = may.none_below set ci due is in
          let from = s.owes.marked in
          let order = d.ordered in
          record {
            ordered = d.ordered;
            from = least;
            oldest = at_place set ci (due.oldest - way.mark)
                ∙ ap (names_at set ci (all_of way))
                (let e : way.mark - way.count + (due.oldest - way.mark) ≡ due.oldest - way.count = omega arith in e)
                ∙ d.oldest;
            newest = at_place set ci (due.newest - way.mark)
                ∙ ap (names_at set ci (all_of way))
                (let e : way.mark - way.count + (due.newest - way.mark) ≡ due.newest - way.count = omega arith in e)
                ∙ d.newest;
            last = λ k lt. at_place set ci k ∙ d.last (way.mark - way.count + k) (omega arith);
          }

      waits : (set ci k : ℕ) → length (since_mark way) ≤ k → names_at set ci (since_mark way ++ way.unsealed) k ≡ true
          → IsOwedBy (way.mark + k) (owed set ci)
      waits set ci k ge named =
          let from = s.owes.marked in
          let b = s.owes.mark_sealed in
          subst (λ n. IsOwedBy n (owed set ci))
          (let e : way.count + (way.mark - way.count + k) ≡ way.mark + k = omega arith in e)
          (s.owes.waits set ci (way.mark - way.count + k)
          (omega (arith, ge, length-drop (way.mark - way.count) way.tail)) (sym (at_place set ci k) ∙ named))

  -- what is written below the seal has an item since the mark
  since_named : Owes way owed → ((set ci : ℕ) (due : Due) → owed set ci ≡ Some due → way.mark ≤ due.oldest)
      → (set ci : ℕ) (due : Due) → owed set ci ≡ Some due → due.newest < sealed_of way
      → names set ci (items_of (since_mark way)) ≡ true
  since_named owes none set ci due is below =
      let d = owes.each set ci due is in
      let least = none set ci due is in
      let order = d.ordered in
      let from = owes.marked in
      named_from set ci (since_mark way) (due.newest - way.mark)
      (names_drop set ci (way.mark - way.count) way.tail (due.newest - way.mark)
      ∙ ap (names_at set ci way.tail) (let e : way.mark - way.count + (due.newest - way.mark) ≡ due.newest - way.count =
      omega arith in e)
      ∙ sym (names_before set ci way.tail way.unsealed (due.newest - way.count) (omega arith))
      ∙ d.newest)

  -- Until it is sure it stays so: through a write of an interval that waits,
  pub may_wrote : (set ci : ℕ) (due : Due) (old new : Disk) → Stands layout way owed bytes old
      → MayOpen layout way owed bytes old → owed set ci ≡ Some due → due.newest < sealed_of way → IsLawful old
      → IsLawful new → Elapses old new (Tears old set (ci * layout.size set) (layout.size set))
      → Redoes layout (items_of (since_mark way)) bytes new
  may_wrote set ci due old new s may is below law law2 more =
      write_redoes layout (items_of (since_mark way)) bytes set ci old new law law2 (since_begins s.owes)
      (since_named s.owes may.none_below set ci due is below) more may.redoes

  -- at each moment too,
  pub may_write_through : (set ci : ℕ) (due : Due) (old new : Disk) → Stands layout way owed bytes old
      → MayOpen layout way owed bytes old → owed set ci ≡ Some due → due.newest < sealed_of way → IsLawful old
      → Elapses old new (Tears old set (ci * layout.size set) (layout.size set))
      → RedoesThrough layout (items_of (since_mark way)) bytes old new
  may_write_through set ci due old new s may is below law more =
      write_through layout (items_of (since_mark way)) bytes set ci old new law (since_begins s.owes)
      (since_named s.owes may.none_below set ci due is below) more may.redoes

  -- a sync,
  pub may_synced : (set : ℕ) (old new : Disk) → Stands layout way owed bytes old → MayOpen layout way owed bytes old
      → IsLawful old → IsLawful new → Elapses old new (Syncs old set) → MayOpen layout way owed bytes new
  may_synced set old new s may law law2 more =
      record {
        none_below = may.none_below;
        redoes = sync_redoes layout
            (items_of (since_mark way)) bytes set old new law law2 (since_begins s.owes) more may.redoes;
      }

  -- calls that spare the areas,
  pub may_spared : (old new : Disk) → MayOpen layout way owed bytes old → SparesAreas layout bytes old new
      → MayOpen layout way owed bytes new
  may_spared old new may spares = record {
    none_below = may.none_below;
    redoes = spared_redoes layout (items_of (since_mark way)) bytes old new spares may.redoes;
  }

  -- a seal,
  pub may_sealed : (n : ℕ) (disk : Disk) → Stands layout way owed bytes disk → MayOpen layout way owed bytes disk
      → MayOpen layout (with_sealed n way) owed (behind (take n way.unsealed) bytes) disk
  may_sealed n disk s may = record {
    none_below = may.none_below;
    redoes = λ snap left. subst (λ l. AreRedone layout l (behind (take n way.unsealed) bytes) snap.images) (sym items)
        (entries_redone layout (items_of (since_mark way)) (take n way.unsealed) bytes snap.images
        (may.redoes snap left) grows);
  }
    where
      grows : EachGrows layout (take n way.unsealed) bytes
      grows = (grows_first layout (take n way.unsealed) (drop n way.unsealed) bytes
          (subst (λ l. EachGrows layout l bytes) (sym (take-append-drop n way.unsealed)) s.grows)).0

      items : items_of (drop (way.mark - way.count) (way.tail ++ take n way.unsealed)) ≡ items_of (since_mark way) ++
          items_of (take n way.unsealed)
      items = ap items_of (drop-append-le (way.mark - way.count) way.tail (take n way.unsealed) (low s.owes))
          ∙ items-append (since_mark way) (take n way.unsealed)

  -- and an entry more
  pub may_published : (e : Entry) (disk : Disk) → Stands layout way owed bytes disk → MayOpen layout way owed bytes disk
      → MayOpen layout (longer way e) (with_entry (next_place way) e owed) bytes disk
  may_published e disk s may = record { none_below = none_below; redoes = may.redoes }
    where
      of_renewed : (set ci : ℕ) (o : Option Due) (due : Due) → owed set ci ≡ o
          → Some (renewed (next_place way) o) ≡ Some due → way.mark ≤ due.oldest
      of_renewed set ci None due is same =
          let eq : renewed (next_place way) None ≡ due = cc in
          let old : due.oldest ≡ next_place way = ap (λ d. d.oldest) (sym eq) in
          let b = s.owes.mark_sealed in
          omega (arith, old, length-append way.tail way.unsealed)
      of_renewed set ci (Some d) due is same =
          let eq : renewed (next_place way) (Some d) ≡ due = cc in
          let old : due.oldest ≡ d.oldest = ap (λ x. x.oldest) (sym eq) in
          let least = may.none_below set ci d is in
          omega (arith, old)

      none_below : (set ci : ℕ) (due : Due) → with_entry (next_place way) e owed set ci ≡ Some due
          → way.mark ≤ due.oldest
      none_below set ci due is = elim (cases_Bool (names set ci e.items)) [
        | inl named ↦ of_renewed set ci (owed set ci) due refl (rw named at is)
        | inr other ↦ may.none_below set ci due (rw other at is)
      ]
