-- Reading a log group by group, and what that gives of a sound log.
use Rattle.std.proofs.Common.{◌≡◌, ◌≢◌, ⊎_elim, ℕ, ◌+◌, ◌<◌, List, [], ◌∷◌, ◌++◌, length, drop, refl, sym, ◌∙◌, ap, subst, arith, append_assoc}
use Rattle.std.specs.Prelude.{slice_index}
use Rattle.std.specs.List.{AllByRecursion}
use Rattle.std.proofs.lemmas.List.{append-nil, length-append}
use Rattle.std.proofs.lemmas.List.Concat.{flat_map-cons}
use Rattle.std.proofs.lemmas.List.Sums.{fold-append}
use Rattle.fp_model.proofs.HistoryLemmas.{one_end}
use Rattle.fp_model.specs.declared.definitions.Defs.{Defs}
use Rattle.fp_model.specs.declared.database.Db.{Db}
use Rattle.fp_model.specs.declared.database.Msdb.{Msdb}
use Rattle.fp_model.specs.declared.log.Entry.{Entry}
use Rattle.fp_model.specs.declared.log.Item.{Item}
use Rattle.fp_model.specs.declared.log.Item.TheVariants.{Segment, Image, Range}
use Rattle.fp_model.specs.declared.scripts.Script.{Script}
use Rattle.fp_model.specs.Groups.{HoldsGroups, IsDamaged, IsGroup, entries_of}
use Rattle.fp_model.specs.Items.{AreFit, IsFit, with_item, with_items, items_of}
use Rattle.balancing.specs.Numbered.{Numbered}
use Rattle.fp_model.specs.Lasts.{format_at, lasts_behind, lasts_of}
use Rattle.fp_model.specs.LogText.{Front, IsFormat, StartsWithFront, first_gate, group_text, groups_text}
use Rattle.fp_model.specs.Product.{rules_of}
use Rattle.fp_model.specs.History.{History, beginning}
use Rattle.fp_model.specs.SerialHistory.{IsSerialHistory}
use Rattle.fp_model.specs.State.{start}
use Rattle.fp_site.specs.Disk.{Disk, IsDurable}
use Rattle.fp_site.proofs.Images.{durable_settles}
use Rattle.log_format.proofs.GroupLaws.{one_group, groups-cons}
use Rattle.log_groups.proofs.LogImages.{groups_more}
use Rattle.log_groups.specs.Images.{IsAtRest, IsKept, IsLog}
use Rattle.log_groups.specs.Kept.{IsSafe, IsSound}
use Rattle.log_groups.specs.Log.{LogState}
use Rattle.msdb_store.specs.Store.{IsFitSegment, IsOf, Stored}
use Rattle.fp_restart.specs.inside.Begun.{IsBegunBy}
use Rattle.fp_restart.specs.declared.begun.Begun.{Begun}
use Rattle.fp_restart.specs.Replayed.{HoldsFit, IsFirstBadAt, IsReadable, IsReplayed, Progress, ReadsBack, way_to}
use Rattle.fp_restart.specs.inside.Replayed.{IsFollowed, IsTaken}
use Rattle.fp_restart.specs.declared.numbers.Numbers.{Numbers}
use Rattle.fp_restart.specs.Restarts.{HasUnfit, IsBadAt, StandsFor}
use Rattle.fp_restart.proofs.Firsts.{fit-front, fit-nothing}
use Rattle.fp_restart.proofs.NumbersBehind.{format_both, lasts_both}
use Rattle.fp_restart.proofs.Groups.{GoesFurther, group_opens, one_goes_further, same_reading}
use Rattle.model_laws.proofs.Entries.{entries-append, entries_push, items-append}

-- fit items are fit for the store
pub fit_segments : (defs : Defs) (items : List Item) → AllByRecursion (IsFit defs) items
    → AllByRecursion (IsFitSegment defs.msdbs) items
fit_segments defs [] all = tt
fit_segments defs (Segment msdb key bytes ∷ items) all = (all.0, fit_segments defs items all.1)
fit_segments defs (Image set ci bytes ∷ items) all = (tt, fit_segments defs items all.1)
fit_segments defs (Range set ci at bytes ∷ items) all = (tt, fit_segments defs items all.1)

-- ---- group by group

-- how far a log was read, with the numbers so far
abbrev pub way_of : ℕ → ℕ → ℕ → ℕ → Numbers → Progress
way_of first format at count numbers = record {
  first = first;
  at = at;
  count = count;
  first_format = format;
  format = numbers.format;
  lasts = numbers.lasts.terminals;
}

module _ (defs : Defs) (log : List ℕ) where
  -- nothing is read yet
  pub followed_none : (first : ℕ) (begun : Begun) (numbers : Numbers) (before : List Msdb) → IsBegunBy begun []
      → numbers.lasts.terminals ≡ []
      → IsFollowed defs log (way_of first numbers.format first 0 numbers) begun before before
  followed_none first begun numbers before none no_number = record {
    replayed = record {
      groups = [];
      holds = record { holds = record { each = tt; next = omega arith; text = refl }; fit = fit-nothing defs };
      count = refl;
      format = refl;
      lasts = no_number;
      msdbs = refl;
    };
    intervals = none;
  }

  -- a group more
  pub followed_more : (first format at next count more : ℕ) (old new : Begun) (numbers numbers2 : Numbers)
      (before mid now : List Msdb)
      → (so_far : IsFollowed defs log (way_of first format at count numbers) old before mid)
      → IsTaken defs log (entries_of so_far.replayed.groups) at next more new numbers numbers2 mid now
      → IsFollowed defs log (way_of first format next (count + more) numbers2) new before now
  followed_more first format at next count more old new numbers numbers2 before mid now so_far taken =
      let gs = so_far.replayed.groups in
      let es = taken.entries in
      let all : entries_of (gs ++ es ∷ []) ≡ entries_of gs ++ es = entries_push gs es in
      let items : items_of (entries_of (gs ++ es ∷ [])) ≡ items_of (entries_of gs) ++ items_of es =
      ap items_of all ∙ items-append (entries_of gs) es in
      record {
        replayed = record {
          groups = gs ++ es ∷ [];
          holds = record {
            holds = groups_more log first gs at es next so_far.replayed.holds.holds taken.group;
            fit = subst (AreFit defs) (sym items) taken.fit;
          };
          count = omega (arith, so_far.replayed.count, taken.count_is, ap length all, length-append (entries_of gs) es);
          format =
              taken.numbers.format ∙ ap (λ f. format_at f es) so_far.replayed.format
              ∙ sym (format_both format (entries_of gs) es) ∙ ap (format_at format) (sym all);
          lasts =
              taken.numbers.lasts
              ∙ ap (λ ls. lasts_behind numbers.format es ls) so_far.replayed.lasts
              ∙ ap (λ f. lasts_behind f es (lasts_of format (entries_of gs))) so_far.replayed.format
              ∙ sym (lasts_both format (entries_of gs) es []) ∙ ap (lasts_of format) (sym all);
          msdbs = taken.msdbs ∙ ap (λ ms. with_items defs.msdbs ms (items_of es)) so_far.replayed.msdbs
              ∙ sym (fold-append (with_item defs.msdbs) before (items_of (entries_of gs)) (items_of es))
              ∙ ap (with_items defs.msdbs before) (sym items);
        };
        intervals = subst (IsBegunBy new) (sym items) taken.intervals;
      }

  -- a log that is told where it ends says the same
  pub ended_at : (first format at count : ℕ) (numbers numbers2 : Numbers) (l : LogState) (before : List Msdb)
      (store store2 : Stored) → IsReplayed defs log (way_of first format at count numbers) before store.msdbs
      → l.gate ≡ at → l.sealed ≡ count → l.front_format ≡ format → l.format ≡ numbers2.format
      → numbers2 ≡ numbers → store2 ≡ store
      → IsReplayed defs log (way_to first l numbers2.lasts) before store2.msdbs
  ended_at first format at count numbers numbers2 l before store store2 it gate sealed front_format last_format same
      kept =
      record {
        groups = it.groups;
        holds = subst (λ n. HoldsFit defs log first n it.groups) (sym gate) it.holds;
        count = sealed ∙ it.count;
        format =
            last_format ∙ ap (λ n. n.format) same ∙ it.format
            ∙ ap (λ f. format_at f (entries_of it.groups)) (sym front_format);
        lasts =
            ap (λ n. n.lasts.terminals) same ∙ it.lasts
            ∙ ap (λ f. lasts_of f (entries_of it.groups)) (sym front_format);
        msdbs = ap (λ s. s.msdbs) kept ∙ it.msdbs;
      }

  -- groups behind others: the next one has items that may be applied behind those
  next_fits : (gs : List (List Entry)) (es : List Entry) (more : List (List Entry))
      → AreFit defs (items_of (entries_of (gs ++ es ∷ more)))
      → AreFit defs (items_of (entries_of gs) ++ items_of es)
  next_fits gs es more all =
      fit-front defs (items_of (entries_of gs) ++ items_of es) (items_of (entries_of more))
      (subst (AreFit defs)
      (ap items_of (entries-append gs (es ∷ more)) ∙ items-append (entries_of gs) (entries_of (es ∷ more))
      ∙ ap (λ (is : List Item). items_of (entries_of gs) ++ is)
      (ap items_of (flat_map-cons (λ (x : List Entry). x) es more) ∙ items-append es (entries_of more))
      ∙ sym (append_assoc (items_of (entries_of gs)) (items_of es) (items_of (entries_of more)))) all)

  -- a place where a group stands whose items fit isn't bad
  fit_not_bad : (earlier : List Entry) (at : ℕ) (es : List Entry) (rest : List ℕ) → IsGroup es
      → drop at log ≡ group_text es ++ rest → AreFit defs (items_of earlier ++ items_of es)
      → IsBadAt defs log earlier at → ⊥
  fit_not_bad earlier at es rest group text fit bad =
      ⊎_elim
      (λ (d : IsDamaged log at). d.no_group es rest group text)
      (λ (u : HasUnfit defs log earlier at). u.unfit
      (subst (λ l. AreFit defs (items_of earlier ++ items_of l))
      (one_group es u.entries rest (drop u.next log) group u.group.group (sym text ∙ u.group.text)).0 fit))
      bad

  -- groups that fit and go on behind a place show that it isn't bad, unless there is none
  further_not_bad : (at : ℕ) (gs hs : List (List Entry)) (y : List ℕ) → GoesFurther gs hs (drop at log) y
      → AreFit defs (items_of (entries_of hs)) → IsBadAt defs log (entries_of gs) at → hs ≡ gs
  further_not_bad at gs hs y ([], same, text, all) fit bad = same ∙ append-nil gs
  further_not_bad at gs hs y (es ∷ more, same, text, all) fit bad =
      absurd (fit_not_bad (entries_of gs) at es (groups_text more ++ y) all.0 (text ∙ groups-cons es more y)
      (next_fits gs es more (subst (λ l. AreFit defs (items_of (entries_of l))) same fit)) bad)

  -- a bad place has an open gate
  bad_is_open : (earlier : List Entry) (at : ℕ) → IsBadAt defs log earlier at → slice_index log at ≡ 1
  bad_is_open earlier at bad =
      ⊎_elim (λ (d : IsDamaged log at). d.gate)
      (λ (u : HasUnfit defs log earlier at). group_opens log at u.entries (drop u.next log) u.group.text) bad

  -- the same groups from the same gate end at the same place
  same_end_of : (first at gate : ℕ) (gs hs : List (List Entry)) → HoldsGroups log first gs at
      → HoldsGroups log first hs gate → hs ≡ gs → gate ≡ at
  same_end_of first at gate gs hs p q same = q.next ∙ ap (λ l. first + length (groups_text l)) same ∙ sym p.next

  -- a log that can be read to its end is bad nowhere
  pub readable_not_bad : (first at : ℕ) → IsReadable defs log first → IsFirstBadAt defs log first at → ⊥
  readable_not_bad first at it bad =
      ⊎_elim
      (λ (b : GoesFurther bad.groups it.groups (drop at log) (drop it.gate log)).
      let same = further_not_bad at bad.groups it.groups (drop it.gate log) b it.holds.fit bad.bad in
      let ends = same_end_of first at it.gate bad.groups it.groups bad.holds.holds it.holds.holds same in
      it.closed (ap (slice_index log) ends ∙ bad_is_open (entries_of bad.groups) at bad.bad))
      (λ (b : GoesFurther it.groups bad.groups (drop it.gate log) (drop at log)). closed_ends b)
      (one_goes_further bad.groups it.groups (drop at log) (drop it.gate log) bad.holds.holds.each it.holds.holds.each
      (sym bad.holds.holds.text ∙ it.holds.holds.text))
    where
      closed_ends : GoesFurther it.groups bad.groups (drop it.gate log) (drop at log) → ⊥
      closed_ends ([], same, text, all) =
          let ends = same_end_of first it.gate at it.groups bad.groups it.holds.holds bad.holds.holds
          (same ∙ append-nil it.groups) in
          it.closed (ap (slice_index log) (sym ends) ∙ bad_is_open (entries_of bad.groups) at bad.bad)
      closed_ends (es ∷ more, same, text, all) = it.closed
          (group_opens log it.gate es (groups_text more ++ drop at log) (text ∙ groups-cons es more (drop at log)))

  -- and it is first bad at one place at most
  pub one_first_bad : (first at other : ℕ) → IsFirstBadAt defs log first at → IsFirstBadAt defs log first other
      → other ≡ at
  one_first_bad first at other a b =
      ⊎_elim
      (λ (more : GoesFurther a.groups b.groups (drop at log) (drop other log)).
      same_end_of first at other a.groups b.groups a.holds.holds b.holds.holds
      (further_not_bad at a.groups b.groups (drop other log) more b.holds.fit a.bad))
      (λ (more : GoesFurther b.groups a.groups (drop other log) (drop at log)).
      sym (same_end_of first other at b.groups a.groups b.holds.holds a.holds.holds
      (further_not_bad other b.groups a.groups (drop at log) more a.holds.fit b.bad)))
      (one_goes_further a.groups b.groups (drop at log) (drop other log) a.holds.holds.each b.holds.holds.each
      (sym a.holds.holds.text ∙ b.holds.holds.text))

-- ---- of a sound log

module _ (defs : Defs) (scripts : List Script) (front : Front) (log : List ℕ) (entries : List Entry)
    (sound : IsSound defs scripts front log entries) where
  -- it begins with the front,
  pub sound_begins : StartsWithFront log front
  sound_begins = sound.holds.begins

  -- and can be read to its end, so that it is bad nowhere
  sound_readable : IsReadable defs log (first_gate front)
  sound_readable = record {
    groups = sound.groups;
    gate = sound.gate;
    holds = record { holds = sound.holds.reads.0; fit = subst (λ l. AreFit defs (items_of l)) sound.all sound.fit };
    closed = sound.holds.reads.1;
  }

  pub sound_not_bad : (at : ℕ) → IsFirstBadAt defs log (first_gate front) at → ⊥
  sound_not_bad at it = readable_not_bad defs log (first_gate front) at sound_readable it

  -- what was read of it to its end stands for it
  pub sound_stands : (disk : Disk) (store : Stored) (l : LogState) (lasts : Numbered) → IsDurable disk 0
      → disk.contents 0 ≡ log → IsOf defs.msdbs store → l.unsealed ≡ [] → l.front_format ≡ front.format
      → IsReplayed defs log (way_to (first_gate front) l lasts) (start defs).msdbs store.msdbs
      → slice_index log l.gate ≢ 1
      → StandsFor defs scripts front disk entries store l lasts
  sound_stands disk store l lasts durable now of unsealed front_format replayed closed =
      let same = same_reading log (first_gate front) replayed.groups sound.groups l.gate sound.gate
      (replayed.holds.holds, closed) sound.holds.reads in
      let all : entries ≡ entries_of replayed.groups = sound.all ∙ ap entries_of (sym same.0) in
      record {
        of = of;
        segments = λ last history.
            replayed.msdbs ∙ ap (λ es. with_items defs.msdbs (start defs).msdbs (items_of es)) (sym all) ∙ sound.made
            ∙ ap (λ (d : Db). d.msdbs) (sym sound.history.ends ∙ ap (λ (h : History). h.now) (same_history history) ∙
            history.ends);
        sealed = replayed.count ∙ ap length (sym all);
        unsealed = unsealed;
        front_format = front_format;
        format =
            replayed.format ∙ ap (λ f. format_at f (entries_of replayed.groups)) front_format
            ∙ ap (format_at front.format) (sym all);
        lasts =
            replayed.lasts ∙ ap (λ f. lasts_of f (entries_of replayed.groups)) front_format
            ∙ ap (lasts_of front.format) (sym all);
        groups = replayed.groups;
        all = all;
        at_rest = record {
          durable = durable;
          log = subst (λ bytes. IsLog front bytes replayed.groups l.gate) (sym now) (record {
            holds = record { begins = sound.holds.begins; reads = (replayed.holds.holds, closed) };
            stands = omega (arith, same.1, sound.stands);
          });
        };
      }
    where
      same_history : {last : Db} (history : IsSerialHistory (rules_of defs scripts) front.format entries last)
          → sound.history.history ≡ history.history
      same_history history =
          one_end (rules_of defs scripts) (beginning front.format (start defs)) entries history.history
          sound.history.history history.leads sound.history.leads

-- ---- of any log that can be read

module _ (defs : Defs) (front : Front) (log : List ℕ) (disk : Disk) (store : Stored) (l : LogState) (lasts : Numbered)
  where
    -- what was read stands on the disk
    pub reads_back : IsDurable disk 0 → disk.contents 0 ≡ log → StartsWithFront log front → l.unsealed ≡ []
        → l.front_format ≡ front.format
        → IsReplayed defs log (way_to (first_gate front) l lasts) (start defs).msdbs store.msdbs
        → slice_index log l.gate ≢ 1
        → ReadsBack defs front disk store l lasts
    reads_back durable now begins unsealed front_format replayed closed = record {
      durable = durable;
      begins = subst (λ bytes. StartsWithFront bytes front) (sym now) begins;
      front_format = front_format;
      replayed = subst (λ bytes. IsReplayed defs bytes (way_to (first_gate front) l lasts) (start defs).msdbs
          store.msdbs)
          (sym now) replayed;
      closed = subst (λ bytes. slice_index bytes l.gate ≢ 1) (sym now) closed;
      unsealed = unsealed;
    }

-- where the gate that isn't open is there, the log is at rest
pub read_at_rest : (defs : Defs) (front : Front) (disk : Disk) (store : Stored) (l : LogState) (lasts : Numbered)
    → (it : ReadsBack defs front disk store l lasts) → l.gate < length (disk.contents 0)
    → IsAtRest disk front it.replayed.groups l.gate
read_at_rest defs front disk store l lasts it stands = record {
  durable = it.durable;
  log = record {
    holds = record { begins = it.begins; reads = (it.replayed.holds.holds, it.closed) };
    stands = stands;
  };
}

-- and also where it is absent the log is kept
pub read_kept : (defs : Defs) (front : Front) (disk : Disk) (store : Stored) (l : LogState) (lasts : Numbered)
    → (it : ReadsBack defs front disk store l lasts) → IsKept disk front it.replayed.groups l.gate
read_kept defs front disk store l lasts it = record {
  durable = it.durable;
  holds = record { begins = it.begins; reads = (it.replayed.holds.holds, it.closed) };
}

-- ---- of a new log

module _ (defs : Defs) (scripts : List Script) (front : Front) (is_format : IsFormat front.format) (disk : Disk)
    (rest : IsAtRest disk front [] (first_gate front)) where
  -- a log without groups is sound
  new_sound : IsSound defs scripts front (disk.contents 0) []
  new_sound = record {
    is_format = is_format;
    groups = [];
    gate = first_gate front;
    holds = rest.log.holds;
    stands = rest.log.stands;
    all = refl;
    last = start defs;
    history = record { history = beginning front.format (start defs); leads = refl; ends = refl };
    fit = fit-nothing defs;
    made = refl;
  }

  -- and every crash leaves it so
  pub new_safe : IsSafe defs scripts front disk []
  new_safe = record {
    now = new_sound;
    crash = λ image settles. (
      [],
      subst (λ c. IsSound defs scripts front c [])
          (sym (durable_settles disk 0 image rest.durable settles)) new_sound,
    );
  }
