-- What a run gives: of a safe site, of a log that can be read, and of the moments that a crash may take.
use Rattle.std.proofs.Common.{◌≡◌, inl, inr, refl, sym, ◌∙◌, ap, subst, arith, ℕ, List, [], ◌++◌, length}
use Rattle.std.proofs.lemmas.List.{append-nil}
use Rattle.std.proofs.lemmas.Option.{slice_get_within}
use Rattle.fp_core.specs.Relation.{AreMade}
use Rattle.fp_core.specs.Standing.{HasGroups, Origin, seals_of}
use Rattle.fp_model.specs.declared.log.Entry.{Entry}
use Rattle.fp_model.specs.Groups.{entries_of}
use Rattle.fp_model.specs.History.{History, beginning}
use Rattle.fp_model.specs.Lasts.{format_at, lasts_of}
use Rattle.fp_model.specs.Machine.{Machine, at_rest}
use Rattle.fp_model.specs.Recovery.{Holds}
use Rattle.fp_model.specs.SerialHistory.{LeadsOn}
use Rattle.fp_model.specs.State.{start}
use Rattle.fp_model.specs.WellFormed.{AreDefs}
use Rattle.fp_model.proofs.HistoryLemmas.{entries_put, format_stays, states_counted}
use Rattle.fp_restart.proofs.Results.{same_synced}
use Rattle.fp_restart.specs.Restarts.{StandsFor}
use Rattle.fp_site.specs.Disk.{Disk, IsLawful, Settles, Snapshot, Syncs}
use Rattle.fp_site.specs.Moments.{Through}
use Rattle.fp_site.proofs.Images.{settles_again, settles_contents}
use Rattle.fp_site.proofs.Runs.{joined, started, weaker}
use Rattle.log_groups.specs.Images.{IsAtRest, IsLog}
use Rattle.log_groups.specs.Kept.{IsSound}
use Rattle.balancing.specs.Numbered.{Numbered}
use Rattle.log_groups.specs.Log.{LogState}
use Rattle.msdb_store.specs.Store.{Stored}
use Rattle.schedule_runs.specs.Standing.{IsLeftOnWay}
use Rattle.schedule_runs.specs.Ways as way
use Rattle.schedule_runs.specs.Ways.{Comes, next_event}
use Rattle.sealed_runs.proofs.SoundLogs.{groups_sound}
use Rattle.fp_system.specs.Courses.{Course, GoesOnTo, Input, IsHistoryOf, IsKeptBy, IsSoundFor, Point, with_seals}
use Rattle.fp_system.specs.inside.Courses.{IsBegun, RanFrom}
use Rattle.command_tasks.specs.Answers.{MayStandIn}
use Rattle.fp_system.specs.Gives.{IsSafeFor, Went}
use Rattle.fp_system.specs.Ims.{IsUnchanged}
use Rattle.command_tasks.specs.Parts.{Job, front_in, rules_for}
use Rattle.command_tasks.specs.declared.status.Status.{Status}
use Rattle.fp_system.proofs.Ways.{comes_behind}
use Rattle.model_laws.proofs.Entries.{entries-append}

-- ---- the history of a sound log

module _ (job : Job) (format : ℕ) (log : List ℕ) (earlier : List Entry)
    (sound : IsSound job.defs job.scripts (front_in format job) log earlier) where
  abbrev pub stood : History
  stood = sound.history.history

  stood_entries : stood.entries ≡ earlier
  stood_entries = entries_put (rules_for job) (beginning format (start job.defs)) earlier stood sound.history.leads

  stood_format : stood.format ≡ format
  stood_format = format_stays (rules_for job) (beginning format (start job.defs)) earlier stood sound.history.leads

  pub is_history : IsHistoryOf job format earlier stood
  is_history = record {
    is_serial =
        subst (λ (f : ℕ). LeadsOn (rules_for job) (beginning f (start job.defs)) stood.entries stood)
        (sym stood_format)
        (subst (λ (es : List Entry). LeadsOn (rules_for job) (beginning format (start job.defs)) es stood)
        (sym stood_entries) sound.history.leads);
    entries = stood_entries;
    front = stood_format;
  }

  -- from there a run begins, on what a restart gave
  pub begins : (h1 : Disk) (store : Stored) (state : LogState) (lasts : Numbered)
      → (found : StandsFor job.defs job.scripts (front_in format job) h1 earlier store state lasts)
      → IsBegun (record { front = front_in format job; groups = found.groups; sent = h1.sent }) stood store state lasts
      h1
  begins h1 store state lasts found = record {
    msdbs =
        ap (λ db. db.msdbs) sound.history.ends ∙ sym (found.segments sound.last sound.history);
    place = ap length stood_entries ∙ sym found.sealed;
    states =
        let counted =
        states_counted (rules_for job) (beginning format (start job.defs)) earlier stood sound.history.leads in
        omega (arith, counted, ap length stood_entries);
    format =
        ap (λ (f : ℕ). format_at f stood.entries) stood_format ∙ ap (format_at format) stood_entries
        ∙ sym found.format;
    lasts =
        found.lasts ∙ sym (ap (λ (f : ℕ). lasts_of f stood.entries) stood_format ∙ ap (lasts_of format) stood_entries);
    at_rest = found.at_rest;
    sent = refl;
  }

-- ---- a run from a safe site

module _ (job : Job) (format : ℕ) (given : Input) (earlier : List Entry) (are : AreDefs job.defs)
    (none : job.defs.dedbs ≡ [])
    (h h1 h2 : Disk) (law2 : IsLawful h2) (safe : IsSafeFor job format h earlier)
    (contents : (set : ℕ) → h1.contents set ≡ h.contents set) (sent : h1.sent ≡ h.sent) (run : Through h h1 (Syncs h 0))
  where
    abbrev before : History
    before = stood job format (h.contents 0) earlier safe.now

    its_history : IsHistoryOf job format earlier before
    its_history = is_history job format (h.contents 0) earlier safe.now

    module _ (groups : List (List Entry)) (gate : ℕ) (all : earlier ≡ entries_of groups)
        (rest : IsAtRest h1 (front_in format job) groups gate) (answer : Status) where
      abbrev origin : Origin
      origin = record { front = front_in format job; groups = groups; sent = h1.sent }

      module _ (it : RanFrom job given origin before answer h1 h2) where
        abbrev begun : Machine
        begun = at_rest (rules_for job) given.lines before

        -- a log that a step from some machine leaves
        goes_to : (point : Point) (log : List ℕ)
            → Comes job.defs (rules_for job) given.events begun point.left point.here
            → HasGroups origin (rules_for job) point.here (seals_of (next_event point.left) point.here) point.text log
            → GoesOnTo job format groups point log
        goes_to point log comes has =
            let more = (with_seals job point has.times).groups in
            record {
              times = has.times;
              few = has.few;
              gate = has.gate;
              groups = has.log;
              sound =
                  subst (IsSoundFor job format log)
                  (ap (λ (es : List Entry). es ++ entries_of more) all ∙ sym (entries-append groups more))
                  (groups_sound job.defs job.scripts origin (h.contents 0) earlier point.here
                  (seals_of (next_event point.left) point.here) point.text log are none safe.now
                  (comes_behind job format earlier before given.lines given.events point.left point.here its_history
                  comes)
                  all has);
              told = has.lines;
            }

        -- a snapshot that a step on the way left
        on_way : (s : Snapshot) → IsLeftOnWay origin job.defs (rules_for job) given.events begun h1 s
            → IsKeptBy job format given earlier groups h s
        on_way s on =
            let is = on.is_left in
            let point : Point = record { left = on.left; here = on.here; text = is.text } in
            inr (record {
              point = point;
              course = record { behind = before; history = its_history; comes = on.comes };
              log = goes_to point (s.images 0) on.comes is.groups;
              sent = λ tells. is.sent (run.tells_sent tells) ∙ ap (λ (t : List ℕ). t ++ is.text) sent;
            })

        moments_of : Through h h2 (IsKeptBy job format given earlier groups h)
        moments_of =
            joined (IsKeptBy job format given earlier groups h) h h1 h2
            (weaker (Syncs h 0) (IsKeptBy job format given earlier groups h) h h1 (λ s is. inl is) run)
            (weaker (IsLeftOnWay origin job.defs (rules_for job) given.events begun h1)
            (IsKeptBy job format given earlier groups h) h1 h2 on_way it.moments)

        pub went : Went job format given earlier answer h h2
        went =
            let point : Point = record { left = it.left; here = it.here; text = it.within.text } in
            record {
              before = groups;
              stood = sym all;
              old_gate = gate;
              held = subst (λ (l : List ℕ). Holds (front_in format job) l groups gate) (contents 0) rest.log.holds;
              point = point;
              course = record { behind = before; history = its_history; comes = it.comes };
              log =
                  goes_to point (h2.contents 0) it.comes
                  (it.within.groups (h2.contents 0) (settles_contents h2 0 law2));
              sent = it.within.sent ∙ ap (λ (t : List ℕ). t ++ it.within.text) sent;
              ended =
                  inr (record {
                    ends = it.ends;
                    images = λ log settles. goes_to point log it.comes (it.within.groups log settles);
                    rest = it.rest;
                  });
              moments = moments_of;
            }

-- ---- where a run ended before it began: in the restart, or before the site

pub unchanged_same : (h : Disk) → IsLawful h → IsUnchanged h h
unchanged_same h law = record { contents = λ set. refl; sent = refl; crash = started (Syncs h 0) h law (same_synced h) }

module _ (job : Job) (format : ℕ) (given : Input) (earlier : List Entry) (h h1 : Disk) (law : IsLawful h)
    (law1 : IsLawful h1)
    (safe : IsSafeFor job format h earlier) (contents : (set : ℕ) → h1.contents set ≡ h.contents set) (sent : h1.sent ≡
    h.sent)
    (run : Through h h1 (Syncs h 0)) where
  abbrev its : History
  its = stood job format (h.contents 0) earlier safe.now

  abbrev at_first : Machine
  at_first = at_rest (rules_for job) given.lines its

  none_made : AreMade job.defs at_first
  none_made place b after e past here there a =
      absurd (omega (arith, past, slice_get_within its.entries place e there))

  settled : (s : Snapshot) → h1.may_leave s → Settles h 0 (s.images 0)
  settled s left = (run.each s (law1.earlier h.moment h1.moment s run.later (law1.counts_now s left))).this

  abbrev its_course : Course job format given earlier given.events at_first
  its_course = record {
    behind = its;
    history = is_history job format (h.contents 0) earlier safe.now;
    comes = record {
      environments = [];
      goes = way.here;
      calm = refl;
      made = none_made;
    };
  }

  pub went_not : (answer : Status) → MayStandIn answer → Went job format given earlier answer h h1
  went_not answer in_place =
      let groups = safe.now.groups in
      record {
        before = groups;
        stood = sym safe.now.all;
        old_gate = safe.now.gate;
        held = safe.now.holds;
        point = record { left = given.events; here = at_first; text = [] };
        course = its_course;
        log = record {
          times = 0;
          few = omega arith;
          gate = safe.now.gate;
          groups =
              subst (λ (gs : List (List Entry)). IsLog (front_in format job) (h1.contents 0) gs safe.now.gate)
              (sym (append-nil groups))
              (subst (λ (l : List ℕ). IsLog (front_in format job) l groups safe.now.gate) (sym (contents 0))
              (record { holds = safe.now.holds; stands = safe.now.stands }));
          sound =
              subst (λ (gs : List (List Entry)). IsSoundFor job format (h1.contents 0) (entries_of gs))
              (sym (append-nil groups))
              (subst (IsSoundFor job format (h1.contents 0)) safe.now.all
              (subst (λ (l : List ℕ). IsSoundFor job format l earlier) (sym (contents 0)) safe.now));
          told = record { more = []; rest = []; from = refl; to = refl };
        };
        sent = sent ∙ sym (append-nil h.sent);
        ended =
            inl (record {
              in_place = in_place;
              all_left = refl;
              at_start = refl;
              unsent = refl;
              images = λ log settles. settles_again h h1 0 log settled settles;
            });
        moments = weaker (Syncs h 0) (IsKeptBy job format given earlier groups h) h h1 (λ s is. inl is) run;
      }
