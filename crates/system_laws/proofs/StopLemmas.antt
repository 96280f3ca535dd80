-- A run keeps what was answered, and so does a site that a stop begins again.
use Rattle.std.proofs.Common.{◌≡◌, arith, inl, inr, refl, ⊎_elim, sym, ap, subst, ◌∙◌, ℕ, List, [], ◌∷◌, ◌++◌, length, take, append_assoc}
use Rattle.std.proofs.lemmas.List.{append-nil}
use Rattle.fp_model.specs.declared.log.Entry.{Entry}
use Rattle.fp_model.specs.LogText.{first_gate}
use Rattle.fp_model.specs.Groups.{entries_of}
use Rattle.fp_site.specs.Disk.{Disk, Snapshot, IsDurable, IsLawful, Syncs}
use Rattle.memory_site.specs.History.{History, LeftSince, MayLeave}
use Rattle.memory_site.specs.Memory.{BeginsAs, memory_disk}
use Rattle.memory_site.specs.declared.memory.MemorySite.{MemorySite}
use Rattle.fp_site.proofs.Images.{durable_settles, settles_again, settles_contents}
use Rattle.log_groups.specs.Images.{IsAtRest}
use Rattle.log_groups.specs.Kept.{lines_of_entries}
use Rattle.fp_restart.proofs.Replays.{new_safe}
use Rattle.sealed_runs.proofs.SoundLogs.{text_told}
use Rattle.fp_system.proofs.Ways.{comes_behind}
use Rattle.fp_system.specs.Gives.{IsMigratedOr, IsSafeFor, Migrated, Moved, Ran, Went, format_entry}
use Rattle.fp_system.specs.Ims.{IsUnchanged}
use Rattle.fp_system.proofs.OldLogs.{old_or_not}
use Rattle.command_tasks.specs.Parts.{Job, front_for}
use Rattle.fp_system.specs.Courses.{Course, GoesOnTo, Input, IsSoundFor, Point, with_seals}
use Rattle.system_laws.specs.Stops.{Calls, HeldThrough, HoldsOn, HoldsSince, IsBegunAgain, IsTold, Lives, Standing, standing}
use Rattle.system_laws.specs.Stops as stops
use Rattle.command_tasks.specs.declared.status.Status.{Status}
use Rattle.model_laws.proofs.Entries.{entries-append}

-- ---- one log

module _ (job : Job) (start : Standing) where
  -- a run's own entries come behind those that a log had, and what it sent behind what had been sent
  further : (given : Input) (before : List (List Entry)) (point : Point) (sent old log : List ℕ)
      → (has : HoldsSince job start sent old)
      → entries_of before ≡ start.entries ++ has.later
      → Course job start.format given (start.entries ++ has.later) point.left point.here
      → GoesOnTo job start.format before point log
      → HoldsSince job start (sent ++ point.text) log
  further given before point sent old log has stood course goes =
      let groups = (with_seals job point goes.times).groups in
      let more = entries_of groups in
      let text = point.text in
      let is : text ≡ take (length text) (lines_of_entries more) =
      text_told job.defs job.scripts start.format (start.entries ++ has.later) point.here goes.times text
      (comes_behind job start.format (start.entries ++ has.later) course.behind given.lines given.events point.left
      point.here
      course.history course.comes) goes.told in
      record {
        later = has.later ++ more;
        sound =
            subst (IsSoundFor job start.format log)
            (entries-append before groups ∙ ap (λ (es : List Entry). es ++ more) stood
            ∙ append_assoc start.entries has.later more) goes.sound;
        text = has.text ++ text;
        since = ap (λ (t : List ℕ). t ++ text) has.since ∙ append_assoc start.sent has.text text;
        told =
            subst (λ (t : List ℕ). IsTold (has.later ++ more) (has.text ++ t)) (sym is)
            (stops.run more (length text) has.told);
      }

  -- ---- a disk

  -- a disk that holds what was answered makes a safe site
  pub holds_safe : (disk : Disk) (law : IsLawful disk) → (holds : HoldsOn job start disk)
      → IsSafeFor job start.format disk (start.entries ++ (holds (disk.contents 0) (settles_contents disk 0 law)).later)
  holds_safe disk law holds = record {
    now = (holds (disk.contents 0) (settles_contents disk 0 law)).sound;
    crash = λ image settles. (start.entries ++ (holds image settles).later, (holds image settles).sound);
  }

  -- what a crash might have left before, but for a sync of the log
  synced_held : (old : Disk) → IsLawful old → HoldsOn job start old → old.tells_sent → (s : Snapshot) → Syncs old 0 s
      → HoldsSince job start s.sent (s.images 0)
  synced_held old law holds tells s from =
      subst (λ (sent : List ℕ). HoldsSince job start sent (s.images 0))
      (sym (from.sent tells ∙ law.sent_now tells from.before from.left))
      (holds (s.images 0) from.this)

  -- a disk that stays holds what it held
  module _ (old new : Disk) (law : IsLawful old) (holds : HoldsOn job start old) where
    module _ (law2 : IsLawful new) where
      same_holds : IsUnchanged old new → HoldsOn job start new
      same_holds same image settles =
          subst (λ (sent : List ℕ). HoldsSince job start sent image) (sym same.sent)
          (holds image (settles_again old new 0 image
          (λ s left. (same.crash.each s (law2.earlier old.moment new.moment s same.crash.later
          (law2.counts_now s left))).this)
          settles))

    same_held : old.tells_sent → IsUnchanged old new → HeldThrough job start old.moment new
    same_held tells same s left = synced_held old law holds tells s (same.crash.each s left)

    abbrev stood : HoldsSince job start old.sent (old.contents 0)
    stood = holds (old.contents 0) (settles_contents old 0 law)

    -- a log in format 2 is run, or one in format 1 migrated, from the entries that stood
    abbrev before : List Entry
    before = start.entries ++ stood.later

    safe : IsSafeFor job start.format old before
    safe = holds_safe old law holds

    -- ---- one run

    module _ (given : Input) (answer : Status) (run : Ran job given answer old new) where
      went_holds : Went job start.format given before answer old new → HoldsOn job start new
      went_holds went log settles =
          subst (λ (sent : List ℕ). HoldsSince job start sent log) (sym went.sent)
          (⊎_elim
          (λ none. subst (λ (sent : List ℕ). HoldsSince job start sent log)
          (sym (ap (λ (t : List ℕ). old.sent ++ t) none.unsent ∙ append-nil old.sent))
          (holds log (none.images log settles)))
          (λ end. further given went.before went.point old.sent (old.contents 0) log stood went.stood went.course
          (end.images log settles)) went.ended)

      pub ran_holds : IsLawful new → HoldsOn job start new
      ran_holds law2 =
          ⊎_elim (λ first. same_holds law2 (run.first first).0)
          (λ second. went_holds (run.goes start.format before safe second))
          (old_or_not job start.format (old.contents 0) before stood.sound)

      went_held : old.tells_sent → Went job start.format given before answer old new
          → HeldThrough job start old.moment new
      went_held tells went s left =
          ⊎_elim (λ was. synced_held old law holds tells s was)
          (λ by. subst (λ (sent : List ℕ). HoldsSince job start sent (s.images 0)) (sym (by.sent tells))
          (further given went.before by.point old.sent (old.contents 0) (s.images 0) stood went.stood by.course by.log))
          (went.moments.each s left)

      pub ran_held : old.tells_sent → HeldThrough job start old.moment new
      ran_held tells =
          ⊎_elim (λ first. same_held tells (run.first first).0)
          (λ second. went_held tells (run.goes start.format before safe second))
          (old_or_not job start.format (old.contents 0) before stood.sound)

    -- ---- one migration

    -- the entry that it makes has no line that could be sent
    one_more : (log : List ℕ) (sent : List ℕ) → sent ≡ old.sent
        → IsMigratedOr job start.format before log → HoldsSince job start sent log
    one_more log sent same (inl sound) =
        subst (λ (t : List ℕ). HoldsSince job start t log) (sym same) (record {
          later = stood.later;
          sound = sound;
          text = stood.text;
          since = stood.since;
          told = stood.told;
        })
    one_more log sent same (inr sound) =
        let e = format_entry (length before) in
        subst (λ (t : List ℕ). HoldsSince job start t log) (sym same) (record {
          later = stood.later ++ e ∷ [];
          sound = subst (IsSoundFor job start.format log) (append_assoc start.entries stood.later (e ∷ [])) sound;
          text = stood.text;
          since = stood.since;
          told =
              subst (IsTold (stood.later ++ e ∷ [])) (append-nil stood.text) (stops.run (e ∷ []) 0 stood.told);
        })

    module _ (answer : Status) (run : Migrated job answer old new) where
      moved_holds : Moved job start.format before answer old new → HoldsOn job start new
      moved_holds moved log settles =
          ⊎_elim
          (λ was. subst (λ (sent : List ℕ). HoldsSince job start sent log) (sym moved.sent) (holds log was))
          (λ is. one_more log new.sent moved.sent is) (moved.images log settles)

      pub migrated_holds : IsLawful new → HoldsOn job start new
      migrated_holds law2 =
          ⊎_elim (λ first. moved_holds (run.goes start.format before safe first))
          (λ second. same_holds law2 (run.stays second))
          (old_or_not job start.format (old.contents 0) before stood.sound)

      moved_held : old.tells_sent → Moved job start.format before answer old new
          → HeldThrough job start old.moment new
      moved_held tells moved s left =
          ⊎_elim (λ was. synced_held old law holds tells s was)
          (λ is. one_more (s.images 0) s.sent (is.sent tells) is.log) (moved.moments.each s left)

      pub migrated_held : old.tells_sent → HeldThrough job start old.moment new
      migrated_held tells =
          ⊎_elim (λ first. moved_held tells (run.goes start.format before safe first))
          (λ second. same_held tells (run.stays second))
          (old_or_not job start.format (old.contents 0) before stood.sound)

    -- ---- one call

    pub call_holds : IsLawful new → Calls job old new → HoldsOn job start new
    call_holds law2 (stops.ran {given = given} {answer = answer} run) = ran_holds given answer run law2
    call_holds law2 (stops.migrated {answer = answer} run) = migrated_holds answer run law2
    call_holds law2 (stops.spared same) = same_holds law2 same

    pub call_held : old.tells_sent → Calls job old new → HeldThrough job start old.moment new
    call_held tells (stops.ran {given = given} {answer = answer} run) = ran_held given answer run tells
    call_held tells (stops.migrated {answer = answer} run) = migrated_held answer run tells
    call_held tells (stops.spared same) = same_held tells same

  -- ---- a stop

  -- a site that begins as what a crash left
  pub begun_holds : (moment : ℕ) (old next : Disk) → HeldThrough job start moment old → IsBegunAgain moment old next
      → HoldsOn job start next
  begun_holds moment old next held is image settles =
      subst (λ (log : List ℕ). HoldsSince job start next.sent log)
      (sym (durable_settles next 0 image is.durable settles ∙ is.log))
      (subst (λ (sent : List ℕ). HoldsSince job start sent (is.snapshot.images 0)) (sym is.sent)
      (held is.snapshot is.left))

  -- ---- again and again

  module _ {X : Type 0} (told : X → Type 0) (disk : X → Disk) (laws : (x : X) → told x → IsLawful (disk x)) (first : X)
    where
      lives_told : (x : X) → Lives told disk job first x → told x
      lives_told x (stops.begun is) = is
      lives_told x (stops.called new lives is call) = is
      lives_told x (stops.stopped new next lives tells call is again) = is

      pub lives_hold : (x : X) → HoldsOn job start (disk first) → Lives told disk job first x
          → HoldsOn job start (disk x)
      lives_hold x holds (stops.begun is) = holds
      lives_hold x holds (stops.called {old = old} new lives is call) =
          call_holds (disk old) (disk new) (laws old (lives_told old lives)) (lives_hold old holds lives) (laws new is)
          call
      lives_hold x holds (stops.stopped {old = old} new next lives tells call is again) =
          begun_holds ((disk old).moment) (disk new) (disk next)
          (call_held (disk old) (disk new) (laws old (lives_told old lives)) (lives_hold old holds lives) tells call)
          again

-- ---- where it begins

-- a sound log that every crash leaves as it is
pub rest_holds : (job : Job) (format : ℕ) (entries : List Entry) (disk : Disk) → IsDurable disk 0
    → IsSoundFor job format (disk.contents 0) entries → HoldsOn job (standing format entries disk.sent) disk
rest_holds job format entries disk durable sound image settles = record {
  later = [];
  sound =
      subst (λ (log : List ℕ). IsSoundFor job format log (entries ++ []))
      (sym (durable_settles disk 0 image durable settles))
      (subst (IsSoundFor job format (disk.contents 0)) (sym (append-nil entries)) sound);
  text = [];
  since = sym (append-nil disk.sent);
  told = stops.nothing;
}

-- a log that `define` made
pub made_holds : (job : Job) (sent : List ℕ) (disk : Disk) → disk.sent ≡ sent
    → IsAtRest disk (front_for job) [] (first_gate (front_for job)) → HoldsOn job (standing 2 [] sent) disk
made_holds job sent disk same rest =
    subst (λ (s : List ℕ). HoldsOn job (standing 2 [] s) disk) same
    (rest_holds job 2 [] disk rest.durable (new_safe job.defs job.scripts (front_for job) (1, omega arith, refl) disk
    rest).now)

-- ---- a site in memory

-- what a crash now may leave was left since each moment
pub left_once : (h : History) (t : ℕ) (s : Snapshot) → MayLeave h s → LeftSince t h s
left_once [] t s now = now
left_once (e ∷ earlier) t s now = inl now

-- one that begins as a snapshot
pub begun_again : (moment : ℕ) (stopped : Disk) (s : Snapshot) (m : MemorySite) → stopped.left_since moment s
    → BeginsAs s m → IsBegunAgain moment stopped (memory_disk m)
begun_again moment stopped s m left begins = record {
  snapshot = s;
  left = left;
  durable = begins.durable 0;
  log = ap (λ (images : ℕ → List ℕ). images 0) begins.contents;
  sent = begins.sent;
}
