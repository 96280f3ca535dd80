-- The whole of what a run gives, by how it ended.
use Rattle.std.proofs.Common.{◌≡◌, inl, inr, refl, sym, ap, subst, arith, ℕ, List, take}
use Rattle.fp_core.specs.Fronts.{HasFront, KeepsFronts}
use Rattle.fp_model.specs.declared.log.Entry.{Entry}
use Rattle.fp_model.specs.Recovery.{Holds}
use Rattle.fp_model.specs.LogText.{Front, first_gate}
use Rattle.fp_restart.proofs.Groups.{same_reading}
use Rattle.fp_restart.proofs.Replays.{read_kept}
use Rattle.fp_restart.specs.Replayed.{ReadsBack}
use Rattle.fp_site.specs.Disk.{Disk, IsLawful, Syncs}
use Rattle.fp_site.specs.Moments.{OnlyOn, Through}
use Rattle.fp_site.proofs.Images.{settles_left}
use Rattle.fp_site.proofs.Runs.{joined, started, weaker}
use Rattle.log_groups.specs.Images.{HasFrontOf, IsBeforeOrMade}
use Rattle.balancing.specs.Numbered.{Numbered}
use Rattle.log_groups.proofs.Fronts.{one_format}
use Rattle.log_groups.specs.Log.{LogState}
use Rattle.msdb_store.specs.Store.{Stored}
use Rattle.command_tasks.specs.Answers.{IsEarly, MayStandIn}
use Rattle.fp_system.specs.Courses.{Input, IsSoundFor}
use Rattle.fp_system.specs.inside.Acted.{IsRestarted}
use Rattle.fp_core.specs.Sparing.{IsLogSet as IsLog, Spares}
use Rattle.fp_system.specs.Gives.{IsBeforeSite, IsSafeFor, KeepsFront, Ran, Went}
use Rattle.fp_system.specs.Ims.{IsUnchanged}
use Rattle.command_tasks.specs.Parts.{Job, front_for, front_in}
use Rattle.fp_system.specs.Table.{IsOld}
use Rattle.command_tasks.specs.declared.status.Status.{Status}
use Rattle.command_tasks.specs.declared.status.Status.TheVariants.{Damaged, Definitions, Done, Foreign, Illegal, Line, NoMemory, NotBuilt, OldFormat, ReadFault, Schedule, Scripts, SiteFault, Usage}
use Rattle.command_words.specs.declared.words.Command.{Command}
use Rattle.command_words.specs.declared.words.Command.TheVariants.{Define, Run}
use Rattle.std.specs.Prelude.{Option, Some}
use Rattle.fp_core.proofs.SparingLemmas.{spares_on, spares_syncs}
use Rattle.fp_system.proofs.Due.{not_spared}
use Rattle.fp_system.proofs.Restarted.{new_told}
use Rattle.fp_system.proofs.Went.{unchanged_same, went_not}

-- ---- before the site

pub only_same : (h : Disk) → OnlyOn 0 h h
only_same h = record {
  now = record { contents = λ k other. refl; sent = refl };
  crash = record {
    later = omega arith;
    keeps = λ t s earlier left. left;
    nothing_else = λ t s earlier left. inl left;
    tells_sent = λ told. told;
  };
}

pub unmade : (front : Front) (h : Disk) → IsLawful h → Through h h (IsBeforeOrMade h front)
unmade front h law = started (IsBeforeOrMade h front) h law (λ s left. inl (inl (settles_left h 0 s left)))

-- a fault isn't Done
stands_not_done : (answer : Status) → MayStandIn answer → ¬ (answer ≡ Done)
stands_not_done answer stands done = subst MayStandIn done stands

-- where a restart came to this answer, or none was made
pub ran_not : (job : Job) (given : Input) (answer : Status) (h h1 : Disk) → IsLawful h → IsLawful h1
    → IsUnchanged h h1 → ¬ (answer ≡ Done)
    → ((format : ℕ) (earlier : List Entry) → IsSoundFor job format (h.contents 0) earlier
    → ¬ (IsOld job (h.contents 0)) → MayStandIn answer)
    → Ran job given answer h h1
ran_not job given answer h h1 law law1 same undone stands = record {
  spares = λ why. same;
  first = λ it. (same, undone);
  others = spares_syncs h h1 same.contents same.crash;
  keeps = λ format groups gate log. weaker (Syncs h 0) (KeepsFront gate h) h h1 (λ s d. inl d) same.crash;
  goes = λ format earlier safe new.
      went_not job format given earlier h h1 law law1 safe same.contents same.sent same.crash answer
      (stands format earlier safe.now new);
}

pub unrun : (job : Job) (given : Input) (answer : Status) (h : Disk) → IsLawful h → MayStandIn answer
    → Ran job given answer h h
unrun job given answer h law stands =
    ran_not job given answer h h law law (unchanged_same h law) (stands_not_done answer stands)
    (λ format earlier sound new. stands)

pub before_site : {P : Type 0} (found : Option Command) (answer : Status) → (IsEarly answer → P)
    → (answer ≡ ReadFault → ¬ (found ≡ Some Run) → P) → (answer ≡ NoMemory → found ≡ Some Define → P)
    → IsBeforeSite found answer → P
before_site found ReadFault e f m h = f refl h
before_site found NoMemory e f m h = m refl h
before_site found Done e f m h = e h
before_site found Usage e f m h = e h
before_site found (Definitions fault) e f m h = e h
before_site found (Scripts fault) e f m h = e h
before_site found (Schedule fault) e f m h = e h
before_site found SiteFault e f m h = e h
before_site found Foreign e f m h = e h
before_site found (Damaged set at) e f m h = e h
before_site found (Line number) e f m h = e h
before_site found (NotBuilt p) e f m h = e h
before_site found OldFormat e f m h = e h
before_site found (Illegal entry) e f m h = e h

-- ---- behind a restart

-- A log that can be read stays before its gate, whatever its entries are, where what follows a restart keeps the bytes
-- in front of it.
pub kept_front : (job : Job) (h h1 h2 : Disk) → ((set : ℕ) → h1.contents set ≡ h.contents set)
    → Through h h1 (Syncs h 0)
    → (store : Stored) (state : LogState) (lasts : Numbered) (first_format : ℕ)
    → ReadsBack job.defs (front_in first_format job) h1 store state lasts → KeepsFronts h1 state.gate h2
    → (format : ℕ) (groups : List (List Entry)) (gate : ℕ) → Holds (front_in format job) (h.contents 0) groups gate
    → Through h h2 (KeepsFront gate h)
kept_front job h h1 h2 contents run store state lasts first_format back keeps format groups gate holds =
    let front = front_in first_format job in
    let there : Holds (front_in format job) (h1.contents 0) groups gate =
    subst (λ (l : List ℕ). Holds (front_in format job) l groups gate) (sym (contents 0)) holds in
    let one : format ≡ first_format =
    one_format format first_format (front_for job) (h1.contents 0) there.begins back.begins in
    let here : Holds front (h1.contents 0) groups gate =
    subst (λ (f : ℕ). Holds (front_in f job) (h1.contents 0) groups gate) one there in
    let same = same_reading (h1.contents 0) (first_gate front) back.replayed.groups groups state.gate gate
    (back.replayed.holds.holds, back.closed) here.reads in
    let has : HasFront (h.contents 0) gate h1 state.gate = record {
      front = front;
      groups = back.replayed.groups;
      kept = read_kept job.defs front h1 store state lasts back;
      behind = omega (arith, same.1);
      same = ap (λ (l : List ℕ). take gate l) (contents 0);
    } in
    joined (KeepsFront gate h) h h1 h2 (weaker (Syncs h 0) (KeepsFront gate h) h h1 (λ s d. inl d) run)
    (weaker (HasFrontOf (h.contents 0) gate) (KeepsFront gate h) h1 h2 (λ s kept. inr kept)
    (keeps (h.contents 0) gate has))

-- What a run gives of a good log of format 2, by how it went behind the restart.
pub ran_on : (job : Job) (given : Input) (answer : Status) (h h1 h2 : Disk) → IsLawful h1 → IsUnchanged h h1
    → (store : Stored) (state : LogState) (lasts : Numbered) → IsRestarted job h h1 store state lasts
    → ¬ (state.format ≡ 1) → Spares IsLog h1 h2 → KeepsFronts h1 state.gate h2
    → ((format : ℕ) (earlier : List Entry) → IsSafeFor job format h earlier
    → Went job format given earlier answer h h2)
    → Ran job given answer h h2
ran_on job given answer h h1 h2 law1 same store state lasts it new others fronts goes = record {
  spares = λ why. absurd (not_spared job (h.contents 0) it.good why);
  first = λ was. absurd (new_told job h h1 same.contents store state lasts it new was);
  others = spares_on IsLog h h1 h2 law1 (spares_syncs h h1 same.contents same.crash) others;
  keeps = kept_front job h h1 h2 same.contents same.crash store state lasts state.front_format it.back fronts;
  goes = λ format earlier safe new. goes format earlier safe;
}
