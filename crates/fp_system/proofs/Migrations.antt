-- What a migration gives: of a safe site in format 1, of a log that can be read, and of the moments a crash may take.
use Rattle.std.proofs.Common.{◌≡◌, ◌⊎◌, inl, inr, refl, sym, ◌∙◌, ap, subst, arith, ℕ, ◌<◌, List, [], ◌∷◌, ◌++◌, length, take}
use Rattle.std.specs.Prelude.{Err, Ok, OnOk, Result}
use Rattle.std.proofs.lemmas.List.{append-nil}
use Rattle.std.proofs.lemmas.List.Concat.{flat_map-cons}
use Rattle.fp_core.specs.Fronts.{KeepsFronts}
use Rattle.fp_core.specs.Sparing.{IsLogSet as IsLog}
use Rattle.fp_core.proofs.SparingLemmas.{spares_on, spares_only, spares_syncs}
use Rattle.fp_model.specs.declared.database.Db.{Db}
use Rattle.fp_model.specs.declared.definitions.Defs.{Defs}
use Rattle.fp_model.specs.declared.log.Entry.{Entry}
use Rattle.fp_model.specs.declared.scripts.Script.{Script}
use Rattle.fp_model.specs.Groups.{entries_of}
use Rattle.fp_model.specs.History.{History, beginning, with_entry}
use Rattle.fp_model.specs.Items.{AreFit, items_of, with_items}
use Rattle.fp_model.specs.Lasts.{format_at}
use Rattle.fp_model.specs.LogText.{FitsEntry, Front, KeepsRules, first_gate}
use Rattle.fp_model.specs.Product.{rules_of}
use Rattle.fp_model.specs.Rules.{Rules}
use Rattle.fp_model.specs.SerialHistory.{Comes, LeadsOn}
use Rattle.fp_model.specs.State.{start}
use Rattle.fp_model.proofs.HistoryLemmas.{entries_put, format_stays}
use Rattle.fp_restart.proofs.Groups.{same_reading}
use Rattle.fp_restart.proofs.Replays.{read_at_rest}
use Rattle.fp_restart.specs.Restarts.{StandsFor}
use Rattle.fp_site.specs.Disk.{Differs, Disk, IsLawful, Settles, Snapshot, Syncs}
use Rattle.fp_site.specs.Moments.{OnlyOn, Through}
use Rattle.fp_site.proofs.Images.{durable_settles}
use Rattle.fp_site.proofs.Runs.{both, joined, of_call, started, weaker}
use Rattle.balancing.specs.Numbered.{Numbered}
use Rattle.log_groups.specs.Images.{IsAtRest, IsBeforeOrAfter, IsLog as HasLog, IsWithOrWithout, gate_behind, with_group}
use Rattle.log_groups.specs.Kept.{IsSound}
use Rattle.log_groups.specs.Log.{LogState}
use Rattle.log_groups.proofs.Fronts.{one_format}
use Rattle.msdb_store.specs.Store.{Stored}
use Rattle.fp_system.specs.Courses.{IsSoundFor}
use Rattle.fp_system.specs.Gives.{HasMore, IsMigrating, IsMigratedOr, IsSafeFor, KeepsFront, Migrated, Moved, format_entry}
use Rattle.fp_system.specs.Ims.{IsUnchanged}
use Rattle.command_tasks.specs.Parts.{Job, front_for, front_in}
use Rattle.fp_system.specs.Table.{IsOld}
use Rattle.command_tasks.specs.declared.status.Status.{Status}
use Rattle.command_tasks.specs.declared.status.Status.TheVariants.{Done, NoMemory, SiteFault}
use Rattle.fp_system.specs.inside.Acted.{IsRestarted, Seals}
use Rattle.fp_system.specs.inside.Answers.{status_of_seal}
use Rattle.fp_system.proofs.Due.{not_spared}
use Rattle.fp_system.proofs.OldLogs.{sound_old_only}
use Rattle.fp_system.proofs.Restarted.{old_told}
use Rattle.fp_system.proofs.Runs.{kept_front}
use Rattle.fp_system.proofs.Went.{unchanged_same}
use Rattle.model_laws.proofs.Entries.{entries_push, items-append}

-- ---- a log with one entry more

-- a history that goes on by one entry
leads_more : (rules : Rules) (h : History) (es : List Entry) (e : Entry) (mid : History) (next : Db)
    → LeadsOn rules h es mid → Comes rules mid e next → LeadsOn rules h (es ++ e ∷ []) (with_entry e next mid)
leads_more rules h [] e mid next leads comes =
    (next, subst (λ (x : History). Comes rules x e next) leads comes, ap (with_entry e next) leads)
leads_more rules h (x ∷ es) e mid next leads comes =
    (leads.0, leads.1, leads_more rules (with_entry x leads.0 h) es e mid next leads.2 comes)

-- the entry of a migration has no items
no_items : (earlier : List Entry) (place : ℕ) → items_of (earlier ++ format_entry place ∷ []) ≡ items_of earlier
no_items earlier place =
    let e = format_entry place in
    items-append earlier (e ∷ [])
    ∙ ap (λ is. items_of earlier ++ is) (flat_map-cons (λ (x : Entry). x.items) e [])
    ∙ append-nil (items_of earlier)

-- a log of these groups has the entries that they have
module _ (defs : Defs) (scripts : List Script) (front : Front) (log : List ℕ) (earlier : List Entry)
    (sound : IsSound defs scripts front log earlier) (groups : List (List Entry)) (all : earlier ≡ entries_of groups)
    (image : List ℕ) (gate : ℕ) where
  sound_same : HasLog front image groups gate → IsSound defs scripts front image earlier
  sound_same log = record {
    is_format = sound.is_format;
    groups = groups;
    gate = gate;
    holds = log.holds;
    stands = log.stands;
    all = all;
    last = sound.last;
    history = sound.history;
    fit = sound.fit;
    made = sound.made;
  }

  -- and where a line would be read in format 1, one more may come
  sound_more : format_at front.format earlier ≡ 1
      → HasLog front image (groups ++ (format_entry (length earlier) ∷ []) ∷ []) gate
      → IsSound defs scripts front image (earlier ++ format_entry (length earlier) ∷ [])
  sound_more one log =
      let rules = rules_of defs scripts in
      let e = format_entry (length earlier) in
      let first = beginning front.format (start defs) in
      let h = sound.history.history in
      let entries : h.entries ≡ earlier = entries_put rules first earlier h sound.history.leads in
      let format : h.format ≡ front.format = format_stays rules first earlier h sound.history.leads in
      let now : format_at h.format h.entries ≡ 1 =
      ap (λ (f : ℕ). format_at f h.entries) format ∙ ap (format_at front.format) entries ∙ one in
      let comes : Comes rules h e h.now = record {
        form = (((refl, refl), ap length (sym entries)), refl);
        leads = (now, refl);
      } in
      let items = no_items earlier (length earlier) in
      record {
        is_format = sound.is_format;
        groups = groups ++ (e ∷ []) ∷ [];
        gate = gate;
        holds = log.holds;
        stands = log.stands;
        all = ap (λ (es : List Entry). es ++ e ∷ []) all ∙ sym (entries_push groups (e ∷ []));
        last = sound.last;
        history = record {
          history = with_entry e h.now h;
          leads = leads_more rules first earlier e h h.now sound.history.leads comes;
          ends = sound.history.ends;
        };
        fit = subst (AreFit defs) (sym items) sound.fit;
        made = ap (with_items defs.msdbs (start defs).msdbs) items ∙ sound.made;
      }

-- it fits its place in the log
pub format_keeps : (place : ℕ) → KeepsRules (format_entry place)
format_keeps place = record { in_order = refl; parts = (refl, refl) }

pub format_fits : (place : ℕ) → FitsEntry (format_entry place)
format_fits place = record {
  outcome = tt;
  line = omega arith;
  reply = omega arith;
  notes = omega arith;
  items = omega arith;
  each_item = tt;
}

-- ---- what sealing it leaves

module _ (front : Front) (groups : List (List Entry)) (gate : ℕ) (entry : Entry) where
  -- what the call that seals it says
  pub sealed : {A E : Type 0} (old new : Disk) (mid next : ℕ) (waiting : List Entry) (r : Result A E) (answer : Status)
      → mid ≡ gate → waiting ≡ entry ∷ [] → answer ≡ status_of_seal r
      → Through old new (IsBeforeOrAfter front groups mid (take 1 waiting))
      → ((image : List ℕ) → Settles new 0 image → IsWithOrWithout front groups mid (take 1 waiting) image)
      → OnOk r (IsAtRest new front (with_group groups (take 1 waiting)) next)
      → Seals front groups gate entry answer old new
  sealed old new mid next waiting r answer same one is crash settles durable = record {
    crash =
        subst (λ (n : ℕ). Through old new (IsBeforeOrAfter front groups n (entry ∷ []))) same
        (subst (λ (es : List Entry). Through old new (IsBeforeOrAfter front groups mid (take 1 es))) one crash);
    settles = λ image settled.
        subst (λ (n : ℕ). IsWithOrWithout front groups n (entry ∷ []) image) same
        (subst (λ (es : List Entry). IsWithOrWithout front groups mid (take 1 es) image) one
        (settles image settled));
    gate_then = next;
    durable = λ done.
        subst (λ (es : List Entry). IsAtRest new front (with_group groups (take 1 es)) next) one
        (there r (sym is ∙ done) durable);
  }
    where
      there : {A E P : Type 0} (r : Result A E) → status_of_seal r ≡ Done → OnOk r P → P
      there (Ok x) e it = it
      there (Err why) e it = absurd cc

  -- and where memory lacked for it
  pub unsealed : (disk : Disk) → IsLawful disk → IsAtRest disk front groups gate
      → Seals front groups gate entry NoMemory disk disk
  unsealed disk law rest = record {
    crash =
        started (IsBeforeOrAfter front groups gate (entry ∷ [])) disk law
        (λ s left. inl (subst (λ (l : List ℕ). HasLog front l groups gate) (sym (rest.durable s left)) rest.log));
    settles = λ image settles.
        inl (subst (λ (l : List ℕ). HasLog front l groups gate)
        (sym (durable_settles disk 0 image rest.durable settles)) rest.log);
    gate_then = gate;
    durable = λ done. absurd cc;
  }

-- what may be answered
pub seal_outcome : {A E : Type 0} (r : Result A E) (answer : Status) → answer ≡ status_of_seal r
    → (answer ≡ Done) ⊎ ((answer ≡ SiteFault) ⊎ (answer ≡ NoMemory))
seal_outcome (Ok x) answer is = inl is
seal_outcome (Err why) answer is = inr (inl is)

-- the bytes that were sent are those from before at each moment
unsent : (old new : Disk) → IsLawful old → OnlyOn 0 old new → Through old new (λ s. old.tells_sent → s.sent ≡ old.sent)
unsent old new law only =
    weaker (Differs old 0 (λ before after. Unit {0})) (λ s. old.tells_sent → s.sent ≡ old.sent) old new
    (λ s d tells. d.sent tells ∙ law.sent_now tells d.before d.left)
    (of_call old new (Differs old 0 (λ before after. Unit {0})) law only.crash
    (λ s left. record { before = s; left = left; this = tt; others = λ k other. refl; sent = λ tells. refl }))

module _ (job : Job) (format : ℕ) (earlier : List Entry) (h h1 h2 : Disk) (law1 : IsLawful h1)
    (safe : IsSafeFor job format h earlier) (one : format_at format earlier ≡ 1) (sent : h1.sent ≡ h.sent)
    (run : Through h h1 (Syncs h 0)) (store : Stored) (state : LogState) (lasts : Numbered)
    (found : StandsFor job.defs job.scripts (front_in format job) h1 earlier store state lasts) (answer : Status)
    (seals : Seals (front_in format job) found.groups state.gate (format_entry state.sealed) answer h1 h2)
    (only : OnlyOn 0 h1 h2) where
  front : Front
  front = front_in format job

  with_more : (image : List ℕ) (gate : ℕ)
      → HasLog (front_in format job) image (found.groups ++ (format_entry state.sealed ∷ []) ∷ []) gate
      → IsSoundFor job format image (earlier ++ format_entry (length earlier) ∷ [])
  with_more image gate log =
      sound_more job.defs job.scripts (front_in format job) (h.contents 0) earlier safe.now found.groups found.all image
      gate one
      (subst (λ (n : ℕ). HasLog (front_in format job) image (found.groups ++ (format_entry n ∷ []) ∷ []) gate)
      found.sealed log)

  migrated_or : (image : List ℕ)
      → IsWithOrWithout (front_in format job) found.groups state.gate (format_entry state.sealed ∷ []) image
      → IsMigratedOr job format earlier image
  migrated_or image (inl log) =
      inl (sound_same job.defs job.scripts (front_in format job) (h.contents 0) earlier safe.now found.groups found.all
      image state.gate log)
  migrated_or image (inr log) =
      inr (with_more image (gate_behind state.gate (format_entry state.sealed ∷ [])) log)

  pub moved : Moved job format earlier answer h h2
  moved = record {
    sent = only.now.sent ∙ sent;
    done = λ done.
        let rest = seals.durable done in (with_more (h2.contents 0) seals.gate_then rest.log, rest.durable);
    images = λ log settles. inr (migrated_or log (seals.settles log settles));
    moments =
        let P : Snapshot → Type 0 = λ s. Syncs h 0 s ⊎ IsMigrating job format earlier h s in
        let Q : Snapshot → Type 0 =
        IsBeforeOrAfter (front_in format job) found.groups state.gate (format_entry state.sealed ∷ []) in
        let U : Snapshot → Type 0 = λ s. h1.tells_sent → s.sent ≡ h1.sent in
        joined P h h1 h2
        (weaker (Syncs h 0) P h h1 (λ s d. inl d) run)
        (weaker (λ s. Q s × U s) P h1 h2
        (λ s is. inr (record {
          log = migrated_or (s.images 0) is.0;
          sent = λ tells. is.1 (run.tells_sent tells) ∙ sent;
        })) (both Q U h1 h2 seals.crash (unsent h1 h2 law1 only)));
  }

-- ---- where nothing was sealed

pub moved_not : (job : Job) (format : ℕ) (earlier : List Entry) (answer : Status) (h h1 : Disk) → ¬ (answer ≡ Done)
    → h1.sent ≡ h.sent → ((image : List ℕ) → Settles h1 0 image → Settles h 0 image) → Through h h1 (Syncs h 0)
    → Moved job format earlier answer h h1
moved_not job format earlier answer h h1 undone sent settles run = record {
  sent = sent;
  done = λ done. absurd (undone done);
  images = λ log is. inl (settles log is);
  moments = weaker (Syncs h 0) (λ s. Syncs h 0 s ⊎ IsMigrating job format earlier h s) h h1 (λ s d. inl d) run;
}

-- ---- the whole

module _ (job : Job) (h h1 h2 : Disk) (law1 : IsLawful h1) (before : IsUnchanged h h1) (store : Stored)
    (state : LogState) (lasts : Numbered) (it : IsRestarted job h h1 store state lasts) (one : state.format ≡ 1)
    (answer : Status) (only : OnlyOn 0 h1 h2) (fronts : KeepsFronts h1 state.gate h2)
    (seals : (front : Front) (groups : List (List Entry)) → IsAtRest h1 front groups state.gate
    → Seals front groups state.gate (format_entry state.sealed) answer h1 h2) where
  -- a log whose gate is there has the entry of a migration behind its groups, where that was sealed
  more_at_rest : (format : ℕ) (groups : List (List Entry)) (gate : ℕ)
      → HasLog (front_in format job) (h.contents 0) groups gate → answer ≡ Done → HasMore job format groups h2
  more_at_rest format groups gate log done =
      let first = state.front_format in
      let front = front_in first job in
      let there : HasLog (front_in format job) (h1.contents 0) groups gate =
      subst (λ (l : List ℕ). HasLog (front_in format job) l groups gate) (sym (before.contents 0)) log in
      let same_format : format ≡ first =
      one_format format first (front_for job) (h1.contents 0) there.holds.begins it.back.begins in
      let here : HasLog front (h1.contents 0) groups gate =
      subst (λ (f : ℕ). HasLog (front_in f job) (h1.contents 0) groups gate) same_format there in
      let its = it.back.replayed.groups in
      let same = same_reading (h1.contents 0) (first_gate front) its groups state.gate gate
      (it.back.replayed.holds.holds, it.back.closed) here.holds.reads in
      let stands : state.gate < length (h1.contents 0) =
      subst (λ (g : ℕ). g < length (h1.contents 0)) (sym same.1) here.stands in
      let counted : state.sealed ≡ length (entries_of groups) =
      it.back.replayed.count ∙ ap (λ (gs : List (List Entry)). length (entries_of gs)) same.0 in
      let sealed = seals front its (read_at_rest job.defs front h1 store state lasts it.back stands) in
      record {
        gate = sealed.gate_then;
        at_rest =
            subst (λ (f : ℕ). IsAtRest h2 (front_in f job)
            (groups ++ (format_entry (length (entries_of groups)) ∷ []) ∷ []) sealed.gate_then) (sym same_format)
            (subst (λ (n : ℕ). IsAtRest h2 front (groups ++ (format_entry n ∷ []) ∷ []) sealed.gate_then) counted
            (subst (λ (gs : List (List Entry)). IsAtRest h2 front (gs ++ (format_entry state.sealed ∷ []) ∷ [])
            sealed.gate_then) same.0 (sealed.durable done)));
      }

  -- a log of format 1, behind a restart and a seal
  pub migrated_on : Migrated job answer h h2
  migrated_on = record {
    spares = λ why. absurd (not_spared job (h.contents 0) it.good why);
    stays = λ new. absurd (new (old_told job h h1 before.contents store state lasts it one));
    others =
        spares_on IsLog h h1 h2 law1 (spares_syncs h h1 before.contents before.crash) (spares_only h1 h2 law1 only);
    keeps = kept_front job h h1 h2 before.contents before.crash store state lasts state.front_format it.back fronts;
    unsent = only.now.sent ∙ before.sent;
    whole = λ format groups gate log was done. more_at_rest format groups gate log done;
    goes = λ format earlier safe was.
        let found = it.sound format earlier safe.now in
        moved job format earlier h h1 h2 law1 safe (sound_old_only job format (h.contents 0) earlier safe.now was)
        before.sent before.crash store state lasts found answer
        (seals (front_in format job) found.groups found.at_rest) only;
  }

-- ---- where nothing is done

pub migrated_not : (job : Job) (answer : Status) (h h1 : Disk) → IsUnchanged h h1
    → (IsOld job (h.contents 0) → ¬ (answer ≡ Done))
    → ((format : ℕ) (earlier : List Entry) → IsSafeFor job format h earlier → IsOld job (h.contents 0)
    → Moved job format earlier answer h h1)
    → Migrated job answer h h1
migrated_not job answer h h1 same never goes = record {
  spares = λ why. same;
  stays = λ new. same;
  others = spares_syncs h h1 same.contents same.crash;
  keeps = λ format groups gate log. weaker (Syncs h 0) (KeepsFront gate h) h h1 (λ s d. inl d) same.crash;
  unsent = same.sent;
  whole = λ format groups gate log was done. absurd (never was done);
  goes = goes;
}

-- where no site was looked at
pub unmigrated : (job : Job) (answer : Status) (h : Disk) → IsLawful h → ¬ (answer ≡ Done) → Migrated job answer h h
unmigrated job answer h law undone =
    let same = unchanged_same h law in
    migrated_not job answer h h same (λ was. undone) (λ format earlier safe first.
    moved_not job format earlier answer h h undone refl (λ image settles. settles) same.crash)
