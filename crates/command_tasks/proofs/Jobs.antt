-- Parts have one meaning: one job, or one answer.
use Rattle.std.proofs.Common.{◌≡◌, eqb-true, inl, inr, refl, sym, ap, subst, ◌∙◌, arith, ℕ, ◌<◌, List, [], ◌∷◌, length, Bool, true, false, if◌then◌else◌, Option, Some, None}
use Rattle.std.specs.Prelude.{◌==◌, ◌≢◌, ◌⊎◌, filter_map, map, nat_lt, Result, Ok, Err}
use Rattle.std.specs.Option.{option_map_or}
use Rattle.fp_defs.specs.Exits.{first_lacking, lacking, with_exits, defs_for}
use Rattle.fp_model.specs.Readings.{◌>>=◌}
use Rattle.fp_exits.specs.Kinds.{has_kind, Kinds}
use Rattle.fp_model.specs.declared.definitions.DedbDef.{DedbDef}
use Rattle.fp_model.specs.declared.definitions.Kind.{Kind}
use Rattle.fp_model.specs.declared.events.Event.{Event}
use Rattle.fp_schedule.specs.Schedule.{event_of, events_of, first_fault, tokens_of}
use Rattle.fp_schedule.specs.declared.fault.ScheduleFault.{ScheduleFault}
use Rattle.fp_schedule.specs.declared.fault.ScheduleFault.TheVariants as unfit
use Rattle.command_tasks.specs.Setups.{HasEventsFor}
use Rattle.command_tasks.specs.inside.Setups.{IsRefusedSchedule}
use Rattle.command_words.specs.declared.words.Command.{Command}
use Rattle.command_words.specs.declared.words.Command.TheVariants.{Define, Run, Show, Log, Migrate, Audit}
use Rattle.std.proofs.lemmas.Bool.Decides.{nat_tests}
use Rattle.fp_defs.specs.Whole.{defs_of}
use Rattle.def_tables.specs.declared.fault.DefsFault.{DefsFault}
use Rattle.def_tables.specs.declared.fault.DefsFault.TheVariants as bad
use Rattle.fp_model.specs.declared.definitions.Defs.{Defs}
use Rattle.fp_model.specs.declared.scripts.Script.{Script}
use Rattle.fp_source.specs.declared.part.Part.{Part}
use Rattle.fp_source.specs.declared.part.Part.TheVariants as part
use Rattle.command_tasks.specs.Answers.{MayStandIn}
use Rattle.command_tasks.specs.inside.Answers.{status_of_definitions, status_of_schedule}
use Rattle.command_tasks.specs.Parts.{Job, HasEvents, HasSchedule, IsJob, Refuses, by_definitions, by_schedule, by_scripts, are_built, only_built, definitions_in}
use Rattle.command_tasks.specs.declared.status.Status.{Status}
use Rattle.command_tasks.specs.declared.status.Status.TheVariants as status
use Rattle.txn_lang.proofs.OneMeaning.{one_list, one_fault, apart}
use Rattle.txn_lang.specs.Grammar.{AreScriptsOf, HasFault}
use Rattle.txn_lang.specs.declared.fault.ScriptFault.{ScriptFault}

-- ---- definitions

same_defs : (r : Result Defs Status) (a b : Defs) → r ≡ Ok a → r ≡ Ok b → a ≡ b
same_defs r a b e f = cc

pub not_both : {Any : Type 0} (r : Result Defs Status) (a : Defs) (answer : Status) → r ≡ Ok a → r ≡ Err answer → Any
not_both r a answer e f = absurd cc

same_answer : (r : Result Defs Status) (a b : Status) → r ≡ Err a → r ≡ Err b → a ≡ b
same_answer r a b e f = cc

-- the first fault that is read is the answer, unless memory ran out
pub fault_is_answer : (read : Result Defs DefsFault) (fault : DefsFault) → (fault ≢ bad.Memory → read ≡ Err fault)
    → MayStandIn (status_of_definitions fault) ⊎ (only_built read ≡ Err (status_of_definitions fault))
fault_is_answer read bad.Memory is = inl tt
fault_is_answer read bad.NotToml is = inr (ap only_built (is (λ e. cc)))
fault_is_answer read (bad.Missing key) is = inr (ap only_built (is (λ e. cc)))
fault_is_answer read (bad.Unknown key) is = inr (ap only_built (is (λ e. cc)))
fault_is_answer read (bad.OutOfLimit key value) is = inr (ap only_built (is (λ e. cc)))
fault_is_answer read (bad.Twice text) is = inr (ap only_built (is (λ e. cc)))
fault_is_answer read (bad.BadField key) is = inr (ap only_built (is (λ e. cc)))
fault_is_answer read (bad.NoExit kind) is = inr (ap only_built (is (λ e. cc)))
fault_is_answer read bad.TooLong is = inr (ap only_built (is (λ e. cc)))

-- ---- the whole

abbrev job_with : Defs → List ℕ → List Script → Job
job_with defs text scripts = record { defs = defs; scripts = scripts; scripts_text = text }

pub one_job : (kinds : Kinds) (left : Part → List ℕ) (a b : Job) → IsJob kinds left a → IsJob kinds left b → a ≡ b
one_job kinds left a b p q =
    let d : a.defs ≡ b.defs = same_defs (definitions_in kinds (left part.Definitions)) a.defs b.defs p.definitions
    q.definitions in
    let t : a.scripts_text ≡ b.scripts_text = p.text ∙ sym q.text in
    let s : a.scripts ≡ b.scripts =
    one_list b.defs b.scripts_text a.scripts b.scripts
    (subst (λ (defs : Defs). AreScriptsOf defs b.scripts_text a.scripts) d
    (subst (λ (text : List ℕ). AreScriptsOf a.defs text a.scripts) t p.scripts)) q.scripts in
    ap (λ (defs : Defs). job_with defs a.scripts_text a.scripts) d ∙ ap
    (λ (text : List ℕ). job_with b.defs text a.scripts) t
    ∙ ap (λ (scripts : List Script). job_with b.defs b.scripts_text scripts) s

no_fault_of : {Any : Type 0} (kinds : Kinds) (left : Part → List ℕ) (job : Job) (defs : Defs) (fault : ScriptFault)
    → IsJob kinds left job → definitions_in kinds (left part.Definitions) ≡ Ok defs
    → HasFault defs (left part.Scripts) fault → Any
no_fault_of kinds left job defs fault p is has =
    let d : defs ≡ job.defs = same_defs (definitions_in kinds (left part.Definitions)) defs job.defs is p.definitions in
    absurd (apart job.defs (left part.Scripts) job.scripts fault
    (subst (λ (text : List ℕ). AreScriptsOf job.defs text job.scripts) p.text p.scripts)
    (subst (λ (x : Defs). HasFault x (left part.Scripts) fault) d has))

good_and_bad : {Any : Type 0} (r : Result (List Event) ScheduleFault) (events : List Event) (fault : ScheduleFault)
    → r ≡ Ok events → r ≡ Err fault → Any
good_and_bad r events fault e f = absurd cc

same_bad : (r : Result (List Event) ScheduleFault) (a b : ScheduleFault) → r ≡ Err a → r ≡ Err b → a ≡ b
same_bad r a b e f = cc

pub no_job_refused : {Any : Type 0} (kinds : Kinds) (left : Part → List ℕ) (job : Job) (command : Command)
    (answer : Status)
    → IsJob kinds left job → HasSchedule command job left → Refuses kinds left command answer → Any
no_job_refused kinds left job command answer p schedule (by_definitions is) = not_both _ job.defs _ p.definitions is
no_job_refused kinds left job command answer p schedule (by_scripts {defs = defs} {fault = fault} is has) =
    no_fault_of kinds left job defs fault p is has
no_job_refused kinds left job Run answer p schedule (by_schedule {job = other} {fault = fault} is bad) =
    good_and_bad (events_of job.defs (left part.Schedule)) schedule.0 fault schedule.1
    (subst (λ (j : Job). events_of j.defs (left part.Schedule) ≡ Err fault) (one_job kinds left other job is p) bad)

pub one_answer : (kinds : Kinds) (left : Part → List ℕ) (command : Command) (a b : Status)
    → Refuses kinds left command a → Refuses kinds left command b → a ≡ b
one_answer kinds left command a b (by_definitions p) (by_definitions q) = same_answer _ _ _ p q
one_answer kinds left command a b (by_definitions p) (by_scripts q has) = not_both _ _ _ q p
one_answer kinds left command a b (by_definitions p) (by_schedule {job = job} is bad) =
    not_both _ job.defs _ is.definitions p
one_answer kinds left command a b (by_scripts p has) (by_definitions q) = not_both _ _ _ p q
one_answer kinds left command a b (by_scripts {defs = d} {fault = f} p has)
    (by_scripts {defs = e} {fault = g} q has2) =
    let same : d ≡ e = same_defs (definitions_in kinds (left part.Definitions)) d e p q in
    ap (λ (x : ScriptFault). status.Scripts x) (one_fault e (left part.Scripts) f g
    (subst (λ (x : Defs). HasFault x (left part.Scripts) f) same has) has2)
one_answer kinds left command a b (by_scripts {defs = d} {fault = f} p has) (by_schedule {job = job} is bad) =
    no_fault_of kinds left job d f is p has
one_answer kinds left command a b (by_schedule {job = job} is bad) (by_definitions q) =
    not_both _ job.defs _ is.definitions q
one_answer kinds left command a b (by_schedule {job = job} is bad) (by_scripts {defs = d} {fault = f} q has) =
    no_fault_of kinds left job d f is q has
one_answer kinds left command a b (by_schedule {job = job} {fault = f} is bad)
    (by_schedule {job = job2} {fault = g} is2 bad2) =
    ap (λ (x : ScheduleFault). status.Schedule x)
    (same_bad (events_of job2.defs (left part.Schedule)) f g
    (subst (λ (j : Job). events_of j.defs (left part.Schedule) ≡ Err f) (one_job kinds left job job2 is is2) bad) bad2)

-- ---- parts that are too long

pub long_definitions : (kinds : Kinds) (text : List ℕ) → 1000000 < length text
    → definitions_in kinds text ≡ Err (status.Definitions bad.TooLong)
unfolding definitions_in defs_of
long_definitions kinds text long = let e : nat_lt 1000000 (length text) ≡ true = grind (arith, nat_tests) in rw e refl

-- ---- good definitions

pub is_built : (kinds : Kinds) (text : List ℕ) (defs : Defs) → defs_for kinds text ≡ Ok defs → are_built defs ≡ true
    → definitions_in kinds text ≡ Ok defs
unfolding definitions_in
is_built kinds text defs e built = ap only_built e ∙ ap
    (λ (b : Bool). if b then Ok defs else Err (status.NotBuilt part.Definitions)) built

pub isnt_built : (kinds : Kinds) (text : List ℕ) (defs : Defs) → defs_for kinds text ≡ Ok defs → are_built defs ≡ false
    → definitions_in kinds text ≡ Err (status.NotBuilt part.Definitions)
unfolding definitions_in
isnt_built kinds text defs e built = ap only_built e ∙ ap
    (λ (b : Bool). if b then Ok defs else Err (status.NotBuilt part.Definitions)) built

-- a schedule that is too long
pub long_schedule : (defs : Defs) (text : List ℕ) → 32000000 < length text → events_of defs text ≡ Err unfit.TooLong
long_schedule defs text long =
    let e : nat_lt 32000000 (length text) ≡ true = grind (arith, nat_tests) in
    ap (λ (b : Bool). option_map_or Err (if b then Some unfit.TooLong else first_fault defs 1 (tokens_of text))
    (Ok (filter_map (event_of defs) (tokens_of text)))) e

-- ---- exits

-- definitions that have their exits have their router's
pub has_router : (kinds : Kinds) (text : List ℕ) (defs : Defs) → defs_for kinds text ≡ Ok defs
    → has_kind kinds.routers defs.router ≡ true
has_router kinds text defs e = by (defs_of text) refl
  where
    with_its : (d : Defs) (b : Bool) → has_kind kinds.routers d.router ≡ b
        → option_map_or (λ (kind : Kind). Err (bad.NoExit kind))
        (if b then first_lacking kinds.spreaders (map (λ (x : DedbDef). x.randomizer) d.dedbs) else Some d.router)
        (Ok d)
        ≡ Ok defs
        → has_kind kinds.routers defs.router ≡ true
    with_its d true is all = by_lack (first_lacking kinds.spreaders (map (λ (x : DedbDef). x.randomizer) d.dedbs)) all
      where
        by_lack : (o : Option Kind) → option_map_or (λ (kind : Kind). Err (bad.NoExit kind)) o (Ok d) ≡ Ok defs
            → has_kind kinds.routers defs.router ≡ true
        by_lack None all = let same : d ≡ defs = cc in
            subst (λ (x : Defs). has_kind kinds.routers x.router ≡ true) same is
        by_lack (Some kind) all = absurd cc
    with_its d false is all = absurd cc

    by : (r : Result Defs DefsFault) → defs_of text ≡ r → has_kind kinds.routers defs.router ≡ true
    by (Ok d) is =
        with_its d (has_kind kinds.routers d.router) refl
        (sym (ap (λ (x : Result Defs DefsFault). x >>= with_exits kinds) is) ∙ e)
    by (Err fault) is =
        absurd (err_not_ok (sym (ap (λ (x : Result Defs DefsFault). x >>= with_exits kinds) is) ∙ e))
      where
        err_not_ok : Err fault ≡ Ok defs → ⊥
        err_not_ok e = cc

-- definitions that are taken were read
pub read_for : (kinds : Kinds) (text : List ℕ) (defs : Defs) → definitions_in kinds text ≡ Ok defs
    → defs_of text ≡ Ok defs
unfolding definitions_in
read_for kinds text defs e = by (defs_of text) refl
  where
    there : (d : Defs) (o : Option Kind)
        → only_built (option_map_or (λ (kind : Kind). Err (bad.NoExit kind)) o (Ok d)) ≡ Ok defs → d ≡ defs
    there d (Some kind) all = absurd cc
    there d None all = built (are_built d) all
      where
        built : (b : Bool) → (if b then Ok d else Err (status.NotBuilt part.Definitions)) ≡ Ok defs → d ≡ defs
        built true all = cc
        built false all = absurd cc

    by : (r : Result Defs DefsFault) → defs_of text ≡ r → defs_of text ≡ Ok defs
    by (Ok d) is =
        let same : d ≡ defs = there d (lacking kinds d)
        (sym (ap (λ (x : Result Defs DefsFault). only_built (x >>= with_exits kinds)) is) ∙ e) in
        is ∙ ap (λ (x : Defs). Ok x) same
    by (Err fault) is =
        absurd (err_not_ok (sym (ap (λ (x : Result Defs DefsFault). only_built (x >>= with_exits kinds)) is) ∙ e))
      where
        err_not_ok : Err (status.Definitions fault) ≡ Ok defs → ⊥
        err_not_ok e = cc

-- and have no data entry database
pub none_for : (kinds : Kinds) (text : List ℕ) (defs : Defs) → definitions_in kinds text ≡ Ok defs → defs.dedbs ≡ []
unfolding definitions_in
none_for kinds text defs e = by (defs_for kinds text) e
  where
    no_length : (ds : List DedbDef) → (length ds == 0) ≡ true → ds ≡ []
    no_length [] is = refl
    no_length (d ∷ ds) is = let zero : length (d ∷ ds) ≡ 0 = eqb-true _ _ is in absurd (omega (arith, zero))

    by : (r : Result Defs DefsFault) → only_built r ≡ Ok defs → defs.dedbs ≡ []
    by (Err fault) all = absurd cc
    by (Ok d) all = built (are_built d) refl all
      where
        built : (b : Bool) → are_built d ≡ b
            → (if b then Ok d else Err (status.NotBuilt part.Definitions)) ≡ Ok defs → defs.dedbs ≡ []
        built false is all = absurd cc
        built true is all = let same : d ≡ defs = cc in
            no_length defs.dedbs (subst (λ (x : Defs). are_built x ≡ true) same is)

-- ---- answers of the parts in turn

pub or_refused : (kinds : Kinds) (left : Part → List ℕ) (command : Command) (a : Status) → MayStandIn a
    ⊎ (definitions_in kinds (left part.Definitions) ≡ Err a) → MayStandIn a ⊎ Refuses kinds left command a
or_refused kinds left command a (inl f) = inl f
or_refused kinds left command a (inr e) = inr (by_definitions e)

pub or_scripts : (kinds : Kinds) (left : Part → List ℕ) (command : Command) (defs : Defs) (text : List ℕ) (a : Status)
    → definitions_in kinds (left part.Definitions) ≡ Ok defs → text ≡ left part.Scripts
    → MayStandIn a ⊎ ((f : ScriptFault) × (a ≡ status.Scripts f) × HasFault defs text f) → MayStandIn a
    ⊎ Refuses kinds left command a
or_scripts kinds left command defs text a e same (inl f) = inl f
or_scripts kinds left command defs text a e same (inr (f, is, has)) =
    inr (subst (Refuses kinds left command) (sym is)
    (by_scripts e (subst (λ (t : List ℕ). HasFault defs t f) same has)))

pub or_schedule : (kinds : Kinds) (left left2 : Part → List ℕ) (command : Command) (job : Job) (a : Status)
    → IsJob kinds left job → left2 part.Schedule ≡ left part.Schedule
    → MayStandIn a ⊎ IsRefusedSchedule command job left2 a → MayStandIn a ⊎ Refuses kinds left command a
or_schedule kinds left left2 command job a is same (inl f) = inl f
or_schedule kinds left left2 Define job a is same (inr r) = absurd r
or_schedule kinds left left2 Show job a is same (inr r) = absurd r
or_schedule kinds left left2 Log job a is same (inr r) = absurd r
or_schedule kinds left left2 Migrate job a is same (inr r) = absurd r
or_schedule kinds left left2 Audit job a is same (inr r) = absurd r
or_schedule kinds left left2 Run job a is same (inr (f, e, bad)) =
    inr (subst (Refuses kinds left Run) (sym e) (by_schedule is
    (subst (λ (t : List ℕ). events_of job.defs t ≡ Err f) same bad)))

-- the first fault that is read of a schedule is the answer, unless memory ran out
pub bad_is_answer : (defs : Defs) (text : List ℕ) (fault : ScheduleFault)
    → (fault ≢ unfit.Memory → events_of defs text ≡ Err fault)
    → MayStandIn (status_of_schedule fault)
    ⊎ ((f : ScheduleFault) × (status_of_schedule fault ≡ status.Schedule f) × (events_of defs text ≡ Err f))
bad_is_answer defs text unfit.Memory is = inl tt
bad_is_answer defs text (unfit.BadToken place) is = inr (unfit.BadToken place, refl, is (λ e. cc))
bad_is_answer defs text unfit.TooMany is = inr (unfit.TooMany, refl, is (λ e. cc))
bad_is_answer defs text unfit.TooLong is = inr (unfit.TooLong, refl, is (λ e. cc))

-- the events of a schedule whose text is another part's
pub events_same : (command : Command) (job : Job) (left left2 : Part → List ℕ) (events : List Event)
    → left2 part.Schedule ≡ left part.Schedule → HasEventsFor command job left2 events
    → HasEventsFor command job left events
events_same Define job left left2 events same has = tt
events_same Show job left left2 events same has = tt
events_same Log job left left2 events same has = tt
events_same Migrate job left left2 events same has = tt
events_same Audit job left left2 events same has = tt
events_same Run job left left2 events same has =
    subst (λ (t : List ℕ). events_of job.defs t ≡ Ok events) same has

-- a command has its schedule where its events were read
pub schedule_had : (command : Command) (job : Job) (left : Part → List ℕ) (events : List Event)
    → HasEventsFor command job left events → HasSchedule command job left
schedule_had Define job left events has = tt
schedule_had Show job left events has = tt
schedule_had Log job left events has = tt
schedule_had Migrate job left events has = tt
schedule_had Audit job left events has = tt
schedule_had Run job left events has = (events, has)

pub same_events : (job : Job) (left : Part → List ℕ) (a b : List Event) → HasEvents job left a → HasEvents job left b
    → a ≡ b
same_events job left a b p q = one_good (events_of job.defs (left part.Schedule)) p q
  where
    one_good : (r : Result (List Event) ScheduleFault) → r ≡ Ok a → r ≡ Ok b → a ≡ b
    one_good r e f = cc

-- a command was named
pub no_word : {A : Type 0} {found : Option Command} {command : Command} → found ≡ Some command → found ≡ None → A
no_word e f = cc
