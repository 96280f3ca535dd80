-- The engine at rest: nothing is queued, held or locked, no region is at work, and all entries are sealed.
use Rattle.std.proofs.Common.{◌≡◌, refl, sym, ◌∙◌, ap, subst, arith, ℕ, zero, suc, ◌≤◌, List, [], ◌∷◌, length, map, replicate, None}
use Rattle.std.specs.Prelude.{sum_by}
use Rattle.std.specs.List.{AllByRecursion, AllZip}
use Rattle.std.proofs.lemmas.List.{length-map, length-replicate}
use Rattle.std.proofs.lemmas.List.Sums.{sum_by-cons}
use Rattle.std.proofs.Math.Seq.{drop-length}
use Rattle.balancing.specs.Backlog.{AreSame}
use Rattle.ci_locks.specs.Standing.{Shows}
use Rattle.ci_locks.specs.Table.{standing}
use Rattle.drain_laws.specs.Measure.{active_in, one_if_active}
use Rattle.fp_model.specs.declared.definitions.Defs.{Defs}
use Rattle.fp_model.specs.WellFormed.{AreDefs, AreGroups}
use Rattle.fp_model.specs.declared.name.Name.{Name}
use Rattle.fp_model.specs.declared.scripts.Script.{Script}
use Rattle.fp_model.specs.History.{History, place_of}
use Rattle.fp_model.specs.Lasts.{format_at, lasts_of}
use Rattle.fp_model.specs.Machine as machine
use Rattle.fp_model.specs.Machine.{Machine, at_rest}
use Rattle.fp_model.specs.Product.{groups_defined}
use Rattle.msdb_store.specs.Store.{IsOf}
use Rattle.fp_core.specs.declared.engine.Engine.{Engine}
use Rattle.fp_core.specs.declared.engine.Region.TheVariants as regions
use Rattle.fp_core.specs.Relation.{IsReadIn, IsRegion, IsSetup, StandsFor, owed_of, room_of, rules_in}
use Rattle.std.proofs.lemmas.Option.{slice_get_within}

-- idle regions of the code are those of the machine,
all_idle : (defs : Defs) (scripts : List Script) (groups : List ℕ)
    → AllZip (IsRegion defs scripts) (replicate (length groups) regions.Idle) (map (λ group. machine.Idle) groups)
all_idle defs scripts [] = tt
all_idle defs scripts (g ∷ gs) = (tt, all_idle defs scripts gs)

-- and count for nothing
sum_idle : (f : machine.Region → ℕ) → f machine.Idle ≡ 0 → (groups : List ℕ)
    → sum_by f (map (λ group. machine.Idle) groups) ≡ 0
sum_idle f none [] = refl
sum_idle f none (g ∷ gs) =
    omega (arith, none, sum_idle f none gs, sum_by-cons f machine.Idle (map (λ (group : ℕ). machine.Idle) gs))

-- and have no message
all_resting : (format : ℕ) (groups : List ℕ) → AllByRecursion (IsReadIn format) (map (λ group. machine.Idle) groups)
all_resting format [] = tt
all_resting format (g ∷ gs) = (tt, all_resting format gs)

-- in empty queues each message is anything
all_empty : {A : Type 0} (P : A → Type 0) (n : ℕ) → AllByRecursion (AllByRecursion P) (replicate n [])
all_empty P zero = tt
all_empty P (suc n) = (tt, all_empty P n)

-- there are regions, and each has its group
pub grouped : (defs : Defs) (regions : List ℕ) → AreDefs defs → regions ≡ defs.regions
    → (1 ≤ length regions) × AreGroups regions
grouped defs regions are same =
    subst (λ r. (1 ≤ length r) × AreGroups r) (sym same) (are.regions.0, are.groups)

-- So the engine stands for the machine at rest, behind any entries that come to its databases.
pub rests : (engine : Engine) (lines : List (List ℕ)) (h : History)
    → IsSetup engine.defs.now engine.scripts.now.scripts
    → engine.held ≡ None
    → engine.queues.queues ≡ replicate (groups_defined engine.defs.now) []
    → engine.queues.busy ≡ []
    → engine.regions ≡ replicate (length engine.defs.now.regions) regions.Idle
    → Shows (standing engine.locks) [] []
    → length engine.locks ≡ length engine.defs.now.regions
    → IsOf engine.defs.now.msdbs engine.store
    → h.now.msdbs ≡ engine.store.msdbs
    → place_of h ≡ engine.log.sealed
    → length h.past ≡ place_of h
    → format_at h.format h.entries ≡ engine.format
    → engine.lasts.terminals ≡ lasts_of h.format h.entries
    → engine.log.unsealed ≡ []
    → engine.owed.items ≡ []
    → engine.room ≡ 0
    → StandsFor engine (at_rest (rules_in engine) lines h)
rests engine lines h setup held queues busy idle locks rows of msdbs sealed past format lasts unsealed owed room =
    record {
      setup = setup;
      held = held;
      held_short = tt;
      queues = queues;
      groups = length-replicate (groups_defined engine.defs.now) [];
      takeable = all_empty _ (groups_defined engine.defs.now);
      busy = subst (λ (names : List Name). AreSame names []) (sym busy) (λ name. refl);
      regions = subst (λ rs. AllZip (IsRegion engine.defs.now engine.scripts.now.scripts) rs
          (map (λ group. machine.Idle) engine.defs.now.regions)) (sym idle)
          (all_idle engine.defs.now engine.scripts.now.scripts engine.defs.now.regions);
      numbers = length-map engine.defs.now.regions (λ group. machine.Idle);
      locks = locks;
      rows = rows ∙ sym (ap length idle ∙ length-replicate (length engine.defs.now.regions) regions.Idle);
      of = of;
      msdbs = msdbs;
      past = past;
      format = format;
      read = all_resting engine.format engine.defs.now.regions;
      lasts = lasts;
      places =
          let idle_all : active_in (map (λ group. machine.Idle) engine.defs.now.regions) ≡ 0 =
          sum_idle one_if_active refl engine.defs.now.regions in
          omega (arith, idle_all);
      count =
          let none : length engine.log.unsealed ≡ 0 = ap length unsealed in
          omega (arith, none, sealed);
      sealed = sym sealed;
      unsealed = unsealed ∙ sym (drop-length h.entries);
      owed = owed ∙ ap (map owed_of) (sym unsealed);
      made = λ place before after e first was is then.
          absurd (omega (arith, first, slice_get_within h.entries place e is));
      room = room ∙ sym (sum_idle room_of refl engine.defs.now.regions);
      spare = omega (arith, room);
      slots =
          let none : length engine.owed.items ≡ 0 = ap length owed in
          let idle_all : active_in (map (λ group. machine.Idle) engine.defs.now.regions) ≡ 0 =
          sum_idle one_if_active refl engine.defs.now.regions in
          omega (arith, none, idle_all);
    }
