-- Exact turns are determined: from one machine an event, with the same befalling it, leads to one machine.
use Rattle.std.proofs.Common.{◌≡◌, ◌⊎◌, inl, inr, refl, sym, ◌∙◌, ap, subst, arith, ℕ, zero, suc, List, [], ◌∷◌, ◌++◌, length, map, Option, Some, None}
use Rattle.std.specs.Prelude.{Bool, true, false, drop, if◌then◌else◌, slice_get}
use Rattle.std.specs.List.{AllByRecursion, AllZip, list_any}
use Rattle.std.specs.Option.{option_map_or}
use Rattle.std.proofs.lemmas.List.{length-append, length-map, map-append}
use Rattle.ci_locks.specs.Cycles.{first_cycle}
use Rattle.fp_model.specs.declared.calls.Message.{Message}
use Rattle.fp_model.specs.declared.database.Db.{Db}
use Rattle.fp_model.specs.declared.database.Msdb.{Msdb}
use Rattle.fp_model.specs.declared.definitions.Defs.{Defs}
use Rattle.fp_model.specs.declared.events.Event.{Event}
use Rattle.fp_model.specs.declared.events.Event.TheVariants as event
use Rattle.fp_model.specs.declared.log.Entry.{Entry}
use Rattle.fp_model.specs.declared.log.Item.{Item}
use Rattle.fp_model.specs.declared.log.Item.TheVariants.{Segment, Image, Range}
use Rattle.fp_model.specs.declared.log.Outcome.{Outcome}
use Rattle.fp_model.specs.declared.log.Outcome.TheVariants as outcome
use Rattle.fp_model.specs.declared.scripts.Script.{Script}
use Rattle.fp_model.specs.CheckpointText.{IsMsdbOf}
use Rattle.fp_model.specs.History.{History, Request, Accepts, Refuses}
use Rattle.fp_model.specs.Items.{IsFit as IsFitItem}
use Rattle.fp_model.specs.Machine.{Transaction, Region, Idle, Active, Machine, is_among, next_line, taken_in, terminal_in, with_line, with_request_of, without_line}
use Rattle.fp_model.specs.Product.{rules_of}
use Rattle.fp_model.specs.Rules.{Rules}
use Rattle.fp_model.specs.Runs.{RunStep}
use Rattle.fp_model.specs.Turns.{Environment, NoFault, DeviceFault, OutOfMemory, RegionTurn, Turn, AreItemsFor, begins_in, messages_for}
use Rattle.fp_model.specs.Waiting.{Lock}
use Rattle.fp_model.proofs.FrameLemmas.{turn_keeps}
use Rattle.msdb_store.specs.Settling.{IsSegmentItem}
use Rattle.msdb_store.specs.Store.{IsFitSegment}
use Rattle.msdb_store.proofs.ItemLemmas.{items_are_one, still_of}
use Rattle.run_laws.specs.Determined.{plain, plain_entry, whole}
use Rattle.run_laws.proofs.OneValue.{runs_found}
use Rattle.fp_core.specs.Turning.{AreItemsOf, HasItsItems, IsExactOfRegion, IsExactTurn}
use Rattle.fp_core.proofs.Exacts.{Adds, AddsNone, AddsOne, done_or_not, names_first, turn_adds, last_same}

-- ---- items

fits : (defs : Defs) (items : List Item) → AllByRecursion IsSegmentItem items → AllByRecursion (IsFitItem defs) items
    → AllByRecursion (IsFitSegment defs.msdbs) items
fits defs [] segments fit = tt
fits defs (Segment n k b ∷ items) segments fit = (fit.0, fits defs items segments.1 fit.1)
fits defs (Image set ci b ∷ items) segments fit = absurd segments.0
fits defs (Range set ci at b ∷ items) segments fit = absurd segments.0

-- the items of what is done are one list
own_items : (defs : Defs) (rules : Rules) (m : Machine) (t : Transaction) (next : Db) (xs ys : List Item)
    → AllZip IsMsdbOf defs.msdbs m.history.now.msdbs
    → HasItsItems defs rules m t outcome.Done next xs → HasItsItems defs rules m t outcome.Done next ys → xs ≡ ys
own_items defs rules m t next xs ys of x y =
    items_are_one defs.msdbs m.history.now.msdbs next.msdbs xs ys of
    x.kinds (fits defs xs x.kinds x.fit) x.in_order x.made
    y.kinds (fits defs ys y.kinds y.fit) y.in_order y.made
    (λ n k it. (y.keys n k).1 ((x.keys n k).0 it))
    (λ n k it. (x.keys n k).1 ((y.keys n k).0 it))

-- what isn't done has none
no_items : (o : Outcome) (items : List Item) → ¬ (o ≡ outcome.Done) → AreItemsFor o items → items ≡ []
no_items outcome.Done items other none = absurd (other refl)
no_items (outcome.Verify call fsa found) items other none = none
no_items (outcome.Roll code) items other none = none
no_items (outcome.SeqFull set begin end n) items other none = none
no_items (outcome.Deadlock cycle) items other none = none
no_items outcome.Device items other none = none
no_items outcome.Memory items other none = none
no_items outcome.Unknown items other none = none
no_items (outcome.Old last) items other none = none
no_items (outcome.Repeat line) items other none = none
no_items (outcome.Purge set n) items other none = none
no_items outcome.Format items other none = none

-- ---- machines that are alike but for items

-- an entry is what it is but for its items, and these
entry_back : (a b : Entry) → plain_entry whole a ≡ plain_entry whole b → a.items ≡ b.items → a ≡ b
entry_back a b same items =
    let with : Entry → List Item → Entry = λ e is. record e { items = is } in
    ap (λ (e : Entry). with e a.items) same ∙ ap (λ (is : List Item). with (plain_entry whole b) is) items

-- a machine is what it is but for items, with its entries and groups
machine_back : (a b : Machine) → plain whole a ≡ plain whole b → a.history.entries ≡ b.history.entries
    → a.groups ≡ b.groups → a ≡ b
machine_back a b same entries groups =
    let with : Machine → List Entry → List (List Entry) → Machine
    = λ m es gs. record m { history = record m.history { entries = es }; groups = gs } in
    ap (λ (m : Machine). with m a.history.entries a.groups) same
    ∙ ap (λ (es : List Entry). with (plain whole b) es a.groups) entries
    ∙ ap (λ (gs : List (List Entry)). with (plain whole b) b.history.entries gs) groups

module _ (defs : Defs) (rules : Rules) (m : Machine) (t : Transaction)
    (of : AllZip IsMsdbOf defs.msdbs m.history.now.msdbs) where
  count_of : (m2 m3 : Machine) → plain whole m2 ≡ plain whole m3
      → length m2.history.entries ≡ length m3.history.entries
  count_of m2 m3 same =
      sym (length-map m2.history.entries (plain_entry whole))
      ∙ ap (λ (x : Machine). length x.history.entries) same
      ∙ length-map m3.history.entries (plain_entry whole)

  -- So are what two exact acts add, where all else is the same.
  entries_are_one : (m2 m3 : Machine) → plain whole m2 ≡ plain whole m3 → Adds defs rules m t m2
      → Adds defs rules m t m3 → m2.history.entries ≡ m3.history.entries
  entries_are_one m2 m3 same (AddsNone a) (AddsNone b) =
      ap (λ (h : History). h.entries) a ∙ sym (ap (λ (h : History). h.entries) b)
  entries_are_one m2 m3 same (AddsNone a) (AddsOne e is items its stays) =
      absurd (omega (
        arith,
        count_of m2 m3 same,
        ap (λ (h : History). length h.entries) a,
        ap (λ (es : List Entry). length es) is,
        length-append m.history.entries (e ∷ []),
      ))
  entries_are_one m2 m3 same (AddsOne e is items its stays) (AddsNone b) =
      absurd (omega (
        arith,
        count_of m2 m3 same,
        ap (λ (h : History). length h.entries) b,
        ap (λ (es : List Entry). length es) is,
        length-append m.history.entries (e ∷ []),
      ))
  entries_are_one m2 m3 same (AddsOne e is items its stays) (AddsOne e2 is2 items2 its2 stays2) =
      let seen = plain_entry whole in
      let front = map seen m.history.entries in
      let alike : seen e ≡ seen e2 = last_same front (seen e) (seen e2)
      (sym (ap (map seen) is ∙ map-append seen m.history.entries (e ∷ []))
      ∙ ap (λ (x : Machine). x.history.entries) same
      ∙ ap (map seen) is2 ∙ map-append seen m.history.entries (e2 ∷ [])) in
      let next : m2.history.now ≡ m3.history.now = ap (λ (x : Machine). x.history.now) same in
      let kind : e.outcome ≡ e2.outcome = ap (λ (x : Entry). x.outcome) alike in
      is ∙ ap (λ (x : Entry). m.history.entries ++ x ∷ [])
      (entry_back e e2 alike (by next kind (done_or_not e.outcome)))
      ∙ sym is2
    where
      by : m2.history.now ≡ m3.history.now → e.outcome ≡ e2.outcome
          → (e.outcome ≡ outcome.Done) ⊎ ¬ (e.outcome ≡ outcome.Done) → e.items ≡ e2.items
      by next kind (inl done) =
          own_items defs rules m t m2.history.now e.items e2.items of
          (subst (λ (o : Outcome). HasItsItems defs rules m t o m2.history.now e.items) done its)
          (subst (λ (d : Db). HasItsItems defs rules m t outcome.Done d e2.items) (sym next)
          (subst (λ (o : Outcome). HasItsItems defs rules m t o m3.history.now e2.items) (sym kind ∙ done) its2))
      by next kind (inr other) =
          no_items e.outcome e.items other items
          ∙ sym (no_items e2.outcome e2.items (λ done. other (kind ∙ done)) items2)

  -- and the databases behind them are of the definitions
  adds_of : (m2 : Machine) → Adds defs rules m t m2 → AllZip IsMsdbOf defs.msdbs m2.history.now.msdbs
  adds_of m2 (AddsNone a) =
      subst (λ (h : History). AllZip IsMsdbOf defs.msdbs h.now.msdbs) (sym a) of
  adds_of m2 (AddsOne e is items its stays) = by (done_or_not e.outcome)
    where
      by : (e.outcome ≡ outcome.Done) ⊎ ¬ (e.outcome ≡ outcome.Done)
          → AllZip IsMsdbOf defs.msdbs m2.history.now.msdbs
      by (inl done) =
          let own : AreItemsOf defs t.point.own.deferred m.history.now.msdbs m2.history.now.msdbs e.items
          = subst (λ (o : Outcome). HasItsItems defs rules m t o m2.history.now e.items) done its in
          subst (λ (ms : List Msdb). AllZip IsMsdbOf defs.msdbs ms) own.made
          (still_of defs.msdbs e.items m.history.now.msdbs of own.kinds (fits defs e.items own.kinds own.fit))
      by (inr other) = subst (λ (d : Db). AllZip IsMsdbOf defs.msdbs d.msdbs) (sym (stays other)) of

-- ---- turns

-- a region that takes a message adds no entry
begins_history : (rules : Rules) (m : Machine) (place : ℕ) (messages : List Message)
    → (begins_in rules m (suc place) messages).history ≡ m.history
begins_history rules m place [] = refl
begins_history rules m place (message ∷ messages) = refl

-- IN leaves the databases
request_now : (rules : Rules) (line : List ℕ) (r : Request) (m : Machine)
    → (with_request_of rules line r m).history.now ≡ m.history.now
request_now rules line (Accepts message) m = refl
request_now rules line (Refuses o) m = refl

line_now : (rules : Rules) (line : List ℕ) (m : Machine) → (with_line rules line m).history.now ≡ m.history.now
line_now rules line m = by (list_any (is_among m.busy) (terminal_in (rules.terminal_of line)))
  where
    by : (b : Bool) → (if b then record m { held = Some line }
        else with_request_of rules line (rules.request_of m.history line) m).history.now ≡ m.history.now
    by true = refl
    by false = request_now rules line (rules.request_of m.history line) m

off_now : (m : Machine) → (without_line m).history.now ≡ m.history.now
off_now m = by m.held
  where
    by : (o : Option (List ℕ)) → (option_map_or (λ line. record m { held = None }) o
        (record m { lines = drop 1 m.lines })).history.now ≡ m.history.now
    by None = refl
    by (Some line) = refl

in_now : (rules : Rules) (m : Machine) → (taken_in rules m).history.now ≡ m.history.now
in_now rules m = by (next_line m)
  where
    by : (o : Option (List ℕ)) → (option_map_or (λ line. with_line rules line (without_line m)) o m).history.now
        ≡ m.history.now
    by None = refl
    by (Some line) = line_now rules line (without_line m) ∙ off_now m

-- databases of the definitions stay so
pub of_turn : (defs : Defs) (rules : Rules) (m : Machine) (e : Event) (v : Environment) (m2 : Machine)
    → AllZip IsMsdbOf defs.msdbs m.history.now.msdbs → Turn rules m e v m2 → IsExactTurn defs rules m e v m2
    → AllZip IsMsdbOf defs.msdbs m2.history.now.msdbs
of_turn defs rules m e v m2 of turn exact = by e v turn exact
  where
    same_now : m2.history.now ≡ m.history.now → AllZip IsMsdbOf defs.msdbs m2.history.now.msdbs
    same_now same = subst (λ (d : Db). AllZip IsMsdbOf defs.msdbs d.msdbs) (sym same) of

    of_region : (place : ℕ) (o : Option Region) (w : Environment) → RegionTurn rules m (suc place) o w m2
        → IsExactOfRegion defs rules m (suc place) o w m2 → AllZip IsMsdbOf defs.msdbs m2.history.now.msdbs
    of_region place None w t x = absurd t
    of_region place (Some Idle) NoFault t x = same_now (ap (λ (y : Machine). y.history.now) t
        ∙ ap (λ (h : History). h.now) (begins_history rules m place (messages_for rules m (suc place))))
    of_region place (Some Idle) DeviceFault t x = absurd t
    of_region place (Some Idle) OutOfMemory t x = absurd t
    of_region place (Some (Active a)) w t x =
        adds_of defs rules m a of m2 (turn_adds defs rules m place a w m2 t x)

    by : (e : Event) (v : Environment) → Turn rules m e v m2 → IsExactTurn defs rules m e v m2
        → AllZip IsMsdbOf defs.msdbs m2.history.now.msdbs
    by event.In NoFault t x = same_now (ap (λ (y : Machine). y.history.now) t ∙ in_now rules m)
    by event.In DeviceFault t x = absurd t
    by event.In OutOfMemory t x = absurd t
    by (event.Region zero) w t x = absurd t
    by (event.Region (suc place)) w t x = of_region place (slice_get m.regions place) w t x
    by event.Log w t x = same_now (ap (λ (h : History). h.now) (turn_keeps rules m event.Log w m2 t).3)
    by event.Out w t x = same_now (ap (λ (y : Machine). y.history.now) t)
    by event.Ckpt w t x = same_now (ap (λ (h : History). h.now) (turn_keeps rules m event.Ckpt w m2 t).3)
    by (event.Purge set n) w t x = absurd x

module _ (defs : Defs) (scripts : List Script) where
  abbrev search : List Lock → List Lock → ℕ → List ℕ
  search requests locks region = first_cycle (length (rules_of defs scripts).regions) requests locks region

  -- two exact turns of an event are alike but for items,
  alike : (m : Machine) (e : Event) (v : Environment) (m2 m3 : Machine)
      → Turn (rules_of defs scripts) m e v m2 → IsExactTurn defs (rules_of defs scripts) m e v m2
      → Turn (rules_of defs scripts) m e v m3 → IsExactTurn defs (rules_of defs scripts) m e v m3
      → plain whole m2 ≡ plain whole m3
  alike m e v m2 m3 turn exact turn2 exact2 =
      let s : RunStep = record { event = e; environment = v; after = m2 } in
      let s2 : RunStep = record { event = e; environment = v; after = m3 } in
      (runs_found defs scripts search m (s ∷ []) (s2 ∷ []) m2 m3 (turn, refl) (turn2, refl) refl
      (names_first defs (rules_of defs scripts) m v m2 e turn exact, tt)
      (names_first defs (rules_of defs scripts) m v m3 e turn2 exact2, tt)).1

  -- and so they are one.
  pub turn_is_one : (m : Machine) (e : Event) (v : Environment) (m2 m3 : Machine)
      → AllZip IsMsdbOf defs.msdbs m.history.now.msdbs
      → Turn (rules_of defs scripts) m e v m2 → IsExactTurn defs (rules_of defs scripts) m e v m2
      → Turn (rules_of defs scripts) m e v m3 → IsExactTurn defs (rules_of defs scripts) m e v m3
      → m2 ≡ m3
  turn_is_one m e v m2 m3 of turn exact turn2 exact2 =
      by e v turn exact turn2 exact2 (alike m e v m2 m3 turn exact turn2 exact2)
    where
      of_region : (place : ℕ) (o : Option Region) (w : Environment)
          → RegionTurn (rules_of defs scripts) m (suc place) o w m2
          → IsExactOfRegion defs (rules_of defs scripts) m (suc place) o w m2
          → RegionTurn (rules_of defs scripts) m (suc place) o w m3
          → IsExactOfRegion defs (rules_of defs scripts) m (suc place) o w m3
          → plain whole m2 ≡ plain whole m3 → m2.groups ≡ m3.groups → m2 ≡ m3
      of_region place None w t x t2 x2 same groups = absurd t
      of_region place (Some Idle) NoFault t x t2 x2 same groups = t ∙ sym t2
      of_region place (Some Idle) DeviceFault t x t2 x2 same groups = absurd t
      of_region place (Some Idle) OutOfMemory t x t2 x2 same groups = absurd t
      of_region place (Some (Active a)) w t x t2 x2 same groups =
          machine_back m2 m3 same
          (entries_are_one defs (rules_of defs scripts) m a of m2 m3 same
          (turn_adds defs (rules_of defs scripts) m place a w m2 t x)
          (turn_adds defs (rules_of defs scripts) m place a w m3 t2 x2)) groups

      by : (e : Event) (v : Environment)
          → Turn (rules_of defs scripts) m e v m2 → IsExactTurn defs (rules_of defs scripts) m e v m2
          → Turn (rules_of defs scripts) m e v m3 → IsExactTurn defs (rules_of defs scripts) m e v m3
          → plain whole m2 ≡ plain whole m3 → m2 ≡ m3
      by event.In NoFault t x t2 x2 same = t ∙ sym t2
      by event.In DeviceFault t x t2 x2 same = absurd t
      by event.In OutOfMemory t x t2 x2 same = absurd t
      by (event.Region zero) w t x t2 x2 same = absurd t
      by (event.Region (suc place)) w t x t2 x2 same =
          of_region place (slice_get m.regions place) w t x t2 x2 same
          ((turn_keeps (rules_of defs scripts) m (event.Region (suc place)) w m2 t).1.groups
          ∙ sym (turn_keeps (rules_of defs scripts) m (event.Region (suc place)) w m3 t2).1.groups)
      by event.Log NoFault t x t2 x2 same = t ∙ sym t2
      by event.Log DeviceFault t x t2 x2 same = absurd t
      by event.Log OutOfMemory t x t2 x2 same = absurd t
      by event.Out w t x t2 x2 same = t ∙ sym t2
      by event.Ckpt NoFault t x t2 x2 same = t ∙ sym t2
      by event.Ckpt DeviceFault t x t2 x2 same = t ∙ sym t2
      by event.Ckpt OutOfMemory t x t2 x2 same = absurd t
      by (event.Purge set n) w t x t2 x2 same = absurd x
