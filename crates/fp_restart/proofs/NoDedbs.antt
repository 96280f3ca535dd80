-- A history of definitions without data entry databases leads to states that have none.
use Rattle.std.proofs.Common.{◌≡◌, refl, sym, ◌∙◌, ap, subst, map, take, ℕ, zero, suc, ◌-◌, List, [], ◌∷◌, Bool, true, false, Some, None, if◌then◌else◌, slice_get}
use Rattle.std.specs.Prelude.{nat_lt, find}
use Rattle.std.specs.Option.{option_map_or}
use Rattle.fp_model.specs.declared.calls.AnchorChange.{AnchorChange}
use Rattle.fp_model.specs.declared.calls.Call.{Call}
use Rattle.fp_model.specs.declared.calls.Message.{Message}
use Rattle.fp_model.specs.declared.calls.SeqInsert.{SeqInsert}
use Rattle.fp_model.specs.declared.database.Db.{Db}
use Rattle.fp_model.specs.declared.database.Dedb.{Dedb}
use Rattle.fp_model.specs.declared.database.Msdb.{Msdb}
use Rattle.fp_model.specs.declared.definitions.DedbDef.{DedbDef}
use Rattle.fp_model.specs.declared.definitions.Defs.{Defs}
use Rattle.fp_model.specs.declared.log.Entry.{Entry}
use Rattle.fp_model.specs.declared.log.Outcome.{Outcome}
use Rattle.fp_model.specs.declared.log.Outcome.TheVariants as outcome
use Rattle.fp_model.specs.declared.scripts.Script.{Script}
use Rattle.fp_model.specs.Commit.{numbered_at, purged, purged_area, settled_to, settlement, takes, with_anchors, with_insert, with_inserts, with_msdbs}
use Rattle.fp_model.specs.History.{History, beginning, states_of, with_entry}
use Rattle.fp_model.specs.SerialHistory.{EndsAlone, LeadsOn, IsSerialHistory, Leads}
use Rattle.fp_model.specs.Product.{rules_of}
use Rattle.fp_model.specs.Asking.{Ask, Asks, Replies, Rolls}
use Rattle.fp_model.specs.Serial.{Alone, Ends, Ending, Stuck, Point, after_call, asked, begun, called, goes, refused_as, serial_run, settled_as, state_at, with_all}
use Rattle.fp_model.specs.Settle.{Settled, Stands, VerifyFails, settle}
use Rattle.fp_model.specs.State.{Area, areas_of, areas_of_all, first_area_set, formatted, with_roots}
use Rattle.fp_model.specs.Workspace.{Workspace}

abbrev HasNone : Db → Type 0
HasNone db = db.dedbs ≡ []

-- ---- the sync point

anchors_none : (changes : List AnchorChange) (db : Db) → HasNone db → HasNone (with_anchors changes db)
anchors_none [] db h = h
anchors_none (c ∷ changes) db h = anchors_none changes (with_roots c.dedb c.anchor c.roots db) (rw h refl)

module _ (defs : Defs) (none : defs.dedbs ≡ []) where
  no_areas : areas_of defs ≡ []
  no_areas = ap (λ (ds : List DedbDef). areas_of_all 0 ds) none

  insert_none : (db : Db) (i : SeqInsert) → with_insert defs db i ≡ db
  insert_none db i = ap (λ (areas : List Area). option_map_or (λ area. numbered_at defs i area db)
      (find (λ area. takes area i) areas) db) no_areas

  inserts_none : (inserts : List SeqInsert) (db : Db) → HasNone db → HasNone (with_inserts defs inserts db)
  inserts_none [] db h = h
  inserts_none (i ∷ inserts) db h = inserts_none inserts (with_insert defs db i) (rw (insert_none db i) h)

  module _ (scripts : List Script) (now : Db) (h : HasNone now) (states : List Db) (message : Message) where
    -- an end in a state without any
    abbrev EndsNone : Alone → Type 0
    EndsNone (Ends ending) = HasNone ending.next
    EndsNone Stuck = Unit {0}

    settled_none : (own : Workspace) (reply : List ℕ) (s : Settled)
        → HasNone (settled_as now reply (settled_to defs now own s)).next
    settled_none own reply (VerifyFails call fsa found) = h
    settled_none own reply (Stands msdbs) =
        rw no_areas (inserts_none own.inserts (with_anchors own.changes (with_msdbs msdbs now))
        (anchors_none own.changes (with_msdbs msdbs now) h))

    settlement_none : (own : Workspace) (reply : List ℕ) → HasNone (settled_as now reply (settlement defs now own)).next
    unfolding settlement
    settlement_none own reply = settled_none own reply (settle defs.msdbs now.msdbs own.deferred)

    all_none : (notes : List ℕ) (ending : Ending) → HasNone ending.next → EndsNone (with_all notes ending)
    all_none [] ending g = g
    all_none (n ∷ notes) ending g = tt

    called_none : (b : Bool) (point : Point) (call : Call) (notes : List ℕ) (rest : Point → List ℕ → Alone)
        → ((p : Point) (ns : List ℕ) → EndsNone (rest p ns))
        → EndsNone (called (rules_of defs scripts) now states message b point call notes rest)
    called_none true point call [] rest g = tt
    called_none true point call (note ∷ notes) rest g =
        g (after_call (rules_of defs scripts) now (state_at (rules_of defs scripts).start states note) point call) notes
    called_none false point call notes rest g = g (after_call (rules_of defs scripts) now now point call) notes

    asked_none : (ask : Ask) (point : Point) (notes : List ℕ) (rest : Point → List ℕ → Alone)
        → ((p : Point) (ns : List ℕ) → EndsNone (rest p ns))
        → EndsNone (asked (rules_of defs scripts) now states message ask point notes rest)
    asked_none (Asks call) point notes rest g = called_none ((rules_of defs scripts).looks point.own call) point call
        notes rest g
    asked_none (Replies reply) point notes rest g =
        all_none notes (settled_as now reply (settlement defs now point.own)) (settlement_none point.own reply)
    asked_none (Rolls code) point notes rest g = all_none notes (refused_as (outcome.Roll code) now) h

    goes_none : (n : ℕ) (point : Point) (notes : List ℕ)
        → EndsNone (goes (rules_of defs scripts) now states message n point notes)
    goes_none zero point notes = tt
    goes_none (suc n) point notes =
        asked_none ((rules_of defs scripts).ask message point.answers) point notes
        (goes (rules_of defs scripts) now states message n) (goes_none n)

    run_none : (notes : List ℕ) (ending : Ending) → serial_run (rules_of defs scripts) now states message notes ≡ Ends
        ending → HasNone ending.next
    run_none notes ending e =
        subst EndsNone e (goes_none (suc ((rules_of defs scripts).budget message)) (begun (rules_of defs scripts))
        notes)

  -- ---- histories

  no_purge : (set n : ℕ) (now next : Db) → purged defs set n now ≡ Some next → HasNone next
  unfolding purged
  no_purge set n now next e = either (nat_lt set first_area_set) (rw no_areas at e)
    where
      either : (b : Bool)
          → option_map_or (λ area. if nat_lt 0 area.def.capacity then Some (purged_area area n now) else None)
          (if b then None else slice_get [] (set - first_area_set)) None ≡ Some next
          → HasNone next
      either true e = absurd cc
      either false e = absurd cc

  alone_none : (scripts : List Script) (h : History) (e : Entry) (next : Db) → HasNone h.now
      → EndsAlone (rules_of defs scripts) h e next → HasNone next
  alone_none scripts h e next none l =
      run_none scripts h.now none (states_of h) l.message e.notes
      (record { outcome = e.outcome; reply = e.reply; next = next }) l.ends

  leads_none : (scripts : List Script) (h : History) (e : Entry) (o : Outcome) (next : Db)
      → HasNone h.now → Leads (rules_of defs scripts) h e o next → HasNone next
  leads_none scripts h e outcome.Done next none l = alone_none scripts h e next none l
  leads_none scripts h e (outcome.Verify call fsa found) next none l = alone_none scripts h e next none l
  leads_none scripts h e (outcome.Roll code) next none l = alone_none scripts h e next none l
  leads_none scripts h e (outcome.SeqFull set begin end n) next none l = alone_none scripts h e next none l
  leads_none scripts h e (outcome.Deadlock cycle) next none l = rw l.same none
  leads_none scripts h e outcome.Device next none l = rw l.same none
  leads_none scripts h e outcome.Memory next none l = rw l.same none
  leads_none scripts h e outcome.Unknown next none l = rw l.1 none
  leads_none scripts h e (outcome.Old last) next none l = rw l.1 none
  leads_none scripts h e (outcome.Repeat line) next none l = rw l.1 none
  leads_none scripts h e (outcome.Purge set n) next none l = no_purge set n h.now next l
  leads_none scripts h e outcome.Format next none l = rw l.1 none

  history_none : (scripts : List Script) (h : History) (entries : List Entry) (h2 : History)
      → HasNone h.now → LeadsOn (rules_of defs scripts) h entries h2 → HasNone h2.now
  history_none scripts h [] h2 none g = rw g none
  history_none scripts h (e ∷ es) h2 none g =
      history_none scripts (with_entry e g.0 h) es h2 (leads_none scripts h e e.outcome g.0 none g.1.leads) g.2

  -- The last state has none.
  pub last_has_none : (scripts : List Script) (format : ℕ) (entries : List Entry) (last : Db)
      → IsSerialHistory (rules_of defs scripts) format entries last → last.dedbs ≡ []
  last_has_none scripts format entries last h =
      let start_has_none : HasNone (rules_of defs scripts).start = ap (λ (ds : List DedbDef). map formatted ds) none in
      subst HasNone h.ends
      (history_none scripts (beginning format (rules_of defs scripts).start) entries h.history start_has_none h.leads)

-- a state by its parts
by_parts : (last : Db) (msdbs : List Msdb) (dedbs : List Dedb) → msdbs ≡ last.msdbs → dedbs ≡ last.dedbs
    → record { msdbs = msdbs; dedbs = dedbs } ≡ last
by_parts last msdbs dedbs e f = rw (e, f) refl

-- no part of nothing is something
none_taken : (n : ℕ) (ds : List DedbDef) → ds ≡ [] → map formatted (take n ds) ≡ []
none_taken zero ds e = refl
none_taken (suc n) ds e = rw e refl

-- The state that entries lead to, by its main storage databases.
pub state_is : (defs : Defs) → defs.dedbs ≡ [] → (scripts : List Script) (format : ℕ) (entries : List Entry) (last : Db)
    → IsSerialHistory (rules_of defs scripts) format entries last
    → (msdbs : List Msdb) (dedbs : List Dedb) (n : ℕ) → msdbs ≡ last.msdbs → dedbs ≡ map formatted (take n defs.dedbs)
    → record { msdbs = msdbs; dedbs = dedbs } ≡ last
state_is defs none scripts format entries last h msdbs dedbs n e f =
    by_parts last msdbs dedbs e (f ∙ none_taken n defs.dedbs none ∙ sym
    (last_has_none defs none scripts format entries last h))
