-- A transaction goes on to its next call, or ends.
use Rattle.std.proofs.Common.{refl, ◌≡◌, ◌∙◌, sym, ap, ℕ, suc, ◌+◌, ◌-◌, ◌<◌, ◌≤◌, List, [], ◌∷◌, ◌++◌, length, drop, Bool, true, false, Option, Some, None, slice_get, length-append, arith, subst}
use Rattle.std.specs.Prelude.{nat_lt, option_map, if◌then◌else◌, unwrap_or}
use Rattle.std.specs.List.{AllByRecursion}
use Rattle.std.specs.Option.{option_map_or}
use Rattle.std.proofs.lemmas.Bool.Decides.{nat_tests}
use Rattle.fp_model.specs.declared.calls.Answer.{Answer}
use Rattle.fp_model.specs.declared.calls.Call.{Call}
use Rattle.fp_model.specs.declared.database.Db.{Db}
use Rattle.fp_model.specs.declared.log.Outcome.TheVariants as outcome
use Rattle.fp_model.specs.declared.scripts.Script.{Script}
use Rattle.fp_model.specs.Workspace.{Workspace}
use Rattle.fp_model.specs.Asking.{Ask, Asks, Replies, Rolls, ask, full_cost}
use Rattle.fp_model.specs.Answers.{Replied}
use Rattle.fp_model.specs.Calls.{database_of, looks_unheld, reply_to, target_of}
use Rattle.fp_model.specs.Commit.{settlement}
use Rattle.fp_model.specs.FitCalls.{FitsTarget, IsTied, shown_behind}
use Rattle.fp_model.specs.Shape.{IsDbOf}
use Rattle.fp_model.specs.WellFormed.{AreDefs}
use Rattle.fp_model.specs.Serial.{Alone, Ending, Ends, Point, Stuck, asked, called, goes, with_all, with_reply}
use Rattle.fp_model.specs.Serial as serial
use Rattle.fp_model.proofs.ProgramLemmas.{calls_below_cost}
use Rattle.past_segments.specs.Pasts.{databases_at}
use Rattle.dedb_calls.specs.Anchors.{Sees}
use Rattle.past_calls.specs.Progress.{IsWorkOf, Progress}
use Rattle.state_laws.specs.Workspaces.{FitsWorkspace}
use Rattle.state_laws.proofs.Answering.{answer_keeps}
use Rattle.state_laws.proofs.Ties.{answer_tied}
use Rattle.txn_machine.specs.Running.{IsAt, IsFit, WaitsFor, types_shown}
use Rattle.txn_machine.specs.declared.program.Program.{Program}
use Rattle.past_replay.specs.declared.running.End.{End}
use Rattle.past_replay.specs.declared.running.End.TheVariants as ends
use Rattle.past_replay.specs.declared.running.Look.{Look}
use Rattle.past_replay.specs.declared.running.Rerun.{Rerun}
use Rattle.past_replay.specs.declared.running.Running.{Running}
use Rattle.past_replay.specs.inside.Running.{IsAsking, IsEnd, IsKept, IsUnderWay, alone_on, end_with, ended, look_of, now_of, rules_in}
use Rattle.past_replay.specs.States.{AreStatesOf}
use Rattle.past_replay.proofs.ListLemmas.{drop_none, each_has}
use Rattle.plain_laws.proofs.Places.{drop_got, get_there}
use Rattle.plain_laws.proofs.Lists.{drop_whole}
use Rattle.std.proofs.lemmas.Option.{same_Some, slice_get_within}
use Rattle.plain_laws.proofs.Options.{some_isnt_none}

-- ---- its end

-- every note has to be used
all_used : (notes : List ℕ) (used : ℕ) (ending : Ending)
    → with_all (drop used notes) ending ≡ (if nat_lt used (length notes) then Stuck else Ends ending)
all_used notes used ending = by (nat_lt used (length notes)) refl
  where
    by : (b : Bool) → nat_lt used (length notes) ≡ b
        → with_all (drop used notes) ending ≡ (if b then Stuck else Ends ending)
    by true e =
        let there = get_there notes used (grind (arith, nat_tests)) in
        ap (λ ns. with_all ns ending) (drop_got notes used there.0 there.1)
    by false e = ap (λ ns. with_all ns ending) (drop_whole notes used (grind (arith, nat_tests)))

-- ---- states

-- the main storage databases of the state that a note names
noted : (it : Rerun) (now : Db) (states : List Db) (start : Db) (note : ℕ)
    → AreStatesOf it.pasts.now it.anchors.now it.place now states → note ≤ it.place
    → (serial.state_at start states note).msdbs ≡ databases_at note it.pasts.now
noted it now states start note are le =
    let there = get_there states note (omega (arith, are.count, le)) in
    ap (λ o. (unwrap_or o start).msdbs) there.1 ∙ are.each note there.0 there.1

-- types as they were shown
pub tied_so : (it : Rerun) (shown other : ℕ → Option ℕ) (own : Workspace) → ((db : ℕ) → other db ≡ shown db)
    → IsTied it.defs.now shown own → IsTied it.defs.now other own
tied_so it shown other own same tied dedb def place at held =
    same (length it.defs.now.msdbs + dedb) ∙ tied dedb def place at held

module _ (it : Rerun) (count : ℕ) (running : Running) (s : IsUnderWay it count running) where
  -- the point that it has come to, and the notes that are left
  abbrev here : Point
  here = record { answers = s.answers; own = running.work.own }

  abbrev rest : List ℕ
  rest = drop running.used it.notes.now

  -- what its message asks is what its script asks
  asks_are : (a : Ask) → ask it.defs.now s.script.statements it.message.now s.answers ≡ a
      → (rules_in it).ask it.message.now s.answers ≡ a
  asks_are a e =
      ap (λ (o : Option Script). option_map_or (λ (x : Script). ask it.defs.now x.statements it.message.now s.answers) o
      (Replies [])) s.named ∙ e

  -- running alone does this next
  does : (a : Ask) → ask it.defs.now s.script.statements it.message.now s.answers ≡ a
      → (now : Db) (states : List Db) → AreStatesOf it.pasts.now it.anchors.now it.place now states
      → alone_on it now states ≡ asked (rules_in it) now states it.message.now a here rest
      (goes (rules_in it) now states it.message.now s.left)
  does a e now states are =
      s.goes_on now states are
      ∙ ap (λ x. asked (rules_in it) now states it.message.now x here rest
      (goes (rules_in it) now states it.message.now s.left)) (asks_are a e)

  -- The program moves on to its next call.
  abbrev pub moves : (program : Program) → program.number ≡ running.program.number
      → IsAt it.defs.now s.script.statements it.message.now s.answers program → IsFit it.defs.now program
      → ((db : ℕ) → types_shown program db ≡ types_shown running.program db)
      → IsUnderWay it count (record running { program = program })
  moves program number at fit types = record {
    answers = s.answers;
    counted = s.counted;
    kept = record {
      of = s.kept.of;
      sees = s.kept.sees;
      fits = s.kept.fits;
      tied = tied_so it (types_shown running.program) (types_shown program) running.work.own types s.kept.tied;
      few = s.kept.few;
    };
    used = s.used;
    script = s.script;
    named = s.named;
    numbered = rw number s.numbered;
    at = at;
    fit = fit;
    left = s.left;
    budget = s.budget;
    goes_on = s.goes_on;
  }

  -- It asks a call.
  pub asks : (program : Program) → program.number ≡ running.program.number
      → IsAt it.defs.now s.script.statements it.message.now s.answers program → IsFit it.defs.now program
      → ((db : ℕ) → types_shown program db ≡ types_shown running.program db)
      → (call : Call) → ask it.defs.now s.script.statements it.message.now s.answers ≡ Asks call
      → WaitsFor call program
      → FitsTarget (target_of it.defs.now (database_of call)) (types_shown running.program (database_of call)) call
      → IsAsking it count call (record running { program = program })
  asks program number at fit types call asked waits fits = record {
    under = moves program number at fit types;
    asked = asked;
    waits = waits;
    fits =
        subst (λ shown. FitsTarget (target_of it.defs.now (database_of call)) shown call)
        (sym (types (database_of call))) fits;
  }

  -- It keeps no more than a transaction that ended.
  kept_by : full_cost s.script.statements ≤ 10000 → IsKept it 10000 (types_shown running.program) running.work
  kept_by cheap = record {
    of = s.kept.of;
    sees = s.kept.sees;
    fits = s.kept.fits;
    tied = s.kept.tied;
    few = omega (arith, s.kept.few, s.budget, cheap);
  }

  end_in : (now : Db) (end : End) (b : Bool) → ended it now running.work.own (if b then ends.Stuck else end)
      ≡ (if b then Stuck else ended it now running.work.own end)
  end_in now end true = refl
  end_in now end false = refl

  -- It replies, where all notes are used.
  pub replies : full_cost s.script.statements ≤ 10000 → (reply : List ℕ)
      → ask it.defs.now s.script.statements it.message.now s.answers ≡ Replies reply
      → IsEnd it running (end_with it running.used (ends.Replies reply))
  replies cheap reply e = record {
    kept = kept_by cheap;
    is = λ now states are.
        does (Replies reply) e now states are
        ∙ all_used it.notes.now running.used
        (serial.settled_as now reply (settlement it.defs.now now running.work.own))
        ∙ sym (end_in now (ends.Replies reply) (nat_lt running.used (length it.notes.now)));
  }

  -- It ends with a rollback code, where all notes are used.
  pub rolls : full_cost s.script.statements ≤ 10000 → (code : ℕ)
      → ask it.defs.now s.script.statements it.message.now s.answers ≡ Rolls code
      → IsEnd it running (end_with it running.used (ends.Rolls code))
  rolls cheap code e = record {
    kept = kept_by cheap;
    is = λ now states are.
        does (Rolls code) e now states are
        ∙ all_used it.notes.now running.used (serial.refused_as (outcome.Roll code) now)
        ∙ sym (end_in now (ends.Rolls code) (nat_lt running.used (length it.notes.now)));
  }

-- ---- a call

-- a look by a note
abbrev by_note : ℕ → ℕ → Look
by_note used note = record { place = note; used = used + 1 }

module _ (it : Rerun) (count : ℕ) (running : Running) (call : Call) (a : IsAsking it count call running) where
  -- whether it looks without a hold
  abbrev unheld : Bool
  unheld = looks_unheld it.defs.now running.work.own call

  abbrev point : Point
  point = here it count running a.under

  abbrev notes_left : List ℕ
  notes_left = rest it count running a.under

  -- A call that looks, where no note is left.
  stuck : (looks : Bool) → look_of it running.used looks ≡ None → (now : Db) (states : List Db)
      → (go : Point → List ℕ → Alone)
      → called (rules_in it) now states it.message.now looks point call notes_left go ≡ Stuck
  stuck true none now states go =
      ap (λ (ns : List ℕ). called (rules_in it) now states it.message.now true point call ns go)
      (drop_none it.notes.now running.used (no_note (slice_get it.notes.now running.used) none))
    where
      no_note : (o : Option ℕ) → option_map (by_note running.used) o ≡ None → o ≡ None
      no_note None e = refl
      no_note (Some note) e = absurd (some_isnt_none (by_note running.used note) e)
  stuck false none now states go = absurd (some_isnt_none (record { place = it.place; used = running.used }) none)

  pub lacks : full_cost a.under.script.statements ≤ 10000 → (looks : Bool) → looks ≡ unheld
      → look_of it running.used looks ≡ None → IsEnd it running ends.Stuck
  lacks cheap looks is none = record {
    kept = kept_by it count running a.under cheap;
    is = λ now states are.
        does it count running a.under (Asks call) a.asked now states are
        ∙ ap (λ (b : Bool). called (rules_in it) now states it.message.now b point call notes_left
        (goes (rules_in it) now states it.message.now a.under.left)) (sym is)
        ∙ stuck looks none now states (goes (rules_in it) now states it.message.now a.under.left);
  }

  module _ (look : Look) (given : Answer) (work : Progress)
      (notes : AllByRecursion (λ note. note ≤ it.place) it.notes.now)
      (reply : (visible : Db) → visible.msdbs ≡ databases_at look.place it.pasts.now
      → reply_to it.defs.now (now_of it) visible running.work.own call
      ≡ record { answer = given; own = work.own }) where
    -- the point behind the call
    abbrev behind : Point
    behind = record { answers = a.under.answers ++ given ∷ []; own = work.own }

    -- The answer looks at the state of the place, and at that of the look.
    replied : (now visible : Db) → now ≡ now_of it → (place : ℕ)
        → visible.msdbs ≡ databases_at place it.pasts.now → place ≡ look.place
        → with_reply point (reply_to it.defs.now now visible running.work.own call) ≡ behind
    replied now visible here place there same =
        ap (λ (db : Db). with_reply point (reply_to it.defs.now db visible running.work.own call)) here
        ∙ ap (with_reply point) (reply visible (there ∙ ap (λ p. databases_at p it.pasts.now) same))

    -- A call is answered, and uses its note if it looks.
    looked : (looks : Bool) → look_of it running.used looks ≡ Some look → (now : Db) (states : List Db)
        → AreStatesOf it.pasts.now it.anchors.now it.place now states → (go : Point → List ℕ → Alone)
        → called (rules_in it) now states it.message.now looks point call notes_left go
        ≡ go behind (drop look.used it.notes.now)
    looked true seen now states are go = by (slice_get it.notes.now running.used) refl seen
      where
        by : (o : Option ℕ) → slice_get it.notes.now running.used ≡ o → option_map (by_note running.used) o ≡ Some look
            → called (rules_in it) now states it.message.now true point call notes_left go
            ≡ go behind (drop look.used it.notes.now)
        by None there e = absurd (some_isnt_none look (sym e))
        by (Some note) there e =
            let same : by_note running.used note ≡ look = same_Some (by_note running.used note) look e in
            let start : Db = (rules_in it).start in
            let le : note ≤ it.place
            = each_has (λ note. note ≤ it.place) it.notes.now running.used note notes there in
            ap (λ (ns : List ℕ). called (rules_in it) now states it.message.now true point call ns go)
            (drop_got it.notes.now running.used note there)
            ∙ ap (λ p. go p (drop (running.used + 1) it.notes.now))
            (replied now (serial.state_at start states note) are.here note (noted it now states start note are le)
            (ap (λ (l : Look). l.place) same))
            ∙ ap (λ (l : Look). go behind (drop l.used it.notes.now)) same
    looked false seen now states are go =
        let first : Look = record { place = it.place; used = running.used } in
        let same : first ≡ look = same_Some first look seen in
        ap (λ p. go p notes_left)
        (replied now now are.here it.place (ap (λ (db : Db). db.msdbs) are.here) (ap (λ (l : Look). l.place) same))
        ∙ ap (λ (l : Look). go behind (drop l.used it.notes.now)) same

    -- so many notes are used behind it
    used_within : (looks : Bool) → look_of it running.used looks ≡ Some look → look.used ≤ length it.notes.now
    used_within true seen = by (slice_get it.notes.now running.used) refl seen
      where
        by : (o : Option ℕ) → slice_get it.notes.now running.used ≡ o → option_map (by_note running.used) o ≡ Some look
            → look.used ≤ length it.notes.now
        by None there e = absurd (some_isnt_none look (sym e))
        by (Some note) there e =
            let same : by_note running.used note ≡ look = same_Some (by_note running.used note) look e in
            let used : running.used + 1 ≡ look.used = ap (λ (l : Look). l.used) same in
            omega (arith, used, slice_get_within it.notes.now running.used note there)
    used_within false seen =
        let first : Look = record { place = it.place; used = running.used } in
        let used : running.used ≡ look.used = ap (λ (l : Look). l.used) (same_Some first look seen) in
        omega (arith, used, a.under.used)

    -- What it keeps behind the call.
    kept_behind : AreDefs it.defs.now → IsDbOf it.defs.now (now_of it)
        → IsWorkOf it.defs.now work → Sees (now_of it) work.anchors
        → length work.own.deferred ≤ length running.work.own.deferred + 1
        → (program : Program)
        → ((db : ℕ) → types_shown program db ≡ shown_behind call given (types_shown running.program) db)
        → IsKept it (count + 1) (types_shown program) work
    kept_behind are good of sees few program types =
        let kept = a.under.kept in
        let shown : ℕ → Option ℕ = types_shown running.program in
        let visible : Db = record (now_of it) { msdbs = databases_at look.place it.pasts.now } in
        let is = reply visible refl in
        record {
          of = of;
          sees = sees;
          fits =
              subst (λ (r : Replied). FitsWorkspace it.defs.now (now_of it) r.own) is
              (answer_keeps it.defs.now (now_of it) visible shown running.work.own call are good kept.fits kept.tied
              a.fits);
          tied =
              tied_so it (shown_behind call given shown) (types_shown program) work.own types
              (subst (λ (r : Replied). IsTied it.defs.now (shown_behind call r.answer shown) r.own) is
              (answer_tied it.defs.now (now_of it) visible shown running.work.own call kept.tied));
          few = omega (arith, few, kept.few);
        }

    -- With its answer the transaction goes on.
    pub goes_on : (looks : Bool) → looks ≡ unheld → look_of it running.used looks ≡ Some look
        → AreDefs it.defs.now → IsDbOf it.defs.now (now_of it)
        → IsWorkOf it.defs.now work → Sees (now_of it) work.anchors
        → length work.own.deferred ≤ length running.work.own.deferred + 1
        → (program : Program) → program.number ≡ running.program.number
        → IsAt it.defs.now a.under.script.statements it.message.now (a.under.answers ++ given ∷ []) program
        → IsFit it.defs.now program
        → ((db : ℕ) → types_shown program db ≡ shown_behind call given (types_shown running.program) db)
        → IsUnderWay it (count + 1) (record { program = program; work = work; used = look.used })
    goes_on looks is seen are good of sees few program number at fit types =
        let s : IsUnderWay it count running = a.under in
        let less : length s.answers < full_cost s.script.statements
        = calls_below_cost it.defs.now s.script.statements it.message.now s.answers call a.asked in
        let more : s.left ≡ suc (s.left - 1) = omega (arith, less, s.counted, s.budget) in
        record {
          answers = s.answers ++ given ∷ [];
          counted = length-append s.answers (given ∷ []) ∙ ap (λ n. n + 1) s.counted;
          kept = kept_behind are good of sees few program types;
          used = used_within looks seen;
          script = s.script;
          named = s.named;
          numbered = rw number s.numbered;
          at = at;
          fit = fit;
          left = s.left - 1;
          budget = omega (arith, less, s.counted, s.budget);
          goes_on = λ now states are.
              does it count running s (Asks call) a.asked now states are
              ∙ ap (λ (b : Bool). called (rules_in it) now states it.message.now b point call notes_left
              (goes (rules_in it) now states it.message.now s.left)) (sym is)
              ∙ looked looks seen now states are (goes (rules_in it) now states it.message.now s.left)
              ∙ ap (λ (n : ℕ). goes (rules_in it) now states it.message.now n behind (drop look.used it.notes.now))
              more;
        }
