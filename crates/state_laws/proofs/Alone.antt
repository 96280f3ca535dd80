-- One transaction alone: its calls leave what fits, so its commit keeps the shape of the state.
use Rattle.std.proofs.Common.{◌≡◌, ℕ, zero, suc, List, [], ◌∷◌, map, Option, Some, None, refl, sym, ◌∙◌, ap, subst, Bool, true, false, slice_get}
use Rattle.std.specs.Prelude.{unwrap_or}
use Rattle.std.specs.List.{AllByRecursion}
use Rattle.fp_model.specs.declared.calls.Call.{Call}
use Rattle.fp_model.specs.declared.calls.Message.{Message}
use Rattle.fp_model.specs.declared.database.Db.{Db}
use Rattle.fp_model.specs.declared.definitions.Defs.{Defs}
use Rattle.fp_model.specs.declared.log.Outcome.TheVariants.{Roll}
use Rattle.fp_model.specs.declared.scripts.Script.{Script}
use Rattle.fp_model.specs.Asking.{Ask, Asks, Replies, Rolls}
use Rattle.fp_model.specs.Calls.{looks_unheld, reply_to}
use Rattle.fp_model.specs.Commit.{Commits, FailsVerify, FillsPart, Settlement, settlement}
use Rattle.fp_model.specs.FitCalls.{IsTied, shown_behind}
use Rattle.fp_model.specs.Order.{Place}
use Rattle.fp_model.specs.Product.{asked_by, cost_of, rules_of}
use Rattle.fp_model.specs.Serial.{Ending, Ends, Point, Stuck, asked, called, goes, refused_as, serial_run, settled_as, state_at, with_all, with_reply}
use Rattle.fp_model.specs.Shape.{IsDbOf}
use Rattle.fp_model.specs.State.{start}
use Rattle.fp_model.specs.WellFormed.{AreDefs}
use Rattle.fp_model.specs.Workspace.{fresh, no_dedb_position, no_msdb_position}
use Rattle.state_laws.specs.Talks.{CallsFit, HasShown, nothing, one_more}
use Rattle.state_laws.specs.Workspaces.{FitsWorkspace}
use Rattle.state_laws.proofs.Answering.{answer_keeps}
use Rattle.state_laws.proofs.Commits.{commit_good}
use Rattle.state_laws.proofs.Keeping.{key_held, place_held}
use Rattle.state_laws.proofs.Lists.{all_at}
use Rattle.state_laws.proofs.Showing.{answer_fits}
use Rattle.state_laws.proofs.Start.{start_good}
use Rattle.state_laws.proofs.Ties.{answer_tied}
use Rattle.std.proofs.lemmas.Option.{none-some}

-- ---- the beginning

-- the same everywhere
all_same : {X Y : Type 0} (xs : List X) (n : ℕ) (d : Y) → unwrap_or (slice_get (map (λ x. d) xs) n) d ≡ d
all_same [] n d = refl
all_same (x ∷ xs) zero d = refl
all_same (x ∷ xs) (suc n) d = all_same xs n d

module _ (defs : Defs) where
  no_key_held : (msdb : ℕ) (key : List ℕ)
      → key_held (unwrap_or (slice_get (fresh defs).msdbs msdb) no_msdb_position) ≡ Some key → ⊥
  no_key_held msdb key e =
      none-some key (sym (ap key_held (all_same defs.msdbs msdb no_msdb_position)) ∙ e)

  no_place_held : (dedb : ℕ) (place : Place)
      → place_held (unwrap_or (slice_get (fresh defs).dedbs dedb) no_dedb_position) ≡ Some place → ⊥
  no_place_held dedb place e =
      none-some place (sym (ap place_held (all_same defs.dedbs dedb no_dedb_position)) ∙ e)

  pub fresh_fits : (db : Db) → FitsWorkspace defs db (fresh defs)
  fresh_fits db = record {
    state = record { deferred = tt; in_order = refl; changes = tt; inserts = tt };
    changes = tt;
    keys = λ msdb def key at e. absurd (no_key_held msdb key e);
    places = λ dedb def place at e. absurd (no_place_held dedb place e);
  }

  pub fresh_tied : IsTied defs (λ db. None) (fresh defs)
  fresh_tied dedb def place at e = absurd (no_place_held dedb place e)

-- ---- on its way

module _ (defs : Defs) (scripts : List Script) (now : Db) (states : List Db) (message : Message) (are : AreDefs defs)
    (good : IsDbOf defs now) (past : AllByRecursion (IsDbOf defs) states)
    (fit : CallsFit defs (asked_by defs scripts message)) where
  -- A point whose workspace fits, and what was shown to it.
  record IsGood (point : Point) : Type 0 where
    shown : ℕ → Option ℕ
    were : HasShown defs (asked_by defs scripts message) point.answers shown
    tied : IsTied defs shown point.own
    fits : FitsWorkspace defs now point.own

  begun_good : IsGood (record { answers = []; own = fresh defs })
  begun_good = record {
    shown = λ db. None;
    were = nothing;
    tied = fresh_tied defs;
    fits = fresh_fits defs now;
  }

  -- a state that a note names
  noted_good : (note : ℕ) → IsDbOf defs (state_at (start defs) states note)
  noted_good note = by (slice_get states note) refl
    where
      by : (o : Option Db) → slice_get states note ≡ o → IsDbOf defs (unwrap_or o (start defs))
      by None e = start_good defs are
      by (Some db) e = all_at (IsDbOf defs) states note db past e

  answered_good : (visible : Db) → IsDbOf defs visible → (point : Point) → IsGood point → (c : Call)
      → asked_by defs scripts message point.answers ≡ Asks c
      → IsGood (with_reply point (reply_to defs now visible point.own c))
  answered_good visible good2 point p c is = record {
    shown = shown_behind c (reply_to defs now visible point.own c).answer p.shown;
    were = one_more c (reply_to defs now visible point.own c).answer p.were is
        (answer_fits defs now visible point.own c are good good2 p.fits);
    tied = answer_tied defs now visible p.shown point.own c p.tied;
    fits = answer_keeps defs now visible p.shown point.own c are good p.fits p.tied
        (fit point.answers p.shown c p.were is);
  }

  -- ---- its end

  ends_is : (e f : Ending) → Ends e ≡ Ends f → e.next ≡ f.next
  ends_is e f is = cc

  stuck_is_no_end : (e : Ending) → Stuck ≡ Ends e → ⊥
  stuck_is_no_end e is = cc

  with_all_good : (notes : List ℕ) (e ending : Ending) → IsDbOf defs e.next → with_all notes e ≡ Ends ending
      → IsDbOf defs ending.next
  with_all_good [] e ending h is = subst (IsDbOf defs) (ends_is e ending is) h
  with_all_good (note ∷ notes) e ending h is = absurd (stuck_is_no_end ending is)

  settled_good : (point : Point) → IsGood point → (reply : List ℕ)
      → IsDbOf defs (settled_as now reply (settlement defs now point.own)).next
  settled_good point p reply = by (settlement defs now point.own) refl
    where
      by : (s : Settlement) → settlement defs now point.own ≡ s → IsDbOf defs (settled_as now reply s).next
      by (Commits next) e = commit_good defs now point.own are good p.fits.state next e
      by (FailsVerify n fsa found) e = good
      by (FillsPart set begin end n) e = good

  run_good : (n : ℕ) (point : Point) (notes : List ℕ) (ending : Ending) → IsGood point
      → goes (rules_of defs scripts) now states message n point notes ≡ Ends ending → IsDbOf defs ending.next
  run_good zero point notes ending p e = absurd (stuck_is_no_end ending e)
  run_good (suc n) point notes ending p e =
      by (asked_by defs scripts message point.answers) refl e (λ other more. run_good n other more ending)
    where
      by : (a : Ask) → asked_by defs scripts message point.answers ≡ a
          → asked (rules_of defs scripts) now states message a point notes
          (goes (rules_of defs scripts) now states message n) ≡ Ends ending
          → ((other : Point) (more : List ℕ) → IsGood other
          → goes (rules_of defs scripts) now states message n other more ≡ Ends ending → IsDbOf defs ending.next)
          → IsDbOf defs ending.next
      by (Replies reply) is e later =
          with_all_good notes (settled_as now reply (settlement defs now point.own)) ending
          (settled_good point p reply) e
      by (Rolls code) is e later = with_all_good notes (refused_as (Roll code) now) ending good e
      by (Asks c) is e later = looks (looks_unheld defs point.own c) notes e
        where
          looks : (b : Bool) (notes : List ℕ)
              → called (rules_of defs scripts) now states message b point c notes
              (goes (rules_of defs scripts) now states message n) ≡ Ends ending
              → IsDbOf defs ending.next
          looks true [] e = absurd (stuck_is_no_end ending e)
          looks true (note ∷ notes) e =
              let visible : Db = state_at (start defs) states note in
              later (with_reply point (reply_to defs now visible point.own c)) notes
              (answered_good visible (noted_good note) point p c is) e
          looks false notes e =
              later (with_reply point (reply_to defs now now point.own c)) notes
              (answered_good now good point p c is) e

  -- a transaction alone
  pub alone_good : (notes : List ℕ) (ending : Ending)
      → serial_run (rules_of defs scripts) now states message notes ≡ Ends ending → IsDbOf defs ending.next
  alone_good notes ending e =
      run_good (suc (cost_of scripts message)) (record { answers = []; own = fresh defs }) notes ending begun_good e
