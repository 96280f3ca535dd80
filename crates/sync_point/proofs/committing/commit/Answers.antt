use Rattle.std.proofs.Common.{◌≡◌, ◌∙◌, sym, ap, subst, List}
use Rattle.std.specs.Prelude.{Err, Ok, Result}
use Rattle.fp_model.specs.Commit.{settlement}
use Rattle.fp_model.specs.Items.{with_items}
use Rattle.fp_model.specs.Serial.{settled_as}
use Rattle.fp_model.specs.declared.database.Msdb.{Msdb}
use Rattle.fp_model.specs.declared.log.Entry.{Entry}
use Rattle.msdb_store.specs.Changes.{Changes}
use Rattle.sync_point.specs.Drafts.{IsEnd}
use Rattle.sync_point.specs.declared.committing.Cause.{Cause}
use Rattle.sync_point.specs.declared.committing.Cause.TheVariants as cause
use Rattle.sync_point.proofs.Endings.{done_end, is_cause, refused_end}
use Rattle.sync_point.proofs.Found.{verify_found_is_short}
use Rattle.sync_point.proofs.Segments.{items_fit}
use Rattle.sync_point.proofs.committing.commit.Goals as goal

pub returns-in_err-staged-clause-end : goal.returns-in_err-staged-clause-end
returns-in_err-staged-clause-end c defs now own is =
    let why = c.in_err-staged.field-0.0 in
    let draft = c.args.draft in
    subst (λ (r : Result Entry Cause). IsEnd now c.args.msdbs.now.msdbs r
    (settled_as now draft.reply (settlement defs now own)))
    (sym (is_cause c.from_residual.result why c.from_residual.ensures.1))
    (refused_end defs now own c.args.msdbs.now draft is c.args.msdbs.now.msdbs why
    (λ call fsa found e. c.settled.ensures.verify defs.msdbs call fsa found is.able (c.in_err-staged.was
    ∙ ap (λ (x : Cause). let y : Result Changes Cause = Err x in y) e)))

pub returns-in_err-staged-clause-found : goal.returns-in_err-staged-clause-found
returns-in_err-staged-clause-found c call fsa found e =
    let why = c.in_err-staged.field-0.0 in
    let same : why ≡ cause.Verify call fsa found = let h = is_cause c.from_residual.result why
    c.from_residual.ensures.1 in cc in
    let fails = c.settled.ensures.verify c.requires.able.0 call fsa found c.requires.able.1 (c.in_err-staged.was
    ∙ ap (λ (x : Cause). let y : Result Changes Cause = Err x in y) same) in
    verify_found_is_short c.requires.able.0 c.requires.able.1.defined c.args.msdbs.now.msdbs c.args.draft.deferred
    call fsa found fails

pub enter-requires-clause-staged : goal.enter-requires-clause-staged
enter-requires-clause-staged c =
    let can = c.requires.able.1 in (
      c.requires.able.0,
      can.of,
      c.in_ok-staged.ensures.staged c.requires.able.0 can,
      can.defined,
    )

pub returns-clause-msdbs : goal.returns-clause-msdbs
returns-clause-msdbs c defs can =
    c.in_ok-entry.ensures.msdbs defs can.of (c.in_ok-staged.ensures.staged defs can)
    ∙ ap (λ (e : Entry). with_items defs c.args.msdbs.now.msdbs e.items) (sym c.in_ok-entry.ensures.entry)

pub returns-clause-end : goal.returns-clause-end
returns-clause-end c defs now own is =
    let draft = c.args.draft in
    let store = c.args.msdbs.now in
    let entry = c.in_ok-entry.entry in
    let new = c.in_ok-entry.ensures.msdbs defs.msdbs is.able.of (c.in_ok-staged.ensures.staged defs.msdbs is.able) in
    subst (λ (msdbs : List Msdb). IsEnd now msdbs (Ok entry) (settled_as now draft.reply (settlement defs now own)))
    (sym new)
    (done_end defs now own store draft is (with_items defs.msdbs store.msdbs c.in_ok-staged.staged.items) entry
    (c.in_ok-staged.ensures.ok defs.msdbs is.able)
    (ap (λ (e : Entry). e.outcome) c.in_ok-entry.ensures.entry)
    (ap (λ (e : Entry). e.reply) c.in_ok-entry.ensures.entry))

pub returns-clause-fit : goal.returns-clause-fit
returns-clause-fit c defs can =
    let staged = c.in_ok-staged.ensures.staged defs.msdbs can in
    rw c.in_ok-entry.ensures.entry (items_fit defs c.in_ok-staged.staged.items staged.fit
    staged.segments)

pub returns-clause-keys : goal.returns-clause-keys
returns-clause-keys c defs can =
    rw c.in_ok-entry.ensures.entry (c.in_ok-staged.ensures.keys defs can)

pub returns-clause-kinds : goal.returns-clause-kinds
returns-clause-kinds c defs can =
    rw c.in_ok-entry.ensures.entry (c.in_ok-staged.ensures.staged defs can).segments

pub returns-clause-in_order : goal.returns-clause-in_order
returns-clause-in_order c defs can =
    rw c.in_ok-entry.ensures.entry (c.in_ok-staged.ensures.staged defs can).in_order
