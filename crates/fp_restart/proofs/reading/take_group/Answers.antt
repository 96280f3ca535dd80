use Rattle.std.proofs.Common.{sym, ap, subst, ◌∙◌, true}
use Rattle.std.specs.List.{AllByRecursion}
use Rattle.fp_model.specs.Items.{IsFit, with_items, items_of}
use Rattle.msdb_store.specs.Store.{IsFitSegment}
use Rattle.log_groups.specs.Reads.{HasGroup}
use Rattle.fp_restart.specs.inside.Begun.{Judges}
use Rattle.fp_restart.specs.inside.Replayed.{HasNumbersOf}
use Rattle.fp_restart.proofs.Groups.{stands_further}
use Rattle.fp_restart.proofs.Replays.{fit_segments}
use Rattle.fp_restart.proofs.reading.take_group.Given as given
use Rattle.fp_restart.proofs.reading.take_group.Goals as goal

-- a site that tells what it holds has no group that goes nowhere
pub returns-then-not-stands_behind-clause-damaged : goal.returns-then-not-stands_behind-clause-damaged
returns-then-not-stands_behind-clause-damaged g c earlier by_these front set place t e =
    let bytes = (g.T.Site.disk c.args.site.now).contents 0 in
    let has : HasGroup bytes c.args.at c.in-Some.group.entries c.in-Some.group.next =
    rw c.in-Some.is at (c.in_ok-group.ensures.some t) in
    let far = stands_further bytes c.args.at c.in-Some.group.entries c.in-Some.group.next has
    ((g.met.T.Site.lawful c.args.site.now t).bounded 0) in
    absurd (c.stands_behind.ensures.not c.if-not-stands_behind.true far.0 far.1 far.2)

-- what was judged of the items of the group
judged : (g : given.Over) (c : goal.After-drop-group-2 g)
    → Judges c.args.defs.now c.args.begun.now c.are_fit.new.begun (items_of c.in-Some.group.entries) true
judged g c =
    subst (λ l. Judges c.args.defs.now c.args.begun.now c.are_fit.new.begun (items_of l) true) c.as_slice.ensures
    (subst (Judges c.args.defs.now c.args.begun.now c.are_fit.new.begun (items_of c.as_slice.result.now))
    c.if-not-branch.false c.in_ok-are_fit.ensures.judged)

-- so the store may put them
fit_here : (g : given.Over) (c : goal.After-drop-group-2 g)
    → AllByRecursion (IsFitSegment c.args.defs.now.msdbs) (items_of c.as_slice-2.result.now)
fit_here g c =
    subst (λ l. AllByRecursion (IsFitSegment c.args.defs.now.msdbs) (items_of l)) (sym c.as_slice-2.ensures)
    (fit_segments c.args.defs.now (items_of c.in-Some.group.entries)
    (subst (λ l. AllByRecursion (IsFit c.args.defs.now) (items_of l)) c.as_slice.ensures
    (c.in_ok-are_fit.ensures.each c.if-not-branch.false)))

pub returns-clause-taken : goal.returns-clause-taken
returns-clause-taken g c earlier by_these front t =
    let bytes = (g.T.Site.disk c.args.site.now).contents 0 in
    let has : HasGroup bytes c.args.at c.in-Some.group.entries c.in-Some.group.next =
    rw c.in-Some.is at (c.in_ok-group.ensures.some t) in
    let its = judged g c (items_of earlier) by_these front in
    record {
      entries = c.in-Some.group.entries;
      group = has;
      fit = its.0;
      intervals = its.1;
      count_is = c.len.ensures;
      numbers = subst (λ l. HasNumbersOf l c.args.numbers.now c.add.new.self) c.as_slice-3.ensures c.in_ok-add.ensures;
      msdbs = c.in_ok-put_entries.ensures.msdbs c.args.defs.now.msdbs c.requires (fit_here g c)
          ∙ ap (λ l. with_items c.args.defs.now.msdbs c.args.store.now.msdbs (items_of l)) c.as_slice-2.ensures;
    }

pub returns-clause-of : goal.returns-clause-of
returns-clause-of g c = c.put_entries.ensures.of c.args.defs.now.msdbs c.requires (fit_here g c)

pub returns-clause-some : goal.returns-clause-some
returns-clause-some g c = record {
  entries = c.in-Some.group.entries;
  count_is = c.len.ensures;
  numbers = subst (λ l. HasNumbersOf l c.args.numbers.now c.add.new.self) c.as_slice-3.ensures c.in_ok-add.ensures;
}
