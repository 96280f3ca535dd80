use Rattle.std.proofs.Common.{List, ◌++◌, take, ◌+◌, sym, ap, subst, ◌∙◌, true, false, take-append-drop}
use Rattle.std.specs.Prelude.{drop}
use Rattle.std.specs.List.{AllByRecursion}
use Rattle.fp_model.specs.declared.log.Item.{Item}
use Rattle.fp_model.specs.Items.{IsFit, items_of}
use Rattle.fp_restart.specs.inside.Begun.{Judges}
use Rattle.fp_restart.proofs.Firsts.{judges-none, judges-on}
use Rattle.fp_restart.proofs.Fits.{all-next, items-next}
use Rattle.fp_restart.proofs.fitting.are_fit.Goals as goal
use Rattle.model_laws.proofs.Entries.{items-append}

pub returns-then-not-branch-clause-judged : goal.returns-then-not-branch-clause-judged
returns-then-not-branch-clause-judged c =
    let defs = c.args.defs.now in
    let es = c.args.entries.now in
    let i = c.loop-entry.entry-index in
    let new = c.items_fit.new.begun in
    let e = c.entry-item.result in
    let so_far = items_of (take i es) in
    let more = items-next es i e c.loop-entry-test.true c.entry-item.is in
    let there : Judges defs c.loop-entry.begun new c.as_slice.result.now false =
    subst (Judges defs c.loop-entry.begun new c.as_slice.result.now) c.if-not-branch.true
    c.in_ok-items_fit.ensures.judged in
    let here : Judges defs c.loop-entry.begun new e.items false =
    subst (λ (xs : List Item). Judges defs c.loop-entry.begun new xs false) c.as_slice.ensures there in
    let to_here = judges-on defs c.args.begun.now c.loop-entry.begun new so_far e.items false
    c.loop-entry.invariant.judged here in
    subst (λ (xs : List Item). Judges defs c.args.begun.now new xs false)
    (ap (λ (xs : List Item). xs ++ items_of (drop (i + 1) es)) (sym more)
    ∙ sym (items-append (take (i + 1) es) (drop (i + 1) es)) ∙ ap items_of (take-append-drop (i + 1) es))
    (judges-none defs c.args.begun.now new (so_far ++ e.items) (items_of (drop (i + 1) es)) to_here)

pub loop-entry-preserved : goal.loop-entry-preserved
loop-entry-preserved c =
    let defs = c.args.defs.now in
    let es = c.args.entries.now in
    let i = c.loop-entry.entry-index in
    let new = c.items_fit.new.begun in
    let e = c.entry-item.result in
    let more = items-next es i e c.loop-entry-test.true c.entry-item.is in
    let there : Judges defs c.loop-entry.begun new c.as_slice.result.now true =
    subst (Judges defs c.loop-entry.begun new c.as_slice.result.now) c.if-not-branch.false
    c.in_ok-items_fit.ensures.judged in
    let here : Judges defs c.loop-entry.begun new e.items true =
    subst (λ (xs : List Item). Judges defs c.loop-entry.begun new xs true) c.as_slice.ensures there in
    record {
      judged = subst (λ (xs : List Item). Judges defs c.args.begun.now new xs true) (sym more)
          (judges-on defs c.args.begun.now c.loop-entry.begun new (items_of (take i es)) e.items true
          c.loop-entry.invariant.judged here);
      each = all-next (IsFit defs) es i e c.loop-entry-test.true c.entry-item.is c.loop-entry.invariant.each
          (subst (AllByRecursion (IsFit defs)) c.as_slice.ensures
          (c.in_ok-items_fit.ensures.each c.if-not-branch.false));
    }
