use Rattle.std.proofs.Common.{◌≡◌, ◌∙◌, ◌<◌, ap, sym, Some, get_or, length, arith}
use Rattle.std.specs.Prelude.{find}
use Rattle.std.proofs.lemmas.List.{drop_all}
use Rattle.fp_model.specs.Order.{dependent}
use Rattle.dli_tree.specs.inside.Aims.{aim_of, looks_for}
use Rattle.dli_tree.specs.Paths.{occurrence_of}
use Rattle.dli_tree.proofs.Roots.{alone, one_none, one_some, seqs_are}
use Rattle.dli_tree.proofs.Rows.{found_here, found_next, none_from, skipped}
use Rattle.dli_tree.proofs.first.in_sequentials.Goals as goal

pub loop-at-init : goal.loop-at-init
loop-at-init c newest =
    let aim = aim_of c.args.aim in
    ap (find (looks_for aim)) (seqs_are c.args.segments.now c.in-Some.segment c.sequential_type.result c.args.seqs.now
    c.sequential_type.ensures c.in-Some.is)
    ∙ skipped (looks_for aim) (alone c.in-Some.segment) c.newest_left-at.result c.args.seqs.now
    c.newest_left-at.ensures.within
    (λ i d lt. one_none aim c.in-Some.segment (get_or c.args.seqs.now i d)
    (c.newest_left-at.ensures.left newest i d lt))

pub returns-then-wants_dependent : goal.returns-then-wants_dependent
returns-then-wants_dependent c newest =
    let aim = aim_of c.args.aim in
    let item = c.index-seqs-at.result in
    sym (c.loop-at.invariant newest ∙ found_here (looks_for aim) (alone c.in-Some.segment) c.loop-at.at c.args.seqs.now
    item (occurrence_of c.in_ok-dependent.field-0) c.loop-at-test.true c.index-seqs-at.is
    (one_some aim c.in-Some.segment item (sym c.wants_dependent.ensures ∙ c.if-wants_dependent.true) ∙ ap Some
    (sym c.in_ok-dependent.ensures)))

pub loop-at-preserved : goal.loop-at-preserved
loop-at-preserved c newest =
    let aim = aim_of c.args.aim in
    let item = c.index-seqs-at.result in
    c.loop-at.invariant newest ∙ found_next (looks_for aim) (alone c.in-Some.segment) c.loop-at.at c.args.seqs.now item
    c.loop-at-test.true c.index-seqs-at.is
    (one_none aim c.in-Some.segment item (sym c.wants_dependent.ensures ∙ c.if-wants_dependent.false))

pub returns : goal.returns
returns c newest =
    sym (c.loop-at.invariant newest ∙ none_from (looks_for (aim_of c.args.aim)) (alone c.in-Some.segment) c.loop-at.at
    c.args.seqs.now (λ i d low within. absurd (omega (arith, low, within, c.loop-at-test.false))))
