use Rattle.std.proofs.Common.{◌+◌, ◌∙◌, List, ℕ, drop, sym, ap, arith}
use Rattle.toml.specs.View.{items_view}
use Rattle.def_tables.specs.Values.{segment_in}
use Rattle.def_tables.proofs.Loops.{onto}
use Rattle.def_tables.proofs.RowLemmas.{lengths_apart, row_stops, row_goes_on, appends-true, appends-false}
use Rattle.def_tables.proofs.load.segment_in.Goals as goal

pub returns-then-texts-fields : goal.returns-then-texts-fields
returns-then-texts-fields c = sym (lengths_apart c.args.fields.now c.args.texts.now c.if-texts-fields.true)

pub returns-then-not-branch : goal.returns-then-not-branch
returns-then-not-branch c =
    sym (row_stops c.args.fields.now c.args.texts.now c.loop-i.i _ c.index-texts-i.result c.loop-i-test.true
    (omega arith) c.index-texts-i.is c.loop-i.segment.items
    (appends-false _ _ _ _ c.in_ok-append_value.ensures c.if-not-branch.true))
    ∙ c.loop-i.invariant

pub loop-i-preserved : goal.loop-i-preserved
loop-i-preserved c =
    let i = c.loop-i.i in
    let more = appends-true _ _ _ _ c.in_ok-append_value.ensures c.if-not-branch.false in
    ap (λ (front : List ℕ). onto front (segment_in (drop (i + 1) c.args.fields.now)
    (items_view (drop (i + 1) c.args.texts.now)))) more.2
    ∙ row_goes_on c.args.fields.now c.args.texts.now i _ c.index-texts-i.result c.loop-i-test.true (omega arith)
    c.index-texts-i.is c.loop-i.segment.items more.0 more.1
    ∙ c.loop-i.invariant
