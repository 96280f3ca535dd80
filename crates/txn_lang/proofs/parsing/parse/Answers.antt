use Rattle.std.proofs.Common.{◌∙◌, sym, ap, arith, length, []}
use Rattle.std.proofs.lemmas.Result.{err_from_is_err_and}
use Rattle.txn_lang.specs.Grammar.{is_long, in_line, in_script, scripts_fault}
use Rattle.txn_lang.proofs.ParseLemmas.{scripts_few, because, left_open, written}
use Rattle.txn_lang.proofs.parsing.parse.Goals as goal

pub returns-then-bytes-gt-LONGEST-clause-fault : goal.returns-then-bytes-gt-LONGEST-clause-fault
returns-then-bytes-gt-LONGEST-clause-fault c = is_long c.if-bytes-gt-LONGEST.true

pub returns-in_err-builder-clause-fault : goal.returns-in_err-builder-clause-fault
returns-in_err-builder-clause-fault c =
    let p = err_from_is_err_and c.from_residual.result c.from_residual.ensures.1 in
    rw (p.1, p.2) (because c.in_err-builder.field-0.0 (in_line c.if-bytes-gt-LONGEST.false)
    c.in_err-builder.ensures.err)

pub returns-in_err-scripts-clause-fault : goal.returns-in_err-scripts-clause-fault
returns-in_err-scripts-clause-fault c =
    let p = err_from_is_err_and c.from_residual-in_err-scripts.result c.from_residual-in_err-scripts.ensures.1 in
    rw (p.1, p.2) (because c.in_err-scripts.field-0.0
    (left_open c.args.defs.now c.args.bytes.now c.if-bytes-gt-LONGEST.false c.in_ok-builder.builder
    c.in_err-scripts.field-0.0 c.in_ok-builder.ensures.ok) c.in_err-scripts.ensures.err)

pub number_scripts-requires-clause-few : goal.number_scripts-requires-clause-few
number_scripts-requires-clause-few c =
    let read = c.in_ok-builder.ensures.ok in
    omega (
      arith,
      read.few,
      scripts_few (c.in_ok-scripts.ensures.ok.shape read.said read.built),
      ap length c.as_slice.ensures,
    )

pub returns-in_err-numbers-clause-fault : goal.returns-in_err-numbers-clause-fault
returns-in_err-numbers-clause-fault c =
    let p = err_from_is_err_and c.from_residual-in_err-numbers.result c.from_residual-in_err-numbers.ensures.1 in
    let whole = written c.args.defs.now c.args.bytes.now c.if-bytes-gt-LONGEST.false c.in_ok-builder.builder
    c.in_ok-scripts.scripts c.in_ok-scripts.costs c.in_ok-builder.ensures.ok c.in_ok-scripts.ensures.ok in
    rw (p.1, p.2) (because c.in_err-numbers.field-0.0
    (λ h. in_script whole (ap (scripts_fault []) (sym c.as_slice.ensures) ∙ h)) c.in_err-numbers.ensures.err)
