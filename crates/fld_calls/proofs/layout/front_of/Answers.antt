use Rattle.std.proofs.Common.{sym, ◌∙◌, arith}
use Rattle.std.proofs.lemmas.List.{length-take-le}
use Rattle.fld_calls.proofs.Heads.{same_length, no_connector, connector_found, first_found, left_behind}
use Rattle.fld_calls.proofs.layout.front_of.Goals as goal

pub returns-then-rest-length-clause-none : goal.returns-then-rest-length-clause-none
returns-then-rest-length-clause-none c =
    let cut = c.in_ok-head.ensures.cases in
    no_connector c.args.bytes.now c.in_ok-head.head.now c.in_ok-head.rest.now c.parts_of-status.result.3 cut.0 cut.1
    cut.2 c.parts_of-status.ensures.length c.if-rest-length.true

pub returns-clause-connector : goal.returns-clause-connector
returns-clause-connector c =
    let cut = c.in_ok-head.ensures.cases in
    connector_found c.args.bytes.now c.in_ok-head.head.now c.in_ok-head.rest.now c.parts_of-status.result.3 cut.0 cut.1
    cut.2 c.parts_of-status.ensures.length (omega (arith, c.if-rest-length.false))

pub returns-clause-fsa : goal.returns-clause-fsa
returns-clause-fsa c =
    let cut = c.in_ok-head.ensures.cases in
    let parts = c.parts_of-status.ensures in
    first_found c.args.bytes.now c.in_ok-head.head.now c.in_ok-head.rest.now c.parts_of-status.result.3 cut.0 cut.1
    cut.2 parts.length _ _ _ parts.field parts.status parts.op

pub returns-clause-operand : goal.returns-clause-operand
returns-clause-operand c =
    let cut = c.in_ok-head.ensures.cases in
    sym (length-take-le c.parts_of-status.result.3 c.in_ok-head.rest.now (omega (arith, c.if-rest-length.false))
    ∙ same_length c.args.bytes.now c.in_ok-head.head.now c.in_ok-head.rest.now c.parts_of-status.result.3 cut.0 cut.1
    cut.2 c.parts_of-status.ensures.length)

pub returns-clause-rest : goal.returns-clause-rest
returns-clause-rest c =
    let cut = c.in_ok-head.ensures.cases in
    left_behind c.args.bytes.now c.in_ok-head.head.now c.in_ok-head.rest.now c.parts_of-status.result.3 cut.0 cut.1
    cut.2 c.parts_of-status.ensures.length (omega (arith, c.if-rest-length.false))
