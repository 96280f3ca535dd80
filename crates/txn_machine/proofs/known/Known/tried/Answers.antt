use Rattle.std.proofs.Common.{rules, ◌≡◌, Err}
use Rattle.fp_model.specs.declared.scripts.Statement.{out-Statement}
use Rattle.fp_model.specs.declared.scripts.Statement.TheOpen as open_statement
use Rattle.txn_machine.specs.inside.Doing.{deed_of_loop}
use Rattle.txn_machine.specs.Knowing.{env_of}
use Rattle.txn_machine.proofs.StatementLemmas.{choice_runs, choice_stops, fld_runs, fld_stops, is_choice, is_fld, is_loop, loop_runs}
use Rattle.txn_machine.proofs.known.Known.tried.Goals as goal

pub returns-in_ok-chosen-in-If-clause-does : goal.returns-in_ok-chosen-in-If-clause-does
returns-in_ok-chosen-in-If-clause-does c = λ more.
    let is : out-Statement c.args.statement.now ≡ open_statement.If c.in-If.left c.in-If.comparison c.in-If.right
    c.in-If.then c.in-If.otherwise = is_choice c.args.statement.now c.in-If.left c.in-If.comparison c.in-If.right
    c.in-If.then c.in-If.otherwise c.in-If.is in
    choice_runs c.args.defs.now c.args.message.now c.args.statement.now c.in-If.left c.in-If.comparison
    c.in-If.right c.in-If.then c.in-If.otherwise c.in_ok-chosen-in-If.field-0
    (env_of c.args.self.now more) is c.in_ok-chosen-in-If.ensures

pub returns-in_err-chosen-in-If-clause-does : goal.returns-in_err-chosen-in-If-clause-does
returns-in_err-chosen-in-If-clause-does c =
    let e = c.in_err-chosen-in-If.field-0.0 in
    let to : c.from_residual-in_err-chosen-in-If.result ≡ Err e = search rules in
    let is : out-Statement c.args.statement.now ≡ open_statement.If c.in-If.left c.in-If.comparison c.in-If.right
    c.in-If.then c.in-If.otherwise = is_choice c.args.statement.now c.in-If.left c.in-If.comparison c.in-If.right
    c.in-If.then c.in-If.otherwise c.in-If.is in
    choice_stops c.args.defs.now c.args.message.now c.args.self.now c.args.statement.now c.in-If.left c.in-If.comparison
    c.in-If.right
    c.in-If.then c.in-If.otherwise e _ is c.in_err-chosen-in-If.ensures to

pub returns-in_ok-fld_call-in-Fld-clause-does : goal.returns-in_ok-fld_call-in-Fld-clause-does
returns-in_ok-fld_call-in-Fld-clause-does c = λ more.
    let is : out-Statement c.args.statement.now ≡ open_statement.Fld c.in-Fld.db c.in-Fld.key c.in-Fld.fsas =
    is_fld c.args.statement.now c.in-Fld.db c.in-Fld.key c.in-Fld.fsas c.in-Fld.is in
    fld_runs c.args.defs.now c.args.message.now c.args.statement.now c.in-Fld.db c.in-Fld.key c.in-Fld.fsas
    c.in_ok-fld_call-in-Fld.field-0 (env_of c.args.self.now more) is
    c.in_ok-fld_call-in-Fld.ensures.gives

pub returns-in_err-fld_call-in-Fld-clause-does : goal.returns-in_err-fld_call-in-Fld-clause-does
returns-in_err-fld_call-in-Fld-clause-does c =
    let e = c.in_err-fld_call-in-Fld.field-0.0 in
    let to : c.from_residual-in_err-fld_call-in-Fld.result ≡ Err e = search rules in
    let is : out-Statement c.args.statement.now ≡ open_statement.Fld c.in-Fld.db c.in-Fld.key c.in-Fld.fsas =
    is_fld c.args.statement.now c.in-Fld.db c.in-Fld.key c.in-Fld.fsas c.in-Fld.is in
    fld_stops c.args.defs.now c.args.message.now c.args.self.now c.args.statement.now c.in-Fld.db c.in-Fld.key
    c.in-Fld.fsas e _ is
    c.in_err-fld_call-in-Fld.ensures.gives to

pub returns-in-Repeat-clause-does : goal.returns-in-Repeat-clause-does
returns-in-Repeat-clause-does c = λ more.
    let is : out-Statement c.args.statement.now ≡ open_statement.Repeat c.in-Repeat.times c.in-Repeat.body =
    is_loop c.args.statement.now c.in-Repeat.times c.in-Repeat.body c.in-Repeat.is in
    let to : c.repeated.result ≡ deed_of_loop c.in-Repeat.times c.in-Repeat.body = search rules in
    loop_runs c.args.defs.now c.args.message.now c.args.statement.now c.in-Repeat.times c.in-Repeat.body
    c.repeated.result (env_of c.args.self.now more) is to
