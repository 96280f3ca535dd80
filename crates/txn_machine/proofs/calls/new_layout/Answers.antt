use Rattle.std.proofs.Common.{◌≡◌, ℕ, subst, Some, None}
use Rattle.std.specs.Prelude.{IfOk, IfErr}
use Rattle.fp_model.specs.Operands.{new_type}
use Rattle.fp_model.specs.Values.{layout_of}
use Rattle.txn_machine.proofs.calls.new_layout.Goals as goal

pub returns-clause-ok : goal.returns-clause-ok
returns-clause-ok c = λ message.
    let is : c.new_type.result ≡ new_type c.args.defs.now message c.args.ssas.now =
    c.new_type.ensures c.args.defs.now message in
    subst (λ (n : ℕ). IfOk c.layout_of.result (λ layout. layout_of c.args.defs.now c.args.db n ≡ Some
    (record { fields = layout.fields.now; has_key = layout.has_key }))) is c.layout_of.ensures.ok

pub returns-clause-none : goal.returns-clause-none
returns-clause-none c = λ message.
    let is : c.new_type.result ≡ new_type c.args.defs.now message c.args.ssas.now =
    c.new_type.ensures c.args.defs.now message in
    subst (λ (n : ℕ). IfErr c.layout_of.result (λ e. layout_of c.args.defs.now c.args.db n ≡ None)) is
    c.layout_of.ensures.none
