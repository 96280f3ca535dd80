use Rattle.std.proofs.Common.{◌≡◌, ◌∙◌, ap, sym, subst, ℕ, List, [], Some}
use Rattle.fp_model.specs.Fsas.{Fsa, IsFsa}
use Rattle.fp_model.specs.declared.scripts.FsaText.{FsaText}
use Rattle.fld_calls.specs.Forms.{lent_form_of}
use Rattle.txn_machine.specs.Knowing.{env_of}
use Rattle.txn_values.specs.Lending.{bytes_in}
use Rattle.txn_machine.proofs.GivenLemmas.{one_given}
use Rattle.txn_machine.proofs.known.Known.append_given.Goals as goal

-- the argument of a statement with an operand
abbrev its : FsaText → List ℕ → Fsa
its f operand = record { field = f.field.0; status = 32; op = f.op; operand = operand }

pub returns-clause-spelled : goal.returns-clause-spelled
returns-clause-spelled c = λ given is.
    let f : FsaText = c.args.fsa.now in
    let written : lent_form_of c.unanswered-given.result ≡ its f (bytes_in c.in_ok-operand.operand) =
    c.unanswered-given.ensures.form ∙ ap (its f) c.as_slice.ensures.exact in
    let one : Some (its f (bytes_in c.in_ok-operand.operand)) ≡ Some given =
    sym (one_given c.args.defs.now c.args.message.now (env_of c.args.self.now []) f (bytes_in c.in_ok-operand.operand)
    c.in_ok-operand.ensures.gives) ∙ is in
    let same : its f (bytes_in c.in_ok-operand.operand) ≡ given = cc in
    subst IsFsa (written ∙ same) c.unanswered-given.ensures.spelled
