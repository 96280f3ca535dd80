use Rattle.std.proofs.Common.{◌≡◌, ◌∙◌, sym, ap, subst, rules, List, [], Option, Some, None}
use Rattle.std.specs.Prelude.{slice_get, IfSome}
use Rattle.fp_model.specs.declared.scripts.Script.{Script}
use Rattle.fp_model.specs.declared.scripts.Statement.{Statement}
use Rattle.fp_model.specs.Asking.{ask}
use Rattle.txn_machine.specs.declared.program.Next.{Next}
use Rattle.txn_machine.specs.Running.{IsAt, IsAsked, IsFit, IsFitNext, end_of}
use Rattle.txn_machine.proofs.NextLemmas.{alike_then, asked_at, from_unwaited, goes_on_at, to_unwaited}
use Rattle.txn_machine.proofs.program.Program.next.Goals as goal

-- the script that runs has these statements
its : (a b : Script) (found : _) → found ≡ Some a → found ≡ Some b → a ≡ b
its a b found h k = let e : Some a ≡ Some b = sym h ∙ k in cc

pub returns-in_err-next-clause-at : goal.returns-in_err-next-clause-at
returns-in_err-next-clause-at c = λ script answers found at.
    let is : script.statements ≡ c.as_slice-statements.result.now =
    ap (λ (s : Script). s.statements) (its script c.script.result.now _ found c.script.ensures) ∙ sym
    c.as_slice-statements.ensures in
    subst (λ (ss : List Statement). IsAt c.args.defs.now ss c.args.message.now answers c.step.new.self) (sym is)
    (goes_on_at c.args.defs.now c.as_slice-statements.result.now c.args.message.now answers c.args.self.now
    c.step.new.self
    (subst (λ (ss : List Statement). IsAt c.args.defs.now ss c.args.message.now answers c.args.self.now) is at)
    (alike_then c.args.defs.now c.as_slice-statements.result.now c.args.message.now c.args.self.now c.loop-next.self
    c.step.new.self
    (from_unwaited c.args.defs.now c.as_slice-statements.result.now c.args.message.now c.args.self.now c.loop-next.self
    c.loop-next.invariant.alike) c.step.ensures.alike) c.step.ensures.call)

pub returns-in-Some-clause-at : goal.returns-in-Some-clause-at
returns-in-Some-clause-at c = λ script answers found at.
    let is : script.statements ≡ c.as_slice-statements.result.now =
    ap (λ (s : Script). s.statements) (its script c.script.result.now _ found c.script.ensures) ∙ sym
    c.as_slice-statements.ensures in
    subst (λ (ss : List Statement). IsAt c.args.defs.now ss c.args.message.now answers c.step.new.self) (sym is)
    (goes_on_at c.args.defs.now c.as_slice-statements.result.now c.args.message.now answers c.args.self.now
    c.step.new.self
    (subst (λ (ss : List Statement). IsAt c.args.defs.now ss c.args.message.now answers c.args.self.now) is at)
    (alike_then c.args.defs.now c.as_slice-statements.result.now c.args.message.now c.args.self.now c.loop-next.self
    c.step.new.self
    (from_unwaited c.args.defs.now c.as_slice-statements.result.now c.args.message.now c.args.self.now c.loop-next.self
    c.loop-next.invariant.alike) c.step.ensures.alike) c.step.ensures.call)

pub returns-in-Some-clause-exact : goal.returns-in-Some-clause-exact
returns-in-Some-clause-exact c = λ script answers found at.
    let is : script.statements ≡ c.as_slice-statements.result.now =
    ap (λ (s : Script). s.statements) (its script c.script.result.now _ found c.script.ensures) ∙ sym
    c.as_slice-statements.ensures in
    let given = subst (λ (o : Option Next). IfSome o
    (λ next. IsAsked next (end_of c.args.defs.now c.as_slice-statements.result.now c.args.message.now c.loop-next.self
    []))) c.in-Some.is c.in_ok-next.ensures.asked in
    subst (λ (ss : List Statement). IsAsked c.in-Some.next (ask c.args.defs.now ss c.args.message.now answers)) (sym is)
    (asked_at c.args.defs.now c.as_slice-statements.result.now c.args.message.now answers c.args.self.now
    c.loop-next.self
    c.in-Some.next (subst (λ (ss : List Statement). IsAt c.args.defs.now ss c.args.message.now answers c.args.self.now)
    is at)
    (from_unwaited c.args.defs.now c.as_slice-statements.result.now c.args.message.now c.args.self.now c.loop-next.self
    c.loop-next.invariant.alike) given)

pub loop-next-preserved : goal.loop-next-preserved
loop-next-preserved c = record {
  alike = to_unwaited c.args.defs.now c.as_slice-statements.result.now c.args.message.now c.args.self.now
      c.step.new.self
      (alike_then c.args.defs.now c.as_slice-statements.result.now c.args.message.now c.args.self.now c.loop-next.self
      c.step.new.self
      (from_unwaited c.args.defs.now c.as_slice-statements.result.now c.args.message.now c.args.self.now
      c.loop-next.self
      c.loop-next.invariant.alike) c.step.ensures.alike);
  number = c.step.ensures.number ∙ c.loop-next.invariant.number;
  wait = c.in_ok-next.ensures.open c.in_default.is;
  shown = c.step.ensures.shown ∙ c.loop-next.invariant.shown;
}
