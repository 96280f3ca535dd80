use Rattle.std.proofs.Common.{refl, ◌≡◌, ◌∙◌, ◌&&◌, ◌==◌, List, Bool, true, false, Option, None, Some, ap, sym, subst}
use Rattle.std.specs.Prelude.{Contains, if◌then◌else◌}
use Rattle.fp_model.specs.declared.calls.Mode.{Mode}
use Rattle.fp_model.specs.declared.calls.Resource.{Resource}
use Rattle.fp_model.specs.Waiting.{same_resource}
use Rattle.ci_locks.specs.Holdings.{held_by}
use Rattle.ci_locks.proofs.Sounds.{contains_less}
use Rattle.ci_locks.proofs.state.leave_all.Goals as goal
use Rattle.plain_laws.proofs.Numbers.{is_number}

still : (here same : Bool) (x y : Option Mode) → x ≡ (if same && here then None else y)
    → (if here then None else x) ≡ (if here then None else y)
still true same x y e = refl
still false true x y e = e
still false false x y e = e

pub loop-resource-preserved-in-Some : goal.loop-resource-preserved-in-Some
loop-resource-preserved-in-Some c = record {
  others = λ other one.
      still (other == c.args.region) (same_resource c.in-Some.resource one) (held_by c.leave.new.self other one)
      (held_by c.loop-resource.holdings other one) (c.leave.ensures.modes other one)
      ∙ c.loop-resource.invariant.others other one;
  listed = λ one mode held. by one mode held (same_resource c.in-Some.resource one) refl;
  held = c.leave.ensures.held;
}
  where
    by : (one : Resource) (mode : Mode) → held_by c.leave.new.self c.args.region one ≡ Some mode → (b : Bool)
        → same_resource c.in-Some.resource one ≡ b → Contains c.pop.new.self.items one
    by one mode held true same =
        let none : held_by c.leave.new.self c.args.region one ≡ None = c.leave.ensures.modes c.args.region one
        ∙ ap (λ b. if b && c.args.region == c.args.region then None else held_by c.loop-resource.holdings c.args.region
        one) same
        ∙ ap (λ b. if b then None else held_by c.loop-resource.holdings c.args.region one) (is_number c.args.region) in
        absurd (let wrong : None ≡ Some mode = sym none ∙ held in cc)
    by one mode held false apart =
        let was : held_by c.loop-resource.holdings c.args.region one ≡ Some mode =
        sym (c.leave.ensures.modes c.args.region one ∙ ap
        (λ b. if b && c.args.region == c.args.region then None else held_by c.loop-resource.holdings c.args.region
        one) apart) ∙ held in
        let P : List Resource → Type 0 = λ list. Contains list one in
        contains_less c.pop.new.self.items c.in-Some.resource one
        (subst P c.in-Some.ensures.items (c.loop-resource.invariant.listed one mode was))
        (λ same. let wrong : true ≡ false = sym same ∙ apart in cc)
