use Rattle.std.proofs.Common.{◌≡◌, sym, refl, subst, ℕ, ◌<◌, length, Bool, true, false, cond, Option, Some, None, nat_lt}
use Rattle.std.specs.Prelude.{IfSome}
use Rattle.std.proofs.lemmas.Bool.{ltb-true}
use Rattle.call_tests.proofs.programs.number_of.Goals as goal

within : (n k : ℕ) (b : Bool) → nat_lt n k ≡ b → IfSome (cond b (Some n) None) (λ i. i < k)
within n k true is = ltb-true n k is
within n k false is = tt

pub returns : goal.returns
returns c = subst (λ (o : Option ℕ). IfSome o (λ i. i < length c.args.scripts.now.scripts)) (sym c.find.ensures.number)
    (within _ (length c.args.scripts.now.scripts) _ refl)
