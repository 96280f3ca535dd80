-- What holds of a good answer.
use Rattle.std.proofs.Common.{◌≡◌, subst, List, [], ◌∷◌, ◌++◌}
use Rattle.std.specs.Prelude.{Option, Some, None, IfSome, IfNone}

-- what holds of what there is, and of nothing
pub at_some : {A : Type 0} (o : Option A) (x : A) (P : A → Type 0) → o ≡ Some x → IfSome o P → P x
at_some o x P e h = subst (λ v. IfSome v P) e h

pub at_none : {A : Type 0} (o : Option A) (P : Type 0) → o ≡ None → IfNone o P → P
at_none o P e h = subst (λ v. IfNone v P) e h

-- nothing behind, where there is nothing
pub nil_behind : {A : Type 0} (xs ys : List A) → xs ++ ys ≡ [] → ys ≡ []
nil_behind [] ys e = e
nil_behind (x ∷ xs) ys e = absurd cc
