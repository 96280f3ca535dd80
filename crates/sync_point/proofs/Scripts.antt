-- What is known of a transaction by its script.
use Rattle.std.proofs.Common.{◌≡◌, ap, subst, ℕ, zero, suc, List, [], ◌∷◌, Some, slice_get}
use Rattle.std.specs.List.{AllByRecursion}
use Rattle.std.specs.Option.{option_map_or}
use Rattle.std.specs.Prelude.{Option}
use Rattle.fp_model.specs.declared.calls.Answer.{Answer}
use Rattle.fp_model.specs.declared.calls.Message.{Message}
use Rattle.fp_model.specs.declared.definitions.Defs.{Defs}
use Rattle.fp_model.specs.declared.scripts.Script.{Script}
use Rattle.fp_model.specs.Product.{asked_by}
use Rattle.fp_model.specs.Asking.{Replies, ask, script_of}

-- what its message asks is what its script asks
pub asked_is : (defs : Defs) (scripts : List Script) (message : Message) (script : Script) (answers : List Answer)
    → script_of scripts message.tran ≡ Some script
    → asked_by defs scripts message answers ≡ ask defs script.statements message answers
asked_is defs scripts message script answers named = ap (λ (o : Option Script). option_map_or
    (λ (s : Script). ask defs s.statements message answers) o (Replies [])) named

-- what holds of all holds of each
pub each_has : {A : Type 0} (P : A → Type 0) (xs : List A) (place : ℕ) (x : A) → AllByRecursion P xs
    → slice_get xs place ≡ Some x → P x
each_has P [] place x h e = absurd cc
each_has P (y ∷ ys) zero x h e = let same : y ≡ x = cc in subst P same h.0
each_has P (y ∷ ys) (suc n) x h e = each_has P ys n x h.1 e
