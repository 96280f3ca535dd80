-- What a script is shown along its calls, and scripts whose calls fit.
use Rattle.std.specs.Prelude.{◌≡◌, ℕ, List, [], ◌∷◌, ◌++◌, Option, None}
use Rattle.fp_model.specs.declared.calls.Answer.{Answer}
use Rattle.fp_model.specs.declared.calls.Call.{Call}
use Rattle.fp_model.specs.declared.calls.Message.{Message}
use Rattle.fp_model.specs.declared.definitions.Defs.{Defs}
use Rattle.fp_model.specs.declared.scripts.Script.{Script}
use Rattle.fp_model.specs.Asking.{Ask, Asks}
use Rattle.fp_model.specs.Calls.{database_of, target_of}
use Rattle.fp_model.specs.FitCalls.{FitsAnswerOf, FitsTarget, shown_behind}
use Rattle.fp_model.specs.Product.{asked_by}

module _ (defs : Defs) (ask : List Answer → Ask) where
  -- These are answers to the calls that are asked, oldest first, each of which fits its target; and behind them these
  -- types were shown last, by the number of the database.
  pub data HasShown : List Answer → (ℕ → Option ℕ) → Type 0 where
    nothing : HasShown [] (λ db. None)
    one_more : {answers : List Answer} {shown : ℕ → Option ℕ} (call : Call) (answer : Answer)
        → HasShown answers shown
        → ask answers ≡ Asks call
        → FitsAnswerOf (target_of defs (database_of call)) call answer
        → HasShown (answers ++ answer ∷ []) (shown_behind call answer shown)

  -- each call that is asked behind such answers fits its target
  abbrev pub CallsFit : Type 0
  CallsFit = (answers : List Answer) (shown : ℕ → Option ℕ) (call : Call)
      → HasShown answers shown
      → ask answers ≡ Asks call
      → FitsTarget (target_of defs (database_of call)) (shown (database_of call)) call

-- whatever the message, the calls of its script fit
abbrev pub ScriptsFit : Defs → List Script → Type 0
ScriptsFit defs scripts = (message : Message) → CallsFit defs (asked_by defs scripts message)
