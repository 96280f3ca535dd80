-- What the last number of a terminal says of a numbered line.
use Rattle.std.proofs.Common.{◌≡◌, ℕ, ◌<◌, List, Option, Some, None, refl, sym, ◌∙◌, ap, subst, Bool, true, false, if◌then◌else◌, arith, Result, Ok}
use Rattle.std.specs.Prelude.{is_some, nat_lt, ◌==◌}
use Rattle.std.proofs.lemmas.Grind.{common_steps}
use Rattle.fp_model.specs.declared.calls.Message.{Message}
use Rattle.fp_model.specs.declared.log.Outcome.TheVariants as outcome
use Rattle.fp_model.specs.declared.scripts.Script.{Script}
use Rattle.fp_model.specs.Asking.{script_of}
use Rattle.fp_model.specs.History.{History, Request, Accepts, Refuses}
use Rattle.fp_model.specs.Lasts.{Last, format_at, lasts_of, last_of}
use Rattle.fp_model.specs.Messages.{MessageFault, message_of}
use Rattle.fp_model.specs.Product.{by_script, by_last, by_number, by_message, request_of}
use Rattle.serial_order.proofs.Lines.{accepts, refused_is_not_accepted}
use Rattle.run_laws.specs.Fresh.{last_behind, IsFresh}
use Rattle.std.proofs.lemmas.Option.{none-some, same_Some}

-- a number above the last one, if there is one
abbrev pub IsAbove : ℕ → Option Last → Type 0
IsAbove number o = (last : Last) → o ≡ Some last → last.number < number

-- What a number asks for, behind this last one.
pub data Asked (scripts : List Script) (m : Message) (number : ℕ) (o : Option Last) (r : Request) : Type 0 where
  Goes : IsAbove number o → r ≡ by_script scripts m → Asked scripts m number o r
  Is_old :
      (last : Last) → o ≡ Some last → number < last.number → r ≡ Refuses (outcome.Old last.number)
      → Asked scripts m number o r
  Repeats :
      (last : Last) → o ≡ Some last → number ≡ last.number → r ≡ Refuses (outcome.Repeat last.line)
      → Asked scripts m number o r

asked_by_last : (scripts : List Script) (m : Message) (number : ℕ) (o : Option Last)
    → Asked scripts m number o (by_last scripts m number o)
asked_by_last scripts m number None = Goes (λ last e. absurd (none-some last e)) refl
asked_by_last scripts m number (Some last) =
    by (nat_lt number last.number) refl (number == last.number) refl
  where
    by : (less : Bool) → nat_lt number last.number ≡ less → (same : Bool) → (number == last.number) ≡ same
        → Asked scripts m number (Some last)
        (if less then Refuses (outcome.Old last.number) else
        (if same then Refuses (outcome.Repeat last.line) else by_script scripts m))
    by true is same same_is = Is_old last refl (grind (arith, common_steps, is)) refl
    by false is true same_is = Repeats last refl (grind (arith, common_steps, same_is)) refl
    by false is false same_is =
        Goes (λ other e. (
        let at : last.number ≡ other.number = ap (λ (l : Last). l.number) (same_Some last other e) in
        let more : last.number < number = grind (arith, common_steps, is, same_is) in
        omega (arith, at, more))) refl

-- what a numbered line asks for
pub asked_of : (scripts : List Script) (h : History) (line : List ℕ) (m : Message) (number : ℕ)
    → message_of (format_at h.format h.entries) line ≡ Ok m
    → m.number ≡ Some number
    → Asked scripts m number (last_behind h m.lterm) (request_of scripts h line)
asked_of scripts h line m number reads has =
    let lasts = lasts_of h.format h.entries in
    let is : request_of scripts h line ≡ by_last scripts m number (last_of m.lterm lasts)
    = ap (λ (r : Result Message MessageFault). by_message scripts lasts r) reads
    ∙ ap (λ (n : Option ℕ). by_number scripts lasts m n) has in
    subst (λ (r : Request). Asked scripts m number (last_of m.lterm lasts) r) (sym is)
    (asked_by_last scripts m number (last_of m.lterm lasts))

-- ---- messages that are accepted

names_script : (scripts : List Script) (m message : Message) → by_script scripts m ≡ Accepts message
    → is_some (script_of scripts m.tran) ≡ true
names_script scripts m message e = by (is_some (script_of scripts m.tran)) refl e
  where
    by : (b : Bool) → is_some (script_of scripts m.tran) ≡ b
        → (if b then Accepts m else Refuses outcome.Unknown) ≡ Accepts message
        → is_some (script_of scripts m.tran) ≡ true
    by true is e = is
    by false is e = absurd (refused_is_not_accepted outcome.Unknown message e)

-- A message that is accepted is fresh.
pub fresh_of : (scripts : List Script) (h : History) (message : Message)
    → request_of scripts h message.line ≡ Accepts message
    → IsFresh scripts h message
fresh_of scripts h message e = record {
  reads = reads;
  names = by message.number refl;
  above = λ number last has there. goes number has
      (asked_of scripts h message.line message number reads has) last there;
}
  where
    reads : message_of (format_at h.format h.entries) message.line ≡ Ok message
    reads = accepts scripts (lasts_of h.format h.entries) (message_of (format_at h.format h.entries) message.line)
        message e

    goes : (number : ℕ) → message.number ≡ Some number
        → Asked scripts message number (last_behind h message.lterm) (request_of scripts h message.line)
        → IsAbove number (last_behind h message.lterm)
    goes number has (Goes above is) = above
    goes number has (Is_old last there less is) =
        absurd (refused_is_not_accepted (outcome.Old last.number) message (sym is ∙ e))
    goes number has (Repeats last there same is) =
        absurd (refused_is_not_accepted (outcome.Repeat last.line) message (sym is ∙ e))

    names_of : (number : ℕ) → Asked scripts message number (last_behind h message.lterm)
        (request_of scripts h message.line)
        → is_some (script_of scripts message.tran) ≡ true
    names_of number (Goes above is) = names_script scripts message message (sym is ∙ e)
    names_of number (Is_old last there less is) =
        absurd (refused_is_not_accepted (outcome.Old last.number) message (sym is ∙ e))
    names_of number (Repeats last there same is) =
        absurd (refused_is_not_accepted (outcome.Repeat last.line) message (sym is ∙ e))

    by : (n : Option ℕ) → message.number ≡ n → is_some (script_of scripts message.tran) ≡ true
    by None has =
        let lasts = lasts_of h.format h.entries in
        let is : request_of scripts h message.line ≡ by_script scripts message
        = ap (λ (r : Result Message MessageFault). by_message scripts lasts r) reads
        ∙ ap (λ (n : Option ℕ). by_number scripts lasts message n) has in
        names_script scripts message message (sym is ∙ e)
    by (Some number) has = names_of number (asked_of scripts h message.line message number reads has)
