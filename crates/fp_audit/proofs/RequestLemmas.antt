-- What a line asks for, from its message, its number and its script.
use Rattle.std.proofs.Common.{◌≡◌, ◌∙◌, refl, sym, ap, ℕ, zero, suc, ◌<◌, List, [], ◌∷◌, length, Bool, true, false, cond, Option, Some, None, Result, Ok, Err, arith}
use Rattle.std.specs.Prelude.{is_some, nat_lt, if◌then◌else◌, slice_get}
use Rattle.std.specs.List.{position_or_len}
use Rattle.std.specs.Result.{result_ok}
use Rattle.std.proofs.lemmas.Bool.{ltb-true}
use Rattle.fp_model.specs.declared.calls.Message.{Message}
use Rattle.fp_model.specs.declared.log.Outcome.{Outcome}
use Rattle.fp_model.specs.declared.log.Outcome.TheVariants as outcome
use Rattle.fp_model.specs.declared.name.Name.{Name}
use Rattle.fp_model.specs.declared.scripts.Script.{Script}
use Rattle.fp_model.specs.Asking.{script_of}
use Rattle.fp_model.specs.History.{History, Accepts, Refuses}
use Rattle.fp_model.specs.Lasts.{format_at, lasts_of}
use Rattle.fp_model.specs.Messages.{MessageFault, message_of}
use Rattle.fp_model.specs.Product.{by_message, by_number, by_script, request_of}
use Rattle.fp_model.specs.Texts.{same_text}
use Rattle.txn_lang.specs.Numbers.{place_of}
use Rattle.fp_audit.specs.inside.Judging.{refused_or}

-- ---- the message

ok_of : (r : Result Message MessageFault) (m : Message) → Some m ≡ result_ok r → r ≡ Ok m
ok_of (Ok x) m e = let same : x ≡ m = cc in ap (λ (y : Message). Ok y) same
ok_of (Err f) m e = absurd (cc)

-- a line that is a message, which is refused by its number or isn't
pub asks : (scripts : List Script) (h : History) (format : ℕ) (line : List ℕ) (m : Message) (refusal : Option Outcome)
    → format ≡ format_at h.format h.entries → Some m ≡ result_ok (message_of format line)
    → by_number scripts (lasts_of h.format h.entries) m m.number ≡ refused_or refusal (by_script scripts m)
    → request_of scripts h line ≡ refused_or refusal (by_script scripts m)
asks scripts h format line m refusal is some number =
    ap (by_message scripts (lasts_of h.format h.entries))
    (ok_of (message_of (format_at h.format h.entries) line) m
    (some ∙ ap (λ (f : ℕ). result_ok (message_of f line)) is))
    ∙ number

-- ---- the script

within : (b : Bool) (n len k : ℕ) → nat_lt n len ≡ b → Some k ≡ cond b (Some n) None → k < len
within true n len k less e = let same : k ≡ n = cc in let lt = ltb-true n len less in omega (arith, same, lt)
within false n len k less e = absurd (cc)

-- the number of a script is one of them
pub number_within : (scripts : List Script) (name : Name) (n : ℕ) → Some n ≡ place_of scripts name → n < length scripts
number_within scripts name n e =
    within (nat_lt (position_or_len (λ (s : Script). same_text s.name.0 name.0) scripts) (length scripts))
    (position_or_len (λ (s : Script). same_text s.name.0 name.0) scripts) (length scripts) n refl e

there : {X : Type 0} (xs : List X) (n : ℕ) → n < length xs → is_some (slice_get xs n) ≡ true
there [] n lt = absurd (omega (arith, lt))
there (x ∷ xs) zero lt = refl
there (x ∷ xs) (suc n) lt = there xs n (omega (arith, lt))

-- a message that names a script asks for it
pub by_found : (scripts : List Script) (m : Message) (n : ℕ) → n < length scripts
    → slice_get scripts n ≡ script_of scripts m.tran → by_script scripts m ≡ Accepts m
by_found scripts m n lt is =
    ap (λ (b : Bool). if b then Accepts m else Refuses outcome.Unknown) (sym (ap is_some is) ∙ there scripts n lt)
