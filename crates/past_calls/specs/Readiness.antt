-- What a call comes to: its answer, or the anchor whose roots it needs first.
use Rattle.std.specs.Prelude.{⊤, ℕ, Option, Some, None}
use Rattle.fp_model.specs.declared.calls.Answer.{Answer}
use Rattle.fp_model.specs.declared.calls.Resource.{Resource}
use Rattle.fp_model.specs.declared.calls.Resource.TheVariants.{Anchor}
use Rattle.past_calls.specs.declared.answering.Ready.{Ready}
use Rattle.past_calls.specs.declared.answering.Ready.TheVariants as ready

-- the anchor, if one is needed
abbrev pub needed_in : Ready → Option Resource
needed_in (ready.Answer answer) = None
needed_in (ready.Need number anchor) = Some (Anchor number anchor)

-- of an answer
abbrev pub IfAnswer : Ready → (Answer → Type 0) → Type 0
IfAnswer (ready.Answer answer) P = P answer
IfAnswer (ready.Need number anchor) P = ⊤

-- where an anchor is needed
abbrev pub OnNeed : Ready → Type 0 → Type 0
OnNeed (ready.Answer answer) P = ⊤
OnNeed (ready.Need number anchor) P = P

-- of the anchor that is needed, by the number of its database and its own
abbrev pub IfNeed : Ready → (ℕ → ℕ → Type 0) → Type 0
IfNeed (ready.Answer answer) P = ⊤
IfNeed (ready.Need number anchor) P = P number anchor
