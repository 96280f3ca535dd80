-- The first fault of a schedule, token by token.
use Rattle.std.proofs.Common.{◌≡◌, ℕ, ◌+◌, ◌≤◌, ◌<◌, List, ◌∷◌, length, true, false, nat_lt, Some, None, Ok, Err, refl}
use Rattle.std.specs.Prelude.{filter_map}
use Rattle.std.proofs.lemmas.Bool.{lt-ltb, le-ltb}
use Rattle.fp_model.specs.declared.definitions.Defs.{Defs}
use Rattle.fp_model.specs.declared.events.Event.{Event}
use Rattle.fp_schedule.specs.declared.fault.ScheduleFault.{ScheduleFault}
use Rattle.fp_schedule.specs.declared.fault.ScheduleFault.TheVariants.{BadToken, TooLong, TooMany}
use Rattle.fp_schedule.specs.Schedule.{event_of, events_of, first_fault, tokens_of}

module _ (defs : Defs) (place : ℕ) (token : List ℕ) (tokens : List (List ℕ)) where
  -- a token that is an event is passed
  pub passes : (e : Event) → place ≤ 1000000 → event_of defs token ≡ Some e
      → first_fault defs place (token ∷ tokens) ≡ first_fault defs (place + 1) tokens
  passes e le is = let few : nat_lt 1000000 place ≡ false = le-ltb _ _ le in rw (few, is) refl

  -- one that is none is the fault
  pub is_bad : place ≤ 1000000 → event_of defs token ≡ None
      → first_fault defs place (token ∷ tokens) ≡ Some (BadToken place)
  is_bad le is = let few : nat_lt 1000000 place ≡ false = le-ltb _ _ le in rw (few, is) refl

  -- one behind the last that may come is one too many
  pub is_past : 1000000 < place → first_fault defs place (token ∷ tokens) ≡ Some TooMany
  is_past lt = let many : nat_lt 1000000 place ≡ true = lt-ltb _ _ lt in rw many refl

module _ (defs : Defs) (bytes : List ℕ) where
  pub refused : (fault : ScheduleFault) → length bytes ≤ 32000000 → first_fault defs 1 (tokens_of bytes) ≡ Some fault
      → events_of defs bytes ≡ Err fault
  refused fault le is = let short : nat_lt 32000000 (length bytes) ≡ false = le-ltb _ _ le in rw (short, is) refl

  pub taken : length bytes ≤ 32000000 → first_fault defs 1 (tokens_of bytes) ≡ None
      → events_of defs bytes ≡ Ok (filter_map (event_of defs) (tokens_of bytes))
  taken le is = let short : nat_lt 32000000 (length bytes) ≡ false = le-ltb _ _ le in rw (short, is) refl

  pub too_long : 32000000 < length bytes → events_of defs bytes ≡ Err TooLong
  too_long lt = let long : nat_lt 32000000 (length bytes) ≡ true = lt-ltb _ _ lt in rw long refl
