-- Whether an entry may come: what running its message alone says of it, and what its line does.
use Rattle.std.proofs.Common.{◌≡◌, ◌∙◌, refl, sym, ap, subst, ℕ, List, Bool, true, false, Some, ◌⊎◌, inl, inr}
use Rattle.std.specs.Prelude.{◌↔◌, ◌==◌, ⊤, IfOk, IsTrue, Result, Ok, Err}
use Rattle.fp_model.specs.declared.calls.Message.{Message}
use Rattle.fp_model.specs.declared.database.Db.{Db}
use Rattle.fp_model.specs.declared.log.Entry.{Entry}
use Rattle.fp_model.specs.declared.log.Outcome.{Outcome}
use Rattle.fp_model.specs.History.{History, Request, Accepts, Refuses, place_of, states_of}
use Rattle.fp_model.specs.Rules.{Rules}
use Rattle.fp_model.specs.Serial.{Ending, serial_run}
use Rattle.fp_model.specs.Serial as serial
use Rattle.fp_model.specs.SerialHistory.{AsksNothing, EndsAlone, Leads, NeverFalls}
use Rattle.fp_model.specs.declared.log.Outcome.TheVariants as outcome
use Rattle.fp_model.specs.Lasts.{format_at}
use Rattle.std.proofs.lemmas.Bool.{eq-eqb, eqb-true}
use Rattle.past_replay.specs.Ends.{with_next}
use Rattle.past_replay.specs.declared.alone.Alone.{Alone}
use Rattle.past_replay.specs.declared.alone.Alone.TheVariants as alone
use Rattle.fp_audit.specs.inside.Ending.{IsEndOf}
use Rattle.fp_audit.specs.inside.Judging.{Finds}

not_both : true ≡ false → ⊥
not_both e = cc

message_is : (x y : Message) (r : Request) → r ≡ Accepts x → r ≡ Accepts y → x ≡ y
message_is x y r p q = cc

outcome_is : (x y : Outcome) (r : Request) → r ≡ Refuses x → r ≡ Refuses y → x ≡ y
outcome_is x y r p q = cc

stuck_ends : (x : Ending) → serial.Stuck ≡ serial.Ends x → ⊥
stuck_ends x e = cc

ending_is : (x y : Ending) → serial.Ends x ≡ serial.Ends y → x ≡ y
ending_is x y e = cc

-- an outcome that says that the line asks for nothing
abbrev pub IsRefused : Outcome → Type 0
IsRefused outcome.Unknown = ⊤
IsRefused (outcome.Old last) = ⊤
IsRefused (outcome.Repeat line) = ⊤
IsRefused _ = ⊥

pub is_refused : (o : Outcome)
    → (o ≡ outcome.Unknown) ⊎ ((last : ℕ) × (o ≡ outcome.Old last)) ⊎ ((line : List ℕ) × (o ≡ outcome.Repeat line))
    → IsRefused o
is_refused o (inl is) = subst IsRefused (sym is) tt
is_refused o (inr (inl old)) = subst IsRefused (sym old.1) tt
is_refused o (inr (inr again)) = subst IsRefused (sym again.1) tt

module _ (rules : Rules) (h : History) (e : Entry) where
  -- ---- run alone

  abbrev ending : Db → Ending
  ending next = record { outcome = e.outcome; reply = e.reply; next = next }

  ends_so : (next : Db) (a : Alone) → IsEndOf e a → with_next next a ≡ serial.Ends (ending next)
  ends_so next (alone.Ends o reply) is =
      ap (λ (o : Outcome). serial.Ends (record { outcome = o; reply = reply; next = next })) is.0
      ∙ ap (λ (r : List ℕ). serial.Ends (record { outcome = e.outcome; reply = r; next = next })) is.1
  ends_so next alone.Stuck is = absurd is

  ended_so : (next other : Db) (a : Alone) → with_next next a ≡ serial.Ends (ending other) → IsEndOf e a
  ended_so next other (alone.Ends o reply) is =
      let same = ending_is (record { outcome = o; reply = reply; next = next }) (ending other) is in
      (ap (λ (x : Ending). x.outcome) same, ap (λ (x : Ending). x.reply) same)
  ended_so next other alone.Stuck is = absurd (stuck_ends (ending other) is)

  -- a run that ends as the entry says, or doesn't
  pub found_run : (message : Message) (next : Db) (a : Alone) (b : Bool) → rules.request_of h e.line ≡ Accepts message
      → NeverFalls e.from e.notes (place_of h)
      → serial_run rules h.now (states_of h) message e.notes ≡ with_next next a
      → (IsTrue b ↔ IsEndOf e a) → Finds (EndsAlone rules h e) next b
  found_run message next a true asks order run is = record {
    message = message;
    is_request = asks;
    in_order = order;
    ends = run ∙ ends_so next a (is.0 refl);
  }
  found_run message next a false asks order run is = λ other end.
      let same = message_is end.message message (rules.request_of h e.line) end.is_request asks in
      not_both (sym (is.1 (ended_so next other a
      (sym run ∙ ap (λ (m : Message). serial_run rules h.now (states_of h) m e.notes) (sym same) ∙ end.ends))))

  -- ---- nothing asked

  pub asks_so : (next : Db) (o : Outcome) (b : Bool) → rules.request_of h e.line ≡ Refuses o → next ≡ h.now
      → (IsTrue b ↔ (o ≡ e.outcome)) → Finds (AsksNothing rules h e e.outcome) next b
  asks_so next o true asks same is = (asks ∙ ap Refuses (is.0 refl), same)
  asks_so next o false asks same is = λ other end.
      not_both (sym (is.1 (outcome_is o e.outcome (rules.request_of h e.line) asks end.0)))

  -- ---- the outcome

  leads_asks : (o : Outcome) → IsRefused o → (next : Db) (b : Bool) → Finds (AsksNothing rules h e o) next b
      → Finds (Leads rules h e o) next b
  leads_asks outcome.Done is next b found = absurd is
  leads_asks (outcome.Verify call fsa found) is next b finds = absurd is
  leads_asks (outcome.Roll code) is next b found = absurd is
  leads_asks (outcome.SeqFull set begin end n) is next b found = absurd is
  leads_asks (outcome.Deadlock cycle) is next b found = absurd is
  leads_asks outcome.Device is next b found = absurd is
  leads_asks outcome.Memory is next b found = absurd is
  leads_asks outcome.Unknown is next true found = found
  leads_asks outcome.Unknown is next false found = found
  leads_asks (outcome.Old last) is next true found = found
  leads_asks (outcome.Old last) is next false found = found
  leads_asks (outcome.Repeat line) is next true found = found
  leads_asks (outcome.Repeat line) is next false found = found
  leads_asks (outcome.Purge set n) is next b found = absurd is
  leads_asks outcome.Format is next b found = absurd is

  if_so : {E : Type 0} (r : Result Bool E) (P Q : Bool → Type 0) → ((b : Bool) → P b → Q b) → IfOk r P → IfOk r Q
  if_so (Ok b) P Q so p = so b p
  if_so (Err error) P Q so p = tt

  pub asks_leads : {E : Type 0} (r : Result Bool E) (next : Db) → IsRefused e.outcome
      → IfOk r (Finds (AsksNothing rules h e e.outcome) next) → IfOk r (Finds (Leads rules h e e.outcome) next)
  asks_leads r next is found = if_so r (Finds (AsksNothing rules h e e.outcome) next)
      (Finds (Leads rules h e e.outcome) next) (λ b. leads_asks e.outcome is next b) found

  -- a purge leads where it is one of an area with a sequential part
  pub purge_leads : (next : Db) (set n : ℕ) (b : Bool) → e.outcome ≡ outcome.Purge set n
      → Finds (λ next. rules.purged set n h.now ≡ Some next) next b → Finds (Leads rules h e e.outcome) next b
  purge_leads next set n b is found =
      subst (λ (o : Outcome). Finds (Leads rules h e o) next b) (sym is) (by b found)
    where
      by : (b : Bool) → Finds (λ next. rules.purged set n h.now ≡ Some next) next b
          → Finds (Leads rules h e (outcome.Purge set n)) next b
      by true so = so
      by false so = so

  -- a format, behind entries that are read in the first
  pub format_found : (next : Db) (format : ℕ) → e.outcome ≡ outcome.Format → format ≡ format_at h.format h.entries
      → next ≡ h.now → Finds (Leads rules h e e.outcome) next (format == 1)
  format_found next format is at same =
      subst (λ (o : Outcome). Finds (Leads rules h e o) next (format == 1)) (sym is) (by (format == 1) refl)
    where
      by : (b : Bool) → (format == 1) ≡ b → Finds (Leads rules h e outcome.Format) next b
      by true one = (sym at ∙ eqb-true format 1 one, same)
      by false one = λ other leads. not_both (sym (eq-eqb format 1 (at ∙ leads.0)) ∙ one)
