-- Laws of histories: fronts, joins, the states that entries determine, notes.
use Rattle.std.proofs.Common.{◌≡◌, ℕ, ◌+◌, ◌≤◌, List, [], ◌∷◌, ◌++◌, length, Option, Some, refl, sym, ap, ◌∙◌, subst, arith, length-append, append_assoc}
use Rattle.std.proofs.lemmas.List.{append-nil}
use Rattle.fp_model.specs.declared.database.Db.{Db}
use Rattle.fp_model.specs.declared.calls.Message.{Message}
use Rattle.fp_model.specs.declared.log.Entry.{Entry}
use Rattle.fp_model.specs.declared.log.Outcome.{Outcome}
use Rattle.fp_model.specs.declared.log.Outcome.TheVariants as outcome
use Rattle.fp_model.specs.Entries.{SuitsOutcome}
use Rattle.fp_model.specs.History.{History, Request, Accepts, states_of, place_of, with_entry}
use Rattle.fp_model.specs.Rules.{Rules}
use Rattle.fp_model.specs.Serial.{Ends, Ending, serial_run}
use Rattle.fp_model.specs.SerialHistory.{NeverFalls, EndsAlone, Leads, Comes, LeadsOn}

module _ (rules : Rules) where
  -- a history that goes on in two parts
  pub front : (h : History) (a b : List Entry) (h2 : History)
      → LeadsOn rules h (a ++ b) h2
      → (mid : History) × (LeadsOn rules h a mid × LeadsOn rules mid b h2)
  front h [] b h2 l = (h, (refl, l))
  front h (e ∷ es) b h2 l =
      let rest = front (with_entry e l.0 h) es b h2 l.2 in
      (rest.0, ((l.0, l.1, rest.1.0), rest.1.1))

  -- two parts of a history
  pub join : (h : History) (a b : List Entry) (mid h2 : History)
      → LeadsOn rules h a mid → LeadsOn rules mid b h2
      → LeadsOn rules h (a ++ b) h2
  join h [] b mid h2 l k = let P : History → Type 0 = λ x. LeadsOn rules x b h2 in subst P l k
  join h (e ∷ es) b mid h2 l k = (l.0, l.1, join (with_entry e l.0 h) es b mid h2 l.2 k)

  ending_next : (x y : Ending) → Ends x ≡ Ends y → x.next ≡ y.next
  ending_next x y e = cc

  message_is : (x y : Message) (r : Request) → r ≡ Accepts x → r ≡ Accepts y → x ≡ y
  message_is x y r p q = cc

  -- an entry's message, and how it ends, are determined
  ends_once : (h : History) (e : Entry) (x y : Db) → EndsAlone rules h e x → EndsAlone rules h e y → x ≡ y
  ends_once h e x y p q =
      let same = message_is p.message q.message (rules.request_of h e.line) p.is_request q.is_request in
      let P : Message → Type 0 = λ m. serial_run rules h.now (states_of h) m e.notes
      ≡ Ends (record { outcome = e.outcome; reply = e.reply; next = x }) in
      ending_next (record { outcome = e.outcome; reply = e.reply; next = x })
      (record { outcome = e.outcome; reply = e.reply; next = y })
      (sym (subst P same p.ends) ∙ q.ends)

  -- the state that an entry leads to is determined
  one_next : (h : History) (e : Entry) (o : Outcome) (x y : Db) → Leads rules h e o x → Leads rules h e o y → x ≡ y
  one_next h e outcome.Done x y p q = ends_once h e x y p q
  one_next h e (outcome.Verify call fsa found) x y p q = ends_once h e x y p q
  one_next h e (outcome.Roll code) x y p q = ends_once h e x y p q
  one_next h e (outcome.SeqFull set begin end n) x y p q = ends_once h e x y p q
  one_next h e (outcome.Deadlock cycle) x y p q = p.same ∙ sym q.same
  one_next h e outcome.Device x y p q = p.same ∙ sym q.same
  one_next h e outcome.Memory x y p q = p.same ∙ sym q.same
  one_next h e outcome.Unknown x y p q = p.1 ∙ sym q.1
  one_next h e (outcome.Old last) x y p q = p.1 ∙ sym q.1
  one_next h e (outcome.Repeat line) x y p q = p.1 ∙ sym q.1
  one_next h e (outcome.Purge set n) x y p q = some_is x y (rules.purged set n h.now) p q
    where
      some_is : (x y : Db) (o : Option Db) → o ≡ Some x → o ≡ Some y → x ≡ y
      some_is x y o p q = cc
  one_next h e outcome.Format x y p q = p.1 ∙ sym q.1

  -- the history that entries lead to is determined
  pub one_end : (h : History) (es : List Entry) (x y : History) → LeadsOn rules h es x → LeadsOn rules h es y → y ≡ x
  one_end h [] x y p q = q ∙ sym p
  one_end h (e ∷ es) x y p q =
      let same = one_next h e e.outcome p.0 q.0 p.1.leads q.1.leads in
      let P : Db → Type 0 = λ d. LeadsOn rules (with_entry e d h) es x in
      one_end (with_entry e q.0 h) es x y (subst P same p.2) q.2

  -- a state for each entry
  pub states_counted : (h : History) (es : List Entry) (h2 : History)
      → LeadsOn rules h es h2 → length h2.past ≡ length h.past + length es
  states_counted h [] h2 l = ap (λ (x : History). length x.past) l ∙ omega arith
  states_counted h (e ∷ es) h2 l =
      let rest = states_counted (with_entry e l.0 h) es h2 l.2 in
      let one = length-append h.past (h.now ∷ []) in
      omega (arith, rest, one)

  -- the entries are put behind those before
  pub entries_put : (h : History) (es : List Entry) (h2 : History)
      → LeadsOn rules h es h2 → h2.entries ≡ h.entries ++ es
  entries_put h [] h2 l = ap (λ (x : History). x.entries) l ∙ sym (append-nil h.entries)
  entries_put h (e ∷ es) h2 l = entries_put (with_entry e l.0 h) es h2 l.2 ∙ append_assoc h.entries (e ∷ []) es

  -- the format of the front stays
  pub format_stays : (h : History) (es : List Entry) (h2 : History) → LeadsOn rules h es h2 → h2.format ≡ h.format
  format_stays h [] h2 l = ap (λ (x : History). x.format) l
  format_stays h (e ∷ es) h2 l = format_stays (with_entry e l.0 h) es h2 l.2

  none_falls : (from place : ℕ) (notes : List ℕ) → notes ≡ [] → from ≤ place → NeverFalls from notes place
  none_falls from place notes e h = let P : List ℕ → Type 0 = λ ns. NeverFalls from ns place in subst P (sym e) h

  made_at : (e : Entry) (place : ℕ) → e.notes ≡ [] → e.from ≡ place → NeverFalls e.from e.notes place
  made_at e place none is = none_falls e.from place e.notes none (omega (arith, is))

  -- an entry's notes lie between its beginning and its place
  never_falls : (h : History) (e : Entry) (o : Outcome) (next : Db)
      → SuitsOutcome (place_of h) e o → Leads rules h e o next → NeverFalls e.from e.notes (place_of h)
  never_falls h e outcome.Done next s p = p.in_order
  never_falls h e (outcome.Verify call fsa found) next s p = p.in_order
  never_falls h e (outcome.Roll code) next s p = p.in_order
  never_falls h e (outcome.SeqFull set begin end n) next s p = p.in_order
  never_falls h e (outcome.Deadlock cycle) next s p = none_falls e.from (place_of h) e.notes s.1 p.in_order
  never_falls h e outcome.Device next s p = none_falls e.from (place_of h) e.notes s.1 p.in_order
  never_falls h e outcome.Memory next s p = none_falls e.from (place_of h) e.notes s.1 p.in_order
  never_falls h e outcome.Unknown next s p = made_at e (place_of h) s.0.1 s.1
  never_falls h e (outcome.Old last) next s p = made_at e (place_of h) s.0.1 s.1
  never_falls h e (outcome.Repeat line) next s p = made_at e (place_of h) s.0.1 s.1
  never_falls h e (outcome.Purge set n) next s p = made_at e (place_of h) s.0.0.1 s.0.1
  never_falls h e outcome.Format next s p = made_at e (place_of h) s.0.0.1 s.0.1

  pub notes_in_order : (h : History) (e : Entry) (next : Db) → Comes rules h e next
      → NeverFalls e.from e.notes (place_of h)
  notes_in_order h e next c = never_falls h e e.outcome next c.form c.leads
