-- What a history has used up, entry by entry.
use Rattle.std.proofs.Common.{◌≡◌, ◌≢◌, ◌⊎◌, ⊎_elim, inl, inr, refl, sym, ap, subst, ◌∙◌, arith, ℕ, ◌<◌, ◌≤◌, List, [], ◌∷◌, ◌++◌, length, take, Bool, true, false, unwrap_or}
use Rattle.std.specs.Prelude.{⊤, Option, Some, None, Result, Ok, Err, slice_get, if◌then◌else◌, nat_lt, ◌==◌, option_map, is_some}
use Rattle.std.specs.Option.{option_map_or}
use Rattle.std.proofs.lemmas.Bool.Decides.{nat_tests}
use Rattle.std.proofs.lemmas.Option.{slice_get_within}
use Rattle.fp_model.specs.declared.calls.Message.{Message}
use Rattle.fp_model.specs.declared.database.Db.{Db}
use Rattle.fp_model.specs.declared.definitions.Defs.{Defs}
use Rattle.fp_model.specs.declared.log.Entry.{Entry}
use Rattle.fp_model.specs.declared.log.Outcome.{Outcome}
use Rattle.fp_model.specs.declared.log.Outcome.TheVariants as outcome
use Rattle.fp_model.specs.declared.name.Name.{Name}
use Rattle.fp_model.specs.declared.scripts.Script.{Script}
use Rattle.fp_model.specs.Asking.{script_of}
use Rattle.fp_model.specs.Entries.{SuitsOutcome}
use Rattle.fp_model.specs.History.{History, Request, Accepts, Refuses, beginning, place_of, with_entry}
use Rattle.fp_model.specs.Lasts.{Last, format_at, last_by, last_in, last_of, lasts_of, uses_number, with_last}
use Rattle.fp_model.specs.Messages.{MessageFault, message_of}
use Rattle.fp_model.specs.Product.{by_last, by_message, by_number, by_script, request_of, rules_of}
use Rattle.fp_model.specs.ReplyLine.{line_text}
use Rattle.fp_model.specs.SerialHistory.{Comes, IsSerialHistory, LeadsOn, Leads}
use Rattle.fp_model.specs.State.{start}
use Rattle.fp_model.specs.Texts.{same_text}
use Rattle.fp_model.proofs.HistoryLemmas.{entries_put, format_stays}
use Rattle.serial_order.proofs.Lines.{last_leaves, lasts_push, refused_is_not_accepted}
use Rattle.number_laws.specs.Once.{IsOnce, Repeats, Uses}
use Rattle.number_laws.proofs.Lasting.{last_named}
use Rattle.number_laws.proofs.Places.{StandsIn, at_end, before, get_last, stands_before, stands_in, take_front, take_last}
use Rattle.model_laws.proofs.Texts.{same_text_is, text_is_same}
use Rattle.model_laws.proofs.Entries.{last_put}

-- ---- what an entry says of its line

-- a request that the entry of a number that is used up answers
abbrev IsTaken : Request → Type 0
IsTaken (Accepts message) = ⊤
IsTaken (Refuses outcome.Unknown) = ⊤
IsTaken (Refuses _) = ⊥

none_is : {P : Type 0} (last : Last) → None ≡ Some last → P
none_is last e = absurd cc

-- the number that an entry uses up is that of the message that its line is
pub record IsNumbered (format : ℕ) (e : Entry) (last : Last) : Type 0 where
  pub message : Message
  pub is : message_of format e.line ≡ Ok message
  pub number : message.number ≡ Some last.number
  pub terminal : message.lterm ≡ last.lterm

numbered : (format : ℕ) (e : Entry) (last : Last) → last_by format e ≡ Some last → IsNumbered format e last
numbered format e last is = either (uses_number e.outcome) is
  where
    from_message : (text : List ℕ) (m : Message) (number : Option ℕ) → message_of format e.line ≡ Ok m
        → m.number ≡ number
        → option_map (λ (n : ℕ). let l : Last = record { lterm = m.lterm; number = n; line = text } in l) number
        ≡ Some last → IsNumbered format e last
    from_message text m None of has is = none_is last is
    from_message text m (Some n) of has is =
        let l : Last = record { lterm = m.lterm; number = n; line = text } in
        let same : l ≡ last = cc in
        record {
          message = m;
          is = of;
          number = has ∙ ap (λ (x : Last). Some x.number) same;
          terminal = ap (λ (x : Last). x.lterm) same;
        }

    from_line : (text : List ℕ) (r : Result Message MessageFault) → message_of format e.line ≡ r
        → last_in text r ≡ Some last → IsNumbered format e last
    from_line text (Err fault) of is = none_is last is
    from_line text (Ok m) of is = from_message text m m.number of refl is

    either : (b : Bool) → (if b then last_in (unwrap_or (line_text e) []) (message_of format e.line) else None)
        ≡ Some last → IsNumbered format e last
    either true is = from_line (unwrap_or (line_text e) []) (message_of format e.line) refl is
    either false is = none_is last is

-- an outcome that uses no number
no_use : (format : ℕ) (e : Entry) (last : Last) (o : Outcome) → e.outcome ≡ o → uses_number o ≡ false
    → last_by format e ≡ Some last → ⊥
no_use format e last o same none is =
    let not_used : uses_number e.outcome ≡ false = ap uses_number same ∙ none in
    let nothing : last_by format e ≡ None =
    ap (λ (b : Bool). if b then last_in (unwrap_or (line_text e) []) (message_of format e.line) else None) not_used in
    none_is last (sym nothing ∙ is)

-- an entry without a line uses none
no_line : (format : ℕ) (e : Entry) (last : Last) → e.line ≡ [] → last_by format e ≡ Some last → ⊥
no_line format e last empty is =
    let it = numbered format e last is in
    let none : message_of format [] ≡ Ok it.message = ap (message_of format) (sym empty) ∙ it.is in
    absurd cc

module _ (defs : Defs) (scripts : List Script) where
  -- the line of an entry that uses up a number was taken
  taken : (h : History) (e : Entry) (next : Db) (last : Last) (o : Outcome) → e.outcome ≡ o
      → SuitsOutcome (place_of h) e o → Leads (rules_of defs scripts) h e o next
      → last_by (format_at h.format h.entries) e ≡ Some last → IsTaken (request_of scripts h e.line)
  taken h e next last outcome.Done same form leads is = subst IsTaken (sym leads.is_request) tt
  taken h e next last (outcome.Verify call fsa found) same form leads is = subst IsTaken (sym leads.is_request) tt
  taken h e next last (outcome.Roll code) same form leads is = subst IsTaken (sym leads.is_request) tt
  taken h e next last (outcome.SeqFull set begin end n) same form leads is = subst IsTaken (sym leads.is_request) tt
  taken h e next last (outcome.Deadlock cycle) same form leads is = subst IsTaken (sym leads.is_request) tt
  taken h e next last outcome.Device same form leads is = subst IsTaken (sym leads.is_request) tt
  taken h e next last outcome.Memory same form leads is = subst IsTaken (sym leads.is_request) tt
  taken h e next last outcome.Unknown same form leads is = subst IsTaken (sym leads.0) tt
  taken h e next last (outcome.Old n) same form leads is =
      absurd (no_use (format_at h.format h.entries) e last (outcome.Old n) same refl is)
  taken h e next last (outcome.Repeat line) same form leads is =
      absurd (no_use (format_at h.format h.entries) e last (outcome.Repeat line) same refl is)
  taken h e next last (outcome.Purge set n) same form leads is =
      absurd (no_line (format_at h.format h.entries) e last form.1 is)
  taken h e next last outcome.Format same form leads is =
      absurd (no_line (format_at h.format h.entries) e last form.1 is)

-- a number that is taken is above the last one of its terminal
abbrev IsAbove : ℕ → Option Last → Type 0
IsAbove n None = ⊤
IsAbove n (Some top) = top.number < n

above : (scripts : List Script) (m : Message) (n : ℕ) (top : Option Last) → IsTaken (by_last scripts m n top)
    → IsAbove n top
above scripts m n None is = tt
above scripts m n (Some top) is = either (nat_lt n top.number) (n == top.number) refl refl is
  where
    either : (less same : Bool) → nat_lt n top.number ≡ less → (n == top.number) ≡ same
        → IsTaken (if less then Refuses (outcome.Old top.number) else
        (if same then Refuses (outcome.Repeat top.line) else by_script scripts m)) → top.number < n
    either true same e f is = absurd is
    either false true e f is = absurd is
    either false false e f is = grind (arith, nat_tests)

-- a line that is repeated has its terminal's last number
pub record IsLast (top : Option Last) (number : Option ℕ) (line : List ℕ) : Type 0 where
  pub last : Last
  pub is : top ≡ Some last
  pub has : number ≡ Some last.number
  pub kept : line ≡ last.line

script_repeats : {P : Type 0} (scripts : List Script) (m : Message) (line : List ℕ)
    → by_script scripts m ≡ Refuses (outcome.Repeat line) → P
script_repeats scripts m line e = either (is_some (script_of scripts m.tran)) e
  where
    either : {P : Type 0} (b : Bool)
        → (if b then Accepts m else Refuses outcome.Unknown) ≡ Refuses (outcome.Repeat line) → P
    either true e = absurd cc
    either false e = absurd cc

repeated : (scripts : List Script) (lasts : List Last) (m : Message) (number : Option ℕ) (line : List ℕ)
    → by_number scripts lasts m number ≡ Refuses (outcome.Repeat line)
    → IsLast (last_of m.lterm lasts) number line
repeated scripts lasts m None line e = script_repeats scripts m line e
repeated scripts lasts m (Some n) line e = by (last_of m.lterm lasts) refl e
  where
    by : (top : Option Last) → last_of m.lterm lasts ≡ top → by_last scripts m n top ≡ Refuses (outcome.Repeat line)
        → IsLast (last_of m.lterm lasts) (Some n) line
    by None is e = script_repeats scripts m line e
    by (Some top) is e = either (nat_lt n top.number) (n == top.number) refl e
      where
        either : (less same : Bool) → (n == top.number) ≡ same
            → (if less then Refuses (outcome.Old top.number) else
            (if same then Refuses (outcome.Repeat top.line) else by_script scripts m)) ≡ Refuses (outcome.Repeat line)
            → IsLast (last_of m.lterm lasts) (Some n) line
        either true same f e = absurd cc
        either false true f e =
            let one : n ≡ top.number = grind (arith, nat_tests) in
            record { last = top; is = is; has = ap (λ (x : ℕ). Some x) one; kept = cc }
        either false false f e = script_repeats scripts m line e

-- ---- what a history has used up

-- Its last numbers are those that entries used up, each no lower than any other of its terminal; and all that was used
-- up was so once.
pub record IsUsed (h : History) : Type 0 where
  pub held : (place : ℕ) (used : Last) → Uses h.format h.entries place used
      → (top : Last) × ((last_of used.lterm (lasts_of h.format h.entries) ≡ Some top) × (used.number ≤ top.number))
  pub newest : (name : Name) (top : Last) → last_of name (lasts_of h.format h.entries) ≡ Some top
      → (place : ℕ) × Uses h.format h.entries place top
  pub is_once : IsOnce h.format h.entries

-- what stood is still used up behind one entry more,
uses_before : (format : ℕ) (es : List Entry) (e : Entry) (place : ℕ) (used : Last) → Uses format es place used
    → Uses format (es ++ e ∷ []) place used
uses_before format es e place used it =
    let within = slice_get_within es place it.entry it.stands in
    record {
      entry = it.entry;
      stands = stands_before es e place it.entry it.stands;
      uses = ap (λ (xs : List Entry). last_by (format_at format xs) it.entry) (take_front es e place within) ∙ it.uses;
    }

-- and what is used up there stood, or is used up by that one
uses_in : (format : ℕ) (es : List Entry) (e : Entry) (place : ℕ) (used : Last)
    → Uses format (es ++ e ∷ []) place used
    → Uses format es place used ⊎ ((place ≡ length es) × (last_by (format_at format es) e ≡ Some used))
uses_in format es e place used it = by (stands_in es e place it.entry it.stands)
  where
    by : StandsIn es e place it.entry
        → Uses format es place used ⊎ ((place ≡ length es) × (last_by (format_at format es) e ≡ Some used))
    by (before within stands) = inl (record {
      entry = it.entry;
      stands = stands;
      uses =
          ap (λ (xs : List Entry). last_by (format_at format xs) it.entry) (sym (take_front es e place within))
          ∙ it.uses;
    })
    by (at_end at is) =
        inr (
          at,
          ap (λ (x : Entry). last_by (format_at format es) x) (sym is)
              ∙ ap (λ (xs : List Entry). last_by (format_at format xs) it.entry)
              (sym (ap (λ (n : ℕ). take n (es ++ e ∷ [])) at ∙ take_last es e)) ∙ it.uses,
        )

uses_here : (format : ℕ) (es : List Entry) (e : Entry) (used : Last) → last_by (format_at format es) e ≡ Some used
    → Uses format (es ++ e ∷ []) (length es) used
uses_here format es e used is = record {
  entry = e;
  stands = get_last es e;
  uses = ap (λ (xs : List Entry). last_by (format_at format xs) e) (take_last es e) ∙ is;
}

module _ (defs : Defs) (scripts : List Script) (h : History) (e : Entry) (next : Db) (so_far : IsUsed h)
    (comes : Comes (rules_of defs scripts) h e next) where
  format : ℕ
  format = format_at h.format h.entries

  lasts : List Last
  lasts = lasts_of h.format h.entries

  -- the entry's number is above the last one of its terminal
  is_above : (last : Last) → last_by (format_at h.format h.entries) e ≡ Some last
      → IsAbove last.number (last_of last.lterm (lasts_of h.format h.entries))
  is_above last is =
      let it = numbered (format_at h.format h.entries) e last is in
      let request : request_of scripts h e.line
      ≡ by_last scripts it.message last.number (last_of it.message.lterm (lasts_of h.format h.entries)) =
      ap (by_message scripts (lasts_of h.format h.entries)) it.is
      ∙ ap (by_number scripts (lasts_of h.format h.entries) it.message) it.number in
      subst (λ (name : Name). IsAbove last.number (last_of name (lasts_of h.format h.entries))) it.terminal
      (above scripts it.message last.number (last_of it.message.lterm (lasts_of h.format h.entries))
      (subst IsTaken request (taken defs scripts h e next last e.outcome refl comes.form comes.leads is)))

  -- so no earlier one is that number of the terminal
  not_before : (last : Last) → last_by (format_at h.format h.entries) e ≡ Some last → (place : ℕ) (used : Last)
      → Uses h.format h.entries place used → used.lterm.0 ≡ last.lterm.0 → used.number < last.number
  not_before last is place used uses same =
      let top = so_far.held place used uses in
      let here : last_of last.lterm (lasts_of h.format h.entries) ≡ Some top.0 =
      ap (λ (text : List ℕ). let name : Name = record { 0 = text } in last_of name (lasts_of h.format h.entries))
      (sym same) ∙ top.1.0 in
      let lower : top.0.number < last.number =
      subst (IsAbove last.number) here (is_above last is) in
      let most = top.1.1 in omega (arith, lower, most)

  -- ---- the numbers behind it

  lasts_more : (used : Option Last) → last_by (format_at h.format h.entries) e ≡ used
      → lasts_of h.format (h.entries ++ e ∷ [])
      ≡ option_map_or (λ last. with_last last (lasts_of h.format h.entries)) used (lasts_of h.format h.entries)
  lasts_more used is =
      lasts_push h.format h.entries e []
      ∙ ap (λ (o : Option Last). option_map_or (λ last. with_last last (lasts_of h.format h.entries)) o
      (lasts_of h.format h.entries)) is

  once_more : (first second : ℕ) (a b : Last) → Uses h.format (h.entries ++ e ∷ []) first a
      → Uses h.format (h.entries ++ e ∷ []) second b → a.lterm.0 ≡ b.lterm.0 → a.number ≡ b.number → second ≡ first
  once_more first second a b uses uses2 same number =
      by (uses_in h.format h.entries e first a uses) (uses_in h.format h.entries e second b uses2)
    where
      by : Uses h.format h.entries first a
          ⊎ ((first ≡ length h.entries) × (last_by (format_at h.format h.entries) e ≡ Some a))
          → Uses h.format h.entries second b
          ⊎ ((second ≡ length h.entries) × (last_by (format_at h.format h.entries) e ≡ Some b)) → second ≡ first
      by (inl p) (inl q) = so_far.is_once.once first second a b p q same number
      by (inl p) (inr q) = absurd (omega (arith, not_before b q.1 first a p same, number))
      by (inr p) (inl q) = absurd (omega (arith, not_before a p.1 second b q (sym same), number))
      by (inr p) (inr q) = q.0 ∙ sym p.0

  repeats_before : (place : ℕ) (m : Message) (line : List ℕ) → Repeats h.format h.entries place m line
      → Repeats h.format (h.entries ++ e ∷ []) place m line
  repeats_before place m line it = record {
    first = it.first;
    used = it.used;
    uses = uses_before h.format h.entries e it.first it.used it.uses;
    earlier = it.earlier;
    terminal = it.terminal;
    number = it.number;
    same = it.same;
  }

  -- the new entry repeats the last number of its terminal
  repeats_here : (m : Message) (line : List ℕ) → message_of (format_at h.format h.entries) e.line ≡ Ok m
      → e.outcome ≡ outcome.Repeat line → Repeats h.format (h.entries ++ e ∷ []) (length h.entries) m line
  repeats_here m line is same =
      let leads : Leads (rules_of defs scripts) h e (outcome.Repeat line) next =
      subst (λ (o : Outcome). Leads (rules_of defs scripts) h e o next) same comes.leads in
      let request : by_number scripts (lasts_of h.format h.entries) m m.number ≡ Refuses (outcome.Repeat line) =
      ap (by_message scripts (lasts_of h.format h.entries)) (sym is) ∙ leads.0 in
      let it = repeated scripts (lasts_of h.format h.entries) m m.number line request in
      let there = so_far.newest m.lterm it.last it.is in
      record {
        first = there.0;
        used = it.last;
        uses = uses_before h.format h.entries e there.0 it.last there.1;
        earlier = slice_get_within h.entries there.0 there.1.entry there.1.stands;
        terminal = same_text_is it.last.lterm.0 m.lterm.0
            (last_named m.lterm (lasts_of h.format h.entries) it.last it.is);
        number = it.has;
        same = it.kept;
      }

  repeats_more : (place : ℕ) (x : Entry) (m : Message) (line : List ℕ)
      → slice_get (h.entries ++ e ∷ []) place ≡ Some x
      → message_of (format_at h.format (take place (h.entries ++ e ∷ []))) x.line ≡ Ok m
      → x.outcome ≡ outcome.Repeat line → Repeats h.format (h.entries ++ e ∷ []) place m line
  repeats_more place x m line stands is same = by (stands_in h.entries e place x stands)
    where
      by : StandsIn h.entries e place x → Repeats h.format (h.entries ++ e ∷ []) place m line
      by (before within here) =
          repeats_before place m line
          (so_far.is_once.repeats place x m line here
          (ap (λ (xs : List Entry). message_of (format_at h.format xs) x.line)
          (sym (take_front h.entries e place within)) ∙ is) same)
      by (at_end at it) =
          subst (λ (n : ℕ). Repeats h.format (h.entries ++ e ∷ []) n m line) (sym at)
          (repeats_here m line
          (ap (λ (y : Entry). message_of (format_at h.format h.entries) y.line) (sym it)
          ∙ ap (λ (xs : List Entry). message_of (format_at h.format xs) x.line)
          (sym (ap (λ (n : ℕ). take n (h.entries ++ e ∷ [])) at ∙ take_last h.entries e)) ∙ is)
          (ap (λ (y : Entry). y.outcome) (sym it) ∙ same))

  -- where it uses up none
  none_used : last_by (format_at h.format h.entries) e ≡ None → IsUsed (with_entry e next h)
  none_used none = record {
    held = λ place used uses. ⊎_elim
        (λ p. let top = so_far.held place used p in (
          top.0,
          (
            ap (last_of used.lterm) (lasts_more None none) ∙ top.1.0,
            top.1.1,
          ),
        ))
        (λ q. none_is used (sym none ∙ q.1)) (uses_in h.format h.entries e place used uses);
    newest = λ name top is.
        let it = so_far.newest name top (sym (ap (last_of name) (lasts_more None none)) ∙ is) in
        (it.0, uses_before h.format h.entries e it.0 top it.1);
    is_once = record { once = once_more; repeats = repeats_more };
  }

  -- a number isn't above the last one of its terminal
  abbrev Held : Last → Type 0
  Held used = (top : Last)
      × ((last_of used.lterm (lasts_of h.format (h.entries ++ e ∷ [])) ≡ Some top) × (used.number ≤ top.number))

  -- and where it does
  some_used : (last : Last) → last_by (format_at h.format h.entries) e ≡ Some last → IsUsed (with_entry e next h)
  some_used last is = record {
    held = λ place used uses.
        ⊎_elim (λ p. earlier place used p (text_cases used.lterm.0 last.lterm.0))
        (λ q. here used (some_is last used (sym is ∙ q.1))) (uses_in h.format h.entries e place used uses);
    newest = newest_more;
    is_once = record { once = once_more; repeats = repeats_more };
  }
    where
      some_is : (a b : Last) → Some a ≡ Some b → b ≡ a
      some_is a b e = cc

      text_cases : (a b : List ℕ) → (a ≡ b) ⊎ ¬ (a ≡ b)
      text_cases a b = by (same_text a b) refl
        where
          by : (t : Bool) → same_text a b ≡ t → (a ≡ b) ⊎ ¬ (a ≡ b)
          by true s = inl (same_text_is a b s)
          by false s = inr (λ eq. absurd (not_same (sym (ap (same_text a) (sym eq) ∙ text_is_same a) ∙ s)))
            where
              not_same : true ≡ false → ⊥
              not_same x = cc

      put : last_of last.lterm (lasts_of h.format (h.entries ++ e ∷ [])) ≡ Some last
      put = ap (last_of last.lterm) (lasts_more (Some last) is) ∙ last_put last (lasts_of h.format h.entries)

      here : (used : Last) → used ≡ last → Held used
      here used same = subst Held (sym same) (last, (put, omega arith))

      earlier : (place : ℕ) (used : Last) → Uses h.format h.entries place used
          → (used.lterm.0 ≡ last.lterm.0) ⊎ ¬ (used.lterm.0 ≡ last.lterm.0) → Held used
      earlier place used uses (inl same) =
          let lower = not_before last is place used uses same in (
            last,
            (
              ap (λ (text : List ℕ). let name : Name = record { 0 = text } in last_of name
                  (lasts_of h.format (h.entries ++ e ∷ []))) same ∙ put,
              omega (arith, lower),
            ),
          )
      earlier place used uses (inr apart) =
          let top = so_far.held place used uses in (
            top.0,
            (
              ap (last_of used.lterm) (lasts_more (Some last) is)
                  ∙ last_leaves used.lterm last (lasts_of h.format h.entries) (λ s. apart (sym s)) ∙ top.1.0,
              top.1.1,
            ),
          )

      newest_more : (name : Name) (top : Last) → last_of name (lasts_of h.format (h.entries ++ e ∷ [])) ≡ Some top
          → (place : ℕ) × Uses h.format (h.entries ++ e ∷ []) place top
      newest_more name top found = by (text_cases name.0 last.lterm.0)
        where
          by : (name.0 ≡ last.lterm.0) ⊎ ¬ (name.0 ≡ last.lterm.0)
              → (place : ℕ) × Uses h.format (h.entries ++ e ∷ []) place top
          by (inl same) =
              let is_top : top ≡ last =
              some_is last top (sym (ap (λ (text : List ℕ). let name : Name = record { 0 = text } in last_of name
              (lasts_of h.format (h.entries ++ e ∷ []))) same ∙ put) ∙ found) in
              (length h.entries, uses_here h.format h.entries e top (is ∙ ap (λ (x : Last). Some x) (sym is_top)))
          by (inr apart) =
              let it = so_far.newest name top
              (sym (last_leaves name last (lasts_of h.format h.entries) (λ s. apart (sym s)))
              ∙ sym (ap (last_of name) (lasts_more (Some last) is)) ∙ found) in
              (it.0, uses_before h.format h.entries e it.0 top it.1)

  used_more : IsUsed (with_entry e next h)
  used_more = by (last_by (format_at h.format h.entries) e) refl
    where
      by : (used : Option Last) → last_by (format_at h.format h.entries) e ≡ used → IsUsed (with_entry e next h)
      by None is = none_used is
      by (Some last) is = some_used last is

-- ---- the whole

used_none : (format : ℕ) (db : Db) → IsUsed (beginning format db)
used_none format db = record {
  held = λ place used uses. let none : None ≡ Some uses.entry = uses.stands in absurd cc;
  newest = λ name top is. absurd cc;
  is_once = record {
    once = λ first second a b uses uses2 same number. let none : None ≡ Some uses.entry = uses.stands in absurd cc;
    repeats = λ place e message line stands is same. absurd cc;
  };
}

used_on : (defs : Defs) (scripts : List Script) (h : History) (es : List Entry) (h2 : History)
    → LeadsOn (rules_of defs scripts) h es h2 → IsUsed h → IsUsed h2
used_on defs scripts h [] h2 leads used = subst IsUsed (sym leads) used
used_on defs scripts h (e ∷ es) h2 leads used =
    used_on defs scripts (with_entry e leads.0 h) es h2 leads.2 (used_more defs scripts h e leads.0 used leads.1)

pub used_once : (defs : Defs) (scripts : List Script) (format : ℕ) (entries : List Entry) (last : Db)
    → IsSerialHistory (rules_of defs scripts) format entries last → IsOnce format entries
used_once defs scripts format entries last is =
    let first = beginning format (start defs) in
    let used = used_on defs scripts first entries is.history is.leads (used_none format (start defs)) in
    subst (λ (f : ℕ). IsOnce f entries) (format_stays (rules_of defs scripts) first entries is.history is.leads)
    (subst (IsOnce is.history.format) (entries_put (rules_of defs scripts) first entries is.history is.leads)
    used.is_once)
