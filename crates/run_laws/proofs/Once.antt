-- A message with a number takes effect at most once, and is answered by the same line each time.
use Rattle.std.proofs.Common.{◌≡◌, ◌⊎◌, ℕ, zero, suc, ◌+◌, ◌-◌, ◌<◌, ◌≤◌, List, [], ◌∷◌, ◌++◌, length, take, drop, Option, Some, None, inl, inr, refl, sym, ◌∙◌, ap, subst, Bool, true, false, not, if◌then◌else◌, arith, Result, Ok, Err, slice_get, append_assoc}
use Rattle.std.specs.Prelude.{find, filter, unwrap_or, option_map, is_some, nat_lt}
use Rattle.std.proofs.lemmas.Grind.{common_steps}
use Rattle.std.specs.Option.{option_map_or}
use Rattle.std.proofs.lemmas.Bool.{cases_eq, cases_Bool}
use Rattle.std.proofs.lemmas.List.{take-append-le, take-append-drop}
use Rattle.std.proofs.Math.Seq.{take-append_seam}
use Rattle.fp_model.specs.declared.definitions.Defs.{Defs}
use Rattle.fp_model.specs.declared.database.Db.{Db}
use Rattle.fp_model.specs.declared.calls.Message.{Message}
use Rattle.fp_model.specs.declared.log.Entry.{Entry}
use Rattle.fp_model.specs.declared.log.Outcome.{Outcome}
use Rattle.fp_model.specs.declared.log.Outcome.TheVariants as outcome
use Rattle.fp_model.specs.declared.name.Name.{Name}
use Rattle.fp_model.specs.declared.scripts.Script.{Script}
use Rattle.fp_model.specs.Texts.{same_text}
use Rattle.fp_model.specs.State.{is_below, put_by_key, drop_key}
use Rattle.fp_model.specs.Asking.{script_of}
use Rattle.fp_model.specs.Entries.{SuitsOutcome}
use Rattle.fp_model.specs.History.{History, Accepts, Refuses, beginning, with_entry, place_of}
use Rattle.fp_model.specs.Lasts.{Last, format_at, uses_number, last_in, last_by, with_last, lasts_of, last_of}
use Rattle.fp_model.specs.Messages.{MessageFault, message_of, terminal_of}
use Rattle.fp_model.specs.Product.{by_script, rules_of}
use Rattle.fp_model.specs.ReplyLine.{addressee, verdict, line_for, line_text}
use Rattle.fp_model.specs.Rules.{Rules}
use Rattle.fp_model.specs.SerialHistory.{Leads, Comes, LeadsOn, IsSerial}
use Rattle.fp_model.proofs.HistoryLemmas.{front, join, one_end, entries_put, format_stays}
use Rattle.serial_order.proofs.Lists.{true_is_not_false}
use Rattle.serial_order.proofs.Lines.{error_is_not_ok, refused_is_not_accepted, lasts_push, last_leaves}
use Rattle.run_laws.specs.Fresh as fresh
use Rattle.run_laws.specs.Fresh.{IsNumbered, WasUsed}
use Rattle.run_laws.proofs.Numbers.{IsAbove, Asked, Goes, Is_old, Repeats, asked_of}
use Rattle.plain_laws.proofs.Places.{get_seam}
use Rattle.model_laws.proofs.Texts.{same_names, text_is_same}
use Rattle.std.proofs.lemmas.Option.{none-some, same_Some}
use Rattle.plain_laws.proofs.Truths.{not_true}
use Rattle.model_laws.proofs.Entries.{last_put}

-- ---- lists

-- a list around a place
split_at : {X : Type 0} (xs : List X) (i : ℕ) (x : X) → slice_get xs i ≡ Some x → xs ≡ take i xs ++ x ∷ drop (suc i) xs
split_at [] i x e = absurd (none-some x e)
split_at (y ∷ ys) zero x e = ap (λ q. q ∷ ys) (same_Some y x e)
split_at (y ∷ ys) (suc i) x e = ap (λ q. y ∷ q) (split_at ys i x e)

taken_length : {X : Type 0} (xs : List X) (i : ℕ) (x : X) → slice_get xs i ≡ Some x → length (take i xs) ≡ i
taken_length [] i x e = absurd (none-some x e)
taken_length (y ∷ ys) zero x e = refl
taken_length (y ∷ ys) (suc i) x e = let r = taken_length ys i x e in omega (arith, r)

get_dropped : {X : Type 0} (xs : List X) (n i : ℕ) (x : X) → slice_get xs (n + i) ≡ Some x
    → slice_get (drop n xs) i ≡ Some x
get_dropped xs zero i x e = ap (λ (k : ℕ). slice_get xs k) (let f : i ≡ 0 + i = omega arith in f) ∙ e
get_dropped [] (suc n) i x e = absurd (none-some x e)
get_dropped (y ∷ ys) (suc n) i x e =
    get_dropped ys n i x
    (ap (λ (k : ℕ). slice_get (y ∷ ys) k) (let f : suc (n + i) ≡ suc n + i = omega arith in f) ∙ e)

-- a first part around a place in it
take_around : {X : Type 0} (xs : List X) (i j : ℕ) (x : X) → slice_get xs i ≡ Some x → i < j
    → take j xs ≡ take i xs ++ x ∷ take (j - suc i) (drop (suc i) xs)
take_around xs i zero x e h = absurd (omega (arith, h))
take_around [] i (suc j) x e h = absurd (none-some x e)
take_around (y ∷ ys) zero (suc j) x e h =
    ap (λ q. q ∷ take j ys) (same_Some y x e)
    ∙ ap (λ (n : ℕ). x ∷ take n ys) (let f : j ≡ suc j - 1 = omega arith in f)
take_around (y ∷ ys) (suc i) (suc j) x e h =
    ap (λ q. y ∷ q) (take_around ys i j x e (omega (arith, h)))
    ∙ ap (λ (n : ℕ). y ∷ (take i ys ++ x ∷ take n (drop (suc i) ys)))
    (let f : j - suc i ≡ suc j - suc (suc i) = omega arith in f)

-- a longer list has what stood before
get_more : {X : Type 0} (xs ys : List X) (i : ℕ) (x : X) → slice_get xs i ≡ Some x
    → (slice_get (xs ++ ys) i ≡ Some x) × (i < length xs)
get_more [] ys i x e = absurd (none-some x e)
get_more (z ∷ zs) ys zero x e = (e, omega arith)
get_more (z ∷ zs) ys (suc i) x e = let r = get_more zs ys i x e in (r.0, omega (arith, r.1))

-- and a first part what stands in it
pub get_taken : {X : Type 0} (xs : List X) (n i : ℕ) (x : X) → i < n → slice_get xs i ≡ Some x
    → (slice_get (take n xs) i ≡ Some x) × (take i (take n xs) ≡ take i xs)
get_taken xs zero i x h e = absurd (omega (arith, h))
get_taken [] (suc n) i x h e = absurd (none-some x e)
get_taken (y ∷ ys) (suc n) zero x h e = (e, refl)
get_taken (y ∷ ys) (suc n) (suc i) x h e =
    let r = get_taken ys n i x (omega (arith, h)) e in (r.0, ap (λ q. y ∷ q) r.1)

-- ---- the last numbers

-- what is put is found, where no other is
find_put_same : {X : Type 0} (p : X → Bool) (key : X → List ℕ) (x : X) (ys : List X) → p x ≡ true → find p ys ≡ None
    → find p (put_by_key key x ys) ≡ Some x
find_put_same p key x [] here none = rw here refl
find_put_same p key x (y ∷ ys) here none =
    by (p y) refl none (λ f. find_put_same p key x ys here f) (is_below (key x) (key y))
  where
    by : (b : Bool) → p y ≡ b → (if b then Some y else find p ys) ≡ None
        → (find p ys ≡ None → find p (put_by_key key x ys) ≡ Some x)
        → (less : Bool)
        → find p (if less then x ∷ y ∷ ys else y ∷ put_by_key key x ys) ≡ Some x
    by true is f later less = absurd (none-some y (sym f))
    by false is f later true = rw here refl
    by false is f later false = rw is (later f)

-- none is found where all that pass are left out
find_none : {X : Type 0} (p q : X → Bool) (xs : List X) → ((x : X) → q x ≡ true → p x ≡ false)
    → find p (filter q xs) ≡ None
find_none p q [] apart = refl
find_none p q (x ∷ xs) apart = by (q x) refl (find_none p q xs apart)
  where
    by : (b : Bool) → q x ≡ b → find p (filter q xs) ≡ None
        → find p (if b then x ∷ filter q xs else filter q xs) ≡ None
    by true is later = rw (apart x is) later
    by false is later = later

-- ---- what an entry uses

-- The number that an entry uses, with the message that has it.
record UsedBy (format : ℕ) (e : Entry) (l : Last) : Type 0 where
  uses : uses_number e.outcome ≡ true
  message : Message
  reads : message_of format e.line ≡ Ok message
  is_from : message.lterm ≡ l.lterm
  has : message.number ≡ Some l.number
  line : l.line ≡ unwrap_or (line_text e) []

used_by : (format : ℕ) (e : Entry) (l : Last) → last_by format e ≡ Some l → UsedBy format e l
used_by format e l is = either (uses_number e.outcome) refl is
  where
    text : List ℕ
    text = unwrap_or (line_text e) []

    abbrev_last : Message → ℕ → Last
    abbrev_last m n = record { lterm = m.lterm; number = n; line = unwrap_or (line_text e) [] }

    from_message : uses_number e.outcome ≡ true → (m : Message) → message_of format e.line ≡ Ok m → (number : Option ℕ)
        → m.number ≡ number
        → option_map (λ (n : ℕ). let x : Last = record {
          lterm = m.lterm;
          number = n;
          line = unwrap_or
              (line_text e) [];
        } in x) number ≡ Some l
        → UsedBy format e l
    from_message uses m reads None has f = absurd (none-some l f)
    from_message uses m reads (Some n) has f =
        let same = same_Some _ l f in
        record {
          uses = uses;
          message = m;
          reads = reads;
          is_from = ap (λ (x : Last). x.lterm) same;
          has = has ∙ ap (λ (x : Last). Some x.number) same;
          line = sym (ap (λ (x : Last). x.line) same);
        }

    from_line : uses_number e.outcome ≡ true → (r : Result Message MessageFault) → message_of format e.line ≡ r
        → last_in (unwrap_or (line_text e) []) r ≡ Some l → UsedBy format e l
    from_line uses (Err fault) reads f = absurd (none-some l f)
    from_line uses (Ok m) reads f = from_message uses m reads m.number refl f

    either : (b : Bool) → uses_number e.outcome ≡ b
        → (if b then last_in (unwrap_or (line_text e) []) (message_of format e.line) else None) ≡ Some l
        → UsedBy format e l
    either true uses f = from_line uses (message_of format e.line) refl f
    either false uses f = absurd (none-some l f)

-- and back
uses_of : (format : ℕ) (e : Entry) (m : Message) (number : ℕ) → uses_number e.outcome ≡ true
    → message_of format e.line ≡ Ok m
    → m.number ≡ Some number
    → last_by format e ≡ Some (record { lterm = m.lterm; number = number; line = unwrap_or (line_text e) [] })
uses_of format e m number uses reads has =
    ap (λ (b : Bool). if b then last_in (unwrap_or (line_text e) []) (message_of format e.line) else None) uses
    ∙ ap (λ (r : Result Message MessageFault). last_in (unwrap_or (line_text e) []) r) reads
    ∙ ap (λ (n : Option ℕ). option_map (λ (k : ℕ). let l : Last
    = record { lterm = m.lterm; number = k; line = unwrap_or (line_text e) [] } in l) n) has

-- a Purge and a Format have no message
no_message : (format : ℕ) (line : List ℕ) (m : Message) → line ≡ [] → message_of format line ≡ Ok m → ⊥
no_message format line m none reads =
    error_is_not_ok _ m (sym (ap (λ (l : List ℕ). message_of format l) none) ∙ reads)

-- who isn't a Purge or a Format is told something
told_text : (place : ℕ) (e : Entry) (o : Outcome) (format : ℕ) (m : Message) → SuitsOutcome place e o
    → message_of format e.line ≡ Ok m
    → (text : List ℕ) × (line_for (addressee (terminal_of e.line)) (verdict o e.reply) ≡ Some text)
told_text place e outcome.Done format m s reads = (_, refl)
told_text place e (outcome.Verify call fsa found) format m s reads = (_, refl)
told_text place e (outcome.Roll code) format m s reads = (_, refl)
told_text place e (outcome.SeqFull set begin end n) format m s reads = (_, refl)
told_text place e (outcome.Deadlock cycle) format m s reads = (_, refl)
told_text place e outcome.Device format m s reads = (_, refl)
told_text place e outcome.Memory format m s reads = (_, refl)
told_text place e outcome.Unknown format m s reads = (_, refl)
told_text place e (outcome.Old last) format m s reads = (_, refl)
told_text place e (outcome.Repeat line) format m s reads = (_, refl)
told_text place e (outcome.Purge set n) format m s reads = absurd (no_message format e.line m s.1 reads)
told_text place e outcome.Format format m s reads = absurd (no_message format e.line m s.1 reads)

module _ (defs : Defs) (scripts : List Script) where
  abbrev rules : Rules
  rules = rules_of defs scripts

  -- ---- one entry

  abbrev format_of : History → ℕ
  format_of h = format_at h.format h.entries

  -- one that asks for a transaction has a number above the last
  accepted_above : (h : History) (line : List ℕ) (m other : Message) (number : ℕ)
      → message_of (format_of h) line ≡ Ok m
      → m.number ≡ Some number
      → (rules_of defs scripts).request_of h line ≡ Accepts other
      → IsAbove number (fresh.last_behind h m.lterm)
  accepted_above h line m other number reads has is = by (asked_of scripts h line m number reads has)
    where
      by : Asked scripts m number (fresh.last_behind h m.lterm) ((rules_of defs scripts).request_of h line)
          → IsAbove number (fresh.last_behind h m.lterm)
      by (Goes above e) = above
      by (Is_old last there less e) = absurd (refused_is_not_accepted (outcome.Old last.number) other (sym e ∙ is))
      by (Repeats last there same e) = absurd (refused_is_not_accepted (outcome.Repeat last.line) other (sym e ∙ is))

  unknown_is_not_old : (n : ℕ) → Refuses (outcome.Old n) ≡ Refuses outcome.Unknown → ⊥
  unknown_is_not_old n e = cc

  unknown_is_not_repeat : (line : List ℕ) → Refuses (outcome.Repeat line) ≡ Refuses outcome.Unknown → ⊥
  unknown_is_not_repeat line e = cc

  -- so has one that is refused as unknown
  unknown_above : (h : History) (line : List ℕ) (m : Message) (number : ℕ)
      → message_of (format_of h) line ≡ Ok m
      → m.number ≡ Some number
      → (rules_of defs scripts).request_of h line ≡ Refuses outcome.Unknown
      → IsAbove number (fresh.last_behind h m.lterm)
  unknown_above h line m number reads has is = by (asked_of scripts h line m number reads has)
    where
      by : Asked scripts m number (fresh.last_behind h m.lterm) ((rules_of defs scripts).request_of h line)
          → IsAbove number (fresh.last_behind h m.lterm)
      by (Goes above e) = above
      by (Is_old last there less e) = absurd (unknown_is_not_old last.number (sym e ∙ is))
      by (Repeats last there same e) = absurd (unknown_is_not_repeat last.line (sym e ∙ is))

  -- and each entry that uses one
  above_of : (h : History) (e : Entry) (o : Outcome) (next : Db) (m : Message) (number : ℕ)
      → message_of (format_of h) e.line ≡ Ok m
      → m.number ≡ Some number
      → uses_number o ≡ true
      → SuitsOutcome (place_of h) e o
      → Leads (rules_of defs scripts) h e o next
      → IsAbove number (fresh.last_behind h m.lterm)
  above_of h e outcome.Done next m number reads has uses s l =
      accepted_above h e.line m l.message number reads has l.is_request
  above_of h e (outcome.Verify call fsa found) next m number reads has uses s l =
      accepted_above h e.line m l.message number reads has l.is_request
  above_of h e (outcome.Roll code) next m number reads has uses s l =
      accepted_above h e.line m l.message number reads has l.is_request
  above_of h e (outcome.SeqFull set begin end n) next m number reads has uses s l =
      accepted_above h e.line m l.message number reads has l.is_request
  above_of h e (outcome.Deadlock cycle) next m number reads has uses s l =
      accepted_above h e.line m l.message number reads has l.is_request
  above_of h e outcome.Device next m number reads has uses s l =
      accepted_above h e.line m l.message number reads has l.is_request
  above_of h e outcome.Memory next m number reads has uses s l =
      accepted_above h e.line m l.message number reads has l.is_request
  above_of h e outcome.Unknown next m number reads has uses s l = unknown_above h e.line m number reads has l.0
  above_of h e (outcome.Old last) next m number reads has uses s l = absurd (true_is_not_false (sym uses))
  above_of h e (outcome.Repeat line) next m number reads has uses s l = absurd (true_is_not_false (sym uses))
  above_of h e (outcome.Purge set n) next m number reads has uses s l =
      absurd (no_message (format_of h) e.line m s.1 reads)
  above_of h e outcome.Format next m number reads has uses s l =
      absurd (no_message (format_of h) e.line m s.1 reads)

  comes_above : (h : History) (e : Entry) (next : Db) (m : Message) (number : ℕ)
      → message_of (format_of h) e.line ≡ Ok m
      → m.number ≡ Some number
      → uses_number e.outcome ≡ true
      → Comes (rules_of defs scripts) h e next
      → IsAbove number (fresh.last_behind h m.lterm)
  comes_above h e next m number reads has uses c = above_of h e e.outcome next m number reads has uses c.form c.leads

  -- the last number behind it
  last_put_behind : (h : History) (e : Entry) (next : Db) (name : Name) (o : Option Last)
      → last_by (format_of h) e ≡ o
      → fresh.last_behind (with_entry e next h) name
      ≡ last_of name (option_map_or (λ last. with_last last (lasts_of h.format h.entries)) o
      (lasts_of h.format h.entries))
  last_put_behind h e next name o is =
      ap (last_of name) (lasts_push h.format h.entries e [])
      ∙ ap (λ (q : Option Last). last_of name (option_map_or (λ last. with_last last (lasts_of h.format h.entries)) q
      (lasts_of h.format h.entries))) is

  -- What an entry makes of a terminal's last number: it stays, or is one above it, which the entry uses.
  data Step (h : History) (e : Entry) (next : Db) (name : Name) : Type 0 where
    Stays : fresh.last_behind (with_entry e next h) name ≡ fresh.last_behind h name → Step h e next name
    Rises :
        (l : Last)
        → UsedBy (format_of h) e l
        → l.lterm ≡ name
        → fresh.last_behind (with_entry e next h) name ≡ Some l
        → IsAbove l.number (fresh.last_behind h name)
        → Step h e next name

  step_of : (h : History) (e : Entry) (next : Db) (name : Name) → Comes (rules_of defs scripts) h e next
      → Step h e next name
  step_of h e next name c = by (last_by (format_of h) e) refl
    where
      by : (o : Option Last) → last_by (format_of h) e ≡ o → Step h e next name
      by None is = Stays (last_put_behind h e next name None is)
      by (Some l) is = elim (cases_Bool (same_text l.lterm.0 name.0)) [
        | inr other ↦ Stays (last_put_behind h e next name (Some l) is
            ∙ last_leaves name l (lasts_of h.format h.entries)
            (λ same. true_is_not_false (sym (ap (λ (t : List ℕ). same_text l.lterm.0 t) (sym same)
            ∙ text_is_same l.lterm.0) ∙ other)))
        | inl here ↦ (
            let u = used_by (format_of h) e l is in
            let same : l.lterm ≡ name = same_names l.lterm name here in
            let put : fresh.last_behind (with_entry e next h) l.lterm ≡ Some l
            = last_put_behind h e next l.lterm (Some l) is ∙ last_put l (lasts_of h.format h.entries) in
            let above = comes_above h e next u.message l.number u.reads u.has u.uses c in
            let from : u.message.lterm ≡ name = u.is_from ∙ same in
            Rises l u same
            (subst (λ (n : Name). fresh.last_behind (with_entry e next h) n ≡ Some l) same put)
            (subst (λ (n : Name). IsAbove l.number (fresh.last_behind h n)) from above))
      ]

  -- ---- entries one after another

  -- a last number stays, or a greater one takes its place
  abbrev Grows : Option Last → Option Last → Type 0
  Grows o o2 =
      (l : Last) → o ≡ Some l
      → (l2 : Last) × ((o2 ≡ Some l2) × ((l2 ≡ l) ⊎ (l.number < l2.number)))

  grows_step : (h : History) (e : Entry) (next : Db) (name : Name) → Comes (rules_of defs scripts) h e next
      → Grows (fresh.last_behind h name) (fresh.last_behind (with_entry e next h) name)
  grows_step h e next name c l is = by (step_of h e next name c)
    where
      by : Step h e next name
          → (l2 : Last) × ((fresh.last_behind (with_entry e next h) name ≡ Some l2)
          × ((l2 ≡ l) ⊎ (l.number < l2.number)))
      by (Stays same) = (l, (same ∙ is, inl refl))
      by (Rises l2 u of put above) = (l2, (put, inr (above l is)))

  grows_on : (h : History) (es : List Entry) (h2 : History) (name : Name) → LeadsOn (rules_of defs scripts) h es h2
      → Grows (fresh.last_behind h name) (fresh.last_behind h2 name)
  grows_on h [] h2 name leads l is =
      (l, (ap (λ (x : History). fresh.last_behind x name) leads ∙ is, inl refl))
  grows_on h (e ∷ es) h2 name leads l is =
      let first = grows_step h e leads.0 name leads.1 l is in
      let rest = grows_on (with_entry e leads.0 h) es h2 name leads.2 first.0 first.1.0 in
      (rest.0, (rest.1.0, joined first.0 rest.0 first.1.1 rest.1.1))
    where
      joined : (l2 l3 : Last) → (l2 ≡ l) ⊎ (l.number < l2.number) → (l3 ≡ l2) ⊎ (l2.number < l3.number)
          → (l3 ≡ l) ⊎ (l.number < l3.number)
      joined l2 l3 (inl a) (inl b) = inl (b ∙ a)
      joined l2 l3 (inl a) (inr b) = inr (omega (arith, b, ap (λ (x : Last). x.number) a))
      joined l2 l3 (inr a) (inl b) = inr (omega (arith, a, ap (λ (x : Last). x.number) b))
      joined l2 l3 (inr a) (inr b) = inr (omega (arith, a, b))

  -- An entry that used a number, with the line that its terminal got.
  pub record HasUsed (format : ℕ) (entries : List Entry) (name : Name) (number : ℕ) (line : List ℕ) : Type 0 where
    pub place : ℕ
    pub entry : Entry
    pub numbered : IsNumbered format entries place entry name number
    pub uses : uses_number entry.outcome ≡ true
    pub line_is : line ≡ unwrap_or (line_text entry) []

  -- more entries behind
  pub numbered_more : (format : ℕ) (entries more : List Entry) (place : ℕ) (e : Entry) (name : Name) (number : ℕ)
      → IsNumbered format entries place e name number
      → IsNumbered format (entries ++ more) place e name number
  numbered_more format entries more place e name number n =
      let at = get_more entries more place e n.stands in
      let same : take place (entries ++ more) ≡ take place entries
      = take-append-le place entries more (omega (arith, at.1)) in
      record {
        stands = at.0;
        message = n.message;
        reads = ap (λ (es : List Entry). message_of (format_at format es) e.line) same ∙ n.reads;
        is_from = n.is_from;
        has = n.has;
      }

  used_more : (format : ℕ) (entries more : List Entry) (name : Name) (number : ℕ) (line : List ℕ)
      → HasUsed format entries name number line
      → HasUsed format (entries ++ more) name number line
  used_more format entries more name number line u = record {
    place = u.place;
    entry = u.entry;
    numbered = numbered_more format entries more u.place u.entry name number u.numbered;
    uses = u.uses;
    line_is = u.line_is;
  }

  -- the entry at the end
  used_last : (h : History) (e : Entry) (name : Name) (l : Last) → UsedBy (format_of h) e l → l.lterm ≡ name
      → HasUsed h.format (h.entries ++ e ∷ []) name l.number l.line
  used_last h e name l u of = record {
    place = length h.entries;
    entry = e;
    numbered = record {
      stands = get_seam h.entries [] e;
      message = u.message;
      reads = ap (λ (es : List Entry). message_of (format_at h.format es) e.line)
          (take-append_seam h.entries (e ∷ [])) ∙ u.reads;
      is_from = u.is_from ∙ of;
      has = u.has;
    };
    uses = u.uses;
    line_is = u.line;
  }

  -- A last number was so before, or some entry used it.
  origin : (h : History) (es : List Entry) (h2 : History) (name : Name) (l : Last)
      → LeadsOn (rules_of defs scripts) h es h2
      → fresh.last_behind h2 name ≡ Some l
      → (fresh.last_behind h name ≡ Some l) ⊎ HasUsed h.format (h.entries ++ es) name l.number l.line
  origin h [] h2 name l leads is = inl (sym (ap (λ (x : History). fresh.last_behind x name) leads) ∙ is)
  origin h (e ∷ es) h2 name l leads is =
      by (origin (with_entry e leads.0 h) es h2 name l leads.2 is) (step_of h e leads.0 name leads.1)
    where
      whole : HasUsed h.format ((h.entries ++ e ∷ []) ++ es) name l.number l.line
          → HasUsed h.format (h.entries ++ e ∷ es) name l.number l.line
      whole u = subst (λ (xs : List Entry). HasUsed h.format xs name l.number l.line)
          (append_assoc h.entries (e ∷ []) es) u

      by : (fresh.last_behind (with_entry e leads.0 h) name ≡ Some l)
          ⊎ HasUsed h.format ((h.entries ++ e ∷ []) ++ es) name l.number l.line
          → Step h e leads.0 name
          → (fresh.last_behind h name ≡ Some l) ⊎ HasUsed h.format (h.entries ++ e ∷ es) name l.number l.line
      by (inr u) step = inr (whole u)
      by (inl here) (Stays same) = inl (sym same ∙ here)
      by (inl here) (Rises l2 u of put above) =
          let one : l2 ≡ l = same_Some l2 l (sym put ∙ here) in
          inr (whole (used_more h.format (h.entries ++ e ∷ []) es name l.number l.line
          (subst (λ (x : Last). HasUsed h.format (h.entries ++ e ∷ []) name x.number x.line) one
          (used_last h e name l2 u of))))

  -- ---- two entries of one history

  module _ (h : History) (serial : IsSerial (rules_of defs scripts) h) where
    abbrev start : History
    start = beginning h.format (rules_of defs scripts).start

    -- the history before an entry
    record Before (place : ℕ) (e : Entry) : Type 0 where
      at : History
      next : Db
      leads : LeadsOn (rules_of defs scripts) start (take place h.entries) at
      comes : Comes (rules_of defs scripts) at e next
      rest : LeadsOn (rules_of defs scripts) (with_entry e next at) (drop (suc place) h.entries) h
      entries : at.entries ≡ take place h.entries
      format : at.format ≡ h.format

    before : (place : ℕ) (e : Entry) → slice_get h.entries place ≡ Some e → Before place e
    before place e stands =
        let leads = subst (λ (es : List Entry). LeadsOn (rules_of defs scripts) start es h)
        (split_at h.entries place e stands) serial in
        let parts = front (rules_of defs scripts) start (take place h.entries)
        (e ∷ drop (suc place) h.entries) h leads in
        record {
          at = parts.0;
          next = parts.1.1.0;
          leads = parts.1.0;
          comes = parts.1.1.1;
          rest = parts.1.1.2;
          entries = entries_put (rules_of defs scripts) start (take place h.entries) parts.0 parts.1.0;
          format = format_stays (rules_of defs scripts) start (take place h.entries) parts.0 parts.1.0;
        }

    -- a message is read so there
    reads_at : (place : ℕ) (e : Entry) (name : Name) (number : ℕ) (b : Before place e)
        → (n : IsNumbered h.format h.entries place e name number)
        → message_of (format_of b.at) e.line ≡ Ok n.message
    reads_at place e name number b n =
        ap (λ (f : ℕ). message_of (format_at f b.at.entries) e.line) b.format
        ∙ ap (λ (es : List Entry). message_of (format_at h.format es) e.line) b.entries ∙ n.reads

    -- the last number directly behind an entry that uses one
    behind_it : (place : ℕ) (e : Entry) (name : Name) (number : ℕ) (b : Before place e)
        → IsNumbered h.format h.entries place e name number
        → uses_number e.outcome ≡ true
        → (l : Last) × ((fresh.last_behind (with_entry e b.next b.at) name ≡ Some l)
        × ((l.number ≡ number) × (l.line ≡ unwrap_or (line_text e) [])))
    behind_it place e name number b n uses =
        let l : Last = record { lterm = n.message.lterm; number = number; line = unwrap_or (line_text e) [] } in
        let by = uses_of (format_of b.at) e n.message number uses (reads_at place e name number b n) n.has in
        let put : fresh.last_behind (with_entry e b.next b.at) n.message.lterm ≡ Some l
        = last_put_behind b.at e b.next n.message.lterm (Some l) by ∙ last_put l (lasts_of b.at.format b.at.entries) in
        (l, (subst (λ (x : Name). fresh.last_behind (with_entry e b.next b.at) x ≡ Some l) n.is_from put, (refl, refl)))

    -- what the terminal's last number is before a later entry
    record Later (number : ℕ) (line : List ℕ) (place : ℕ) (e : Entry) (name : Name) : Type 0 where
      here : Before place e
      last : Last
      is : fresh.last_behind here.at name ≡ Some last
      not_less : (number < last.number) ⊎ ((last.number ≡ number) × (last.line ≡ line))

    later : (i j : ℕ) (a b : Entry) (name : Name) (number : ℕ)
        → i < j
        → IsNumbered h.format h.entries i a name number
        → uses_number a.outcome ≡ true
        → slice_get h.entries j ≡ Some b
        → Later number (unwrap_or (line_text a) []) j b name
    later i j a b name number less n uses stands =
        let ba = before i a n.stands in
        let bb = before j b stands in
        let put = behind_it i a name number ba n uses in
        let k : ℕ = j - suc i in
        let es : List Entry = drop (suc i) h.entries in
        let there : slice_get es k ≡ Some b = get_dropped h.entries (suc i) k b
        (ap (λ (q : ℕ). slice_get h.entries q) (let f : suc i + k ≡ j = omega (arith, less) in f) ∙ stands) in
        let split = subst (λ (xs : List Entry). LeadsOn (rules_of defs scripts) (with_entry a ba.next ba.at) xs h)
        (split_at es k b there) ba.rest in
        let parts = front (rules_of defs scripts) (with_entry a ba.next ba.at) (take k es) (b ∷ drop (suc k) es) h
        split in
        let grown = grows_on (with_entry a ba.next ba.at) (take k es) parts.0 name parts.1.0 put.0 put.1.0 in
        let whole = join (rules_of defs scripts) start (take i h.entries) (a ∷ take k es) ba.at parts.0 ba.leads
        (ba.next, ba.comes, parts.1.0) in
        let same : bb.at ≡ parts.0 = one_end (rules_of defs scripts) start (take j h.entries) parts.0 bb.at
        (subst (λ (xs : List Entry). LeadsOn (rules_of defs scripts) start xs parts.0)
        (sym (take_around h.entries i j a n.stands less)) whole) bb.leads in
        record {
          here = bb;
          last = grown.0;
          is = ap (λ (x : History). fresh.last_behind x name) same ∙ grown.1.0;
          not_less = elim grown.1.1 [
            | inl is ↦ inr (ap (λ (l : Last). l.number) is ∙ put.1.1.0, ap (λ (l : Last). l.line) is ∙ put.1.1.1)
            | inr more ↦ inl (omega (arith, more, put.1.1.0))
          ];
        }

    -- two entries don't use one number
    not_both : (i j : ℕ) (a b : Entry) (name : Name) (number : ℕ)
        → i < j
        → IsNumbered h.format h.entries i a name number
        → IsNumbered h.format h.entries j b name number
        → uses_number a.outcome ≡ true
        → uses_number b.outcome ≡ true
        → ⊥
    not_both i j a b name number less n n2 uses uses2 =
        let l = later i j a b name number less n uses n2.stands in
        let above = subst (λ (x : Name). IsAbove number (fresh.last_behind l.here.at x)) n2.is_from
        (comes_above l.here.at b l.here.next n2.message number (reads_at j b name number l.here n2) n2.has uses2
        l.here.comes) in
        let less2 = above l.last l.is in
        elim l.not_less [
          | inl more ↦ absurd (omega (arith, more, less2))
          | inr same ↦ absurd (omega (arith, same.0, less2))
        ]

    -- At most one entry uses a number.
    pub used_once : (i j : ℕ) (a b : Entry) (name : Name) (number : ℕ)
        → IsNumbered h.format h.entries i a name number
        → IsNumbered h.format h.entries j b name number
        → uses_number a.outcome ≡ true
        → uses_number b.outcome ≡ true
        → i ≡ j
    used_once i j a b name number n n2 uses uses2 = elim (cases_eq i j) [
      | inl same ↦ same
      | inr ne ↦ by (nat_lt i j) refl
    ]
      where
        by : (less : Bool) → nat_lt i j ≡ less → i ≡ j
        by true is = absurd (not_both i j a b name number (grind (arith, common_steps, is)) n n2 uses uses2)
        by false is = elim (cases_eq i j) [
          | inl same ↦ same
          | inr ne ↦ absurd (not_both j i b a name number
              (let f : j ≤ i = grind (arith, common_steps, is) in omega (arith, f, ne)) n2 n uses2 uses)
        ]

    -- ---- repeats

    repeat_is : (x y : List ℕ) → Refuses (outcome.Repeat x) ≡ Refuses (outcome.Repeat y) → x ≡ y
    repeat_is x y e = cc

    old_is_not_repeat : (n : ℕ) (line : List ℕ) → Refuses (outcome.Old n) ≡ Refuses (outcome.Repeat line) → ⊥
    old_is_not_repeat n line e = cc

    accepted_is_not_repeat : (m : Message) (line : List ℕ) → Accepts m ≡ Refuses (outcome.Repeat line) → ⊥
    accepted_is_not_repeat m line e = cc

    unknown_isnt_repeat : (line : List ℕ) → Refuses outcome.Unknown ≡ Refuses (outcome.Repeat line) → ⊥
    unknown_isnt_repeat line e = cc

    no_repeat : (m : Message) (line : List ℕ) → by_script scripts m ≡ Refuses (outcome.Repeat line) → ⊥
    no_repeat m line e = by (is_some (script_of scripts m.tran)) e
      where
        by : (b : Bool) → (if b then Accepts m else Refuses outcome.Unknown) ≡ Refuses (outcome.Repeat line) → ⊥
        by true e = accepted_is_not_repeat m line e
        by false e = unknown_isnt_repeat line e

    -- the last number before a Repeat, with its line
    record Again (number : ℕ) (line : List ℕ) (place : ℕ) (e : Entry) (name : Name) : Type 0 where
      here : Before place e
      last : Last
      is : fresh.last_behind here.at name ≡ Some last
      number_is : last.number ≡ number
      line_is : last.line ≡ line

    again : (j : ℕ) (b : Entry) (name : Name) (number : ℕ) (line : List ℕ)
        → IsNumbered h.format h.entries j b name number
        → b.outcome ≡ outcome.Repeat line
        → Again number line j b name
    again j b name number line n repeated = by (asked_of scripts bb.at b.line n.message number reads n.has)
      where
        bb : Before j b
        bb = before j b n.stands

        reads : message_of (format_of (before j b n.stands).at) b.line ≡ Ok n.message
        reads = reads_at j b name number (before j b n.stands) n

        refused : (rules_of defs scripts).request_of (before j b n.stands).at b.line ≡ Refuses (outcome.Repeat line)
        refused = (subst (λ (o : Outcome). Leads (rules_of defs scripts) (before j b n.stands).at b o
            (before j b n.stands).next) repeated (before j b n.stands).comes.leads).0

        by : Asked scripts n.message number (fresh.last_behind (before j b n.stands).at n.message.lterm)
            ((rules_of defs scripts).request_of (before j b n.stands).at b.line)
            → Again number line j b name
        by (Goes above e) = absurd (no_repeat n.message line (sym e ∙ refused))
        by (Is_old last there less e) = absurd (old_is_not_repeat last.number line (sym e ∙ refused))
        by (Repeats last there same e) = record {
          here = before j b n.stands;
          last = last;
          is = subst (λ (x : Name). fresh.last_behind (before j b n.stands).at x ≡ Some last) n.is_from there;
          number_is = sym same;
          line_is = repeat_is last.line line (sym e ∙ refused);
        }

    -- A Repeat has an earlier entry that used its number, and the line of that.
    pub repeats_line : (j : ℕ) (b : Entry) (name : Name) (number : ℕ) (line : List ℕ)
        → IsNumbered h.format h.entries j b name number
        → b.outcome ≡ outcome.Repeat line
        → WasUsed h.format h.entries j name number (line_text b)
    repeats_line j b name number line n repeated =
        let g = again j b name number line n repeated in
        elim (origin start (take j h.entries) g.here.at name g.last g.here.leads g.is) [
          | inl none ↦ absurd (none-some g.last none)
          | inr u ↦ (
              let at = get_more (take j h.entries) (drop j h.entries) u.place u.entry u.numbered.stands in
              let more = numbered_more h.format (take j h.entries) (drop j h.entries) u.place u.entry name g.last.number
              u.numbered in
              let short : length (take j h.entries) ≡ j = taken_length h.entries j b n.stands in
              let whole : take j h.entries ++ drop j h.entries ≡ h.entries = take-append-drop j h.entries in
              used_before g u.place u.entry
              (subst (λ (xs : List Entry). IsNumbered h.format xs u.place u.entry name g.last.number) whole
              more) u.uses u.line_is (omega (arith, at.1, short)))
        ]
      where
        used_before : (g : Again number line j b name) (place : ℕ) (e : Entry)
            → IsNumbered h.format h.entries place e name g.last.number
            → uses_number e.outcome ≡ true
            → g.last.line ≡ unwrap_or (line_text e) []
            → place < j
            → WasUsed h.format h.entries j name number (line_text b)
        used_before g place e numbered uses line_is less =
            let at = before place e numbered.stands in
            let told = told_text (place_of at.at) e e.outcome (format_of at.at) numbered.message
            at.comes.form (reads_at place e name g.last.number at numbered) in
            let text : line_text e ≡ Some told.0 = told.1 in
            let line_of_it : told.0 ≡ line
            = sym (ap (λ (o : Option (List ℕ)). unwrap_or o []) text) ∙ sym line_is ∙ g.line_is in
            let mine : line_text b ≡ Some line
            = ap (λ (o : Outcome). line_for (addressee (terminal_of b.line)) (verdict o b.reply)) repeated in
            record {
              earlier = place;
              entry = e;
              is_before = less;
              numbered = subst (λ (k : ℕ). IsNumbered h.format h.entries place e name k) g.number_is numbered;
              uses = uses;
              same_line = text ∙ ap (λ (t : List ℕ). Some t) line_of_it ∙ sym mine;
            }
