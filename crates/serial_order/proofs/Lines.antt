-- What lines ask for: a message keeps its line and its terminal, and entries of other terminals change nothing.
use Rattle.std.proofs.Common.{◌≡◌, ℕ, List, [], ◌∷◌, ◌++◌, length, Option, Some, None, refl, sym, ◌∙◌, ap, subst, Bool, true, false, not, if◌then◌else◌, Result, Ok, Err}
use Rattle.std.specs.Prelude.{is_some, nat_lt, option_map, unwrap_or, ◌==◌}
use Rattle.std.specs.List.{list_all}
use Rattle.std.specs.Option.{option_map_or}
use Rattle.fp_model.specs.declared.database.Db.{Db}
use Rattle.fp_model.specs.declared.calls.Message.{Message}
use Rattle.fp_model.specs.declared.log.Entry.{Entry}
use Rattle.fp_model.specs.declared.log.Outcome.{Outcome}
use Rattle.fp_model.specs.declared.log.Outcome.TheVariants as outcome
use Rattle.fp_model.specs.declared.name.Name.{Name}
use Rattle.fp_model.specs.declared.scripts.Script.{Script}
use Rattle.fp_model.specs.Texts.{is_printable, same_text}
use Rattle.fp_model.specs.State.{drop_key}
use Rattle.fp_model.specs.Names.{name_in}
use Rattle.fp_model.specs.Messages.{MessageFault, TooLong, NotAscii, with_fair_text, message_by, message_of, terminal_of, number_in_line, behind_number, behind_word, first_word}
use Rattle.fp_model.specs.ReplyLine.{line_text}
use Rattle.fp_model.specs.History.{History, Accepts, Refuses, with_entry}
use Rattle.fp_model.specs.Lasts.{Last, format_behind, format_at, uses_number, last_in, last_by, with_last, lasts_behind, lasts_of, last_of}
use Rattle.fp_model.specs.Asking.{script_of}
use Rattle.fp_model.specs.Product.{by_script, by_last, by_number, by_message, request_of}
use Rattle.serial_order.specs.Laws.{is_format, IsRefusal}
use Rattle.serial_order.proofs.Settling.{find_put, other_text}
use Rattle.plain_laws.proofs.Alls.{find_kept}
use Rattle.model_laws.proofs.Entries.{format_push}
use Rattle.std.proofs.lemmas.Option.{none-some, same_Some}
use Rattle.model_laws.proofs.Texts.{same_text_is}

-- ---- results, and what they hold

ok_is : (x y : Message) (r : Result Message MessageFault) → r ≡ Ok x → r ≡ Ok y → x ≡ y
ok_is x y r e f = cc

pub error_is_not_ok : (f : MessageFault) (x : Message) → Err f ≡ Ok x → ⊥
error_is_not_ok f x e = cc

accepted_is : (x y : Message) → Accepts x ≡ Accepts y → x ≡ y
accepted_is x y e = cc

refused_is : (x y : Outcome) → Refuses x ≡ Refuses y → x ≡ y
refused_is x y e = cc

pub refused_is_not_accepted : (o : Outcome) (x : Message) → Refuses o ≡ Accepts x → ⊥
refused_is_not_accepted o x e = cc

-- ---- the message that a line is

-- a message that is taken is as it was
pub fair_line : (m message : Message) → with_fair_text m ≡ Ok message → m ≡ message
fair_line m message e = either (nat_lt 1000 (length m.text)) (list_all is_printable m.text) e
  where
    either : (long fair : Bool) → (if long then Err TooLong else (if fair then Ok m else Err NotAscii)) ≡ Ok message
        → m ≡ message
    either true fair e = absurd (error_is_not_ok TooLong message e)
    either false true e = ok_is m message (Ok m) refl e
    either false false e = absurd (error_is_not_ok NotAscii message e)

-- it has the line and the terminal that it was read from
pub by_line : (line : List ℕ) (number : Option ℕ) (lterm tran : Option Name) (text : List ℕ) (message : Message)
    → message_by line number lterm tran text ≡ Ok message
    → (message.line ≡ line) × (lterm ≡ Some message.lterm)
by_line line number None tran text message e = absurd (error_is_not_ok _ message e)
by_line line number (Some lterm) None text message e = absurd (error_is_not_ok _ message e)
by_line line number (Some lterm) (Some tran) text message e =
    let same = fair_line (record { lterm = lterm; tran = tran; text = text; line = line; number = number }) message e in
    (sym (ap (λ (m : Message). m.line) same), ap (λ (m : Message). Some m.lterm) same)

pub of_line : (format : ℕ) (line : List ℕ) (message : Message) → message_of format line ≡ Ok message
    → (message.line ≡ line) × (terminal_of line ≡ Some message.lterm)
of_line format line message e =
    let asked : List ℕ = behind_number (number_in_line format line) line in
    by_line line (number_in_line format line) (terminal_of line) (name_in (first_word asked))
    (behind_word asked) message e

-- ---- a request that is accepted

script_accepts : (scripts : List Script) (m message : Message) → by_script scripts m ≡ Accepts message → m ≡ message
script_accepts scripts m message e = either (is_some (script_of scripts m.tran)) e
  where
    either : (b : Bool) → (if b then Accepts m else Refuses outcome.Unknown) ≡ Accepts message → m ≡ message
    either true e = accepted_is m message e
    either false e = absurd (refused_is_not_accepted outcome.Unknown message e)

last_accepts : (scripts : List Script) (m message : Message) (number : ℕ) (o : Option Last)
    → by_last scripts m number o ≡ Accepts message → m ≡ message
last_accepts scripts m message number None e = script_accepts scripts m message e
last_accepts scripts m message number (Some last) e = either (nat_lt number last.number) (number == last.number) e
  where
    either : (less same : Bool)
        → (if less then Refuses (outcome.Old last.number) else
        (if same then Refuses (outcome.Repeat last.line) else by_script scripts m)) ≡ Accepts message
        → m ≡ message
    either true same e = absurd (refused_is_not_accepted (outcome.Old last.number) message e)
    either false true e = absurd (refused_is_not_accepted (outcome.Repeat last.line) message e)
    either false false e = script_accepts scripts m message e

number_accepts : (scripts : List Script) (lasts : List Last) (m message : Message) (number : Option ℕ)
    → by_number scripts lasts m number ≡ Accepts message → m ≡ message
number_accepts scripts lasts m message None e = script_accepts scripts m message e
number_accepts scripts lasts m message (Some number) e = last_accepts scripts m message number (last_of m.lterm lasts) e

pub accepts : (scripts : List Script) (lasts : List Last) (r : Result Message MessageFault) (message : Message)
    → by_message scripts lasts r ≡ Accepts message → r ≡ Ok message
accepts scripts lasts (Err fault) message e = absurd (refused_is_not_accepted outcome.Unknown message e)
accepts scripts lasts (Ok m) message e = ap (λ (x : Message). Ok x) (number_accepts scripts lasts m message m.number e)

-- A message keeps its line.
pub keeps_line : (scripts : List Script) (h : History) (line : List ℕ) (message : Message)
    → request_of scripts h line ≡ Accepts message → message.line ≡ line
keeps_line scripts h line message e =
    let format : ℕ = format_at h.format h.entries in
    (of_line format line message (accepts scripts (lasts_of h.format h.entries) (message_of format line) message e)).0

-- It is that of the line's terminal.
pub keeps_terminal : (scripts : List Script) (h : History) (line : List ℕ) (message : Message)
    → request_of scripts h line ≡ Accepts message → terminal_of line ≡ Some message.lterm
keeps_terminal scripts h line message e =
    let format : ℕ = format_at h.format h.entries in
    (of_line format line message (accepts scripts (lasts_of h.format h.entries) (message_of format line) message e)).1

-- ---- a request that is refused

script_refuses : (scripts : List Script) (m : Message) (o : Outcome) → by_script scripts m ≡ Refuses o → IsRefusal o
script_refuses scripts m o e = either (is_some (script_of scripts m.tran)) e
  where
    either : (b : Bool) → (if b then Accepts m else Refuses outcome.Unknown) ≡ Refuses o → IsRefusal o
    either true e = absurd (refused_is_not_accepted o m (sym e))
    either false e = subst (λ (x : Outcome). IsRefusal x) (refused_is outcome.Unknown o e) tt

last_refuses : (scripts : List Script) (m : Message) (number : ℕ) (last : Option Last) (o : Outcome)
    → by_last scripts m number last ≡ Refuses o → IsRefusal o
last_refuses scripts m number None o e = script_refuses scripts m o e
last_refuses scripts m number (Some last) o e = either (nat_lt number last.number) (number == last.number) e
  where
    either : (less same : Bool)
        → (if less then Refuses (outcome.Old last.number) else
        (if same then Refuses (outcome.Repeat last.line) else by_script scripts m)) ≡ Refuses o
        → IsRefusal o
    either true same e = subst (λ (x : Outcome). IsRefusal x) (refused_is (outcome.Old last.number) o e) tt
    either false true e = subst (λ (x : Outcome). IsRefusal x) (refused_is (outcome.Repeat last.line) o e) tt
    either false false e = script_refuses scripts m o e

number_refuses : (scripts : List Script) (lasts : List Last) (m : Message) (number : Option ℕ) (o : Outcome)
    → by_number scripts lasts m number ≡ Refuses o → IsRefusal o
number_refuses scripts lasts m None o e = script_refuses scripts m o e
number_refuses scripts lasts m (Some number) o e = last_refuses scripts m number (last_of m.lterm lasts) o e

message_refuses : (scripts : List Script) (lasts : List Last) (r : Result Message MessageFault) (o : Outcome)
    → by_message scripts lasts r ≡ Refuses o → IsRefusal o
message_refuses scripts lasts (Err fault) o e = subst (λ (x : Outcome). IsRefusal x) (refused_is outcome.Unknown o e) tt
message_refuses scripts lasts (Ok m) o e = number_refuses scripts lasts m m.number o e

-- A line is refused as unknown, or by a number that was used before.
pub refuses_only : (scripts : List Script) (h : History) (line : List ℕ) (o : Outcome)
    → request_of scripts h line ≡ Refuses o → IsRefusal o
refuses_only scripts h line o e =
    message_refuses scripts (lasts_of h.format h.entries) (message_of (format_at h.format h.entries) line) o e

-- ---- one more entry

-- the format stays, unless the entry is a Format
format_kept : (format : ℕ) (o : Outcome) → is_format o ≡ false → format_behind format o ≡ format
format_kept format outcome.Done e = refl
format_kept format (outcome.Verify call fsa found) e = refl
format_kept format (outcome.Roll code) e = refl
format_kept format (outcome.SeqFull set begin end n) e = refl
format_kept format (outcome.Deadlock cycle) e = refl
format_kept format outcome.Device e = refl
format_kept format outcome.Memory e = refl
format_kept format outcome.Unknown e = refl
format_kept format (outcome.Old last) e = refl
format_kept format (outcome.Repeat line) e = refl
format_kept format (outcome.Purge set n) e = refl
format_kept format outcome.Format e = absurd cc

-- the entry's number takes the place of that of its terminal
pub lasts_push : (format : ℕ) (es : List Entry) (e : Entry) (lasts : List Last)
    → lasts_behind format (es ++ e ∷ []) lasts
    ≡ option_map_or (λ last. with_last last (lasts_behind format es lasts)) (last_by (format_at format es) e)
    (lasts_behind format es lasts)
lasts_push format [] e lasts = refl
lasts_push format (x ∷ es) e lasts =
    lasts_push (format_behind format x.outcome) es e
    (option_map_or (λ last. with_last last lasts) (last_by format x) lasts)

-- the number that an entry uses up is of the terminal of its line
last_terminal : (format : ℕ) (e : Entry) (last : Last) → last_by format e ≡ Some last
    → terminal_of e.line ≡ Some last.lterm
last_terminal format e last is = either (uses_number e.outcome) is
  where
    from_message : (text : List ℕ) (m : Message) (number : Option ℕ) → terminal_of e.line ≡ Some m.lterm
        → option_map (λ (n : ℕ). let l : Last = record { lterm = m.lterm; number = n; line = text } in l) number
        ≡ Some last → terminal_of e.line ≡ Some last.lterm
    from_message text m None at is = absurd (none-some last is)
    from_message text m (Some n) at is = at ∙ ap (λ (l : Last). Some l.lterm) (same_Some _ last is)

    from_line : (text : List ℕ) (r : Result Message MessageFault) → message_of format e.line ≡ r
        → last_in text r ≡ Some last → terminal_of e.line ≡ Some last.lterm
    from_line text (Err fault) of is = absurd (none-some last is)
    from_line text (Ok m) of is = from_message text m m.number (of_line format e.line m of).1 is

    either : (b : Bool) → (if b then last_in (unwrap_or (line_text e) []) (message_of format e.line) else None)
        ≡ Some last → terminal_of e.line ≡ Some last.lterm
    either true is = from_line (unwrap_or (line_text e) []) (message_of format e.line) refl is
    either false is = absurd (none-some last is)

-- a number leaves those of other terminals
pub last_leaves : (name : Name) (last : Last) (lasts : List Last) → ¬ (last.lterm.0 ≡ name.0)
    → last_of name (with_last last lasts) ≡ last_of name lasts
last_leaves name last lasts ne =
    let key : Last → List ℕ = λ l. l.lterm.0 in
    find_put (λ (l : Last). same_text (key l) name.0) key last (drop_key key (key last) lasts)
    (other_text (key last) name.0 ne)
    ∙ find_kept (λ (l : Last). same_text (key l) name.0) (λ (l : Last). not (same_text (key l) (key last))) lasts
    (λ l here. ap not (other_text (key l) (key last) (λ e. ne (sym e ∙ same_text_is (key l) name.0 here))))

-- what a message asks for rests on the last number of its own terminal
message_alike : (scripts : List Script) (lasts lasts2 : List Last) (r : Result Message MessageFault)
    → ((m : Message) → r ≡ Ok m → last_of m.lterm lasts2 ≡ last_of m.lterm lasts)
    → by_message scripts lasts2 r ≡ by_message scripts lasts r
message_alike scripts lasts lasts2 (Err fault) same = refl
message_alike scripts lasts lasts2 (Ok m) same = by m.number
  where
    by : (number : Option ℕ) → by_number scripts lasts2 m number ≡ by_number scripts lasts m number
    by None = refl
    by (Some number) = ap (by_last scripts m number) (same m refl)

-- An entry of another terminal, that is no Format, leaves what a line asks for.
pub request_stays : (scripts : List Script) (h : History) (e : Entry) (next : Db) (line : List ℕ)
    → is_format e.outcome ≡ false
    → ((name : Name) → terminal_of e.line ≡ Some name → ¬ (terminal_of line ≡ Some name))
    → request_of scripts (with_entry e next h) line ≡ request_of scripts h line
request_stays scripts h e next line same_format apart =
    let format : ℕ = format_at h.format h.entries in
    let lasts : List Last = lasts_of h.format h.entries in
    let more : List Last = lasts_of h.format (h.entries ++ e ∷ []) in
    ap (λ (f : ℕ). by_message scripts more (message_of f line))
    (format_push h.format h.entries e ∙ format_kept format e.outcome same_format)
    ∙ message_alike scripts lasts more (message_of format line)
    (λ m is. ap (last_of m.lterm) (lasts_push h.format h.entries e [])
    ∙ by m (of_line format line m is).1 (last_by format e) refl)
  where
    by : (m : Message) → terminal_of line ≡ Some m.lterm → (o : Option Last)
        → last_by (format_at h.format h.entries) e ≡ o
        → last_of m.lterm (option_map_or (λ last. with_last last (lasts_of h.format h.entries)) o
        (lasts_of h.format h.entries)) ≡ last_of m.lterm (lasts_of h.format h.entries)
    by m at None is = refl
    by m at (Some last) is = last_leaves m.lterm last (lasts_of h.format h.entries)
        (λ same. apart last.lterm (last_terminal (format_at h.format h.entries) e last is)
        (at ∙ ap (λ (text : List ℕ). let name : Name = record { 0 = text } in Some name) (sym same)))
