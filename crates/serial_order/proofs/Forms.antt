-- The calls that scripts ask have their form: field calls name whole keys.
use Rattle.std.proofs.Common.{◌≡◌, refl, subst, arith, ℕ, zero, suc, ◌+◌, ◌-◌, List, [], ◌∷◌, map, length, replicate, Bool, true, false, if◌then◌else◌, Option, Some, None, slice_get, length-append}
use Rattle.std.specs.Prelude.{nat_le, option_map}
use Rattle.std.proofs.lemmas.List.{length-replicate}
use Rattle.std.specs.Option.{option_map_or}
use Rattle.std.proofs.lemmas.Grind.{common_steps}
use Rattle.fp_model.specs.declared.definitions.Defs.{Defs}
use Rattle.fp_model.specs.declared.definitions.MsdbDef.{MsdbDef}
use Rattle.fp_model.specs.declared.calls.Message.{Message}
use Rattle.fp_model.specs.declared.calls.Answer.{Answer}
use Rattle.fp_model.specs.declared.calls.Call.{Call}
use Rattle.fp_model.specs.declared.calls.Call.TheVariants as call
use Rattle.fp_model.specs.declared.calls.Get.{Get as GetKind}
use Rattle.fp_model.specs.declared.scripts.FieldText.{FieldText}
use Rattle.fp_model.specs.declared.scripts.FsaText.{FsaText}
use Rattle.fp_model.specs.declared.scripts.SsaText.{SsaText}
use Rattle.fp_model.specs.declared.scripts.Operand.{Operand}
use Rattle.fp_model.specs.declared.scripts.Script.{Script}
use Rattle.fp_model.specs.declared.scripts.Statement.{Statement, roll-Statement, map-Statement}
use Rattle.fp_model.specs.declared.scripts.Statement.TheOpen.{Statement-F, Set, If, Repeat, Break, Reply, Roll, Get, Fld, Isrt, Repl, Dlet}
use Rattle.fp_model.specs.declared.scripts.Statement.TheFolds.{fold-roll-Statement, ind-Statement}
use Rattle.fp_model.specs.Fsas.{Fsa, list_text}
use Rattle.fp_model.specs.State.{key_length}
use Rattle.fp_model.specs.Texts.{padded}
use Rattle.fp_model.specs.Values.{◌>>=◌, Layout, layout_of, fitted, fitted_key, empty_segment}
use Rattle.fp_model.specs.Operands.{Env, at_top, text_of, key_text, fsas_given, set_text, chosen, reply_text, get_call, fld_call, isrt_call, repl_call, ssas_of, new_type, filled, shown_on}
use Rattle.fp_model.specs.Asking.{Way, Goes, Leaves, Ends, Ask, Asks, Replies, Rolls, or_rolls, goes_on, in_order, loops_on, times, called, run, run_step, ended, ask, script_of}
use Rattle.fp_model.specs.Product.{asked_by}
use Rattle.serial_order.specs.ProductView.{is_whole, is_call}
use Rattle.std.proofs.lemmas.Option.{none-some, same_Some}

module _ (defs : Defs) where
  abbrev EndIsFair : Ask → Type 0
  EndIsFair (Asks c) = is_call defs c ≡ true
  EndIsFair (Replies text) = Unit {0}
  EndIsFair (Rolls code) = Unit {0}

  -- a part of a script that ends in a call ends in one of its form
  abbrev WayIsFair : Way → Type 0
  WayIsFair (Goes env) = Unit {0}
  WayIsFair (Leaves env) = Unit {0}
  WayIsFair (Ends end) = EndIsFair end

  -- a part that is fair whatever it begins with
  abbrev IsFair : (Env → Way) → Type 0
  IsFair part = (env : Env) → WayIsFair (part env)

  -- ---- parts together

  -- one part behind another
  goes_on-fair : (way : Way) (part : Env → Way) → WayIsFair way → IsFair part → WayIsFair (goes_on way part)
  goes_on-fair (Goes env) part w p = p env
  goes_on-fair (Leaves env) part w p = tt
  goes_on-fair (Ends end) part w p = w

  -- a loop that goes on
  loops_on-fair : (way : Way) (part : Env → Way) → WayIsFair way → IsFair part → WayIsFair (loops_on way part)
  loops_on-fair (Goes env) part w p = p env
  loops_on-fair (Leaves env) part w p = tt
  loops_on-fair (Ends end) part w p = w

  -- a whole loop
  times-fair : (n : ℕ) (body : Env → Way) → IsFair body → IsFair (times n body)
  times-fair zero body h env = tt
  times-fair (suc n) body h env = loops_on-fair (body env) (times n body) (h env) (times-fair n body h)

  -- a value that there may be
  or_rolls-fair : {A : Type 0} (o : Option A) (f : A → Way) → ((x : A) → o ≡ Some x → WayIsFair (f x))
      → WayIsFair (or_rolls o f)
  or_rolls-fair None f h = tt
  or_rolls-fair (Some x) f h = h x refl

  -- a call
  called-fair : (c : Call) (env : Env) (answers : List Answer) → env.answers ≡ answers → is_call defs c ≡ true
      → WayIsFair (called c env)
  called-fair c env [] e h = rw e h
  called-fair c env (answer ∷ rest) e h = rw e tt

  -- ---- whole keys

  -- a padded text is as long as its field
  padded_whole : (n : ℕ) (text : List ℕ) → nat_le n (length (padded n text)) ≡ true
  padded_whole n text =
      let blanks : List ℕ = replicate (n - length text) 32 in
      let a : length (padded n text) ≡ length text + length blanks = length-append text blanks in
      let b : length blanks ≡ n - length text = length-replicate (n - length text) 32 in
      grind (arith, common_steps, a, b)

  -- and so is one that fits
  fitted_whole : (n : ℕ) (text key : List ℕ) → fitted n text ≡ Some key → nat_le n (length key) ≡ true
  fitted_whole n text key e = either (nat_le (length text) n) e
    where
      either : (b : Bool) → (if b then Some (padded n text) else None) ≡ Some key → nat_le n (length key) ≡ true
      either true e = subst (λ (k : List ℕ). nat_le n (length k) ≡ true) (same_Some (padded n text) key e)
          (padded_whole n text)
      either false e = absurd (none-some key e)

  -- what is behind a value that there may be
  behind : {A B : Type 0} (o : Option A) (f : A → Option B) (y : B) → (o >>= f) ≡ Some y → (x : A)
      × ((o ≡ Some x) × (f x ≡ Some y))
  behind None f y e = absurd (none-some y e)
  behind (Some x) f y e = (x, (refl, e))

  -- the key of a field call
  layout_whole : (db : ℕ) (o : Option MsdbDef) → slice_get defs.msdbs db ≡ o → (text key : List ℕ)
      → (layout_of defs db 0 >>= (λ (layout : Layout). fitted_key layout text)) ≡ Some key → is_whole defs db key ≡ true
  layout_whole db None is text key e = rw is (any (length key))
    where
      any : (n : ℕ) → nat_le 0 n ≡ true
      any n = grind (arith, common_steps)
  layout_whole db (Some def) is text key e = rw is (fitted_whole (key_length def.fields) text key
      (rw (is, layout_of) at e))

  fld_whole : (message : Message) (env : Env) (db : ℕ) (key : Operand) (fsas : List FsaText) (c : Call)
      → fld_call defs message env db key fsas ≡ Some c → is_call defs c ≡ true
  fld_whole message env db key fsas c e =
      let bytes = behind (key_text defs message env db 0 key)
      (λ (k : List ℕ). fsas_given defs message env fsas >>=
      (λ (list : List Fsa). Some (call.Fld db k (list_text list)))) c e in
      let list = behind (fsas_given defs message env fsas)
      (λ (list : List Fsa). Some (call.Fld db bytes.0 (list_text list))) c bytes.1.1 in
      let text = behind (text_of defs message env key)
      (λ (t : List ℕ). layout_of defs db 0 >>= (λ (layout : Layout). fitted_key layout t)) bytes.0 bytes.1.0 in
      let whole : is_whole defs db bytes.0 ≡ true =
      layout_whole db (slice_get defs.msdbs db) refl text.0 bytes.0 text.1.1 in
      subst (λ (q : Call). is_call defs q ≡ true) (same_Some (call.Fld db bytes.0 (list_text list.0)) c list.1.1) whole

  -- ---- statements

  -- what a function makes of a value that there may be
  mapped : {A B : Type 0} (f : A → B) (o : Option A) (y : B) → option_map f o ≡ Some y → (x : A) × (f x ≡ y)
  mapped f None y e = absurd (none-some y e)
  mapped f (Some x) y e = (x, same_Some (f x) y e)

  module _ (message : Message) where
    -- GU, GN, GNP and their holds
    get_fair : (env : Env) (g : GetKind) (hold : Bool) (db : ℕ) (ssas : List SsaText) (c : Call)
        → get_call defs message env (call.Get g hold db) db ssas ≡ Some c → is_call defs c ≡ true
    get_fair env g hold db ssas c e = let of = mapped (call.Get g hold db) (ssas_of defs message env db ssas) c e in
        subst (λ (q : Call). is_call defs q ≡ true) of.1 refl

    -- ISRT
    isrt_fair : (env : Env) (db : ℕ) (ssas : List SsaText) (fields : List FieldText) (c : Call)
        → isrt_call defs message env db ssas fields ≡ Some c → is_call defs c ≡ true
    isrt_fair env db ssas fields c e =
        let found = behind (ssas_of defs message env db ssas) _ c e in
        let layout = behind (layout_of defs db (new_type defs message ssas)) _ c found.1.1 in
        let segment = behind (empty_segment layout.0.fields) _ c layout.1.1 in
        let bytes = behind (filled defs message env layout.0.fields fields segment.0) _ c segment.1.1 in
        subst (λ (q : Call). is_call defs q ≡ true) (same_Some (call.Isrt db found.0 bytes.0) c bytes.1.1) refl

    -- REPL
    repl_fair : (env : Env) (db : ℕ) (fields : List FieldText) (c : Call)
        → repl_call defs message env db fields ≡ Some c → is_call defs c ≡ true
    repl_fair env db fields c e =
        let shown = behind (shown_on db env) _ c e in
        let layout = behind (layout_of defs db shown.0.type_number) _ c shown.1.1 in
        let bytes = behind (filled defs message env layout.0.fields fields shown.0.bytes) _ c layout.1.1 in
        subst (λ (q : Call). is_call defs q ≡ true) (same_Some (call.Repl db bytes.0) c bytes.1.1) refl

    -- a call that there may be
    asked-fair : (o : Option Call) (env : Env) → ((c : Call) → o ≡ Some c → is_call defs c ≡ true)
        → WayIsFair (or_rolls o (λ c. called c env))
    asked-fair o env h = or_rolls-fair o (λ c. called c env) (λ c e. called-fair c env env.answers refl (h c e))

    -- ---- statements

    -- a block of statements
    block-fair : (ss : List ((s : Statement) × IsFair (run defs message s)))
        → IsFair (in_order (map (run defs message) (map (λ e. e.0) ss)))
    block-fair [] env = tt
    block-fair (s ∷ ss) env = goes_on-fair (run defs message s.0 env) _ (s.1 env) (block-fair ss)

    -- one of two blocks
    choice-fair : (b : Bool) (x y : Env → Way) → IsFair x → IsFair y → IsFair (if b then x else y)
    choice-fair true x y h g = h
    choice-fair false x y h g = g

    -- one statement, over the runs of those in it
    step-fair : (y : Statement-F ((s : Statement) × IsFair (run defs message s)))
        → IsFair (run_step defs message (map-Statement _ _ (run defs message) (map-Statement _ _ (λ e. e.0) y)))
    step-fair (Set variable first rest) env = or_rolls-fair (set_text defs message env first rest) _ (λ text e. tt)
    step-fair (If left comparison right taken otherwise) env =
        let first = in_order (map (run defs message) (map (λ e. e.0) taken)) in
        let second = in_order (map (run defs message) (map (λ e. e.0) otherwise)) in
        or_rolls-fair (chosen defs message env left comparison right) (λ holds. (if holds then first else second) env)
        (λ holds e. choice-fair holds first second (block-fair taken) (block-fair otherwise) env)
    step-fair (Repeat n body) env = times-fair n (in_order (map (run defs message) (map (λ e. e.0) body)))
        (block-fair body) env
    step-fair Break env = tt
    step-fair (Reply operands) env = or_rolls-fair (reply_text defs message env operands) _ (λ text e. tt)
    step-fair (Roll code) env = tt
    step-fair (Get g hold db ssas) env = asked-fair (get_call defs message env (call.Get g hold db) db ssas) env
        (get_fair env g hold db ssas)
    step-fair (Fld db key fsas) env = asked-fair (fld_call defs message env db key fsas) env
        (fld_whole message env db key fsas)
    step-fair (Isrt db ssas fields) env = asked-fair (isrt_call defs message env db ssas fields) env
        (isrt_fair env db ssas fields)
    step-fair (Repl db fields) env = asked-fair (repl_call defs message env db fields) env (repl_fair env db fields)
    step-fair (Dlet db) env = called-fair (call.Dlet db) env env.answers refl refl

    -- a statement from its parts
    rolled-fair : (x : Statement-F Statement) → IsFair (run_step defs message (map-Statement _ _ (run defs message) x))
        → IsFair (run defs message (roll-Statement x))
    rolled-fair x h = rw (fold-roll-Statement (Env → Way) (run_step defs message) x) h

    -- every statement
    statement-fair : (s : Statement) → IsFair (run defs message s)
    statement-fair = ind-Statement (λ s. IsFair (run defs message s))
        (λ x y is. rolled-fair x (subst (λ z. IsFair (run_step defs message (map-Statement _ _ (run defs message) z)))
        is (step-fair y)))

    -- every script
    script-fair : (ss : List Statement) → IsFair (in_order (map (run defs message) ss))
    script-fair [] env = tt
    script-fair (s ∷ ss) env = goes_on-fair (run defs message s env) _ (statement-fair s env) (script-fair ss)

    -- what a script comes to
    ended-fair : (way : Way) → WayIsFair way → EndIsFair (ended way)
    ended-fair (Goes env) h = tt
    ended-fair (Leaves env) h = tt
    ended-fair (Ends end) h = h

    -- what a script asks
    asks-fair : (statements : List Statement) (answers : List Answer) → EndIsFair (ask defs statements message answers)
    unfolding ask
    asks-fair statements answers = ended-fair (in_order (map (run defs message) statements) (at_top answers))
        (script-fair statements (at_top answers))

    -- the script of a name
    by_script : (o : Option Script) (answers : List Answer)
        → EndIsFair (option_map_or (λ script. ask defs script.statements message answers) o (Replies []))
    by_script None answers = tt
    by_script (Some script) answers = asks-fair script.statements answers

  -- A call that a script asks has its form.
  pub asks_form : (scripts : List Script) (message : Message) (answers : List Answer) (c : Call)
      → asked_by defs scripts message answers ≡ Asks c → is_call defs c ≡ true
  asks_form scripts message answers c e = subst EndIsFair e (by_script message (script_of scripts message.tran) answers)
