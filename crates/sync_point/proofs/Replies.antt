-- What a script replies is short.
use Rattle.std.proofs.Common.{◌≡◌, refl, subst, arith, ℕ, zero, suc, ◌≤◌, List, [], ◌∷◌, map, length, Bool, true, false, if◌then◌else◌, Option, Some, None}
use Rattle.std.specs.Prelude.{nat_le, ◌&&◌}
use Rattle.std.specs.List.{list_all}
use Rattle.std.proofs.lemmas.Grind.{common_steps}
use Rattle.fp_model.specs.declared.definitions.Defs.{Defs}
use Rattle.fp_model.specs.declared.calls.Message.{Message}
use Rattle.fp_model.specs.declared.calls.Answer.{Answer}
use Rattle.fp_model.specs.declared.calls.Call.{Call}
use Rattle.fp_model.specs.declared.calls.Call.TheVariants as call
use Rattle.fp_model.specs.declared.scripts.Operand.{Operand}
use Rattle.fp_model.specs.declared.scripts.Statement.{Statement, roll-Statement, map-Statement}
use Rattle.fp_model.specs.declared.scripts.Statement.TheOpen.{Statement-F, Set, If, Repeat, Break, Reply, Roll, Get, Fld, Isrt, Repl, Dlet}
use Rattle.fp_model.specs.declared.scripts.Statement.TheFolds.{fold-roll-Statement, ind-Statement}
use Rattle.fp_model.specs.Texts.{is_printable}
use Rattle.fp_model.specs.Values.{◌>>=◌}
use Rattle.fp_model.specs.Operands.{Env, at_top, set_text, chosen, joined_texts, reply_text, get_call, fld_call, isrt_call, repl_call}
use Rattle.fp_model.specs.Asking.{Way, Goes, Leaves, Ends, Ask, Asks, Replies, Rolls, or_rolls, goes_on, in_order, loops_on, times, called, run, run_step, ended, ask}
use Rattle.plain_laws.proofs.Truths.{first_of_both}

-- an end whose reply, if it has one, is short
abbrev pub EndIsShort : Ask → Type 0
EndIsShort (Asks c) = Unit {0}
EndIsShort (Replies text) = length text ≤ 1000
EndIsShort (Rolls code) = Unit {0}

abbrev WayIsShort : Way → Type 0
WayIsShort (Goes env) = Unit {0}
WayIsShort (Leaves env) = Unit {0}
WayIsShort (Ends end) = EndIsShort end

-- a part that is, whatever it begins with
abbrev IsShort : (Env → Way) → Type 0
IsShort part = (env : Env) → WayIsShort (part env)

-- ---- parts together

goes_on-short : (way : Way) (part : Env → Way) → WayIsShort way → IsShort part → WayIsShort (goes_on way part)
goes_on-short (Goes env) part w p = p env
goes_on-short (Leaves env) part w p = tt
goes_on-short (Ends end) part w p = w

loops_on-short : (way : Way) (part : Env → Way) → WayIsShort way → IsShort part → WayIsShort (loops_on way part)
loops_on-short (Goes env) part w p = p env
loops_on-short (Leaves env) part w p = tt
loops_on-short (Ends end) part w p = w

times-short : (n : ℕ) (body : Env → Way) → IsShort body → IsShort (times n body)
times-short zero body h env = tt
times-short (suc n) body h env = loops_on-short (body env) (times n body) (h env) (times-short n body h)

or_rolls-short : {A : Type 0} (o : Option A) (f : A → Way) → ((x : A) → o ≡ Some x → WayIsShort (f x))
    → WayIsShort (or_rolls o f)
or_rolls-short None f h = tt
or_rolls-short (Some x) f h = h x refl

called-short : (c : Call) (env : Env) (answers : List Answer) → env.answers ≡ answers → WayIsShort (called c env)
called-short c env [] e = rw e tt
called-short c env (answer ∷ rest) e = rw e tt

asked-short : (o : Option Call) (env : Env) → WayIsShort (or_rolls o (λ c. called c env))
asked-short o env = or_rolls-short o (λ c. called c env) (λ c e. called-short c env env.answers refl)

-- ---- a reply

kept : (b : Bool) (text reply : List ℕ) → (if b then Some text else None) ≡ Some reply → (b ≡ true) × (text ≡ reply)
kept true text reply e = (refl, cc)
kept false text reply e = absurd cc

short_text : (text reply : List ℕ)
    → (if nat_le (length text) 1000 && list_all is_printable text then Some text else None) ≡ Some reply
    → length reply ≤ 1000
short_text text reply e =
    let k = kept (nat_le (length text) 1000 && list_all is_printable text) text reply e in
    subst (λ (t : List ℕ). length t ≤ 1000) k.1 (is_within (length text)
    (first_of_both (nat_le (length text) 1000) (list_all is_printable text) k.0))
  where
    is_within : (n : ℕ) → nat_le n 1000 ≡ true → n ≤ 1000
    is_within n e = grind (arith, common_steps, e)

short_if : (o : Option (List ℕ)) (reply : List ℕ)
    → (o >>= (λ (text : List ℕ). if nat_le (length text) 1000 && list_all is_printable text then Some text else None))
    ≡ Some reply → length reply ≤ 1000
short_if None reply e = absurd cc
short_if (Some text) reply e = short_text text reply e

-- ---- statements

module _ (defs : Defs) (message : Message) where
  reply_is_short : (env : Env) (operands : List Operand) (reply : List ℕ)
      → reply_text defs message env operands ≡ Some reply → length reply ≤ 1000
  reply_is_short env operands reply e = short_if (joined_texts defs message env operands) reply e

  block-short : (ss : List ((s : Statement) × IsShort (run defs message s)))
      → IsShort (in_order (map (run defs message) (map (λ e. e.0) ss)))
  block-short [] env = tt
  block-short (s ∷ ss) env = goes_on-short (run defs message s.0 env) _ (s.1 env) (block-short ss)

  choice-short : (b : Bool) (x y : Env → Way) → IsShort x → IsShort y → IsShort (if b then x else y)
  choice-short true x y h g = h
  choice-short false x y h g = g

  -- one statement, over the runs of those in it
  step-short : (y : Statement-F ((s : Statement) × IsShort (run defs message s)))
      → IsShort (run_step defs message (map-Statement _ _ (run defs message) (map-Statement _ _ (λ e. e.0) y)))
  step-short (Set variable first rest) env = or_rolls-short (set_text defs message env first rest) _ (λ text e. tt)
  step-short (If left comparison right taken otherwise) env =
      let first = in_order (map (run defs message) (map (λ e. e.0) taken)) in
      let second = in_order (map (run defs message) (map (λ e. e.0) otherwise)) in
      or_rolls-short (chosen defs message env left comparison right) (λ holds. (if holds then first else second) env)
      (λ holds e. choice-short holds first second (block-short taken) (block-short otherwise) env)
  step-short (Repeat n body) env = times-short n (in_order (map (run defs message) (map (λ e. e.0) body)))
      (block-short body) env
  step-short Break env = tt
  step-short (Reply operands) env = or_rolls-short (reply_text defs message env operands) _
      (λ text e. reply_is_short env operands text e)
  step-short (Roll code) env = tt
  step-short (Get g hold db ssas) env = asked-short (get_call defs message env (call.Get g hold db) db ssas) env
  step-short (Fld db key fsas) env = asked-short (fld_call defs message env db key fsas) env
  step-short (Isrt db ssas fields) env = asked-short (isrt_call defs message env db ssas fields) env
  step-short (Repl db fields) env = asked-short (repl_call defs message env db fields) env
  step-short (Dlet db) env = called-short (call.Dlet db) env env.answers refl

  rolled-short : (x : Statement-F Statement)
      → IsShort (run_step defs message (map-Statement _ _ (run defs message) x))
      → IsShort (run defs message (roll-Statement x))
  rolled-short x h = rw (fold-roll-Statement (Env → Way) (run_step defs message) x) h

  statement-short : (s : Statement) → IsShort (run defs message s)
  statement-short = ind-Statement (λ s. IsShort (run defs message s))
      (λ x y is. rolled-short x (subst (λ z. IsShort (run_step defs message (map-Statement _ _ (run defs message) z)))
      is (step-short y)))

  script-short : (ss : List Statement) → IsShort (in_order (map (run defs message) ss))
  script-short [] env = tt
  script-short (s ∷ ss) env = goes_on-short (run defs message s env) _ (statement-short s env) (script-short ss)

  ended-short : (way : Way) → WayIsShort way → EndIsShort (ended way)
  ended-short (Goes env) h = omega arith
  ended-short (Leaves env) h = omega arith
  ended-short (Ends end) h = h

  asks-short : (statements : List Statement) (answers : List Answer) → EndIsShort (ask defs statements message answers)
  unfolding ask
  asks-short statements answers = ended-short (in_order (map (run defs message) statements) (at_top answers))
      (script-short statements (at_top answers))

  -- A reply has at most 1,000 bytes.
  pub replies_are_short : (statements : List Statement) (answers : List Answer) (text : List ℕ)
      → ask defs statements message answers ≡ Replies text → length text ≤ 1000
  replies_are_short statements answers text e = subst EndIsShort e (asks-short statements answers)
