-- Statements as steps over their parts, and how many calls a script asks: fewer than it costs.
use Rattle.std.proofs.Common.{◌≡◌, refl, ap, subst, arith, ℕ, zero, suc, ◌+◌, ◌*◌, ◌≤◌, ◌<◌, max, List, [], ◌∷◌, map, length, sum, Bool, true, false, if◌then◌else◌, Option, Some, None}
use Rattle.std.proofs.lemmas.List.Sums.{sum_by-cons}
use Rattle.fp_model.specs.declared.calls.Message.{Message}
use Rattle.fp_model.specs.declared.calls.Answer.{Answer}
use Rattle.fp_model.specs.declared.calls.Call.{Call}
use Rattle.fp_model.specs.declared.calls.Call.TheVariants as call
use Rattle.fp_model.specs.declared.definitions.Defs.{Defs}
use Rattle.fp_model.specs.declared.scripts.Statement.{Statement, roll-Statement, map-Statement}
use Rattle.fp_model.specs.declared.scripts.Statement.TheOpen.{Statement-F, Set, If, Repeat, Break, Reply, Roll, Get, Fld, Isrt, Repl, Dlet}
use Rattle.fp_model.specs.declared.scripts.Statement.TheFolds.{fold-roll-Statement, ind-Statement}
use Rattle.fp_model.specs.Operands.{Env, learned, at_top, with_setting, set_text, chosen, reply_text, get_call, fld_call, isrt_call, repl_call}
use Rattle.fp_model.specs.Asking.{Way, Goes, Leaves, Ends, Ask, Asks, Replies, Rolls, or_rolls, goes_on, in_order, loops_on, times, called, run, run_step, ended, ask, cost_step, statement_cost, full_cost}

-- a statement's run, as one step over the runs of the statements in it
pub run_roll : (defs : Defs) (message : Message) (d : Statement-F Statement) (env : Env)
    → run defs message (roll-Statement d) env ≡ run_step defs message
    (map-Statement Statement (Env → Way) (run defs message) d) env
run_roll defs message d env =
    ap (λ (part : Env → Way). part env) (fold-roll-Statement (Env → Way) (run_step defs message) d)

-- a statement's full_cost, by those of the statements in it
pub statement_cost_roll : (d : Statement-F Statement)
    → statement_cost (roll-Statement d) ≡ cost_step (map-Statement Statement ℕ statement_cost d)
statement_cost_roll d = fold-roll-Statement ℕ cost_step d

-- ---- calls and cost

-- what a part of a script comes to that began with n answers left: it has taken at most k calls,
-- the one that it asks included
abbrev EndsWithin : ℕ → ℕ → Ask → Type 0
EndsWithin k n (Asks call) = n < k
EndsWithin k n (Replies text) = Unit {0}
EndsWithin k n (Rolls code) = Unit {0}

abbrev TakesWithin : ℕ → ℕ → Way → Type 0
TakesWithin k n (Goes env) = n ≤ k + length env.answers
TakesWithin k n (Leaves env) = n ≤ k + length env.answers
TakesWithin k n (Ends end) = EndsWithin k n end

-- a part that takes at most k calls, whatever it is given
abbrev IsWithin : ℕ → (Env → Way) → Type 0
IsWithin k part = (env : Env) → TakesWithin k (length env.answers) (part env)

-- behind k calls that left l answers
after_end : (k m n l : ℕ) (end : Ask) → n ≤ k + l → EndsWithin m l end → EndsWithin (k + m) n end
after_end k m n l (Asks call) h e = omega arith
after_end k m n l (Replies text) h e = tt
after_end k m n l (Rolls code) h e = tt

after : (k m n l : ℕ) (way : Way) → n ≤ k + l → TakesWithin m l way → TakesWithin (k + m) n way
after k m n l (Goes env) h e = omega arith
after k m n l (Leaves env) h e = omega arith
after k m n l (Ends end) h e = after_end k m n l end h e

-- what takes at most k takes at most m
wider_end : (k m n : ℕ) (end : Ask) → k ≤ m → EndsWithin k n end → EndsWithin m n end
wider_end k m n (Asks call) h e = omega arith
wider_end k m n (Replies text) h e = tt
wider_end k m n (Rolls code) h e = tt

wider : (k m n : ℕ) (way : Way) → k ≤ m → TakesWithin k n way → TakesWithin m n way
wider k m n (Goes env) h e = omega arith
wider k m n (Leaves env) h e = omega arith
wider k m n (Ends end) h e = wider_end k m n end h e

-- one part behind another
goes_on-within : (k m n : ℕ) (way : Way) (part : Env → Way) → TakesWithin k n way → IsWithin m part
    → TakesWithin (k + m) n (goes_on way part)
goes_on-within k m n (Goes env) part e then_within = after k m n (length env.answers) (part env) e (then_within env)
goes_on-within k m n (Leaves env) part e then_within = omega arith
goes_on-within k m n (Ends end) part e then_within = wider_end k (k + m) n end (omega arith) e

loops_on-within : (k m n : ℕ) (way : Way) (part : Env → Way) → TakesWithin k n way → IsWithin m part
    → TakesWithin (k + m) n (loops_on way part)
loops_on-within k m n (Goes env) part e then_within = after k m n (length env.answers) (part env) e (then_within env)
loops_on-within k m n (Leaves env) part e then_within = omega arith
loops_on-within k m n (Ends end) part e then_within = wider_end k (k + m) n end (omega arith) e

times-within : (n k : ℕ) (body : Env → Way) → IsWithin k body → IsWithin (n * k) (times n body)
times-within zero k body h env = omega arith
times-within (suc n) k body h env =
    wider (k + n * k) (suc n * k) (length env.answers) (loops_on (body env) (times n body)) (omega arith)
    (loops_on-within k (n * k) (length env.answers) (body env) (times n body) (h env) (times-within n k body h))

-- a value that there may be
or_rolls-within : {A : Type 0} (o : Option A) (f : A → Way) (k n : ℕ) → ((x : A) → TakesWithin k n (f x))
    → TakesWithin k n (or_rolls o f)
or_rolls-within None f k n h = tt
or_rolls-within (Some x) f k n h = h x

-- what an answer adds leaves the answers
either-answers : (b : Bool) (x y : Env) → x.answers ≡ y.answers → (if b then x else y).answers ≡ y.answers
either-answers true x y e = e
either-answers false x y e = refl

learned-answers : (asked : Call) (answer : Answer) (env : Env) → (learned asked answer env).answers ≡ env.answers
learned-answers (call.Get get hold db ssas) answer env = either-answers _ _ env refl
learned-answers (call.Fld db key fsas) answer env = refl
learned-answers (call.Isrt db ssas bytes) answer env = refl
learned-answers (call.Repl db bytes) answer env = refl
learned-answers (call.Dlet db) answer env = refl

-- a call takes one answer, or is asked where there is none
called-of : (asked : Call) (env : Env) (answers : List Answer) → env.answers ≡ answers
    → TakesWithin 1 (length env.answers) (called asked env)
called-of asked env [] e = rw e (omega arith)
called-of asked env (answer ∷ answers) e =
    rw e
    (omega (arith, ap length (learned-answers asked answer (record env { status = answer.status; answers = answers }))))

called-within : (asked : Call) → IsWithin 1 (called asked)
called-within asked env = called-of asked env env.answers refl

-- a call that there may be
asked-within : (o : Option Call) (env : Env)
    → TakesWithin 1 (length env.answers) (or_rolls o (λ asked. called asked env))
asked-within o env =
    or_rolls-within o (λ asked. called asked env) 1 (length env.answers) (λ asked. called-within asked env)

-- a variable that is set takes none
setting-within : (variable text : List ℕ) (env : Env)
    → TakesWithin 1 (length env.answers) (Goes (with_setting variable text env))
setting-within variable text env = omega arith

module _ (defs : Defs) (message : Message) where
  -- a statement takes at most what it costs
  abbrev IsCosted : Statement → Type 0
  IsCosted s = IsWithin (statement_cost s) (run defs message s)

  -- and so does a block of such statements
  block-within : (ss : List ((s : Statement) × IsCosted s))
      → IsWithin (sum (map statement_cost (map (λ e. e.0) ss))) (in_order (map (run defs message) (map (λ e. e.0) ss)))
  block-within [] env = omega arith
  block-within (s ∷ ss) env =
      rw (sum_by-cons (λ (n : ℕ). n) (statement_cost s.0) (map statement_cost (map (λ e. e.0) ss)))
      (goes_on-within (statement_cost s.0) _ (length env.answers) (run defs message s.0 env) _ (s.1 env)
      (block-within ss))

  choice-within : (b : Bool) (k m : ℕ) (x y : Env → Way) → IsWithin k x → IsWithin m y
      → IsWithin (1 + max k m) (if b then x else y)
  choice-within true k m x y h g env = wider k (1 + max k m) (length env.answers) (x env) (omega arith) (h env)
  choice-within false k m x y h g env = wider m (1 + max k m) (length env.answers) (y env) (omega arith) (g env)

  step-within : (y : Statement-F ((s : Statement) × IsCosted s))
      → IsWithin (cost_step (map-Statement _ _ statement_cost (map-Statement _ _ (λ e. e.0) y)))
      (run_step defs message (map-Statement _ _ (run defs message) (map-Statement _ _ (λ e. e.0) y)))
  step-within (Set variable first rest) env =
      or_rolls-within (set_text defs message env first rest) (λ text. Goes (with_setting variable.0 text env)) 1
      (length env.answers) (λ text. setting-within variable.0 text env)
  step-within (If left comparison right taken otherwise) env =
      let first = in_order (map (run defs message) (map (λ e. e.0) taken)) in
      let second = in_order (map (run defs message) (map (λ e. e.0) otherwise)) in
      let one = sum (map statement_cost (map (λ e. e.0) taken)) in
      let other = sum (map statement_cost (map (λ e. e.0) otherwise)) in
      or_rolls-within (chosen defs message env left comparison right) (λ holds. (if holds then first else second) env)
      (1 + max one other) (length env.answers)
      (λ holds. choice-within holds one other first second (block-within taken) (block-within otherwise) env)
  step-within (Repeat n body) env =
      let block = in_order (map (run defs message) (map (λ e. e.0) body)) in
      let most = n * sum (map statement_cost (map (λ e. e.0) body)) in
      wider most (1 + most) (length env.answers) (times n block env) (omega arith)
      (times-within n (sum (map statement_cost (map (λ e. e.0) body))) block (block-within body) env)
  step-within Break env = omega arith
  step-within (Reply operands) env =
      or_rolls-within (reply_text defs message env operands) (λ text. Ends (Replies text)) 1 (length env.answers)
      (λ text. tt)
  step-within (Roll code) env = tt
  step-within (Get get hold db ssas) env = asked-within (get_call defs message env (call.Get get hold db) db ssas) env
  step-within (Fld db key fsas) env = asked-within (fld_call defs message env db key fsas) env
  step-within (Isrt db ssas fields) env = asked-within (isrt_call defs message env db ssas fields) env
  step-within (Repl db fields) env = asked-within (repl_call defs message env db fields) env
  step-within (Dlet db) env = called-within (call.Dlet db) env

  rolled-within : (x : Statement-F Statement)
      → IsWithin (cost_step (map-Statement _ _ statement_cost x))
      (run_step defs message (map-Statement _ _ (run defs message) x))
      → IsCosted (roll-Statement x)
  rolled-within x h =
      rw (fold-roll-Statement ℕ cost_step x, fold-roll-Statement (Env → Way) (run_step defs message) x) h

  statement-within : (s : Statement) → IsCosted s
  statement-within =
      ind-Statement IsCosted
      (λ x y is. rolled-within x (subst (λ z. IsWithin (cost_step (map-Statement _ _ statement_cost z))
      (run_step defs message (map-Statement _ _ (run defs message) z))) is (step-within y)))

  script-within : (ss : List Statement) → IsWithin (sum (map statement_cost ss)) (in_order (map (run defs message) ss))
  script-within [] env = omega arith
  script-within (s ∷ ss) env =
      rw (sum_by-cons (λ (n : ℕ). n) (statement_cost s) (map statement_cost ss))
      (goes_on-within (statement_cost s) _ (length env.answers) (run defs message s env) _ (statement-within s env)
      (script-within ss))

-- a reply or a rollback
abbrev IsEnd : Ask → Type 0
IsEnd (Asks asked) = ⊥
IsEnd (Replies text) = Unit {0}
IsEnd (Rolls code) = Unit {0}

-- a script that asks a call was answered fewer than it takes
asked-below : (k n : ℕ) (way : Way) (asked : Call) → ended way ≡ Asks asked → TakesWithin k n way → n < k
asked-below k n (Goes env) asked is e = absurd (subst IsEnd is tt)
asked-below k n (Leaves env) asked is e = absurd (subst IsEnd is tt)
asked-below k n (Ends end) asked is e = subst (EndsWithin k n) is e

-- A script that asks a call was answered fewer than it costs.
pub calls_below_cost : (defs : Defs) (statements : List Statement) (message : Message) (answers : List Answer)
    (asked : Call)
    → ask defs statements message answers ≡ Asks asked → length answers < full_cost statements
unfolding ask
calls_below_cost defs statements message answers asked is =
    let below = asked-below _ _ (in_order (map (run defs message) statements) (at_top answers)) asked is
    (script-within defs message statements (at_top answers)) in
    omega arith
