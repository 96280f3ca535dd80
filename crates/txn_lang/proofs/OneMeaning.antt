-- Lines have one reading: what a front of them is, up to the line that ends a block, is a function of the lines.
use Rattle.std.proofs.Common.{◌≡◌, ℕ, List, [], ◌∷◌, ◌++◌, Option, Some, None, Result, Ok, Err, refl, sym, ap, subst, ◌∙◌, append_assoc, arith}
use Rattle.std.proofs.lemmas.List.{append-nil}
use Rattle.fp_model.specs.declared.name.Name.{Name}
use Rattle.fp_model.specs.declared.definitions.Defs.{Defs}
use Rattle.fp_model.specs.declared.scripts.Operand.{Operand}
use Rattle.fp_model.specs.declared.scripts.Comparison.{Comparison}
use Rattle.fp_model.specs.declared.scripts.Statement.{Statement}
use Rattle.fp_model.specs.declared.scripts.Script.{Script}
use Rattle.txn_lang.specs.declared.fault.ScriptFault.{ScriptFault}
use Rattle.txn_lang.specs.declared.fault.ScriptFault.TheVariants as fault
use Rattle.txn_lang.specs.declared.line.Line.{Line}
use Rattle.txn_lang.specs.declared.line.Line.TheVariants as line
use Rattle.txn_lang.specs.Blocks.{choice, loop, unclosed, AreStatements, none, one, if_end, if_else_end, repeat_end, AreScripts, no_script, script}
use Rattle.txn_lang.specs.Grammar.{Read, text_in, IsWritten, AreScriptsOf, HasFault, is_long, in_line, is_open, in_script, scripts_fault}

-- statements, and what stands behind them: the end, a TRAN, an ELSE or an END, with what follows that
data Part : Type 0 where
  Finishes : List Statement → Part
  Begins : List Statement → Name → Part → Part
  Turns : List Statement → Part → Part
  Closes : List Statement → Part → Part

abbrev in_front : List Statement → Part → Part
in_front s (Finishes t) = Finishes (s ++ t)
in_front s (Begins t name p) = Begins (s ++ t) name p
in_front s (Turns t p) = Turns (s ++ t) p
in_front s (Closes t p) = Closes (s ++ t) p

-- an IF in front of its blocks, whose lines are read already
abbrev second : Operand → Comparison → Operand → List Statement → Part → Part
second l c r taken (Closes otherwise p) = in_front (choice l c r taken otherwise ∷ []) p
second l c r taken (Finishes t) = Finishes t
second l c r taken (Begins t name p) = Begins t name p
second l c r taken (Turns t p) = Turns t p

abbrev chosen : Operand → Comparison → Operand → Part → Part
chosen l c r (Closes taken p) = in_front (choice l c r taken [] ∷ []) p
chosen l c r (Turns taken p) = second l c r taken p
chosen l c r (Finishes t) = Finishes t
chosen l c r (Begins t name p) = Begins t name p

abbrev looped : ℕ → Part → Part
looped n (Closes body p) = in_front (loop n body ∷ []) p
looped n (Turns t p) = Turns t p
looped n (Finishes t) = Finishes t
looped n (Begins t name p) = Begins t name p

abbrev part_by : Line → Part → Part
part_by (line.Tran name) p = Begins [] name p
part_by (line.If l c r) p = chosen l c r p
part_by line.Else p = Turns [] p
part_by (line.Repeat n) p = looped n p
part_by line.End p = Closes [] p
part_by (line.Whole s) p = in_front (s ∷ []) p

abbrev part_of : List Line → Part
part_of [] = Finishes []
part_of (l ∷ ls) = part_by l (part_of ls)

front_front : (a b : List Statement) (p : Part) → in_front a (in_front b p) ≡ in_front (a ++ b) p
front_front a b (Finishes t) = ap Finishes (sym (append_assoc a b t))
front_front a b (Begins t name p) = ap (λ (x : List Statement). Begins x name p) (sym (append_assoc a b t))
front_front a b (Turns t p) = ap (λ (x : List Statement). Turns x p) (sym (append_assoc a b t))
front_front a b (Closes t p) = ap (λ (x : List Statement). Closes x p) (sym (append_assoc a b t))

front_nothing : (p : Part) → in_front [] p ≡ p
front_nothing (Finishes t) = refl
front_nothing (Begins t name p) = refl
front_nothing (Turns t p) = refl
front_nothing (Closes t p) = refl

-- lines that are statements, in front of others
read_statements : {lines : List Line} {s : List Statement} → AreStatements lines s → (more : List Line)
    → part_of (lines ++ more) ≡ in_front s (part_of more)
read_statements none more = sym (front_nothing (part_of more))
read_statements (one s {lines = lines} {more = t} k) more =
    ap (in_front (s ∷ [])) (read_statements k more) ∙ front_front (s ∷ []) t (part_of more)
read_statements (if_end l c r {a = a} {lines = lines} {taken = taken} {more = t} p k) more =
    ap (λ (ls : List Line). chosen l c r (part_of ls)) (append_assoc a (line.End ∷ lines) more)
    ∙ ap (chosen l c r) (read_statements p (line.End ∷ (lines ++ more)) ∙ ap
    (λ (x : List Statement). Closes x (part_of (lines ++ more))) (append-nil taken))
    ∙ ap (in_front (choice l c r taken [] ∷ [])) (read_statements k more) ∙ front_front (choice l c r taken [] ∷ []) t
    (part_of more)
read_statements (if_else_end l c r {a = a} {b = b} {lines = lines} {taken = taken} {otherwise = otherwise} {more = t} p
    q k) more =
    let rest : List Line = line.End ∷ (lines ++ more) in
    ap (λ (ls : List Line). chosen l c r (part_of ls))
    (append_assoc (a ++ line.Else ∷ b) (line.End ∷ lines) more ∙ append_assoc a (line.Else ∷ b) rest)
    ∙ ap (chosen l c r) (read_statements p (line.Else ∷ (b ++ rest)) ∙ ap
    (λ (x : List Statement). Turns x (part_of (b ++ rest))) (append-nil taken))
    ∙ ap (second l c r taken) (read_statements q rest ∙ ap (λ (x : List Statement). Closes x (part_of (lines ++ more)))
    (append-nil otherwise))
    ∙ ap (in_front (choice l c r taken otherwise ∷ [])) (read_statements k more) ∙ front_front
    (choice l c r taken otherwise ∷ []) t (part_of more)
read_statements (repeat_end n {a = a} {lines = lines} {body = body} {more = t} p k) more =
    ap (λ (ls : List Line). looped n (part_of ls)) (append_assoc a (line.End ∷ lines) more)
    ∙ ap (looped n) (read_statements p (line.End ∷ (lines ++ more)) ∙ ap
    (λ (x : List Statement). Closes x (part_of (lines ++ more))) (append-nil body))
    ∙ ap (in_front (loop n body ∷ [])) (read_statements k more) ∙ front_front (loop n body ∷ []) t (part_of more)

-- ---- scripts

abbrev named : Name → List Statement → Script
named name statements = record { name = name; statements = statements }

-- a script of this name and those behind it
abbrev scripts_behind : Name → Part → List Script
scripts_behind name (Finishes t) = named name t ∷ []
scripts_behind name (Begins t next p) = named name t ∷ scripts_behind next p
scripts_behind name (Turns t p) = []
scripts_behind name (Closes t p) = []

abbrev scripts_at : Part → List Script
scripts_at (Finishes t) = []
scripts_at (Begins t name p) = scripts_behind name p
scripts_at (Turns t p) = []
scripts_at (Closes t p) = []

behind_is : {lines : List Line} {scripts : List Script} → AreScripts lines scripts → (name : Name) (s : List Statement)
    → scripts_behind name (in_front s (part_of lines)) ≡ named name s ∷ scripts
behind_is no_script name s = ap (λ (x : List Statement). named name x ∷ []) (append-nil s)
behind_is (script next {a = a} {lines = lines} {statements = t} {more = more} p k) name s =
    ap (λ (x : List Statement). named name x ∷ scripts_behind next (part_of (a ++ lines))) (append-nil s)
    ∙ ap (λ (x : Part). named name s ∷ scripts_behind next x) (read_statements p lines)
    ∙ ap (λ (x : List Script). named name s ∷ x) (behind_is k next t)

scripts_is : {lines : List Line} {scripts : List Script} → AreScripts lines scripts
    → scripts_at (part_of lines) ≡ scripts
scripts_is no_script = refl
scripts_is (script name {a = a} {lines = lines} {statements = t} {more = more} p k) =
    ap (scripts_behind name) (read_statements p lines) ∙ behind_is k name t

scripts_one : {lines : List Line} {a b : List Script} → AreScripts lines a → AreScripts lines b → a ≡ b
scripts_one p q = sym (scripts_is p) ∙ scripts_is q

-- ---- texts

abbrev good : Read → Result Read ScriptFault
good read = Ok read

same_read : (r s : Read) → good r ≡ good s → r ≡ s
same_read r s e = cc

no_fault : (r : Read) (f : ScriptFault) → good r ≡ Err f → ⊥
no_fault r f e = absurd cc

written_one : (defs : Defs) (text : List ℕ) (a b : List Script) → IsWritten defs text a → IsWritten defs text b → a ≡ b
written_one defs text a b p q =
    let same = same_read q.read p.read (sym q.lines ∙ p.lines) in
    scripts_one p.shape (subst (λ (r : Read). AreScripts r.said b) same q.shape)

pub one_list : (defs : Defs) (text : List ℕ) (a b : List Script) → AreScriptsOf defs text a → AreScriptsOf defs text b
    → a ≡ b
one_list defs text a b p q = written_one defs text a b p.written q.written

abbrev some_fault : ScriptFault → Option ScriptFault
some_fault f = Some f

none_some : (o : Option ScriptFault) (f : ScriptFault) → o ≡ None → o ≡ some_fault f → ⊥
none_some o f n s = absurd cc

none_open : (o : Option ℕ) (n : ℕ) → o ≡ None → o ≡ Some n → ⊥
none_open o n p q = absurd cc

pub apart : (defs : Defs) (text : List ℕ) (scripts : List Script) (f : ScriptFault) → AreScriptsOf defs text scripts
    → HasFault defs text f → ⊥
apart defs text scripts f p (is_long long) = absurd (omega (arith, p.written.short))
apart defs text scripts f p (in_line short is) = no_fault p.written.read _ (sym p.written.lines ∙ is)
apart defs text scripts f p (is_open {read = read} {number = number} short is left) =
    let same = same_read read p.written.read (sym is ∙ p.written.lines) in
    none_open (unclosed p.written.read.context) number p.written.closed
    (subst (λ (r : Read). unclosed r.context ≡ Some number) same left)
apart defs text scripts f p (in_script {scripts = others} {f = g} written is) =
    let same = written_one defs text others scripts written p.written in
    none_some (scripts_fault [] scripts) g p.fair (subst (λ (xs : List Script). scripts_fault [] xs ≡ Some g) same is)

-- ---- one fault

abbrev bad : ScriptFault → Result Read ScriptFault
bad f = Err f

same_fault : (f g : ScriptFault) → bad f ≡ bad g → f ≡ g
same_fault f g e = cc

same_option : (f g : ScriptFault) → some_fault f ≡ some_fault g → f ≡ g
same_option f g e = cc

same_number : (m n : ℕ) → (o : Option ℕ) → o ≡ Some m → o ≡ Some n → m ≡ n
same_number m n o p q = cc

not_both : (defs : Defs) (text : List ℕ) (r : Read) (f : ScriptFault) → text_in defs text ≡ Ok r
    → text_in defs text ≡ Err f → ⊥
not_both defs text r f p q = no_fault r f (sym p ∙ q)

open_written : (defs : Defs) (text : List ℕ) (scripts : List Script) (read : Read) (number : ℕ)
    → IsWritten defs text scripts → text_in defs text ≡ Ok read
    → unclosed read.context ≡ Some number → ⊥
open_written defs text scripts read number w is left =
    let same = same_read read w.read (sym is ∙ w.lines) in
    none_open (unclosed w.read.context) number w.closed
    (subst (λ (r : Read). unclosed r.context ≡ Some number) same left)

pub one_fault : (defs : Defs) (text : List ℕ) (f g : ScriptFault) → HasFault defs text f → HasFault defs text g → f ≡ g
one_fault defs text f g (is_long long) (is_long long2) = refl
one_fault defs text f g (is_long long) (in_line short is) = absurd (omega arith)
one_fault defs text f g (is_long long) (is_open short is left) = absurd (omega arith)
one_fault defs text f g (is_long long) (in_script w is) = absurd (omega (arith, w.short))
one_fault defs text f g (in_line short is) (is_long long) = absurd (omega arith)
one_fault defs text f g (in_line {f = f2} short is) (in_line {f = g2} short2 is2) = same_fault f2 g2 (sym is ∙ is2)
one_fault defs text f g (in_line {f = f2} short is) (is_open {read = read} short2 is2 left) =
    absurd (not_both defs text read f2 is2 is)
one_fault defs text f g (in_line {f = f2} short is) (in_script w is2) = absurd (not_both defs text w.read f2 w.lines is)
one_fault defs text f g (is_open short is left) (is_long long) = absurd (omega arith)
one_fault defs text f g (is_open {read = read} short is left) (in_line {f = g2} short2 is2) =
    absurd (not_both defs text read g2 is is2)
one_fault defs text f g (is_open {read = r} {number = m} short is left)
    (is_open {read = s} {number = n} short2 is2 left2) =
    let same = same_read s r (sym is2 ∙ is) in
    ap fault.Syntax (same_number m n (unclosed r.context) left
    (subst (λ (x : Read). unclosed x.context ≡ Some n) same left2))
one_fault defs text f g (is_open {read = read} {number = m} short is left) (in_script {scripts = scripts} w is2) =
    absurd (open_written defs text scripts read m w is left)
one_fault defs text f g (in_script w is) (is_long long) = absurd (omega (arith, w.short))
one_fault defs text f g (in_script w is) (in_line {f = g2} short2 is2) =
    absurd (not_both defs text w.read g2 w.lines is2)
one_fault defs text f g (in_script {scripts = scripts} w is) (is_open {read = read} {number = m} short2 is2 left) =
    absurd (open_written defs text scripts read m w is2 left)
one_fault defs text f g (in_script {scripts = a} {f = f2} w is) (in_script {scripts = b} {f = g2} v is2) =
    let same = written_one defs text b a v w in
    same_option f2 g2 (sym is ∙ subst (λ (xs : List Script). scripts_fault [] xs ≡ Some g2) same is2)
