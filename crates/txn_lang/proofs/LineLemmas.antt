-- What a line that was read is, by the word that it begins with, and what is open behind it.
use Rattle.std.proofs.Common.{◌≡◌, ℕ, List, [], ◌∷◌, Bool, true, false, cond, Option, Some, None, Ok, Err, refl, sym, ap, subst, ◌∙◌, ◌⊎◌, inl, inr, ⊎_elim, length}
use Rattle.std.specs.Prelude.{IsSome, is_some, ◌&&◌, nat_le, nat_lt, if◌then◌else◌, option_map, ◌≢◌, pos}
use Rattle.std.specs.List.{list_all}
use Rattle.std.proofs.lemmas.Bool.{leb-true}
use Rattle.fp_model.specs.declared.name.Name.{Name}
use Rattle.fp_model.specs.declared.definitions.Defs.{Defs}
use Rattle.fp_model.specs.declared.calls.Get.{Get}
use Rattle.fp_model.specs.declared.scripts.Operand.{Operand}
use Rattle.fp_model.specs.declared.scripts.Comparison.{Comparison}
use Rattle.fp_model.specs.declared.scripts.Statement.{Statement, roll-Statement}
use Rattle.fp_model.specs.declared.scripts.Statement.TheOpen as statement
use Rattle.fp_model.specs.declared.scripts.Statement.TheOpen.{Statement-F}
use Rattle.fp_model.specs.Asking.{statement_cost}
use Rattle.fp_model.proofs.ProgramLemmas.{statement_cost_roll}
use Rattle.txn_tokens.specs.declared.token.Token.{Token}
use Rattle.txn_tokens.specs.declared.token.Token.TheVariants.{Number}
use Rattle.txn_tokens.specs.declared.fault.LineFault.{LineFault}
use Rattle.txn_tokens.specs.declared.fault.LineFault.TheVariants.{Syntax, UnknownName, Memory}
use Rattle.txn_lang.specs.declared.line.Keyword.{Keyword}
use Rattle.txn_lang.specs.declared.line.Keyword.TheVariants as keyword
use Rattle.txn_lang.specs.declared.line.Line.{Line}
use Rattle.txn_lang.specs.declared.line.Line.TheVariants as line
use Rattle.txn_tokens.specs.Readings.{Reading, ended}
use Rattle.fp_model.specs.Readings.{◌>>=◌}
use Rattle.txn_tokens.specs.Tokens.{run, behind, tokens_of}
use Rattle.txn_tokens.specs.Parts.{count_at, word_at, variable_at, operand_at, comparison_at, key_at, operands_in, ssas_in, fsas_in, fields_in}
use Rattle.txn_tokens.specs.Lookups.{are_known, db_of, get_ssas, isrt_ssas, isrt_fields}
use Rattle.txn_lang.specs.Statements.{keyword_at, whole, alone, is_before_fields, set_rest, set_line, if_line, get_line, fld_line, isrt_line, repl_line, dlet_line, line_behind}
use Rattle.txn_lang.specs.Blocks.{Choice, Loop, Open, Context, begun, opened, opens, else_in, end_in, stands}
use Rattle.txn_lang.specs.Grammar.{is_ascii, is_skipped, statement_in, line_in}
use Rattle.txn_lang.specs.inside.Building.{IsCount, Follows, context_behind, or_same, can_stand, said_in}
use Rattle.plain_laws.proofs.Options.{is_some_there}

-- ---- what a reading gives has a property

abbrev Has : {A : Type 0} → (A → Type 0) → Reading A → Type 0
Has P (Ok x) = P x
Has P (Err e) = Unit {0}

has_bind : {A B : Type 0} (P : B → Type 0) (r : Reading A) (f : A → Reading B) → ((x : A) → r ≡ Ok x → Has P (f x))
    → Has P (r >>= f)
has_bind P (Ok x) f h = h x refl
has_bind P (Err e) f h = tt

has_all : {A B : Type 0} (P : B → Type 0) (r : Reading A) (f : A → Reading B) → ((x : A) → Has P (f x))
    → Has P (r >>= f)
has_all P (Ok x) f h = h x
has_all P (Err e) f h = tt

has_ended : {A X : Type 0} (P : A → Type 0) (x : A) (xs : List X) → P x → Has P (ended x xs)
has_ended P x [] h = h
has_ended P x (y ∷ ys) h = tt

has_ok : {A : Type 0} (P : A → Type 0) (r : Reading A) (x : A) → Has P r → r ≡ Ok x → P x
has_ok {A} P r x h is = subst (λ (s : Reading A). Has P s) is h

-- ---- lines

-- a statement that has its line to itself costs 1
abbrev IsWhole : Line → Type 0
IsWhole said = (s : Statement) × (statement_cost s ≡ 1) × (said ≡ line.Whole s)

whole_is : (s : Statement-F Statement) → statement_cost (roll-Statement s) ≡ 1 → IsWhole (line.Whole (roll-Statement s))
whole_is s one = (roll-Statement s, one, refl)

-- what the word that a line begins with says of it
abbrev pub IsOf : Keyword → Line → Type 0
IsOf keyword.Tran said = (name : Name) × (said ≡ line.Tran name)
IsOf keyword.If said = (left : Operand) × (comparison : Comparison) × (right : Operand)
    × (said ≡ line.If left comparison right)
IsOf keyword.Else said = said ≡ line.Else
IsOf keyword.End said = said ≡ line.End
IsOf keyword.Repeat said = (times : ℕ) × IsCount times × (said ≡ line.Repeat times)
IsOf keyword.Break said = IsWhole said
IsOf keyword.Set said = IsWhole said
IsOf keyword.Reply said = IsWhole said
IsOf keyword.Rolb said = IsWhole said
IsOf (keyword.Get get hold) said = IsWhole said
IsOf keyword.Fld said = IsWhole said
IsOf keyword.Isrt said = IsWhole said
IsOf keyword.Repl said = IsWhole said
IsOf keyword.Dlet said = IsWhole said

count_has : (tokens : List Token) → Has (λ x. IsCount x.0) (count_at 1 10000 tokens)
unfolding count_at
count_has (Number (pos n) ∷ ts) = by_test (nat_le 1 n) (nat_le n 10000) refl refl
  where
    by_test : (a b : Bool) → nat_le 1 n ≡ a → nat_le n 10000 ≡ b
        → Has (λ (x : ℕ × List Token). IsCount x.0) (if a && b then Ok (n, ts) else Err Syntax)
    by_test true true p q = (leb-true 1 n p, leb-true n 10000 q)
    by_test true false p q = tt
    by_test false b p q = tt
count_has _ = tt

tran_has : (tokens : List Token) → Has (IsOf keyword.Tran) (word_at tokens >>= alone line.Tran)
tran_has tokens = has_all _ (word_at tokens) _ (λ name. has_ended (IsOf keyword.Tran) _ name.1 (name.0, refl))

if_has : (tokens : List Token) → Has (IsOf keyword.If) (if_line tokens)
unfolding if_line
if_has tokens =
    has_all _ (operand_at tokens) _ (λ left. has_all _ (comparison_at left.1) _
    (λ comparison. has_all _ (operand_at comparison.1) _ (λ right.
    has_ended (IsOf keyword.If) _ right.1 (left.0, comparison.0, right.0, refl))))

repeat_has : (tokens : List Token) → Has (IsOf keyword.Repeat) (count_at 1 10000 tokens >>= alone line.Repeat)
repeat_has tokens =
    has_bind _ (count_at 1 10000 tokens) _ (λ times is.
    has_ended (IsOf keyword.Repeat) _ times.1 (
      times.0,
      has_ok (λ (x : ℕ × List Token). IsCount x.0) _ times (count_has tokens) is,
      refl,
    ))

set_has : (tokens : List Token) → Has IsWhole (set_line tokens)
unfolding set_line
set_has tokens =
    has_all _ (variable_at tokens) _ (λ variable. has_all _ (operand_at variable.1) _
    (λ first. has_all _ (set_rest first.1) _ (λ rest.
    whole_is (statement.Set variable.0 first.0 rest) (statement_cost_roll (statement.Set variable.0 first.0 rest)))))

reply_has : (tokens : List Token)
    → Has IsWhole (operands_in tokens >>= λ operands. Ok (whole (statement.Reply operands)))
reply_has tokens = has_all _ (operands_in tokens) _
    (λ operands. whole_is (statement.Reply operands) (statement_cost_roll (statement.Reply operands)))

rolb_has : (tokens : List Token)
    → Has IsWhole (count_at 0 98 tokens >>= alone (λ code. whole (statement.Roll code)))
rolb_has tokens =
    has_all _ (count_at 0 98 tokens) _ (λ code. has_ended IsWhole _ code.1
    (whole_is (statement.Roll code.0) (statement_cost_roll (statement.Roll code.0))))

get_has : (defs : Defs) (get : Get) (hold : Bool) (tokens : List Token) → Has IsWhole (get_line defs get hold tokens)
unfolding get_line
get_has defs get hold tokens =
    has_all _ (word_at tokens) _ (λ database. has_all _ (ssas_in database.1) _
    (λ written. has_all _ (db_of defs database.0) _ (λ db. has_all _ (get_ssas defs db written) _ (λ ssas.
    whole_is (statement.Get get hold db ssas) (statement_cost_roll (statement.Get get hold db ssas))))))

fld_has : (defs : Defs) (tokens : List Token) → Has IsWhole (fld_line defs tokens)
unfolding fld_line
fld_has defs tokens =
    has_all _ (word_at tokens) _ (λ database. has_all _ (key_at database.1) _
    (λ key. has_all _ (fsas_in key.1) _ (λ fsas. has_all _ (db_of defs database.0) _ (λ db.
    whole_is (statement.Fld db key.0 fsas) (statement_cost_roll (statement.Fld db key.0 fsas))))))

isrt_has : (defs : Defs) (tokens : List Token) → Has IsWhole (isrt_line defs tokens)
unfolding isrt_line
isrt_has defs tokens =
    has_all _ (word_at tokens) _ (λ database. has_all _ (ssas_in (run is_before_fields database.1)) _
    (λ written. has_all _ (fields_in (behind is_before_fields database.1)) _ (λ given.
    has_all _ (db_of defs database.0) _ (λ db. has_all _ (isrt_ssas defs db written) _
    (λ ssas. has_all _ (isrt_fields defs db ssas given) _ (λ fields.
    whole_is (statement.Isrt db ssas fields) (statement_cost_roll (statement.Isrt db ssas fields))))))))

repl_has : (defs : Defs) (tokens : List Token) → Has IsWhole (repl_line defs tokens)
unfolding repl_line
repl_has defs tokens =
    has_all _ (word_at tokens) _ (λ database. has_all _ (fields_in database.1) _
    (λ fields. has_all _ (db_of defs database.0) _ (λ db.
    whole_is (statement.Repl db fields) (statement_cost_roll (statement.Repl db fields)))))

dlet_has : (defs : Defs) (tokens : List Token) → Has IsWhole (dlet_line defs tokens)
unfolding dlet_line
dlet_has defs tokens =
    has_all _ (word_at tokens) _ (λ database. has_all _ (ended database.0 database.1) _
    (λ name. has_all _ (db_of defs name) _ (λ db.
    whole_is (statement.Dlet db) (statement_cost_roll (statement.Dlet db)))))

line_has : (defs : Defs) (k : Keyword) (tokens : List Token) → Has (IsOf k) (line_behind defs k tokens)
unfolding line_behind
line_has defs keyword.Tran tokens = tran_has tokens
line_has defs keyword.Set tokens = set_has tokens
line_has defs keyword.If tokens = if_has tokens
line_has defs keyword.Else tokens = has_ended (IsOf keyword.Else) line.Else tokens refl
line_has defs keyword.End tokens = has_ended (IsOf keyword.End) line.End tokens refl
line_has defs keyword.Repeat tokens = repeat_has tokens
line_has defs keyword.Break tokens = has_ended IsWhole _ tokens
    (whole_is statement.Break (statement_cost_roll statement.Break))
line_has defs keyword.Reply tokens = reply_has tokens
line_has defs keyword.Rolb tokens = rolb_has tokens
line_has defs (keyword.Get get hold) tokens = get_has defs get hold tokens
line_has defs keyword.Fld tokens = fld_has defs tokens
line_has defs keyword.Isrt tokens = isrt_has defs tokens
line_has defs keyword.Repl tokens = repl_has defs tokens
line_has defs keyword.Dlet tokens = dlet_has defs tokens

-- ---- what is open behind it

within_is : (b : Bool) (o : Option Context) (next : Context) → cond b o None ≡ Some next → (b ≡ true) × (o ≡ Some next)
within_is true o next is = (refl, is)
within_is false o next is = absurd cc

some_is : {A : Type 0} (x y : A) → Some x ≡ Some y → y ≡ x
some_is x y is = cc

-- the context with these blocks
abbrev with_blocks : Context → List Open → Context
with_blocks context blocks = record context { open_blocks = blocks }

abbrev with_some : Context → Option (List Open) → Option Context
with_some context blocks = option_map (with_blocks context) blocks

room_is : (b : Bool) (context : Context) (blocks : List Open) (next : Context)
    → with_some context (cond b (Some blocks) None) ≡ Some next → next ≡ with_blocks context blocks
room_is true context blocks next is = cc
room_is false context blocks next is = absurd cc

open_is : (context : Context) (blocks : Option (List Open)) (next : Context) → with_some context blocks ≡ Some next
    → IsSome blocks × (next ≡ or_same context blocks)
open_is context None next is = absurd cc
open_is context (Some blocks) next is = (refl, cc)

abbrev Goes : ℕ → Context → Context → Line → Type 0
Goes number context next said = Follows said context × (next ≡ context_behind number said context)

whole_goes : (number : ℕ) (said : Line) (context next : Context) → IsWhole said
    → cond context.has_begun (Some context) None ≡ Some next → Goes number context next said
whole_goes number said context next is stood =
    let in_script = within_is context.has_begun (Some context) next stood in
    subst (Goes number context next) (sym is.2) ((in_script.0, is.1), some_is context next in_script.1)

pub line_goes : (number : ℕ) (k : Keyword) (said : Line) (context next : Context) → IsOf k said
    → stands number k context ≡ Some next → Goes number context next said
unfolding stands
line_goes number keyword.Tran said context next is stood =
    subst (Goes number context next) (sym is.1) (tt, some_is (begun context) next stood)
line_goes number keyword.If said context next is stood =
    let in_script = within_is context.has_begun
    (with_some context (opened Choice number context.open_blocks)) next stood in
    subst (Goes number context next) (sym is.3) (in_script.0, room_is _ context _ next in_script.1)
line_goes number keyword.Else said context next is stood =
    let in_script = within_is context.has_begun (with_some context (else_in context.open_blocks)) next stood in
    let open_block = open_is context (else_in context.open_blocks) next in_script.1 in
    subst (Goes number context next) (sym is) ((in_script.0, open_block.0), open_block.1)
line_goes number keyword.End said context next is stood =
    let in_script = within_is context.has_begun (with_some context (end_in context.open_blocks)) next stood in
    let open_block = open_is context (end_in context.open_blocks) next in_script.1 in
    subst (Goes number context next) (sym is) ((in_script.0, open_block.0), open_block.1)
line_goes number keyword.Repeat said context next is stood =
    let in_script = within_is context.has_begun
    (with_some context (opened Loop number context.open_blocks)) next stood in
    subst (Goes number context next) (sym is.2) ((in_script.0, is.1), room_is _ context _ next in_script.1)
line_goes number keyword.Break said context next is stood =
    let in_script = within_is context.has_begun
    (with_some context (opens number keyword.Break context.open_blocks)) next stood in
    subst (Goes number context next) (sym is.2) ((in_script.0, is.1), room_is _ context _ next in_script.1)
line_goes number keyword.Set said context next is stood = whole_goes number said context next is stood
line_goes number keyword.Reply said context next is stood = whole_goes number said context next is stood
line_goes number keyword.Rolb said context next is stood = whole_goes number said context next is stood
line_goes number (keyword.Get get hold) said context next is stood = whole_goes number said context next is stood
line_goes number keyword.Fld said context next is stood = whole_goes number said context next is stood
line_goes number keyword.Isrt said context next is stood = whole_goes number said context next is stood
line_goes number keyword.Repl said context next is stood = whole_goes number said context next is stood
line_goes number keyword.Dlet said context next is stood = whole_goes number said context next is stood

-- ---- a line that was read, and one that was refused

bind_ok : {A B : Type 0} (r : Reading A) (f : A → Reading B) (y : B) → (r >>= f) ≡ Ok y → (x : A) × (r ≡ Ok x)
    × (f x ≡ Ok y)
bind_ok (Ok x) f y e = (x, refl, e)
bind_ok (Err d) f y e = absurd cc

abbrev err_of : (A : Type 0) → LineFault → Reading A
err_of A e = Err e

same_err : (A B : Type 0) (c d : LineFault) → err_of B c ≡ err_of B d → err_of A c ≡ err_of A d
same_err A B c d e = cc

bind_err : {A B : Type 0} (r : Reading A) (f : A → Reading B) (d : LineFault) → (r >>= f) ≡ Err d → (r ≡ Err d)
    ⊎ ((x : A) × (r ≡ Ok x) × (f x ≡ Err d))
bind_err (Ok x) f d e = inr (x, refl, e)
bind_err {A = A} {B = B} (Err c) f d e = inl (same_err A B c d e)

guard_ok : {A : Type 0} (b : Bool) (x y : A) (d : LineFault) → cond b (Ok x) (Err d) ≡ Ok y → (b ≡ true) × (x ≡ y)
guard_ok true x y d e = (refl, cc)
guard_ok false x y d e = absurd cc

guard_err : {A : Type 0} (b : Bool) (x : A) (c d : LineFault) → cond b (Ok x) (Err c) ≡ Err d → (b ≡ false) × (c ≡ d)
guard_err true x c d e = absurd cc
guard_err false x c d e = (refl, cc)

same_some : (context : Context) (b r : Bool) (x y : List Open)
    → is_some (cond b (with_some context (cond r (Some x) None)) None) ≡ is_some
    (cond b (with_some context (cond r (Some y) None)) None)
same_some context true true x y = refl
same_some context true false x y = refl
same_some context false r x y = refl

-- the number of a line doesn't say whether it can stand there
any_number : (number : ℕ) (k : Keyword) (context : Context)
    → is_some (stands 0 k context) ≡ is_some (stands number k context)
unfolding stands
any_number number keyword.Tran context = refl
any_number number keyword.If context = same_some context context.has_begun
    (nat_lt (length context.open_blocks) 64) _ _
any_number number keyword.Else context = refl
any_number number keyword.End context = refl
any_number number keyword.Repeat context = same_some context context.has_begun
    (nat_lt (length context.open_blocks) 64) _ _
any_number number keyword.Break context = refl
any_number number keyword.Set context = refl
any_number number keyword.Reply context = refl
any_number number keyword.Rolb context = refl
any_number number (keyword.Get get hold) context = refl
any_number number keyword.Fld context = refl
any_number number keyword.Isrt context = refl
any_number number keyword.Repl context = refl
any_number number keyword.Dlet context = refl

not_there : {A : Type 0} (o : Option A) → is_some o ≡ false → o ≡ None
not_there None is = refl
not_there (Some x) is = absurd cc

module _ (defs : Defs) (context : Context) where
  abbrev then_last : List Token → Keyword × List Token → Reading (Keyword × Line)
  then_last tokens k = line_behind defs k.0 k.1 >>= λ said. if are_known defs tokens then Ok (k.0, said) else Err
      UnknownName

  abbrev then_line : List Token → Keyword × List Token → Reading (Keyword × Line)
  then_line tokens k = can_stand k.0 context >>= λ here. then_last tokens k

  abbrev then_keyword : List Token → Reading (Keyword × Line)
  then_keyword tokens = keyword_at tokens >>= then_line tokens

  statement_good : (number : ℕ) (bytes : List ℕ) (tokens : List Token) (k : Keyword × List Token) (next : Context)
      (said : Line)
      → tokens_of bytes ≡ Ok tokens → keyword_at tokens ≡ Ok k → stands number k.0 context ≡ Some next
      → line_behind defs k.0 k.1 ≡ Ok said → are_known defs tokens ≡ true
      → statement_in defs number context bytes ≡ Ok (record { said = said ∷ []; context = next })
  unfolding statement_in
  statement_good number bytes tokens k next said a b s l known = rw (a, b, s, l, known) refl

  pub said_reads : (number : ℕ) (bytes : List ℕ) (read : Keyword × Line) → said_in defs context bytes ≡ Ok read
      → Follows read.1 context × (statement_in defs number context bytes ≡ Ok
      (record { said = read.1 ∷ []; context = context_behind number read.1 context }))
  unfolding said_in
  said_reads number bytes read is =
      let a = bind_ok (tokens_of bytes) then_keyword read is in
      let b = bind_ok (keyword_at a.0) (then_line a.0) read a.2 in
      let s = bind_ok (can_stand b.0.0 context) (λ here. then_last a.0 b.0) read b.2 in
      let l = bind_ok (line_behind defs b.0.0 b.0.1)
      (λ said. if are_known defs a.0 then Ok (b.0.0, said) else Err UnknownName) read s.2 in
      let known = guard_ok (are_known defs a.0) (b.0.0, l.0) read UnknownName l.2 in
      let stood = is_some_there (stands number b.0.0 context)
      (sym (any_number number b.0.0 context) ∙ (guard_ok (is_some (stands 0 b.0.0 context)) tt s.0 Syntax s.1).0) in
      let goes = line_goes number b.0.0 l.0 context stood.0 (has_ok (IsOf b.0.0) _ l.0 (line_has defs b.0.0 b.0.1) l.1)
      stood.1 in
      let whole : statement_in defs number context bytes ≡ Ok (record {
        said = l.0 ∷ [];
        context =
            context_behind number l.0 context;
      }) =
      statement_good number bytes a.0 b.0 stood.0 l.0 a.1 b.1 stood.1 l.1 known.0 ∙ ap
      (λ (next : Context). Ok (record { said = l.0 ∷ []; context = next })) goes.1 in
      subst (λ (x : Keyword × Line). Follows x.1 context
      × (statement_in defs number context bytes ≡ Ok
      (record { said = x.1 ∷ []; context = context_behind number x.1 context }))) known.1 (goes.0, whole)

  refused : (number : ℕ) (bytes : List ℕ) (e : LineFault) → said_in defs context bytes ≡ Err e
      → statement_in defs number context bytes ≡ Err e
  unfolding said_in statement_in
  refused number bytes e is =
      ⊎_elim
      (λ t. rw t refl)
      (λ a. ⊎_elim
      (λ t. rw (a.1, t) refl)
      (λ b. ⊎_elim
      (λ t.
      let stood = guard_err (is_some (stands 0 b.0.0 context)) tt Syntax e t in
      let nothing = not_there (stands number b.0.0 context) (sym (any_number number b.0.0 context) ∙ stood.0) in
      rw (a.1, b.1, nothing) (ap (λ (c : LineFault). Err c) stood.1))
      (λ s.
      let stood = is_some_there (stands number b.0.0 context)
      (sym (any_number number b.0.0 context) ∙ (guard_ok (is_some (stands 0 b.0.0 context)) tt s.0 Syntax s.1).0) in
      ⊎_elim
      (λ t. rw (a.1, b.1, stood.1, t) refl)
      (λ l.
      let unknown = guard_err (are_known defs a.0) (b.0.0, l.0) UnknownName e l.2 in
      rw (a.1, b.1, stood.1, l.1, unknown.0) (ap (λ (c : LineFault). Err c) unknown.1))
      (bind_err (line_behind defs b.0.0 b.0.1) (λ said. if are_known defs a.0 then Ok (b.0.0, said) else Err
      UnknownName) e s.2))
      (bind_err (can_stand b.0.0 context) (λ here. then_last a.0 b.0) e b.2))
      (bind_err (keyword_at a.0) (then_line a.0) e a.2))
      (bind_err (tokens_of bytes) then_keyword e is)

  pub line_reads : (number : ℕ) (bytes : List ℕ) (read : Keyword × Line) → list_all is_ascii bytes ≡ true
      → is_skipped bytes ≡ false → said_in defs context bytes ≡ Ok read
      → line_in defs number context bytes ≡ Ok (record
      { said = read.1 ∷ []; context = context_behind number read.1 context })
  unfolding line_in
  line_reads number bytes read ascii some is = rw (ascii, some) (said_reads number bytes read is).1

  pub line_skips : (number : ℕ) (bytes : List ℕ) → list_all is_ascii bytes ≡ true → is_skipped bytes ≡ true
      → line_in defs number context bytes ≡ Ok (record { said = []; context = context })
  unfolding line_in
  line_skips number bytes ascii skip = rw (ascii, skip) refl

  pub line_foreign : (number : ℕ) (bytes : List ℕ) → list_all is_ascii bytes ≡ false
      → line_in defs number context bytes ≡ Err Syntax
  unfolding line_in
  line_foreign number bytes foreign = rw foreign refl

  pub line_fails : (e : LineFault) (number : ℕ) (bytes : List ℕ) → list_all is_ascii bytes ≡ true
      → is_skipped bytes ≡ false → (e ≢ Memory → said_in defs context bytes ≡ Err e)
      → e ≢ Memory → line_in defs number context bytes ≡ Err e
  unfolding line_in
  line_fails e number bytes ascii some is other = rw (ascii, some) (refused number bytes e (is other))
