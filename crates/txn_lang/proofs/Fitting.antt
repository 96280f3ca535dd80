-- Scripts that were read call what is defined, and none costs too much.
use Rattle.std.proofs.Common.{◌≡◌, refl, sym, ap, subst, ◌∙◌, arith, ℕ, zero, suc, ◌+◌, ◌-◌, ◌≤◌, ◌<◌, List, [], ◌∷◌, ◌++◌, length, map, Bool, true, false, ◌&&◌, if◌then◌else◌, Option, Some, None, Result, Ok, Err, slice_get}
use Rattle.std.specs.Prelude.{nat_lt, nat_le, position, ok_or, is_some, min, not}
use Rattle.std.specs.List.{AllByRecursion, list_all}
use Rattle.std.proofs.lemmas.Bool.{and_parts}
use Rattle.std.proofs.lemmas.Bool.Decides.{nat_tests}
use Rattle.std.proofs.lemmas.List.Quantifiers.{position-Some}
use Rattle.fp_model.specs.declared.name.Name.{Name}
use Rattle.fp_model.specs.declared.definitions.Defs.{Defs}
use Rattle.fp_model.specs.declared.definitions.DedbDef.{DedbDef}
use Rattle.fp_model.specs.declared.definitions.MsdbDef.{MsdbDef}
use Rattle.fp_model.specs.declared.scripts.Operand.{Operand}
use Rattle.fp_model.specs.declared.scripts.Operation.{Operation}
use Rattle.fp_model.specs.declared.scripts.Comparison.{Comparison}
use Rattle.fp_model.specs.declared.scripts.Script.{Script}
use Rattle.fp_model.specs.declared.scripts.Statement.{Statement, roll-Statement, map-Statement}
use Rattle.fp_model.specs.declared.scripts.Statement.TheOpen.{Statement-F}
use Rattle.fp_model.specs.declared.scripts.Statement.TheOpen as statement
use Rattle.fp_model.specs.declared.scripts.Statement.TheFolds.{fold-Statement, fold-roll-Statement}
use Rattle.fp_model.specs.FitCalls.{are_fit, fits_step, is_some_few}
use Rattle.txn_lang.specs.declared.line.Line.{Line}
use Rattle.txn_lang.specs.declared.line.Line.TheVariants as line
use Rattle.fp_model.specs.declared.calls.Get.{Get}
use Rattle.fp_model.specs.declared.scripts.FsaText.{FsaText}
use Rattle.fp_model.specs.Messages.{lines_of}
use Rattle.fp_model.specs.Asking.{cost, full_cost, script_of}
use Rattle.txn_lang.specs.declared.fault.ScriptFault.{ScriptFault}
use Rattle.txn_lang.specs.declared.fault.ScriptFault.TheVariants as fault
use Rattle.txn_tokens.specs.declared.fault.LineFault.TheVariants.{Syntax, UnknownName}
use Rattle.txn_lang.specs.declared.line.Keyword.{Keyword}
use Rattle.txn_lang.specs.declared.line.Keyword.TheVariants as keyword
use Rattle.txn_tokens.specs.declared.token.Token.{Token}
use Rattle.txn_tokens.specs.Readings.{Reading, all_by, ended}
use Rattle.fp_model.specs.Readings.{◌>>=◌}
use Rattle.txn_tokens.specs.Tokens.{run, behind as left_behind, tokens_of}
use Rattle.txn_tokens.specs.Parts.{word_at, variable_at, operand_at, comparison_at, count_at, key_at, operands_in, ssas_in, fsa_at, fsas_in, fields_in, one_to_255}
use Rattle.txn_tokens.specs.Lookups.{are_known, db_of, dedb_ssas, get_ssas, has_name, is_msdb, isrt_fields, isrt_ssas, segment_of, types_of}
use Rattle.txn_tokens.proofs.LookupLemmas.{either_place, db_by_lists}
use Rattle.txn_lang.specs.Suiting.{all_suit, has_types, is_defined, names_new, suits_step}
use Rattle.txn_tokens.specs.declared.written.WrittenSsa.{WrittenSsa}
use Rattle.fp_model.specs.Calls.{OnMsdb, OnDedb, Nowhere, dedb_target, target_of}
use Rattle.fp_model.specs.declared.definitions.Kind.TheVariants.{Fold}
use Rattle.fp_model.specs.declared.definitions.SegDef.{SegDef}
use Rattle.fp_model.specs.declared.scripts.SsaText.{SsaText}
use Rattle.std.specs.Option.{option_map_or, option_or}
use Rattle.txn_lang.specs.Statements.{alone, dlet_line, fld_line, get_line, if_line, is_before_fields, isrt_line, keyword_at, line_behind, repl_line, set_line, set_rest, whole}
use Rattle.txn_lang.specs.Grammar.{AreScriptsOf, Read, is_ascii, is_skipped, line_in, lines_in, numbered, script_fault, scripts_fault, statement_in}
use Rattle.txn_lang.specs.inside.Building.{fault_of_script}
use Rattle.txn_lang.proofs.TextLemmas.{and_then, in_front}
use Rattle.txn_lang.specs.Blocks.{Context, at_top, stands, choice, loop, AreStatements, none, one, if_end, if_else_end, repeat_end, AreScripts, no_script, script}
use Rattle.std.proofs.lemmas.Option.{slice_get_past}
use Rattle.plain_laws.proofs.Places.{get_there}

-- how one statement is judged: blocks by all in them, and what is no call isn't looked at
pub record Judges (step : Statement-F Bool → Bool) : Type 0 where
  pub choice : (left : Operand) (comparison : Comparison) (right : Operand) (taken otherwise : List Bool)
      → step (statement.If left comparison right taken otherwise)
      ≡ (list_all (λ (b : Bool). b) taken && list_all (λ (b : Bool). b) otherwise)
  pub loop : (times : ℕ) (body : List Bool) → step (statement.Repeat times body) ≡ list_all (λ (b : Bool). b) body
  pub sets : (variable : Name) (first : Operand) (rest : Option (Operation × Operand))
      → step (statement.Set variable first rest) ≡ true
  pub breaks : step statement.Break ≡ true
  pub replies : (operands : List Operand) → step (statement.Reply operands) ≡ true
  pub rolls : (code : ℕ) → step (statement.Roll code) ≡ true

module _ (step : Statement-F Bool → Bool) (judges : Judges step) where
  abbrev judged : Statement → Bool
  judged = fold-Statement Bool step

  abbrev pub all_judged : List Statement → Bool
  all_judged ss = list_all judged ss

  -- a line whose statement, if it is one, fits
  abbrev pub LineFits : Line → Type 0
  LineFits (line.Whole s) = judged s ≡ true
  LineFits l = Unit {0}

  abbrev pub LinesFit : List Line → Type 0
  LinesFit lines = AllByRecursion LineFits lines

  -- ---- from lines to scripts

  -- parts of lines that fit do
  fit_parts : (a b : List Line) → LinesFit (a ++ b) → LinesFit a × LinesFit b
  fit_parts [] b h = (tt, h)
  fit_parts (l ∷ a) b h = let rest = fit_parts a b h.1 in ((h.0, rest.0), rest.1)

  -- a block in a statement
  block_fits : (ss : List Statement) → all_judged ss ≡ true
      → list_all (λ (b : Bool). b) (map (judged) ss) ≡ true
  block_fits [] h = refl
  block_fits (s ∷ ss) h = let p = and_parts (judged s) (all_judged ss) h in
      rw (p.0, block_fits ss p.1) refl

  both : (a b : Bool) → a ≡ true → b ≡ true → (a && b) ≡ true
  both a b h g = rw (h, g) refl

  choice_fits : (left : Operand) (comparison : Comparison) (right : Operand) (taken otherwise : List Statement)
      → all_judged taken ≡ true → all_judged otherwise ≡ true
      → judged (choice left comparison right taken otherwise) ≡ true
  choice_fits left comparison right taken otherwise h g =
      fold-roll-Statement Bool step (statement.If left comparison right taken otherwise)
      ∙ judges.choice left comparison right (map judged taken) (map judged otherwise)
      ∙ both _ _ (block_fits taken h) (block_fits otherwise g)

  loop_fits : (times : ℕ) (body : List Statement) → all_judged body ≡ true
      → judged (loop times body) ≡ true
  loop_fits times body h = fold-roll-Statement Bool step (statement.Repeat times body)
      ∙ judges.loop times (map judged body) ∙ block_fits body h

  statements_fit : {lines : List Line} {ss : List Statement} → AreStatements lines ss → LinesFit lines
      → all_judged ss ≡ true
  statements_fit none h = refl
  statements_fit (one s k) h = both _ _ h.0 (statements_fit k h.1)
  statements_fit (if_end left comparison right {a} {lines} {taken} {more} p k) h =
      let parts = fit_parts a (line.End ∷ lines) h.1 in
      both _ _ (choice_fits left comparison right taken [] (statements_fit p parts.0) refl) (statements_fit k parts.1.1)
  statements_fit (if_else_end left comparison right {a} {b} {lines} {taken} {otherwise} {more} p q k) h =
      let first = fit_parts (a ++ line.Else ∷ b) (line.End ∷ lines) h.1 in
      let second = fit_parts a (line.Else ∷ b) first.0 in
      both _ _ (choice_fits left comparison right taken otherwise (statements_fit p second.0)
      (statements_fit q second.1.1)) (statements_fit k first.1.1)
  statements_fit (repeat_end times {a} {lines} {body} {more} p k) h =
      let parts = fit_parts a (line.End ∷ lines) h.1 in
      both _ _ (loop_fits times body (statements_fit p parts.0)) (statements_fit k parts.1.1)

  scripts_fit : {lines : List Line} {scripts : List Script} → AreScripts lines scripts → LinesFit lines
      → AllByRecursion (λ (s : Script). all_judged s.statements ≡ true) scripts
  scripts_fit no_script h = tt
  scripts_fit (script name {a} {lines} {statements} {more} p k) h = let parts = fit_parts a lines h.1 in
      (statements_fit p parts.0, scripts_fit k parts.1)

-- ---- from a text to lines

-- what holds of what was read
abbrev Holds : {A E : Type 0} → (A → Type 0) → Result A E → Type 0
Holds P (Ok x) = P x
Holds P (Err e) = Unit {0}

-- of a part, and what is made of it
behind : {A B : Type 0} (P : B → Type 0) (r : Reading A) (f : A → Reading B) → ((x : A) → r ≡ Ok x → Holds P (f x))
    → Holds P (r >>= f)
behind P (Ok x) f h = h x refl
behind P (Err e) f h = tt

at_end : {X A : Type 0} (P : A → Type 0) (x : A) (xs : List X) → P x → Holds P (ended x xs)
at_end P x [] h = h
at_end P x (y ∷ ys) h = tt

-- 1 to 255
few_read : {A : Type 0} (xs ys : List A) → one_to_255 xs ≡ Ok ys → is_some_few ys ≡ true
few_read {A} xs ys e = either (nat_le 1 (length xs) && nat_le (length xs) 255) refl e
  where
    either : (b : Bool) → (nat_le 1 (length xs) && nat_le (length xs) 255) ≡ b
        → (if b then Ok xs else Err Syntax) ≡ Ok ys → is_some_few ys ≡ true
    either true is e = let same : xs ≡ ys = cc in subst (λ (zs : List A). is_some_few zs ≡ true) same is
    either false is e = absurd cc

few_behind : {A : Type 0} (r : Reading (List A)) (ys : List A) → (r >>= one_to_255) ≡ Ok ys → is_some_few ys ≡ true
few_behind (Ok xs) ys e = few_read xs ys e
few_behind (Err f) ys e = absurd cc

few_fsas : (tokens : List Token) (fsas : List FsaText) → fsas_in tokens ≡ Ok fsas → is_some_few fsas ≡ true
unfolding fsas_in
few_fsas tokens fsas e = few_behind (all_by fsa_at tokens) fsas e

-- lists of lines
joined_fit : (step : Statement-F Bool → Bool) (judges : Judges step) (a b : List Line) → LinesFit step judges a
    → LinesFit step judges b → LinesFit step judges (a ++ b)
joined_fit step judges [] b h g = g
joined_fit step judges (l ∷ a) b h g = (h.0, joined_fit step judges a b h.1 g)

module _ (step : Statement-F Bool → Bool) where
  rolled : (x : Statement-F Statement) → step (map-Statement _ _ (fold-Statement Bool step) x) ≡ true
      → fold-Statement Bool step (roll-Statement x) ≡ true
  rolled x h = fold-roll-Statement Bool step x ∙ h

-- lines of calls fit
record CallLinesFit (defs : Defs) (step : Statement-F Bool → Bool) (judges : Judges step) : Type 0 where
  get : (get : Get) (hold : Bool) (tokens : List Token) → Holds (LineFits step judges) (get_line defs get hold tokens)
  fld : (tokens : List Token) → Holds (LineFits step judges) (fld_line defs tokens)
  isrt : (tokens : List Token) → Holds (LineFits step judges) (isrt_line defs tokens)
  repl : (tokens : List Token) → Holds (LineFits step judges) (repl_line defs tokens)
  dlet : (tokens : List Token) → Holds (LineFits step judges) (dlet_line defs tokens)

module _ (defs : Defs) (step : Statement-F Bool → Bool) (judges : Judges step)
    (calls : CallLinesFit defs step judges) where
  plain_fits : (x : Statement-F Statement) (tokens : List Token)
      → step (map-Statement _ _ (fold-Statement Bool step) x) ≡ true
      → Holds (LineFits step judges) (ended (whole x) tokens)
  plain_fits x tokens h = at_end (LineFits step judges) (whole x) tokens (rolled step x h)

  set_fits : (tokens : List Token) → Holds (LineFits step judges) (set_line tokens)
  unfolding set_line
  set_fits tokens =
      behind (LineFits step judges) (variable_at tokens) _ (λ variable e1.
      behind (LineFits step judges) (operand_at variable.1) _ (λ first e2.
      behind (LineFits step judges) (set_rest first.1) _ (λ rest e3. rolled step (statement.Set variable.0 first.0 rest) (judges.sets variable.0 first.0 rest))))

  reply_fits : (tokens : List Token) → Holds (LineFits step judges)
      (operands_in tokens >>= λ operands. Ok (whole (statement.Reply operands)))
  reply_fits tokens = behind (LineFits step judges) (operands_in tokens) _
      (λ operands e1. rolled step (statement.Reply operands) (judges.replies operands))

  rolb_fits : (tokens : List Token) → Holds (LineFits step judges)
      (count_at 0 98 tokens >>= alone (λ code. whole (statement.Roll code)))
  rolb_fits tokens = behind (LineFits step judges) (count_at 0 98 tokens) _
      (λ code e1. plain_fits (statement.Roll code.0) code.1 (judges.rolls code.0))

  block_line_fits : (tokens : List Token) → Holds (LineFits step judges) (word_at tokens >>= alone line.Tran)
      × Holds (LineFits step judges) (if_line tokens)
      × Holds (LineFits step judges) (count_at 1 10000 tokens >>= alone line.Repeat)
  unfolding if_line
  block_line_fits tokens = (
    behind (LineFits step judges) (word_at tokens) _ (λ name e. at_end (LineFits step judges) (line.Tran name.0) name.1 tt),
    behind (LineFits step judges) (operand_at tokens) _ (λ left e1. behind (LineFits step judges) (comparison_at left.1) _
        (λ comparison e2. behind (LineFits step judges) (operand_at comparison.1) _
        (λ right e3. at_end (LineFits step judges) (line.If left.0 comparison.0 right.0) right.1 tt))),
    behind (LineFits step judges) (count_at 1 10000 tokens) _
        (λ times e. at_end (LineFits step judges) (line.Repeat times.0) times.1 tt),
  )

  -- what a line says
  line_fits : (k : Keyword) (tokens : List Token) → Holds (LineFits step judges) (line_behind defs k tokens)
  unfolding line_behind
  line_fits keyword.Tran tokens = (block_line_fits tokens).0
  line_fits keyword.Set tokens = set_fits tokens
  line_fits keyword.If tokens = (block_line_fits tokens).1
  line_fits keyword.Else tokens = at_end (LineFits step judges) line.Else tokens tt
  line_fits keyword.End tokens = at_end (LineFits step judges) line.End tokens tt
  line_fits keyword.Repeat tokens = (block_line_fits tokens).2
  line_fits keyword.Break tokens = plain_fits statement.Break tokens judges.breaks
  line_fits keyword.Reply tokens = reply_fits tokens
  line_fits keyword.Rolb tokens = rolb_fits tokens
  line_fits (keyword.Get get hold) tokens = calls.get get hold tokens
  line_fits keyword.Fld tokens = calls.fld tokens
  line_fits keyword.Isrt tokens = calls.isrt tokens
  line_fits keyword.Repl tokens = calls.repl tokens
  line_fits keyword.Dlet tokens = calls.dlet tokens

  abbrev ReadFits : Read → Type 0
  ReadFits read = LinesFit step judges read.said

  known : (b : Bool) (l : Line) (next : Context) → LineFits step judges l
      → Holds ReadFits (if b then Ok (record { said = l ∷ []; context = next }) else Err UnknownName)
  known true l next h = (h, tt)
  known false l next h = tt

  of_line : {r : Reading Line} {l : Line} → Holds (LineFits step judges) r → r ≡ Ok l → LineFits step judges l
  of_line {r} {l} h e = subst (Holds (LineFits step judges)) e h

  statement_fits : (number : ℕ) (context : Context) (bytes : List ℕ)
      → Holds ReadFits (statement_in defs number context bytes)
  unfolding statement_in
  statement_fits number context bytes =
      behind ReadFits (tokens_of bytes) _ (λ tokens e1.
      behind ReadFits (keyword_at tokens) _ (λ k e2.
      behind ReadFits (ok_or (stands number k.0 context) Syntax) _ (λ next e3.
      behind ReadFits (line_behind defs k.0 k.1) _ (λ said e4. known (are_known defs tokens) said next
      (of_line (line_fits k.0 k.1) e4)))))

  one_of : (a b : Bool) (context : Context) (r : Reading Read) → Holds ReadFits r
      → Holds ReadFits (if a then Err Syntax else (if b then Ok (record { said = []; context = context }) else r))
  one_of true b context r h = tt
  one_of false true context r h = tt
  one_of false false context r h = h

  any_line_fits : (number : ℕ) (context : Context) (bytes : List ℕ) → Holds ReadFits (line_in defs number context bytes)
  unfolding line_in
  any_line_fits number context bytes = one_of (not (list_all is_ascii bytes)) (is_skipped bytes) context
      (statement_in defs number context bytes) (statement_fits number context bytes)

  numbered_fits : (number : ℕ) (r : Reading Read) → Holds ReadFits r → Holds ReadFits (numbered number r)
  numbered_fits number (Ok read) h = h
  numbered_fits number (Err e) h = tt

  front_fits : (said : List Line) (r : Result Read ScriptFault) → LinesFit step judges said → Holds ReadFits r
      → Holds ReadFits (in_front said r)
  front_fits said (Ok read) h g = joined_fit step judges said read.said h g
  front_fits said (Err e) h g = tt

  more_fit : (r : Result Read ScriptFault) (f : Context → Result Read ScriptFault) → Holds ReadFits r
      → ((context : Context) → Holds ReadFits (f context)) → Holds ReadFits (and_then r f)
  more_fit (Ok read) f h g = front_fits read.said (f read.context) h (g read.context)
  more_fit (Err e) f h g = tt

  all_lines_fit : (number : ℕ) (context : Context) (lines : List (List ℕ))
      → Holds ReadFits (lines_in defs number context lines)
  unfolding lines_in
  all_lines_fit number context [] = tt
  all_lines_fit number context (bytes ∷ more) =
      more_fit (numbered number (line_in defs number context bytes)) (λ next. lines_in defs (number + 1) next more)
      (numbered_fits number (line_in defs number context bytes) (any_line_fits number context bytes))
      (λ next. all_lines_fit (number + 1) next more)

  read_fits : (text : List ℕ) (scripts : List Script) → AreScriptsOf defs text scripts
      → AllByRecursion (λ (s : Script). all_judged step judges s.statements ≡ true) scripts
  read_fits text scripts h = scripts_fit step judges h.written.shape
      (subst (Holds ReadFits) h.written.lines (all_lines_fit 1 at_top (lines_of text)))

-- ---- main storage databases alone

pub fits_judges : (defs : Defs) → Judges (fits_step defs)
fits_judges defs = record {
  choice = λ left comparison right taken otherwise. refl;
  loop = λ times body. refl;
  sets = λ variable first rest. refl;
  breaks = refl;
  replies = λ operands. refl;
  rolls = λ code. refl;
}

module _ (defs : Defs) (no_dedbs : defs.dedbs ≡ []) where
  -- a name of a database is that of a main storage database
  named : (o : Option ℕ) (db : ℕ) (name : Name) → position (λ def. has_name name def.name) defs.msdbs ≡ o
      → ok_or (either_place o None (length defs.msdbs)) UnknownName ≡ Ok db → nat_lt db (length defs.msdbs) ≡ true
  named None db name e f = absurd cc
  named (Some place) db name e f =
      let found = position-Some (λ (def : MsdbDef). has_name name def.name) defs.msdbs place nothing e in
      let same : place ≡ db = cc in
      let within = found.0 in
      subst (λ (n : ℕ). nat_lt n (length defs.msdbs) ≡ true) same (grind (arith, nat_tests, within))
    where
      nothing : MsdbDef
      nothing = record { name = name; dynamic = false; fields = []; length = 0; load = [] }

  is_known_db : (name : Name) (db : ℕ) → db_of defs name ≡ Ok db → nat_lt db (length defs.msdbs) ≡ true
  is_known_db name db e =
      let read : ok_or (either_place (position (λ def. has_name name def.name) defs.msdbs)
      (position (λ def. has_name name def.name) defs.dedbs) (length defs.msdbs)) UnknownName ≡ Ok db =
      sym (db_by_lists defs name) ∙ e in
      named (position (λ def. has_name name def.name) defs.msdbs) db name refl (rw no_dedbs at read)

  get_fits : (get : Get) (hold : Bool) (tokens : List Token) → Holds (LineFits (fits_step defs) (fits_judges defs)) (get_line defs get hold tokens)
  unfolding get_line
  get_fits get hold tokens =
      behind (LineFits (fits_step defs) (fits_judges defs)) (word_at tokens) _ (λ database e1.
      behind (LineFits (fits_step defs) (fits_judges defs)) (ssas_in database.1) _ (λ written e2.
      behind (LineFits (fits_step defs) (fits_judges defs)) (db_of defs database.0) _ (λ db e3.
      behind (LineFits (fits_step defs) (fits_judges defs)) (get_ssas defs db written) _
      (λ ssas e4. rolled (fits_step defs) (statement.Get get hold db ssas) (is_known_db database.0 db e3)))))

  fld_fits : (tokens : List Token) → Holds (LineFits (fits_step defs) (fits_judges defs)) (fld_line defs tokens)
  unfolding fld_line
  fld_fits tokens =
      behind (LineFits (fits_step defs) (fits_judges defs)) (word_at tokens) _ (λ database e1.
      behind (LineFits (fits_step defs) (fits_judges defs)) (key_at database.1) _ (λ key e2.
      behind (LineFits (fits_step defs) (fits_judges defs)) (fsas_in key.1) _ (λ fsas e3.
      behind (LineFits (fits_step defs) (fits_judges defs)) (db_of defs database.0) _
      (λ db e4. rolled (fits_step defs) (statement.Fld db key.0 fsas)
      (both (fits_step defs) (fits_judges defs) _ _ (is_known_db database.0 db e4) (few_fsas key.1 fsas e3))))))

  isrt_fits : (tokens : List Token) → Holds (LineFits (fits_step defs) (fits_judges defs)) (isrt_line defs tokens)
  unfolding isrt_line
  isrt_fits tokens =
      behind (LineFits (fits_step defs) (fits_judges defs)) (word_at tokens) _ (λ database e1.
      behind (LineFits (fits_step defs) (fits_judges defs)) (ssas_in (run is_before_fields database.1)) _ (λ written e2.
      behind (LineFits (fits_step defs) (fits_judges defs)) (fields_in (left_behind is_before_fields database.1)) _ (λ given e3.
      behind (LineFits (fits_step defs) (fits_judges defs)) (db_of defs database.0) _ (λ db e4.
      behind (LineFits (fits_step defs) (fits_judges defs)) (isrt_ssas defs db written) _ (λ ssas e5.
      behind (LineFits (fits_step defs) (fits_judges defs)) (isrt_fields defs db ssas given) _
      (λ fields e6. rolled (fits_step defs) (statement.Isrt db ssas fields) (is_known_db database.0 db e4)))))))

  repl_fits : (tokens : List Token) → Holds (LineFits (fits_step defs) (fits_judges defs)) (repl_line defs tokens)
  unfolding repl_line
  repl_fits tokens =
      behind (LineFits (fits_step defs) (fits_judges defs)) (word_at tokens) _ (λ database e1.
      behind (LineFits (fits_step defs) (fits_judges defs)) (fields_in database.1) _ (λ fields e2.
      behind (LineFits (fits_step defs) (fits_judges defs)) (db_of defs database.0) _
      (λ db e3. rolled (fits_step defs) (statement.Repl db fields) (is_known_db database.0 db e3))))

  dlet_fits : (tokens : List Token) → Holds (LineFits (fits_step defs) (fits_judges defs)) (dlet_line defs tokens)
  unfolding dlet_line
  dlet_fits tokens =
      behind (LineFits (fits_step defs) (fits_judges defs)) (word_at tokens) _ (λ database e1.
      behind (LineFits (fits_step defs) (fits_judges defs)) (ended database.0 database.1) _ (λ name e2.
      behind (LineFits (fits_step defs) (fits_judges defs)) (db_of defs name) _ (λ db e3. rolled (fits_step defs) (statement.Dlet db) (is_known_db name db e3))))

  call_lines_fit : CallLinesFit defs (fits_step defs) (fits_judges defs)
  call_lines_fit = record { get = get_fits; fld = fld_fits; isrt = isrt_fits; repl = repl_fits; dlet = dlet_fits }

  -- What was read calls what is defined.
  pub what_was_read_fits : (text : List ℕ) (scripts : List Script) → AreScriptsOf defs text scripts
      → AllByRecursion (λ (s : Script). are_fit defs s.statements ≡ true) scripts
  what_was_read_fits text scripts h = read_fits defs (fits_step defs) (fits_judges defs) call_lines_fit text scripts h

-- ---- every database

pub suits_judges : (defs : Defs) → Judges (suits_step defs)
suits_judges defs = record {
  choice = λ left comparison right taken otherwise. refl;
  loop = λ times body. refl;
  sets = λ variable first rest. refl;
  breaks = refl;
  replies = λ operands. refl;
  rolls = λ code. refl;
}

-- what a part that was read was made of
parts_of : {A B : Type 0} (r : Reading A) (f : A → Reading B) (y : B) → (r >>= f) ≡ Ok y
    → (x : A) × (r ≡ Ok x) × (f x ≡ Ok y)
parts_of (Ok x) f y e = (x, refl, e)
parts_of (Err e) f y is = absurd cc

-- a segment type that is named is one of these
type_within : (types : List SegDef) (name : Name) (segment : ℕ) → segment_of types name ≡ Ok segment
    → segment < length types
type_within types name segment e = by (position (λ def. has_name name def.name) types) refl e
  where
    nothing : SegDef
    nothing = record { name = name; parent = None; sequential = false; fields = []; length = 0 }

    by : (o : Option ℕ) → position (λ (def : SegDef). has_name name def.name) types ≡ o → ok_or o UnknownName ≡ Ok segment
        → segment < length types
    by None is f = absurd cc
    by (Some place) is f =
        let found = position-Some (λ (def : SegDef). has_name name def.name) types place nothing is in
        let same : place ≡ segment = cc in
        let within = found.0 in
        subst (λ (n : ℕ). n < length types) same within

named_types : (types : List SegDef) (written : List WrittenSsa) (ssas : List SsaText) → dedb_ssas types written ≡ Ok ssas
    → list_all (λ (ssa : SsaText). nat_lt ssa.segment (length types)) ssas ≡ true
unfolding dedb_ssas
named_types types [] ssas e =
    let same : [] ≡ ssas = cc in
    subst (λ (l : List SsaText). list_all (λ (ssa : SsaText). nat_lt ssa.segment (length types)) l ≡ true) same refl
named_types types (w ∷ ws) ssas e =
    let first = parts_of (segment_of types w.name) _ ssas e in
    let others = parts_of (dedb_ssas types ws) _ ssas first.2 in
    let same : record { segment = first.0; key = w.key } ∷ others.0 ≡ ssas = let is = others.2 in cc in
    let within = type_within types w.name first.0 first.1 in
    let less : nat_lt first.0 (length types) ≡ true = grind (arith, nat_tests, within) in
    subst (λ (l : List SsaText). list_all (λ (ssa : SsaText). nat_lt ssa.segment (length types)) l ≡ true) same
    (both_true less (named_types types ws others.0 others.1))
  where
    both_true : {a b : Bool} → a ≡ true → b ≡ true → (a && b) ≡ true
    both_true h g = rw (h, g) refl

-- as many search arguments as were written
named_count : (types : List SegDef) (written : List WrittenSsa) (ssas : List SsaText)
    → dedb_ssas types written ≡ Ok ssas → length ssas ≡ length written
unfolding dedb_ssas
named_count types [] ssas e = let same : [] ≡ ssas = cc in sym (ap length same)
named_count types (w ∷ ws) ssas e =
    let first = parts_of (segment_of types w.name) _ ssas e in
    let others = parts_of (dedb_ssas types ws) _ ssas first.2 in
    let same : record { segment = first.0; key = w.key } ∷ others.0 ≡ ssas = let is = others.2 in cc in
    sym (ap length same) ∙ ap suc (named_count types ws others.0 others.1)

module _ (defs : Defs) where
  -- a database that is defined, of the one kind or of the other
  data Kind_of (db : ℕ) : Type 0 where
    is_main : (def : MsdbDef) → is_msdb defs db ≡ true → target_of defs db ≡ OnMsdb def db → Kind_of db
    is_entry : (def : DedbDef) → is_msdb defs db ≡ false → types_of defs db ≡ def.segments
        → target_of defs db ≡ OnDedb def (db - length defs.msdbs)
        → Kind_of db

  kind_of : (db : ℕ) → db < length defs.msdbs + length defs.dedbs → Kind_of db
  kind_of db less = by (nat_lt db (length defs.msdbs)) refl
    where
      main : db < length defs.msdbs → Kind_of db
      main within =
          let found = get_there defs.msdbs db within in
          is_main found.0 (grind (arith, nat_tests, within))
          (ap (λ (o : Option MsdbDef). option_map_or (λ def. OnMsdb def db) o (dedb_target defs (db - length defs.msdbs)))
          found.1)

      entry : length defs.msdbs ≤ db → Kind_of db
      entry beyond =
          let found = get_there defs.dedbs (db - length defs.msdbs) (omega (arith, less, beyond)) in
          is_entry found.0 (grind (arith, nat_tests, beyond))
          (ap (λ (o : Option DedbDef). option_map_or (λ dedb. dedb.segments) o []) found.1)
          (ap (λ (o : Option MsdbDef). option_map_or (λ def. OnMsdb def db) o (dedb_target defs (db - length defs.msdbs)))
          (slice_get_past defs.msdbs db beyond)
          ∙ ap (λ (o : Option DedbDef). option_map_or (λ def. OnDedb def (db - length defs.msdbs)) o Nowhere) found.1)

      by : (b : Bool) → nat_lt db (length defs.msdbs) ≡ b → Kind_of db
      by true is = main (grind (arith, nat_tests, is))
      by false is = entry (grind (arith, nat_tests, is))

  -- a name of a database is that of one
  name_of : (name : Name) (db : ℕ) → db_of defs name ≡ Ok db → Kind_of db
  name_of name db e =
      by (position (λ def. has_name name def.name) defs.msdbs) (position (λ def. has_name name def.name) defs.dedbs) refl
      refl (sym (db_by_lists defs name) ∙ e)
    where
      no_main : MsdbDef
      no_main = record { name = name; dynamic = false; fields = []; length = 0; load = [] }

      no_entry : DedbDef
      no_entry = record { name = name; randomizer = Fold; ci = 0; segments = []; areas = [] }

      by : (o p : Option ℕ) → position (λ (def : MsdbDef). has_name name def.name) defs.msdbs ≡ o
          → position (λ (def : DedbDef). has_name name def.name) defs.dedbs ≡ p
          → ok_or (either_place o p (length defs.msdbs)) UnknownName ≡ Ok db
          → Kind_of db
      by (Some place) p is other f =
          let found = position-Some (λ (def : MsdbDef). has_name name def.name) defs.msdbs place no_main is in
          let same : place ≡ db = cc in
          let within = found.0 in
          kind_of db (omega (arith, same, within))
      by None (Some place) is other f =
          let found = position-Some (λ (def : DedbDef). has_name name def.name) defs.dedbs place no_entry other in
          let same : length defs.msdbs + place ≡ db = cc in
          let within = found.0 in
          kind_of db (omega (arith, same, within))
      by None None is other f = absurd cc

  defined : (db : ℕ) → Kind_of db → is_defined (target_of defs db) ≡ true
  defined db (is_main def is target) = ap is_defined target
  defined db (is_entry def is types target) = ap is_defined target

  get_has_types : (db : ℕ) (written : List WrittenSsa) (ssas : List SsaText) → Kind_of db
      → get_ssas defs db written ≡ Ok ssas → has_types (target_of defs db) ssas ≡ true
  unfolding get_ssas
  get_has_types db written ssas (is_main def is target) e = ap (λ t. has_types t ssas) target
  get_has_types db written ssas (is_entry def is types target) e =
      let read : dedb_ssas (types_of defs db) written ≡ Ok ssas = rw is at e in
      ap (λ t. has_types t ssas) target
      ∙ subst (λ (ts : List SegDef). list_all (λ (ssa : SsaText). nat_lt ssa.segment (length ts)) ssas ≡ true) types
      (named_types (types_of defs db) written ssas read)

  no_ok : (b : Bool) (ssas : List SsaText) → b ≡ false → (if b then Ok [] else Err Syntax) ≡ Ok ssas → ⊥
  no_ok true ssas is e = absurd cc
  no_ok false ssas is e = absurd cc

  some_ok : (b : Bool) (r : Reading (List SsaText)) (ssas : List SsaText) → b ≡ false
      → (if b then Err Syntax else r) ≡ Ok ssas → r ≡ Ok ssas
  some_ok true r ssas is e = absurd cc
  some_ok false r ssas is e = e

  -- on a data entry database there is one at least
  isrt_some : (db : ℕ) (written : List WrittenSsa) (ssas : List SsaText) → is_msdb defs db ≡ false
      → isrt_ssas defs db written ≡ Ok ssas
      → (1 ≤ length written) × (dedb_ssas (types_of defs db) written ≡ Ok ssas)
  unfolding isrt_ssas
  isrt_some db [] ssas is e = absurd (no_ok (is_msdb defs db) ssas is e)
  isrt_some db (w ∷ ws) ssas is e = (omega arith, some_ok (is_msdb defs db) _ ssas is e)

  isrt_suits : (db : ℕ) (written : List WrittenSsa) (ssas : List SsaText) → Kind_of db
      → isrt_ssas defs db written ≡ Ok ssas
      → (has_types (target_of defs db) ssas && names_new (target_of defs db) ssas) ≡ true
  isrt_suits db written ssas (is_main def is target) e = ap (λ t. has_types t ssas && names_new t ssas) target
  isrt_suits db written ssas (is_entry def is types target) e =
      let read = isrt_some db written ssas is e in
      let some = read.0 in
      let as_many = named_count (types_of defs db) written ssas read.1 in
      ap (λ t. has_types t ssas && names_new t ssas) target
      ∙ both (suits_step defs) (suits_judges defs) _ _
      (subst (λ (ts : List SegDef). list_all (λ (ssa : SsaText). nat_lt ssa.segment (length ts)) ssas ≡ true) types
      (named_types (types_of defs db) written ssas read.1))
      (grind (arith, nat_tests, some, as_many))

  abbrev Suits : Line → Type 0
  Suits = LineFits (suits_step defs) (suits_judges defs)

  call_lines_suit : CallLinesFit defs (suits_step defs) (suits_judges defs)
  unfolding get_line fld_line isrt_line repl_line dlet_line
  call_lines_suit = record {
    get = λ get hold tokens.
        behind Suits (word_at tokens) _ (λ database e1.
        behind Suits (ssas_in database.1) _ (λ written e2.
        behind Suits (db_of defs database.0) _ (λ db e3.
        behind Suits (get_ssas defs db written) _ (λ ssas e4.
        rolled (suits_step defs) (statement.Get get hold db ssas)
        (get_has_types db written ssas (name_of database.0 db e3) e4)))));
    fld = λ tokens.
        behind Suits (word_at tokens) _ (λ database e1.
        behind Suits (key_at database.1) _ (λ key e2.
        behind Suits (fsas_in key.1) _ (λ fsas e3.
        behind Suits (db_of defs database.0) _ (λ db e4.
        rolled (suits_step defs) (statement.Fld db key.0 fsas)
        (both (suits_step defs) (suits_judges defs) _ _ (defined db (name_of database.0 db e4))
        (few_fsas key.1 fsas e3))))));
    isrt = λ tokens.
        behind Suits (word_at tokens) _ (λ database e1.
        behind Suits (ssas_in (run is_before_fields database.1)) _ (λ written e2.
        behind Suits (fields_in (left_behind is_before_fields database.1)) _ (λ given e3.
        behind Suits (db_of defs database.0) _ (λ db e4.
        behind Suits (isrt_ssas defs db written) _ (λ ssas e5.
        behind Suits (isrt_fields defs db ssas given) _ (λ fields e6.
        rolled (suits_step defs) (statement.Isrt db ssas fields)
        (isrt_suits db written ssas (name_of database.0 db e4) e5)))))));
    repl = λ tokens.
        behind Suits (word_at tokens) _ (λ database e1.
        behind Suits (fields_in database.1) _ (λ fields e2.
        behind Suits (db_of defs database.0) _ (λ db e3.
        rolled (suits_step defs) (statement.Repl db fields) (defined db (name_of database.0 db e3)))));
    dlet = λ tokens.
        behind Suits (word_at tokens) _ (λ database e1.
        behind Suits (ended database.0 database.1) _ (λ name e2.
        behind Suits (db_of defs name) _ (λ db e3.
        rolled (suits_step defs) (statement.Dlet db) (defined db (name_of name db e3)))));
  }

  -- What was read suits its definitions.
  pub what_was_read_suits : (text : List ℕ) (scripts : List Script) → AreScriptsOf defs text scripts
      → AllByRecursion (λ (s : Script). all_suit defs s.statements ≡ true) scripts
  what_was_read_suits text scripts h =
      read_fits defs (suits_step defs) (suits_judges defs) call_lines_suit text scripts h

-- ---- costs

cheap_by : (seen : Bool) (s : Script) → fault_of_script seen s ≡ None → full_cost s.statements ≤ 10000
cheap_by true s e = absurd cc
cheap_by false s e = either (nat_lt 10000 (cost s.statements)) refl e
  where
    either : (b : Bool) → nat_lt 10000 (cost s.statements) ≡ b
        → (if b then Some (fault.TooDear s.name (cost s.statements)) else None) ≡ None → full_cost s.statements ≤ 10000
    either true is e = absurd cc
    either false is e = let small : min 1000000000 (full_cost s.statements) ≤ 10000 = grind (arith, nat_tests, is) in
        omega (arith, small)

none_later : (first later : Option ScriptFault) → option_or first later ≡ None → (first ≡ None) × (later ≡ None)
none_later None later e = (refl, e)
none_later (Some f) later e = absurd cc

pub all_are_cheap : (earlier scripts : List Script) → scripts_fault earlier scripts ≡ None
    → AllByRecursion (λ (s : Script). full_cost s.statements ≤ 10000) scripts
unfolding scripts_fault
all_are_cheap earlier [] e = tt
all_are_cheap earlier (s ∷ more) e =
    let parts = none_later (script_fault earlier s) (scripts_fault (earlier ++ s ∷ []) more) e in
    (cheap_by (is_some (script_of earlier s.name)) s parts.0, all_are_cheap (earlier ++ s ∷ []) more parts.1)
