-- The lines of a text one after another, and what they give together.
use Rattle.std.proofs.Common.{◌≡◌, ℕ, suc, ◌+◌, ◌≤◌, ◌<◌, List, [], ◌∷◌, ◌++◌, length, take, drop, Bool, true, false, cond, not, Result, Ok, Err, refl, sym, ap, ◌∙◌, append_assoc, arith}
use Rattle.std.specs.Prelude.{◌==◌, ◌≢◌}
use Rattle.std.specs.List.{slice_split, onto_first, position_or_len}
use Rattle.std.specs.Str.Lines.{lines_of_parts, strip_carriage_return}
use Rattle.std.proofs.lemmas.List.{append-nil}
use Rattle.std.proofs.lemmas.List.Splits.{slice_split_first}
use Rattle.std.proofs.lemmas.Bool.Decides.{nat_tests}
use Rattle.fp_model.specs.declared.definitions.Defs.{Defs}
use Rattle.fp_model.specs.Messages.{lines_of}
use Rattle.txn_tokens.specs.declared.fault.LineFault.{LineFault}
use Rattle.txn_tokens.specs.declared.fault.LineFault.TheVariants.{Syntax, UnknownName, Memory}
use Rattle.txn_lang.specs.declared.fault.ScriptFault.{ScriptFault}
use Rattle.txn_lang.specs.declared.line.Line.{Line}
use Rattle.txn_tokens.specs.Readings.{Reading}
use Rattle.fp_model.specs.Readings.{◌>>=◌}
use Rattle.txn_lang.specs.Blocks.{Context}
use Rattle.txn_lang.specs.Grammar.{Read, line_in, lines_in, at_line, numbered}
use Rattle.txn_lang.specs.Building.{Refuses}
use Rattle.model_laws.proofs.Lines.{is_newline, split_is_cons, lines_at}

-- ---- the first line of a text

-- up to a newline
pub lines_first : (text : List ℕ) (place : ℕ) → place < length text → position_or_len is_newline text ≡ place
    → lines_of text ≡ strip_carriage_return (take place text) ∷ lines_of (drop (place + 1) text)
lines_first text place lt at =
    let within : position_or_len is_newline text < length text = omega (arith, at) in
    let split = slice_split_first is_newline text 0 within in
    ap lines_of_parts split ∙ lines_at (take (position_or_len is_newline text) text)
    (slice_split is_newline (drop (position_or_len is_newline text + 1) text))
    (split_is_cons (drop (position_or_len is_newline text + 1) text))
    ∙ ap (λ (n : ℕ). strip_carriage_return (take n text) ∷ lines_of (drop (n + 1) text)) at

whole_by : (b : ℕ) (newline : Bool) (rest : ℕ) (bytes : List ℕ) (parts : List (List ℕ))
    → suc (length bytes) ≤ cond (not newline) (1 + rest) 0 → (length bytes ≤ rest → parts ≡ bytes ∷ [])
    → cond newline ([] ∷ parts) (onto_first b parts) ≡ (b ∷ bytes) ∷ []
whole_by b true rest bytes parts le is = absurd (omega arith)
whole_by b false rest bytes parts le is = let e : parts ≡ bytes ∷ [] = is (omega arith) in rw e refl

split_whole : (bytes : List ℕ) → length bytes ≤ position_or_len is_newline bytes
    → slice_split is_newline bytes ≡ bytes ∷ []
split_whole [] le = refl
split_whole (b ∷ bytes) le = whole_by b (is_newline b) (position_or_len is_newline bytes) bytes
    (slice_split is_newline bytes) le (split_whole bytes)

-- a last line without newline
pub lines_last : (text : List ℕ) → 0 < length text → length text ≤ position_or_len is_newline text
    → lines_of text ≡ text ∷ []
lines_last [] some le = absurd (omega arith)
lines_last (b ∷ bytes) some le =
    let no : (length (b ∷ bytes) == 0) ≡ false = grind (arith, nat_tests) in
    ap lines_of_parts (split_whole (b ∷ bytes) le) ∙ rw no refl

-- ---- what the lines give

-- lines that were read before
abbrev pub in_front : List Line → Result Read ScriptFault → Result Read ScriptFault
in_front said r = r >>= λ read. Ok (record read { said = said ++ read.said })

-- a line, and those behind it
abbrev pub and_then : Result Read ScriptFault → (Context → Result Read ScriptFault) → Result Read ScriptFault
and_then r f = r >>= λ read. in_front read.said (f read.context)

syntax_is_other : Syntax ≢ Memory
syntax_is_other same = absurd cc

unknown_is_other : UnknownName ≢ Memory
unknown_is_other same = absurd cc

module _ (defs : Defs) where
  abbrev then_lines : ℕ → List (List ℕ) → Context → Result Read ScriptFault
  then_lines number more next = lines_in defs (number + 1) next more

  front_more : (before said : List Line) (rest : Result Read ScriptFault)
      → in_front before (in_front said rest) ≡ in_front (before ++ said) rest
  front_more before said (Ok read) = ap (λ (all : List Line). Ok (record read { said = all }))
      (sym (append_assoc before said read.said))
  front_more before said (Err e) = refl

  -- a line was read
  pub line_more : (number : ℕ) (context next : Context) (before said : List Line) (bytes : List ℕ)
      (all more : List (List ℕ)) (total : Result Read ScriptFault)
      → all ≡ bytes ∷ more → line_in defs number context bytes ≡ Ok (record { said = said; context = next })
      → in_front before (lines_in defs number context all) ≡ total
      → in_front (before ++ said) (lines_in defs (number + 1) next more) ≡ total
  unfolding lines_in
  line_more number context next before said bytes all more total split is so_far =
      let one : in_front before (lines_in defs number context (bytes ∷ more)) ≡ in_front (before ++ said)
      (lines_in defs (number + 1) next more) =
      ap (λ (read : Reading Read). in_front before (and_then (numbered number read) (then_lines number more))) is ∙
      front_more before said (lines_in defs (number + 1) next more) in
      sym one ∙ ap (λ (lines : List (List ℕ)). in_front before (lines_in defs number context lines)) (sym split) ∙
      so_far

  line_stops : (number : ℕ) (context : Context) (before : List Line) (bytes : List ℕ) (all more : List (List ℕ))
      (e : LineFault) (total : Result Read ScriptFault)
      → all ≡ bytes ∷ more → line_in defs number context bytes ≡ Err e
      → in_front before (lines_in defs number context all) ≡ total → total ≡ Err (at_line number e)
  unfolding lines_in
  line_stops number context before bytes all more e total split is so_far =
      sym so_far ∙ ap (λ (lines : List (List ℕ)). in_front before (lines_in defs number context lines)) split
      ∙ ap (λ (read : Reading Read). in_front before (and_then (numbered number read) (then_lines number more))) is

  -- a line was refused
  pub line_refused : (e : LineFault) (number : ℕ) (context : Context) (before : List Line) (bytes : List ℕ)
      (all more : List (List ℕ)) (total : Result Read ScriptFault)
      → all ≡ bytes ∷ more → (e ≢ Memory → line_in defs number context bytes ≡ Err e)
      → in_front before (lines_in defs number context all) ≡ total
      → Refuses (at_line number e) (total ≡ Err (at_line number e))
  line_refused Memory number context before bytes all more total split is so_far = tt
  line_refused Syntax number context before bytes all more total split is so_far =
      line_stops number context before bytes all more Syntax total split (is syntax_is_other) so_far
  line_refused UnknownName number context before bytes all more total split is so_far =
      line_stops number context before bytes all more UnknownName total split (is unknown_is_other) so_far

  -- no line is left
  pub lines_done : (number : ℕ) (context : Context) (before : List Line) (all : List (List ℕ))
      (total : Result Read ScriptFault) → all ≡ []
      → in_front before (lines_in defs number context all) ≡ total
      → total ≡ Ok (record { said = before; context = context })
  unfolding lines_in
  lines_done number context before all total none so_far =
      sym so_far ∙ ap (λ (lines : List (List ℕ)). in_front before (lines_in defs number context lines)) none
      ∙ ap (λ (said : List Line). Ok (record { said = said; context = context })) (append-nil before)

pub front_nothing : (rest : Result Read ScriptFault) → in_front [] rest ≡ rest
front_nothing (Ok read) = refl
front_nothing (Err e) = refl
