-- Of the code, not of the language: rows of `line_behind` for which the code has a function.
use Rattle.std.specs.Prelude.{List, Ok}
use Rattle.fp_model.specs.declared.scripts.Statement.TheOpen as statement
use Rattle.fp_model.specs.Readings.{◌>>=◌}
use Rattle.txn_tokens.specs.declared.token.Token.{Token}
use Rattle.txn_tokens.specs.Readings.{Reading}
use Rattle.txn_tokens.specs.Parts.{word_at, count_at, operands_in}
use Rattle.txn_lang.specs.declared.line.Line.{Line}
use Rattle.txn_lang.specs.declared.line.Line.TheVariants as line
use Rattle.txn_lang.specs.Statements.{whole, alone}

abbrev pub tran_line : List Token → Reading Line
tran_line tokens = word_at tokens >>= alone line.Tran

abbrev pub repeat_line : List Token → Reading Line
repeat_line tokens = count_at 1 10000 tokens >>= alone line.Repeat

abbrev pub reply_line : List Token → Reading Line
reply_line tokens = operands_in tokens >>= λ operands. Ok (whole (statement.Reply operands))

abbrev pub rolb_line : List Token → Reading Line
rolb_line tokens = count_at 0 98 tokens >>= alone (λ code. whole (statement.Roll code))
