-- The text of an operand, lent or made.
use Rattle.std.specs.Prelude.{ℕ, List}
use Rattle.txn_values.specs.declared.lent.OperandText.{OperandText}
use Rattle.txn_values.specs.declared.lent.OperandText.TheVariants as operand_text

-- its bytes
abbrev pub bytes_in : OperandText → List ℕ
bytes_in (operand_text.Lent bytes) = bytes.now
bytes_in (operand_text.Made bytes) = bytes
