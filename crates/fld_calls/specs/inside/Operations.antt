-- The bytes of the operations.
use Rattle.std.specs.Prelude.{ℕ}
use Rattle.fld_calls.specs.declared.operation.Operation.{Operation}
use Rattle.fld_calls.specs.declared.operation.Operation.TheVariants as operation
use Rattle.fld_calls.specs.declared.operation.Verify.{Verify}
use Rattle.fld_calls.specs.declared.operation.Verify.TheVariants as verify
use Rattle.fld_calls.specs.declared.operation.Sum.{Sum}
use Rattle.fld_calls.specs.declared.operation.Sum.TheVariants as sum

-- E, G, H, L, M and N
abbrev pub verify_byte : Verify → ℕ
verify_byte verify.Equal = 69
verify_byte verify.Greater = 71
verify_byte verify.GreaterOrEqual = 72
verify_byte verify.Less = 76
verify_byte verify.LessOrEqual = 77
verify_byte verify.NotEqual = 78

-- `+` and `-`
abbrev pub sum_byte : Sum → ℕ
sum_byte sum.Add = 43
sum_byte sum.Subtract = 45

-- and `=`
abbrev pub byte_of : Operation → ℕ
byte_of (operation.Verify v) = verify_byte v
byte_of (operation.Sum s) = sum_byte s
byte_of operation.Put = 61
