-- Results that are an Err of one kind, and so of no other.
use Rattle.std.proofs.Common.{◌≡◌, refl}
use Rattle.std.specs.Prelude.{Result, Ok, Err, IsErrOf}
use Rattle.std.specs.Result.{IsErrAnd}
use Rattle.fp_source.specs.declared.whole_part.WholeFault.{WholeFault}
use Rattle.fp_source.specs.declared.whole_part.WholeFault.TheVariants as whole

-- want of memory
pub memory_not_long : {T : Type 0} (r : Result T WholeFault) → IsErrAnd r (λ e. e ≡ whole.Memory)
    → IsErrOf r whole.TooLong → ⊥
memory_not_long (Ok x) is e = is
memory_not_long (Err y) is e = absurd cc

pub memory_not_failed : {T : Type 0} (r : Result T WholeFault) → IsErrAnd r (λ e. e ≡ whole.Memory)
    → IsErrOf r whole.Failed → ⊥
memory_not_failed (Ok x) is e = is
memory_not_failed (Err y) is e = absurd cc

-- a read that failed
pub failed_not_long : {T : Type 0} (r : Result T WholeFault) → IsErrAnd r (λ e. e ≡ whole.Failed)
    → IsErrOf r whole.TooLong → ⊥
failed_not_long (Ok x) is e = is
failed_not_long (Err y) is e = absurd cc

pub failed_is : {T : Type 0} (r : Result T WholeFault) → IsErrAnd r (λ e. e ≡ whole.Failed) → IsErrOf r whole.Failed
failed_is (Ok x) is = absurd is
failed_is (Err y) is = cc
