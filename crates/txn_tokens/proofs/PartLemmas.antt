-- Each part of a statement takes some tokens.
use Rattle.std.proofs.Common.{ℕ, suc, ◌≤◌, ◌<◌, Bool, true, false, List, [], ◌∷◌, length, Ok, Err, arith, if◌then◌else◌}
use Rattle.std.specs.Prelude.{◌==◌, ◌||◌, slice_index}
use Rattle.txn_tokens.specs.declared.fault.LineFault.TheVariants.{Syntax}
use Rattle.txn_tokens.specs.declared.token.Token.TheVariants.{Word, Sign}
use Rattle.txn_tokens.specs.declared.token.Token.{Token}
use Rattle.txn_tokens.specs.Readings.{Reading}
use Rattle.fp_model.specs.Readings.{◌>>=◌}
use Rattle.txn_tokens.specs.Parts.{word_at, sign_at, operand_of, operand_at, bracket_at, begins_bracket, key_behind, ssa_at, fsa_op_at, fsa_at, field_at}
use Rattle.txn_tokens.proofs.ReadingLemmas.{IsShorter, Shrinks, shorter_if, shorter_bind, shorter_le}

-- a part, and then what stands behind it
shorter_seq : {X A B : Type 0} (n : ℕ) (r : Reading (B × List X)) (f : B × List X → Reading (A × List X))
    → IsShorter n r
    → ((x : B × List X) → length x.1 < n → IsShorter n (f x)) → IsShorter n (r >>= f)
shorter_seq n (Ok x) f h k = k x h
shorter_seq n (Err e) f h k = tt

word_shrinks : (tokens : List Token) → IsShorter (length tokens) (word_at tokens)
unfolding word_at
word_shrinks (Word name assigned ∷ ts) = omega arith
word_shrinks _ = tt

-- a sign stands before what is left
abbrev IsLess : ℕ → Reading (List Token) → Type 0
IsLess n (Ok rest) = length rest < n
IsLess n (Err e) = Unit {0}

sign_shrinks : (byte : ℕ) (tokens : List Token) → IsLess (length tokens) (sign_at byte tokens)
unfolding sign_at
sign_shrinks byte (Sign b ∷ ts) = by_test (b == byte)
  where
    by_test : (is : Bool) → IsLess (suc (length ts)) (if is then Ok ts else Err Syntax)
    by_test true = omega arith
    by_test false = tt
sign_shrinks byte _ = tt

-- a sign, and a part behind it
sign_seq : {A : Type 0} (n : ℕ) (r : Reading (List Token)) (f : List Token → Reading (A × List Token)) → IsLess n r
    → ((rest : List Token) → length rest < n → IsShorter n (f rest)) → IsShorter n (r >>= f)
sign_seq n (Ok rest) f h k = k rest h
sign_seq n (Err e) f h k = tt

pub operand_shrinks : Shrinks operand_at
unfolding operand_at
operand_shrinks [] = tt
operand_shrinks (t ∷ ts) = shorter_bind (suc (length ts)) (operand_of t) (λ operand. Ok (operand, ts))
    (λ operand is. omega arith)

op_shrinks : (tokens : List Token) → IsShorter (length tokens) (fsa_op_at tokens)
unfolding fsa_op_at
op_shrinks (Word name assigned ∷ ts) = shorter_if (suc (length ts)) (slice_index name.0 1 == 32) _ _
    (λ is. omega arith) (λ is. tt)
op_shrinks (Sign byte ∷ ts) = shorter_if (suc (length ts)) (byte == 43 || byte == 45 || byte == 61) _ _
    (λ is. omega arith) (λ is. tt)
op_shrinks _ = tt

less_le : (m n : ℕ) (r : Reading (List Token)) → m ≤ n → IsLess m r → IsLess n r
less_le m n (Ok rest) le h = omega arith
less_le m n (Err e) le h = tt

-- a sign and an operand
signed_operand : (byte n : ℕ) (tokens : List Token) → length tokens ≤ n
    → IsShorter n (sign_at byte tokens >>= operand_at)
signed_operand byte n tokens le =
    sign_seq n (sign_at byte tokens) operand_at (less_le (length tokens) n _ le (sign_shrinks byte tokens))
    (λ rest lt. shorter_le _ n _ (omega (arith, lt)) (operand_shrinks rest))

bracket_shrinks : (n : ℕ) (tokens : List Token) → length tokens ≤ n → IsShorter n (bracket_at tokens)
unfolding bracket_at
bracket_shrinks n tokens le =
    shorter_seq n (sign_at 40 tokens >>= operand_at) _ (signed_operand 40 n tokens le) (λ key lt.
    sign_seq n (sign_at 41 key.1) _ (less_le (length key.1) n _ (omega (arith, lt)) (sign_shrinks 41 key.1))
    (λ rest lt. lt))

key_shrinks : (n : ℕ) (tokens : List Token) → length tokens < n → IsShorter n (key_behind tokens)
unfolding key_behind
key_shrinks n tokens lt =
    shorter_if n (begins_bracket tokens) _ _
    (λ is. shorter_seq n (bracket_at tokens) _ (bracket_shrinks n tokens (omega arith)) (λ key lt. lt))
    (λ is. lt)

pub ssa_shrinks : Shrinks ssa_at
unfolding ssa_at
ssa_shrinks tokens =
    shorter_seq (length tokens) (word_at tokens) _ (word_shrinks tokens) (λ word lt.
    shorter_seq (length tokens) (key_behind word.1) _ (key_shrinks (length tokens) word.1 lt) (λ key lt. lt))

pub fsa_shrinks : Shrinks fsa_at
unfolding fsa_at
fsa_shrinks tokens =
    let n : ℕ = length tokens in
    shorter_seq n (word_at tokens) _ (word_shrinks tokens) (λ field lt.
    shorter_seq n (fsa_op_at field.1) _ (shorter_le _ n _ (omega arith) (op_shrinks field.1))
    (λ op lt.
    shorter_seq n (operand_at op.1) _ (shorter_le _ n _ (omega arith) (operand_shrinks op.1)) (λ operand lt. lt)))

pub field_shrinks : Shrinks field_at
unfolding field_at
field_shrinks tokens =
    let n : ℕ = length tokens in
    shorter_seq n (word_at tokens) _ (word_shrinks tokens) (λ field lt.
    shorter_seq n (sign_at 61 field.1 >>= operand_at) _ (signed_operand 61 n field.1 (omega (arith, lt)))
    (λ value lt. lt))
