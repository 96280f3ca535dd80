-- What bodies and proofs need of Reads, beside what contracts say.
use Rattle.std.specs.Prelude.{◌≡◌, ℕ, ◌+◌, ◌^◌, ◌<◌, ◌≤◌, List, ◌++◌, length, drop}
use Rattle.fp_model.specs.Spellings.{be64}

-- behind the gate at a place stands the length of a body that isn't empty and doesn't pass the end
pub record HasLength (bytes : List ℕ) (at size : ℕ) : Type 0 where
  pub some : 1 ≤ size
  pub small : size < 2 ^ 64
  pub text : drop (at + 1) bytes ≡ be64 size ++ drop (at + 9) bytes
  pub inside : at + 9 + size ≤ length bytes

-- behind the gate at a place stands this body, behind its length
pub record HasBody (bytes : List ℕ) (at : ℕ) (body : List ℕ) : Type 0 where
  pub some : 1 ≤ length body
  pub small : length body < 2 ^ 64
  pub text : drop (at + 1) bytes ≡ be64 (length body) ++ (body ++ drop (at + 9 + length body) bytes)
  pub inside : at + 9 + length body ≤ length bytes
