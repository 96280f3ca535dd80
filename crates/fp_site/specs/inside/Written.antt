-- What bodies and proofs need of Written, beside what contracts say.
use Rattle.std.proofs.Common.{◌≡◌, ℕ, zero, suc, ◌+◌, ◌-◌, ◌≤◌, List, [], ◌∷◌, ◌++◌, length, get_or, take, drop, refl, arith}
use Rattle.fp_site.specs.Disk.{written}
use Rattle.fp_site.specs.Written.{zeros, get_or_zeros}

-- a write of some bytes, in one equation
pub written_some : (old : List ℕ) (at : ℕ) (bytes : List ℕ) → 1 ≤ length bytes
    → written old at bytes ≡ take at old ++ (zeros (at - length old) ++ (bytes ++ drop (at + length bytes) old))
written_some old at [] some = absurd (omega arith)
written_some old at (b ∷ bytes) some = refl

-- zeros behind a list read as what is past its end
pub get_or-append_zeros : (xs : List ℕ) (n k : ℕ) → get_or (xs ++ zeros n) k 0 ≡ get_or xs k 0
get_or-append_zeros [] n k = get_or_zeros n k
get_or-append_zeros (x ∷ xs) n zero = refl
get_or-append_zeros (x ∷ xs) n (suc k) = get_or-append_zeros xs n k
