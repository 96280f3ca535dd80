-- Intervals of a data set, and what a write of one leaves of the others.
use Rattle.std.proofs.Common.{◌≡◌, inl, inr, ℕ, ◌+◌, ◌*◌, ◌<◌, ◌≤◌, false, List, ◌++◌, length, get_or, drop, sym, ◌∙◌, arith}
use Rattle.std.proofs.Math.Nat.{mul-le-mul_left}
use Rattle.std.proofs.lemmas.List.{ext_get_or, length-take, length-append, length-replicate, get_or-take, get_or-drop}
use Rattle.std.proofs.lemmas.Bool.{cases_lt}
use Rattle.std.proofs.lemmas.Bool.Decides.{nat_tests}
use Rattle.fp_site.specs.Disk.{Broken, covers, read_range, written}
use Rattle.fp_site.specs.Written.{zeros, written_other}
use Rattle.fp_site.specs.inside.Written.{get_or-append_zeros}
use Rattle.plain_laws.proofs.Numbers.{apart}
use Rattle.fp_site.proofs.Ranges.{outside, read_same}

-- a write of an interval leaves each other one,
pub other_written : (size ci other : ℕ) (old bytes : List ℕ) → (other ≡ ci → ⊥) → length bytes ≡ size
    → read_range (written old (ci * size) bytes) (other * size) size ≡ read_range old (other * size) size
other_written size ci other old bytes ne long =
    read_same (written old (ci * size) bytes) old (other * size) size
    (λ i below. written_other old (ci * size) bytes (other * size + i)
    (elim (cases_lt other ci) [
      | inl lt ↦
          let e : (other + 1) * size ≤ ci * size = apart size other ci lt in
          let f : (other + 1) * size ≡ other * size + size = grind arith in
          inl (omega arith)
      | inr ge ↦
          let lt : ci < other = omega arith in
          let e : (ci + 1) * size ≤ other * size = apart size ci other lt in
          let f : (ci + 1) * size ≡ ci * size + size = grind arith in
          inr (omega arith)
    ]))

-- and so does one that failed
pub other_broken : (size ci other : ℕ) (old new : List ℕ) → (other ≡ ci → ⊥) → Broken (ci * size) size old new
    → read_range new (other * size) size ≡ read_range old (other * size) size
other_broken size ci other old new ne broken =
    read_same new old (other * size) size
    (λ i below. broken.others (other * size + i) (outside size ci other i ne below))
