-- The keys of a table as a map has them, and as its members have them.
use Rattle.std.proofs.Common.{◌≡◌, ℕ, ◌≤◌, List, [], ◌∷◌, Option, Some, None, Ok, Err, String, Global, string_bytes, Bool, true, false, cond, ◌&&◌, nat_le, ℤ, pos, negsuc, refl, arith}
use Rattle.std.proofs.lemmas.Bool.Decides.{nat_tests}
use Rattle.std.specs.Prelude.{if◌then◌else◌}
use Rattle.std.specs.Map.{keys_of}
use Rattle.toml.specs.View.{members_view}
use Rattle.toml.proofs.Views.{Entry}
use Rattle.def_tables.specs.declared.keys.Form.{Form}
use Rattle.def_tables.specs.declared.fault.DefsFault.{DefsFault}
use Rattle.def_tables.specs.declared.fault.DefsFault.TheVariants.{OutOfLimit}
use Rattle.def_tables.specs.Keys.{has_key, unknown_key, within}

-- the first of these keys that the form lacks
abbrev pub unknown_in : Form → List (String Global) → Option (List ℕ)
unknown_in form [] = None
unknown_in form (k ∷ ks) = if has_key form (string_bytes k) then unknown_in form ks else Some (string_bytes k)

pub unknown_key-members_view : (form : Form) (es : List Entry)
    → unknown_key form (members_view es) ≡ unknown_in form (keys_of es)
unknown_key-members_view form [] = refl
unknown_key-members_view form (e ∷ es) = rw (unknown_key-members_view form es)

pub from_test : (b : Bool) (n m : ℕ) (fault : DefsFault) → cond b (Ok n) (Err fault) ≡ Ok m → (b ≡ true) × (n ≡ m)
from_test true n m fault e = (refl, cc)
from_test false n m fault e = absurd (cc)

-- a number that is read is within its limits
pub within-ok : (key : List ℕ) (low high n m : ℕ) → within key low high (pos n) ≡ Ok m → (low ≤ n) × (n ≤ high)
    × (m ≡ n)
unfolding within
within-ok key low high n m e =
    let h = from_test (nat_le low n && nat_le n high) n m (OutOfLimit key (pos n)) e in
    let is : n ≡ m = h.1 in
    grind (arith, nat_tests, h.0)

pub within-any : (key : List ℕ) (low high : ℕ) (z : ℤ) (m : ℕ) → within key low high z ≡ Ok m → (low ≤ m) × (m ≤ high)
unfolding within
within-any key low high (pos n) m e =
    let h = from_test (nat_le low n && nat_le n high) n m (OutOfLimit key (pos n)) e in
    let is : n ≡ m = h.1 in
    grind (arith, nat_tests, h.0)
within-any key low high (negsuc n) m e = absurd (cc)
