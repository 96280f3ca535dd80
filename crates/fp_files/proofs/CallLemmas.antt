-- Lists of calls that grow.
use Rattle.std.proofs.Common.{◌≡◌, ◌∷◌, ◌<◌, ℕ, List, [], Some, length, refl, arith}
use Rattle.std.proofs.lemmas.Grind.{common_steps}
use Rattle.fp_files.specs.Calls.{HostCall, IsLonger, numbered}
use Rattle.fp_files.specs.inside.Calls.{OnlyReads}

-- what has a number was made
numbered_below : (calls : List HostCall) (n : ℕ) (call : HostCall) → numbered calls n ≡ Some call → n < length calls
numbered_below [] n call is = cc
numbered_below (first ∷ earlier) n call is = grind (arith, common_steps, numbered_below earlier n call)

-- a call that comes behind the others leaves their numbers
pub numbered_behind : (first : HostCall) (calls : List HostCall) (n : ℕ) (call : HostCall) → numbered calls n ≡ Some call
    → numbered (first ∷ calls) n ≡ Some call
numbered_behind first calls n call is =
    let below = numbered_below calls n call is in
    grind (arith, common_steps)

-- one call more
pub longer_by : (old new : List HostCall) (call : HostCall) → new ≡ call ∷ old → IsLonger old new
longer_by old new call is n one at = rw is (numbered_behind call old n one at)

-- where nothing is called
pub reads_none : (calls : List HostCall) → OnlyReads calls calls
reads_none calls = record {
  kept = λ n call is. is;
  synced = refl;
  owes = refl;
  named = refl;
  settled = refl;
  locked = refl;
  alone = refl;
  length = refl;
  writes = refl;
}
