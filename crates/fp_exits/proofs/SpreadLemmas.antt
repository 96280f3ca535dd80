-- A place that an exit gives is one of those that it was asked for.
use Rattle.std.proofs.Common.{◌≡◌, arith, ℕ, zero, suc, if◌then◌else◌, ◌<◌, ◌≤◌, ◌+◌, ◌*◌, ◌%◌, ◌/◌, ◌^◌, List, [], ◌∷◌, slice_index, filter, not, ◌==◌, Bool, true, false}
use Rattle.std.proofs.Math.Nat.{mul-lt-mul_of_pos_right}
use Rattle.std.specs.Prelude.{fold}
use Rattle.fp_model.specs.declared.definitions.Kind.{Kind}
use Rattle.fp_model.specs.declared.definitions.Kind.TheVariants.{Fold, Range}
use Rattle.fp_model.specs.Exits.{first_four, spread, route, name_text}
use Rattle.fp_model.specs.declared.name.Name.{Name}
use Rattle.fp_exits.specs.Ranges.{AreBytes}

-- a remainder is less than what divides
remainder_below : (x n : ℕ) → 1 ≤ n → x % n < n
remainder_below x n p = omega arith

-- folding stays below n
fold_below : (n acc : ℕ) (key : List ℕ) → 1 ≤ n → acc < n → fold (λ acc byte. (acc * 31 + byte) % n) acc key < n
fold_below n acc [] p q = q
fold_below n acc (b ∷ bs) p q = fold_below n ((acc * 31 + b) % n) bs p (remainder_below (acc * 31 + b) n p)

-- four bytes are a number below 2^32
first_four_below : (key : List ℕ) → AreBytes key → first_four key < 2 ^ 32
first_four_below key bytes =
    let a : slice_index key 0 < 256 = bytes 0 in
    let b : slice_index key 1 < 256 = bytes 1 in
    let c : slice_index key 2 < 256 = bytes 2 in
    let d : slice_index key 3 < 256 = bytes 3 in
    omega arith

-- a part of n
part_below : (x n : ℕ) → x < 2 ^ 32 → 1 ≤ n → x * n / 2 ^ 32 < n
part_below x n p q =
    let below : x * n < 2 ^ 32 * n = mul-lt-mul_of_pos_right p q in
    omega (arith, below)

-- a key has one of the places
spread_below : (kind : Kind) (n : ℕ) (key : List ℕ) → AreBytes key → 1 ≤ n → spread kind n key < n
spread_below Fold n key bytes some = fold_below n 0 key some some
spread_below Range n key bytes some = part_below (first_four key) n (first_four_below key bytes) some

kept_or_left_out : (keeps : Bool) (b : ℕ) (rest : List ℕ) → b < 256 → AreBytes rest
    → AreBytes (if keeps then b ∷ rest else rest)
kept_or_left_out true b rest is_byte bytes zero = is_byte
kept_or_left_out true b rest is_byte bytes (suc i) = bytes i
kept_or_left_out false b rest is_byte bytes i = bytes i

-- leaving some out leaves bytes
kept_bytes : (keeps : ℕ → Bool) (text : List ℕ) → AreBytes text → AreBytes (filter keeps text)
kept_bytes keeps [] bytes = bytes
kept_bytes keeps (b ∷ bs) bytes = kept_or_left_out (keeps b) b (filter keeps bs) (bytes 0)
    (kept_bytes keeps bs (λ i. bytes (suc i)))

-- what is the place of a key is one of the places
pub place_below : (kind : Kind) (n : ℕ) (key : List ℕ) (place : ℕ) → place ≡ spread kind n key → AreBytes key → 1 ≤ n
    → place < n
place_below kind n key place exact bytes some =
    let below : spread kind n key < n = spread_below kind n key bytes some in
    omega (arith, exact, below)

-- what is the group of a transaction is one of the groups
pub group_below : (kind : Kind) (n : ℕ) (tran : Name) (group : ℕ) → group ≡ route kind n tran → AreBytes tran.0 → 1 ≤ n
    → group < n
group_below kind n tran group exact bytes some =
    place_below kind n (name_text tran) group exact (kept_bytes (λ b. not (b == 32)) tran.0 bytes) some
