-- What a piece given leaves.
use Rattle.std.proofs.Common.{ℕ, ◌≡◌, ◌+◌, ◌≤◌, List, ◌++◌, length, take, drop, ◌∙◌, ap}
use Rattle.std.proofs.lemmas.List.{drop-drop, take-append-drop, take_at, length-take-le}

-- a piece that was copied from the front of what is left, and what is left behind it
pub piece_given : (bytes rest copied tail : List ℕ) (at n : ℕ) → rest ≡ drop at bytes → n ≤ length rest
    → copied ≡ take n rest
    → drop at bytes ≡ take n (copied ++ tail) ++ drop (at + n) bytes
piece_given bytes rest copied tail at n is le e =
    let l : length copied ≡ n = ap length e ∙ length-take-le n rest le in
    let front : take n (copied ++ tail) ≡ copied = take_at copied tail n l in
    let back : drop n (drop at bytes) ≡ drop (at + n) bytes = drop-drop n at bytes in
    let whole : take n rest ++ drop n rest ≡ rest = take-append-drop n rest in
    cc
