-- Numbers at places of bytes.
use Rattle.std.proofs.Common.{◌≡◌, ℕ, zero, suc, ◌+◌, ◌-◌, ◌^◌, ◌<◌, ◌≤◌, List, [], ◌++◌, length, get_or, take, drop, refl, sym, ap, ◌∙◌, arith}
use Rattle.std.proofs.lemmas.List.{append-nil, get_or-drop, get_or-take, get_or_append_left, get_or-append_right, length-take-le, length-drop, drop-drop, drop_all, drop_at, take_rest}
use borrow.Rule.Slice.PartMut.{put_mid}
use Rattle.byteorder.specs.Endian.{big_from, big_number, big_bytes}
use Rattle.byteorder.specs.Numbers.{big_number-reads_back, length-bytes_high_first}
use Rattle.ci_space.specs.Numbers.{PutsNumber}
use Rattle.ci_space.specs.Interval.{Keeps}

-- behind a place
pub big_from-drop : (i n at : ℕ) (xs : List ℕ) → big_from i n (drop at xs) ≡ big_from (at + i) n xs
big_from-drop i zero at xs = refl
big_from-drop i (suc n) at xs =
    let e : get_or (drop at xs) i 0 ≡ get_or xs (at + i) 0 = get_or-drop at xs i 0 in
    let r : big_from (suc i) n (drop at xs) ≡ big_from (at + suc i) n xs = big_from-drop (suc i) n at xs in
    let s : at + suc i ≡ suc (at + i) = omega arith in
    rw (e, r, s) refl

pub number-drop : (n at : ℕ) (xs : List ℕ) → big_number n (drop at xs) ≡ big_from at n xs
number-drop n at xs = big_from-drop 0 n at xs ∙ ap (λ k. big_from k n xs) (omega arith)

-- what keeps a number
pub big_from-keeps : (n i : ℕ) (old new : List ℕ) → Keeps old new i (i + n) → big_from i n new ≡ big_from i n old
big_from-keeps zero i old new k = refl
big_from-keeps (suc n) i old new k =
    let e : get_or new i 0 ≡ get_or old i 0 = k i (omega arith) (omega arith) in
    let r : big_from (suc i) n new ≡ big_from (suc i) n old =
    big_from-keeps n (suc i) old new (λ j x y. k j (omega arith) (omega arith)) in
    rw (e, r) refl

-- bytes put in the middle
pub middle-below : (xs ys zs : List ℕ) (at k : ℕ) → at ≤ length xs → k < at
    → get_or (take at xs ++ (ys ++ zs)) k 0 ≡ get_or xs k 0
middle-below xs ys zs at k l h =
    let n : length (take at xs) ≡ at = length-take-le at xs l in
    get_or_append_left (take at xs) (ys ++ zs) 0 k (omega arith) ∙ get_or-take at xs k 0 h

pub middle-above : (xs ys : List ℕ) (at n k : ℕ) → at ≤ length xs → length ys ≡ n → at + n ≤ k
    → get_or (take at xs ++ (ys ++ drop (at + n) xs)) k 0 ≡ get_or xs k 0
middle-above xs ys at n k l m h =
    let t : length (take at xs) ≡ at = length-take-le at xs l in
    let e : at + n + (k - at - n) ≡ k = omega arith in
    get_or-append_right (take at xs) (ys ++ drop (at + n) xs) at k 0 t (omega arith)
    ∙ get_or-append_right ys (drop (at + n) xs) n (k - at) 0 m (omega arith)
    ∙ get_or-drop (at + n) xs (k - at - n) 0
    ∙ ap (λ i. get_or xs i 0) e

pub middle : (xs buf ys : List ℕ) (at n : ℕ) → at ≤ length xs → buf ≡ ys ++ drop n (drop at xs)
    → put_mid at (length xs - at) xs buf ≡ take at xs ++ (ys ++ drop (at + n) xs)
middle xs buf ys at n l e =
    let none : drop (length xs - at) (drop at xs) ≡ [] =
    drop_all (length xs - at) (drop at xs) (omega (arith, length-drop at xs)) in
    let rest : drop n (drop at xs) ≡ drop (at + n) xs = drop-drop n at xs in
    rw (none, append-nil buf, e, rest) refl

-- a number put into bytes
pub puts-number : (old buf : List ℕ) (at n x : ℕ) → at + n ≤ length old → x < 256 ^ n
    → buf ≡ big_bytes n x ++ drop n (take (length old - at) (drop at old))
    → PutsNumber old (put_mid at (length old - at) old buf) at n x
puts-number old buf at n x l f e =
    let m : put_mid at (length old - at) old buf ≡ take at old ++ (big_bytes n x ++ drop (at + n) old) =
    middle old buf (big_bytes n x) at n (omega arith) (e ∙ ap (λ xs. big_bytes n x ++ drop n xs) (take_rest old at))
    in
    let t : length (take at old) ≡ at = length-take-le at old (omega arith) in
    let r : drop at (take at old ++ (big_bytes n x ++ drop (at + n) old)) ≡ big_bytes n x ++ drop (at + n) old =
    drop_at (take at old) (big_bytes n x ++ drop (at + n) old) at t in
    rw m (record {
      is_number = sym (number-drop n at (take at old ++ (big_bytes n x ++ drop (at + n) old))) ∙ ap
          (λ xs. big_number n xs) r ∙ big_number-reads_back n x (drop (at + n) old) f;
      below = λ k a b. middle-below old (big_bytes n x) (drop (at + n) old) at k (omega arith) b;
      above = λ k a b. middle-above old (big_bytes n x) at n k (omega arith) (length-bytes_high_first n x) a;
    })
