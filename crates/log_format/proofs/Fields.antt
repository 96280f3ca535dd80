-- The laws of numbers and of texts behind their length.
use Rattle.std.proofs.Common.{◌≡◌, ℕ, zero, suc, ◌^◌, ◌<◌, ◌≤◌, Bool, true, false, cond, ltb, List, [], ◌∷◌, ◌++◌, length, get_or, take, drop, Option, Some, None, refl, sym, ap, subst, ◌∙◌, append_assoc, arith}
use Rattle.std.specs.Int.{Width, w16, w32, w64, byte_len, from_be_bytes, to_be_bytes}
use Rattle.std.specs.List.{AllByRecursion}
use Rattle.std.proofs.lemmas.Bool.{ltb-false, le-ltb}
use Rattle.std.proofs.lemmas.List.{take_at, drop_at, take-append-drop, length-append, length-take}
use Rattle.std.proofs.lemmas.Nat.{be_bytes_2, be_bytes_4, be_bytes_8, from_be_bytes-to_be_bytes_2, from_be_bytes-to_be_bytes_4, from_be_bytes-to_be_bytes_8}
use Rattle.fp_model.specs.Spellings.{be16, be32, be64, short_text, long_text, part_text}
use Rattle.fp_model.specs.LogText.{IsBytes}
use Rattle.log_format.specs.Reading.{byte_at, number_at, part_at, short_at, long_at, part_text_at}
use Rattle.fp_model.specs.Values.{◌>>=◌}
use Rattle.log_format.specs.Laws.{Takes, Lawful, IsShorter}
use Rattle.model_laws.proofs.Texts.{some_step}
use Rattle.std.proofs.lemmas.Option.{same_Some}

-- ---- bytes

-- each place of bytes has a number below 256
pub byte_below : (bytes : List ℕ) → IsBytes bytes → (i : ℕ) → get_or bytes i 0 < 256
byte_below [] all i = omega arith
byte_below (b ∷ bytes) all zero = all.0
byte_below (b ∷ bytes) all (suc i) = byte_below bytes all.1 i

-- what is below a limit at each place is so as a list
pub from_places : (limit : ℕ) (ns : List ℕ) → ((i : ℕ) → get_or ns i 0 < limit) → AllByRecursion (λ n. n < limit) ns
from_places limit [] h = tt
from_places limit (n ∷ ns) h = (h 0, from_places limit ns (λ i. h (suc i)))

-- one element more that has a property
pub all_more : {X : Type 0} (P : X → Type 0) (xs : List X) (i : ℕ) (x : X) → i < length xs → x ≡ get_or xs i x
    → AllByRecursion P (take i xs) → P x → AllByRecursion P (take (suc i) xs)
all_more P [] i x lt is all one = absurd (omega arith)
all_more P (y ∷ ys) zero x lt is all one = (subst P is one, tt)
all_more P (y ∷ ys) (suc i) x lt is all one = (all.0, all_more P ys i x (omega arith) is all.1 one)

IsBytes-drop : (n : ℕ) (bytes : List ℕ) → IsBytes bytes → IsBytes (drop n bytes)
IsBytes-drop zero bytes all = all
IsBytes-drop (suc n) [] all = tt
IsBytes-drop (suc n) (b ∷ bytes) all = IsBytes-drop n bytes all.1

IsBytes-take : (n : ℕ) (bytes : List ℕ) → IsBytes bytes → IsBytes (take n bytes)
IsBytes-take zero bytes all = tt
IsBytes-take (suc n) [] all = tt
IsBytes-take (suc n) (b ∷ bytes) all = (all.0, IsBytes-take n bytes all.1)

-- ---- steps

-- one text behind another
pub then : (a x b y c : List ℕ) → Takes a x b → Takes b y c → Takes a (x ++ y) c
then a x b y c p q = record {
  parts = p.parts ∙ ap (λ (t : List ℕ). x ++ t) q.parts ∙ sym (append_assoc x y c);
  rest_fits = q.rest_fits;
}

-- a test that did not fail
pub guard : {A : Type 0} (b : Bool) (x y : A) → cond b None (Some x) ≡ Some y → (b ≡ false) × (x ≡ y)
guard true x y e = absurd cc
guard false x y e = (refl, cc)

-- the next field of several
pub next : {X B : Type 0} {text : X → List ℕ} {at : List ℕ → Option (X × List ℕ)} {Fits : X → Type 0}
    → Lawful X text at Fits → (bytes : List ℕ) (f : X × List ℕ → Option B) (y : B) → IsBytes bytes
    → (at bytes >>= f) ≡ Some y → (x : X × List ℕ) × Takes bytes (text x.0) x.1 × Fits x.0 × (f x ≡ Some y)
next {at = at} law bytes f y fits e =
    let b = some_step (at bytes) f y e in
    let t = law.takes bytes b.0 fits b.1 in
    (b.0, t.0, t.1, b.2)

-- ---- numbers

-- what is known of a width
record IsWide (w : Width) (limit : ℕ) : Type 0 where
  pub len : (n : ℕ) → length (to_be_bytes w n) ≡ byte_len w
  pub back : (bytes : List ℕ) → length bytes ≡ byte_len w → IsBytes bytes
      → to_be_bytes w (from_be_bytes w bytes) ≡ bytes
  pub again : (n : ℕ) → n < limit → from_be_bytes w (to_be_bytes w n) ≡ n
  pub below : (bytes : List ℕ) → IsBytes bytes → from_be_bytes w bytes < limit

wide16 : IsWide w16 (2 ^ 16)
wide16 = record {
  len = λ n. refl;
  back = λ bytes len fits. be_bytes_2 bytes _ len (byte_below bytes fits) refl;
  again = λ n lt. from_be_bytes-to_be_bytes_2 n lt;
  below = λ bytes fits. omega (arith, byte_below bytes fits 0, byte_below bytes fits 1);
}

wide32 : IsWide w32 (2 ^ 32)
wide32 = record {
  len = λ n. refl;
  back = λ bytes len fits. be_bytes_4 bytes _ len (byte_below bytes fits) refl;
  again = λ n lt. from_be_bytes-to_be_bytes_4 n lt;
  below = λ bytes fits. omega (
    arith,
    byte_below bytes fits 0,
    byte_below bytes fits 1,
    byte_below bytes fits 2,
    byte_below bytes fits 3,
  );
}

wide64 : IsWide w64 (2 ^ 64)
wide64 = record {
  len = λ n. refl;
  back = λ bytes len fits. be_bytes_8 bytes _ len (byte_below bytes fits) refl;
  again = λ n lt. from_be_bytes-to_be_bytes_8 n lt;
  below = λ bytes fits. omega (
    arith,
    byte_below bytes fits 0,
    byte_below bytes fits 1,
    byte_below bytes fits 2,
    byte_below bytes fits 3,
    byte_below bytes fits 4,
    byte_below bytes fits 5,
    byte_below bytes fits 6,
    byte_below bytes fits 7,
  );
}

pub part_takes : (n : ℕ) (bytes : List ℕ) (x : List ℕ × List ℕ) → IsBytes bytes → part_at n bytes ≡ Some x
    → Takes bytes x.0 x.1 × (length x.0 ≡ n) × IsBytes x.0
part_takes n bytes x fits e =
    let g = guard (ltb (length bytes) n) (take n bytes, drop n bytes) x e in
    let enough : n ≤ length bytes = ltb-false (length bytes) n g.0 in
    subst (λ (y : List ℕ × List ℕ). Takes bytes y.0 y.1 × (length y.0 ≡ n) × IsBytes y.0) g.1 (
      record { parts = sym (take-append-drop n bytes); rest_fits = IsBytes-drop n bytes fits },
      omega (arith, length-take n bytes),
      IsBytes-take n bytes fits,
    )

pub part_again : (text rest : List ℕ) (n : ℕ) → length text ≡ n → part_at n (text ++ rest) ≡ Some (text, rest)
part_again text rest n len =
    let enough : n ≤ length (text ++ rest) = omega (arith, length-append text rest) in
    rw (le-ltb (length (text ++ rest)) n enough, take_at text rest n len, drop_at text rest n len) refl

number_law : (w : Width) (limit : ℕ) → IsWide w limit → Lawful ℕ (to_be_bytes w) (number_at w) (λ n. n < limit)
unfolding number_at
number_law w limit wide = record {
  takes = λ bytes x fits e.
      let g = guard (ltb (length bytes) (byte_len w))
      (from_be_bytes w (take (byte_len w) bytes), drop (byte_len w) bytes) x e in
      let enough : byte_len w ≤ length bytes = ltb-false (length bytes) (byte_len w) g.0 in
      let len : length (take (byte_len w) bytes) ≡ byte_len w = omega (arith, length-take (byte_len w) bytes) in
      let front = IsBytes-take (byte_len w) bytes fits in
      subst (λ (y : ℕ × List ℕ). Takes bytes (to_be_bytes w y.0) y.1 × (y.0 < limit)) g.1 (
        record {
          parts = sym (ap (λ (t : List ℕ). t ++ drop (byte_len w) bytes)
              (wide.back (take (byte_len w) bytes) len front) ∙ take-append-drop (byte_len w) bytes);
          rest_fits =
              IsBytes-drop (byte_len w) bytes fits;
        },
        wide.below (take (byte_len w) bytes) front,
      );
  again = λ n rest lt.
      let enough : byte_len w ≤ length (to_be_bytes w n ++ rest) =
      omega (arith, length-append (to_be_bytes w n) rest, wide.len n) in
      rw (
        le-ltb (length (to_be_bytes w n ++ rest)) (byte_len w) enough,
        take_at (to_be_bytes w n) rest (byte_len w) (wide.len n),
        drop_at (to_be_bytes w n) rest (byte_len w) (wide.len n),
        wide.again n lt,
      ) refl;
}

-- one byte
pub law8 : Lawful ℕ (λ n. n ∷ []) byte_at (λ n. n < 2 ^ 8)
law8 = record { takes = byte_takes; again = λ n rest lt. refl }
  where
    byte_takes : (bytes : List ℕ) (x : ℕ × List ℕ) → IsBytes bytes → byte_at bytes ≡ Some x → Takes bytes (x.0 ∷ []) x.1
        × (x.0 < 2 ^ 8)
    byte_takes [] x fits e = absurd cc
    byte_takes (b ∷ bytes) x fits e = subst (λ (y : ℕ × List ℕ). Takes (b ∷ bytes) (y.0 ∷ []) y.1 × (y.0 < 2 ^ 8))
        (same_Some (b, bytes) x e) (record { parts = refl; rest_fits = fits.1 }, fits.0)

-- a number of two bytes
pub law16 : Lawful ℕ be16 (number_at w16) (λ n. n < 2 ^ 16)
unfolding be16
law16 = number_law w16 (2 ^ 16) wide16

-- a number of four bytes
pub law32 : Lawful ℕ be32 (number_at w32) (λ n. n < 2 ^ 32)
unfolding be32
law32 = number_law w32 (2 ^ 32) wide32

-- a number of eight bytes
pub law64 : Lawful ℕ be64 (number_at w64) (λ n. n < 2 ^ 64)
unfolding be64
law64 = number_law w64 (2 ^ 64) wide64

pub length-be16 : (n : ℕ) → length (be16 n) ≡ 2
unfolding be16
length-be16 n = refl

pub length-be32 : (n : ℕ) → length (be32 n) ≡ 4
unfolding be32
length-be32 n = refl

pub length-be64 : (n : ℕ) → length (be64 n) ≡ 8
unfolding be64
length-be64 n = refl

-- ---- texts

-- a text behind its length, for a length of any spelling
module _ (size : ℕ → List ℕ) (size_at : List ℕ → Option (ℕ × List ℕ)) (limit : ℕ)
    (law : Lawful ℕ size size_at (λ n. n < limit)) where
  text_law : Lawful (List ℕ) (λ text. size (length text) ++ text) (λ bytes. size_at bytes >>= λ n. part_at n.0 n.1)
      (IsShorter limit)
  text_law = record {
    takes = λ bytes x fits e.
        let a = next law bytes (λ n. part_at n.0 n.1) x fits e in
        let b = part_takes a.0.0 a.0.1 x a.1.rest_fits a.3 in
        let t = then bytes (size a.0.0) a.0.1 x.0 x.1 a.1 b.0 in
        (record { parts = rw b.1 t.parts; rest_fits = t.rest_fits }, (omega (arith, b.1, a.2), b.2));
    again = λ text rest fits.
        let regrouped : (size (length text) ++ text) ++ rest ≡ size (length text) ++ (text ++ rest) =
        append_assoc (size (length text)) text rest in
        ap (λ (bytes : List ℕ). size_at bytes >>= λ n. part_at n.0 n.1) regrouped ∙ rw
        (law.again (length text) (text ++ rest) fits.0) (part_again text rest (length text) refl);
  }

-- a text behind its length in one byte
pub short_law : Lawful (List ℕ) short_text short_at (IsShorter (2 ^ 8))
unfolding short_at
short_law = text_law (λ n. n ∷ []) byte_at (2 ^ 8) law8

-- a text behind its length in two bytes
pub long_law : Lawful (List ℕ) long_text long_at (IsShorter (2 ^ 16))
unfolding long_at
long_law = text_law be16 (number_at w16) (2 ^ 16) law16

-- a text behind its length in four bytes
pub part_text_law : Lawful (List ℕ) part_text part_text_at (IsShorter (2 ^ 32))
unfolding part_text_at
part_text_law = text_law be32 (number_at w32) (2 ^ 32) law32
