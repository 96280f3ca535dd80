-- Entries one after another: what reading them in a loop comes to, and the laws of bodies.
use Rattle.std.proofs.Common.{◌≡◌, ◌≢◌, ℕ, ◌<◌, ◌-◌, List, [], ◌∷◌, ◌++◌, length, Option, Some, None, refl, sym, ap, ◌∙◌, append_assoc, arith}
use Rattle.std.specs.List.{AllByRecursion}
use Rattle.std.proofs.lemmas.List.{append-nil, length-append, nil_from_length}
use Rattle.std.proofs.lemmas.List.Concat.{flat_map-cons, flat_map-append}
use Rattle.fp_model.specs.declared.log.Entry.{Entry}
use Rattle.fp_model.specs.Spellings.{be64}
use Rattle.fp_model.specs.LogText.{IsBytes, rest_text, entry_text, body_text, HasSpelling}
use Rattle.log_format.specs.EntryReading.{entry_at}
use Rattle.log_format.specs.Faults.{Spells, IsFirstBad}
use Rattle.log_format.proofs.Fields.{length-be64}
use Rattle.log_format.proofs.EntryLaws.{entry_law}

both : (x y : Entry × List ℕ) (r : Option (Entry × List ℕ)) → r ≡ Some x → r ≡ Some y → x ≡ y
both x y r p q = cc

-- no spelling of an entry begins another's: bytes that begin with two entries begin with one
pub one_entry : (e f : Entry) (more rest : List ℕ) → HasSpelling e → HasSpelling f
    → entry_text e ++ more ≡ entry_text f ++ rest → (e ≡ f) × (more ≡ rest)
one_entry e f more rest he hf h =
    let same : (e, more) ≡ (f, rest) = both (e, more) (f, rest) (entry_at (entry_text e ++ more))
    (entry_law.again e more he) (ap entry_at h ∙ entry_law.again f rest hf) in
    (ap (λ (x : Entry × List ℕ). x.0) same, ap (λ (x : Entry × List ℕ). x.1) same)

-- an entry's bytes are more than none
pub entry-some : (e : Entry) (more : List ℕ) → 0 < length (entry_text e ++ more)
entry-some e more = omega (
  arith,
  length-append (entry_text e) more,
  length-append (be64 (length (rest_text e))) (rest_text e),
  length-be64 (length (rest_text e)),
)

-- nothing is no entry
pub nothing : (e : Entry) (more : List ℕ) → [] ≢ entry_text e ++ more
nothing e more h = omega (arith, ap length h, entry-some e more)

joined : (f e : Entry) (fs es tail : List Entry) → f ≡ e → es ≡ fs ++ tail → e ∷ es ≡ f ∷ (fs ++ tail)
joined f e fs es tail p q = cc

pub body-cons : (e : Entry) (es : List Entry) (rest : List ℕ)
    → body_text (e ∷ es) ++ rest ≡ entry_text e ++ (body_text es ++ rest)
body-cons e es rest = ap (λ (t : List ℕ). t ++ rest) (flat_map-cons entry_text e es) ∙ append_assoc (entry_text e)
    (body_text es) rest

-- entries that begin a list of entries are its first
pub split : (fs es : List Entry) (rest : List ℕ) → AllByRecursion HasSpelling fs → AllByRecursion HasSpelling es
    → body_text fs ++ rest ≡ body_text es
    → (tail : List Entry) × (es ≡ fs ++ tail) × AllByRecursion HasSpelling tail × (rest ≡ body_text tail)
split [] es rest ff fe h = (es, refl, fe, h)
split (f ∷ fs) [] rest ff fe h = absurd (nothing f (body_text fs ++ rest) (sym h ∙ body-cons f fs rest))
split (f ∷ fs) (e ∷ es) rest ff fe h =
    let same = one_entry f e (body_text fs ++ rest) (body_text es) ff.0 fe.0
    (sym (body-cons f fs rest) ∙ h ∙ flat_map-cons entry_text e es) in
    let tail = split fs es rest ff.1 fe.1 same.1 in
    (tail.0, joined f e fs es tail.0 same.0 tail.1, tail.2, tail.3)

-- no bytes are the body of no entries alone
pub empty_body : (es : List Entry) → body_text es ≡ [] → es ≡ []
empty_body [] h = refl
empty_body (e ∷ es) h = absurd (nothing e (body_text es) (sym h ∙ flat_map-cons entry_text e es))

-- two lists of entries with one body are one
pub one_body : (es fs : List Entry) → AllByRecursion HasSpelling es → AllByRecursion HasSpelling fs
    → body_text es ≡ body_text fs → fs ≡ es
one_body es fs he hf h =
    let t = split es fs [] he hf (append-nil (body_text es) ∙ h) in
    let none : t.0 ≡ [] = empty_body t.0 (sym t.3) in
    t.1 ∙ ap (λ (x : List Entry). es ++ x) none ∙ append-nil es

-- where reading an entry fails, no entry begins
none_begins : (rest : List ℕ) → entry_at rest ≡ None → (e : Entry) (more : List ℕ) → HasSpelling e
    → rest ≢ entry_text e ++ more
none_begins rest none e more h is =
    let r : entry_at rest ≡ Some (e, more) = ap entry_at is ∙ entry_law.again e more h in
    cc

-- what stands after one more entry
pub record Goes (whole : List ℕ) (found : List Entry) (rest after : List ℕ) : Type 0 where
  pub bytes : IsBytes after
  pub read : AllByRecursion HasSpelling found
  pub parts : whole ≡ body_text found ++ after
  pub less : length after < length rest

all_push : (es : List Entry) (e : Entry) → AllByRecursion HasSpelling es → HasSpelling e
    → AllByRecursion HasSpelling (es ++ e ∷ [])
all_push [] e all one = (one, tt)
all_push (x ∷ es) e all one = (all.0, all_push es e all.1 one)

body_push : (es : List Entry) (e : Entry) → body_text (es ++ e ∷ []) ≡ body_text es ++ entry_text e
body_push es e = flat_map-append entry_text es (e ∷ []) ∙ ap (λ (t : List ℕ). body_text es ++ t)
    (flat_map-cons entry_text e [] ∙ append-nil (entry_text e))

pub goes : (whole : List ℕ) (found : List Entry) (rest after : List ℕ) (e : Entry) → IsBytes rest
    → AllByRecursion HasSpelling found → whole ≡ body_text found ++ rest
    → entry_at rest ≡ Some (e, after) → Goes whole (found ++ e ∷ []) rest after
goes whole found rest after e bytes read parts at =
    let t = entry_law.takes rest (e, after) bytes at in
    record {
      bytes = t.0.rest_fits;
      read = all_push found e read t.1;
      parts = parts ∙ ap (λ (x : List ℕ). body_text found ++ x) t.0.parts ∙ sym
          (append_assoc (body_text found) (entry_text e) after) ∙ ap (λ (x : List ℕ). x ++ after)
          (sym (body_push found e));
      less = omega (
        arith,
        ap length t.0.parts,
        length-append (entry_text e) after,
        length-append (be64 (length (rest_text e))) (rest_text e),
        length-be64 (length (rest_text e)),
      );
    }

pub some_bytes : (rest : List ℕ) → 0 < length rest → rest ≢ []
some_bytes rest some h = omega (arith, some, ap length h)

-- what was read of all of the bytes is what they spell
pub all_read : (whole : List ℕ) (found es : List Entry) (rest : List ℕ) → AllByRecursion HasSpelling found
    → whole ≡ body_text found ++ rest → length rest ≡ 0
    → Spells whole es → found ≡ es
all_read whole found es rest read parts none is =
    let text : whole ≡ body_text found = parts ∙ ap (λ (t : List ℕ). body_text found ++ t) (nil_from_length rest none) ∙
    append-nil (body_text found) in
    one_body es found is.each read (sym is.text ∙ text)

-- the place where reading stops is that of the first bytes that are no entry
pub bad : (whole : List ℕ) (found : List Entry) (rest : List ℕ) (place : ℕ) → AllByRecursion HasSpelling found
    → whole ≡ body_text found ++ rest → entry_at rest ≡ None
    → rest ≢ [] → place ≡ length whole - length rest → IsFirstBad whole place
bad whole found rest place read parts none some is = record {
  before = found;
  rest = rest;
  each = read;
  text = parts;
  is_place = omega (arith, is, ap length parts, length-append (body_text found) rest);
  some = some;
  none = none_begins rest none;
}

-- bytes of entries alone have no such place
pub not_bad : (whole : List ℕ) (place : ℕ) (es : List Entry) → IsFirstBad whole place → Spells whole es → ⊥
not_bad whole place es b is = stops t.0 t.2 t.3
  where
    t : (tail : List Entry) × (es ≡ b.before ++ tail) × AllByRecursion HasSpelling tail × (b.rest ≡ body_text tail)
    t = split b.before es b.rest b.each is.each (sym b.text ∙ is.text)

    stops : (tail : List Entry) → AllByRecursion HasSpelling tail → b.rest ≡ body_text tail → ⊥
    stops [] all h = b.some h
    stops (e ∷ tail) all h = b.none e (body_text tail) all.0 (h ∙ flat_map-cons entry_text e tail)

-- there is one such place
pub one_place : (whole : List ℕ) (place place2 : ℕ) → IsFirstBad whole place → IsFirstBad whole place2 → place ≡ place2
one_place whole place place2 a b = a.is_place ∙ ap length (alike a.before b.before a.each b.each (sym a.text ∙ b.text))
    ∙ sym b.is_place
  where
    alike : (es fs : List Entry) → AllByRecursion HasSpelling es → AllByRecursion HasSpelling fs
        → body_text es ++ a.rest ≡ body_text fs ++ b.rest → body_text es ≡ body_text fs
    alike [] [] he hf h = refl
    alike [] (f ∷ fs) he hf h = absurd (a.none f (body_text fs ++ b.rest) hf.0 (h ∙ body-cons f fs b.rest))
    alike (e ∷ es) [] he hf h = absurd (b.none e (body_text es ++ a.rest) he.0 (sym h ∙ body-cons e es a.rest))
    alike (e ∷ es) (f ∷ fs) he hf h =
        let same = one_entry e f (body_text es ++ a.rest) (body_text fs ++ b.rest) he.0 hf.0
        (sym (body-cons e es a.rest) ∙ h ∙ body-cons f fs b.rest) in
        let rest = alike es fs he.1 hf.1 same.1 in
        flat_map-cons entry_text e es ∙ ap (λ (x : Entry). entry_text x ++ body_text es) same.0 ∙ ap
        (λ (t : List ℕ). entry_text f ++ t) rest ∙ sym (flat_map-cons entry_text f fs)
