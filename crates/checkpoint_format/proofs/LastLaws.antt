-- The last number of a terminal, both ways.
use Rattle.std.proofs.Common.{◌≡◌, ℕ, zero, suc, ◌-◌, ◌^◌, ◌<◌, ◌≤◌, Bool, true, false, ◌&&◌, ◌||◌, List, [], ◌∷◌, ◌++◌, length, get_or, map, take, replicate, Some, None, refl, sym, ap, subst, ◌∙◌, append_assoc, arith}
use Rattle.std.specs.Prelude.{if◌then◌else◌, nat_le, slice_index}
use Rattle.std.specs.List.{AllByRecursion, flat_map, list_all, list_any}
use Rattle.std.proofs.lemmas.Bool.Decides.{nat_tests}
use Rattle.std.proofs.lemmas.List.{length-append, length-replicate, take_at}
use Rattle.std.proofs.lemmas.List.Folds.{list_any_at}
use Rattle.std.proofs.lemmas.Slice.Eq.{bytes_eq-Decides}
use Rattle.fp_model.specs.CheckpointText.{AreLasts, last_text}
use Rattle.fp_model.specs.Lasts.{Last}
use Rattle.fp_model.specs.LogText.{IsBytes}
use Rattle.fp_model.specs.Names.{IsName, is_letter, is_letter_or_digit, is_name}
use Rattle.fp_model.specs.Spellings.{be16, be64, long_text}
use Rattle.fp_model.specs.State.{ascend}
use Rattle.fp_model.specs.Texts.{padded, same_text}
use Rattle.fp_model.specs.declared.name.Name.{Name}
use Rattle.log_format.specs.Laws.{Lawful, Takes}
use Rattle.log_format.specs.Reading.{long_at, many_at, part_at}
use Rattle.log_format.proofs.Fields.{law16, law64, long_law, next, part_again, part_takes, then as joins}
use Rattle.log_format.proofs.Lists.{many_again, many_takes}
use Rattle.checkpoint_format.specs.Reading.{is_name_of, is_stored_name, last_at, numbered_at}
use Rattle.checkpoint_format.proofs.DatabaseLaws.{passed}
use Rattle.checkpoint_format.proofs.Numbers.{last_is}
use Rattle.std.proofs.lemmas.Bool.{and_from, and_parts}
use Rattle.model_laws.proofs.Texts.{some_step}

-- ---- names

found : (p : ℕ → Bool) (xs : List ℕ) → list_any p xs ≡ true → (n : ℕ) × (p n ≡ true)
found p [] e = absurd cc
found p (x ∷ xs) e = by (p x) refl (found p xs)
  where
    by : (t : Bool) → p x ≡ t → (list_any p xs ≡ true → (n : ℕ) × (p n ≡ true)) → (n : ℕ) × (p n ≡ true)
    by true is later = (x, is)
    by false is later = later (sym (ap (λ t. t || list_any p xs) is) ∙ e)

-- bytes that are stored as a name are one
pub stored_is : (bytes : List ℕ) → is_stored_name bytes ≡ true → IsName (record { 0 = bytes })
stored_is bytes e =
    let f = found (is_name_of bytes) (1 ∷ 2 ∷ 3 ∷ 4 ∷ 5 ∷ 6 ∷ 7 ∷ 8 ∷ []) e in
    let q = and_parts (is_name (take f.0 bytes)) (same_text (padded 8 (take f.0 bytes)) bytes) f.1 in
    (take f.0 bytes, q.0, sym ((bytes_eq-Decides (padded 8 (take f.0 bytes)) bytes).0 q.1))

at_place : (n : ℕ) → 1 ≤ n → n ≤ 8 → get_or (1 ∷ 2 ∷ 3 ∷ 4 ∷ 5 ∷ 6 ∷ 7 ∷ 8 ∷ []) (n - 1) 0 ≡ n
at_place zero some few = absurd (omega (arith, some))
at_place (suc zero) some few = refl
at_place (suc (suc zero)) some few = refl
at_place (suc (suc (suc zero))) some few = refl
at_place (suc (suc (suc (suc zero)))) some few = refl
at_place (suc (suc (suc (suc (suc zero))))) some few = refl
at_place (suc (suc (suc (suc (suc (suc zero)))))) some few = refl
at_place (suc (suc (suc (suc (suc (suc (suc zero))))))) some few = refl
at_place (suc (suc (suc (suc (suc (suc (suc (suc zero)))))))) some few = refl
at_place (suc (suc (suc (suc (suc (suc (suc (suc (suc n))))))))) some few = absurd (omega (arith, few))

-- how long the text of a name is
text_length : (text : List ℕ) → is_name text ≡ true → (1 ≤ length text) × (length text ≤ 8)
text_length text e =
    let a = and_parts (nat_le 1 (length text) && nat_le (length text) 8 && is_letter (slice_index text 0))
    (list_all is_letter_or_digit text) e in
    let b = and_parts (nat_le 1 (length text) && nat_le (length text) 8) (is_letter (slice_index text 0)) a.0 in
    let c = and_parts (nat_le 1 (length text)) (nat_le (length text) 8) b.0 in
    (grind (arith, nat_tests), grind (arith, nat_tests))

pub name_length : (name : Name) → IsName name → length name.0 ≡ 8
name_length name is =
    let few = text_length is.0 is.1 in
    omega (
      arith,
      few.1,
      ap length is.2,
      length-append is.0 (replicate (8 - length is.0) 32),
      length-replicate {A = ℕ} (8 - length is.0) 32,
    )

-- and a name is stored as one
pub name_stored : (name : Name) → IsName name → is_stored_name name.0 ≡ true
name_stored name is =
    let text = is.0 in
    let few = text_length text is.1 in
    let taken : take (length text) name.0 ≡ text =
    ap (take (length text)) is.2 ∙ take_at text (replicate (8 - length text) 32) (length text) refl in
    let first : is_name (take (length text) name.0) ≡ true = ap is_name taken ∙ is.1 in
    let second : same_text (padded 8 (take (length text) name.0)) name.0 ≡ true =
    (bytes_eq-Decides (padded 8 (take (length text) name.0)) name.0).1 (ap (padded 8) taken ∙ sym is.2) in
    list_any_at (is_name_of name.0) (1 ∷ 2 ∷ 3 ∷ 4 ∷ 5 ∷ 6 ∷ 7 ∷ 8 ∷ []) (length text - 1) 0
    (omega (arith, few.0, few.1))
    (ap (is_name_of name.0) (at_place (length text) few.0 few.1)
    ∙ and_from (is_name (take (length text) name.0)) (same_text (padded 8 (take (length text) name.0)) name.0) first second)

-- ---- one terminal

pub record FitsLast (last : Last) : Type 0 where
  pub name : IsName last.lterm
  pub number : last.number < 2 ^ 64
  pub line : length last.line < 2 ^ 16

long_again : (text rest : List ℕ) → length text < 2 ^ 16 → long_at (long_text text ++ rest) ≡ Some (text, rest)
unfolding long_at
long_again text rest fits =
    ap long_at (append_assoc (be16 (length text)) text rest)
    ∙ rw (law16.again (length text) (text ++ rest) fits, part_again text rest (length text) refl) refl

last_takes : (bytes : List ℕ) (x : Last × List ℕ) → IsBytes bytes → last_at bytes ≡ Some x
    → Takes bytes (last_text x.0) x.1 × FitsLast x.0
unfolding last_at
last_takes bytes x fits e =
    let a = some_step (part_at 8 bytes) _ x e in
    let p = part_takes 8 bytes a.0 fits a.1 in
    let b = next law64 a.0.1 _ x p.0.rest_fits a.2 in
    let c = next long_law b.0.1 _ x b.1.rest_fits b.3 in
    let last : Last = record { lterm = record { 0 = a.0.0 }; number = b.0.0; line = c.0.0 } in
    let made : Last × List ℕ = (last, c.0.1) in
    let d = passed (is_stored_name a.0.0) made x c.3 in
    let t = joins bytes _ b.0.1 _ c.0.1 (joins bytes _ a.0.1 _ b.0.1 p.0 b.1) c.1 in
    subst (λ (y : Last × List ℕ). Takes bytes (last_text y.0) y.1 × FitsLast y.0) d.1
    (t, record { name = stored_is a.0.0 d.0; number = b.2; line = c.2.0 })

last_again : (last : Last) (rest : List ℕ) → FitsLast last → last_at (last_text last ++ rest) ≡ Some (last, rest)
last_again last rest fits =
    let name = last.lterm.0 in
    let regrouped : last_text last ++ rest ≡ name ++ (be64 last.number ++ (long_text last.line ++ rest)) =
    simp append_assoc in
    let stored : (if is_stored_name name then Some (record { 0 = name }) else None) ≡ Some last.lterm =
    rw (name_stored last.lterm fits.name) refl in
    ap last_at regrouped
    ∙ last_is (name ++ (be64 last.number ++ (long_text last.line ++ rest))) name
    (be64 last.number ++ (long_text last.line ++ rest)) last.number (long_text last.line ++ rest) last.line rest
    last.lterm (part_again name _ 8 (name_length last.lterm fits.name))
    (law64.again last.number (long_text last.line ++ rest) fits.number) (long_again last.line rest fits.line) stored

pub last_law : Lawful Last last_text last_at FitsLast
last_law = record { takes = last_takes; again = last_again }

-- ---- all of them

abbrev pub numbered_text : List Last → List ℕ
numbered_text lasts = be64 (length lasts) ++ flat_map last_text lasts

-- what each of several fits
all_of : (lasts : List Last) → AllByRecursion FitsLast lasts
    → AllByRecursion (λ (l : Last). IsName l.lterm) lasts × AllByRecursion (λ (l : Last). l.number < 2 ^ 64) lasts
    × AllByRecursion (λ (l : Last). length l.line < 2 ^ 16) lasts
all_of [] all = (tt, tt, tt)
all_of (l ∷ ls) all = let more = all_of ls all.1 in
    ((all.0.name, more.0), (all.0.number, more.1), (all.0.line, more.2))

all_from : (lasts : List Last) → AllByRecursion (λ (l : Last). IsName l.lterm) lasts
    → AllByRecursion (λ (l : Last). l.number < 2 ^ 64) lasts
    → AllByRecursion (λ (l : Last). length l.line < 2 ^ 16) lasts → AllByRecursion FitsLast lasts
all_from [] names numbers lines = tt
all_from (l ∷ ls) names numbers lines =
    (record { name = names.0; number = numbers.0; line = lines.0 }, all_from ls names.1 numbers.1 lines.1)

pub numbered_takes : (bytes : List ℕ) (x : List Last × List ℕ) → IsBytes bytes → numbered_at bytes ≡ Some x
    → Takes bytes (numbered_text x.0) x.1 × AreLasts x.0
unfolding numbered_at
numbered_takes bytes x fits e =
    let a = next law64 bytes _ x fits e in
    let b = some_step (many_at last_at a.0.0 a.0.1) _ x a.3 in
    let m = many_takes Last last_text last_at FitsLast last_law a.0.0 a.0.1 b.0 a.1.rest_fits b.1 in
    let c = passed (ascend (map (λ (l : Last). l.lterm.0) b.0.0)) b.0 x b.2 in
    let t = joins bytes (be64 a.0.0) a.0.1 (flat_map last_text b.0.0) b.0.1 a.1 m.0 in
    let each = all_of b.0.0 m.2 in
    subst (λ (y : List Last × List ℕ). Takes bytes (numbered_text y.0) y.1 × AreLasts y.0) c.1 (
      record {
        parts = t.parts ∙ ap (λ n. (be64 n ++ flat_map last_text b.0.0) ++ b.0.1) (sym m.1);
        rest_fits = t.rest_fits;
      },
      record {
        few = omega (arith, m.1, a.2);
        names = each.0;
        numbers = each.1;
        lines = each.2;
        in_order = c.0;
      },
    )

pub numbered_again : (lasts : List Last) (rest : List ℕ) → AreLasts lasts
    → numbered_at (numbered_text lasts ++ rest) ≡ Some (lasts, rest)
unfolding numbered_at
numbered_again lasts rest are =
    ap numbered_at (append_assoc (be64 (length lasts)) (flat_map last_text lasts) rest)
    ∙ rw (
      law64.again (length lasts) (flat_map last_text lasts ++ rest) are.few,
      many_again Last last_text last_at FitsLast last_law lasts rest
          (all_from lasts are.names are.numbers are.lines),
      are.in_order,
    ) refl
