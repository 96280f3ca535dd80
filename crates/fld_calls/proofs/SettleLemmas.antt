-- A list of arguments up to the first bad one.
use Rattle.std.proofs.Common.{◌≡◌, refl, sym, ap, ◌∙◌, subst, arith, ℕ, zero, suc, ◌<◌, ◌≤◌, ◌+◌, slice_index_or, List, [], ◌∷◌, length, drop, Bool, true, false, ◌==◌, if◌then◌else◌, Some, None}
use Rattle.std.specs.Prelude.{Result, Ok, Err, ⊤, is_err}
use Rattle.fp_model.specs.declared.definitions.FieldDef.{FieldDef}
use Rattle.fp_model.specs.declared.definitions.MsdbDef.{MsdbDef}
use Rattle.fp_model.specs.Fsas.{Fsa, fsas_in, fsa_on, letter_of, found_by, first_failure, list_on}
use Rattle.fp_model.specs.FitCalls.{IsFsaList}
use Rattle.fld_calls.specs.declared.field.Refusal.{Refusal}
use Rattle.fld_calls.specs.inside.Forms.{of_fields}
use Rattle.fld_calls.specs.inside.Refusals.{letter_in}
use Rattle.fld_calls.proofs.Fronts.{LeftBehind, Reads, all_left}
use Rattle.fld_calls.proofs.ListBytes.{list_is}
use Rattle.fld_calls.proofs.TryLemmas.{no_blank}

-- what all come to is what the rest comes to, tried on the segment now
pub record Left (def : MsdbDef) (all : List Fsa) (old : List ℕ) (at : ℕ) (rest : List Fsa) (now : List ℕ) :
    Type 0 where
  pub failure : first_failure def 0 all old ≡ first_failure def at rest now
  pub segment : (list_on def all old).segment ≡ (list_on def rest now).segment

abbrev pub IsSettling : List FieldDef → List Fsa → List ℕ → ℕ → List Fsa → List ℕ → Type 0
IsSettling fields all old at rest now = (def : MsdbDef) → def.fields ≡ fields → Left def all old at rest now

pub at_first : (fields : List FieldDef) (all : List Fsa) (old : List ℕ) → IsSettling fields all old 0 all old
at_first fields all old def is = record { failure = refl; segment = refl }

-- what an argument comes to rests on the fields alone
same_letter : (def : MsdbDef) (fields : List FieldDef) (fsa : Fsa) (segment : List ℕ) → def.fields ≡ fields
    → letter_of def fsa segment ≡ letter_of (of_fields fields) fsa segment
same_letter def fields fsa segment is = ap (λ fs. letter_of (of_fields fs) fsa segment) is

same_segment : (def : MsdbDef) (fields : List FieldDef) (fsa : Fsa) (segment : List ℕ) → def.fields ≡ fields
    → (fsa_on def fsa segment).segment ≡ (fsa_on (of_fields fields) fsa segment).segment
same_segment def fields fsa segment is = ap (λ fs. (fsa_on (of_fields fs) fsa segment).segment) is

same_found : (def : MsdbDef) (fields : List FieldDef) (fsa : Fsa) (segment : List ℕ) → def.fields ≡ fields
    → found_by def fsa segment ≡ found_by (of_fields fields) fsa segment
same_found def fields fsa segment is = ap (λ fs. found_by (of_fields fs) fsa segment) is

good_failure : (def : MsdbDef) (at : ℕ) (fsa : Fsa) (rest : List Fsa) (segment : List ℕ)
    → letter_of def fsa segment ≡ 32 → first_failure def at (fsa ∷ rest) segment ≡ first_failure def (at + 1) rest
    (fsa_on def fsa segment).segment
unfolding first_failure
good_failure def at fsa rest segment good = ap (λ (l : ℕ). if l == 32 then first_failure def (at + 1) rest
    (fsa_on def fsa segment).segment else Some (record { place = at; found = found_by def fsa segment })) good

bad_failure : (def : MsdbDef) (at : ℕ) (fsa : Fsa) (rest : List Fsa) (segment : List ℕ)
    → (letter_of def fsa segment == 32) ≡ false → first_failure def at (fsa ∷ rest) segment ≡ Some
    (record { place = at; found = found_by def fsa segment })
unfolding first_failure
bad_failure def at fsa rest segment bad = ap (λ (b : Bool). if b then first_failure def (at + 1) rest
    (fsa_on def fsa segment).segment else Some (record { place = at; found = found_by def fsa segment })) bad

next_segment : (def : MsdbDef) (fsa : Fsa) (rest : List Fsa) (segment : List ℕ)
    → (list_on def (fsa ∷ rest) segment).segment ≡ (list_on def rest (fsa_on def fsa segment).segment).segment
unfolding list_on
next_segment def fsa rest segment = refl

none_left : (def : MsdbDef) (at : ℕ) (segment : List ℕ) → first_failure def at [] segment ≡ None
unfolding first_failure
none_left def at segment = refl

segment_left : (def : MsdbDef) (segment : List ℕ) → (list_on def [] segment).segment ≡ segment
unfolding list_on
segment_left def segment = refl

-- a good one more
pub one_more : (fields : List FieldDef) (all : List Fsa) (old : List ℕ) (at : ℕ) (x : Fsa)
    (rest : List Fsa) (now new : List ℕ) → IsSettling fields all old at (x ∷ rest) now
    → 32 ≡ letter_of (of_fields fields) x now → new ≡ (fsa_on (of_fields fields) x now).segment
    → IsSettling fields all old (at + 1) rest new
one_more fields all old at x rest now new left good is def same =
    let l = left def same in
    let segment : new ≡ (fsa_on def x now).segment =
    is ∙ sym (same_segment def fields x now same) in
    record {
      failure = l.failure ∙ good_failure def at x rest now
          (same_letter def fields x now same ∙ sym good) ∙ ap (first_failure def (at + 1) rest)
          (sym segment);
      segment = l.segment ∙ next_segment def x rest now ∙ ap
          (λ s. (list_on def rest s).segment) (sym segment);
    }

-- a bad one
pub bad_one : (fields : List FieldDef) (all : List Fsa) (old : List ℕ) (at : ℕ) (x : Fsa)
    (rest : List Fsa) (now found : List ℕ) → IsSettling fields all old at (x ∷ rest) now
    → (letter_of (of_fields fields) x now == 32) ≡ false → found ≡ found_by (of_fields fields) x now
    → (def : MsdbDef) → def.fields ≡ fields → first_failure def 0 all old ≡ Some
    (record { place = at; found = found })
bad_one fields all old at x rest now found left bad is def same =
    (left def same).failure ∙ bad_failure def at x rest now
    (ap (λ (l : ℕ). l == 32) (same_letter def fields x now same) ∙ bad)
    ∙ ap (λ f. Some (record { place = at; found = f })) (same_found def fields x now same ∙ sym is)

-- the letters of answers
pub good_letter : (r : Result ⊤ Refusal) → is_err r ≡ false → letter_in r ≡ 32
good_letter (Ok done) e = refl
good_letter (Err why) e = cc

pub bad_letter : (r : Result ⊤ Refusal) → is_err r ≡ true → (letter_in r == 32) ≡ false
bad_letter (Ok done) e = cc
bad_letter (Err why) e = no_blank why

-- the list from a place on
pub here : {X : Type 0} (xs : List X) (i : ℕ) (x : X) → i < length xs → x ≡ slice_index_or xs i x
    → drop i xs ≡ x ∷ drop (i + 1) xs
here [] i x within e = absurd (omega (arith, within))
here (y ∷ ys) zero x within e = ap (λ z. z ∷ ys) (sym e)
here (y ∷ ys) (suc i) x within e =
    let next : suc i + 1 ≡ suc (i + 1) = omega arith in
    here ys i x (omega (arith, within)) e ∙ ap (λ n. x ∷ drop n (y ∷ ys)) (sym next)

-- none left
pub all_good : (fields : List FieldDef) (all : List Fsa) (old : List ℕ) (at : ℕ) (now : List ℕ)
    → IsSettling fields all old at [] now
    → (def : MsdbDef) → def.fields ≡ fields → (first_failure def 0 all old ≡ None)
    × (now ≡ (list_on def all old).segment)
all_good fields all old at now left def same = (
  (left def same).failure ∙ none_left def at now,
  sym ((left def same).segment ∙ segment_left def now),
)

-- ---- in place

-- what all come to is what those come to that are left to be read
pub record Settles (fields : List FieldDef) (all : List Fsa) (old : List ℕ) (at : ℕ) (rest now : List ℕ) : Type 0 where
  pub left : List Fsa
  pub reads : Reads rest left
  pub few : at + length left ≤ 255
  pub is_settling : IsSettling fields all old at left now

pub settles_all : (fields : List FieldDef) (bytes old : List ℕ) → IsFsaList bytes
    → Settles fields (fsas_in bytes) old 0 bytes old
settles_all fields bytes old is = record {
  left = fsas_in bytes;
  reads = all_left bytes is;
  few = omega (arith, ap length (list_is bytes is), is.count.1);
  is_settling = at_first fields (fsas_in bytes) old;
}

-- the argument in front
module _ (fields : List FieldDef) (all : List Fsa) (old : List ℕ) (at : ℕ) (rest now : List ℕ) (fsa : Fsa)
    (next : List ℕ) (s : Settles fields all old at rest now) (l : LeftBehind fsa next s.left) where
  in_front : IsSettling fields all old at (fsa ∷ l.others) now
  in_front = subst (λ fsas. IsSettling fields all old at fsas now) l.is s.is_settling

  -- has a place
  pub place_fits : at + 1 ≤ 255
  place_fits = omega (arith, s.few, ap length l.is)

  -- where it is good, the others are left
  pub settles_on : (new : List ℕ) → 32 ≡ letter_of (of_fields fields) fsa now
      → new ≡ (fsa_on (of_fields fields) fsa now).segment → Settles fields all old (at + 1) next new
  settles_on new good is = record {
    left = l.others;
    reads = l.reads;
    few = omega (arith, s.few, ap length l.is);
    is_settling = one_more fields all old at fsa l.others now new in_front good is;
  }

  -- and where it is bad, it is the first that is
  pub settles_not : (found : List ℕ) → (letter_of (of_fields fields) fsa now == 32) ≡ false
      → found ≡ found_by (of_fields fields) fsa now → (def : MsdbDef) → def.fields ≡ fields
      → first_failure def 0 all old ≡ Some (record { place = at; found = found })
  settles_not found bad is = bad_one fields all old at fsa l.others now found in_front bad is

-- where none is left, all are good
pub settles_end : (fields : List FieldDef) (all : List Fsa) (old : List ℕ) (at : ℕ) (rest now : List ℕ)
    (s : Settles fields all old at rest now) → s.left ≡ [] → (def : MsdbDef) → def.fields ≡ fields
    → (first_failure def 0 all old ≡ None) × (now ≡ (list_on def all old).segment)
settles_end fields all old at rest now s none = all_good fields all old at now
    (subst (λ fsas. IsSettling fields all old at fsas now) none s.is_settling)
