-- Arguments tried one after another.
use Rattle.std.proofs.Common.{◌≡◌, refl, sym, ap, ◌∙◌, ℕ, zero, suc, ◌+◌, List, [], ◌∷◌, ◌++◌, drop, append_assoc, Bool, true, false, ◌&&◌, ◌==◌, Some, slice_get}
use Rattle.std.specs.Prelude.{Result, Ok, Err, ⊤, is_ok}
use Rattle.std.proofs.lemmas.List.{append-nil}
use Rattle.fp_model.specs.declared.definitions.MsdbDef.{MsdbDef}
use Rattle.fp_model.specs.FitCalls.{IsFsaList}
use Rattle.fp_model.specs.Fsas.{Fsa, fsa_on, fsas_in, letter_of, list_on, all_blank}
use Rattle.fld_calls.specs.declared.arguments.Fsa.{Fsa as Argument}
use Rattle.fld_calls.specs.declared.field.Refusal.{Refusal}
use Rattle.fld_calls.specs.Forms.{form_of, forms, with_letters}
use Rattle.fld_calls.specs.inside.Refusals.{letter_in}
use Rattle.fld_calls.proofs.Fronts.{LeftBehind, Reads, all_left}
use Rattle.fld_calls.proofs.TryLemmas.{no_blank}
use Rattle.plain_laws.proofs.Truths.{and_assoc}

-- the first of them have their letters, and the others, on the segment as it is, give the rest of the answer
pub record IsTrying (def : MsdbDef) (all : List Argument) (start : List ℕ) (done : List Argument)
    (others : List Argument) (segment : List ℕ) (good : Bool) : Type 0 where
  pub is_good : all_blank (list_on def (forms all) start).letters ≡
      (good && all_blank (list_on def (forms others) segment).letters)
  pub answered : with_letters all (list_on def (forms all) start).letters ≡ done ++ with_letters others
      (list_on def (forms others) segment).letters
  pub made : (list_on def (forms all) start).segment ≡ (list_on def (forms others) segment).segment

pub trying-start : (def : MsdbDef) (all : List Argument) (start : List ℕ) → IsTrying def all start [] all start true
trying-start def all start = record { is_good = refl; answered = refl; made = refl }

-- good exactly where the letter is a blank
pub ok-blank : (r : Result ⊤ Refusal) → (letter_in r == 32) ≡ is_ok r
ok-blank (Ok done) = refl
ok-blank (Err why) = no_blank why

-- one argument more
pub trying-step : (def : MsdbDef) (all : List Argument) (start : List ℕ) (done : List Argument) (a : Argument)
    (others : List Argument) (segment new : List ℕ) (good : Bool) (r : Result ⊤ Refusal)
    → IsTrying def all start done (a ∷ others) segment good
    → letter_in r ≡ letter_of def (form_of a) segment
    → new ≡ (fsa_on def (form_of a) segment).segment
    → IsTrying def all start (done ++ record a { status = letter_in r } ∷ []) others new (good && is_ok r)
unfolding list_on
trying-step def all start done a others segment new good r t letter is =
    rw (← ok-blank r, letter, is) (record {
      is_good = t.is_good ∙ and_assoc good _ _;
      answered = t.answered ∙ sym (append_assoc done (record a { status = letter_of def (form_of a) segment } ∷ []) _);
      made = t.made;
    })

-- none is left
pub trying-end : (def : MsdbDef) (all : List Argument) (start : List ℕ) (done : List Argument) (segment : List ℕ)
    (good : Bool) → IsTrying def all start done [] segment good
    → (good ≡ all_blank (list_on def (forms all) start).letters)
    × ((done ≡ with_letters all (list_on def (forms all) start).letters)
    × (segment ≡ (list_on def (forms all) start).segment))
unfolding list_on
trying-end def all start done segment good t = (
  sym (t.is_good ∙ and_all good),
  (sym (t.answered ∙ append-nil done), sym t.made),
)
  where
    and_all : (b : Bool) → (b && true) ≡ b
    and_all true = refl
    and_all false = refl

-- ---- in place

-- the letters so far, and those of the arguments that are left to be read
pub record Tries (def : MsdbDef) (all : List Fsa) (start letters rest now : List ℕ) : Type 0 where
  pub left : List Fsa
  pub reads : Reads rest left
  pub letters_are : letters ++ (list_on def left now).letters ≡ (list_on def all start).letters
  pub segment_is : (list_on def left now).segment ≡ (list_on def all start).segment

pub tries_all : (def : MsdbDef) (bytes start : List ℕ) → IsFsaList bytes
    → Tries def (fsas_in bytes) start [] bytes start
tries_all def bytes start is = record {
  left = fsas_in bytes;
  reads = all_left bytes is;
  letters_are = refl;
  segment_is = refl;
}

-- a letter more
pub tries_on : (def : MsdbDef) (all : List Fsa) (start letters rest now : List ℕ) (fsa : Fsa) (next : List ℕ)
    (t : Tries def all start letters rest now) → LeftBehind fsa next t.left → (letter : ℕ) (new : List ℕ)
    → letter ≡ letter_of def fsa now → new ≡ (fsa_on def fsa now).segment
    → Tries def all start (letters ++ letter ∷ []) next new
unfolding list_on
tries_on def all start letters rest now fsa next t l letter new is to =
    rw (is, to) (record {
      left = l.others;
      reads = l.reads;
      letters_are = append_assoc letters (letter_of def fsa now ∷ []) _
          ∙ ap (λ fsas. letters ++ (list_on def fsas now).letters) (sym l.is) ∙ t.letters_are;
      segment_is = ap (λ fsas. (list_on def fsas now).segment) (sym l.is) ∙ t.segment_is;
    })

-- where none is left, these are all letters
pub tries_end : (def : MsdbDef) (all : List Fsa) (start letters rest now : List ℕ)
    (t : Tries def all start letters rest now) → t.left ≡ []
    → (letters ≡ (list_on def all start).letters) × (now ≡ (list_on def all start).segment)
unfolding list_on
tries_end def all start letters rest now t none = (
  sym (append-nil letters) ∙ ap (λ fsas. letters ++ (list_on def fsas now).letters) (sym none) ∙ t.letters_are,
  ap (λ fsas. (list_on def fsas now).segment) (sym none) ∙ t.segment_is,
)

-- ---- places in a list

-- the list from an element on
got : {X : Type 0} (xs : List X) (i : ℕ) (x : X) → slice_get xs i ≡ Some x → drop i xs ≡ x ∷ drop (suc i) xs
got [] i x e = absurd cc
got (y ∷ ys) zero x e = let is : y ≡ x = cc e in ap (λ z. z ∷ ys) is
got (y ∷ ys) (suc i) x e = got ys i x e
