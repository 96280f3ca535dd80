-- Search arguments that are written one after another.
use Rattle.std.proofs.Common.{◌≡◌, refl, sym, ap, ◌∙◌, subst, ℕ, ◌+◌, List, [], ◌∷◌, ◌++◌, length, drop, Bool, ◌==◌, if◌then◌else◌, Option, Some, None}
use Rattle.std.specs.Prelude.{option_map}
use Rattle.std.specs.List.{AllByRecursion}
use Rattle.fp_model.specs.declared.calls.Message.{Message}
use Rattle.fp_model.specs.declared.calls.Call.{Call}
use Rattle.fp_model.specs.declared.calls.Call.TheVariants as call
use Rattle.fp_model.specs.declared.definitions.Defs.{Defs}
use Rattle.fp_model.specs.declared.scripts.FsaText.{FsaText}
use Rattle.fp_model.specs.Fsas.{Fsa, IsFsa, fsa_text, list_text}
use Rattle.fp_model.specs.Operands.{Env, fsas_given, text_of}
use Rattle.fp_model.specs.Values.{◌>>=◌}
use Rattle.fld_calls.proofs.WriteLemmas.{text-step}
use Rattle.txn_machine.specs.inside.Filling.{fsa_given, with_fsa_text}
use Rattle.txn_machine.proofs.FitLemmas.{given_length}

-- one in front of the others, where there are any
abbrev in_front : Fsa → Option (List Fsa) → Option (List Fsa)
in_front fsa others = others >>= (λ list. Some (fsa ∷ list))

then_one : (text : Option (List ℕ)) (make : List ℕ → Fsa) (others : Option (List Fsa))
    → (text >>= (λ t. others >>= (λ list. Some (make t ∷ list)))) ≡ ((text >>= (λ t. Some (make t))) >>=
    (λ fsa. in_front fsa others))
then_one None make others = refl
then_one (Some t) make others = refl

module _ (defs : Defs) (message : Message) (env : Env) where
  -- the first, and then the others
  given_more : (f : FsaText) (fs : List FsaText) → fsas_given defs message env (f ∷ fs) ≡ fsa_given defs message env f
      >>= (λ fsa. in_front fsa (fsas_given defs message env fs))
  given_more f fs = then_one (text_of defs message env f.operand) (λ t. record {
    field = f.field.0;
    status = 32;
    op = f.op;
    operand = t;
  }) (fsas_given defs message env fs)

  first_given : (f : FsaText) (fs : List FsaText) (fsa : Fsa) → fsa_given defs message env f ≡ Some fsa
      → fsas_given defs message env (f ∷ fs) ≡ in_front fsa (fsas_given defs message env fs)
  first_given f fs fsa is = given_more f fs ∙ ap
      (λ (o : Option Fsa). o >>= (λ x. in_front x (fsas_given defs message env fs))) is

  -- where one has no value, none are given
  pub none_given : (f : FsaText) (fs : List FsaText) → fsa_given defs message env f ≡ None
      → fsas_given defs message env (f ∷ fs) ≡ None
  none_given f fs none = given_more f fs ∙ ap
      (λ (o : Option Fsa). o >>= (λ x. in_front x (fsas_given defs message env fs))) none

  -- the text so far and that of the others, with one more written
  pub text_on : (text : List ℕ) (f : FsaText) (fs : List FsaText) (left : ℕ) (fsa : Fsa)
      → fsa_given defs message env f ≡ Some fsa → length fs ≡ left
      → option_map (λ list. with_fsa_text (left == 0) text fsa ++ list_text list) (fsas_given defs message env fs) ≡
      option_map (λ list. text ++ list_text list) (fsas_given defs message env (f ∷ fs))
  text_on text f fs left fsa is long =
      by (fsas_given defs message env fs) refl
      ∙ ap (option_map (λ list. text ++ list_text list)) (sym (first_given f fs fsa is))
    where
      by : (others : Option (List Fsa)) → fsas_given defs message env fs ≡ others
          → option_map (λ list. with_fsa_text (left == 0) text fsa ++ list_text list) others ≡ option_map
          (λ list. text ++ list_text list) (in_front fsa others)
      by None e = refl
      by (Some others) e = ap Some
          (text-step text fsa others left (given_length defs message env fs others e ∙ long))

  -- one that is written, and the others
  pub text_put : (text new : List ℕ) (f : FsaText) (fs : List FsaText) (left : ℕ)
      → option_map (with_fsa_text (left == 0) text) (fsa_given defs message env f) ≡ Some new → length fs ≡ left
      → option_map (λ list. new ++ list_text list) (fsas_given defs message env fs) ≡ option_map
      (λ list. text ++ list_text list) (fsas_given defs message env (f ∷ fs))
  text_put text new f fs left put long = by (fsa_given defs message env f) refl put
    where
      by : (given : Option Fsa) → fsa_given defs message env f ≡ given
          → option_map (with_fsa_text (left == 0) text) given ≡ Some new
          → option_map (λ list. new ++ list_text list) (fsas_given defs message env fs) ≡ option_map
          (λ list. text ++ list_text list) (fsas_given defs message env (f ∷ fs))
      by None e is = absurd cc
      by (Some fsa) e is =
          let same : with_fsa_text (left == 0) text fsa ≡ new = cc in
          subst (λ t. option_map (λ list. t ++ list_text list) (fsas_given defs message env fs) ≡ option_map
          (λ list. text ++ list_text list) (fsas_given defs message env (f ∷ fs))) same
          (text_on text f fs left fsa e long)

  -- one with its operand
  pub one_given : (f : FsaText) (text : List ℕ) → text_of defs message env f.operand ≡ Some text
      → fsa_given defs message env f ≡ Some (record { field = f.field.0; status = 32; op = f.op; operand = text })
  one_given f text is = ap (λ (o : Option (List ℕ)). o >>= (λ t. Some (record {
    field = f.field.0;
    status = 32;
    op = f.op;
    operand = t;
  }))) is

  -- each that is given has a spelling
  abbrev pub AreSpelled : List FsaText → Type 0
  AreSpelled fsas = (list : List Fsa) → fsas_given defs message env fsas ≡ Some list → AllByRecursion IsFsa list

  pub spelled_on : (f : FsaText) (fs : List FsaText)
      → ((fsa : Fsa) → fsa_given defs message env f ≡ Some fsa → IsFsa fsa) → AreSpelled fs → AreSpelled (f ∷ fs)
  spelled_on f fs one others list is = by (fsa_given defs message env f) refl
    where
      behind : (fsa : Fsa) → IsFsa fsa → (given : Option (List Fsa)) → fsas_given defs message env fs ≡ given
          → in_front fsa given ≡ Some list → AllByRecursion IsFsa list
      behind fsa spelled None e whole = absurd cc
      behind fsa spelled (Some more) e whole = let same : fsa ∷ more ≡ list = cc in
          subst (AllByRecursion IsFsa) same (spelled, others more e)

      by : (given : Option Fsa) → fsa_given defs message env f ≡ given → AllByRecursion IsFsa list
      by None e = let none = none_given f fs e in absurd cc
      by (Some fsa) e = behind fsa (one fsa e) (fsas_given defs message env fs) refl
          (sym (first_given f fs fsa e) ∙ is)

-- a field call of a list that is written
pub fld_made : (db : ℕ) (key : List ℕ) (given : Option (List Fsa)) (text : List ℕ)
    → option_map list_text given ≡ Some text → (given >>= (λ list. Some (call.Fld db key (list_text list)))) ≡ Some
    (call.Fld db key text)
fld_made db key None text is = absurd cc
fld_made db key (Some list) text is = let same : list_text list ≡ text = cc in ap
    (λ t. Some (call.Fld db key t)) same
