-- Scripts found by name: places in a list, and in a list with one script more.
use Rattle.std.proofs.Common.{◌≡◌, ℕ, suc, ◌+◌, ◌≤◌, ◌<◌, List, [], ◌∷◌, ◌++◌, length, take, drop, drop-cons, get_or, Bool, true, false, cond, not, nat_lt, Option, Some, None, refl, sym, ap, subst, ◌∙◌, arith}
use Rattle.std.specs.Prelude.{is_some, position, find, slice_get, option_map, option_and_then, ◌==◌}
use Rattle.std.specs.Option.{option_or}
use Rattle.std.specs.Cmp.Lexicographic.{texts_ties}
use Rattle.std.specs.BTreeMap.{BTreeMap, get, is_at}
use Rattle.std.proofs.lemmas.List.{take_more}
use Rattle.fp_model.specs.declared.name.Name.{Name}
use Rattle.fp_model.specs.declared.scripts.Script.{Script}
use Rattle.fp_model.specs.Texts.{same_text}
use Rattle.txn_lang.specs.declared.fault.ScriptFault.{ScriptFault}
use Rattle.txn_lang.specs.declared.fault.ScriptFault.TheVariants as fault
use Rattle.txn_lang.specs.Building.{Refuses}
use Rattle.txn_lang.specs.Grammar.{script_fault, scripts_fault}
use Rattle.txn_lang.specs.inside.Building.{fault_of_script}
use Rattle.txn_tokens.proofs.LookupLemmas.{position_cons as first_place}
use Rattle.txn_lang.specs.Numbers.{name_cmp, place_of, Indexes}
use Rattle.model_laws.proofs.Texts.{same_text_is}

-- ---- places

module _ {X : Type 0} (p : X → Bool) where
  position_cons : (x : X) (xs : List X) → position p (x ∷ xs) ≡ cond (p x) (Some 0) (option_map suc (position p xs))
  position_cons x xs = first_place p x xs

  mapped_none : (b : Bool) (o : Option ℕ) → cond b (Some 0) (option_map suc o) ≡ None → (b ≡ false) × (o ≡ None)
  mapped_none true o is = absurd cc
  mapped_none false None is = (refl, refl)
  mapped_none false (Some n) is = absurd cc

  -- a new element that passes, where none did
  place_new : (xs : List X) (y : X) → position p xs ≡ None → p y ≡ true → position p (xs ++ y ∷ []) ≡ Some (length xs)
  place_new [] y none is = position_cons y [] ∙ rw is refl
  place_new (x ∷ xs) y none is =
      let old = mapped_none (p x) (position p xs) (sym (position_cons x xs) ∙ none) in
      position_cons x (xs ++ y ∷ []) ∙ rw (old.0, place_new xs y old.1 is) refl

  -- a new element that doesn't
  place_old : (xs : List X) (y : X) → p y ≡ false → position p (xs ++ y ∷ []) ≡ position p xs
  place_old [] y is = position_cons y [] ∙ rw is refl
  place_old (x ∷ xs) y is =
      position_cons x (xs ++ y ∷ []) ∙ ap (λ (o : Option ℕ). cond (p x) (Some 0) (option_map suc o)) (place_old xs y is)
      ∙ sym (position_cons x xs)

  here_option_or : (b : Bool) (x : X) (o : Option ℕ) (f : Option X) → is_some o ≡ is_some f
      → is_some (cond b (Some 0) (option_map suc o)) ≡ is_some (cond b (Some x) f)
  here_option_or true x o f is = refl
  here_option_or false x None f is = is
  here_option_or false x (Some n) f is = is

  -- there is a place where something is found
  place_found : (xs : List X) → is_some (position p xs) ≡ is_some (find p xs)
  place_found [] = refl
  place_found (x ∷ xs) = ap is_some (position_cons x xs) ∙ here_option_or (p x) x (position p xs) (find p xs)
      (place_found xs)

  at_place : (b : Bool) (x : X) (xs : List X) (o : Option ℕ) (f : Option X) → option_and_then (slice_get xs) o ≡ f
      → option_and_then (slice_get (x ∷ xs)) (cond b (Some 0) (option_map suc o)) ≡ cond b (Some x) f
  at_place true x xs o f is = refl
  at_place false x xs None f is = is
  at_place false x xs (Some n) f is = is

  -- what stands at the place is what is found
  pub found_at : (xs : List X) → option_and_then (slice_get xs) (position p xs) ≡ find p xs
  found_at [] = refl
  found_at (x ∷ xs) = ap (option_and_then (slice_get (x ∷ xs))) (position_cons x xs) ∙ at_place (p x) x xs
      (position p xs) (find p xs) (found_at xs)

-- ---- names

-- the order ties where the texts are the same
same_name : (a b : Name) → is_at (name_cmp a) b ≡ same_text a.0 b.0
same_name a b = sym (texts_ties a.0 b.0)

name_is : (a b : Name) → same_text a.0 b.0 ≡ true → a ≡ b
name_is a b is = ap (λ (text : List ℕ). record { 0 = text }) (same_text_is a.0 b.0 is)

-- an earlier script has the name, by the map and by the model
pub seen_is : (numbers : BTreeMap Name ℕ) (earlier : List Script) (s : Script) → Indexes numbers earlier
    → fault_of_script (is_some (get name_cmp numbers s.name)) s ≡ script_fault earlier s
seen_is numbers earlier s indexed =
    ap (λ (seen : Bool). fault_of_script seen s) (ap is_some (indexed s.name) ∙ place_found
    (λ x. same_text x.name.0 s.name.0) earlier)

none_seen : (numbers : BTreeMap Name ℕ) (s : Script) (o : Option ℕ) → fault_of_script (is_some o) s ≡ None → o ≡ None
none_seen numbers s None is = refl
none_seen numbers s (Some n) is = absurd cc

next_by : (earlier : List Script) (s : Script) (name : Name) (place : ℕ) (b : Bool) → place ≡ length earlier
    → place_of earlier s.name ≡ None → same_text s.name.0 name.0 ≡ b
    → cond b (Some place) (place_of earlier name) ≡ place_of (earlier ++ s ∷ []) name
next_by earlier s name place true at new is =
    let same = name_is s.name name is in
    let none : place_of earlier name ≡ None = subst (λ (n : Name). place_of earlier n ≡ None) same new in
    ap (λ (k : ℕ). Some k) at ∙ sym (place_new (λ x. same_text x.name.0 name.0) earlier s none is)
next_by earlier s name place false at new is = sym (place_old (λ x. same_text x.name.0 name.0) earlier s is)

-- a map with one script more
pub indexes_more : (old new : BTreeMap Name ℕ) (earlier : List Script) (s : Script) (place : ℕ) → place ≡ length earlier
    → Indexes old earlier
    → fault_of_script (is_some (get name_cmp old s.name)) s ≡ None
    → ((name : Name) → get name_cmp new name ≡ cond (is_at (name_cmp s.name) name) (Some place) (get name_cmp old name))
    → Indexes new (earlier ++ s ∷ [])
indexes_more old new earlier s place at indexed fair put name =
    let unseen : place_of earlier s.name ≡ None = sym (indexed s.name) ∙ none_seen old s (get name_cmp old s.name) fair
    in
    put name ∙ ap (λ (b : Bool). cond b (Some place) (get name_cmp old name)) (same_name s.name name)
    ∙ ap (λ (o : Option ℕ). cond (same_text s.name.0 name.0) (Some place) o) (indexed name)
    ∙ next_by earlier s name place (same_text s.name.0 name.0) at unseen refl

-- ---- faults of scripts, one after another

pub fault_more : (earlier : List Script) (s : Script) (more : List Script) → script_fault earlier s ≡ None
    → scripts_fault earlier (s ∷ more) ≡ scripts_fault (earlier ++ s ∷ []) more
unfolding scripts_fault
fault_more earlier s more fair = ap (λ (o : Option ScriptFault). option_or o (scripts_fault (earlier ++ s ∷ []) more))
    fair

pub fault_here : (earlier : List Script) (s : Script) (more : List Script) (e : ScriptFault)
    → script_fault earlier s ≡ Some e → scripts_fault earlier (s ∷ more) ≡ Some e
unfolding scripts_fault
fault_here earlier s more e is =
    ap (λ (o : Option ScriptFault). option_or o (scripts_fault (earlier ++ s ∷ []) more)) is

pub fault_nothing : (earlier more : List Script) → more ≡ [] → scripts_fault earlier more ≡ None
unfolding scripts_fault
fault_nothing earlier more none = ap (scripts_fault earlier) none

pub no_memory : (e : ScriptFault) (reason : Type 0) → reason → Refuses e reason
no_memory fault.Memory reason h = tt
no_memory (fault.Syntax number) reason h = h
no_memory (fault.UnknownName number) reason h = h
no_memory (fault.TooDear name cost) reason h = h
no_memory (fault.Twice name) reason h = h
no_memory fault.TooLong reason h = h

-- ---- the script at a place

pub front_at : (scripts : List Script) (i : ℕ) (s : Script) → i < length scripts → s ≡ get_or scripts i s
    → take (i + 1) scripts ≡ take i scripts ++ s ∷ []
front_at scripts i s lt is = take_more scripts i s lt ∙ ap (λ (x : Script). take i scripts ++ x ∷ []) (sym is)

pub rest_at : (scripts : List Script) (i : ℕ) (s : Script) → i < length scripts → s ≡ get_or scripts i s
    → drop i scripts ≡ s ∷ drop (i + 1) scripts
rest_at scripts i s lt is =
    let next : suc i ≡ i + 1 = omega arith in
    drop-cons scripts i s lt ∙ ap (λ (x : Script). x ∷ drop (suc i) scripts) (sym is) ∙ ap
    (λ (k : ℕ). s ∷ drop k scripts) next
