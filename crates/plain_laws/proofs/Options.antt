-- Values that may be missing.
use Rattle.std.proofs.Common.{◌∙◌, ◌≡◌, ◌≤◌, Bool, Bor, IsSome, List, None, Option, Some, ap, arith, cond, false, is_some, length, nat_lt, refl, rules, sym, true, ℕ}
use Rattle.std.specs.Option.{option_copied, option_map_or}
use Rattle.std.specs.Prelude.{IfSome, if◌then◌else◌}

-- the value that a test gives
pub found_is : (test : Bool) (n i : ℕ) → cond test (Some n) None ≡ Some i → n ≡ i
found_is true n i e = search rules
found_is false n i e = search rules

-- a value is there
pub is_some_of : {T : Type 0} (o : Option T) (x : T) → o ≡ Some x → IsSome o
is_some_of (Some y) x e = refl
is_some_of None x e = absurd cc

-- what the test for a value says
pub is_some_there : {A : Type 0} (o : Option A) → is_some o ≡ true → (x : A) × (o ≡ Some x)
is_some_there None e = cc
is_some_there (Some x) e = (x, refl)

-- a place that is none is at the end or past it
pub none_is_past : (n m : ℕ) → cond (nat_lt n m) (Some n) None ≡ None → m ≤ n
none_is_past n m e = grind (arith, rules)

-- none has no value
pub none_isnt_some : {A : Type 0} (o : Option A) → o ≡ None → IsSome o → ⊥
none_isnt_some o e h = let q : false ≡ true = ap is_some (sym e) ∙ h in absurd (cc)

-- none of the keys is one that there may be
pub none_passes : (test : List ℕ → Bool) (key : Option (List ℕ)) → ((k : List ℕ) → test k ≡ false)
    → option_map_or test key false ≡ false
none_passes test None none = refl
none_passes test (Some k) none = none k

-- a segment that is shown
pub shown_has : (n : ℕ) (o : Option (Bor (List ℕ))) (found : Option (List ℕ)) → option_copied o ≡ found
    → ((s : List ℕ) → found ≡ Some s → length s ≡ n) → IfSome o (λ s. length s.now ≡ n)
shown_has n None found is has = tt
shown_has n (Some s) found is has = has s.now (sym is)

-- a value is not none
pub some_isnt_none : {A : Type 0} (x : A) → Some x ≡ None → ⊥
some_isnt_none x e = cc

-- what is there
pub some_value : {T : Type 0} (o : Option T) → IsSome o → (x : T) × (o ≡ Some x)
some_value None is = cc
some_value (Some x) is = (x, refl)

-- of what there is more is said
pub some_weaker : {A : Type 0} (o : Option A) (R Q : A → Type 0) → ((x : A) → R x → Q x) → IfSome o R → IfSome o Q
some_weaker (Some x) R Q f h = f x h
some_weaker None R Q f h = tt

-- what a test gives, where it gives a value
pub under_test : {A : Type 0} (b : Bool) (r : Option A) (y : A) → (if b then r else None) ≡ Some y → (b ≡ true) × (r ≡ Some y)
under_test true r y e = (refl, e)
under_test false r y e = absurd cc
