-- A fault that `?` passes on, and what holds at Ok.
use Rattle.std.proofs.Common.{◌≡◌, OnOk, IfOk, IsOk, Result, Ok, Err, sym, subst}

-- what holds where it was done holds at Ok
pub at_done : {A B E : Type 0} (r : Result A E) (done : Result B E) (P : Type 0) → OnOk r (IsOk done) → OnOk done P
    → OnOk r P
at_done (Ok x) (Ok y) P i p = p
at_done (Ok x) (Err f) P i p = absurd (cc)
at_done (Err e) done P i p = tt

-- what holds of a part of what was read holds of what is given of it
pub given_of : {A B E : Type 0} (r : Result B E) (read : Result A E) (f : A → B) (P : B → Type 0)
    → IfOk r (λ x. IfOk read (λ y. x ≡ f y)) → OnOk r (IsOk read) → IfOk read (λ y. P (f y)) → IfOk r P
given_of (Ok x) (Ok y) f P e i p = subst P (sym e) p
given_of (Ok x) (Err g) f P e i p = absurd (cc)
given_of (Err g) read f P e i p = tt
