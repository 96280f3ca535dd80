-- What is said of a result, for both of its variants.
use Rattle.std.proofs.Common.{◌∙◌, ◌≡◌, Err, IfOk, Ok, OnOk, Result, ap, sym}
use Rattle.std.specs.Prelude.{OnErr, ◌≡◌, Result, Ok, Err, IsOk, is_ok, if◌then◌else◌}

-- what holds anyhow holds at an Err
pub at_err : {T E : Type 0} (r : Result T E) (P : Type 0) → P → OnErr r P
at_err (Ok x) P p = tt
at_err (Err e) P p = p

-- and at an Ok
pub at_ok : {T F : Type 0} (r : Result T F) (P : Type 0) → P → OnOk r P
at_ok (Ok x) P p = p
at_ok (Err e) P p = tt

-- what follows from two facts of a value
pub both_ok : {A E : Type 0} (r : Result A E) (P Q R : A → Type 0) → ((a : A) → P a → Q a → R a) → IfOk r P → IfOk r Q
    → IfOk r R
both_ok (Ok a) P Q R f p q = f a p q
both_ok (Err e) P Q R f p q = tt

-- what follows from a fact of the value
pub if_ok_by : {A E : Type 0} (P Q : A → Type 0) (r : Result A E) → ((a : A) → P a → Q a) → IfOk r P → IfOk r Q
if_ok_by P Q (Ok a) f p = f a p
if_ok_by P Q (Err e) f p = tt

-- the same, the fact first
pub if_ok_then : {A E : Type 0} {P Q : A → Type 0} (r : Result A E) → IfOk r P → ((a : A) → P a → Q a) → IfOk r Q
if_ok_then (Ok a) p f = f a p
if_ok_then (Err e) p f = tt

-- the same, the result first
pub if_ok_with : {T E : Type 0} (r : Result T E) (P Q : T → Type 0) → IfOk r P → ((x : T) → P x → Q x) → IfOk r Q
if_ok_with (Ok x) P Q p f = f x p
if_ok_with (Err e) P Q p f = tt

-- what holds anyhow, at an Err
pub on_err : {A E P : Type 0} (r : Result A E) → P → OnErr r P
on_err (Ok x) p = tt
on_err (Err e) p = p

-- what follows at an Err
pub on_err_by : {A E : Type 0} (P Q : Type 0) (r : Result A E) → (P → Q) → OnErr r P → OnErr r Q
on_err_by P Q (Ok a) f h = tt
on_err_by P Q (Err e) f h = f h

-- what follows at an Ok
pub on_ok : {A E : Type 0} {P Q : Type 0} (r : Result A E) → (P → Q) → OnOk r P → OnOk r Q
on_ok (Ok done) f p = f p
on_ok (Err e) f p = tt

-- the same, with both facts told
pub on_ok_by : {A E : Type 0} (P Q : Type 0) (r : Result A E) → (P → Q) → OnOk r P → OnOk r Q
on_ok_by P Q (Ok a) f h = f h
on_ok_by P Q (Err e) f h = tt

-- the same, the result first
pub on_ok_map : {A E : Type 0} (r : Result A E) (P Q : Type 0) → (P → Q) → OnOk r P → OnOk r Q
on_ok_map (Ok a) P Q f p = f p
on_ok_map (Err e) P Q f p = tt

-- the fault that a `?` hands on is that of the call
pub same_fault : {A B E : Type 0} (r : Result A E) (x y z : E) → r ≡ Err z → z ≡ x → r ≡ Err y
    → (let s : Result B E = Err x in s) ≡ Err y
same_fault {A} {B} {E} r x y z p q e =
    let h : (let s : Result A E = Err z in s) ≡ Err y = sym p ∙ e in
    let k : z ≡ y = cc in
    let m : x ≡ y = sym q ∙ k in
    ap (λ (f : E). (let s : Result B E = Err f in s)) m

-- a call that is sure to succeed did
pub is_ok_then : {A E : Type 0} (r : Result (Unit {0}) E) (x a b : A) → IsOk r → x ≡ (if is_ok r then a else b) → x ≡ a
is_ok_then (Ok u) x a b ok e = e
is_ok_then (Err why) x a b ok e = absurd cc
