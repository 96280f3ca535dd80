-- Lists with a place for each database: what is found there, and what a write changes.
use Rattle.std.proofs.Common.{◌≡◌, ◌∙◌, refl, sym, ap, subst, arith, ℕ, zero, suc, ◌+◌, ◌<◌, List, [], ◌∷◌, ◌++◌, length, Bool, true, false, cond, Option, Some, None}
use Rattle.std.specs.Prelude.{slice_get, slice_set, find, option_map, ◌==◌}
use Rattle.std.specs.List.{AllByRecursion}
use Rattle.std.proofs.lemmas.Bool.{eqb-true, eq-eqb, ne_eqb}
use Rattle.fp_model.specs.Operands.{ShownSegment}
use Rattle.txn_machine.specs.declared.shown.Shown.{Shown}
use Rattle.txn_machine.specs.declared.shown.Gets.{Gets}
use Rattle.fp_model.specs.declared.definitions.Defs.{Defs}
use Rattle.txn_machine.specs.Fit.{AreShown, IsShownSegment}
use Rattle.txn_machine.specs.inside.Alike.{ShowAlike}
use Rattle.txn_machine.specs.Knowing.{segment_on, segments_from}
use Rattle.txn_machine.specs.inside.Knowing.{in_place}

-- an empty place more
pub segments_push : (db : ℕ) (places : List (Option Shown))
    → segments_from db (places ++ None ∷ []) ≡ segments_from db places
segments_push db [] = refl
segments_push db (None ∷ others) = segments_push (db + 1) others
segments_push db (Some shown ∷ others) = ap (λ (rest : List ShownSegment). segment_on db shown ∷ rest)
    (segments_push (db + 1) others)

-- ---- a look

-- an earlier database isn't found
none_below : (places : List (Option Shown)) (db k : ℕ) → k < db → find (λ s. s.db == k) (segments_from db places) ≡ None
none_below [] db k lt = refl
none_below (None ∷ others) db k lt = none_below others (db + 1) k (omega arith)
none_below (Some shown ∷ others) db k lt =
    let other : (db == k) ≡ false = ne_eqb db k (λ e. absurd (omega arith)) in
    rw other (none_below others (db + 1) k (omega arith))

-- what is found stands at its place
pub found_from : (places : List (Option Shown)) (i db k : ℕ) → k ≡ db + i
    → find (λ s. s.db == k) (segments_from db places) ≡ option_map (segment_on k) (in_place (slice_get places i))
found_from [] i db k is = refl
found_from (None ∷ others) zero db k is = none_below others (db + 1) k (omega arith)
found_from (Some shown ∷ others) zero db k is = let e : k ≡ db = omega arith in
    let same : (db == k) ≡ true = eq-eqb db k (sym e) in rw (same, e) refl
found_from (None ∷ others) (suc i) db k is = found_from others i (db + 1) k (omega arith)
found_from (Some shown ∷ others) (suc i) db k is =
    let other : (db == k) ≡ false = ne_eqb db k (λ e. absurd (omega arith)) in
    rw other (found_from others i (db + 1) k (omega arith))

-- a segment of another database in front
pub found_behind : (s : ShownSegment) (places : List (Option Shown)) (k : ℕ) → (s.db == k) ≡ false
    → find (λ s. s.db == k) (s ∷ segments_from 0 places) ≡ option_map (segment_on k) (in_place (slice_get places k))
found_behind s places k other = rw other (found_from places k 0 k (omega arith))

-- ---- a write

same_twice : (b : Bool) (x y : Option ShownSegment) (rest : Option ShownSegment)
    → cond b x rest ≡ cond b x (cond b y rest)
same_twice true x y rest = refl
same_twice false x y rest = refl

-- two databases that aren't the same
apart : (db at k : ℕ) (b c : Bool) (x y rest : Option ShownSegment) → db < at → (db == k) ≡ b → (at == k) ≡ c
    → cond b x (cond c y rest) ≡ cond c y (cond b x rest)
apart db at k true true x y rest lt h g = absurd (let e : db ≡ k = eqb-true db k h in
    let f : at ≡ k = eqb-true at k g in omega arith)
apart db at k true false x y rest lt h g = refl
apart db at k false c x y rest lt h g = refl

-- what is found behind a write
pub found_set : (places : List (Option Shown)) (i db at k : ℕ) (shown : Shown) → i < length places → at ≡ db + i
    → find (λ s. s.db == k) (segments_from db (slice_set places i (Some shown))) ≡ cond (at == k)
    (Some (segment_on at shown)) (find (λ s. s.db == k) (segments_from db places))
found_set [] i db at k shown lt is = absurd (omega arith)
found_set (None ∷ others) zero db at k shown lt is = let e : at ≡ db = omega arith in rw e refl
found_set (Some old ∷ others) zero db at k shown lt is = let e : at ≡ db = omega arith in
    rw e (same_twice (db == k) _ _ _)
found_set (None ∷ others) (suc i) db at k shown lt is =
    found_set others i (db + 1) at k shown (omega arith) (omega arith)
found_set (Some old ∷ others) (suc i) db at k shown lt is =
    let less : db < at = omega arith in
    ap (λ (rest : Option ShownSegment). cond (db == k) (Some (segment_on db old)) rest)
    (found_set others i (db + 1) at k shown (omega arith) (omega arith))
    ∙ apart db at k (db == k) (at == k) _ _ _ less refl refl

-- what holds of each segment holds behind a write
pub all_set : (P : ShownSegment → Type 0) (places : List (Option Shown)) (i db at : ℕ) (shown : Shown)
    → i < length places → at ≡ db + i → P (segment_on at shown)
    → AllByRecursion P (segments_from db places) → AllByRecursion P (segments_from db (slice_set places i (Some shown)))
all_set P [] i db at shown lt is h all = absurd (omega arith)
all_set P (None ∷ others) zero db at shown lt is h all = let e : at ≡ db = omega arith in
    (subst (λ (n : ℕ). P (segment_on n shown)) e h, all)
all_set P (Some old ∷ others) zero db at shown lt is h all = let e : at ≡ db = omega arith in
    (subst (λ (n : ℕ). P (segment_on n shown)) e h, all.1)
all_set P (None ∷ others) (suc i) db at shown lt is h all =
    all_set P others i (db + 1) at shown (omega arith) (omega arith) h all
all_set P (Some old ∷ others) (suc i) db at shown lt is h all =
    (all.0, all_set P others i (db + 1) at shown (omega arith) (omega arith) h all.1)

-- the newest moves to its place among the older ones
pub show_moves : (s : ShownSegment) (places : List (Option Shown)) (i at : ℕ) (last : Shown) → i ≡ at
    → i < length places
    → ShowAlike (s ∷ segment_on at last ∷ segments_from 0 places) (s ∷ segments_from 0 (slice_set places i (Some last)))
show_moves s places i at last is lt = record {
  each = λ k. ap (λ (rest : Option ShownSegment). cond (s.db == k) (Some s) rest)
      (sym (found_set places i 0 at k last lt (omega arith)));
  first = refl;
}

pub shown_set : (defs : Defs) (gets : Gets) (i db : ℕ) (newest : Shown) → i ≡ gets.db → i < length gets.older
    → AreShown defs (Some gets) → IsShownSegment defs (segment_on db newest)
    → AreShown defs (Some (record { db = db; newest = newest; older = slice_set gets.older i (Some gets.newest) }))
shown_set defs gets i db newest is lt all h = record {
  each = (
    h,
    all_set (IsShownSegment defs) gets.older i 0 gets.db gets.newest lt (omega arith) all.each.0
        all.each.1,
  );
}
