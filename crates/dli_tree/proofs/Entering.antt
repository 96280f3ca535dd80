-- What a search finds below a step: what it looks for there, behind that step.
use Rattle.std.proofs.Common.{◌≡◌, ℕ, List, [], ◌∷◌, ◌++◌, map, Option, Some, None, Bool, true, false, ◌&&◌, ◌==◌, refl, sym, ap, ◌∙◌}
use Rattle.std.specs.Prelude.{find, flat_map, option_and_then, option_map, is_some, if◌then◌else◌}
use Rattle.std.specs.List.{list_all}
use Rattle.std.specs.Option.{option_copied, option_map_or}
use Rattle.fp_model.specs.declared.calls.Ssa.{Ssa}
use Rattle.fp_model.specs.Order.{Occurrence, Step, one_down, path_precedes, is_proper_prefix, same_step, step_precedes, under}
use Rattle.dli_tree.specs.declared.aim.Aim.{Aim}
use Rattle.dli_tree.specs.Paths.{steps_of}
use Rattle.dli_tree.specs.inside.Aims.{Search, agrees, aim_of, ends_below, ends_here, entered, inside_step, is_inside, is_past, looks_for, past_step, wants}
use Rattle.plain_laws.proofs.Truths.{and_false}
use Rattle.plain_laws.proofs.Alls.{find_alike, find_none}

-- ---- nothing stands before or within a path of no steps

pub none_behind : (ss : List Step) → path_precedes ss [] ≡ false
none_behind [] = refl
none_behind (s ∷ ss) = refl

pub none_within : (ss : List Step) → is_proper_prefix ss [] ≡ false
none_within [] = refl
none_within (s ∷ ss) = refl

-- ---- one step down

abbrev or_false : {X : Type 0} → (X → Bool) → Option X → Bool
or_false f o = option_map_or f o false

past_down : (behind : Option (List Step)) (d : Step) (rest : List Step)
    → is_past behind (d ∷ rest) ≡ or_false (λ b. is_past b rest) (past_step behind d)
past_down None d rest = refl
past_down (Some []) d rest = refl
past_down (Some (s ∷ ss)) d rest = by (same_step s d) (step_precedes s d)
  where
    by : (a b : Bool) → (if a then path_precedes ss rest else b) ≡ or_false (λ p. is_past p rest)
        (if a then Some (Some ss) else if b then Some None else None)
    by true b = refl
    by false true = refl
    by false false = refl

inside_down : (within : Option (List Step)) (d : Step) (rest : List Step)
    → is_inside within (d ∷ rest) ≡ or_false (λ b. is_inside b rest) (inside_step within d)
inside_down None d rest = refl
inside_down (Some []) d rest = refl
inside_down (Some (s ∷ ss)) d rest = by (same_step s d)
  where
    by : (a : Bool) → (a && is_proper_prefix ss rest) ≡ or_false (λ p. is_inside p rest)
        (if a then Some (Some ss) else None)
    by true = refl
    by false = refl

-- a path that begins with a step is looked for exactly where its rest is, below the step
pub wants_down : (aim : Search) (d : Step) (rest : List Step)
    → wants aim (d ∷ rest) ≡ or_false (λ below. wants below rest) (entered aim d)
wants_down aim d rest = by (agrees aim.ssas d) (past_step aim.behind d) (inside_step aim.within d)
    (past_down aim.behind d rest) (inside_down aim.within d rest)
  where
    by : (a : Bool) (behind within : Option (Option (List Step)))
        → is_past aim.behind (d ∷ rest) ≡ or_false (λ b. is_past b rest) behind
        → is_inside aim.within (d ∷ rest) ≡ or_false (λ b. is_inside b rest) within
        → ((is_past aim.behind (d ∷ rest) && is_inside aim.within (d ∷ rest)) &&
        (ends_below aim.ssas d.segment rest && (a && list_all (agrees aim.ssas) rest)))
        ≡ or_false (λ below. wants below rest) (if a then option_and_then
        (λ b. option_map (λ w. record aim { above = d.segment; behind = b; within = w }) within) behind else None)
    by true (Some b) (Some w) e f = rw (e, f) refl
    by true (Some b) None e f = rw (e, f) (rw (and_false (is_past b rest)) refl)
    by true None within e f = rw e refl
    by false behind within e f = rw (and_false (ends_below aim.ssas d.segment rest))
        (and_false (is_past aim.behind (d ∷ rest) && is_inside aim.within (d ∷ rest)))

-- ---- finding

find_mapped : {X Y : Type 0} (f : X → Y) (p : Y → Bool) (xs : List X)
    → find p (map f xs) ≡ option_map f (find (λ x. p (f x)) xs)
find_mapped f p [] = refl
find_mapped {X} {Y} f p (x ∷ xs) = by (p (f x)) (find_mapped f p xs)
  where
    by : (b : Bool) → find p (map f xs) ≡ option_map f (find (λ x. p (f x)) xs)
        → (if b then Some (f x) else find p (map f xs)) ≡ option_map f (if b then Some x else find (λ x. p (f x)) xs)
    by true e = refl
    by false e = e

-- what is found below a step, with the step in front
abbrev pub found_below : Step → List Occurrence → Option Search → Option Occurrence
found_below d below o = option_map_or (λ aim. option_map (one_down d) (find (looks_for aim) below)) o None

pub find_under : (aim : Search) (d : Step) (below : List Occurrence)
    → find (looks_for aim) (under d below) ≡ found_below d below (entered aim d)
find_under aim d below =
    find_mapped (one_down d) (looks_for aim) below
    ∙ ap (option_map (one_down d)) (find_alike (λ o. looks_for aim (one_down d o))
    (λ o. or_false (λ a. wants a o.path) (entered aim d)) below (λ o. wants_down aim d o.path))
    ∙ by (entered aim d)
  where
    by : (o : Option Search) → option_map (one_down d) (find (λ x. or_false (λ a. wants a x.path) o) below) ≡
        found_below d below o
    by None = ap (option_map (one_down d)) (find_none (λ x. false) below (λ x. refl))
    by (Some a) = refl

-- ---- the segment itself

pub not_met : (aim : Search) → (aim.behind ≡ None → aim.within ≡ None → ⊥) → wants aim [] ≡ false
not_met aim h = by aim.behind aim.within refl refl
  where
    by : (behind within : Option (List Step)) → aim.behind ≡ behind → aim.within ≡ within
        → ((is_past behind [] && is_inside within []) && (ends_here aim.ssas aim.above && true)) ≡ false
    by None None e f = absurd (h e f)
    by None (Some ws) e f = rw (none_within ws) refl
    by (Some ss) within e f = rw (none_behind ss) refl

pub not_behind : (aim : Aim) → is_some aim.behind ≡ true → wants (aim_of aim) [] ≡ false
not_behind aim e = by aim.behind e
  where
    by : (behind : Option _) → is_some behind ≡ true
        → ((is_past (option_map steps_of (option_copied behind)) [] && is_inside (aim_of aim).within []) &&
        (ends_here (aim_of aim).ssas aim.above && true)) ≡ false
    by None e = cc
    by (Some ss) e = rw (none_behind (steps_of ss.now)) refl

pub not_within : (aim : Aim) → is_some aim.within ≡ true → wants (aim_of aim) [] ≡ false
not_within aim e = by aim.within e
  where
    by : (within : Option _) → is_some within ≡ true
        → ((is_past (aim_of aim).behind [] && is_inside (option_map steps_of (option_copied within)) []) &&
        (ends_here (aim_of aim).ssas aim.above && true)) ≡ false
    by None e = cc
    by (Some ss) e = rw (none_within (steps_of ss.now))
        (ap (λ (b : Bool). b && (ends_here (aim_of aim).ssas aim.above && true))
        (and_false (is_past (aim_of aim).behind [])))
