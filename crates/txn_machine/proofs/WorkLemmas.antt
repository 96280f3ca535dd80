-- Each step leaves less to do.
use Rattle.std.proofs.Common.{◌≡◌, ◌∙◌, refl, sym, ap, subst, arith, ℕ, zero, suc, ◌+◌, ◌*◌, ◌<◌, ◌≤◌, List, [], ◌∷◌, ◌++◌, map, drop, length, Some}
use Rattle.std.specs.Prelude.{sum, slice_get}
use Rattle.std.proofs.lemmas.List.{drop_all}
use Rattle.std.proofs.lemmas.List.Sums.{sum_by-cons}
use Rattle.fp_model.specs.declared.scripts.Statement.{out-Statement, map-Statement}
use Rattle.fp_model.specs.declared.scripts.Statement.TheOpen.{Statement-F, Set, If, Repeat, Break, Reply, Roll, Get, Fld, Isrt, Repl, Dlet}
use Rattle.fp_model.specs.declared.scripts.Statement.TheFolds.{fold_out-Statement}
use Rattle.txn_machine.specs.inside.Work.{work_step}
use Rattle.fp_model.specs.declared.scripts.Statement.{Statement}
use Rattle.txn_machine.specs.declared.place.Place.{Place}
use Rattle.txn_machine.specs.declared.place.Frame.{Frame}
use Rattle.txn_machine.specs.declared.place.Frame.TheVariants as frame
use Rattle.txn_machine.specs.Places.{inner, block_at}
use Rattle.txn_machine.specs.inside.Work.{statement_work, work_from, work_beyond, work_around, work}
use Rattle.txn_machine.proofs.PlaceLemmas.{block_push}
use Rattle.plain_laws.proofs.Places.{drop_got}

pub work_push : (fs : List Frame) (f : Frame) (block : List Statement)
    → work_around (fs ++ f ∷ []) block ≡ work_around fs block + work_beyond f (block_at fs block)
work_push [] f block = omega arith
work_push (g ∷ gs) f block = let ih = work_push gs f (inner g block) in omega (arith, ih)

-- the work from a place in a block of the last frame
pub work_at : (front : List Frame) (f : Frame) (at : ℕ) (statements : List Statement) (place : Place)
    → place.frames ≡ front ++ f ∷ [] → place.at ≡ at
    → work statements place ≡ work_around front statements + work_beyond f (block_at front statements) + work_from at
    (inner f (block_at front statements))
work_at front f at statements place is here =
    let a : work_around place.frames statements ≡ work_around front statements + work_beyond f
    (block_at front statements) = ap (λ (fs : List Frame). work_around fs statements) is ∙ work_push front f
    statements in
    let b : work_from place.at (block_at place.frames statements) ≡ work_from at (inner f (block_at front statements)) =
    ap (λ (n : ℕ). work_from n (block_at place.frames statements)) here ∙ ap
    (λ (fs : List Frame). work_from at (block_at fs statements)) is ∙ ap (work_from at)
    (block_push front f statements) in
    omega (arith, a, b)

pub closed_less : (front : List Frame) (f : Frame) (behind : ℕ) (statements : List Statement) (old new : Place)
    → old.frames ≡ front ++ f ∷ [] → new.frames ≡ front → new.at ≡ behind
    → ((block : List Statement) → work_from behind block < work_beyond f block)
    → work statements new < work statements old
closed_less front f behind statements old new is to at less =
    let a = work_at front f old.at statements old is refl in
    let b : work statements new ≡ work_around front statements + work_from behind (block_at front statements) =
    ap (λ (fs : List Frame). work_around fs statements + work_from new.at (block_at fs statements)) to ∙ ap
    (λ (n : ℕ). work_around front statements + work_from n (block_at front statements)) at in
    let c = less (block_at front statements) in
    omega (arith, a, b, c)

pub turned_less : (front : List Frame) (behind left : ℕ) (statements : List Statement) (old new : Place)
    → old.frames ≡ front ++ frame.Loop behind (suc left) ∷ [] → new.frames ≡ front ++ frame.Loop behind left ∷ []
    → new.at ≡ 0
    → work statements new < work statements old
turned_less front behind left statements old new is to at =
    let a = work_at front (frame.Loop behind (suc left)) old.at statements old is refl in
    let b = work_at front (frame.Loop behind left) 0 statements new to at in
    let more : suc left * (1 + work_from 0 (inner (frame.Loop behind left) (block_at front statements))) ≡ left *
    (1 + work_from 0 (inner (frame.Loop behind left) (block_at front statements))) +
    (1 + work_from 0 (inner (frame.Loop behind left) (block_at front statements))) = omega arith in
    omega (arith, a, b, more)

-- a frame less
pub popped_less : (statements : List Statement) (old new : List Frame) (f : Frame) → old ≡ new ++ f ∷ []
    → work_around new statements ≤ work_around old statements
popped_less statements old new f is =
    let a : work_around old statements ≡ work_around new statements + work_beyond f (block_at new statements) =
    ap (λ (fs : List Frame). work_around fs statements) is ∙ work_push new f statements in omega (arith, a)

-- out of a loop
pub left_less : (statements : List Statement) (old : List Frame) (new : Place) (f : Frame) (behind left : ℕ)
    → old ≡ new.frames ++ f ∷ [] → f ≡ frame.Loop behind left → new.at ≡ behind
    → work statements new < work_around old statements
left_less statements old new f behind left is kind to =
    let a : work_around old statements ≡ work_around new.frames statements + work_beyond (frame.Loop behind left)
    (block_at new.frames statements) =
    ap (λ (fs : List Frame). work_around fs statements) (is ∙ ap (λ (g : Frame). new.frames ++ g ∷ []) kind) ∙ work_push
    new.frames (frame.Loop behind left) statements in
    let b : work statements new ≡ work_around new.frames statements + work_from behind (block_at new.frames statements)
    = ap (λ (n : ℕ). work_around new.frames statements + work_from n (block_at new.frames statements)) to in
    omega (arith, a, b)

-- nothing is left at the end of a script
pub left_nothing : (statements : List Statement) (old new : List Frame) (end : ℕ) → new ≡ [] → end ≡ length statements
    → work statements (record { frames = new; at = end }) ≤ work_around old statements
left_nothing statements old new end empty is =
    let a : work statements (record { frames = new; at = end }) ≡ 0 =
    ap (λ (fs : List Frame). work statements (record { frames = fs; at = end })) empty ∙ ap
    (λ (rest : List Statement). 0 + sum (map statement_work rest)) (drop_all end statements (omega arith)) in
    omega (arith, a)

-- every statement is some work
step_some : (d : Statement-F ℕ) → 1 ≤ work_step d
step_some (Set variable first rest) = omega arith
step_some (If left comparison right taken otherwise) = omega arith
step_some (Repeat n body) = omega arith
step_some Break = omega arith
step_some (Reply operands) = omega arith
step_some (Roll code) = omega arith
step_some (Get get hold db ssas) = omega arith
step_some (Fld db key fsas) = omega arith
step_some (Isrt db ssas fields) = omega arith
step_some (Repl db fields) = omega arith
step_some (Dlet db) = omega arith

pub some_work : (s : Statement) → 1 ≤ statement_work s
some_work s =
    let a : statement_work s ≡ work_step (map-Statement Statement ℕ statement_work (out-Statement s)) =
    fold_out-Statement ℕ work_step s in
    let b = step_some (map-Statement Statement ℕ statement_work (out-Statement s)) in omega (arith, a, b)

-- a statement, and the rest of its block
pub work_here : (block : List Statement) (at : ℕ) (s : Statement) → slice_get block at ≡ Some s
    → work_from at block ≡ statement_work s + work_from (at + 1) block
work_here block at s here = ap (λ (ss : List Statement). sum (map statement_work ss)) (drop_got block at s here) ∙
    sum_by-cons (λ (n : ℕ). n) (statement_work s) (map statement_work (drop (at + 1) block))
