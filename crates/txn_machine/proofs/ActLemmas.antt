-- What a deed does to where the script is, and to the work that is left.
use Rattle.std.proofs.Common.{◌≡◌, ◌∙◌, refl, sym, ap, subst, arith, ℕ, zero, suc, ◌+◌, ◌-◌, ◌*◌, ◌<◌, ◌≤◌, List, [], ◌∷◌, ◌++◌, map, drop, length, Bool, Option, Some, None, Result, Ok, Err}
use Rattle.std.specs.Prelude.{slice_get, IfOk, IfSome, OnOk, OnErr}
use Rattle.std.specs.declared.alloc.AllocError.{AllocError}
use Rattle.fp_model.specs.declared.name.Name.{Name}
use Rattle.fp_model.specs.declared.calls.Message.{Message}
use Rattle.fp_model.specs.declared.calls.Answer.{Answer}
use Rattle.fp_model.specs.declared.calls.Call.{Call}
use Rattle.fp_model.specs.declared.definitions.Defs.{Defs}
use Rattle.fp_model.specs.declared.scripts.Statement.{Statement, out-Statement}
use Rattle.fp_model.specs.Operands.{Env, with_setting}
use Rattle.fp_model.specs.Asking.{Way, Goes, Leaves, Ends, Ask, Asks, Replies, Rolls, ended, goes_on, in_order, loops_on, times, called, run}
use Rattle.txn_machine.specs.declared.doing.Deed.{Deed}
use Rattle.txn_machine.specs.declared.doing.Deed.TheVariants as deed
use Rattle.txn_machine.specs.declared.known.Known.{Known}
use Rattle.txn_machine.specs.declared.place.Place.{Place}
use Rattle.txn_machine.specs.declared.place.Frame.{Frame}
use Rattle.txn_machine.specs.declared.place.Frame.TheVariants as frame
use Rattle.txn_machine.specs.declared.program.Program.{Program}
use Rattle.txn_machine.specs.declared.program.Wait.{Wait}
use Rattle.txn_machine.specs.declared.program.Next.{Next}
use Rattle.txn_machine.specs.declared.program.Next.TheVariants as next
use Rattle.txn_machine.specs.inside.Alike.{AreAlike}
use Rattle.txn_machine.specs.inside.Doing.{way_of, block_of}
use Rattle.txn_machine.specs.Knowing.{env_of, lesson_of}
use Rattle.txn_machine.specs.Places.{block_at, block_in, choice_in, loop_in, inner, from_place, beyond, around, end_from, way_from}
use Rattle.txn_machine.specs.Running.{end_of, end_at_call, IsAsked}
use Rattle.txn_machine.specs.inside.Running.{StandsAtCall}
use Rattle.txn_machine.specs.inside.Stepping.{ComesAlike, Costs, IsDeed}
use Rattle.txn_machine.specs.inside.Work.{statement_work, work_from, work_beyond, work_around, work}
use Rattle.txn_machine.proofs.AlikeLemmas.{same_end}
use Rattle.txn_machine.proofs.PlaceLemmas.{around_push, around_end, block_push}
use Rattle.txn_machine.proofs.WorkLemmas.{work_here, work_push, work_at, some_work}
use Rattle.plain_laws.proofs.Places.{drop_got}

suc_times : (n m : ℕ) → suc n * m ≡ n * m + m
suc_times n m = omega arith

module _ (defs : Defs) (statements : List Statement) (message : Message) (end : ℕ) (old : Program) (did : Deed)
    (d : IsDeed defs statements message end old did) where
  abbrev block_of_old : List Statement
  block_of_old = block_at old.place.frames statements

  -- what follows behind a deed
  abbrev end_behind : Deed → List Answer → Ask
  end_behind x more = ended (around defs message old.place.frames statements
      (goes_on (way_of defs message d.statement x (env_of old.known more))
      (from_place defs message (old.place.at + 1) block_of_old)))

  -- from the place on comes what the statement there does
  pub here : (x : Deed) → did ≡ x → (more : List Answer)
      → end_of defs statements message old more ≡ end_behind x more
  here x is more =
      ap (λ (ss : List Statement). ended (around defs message old.place.frames statements
      (in_order (map (run defs message) ss) (env_of old.known more))))
      (drop_got block_of_old old.place.at d.statement d.here)
      ∙ ap (λ (way : Way). ended (around defs message old.place.frames statements
      (goes_on way (from_place defs message (old.place.at + 1) block_of_old)))) (d.does more)
      ∙ ap (λ (y : Deed). end_behind y more) is

  -- the work from the place on
  pub work_old : work statements old.place ≡ work_around old.place.frames statements +
      (statement_work d.statement + work_from (old.place.at + 1) block_of_old)
  work_old = ap (λ (n : ℕ). work_around old.place.frames statements + n)
      (work_here block_of_old old.place.at d.statement d.here)

  -- ---- on to the next statement

  pub passed : (new : Program) (behind : ℕ) → behind ≡ old.place.at + 1 → did ≡ deed.Pass
      → new ≡ record old { place = record old.place { at = behind } } → ComesAlike defs statements message old new
  passed new behind next is to = record {
    comes = λ more.
        here deed.Pass is more
        ∙ ap (λ (n : ℕ). end_from defs message statements (record old.place { at = n }) (env_of old.known more))
        (sym next)
        ∙ ap (λ (p : Program). end_of defs statements message p more) (sym to);
  }

  pub next_less : (place : Place) (behind : ℕ) → behind ≡ old.place.at + 1 → place ≡ record old.place { at = behind }
      → work statements place < work statements old.place
  next_less place behind next to =
      let a : work statements place ≡ work_around old.place.frames statements + work_from (old.place.at + 1)
      block_of_old = ap (work statements) to ∙ ap
      (λ (n : ℕ). work_around old.place.frames statements + work_from n block_of_old) next in
      let b = work_old in
      let c = some_work d.statement in
      omega (arith, a, b, c)

  -- ---- a variable

  pub was_set : (new : Program) (behind : ℕ) (name : Name) (text : List ℕ) → behind ≡ old.place.at + 1
      → did ≡ deed.Set name text
      → new.place ≡ record old.place { at = behind }
      → ((more : List Answer) → AreAlike (with_setting name.0 text (env_of old.known more)) (env_of new.known more))
      → ComesAlike defs statements message old new
  was_set new behind name text next is to alike = record {
    comes = λ more.
        here (deed.Set name text) is more
        ∙ same_end defs message statements (record old.place { at = old.place.at + 1 })
        (with_setting name.0 text (env_of old.known more)) (env_of new.known more)
        (record { alike = alike more; answers = refl })
        ∙ ap (λ (n : ℕ). end_from defs message statements (record old.place { at = n }) (env_of new.known more))
        (sym next)
        ∙ ap (λ (place : Place). end_from defs message statements place (env_of new.known more)) (sym to);
  }

  -- nothing has changed that matters
  pub unchanged : (new : Program) → new.place ≡ old.place
      → ((more : List Answer) → env_of new.known more ≡ env_of old.known more)
      → ComesAlike defs statements message old new
  unchanged new to env = record {
    comes = λ more. ap (λ (place : Place). end_from defs message statements place (env_of old.known more)) (sym to) ∙
        ap (λ (e : Env). end_from defs message statements new.place e) (sym (env more));
  }

  pub set_alike_program : (r : Result (Option Next) AllocError) (new : Program) (behind : ℕ) (name : Name)
      (text : List ℕ) → behind ≡ old.place.at + 1 → did ≡ deed.Set name text
      → OnOk r (new.place ≡ record old.place { at = behind }) → OnErr r (new.place ≡ old.place)
      → ((more : List Answer) → OnOk r (AreAlike (with_setting name.0 text (env_of old.known more))
      (env_of new.known more))) → ((more : List Answer) → OnErr r (env_of new.known more ≡ env_of old.known more))
      → ComesAlike defs statements message old new
  set_alike_program (Ok given) new behind name text next is to stays alike err =
      was_set new behind name text next is to alike
  set_alike_program (Err e) new behind name text next is to stays alike err = unchanged new stays err

  pub set_less : (r : Result (Option Next) AllocError) (place : Place) (behind : ℕ) → behind ≡ old.place.at + 1
      → OnOk r (place ≡ record old.place { at = behind })
      → IfOk r (λ given. given ≡ None → work statements place < work statements old.place)
  set_less (Ok given) place behind next to = λ nothing. next_less place behind next to
  set_less (Err e) place behind next to = tt

  -- ---- into a block

  -- the statement at the place is the one before the place behind it
  before : (behind : ℕ) → behind ≡ old.place.at + 1 → slice_get block_of_old (behind - 1) ≡ Some d.statement
  before behind next = let back : behind - 1 ≡ old.place.at = omega arith in ap (slice_get block_of_old) back ∙ d.here

  inner_choice : (behind : ℕ) (holds : Bool) → behind ≡ old.place.at + 1
      → inner (frame.Choice behind holds) block_of_old ≡ choice_in holds (out-Statement d.statement)
  inner_choice behind holds next = ap (block_in (choice_in holds)) (before behind next)

  inner_loop : (behind left : ℕ) → behind ≡ old.place.at + 1
      → inner (frame.Loop behind left) block_of_old ≡ loop_in (out-Statement d.statement)
  inner_loop behind left next = ap (block_in loop_in) (before behind next)

  -- from the first statement of a new block on
  entered : (f : Frame) (place : Place) (env : Env) → place ≡ record { frames = old.place.frames ++ f ∷ []; at = 0 }
      → end_from defs message statements place env ≡ ended
      (around defs message old.place.frames statements
      (beyond defs message f block_of_old (block_of defs message (inner f block_of_old) env)))
  entered f place env to =
      ap (λ (p : Place). end_from defs message statements p env) to
      ∙ ap (λ (b : List Statement). ended (around defs message (old.place.frames ++ f ∷ []) statements
      (block_of defs message b env))) (block_push old.place.frames f statements)
      ∙ ap ended (around_push defs message old.place.frames f statements
      (block_of defs message (inner f block_of_old) env))

  chose : (new : Program) (behind : ℕ) (holds : Bool) → behind ≡ old.place.at + 1 → did ≡ deed.Choose holds
      → new ≡ record old { place = record { frames = old.place.frames ++ frame.Choice behind holds ∷ []; at = 0 } }
      → ComesAlike defs statements message old new
  chose new behind holds next is to = record {
    comes = λ more.
        here (deed.Choose holds) is more
        ∙ ap (λ (n : ℕ). ended (around defs message old.place.frames statements
        (goes_on (block_of defs message (choice_in holds (out-Statement d.statement)) (env_of old.known more))
        (from_place defs message n block_of_old)))) (sym next)
        ∙ ap (λ (b : List Statement). ended (around defs message old.place.frames statements
        (goes_on (block_of defs message b (env_of old.known more))
        (from_place defs message behind block_of_old)))) (sym (inner_choice behind holds next))
        ∙ sym (entered (frame.Choice behind holds) (record
        { frames = old.place.frames ++ frame.Choice behind holds ∷ []; at = 0 }) (env_of old.known more) refl)
        ∙ ap (λ (p : Program). end_of defs statements message p more) (sym to);
  }

  repeats : (new : Program) (behind left : ℕ) → behind ≡ old.place.at + 1 → did ≡ deed.Repeat left
      → new ≡ record old { place = record { frames = old.place.frames ++ frame.Loop behind left ∷ []; at = 0 } }
      → ComesAlike defs statements message old new
  repeats new behind left next is to = record {
    comes = λ more.
        here (deed.Repeat left) is more
        ∙ ap (λ (n : ℕ). ended (around defs message old.place.frames statements
        (goes_on (loops_on (block_of defs message (loop_in (out-Statement d.statement)) (env_of old.known more))
        (times left (block_of defs message (loop_in (out-Statement d.statement)))))
        (from_place defs message n block_of_old)))) (sym next)
        ∙ ap (λ (b : List Statement). ended (around defs message old.place.frames statements
        (goes_on (loops_on (block_of defs message b (env_of old.known more))
        (times left (block_of defs message b))) (from_place defs message behind block_of_old))))
        (sym (inner_loop behind left next))
        ∙ sym (entered (frame.Loop behind left) (record
        { frames = old.place.frames ++ frame.Loop behind left ∷ []; at = 0 }) (env_of old.known more) refl)
        ∙ ap (λ (p : Program). end_of defs statements message p more) (sym to);
  }

  pub same_program : (new : Program) → new ≡ old → ComesAlike defs statements message old new
  same_program new to = unchanged new (ap (λ (p : Program). p.place) to)
      (λ more. ap (λ (p : Program). env_of p.known more) to)

  pub chose_alike : (r : Result (Option Next) AllocError) (new : Program) (behind : ℕ) (holds : Bool)
      → behind ≡ old.place.at + 1 → did ≡ deed.Choose holds
      → OnOk r (new ≡ record old {
        place = record {
          frames = old.place.frames ++ frame.Choice behind holds ∷ [];
          at =
              0;
        };
      }) → OnErr r (new ≡ old) → ComesAlike defs statements message old new
  chose_alike (Ok given) new behind holds next is to err = chose new behind holds next is to
  chose_alike (Err e) new behind holds next is to err = same_program new err

  pub repeats_alike : (r : Result (Option Next) AllocError) (new : Program) (behind left : ℕ)
      → behind ≡ old.place.at + 1 → did ≡ deed.Repeat left
      → OnOk r (new ≡ record old {
        place = record { frames = old.place.frames ++ frame.Loop behind left ∷ []; at = 0 };
      }) → OnErr r (new ≡ old) → ComesAlike defs statements message old new
  repeats_alike (Ok given) new behind left next is to err = repeats new behind left next is to
  repeats_alike (Err e) new behind left next is to err = same_program new err

  -- ---- out of a loop

  pub left_alike : (new : Program) → did ≡ deed.Leave → new.known ≡ old.known
      → ((defs : Defs) (message : Message) (statements : List Statement) (env : Env) → end ≡ length statements
      → ended (around defs message old.place.frames statements (Leaves env)) ≡ end_from defs message statements
      new.place env)
      → ComesAlike defs statements message old new
  left_alike new is same leads = record {
    comes = λ more. here deed.Leave is more ∙ leads defs message statements (env_of old.known more) d.ends ∙ ap
        (λ (k : Known). end_from defs message statements new.place (env_of k more)) (sym same);
  }

  pub left_work : (place : Place) → work statements place ≤ work_around old.place.frames statements
      → work statements place < work statements old.place
  left_work place le = let a = work_old in let b = some_work d.statement in omega (arith, a, b)

  -- ---- ends

  pub replied : (text : List ℕ) → did ≡ deed.Reply text → end_of defs statements message old [] ≡ Replies text
  replied text is = here (deed.Reply text) is [] ∙ ap ended
      (around_end defs message old.place.frames statements (Replies text))

  pub rolled : (code : ℕ) → did ≡ deed.Roll code → end_of defs statements message old [] ≡ Rolls code
  rolled code is = here (deed.Roll code) is [] ∙ ap ended
      (around_end defs message old.place.frames statements (Rolls code))

  pub asked_is : (asked : Call) (given : Next) → did ≡ deed.Ask asked → given ≡ next.Call asked
      → IsAsked given (end_of defs statements message old [])
  asked_is asked given is to = subst (λ (n : Next). IsAsked n (end_of defs statements message old [])) (sym to)
      (here (deed.Ask asked) is [] ∙ ap ended (around_end defs message old.place.frames statements (Asks asked)))

  -- ---- less work in a block

  chose_work : (place : Place) (behind : ℕ) (holds : Bool) → behind ≡ old.place.at + 1 → did ≡ deed.Choose holds
      → place ≡ record { frames = old.place.frames ++ frame.Choice behind holds ∷ []; at = 0 }
      → work statements place < work statements old.place
  chose_work place behind holds next is to =
      let a = work_at old.place.frames (frame.Choice behind holds) 0 statements place (ap (λ (p : Place). p.frames) to)
      (ap (λ (p : Place). p.at) to) in
      let b : work_from 0 (inner (frame.Choice behind holds) block_of_old) ≡ work_from 0
      (choice_in holds (out-Statement d.statement)) = ap (work_from 0) (inner_choice behind holds next) in
      let c : 2 + work_from 0 (choice_in holds (out-Statement d.statement)) ≤ statement_work d.statement =
      subst (λ (x : Deed). Costs d.statement x) is d.costs in
      let e : work_from behind block_of_old ≡ work_from (old.place.at + 1) block_of_old =
      ap (λ (n : ℕ). work_from n block_of_old) next in
      let f = work_old in
      omega (arith, a, b, c, e, f)

  repeats_work : (place : Place) (behind left : ℕ) → behind ≡ old.place.at + 1 → did ≡ deed.Repeat left
      → place ≡ record { frames = old.place.frames ++ frame.Loop behind left ∷ []; at = 0 }
      → work statements place < work statements old.place
  repeats_work place behind left next is to =
      let w = work_from 0 (loop_in (out-Statement d.statement)) in
      let a = work_at old.place.frames (frame.Loop behind left) 0 statements place (ap (λ (p : Place). p.frames) to)
      (ap (λ (p : Place). p.at) to) in
      let b : work_from 0 (inner (frame.Loop behind left) block_of_old) ≡ w =
      ap (work_from 0) (inner_loop behind left next) in
      let b2 : left * (1 + work_from 0 (inner (frame.Loop behind left) block_of_old)) ≡ left * (1 + w) =
      ap (λ (n : ℕ). left * (1 + n)) b in
      let c : 2 + suc left * (1 + w) ≤ statement_work d.statement =
      subst (λ (x : Deed). Costs d.statement x) is d.costs in
      let c2 : suc left * (1 + w) ≡ left * (1 + w) + (1 + w) = suc_times left (1 + w) in
      let e : work_from behind block_of_old ≡ work_from (old.place.at + 1) block_of_old =
      ap (λ (n : ℕ). work_from n block_of_old) next in
      let f = work_old in
      omega (arith, a, b, b2, c, c2, e, f)

  pub chose_less : (r : Result (Option Next) AllocError) (new : Program) (behind : ℕ) (holds : Bool)
      → behind ≡ old.place.at + 1 → did ≡ deed.Choose holds
      → OnOk r (new ≡ record old {
        place = record {
          frames = old.place.frames ++ frame.Choice behind holds ∷ [];
          at =
              0;
        };
      })
      → IfOk r (λ given. given ≡ None → work statements new.place < work statements old.place)
  chose_less (Ok given) new behind holds next is to =
      λ nothing. chose_work new.place behind holds next is (ap (λ (p : Program). p.place) to)
  chose_less (Err e) new behind holds next is to = tt

  pub repeats_less : (r : Result (Option Next) AllocError) (new : Program) (behind left : ℕ) → behind ≡ old.place.at + 1
      → did ≡ deed.Repeat left
      → OnOk r (new ≡ record old {
        place = record { frames = old.place.frames ++ frame.Loop behind left ∷ []; at = 0 };
      })
      → IfOk r (λ given. given ≡ None → work statements new.place < work statements old.place)
  repeats_less (Ok given) new behind left next is to =
      λ nothing. repeats_work new.place behind left next is (ap (λ (p : Program). p.place) to)
  repeats_less (Err e) new behind left next is to = tt

  -- ---- a call

  pub stands : (new : Program) (asked : Call) (behind : ℕ) → behind ≡ old.place.at + 1 → did ≡ deed.Ask asked
      → new.place ≡ old.place
      → ((more : List Answer) → env_of new.known more ≡ env_of old.known more)
      → new.wait ≡ Some (record { behind = behind; lesson = lesson_of asked })
      → IfSome new.wait (StandsAtCall defs statements message new)
  stands new asked behind next is to env waits =
      subst (λ (w : Option Wait). IfSome w (StandsAtCall defs statements message new)) (sym waits) (record {
        asked = asked;
        lesson = refl;
        comes = λ more.
            sym ((unchanged new to env).comes more)
            ∙ here (deed.Ask asked) is more
            ∙ ap (λ (n : ℕ). end_at_call defs statements message old asked n more) (sym next)
            ∙ ap (λ (place : Place). ended (around defs message place.frames statements
            (goes_on (called asked (env_of old.known more))
            (from_place defs message behind (block_at place.frames statements))))) (sym to)
            ∙ ap (λ (e : Env). ended (around defs message new.place.frames statements
            (goes_on (called asked e) (from_place defs message behind (block_at new.place.frames statements)))))
            (sym (env more));
      })
