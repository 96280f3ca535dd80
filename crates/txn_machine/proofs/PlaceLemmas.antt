-- Blocks in blocks: one more, and what stands around an end.
use Rattle.std.proofs.Common.{◌≡◌, ◌∙◌, refl, sym, ap, subst, ℕ, zero, suc, ◌+◌, List, [], ◌∷◌, ◌++◌, map, drop, append_assoc, length, arith, Bool, true, false, Option, Some, None}
use Rattle.std.specs.Prelude.{IfSome}
use Rattle.std.proofs.lemmas.List.{drop_all}
use Rattle.fp_model.specs.declared.calls.Message.{Message}
use Rattle.fp_model.specs.declared.calls.Answer.{Answer}
use Rattle.fp_model.specs.declared.calls.Call.{Call}
use Rattle.fp_model.specs.declared.definitions.Defs.{Defs}
use Rattle.fp_model.specs.declared.scripts.Statement.{Statement}
use Rattle.fp_model.specs.Operands.{Env, learned}
use Rattle.fp_model.specs.Asking.{Way, Goes, Leaves, Ends, Ask, ask, ended, goes_on, in_order, run, called}
use Rattle.txn_machine.specs.declared.place.Frame.{Frame}
use Rattle.txn_machine.specs.declared.place.Frame.TheVariants as frame
use Rattle.txn_machine.specs.declared.known.Known.{Known}
use Rattle.txn_machine.specs.declared.program.Program.{Program}
use Rattle.txn_machine.specs.declared.program.Wait.{Wait}
use Rattle.txn_machine.specs.inside.Alike.{AreTwins}
use Rattle.txn_machine.specs.Knowing.{env_of, lesson_of}
use Rattle.txn_machine.specs.inside.Knowing.{taught}
use Rattle.txn_machine.specs.Places.{inner, block_at, from_place, beyond, around, way_from, end_from}
use Rattle.txn_machine.specs.declared.place.Place.{Place}
use Rattle.txn_machine.specs.Running.{IsAt, IsAtCall, end_of, end_at_call}
use Rattle.txn_machine.proofs.AlikeLemmas.{same_end}
use Rattle.txn_machine.proofs.LessonLemmas.{learned_taught}

pub block_push : (fs : List Frame) (f : Frame) (block : List Statement)
    → block_at (fs ++ f ∷ []) block ≡ inner f (block_at fs block)
block_push [] f block = refl
block_push (g ∷ gs) f block = block_push gs f (inner g block)

module _ (defs : Defs) (message : Message) where
  -- the innermost block is behind its frame first
  pub around_push : (fs : List Frame) (f : Frame) (block : List Statement) (way : Way)
      → around defs message (fs ++ f ∷ []) block way ≡ around defs message fs block
      (beyond defs message f (block_at fs block) way)
  around_push [] f block way = refl
  around_push (g ∷ gs) f block way = ap (beyond defs message g block) (around_push gs f (inner g block) way)

  beyond_end : (f : Frame) (block : List Statement) (end : Ask) → beyond defs message f block (Ends end) ≡ Ends end
  beyond_end (frame.Choice behind holds) block end = refl
  beyond_end (frame.Loop behind left) block end = refl

  -- what ends, ends the script
  pub around_end : (fs : List Frame) (block : List Statement) (end : Ask)
      → around defs message fs block (Ends end) ≡ Ends end
  around_end [] block end = refl
  around_end (f ∷ fs) block end = ap (beyond defs message f block) (around_end fs (inner f block) end) ∙ beyond_end f
      block end

  -- on behind a block: behind a choice, and behind a loop that is done
  pub closed : (statements : List Statement) (old new : Place) (front : List Frame) (f : Frame) (behind : ℕ) (env : Env)
      → old.frames ≡ front ++ f ∷ [] → new.frames ≡ front → new.at ≡ behind
      → ((block : List Statement) → beyond defs message f block (Goes env) ≡ from_place defs message behind block env)
      → around defs message old.frames statements (Goes env) ≡ way_from defs message statements new env
  closed statements old new front f behind env is to at leads =
      ap (λ (fs : List Frame). around defs message fs statements (Goes env)) is ∙ around_push front f statements
      (Goes env)
      ∙ ap (around defs message front statements) (leads (block_at front statements))
      ∙ ap (λ (fs : List Frame). around defs message fs statements
      (from_place defs message behind (block_at fs statements) env)) (sym to)
      ∙ ap (λ (place : ℕ). around defs message new.frames statements
      (from_place defs message place (block_at new.frames statements) env)) (sym at)

  -- and round a loop once more
  pub turned : (statements : List Statement) (old new : Place) (front : List Frame) (behind left : ℕ) (env : Env)
      → old.frames ≡ front ++ frame.Loop behind (suc left) ∷ [] → new.frames ≡ front ++ frame.Loop behind left ∷ []
      → new.at ≡ 0
      → around defs message old.frames statements (Goes env) ≡ way_from defs message statements new env
  turned statements old new front behind left env is to at =
      let block = block_at front statements in
      let body = inner (frame.Loop behind left) block in
      ap (λ (fs : List Frame). around defs message fs statements (Goes env)) is ∙ around_push front
      (frame.Loop behind (suc left)) statements (Goes env)
      ∙ sym (around_push front (frame.Loop behind left) statements (from_place defs message 0 body env))
      ∙ ap (λ (b : List Statement). around defs message (front ++ frame.Loop behind left ∷ []) statements
      (from_place defs message 0 b env)) (sym (block_push front (frame.Loop behind left) statements))
      ∙ ap (λ (fs : List Frame). around defs message fs statements
      (from_place defs message 0 (block_at fs statements) env)) (sym to)
      ∙ ap (λ (place : ℕ). around defs message new.frames statements
      (from_place defs message place (block_at new.frames statements) env)) (sym at)

-- ---- an answer

pub given : (defs : Defs) (statements : List Statement) (message : Message) (answers : List Answer) (old : Program)
    (wait : Wait) (known : Known) (answer : Answer)
    → IsAt defs statements message answers old → old.wait ≡ Some wait
    → ((more : List Answer) → AreTwins (taught wait.lesson answer
    (record (env_of old.known more) { status = answer.status })) (env_of known more))
    → IsAt defs statements message (answers ++ answer ∷ [])
    (record old { known = known; place = record old.place { at = wait.behind }; wait = None })
given defs statements message answers old wait known answer at is learns =
    let call : IsAtCall defs statements message answers old wait =
    subst (λ (w : Option Wait). IfSome w (IsAtCall defs statements message answers old)) is at.waits in
    record {
      comes = λ more.
          ap (ask defs statements message) (append_assoc answers (answer ∷ []) more) ∙ call.comes (answer ∷ more)
          ∙ ap (λ (env : Env). end_from defs message statements (record old.place { at = wait.behind }) env)
          (learned_taught call.asked answer (record (env_of old.known more) { status = answer.status })
          ∙ ap (λ l. taught l answer (record (env_of old.known more) { status = answer.status })) (sym call.lesson))
          ∙ same_end defs message statements (record old.place { at = wait.behind }) _ (env_of known more)
          (learns more);
      waits = tt;
    }

-- ---- out of loops

module _ (defs : Defs) (message : Message) where
  -- a choice is left with what it stands in
  pub left_choice : (statements : List Statement) (old new : List Frame) (f : Frame) (behind : ℕ) (holds : Bool)
      (env : Env) → old ≡ new ++ f ∷ [] → f ≡ frame.Choice behind holds
      → around defs message old statements (Leaves env) ≡ around defs message new statements (Leaves env)
  left_choice statements old new f behind holds env is kind =
      ap (λ (fs : List Frame). around defs message fs statements (Leaves env))
      (is ∙ ap (λ (g : Frame). new ++ g ∷ []) kind) ∙ around_push defs message new (frame.Choice behind holds)
      statements (Leaves env)

  -- a loop alone
  pub left_loop : (statements : List Statement) (old : List Frame) (new : Place) (f : Frame) (behind left : ℕ)
      (env : Env) → old ≡ new.frames ++ f ∷ [] → f ≡ frame.Loop behind left → new.at ≡ behind
      → around defs message old statements (Leaves env) ≡ way_from defs message statements new env
  left_loop statements old new f behind left env is kind at =
      ap (λ (fs : List Frame). around defs message fs statements (Leaves env))
      (is ∙ ap (λ (g : Frame). new.frames ++ g ∷ []) kind)
      ∙ around_push defs message new.frames (frame.Loop behind left) statements (Leaves env)
      ∙ ap (λ (place : ℕ). around defs message new.frames statements
      (from_place defs message place (block_at new.frames statements) env)) (sym at)

  -- and without a loop the script is at its end
  pub left_all : (statements : List Statement) (old new : List Frame) (end : ℕ) (env : Env) → old ≡ [] → new ≡ []
      → end ≡ length statements
      → ended (around defs message old statements (Leaves env)) ≡ end_from defs message statements
      (record { frames = new; at = end }) env
  left_all statements old new end env none empty is =
      ap (λ (fs : List Frame). ended (around defs message fs statements (Leaves env))) none
      ∙ sym (ap (λ (rest : List Statement). ended (in_order (map (run defs message) rest) env))
      (drop_all end statements (omega arith)))
      ∙ ap (λ (fs : List Frame). end_from defs message statements (record { frames = fs; at = end }) env) (sym empty)
