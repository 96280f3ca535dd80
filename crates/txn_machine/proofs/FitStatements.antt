-- A fit statement asks a fit call.
use Rattle.std.proofs.Common.{◌≡◌, ◌∙◌, refl, sym, ap, subst, arith, ℕ, zero, suc, ◌-◌, List, [], ◌∷◌, map, length, Bool, true, false, Option, Some, None, Result, Ok, Err}
use Rattle.std.specs.Prelude.{slice_get, nat_lt, nat_le, ◌&&◌, IfOk, IfSome}
use Rattle.std.specs.List.{AllByRecursion, list_all}
use Rattle.std.specs.declared.alloc.AllocError.{AllocError}
use Rattle.std.proofs.lemmas.Bool.{and_parts, ltb-true, leb-true}
use Rattle.fp_model.specs.declared.calls.Message.{Message}
use Rattle.fp_model.specs.declared.calls.Call.{Call}
use Rattle.fp_model.specs.declared.calls.Call.TheVariants as call
use Rattle.fp_model.specs.declared.definitions.Defs.{Defs}
use Rattle.fp_model.specs.declared.definitions.MsdbDef.{MsdbDef}
use Rattle.fp_model.specs.declared.scripts.Statement.{Statement, out-Statement, map-Statement}
use Rattle.fp_model.specs.declared.scripts.Statement.TheOpen.{Statement-F, Set, If, Repeat, Break, Reply, Roll, Get, Fld, Isrt, Repl, Dlet}
use Rattle.fp_model.specs.declared.scripts.Statement.TheFolds.{fold-Statement, fold_out-Statement}
use Rattle.fp_model.specs.Fsas.{Fsa, IsFsa, list_text}
use Rattle.fp_model.specs.WellFormed.{IsMsdbDef, StandFrom}
use Rattle.fp_model.specs.FitCalls.{IsMsdbCall, IsShownOf, IsShownOn, fits_statement, fits_step, is_some_few}
use Rattle.fp_model.specs.Calls.{OnMsdb, Target, dedb_target, target_of}
use Rattle.std.specs.Option.{option_map_or}
use Rattle.txn_lang.proofs.Fitting.{Judges, fits_judges}
use Rattle.fp_model.specs.Values.{◌>>=◌, Layout, layout_of, empty_segment}
use Rattle.fp_model.specs.Operands.{Env, key_text, ssas_of, fsas_given, filled, shown_on, get_call, fld_call, isrt_call, repl_call, new_type, with_setting, set_text, reply_text}
use Rattle.fp_model.specs.Asking.{Way, Goes, Ends, Asks, Replies, or_rolls, called, run, run_step}
use Rattle.txn_machine.specs.declared.doing.Deed.{Deed}
use Rattle.txn_machine.specs.declared.doing.Deed.TheVariants as deed
use Rattle.txn_machine.specs.declared.known.Known.{Known}
use Rattle.txn_machine.specs.declared.place.Frame.{Frame}
use Rattle.txn_machine.specs.declared.place.Frame.TheVariants as frame
use Rattle.txn_machine.specs.declared.program.Next.{Next}
use Rattle.txn_machine.specs.declared.program.Next.TheVariants as next
use Rattle.txn_machine.specs.inside.Doing.{Does, Spells}
use Rattle.txn_machine.specs.Fit.{AreShown, IsShownSegment}
use Rattle.txn_machine.specs.Knowing.{env_of}
use Rattle.txn_machine.specs.Places.{block_at, block_in, choice_in, inner, loop_in}
use Rattle.txn_machine.specs.Running.{IsFitNext}
use Rattle.txn_machine.specs.inside.Stepping.{IsEnd, IsGivenBy}
use Rattle.txn_machine.proofs.FitLemmas.{mapped, ssas_fit, key_fits, layout_is, empty_length, filled_length, given_length, def_at, all_at, shown_at}
use Rattle.txn_machine.proofs.StatementLemmas.{run_out}
use Rattle.model_laws.proofs.Texts.{some_step}

-- ---- blocks of fit statements are fit

all_mapped : (f : Statement → Bool) (ss : List Statement) → list_all (λ b. b) (map f ss) ≡ list_all f ss
all_mapped f [] = refl
all_mapped f (s ∷ ss) = ap (λ (b : Bool). f s && b) (all_mapped f ss)

module _ (step : Statement-F Bool → Bool) (judges : Judges step) where
  abbrev judged : Statement → Bool
  judged = fold-Statement Bool step

  pub fit_out : (s : Statement) → judged s ≡ step
      (map-Statement Statement Bool judged (out-Statement s))
  fit_out s = fold_out-Statement Bool step s

  fit_choice : (d : Statement-F Statement) (holds : Bool)
      → step (map-Statement Statement Bool judged d) ≡ true
      → list_all judged (choice_in holds d) ≡ true
  fit_choice (If left comparison right taken otherwise) true h =
      sym (all_mapped judged taken) ∙ (and_parts (list_all (λ b. b) (map judged taken)) _
      (sym (judges.choice left comparison right (map judged taken) (map judged otherwise)) ∙ h)).0
  fit_choice (If left comparison right taken otherwise) false h =
      sym (all_mapped judged otherwise) ∙ (and_parts (list_all (λ b. b) (map judged taken)) _
      (sym (judges.choice left comparison right (map judged taken) (map judged otherwise)) ∙ h)).1
  fit_choice (Set variable first rest) true h = refl
  fit_choice (Set variable first rest) false h = refl
  fit_choice (Repeat n body) true h = refl
  fit_choice (Repeat n body) false h = refl
  fit_choice Break true h = refl
  fit_choice Break false h = refl
  fit_choice (Reply operands) true h = refl
  fit_choice (Reply operands) false h = refl
  fit_choice (Roll code) true h = refl
  fit_choice (Roll code) false h = refl
  fit_choice (Get get hold db ssas) true h = refl
  fit_choice (Get get hold db ssas) false h = refl
  fit_choice (Fld db key fsas) true h = refl
  fit_choice (Fld db key fsas) false h = refl
  fit_choice (Isrt db ssas fields) true h = refl
  fit_choice (Isrt db ssas fields) false h = refl
  fit_choice (Repl db fields) true h = refl
  fit_choice (Repl db fields) false h = refl
  fit_choice (Dlet db) true h = refl
  fit_choice (Dlet db) false h = refl

  fit_loop : (d : Statement-F Statement) → step (map-Statement Statement Bool judged d) ≡ true
      → list_all judged (loop_in d) ≡ true
  fit_loop (Repeat n body) h = sym (all_mapped judged body) ∙ sym (judges.loop n (map judged body)) ∙ h
  fit_loop (If left comparison right taken otherwise) h = refl
  fit_loop (Set variable first rest) h = refl
  fit_loop Break h = refl
  fit_loop (Reply operands) h = refl
  fit_loop (Roll code) h = refl
  fit_loop (Get get hold db ssas) h = refl
  fit_loop (Fld db key fsas) h = refl
  fit_loop (Isrt db ssas fields) h = refl
  fit_loop (Repl db fields) h = refl
  fit_loop (Dlet db) h = refl

  pub fit_at : (ss : List Statement) (i : ℕ) (s : Statement) → list_all judged ss ≡ true → slice_get ss i ≡ Some s
      → judged s ≡ true
  fit_at [] i s h is = absurd cc
  fit_at (t ∷ ts) zero s h is = let same : t ≡ s = cc in
      ap judged (sym same) ∙ (and_parts (judged t) (list_all judged ts) h).0
  fit_at (t ∷ ts) (suc i) s h is = fit_at ts i s (and_parts (judged t) (list_all judged ts) h).1 is

  fit_within : (f : Statement-F Statement → List Statement) (o : Option Statement)
      → ((s : Statement) → o ≡ Some s → judged s ≡ true)
      → ((d : Statement-F Statement) → step (map-Statement Statement Bool judged d) ≡ true
      → list_all judged (f d) ≡ true) → list_all judged (block_in f o) ≡ true
  fit_within f None h k = refl
  fit_within f (Some s) h k = k (out-Statement s) (sym (fit_out s) ∙ h s refl)

  fit_inner : (f : Frame) (block : List Statement) → list_all judged block ≡ true → list_all judged (inner f block) ≡ true
  fit_inner (frame.Choice behind holds) block h = fit_within (choice_in holds) (slice_get block _)
      (λ s is. fit_at block _ s h is) (λ d e. fit_choice d holds e)
  fit_inner (frame.Loop behind left) block h = fit_within loop_in (slice_get block _) (λ s is. fit_at block _ s h is)
      (λ d e. fit_loop d e)

  pub fit_block : (frames : List Frame) (block : List Statement) → list_all judged block ≡ true
      → list_all judged (block_at frames block) ≡ true
  fit_block [] block h = h
  fit_block (f ∷ fs) block h = fit_block fs (inner f block) (fit_inner f block h)

-- ---- calls

-- what is asked where a call is worked out
pub asked_of : (o : Option Call) (asked : Call) (env : Env) → env.answers ≡ []
    → or_rolls o (λ a. called a env) ≡ Ends (Asks asked) → o ≡ Some asked
asked_of None asked env none is = absurd cc
asked_of (Some a) asked env none is =
    let at_once : called a env ≡ Ends (Asks a) = rw none refl in
    let same : Ends (Asks a) ≡ Ends (Asks asked) = sym at_once ∙ is in
    let e : a ≡ asked = cc in ap (λ (c : Call). Some c) e

module _ (defs : Defs) (message : Message) (env : Env) (well : AllByRecursion IsMsdbDef defs.msdbs) where
  stand : (db : ℕ) (def : MsdbDef) → slice_get defs.msdbs db ≡ Some def → StandFrom 0 def.fields def.length
  stand db def is = (all_at IsMsdbDef defs.msdbs db def well is).layout.stand

  defined : (db : ℕ) → nat_lt db (length defs.msdbs) ≡ true → (def : MsdbDef) × (slice_get defs.msdbs db ≡ Some def)
  defined db h = def_at defs.msdbs db (ltb-true db (length defs.msdbs) h)

  pub fit_get : (get : _) (hold : Bool) (db : ℕ) (ssas : _) (asked : Call) → nat_lt db (length defs.msdbs) ≡ true
      → get_call defs message env (call.Get get hold db) db ssas ≡ Some asked → IsMsdbCall defs.msdbs asked
  fit_get get hold db ssas asked h is =
      let m = mapped (ssas_of defs message env db ssas) (call.Get get hold db) asked is in
      let def = defined db h in
      subst (λ (c : Call). IsMsdbCall defs.msdbs c) m.2
      (def.0, def.1, ssas_fit defs message env db ssas def.0 m.0 def.1 m.1)

  pub fit_fld : (db : ℕ) (key : _) (fsas : _) (asked : Call) → (nat_lt db (length defs.msdbs) && is_some_few fsas) ≡ true
      → ((list : List Fsa) → fsas_given defs message env fsas ≡ Some list → AllByRecursion IsFsa list)
      → fld_call defs message env db key fsas ≡ Some asked → IsMsdbCall defs.msdbs asked
  fit_fld db key fsas asked h spelled is =
      let k = some_step (key_text defs message env db 0 key)
      (λ b. fsas_given defs message env fsas >>= (λ l. Some (call.Fld db b (list_text l)))) asked is in
      let l = some_step (fsas_given defs message env fsas) (λ l. Some (call.Fld db k.0 (list_text l))) asked k.2 in
      let both = and_parts (nat_lt db (length defs.msdbs)) (is_some_few fsas) h in
      let few = and_parts (nat_le 1 (length fsas)) (nat_le (length fsas) 255) both.1 in
      let def = defined db both.0 in
      let same : call.Fld db k.0 (list_text l.0) ≡ asked = let e = l.2 in cc in
      let long = given_length defs message env fsas l.0 l.1 in
      let low = leb-true 1 (length fsas) few.0 in
      let high = leb-true (length fsas) 255 few.1 in
      subst (λ (c : Call). IsMsdbCall defs.msdbs c) same (
        def.0,
        def.1,
        (
          key_fits defs message env db 0 key def.0 k.0 def.1 k.1,
          record {
            fsas = l.0;
            count = (omega (arith, long, low), omega (arith, long, high));
            each =
                spelled l.0 l.1;
            text = refl;
          },
        ),
      )

  pub fit_isrt : (db : ℕ) (ssas : _) (fields : _) (asked : Call) → nat_lt db (length defs.msdbs) ≡ true
      → isrt_call defs message env db ssas fields ≡ Some asked → IsMsdbCall defs.msdbs asked
  fit_isrt db ssas fields asked h is =
      let def = defined db h in
      let found = some_step (ssas_of defs message env db ssas)
      (λ f. layout_of defs db (new_type defs message ssas) >>=
      (λ l. empty_segment l.fields >>= (λ s. filled defs message env l.fields fields s >>=
      (λ b. Some (call.Isrt db f b))))) asked is in
      let layout : (empty_segment def.0.fields >>= (λ s. filled defs message env def.0.fields fields s >>=
      (λ b. Some (call.Isrt db found.0 b)))) ≡ Some asked =
      sym (ap (λ (o : Option Layout). o >>= (λ l. empty_segment l.fields >>=
      (λ s. filled defs message env l.fields fields s >>= (λ b. Some (call.Isrt db found.0 b)))))
      (layout_is defs db (new_type defs message ssas) def.0 def.1)) ∙ found.2 in
      let segment = some_step (empty_segment def.0.fields)
      (λ s. filled defs message env def.0.fields fields s >>= (λ b. Some (call.Isrt db found.0 b))) asked layout in
      let bytes = some_step (filled defs message env def.0.fields fields segment.0) (λ b. Some (call.Isrt db found.0 b))
      asked segment.2 in
      let same : call.Isrt db found.0 bytes.0 ≡ asked = let e = bytes.2 in cc in
      let stands = stand db def.0 def.1 in
      let whole = empty_length def.0.fields 0 def.0.length segment.0 stands segment.1 in
      subst (λ (c : Call). IsMsdbCall defs.msdbs c) same (
        def.0,
        def.1,
        filled_length defs message env def.0.fields def.0.length fields segment.0 bytes.0 stands
            (omega (arith, whole)) bytes.1,
      )

  pub fit_repl : (db : ℕ) (fields : _) (asked : Call) → nat_lt db (length defs.msdbs) ≡ true
      → AllByRecursion (IsShownSegment defs) env.shown → repl_call defs message env db fields ≡ Some asked
      → IsMsdbCall defs.msdbs asked
  fit_repl db fields asked h all is =
      let shown = some_step (shown_on db env) (λ s. layout_of defs db s.type_number >>=
      (λ l. filled defs message env l.fields fields s.bytes >>= (λ b. Some (call.Repl db b)))) asked is in
      let its = shown_at (IsShownSegment defs) env.shown db shown.0 all shown.1 in
      let there = defined db h in
      let def : MsdbDef = there.0 in
      let at : slice_get defs.msdbs db ≡ Some def = there.1 in
      let one : IsShownOn shown.0.type_number shown.0.bytes def =
      subst (λ (t : Target). IsShownOf t shown.0.type_number shown.0.bytes)
      (ap (target_of defs) its.1 ∙ ap (λ (o : Option MsdbDef). option_map_or (λ d. OnMsdb d db) o
      (dedb_target defs (db - length defs.msdbs))) at) its.0 in
      let layout : (filled defs message env def.fields fields shown.0.bytes >>= (λ b. Some (call.Repl db b))) ≡ Some
      asked =
      sym (ap (λ (o : Option Layout). o >>= (λ l. filled defs message env l.fields fields shown.0.bytes >>=
      (λ b. Some (call.Repl db b)))) (layout_is defs db shown.0.type_number def at)) ∙ shown.2 in
      let bytes = some_step (filled defs message env def.fields fields shown.0.bytes) (λ b. Some (call.Repl db b)) asked
      layout in
      let same : call.Repl db bytes.0 ≡ asked = let e = bytes.2 in cc in
      subst (λ (c : Call). IsMsdbCall defs.msdbs c) same (
        def,
        at,
        filled_length defs message env def.fields def.length fields shown.0.bytes bytes.0 (stand db def at)
            one.whole bytes.1,
      )

-- what isn't a call
pub set_asks : (o : Option (List ℕ)) (f : List ℕ → Env) (asked : Call)
    → or_rolls o (λ text. Goes (f text)) ≡ Ends (Asks asked) → ⊥
set_asks None f asked is = absurd cc
set_asks (Some text) f asked is = absurd cc

pub reply_asks : (o : Option (List ℕ)) (asked : Call) → or_rolls o (λ text. Ends (Replies text)) ≡ Ends (Asks asked) → ⊥
reply_asks None asked is = absurd cc
reply_asks (Some text) asked is = absurd cc

module _ (defs : Defs) (message : Message) (known : Known) (asked : Call) (well : AllByRecursion IsMsdbDef defs.msdbs)
    (shown : AreShown defs known.gets) where
  step_fit : (d : Statement-F Statement) → fits_step defs (map-Statement Statement Bool (fits_statement defs) d) ≡ true
      → Spells defs message known d
      → run_step defs message (map-Statement Statement (Env → Way) (run defs message) d) (env_of known []) ≡
      Ends (Asks asked) → IsMsdbCall defs.msdbs asked
  step_fit (Set variable first rest) h spelled is =
      absurd (set_asks (set_text defs message (env_of known []) first rest)
      (λ text. with_setting variable.0 text (env_of known [])) asked is)
  step_fit (If left comparison right taken otherwise) h spelled is = absurd spelled
  step_fit (Repeat n body) h spelled is = absurd spelled
  step_fit Break h spelled is = absurd cc
  step_fit (Reply operands) h spelled is = absurd (reply_asks (reply_text defs message (env_of known []) operands)
      asked is)
  step_fit (Roll code) h spelled is = absurd cc
  step_fit (Get get hold db ssas) h spelled is = fit_get defs message (env_of known []) well get hold db ssas
      asked h (asked_of _ asked (env_of known []) refl is)
  step_fit (Fld db key fsas) h spelled is = fit_fld defs message (env_of known []) well db key fsas asked h
      spelled (asked_of _ asked (env_of known []) refl is)
  step_fit (Isrt db ssas fields) h spelled is = fit_isrt defs message (env_of known []) well db ssas fields asked
      h (asked_of _ asked (env_of known []) refl is)
  step_fit (Repl db fields) h spelled is = fit_repl defs message (env_of known []) well db fields asked h
      shown.each (asked_of _ asked (env_of known []) refl is)
  step_fit (Dlet db) h spelled is =
      let def = def_at defs.msdbs db (ltb-true db (length defs.msdbs) h) in
      let same : call.Dlet db ≡ asked = cc in
      subst (λ (c : Call). IsMsdbCall defs.msdbs c) same (def.0, def.1, tt)

  pub statement_fit : (s : Statement) → fits_statement defs s ≡ true → Spells defs message known (out-Statement s)
      → Does defs message known s (deed.Ask asked) → IsMsdbCall defs.msdbs asked
  statement_fit s h spelled does = step_fit (out-Statement s) (sym (fit_out (fits_step defs) (fits_judges defs) s) ∙ h) spelled
      (sym (run_out defs message s (out-Statement s) (env_of known []) refl) ∙ does [])

-- ---- what is given

-- what is so of each end is so of what a deed gives, where it is so of the call that it asks
given_fits : (P : Next → Type 0) → ((given : Next) → IsEnd given → P given) → (did : Deed) (given : Next)
    → IsGivenBy did given → ((asked : Call) → did ≡ deed.Ask asked → P (next.Call asked)) → P given
given_fits P ends (deed.Ask asked) given h fit = subst (λ (n : Next). P n) (sym h) (fit asked refl)
given_fits P ends (deed.Set name text) given h fit = ends given h
given_fits P ends deed.Pass given h fit = ends given h
given_fits P ends (deed.Choose holds) given h fit = ends given h
given_fits P ends (deed.Repeat left) given h fit = ends given h
given_fits P ends deed.Leave given h fit = ends given h
given_fits P ends (deed.Reply text) given h fit = ends given h
given_fits P ends (deed.Roll code) given h fit = ends given h

pub result_holds : (P : Next → Type 0) → ((given : Next) → IsEnd given → P given) → (did : Deed)
    → (r : Result (Option Next) AllocError) → IfOk r (λ given. IfSome given (IsGivenBy did))
    → ((asked : Call) → did ≡ deed.Ask asked → P (next.Call asked)) → IfOk r (λ given. IfSome given P)
result_holds P ends did (Ok None) h fit = tt
result_holds P ends did (Ok (Some given)) h fit = given_fits P ends did given h fit
result_holds P ends did (Err e) h fit = tt

pub result_fits : (msdbs : List MsdbDef) (did : Deed) (r : Result (Option Next) AllocError)
    → IfOk r (λ given. IfSome given (IsGivenBy did)) → ((asked : Call) → did ≡ deed.Ask asked → IsMsdbCall msdbs asked)
    → IfOk r (λ given. IfSome given (IsFitNext msdbs))
result_fits msdbs did r h fit = result_holds (IsFitNext msdbs) ends did r h fit
  where
    ends : (given : Next) → IsEnd given → IsFitNext msdbs given
    ends (next.Call asked) e = absurd e
    ends (next.Reply text) e = tt
    ends (next.Roll code) e = tt
