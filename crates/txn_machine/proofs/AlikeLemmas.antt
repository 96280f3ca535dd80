-- What makes no difference to a script: each statement leads to the same.
use Rattle.std.proofs.Common.{◌≡◌, ◌∙◌, refl, sym, ap, subst, ℕ, zero, suc, List, [], ◌∷◌, map, drop, Bool, true, false, if◌then◌else◌, Option, Some, None}
use Rattle.std.specs.Prelude.{slice_get, option_map, ◌==◌, ◌+◌}
use Rattle.std.specs.Option.{option_map_or}
use Rattle.fp_model.specs.declared.calls.Message.{Message}
use Rattle.fp_model.specs.declared.calls.Answer.{Answer}
use Rattle.fp_model.specs.declared.calls.Call.{Call}
use Rattle.fp_model.specs.declared.calls.Call.TheVariants as call
use Rattle.fp_model.specs.declared.calls.Ssa.{Ssa}
use Rattle.fp_model.specs.declared.definitions.Defs.{Defs}
use Rattle.fp_model.specs.declared.definitions.FieldDef.{FieldDef}
use Rattle.fp_model.specs.declared.scripts.Operand.{Operand}
use Rattle.fp_model.specs.declared.scripts.Operand.TheVariants.{Text, Word, Field, Status, Fsas, Variable}
use Rattle.fp_model.specs.declared.scripts.Operation.{Operation}
use Rattle.fp_model.specs.declared.scripts.Comparison.{Comparison}
use Rattle.fp_model.specs.declared.scripts.SsaText.{SsaText}
use Rattle.fp_model.specs.declared.scripts.FsaText.{FsaText}
use Rattle.fp_model.specs.declared.scripts.FieldText.{FieldText}
use Rattle.fp_model.specs.declared.scripts.Statement.{Statement, roll-Statement, map-Statement}
use Rattle.fp_model.specs.declared.scripts.Statement.TheOpen.{Statement-F, Set, If, Repeat, Break, Reply, Roll, Get, Fld, Isrt, Repl, Dlet}
use Rattle.fp_model.specs.declared.scripts.Statement.TheFolds.{fold-roll-Statement, ind-Statement}
use Rattle.fp_model.specs.Texts.{same_text, trimmed}
use Rattle.fp_model.specs.Values.{◌>>=◌, Layout, layout_of, empty_segment, short_enough}
use Rattle.fp_model.specs.Operands.{Env, Setting, ShownSegment, new_type, learned, with_setting, setting_of, shown_on, shown_letter, shown_field, text_named, text_of, set_text, chosen, joined_texts, reply_text, key_text, ssa_of, ssas_of, fsas_given, filled, get_call, fld_call, isrt_call, repl_call}
use Rattle.fp_model.specs.Asking.{Way, Goes, Leaves, Ends, Ask, Asks, Replies, Rolls, or_rolls, goes_on, in_order, loops_on, times, called, run, run_step, ended}
use Rattle.txn_machine.specs.inside.Alike.{AreAlike, AreTwins, LeadAlike, both_go, both_leave, both_end}
use Rattle.txn_machine.specs.declared.place.Place.{Place}
use Rattle.txn_machine.specs.declared.place.Frame.{Frame}
use Rattle.txn_machine.specs.declared.place.Frame.TheVariants as frame
use Rattle.txn_machine.specs.Places.{inner, block_at, from_place, beyond, around, end_from}

-- ---- values that there may be

bind_same : {A B : Type 0} (m : Option A) (f g : A → Option B) → ((x : A) → f x ≡ g x) → (m >>= f) ≡ (m >>= g)
bind_same None f g h = refl
bind_same (Some x) f g h = h x

bind_both : {A B : Type 0} (m n : Option A) (f g : A → Option B) → m ≡ n → ((x : A) → f x ≡ g x) → (m >>= f) ≡ (n >>= g)
bind_both m n f g e h = ap (λ (o : Option _). o >>= f) e ∙ bind_same n f g h

-- ---- what is alike

pub alike_self : (a : Env) → AreAlike a a
alike_self a = record {
  settings = λ name. refl;
  status = refl;
  letters = refl;
  shown =
      record { each = λ db. refl; first = refl };
}

pub alike_answers : (a : Env) (answers : List Answer) → AreAlike a (record a { answers = answers })
alike_answers a answers = record {
  settings = λ name. refl;
  status = refl;
  letters = refl;
  shown =
      record { each = λ db. refl; first = refl };
}

module _ (defs : Defs) (message : Message) where
  named : (a b : Env) (operand : Operand) → AreAlike a b
      → text_named defs message a operand ≡ text_named defs message b operand
  named a b (Text text) h = refl
  named a b (Word n) h = refl
  named a b (Field name) h = bind_both (slice_get a.shown 0) (slice_get b.shown 0) _ _ h.shown.first (λ shown. refl)
  named a b Status h = ap (λ (s : List ℕ). Some (trimmed s)) h.status
  named a b Fsas h = ap (λ (s : List ℕ). Some (map shown_letter s)) h.letters
  named a b (Variable name) h = ap (λ (s : List ℕ). Some s) (h.settings name.0)

  pub same_text_of : (a b : Env) (operand : Operand) → AreAlike a b
      → text_of defs message a operand ≡ text_of defs message b operand
  same_text_of a b operand h = ap (λ (o : Option (List ℕ)). o >>= short_enough) (named a b operand h)

  pub same_set_text : (a b : Env) (first : Operand) (rest : Option (Operation × Operand)) → AreAlike a b
      → set_text defs message a first rest ≡ set_text defs message b first rest
  same_set_text a b first None h = same_text_of a b first h
  same_set_text a b first (Some rest) h = bind_both _ _ _ _ (same_text_of a b first h)
      (λ x. bind_both _ _ _ _ (same_text_of a b rest.1 h) (λ y. refl))

  pub same_chosen : (a b : Env) (left : Operand) (comparison : Comparison) (right : Operand) → AreAlike a b
      → chosen defs message a left comparison right ≡ chosen defs message b left comparison right
  same_chosen a b left comparison right h = bind_both _ _ _ _ (same_text_of a b left h)
      (λ x. bind_both _ _ _ _ (same_text_of a b right h) (λ y. refl))

  same_joined : (a b : Env) (operands : List Operand) → AreAlike a b
      → joined_texts defs message a operands ≡ joined_texts defs message b operands
  same_joined a b [] h = refl
  same_joined a b (o ∷ os) h = bind_both _ _ _ _ (same_text_of a b o h)
      (λ x. bind_both _ _ _ _ (same_joined a b os h) (λ y. refl))

  pub same_reply_text : (a b : Env) (operands : List Operand) → AreAlike a b
      → reply_text defs message a operands ≡ reply_text defs message b operands
  same_reply_text a b operands h = bind_both _ _ _ _ (same_joined a b operands h) (λ x. refl)

  same_key_text : (a b : Env) (db type_number : ℕ) (operand : Operand) → AreAlike a b
      → key_text defs message a db type_number operand ≡ key_text defs message b db type_number operand
  same_key_text a b db type_number operand h = bind_both _ _ _ _ (same_text_of a b operand h) (λ x. refl)

  same_ssa_with : (a b : Env) (db segment : ℕ) (key : Option Operand) → AreAlike a b
      → ssa_of defs message a db (record { segment = segment; key = key }) ≡ ssa_of defs message b db
      (record { segment = segment; key = key })
  same_ssa_with a b db segment None h = refl
  same_ssa_with a b db segment (Some operand) h = ap (option_map _) (same_key_text a b db segment operand h)

  same_ssas : (a b : Env) (db : ℕ) (ssas : List SsaText) → AreAlike a b
      → ssas_of defs message a db ssas ≡ ssas_of defs message b db ssas
  same_ssas a b db [] h = refl
  same_ssas a b db (s ∷ ss) h = bind_both _ _ _ _ (same_ssa_with a b db s.segment s.key h)
      (λ x. bind_both _ _ _ _ (same_ssas a b db ss h) (λ y. refl))

  same_fsas : (a b : Env) (fsas : List FsaText) → AreAlike a b
      → fsas_given defs message a fsas ≡ fsas_given defs message b fsas
  same_fsas a b [] h = refl
  same_fsas a b (f ∷ fs) h = bind_both _ _ _ _ (same_text_of a b f.operand h)
      (λ x. bind_both _ _ _ _ (same_fsas a b fs h) (λ y. refl))

  same_filled : (a b : Env) (fields : List FieldDef) (values : List FieldText) (segment : List ℕ) → AreAlike a b
      → filled defs message a fields values segment ≡ filled defs message b fields values segment
  same_filled a b fields [] segment h = refl
  same_filled a b fields (f ∷ fs) segment h =
      bind_same _ _ _ (λ field. bind_both _ _ _ _ (same_text_of a b f.value h)
      (λ text. bind_same _ _ _ (λ bytes. same_filled a b fields fs _ h)))

  pub same_get_call : (a b : Env) (get : List Ssa → Call) (db : ℕ) (ssas : List SsaText) → AreAlike a b
      → get_call defs message a get db ssas ≡ get_call defs message b get db ssas
  same_get_call a b get db ssas h = ap (option_map get) (same_ssas a b db ssas h)

  pub same_fld_call : (a b : Env) (db : ℕ) (key : Operand) (fsas : List FsaText) → AreAlike a b
      → fld_call defs message a db key fsas ≡ fld_call defs message b db key fsas
  same_fld_call a b db key fsas h = bind_both _ _ _ _ (same_key_text a b db 0 key h)
      (λ x. bind_both _ _ _ _ (same_fsas a b fsas h) (λ y. refl))

  pub same_isrt_call : (a b : Env) (db : ℕ) (ssas : List SsaText) (fields : List FieldText) → AreAlike a b
      → isrt_call defs message a db ssas fields ≡ isrt_call defs message b db ssas fields
  same_isrt_call a b db ssas fields h =
      bind_both _ _ _ _ (same_ssas a b db ssas h) (λ found. bind_same (layout_of defs db (new_type defs message ssas)) _
      _ (λ (layout : Layout). bind_same (empty_segment layout.fields) _ _
      (λ segment. bind_both _ _ (λ bytes. Some (call.Isrt db found bytes)) _
      (same_filled a b layout.fields fields segment h) (λ y. refl))))

  pub same_repl_call : (a b : Env) (db : ℕ) (fields : List FieldText) → AreAlike a b
      → repl_call defs message a db fields ≡ repl_call defs message b db fields
  same_repl_call a b db fields h =
      bind_both _ _ _ _ (h.shown.each db) (λ (shown : ShownSegment). bind_same (layout_of defs db shown.type_number) _ _
      (λ (layout : Layout). bind_both _ _ (λ bytes. Some (call.Repl db bytes)) _
      (same_filled a b layout.fields fields shown.bytes h) (λ y. refl)))

-- ---- ways

abbrev pub Respects : (Env → Way) → Type 0
Respects part = (a b : Env) → AreTwins a b → LeadAlike (part a) (part b)

pub alike_ends : {v w : Way} → LeadAlike v w → ended v ≡ ended w
alike_ends (both_go h) = refl
alike_ends (both_leave h) = refl
alike_ends (both_end end) = refl

goes_on_alike : {v w : Way} (part : Env → Way) → LeadAlike v w → Respects part
    → LeadAlike (goes_on v part) (goes_on w part)
goes_on_alike part (both_go {a} {b} h) r = r a b h
goes_on_alike part (both_leave h) r = both_leave h
goes_on_alike part (both_end end) r = both_end end

loops_on_alike : {v w : Way} (part : Env → Way) → LeadAlike v w → Respects part
    → LeadAlike (loops_on v part) (loops_on w part)
loops_on_alike part (both_go {a} {b} h) r = r a b h
loops_on_alike part (both_leave h) r = both_go h
loops_on_alike part (both_end end) r = both_end end

times_respects : (n : ℕ) (body : Env → Way) → Respects body → Respects (times n body)
times_respects zero body r a b h = both_go h
times_respects (suc n) body r a b h = loops_on_alike (times n body) (r a b h) (times_respects n body r)

-- a value that there may be, the same in both
or_rolls_alike : {A : Type 0} (m n : Option A) (f g : A → Way) → m ≡ n → ((x : A) → LeadAlike (f x) (g x))
    → LeadAlike (or_rolls m f) (or_rolls n g)
or_rolls_alike {A} m n f g e h = subst (λ (o : Option A). LeadAlike (or_rolls m f) (or_rolls o g)) e (both m)
  where
    both : (o : Option A) → LeadAlike (or_rolls o f) (or_rolls o g)
    both None = both_end (Rolls 99)
    both (Some x) = h x

-- a variable more in front
found_first : (b : Bool) (x : Setting) (m n : Option Setting)
    → option_map_or (λ (s : Setting). s.text) m [] ≡ option_map_or (λ (s : Setting). s.text) n []
    → option_map_or (λ (s : Setting). s.text) (if b then Some x else m) [] ≡ option_map_or (λ (s : Setting). s.text)
    (if b then Some x else n) []
found_first true x m n h = refl
found_first false x m n h = h

setting_alike : (a b : Env) (variable text : List ℕ) → AreAlike a b
    → AreAlike (with_setting variable text a) (with_setting variable text b)
setting_alike a b variable text h = record {
  settings = λ name. found_first (same_text variable name) _ _ _ (h.settings name);
  status = h.status;
  letters = h.letters;
  shown = h.shown;
}

-- a segment more in front
shown_more : (s : ShownSegment) (a b : Env) → AreAlike a b
    → AreAlike (record a { shown = s ∷ a.shown }) (record b { shown = s ∷ b.shown })
shown_more s a b h = record {
  settings = h.settings;
  status = h.status;
  letters = h.letters;
  shown = record {
    each = λ db. ap (λ (o : Option ShownSegment). if s.db == db then Some s else o) (h.shown.each db);
    first = refl;
  };
}

-- ---- calls

answered_alike : (a b : Env) (answer : Answer) (answers : List Answer) → AreAlike a b
    → AreTwins (record a { status = answer.status; answers = answers })
    (record b { status = answer.status; answers = answers })
answered_alike a b answer answers h = record {
  alike = record { settings = h.settings; status = refl; letters = h.letters; shown = h.shown };
  answers = refl;
}

either_twins : (holds : Bool) (a b c d : Env) → AreTwins a b → AreTwins c d
    → AreTwins (if holds then a else c) (if holds then b else d)
either_twins true a b c d h k = h
either_twins false a b c d h k = k

learned_twins : (asked : Call) (answer : Answer) (a b : Env) → AreTwins a b
    → AreTwins (learned asked answer a) (learned asked answer b)
learned_twins (call.Get get hold db ssas) answer a b h =
    either_twins (same_text (trimmed answer.status) []) _ _ a b
    (record {
      alike = shown_more (record { db = db; type_number = answer.segment; bytes = answer.bytes }) a b
          h.alike;
      answers = h.answers;
    }) h
learned_twins (call.Fld db key fsas) answer a b h = record {
  alike = record { settings = h.alike.settings; status = h.alike.status; letters = refl; shown = h.alike.shown };
  answers = h.answers;
}
learned_twins (call.Isrt db ssas bytes) answer a b h = h
learned_twins (call.Repl db bytes) answer a b h = h
learned_twins (call.Dlet db) answer a b h = h

called_with : (asked : Call) (a b : Env) (answers : List Answer) → AreAlike a b → a.answers ≡ answers
    → b.answers ≡ answers → LeadAlike (called asked a) (called asked b)
called_with asked a b [] h e k = rw (e, k) (both_end (Asks asked))
called_with asked a b (answer ∷ answers) h e k = rw (e, k)
    (both_go (learned_twins asked answer _ _ (answered_alike a b answer answers h)))

pub called_respects : (asked : Call) → Respects (called asked)
called_respects asked a b h = called_with asked a b b.answers h.alike h.answers refl

calls_alike : (m n : Option Call) (a b : Env) → m ≡ n → AreTwins a b
    → LeadAlike (or_rolls m (λ asked. called asked a)) (or_rolls n (λ asked. called asked b))
calls_alike m n a b e h = or_rolls_alike m n _ _ e (λ asked. called_respects asked a b h)

-- ---- statements

module _ (defs : Defs) (message : Message) where
  abbrev Makes : Statement → Type 0
  Makes s = Respects (run defs message s)

  block_makes : (ss : List ((s : Statement) × Makes s))
      → Respects (in_order (map (run defs message) (map (λ e. e.0) ss)))
  block_makes [] a b h = both_go h
  block_makes (s ∷ ss) a b h = goes_on_alike _ (s.1 a b h) (block_makes ss)

  choice_makes : (holds : Bool) (x y : Env → Way) → Respects x → Respects y → Respects (if holds then x else y)
  choice_makes true x y h k = h
  choice_makes false x y h k = k

  step_makes : (y : Statement-F ((s : Statement) × Makes s))
      → Respects (run_step defs message (map-Statement _ _ (run defs message) (map-Statement _ _ (λ e. e.0) y)))
  step_makes (Set variable first rest) a b h =
      or_rolls_alike _ _ _ _ (same_set_text defs message a b first rest h.alike)
      (λ text. both_go (record { alike = setting_alike a b variable.0 text h.alike; answers = h.answers }))
  step_makes (If left comparison right taken otherwise) a b h =
      or_rolls_alike _ _ _ _ (same_chosen defs message a b left comparison right h.alike)
      (λ holds. choice_makes holds (in_order (map (run defs message) (map (λ e. e.0) taken)))
      (in_order (map (run defs message) (map (λ e. e.0) otherwise))) (block_makes taken) (block_makes otherwise) a b
      h)
  step_makes (Repeat n body) a b h = times_respects n (in_order (map (run defs message) (map (λ e. e.0) body)))
      (block_makes body) a b h
  step_makes Break a b h = both_leave h
  step_makes (Reply operands) a b h = or_rolls_alike _ _ _ _ (same_reply_text defs message a b operands h.alike)
      (λ text. both_end (Replies text))
  step_makes (Roll code) a b h = both_end (Rolls code)
  step_makes (Get get hold db ssas) a b h = calls_alike _ _ a b
      (same_get_call defs message a b (call.Get get hold db) db ssas h.alike) h
  step_makes (Fld db key fsas) a b h = calls_alike _ _ a b (same_fld_call defs message a b db key fsas h.alike) h
  step_makes (Isrt db ssas fields) a b h = calls_alike _ _ a b (same_isrt_call defs message a b db ssas fields h.alike)
      h
  step_makes (Repl db fields) a b h = calls_alike _ _ a b (same_repl_call defs message a b db fields h.alike) h
  step_makes (Dlet db) a b h = called_respects (call.Dlet db) a b h

  rolled_makes : (x : Statement-F Statement) → Respects (run_step defs message (map-Statement _ _ (run defs message) x))
      → Makes (roll-Statement x)
  rolled_makes x h = rw (fold-roll-Statement (Env → Way) (run_step defs message)) h

  statement_makes : (s : Statement) → Makes s
  statement_makes = ind-Statement Makes (λ x y is. rolled_makes x
      (subst (λ z. Respects (run_step defs message (map-Statement _ _ (run defs message) z))) is (step_makes y)))

  pub block_respects : (ss : List Statement) → Respects (in_order (map (run defs message) ss))
  block_respects [] a b h = both_go h
  block_respects (s ∷ ss) a b h = goes_on_alike _ (statement_makes s a b h) (block_respects ss)

  beyond_alike : (f : Frame) (block : List Statement) {v w : Way} → LeadAlike v w
      → LeadAlike (beyond defs message f block v) (beyond defs message f block w)
  beyond_alike (frame.Choice behind holds) block h = goes_on_alike _ h (block_respects (drop behind block))
  beyond_alike (frame.Loop behind left) block h =
      goes_on_alike _ (loops_on_alike _ h (times_respects left _
      (block_respects (drop 0 (inner (frame.Loop behind left) block))))) (block_respects (drop behind block))

  -- what stands around is led to the same
  pub around_alike : (frames : List Frame) (block : List Statement) {v w : Way} → LeadAlike v w
      → LeadAlike (around defs message frames block v) (around defs message frames block w)
  around_alike [] block h = h
  around_alike (f ∷ fs) block h = beyond_alike f block (around_alike fs (inner f block) h)

  -- what is alike comes to the same from a place on
  pub same_end : (statements : List Statement) (place : Place) (a b : Env) → AreTwins a b
      → end_from defs message statements place a ≡ end_from defs message statements place b
  same_end statements place a b h = alike_ends (around_alike place.frames statements
      (block_respects (drop place.at (block_at place.frames statements)) a b h))
