-- How lines make blocks, step by step, and the list of frames from both ends.
use Rattle.std.proofs.Common.{◌≡◌, ℕ, List, [], ◌∷◌, ◌++◌, length, map, Bool, true, false, Option, Some, None, refl, sym, ap, subst, ◌∙◌, append_assoc}
use Rattle.std.specs.Prelude.{◌||◌, reverse, IsSome, slice_get, option_map}
use Rattle.std.specs.List.{list_any}
use Rattle.std.proofs.lemmas.List.{append-nil, reverse-append, map-append, length-reverse, length-map}
use Rattle.std.proofs.lemmas.List.Folds.{list_any-append}
use Rattle.fp_model.specs.declared.name.Name.{Name}
use Rattle.fp_model.specs.declared.scripts.Statement.{Statement}
use Rattle.fp_model.specs.declared.scripts.Script.{Script}
use Rattle.txn_lang.specs.declared.line.Line.{Line}
use Rattle.txn_lang.specs.declared.line.Line.TheVariants as line
use Rattle.txn_lang.specs.declared.standing.Block.{Block}
use Rattle.txn_lang.specs.declared.standing.Opening.{Opening}
use Rattle.txn_lang.specs.declared.standing.Opening.TheVariants as opening
use Rattle.txn_lang.specs.declared.standing.Frame.{Frame}
use Rattle.txn_lang.specs.Blocks.{Open, outermost, unclosed, else_in, AreStatements, none, one, if_end, if_else_end, repeat_end, AreScripts, no_script, script}
use Rattle.txn_lang.specs.inside.Building.{IsBlock, IsOpening, open_of, kind_of, is_choice, turned, statement_by, opening_line, IsFirst, IsOpened, Covers, HasShape, finished}

-- ---- statements and more statements

along : {a b : List Line} {s : List Statement} → a ≡ b → AreStatements a s → AreStatements b s
along {s = s} e p = subst (λ (x : List Line). AreStatements x s) e p

along_scripts : {a b : List Line} {s : List Script} → a ≡ b → AreScripts a s → AreScripts b s
along_scripts {s = s} e p = subst (λ (x : List Line). AreScripts x s) e p

pub append_statements : {a b : List Line} {s t : List Statement} → AreStatements a s → AreStatements b t
    → AreStatements (a ++ b) (s ++ t)
append_statements none q = q
append_statements (one s r) q = one s (append_statements r q)
append_statements {b = b} (if_end l c r {a = a} {lines = lines} {taken = taken} {more = more} p k) q =
    along (ap (λ (ls : List Line). line.If l c r ∷ ls) (sym (append_assoc a (line.End ∷ lines) b)))
    (if_end l c r p (append_statements k q))
append_statements {b = b} (if_else_end l c r {a = a} {b = o} {lines = lines} p r2 k) q =
    along (ap (λ (ls : List Line). line.If l c r ∷ ls) (sym (append_assoc (a ++ line.Else ∷ o) (line.End ∷ lines) b)))
    (if_else_end l c r p r2 (append_statements k q))
append_statements {b = b} (repeat_end n {a = a} {lines = lines} p k) q =
    along (ap (λ (ls : List Line). line.Repeat n ∷ ls) (sym (append_assoc a (line.End ∷ lines) b)))
    (repeat_end n p (append_statements k q))

opened_more : (o : Opening) (st es : List Statement) (b ext : List Line) → IsOpened o st b → AreStatements ext es
    → IsOpened o (st ++ es) (b ++ ext)
opened_more (opening.Choice l c r) st es b ext h q =
    (h.0 ++ ext, ap (λ (x : List Line). x ++ ext) h.1, append_statements h.2 q)
opened_more (opening.Otherwise l c r taken) st es b ext h q = (
  h.0,
  h.1 ++ ext,
  ap (λ (x : List Line). x ++ ext) h.2 ∙ ap (λ (x : List Line). line.If l c r ∷ x)
      (append_assoc h.0 (line.Else ∷ h.1) ext),
  h.3,
  append_statements h.4 q,
)
opened_more (opening.Loop n) st es b ext h q = (
  h.0 ++ ext,
  ap (λ (x : List Line). x ++ ext) h.1,
  append_statements h.2 q,
)

pub cover_more : (frames : List Frame) (st es : List Statement) (lines ext : List Line) → Covers frames st lines
    → AreStatements ext es → Covers frames (st ++ es) (lines ++ ext)
cover_more [] st es lines ext h q = append_statements h q
cover_more (f ∷ fs) st es lines ext h q = (
  h.0,
  h.1 ++ ext,
  ap (λ (x : List Line). x ++ ext) h.2 ∙ append_assoc h.0 h.1 ext,
  h.3,
  opened_more f.opening st es h.1 ext h.4 q,
)

-- ---- the steps

split_more : (said a b ext : List Line) (name : Name) → said ≡ a ++ line.Tran name ∷ b
    → said ++ ext ≡ a ++ line.Tran name ∷ (b ++ ext)
split_more said a b ext name is = ap (λ (x : List Line). x ++ ext) is ∙ append_assoc a (line.Tran name ∷ b) ext

-- a statement more
pub shape_more : (begun : Option Name) (scripts : List Script) (frames : List Frame) (st es : List Statement)
    (said ext : List Line) → IsSome begun
    → HasShape begun scripts frames st said → AreStatements ext es
    → HasShape begun scripts frames (st ++ es) (said ++ ext)
shape_more None scripts frames st es said ext some h q = absurd cc
shape_more (Some name) scripts frames st es said ext some h q =
    (h.0, h.1 ++ ext, split_more said h.0 h.1 ext name h.2, h.3, cover_more frames st es h.1 ext h.4 q)

opened_first : (o : Opening) → IsFirst o → IsOpened o [] (opening_line o ∷ [])
opened_first (opening.Choice l c r) is = ([], refl, none)
opened_first (opening.Otherwise l c r taken) is = absurd is
opened_first (opening.Loop n) is = ([], refl, none)

-- a block more
pub shape_open : (begun : Option Name) (scripts : List Script) (frames : List Frame) (frame : Frame) (said : List Line)
    → IsSome begun → IsFirst frame.opening
    → HasShape begun scripts frames frame.outer.statements said
    → HasShape begun scripts (frame ∷ frames) [] (said ++ opening_line frame.opening ∷ [])
shape_open None scripts frames frame said some first h = absurd cc
shape_open (Some name) scripts frames frame said some first h = (
  h.0,
  h.1 ++ opening_line frame.opening ∷ [],
  split_more said h.0 h.1 (opening_line frame.opening ∷ []) name h.2,
  h.3,
  (h.1, opening_line frame.opening ∷ [], refl, h.4, opened_first frame.opening first),
)

opened_turned : (o : Opening) (block : Block) (b : List Line) → is_choice (kind_of o) ≡ true
    → IsOpened o block.statements b → IsOpened (turned o block) [] (b ++ line.Else ∷ [])
opened_turned (opening.Choice l c r) block b is h =
    (h.0, [], ap (λ (x : List Line). x ++ line.Else ∷ []) h.1, h.2, none)
opened_turned (opening.Otherwise l c r taken) block b is h = absurd cc
opened_turned (opening.Loop n) block b is h = absurd cc

-- the second block of an IF
pub shape_turn : (begun : Option Name) (scripts : List Script) (frames : List Frame) (frame : Frame) (block : Block)
    (said : List Line) → IsSome begun → is_choice (kind_of frame.opening) ≡ true
    → HasShape begun scripts (frame ∷ frames) block.statements said
    → HasShape begun scripts (record frame { opening = turned frame.opening block } ∷ frames) []
    (said ++ line.Else ∷ [])
shape_turn None scripts frames frame block said some is h = absurd cc
shape_turn (Some name) scripts frames frame block said some is h =
    let k = h.4 in (
      h.0,
      h.1 ++ line.Else ∷ [],
      split_more said h.0 h.1 (line.Else ∷ []) name h.2,
      h.3,
      (
        k.0,
        k.1 ++ line.Else ∷ [],
        ap (λ (x : List Line). x ++ line.Else ∷ []) k.2 ∙ append_assoc k.0 k.1
            (line.Else ∷ []),
        k.3,
        opened_turned frame.opening block k.1 is k.4,
      ),
    )

-- a block is a statement behind its END
closed_block : (o : Opening) (st : List Statement) (b : List Line) → IsOpened o st b
    → AreStatements (b ++ line.End ∷ []) (statement_by o st ∷ [])
closed_block (opening.Choice l c r) st b h = along (ap (λ (x : List Line). x ++ line.End ∷ []) (sym h.1))
    (if_end l c r h.2 none)
closed_block (opening.Otherwise l c r taken) st b h =
    along (ap (λ (x : List Line). x ++ line.End ∷ []) (sym h.2)) (if_else_end l c r h.3 h.4 none)
closed_block (opening.Loop n) st b h = along (ap (λ (x : List Line). x ++ line.End ∷ []) (sym h.1))
    (repeat_end n h.2 none)

pub shape_close : (begun : Option Name) (scripts : List Script) (frames : List Frame) (frame : Frame)
    (st : List Statement) (said : List Line) → IsSome begun
    → HasShape begun scripts (frame ∷ frames) st said
    → HasShape begun scripts frames (frame.outer.statements ++ statement_by frame.opening st ∷ [])
    (said ++ line.End ∷ [])
shape_close None scripts frames frame st said some h = absurd cc
shape_close (Some name) scripts frames frame st said some h =
    let k = h.4 in
    let more = cover_more frames frame.outer.statements (statement_by frame.opening st ∷ []) k.0 (k.1 ++ line.End ∷ [])
    k.3 (closed_block frame.opening st k.1 k.4) in (
      h.0,
      h.1 ++ line.End ∷ [],
      split_more said h.0 h.1 (line.End ∷ []) name h.2,
      h.3,
      subst (λ (x : List Line). Covers frames (frame.outer.statements ++ statement_by frame.opening st ∷ []) x)
          (sym (ap (λ (x : List Line). x ++ line.End ∷ []) k.2 ∙ append_assoc k.0 k.1 (line.End ∷ []))) more,
    )

-- ---- scripts

scripts_push : {a b : List Line} {scripts : List Script} {statements : List Statement} (name : Name)
    → AreScripts a scripts → AreStatements b statements
    → AreScripts (a ++ line.Tran name ∷ b) (scripts ++ record { name = name; statements = statements } ∷ [])
scripts_push {b = b} name no_script q = along_scripts (ap (λ (x : List Line). line.Tran name ∷ x) (append-nil b))
    (script name q no_script)
scripts_push {b = b} name (script first {a = a} {lines = lines} p k) q =
    along_scripts (ap (λ (x : List Line). line.Tran first ∷ x) (sym (append_assoc a lines (line.Tran name ∷ b))))
    (script first p (scripts_push name k q))

-- where no block is open, the lines are scripts
pub shape_scripts : (begun : Option Name) (scripts : List Script) (st : List Statement) (said : List Line)
    → HasShape begun scripts [] st said → AreScripts said (scripts ++ finished begun st)
shape_scripts None scripts st said h = subst (λ (x : List Line). AreScripts x (scripts ++ [])) (sym h.0)
    (subst (λ (x : List Script). AreScripts [] (x ++ [])) (sym h.1) no_script)
shape_scripts (Some name) scripts st said h = subst
    (λ (x : List Line). AreScripts x (scripts ++ finished (Some name) st)) (sym h.2) (scripts_push name h.3 h.4)

pub shape_begin : (name : Name) (begun : Option Name) (scripts : List Script) (st : List Statement) (said : List Line)
    → HasShape begun scripts [] st said → HasShape (Some name) (scripts ++ finished begun st) [] []
    (said ++ line.Tran name ∷ [])
shape_begin name begun scripts st said h = (said, [], refl, shape_scripts begun scripts st said h, none)

-- ---- frames from both ends

pub reverse_push : {X : Type 0} (xs : List X) (x : X) → reverse (xs ++ x ∷ []) ≡ x ∷ reverse xs
reverse_push xs x = reverse-append xs (x ∷ [])

pub reverse_cons : {X : Type 0} (xs : List X) (x : X) → reverse (x ∷ xs) ≡ reverse xs ++ x ∷ []
reverse_cons xs x = reverse-append (x ∷ []) xs

or_comm : (a b : Bool) → (a || b || false) ≡ (b || a)
or_comm true true = refl
or_comm true false = refl
or_comm false true = refl
or_comm false false = refl

or_swap : (a b : Bool) → (a || (b || false)) ≡ (b || a)
or_swap true true = refl
or_swap true false = refl
or_swap false true = refl
or_swap false false = refl

pub any_reverse : (p : Open → Bool) (frames : List Frame)
    → list_any (λ frame. p (open_of frame)) frames ≡ list_any p (map open_of (reverse frames))
any_reverse p [] = refl
any_reverse p (f ∷ fs) =
    sym (ap (λ (x : List Frame). list_any p (map open_of x)) (reverse_cons fs f)
    ∙ ap (list_any p) (map-append open_of (reverse fs) (f ∷ []))
    ∙ list_any-append p (map open_of (reverse fs)) (open_of f ∷ [])
    ∙ ap (λ (b : Bool). b || (p (open_of f) || false)) (sym (any_reverse p fs))
    ∙ or_swap (list_any (λ frame. p (open_of frame)) fs) (p (open_of f)))

last_outermost : (xs : List Open) (block : Open) → outermost (xs ++ block ∷ []) ≡ Some block.line
last_outermost [] block = refl
last_outermost (x ∷ []) block = refl
last_outermost (x ∷ y ∷ ys) block = last_outermost (y ∷ ys) block

pub outermost_first : (frames : List Frame) → option_map (λ frame. frame.line) (slice_get frames 0) ≡ outermost
    (map open_of (reverse frames))
outermost_first [] = refl
outermost_first (f ∷ fs) =
    sym (ap (λ (x : List Frame). outermost (map open_of x)) (reverse_cons fs f)
    ∙ ap outermost (map-append open_of (reverse fs) (f ∷ []))
    ∙ last_outermost (map open_of (reverse fs)) (open_of f))

pub length_open : (frames : List Frame) → length (map open_of (reverse frames)) ≡ length frames
length_open frames = length-map (reverse frames) open_of ∙ length-reverse frames

pub choice_in : (frame : Frame) (more : List Open) → IsSome (else_in (open_of frame ∷ more))
    → is_choice (kind_of frame.opening) ≡ true
choice_in frame more is = by_opening frame.opening is
  where
    by_opening : (o : Opening) → IsSome (else_in (record { kind = kind_of o; line = frame.line } ∷ more))
        → is_choice (kind_of o) ≡ true
    by_opening (opening.Choice l c r) h = refl
    by_opening (opening.Otherwise l c r taken) h = absurd cc
    by_opening (opening.Loop n) h = absurd cc

outermost_none : (xs : List Open) → outermost xs ≡ None → xs ≡ []
outermost_none [] is = refl
outermost_none (x ∷ []) is = absurd cc
outermost_none (x ∷ y ∷ ys) is = absurd (nil_cons (outermost_none (y ∷ ys) is))
  where
    nil_cons : y ∷ ys ≡ [] → ⊥
    nil_cons e = absurd cc

map_nil : (frames : List Frame) → map open_of frames ≡ [] → frames ≡ []
map_nil [] is = refl
map_nil (f ∷ fs) is = absurd cc

-- where nothing is unclosed, no block is open and none was left open
pub nothing_open : (left : Option ℕ) (frames : List Frame) (begun : Bool)
    → unclosed (record { has_begun = begun; open_blocks = map open_of frames; left_open = left }) ≡ None
    → (left ≡ None) × (frames ≡ [])
nothing_open None frames begun is = (refl, map_nil frames (outermost_none (map open_of frames) is))
nothing_open (Some n) frames begun is = absurd cc

pub turned_opening : (o : Opening) (block : Block) → is_choice (kind_of o) ≡ true → IsBlock block
    → IsOpening (turned o block)
turned_opening (opening.Choice l c r) block is h = h
turned_opening (opening.Otherwise l c r taken) block is h = absurd cc
turned_opening (opening.Loop n) block is h = absurd cc
