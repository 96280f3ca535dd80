-- The names in the set of busy terminals, which is kept in the order of the numbers that they spell.
use Rattle.std.proofs.Common.{refl, arith, ℕ, suc, Ordering, ◌≡◌, ◌<◌, ◌^◌, List, [], ◌∷◌, ◌++◌, map, Bool, true, false, cond, not, ◌&&◌, ◌||◌, ap, sym, subst, ◌∙◌}
use Rattle.std.proofs.lemmas.Bool.Decides.{nat_tests}
use Rattle.std.specs.Int.{w64, from_be_bytes}
use Rattle.std.specs.List.{All, list_any}
use Rattle.std.specs.Ordering.{nat_cmp}
use Rattle.std.specs.BTreeMap.{is_at}
use Rattle.std.specs.BTreeSet.{insert_key}
use Rattle.std.specs.Set.{remove_key}
use Rattle.std.specs.Cmp.Lexicographic.{bytes_decides}
use Rattle.std.proofs.lemmas.List.Folds.{list_any-append}
use Rattle.std.proofs.lemmas.Map.Views.{All-insert_key, All-remove_key, any-filter_same}
use Rattle.std.proofs.lemmas.Nat.{from_be_bytes-to_be_bytes_8}
use Rattle.fp_model.specs.declared.name.Name.{Name}
use Rattle.fp_model.specs.Machine.{is_among, same_name}
use Rattle.balancing.specs.Backlog.{AreSame, spelled, without}
use Rattle.model_laws.proofs.Texts.{same_names}

not_both : true ≡ false → ⊥
not_both e = cc

own_name : (a b : Name) → a ≡ b → same_name a b ≡ true
own_name a b e = (bytes_decides a.0 b.0).1 (ap (λ name. name.0) e)

pub flipped : (a b : Name) → same_name a b ≡ same_name b a
flipped a b = by (same_name a b) (same_name b a) (λ e. own_name b a (sym (same_names a b e)))
    (λ e. own_name a b (sym (same_names b a e)))
  where
    by : (p q : Bool) → (p ≡ true → q ≡ true) → (q ≡ true → p ≡ true) → p ≡ q
    by true q there back = sym (there refl)
    by false true there back = back refl
    by false false there back = refl

-- the number of a name that a number spells
abbrev pub number_in : Name → ℕ
number_in name = from_be_bytes w64 name.0

abbrev pub is_spelled : Name → Bool
is_spelled name = same_name name (spelled (number_in name))

abbrev pub Below : ℕ → Type 0
Below n = n < 2 ^ 64

-- a number spells a name exactly where the name is spelled, and by that number
spells : (name : Name) (n : ℕ) → Below n
    → same_name name (spelled n) ≡ (is_spelled name && is_at (nat_cmp (number_in name)) n)
spells name n small = by (same_name name (spelled n)) (is_spelled name) (is_at (nat_cmp (number_in name)) n) refl refl
    refl
  where
    number : same_name name (spelled n) ≡ true → number_in name ≡ n
    number e = ap number_in (same_names name (spelled n) e) ∙ from_be_bytes-to_be_bytes_8 n small

    level : number_in name ≡ n → is_at (nat_cmp (number_in name)) n ≡ true
    level e = grind (arith, nat_tests)

    alike : is_at (nat_cmp (number_in name)) n ≡ true → number_in name ≡ n
    alike e = grind (arith, nat_tests)

    by : (s t u : Bool) → same_name name (spelled n) ≡ s → is_spelled name ≡ t
        → is_at (nat_cmp (number_in name)) n ≡ u → s ≡ (t && u)
    by true true true es et eu = refl
    by true true false es et eu = absurd (not_both (sym (level (number es)) ∙ eu))
    by true false u es et eu = absurd (not_both (sym (subst (λ m. same_name name (spelled m) ≡ true)
        (sym (number es)) es) ∙ et))
    by false true true es et eu = absurd (not_both (sym (subst (λ m. same_name name (spelled m) ≡ true) (alike eu) et)
        ∙ es))
    by false true false es et eu = refl
    by false false u es et eu = refl

-- a name is among those that numbers spell exactly where it is spelled, and its number is one of them
pub among_spelled : (numbers : List ℕ) (name : Name) → All Below numbers
    → is_among (map spelled numbers) name ≡ (is_spelled name && list_any (is_at (nat_cmp (number_in name))) numbers)
among_spelled [] name small = by (is_spelled name)
  where
    by : (t : Bool) → false ≡ (t && false)
    by true = refl
    by false = refl
among_spelled (n ∷ ns) name small =
    ap (λ b. b || is_among (map spelled ns) name) (spells name n (small 0 n (omega (arith))))
    ∙ ap (λ b. (is_spelled name && is_at (nat_cmp (number_in name)) n) || b) (among_spelled ns name
    (λ k d within. small (suc k) d (omega (arith, within))))
    ∙ by (is_spelled name) (is_at (nat_cmp (number_in name)) n) (list_any (is_at (nat_cmp (number_in name))) ns)
  where
    by : (t u v : Bool) → ((t && u) || (t && v)) ≡ (t && (u || v))
    by true u v = refl
    by false u v = refl

-- a name that a number spells is among others exactly where the number is
pub among_is_contained : (numbers : List ℕ) (name : Name) (n : ℕ) → All Below numbers → Below n
    → spelled n ≡ name → list_any (is_at (nat_cmp n)) numbers ≡ is_among (map spelled numbers) name
among_is_contained numbers name n all small is =
    let number : number_in name ≡ n = ap number_in (sym is) ∙ from_be_bytes-to_be_bytes_8 n small in
    let there : is_spelled name ≡ true = own_name name (spelled (number_in name)) (sym is ∙ ap spelled (sym number)) in
    sym (among_spelled numbers name all ∙ ap (λ b. b && list_any (is_at (nat_cmp (number_in name))) numbers) there
    ∙ ap (λ m. list_any (is_at (nat_cmp m)) numbers) number)

pub all_put : (cmp : ℕ → ℕ → Ordering) (old new : List ℕ) (n : ℕ) → All Below old → Below n
    → new ≡ insert_key cmp old n → All Below new
all_put cmp old new n all small is = subst (All Below) (sym is) (All-insert_key cmp n Below old all small)

pub all_left : (test : ℕ → Bool) (old new : List ℕ) → All Below old → new ≡ remove_key test old → All Below new
all_left test old new all is = subst (All Below) (sym is) (All-remove_key test Below old all)

level_back : (m n : ℕ) → is_at (nat_cmp m) n ≡ is_at (nat_cmp n) m
level_back m n = grind (arith, nat_tests)

-- A number that is put among others: each name is among those spelled exactly where it is the number's or was.
pub put_last : (old new : List ℕ) (busy : List Name) (key : Name) (n : ℕ) → All Below old
    → All Below new → Below n → spelled n ≡ key → map spelled old ≡ busy
    → ((q : ℕ) → list_any (is_at (nat_cmp q)) new ≡ cond (is_at (nat_cmp n) q) true
    (list_any (is_at (nat_cmp q)) old))
    → AreSame (map spelled new) (busy ++ key ∷ [])
put_last old new busy key n all_old all_new small is shown updates name =
    let q = number_in name in
    among_spelled new name all_new
    ∙ ap (λ b. is_spelled name && b) (updates q)
    ∙ ap (λ b. is_spelled name && cond b true (list_any (is_at (nat_cmp q)) old)) (level_back n q)
    ∙ by (is_spelled name) (is_at (nat_cmp q) n) (list_any (is_at (nat_cmp q)) old)
    ∙ ap (λ b. b || ((is_spelled name && is_at (nat_cmp q) n) || false)) (sym (among_spelled old name all_old)
    ∙ ap (λ names. is_among names name) shown)
    ∙ ap (λ b. is_among busy name || (b || false)) (sym (spells name n small) ∙ ap (same_name name) is)
    ∙ sym (list_any-append (same_name name) busy (key ∷ []))
  where
    by : (t u v : Bool) → (t && cond u true v) ≡ ((t && v) || ((t && u) || false))
    by true true true = refl
    by true true false = refl
    by true false true = refl
    by true false false = refl
    by false u v = refl

-- A number that is taken out: each other name stays.
pub taken_out : (old new : List ℕ) (busy : List Name) (key : Name) (n : ℕ) → All Below old
    → All Below new → Below n → spelled n ≡ key → map spelled old ≡ busy
    → ((q : ℕ) → list_any (is_at (nat_cmp q)) new ≡ cond (is_at (nat_cmp n) q) false
    (list_any (is_at (nat_cmp q)) old))
    → AreSame (map spelled new) (without key busy)
taken_out old new busy key n all_old all_new small is shown updates name =
    let q = number_in name in
    among_spelled new name all_new
    ∙ ap (λ b. is_spelled name && b) (updates q)
    ∙ ap (λ b. is_spelled name && cond b false (list_any (is_at (nat_cmp q)) old)) (level_back n q)
    ∙ by (is_spelled name) (is_at (nat_cmp q) n) (list_any (is_at (nat_cmp q)) old)
    ∙ ap (λ b. not (is_spelled name && is_at (nat_cmp q) n) && b) (sym (among_spelled old name all_old)
    ∙ ap (λ names. is_among names name) shown)
    ∙ ap (λ b. not b && is_among busy name) (sym (spells name n small) ∙ ap (same_name name) is ∙ flipped name key)
    ∙ sym (any-filter_same (same_name name) (λ other. not (same_name key other)) (not (same_name key name))
    (λ other same. ap (λ n. not (same_name key n)) (sym (same_names name other same))) busy)
  where
    by : (t u v : Bool) → (t && cond u false v) ≡ (not (t && u) && (t && v))
    by true true v = refl
    by true false v = refl
    by false u v = refl
