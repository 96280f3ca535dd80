-- The keywords in one list, and in three parts.
use Rattle.std.proofs.Common.{◌≡◌, ℕ, List, [], ◌∷◌, ◌++◌, Bool, true, false, cond, Option, Some, None, refl, sym, ap, ◌∙◌}
use Rattle.std.specs.Prelude.{find, option_map}
use Rattle.std.specs.Option.{option_or}
use Rattle.fp_model.specs.declared.name.Name.{Name}
use Rattle.txn_tokens.specs.Parts.{is_word, entry_of}
use Rattle.txn_lang.specs.declared.line.Keyword.{Keyword}
use Rattle.txn_lang.specs.Statements.{keywords}
use Rattle.txn_lang.specs.inside.Keywords.{block_keywords, get_keywords, plain_keywords}

found_by : {X : Type 0} (b : Bool) (x : X) (o p : Option X)
    → cond b (Some x) (option_or o p) ≡ option_or (cond b (Some x) o) p
found_by true x o p = refl
found_by false x o p = refl

-- what is found in two lists
find_joined : {X : Type 0} (p : X → Bool) (xs ys : List X) → find p (xs ++ ys) ≡ option_or (find p xs) (find p ys)
find_joined p [] ys = refl
find_joined {X = X} p (x ∷ xs) ys =
    ap (λ (o : Option X). cond (p x) (Some x) o) (find_joined p xs ys) ∙ found_by (p x) x (find p xs) (find p ys)

mapped_or : {X Y : Type 0} (f : X → Y) (o p : Option X)
    → option_map f (option_or o p) ≡ option_or (option_map f o) (option_map f p)
mapped_or f None p = refl
mapped_or f (Some x) p = refl

abbrev Table : Type 0
Table = List (List ℕ × Keyword)

entry_joined : (xs ys : Table) (name : Name)
    → entry_of (xs ++ ys) name ≡ option_or (entry_of xs name) (entry_of ys name)
entry_joined xs ys name =
    ap (option_map (λ (entry : List ℕ × Keyword). entry.1))
    (find_joined (λ (entry : List ℕ × Keyword). is_word entry.0 name) xs ys)
    ∙ mapped_or (λ (entry : List ℕ × Keyword). entry.1) (find (λ (entry : List ℕ × Keyword). is_word entry.0 name) xs)
    (find (λ (entry : List ℕ × Keyword). is_word entry.0 name) ys)

in_parts : keywords ≡ block_keywords ++ (get_keywords ++ plain_keywords)
unfolding keywords block_keywords get_keywords plain_keywords
in_parts = refl

by_parts : (name : Name) → entry_of keywords name
    ≡ option_or (entry_of block_keywords name) (option_or (entry_of get_keywords name) (entry_of plain_keywords name))
by_parts name =
    ap (λ (table : Table). entry_of table name) in_parts
    ∙ entry_joined block_keywords (get_keywords ++ plain_keywords) name
    ∙ ap (option_or (entry_of block_keywords name)) (entry_joined get_keywords plain_keywords name)

pub in_blocks : (name : Name) (k : Keyword) → entry_of block_keywords name ≡ Some k → Some k ≡ entry_of keywords name
in_blocks name k is = sym (by_parts name ∙ rw is refl)

pub in_gets : (name : Name) (k : Keyword) → entry_of block_keywords name ≡ None → entry_of get_keywords name ≡ Some k
    → Some k ≡ entry_of keywords name
in_gets name k no_block is = sym (by_parts name ∙ rw (no_block, is) refl)

pub in_others : (name : Name) (o : Option Keyword) → entry_of block_keywords name ≡ None
    → entry_of get_keywords name ≡ None → o ≡ entry_of plain_keywords name → o ≡ entry_of keywords name
in_others name o no_block no_get is = is ∙ sym (by_parts name ∙ rw (no_block, no_get) refl)
