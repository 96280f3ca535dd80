-- Variables in a map, found as the definitions find them.
use Rattle.std.proofs.Common.{◌≡◌, ◌∙◌, refl, sym, ap, ℕ, List, [], ◌∷◌, map, Bool, true, false, cond, Option, Some, None}
use Rattle.std.specs.Prelude.{find, unwrap_or}
use Rattle.std.specs.Option.{option_map_or}
use Rattle.std.specs.Cmp.Lexicographic.{texts_ties}
use Rattle.std.specs.BTreeMap.{BTreeMap, get, is_at}
use Rattle.std.specs.Map.{lookup}
use Rattle.fp_model.specs.declared.name.Name.{Name}
use Rattle.fp_model.specs.Texts.{same_text}
use Rattle.fp_model.specs.Operands.{Env, Setting, with_setting, setting_of}
use Rattle.txn_lang.specs.Numbers.{name_cmp}
use Rattle.txn_machine.specs.declared.known.Known.{Known}
use Rattle.txn_machine.specs.Knowing.{setting_in, env_of}
use Rattle.txn_machine.specs.inside.Alike.{AreAlike}
use Rattle.model_laws.proofs.Texts.{text-flipped}

-- a name's order ties with an entry's where that is its variable
ties : (a b : List ℕ) → is_at (name_cmp (record { 0 = a })) (record { 0 = b }) ≡ same_text b a
ties a b = sym (texts_ties a b) ∙ text-flipped a b

either_text : (b : Bool) (s : Setting) (m : Option Setting) (o : Option (List ℕ))
    → option_map_or (λ (s : Setting). s.text) m [] ≡ unwrap_or o []
    → option_map_or (λ (s : Setting). s.text) (cond b (Some s) m) [] ≡ unwrap_or (cond b (Some s.text) o) []
either_text true s m o h = refl
either_text false s m o h = h

-- what is found among the entries
pub found_in : (name : List ℕ) (entries : List (Name × List ℕ))
    → option_map_or (λ (s : Setting). s.text) (find (λ s. same_text s.variable name) (map setting_in entries)) [] ≡
    unwrap_or (lookup (is_at (name_cmp (record { 0 = name }))) entries) []
found_in name [] = refl
found_in name (e ∷ es) =
    ap (λ (b : Bool). option_map_or (λ (s : Setting). s.text)
    (cond b (Some (setting_in e)) (find (λ s. same_text s.variable name) (map setting_in es))) [])
    (sym (ties name e.0.0))
    ∙ either_text (is_at (name_cmp (record { 0 = name })) e.0) (setting_in e)
    (find (λ s. same_text s.variable name) (map setting_in es)) (lookup (is_at (name_cmp (record { 0 = name }))) es)
    (found_in name es)

-- what the map gives is what is known
pub setting_is : (name : List ℕ) (known : Known) (answers : List _)
    → setting_of name (env_of known answers) ≡ unwrap_or (get name_cmp known.settings (record { 0 = name })) []
setting_is name known answers = found_in name known.settings.entries

-- a variable that is set
pub set_alike : (old : Known) (settings : BTreeMap Name (List ℕ)) (name : Name) (text : List ℕ) (answers : List _)
    → ((q : Name) → get name_cmp settings q ≡ cond (is_at (name_cmp name) q) (Some text) (get name_cmp old.settings q))
    → AreAlike (with_setting name.0 text (env_of old answers)) (env_of (record old { settings = settings }) answers)
set_alike old settings name text answers put = record {
  settings = λ q.
      either_text (same_text name.0 q) (record { variable = name.0; text = text })
      (find (λ s. same_text s.variable q) (map setting_in old.settings.entries))
      (get name_cmp old.settings (record { 0 = q })) (found_in q old.settings.entries)
      ∙ ap (λ (b : Bool). unwrap_or (cond b (Some text) (get name_cmp old.settings (record { 0 = q }))) [])
      (texts_ties name.0 q)
      ∙ ap (λ (o : Option (List ℕ)). unwrap_or o []) (sym (put (record { 0 = q })))
      ∙ sym (found_in q settings.entries);
  status = refl;
  letters = refl;
  shown = record { each = λ db. refl; first = refl };
}
