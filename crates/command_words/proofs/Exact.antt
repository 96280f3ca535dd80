-- clap takes words exactly where they are a command, and names the command.
use Rattle.std.proofs.Common.{◌≡◌, ℕ, List, [], ◌∷◌, codes, true, false, refl, ◌==◌, not, bytes_eq, ◌⊎◌, inl, inr, subst, sym, ◌∙◌, ap, arith, length, ◌≤◌, Option, None, Some, option_map, if◌then◌else◌}
use Rattle.std.proofs.lemmas.Bool.{false≢true}
use Rattle.std.proofs.lemmas.Slice.Eq.{bytes_eq-Decides}
use Rattle.std.specs.Cmp.Lexicographic.{same_text as text_is}
use Rattle.clap.specs.Words.{fault_of}
use Rattle.fp_model.specs.Texts.{same_text}
use Rattle.command_words.specs.inside.Apps.{program_app}
use Rattle.command_words.specs.Words.{command_named, command_of, is_word}
use Rattle.command_words.specs.inside.Words.{AreWords}
use Rattle.command_words.specs.declared.words.Command.{Command}
use Rattle.command_words.proofs.Forms.{audit_1, audit_2, audit_3, audit_name, define_1, define_2, define_3, define_name, log_1, log_2, log_3, log_name, migrate_1, migrate_2, migrate_3, migrate_name, name_in, no_words, run_1, run_2, run_3, run_name, show_1, show_2, show_3, show_name, unknown}

-- where clap takes the words it names their command, and where it doesn't they are none
pub record IsExact (words : List (List ℕ)) : Type 0 where
  pub taken : fault_of program_app words ≡ [] → (name : List ℕ) × (name_in words ≡ Some name)
      × (command_of words ≡ command_named name)
  pub refused : (fault_of program_app words ≡ [] → ⊥) → command_of words ≡ None

-- the bytes are those of the name, or they are not
name_cases : (name c : List ℕ) → (name ≡ c) ⊎ (bytes_eq name c ≡ false)
name_cases name c =
    (elim (bytes_eq name c) as (λ y. bytes_eq name c ≡ y → (name ≡ c) ⊎ (bytes_eq name c ≡ false)) [
      | true ↦ λ t. inl ((bytes_eq-Decides name c).0 t)
      | false ↦ λ t. inr t
    ]) refl

not_hyphen : (b : ℕ) → not (b == 45) ≡ true → (b == 45) ≡ false
not_hyphen b h = (elim (b == 45) as (λ y. not y ≡ true → y ≡ false) [ true ↦ λ t. cc | false ↦ λ t. refl ]) h

-- words that clap refuses
refused : (words : List (List ℕ)) → command_of words ≡ None → (fault_of program_app words ≡ [] → ⊥) → IsExact words
refused words none bad = record { taken = λ e. absurd (bad e); refused = λ _. none }

-- a name, and a folder
named : (name folder : List ℕ) → is_word folder ≡ true → fault_of program_app (name ∷ folder ∷ []) ≡ []
    → name_in (name ∷ folder ∷ []) ≡ Some name → IsExact (name ∷ folder ∷ [])
named name folder word takes its = record {
  taken = λ _. (name, its, rw word refl);
  refused = λ bad. absurd (bad takes);
}

behind_define : (rest : List (List ℕ)) → length rest ≤ 2 → AreWords rest → IsExact (codes "define" ∷ rest)
behind_define [] short h = refused (codes "define" ∷ []) refl (λ e. let bad = sym define_1 ∙ e in cc)
behind_define ([] ∷ ws) short h = absurd (false≢true h.0)
behind_define ((b ∷ bs) ∷ []) short h =
    let hyphen = not_hyphen b h.0 in named (codes "define") (b ∷ bs) h.0 (define_2 b bs hyphen)
    (define_name b bs hyphen)
behind_define ((b ∷ bs) ∷ [] ∷ ws) short h = absurd (false≢true h.1.0)
behind_define ((b ∷ bs) ∷ (d ∷ ds) ∷ []) short h =
    refused (codes "define" ∷ (b ∷ bs) ∷ (d ∷ ds) ∷ []) refl
    (λ e. let bad = sym (define_3 b d bs ds (not_hyphen b h.0) (not_hyphen d h.1.0)) ∙ e in cc)
behind_define ((b ∷ bs) ∷ (d ∷ ds) ∷ x ∷ ws) short h = absurd (omega arith)

behind_run : (rest : List (List ℕ)) → length rest ≤ 2 → AreWords rest → IsExact (codes "run" ∷ rest)
behind_run [] short h = refused (codes "run" ∷ []) refl (λ e. let bad = sym run_1 ∙ e in cc)
behind_run ([] ∷ ws) short h = absurd (false≢true h.0)
behind_run ((b ∷ bs) ∷ []) short h =
    let hyphen = not_hyphen b h.0 in named (codes "run") (b ∷ bs) h.0 (run_2 b bs hyphen) (run_name b bs hyphen)
behind_run ((b ∷ bs) ∷ [] ∷ ws) short h = absurd (false≢true h.1.0)
behind_run ((b ∷ bs) ∷ (d ∷ ds) ∷ []) short h =
    refused (codes "run" ∷ (b ∷ bs) ∷ (d ∷ ds) ∷ []) refl
    (λ e. let bad = sym (run_3 b d bs ds (not_hyphen b h.0) (not_hyphen d h.1.0)) ∙ e in cc)
behind_run ((b ∷ bs) ∷ (d ∷ ds) ∷ x ∷ ws) short h = absurd (omega arith)

behind_show : (rest : List (List ℕ)) → length rest ≤ 2 → AreWords rest → IsExact (codes "show" ∷ rest)
behind_show [] short h = refused (codes "show" ∷ []) refl (λ e. let bad = sym show_1 ∙ e in cc)
behind_show ([] ∷ ws) short h = absurd (false≢true h.0)
behind_show ((b ∷ bs) ∷ []) short h =
    let hyphen = not_hyphen b h.0 in named (codes "show") (b ∷ bs) h.0 (show_2 b bs hyphen) (show_name b bs hyphen)
behind_show ((b ∷ bs) ∷ [] ∷ ws) short h = absurd (false≢true h.1.0)
behind_show ((b ∷ bs) ∷ (d ∷ ds) ∷ []) short h =
    refused (codes "show" ∷ (b ∷ bs) ∷ (d ∷ ds) ∷ []) refl
    (λ e. let bad = sym (show_3 b d bs ds (not_hyphen b h.0) (not_hyphen d h.1.0)) ∙ e in cc)
behind_show ((b ∷ bs) ∷ (d ∷ ds) ∷ x ∷ ws) short h = absurd (omega arith)

behind_log : (rest : List (List ℕ)) → length rest ≤ 2 → AreWords rest → IsExact (codes "log" ∷ rest)
behind_log [] short h = refused (codes "log" ∷ []) refl (λ e. let bad = sym log_1 ∙ e in cc)
behind_log ([] ∷ ws) short h = absurd (false≢true h.0)
behind_log ((b ∷ bs) ∷ []) short h =
    let hyphen = not_hyphen b h.0 in named (codes "log") (b ∷ bs) h.0 (log_2 b bs hyphen) (log_name b bs hyphen)
behind_log ((b ∷ bs) ∷ [] ∷ ws) short h = absurd (false≢true h.1.0)
behind_log ((b ∷ bs) ∷ (d ∷ ds) ∷ []) short h =
    refused (codes "log" ∷ (b ∷ bs) ∷ (d ∷ ds) ∷ []) refl
    (λ e. let bad = sym (log_3 b d bs ds (not_hyphen b h.0) (not_hyphen d h.1.0)) ∙ e in cc)
behind_log ((b ∷ bs) ∷ (d ∷ ds) ∷ x ∷ ws) short h = absurd (omega arith)

behind_migrate : (rest : List (List ℕ)) → length rest ≤ 2 → AreWords rest → IsExact (codes "migrate" ∷ rest)
behind_migrate [] short h = refused (codes "migrate" ∷ []) refl (λ e. let bad = sym migrate_1 ∙ e in cc)
behind_migrate ([] ∷ ws) short h = absurd (false≢true h.0)
behind_migrate ((b ∷ bs) ∷ []) short h =
    let hyphen = not_hyphen b h.0 in named (codes "migrate") (b ∷ bs) h.0 (migrate_2 b bs hyphen) (migrate_name b bs
    hyphen)
behind_migrate ((b ∷ bs) ∷ [] ∷ ws) short h = absurd (false≢true h.1.0)
behind_migrate ((b ∷ bs) ∷ (d ∷ ds) ∷ []) short h =
    refused (codes "migrate" ∷ (b ∷ bs) ∷ (d ∷ ds) ∷ []) refl
    (λ e. let bad = sym (migrate_3 b d bs ds (not_hyphen b h.0) (not_hyphen d h.1.0)) ∙ e in cc)
behind_migrate ((b ∷ bs) ∷ (d ∷ ds) ∷ x ∷ ws) short h = absurd (omega arith)

behind_audit : (rest : List (List ℕ)) → length rest ≤ 2 → AreWords rest → IsExact (codes "audit" ∷ rest)
behind_audit [] short h = refused (codes "audit" ∷ []) refl (λ e. let bad = sym audit_1 ∙ e in cc)
behind_audit ([] ∷ ws) short h = absurd (false≢true h.0)
behind_audit ((b ∷ bs) ∷ []) short h =
    let hyphen = not_hyphen b h.0 in named (codes "audit") (b ∷ bs) h.0 (audit_2 b bs hyphen) (audit_name b bs
    hyphen)
behind_audit ((b ∷ bs) ∷ [] ∷ ws) short h = absurd (false≢true h.1.0)
behind_audit ((b ∷ bs) ∷ (d ∷ ds) ∷ []) short h =
    refused (codes "audit" ∷ (b ∷ bs) ∷ (d ∷ ds) ∷ []) refl
    (λ e. let bad = sym (audit_3 b d bs ds (not_hyphen b h.0) (not_hyphen d h.1.0)) ∙ e in cc)
behind_audit ((b ∷ bs) ∷ (d ∷ ds) ∷ x ∷ ws) short h = absurd (omega arith)

-- two ways to compare bytes
differ : (a b : List ℕ) → bytes_eq a b ≡ false → same_text b a ≡ false
differ a b h =
    (elim (same_text b a) as (λ y. same_text b a ≡ y → y ≡ false) [
      | true ↦ λ t. absurd (false≢true (sym h ∙ (bytes_eq-Decides a b).1 (sym (text_is b a (sym t)))))
      | false ↦ λ t. refl
    ]) refl

-- a word that is none of the names
unnamed : (c : List ℕ) → bytes_eq (codes "define") c ≡ false → bytes_eq (codes "run") c ≡ false
    → bytes_eq (codes "show") c ≡ false → bytes_eq (codes "log") c ≡ false → bytes_eq (codes "migrate") c ≡ false
    → bytes_eq (codes "audit") c ≡ false → command_named c ≡ None
unnamed c d r s l m a =
    rw (
      differ (codes "define") c d,
      differ (codes "run") c r,
      differ (codes "show") c s,
      differ (codes "log") c l,
      differ (codes "migrate") c m,
      differ (codes "audit") c a,
    ) refl

no_command : (c : List ℕ) (rest : List (List ℕ)) → command_named c ≡ None → command_of (c ∷ rest) ≡ None
no_command c [] none = refl
no_command c (x ∷ []) none = (elim (is_word x) as (λ y. (if y then command_named c else None) ≡ None) [
  | true ↦ none
  | false ↦ refl
])
no_command c (x ∷ y ∷ ws) none = refl

-- words that clap is asked of are read exactly
pub exact : (words : List (List ℕ)) → length words ≤ 3 → AreWords words → IsExact words
exact [] short h = refused [] refl (λ e. let bad = sym no_words ∙ e in cc)
exact ([] ∷ ws) short h = absurd (false≢true h.0)
exact ((b ∷ bs) ∷ ws) short h =
    let P : List ℕ → Type 0 = λ c. IsExact (c ∷ ws) in
    let less : length ws ≤ 2 = omega arith in
    elim (name_cases (codes "define") (b ∷ bs)) [
      | inl e ↦ subst P e (behind_define ws less h.1)
      | inr d ↦ elim (name_cases (codes "run") (b ∷ bs)) [
        | inl e ↦ subst P e (behind_run ws less h.1)
        | inr r ↦ elim (name_cases (codes "show") (b ∷ bs)) [
          | inl e ↦ subst P e (behind_show ws less h.1)
          | inr s ↦ elim (name_cases (codes "log") (b ∷ bs)) [
            | inl e ↦ subst P e (behind_log ws less h.1)
            | inr l ↦ elim (name_cases (codes "migrate") (b ∷ bs)) [
              | inl e ↦ subst P e (behind_migrate ws less h.1)
              | inr m ↦ elim (name_cases (codes "audit") (b ∷ bs)) [
                | inl e ↦ subst P e (behind_audit ws less h.1)
                | inr a ↦ refused ((b ∷ bs) ∷ ws) (no_command (b ∷ bs) ws (unnamed (b ∷ bs) d r s l m a))
                    (λ e. let bad = sym (unknown b bs ws (not_hyphen b h.0) d r s l m a) ∙ e in cc)
              ]
            ]
          ]
        ]
      ]
    ]
