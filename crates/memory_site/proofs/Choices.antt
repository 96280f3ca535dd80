-- What a replayed call makes of the contents, and of an image.
use Rattle.std.proofs.Common.{◌≡◌, inl, inr, ℕ, ◌≤◌, List, [], ◌∷◌, length, sym, ◌∙◌, ap, subst}
use Rattle.std.proofs.lemmas.Bool.{cases_eq}
use Rattle.fp_site.specs.Disk.{written}
use Rattle.memory_site.specs.History.{History, Image, contents_after, synced_after}
use Rattle.memory_site.specs.History.Event.{Wrote, Synced}
use Rattle.memory_site.specs.Laws.{same_set, other_set, image_wrote, image_synced, other_wrote, other_synced}

module _ (h : History) (set : ℕ) (real new : ℕ → List ℕ) (stands : (k : ℕ) → real k ≡ contents_after h k)
    (others : (k : ℕ) → (k ≡ set → ⊥) → new k ≡ real k) where
  -- what a read gives after a write
  pub real_wrote : (at : ℕ) (bytes : List ℕ) → new set ≡ written (real set) at bytes → (k : ℕ)
      → new k ≡ contents_after (Wrote set at bytes ∷ h) k
  real_wrote at bytes this k = elim (cases_eq k set) [
    | inl is ↦ let eq = same_set set in subst (λ v. new v ≡ contents_after (Wrote set at bytes ∷ h) v) (sym is)
        (rw eq (this ∙ ap (λ l. written l at bytes) (stands set)))
    | inr ne ↦ let eq = other_set set k (λ e. ne (sym e)) in rw eq (others k ne ∙ stands k)
  ]

module _ (h : History) (set : ℕ) (images new : ℕ → List ℕ) (before : (k : ℕ) → Image h k (images k))
    (others : (k : ℕ) → (k ≡ set → ⊥) → new k ≡ images k) where
  -- an image after a write of which any bytes of no greater length are in it
  pub images_wrote : (at : ℕ) (bytes part : List ℕ) → length part ≤ length bytes
      → new set ≡ written (images set) at part → (k : ℕ) → Image (Wrote set at bytes ∷ h) k (new k)
  images_wrote at bytes part le this k = elim (cases_eq k set) [
    | inl is ↦ subst (λ v. Image (Wrote set at bytes ∷ h) v (new v)) (sym is)
        (subst (λ c. Image (Wrote set at bytes ∷ h) set c) (sym this)
        (image_wrote h set at bytes (images set) part le (before set)))
    | inr ne ↦ subst (λ c. Image (Wrote set at bytes ∷ h) k c) (sym (others k ne))
        (other_wrote h set k (λ e. ne (sym e)) (images k) (before k) at bytes)
  ]

  -- an image after a sync: what a read gives
  pub images_synced : new set ≡ contents_after h set → (k : ℕ) → Image (Synced set ∷ h) k (new k)
  images_synced this k = elim (cases_eq k set) [
    | inl is ↦ subst (λ v. Image (Synced set ∷ h) v (new v)) (sym is) (image_synced h set (new set) this)
    | inr ne ↦ subst (λ c. Image (Synced set ∷ h) k c) (sym (others k ne))
        (other_synced h set k (λ e. ne (sym e)) (images k) (before k))
  ]

-- the same of an image of what the last syncs left
module _ (h : History) (set : ℕ) (images new : ℕ → List ℕ) (stands : (k : ℕ) → images k ≡ synced_after h k)
    (others : (k : ℕ) → (k ≡ set → ⊥) → new k ≡ images k) where
  -- with none of a write in it
  pub none_wrote : (at : ℕ) (bytes part : List ℕ) → part ≡ [] → new set ≡ written (images set) at part → (k : ℕ)
      → new k ≡ synced_after (Wrote set at bytes ∷ h) k
  none_wrote at bytes part none this k = elim (cases_eq k set) [
    | inl is ↦ subst (λ v. new v ≡ synced_after h v) (sym is) (this ∙ ap (written (images set) at) none ∙ stands set)
    | inr ne ↦ others k ne ∙ stands k
  ]

  -- after a sync
  pub none_synced : new set ≡ contents_after h set → (k : ℕ) → new k ≡ synced_after (Synced set ∷ h) k
  none_synced this k = elim (cases_eq k set) [
    | inl is ↦ let eq = same_set set in subst (λ v. new v ≡ synced_after (Synced set ∷ h) v) (sym is) (rw eq this)
    | inr ne ↦ let eq = other_set set k (λ e. ne (sym e)) in rw eq (others k ne ∙ stands k)
  ]

-- and of an image of what a read gives, after a sync
pub every_synced : (h : History) (set : ℕ) (images new : ℕ → List ℕ) → ((k : ℕ) → images k ≡ contents_after h k)
    → ((k : ℕ) → (k ≡ set → ⊥) → new k ≡ images k) → new set ≡ contents_after h set → (k : ℕ)
    → new k ≡ contents_after (Synced set ∷ h) k
every_synced h set images new stands others this k = elim (cases_eq k set) [
  | inl is ↦ subst (λ v. new v ≡ contents_after h v) (sym is) this
  | inr ne ↦ others k ne ∙ stands k
]
