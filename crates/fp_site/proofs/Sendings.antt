-- Texts that are sent one after another: what was sent by then, and what a crash leaves meanwhile.
use Rattle.std.proofs.Common.{◌≡◌, refl, sym, ◌∙◌, ap, arith, ℕ, zero, suc, ◌+◌, List, [], ◌∷◌, ◌++◌, length, take}
use Rattle.std.proofs.lemmas.List.{append_assoc}
use Rattle.fp_site.specs.Disk.{Disk, Elapses, IsLawful, Sends, Snapshot}
use Rattle.fp_site.proofs.Images.{sends_now}
use Rattle.fp_site.proofs.Runs.{elapses_on, elapses_weaker}

-- ---- a first part of a text

pub take_whole : (xs : List ℕ) → take (length xs) xs ≡ xs
take_whole [] = refl
take_whole (x ∷ xs) =
    let e : length (x ∷ xs) ≡ suc (length xs) = omega arith in
    ap (λ (j : ℕ). take j (x ∷ xs)) e ∙ ap (λ ys. x ∷ ys) (take_whole xs)

-- a first part of a text is one of a longer text
pub take_wider : (n : ℕ) (a b : List ℕ) → (j : ℕ) × (take n a ≡ take j (a ++ b))
take_wider zero a b = (0, refl)
take_wider (suc n) [] b = (0, refl)
take_wider (suc n) (x ∷ a) b = let more = take_wider n a b in (suc more.0, ap (λ ys. x ∷ ys) more.1)

pub take_behind : (n : ℕ) (a b : List ℕ) → a ++ take n b ≡ take (length a + n) (a ++ b)
take_behind n [] b = let e : length {A = ℕ} [] + n ≡ n = omega arith in ap (λ (j : ℕ). take j b) (sym e)
take_behind n (x ∷ a) b =
    let e : length (x ∷ a) + n ≡ suc (length a + n) = omega arith in
    ap (λ ys. x ∷ ys) (take_behind n a b) ∙ ap (λ (j : ℕ). take j (x ∷ (a ++ b))) (sym e)

-- ---- what is sent

pub part_wider : (old new a b : List ℕ) → (n : ℕ) × (new ≡ old ++ take n a) → (j : ℕ) × (new ≡ old ++ take j (a ++ b))
part_wider old new a b h =
    let wider = take_wider h.0 a b in (wider.0, h.1 ∙ ap (λ (t : List ℕ). old ++ t) wider.1)

pub part_after : (s0 s1 s2 a b : List ℕ) → s1 ≡ s0 ++ a → (n : ℕ) × (s2 ≡ s1 ++ take n b)
    → (j : ℕ) × (s2 ≡ s0 ++ take j (a ++ b))
part_after s0 s1 s2 a b first h = (
  length a + h.0,
  h.1 ∙ ap (λ (t : List ℕ). t ++ take h.0 b) first ∙ append_assoc s0 a (take h.0 b) ∙ ap (λ (t : List ℕ). s0 ++ t)
      (take_behind h.0 a b),
)

pub all_after : (s0 s1 s2 a b : List ℕ) → s1 ≡ s0 ++ a → s2 ≡ s1 ++ b → s2 ≡ s0 ++ (a ++ b)
all_after s0 s1 s2 a b first second = second ∙ ap (λ (t : List ℕ). t ++ b) first ∙ append_assoc s0 a b

-- ---- what a crash leaves

sends_wider : (d : Disk) (a b : List ℕ) (s : Snapshot) → Sends d a s → Sends d (a ++ b) s
sends_wider d a b s x =
    let wider = take_wider x.count a b in record {
      before = x.before;
      left = x.left;
      images = x.images;
      count = wider.0;
      sent = λ told. x.sent told ∙ ap (λ (t : List ℕ). x.before.sent ++ t) wider.1;
    }

pub sent_wider : (d0 d1 : Disk) (a b : List ℕ) → Elapses d0 d1 (Sends d0 a) → Elapses d0 d1 (Sends d0 (a ++ b))
sent_wider d0 d1 a b first = elapses_weaker d0 d1 (Sends d0 a) (Sends d0 (a ++ b)) (sends_wider d0 a b) first

-- one text is sent after another
module _ (d0 d1 : Disk) (a b : List ℕ) (law0 : IsLawful d0) (law1 : IsLawful d1) (is_sent : d1.sent ≡ d0.sent ++ a)
    (first : Elapses d0 d1 (Sends d0 a)) where
  sends_after : (s : Snapshot) → Sends d1 b s → Sends d0 (a ++ b) s
  sends_after s x =
      let old = sends_now d0 d1 a law0 law1 first x.before x.left in
      record {
        before = old.before;
        left = old.left;
        images = x.images ∙ old.images;
        count = length a + x.count;
        sent = λ told.
            let told1 = first.tells_sent told in
            x.sent told1
            ∙ ap (λ (t : List ℕ). t ++ take x.count b)
            (law1.sent_now told1 x.before x.left ∙ is_sent ∙ ap (λ (t : List ℕ). t ++ a)
            (sym (law0.sent_now told old.before old.left)))
            ∙ append_assoc old.before.sent a (take x.count b)
            ∙ ap (λ (t : List ℕ). old.before.sent ++ t) (take_behind x.count a b);
      }

  pub sent_after : (d2 : Disk) → Elapses d1 d2 (Sends d1 b) → Elapses d0 d2 (Sends d0 (a ++ b))
  sent_after d2 second =
      elapses_on d0 d1 d2 (Sends d0 (a ++ b)) (Sends d1 b) (sent_wider d0 d1 a b first) second sends_after
