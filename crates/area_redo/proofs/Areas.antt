-- How the disk goes on to hold what a restart needs.
use Rattle.std.proofs.Common.{◌≡◌, inl, inr, ℕ, ◌+◌, ◌*◌, ◌<◌, ◌≤◌, Bool, true, false, List, ◌++◌, length, get_or, refl, sym, ◌∙◌, ap, subst, arith}
use Rattle.std.proofs.lemmas.Bool.{cases_Bool, cases_lt, cases_eq, or_parts}
use Rattle.fp_site.specs.Disk.{Disk, Snapshot, Torn, Tears, Syncs, Sends, Differs, Elapses, Stays, Settles, IsLawful, IsDurable}
use Rattle.fp_site.specs.Moments.{OnlyOn, DiffersIn, OnlyIn}
use Rattle.fp_site.proofs.Runs.{now_one, elapses_weaker, of_call, weaker}
use Rattle.fp_site.proofs.Images.{same_step, settles_left}
use Rattle.fp_site.proofs.Torns.{torn_none}
use Rattle.fp_model.specs.declared.log.Item.{Item}
use Rattle.area_redo.specs.Redo.{AreaBytes, names, redone_at, redone, AllBegin, Layout, count_in, interval_in, IsRedone, AreRedone, Redoes, RedoesThrough, GrowByImages, AllStandIn}
use Rattle.area_redo.specs.Steps.{HasAreasOf, SparesAreas, SendsText}
use Rattle.area_redo.proofs.Items.{redone_more, redone_none, redone_any, names_more}
use Rattle.area_redo.proofs.Places.{interval_is, torn_other}
use Rattle.fp_site.proofs.Ranges.{get_or-read, length_read}

module _ (layout : Layout) where
  -- A crash that leaves the same: more items behind the others make of the areas what they make of their bytes now. So
  -- the list goes on by a transaction's items, and so does a seal.
  pub more_redone : (items more : List Item) (now : AreaBytes) (images : ℕ → List ℕ) → AreRedone layout items now images
      → GrowByImages layout more now → AreRedone layout (items ++ more) (redone more now) images
  more_redone items more now images old grow set = record { gives = bytes; inside = inside }
    where
      size : ℕ
      size = layout.size set

      bytes : (ci : ℕ) → ci < count_in layout (redone more now) set
          → redone_at set ci (items ++ more) (interval_in (layout.size set) (images set) ci)
          ≡ redone_at set ci more (now set ci)
      bytes ci below = elim (cases_lt ci (count_in layout now set)) [
        | inl lt ↦ redone_more set ci items more (interval_in (layout.size set) (images set) ci)
            ∙ ap (redone_at set ci more) ((old set).gives ci lt)
        | inr ge ↦
            let fresh = grow set ci ge below in
            redone_more set ci items more (interval_in (layout.size set) (images set) ci)
            ∙ redone_any set ci more (redone_at set ci items (interval_in (layout.size set) (images set) ci))
            (now set ci) fresh.named fresh.image
      ]

      inside : (ci : ℕ) → ci < count_in layout (redone more now) set → names set ci (items ++ more) ≡ false
          → (ci + 1) * layout.size set ≤ length (images set)
      inside ci below none =
          let parts = or_parts (names set ci items) (names set ci more) (sym (names_more set ci items more) ∙ none) in
          elim (cases_lt ci (count_in layout now set)) [
            | inl lt ↦ (old set).inside ci lt parts.0
            | inr ge ↦ let fresh = grow set ci ge below in let both : true ≡ false = sym fresh.named ∙ parts.1 in cc
          ]

  -- An interval that some item names, the first an image, is written in place. Torn in any way, this is no loss.
  pub torn_redone : (items : List Item) (now : AreaBytes) (set ci : ℕ) (old image : List ℕ) → AllBegin items
      → names set ci items ≡ true → IsRedone (layout.size set) (count_in layout now set) set items old (now set)
      → Torn (ci * layout.size set) (layout.size set) old image
      → IsRedone (layout.size set) (count_in layout now set) set items image (now set)
  torn_redone items now set ci old image begin named is torn =
      record {
        gives = bytes;
        inside = λ other below none. let le = is.inside other below none in
            let longer = torn.no_shorter in omega arith;
      }
    where
      bytes : (other : ℕ) → other < count_in layout now set
          → redone_at set other items (interval_in (layout.size set) image other) ≡ now set other
      bytes other below = elim (cases_Bool (names set other items)) [
        | inl some ↦ redone_any set other items (interval_in (layout.size set) image other)
            (interval_in (layout.size set) old other) some (begin set other) ∙ is.gives other below
        | inr none ↦
            let ne : other ≡ ci → ⊥ = λ e. (let both : true ≡ false = sym named ∙ ap (λ c. names set c items) (sym e)
            ∙ none in cc) in
            ap (redone_at set other items) (torn_other (layout.size set) ci other old image ne
            (is.inside other below none) torn) ∙ is.gives other below
      ]

  -- So each moment of such a write, and what a crash after it may leave,
  pub write_redone : (items : List Item) (now : AreaBytes) (set ci : ℕ) (old : Disk) (s : Snapshot) → AllBegin items
      → names set ci items ≡ true → Redoes layout items now old
      → Differs old set (Torn (ci * layout.size set) (layout.size set)) s → AreRedone layout items now s.images
  write_redone items now set ci old s begin named redoes d k = elim (cases_eq k set) [
    | inl is ↦ subst (λ v. IsRedone (layout.size v) (count_in layout now v) v items (s.images v) (now v)) (sym is)
        (torn_redone items now set ci (d.before.images set) (s.images set) begin named
        (redoes d.before d.left set) d.this)
    | inr ne ↦ subst (λ image. IsRedone (layout.size k) (count_in layout now k) k items image (now k))
        (sym (d.others k ne)) (redoes d.before d.left k)
  ]

  pub write_redoes : (items : List Item) (now : AreaBytes) (set ci : ℕ) (old new : Disk) → IsLawful old → IsLawful new
      → AllBegin items → names set ci items ≡ true → Elapses old new
      (Tears old set (ci * layout.size set) (layout.size set)) → Redoes layout items now old
      → Redoes layout items now new
  write_redoes items now set ci old new law law2 begin named more redoes s left =
      write_redone items now set ci old s begin named redoes
      (now_one old new (Tears old set (ci * layout.size set) (layout.size set)) law law2 more
      (same_step old set (Torn (ci * layout.size set) (layout.size set))
      (λ c h. torn_none (ci * layout.size set) (layout.size set) (c.images set))) s left)

  pub write_through : (items : List Item) (now : AreaBytes) (set ci : ℕ) (old new : Disk) → IsLawful old
      → AllBegin items → names set ci items ≡ true → Elapses old new
      (Tears old set (ci * layout.size set) (layout.size set)) → Redoes layout items now old
      → RedoesThrough layout items now old new
  write_through items now set ci old new law begin named more redoes =
      weaker (Tears old set (ci * layout.size set) (layout.size set)) (λ s. AreRedone layout items now s.images) old new
      (λ s d. write_redone items now set ci old s begin named redoes d)
      (of_call old new (Tears old set (ci * layout.size set) (layout.size set)) law more
      (same_step old set (Torn (ci * layout.size set) (layout.size set))
      (λ c h. torn_none (ci * layout.size set) (layout.size set) (c.images set))))

  -- A data set of which every crash leaves what the items make right: so does a sync, that may mix what crashes leave.
  pub settled_redone : (items : List Item) (now : AreaBytes) (set : ℕ) (disk : Disk) (image : List ℕ) → IsLawful disk
      → AllBegin items → Redoes layout items now disk → Settles disk set image
      → IsRedone (layout.size set) (count_in layout now set) set items image (now set)
  settled_redone items now set disk image law begin redoes settles = record {
    gives = bytes;
    inside = λ ci below none. settles.no_shorter ((ci + 1) * layout.size set)
        (λ c left. (redoes c left set).inside ci below none);
  }
    where
      first : Snapshot
      first = law.stands.0

      here : IsRedone (layout.size set) (count_in layout now set) set items (first.images set) (now set)
      here = redoes first law.stands.1 set

      -- an interval that no item names is in each of them as it is now
      plain : (c : Snapshot) → disk.may_leave c → (ci : ℕ) → ci < count_in layout now set → names set ci items ≡ false
          → interval_in (layout.size set) (c.images set) ci ≡ now set ci
      plain c left ci below none = sym (redone_none set ci items (interval_in (layout.size set) (c.images set) ci) none)
          ∙ (redoes c left set).gives ci below

      bytes : (ci : ℕ) → ci < count_in layout now set → redone_at set ci items
          (interval_in (layout.size set) image ci) ≡ now set ci
      bytes ci below = elim (cases_Bool (names set ci items)) [
        | inl some ↦ redone_any set ci items (interval_in (layout.size set) image ci)
            (interval_in (layout.size set) (first.images set) ci) some (begin set ci) ∙ here.gives ci below
        | inr none ↦
            let is = plain first law.stands.1 ci below none in
            let long : length (now set ci) ≡ layout.size set = ap length (sym is)
            ∙ length_read (first.images set) (ci * layout.size set) (layout.size set) in
            redone_none set ci items (interval_in (layout.size set) image ci) none
            ∙ interval_is image (now set ci) (layout.size set) ci long
            (λ i lt. settles.bytes (ci * layout.size set + i) (get_or (now set ci) i 0)
            (λ c left. sym (get_or-read (c.images set) (ci * layout.size set) (layout.size set) i lt)
            ∙ ap (λ l. get_or l i 0) (plain c left ci below none)))
      ]

  -- within a sync, and after it,
  pub sync_redone : (items : List Item) (now : AreaBytes) (set : ℕ) (old : Disk) (s : Snapshot) → IsLawful old
      → AllBegin items → Redoes layout items now old → Syncs old set s → AreRedone layout items now s.images
  sync_redone items now set old s law begin redoes d k = elim (cases_eq k set) [
    | inl is ↦ subst (λ v. IsRedone (layout.size v) (count_in layout now v) v items (s.images v) (now v)) (sym is)
        (settled_redone items now set old (s.images set) law begin redoes d.this)
    | inr ne ↦ subst (λ image. IsRedone (layout.size k) (count_in layout now k) k items image (now k))
        (sym (d.others k ne)) (redoes d.before d.left k)
  ]

  pub sync_redoes : (items : List Item) (now : AreaBytes) (set : ℕ) (old new : Disk) → IsLawful old → IsLawful new
      → AllBegin items → Elapses old new (Syncs old set) → Redoes layout items now old → Redoes layout items now new
  sync_redoes items now set old new law law2 begin more redoes s left =
      sync_redone items now set old s law begin redoes
      (now_one old new (Syncs old set) law law2 more
      (same_step old set (λ before after. Settles old set after) (settles_left old set)) s left)

  pub sync_through : (items : List Item) (now : AreaBytes) (set : ℕ) (old new : Disk) → IsLawful old → AllBegin items
      → Elapses old new (Syncs old set) → Redoes layout items now old → RedoesThrough layout items now old new
  sync_through items now set old new law begin more redoes =
      weaker (Syncs old set) (λ s. AreRedone layout items now s.images) old new
      (λ s d. sync_redone items now set old s law begin redoes d)
      (of_call old new (Syncs old set) law more
      (same_step old set (λ before after. Settles old set after) (settles_left old set)))

  -- And what spares the areas leaves them as they were,
  spared_redone : (items : List Item) (now : AreaBytes) (old : Disk) (s : Snapshot) → Redoes layout items now old
      → HasAreasOf layout now old s → AreRedone layout items now s.images
  spared_redone items now old s redoes has set = elim (cases_lt 0 (count_in layout now set)) [
    | inl some ↦ subst (λ image. IsRedone (layout.size set) (count_in layout now set) set items image (now set))
        (sym (has.same set some)) (redoes has.before has.left set)
    | inr none ↦ record { gives = λ ci below. absurd (omega arith); inside = λ ci below unnamed. absurd (omega arith) }
  ]

  same_areas : (now : AreaBytes) (old : Disk) (s : Snapshot) → old.may_leave s → HasAreasOf layout now old s
  same_areas now old s left = record { before = s; left = left; same = λ set some. refl }

  -- now
  pub spared_redoes : (items : List Item) (now : AreaBytes) (old new : Disk) → SparesAreas layout now old new
      → Redoes layout items now old → Redoes layout items now new
  spared_redoes items now old new spares redoes s left =
      spared_redone items now old s redoes
      (now_one old new (HasAreasOf layout now old) spares.lawful_before spares.lawful_after spares.crash
      (same_areas now old) s left)

  -- and at each moment.
  pub spared_through : (items : List Item) (now : AreaBytes) (old new : Disk) → SparesAreas layout now old new
      → Redoes layout items now old → RedoesThrough layout items now old new
  spared_through items now old new spares redoes =
      weaker (HasAreasOf layout now old) (λ s. AreRedone layout items now s.images) old new
      (λ s has. spared_redone items now old s redoes has)
      (of_call old new (HasAreasOf layout now old) spares.lawful_before spares.crash (same_areas now old))

  -- A call that changes nothing,
  pub stays_spares : (now : AreaBytes) (old new : Disk) → IsLawful old → IsLawful new → Stays old new
      → SparesAreas layout now old new
  stays_spares now old new law law2 stays = record {
    lawful_before = law;
    lawful_after = law2;
    contents = λ set some. ap (λ f. f set) stays.contents;
    crash = elapses_weaker old new old.may_leave (HasAreasOf layout now old) (same_areas now old) stays.crash;
  }

  -- a send,
  pub send_spares : (now : AreaBytes) (text : List ℕ) (old new : Disk) → SendsText text old new
      → SparesAreas layout now old new
  send_spares now text old new sends = record {
    lawful_before = sends.lawful_before;
    lawful_after = sends.lawful_after;
    contents = λ set some. ap (λ f. f set) sends.contents;
    crash = elapses_weaker old new (Sends old text) (HasAreasOf layout now old)
        (λ s d. record { before = d.before; left = d.left; same = λ set some. ap (λ f. f set) d.images }) sends.crash;
  }

  -- calls on one data set that is no area,
  pub only_on_spares : (now : AreaBytes) (set : ℕ) (old new : Disk) → IsLawful old → IsLawful new → OnlyOn set old new
      → count_in layout now set ≡ 0 → SparesAreas layout now old new
  only_on_spares now set old new law law2 only none = record {
    lawful_before = law;
    lawful_after = law2;
    contents = λ k some. only.now.contents k (other k some);
    crash = elapses_weaker old new (Differs old set (λ before after. Unit {0})) (HasAreasOf layout now old)
        (λ s d. record { before = d.before; left = d.left; same = λ k some. d.others k (other k some) }) only.crash;
  }
    where
      other : (k : ℕ) → 0 < count_in layout now k → k ≡ set → ⊥
      other k some is = let zero_there : count_in layout now k ≡ 0 = ap (count_in layout now) is ∙ none in omega arith

  -- and calls on several of them.
  pub only_in_spares : (now : AreaBytes) (old new : Disk) → IsLawful old → IsLawful new
      → OnlyIn (λ set. count_in layout now set ≡ 0) old new → SparesAreas layout now old new
  only_in_spares now old new law law2 only = record {
    lawful_before = law;
    lawful_after = law2;
    contents = λ k some. only.contents k (other k some);
    crash = elapses_weaker old new (DiffersIn old (λ set. count_in layout now set ≡ 0)) (HasAreasOf layout now old)
        (λ s d. record { before = d.before; left = d.left; same = λ k some. d.others k (other k some) }) only.crash;
  }
    where
      other : (k : ℕ) → 0 < count_in layout now k → count_in layout now k ≡ 0 → ⊥
      other k some none = omega arith

  -- The position moves on: what the earlier items changed and the later ones don't name is written, and every crash
  -- leaves it. So the later items do alone.
  pub later_redoes : (earlier later : List Item) (now : AreaBytes) (is_owed : ℕ → ℕ → Bool) (disk : Disk)
      → IsLawful disk → AllBegin later → Redoes layout (earlier ++ later) now disk
      → AllStandIn layout is_owed now disk.contents → ((set ci : ℕ) → is_owed set ci ≡ true → names set ci later ≡ true)
      → ((set : ℕ) → 0 < count_in layout now set → IsDurable disk set) → Redoes layout later now disk
  later_redoes earlier later now is_owed disk law begin redoes stand named durable s left set =
      record { gives = bytes; inside = inside }
    where
      unowed : (ci : ℕ) → names set ci later ≡ false → is_owed set ci ≡ false
      unowed ci none = elim (cases_Bool (is_owed set ci)) [
        | inl is ↦ let both : true ≡ false = sym (named set ci is) ∙ none in cc
        | inr is ↦ is
      ]

      bytes : (ci : ℕ) → ci < count_in layout now set → redone_at set ci later
          (interval_in (layout.size set) (s.images set) ci) ≡ now set ci
      bytes ci below = elim (cases_Bool (names set ci later)) [
        | inl some ↦
            redone_any set ci later (interval_in (layout.size set) (s.images set) ci)
            (redone_at set ci earlier (interval_in (layout.size set) (s.images set) ci)) some (begin set ci)
            ∙ sym (redone_more set ci earlier later (interval_in (layout.size set) (s.images set) ci))
            ∙ (redoes s left set).gives ci below
        | inr none ↦
            let some : 0 < count_in layout now set = omega arith in
            redone_none set ci later (interval_in (layout.size set) (s.images set) ci) none
            ∙ ap (λ image. interval_in (layout.size set) image ci) (durable set some s left)
            ∙ (stand set).same ci below (unowed ci none)
      ]

      inside : (ci : ℕ) → ci < count_in layout now set → names set ci later ≡ false
          → (ci + 1) * layout.size set ≤ length (s.images set)
      inside ci below none =
          let some : 0 < count_in layout now set = omega arith in
          let same = ap length (durable set some s left) in
          let le = (stand set).inside ci below (unowed ci none) in
          omega arith
