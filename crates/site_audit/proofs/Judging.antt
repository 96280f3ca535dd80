-- Entries judged one after another, and groups of them.
use Rattle.std.proofs.Common.{◌≡◌, ℕ, ◌+◌, ◌<◌, List, [], ◌∷◌, ◌++◌, length, take, drop, get_or, refl, sym, ◌∙◌, ap, subst, arith, length-append}
use Rattle.std.specs.declared.alloc.AllocError.{AllocError}
use Rattle.std.specs.Prelude.{IfOk, Option, None, Some, Result, Ok, Err}
use Rattle.std.proofs.lemmas.List.{take-append-le, take_more}
use Rattle.std.proofs.Math.Seq.{take-append-add}
use Rattle.fp_model.specs.declared.database.Db.{Db}
use Rattle.fp_model.specs.declared.log.Entry.{Entry}
use Rattle.fp_model.specs.Groups.{entries_of}
use Rattle.fp_model.specs.History.{History, beginning, with_entry}
use Rattle.fp_model.specs.Rules.{Rules}
use Rattle.fp_model.specs.SerialHistory.{Comes, IsSerialHistory, LeadsOn}
use Rattle.fp_model.proofs.HistoryLemmas.{front, join, one_end}
use Rattle.log_groups.proofs.LogImages.{groups_more}
use Rattle.site_audit.specs.inside.Judged.{AreHeld, AreJudged, AreRead, ComesTo, GoesOnTo, IsFirstBehind, IsOneRead}
use Rattle.site_audit.specs.Legal.{IsFirstIllegal}
use Rattle.site_audit.specs.declared.auditing.Place.{Place}
use Rattle.model_laws.proofs.Entries.{entries_push}

module _ (rules : Rules) where
  -- ---- one entry more

  -- one that comes behind a history leads it on
  pub one_comes : (h : History) (e : Entry) (next : Db) → Comes rules h e next
      → LeadsOn rules h (e ∷ []) (with_entry e next h)
  one_comes h e next comes = (next, comes, refl)

  -- entries up to a place lead on, and so do those with the one there, where it comes
  pub leads_more : (h mid : History) (es : List Entry) (k : ℕ) (e : Entry) (next : Db) → k < length es
      → e ≡ get_or es k e → LeadsOn rules h (take k es) mid → Comes rules mid e next
      → LeadsOn rules h (take (k + 1) es) (with_entry e next mid)
  leads_more h mid es k e next less here leads comes =
      let all : take (k + 1) es ≡ take k es ++ e ∷ [] =
      take_more es k e less ∙ ap (λ (x : Entry). take k es ++ x ∷ []) (sym here) in
      subst (λ (l : List Entry). LeadsOn rules h l (with_entry e next mid)) (sym all)
      (join rules h (take k es) (e ∷ []) mid (with_entry e next mid) leads (one_comes mid e next comes))

  -- they don't, where it doesn't
  pub leads_no_more : (h mid : History) (es : List Entry) (k : ℕ) (e : Entry) → k < length es
      → e ≡ get_or es k e → LeadsOn rules h (take k es) mid → ((next : Db) → ¬ (Comes rules mid e next))
      → (last : History) → ¬ (LeadsOn rules h (take (k + 1) es) last)
  leads_no_more h mid es k e less here leads never last all =
      let split : take (k + 1) es ≡ take k es ++ e ∷ [] =
      take_more es k e less ∙ ap (λ (x : Entry). take k es ++ x ∷ []) (sym here) in
      let two = front rules h (take k es) (e ∷ []) last (subst (λ (l : List Entry). LeadsOn rules h l last) split all) in
      let same = one_end rules h (take k es) mid two.0 leads two.1.0 in
      let one = subst (λ (x : History). LeadsOn rules x (e ∷ []) last) same two.1.1 in
      never one.0 one.1

  -- what entries come to, where those before them are legal
  pub ok_goes_on : (before stands : History → Type 0) (es : List Entry) (first : ℕ)
      (r : Result (Option ℕ) AllocError)
      → ((h : History) → before h → IfOk r (ComesTo rules stands h es first))
      → IfOk r (GoesOnTo rules before stands es first None)
  ok_goes_on before stands es first (Ok found) comes = comes
  ok_goes_on before stands es first (Err e) comes = tt

  -- ---- entries behind entries

  -- the first that isn't legal stays it, whatever comes behind
  pub still_first : (format : ℕ) (es more : List Entry) (place : ℕ) → IsFirstIllegal rules format es place
      → IsFirstIllegal rules format (es ++ more) place
  still_first format es more place is =
      let there = is.there in
      record {
        there = omega (arith, length-append es more);
        last = is.last;
        before = subst (λ (l : List Entry). IsSerialHistory rules format l is.last)
            (sym (take-append-le place es more (omega arith))) is.before;
        never = λ next all. is.never next
            (subst (λ (l : List Entry). IsSerialHistory rules format l next)
            (take-append-le (place + 1) es more (omega arith)) all);
      }

  -- one that is the first behind a history is the first of all
  pub first_behind : (format : ℕ) (h : History) (es more : List Entry) (place : ℕ)
      → LeadsOn rules (beginning format rules.start) es h → IsFirstBehind rules h more (length es) place
      → IsFirstIllegal rules format (es ++ more) place
  first_behind format h es more place leads is =
      let here = is.here in
      let there = is.there in
      let start = beginning format rules.start in
      let upto : (k n : ℕ) → n ≡ length es + k → take n (es ++ more) ≡ es ++ take k more =
      λ (k n : ℕ) (e : n ≡ length es + k). ap (λ (j : ℕ). take j (es ++ more)) e ∙ take-append-add es more k in
      record {
        there = omega (arith, length-append es more);
        last = is.mid.now;
        before = subst (λ (l : List Entry). IsSerialHistory rules format l is.mid.now) (sym (upto is.count place here))
            (record {
              history = is.mid;
              leads = join rules start es (take is.count more) h is.mid leads is.before;
              ends = refl;
            });
        never = λ next all.
            let same = upto (is.count + 1) (place + 1) (omega arith) in
            let two = front rules start es (take (is.count + 1) more) all.history
            (subst (λ (l : List Entry). LeadsOn rules start l all.history) same all.leads) in
            let one = one_end rules start es h two.0 leads two.1.0 in
            is.never all.history
            (subst (λ (x : History). LeadsOn rules x (take (is.count + 1) more) all.history) one two.1.1);
      }

  -- what entries come to with others behind them
  pub judged_more : (format : ℕ) (before stands : History → Type 0) (es more : List Entry) (first : ℕ)
      (earlier found : Option ℕ) → first ≡ length es → AreJudged rules format before es earlier
      → GoesOnTo rules before stands more first earlier found → AreJudged rules format stands (es ++ more) found
  judged_more format before stands es more first (Some place) found count judged on =
      subst (AreJudged rules format stands (es ++ more)) (sym on) (still_first format es more place judged)
  judged_more format before stands es more first None None count judged on =
      let next = on judged.0 judged.1.1 in
      (next.0, (join rules (beginning format rules.start) es more judged.0 next.0 judged.1.0 next.1.0, next.1.1))
  judged_more format before stands es more first None (Some place) count judged on =
      first_behind format judged.0 es more place judged.1.0
      (subst (λ (n : ℕ). IsFirstBehind rules judged.0 more n place) count (on judged.0 judged.1.1))

  -- ---- groups behind groups

  -- no group yet
  pub are_held_none : (bytes : List ℕ) (first at : ℕ) → at ≡ first → AreHeld bytes first at
  are_held_none bytes first at here = record {
    groups = [];
    holds = record { each = tt; next = omega arith; text = ap (λ (n : ℕ). drop n bytes) (sym here) };
  }

  pub are_read_none : (format : ℕ) (stands : History → Type 0) (bytes : List ℕ) (first at : ℕ) → at ≡ first
      → stands (beginning format rules.start)
      → AreRead rules format stands bytes first (record { at = at; entries = 0; illegal = None })
  are_read_none format stands bytes first at here begins = record {
    groups = [];
    holds = record { each = tt; next = omega arith; text = ap (λ (n : ℕ). drop n bytes) (sym here) };
    count = omega arith;
    judged = (beginning format rules.start, (refl, begins));
  }

  -- one group more
  pub are_held_more : (before stands : History → Type 0) (bytes : List ℕ) (first : ℕ) (place next : Place)
      → AreHeld bytes first place.at → IsOneRead rules before stands bytes place next → AreHeld bytes first next.at
  are_held_more before stands bytes first place next so_far one = record {
    groups = so_far.groups ++ one.entries ∷ [];
    holds = groups_more bytes first so_far.groups place.at one.entries next.at so_far.holds one.group;
  }

  pub are_read_more : (format : ℕ) (before stands : History → Type 0) (bytes : List ℕ) (first : ℕ) (place next : Place)
      → AreRead rules format before bytes first place → IsOneRead rules before stands bytes place next
      → AreRead rules format stands bytes first next
  are_read_more format before stands bytes first place next so_far one =
      let all : entries_of (so_far.groups ++ one.entries ∷ []) ≡ entries_of so_far.groups ++ one.entries =
      entries_push so_far.groups one.entries in
      record {
        groups = so_far.groups ++ one.entries ∷ [];
        holds = groups_more bytes first so_far.groups place.at one.entries next.at so_far.holds one.group;
        count = omega (
          arith,
          so_far.count,
          one.count,
          ap length all,
          length-append (entries_of so_far.groups)
              one.entries,
        );
        judged = subst (λ (l : List Entry). AreJudged rules format stands l next.illegal) (sym all)
            (judged_more format before stands (entries_of so_far.groups) one.entries place.entries place.illegal
            next.illegal so_far.count so_far.judged one.judged);
      }
