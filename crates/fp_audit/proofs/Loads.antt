-- The segments that a definition loads, put one after another.
use Rattle.std.proofs.Common.{◌≡◌, ◌∙◌, refl, sym, ap, subst, ℕ, ◌+◌, ◌<◌, List, [], ◌∷◌, ◌++◌, length, map, take, drop, slice_index_or, false}
use Rattle.std.specs.Prelude.{fold}
use Rattle.std.specs.List.{AllByRecursion, IsDistinct}
use Rattle.std.proofs.lemmas.List.{drop_more, map-append, take_more}
use Rattle.std.proofs.lemmas.Map.Keys.{IsDistinct-head, IsDistinct-tail}
use Rattle.fp_model.specs.CheckpointText.{IsMsdbOf}
use Rattle.fp_model.specs.State.{drop_key, key_length, key_of, loaded, put_by_key, with_segment}
use Rattle.fp_model.specs.Texts.{same_text}
use Rattle.fp_model.specs.WellFormed.{IsMsdbDef}
use Rattle.fp_model.specs.declared.database.Msdb.{Msdb}
use Rattle.fp_model.specs.declared.definitions.MsdbDef.{MsdbDef}
use Rattle.past_segments.specs.Pasts.{ArePastsOf, IsPastOf, databases_at}
use Rattle.past_segments.specs.Times.{IsSettledBy, Past, database_at}
use Rattle.key_order.proofs.Ascending.{still_differ}
use Rattle.plain_laws.proofs.Alls.{all_push, each_push}
use Rattle.model_laws.proofs.Segments.{differ_nothing, lengths_of, none_dropped}
use Rattle.state_laws.proofs.Settling.{with_good}

-- the segments so far, and what is left to load
pub record IsLoading (def : MsdbDef) (segments rest : List (List ℕ)) : Type 0 where
  pub good : IsMsdbOf def (record { segments = segments })
  pub lengths : AllByRecursion (λ s. length s ≡ def.length) rest
  pub distinct : IsDistinct same_text (map (key_of def.fields) rest)
  pub differ : AllByRecursion (λ s. AllByRecursion (λ y. same_text (key_of def.fields y) (key_of def.fields s) ≡ false)
      segments) rest
  pub whole : fold (λ (ss : List (List ℕ)) s. put_by_key (key_of def.fields) s ss) segments rest ≡ (loaded def).segments

at_first : (def : MsdbDef) → IsMsdbDef def → IsLoading def [] def.load
at_first def is = record {
  good = record { lengths = tt; in_order = refl };
  lengths = lengths_of def def.load is.loaded;
  distinct = is.keys;
  differ = differ_nothing (key_of def.fields) def.load;
  whole = refl;
}

one_more : (def : MsdbDef) (segments : List (List ℕ)) (s : List ℕ) (rest : List (List ℕ))
    → IsLoading def segments (s ∷ rest) → IsLoading def (put_by_key (key_of def.fields) s segments) rest
one_more def segments s rest is =
    let key : List ℕ → List ℕ = key_of def.fields in
    let same : drop_key key (key s) segments ≡ segments = none_dropped key (key s) segments is.differ.0 in
    record {
      good = subst (λ ss. IsMsdbOf def (record { segments = put_by_key key s ss })) same
          (with_good def s (record { segments = segments }) is.lengths.0 is.good);
      lengths = is.lengths.1;
      distinct = IsDistinct-tail same_text (key s) (map key rest) is.distinct;
      differ = still_differ key s segments rest (IsDistinct-head same_text (key s) (map key rest) is.distinct)
          is.differ.1;
      whole = is.whole;
    }

-- ---- at every place

-- the segments that were put so far stand at every place
pub record IsLoadingPast (def : MsdbDef) (past : Past) (rest : List (List ℕ)) : Type 0 where
  pub count : key_length def.fields ≡ past.count
  pub settled : IsSettledBy 0 past
  pub segments : List (List ℕ)
  pub shows : (p : ℕ) → database_at p past ≡ record { segments = segments }
  pub loading : IsLoading def segments rest

pub past_first : (def : MsdbDef) (past : Past) → IsMsdbDef def → past.count ≡ key_length def.fields
    → past.slots ≡ [] → IsLoadingPast def past def.load
past_first def past is count none = record {
  count = sym count;
  settled = subst (λ slots. IsSettledBy 0 (record { count = past.count; slots = slots })) (sym none) tt;
  segments = [];
  shows = λ p. ap (λ slots. database_at p (record { count = past.count; slots = slots })) none;
  loading = at_first def is;
}

pub past_more : (def : MsdbDef) (old new : Past) (s : List ℕ) (rest : List (List ℕ))
    → IsLoadingPast def old (s ∷ rest)
    → ((p : ℕ) → database_at p new ≡ with_segment def s (database_at p old))
    → IsSettledBy 0 new → new.count ≡ old.count → IsLoadingPast def new rest
past_more def old new s rest is put settled count =
    let key : List ℕ → List ℕ = key_of def.fields in
    let same : drop_key key (key s) is.segments ≡ is.segments = none_dropped key (key s) is.segments is.loading.differ.0 in
    record {
      count = is.count ∙ sym count;
      settled = settled;
      segments = put_by_key key s is.segments;
      shows = λ p. put p ∙ ap (with_segment def s) (is.shows p)
          ∙ ap (λ (ss : List (List ℕ)). let m : Msdb = record { segments = put_by_key key s ss } in m) same;
      loading = one_more def is.segments s rest is.loading;
    }

pub past_loaded : (def : MsdbDef) (past : Past) → IsLoadingPast def past [] → (p : ℕ)
    → database_at p past ≡ loaded def
past_loaded def past is p = is.shows p ∙ ap (λ (ss : List (List ℕ)). let m : Msdb = record { segments = ss } in m)
    is.loading.whole

pub past_is : (def : MsdbDef) (past : Past) → IsLoadingPast def past [] → IsPastOf def past
past_is def past is = record {
  keys = is.count;
  each = λ p. subst (IsMsdbOf def) (sym (is.shows p)) is.loading.good;
}

-- ---- all databases

-- the databases of the definitions so far
pub record AreLoaded (defs : List MsdbDef) (pasts : List Past) : Type 0 where
  pub are : ArePastsOf defs pasts
  pub settled : AllByRecursion (IsSettledBy 0) pasts
  pub start : (p : ℕ) → databases_at p pasts ≡ map loaded defs

pub loaded_more : (defs : List MsdbDef) (i : ℕ) (d : MsdbDef) (old new : List Past) (past : Past) → i < length defs
    → d ≡ slice_index_or defs i d → AreLoaded (take i defs) old → new ≡ old ++ past ∷ [] → IsPastOf d past
    → IsSettledBy 0 past → ((p : ℕ) → database_at p past ≡ loaded d) → AreLoaded (take (i + 1) defs) new
loaded_more defs i d old new past within d_is are new_is is settled shows =
    let front : take (i + 1) defs ≡ take i defs ++ d ∷ [] =
    take_more defs i d within ∙ ap (λ e. take i defs ++ e ∷ []) (sym d_is) in
    subst (λ ds. AreLoaded ds new) (sym front)
    (subst (AreLoaded (take i defs ++ d ∷ [])) (sym new_is) (record {
      are = each_push IsPastOf (take i defs) old d past are.are is;
      settled = all_push (IsSettledBy 0) old past are.settled settled;
      start = λ p. map-append (database_at p) old (past ∷ []) ∙ ap (λ ms. ms ++ database_at p past ∷ []) (are.start p)
          ∙ ap (λ m. map loaded (take i defs) ++ m ∷ []) (shows p) ∙ sym (map-append loaded (take i defs) (d ∷ []));
    }))

-- ---- one more of a list

pub rest_at : {X : Type 0} (xs : List X) (i : ℕ) (x y : X) → i < length xs → x ≡ slice_index_or xs i x → y ≡ x
    → drop i xs ≡ y ∷ drop (i + 1) xs
rest_at xs i x y within is same =
    drop_more xs i x within ∙ ap (λ e. e ∷ drop (i + 1) xs) (sym is) ∙ ap (λ e. e ∷ drop (i + 1) xs) (sym same)
