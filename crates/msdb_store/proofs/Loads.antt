-- The segments that a definition loads, and the tables of them.
use Rattle.std.proofs.Common.{◌≡◌, ℕ, ◌+◌, ◌^◌, ◌<◌, ◌++◌, take, slice_index_or, List, [], ◌∷◌, map, length, refl, sym, ◌∙◌, ap, subst, false}
use Rattle.std.specs.Prelude.{fold}
use Rattle.std.specs.List.{AllByRecursion, AllZip, IsDistinct}
use Rattle.std.proofs.lemmas.Map.Keys.{IsDistinct-head, IsDistinct-tail}
use Rattle.fp_model.specs.CheckpointText.{IsMsdbOf}
use Rattle.fp_model.specs.State.{drop_key, key_of, loaded, put_by_key}
use Rattle.fp_model.specs.Texts.{same_text}
use Rattle.fp_model.specs.WellFormed.{IsMsdbDef}
use Rattle.std.proofs.lemmas.List.{map-append, take_more}
use Rattle.fp_model.specs.declared.database.Msdb.{Msdb}
use Rattle.fp_model.specs.declared.definitions.FieldDef.{FieldDef}
use Rattle.fp_model.specs.declared.definitions.MsdbDef.{MsdbDef}
use Rattle.key_order.proofs.Ascending.{still_differ}
use Rattle.msdb_store.specs.inside.Putting.{AreFew}
use Rattle.msdb_store.proofs.Rooms.{few_push}
use Rattle.model_laws.proofs.Segments.{differ_nothing, lengths_of, none_dropped}
use Rattle.plain_laws.proofs.Alls.{each_push}
use Rattle.state_laws.proofs.Settling.{with_good}

-- the segments so far, and what is left to load
record IsLoading (def : MsdbDef) (segments rest : List (List ℕ)) : Type 0 where
  pub good : IsMsdbOf def (record { segments = segments })
  pub lengths : AllByRecursion (λ s. length s ≡ def.length) rest
  pub distinct : IsDistinct same_text (map (key_of def.fields) rest)
  pub differ : AllByRecursion (λ s. AllByRecursion (λ y. same_text (key_of def.fields y) (key_of def.fields s) ≡ false)
      segments) rest
  pub whole : fold (λ (ss : List (List ℕ)) s. put_by_key (key_of def.fields) s ss) segments rest ≡ (loaded def).segments

at_first : (def : MsdbDef) → IsMsdbDef def → IsLoading def [] def.load
at_first def is = record {
  good = record { lengths = tt; in_order = refl };
  lengths = lengths_of def def.load is.loaded;
  distinct = is.keys;
  differ = differ_nothing (key_of def.fields) def.load;
  whole = refl;
}

one_more : (def : MsdbDef) (segments : List (List ℕ)) (s : List ℕ) (rest : List (List ℕ))
    → IsLoading def segments (s ∷ rest) → IsLoading def (put_by_key (key_of def.fields) s segments) rest
one_more def segments s rest is =
    let key : List ℕ → List ℕ = key_of def.fields in
    let same : drop_key key (key s) segments ≡ segments = none_dropped key (key s) segments is.differ.0 in
    record {
      good = subst (λ ss. IsMsdbOf def (record { segments = put_by_key key s ss })) same
          (with_good def s (record { segments = segments }) is.lengths.0 is.good);
      lengths = is.lengths.1;
      distinct = IsDistinct-tail same_text (key s) (map key rest) is.distinct;
      differ = still_differ key s segments rest (IsDistinct-head same_text (key s) (map key rest) is.distinct)
          is.differ.1;
      whole = is.whole;
    }

-- the segments that are loaded are of their definition
all_loaded : (def : MsdbDef) (segments rest : List (List ℕ)) → IsLoading def segments rest → IsMsdbOf def (loaded def)
all_loaded def segments [] is = subst (λ ss. IsMsdbOf def (record { segments = ss })) is.whole is.good
all_loaded def segments (s ∷ rest) is = all_loaded def (put_by_key (key_of def.fields) s segments) rest
    (one_more def segments s rest is)

-- the tables of the definitions so far
pub record AreLoaded {T : Type 0} (fields : T → List FieldDef) (msdb : T → Msdb) (defs : List MsdbDef) (tables : List T)
    : Type 0 where
  pub layouts : map fields tables ≡ map (λ d. d.fields) defs
  pub segments : map msdb tables ≡ map loaded defs
  pub each : AllZip IsMsdbOf defs (map msdb tables)
  pub few : AreFew (map msdb tables)

pub next_table : {T : Type 0} (fields : T → List FieldDef) (msdb : T → Msdb) (defs : List MsdbDef) (i : ℕ) (d : MsdbDef)
    (tables more : List T) (t : T) → i < length defs → d ≡ slice_index_or defs i d
    → AreLoaded fields msdb (take i defs) tables
    → more ≡ tables ++ t ∷ [] → fields t ≡ d.fields → msdb t ≡ loaded d → IsMsdbOf d (msdb t)
    → length (msdb t).segments < 2 ^ 32 → AreLoaded fields msdb (take (i + 1) defs) more
next_table fields msdb defs i d tables more t within d_is is more_is fields_are segments_are good short =
    let front : take (i + 1) defs ≡ take i defs ++ d ∷ [] =
    take_more defs i d within ∙ ap (λ e. take i defs ++ e ∷ []) (sym d_is) in
    subst (λ ds. AreLoaded fields msdb ds more) (sym front)
    (subst (AreLoaded fields msdb (take i defs ++ d ∷ [])) (sym more_is) (record {
      layouts = map-append fields tables (t ∷ []) ∙ ap (λ fs. fs ++ fields t ∷ []) is.layouts ∙ ap
          (λ f. map (λ e. e.fields) (take i defs) ++ f ∷ []) fields_are ∙ sym
          (map-append (λ (e : MsdbDef). e.fields) (take i defs) (d ∷ []));
      segments = map-append msdb tables (t ∷ []) ∙ ap (λ ms. ms ++ msdb t ∷ []) is.segments ∙ ap
          (λ m. map loaded (take i defs) ++ m ∷ []) segments_are ∙ sym (map-append loaded (take i defs) (d ∷ []));
      each = subst (AllZip IsMsdbOf (take i defs ++ d ∷ [])) (sym (map-append msdb tables (t ∷ [])))
          (each_push IsMsdbOf (take i defs) (map msdb tables) d (msdb t) is.each good);
      few = few_push msdb tables t is.few short;
    }))
