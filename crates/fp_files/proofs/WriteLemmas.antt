-- Which data sets were written.
use Rattle.std.proofs.Common.{◌≡◌, ◌<◌, ◌∙◌, sym, ap, subst, ℕ, List, [], length, get_or, map, set}
use Rattle.std.proofs.Math.Seq.{map-set_same}
use Rattle.std.proofs.lemmas.List.{map-set, get_or-map, get_or-set_other, get_or-set_same, length-map}
use Rattle.fp_files.specs.Calls.{HostCall, WritesOnce, writes_of}
use Rattle.fp_files.specs.Sets.{AreUnwritten, WriteOnce, writes_in}
use Rattle.fp_files.specs.declared.data_set.DataSet.{DataSet}

-- no write, and then a data set is replaced by one with the same writes
pub unwritten_at : (old sets : List DataSet) (place : ℕ) (one d : DataSet) → AreUnwritten old sets
    → writes_of one.calls.events ≡ writes_of (get_or sets place d).calls.events
    → AreUnwritten old (set sets place one)
unwritten_at old sets place one d first same k = ap (λ (lists : List (List HostCall)). get_or lists k [])
    (map-set_same (λ (s : DataSet). writes_of s.calls.events) sets place one d same) ∙ first k

-- no write, and then a data set is replaced by one with one write more at most
pub write_once_at : (old sets : List DataSet) (place : ℕ) (one d : DataSet) (at : ℕ) (bytes : List ℕ)
    → AreUnwritten old sets → place < length sets
    → WritesOnce at bytes (writes_of (get_or sets place d).calls.events) (writes_of one.calls.events)
    → WriteOnce old (set sets place one) place at bytes
write_once_at old sets place one d at bytes first within wrote =
    let f : DataSet → List HostCall = λ s. writes_of s.calls.events in
    let lists : map f (set sets place one) ≡ set (map f sets) place (f one) = map-set f sets place one in
    let within_lists : place < length (map f sets) = rw length-map within in
    let now : writes_in (set sets place one) place ≡ f one =
    ap (λ (x : List (List HostCall)). get_or x place []) lists
    ∙ get_or-set_same (map f sets) place (f one) [] within_lists in
    let before : writes_in old place ≡ f (get_or sets place d) =
    sym (first place) ∙ get_or-map f sets place d [] within in
    record {
      others = λ k ne. ap (λ (x : List (List HostCall)). get_or x k []) lists
          ∙ get_or-set_other (map f sets) place k (f one) [] ne ∙ first k;
      once = subst (λ (x : List HostCall). WritesOnce at bytes (writes_in old place) x) (sym now)
          (subst (λ (x : List HostCall). WritesOnce at bytes x (f one)) (sym before) wrote);
    }
