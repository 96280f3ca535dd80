-- Reading one database after another, as a loop does.
use Rattle.std.proofs.Common.{◌≡◌, ◌≢◌, ℕ, List, [], ◌∷◌, ◌++◌, Option, Some, None, refl, sym, ◌∙◌, ap, append_assoc}
use Rattle.std.proofs.lemmas.List.{append-nil}
use Rattle.log_format.specs.declared.fault.ReadError.{ReadError}
use Rattle.log_format.specs.declared.fault.ReadError.TheVariants.{Memory}
use Rattle.fp_model.specs.Values.{◌>>=◌}
use Rattle.log_format.proofs.Loop.{with_front}
use Rattle.fp_model.specs.declared.database.Msdb.{Msdb}
use Rattle.fp_model.specs.declared.definitions.MsdbDef.{MsdbDef}
use Rattle.checkpoint_format.specs.Reading.{msdb_at, msdbs_at}

regroup : (front : List Msdb) (n : Msdb) (read : Option (List Msdb × List ℕ))
    → with_front front (read >>= λ x. Some (n ∷ x.0, x.1)) ≡ with_front (front ++ n ∷ []) read
regroup front n (Some x) = ap (λ (ns : List Msdb). Some (ns, x.1)) (simp append_assoc)
regroup front n None = refl

pub one_more : (front : List Msdb) (def : MsdbDef) (more : List MsdbDef) (bytes : List ℕ) (n : Msdb) (after : List ℕ)
    (total : Option (List Msdb × List ℕ)) → msdb_at def bytes ≡ Some (n, after)
    → with_front front (msdbs_at (def ∷ more) bytes) ≡ total
    → with_front (front ++ n ∷ []) (msdbs_at more after) ≡ total
unfolding msdbs_at
one_more front def more bytes n after total h so_far =
    let one : with_front front (msdbs_at (def ∷ more) bytes) ≡ with_front (front ++ n ∷ []) (msdbs_at more after) =
    rw h (regroup front n (msdbs_at more after)) in
    sym one ∙ so_far

pub no_more : (e : ReadError) (front : List Msdb) (def : MsdbDef) (more : List MsdbDef) (bytes : List ℕ)
    (total : Option (List Msdb × List ℕ)) → (e ≢ Memory → msdb_at def bytes ≡ None)
    → with_front front (msdbs_at (def ∷ more) bytes) ≡ total → e ≢ Memory → total ≡ None
unfolding msdbs_at
no_more e front def more bytes total h so_far other =
    let none : msdb_at def bytes ≡ None = h other in
    let one : with_front front (msdbs_at (def ∷ more) bytes) ≡ None = rw none refl in
    sym so_far ∙ one

pub all_read : (front : List Msdb) (bytes : List ℕ) (total : Option (List Msdb × List ℕ))
    → with_front front (msdbs_at [] bytes) ≡ total → total ≡ Some (front, bytes)
unfolding msdbs_at
all_read front bytes total so_far = sym so_far ∙ ap (λ (ns : List Msdb). Some (ns, bytes)) (append-nil front)
