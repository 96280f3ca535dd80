-- The document of a text.
use Rattle.std.proofs.Common.{◌≡◌, ℕ, ◌≤◌, List, length, Bool, true, false, cond, nat_lt, Option, Some, None, Err, refl, ap, arith}
use Rattle.std.specs.Str.{IsUtf8, is_utf8}
use Rattle.std.proofs.lemmas.Str.{IsUtf8-from_is_utf8, is_utf8-from_IsUtf8}
use Rattle.std.proofs.lemmas.Bool.Decides.{nat_tests}
use Rattle.toml.specs.Data.{Members}
use Rattle.toml.specs.Parse.{parse_document}
use Rattle.def_tables.specs.Readings.{or_fault}
use Rattle.fp_model.specs.Readings.{◌>>=◌}
use Rattle.fp_defs.specs.Whole.{document_of, defs_in, defs_of}
use Rattle.def_tables.specs.declared.fault.DefsFault.TheVariants.{NotToml}

not_long : (text : List ℕ) → length text ≤ 1000000 → nat_lt 1000000 (length text) ≡ false
not_long text short = grind (arith, nat_tests)

pub read_document : (text : List ℕ) (table : Members) → length text ≤ 1000000 → IsUtf8 text
    → parse_document text ≡ Some table → defs_of text ≡ defs_in text table
unfolding defs_of document_of
read_document text table short utf8 parsed = rw (not_long text short, is_utf8-from_IsUtf8 text utf8, parsed) refl

none_if : (b : Bool) (o : Option Members) → (b ≡ true → o ≡ None) → cond b o None ≡ None
none_if true o h = h refl
none_if false o h = refl

pub read_nothing : (text : List ℕ) → length text ≤ 1000000 → (IsUtf8 text → parse_document text ≡ None)
    → defs_of text ≡ Err NotToml
unfolding defs_of document_of
read_nothing text short none =
    rw (not_long text short)
    (ap (λ o. or_fault NotToml o >>= defs_in text) (none_if (is_utf8 text) (parse_document text)
    (λ e. none (IsUtf8-from_is_utf8 text e))))
