-- What an answer unfolds to compute the definitions of a literal text.
use Rattle.std.specs.Prelude.{⊤}
use Rattle.std.specs.Str.{is_utf8, chars}
use Rattle.toml.proofs.OnLiterals.{toml_on_literals}
use Rattle.def_tables.specs.Values.{as_name, as_exit, as_tables, as_field_name, as_kind, as_length, as_triple, as_triples, number_of_text, loaded_as, field_in, as_segment, as_segments}
use Rattle.def_tables.specs.Keys.{has_key, only, needed, within, number_within, number_at, number_or, flag_at, exit_at, name_at, tables_or_none, tables_at, once, all_once, new_name}
use Rattle.def_tables.specs.Fields.{keyed, fields_at}
use Rattle.def_tables.specs.Loads.{load_in, load_at}
use Rattle.fp_defs.specs.Msdbs.{msdb_of}
use Rattle.fp_defs.specs.Segments.{segment_name, says_sequential, parent_at, sequential_at, segment_of}
use Rattle.fp_defs.specs.Areas.{capacity_at, area_of}
use Rattle.fp_defs.specs.Dedbs.{interval_size_at, ended, dedb_behind, dedb_of}
use Rattle.fp_defs.specs.Whole.{no_gap, groups_in, regions_at, databases_of, defs_in, document_of, defs_of}

unfoldable pub on_literals : ⊤
unfolding toml_on_literals is_utf8 chars as_name as_exit as_tables as_field_name as_kind as_length as_triple as_triples
    number_of_text loaded_as field_in as_segment as_segments has_key only needed within number_within number_at
    number_or flag_at exit_at name_at tables_or_none tables_at once all_once new_name keyed fields_at load_in load_at
    msdb_of segment_name says_sequential parent_at sequential_at segment_of capacity_at area_of interval_size_at ended
    dedb_behind dedb_of no_gap groups_in regions_at databases_of defs_in document_of defs_of
on_literals = tt
