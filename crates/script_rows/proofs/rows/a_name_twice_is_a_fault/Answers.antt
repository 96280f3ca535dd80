use Rattle.std.proofs.Common.{refl, lit≤}
use Rattle.txn_lang.specs.Blocks.{none, one, repeat_end, no_script, script}
use Rattle.txn_lang.specs.Grammar.{in_script}
use Rattle.txn_tokens.specs.Readings.{all_by}
use Rattle.txn_tokens.specs.Tokens.{letter_token, number_token, text_token, hash_token, token_at, spaced_token_at, tokens_of}
use Rattle.txn_tokens.specs.Parts.{word_at, sign_at, variable_at, operand_at, operation_at, comparison_at, count_at, bracket_at, key_at, key_behind, ssa_at, fsa_op_at, fsa_at, field_at, operands_in, fsas_in, fields_in}
use Rattle.txn_tokens.specs.Lookups.{db_of, dedb_ssas, get_ssas, isrt_ssas, isrt_fields}
use Rattle.txn_lang.specs.Statements.{keywords, keyword_at, set_rest, set_line, if_line, get_line, fld_line, isrt_line, repl_line, dlet_line, line_behind}
use Rattle.txn_lang.specs.Blocks.{stands}
use Rattle.txn_lang.specs.Grammar.{statement_in, line_in, lines_in, scripts_fault}
use Rattle.script_rows.proofs.rows.a_name_twice_is_a_fault.Goals as goal

pub returns : goal.returns
unfolding all_by letter_token number_token text_token hash_token token_at spaced_token_at tokens_of word_at sign_at
    variable_at operand_at operation_at comparison_at count_at bracket_at key_at key_behind ssa_at fsa_op_at fsa_at
    field_at operands_in fsas_in fields_in db_of dedb_ssas get_ssas isrt_ssas isrt_fields keywords keyword_at set_rest
    set_line if_line get_line fld_line isrt_line repl_line dlet_line line_behind stands statement_in line_in lines_in
    scripts_fault
returns c = in_script (record {
  short = lit≤ tt;
  read = _;
  lines = refl;
  closed = refl;
  shape = script _ none (script _ (repeat_end _ (one _ none) none) no_script);
}) refl
