use Rattle.std.proofs.Common.{rules}
use Rattle.fp_model.specs.Items.{IsAreaInterval}
use Rattle.fp_rows.specs.Sample.{sample_defs}
use Rattle.byte_rows.proofs.entries.which_ranges_are_fit.Goals as goal

-- the interval that both ranges are of
is_interval : IsAreaInterval sample_defs 4 4 512
is_interval = search rules

pub returns-clause-inside : goal.returns-clause-inside
returns-clause-inside c = (512, is_interval, search rules)

pub returns-clause-to_the_end : goal.returns-clause-to_the_end
returns-clause-to_the_end c = (512, is_interval, search rules)
