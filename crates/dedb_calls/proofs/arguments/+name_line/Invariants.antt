use Rattle.dedb_calls.proofs.arguments.+name_line.Given as goal

-- each level is above
abbrev pub decreases-name_line : goal.decreases-name_line
decreases-name_line l = l.levels
