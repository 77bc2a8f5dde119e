use Rattle.roadseg.proofs.+read_nothing.Given as goal

-- each call goes a step deeper
abbrev pub decreases-read_nothing : goal.decreases-read_nothing
decreases-read_nothing g l = l.steps
