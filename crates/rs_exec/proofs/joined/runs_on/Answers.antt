use Rattle.rs_exec.proofs.joined.runs_on.Goals as goal

pub returns : goal.returns
returns c = (record { runs = c.runs-first.ensures.runs; placed = c.runs-first.ensures.placed; same = c.runs-first.ensures.same }, c.in_ok-others.ensures)
