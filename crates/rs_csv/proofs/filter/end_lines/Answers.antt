use Rattle.rs_csv.specs.Output.{table_of}
use Rattle.rs_csv.proofs.Taking.{wrote_told}
use Rattle.rs_csv.proofs.filter.end_lines.Goals as goal

pub returns-in-Ok-clause-wrote : goal.returns-in-Ok-clause-wrote
returns-in-Ok-clause-wrote g c = λ before raws taken.
    wrote_told c.args.job.now.wanted (table_of c.args.job.now.definition) c.in-Ok.told c.tell_end.result raws before _ c.tell_end.ensures.told (c.in-Ok.ensures.wrote before raws taken)
