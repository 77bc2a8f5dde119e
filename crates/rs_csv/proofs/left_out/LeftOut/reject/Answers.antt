use Rattle.csv.specs.Records.{fields_of}
use Rattle.rs_csv.proofs.Rejected.{gives_unknown}
use Rattle.rs_csv.proofs.left_out.LeftOut.reject.Goals as goal

pub returns-then-not-is_wanted-clause-gives : goal.returns-then-not-is_wanted-clause-gives
returns-then-not-is_wanted-clause-gives g c =
    let left = c.args.self.now in
    gives_unknown left.planned.now.separator (fields_of left.planned.now.header) (fields_of left.csv_record.now) (g.X.Rejecting.taken c.args.rejects.now) (g.X.Rejecting.taken c.args.rejects.now) (c.is_wanted.ensures c.if-not-is_wanted.true)
