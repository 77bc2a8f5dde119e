use Rattle.std.proofs.Common.{◌∷◌, [], ◌++◌, arith}
use Rattle.rs_csv.proofs.Rejected.{doubled_more}
use Rattle.rs_csv.proofs.rejects.push_quoted.Goals as goal

pub loop-byte-preserved : goal.loop-byte-preserved
loop-byte-preserved c =
    let text = c.args.text.now in
    record {
      put = doubled_more (c.args.row.now.items ++ 34 ∷ []) c.loop-byte.row.items c.push_twice.new.row.items text c.loop-byte.byte-index (omega (arith, c.loop-byte-test.true, c.loop-byte.auto.byte-index-end)) c.loop-byte.invariant.put
          c.in_ok-push_twice.ensures;
    }
