use Rattle.std.proofs.Common.{◌≡◌, ◌∷◌, [], ◌++◌, take}
use Rattle.rs_csv.specs.Rejects.{doubled}
use Rattle.rs_csv.proofs.rejects.push_quoted.Given as goal

abbrev pub invariant-loop-byte : goal.invariant-loop-byte
invariant-loop-byte l = record {
  put : l.row.items ≡ (l.fn.row.items ++ 34 ∷ []) ++ doubled (take l.byte-index l.text);
}
