use Rattle.std.proofs.Common.{◌≡◌, ◌++◌, take}
use Rattle.rs_csv.specs.Words.{unpacked}
use Rattle.rs_csv.proofs.words.Words.unpack.Given as goal

abbrev pub invariant-loop-code : goal.invariant-loop-code
invariant-loop-code l = l.text.items ≡ l.fn.text.items ++ unpacked l.self (take l.code-index l.codes)
