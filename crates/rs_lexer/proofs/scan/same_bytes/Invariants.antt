use Rattle.std.proofs.Common.{◌≡◌, drop}
use Rattle.std.specs.Str.{bytes_eq}
use Rattle.rs_lexer.proofs.scan.same_bytes.Given as goal

-- the bytes from here on decide
abbrev pub invariant-loop-place : goal.invariant-loop-place
invariant-loop-place l = bytes_eq (drop l.place l.bytes) (drop l.place l.word) ≡ bytes_eq l.bytes l.word
