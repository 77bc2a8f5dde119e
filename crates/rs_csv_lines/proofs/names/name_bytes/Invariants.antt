use Rattle.std.proofs.Common.{◌≡◌, ◌≤◌, ◌++◌, length, map, take}
use Rattle.rs_grammar.specs.declared.kind.TheConstants.{NAME_BYTES}
use Rattle.rs_csv_lines.specs.Names.{before_name, name_byte}
use Rattle.rs_csv_lines.proofs.names.name_bytes.Given as goal

abbrev pub invariant-loop-byte : goal.invariant-loop-byte
invariant-loop-byte l = record {
  bytes : l.name.bytes ≡ before_name l.text ++ map name_byte (take l.byte-index l.text);
  few : length l.name.bytes ≤ NAME_BYTES;
}
