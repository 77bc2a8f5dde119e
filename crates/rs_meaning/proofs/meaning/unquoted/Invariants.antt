use Rattle.std.proofs.Common.{◌≡◌, ◌++◌, string_bytes}
use Rattle.std.specs.Str.Iter.{chars_rest}
use Rattle.rs_syntax.specs.Written.{unquoted, unquoted_rest}
use Rattle.rs_meaning.proofs.meaning.unquoted.Given as goal

abbrev pub invariant-loop-character : goal.invariant-loop-character
invariant-loop-character l = string_bytes l.text ++ unquoted_rest l.is_behind_quote (chars_rest l.character-iterator) ≡ unquoted l.quoted
