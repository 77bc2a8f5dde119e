-- What is written: the lines of commands, each with its LF.
use Rattle.std.specs.Prelude.{◌≡◌, ◌≢◌, ◌⊎◌, ℕ, Bool, nat_le, List, [], ◌∷◌, ◌++◌, length, MatchResult, Option, Result}
use Rattle.std.specs.Io.KnownBytes.{Appends}
use Rattle.rs_dump.specs.declared.stop.Stop.{Stop}
use Rattle.rs_dump.specs.declared.stop.Stop.TheVariants.{Refused, Stream}
use Rattle.rs_dump_laws.specs.Lines.{dump_line}
use Rattle.rs_machine.specs.declared.limits.TheConstants.{LINE_BYTES}
use Rattle.rs_protocol.specs.Puts.{PutsBut}
use Rattle.rs_protocol.specs.declared.stream.Fault.TheVariants.{Write}
use Rattle.rs_refusal.specs.declared.refusal.Refusal.TheVariants.{OutOfMemory}
use Rattle.rs_syntax.specs.Tree.{CommandTree}

abbrev pub line_bytes : CommandTree → List ℕ
line_bytes tree = dump_line tree ++ 10 ∷ []

abbrev pub lines_bytes : List CommandTree → List ℕ
lines_bytes [] = []
lines_bytes (tree ∷ trees) = line_bytes tree ++ lines_bytes trees

-- the line is no longer than a line may be
abbrev pub fits_line : CommandTree → Bool
fits_line tree = nat_le (length (dump_line tree)) LINE_BYTES

-- ---- where it stops

-- for want of memory, or since the output failed
abbrev pub StopsWriting : Stop → Type 0
StopsWriting stop = (stop ≡ Refused OutOfMemory) ⊎ (stop ≡ Stream Write)

-- The output grew by a front of the bytes. What comes after it is lost, which is something where the output failed.
pub record WroteFront (stop : Stop) (bytes : List ℕ) (before after : Option (List ℕ)) : Type 0 where
  pub lost : List ℕ
  pub put : PutsBut bytes lost before after
  pub lacks : stop ≡ Stream Write → lost ≢ []

-- The output grew by the bytes; or, for want of memory or since it failed, by a front of them.
abbrev pub PutsBytes : {T : Type 0} → Result T Stop → List ℕ → Option (List ℕ) → Option (List ℕ) → Type 0
PutsBytes result bytes before after = MatchResult result (λ _. Appends before after bytes) (λ stop. StopsWriting stop × WroteFront stop bytes before after)

-- so it grew by the line, or by the lines
abbrev pub Writes : {T : Type 0} → Result T Stop → CommandTree → Option (List ℕ) → Option (List ℕ) → Type 0
Writes result tree before after = PutsBytes result (line_bytes tree) before after

abbrev pub WritesAll : {T : Type 0} → Result T Stop → List CommandTree → Option (List ℕ) → Option (List ℕ) → Type 0
WritesAll result trees before after = PutsBytes result (lines_bytes trees) before after

-- the same, for whatever reason it stops
abbrev pub WritesRead : {T : Type 0} → Result T Stop → List CommandTree → Option (List ℕ) → Option (List ℕ) → Type 0
WritesRead result trees before after = MatchResult result (λ _. Appends before after (lines_bytes trees)) (λ stop. WroteFront stop (lines_bytes trees) before after)

-- The output grew by the lines of some commands, which with those that are left are all.
pub record WroteSome (all left : List CommandTree) (before after : Option (List ℕ)) : Type 0 where
  pub done : List CommandTree
  pub are : done ++ left ≡ all
  pub put : Appends before after (lines_bytes done)

-- ---- lines that are held back

-- The output grew by what was held back and by the bytes, but for what is held back now; or by a front of them all.
abbrev pub AddsBytes : {T : Type 0} → Result T Stop → List ℕ → List ℕ → List ℕ → Option (List ℕ) → Option (List ℕ) → Type 0
AddsBytes result bytes held held_now before after =
    MatchResult result (λ _. PutsBut (held ++ bytes) held_now before after) (λ stop. WroteFront stop (held ++ bytes) before after)

-- The output grew by what was held back and by the lines of some commands, but for what is held back now; with those that are left they are all.
pub record AddedSome (held : List ℕ) (all left : List CommandTree) (held_now : List ℕ) (before after : Option (List ℕ)) : Type 0 where
  pub done : List CommandTree
  pub are : done ++ left ≡ all
  pub put : PutsBut (held ++ lines_bytes done) held_now before after
