-- Which alignments a dump has: those that fit into a line.
use Rattle.std.specs.Prelude.{◌≡◌, ◌⊎◌, ℕ, true, false, not, List, [], ◌∷◌, ◌++◌, filter, Option}
use Rattle.std.specs.Io.KnownBytes.{Appends}
use Rattle.arrayvec.specs.ArrayString.{ArrayString}
use Rattle.rs_dump.specs.Views.{names_of}
use Rattle.rs_dump.specs.Written.{fits_line, line_bytes}
use Rattle.rs_dump_laws.specs.Dump.{alignment_command}
use Rattle.rs_facts.specs.Fact.{Name}
use Rattle.rs_facts.specs.Query.{Piece}

abbrev pub fitting : List (Name × List Piece) → List (Name × List Piece)
fitting alignments = filter (λ alignment. fits_line (alignment_command alignment)) alignments

abbrev pub too_long : List (Name × List Piece) → List (Name × List Piece)
too_long alignments = filter (λ alignment. not (fits_line (alignment_command alignment))) alignments

-- the line is written, or the name is added to those that were left out
pub record IsWritten (alignment : Name × List Piece) (old new : List ArrayString) (before after : Option (List ℕ)) : Type 0 where
  pub fits : fits_line (alignment_command alignment) ≡ true
  pub put : Appends before after (line_bytes (alignment_command alignment))
  pub same : new ≡ old

pub record IsLeftOut (alignment : Name × List Piece) (old new : List ArrayString) (before after : Option (List ℕ)) : Type 0 where
  pub long : fits_line (alignment_command alignment) ≡ false
  pub kept : after ≡ before
  pub named : names_of new ≡ names_of old ++ alignment.0 ∷ []

abbrev pub Steps : Name × List Piece → List ArrayString → List ArrayString → Option (List ℕ) → Option (List ℕ) → Type 0
Steps alignment old new before after = IsWritten alignment old new before after ⊎ IsLeftOut alignment old new before after
