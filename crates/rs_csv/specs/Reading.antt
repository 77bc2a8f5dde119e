-- The records that are read, each a list of fields, and where what was read ends.
use Rattle.std.specs.Prelude.{◌≡◌, ℕ, List, [], ◌++◌, Option}
use Rattle.std.specs.Io.KnownBytes.{Consumes}
use Rattle.csv.specs.Reading.{AreRecords, default_config, strip_bom}
use Rattle.csv.specs.declared.parser.Config.{Config}
use Rattle.csv.specs.declared.parser.State.TheVariants as states
use Rattle.rs_csv.specs.declared.quoting.Place.{Place}
use Rattle.rs_csv.specs.declared.quoting.Place.TheVariants as places
use Rattle.rs_csv.specs.Cutting.{after_all, text_of}

-- how a reader reads with this byte between two fields
abbrev pub config_of : ℕ → Config
config_of separator = record default_config { delimiter = separator }

-- a new reader over a text gives these records, and then none
abbrev pub ReadsAll : ℕ → List ℕ → List (List (List ℕ)) → Type 0
ReadsAll separator text records = AreRecords (config_of separator) states.StartRecord (strip_bom text) records

-- These records are those of the raw ones, which were read in batches, each by a new reader, to its end.
pub data AreReadOf (separator : ℕ) : List (List ℕ) → List (List (List ℕ)) → Type 0 where
  nothing_read : AreReadOf separator [] []
  one_more_batch : {raws : List (List ℕ)} {records : List (List (List ℕ))} (batch : List (List ℕ)) (more : List (List (List ℕ))) → AreReadOf separator raws records → ReadsAll separator (text_of separator batch) more
      → AreReadOf separator (raws ++ batch) (records ++ more)

-- ---- where what was read ends

-- this is the place after what was read, without a byte order mark at its beginning
abbrev pub IsPlaceAfter : ℕ → Place → Option (List ℕ) → Option (List ℕ) → Type 0
IsPlaceAfter separator place before after = (told : List ℕ) × Consumes before after told × (place ≡ after_all separator places.Start (strip_bom told))

-- what was read does not end within quotes
abbrev pub EndsClosed : ℕ → Option (List ℕ) → Option (List ℕ) → Type 0
EndsClosed separator before after = (told : List ℕ) × Consumes before after told × ¬ (after_all separator places.Start (strip_bom told) ≡ places.Inside)
