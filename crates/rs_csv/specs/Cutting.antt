-- How the input is cut at the ends of its records, with this byte between two fields, and which records are read.
use Rattle.std.specs.Prelude.{◌≡◌, ◌⊎◌, ℕ, ◌+◌, ◌<◌, ◌≤◌, nat_le, Bool, true, false, List, [], ◌∷◌, ◌++◌, length, filter, All, if◌then◌else◌}
use Rattle.std.specs.List.{concat}
use Rattle.rs_csv.specs.declared.batch.Batch.{Batch}
use Rattle.rs_csv.specs.declared.batch.Taken.{Taken}
use Rattle.rs_csv.specs.declared.batch.Taken.TheVariants as taken
use Rattle.rs_csv.specs.declared.batch.TheConstants.{RECORD_BYTES}
use Rattle.rs_csv.specs.declared.quoting.Place.{Place}
use Rattle.rs_csv.specs.declared.quoting.Place.TheVariants as places
use Rattle.rs_csv.specs.Quoting.{after, ends_record, marked}

-- the place after some bytes
abbrev pub after_all : ℕ → Place → List ℕ → Place
after_all separator place [] = place
after_all separator place (byte ∷ bytes) = after_all separator (after separator place byte) bytes

-- none of the bytes, from this place on, ends a record
abbrev pub HasNoEnd : ℕ → Place → List ℕ → Type 0
HasNoEnd separator place [] = Unit {0}
HasNoEnd separator place (byte ∷ bytes) = (ends_record place byte ≡ false) × HasNoEnd separator (after separator place byte) bytes

-- One record, as it stands in the input: its last byte ends it, and no other does.
pub record IsRawRecord (separator : ℕ) (bytes : List ℕ) : Type 0 where
  pub front : List ℕ
  pub last : ℕ
  pub whole : bytes ≡ front ++ last ∷ []
  pub begun : HasNoEnd separator places.Start front
  pub ended : ends_record (after_all separator places.Start front) last ≡ true

-- The input is these records, and a rest that has not ended.
pub record IsCut (separator : ℕ) (input : List ℕ) (raws : List (List ℕ)) (rest : List ℕ) : Type 0 where
  pub whole : input ≡ concat raws ++ rest
  pub each : All (IsRawRecord separator) raws
  pub begun : HasNoEnd separator places.Start rest

-- ---- which are read

-- those of no more bytes than the limit
abbrev pub within : ℕ → List (List ℕ) → List (List ℕ)
within limit raws = filter (λ raw. nat_le (length raw) limit) raws

-- those of no more bytes than a record may have, and its end
abbrev pub kept : List (List ℕ) → List (List ℕ)
kept raws = within (RECORD_BYTES + 1) raws

-- the same, and of a rest, which has no end
abbrev pub kept_of : List (List ℕ) → List ℕ → List (List ℕ)
kept_of raws rest = kept raws ++ within RECORD_BYTES (rest ∷ [])

-- The text that is read for records: an empty line, so that no byte of theirs is taken for one of a byte order mark, and the
-- records, with the quotes of their fields marked.
abbrev pub text_of : ℕ → List (List ℕ) → List ℕ
text_of separator raws = 10 ∷ marked separator places.Start (concat raws)

-- ---- a batch

-- what a batch has of a record that has begun
abbrev pub begun_text : ℕ → Bool → List ℕ → List ℕ
begun_text separator is_long begun = if is_long then [] else marked separator places.Start begun

-- A batch has whole records, and a record that has begun, unless that has more bytes than the limit.
pub record IsBatchWithin (limit separator : ℕ) (batch : Batch) (whole begun : List ℕ) : Type 0 where
  pub separated : batch.separator ≡ separator
  pub text : batch.text.items ≡ 10 ∷ marked separator places.Start whole ++ begun_text separator batch.is_long begun
  pub ends : after_all separator places.Start whole ≡ places.Start
  pub begins : batch.begun ≡ 1 + length (marked separator places.Start whole)
  pub place : batch.place ≡ after_all separator places.Start begun
  pub is_long : batch.is_long ≡ true → limit < length begun
  pub is_short : batch.is_long ≡ false → (batch.length ≡ length begun) × (length begun ≤ limit)

-- the same by the limit of a record without its end
abbrev pub IsBatchOf : ℕ → Batch → List ℕ → List ℕ → Type 0
IsBatchOf separator batch whole begun = IsBatchWithin RECORD_BYTES separator batch whole begun

-- a batch after bytes that go on the record that has begun, none of which ends it
abbrev pub Runs : ℕ → Batch → List ℕ → List ℕ → List ℕ → Type 0
Runs separator batch whole begun run = HasNoEnd separator (after_all separator places.Start begun) run × IsBatchOf separator batch whole (begun ++ run)

-- no record has begun that the batch has bytes of
abbrev pub IsBetween : Batch → List ℕ → Type 0
IsBetween batch begun = (begun ≡ []) ⊎ (batch.is_long ≡ true)

-- a batch after a record that goes on
abbrev pub GoesOn : ℕ → Taken → Batch → List ℕ → List ℕ → Type 0
GoesOn separator taken.Within batch whole begun = IsBatchOf separator batch whole begun
GoesOn separator taken.TooLong batch whole begun = (batch.is_long ≡ true) × IsBatchOf separator batch whole begun
GoesOn separator _ batch whole begun = ⊥

-- a batch after a record that ended, which it has, unless that was too long
abbrev pub EndsRecord : ℕ → Taken → Batch → List ℕ → List ℕ → Type 0
EndsRecord separator taken.Ended batch whole raw = (length raw ≤ RECORD_BYTES + 1) × IsBatchOf separator batch (whole ++ raw) []
EndsRecord separator taken.EndedLong batch whole raw = (RECORD_BYTES + 1 < length raw) × IsBatchOf separator batch whole []
EndsRecord separator _ batch whole raw = ⊥

-- a batch after a byte, which ends the record or does not
abbrev pub Takes : ℕ → Taken → Batch → List ℕ → List ℕ → ℕ → Type 0
Takes separator taken batch whole begun byte =
    ((ends_record (after_all separator places.Start begun) byte ≡ false) × GoesOn separator taken batch whole (begun ++ byte ∷ []))
    ⊎ ((ends_record (after_all separator places.Start begun) byte ≡ true) × EndsRecord separator taken batch whole (begun ++ byte ∷ []))
