-- What a reader of CSV gave of a text.
use Rattle.std.proofs.Common.{◌≡◌, ◌∙◌, ℕ, Bool, true, false, List, [], ◌∷◌, ◌++◌, Option, Some, refl, sym, subst, inl}
use Rattle.csv.specs.Reading.{ReadRecord, Reached, Ready, source_of, reader_config, reader_state, reader_trim, strip_bom, took_first}
use Rattle.csv.specs.declared.reader.Reader.{Reader}
use Rattle.csv.specs.declared.reader.Trim.TheVariants as trims
use Rattle.csv.specs.declared.parser.State.TheVariants as states
use Rattle.csv.proofs.ReadFacts.{rows-more, rows-end}
use Rattle.rs_csv_table.specs.Tables.{ReadsAll, config_of}

-- The records that a reader gave of a text, and what it still has.
pub record HasRead {R : Type 0} (rem : R → Option (List ℕ)) (separator : ℕ) (text : List ℕ) (records : List (List (List ℕ))) (reader : Reader R) : Type 0 where
  pub rest : List ℕ
  pub reached : Reached (config_of separator) states.StartRecord (strip_bom text) records (reader_state reader) rest
  pub unread : source_of rem reader ≡ Some rest
  pub config : reader_config reader ≡ config_of separator
  pub trim : reader_trim reader ≡ trims.None
  pub ready : Ready reader

pub read_none : {R : Type 0} (rem : R → Option (List ℕ)) (separator : ℕ) (text : List ℕ) (reader : Reader R) → reader_state reader ≡ states.StartRecord → source_of rem reader ≡ Some (strip_bom text) → reader_config reader ≡ config_of separator
    → reader_trim reader ≡ trims.None → Ready reader → HasRead rem separator text [] reader
unfolding Reached
read_none rem separator text reader state source config trim ready = record { rest = strip_bom text; reached = (sym state, refl); unread = source; config = config; trim = trim; ready = ready }

pub read_more : {R : Type 0} (rem : R → Option (List ℕ)) (separator : ℕ) (text : List ℕ) (records : List (List (List ℕ))) (fields : List (List ℕ)) (old new : Reader R) (found : Bool) → found ≡ true → HasRead rem separator text records old
    → (reader_trim old ≡ trims.None → Ready old → ReadRecord rem old new found fields) → (reader_trim old ≡ trims.None → took_first new ≡ true) → HasRead rem separator text (records ++ fields ∷ []) new
read_more rem separator text records fields old new found is has reads first =
    let read : ReadRecord rem old new true fields = subst (λ f. ReadRecord rem old new f fields) is (reads has.trim has.ready) in
    let next = rows-more rem old new fields (config_of separator) states.StartRecord (strip_bom text) has.rest records has.config has.unread has.reached read in
    record { rest = next.0; reached = next.2; unread = next.1; config = read.2 ∙ has.config; trim = read.3 ∙ has.trim; ready = inl (first has.trim) }

pub read_all : {R : Type 0} (rem : R → Option (List ℕ)) (separator : ℕ) (text : List ℕ) (records : List (List (List ℕ))) (fields : List (List ℕ)) (old new : Reader R) (found : Bool) → found ≡ false → HasRead rem separator text records old
    → (reader_trim old ≡ trims.None → Ready old → ReadRecord rem old new found fields) → ReadsAll separator text records
read_all rem separator text records fields old new found is has reads =
    (reader_state old, has.rest, has.reached, rows-end rem old new fields (config_of separator) has.rest has.config has.unread (subst (λ f. ReadRecord rem old new f fields) is (reads has.trim has.ready)))
