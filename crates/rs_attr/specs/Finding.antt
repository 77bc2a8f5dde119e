-- What the search for a value finds.
use Rattle.std.specs.Prelude.{ℕ, Bool, true, List, ◌++◌}
use Rattle.std.specs.Ordering.{is_eq}
use Rattle.rs_attr.specs.Entries.{Field, index_form}
use Rattle.rs_facts.specs.Operators.{datum_at}
use Rattle.rs_pages.specs.PageMap.{PageMap}
use Rattle.rs_tree.specs.Calls.{Finds}
use Rattle.rs_value.specs.Encoding.{SaysDatum}
use Rattle.rs_value.specs.Row.{Datum, datum_cmp}
use Rattle.rs_versioned.specs.Events.{Event}

-- the event's row has this value in the column
abbrev pub has_value : ℕ → Datum → Event → Bool
has_value column datum event = is_eq (datum_cmp (datum_at event.row column) datum)

-- of whatever tree stands there, what was found are the entries that begin with the bytes of the value and go on with bytes that are
-- not below the one and below the other
pub record FindsEntries (field : Field) (pages : PageMap) (root : ℕ) (datum : Datum) (from to : List ℕ) (found : List (List ℕ)) (reads : ℕ) : Type 0 where
  pub bytes : List ℕ
  pub says : SaysDatum field.column bytes datum
  pub finds : Finds (index_form field) pages root (bytes ++ from) (bytes ++ to) (λ _. true) found reads
