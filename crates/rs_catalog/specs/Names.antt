-- What stands under names, seen by the bytes of the names.
use Rattle.std.specs.Prelude.{List, map}
use Rattle.std.specs.FinMap as names
use Rattle.arrayvec.specs.ArrayString.{ArrayString}
use Rattle.rs_facts.specs.Fact.{Name, Names}

-- the entries, each name as its bytes and each value as what it is seen as
abbrev pub entries_by_bytes : {V X : Type 0} → (V → X) → List (ArrayString × V) → List (Name × X)
entries_by_bytes seen entries = map (λ e. (e.0.bytes, seen e.1)) entries

unfoldable pub names_of : {V X : Type 0} → (V → X) → List (ArrayString × V) → Names X
names_of seen entries = names.from_entries (entries_by_bytes seen entries)

-- each value by a function of it
unfoldable pub map_values : {X Y : Type 0} → (X → Y) → Names X → Names Y
map_values change values = names.from_entries (map (λ e. (e.0, change e.1)) (names.entries values))
