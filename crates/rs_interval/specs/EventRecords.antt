-- Event records, and the cells that say them.
use Rattle.std.specs.Prelude.{◌≡◌, ◌<◌, ◌^◌, ◌==◌, ◌&&◌, ℕ, Bool, nat_lt, List, ◌++◌}
use Rattle.std.specs.Int.{w32, w64, to_be_bytes}

-- a row that is on a route from one thousandth up to another, as versions from one up to another see it
pub record EventRecord : Type 0 where
  pub route : ℕ
  pub from : ℕ
  pub row : List ℕ
  pub born : ℕ
  pub to : ℕ
  pub died : ℕ

-- the cell says the record: its fields in this order, the highest byte of a number first
pub record SaysRecord (cell : List ℕ) (event : EventRecord) : Type 0 where
  pub route_fits : event.route < 2 ^ 32
  pub from_fits : event.from < 2 ^ 32
  pub born_fits : event.born < 2 ^ 64
  pub to_fits : event.to < 2 ^ 32
  pub died_fits : event.died < 2 ^ 64
  pub bytes : cell ≡ to_be_bytes w32 event.route ++ (to_be_bytes w32 event.from ++ (event.row
      ++ (to_be_bytes w64 event.born ++ (to_be_bytes w32 event.to ++ to_be_bytes w64 event.died))))

-- the record is on the route, begins before b and ends after a
abbrev pub overlaps : ℕ → ℕ → ℕ → EventRecord → Bool
overlaps route a b event = event.route == route && (nat_lt event.from b && nat_lt a event.to)
