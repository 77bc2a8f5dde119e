-- Why a dump stops that reads.
use Rattle.std.specs.Prelude.{◌≡◌, ◌⊎◌, None}
use Rattle.std.specs.FinMap as names
use Rattle.rs_catalog.specs.Definitions.{Definitions}
use Rattle.rs_dump.specs.Written.{StopsWriting}
use Rattle.rs_dump.specs.declared.held.Held as held
use Rattle.rs_dump.specs.declared.stop.Stop.{Stop}
use Rattle.rs_dump.specs.declared.stop.Stop.TheVariants.{Refused}
use Rattle.rs_facts.specs.Fact.{Name}
use Rattle.rs_refusal.specs.declared.refusal.Refusal.{Refusal}
use Rattle.rs_refusal.specs.declared.refusal.Refusal.TheVariants.{NoSuchName}
use Rattle.rs_syntax.specs.Sound.{IsName}

-- no table has this name, or it is no name
abbrev pub HasNoTable : Definitions → Name → Type 0
HasNoTable definitions name = (names.get definitions.tables name ≡ None) ⊎ (IsName name → ⊥)

module _ {H : Type 0} (h : held.Ghosts H) where
  -- for want of memory, since the output failed, or since a read was refused between the one and the other
  abbrev pub StopsReading : Stop → H → H → Type 0
  StopsReading stop old new = StopsWriting stop ⊎ ((why : Refusal) × (stop ≡ Refused why) × h.wants why old new)

  -- so it is, or the table that is wanted is not there
  abbrev pub StopsForTable : Stop → Name → H → H → Type 0
  StopsForTable stop name old new = StopsReading stop old new ⊎ ((stop ≡ Refused NoSuchName) × HasNoTable (h.catalog old) name)
