-- What a map by name ends as once a value that it lent was changed.
use Rattle.std.specs.Prelude.{◌≡◌, Option, OnSome}
use Rattle.std.specs.Borrow.{LendsSo, Fml, RattleType, MutBor}
use Rattle.std.specs.FinMap as names
use Rattle.rs_facts.specs.Fact.{Name, Names}
use Rattle.rs_catalog.specs.contracts.by_name.ByName.{the_row}

-- under the name is the last value written through the borrow; where there was none, the map is as it was
abbrev pub LendsNamed : (T : RattleType) → MutBor (Names T.Denot) → Name → Option (MutBor T.Denot) → Fml
LendsNamed T m name lent = LendsSo (the_row T) T m lent (λ n w. OnSome lent (n ≡ names.insert m.now name w)) (λ n. n ≡ m.now)
