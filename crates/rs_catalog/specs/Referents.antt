-- The referents that are kept of each route, by the route's number.
use Rattle.std.specs.Prelude.{ℕ, List, [], unwrap_or, nat_eq, if◌then◌else◌}
use Rattle.std.specs.Coded.{Coded, coded×, coded_ℕ, coded_list}
use Rattle.std.specs.FinMap as numbers
use Rattle.rs_methods.specs.Referents.{referents_of}
use Rattle.rs_facts.specs.Fact.{Name, Names}
use Rattle.rs_catalog.specs.Definitions.{Numbered}
use Rattle.rs_catalog.specs.declared.referents.TheConstants.{OWN_ROUTE}

-- referents of one route, each by the route's number there and its name
abbrev pub HeldReferents : Type 0
HeldReferents = List ((ℕ × Name) × ℕ)

abbrev pub held_referents_code : Coded HeldReferents
held_referents_code = coded_list (coded× (coded× coded_ℕ (coded_list coded_ℕ)) coded_ℕ)

-- the referents of one list, as the machine knows them
abbrev pub referents_by_name : HeldReferents → Names ℕ
referents_by_name referents = numbers.from_entries (referents_of OWN_ROUTE referents)

-- the referents of a route by its number; none where nothing is kept of it
unfoldable pub referents_on : Numbered HeldReferents → ℕ → Names ℕ
referents_on held number = referents_by_name (unwrap_or (numbers.get held number) [])

abbrev pub no_referents : ℕ → Names ℕ
no_referents number = numbers.empty

-- the route of one number has other referents
unfoldable pub at_number : ℕ → Names ℕ → (ℕ → Names ℕ) → ℕ → Names ℕ
at_number number referents old = λ n. if nat_eq n number then referents else old n
