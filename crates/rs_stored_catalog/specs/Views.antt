-- The views that a file lists, as the catalogue in memory has them.
use Rattle.std.specs.Prelude.{◌≡◌, ℕ, List}
use Rattle.std.specs.FinMap as names
use Rattle.std.specs.List.{AllZip}
use Rattle.rs_catalog.specs.Definitions.{Definitions, Rest, state_from}
use Rattle.rs_catalog_pages.specs.Items.{ViewItem}
use Rattle.rs_facts.specs.Fact.{Names}
use Rattle.rs_facts.specs.Runs.{Stretch}
use Rattle.rs_file_meaning.specs.States.{IsViewOf}
use Rattle.rs_machine.specs.Lawful.{AreViewsMeant}

-- These views have come, each under its name with the text that its item has, and some line defines it so; all else is as it was.
pub record HasViews (listed : List ViewItem) (old new : Definitions) : Type 0 where
  pub views : AllZip IsViewOf listed (names.entries new.views)
  pub others : new ≡ record old { views = new.views }

-- each view passes the checks of its DEFINE line but that windows lie on their routes, whatever facts there are
abbrev pub AreMeantIn : (ℕ → Names ℕ) → Definitions → Type 0
AreMeantIn referents definitions = (spans_on : ℕ → ℕ → List Stretch) (rest : Rest) → AreViewsMeant (state_from definitions referents spans_on rest)
