-- What reads of a store keep, why they are refused, and what they find of a route.
use Rattle.std.specs.Prelude.{◌≡◌, ◌⊎◌, ℕ, Bool, Some}
use Rattle.std.specs.FinMap as names
use Rattle.rs_catalog.specs.Definitions.{RouteItem}
use Rattle.rs_disk.specs.declared.disk.Disk as disk
use Rattle.rs_facts.specs.Fact.{Name}
use Rattle.rs_machine.specs.State.{State}
use Rattle.rs_machine.specs.Step.{has_fact_on, some_table}
use Rattle.rs_refusal.specs.Counts.{Rose}
use Rattle.rs_refusal.specs.declared.refusal.Refusal.{Refusal}
use Rattle.rs_refusal.specs.declared.refusal.Refusal.TheVariants as refusal
use Rattle.rs_store.specs.Kept.{StandsIn, StoreState}
use Rattle.rs_store.specs.Reading.{ReadsStore}

module _ {D : Type 0} (d : disk.Ghosts D) where
  -- a read leaves all that is kept as it was, and failures of the disk don't fall
  abbrev pub Passes : StoreState D → StoreState D → Type 0
  Passes = ReadsStore d

  -- the store stands in no state, whatever its oldest version
  pub record StandsInNone (store : StoreState D) : Type 0 where
    pub none : (oldest : ℕ) (state : State) → StandsIn d oldest store state → ⊥

  -- Why reads are refused that begin with the one store and end with the other: for want of memory, where failures of the disk
  -- rose, and where the store stood in no state.
  abbrev pub WantsReading : Refusal → StoreState D → StoreState D → Type 0
  WantsReading why old new =
      (why ≡ refusal.OutOfMemory)
      ⊎ ((why ≡ refusal.Disk) × Rose (d.failures old.pager.disk) (d.failures new.pager.disk))
      ⊎ ((why ≡ refusal.DamagedFile) × StandsInNone old)

  -- the answer is whether some table of the state has a fact on the route of this number
  pub record SaysFactsOn (store : StoreState D) (route : ℕ) (answer : Bool) : Type 0 where
    pub each : (oldest : ℕ) (state : State) → StandsIn d oldest store state → (name : Name) (item : RouteItem) → names.get store.catalog.routes name ≡ Some item
        → item.number ≡ route → answer ≡ some_table state (has_fact_on name item.ends)
