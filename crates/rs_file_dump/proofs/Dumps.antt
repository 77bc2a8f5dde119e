-- What is written of a store that was opened to be read is what is wanted of the disk.
use Rattle.std.proofs.Common.{◌≡◌, ℕ, Bool, Bor, false, Result, Ok, Err, Option, Some, None, List, refl, subst, sym}
use Rattle.std.specs.Prelude.{IfOk, IfSome, OnOk}
use Rattle.std.specs.Option.{option_map}
use Rattle.std.proofs.lemmas.Option.{none-some}
use Rattle.rs_disk.specs.Content.{Content}
use Rattle.rs_disk.specs.declared.disk.Disk as disk
use Rattle.rs_dump.specs.Dumped.{WroteAll, WroteTable}
use Rattle.rs_dump.specs.Shown.{Shown}
use Rattle.rs_dump.specs.States.{IsDumped, IsStateOf}
use Rattle.rs_catalog.specs.Definitions.{Definitions, Numbered}
use Rattle.rs_catalog.specs.Referents.{HeldReferents}
use Rattle.rs_file_dump.specs.Files.{DumpsDisk, ShowsFile}
use Rattle.rs_file_dump.proofs.Files.{is_state_of, shown_of, shows_its_state}
use Rattle.rs_machine.specs.Lawful.{IsLawful}
use Rattle.rs_machine.specs.State.{State}
use Rattle.rs_store_source.specs.Calls.{OpensState}
use Rattle.rs_store_source.specs.Kept.{StoreState}
use Rattle.rs_store_source.specs.Standing.{Stands}
use Rattle.rs_store_source.proofs.States.{StateIs}
use Rattle.rs_store_source.proofs.Within.{NoneLeftOut, RowsWithin}

-- what the law says of what is written
abbrev pub IsADump : Type 0
IsADump = (definitions : Definitions) (held : Numbered HeldReferents) (shown : Shown) (state : State) (lacks : Bool) (before after : Option (List ℕ))
    → IsStateOf definitions held shown state → WroteAll definitions held shown false lacks before after → IsDumped state lacks before after

module _ {D : Type 0} (d : disk.Ghosts D) (limit : ℕ) (content : Content) (store : StoreState D) (opens : OpensState d limit content store)
    (state_is : StateIs d) (left : NoneLeftOut) (rows : RowsWithin) (lawful : IsLawful opens.state) where
  abbrev shown : Shown
  shown = shown_of d store opens.stands.contents

  shows : ShowsFile d store shown
  shows = shows_its_state d store.file.accepted store opens.state opens.stands

  is : IsStateOf store.catalog store.referents shown opens.state
  is = is_state_of d store.file.accepted store opens.state opens.stands state_is left rows lawful

  module _ {E : Type 0} (omits_rows : Bool) (before after : Option (List ℕ)) where
    pub dumps : (table : Option (Bor (List ℕ))) (result : Result Bool E)
        → (table ≡ None → (shown : Shown) → ShowsFile d store shown → IfOk result (λ lacks. WroteAll store.catalog store.referents shown omits_rows lacks before after))
        → IfSome table (λ name. (shown : Shown) → ShowsFile d store shown → OnOk result (WroteTable store.catalog shown omits_rows name.now before after))
        → IfOk result (λ lacks. DumpsDisk limit content (option_map (λ t. t.now) table) omits_rows lacks before after)
    dumps table (Err why) all one = tt
    dumps None (Ok lacks) all one = record {
      state = opens.state;
      stood = opens.stood;
      definitions = store.catalog;
      held = store.referents;
      shown = shown;
      is = is;
      all = λ none. all refl shown shows;
      one = tt;
    }
    dumps (Some name) (Ok lacks) all one = record {
      state = opens.state;
      stood = opens.stood;
      definitions = store.catalog;
      held = store.referents;
      shown = shown;
      is = is;
      all = λ none. absurd (none-some name.now (sym none));
      one = one shown shows;
    }

  pub dumps_whole : IsADump → {E : Type 0} (result : Result Bool E) (omits_rows : Bool) (before after : Option (List ℕ)) → omits_rows ≡ false
      → ((shown : Shown) → ShowsFile d store shown → IfOk result (λ lacks. WroteAll store.catalog store.referents shown omits_rows lacks before after))
      → IfOk result (λ lacks. (state : State) × Stands limit content state × IsDumped state lacks before after)
  dumps_whole law (Err why) omits_rows before after all_rows wrote = tt
  dumps_whole law (Ok lacks) omits_rows before after all_rows wrote = (
    opens.state,
    opens.stood,
    law store.catalog store.referents shown opens.state lacks before after is
        (subst (λ (omits : Bool). WroteAll store.catalog store.referents shown omits lacks before after) all_rows (wrote shown shows)),
  )
