-- Why a dump of a disk stops, and what it wrote by then.
use Rattle.std.proofs.Common.{◌≡◌, ◌∙◌, ◌⊎◌, ℕ, Bool, Bor, false, inl, inr, List, Result, Ok, Err, Option, Some, None, ap, refl, subst, sym}
use Rattle.std.specs.FinMap as names
use Rattle.std.specs.Option.{option_map}
use Rattle.std.specs.Prelude.{IfErr, IfOk, IfSome, OnOk}
use Rattle.std.proofs.lemmas.Option.{none-some}
use Rattle.rs_catalog.specs.Definitions.{Definitions, Numbered, table_from}
use Rattle.rs_catalog.specs.Referents.{HeldReferents}
use Rattle.rs_catalog.proofs.StateLaws.{get-tables_from}
use Rattle.rs_disk.specs.Content.{Content}
use Rattle.rs_disk.specs.declared.disk.Disk as disk
use Rattle.rs_dump.specs.Dumped.{FrontOfAll, FrontOfTable, WroteAll}
use Rattle.rs_dump.specs.Shown.{Shown}
use Rattle.rs_dump.specs.States.{CanBeDumpedWhole, IsDumped, IsStateOf}
use Rattle.rs_dump.specs.Stopping.{HasNoTable}
use Rattle.rs_dump.specs.Written.{StopsWriting}
use Rattle.rs_dump.specs.declared.stop.Stop.{Stop}
use Rattle.rs_dump.specs.declared.stop.Stop.TheVariants.{Refused}
use Rattle.rs_dump.proofs.WritingStops.{refused_writing}
use Rattle.rs_facts.specs.Fact.{Name}
use Rattle.rs_facts.specs.Query.{Table}
use Rattle.rs_file_dump.specs.Files.{LacksTable, ShowsFile, StopsDumping, WantsDumping}
use Rattle.rs_file_dump.proofs.Dumps.{IsADump}
use Rattle.rs_file_dump.proofs.Files.{is_state_of, shown_of, shows_its_state}
use Rattle.rs_machine.specs.Lawful.{IsLawful}
use Rattle.rs_machine.specs.State.{State}
use Rattle.rs_refusal.specs.Counts.{Rose}
use Rattle.rs_refusal.specs.declared.refusal.Refusal.{Refusal}
use Rattle.rs_refusal.specs.declared.refusal.Refusal.TheVariants as refusal
use Rattle.rs_store_source.specs.Calls.{OpensState}
use Rattle.rs_store_source.specs.Kept.{StoreState}
use Rattle.rs_store_source.specs.Standing.{Stands}
use Rattle.rs_store_source.proofs.States.{StateIs}
use Rattle.rs_store_source.proofs.Within.{NoneLeftOut, RowsWithin}
use Rattle.rs_store_source.specs.Reads.{WantsReading}

-- ---- reasons

-- what stops what is read of a store
abbrev pub StopsStore : {D : Type 0} → disk.Ghosts D → Stop → StoreState D → StoreState D → Type 0
StopsStore d stop old new = StopsWriting stop ⊎ ((why : Refusal) × (stop ≡ Refused why) × WantsReading d why old new)

abbrev pub StopsOne : {D : Type 0} → disk.Ghosts D → Definitions → Name → Stop → StoreState D → StoreState D → Type 0
StopsOne d definitions name stop old new = StopsStore d stop old new ⊎ ((stop ≡ Refused refusal.NoSuchName) × HasNoTable definitions name)

same_refusal : (one other : Refusal) → Refused one ≡ Refused other → one ≡ other
same_refusal one other same = let are : Refused one ≡ Refused other = same in cc

module _ {D : Type 0} (d : disk.Ghosts D) (stop : Stop) (old new : StoreState D) where
  reading_wanted : StopsStore d stop old new → WantsDumping stop
  reading_wanted (inl writing) = inl writing
  reading_wanted (inr (why, is, inl memory)) = inr (inr (why, is, inl memory))
  reading_wanted (inr (why, is, inr (inl failed))) = inr (inr (why, is, inr (inl failed.0)))
  reading_wanted (inr (why, is, inr (inr damaged))) = inr (inr (why, is, inr (inr (inl damaged.0))))

  -- the disk's failures rose
  rose : StopsStore d stop old new → stop ≡ Refused refusal.Disk → Rose (d.failures old.pager.disk) (d.failures new.pager.disk)
  rose (inl writing) is = absurd (let wrong : refusal.Disk ≡ refusal.OutOfMemory = refused_writing stop refusal.Disk writing is in cc)
  rose (inr (why, refused, inl memory)) is = absurd (let wrong : refusal.OutOfMemory ≡ refusal.Disk = sym memory ∙ same_refusal why refusal.Disk (sym refused ∙ is) in cc)
  rose (inr (why, refused, inr (inl failed))) is = failed.1
  rose (inr (why, refused, inr (inr damaged))) is = absurd (let wrong : refusal.DamagedFile ≡ refusal.Disk = sym damaged.0 ∙ same_refusal why refusal.Disk (sym refused ∙ is) in cc)

  one_wanted : (definitions : Definitions) (name : Name) → StopsOne d definitions name stop old new → WantsDumping stop
  one_wanted definitions name (inl reading) = reading_wanted reading
  one_wanted definitions name (inr missing) = inr (inl missing.0)

  one_rose : (definitions : Definitions) (name : Name) → StopsOne d definitions name stop old new → stop ≡ Refused refusal.Disk → Rose (d.failures old.pager.disk) (d.failures new.pager.disk)
  one_rose definitions name (inl reading) is = rose reading is
  one_rose definitions name (inr missing) is = absurd (let wrong : Refused refusal.NoSuchName ≡ Refused refusal.Disk = sym missing.0 ∙ is in cc)

module _ {D : Type 0} (d : disk.Ghosts D) (old new : StoreState D) where
  pub all_wants : (table : Option (Bor (List ℕ))) (result : Result Bool Stop) → (table ≡ None → IfErr result (λ stop. StopsStore d stop old new))
      → IfSome table (λ name. IfErr result (λ stop. StopsOne d old.catalog name.now stop old new)) → IfErr result WantsDumping
  all_wants table (Ok lacks) all one = tt
  all_wants None (Err stop) all one = reading_wanted d stop old new (all refl)
  all_wants (Some name) (Err stop) all one = one_wanted d stop old new old.catalog name.now one

  pub all_rose : (table : Option (Bor (List ℕ))) (result : Result Bool Stop) → (table ≡ None → IfErr result (λ stop. StopsStore d stop old new))
      → IfSome table (λ name. IfErr result (λ stop. StopsOne d old.catalog name.now stop old new)) → result ≡ Err (Refused refusal.Disk)
      → Rose (d.failures old.pager.disk) (d.failures new.pager.disk)
  all_rose table (Ok lacks) all one is = absurd (let wrong : ◌≡◌ {A = Result Bool Stop} (Ok lacks) (Err (Refused refusal.Disk)) = is in cc)
  all_rose None (Err stop) all one is = rose d stop old new (all refl) (same_stop stop is)
    where
      same_stop : (stop : Stop) → ◌≡◌ {A = Result Bool Stop} (Err stop) (Err (Refused refusal.Disk)) → stop ≡ Refused refusal.Disk
      same_stop stop same = let are : ◌≡◌ {A = Result Bool Stop} (Err stop) (Err (Refused refusal.Disk)) = same in cc
  all_rose (Some name) (Err stop) all one is = one_rose d stop old new old.catalog name.now one (let are : ◌≡◌ {A = Result Bool Stop} (Err stop) (Err (Refused refusal.Disk)) = is in cc)

-- ---- a store that stands in a state

module _ {D : Type 0} (d : disk.Ghosts D) (limit : ℕ) (content : Content) (store new : StoreState D) (opens : OpensState d limit content store)
    (state_is : StateIs d) (left : NoneLeftOut) (rows : RowsWithin) (lawful : IsLawful opens.state) where
  abbrev shown : Shown
  shown = shown_of d store opens.stands.contents

  shows : ShowsFile d store shown
  shows = shows_its_state d store.file.accepted store opens.state opens.stands

  is : IsStateOf store.catalog store.referents shown opens.state
  is = is_state_of d store.file.accepted store opens.state opens.stands state_is left rows lawful

  -- no table of the state has the name
  no_table : (name : Name) → HasNoTable store.catalog name → names.get opens.state.tables name ≡ None
  no_table name (inl none) =
      ap (λ (s : State). names.get s.tables name) is.is ∙ get-tables_from store.catalog is.spans_on name ∙ ap (option_map (table_from store.catalog.routes is.spans_on)) none
  no_table name (inr no_name) = by (names.get opens.state.tables name) refl
    where
      by : (found : Option Table) → names.get opens.state.tables name ≡ found → found ≡ None
      by None at = refl
      by (Some table) at = absurd (no_name (lawful.tables name table at).named)

  -- what stops it is no damage
  reading_stops : (stop : Stop) → StopsStore d stop store new → StopsWriting stop ⊎ (stop ≡ Refused refusal.Disk)
  reading_stops stop (inl writing) = inl writing
  reading_stops stop (inr (why, refused, inl memory)) = inl (inl (refused ∙ ap (λ (w : Refusal). Refused w) memory))
  reading_stops stop (inr (why, refused, inr (inl failed))) = inr (refused ∙ ap (λ (w : Refusal). Refused w) failed.0)
  reading_stops stop (inr (why, refused, inr (inr damaged))) = absurd (damaged.1.none store.file.accepted opens.state opens.stands)

  all_stops : (table : Option Name) (stop : Stop) → StopsStore d stop store new
      → StopsWriting stop ⊎ (stop ≡ Refused refusal.Disk) ⊎ ((stop ≡ Refused refusal.NoSuchName) × LacksTable table opens.state)
  all_stops table stop reading = elim (reading_stops stop reading) [ inl writing ↦ inl writing | inr failed ↦ inr (inl failed) ]

  one_stops : (name : Name) (stop : Stop) → StopsOne d store.catalog name stop store new
      → StopsWriting stop ⊎ (stop ≡ Refused refusal.Disk) ⊎ ((stop ≡ Refused refusal.NoSuchName) × LacksTable (Some name) opens.state)
  one_stops name stop (inl reading) = all_stops (Some name) stop reading
  one_stops name stop (inr missing) = inr (inr (missing.0, record { name = name; wanted = refl; missing = no_table name missing.1 }))

  module _ (omits_rows : Bool) (before after : Option (List ℕ)) where
    pub stops_dumping : (table : Option (Bor (List ℕ))) (result : Result Bool Stop)
        → (table ≡ None → IfErr result (λ stop. StopsStore d stop store new))
        → IfSome table (λ name. IfErr result (λ stop. StopsOne d store.catalog name.now stop store new))
        → (table ≡ None → (shown : Shown) → ShowsFile d store shown → IfErr result (λ stop. FrontOfAll store.catalog store.referents shown omits_rows stop before after))
        → IfSome table (λ name. (shown : Shown) → ShowsFile d store shown → IfErr result (λ stop. FrontOfTable store.catalog shown omits_rows name.now stop before after))
        → IfErr result (λ stop. StopsDumping limit content (option_map (λ t. t.now) table) omits_rows stop before after)
    stops_dumping table (Ok lacks) wants_all wants_one all one = tt
    stops_dumping None (Err stop) wants_all wants_one all one = record {
      state = opens.state;
      stood = opens.stood;
      definitions = store.catalog;
      held = store.referents;
      shown = shown;
      is = is;
      wants = all_stops None stop (wants_all refl);
      all = λ none. all refl shown shows;
      one = tt;
    }
    stops_dumping (Some name) (Err stop) wants_all wants_one all one = record {
      state = opens.state;
      stood = opens.stood;
      definitions = store.catalog;
      held = store.referents;
      shown = shown;
      is = is;
      wants = one_stops name.now stop wants_one;
      all = λ none. absurd (none-some name.now (sym none));
      one = one shown shows;
    }

-- ---- a state that passes

-- what the law says of it
abbrev pub PassesWhole : Type 0
PassesWhole = (definitions : Definitions) (held : Numbered HeldReferents) (shown : Shown) (state : State) (omits_rows lacks : Bool) (before after : Option (List ℕ))
    → IsStateOf definitions held shown state → WroteAll definitions held shown omits_rows lacks before after → CanBeDumpedWhole state → lacks ≡ false

abbrev pub PassesOnly : Type 0
PassesOnly = (definitions : Definitions) (held : Numbered HeldReferents) (shown : Shown) (state : State) (omits_rows lacks : Bool) (before after : Option (List ℕ))
    → IsStateOf definitions held shown state → WroteAll definitions held shown omits_rows lacks before after → lacks ≡ false → CanBeDumpedWhole state

abbrev pub IsOneState : Type 0
IsOneState = (limit most : ℕ) (disk : Content) (one other : State) → Stands limit disk one → Stands most disk other → one ≡ other

module _ {D : Type 0} (d : disk.Ghosts D) (limit : ℕ) (content : Content) (store : StoreState D) (opens : OpensState d limit content store)
    (state_is : StateIs d) (left : NoneLeftOut) (rows : RowsWithin) (lawful : IsLawful opens.state) (one_state : IsOneState)
    (omits_rows : Bool) (before after : Option (List ℕ)) (state : State) (stood : Stands limit content state) where
  abbrev shown_now : Shown
  shown_now = shown_of d store opens.stands.contents

  shows_now : ShowsFile d store shown_now
  shows_now = shows_its_state d store.file.accepted store opens.state opens.stands

  is_now : IsStateOf store.catalog store.referents shown_now opens.state
  is_now = is_state_of d store.file.accepted store opens.state opens.stands state_is left rows lawful

  same : state ≡ opens.state
  same = one_state limit limit content state opens.state stood opens.stood

  none_lacks : PassesWhole → CanBeDumpedWhole state → (lacks : Bool) → WroteAll store.catalog store.referents shown_now omits_rows lacks before after → lacks ≡ false
  none_lacks law can lacks wrote = law store.catalog store.referents shown_now opens.state omits_rows lacks before after is_now wrote (subst CanBeDumpedWhole same can)

  pub lacks_none : PassesWhole → CanBeDumpedWhole state → (result : Result Bool Stop) → ((shown : Shown) → ShowsFile d store shown → IfOk result (λ lacks. WroteAll store.catalog store.referents shown omits_rows lacks before after))
      → IfOk result (λ lacks. lacks ≡ false)
  lacks_none law can (Err stop) wrote = tt
  lacks_none law can (Ok lacks) wrote = none_lacks law can lacks (wrote shown_now shows_now)

  pub none_passes : PassesOnly → (result : Result Bool Stop) → ((shown : Shown) → ShowsFile d store shown → IfOk result (λ lacks. WroteAll store.catalog store.referents shown omits_rows lacks before after))
      → result ≡ Ok false → CanBeDumpedWhole state
  none_passes law (Err stop) wrote done = absurd (let wrong : ◌≡◌ {A = Result Bool Stop} (Err stop) (Ok false) = done in cc)
  none_passes law (Ok lacks) wrote done =
      subst CanBeDumpedWhole (sym same)
      (law store.catalog store.referents shown_now opens.state omits_rows lacks before after is_now (wrote shown_now shows_now)
      (let none : ◌≡◌ {A = Result Bool Stop} (Ok lacks) (Ok false) = done in cc))

  pub dumps_state : PassesWhole → IsADump → CanBeDumpedWhole state → (result : Result Bool Stop) → omits_rows ≡ false
      → ((shown : Shown) → ShowsFile d store shown → IfOk result (λ lacks. WroteAll store.catalog store.referents shown omits_rows lacks before after))
      → OnOk result (IsDumped state false before after)
  dumps_state law dump can (Err stop) with_rows wrote = tt
  dumps_state law dump can (Ok lacks) with_rows wrote =
      let all = wrote shown_now shows_now in
      let whole = subst (λ (l : Bool). WroteAll store.catalog store.referents shown_now omits_rows l before after) (none_lacks law can lacks all) all in
      subst (λ (s : State). IsDumped s false before after) (sym same)
      (dump store.catalog store.referents shown_now opens.state false before after is_now
      (subst (λ (omits : Bool). WroteAll store.catalog store.referents shown_now omits false before after) with_rows whole))

-- ---- as the answer has it

pub in_right : {T : Type 0} (result : Result T Stop) (P Q : Stop → Type 0) → IfErr result Q → IfErr result (λ stop. P stop ⊎ Q stop)
in_right (Ok x) P Q so = tt
in_right (Err stop) P Q so = inr so

pub same_error : (one other : Refusal) → ◌≡◌ {A = Result Bool Stop} (Err (Refused one)) (Err (Refused other)) → one ≡ other
same_error one other same = let are : ◌≡◌ {A = Result Bool Stop} (Err (Refused one)) (Err (Refused other)) = same in cc
