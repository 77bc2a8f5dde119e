-- A disk as it was opened.
use Rattle.std.proofs.Common.{◌≡◌, ◌≤◌, ◌∙◌, ℕ, Ok, Err, false, true, inl, inr, subst, sym, arith}
use Rattle.std.proofs.lemmas.Bool.{true≢false}
use Rattle.std.specs.Prelude.{IfOk, Result}
use Rattle.rs_catalog.specs.Definitions.{Definitions, Numbered}
use Rattle.rs_catalog.specs.Referents.{HeldReferents}
use Rattle.rs_file.specs.Contents.{Contents}
use Rattle.rs_file.specs.declared.opened.OpenedFile.{OpenedFile}
use Rattle.rs_disk.specs.Content.{Content}
use Rattle.rs_disk.specs.declared.disk.Disk as disk
use Rattle.rs_file.proofs.Loaded.{same_map}
use Rattle.rs_machine.specs.State.{State, fresh}
use Rattle.rs_page.specs.declared.file_header.TheConstants.{FLAG_OFFSET}
use Rattle.rs_journal.specs.FilePages.{FilePages}
use Rattle.rs_journal.specs.Journal.{Recovers}
use Rattle.rs_journal.specs.Recovery.{Recovered, SaysCount}
use Rattle.rs_pager.specs.Maps.{ArePages, KeepsBelow, committed, working}
use Rattle.rs_pager.proofs.OneMap.{no_both}
use Rattle.rs_pager.proofs.Recovered.{recovered-after}
use Rattle.rs_pager.specs.Opened.{IsFresh, IsOpened}
use Rattle.rs_pager.specs.Paged.{Paged}
use Rattle.rs_pager.specs.Versions.{IsFileOfPages, IsNoFile, StoresFirst}
use Rattle.rs_pages.specs.PageMap.{PageMap, SamePages}
use Rattle.rs_pages.proofs.Stores.{SamePages-trans}
use Rattle.rs_refusal.specs.declared.refusal.Refusal.{Refusal}
use Rattle.rs_file_meaning.specs.Meant.{IsMeant}
use Rattle.rs_file_meaning.specs.Standing.{StandsFor}
use Rattle.rs_refusal.specs.declared.refusal.Refusal.TheVariants as refusal
use Rattle.rs_store.specs.Standing.{IsFileOf, StandWithin}
use Rattle.rs_store.specs.Calls.{IsClosedFirst, IsLeftOpen, IsNoFileOfAny, LeavesDisk, Opens, OpensPages, OpensState}
use Rattle.rs_store.specs.Kept.{StoreState}
use Rattle.rs_store.specs.Loading.{LoadsState, StandsForNone, StandsForSome}
use Rattle.rs_store.specs.declared.loading.Loaded.{Loaded}
use Rattle.rs_store.specs.Making.{HasFresh, IsFreshFile}
use Rattle.rs_store.proofs.NoFile.{no_file_of_any}
use Rattle.rs_store.proofs.Keeping.{keeps_loaded, pages_back, store_over}
use Rattle.rs_store.proofs.Loaded.{stands_for}
use Rattle.rs_store.proofs.OpenedPages.{below_reaches}
use Rattle.rs_store.proofs.Same.{FileHoldsOne, SameMeant, SameSays, SameState, meant_moves, state_moves}

-- what is said of a disk and its maps
abbrev pub DiskHasOneMap : Type 0
DiskHasOneMap = (content : Content) (one other : PageMap) → IsFileOfPages content one → IsFileOfPages content other → SamePages one other

module _ {D : Type 0} (d : disk.Ghosts D) (limit : ℕ) (content : Content) (p : Paged D) (fresh_pager : IsFresh limit p)
    (same : SamePages (working d p) (committed d p)) (opened : IsOpened d content p) where
  -- pages that stand for a state are a file of it
  stand_of : (contents : Contents) (state : State) → StandsFor (working d p) contents state → StandWithin limit (committed d p) state
  stand_of contents state stands = record {
    within = fresh_pager.greatest;
    contents = contents;
    stands = subst (λ (m : PageMap). StandsFor m contents state) (same_map (working d p) (committed d p) same) stands;
  }

  file_of : (contents : Contents) (state : State) → StandsFor (working d p) contents state → IsFileOf limit content state
  file_of contents state stands = record { pages = committed d p; stores = opened.stores; stand = stand_of contents state stands }

  -- one whose page 0 the disk lacks is of version 1
  pub lacks_first : p.is_header_changed ≡ true → StoresFirst content (committed d p)
  lacks_first lacks = elim opened.stores [
    | inl gives ↦ absurd (true≢false (sym lacks ∙ (opened.second gives).0))
    | inr first ↦ first
  ]

  pub left_open : p.is_header_changed ≡ true → StandsForSome (working d p) → (content.byte FLAG_OFFSET ≡ 0 → ⊥) → IsLeftOpen limit content
  unfolding file_of
  left_open lacks some isnt = record { state = some.state; file = file_of some.contents some.state some.stands; first = lacks_first lacks; not_closed = isnt }

  pub closed_first : p.is_header_changed ≡ true → StandsForSome (working d p) → content.byte FLAG_OFFSET ≡ 0 → IsClosedFirst limit content
  unfolding file_of
  closed_first lacks some closed = record { state = some.state; file = file_of some.contents some.state some.stands; first = lacks_first lacks; closed = closed }

  -- pages that stand for none are no file
  pub no_file : DiskHasOneMap → StandsForNone (working d p) → IsNoFileOfAny limit content
  no_file one_map none = record {
    none = λ state is.
        let pages : is.pages ≡ working d p = same_map is.pages (working d p)
        (SamePages-trans _ _ _ (one_map content is.pages (committed d p) is.stores opened.stores) (pages_back _ _ same)) in
        none.none is.stand.contents state (subst (λ (m : PageMap). StandsFor m is.stand.contents state) pages is.stand.stands);
  }

  -- the store that was opened: the pages kept last are the committed ones
  pub opens_state : (now : Paged D) (file : OpenedFile) (catalog : Definitions) (referents : Numbered HeldReferents) → OpensPages d p now
      → LoadsState (working d p) file catalog referents → (p.is_header_changed ≡ true → content.byte FLAG_OFFSET ≡ 0)
      → OpensState d limit content (store_over d now file catalog referents)
  unfolding file_of
  opens_state now file catalog referents opens loads closed =
      let work = same_map (working d now) (working d p) (opens.working opened.tied) in
      let at : LoadsState (working d now) file catalog referents = subst (λ (m : PageMap). LoadsState m file catalog referents) (sym work) loads in
      let alike : SamePages (working d now) (committed d now) =
      SamePages-trans _ _ _ (opens.working opened.tied) (SamePages-trans _ _ _ same (pages_back _ _ (opens.committed opened.tied))) in
      let stood : StandsFor (working d p) at.contents at.brings.state =
      subst (λ (m : PageMap). StandsFor m at.contents at.brings.state) work (stands_for (working d now) file catalog referents at) in
      record {
        state = at.brings.state;
        stood = record { file = file_of at.contents at.brings.state stood; closed = λ first. closed (opened.first first) };
        stands = record {
          contents = at.contents;
          keeps = keeps_loaded d p now file catalog referents (opens.tied opened.tied) alike at;
          live = omega (arith, at.opened.accepted);
          meant = subst (λ (level : ℕ). IsMeant level at.contents) at.opened.accepted at.brings.meant;
          is = at.brings.is;
          views = at.brings.views;
        };
        last = record {
          pages = committed d p;
          keeps = opens.kept opened.tied (λ lacks. elim opened.stores [
            | inl gives ↦ (opened.second gives).1
            | inr first ↦ absurd (true≢false (sym (opened.first first) ∙ lacks))
          ]);
          stand = subst (λ (most : ℕ). StandWithin most (committed d p) at.brings.state) (sym (opens.limit ∙ fresh_pager.limit)) (stand_of at.contents at.brings.state stood);
        };
      }

-- ---- what recovery left is left still

module _ {D : Type 0} (d : disk.Ghosts D) (old : D) (first now : Paged D) (result : Result (StoreState D) (D × Refusal)) (opened : IsOpened d (d.seen old) first)
    (read : first.is_header_changed ≡ false → KeepsBelow d first now) (keeping : d.keeps_crashes first.disk ≡ d.keeps_crashes old)
    (recovers : (pages : FilePages) → SaysCount pages → Recovers (d.seen old) pages → Recovered d {T = Paged D} {E = D × Refusal} pages (Ok first) old first.disk) where
  -- a file that gives pages of version 2 is one of version 2
  has_second : (map : PageMap) (pages : FilePages) → ArePages map pages → Recovers (d.seen old) pages → first.is_header_changed ≡ false
  has_second map pages are gives = elim opened.stores [
    | inl second ↦ (opened.second second).0
    | inr one ↦ absurd (no_both (d.seen old) map (committed d first) (record { pages = pages; recovers = gives; are = are }) one)
  ]

  pub still_recovered : (map : PageMap) (pages : FilePages) → ArePages map pages → Recovers (d.seen old) pages → Recovered d {T = StoreState D} {E = D × Refusal} pages result old now.disk
  still_recovered map pages are gives =
      recovered-after d {T = Paged D} {E = D × Refusal} {T' = StoreState D} {E' = D × Refusal} pages first result old first.disk now.disk keeping (recovers pages are.says gives)
      (below_reaches d first now (read (has_second map pages are gives)))

-- ---- answers of opening

module _ {D : Type 0} (d : disk.Ghosts D) (limit : ℕ) (old : D) where
  pub opens_ok : (store : StoreState D) → OpensState d limit (d.seen old) store
      → ((map : PageMap) (pages : FilePages) → ArePages map pages → Recovers (d.seen old) pages → Recovered d {T = StoreState D} {E = D × Refusal} pages (Ok store) old store.pager.disk)
      → Opens d limit old (Ok store)
  opens_ok store opens recovers = record { opens = opens; damaged = tt; left_open = tt; recovers = recovers }

  -- a disk that has no pages
  pub opens_none : (back : D) (why : Refusal) → (why ≡ refusal.FileNotClosed → ⊥) → (why ≡ refusal.DamagedFile → IsNoFile (d.seen old) limit)
      → ((map : PageMap) (pages : FilePages) → ArePages map pages → Recovers (d.seen old) pages → Recovered d {T = StoreState D} {E = D × Refusal} pages (Err (back, why)) old back)
      → Opens d limit old (Err (back, why))
  opens_none back why closed damaged recovers = record {
    opens = tt;
    damaged = λ is. no_file_of_any (d.seen old) limit (damaged is);
    left_open = λ is. absurd (closed is);
    recovers = recovers;
  }

  -- a disk whose pages were looked at
  pub opens_err : (one_map : DiskHasOneMap) (p : Paged D) (back : D) (why : Refusal) → IsFresh limit p → SamePages (working d p) (committed d p)
      → IsOpened d (d.seen old) p
      → (why ≡ refusal.DamagedFile → StandsForNone (working d p))
      → (why ≡ refusal.FileNotClosed → (p.is_header_changed ≡ true) × StandsForSome (working d p) × ((d.seen old).byte FLAG_OFFSET ≡ 0 → ⊥))
      → ((map : PageMap) (pages : FilePages) → ArePages map pages → Recovers (d.seen old) pages → Recovered d {T = StoreState D} {E = D × Refusal} pages (Err (back, why)) old back)
      → Opens d limit old (Err (back, why))
  opens_err one_map p back why first same opened damaged unclosed recovers = record {
    opens = tt;
    damaged = λ is. no_file d limit (d.seen old) p first same opened one_map (damaged is);
    left_open = λ is. left_open d limit (d.seen old) p first same opened (unclosed is).0 (unclosed is).1 (unclosed is).2;
    recovers = recovers;
  }

-- ---- a file that was made

module _ {D : Type 0} (d : disk.Ghosts D) (one_thing : FileHoldsOne) (says : SameSays) (meant_alike : SameMeant) (state_alike : SameState) (p : Paged D) (made : IsFreshFile d p) where
  pub has_fresh : (now : Paged D) (file : OpenedFile) (catalog : Definitions) (referents : Numbered HeldReferents) → LeavesDisk d p now
      → LoadsState (working d p) file catalog referents → HasFresh d now file catalog referents
  has_fresh now file catalog referents leaves loads =
      let work = same_map (working d now) (working d p) (leaves.working made.tied) in
      let at : LoadsState (working d now) file catalog referents = subst (λ (m : PageMap). LoadsState m file catalog referents) (sym work) loads in
      let alike : SamePages (working d now) (committed d now) =
      SamePages-trans _ _ _ (leaves.working made.tied) (SamePages-trans _ _ _ made.same (pages_back _ _ (leaves.committed made.tied))) in
      let stood : StandsFor (working d now) made.contents fresh =
      subst (λ (m : PageMap). StandsFor m made.contents fresh) (sym (work ∙ same_map (working d p) (committed d p) made.same)) made.stands in
      let same = one_thing (working d now) made.contents at.contents stood.holds at.holds in
      record {
        stands = record {
          contents = at.contents;
          keeps = keeps_loaded d p now file catalog referents (leaves.tied made.tied) alike at;
          live = omega arith;
          meant = subst (λ (level : ℕ). IsMeant level at.contents) made.first (meant_moves says meant_alike made.contents.directory.accepted made.contents at.contents same stood.meant);
          is = state_moves says state_alike made.contents at.contents fresh same stood.is;
          views = stood.views;
        };
        last = record {
          pages = committed d p;
          keeps = record { pages = made.kept.pages; is_kept = leaves.below.kept made.kept.pages made.tied made.kept.is_kept; are = made.kept.are };
          stand = record { within = omega (arith, made.within, leaves.limit); contents = made.contents; stands = made.stands };
        };
      }

  pub fresh_loaded : (now : Paged D) (r : Result Loaded Refusal) → LeavesDisk d p now
      → IfOk r (λ loaded. LoadsState (working d p) loaded.file loaded.catalog loaded.referents)
      → IfOk r (λ loaded. HasFresh d now loaded.file loaded.catalog loaded.referents)
  fresh_loaded now (Ok loaded) leaves loads = has_fresh now loaded.file loaded.catalog loaded.referents leaves loads
  fresh_loaded now (Err why) leaves loads = tt

  -- it isn't found damaged
  pub fresh_is_found : StandsForNone (working d p) → ⊥
  fresh_is_found none =
      none.none made.contents fresh (subst (λ (m : PageMap). StandsFor m made.contents fresh) (sym (same_map (working d p) (committed d p) made.same)) made.stands)
