-- What a store keeps while its pager is called, and once it was read anew.
use Rattle.std.specs.Prelude.{OnErr, OnOk}
use Rattle.std.proofs.Common.{◌≡◌, ◌≤◌, ◌∙◌, ℕ, IsTrue, Result, Ok, Err, ap, subst, sym, refl, arith}
use Rattle.rs_catalog.specs.Definitions.{Definitions, Numbered}
use Rattle.rs_catalog.specs.Referents.{HeldReferents}
use Rattle.rs_file.specs.Contents.{Contents, HoldsAll}
use Rattle.rs_file.specs.declared.opened.OpenedFile.{OpenedFile}
use Rattle.rs_disk.specs.Content.{Content}
use Rattle.rs_disk.specs.declared.disk.Disk as disk
use Rattle.rs_file.proofs.Loaded.{same_map}
use Rattle.rs_machine.specs.State.{State}
use Rattle.rs_journal.specs.FilePages.{FilePages}
use Rattle.rs_journal.specs.declared.stage.Stage.TheVariants.{Fresh}
use Rattle.rs_page.specs.declared.file_header.FileHeader.{FileHeader}
use Rattle.rs_pager.specs.Below.{KeepsBelow-trans}
use Rattle.rs_pager.specs.Lasts.{KeepsMap, Lasts}
use Rattle.rs_pager.specs.Maps.{IsKept, IsTied, KeepsBelow, KeepsChanges, KeepsMaps, committed, pager_store, working}
use Rattle.rs_pager.specs.Paged.{Paged}
use Rattle.rs_pager.proofs.Lasting.{below_lasts, goes_on}
use Rattle.rs_pages.specs.PageMap.{PageMap, SamePages}
use Rattle.rs_pages.specs.Lending.{RestsAfter}
use Rattle.rs_pages.proofs.Stores.{SamePages-trans}
use Rattle.rs_refusal.specs.declared.refusal.Refusal.{Refusal}
use Rattle.rs_file_meaning.specs.Standing.{StandsFor}
use Rattle.rs_refusal.specs.declared.refusal.Refusal.TheVariants as refusal
use Rattle.rs_store.specs.Standing.{IsSecondFileOf, Stands, StandWithin}
use Rattle.rs_store.specs.Calls.{KeepsSame, KeepsStore, LeavesDisk, Reopens, Saves}
use Rattle.rs_store.specs.Changing.{StillHolds}
use Rattle.rs_store.specs.Kept.{Keeps, StandsIn, StoreState}
use Rattle.rs_store.specs.Loading.{LoadsState, StandsForNone}
use Rattle.rs_store.proofs.Enduring.{endures-refl, endures-trans, image_gives, read_gives, read_second, stand_within, stands_by}
use Rattle.rs_store.proofs.HeldChanges.{still_later}
use Rattle.rs_store.proofs.Results.{err_with, ok_always}
use Rattle.rs_store.proofs.Same.{FileHoldsOne, SameMeant, SameSays, SameState, fewer_meant, meant_moves, same_accepted, state_moves}

pub pages_back : (one other : PageMap) → SamePages one other → SamePages other one
pages_back one other same = record { fields = sym same.fields; pages = λ n. sym (same.pages n) }

module _ {D : Type 0} (d : disk.Ghosts D) where
  -- ---- pages that are only read

  pub leaves-trans : (a b c : Paged D) → LeavesDisk d a b → LeavesDisk d b c → LeavesDisk d a c
  leaves-trans a b c one other = record {
    tied = λ tied. other.tied (one.tied tied);
    committed = λ tied. SamePages-trans _ _ _ (other.committed (one.tied tied)) (one.committed tied);
    working = λ tied. SamePages-trans _ _ _ (other.working (one.tied tied)) (one.working tied);
    honesty = other.honesty ∙ one.honesty;
    limit = other.limit ∙ one.limit;
    begun = other.begun ∙ one.begun;
    seen = λ honest. other.seen (subst IsTrue (sym one.honesty) honest) ∙ one.seen honest;
    below = KeepsBelow-trans d a b c one.below other.below;
  }

  pub leaves_by_reading : {T : Type 0} (r : Result T Refusal) (was now : Paged D) → RestsAfter (IsTied d) (pager_store d) (KeepsBelow d) r was now → LeavesDisk d was now
  leaves_by_reading r was now rests = record {
    tied = rests.below.tied;
    committed = rests.below.committed;
    working = rests.rests.keeps.pages;
    honesty = rests.below.honesty;
    limit = rests.rests.counts.limit;
    begun = rests.rests.counts.begun;
    seen = rests.below.unwritten;
    below = rests.below;
  }

  -- ---- a store whose pager was called

  abbrev pub store_over : Paged D → OpenedFile → Definitions → Numbered HeldReferents → StoreState D
  store_over p file catalog referents = record { pager = p; file = file; catalog = catalog; referents = referents }

  pub keeps_store-refl : (store : StoreState D) → KeepsStore d store store
  keeps_store-refl store = record { contents = λ contents keeps. keeps; file = refl; catalog = refl; referents = refl; honesty = refl; limit = refl; full = refl; endures = endures-refl d store.pager }

  pub keeps_store-trans : (a b c : StoreState D) → KeepsStore d a b → KeepsStore d b c → KeepsStore d a c
  keeps_store-trans a b c one other = record {
    contents = λ contents keeps. other.contents contents (one.contents contents keeps);
    file = other.file ∙ one.file;
    catalog = other.catalog ∙ one.catalog;
    referents = other.referents ∙ one.referents;
    honesty = other.honesty ∙ one.honesty;
    limit = other.limit ∙ one.limit;
    full = other.full ∙ one.full;
    endures = endures-trans d a.pager b.pager c.pager one.endures other.endures;
  }

  -- both maps of pages stay, whatever is written to the disk, and what lasts, lasts
  pub record Moves (was now : Paged D) : Type 0 where
    pub tied : IsTied d was → IsTied d now
    pub committed_pages : IsTied d was → SamePages (committed d now) (committed d was)
    pub working_pages : IsTied d was → SamePages (working d now) (working d was)
    pub honesty : d.is_honest now.disk ≡ d.is_honest was.disk
    pub limit : now.limit ≡ was.limit
    pub full : now.full_refusals ≡ was.full_refusals
    pub lasts : Lasts d was now

  pub moves_by_maps : (was now : Paged D) → KeepsMaps d was now → Lasts d was now → Moves was now
  moves_by_maps was now keeps lasts = record {
    tied = keeps.tied;
    committed_pages = keeps.committed;
    working_pages = keeps.working;
    honesty = keeps.honesty;
    limit = keeps.limit;
    full = keeps.full;
    lasts = lasts;
  }

  pub moves_by_reading : {T : Type 0} (r : Result T Refusal) (was now : Paged D) → RestsAfter (IsTied d) (pager_store d) (KeepsBelow d) r was now → Moves was now
  moves_by_reading r was now rests = record {
    tied = rests.below.tied;
    committed_pages = rests.below.committed;
    working_pages = rests.rests.keeps.pages;
    honesty = rests.below.honesty;
    limit = rests.rests.counts.limit;
    full = rests.rests.full;
    lasts = below_lasts d was now rests.below;
  }

  pub moves-trans : (a b c : Paged D) → Moves a b → Moves b c → Moves a c
  moves-trans a b c one other = record {
    tied = λ tied. other.tied (one.tied tied);
    committed_pages = λ tied. SamePages-trans _ _ _ (other.committed_pages (one.tied tied)) (one.committed_pages tied);
    working_pages = λ tied. SamePages-trans _ _ _ (other.working_pages (one.tied tied)) (one.working_pages tied);
    honesty = other.honesty ∙ one.honesty;
    limit = other.limit ∙ one.limit;
    full = other.full ∙ one.full;
    lasts = goes_on d a b c one.tied one.committed_pages one.lasts other.lasts;
  }

  -- the working pages are the committed ones still
  pub still_same : (was now : Paged D) → Moves was now → IsTied d was → SamePages (working d was) (committed d was) → SamePages (working d now) (committed d now)
  still_same was now moves tied same =
      SamePages-trans _ _ _ (moves.working_pages tied) (SamePages-trans _ _ _ same (pages_back _ _ (moves.committed_pages tied)))

  module _ (was now : Paged D) (file : OpenedFile) (catalog : Definitions) (referents : Numbered HeldReferents) where
    pub keeps_by_moves : Moves was now → KeepsStore d (store_over was file catalog referents) (store_over now file catalog referents)
    keeps_by_moves moves = record {
      contents = λ contents kept. record {
        tied = moves.tied kept.tied;
        same = still_same was now moves kept.tied kept.same;
        holds = subst (λ (m : PageMap). HoldsAll m contents) (sym (same_map (committed d now) (committed d was) (moves.committed_pages kept.tied))) kept.holds;
        opened = kept.opened;
        memory = kept.memory;
      };
      file = refl;
      catalog = refl;
      referents = refl;
      honesty = moves.honesty;
      limit = moves.limit;
      full = moves.full;
      endures = record { tied = moves.tied; committed = moves.committed_pages; lasts = moves.lasts };
    }

    pub keeps_by_maps : KeepsMaps d was now → Lasts d was now → KeepsStore d (store_over was file catalog referents) (store_over now file catalog referents)
    keeps_by_maps keeps lasts = keeps_by_moves (moves_by_maps was now keeps lasts)

  pub stands_kept : (oldest : ℕ) (old new : StoreState D) (state : State) → KeepsStore d old new → StandsIn d oldest old state → StandsIn d oldest new state
  stands_kept oldest old new state keeps stands = record {
    contents = stands.contents;
    keeps = keeps.contents stands.contents stands.keeps;
    live = stands.live;
    meant = stands.meant;
    is = stands.is;
    views = stands.views;
  }

  -- ---- a file of the state

  -- once a checkpoint was made, the disk stands for the state, which is kept last, and so does each image that a crash may leave
  pub saves_checkpoint : {E : Type 0} (store : StoreState D) (now : Paged D) (r : Result (Unit {0}) E) → KeepsMaps d store.pager now
      → ((pages : FilePages) → IsTied d store.pager → IsKept d store.pager pages → OnOk r (KeepsMap d now (committed d store.pager)))
      → OnOk r (now.under_way.stage ≡ Fresh) → Saves d r store (store_over now store.file store.catalog store.referents)
  saves_checkpoint store now (Err why) maps keeps fresh = record { stands = λ oldest state stands. tt; second = λ oldest state stands. tt; last = λ oldest state stands. tt; durable = λ oldest state stands. tt }
  saves_checkpoint store now (Ok answer) maps keeps fresh =
      let within : store.pager.committed_fields.pages ≤ now.limit = omega (arith, maps.within, ap (λ (f : FileHeader). f.pages) maps.committed_fields) in
      let map = committed d store.pager in
      let kept : IsTied d store.pager → KeepsMap d now map = λ tied. keeps tied.kept tied tied.is_kept in
      record {
        stands = λ oldest state stands.
            stands_by now.limit (d.seen now.disk) map state (read_gives d now map (kept stands.keeps.tied) fresh) (stand_within d oldest store state stands now.limit within);
        second = λ oldest state stands. read_second d now map (kept stands.keeps.tied) fresh now.limit state (stand_within d oldest store state stands now.limit within);
        last = λ oldest state stands. record { pages = map; keeps = kept stands.keeps.tied; stand = stand_within d oldest store state stands now.limit within };
        durable = λ oldest state stands on image left.
            stands_by now.limit image map state (image_gives d now map (kept stands.keeps.tied) fresh on image left) (stand_within d oldest store state stands now.limit within);
      }

  -- ---- a store that was read anew

  module _ (was now : Paged D) (file : OpenedFile) (catalog : Definitions) (referents : Numbered HeldReferents) where
    -- the store over pages that were read, whatever was kept before
    pub keeps_loaded : (tied : IsTied d now) (same : SamePages (working d now) (committed d now)) (loads : LoadsState (working d now) file catalog referents)
        → Keeps d (store_over now file catalog referents) loads.contents
    keeps_loaded tied same loads = record {
      tied = tied;
      same = same;
      holds = subst (λ (m : PageMap). HoldsAll m loads.contents) (same_map (working d now) (committed d now) same) loads.holds;
      opened = loads.opened;
      memory = loads.brings.memory;
    }

    module _ (one_thing : FileHoldsOne) (moves : Moves was now) (first : OpenedFile) (before : Definitions) (held : Numbered HeldReferents) where
      pub keeps_anew : (contents : Contents) → Keeps d (store_over was first before held) contents → LoadsState (working d was) file catalog referents
          → KeepsSame d contents (store_over now file catalog referents)
      keeps_anew contents kept loads =
          let work = same_map (working d now) (working d was) (moves.working_pages kept.tied) in
          let at : LoadsState (working d now) file catalog referents = subst (λ (m : PageMap). LoadsState m file catalog referents) (sym work) loads in
          let same = still_same was now moves kept.tied kept.same in
          record {
            now = at.contents;
            keeps = keeps_loaded (moves.tied kept.tied) same at;
            same = one_thing (working d now) contents at.contents
                (subst (λ (m : PageMap). HoldsAll m contents) (sym (work ∙ same_map (working d was) (committed d was) kept.same)) kept.holds) at.holds;
          }

  module _ (says : SameSays) (meant_alike : SameMeant) (state_alike : SameState) where
    pub stands_anew : (oldest : ℕ) (old new : StoreState D) (state : State) (stands : StandsIn d oldest old state) → KeepsSame d stands.contents new → StandsIn d oldest new state
    stands_anew oldest old new state stands anew = record {
      contents = anew.now;
      keeps = anew.keeps;
      live = omega (arith, stands.live, same_accepted stands.contents anew.now anew.same);
      meant = meant_moves says meant_alike oldest stands.contents anew.now anew.same stands.meant;
      is = state_moves says state_alike stands.contents anew.now state anew.same stands.is;
      views = stands.views;
    }

  -- a store that stands in a state has pages that stand for it
  pub pages_stand : (oldest : ℕ) (store : StoreState D) (state : State) (stands : StandsIn d oldest store state) → StandsFor (working d store.pager) stands.contents state
  pages_stand oldest store state stands = record {
    holds = subst (λ (m : PageMap). HoldsAll m stands.contents) (sym (same_map (working d store.pager) (committed d store.pager) stands.keeps.same)) stands.keeps.holds;
    meant = fewer_meant oldest stands.contents.directory.accepted stands.contents stands.live stands.meant;
    is = stands.is;
    views = stands.views;
  }

  pub not_none : (oldest : ℕ) (store : StoreState D) (state : State) → StandsIn d oldest store state → StandsForNone (working d store.pager) → ⊥
  not_none oldest store state stands none = none.none stands.contents state (pages_stand oldest store state stands)

  -- ---- answers

  pub reopens_err : (why : Refusal) (old new : StoreState D) → KeepsStore d old new → ((oldest : ℕ) (state : State) → StandsIn d oldest old state → why ≡ refusal.DamagedFile → ⊥)
      → StillHolds d old.pager new.pager → Reopens d (Err why) old new
  reopens_err why old new keeps sound holds = record {
    same = λ contents kept. tt;
    state = λ oldest state stands. tt;
    stays = keeps.contents;
    file = keeps.file;
    catalog = keeps.catalog;
    referents = keeps.referents;
    changes = holds;
    sound = λ oldest state stands is. sound oldest state stands cc;
    honesty = keeps.honesty;
    limit = keeps.limit;
    full = keeps.full;
    endures = keeps.endures;
  }

  -- what was kept before is what is read anew
  pub reopens_after : (r : Result (Unit {0}) Refusal) (a b c : StoreState D) → KeepsStore d a b → Reopens d r b c → StillHolds d a.pager b.pager
      → OnErr r (KeepsChanges b.pager c.pager) → Reopens d r a c
  reopens_after r a b c one other holds reads = record {
    same = λ contents kept. other.same contents (one.contents contents kept);
    state = λ oldest state stands. other.state oldest state (stands_kept oldest a b state one stands);
    stays = λ contents kept. other.stays contents (one.contents contents kept);
    file = err_with r (λ (same : c.file ≡ b.file). same ∙ one.file) other.file;
    catalog = err_with r (λ (same : c.catalog ≡ b.catalog). same ∙ one.catalog) other.catalog;
    referents = err_with r (λ (same : c.referents ≡ b.referents). same ∙ one.referents) other.referents;
    changes = err_with r (λ (same : KeepsChanges b.pager c.pager). still_later d a.pager b.pager c.pager holds same) reads;
    sound = λ oldest state stands. other.sound oldest state (stands_kept oldest a b state one stands);
    honesty = other.honesty ∙ one.honesty;
    limit = other.limit ∙ one.limit;
    full = other.full ∙ one.full;
    endures = endures-trans d a.pager b.pager c.pager one.endures other.endures;
  }

  -- a disk that is only read from then on stays saved
  pub saves_after : {E F : Type 0} (r : Result (Unit {0}) F) (a b c : StoreState D) → KeepsStore d a b → Saves d {E = E} (Ok tt) a b → KeepsBelow d b.pager c.pager
      → c.pager.limit ≡ b.pager.limit → Saves d r a c
  saves_after r a b c keeps saves below limit =
      let still : (oldest : ℕ) (state : State) → StandsIn d oldest a state → IsTied d b.pager = λ oldest state stands. (stands_kept oldest a b state keeps stands).keeps.tied in
      record {
        stands = λ oldest state stands.
            ok_always r (subst (λ (content : Content). Stands c.pager.limit content state) (sym (below.unwritten (still oldest state stands).honest))
            (subst (λ (most : ℕ). Stands most (d.seen b.pager.disk) state) (sym limit) (saves.stands oldest state stands)));
        second = λ oldest state stands.
            ok_always r (subst (λ (content : Content). IsSecondFileOf c.pager.limit content state) (sym (below.unwritten (still oldest state stands).honest))
            (subst (λ (most : ℕ). IsSecondFileOf most (d.seen b.pager.disk) state) (sym limit) (saves.second oldest state stands)));
        last = λ oldest state stands.
            let last = saves.last oldest state stands in
            ok_always r (record {
              pages = last.pages;
              keeps = record { pages = last.keeps.pages; is_kept = below.kept last.keeps.pages (still oldest state stands) last.keeps.is_kept; are = last.keeps.are };
              stand = subst (λ (most : ℕ). StandWithin most last.pages state) (sym limit) last.stand;
            });
        durable = λ oldest state stands. ok_always r (λ on image left.
            let before = subst IsTrue below.keeping on in
            let follows = (below.crash before).now image left in
            subst (λ (most : ℕ). Stands most image state) (sym limit)
            (saves.durable oldest state stands before image (subst (d.may_leave b.pager.disk) (sym follows.steps) follows.was_left)));
      }
