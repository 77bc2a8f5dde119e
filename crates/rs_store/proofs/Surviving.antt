-- What opening leaves of a file, and what a crash meanwhile leaves of it.
use Rattle.std.proofs.Common.{◌≡◌, ◌≢◌, ◌∙◌, ◌⊎◌, ℕ, IsTrue, Ok, Err, false, true, inl, inr, refl, subst, sym}
use Rattle.std.specs.Prelude.{Result}
use Rattle.rs_disk.specs.Content.{Content}
use Rattle.rs_disk.specs.Crash.{Same}
use Rattle.rs_disk.specs.Reaches.{Reaches}
use Rattle.rs_disk.specs.declared.disk.Disk as disk
use Rattle.rs_disk.proofs.Reaching.{same-then}
use Rattle.rs_checkpoint.proofs.Kept.{image_gives, read_gives}
use Rattle.rs_journal.specs.FilePages.{FilePages}
use Rattle.rs_journal.specs.Journal.{Recovers}
use Rattle.rs_journal.specs.Recovery.{Recovered, SaysCount}
use Rattle.rs_journal.specs.Stages.{IsQuiet}
use Rattle.rs_journal.specs.declared.limits.TheConstants.{GATE, OPEN}
use Rattle.rs_journal.specs.declared.stage.Stage.TheVariants.{Fresh}
use Rattle.rs_journal.proofs.Staging.{quiet-gives}
use Rattle.rs_machine.specs.State.{State}
use Rattle.rs_page.specs.declared.file_header.TheConstants.{FLAG_OFFSET}
use Rattle.rs_pager.specs.Lasts.{GivesMap}
use Rattle.rs_pager.specs.Maps.{ArePages, IsKept, IsTied, KeepsBelow, committed, working}
use Rattle.rs_pager.specs.Opened.{IsFresh, IsOpened}
use Rattle.rs_pager.specs.Paged.{Paged}
use Rattle.rs_pager.specs.Versions.{StoresFirst}
use Rattle.rs_pager.proofs.FirstKept.{first_is_kept, flag_is_kept}
use Rattle.rs_pager.proofs.Lasting.{gives_same}
use Rattle.rs_pager.proofs.Versions.{first-shut}
use Rattle.rs_pages.specs.PageMap.{PageMap, SamePages}
use Rattle.rs_refusal.specs.declared.refusal.Refusal.{Refusal}
use Rattle.rs_refusal.specs.declared.refusal.Refusal.TheVariants as refusal
use Rattle.rs_store.specs.Calls.{IsClosedFirst, PreservesFile}
use Rattle.rs_store.specs.Kept.{StoreState}
use Rattle.rs_store.specs.Lasting.{Endures, StaysFileOf}
use Rattle.rs_store.specs.Loading.{StandsForSome}
use Rattle.rs_store.specs.Standing.{Stands, StandWithin}
use Rattle.rs_store.proofs.Enduring.{stands_by}
use Rattle.rs_store.proofs.Files.{DiskHasOneMap, closed_first, still_recovered}
use Rattle.rs_store.proofs.OpenedPages.{below_reaches}

-- a content with the pages of a closed file of version 1, and a closed gate, stands for what that file stands for
quiet_stands : (limit : ℕ) (content image : Content) (kept : FilePages) (map : PageMap) (state : State) → SaysCount kept → IsQuiet kept content → IsQuiet kept image
    → StoresFirst content map → content.byte FLAG_OFFSET ≡ 0 → StandWithin limit map state → Stands limit image state
quiet_stands limit content image kept map state says was is first closed stand = record {
  file = record { pages = map; stores = inr (first_is_kept content image kept map says was is first); stand = stand };
  closed = λ _. flag_is_kept content image kept map says was is first ∙ closed;
}

module _ {D : Type 0} (d : disk.Ghosts D) (limit : ℕ) (state : State) (old : D) where
  -- a disk that was only read
  pub stays_by_reading : (new : D) → IsTrue (d.is_honest old) → Stands limit (d.seen old) state → Reaches d Same old new → StaysFileOf d limit state old new
  stays_by_reading new honest stands reaches = record {
    stands = subst (λ (content : Content). Stands limit content state) (sym (reaches.reads honest)) stands;
    meanwhile = λ on start image left. elim ((reaches.images on).meanwhile start image left) [
      | inl before ↦ inl before
      | inr follows ↦ inr (inl (subst (d.may_leave old) (sym follows.steps) follows.was_left))
    ];
    images = λ on image left. let follows = (reaches.images on).now image left in inl (subst (d.may_leave old) (sym follows.steps) follows.was_left);
  }

  -- a file of version 2 that was recovered
  module _ (new : D) (map : PageMap) (pages : FilePages) (are : ArePages map pages) (stand : StandWithin limit map state) where
    given_by : (image : Content) → Recovers image pages → Stands limit image state
    given_by image gives = stands_by limit image map state (record { pages = pages; recovers = gives; are = are }) stand

    image_recovered : {T E : Type 0} (result : Result T E) → d.keeps_crashes new ≡ d.keeps_crashes old → Recovered d pages result old new → IsTrue (d.keeps_crashes old) → (image : Content)
        → d.may_leave new image → d.may_leave old image ⊎ Stands limit image state
    image_recovered (Ok value) keeping recovered on image left =
        inr (given_by image (quiet-gives pages image (recovered.done.images (subst IsTrue (sym keeping) on) image left)))
    image_recovered (Err why) keeping recovered on image left = elim (recovered.images on) [
      | inl gives ↦ inr (given_by image (gives image left))
      | inr was ↦ inl (was image left)
    ]

    pub stays_recovered : {T E : Type 0} (result : Result T E) → d.keeps_crashes new ≡ d.keeps_crashes old → Recovered d pages result old new → StaysFileOf d limit state old new
    stays_recovered result keeping recovered = record {
      stands = given_by (d.seen new) recovered.reads;
      meanwhile = λ on start image left. elim ((recovered.meanwhile on).each start image left) [
        | inl before ↦ inl before
        | inr (inl gives) ↦ inr (inr (given_by image gives))
        | inr (inr was) ↦ inr (inl was)
      ];
      images = image_recovered result keeping recovered;
    }

  -- a closed file of version 1, which was read and perhaps made one of version 2
  module _ (first now : Paged D) (map : PageMap) (honest : IsTrue (d.is_honest old)) (reaches : Reaches d Same old first.disk) (tied : IsTied d first) (fresh : first.under_way.stage ≡ Fresh)
      (same : SamePages (committed d first) map) (stores : StoresFirst (d.seen old) map) (closed : (d.seen old).byte FLAG_OFFSET ≡ 0) (stand : StandWithin limit map state)
      (endures : Endures d first now) where
    was : IsQuiet tied.kept (d.seen old)
    was = subst (IsQuiet tied.kept) (reaches.reads honest) (tied.is_kept.quiet fresh).reads

    quiet : (image : Content) → IsQuiet tied.kept image → Stands limit image state
    quiet image is = quiet_stands limit (d.seen old) image tied.kept map state tied.is_kept.says was is stores closed stand

    given : (image : Content) → GivesMap (committed d first) image → Stands limit image state
    given image gives = stands_by limit image map state (gives_same (committed d first) map image same gives) stand

    given_now : (image : Content) → GivesMap (committed d now) image → Stands limit image state
    given_now image gives = given image (gives_same (committed d now) (committed d first) image (endures.committed tied) gives)

    -- what holds the pages that are kept now
    left_now : (image : Content) → ((kept : FilePages) → IsKept d now kept → IsQuiet kept image ⊎ GivesMap (committed d now) image) → Stands limit image state
    left_now image gives_one = elim (endures.lasts.next tied.kept tied tied.is_kept) [
      | inl still ↦ elim (gives_one tied.kept still) [
        | inl is ↦ quiet image is
        | inr gives ↦ given_now image gives
      ]
      | inr kept ↦ elim (gives_one kept.pages kept.is_kept) [
        | inl is ↦ given image (record { pages = kept.pages; recovers = quiet-gives kept.pages image is; are = kept.are })
        | inr gives ↦ given_now image gives
      ]
    ]

    meanwhile : IsTrue (d.keeps_crashes old) → (start : D) (image : Content) → d.left_since start now.disk image
        → d.left_since start old image ⊎ (d.may_leave old image ⊎ Stands limit image state)
    meanwhile on start image left =
        elim (endures.lasts.meanwhile tied.kept tied tied.is_kept (subst IsTrue (sym reaches.keeping) on) start image left) [
          | inl before ↦ elim ((reaches.images on).meanwhile start image before) [
            | inl earlier ↦ inl earlier
            | inr follows ↦ inr (inl (subst (d.may_leave old) (sym follows.steps) follows.was_left))
          ]
          | inr (inl is) ↦ inr (inr (quiet image is))
          | inr (inr gives) ↦ inr (inr (given image gives))
        ]

    pub stays_raised : StaysFileOf d limit state old now.disk
    stays_raised = record {
      stands = left_now (d.seen now.disk) (λ kept is. read_gives d now kept is);
      meanwhile = meanwhile;
      images = λ on image left. inr (left_now image
          (λ kept is. image_gives d now kept is (subst IsTrue (sym (endures.lasts.keeping ∙ reaches.keeping)) on) image left));
    }

-- ---- answers of opening

module _ {D : Type 0} (d : disk.Ghosts D) (limit : ℕ) (old : D) (honest : IsTrue (d.is_honest old)) where
  -- pages of version 2 are recovered
  abbrev pub RecoversPages : {T E : Type 0} → Result T E → D → Type 0
  RecoversPages {T} {E} result new = (pages : FilePages) → SaysCount pages → Recovers (d.seen old) pages → Recovered d {T = T} {E = E} pages result old new

  -- where the gate is not open the disk is only read
  abbrev pub ReadsShut : D → Type 0
  ReadsShut new = (d.seen old).byte GATE ≢ OPEN → Reaches d Same old new

  -- where no pager was made
  pub preserves_none : (back : D) (why : Refusal) → d.keeps_crashes back ≡ d.keeps_crashes old → (why ≢ refusal.Disk → Reaches d Same old back) → ReadsShut back
      → RecoversPages {T = Paged D} {E = D × Refusal} (Err (back, why)) back → PreservesFile d limit old (Err (back, why))
  preserves_none back why keeping alone shut recovers = record {
    stays = λ state stands. elim stands.file.stores as (λ stores. stands.file.stores ≡ stores → StaysFileOf d limit state old back) [
      | inl gives ↦ λ _. stays_recovered d limit state old back stands.file.pages gives.pages gives.are stands.file.stand {T = Paged D} {E = D × Refusal} (Err (back, why)) keeping
          (recovers gives.pages gives.are.says gives.recovers)
      | inr first ↦ λ _. stays_by_reading d limit state old back honest stands (shut (first-shut (d.seen old) stands.file.pages.fields first.header))
    ] refl;
    shut = λ closed none. shut closed;
    no_file = λ none other. alone other;
  }

  -- where a pager was made, whose pages were read, and those of a closed file of version 1 perhaps made the file's
  module _ (first now : Paged D) (fresh : IsFresh limit first) (same : SamePages (working d first) (committed d first)) (opened : IsOpened d (d.seen old) first)
      (read : first.is_header_changed ≡ false → KeepsBelow d first now) (endures : Endures d first now) (keeping : d.keeps_crashes first.disk ≡ d.keeps_crashes old) (shut : ReadsShut first.disk)
      (recovers : RecoversPages {T = Paged D} {E = D × Refusal} (Ok first) first.disk) (one_map : DiskHasOneMap)
      (unclosed : KeepsBelow d first now ⊎ ((first.is_header_changed ≡ true) × StandsForSome (working d first) × ((d.seen first.disk).byte FLAG_OFFSET ≡ 0))) where
    stays_after : (result : Result (StoreState D) (D × Refusal)) (state : State) → Stands limit (d.seen old) state → StaysFileOf d limit state old now.disk
    stays_after result state stands = elim stands.file.stores as (λ stores. stands.file.stores ≡ stores → StaysFileOf d limit state old now.disk) [
      | inl gives ↦ λ _. stays_recovered d limit state old now.disk stands.file.pages gives.pages gives.are stands.file.stand result (endures.lasts.keeping ∙ keeping)
          (still_recovered d old first now result opened read keeping recovers stands.file.pages gives.pages gives.are gives.recovers)
      | inr one ↦ λ _. stays_raised d limit state old first now stands.file.pages honest (shut (first-shut (d.seen old) stands.file.pages.fields one.header)) opened.tied fresh.fresh
          (one_map (d.seen old) (committed d first) stands.file.pages opened.stores (inr one)) one (stands.closed one) stands.file.stand endures
    ] refl

    shut_after : (d.seen old).byte GATE ≢ OPEN → (IsClosedFirst limit (d.seen old) → ⊥) → Reaches d Same old now.disk
    shut_after closed none = elim unclosed [
      | inl below ↦ same-then d old first.disk now.disk (shut closed) (below_reaches d first now below)
      | inr raised ↦ absurd (none (closed_first d limit (d.seen old) first fresh same opened raised.0 raised.1
          (subst (λ (content : Content). content.byte FLAG_OFFSET ≡ 0) ((shut closed).reads honest) raised.2)))
    ]

    pub preserves_opened : (store : StoreState D) → store.pager ≡ now → PreservesFile d limit old (Ok store)
    preserves_opened store over = record {
      stays = λ state stands. subst (λ (p : Paged D). StaysFileOf d limit state old p.disk) (sym over) (stays_after (Ok store) state stands);
      shut = λ closed none. subst (λ (p : Paged D). Reaches d Same old p.disk) (sym over) (shut_after closed none);
      no_file = λ none. tt;
    }

    pub preserves_refused : (back : D) (why : Refusal) → back ≡ now.disk → PreservesFile d limit old (Err (back, why))
    preserves_refused back why at = record {
      stays = λ state stands. subst (λ (disk : D). StaysFileOf d limit state old disk) (sym at) (stays_after (Err (back, why)) state stands);
      shut = λ closed none. subst (λ (disk : D). Reaches d Same old disk) (sym at) (shut_after closed none);
      no_file = λ none other. absurd (none.none (committed d first) opened.stores fresh.least fresh.greatest);
    }
