-- What images give of a pager, and what a checkpoint keeps.
use Rattle.std.proofs.Common.{◌≡◌, ◌∙◌, ◌⊎◌, ◌≤◌, ℕ, IsTrue, inl, inr, refl, subst, sym, Result, Ok, Err, arith}
use Rattle.std.specs.Prelude.{◌<◌, ◌≢◌, OnErr, OnOk, IsSome}
use Rattle.rs_disk.specs.Content.{Content}
use Rattle.rs_disk.specs.declared.disk.Disk as disk
use Rattle.rs_journal.proofs.Advancing.{every-less}
use Rattle.rs_journal.proofs.Staging.{quiet-gives, stage-gives}
use Rattle.rs_journal.specs.FilePages.{FilePages}
use Rattle.rs_journal.specs.Journal.{Journal, MakesPages, Recovers}
use Rattle.rs_journal.specs.Stages.{EveryImage, GivesFrom, IsQuiet, StageImage}
use Rattle.rs_journal.specs.declared.stage.Stage.{Stage}
use Rattle.rs_journal.specs.declared.stage.Stage.TheVariants.{Fresh, Gate, Home, Closing}
use Rattle.rs_pager.specs.Lasts.{Checkpoints, GivesMap, KeepsMap, Lasts}
use Rattle.rs_pages.specs.PageMap.{PageMap}
use Rattle.rs_pager.specs.Maps.{CarriesOn, HoldsNoChange, IsKept, IsTied, committed, pager_journal}
use Rattle.rs_pager.specs.Paged.{Paged}
use Rattle.rs_checkpoint.specs.Crashes.{KeepsCommitted, LeavesKept, Migrates}

-- ---- stages

stage_cases : (stage : Stage) → (stage ≡ Fresh) ⊎ (stage ≢ Fresh)
stage_cases Fresh = inl refl
stage_cases Gate = inr (λ is. let wrong : Gate ≡ Fresh = is in cc)
stage_cases Home = inr (λ is. let wrong : Home ≡ Fresh = is in cc)
stage_cases Closing = inr (λ is. let wrong : Closing ≡ Fresh = is in cc)

-- what a stage gives is one of the two
either : (stage : Stage) (kept checkpoint : FilePages) (image : Content) → GivesFrom stage kept checkpoint image → IsQuiet kept image ⊎ Recovers image checkpoint
either Fresh kept checkpoint image gives = gives
either Gate kept checkpoint image gives = gives
either Home kept checkpoint image gives = inr gives
either Closing kept checkpoint image gives = inr gives

-- the checkpoint's pages are made of themselves too
makes_itself : (journal : Journal) (kept checkpoint : FilePages) → MakesPages journal kept checkpoint → MakesPages journal checkpoint checkpoint
makes_itself journal kept checkpoint makes = record {
  carries = makes.carries;
  some_kept = makes.carries.some;
  after_kept = makes.after;
  after = makes.after;
  others = λ i lt own apart. (lt, refl);
  no_copy = λ none. omega arith;
}

-- a stage that is late is not the first
late_is_going : (stage : Stage) → (stage ≡ Home) ⊎ (stage ≡ Closing) → stage ≢ Fresh
late_is_going stage (inl home) fresh = let wrong : Home ≡ Fresh = sym home ∙ fresh in cc
late_is_going stage (inr closing) fresh = let wrong : Closing ≡ Fresh = sym closing ∙ fresh in cc

-- an image of a late stage is one whatever was kept
late_image : (stage : Stage) (kept checkpoint : FilePages) (journal : Journal) → (stage ≡ Home) ⊎ (stage ≡ Closing) → (image : Content)
    → StageImage stage kept journal checkpoint image → StageImage stage checkpoint journal checkpoint image
late_image Fresh kept checkpoint journal late image is = absurd (late_is_going Fresh late refl)
late_image Gate kept checkpoint journal (inl home) image is = let wrong : Gate ≡ Home = home in cc
late_image Gate kept checkpoint journal (inr closing) image is = let wrong : Gate ≡ Closing = closing in cc
late_image Home kept checkpoint journal late image is = is
late_image Closing kept checkpoint journal late image is = is

no_more : (count pages : ℕ) → count ≡ pages → count ≤ pages
no_more count pages same = omega (arith, same)

none_between : (number count pages : ℕ) → count ≡ pages → count ≤ number → number < pages → ⊥
none_between number count pages same from below = omega (arith, same, from, below)

module _ {D : Type 0} (d : disk.Ghosts D) where
  -- ---- images

  pub quiet_image : (p : Paged D) (kept : FilePages) → IsKept d p kept → p.under_way.stage ≡ Fresh → IsTrue (d.keeps_crashes p.disk) → (image : Content)
      → d.may_leave p.disk image → IsQuiet kept image
  quiet_image p kept is fresh on image left = (is.quiet fresh).images on image left

  -- A content of which all holds that holds of every image has the pages kept last, or gives the committed ones.
  pub kept_gives : (p : Paged D) (kept : FilePages) → IsKept d p kept → (content : Content) → ((P : Content → Type 0) → EveryImage d P p.disk → P content)
      → IsQuiet kept content ⊎ GivesMap (committed d p) content
  kept_gives p kept is content each = elim (stage_cases p.under_way.stage) [
    | inl fresh ↦ inl (each (IsQuiet kept) (is.quiet fresh))
    | inr going ↦
        let on_way = is.under_way going in
        elim (either p.under_way.stage kept on_way.checkpoint content
        (stage-gives p.under_way.stage kept (pager_journal d p) on_way.checkpoint content on_way.makes (each _ on_way.every))) [
          | inl gives ↦ inl gives
          | inr gives ↦ inr (record { pages = on_way.checkpoint; recovers = gives; are = on_way.are })
        ]
  ]

  pub image_gives : (p : Paged D) (kept : FilePages) → IsKept d p kept → IsTrue (d.keeps_crashes p.disk) → (image : Content) → d.may_leave p.disk image
      → IsQuiet kept image ⊎ GivesMap (committed d p) image
  image_gives p kept is on image left = kept_gives p kept is image (λ P every. every.images on image left)

  -- and so does a read
  pub read_gives : (p : Paged D) (kept : FilePages) → IsKept d p kept → IsQuiet kept (d.seen p.disk) ⊎ GivesMap (committed d p) (d.seen p.disk)
  read_gives p kept is = kept_gives p kept is (d.seen p.disk) (λ P every. every.reads)

  -- ---- from `Home` on

  pub kept_from_home : (p : Paged D) → IsTied d p → (p.under_way.stage ≡ Home) ⊎ (p.under_way.stage ≡ Closing) → KeepsMap d p (committed d p)
  kept_from_home p tied late =
      let on_way = tied.is_kept.under_way (late_is_going p.under_way.stage late) in
      record {
        pages = on_way.checkpoint;
        is_kept = record {
          says = on_way.are.says;
          before = no_more on_way.checkpoint.count p.committed_fields.pages on_way.are.counts;
          filled = λ number from below. absurd (none_between number on_way.checkpoint.count p.committed_fields.pages on_way.are.counts from below);
          quiet = λ fresh. absurd (late_is_going p.under_way.stage late fresh);
          under_way = λ _. record {
            checkpoint = on_way.checkpoint;
            lists = on_way.lists;
            makes = makes_itself (pager_journal d p) tied.kept on_way.checkpoint on_way.makes;
            are = on_way.are;
            every = every-less d (StageImage p.under_way.stage tied.kept (pager_journal d p) on_way.checkpoint)
                (StageImage p.under_way.stage on_way.checkpoint (pager_journal d p) on_way.checkpoint) p.disk
                (late_image p.under_way.stage tied.kept on_way.checkpoint (pager_journal d p) late) on_way.every;
          };
        };
        are = on_way.are;
      }

  -- ---- a call

  pub leaves_kept : (old new : Paged D)
      → (IsTrue (d.keeps_crashes old.disk) → (image : Content) → d.left_since old.disk old.disk image → d.may_leave old.disk image) → Lasts d old new
      → LeavesKept d old new
  leaves_kept old new only lasts = record {
    either = λ kept tied is on image left. elim (lasts.meanwhile kept tied is on old.disk image left) [
      | inl before ↦ image_gives old kept is on image (only on image before)
      | inr gives ↦ gives
    ];
  }

  -- where no checkpoint is under way, each image gives the map that is kept
  kept_images : (p : Paged D) (map : PageMap) → KeepsMap d p map → p.under_way.stage ≡ Fresh → IsTrue (d.keeps_crashes p.disk) → (image : Content)
      → d.may_leave p.disk image → GivesMap map image
  kept_images p map keeps fresh on image left = record { pages = keeps.pages; recovers = quiet-gives keeps.pages image (quiet_image p keeps.pages keeps.is_kept fresh on image left); are = keeps.are }

  kept_read : (p : Paged D) (map : PageMap) → KeepsMap d p map → p.under_way.stage ≡ Fresh → GivesMap map (d.seen p.disk)
  kept_read p map keeps fresh = record { pages = keeps.pages; recovers = quiet-gives keeps.pages (d.seen p.disk) (keeps.is_kept.quiet fresh).reads; are = keeps.are }

  pub keeps_committed : {T E : Type 0} (result : Result T E) (old new : Paged D) → Checkpoints d result old new → OnOk result (new.under_way.stage ≡ Fresh)
      → KeepsCommitted d result old new
  keeps_committed (Ok answer) old new checkpoints fresh = record {
    done = λ tied. checkpoints.kept tied.kept tied tied.is_kept;
    images = λ tied. kept_images new (committed d old) (checkpoints.kept tied.kept tied tied.is_kept) fresh;
    refused = λ kept tied is. tt;
  }
  keeps_committed (Err why) old new checkpoints fresh = record {
    done = λ tied. tt;
    images = λ tied. tt;
    refused = λ kept tied is. checkpoints.lasts.next kept tied is;
  }

  pub migrates : {T E : Type 0} (result : Result T E) (old new : Paged D) → KeepsCommitted d result old new → OnOk result (HoldsNoChange new)
      → OnOk result (new.under_way.stage ≡ Fresh) → Migrates d result old new
  migrates (Ok answer) old new keeps none fresh = record {
    kept = keeps.done;
    second = none.lacks;
    gives = λ tied. kept_read new (committed d old) (keeps.done tied) fresh;
  }
  migrates (Err why) old new keeps none fresh = record { kept = λ tied. tt; second = tt; gives = λ tied. tt }
