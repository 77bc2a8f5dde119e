-- From stage to stage, of a disk.
use Rattle.std.proofs.Common.{◌≡◌, inl, inr, IsTrue, Result, Ok, Err, OnOk, OnErr, sym, subst}
use Rattle.rs_disk.specs.Content.{Content}
use Rattle.rs_disk.specs.Crash.{Same, Only}
use Rattle.rs_disk.specs.declared.disk.Disk as disk
use Rattle.rs_disk.proofs.Reaching.{through-then, through-less}
use Rattle.rs_journal.specs.declared.stage.Stage.{Stage}
use Rattle.rs_journal.specs.FilePages.{FilePages}
use Rattle.rs_journal.specs.Journal.{Journal, MakesPages}
use Rattle.rs_journal.proofs.Staging.{stage-gives}
use Rattle.rs_journal.specs.Stages.{StageImage, GivesFrom, EveryImage, Meanwhile, Goes, EndsOrStops, Remains}
use Rattle.rs_disk.specs.Reaches.{Reaches}

module _ {D : Type 0} (d : disk.Ghosts D) where
  pub meanwhile-less : (P Q : Content → Type 0) (old new : D) → ((image : Content) → P image → Q image) → Meanwhile d P old new → Meanwhile d Q old new
  meanwhile-less P Q old new less meanwhile = λ keeps. through-less d P Q old new less (meanwhile keeps)

  -- what a step keeps of each image stays
  pub remains-by : (step : Content → Content → Type 0) (P : Content → Type 0) (old new : D)
      → ((a b : Content) → P a → step a b → P b) → Reaches d step old new → EveryImage d P old → Remains d P old new
  remains-by step P old new on reaches every = record {
    every = record {
      honest = subst IsTrue (sym reaches.honesty) every.honest;
      images = λ keeps image left.
          let before = subst IsTrue reaches.keeping keeps in
          let f = (reaches.images before).now image left in
          on f.source image (every.images before f.source f.was_left) f.steps;
      reads = on (d.seen old) (d.seen new) every.reads (reaches.reads every.honest);
    };
    meanwhile = λ keeps. record {
      each = λ start image left. elim ((reaches.images keeps).meanwhile start image left) [
        | inl before ↦ inl before
        | inr f ↦ inr (on f.source image (every.images keeps f.source f.was_left) f.steps)
      ];
    };
  }

  -- one stage
  pub goes-by : {T E : Type 0} (result : Result T E) (step : Content → Content → Type 0) (from to : Content → Type 0) (old new : D)
      → ((a b : Content) → from a → step a b → from b) → Reaches d step old new
      → (IsTrue (d.keeps_crashes old) → OnOk result (Only (d.seen new) (d.may_leave new)))
      → (IsTrue (d.is_honest old) → OnOk result (from (d.seen new) → to (d.seen new)))
      → EveryImage d from old → Goes d from to result old new
  goes-by (Ok t) step from to old new on reaches durable written every =
      let remains = remains-by step from old new on reaches every in
      let there : to (d.seen new) = written every.honest remains.every.reads in
      record {
        done = record {
          honest = remains.every.honest;
          images = λ keeps image left. subst to (sym (durable (subst IsTrue reaches.keeping keeps) image left)) there;
          reads = there;
        };
        fault = tt;
        meanwhile = remains.meanwhile;
      }
  goes-by (Err e) step from to old new on reaches durable written every =
      let remains = remains-by step from old new on reaches every in
      record { done = tt; fault = remains.every; meanwhile = remains.meanwhile }

module _ {D : Type 0} (d : disk.Ghosts D) where
  pub every-less : (P Q : Content → Type 0) (disk : D) → ((image : Content) → P image → Q image) → EveryImage d P disk → EveryImage d Q disk
  every-less P Q disk less every = record {
    honest = every.honest;
    reads = less (d.seen disk) every.reads;
    images = λ keeps image left. less image (every.images keeps image left);
  }

  pub meanwhile-then : (P : Content → Type 0) (old mid new : D) → d.keeps_crashes mid ≡ d.keeps_crashes old
      → Meanwhile d P old mid → Meanwhile d P mid new → Meanwhile d P old new
  meanwhile-then P old mid new keeping first second =
      λ keeps. through-then d P old mid new (first keeps) (second (subst IsTrue (sym keeping) keeps))

  -- reads change nothing
  pub remains-same : (P : Content → Type 0) (old new : D) → Reaches d Same old new → EveryImage d P old → Remains d P old new
  remains-same P old new reaches every = remains-by d Same P old new (λ a b p same. subst P (sym same) p) reaches every

pub on_ok : {T E : Type 0} (result : Result T E) (P : Type 0) → P → OnOk result P
on_ok (Ok t) P p = p
on_ok (Err e) P p = tt

pub on_ok_map : {T E P Q : Type 0} (result : Result T E) → (P → Q) → OnOk result P → OnOk result Q
on_ok_map (Ok _) f p = f p
on_ok_map (Err _) f p = p

pub on_err : {T E : Type 0} (result : Result T E) (P : Type 0) → P → OnErr result P
on_err (Ok t) P p = tt
on_err (Err e) P p = p

module _ {D : Type 0} (d : disk.Ghosts D) where
  -- a stage, and those after it
  pub ends-then : {T E : Type 0} (result : Result T E) (kept : FilePages) (journal : Journal) (checkpoint : FilePages) (stage : Stage)
      (from later gives : Content → Type 0) (old mid new : D) → ((image : Content) → from image → gives image)
      → ((image : Content) → later image → gives image) → d.keeps_crashes mid ≡ d.keeps_crashes old → Meanwhile d from old mid
      → EndsOrStops d kept journal checkpoint later result stage mid new → EndsOrStops d kept journal checkpoint gives result stage old new
  ends-then result kept journal checkpoint stage from later gives old mid new one two keeping through ends = record {
    done = ends.done;
    reached = ends.reached;
    meanwhile = λ keeps. through-then d gives old mid new (through-less d from gives old mid one (through keeps))
        (through-less d later gives mid new two (ends.meanwhile (subst IsTrue (sym keeping) keeps)));
  }

  -- a stage that is not left
  pub every-still : (kept : FilePages) (journal : Journal) (checkpoint : FilePages) (stage at : Stage) (disk : D) → stage ≡ at
      → EveryImage d (StageImage at kept journal checkpoint) disk → EveryImage d (StageImage stage kept journal checkpoint) disk
  every-still kept journal checkpoint stage at disk same every =
      subst (λ s. EveryImage d (StageImage s kept journal checkpoint) disk) (sym same) every

  -- the contract of the function for this stage is the one for any
  pub ends-at : {T E : Type 0} (result : Result T E) (kept : FilePages) (journal : Journal) (checkpoint : FilePages) (stage at last : Stage) (old new : D)
      → stage ≡ at
      → (EveryImage d (StageImage at kept journal checkpoint) old → EndsOrStops d kept journal checkpoint (GivesFrom at kept checkpoint) result last old new)
      → EveryImage d (StageImage stage kept journal checkpoint) old → EndsOrStops d kept journal checkpoint (GivesFrom stage kept checkpoint) result last old new
  ends-at result kept journal checkpoint stage at last old new same ends =
      subst (λ s. EveryImage d (StageImage s kept journal checkpoint) old → EndsOrStops d kept journal checkpoint (GivesFrom s kept checkpoint) result last old new)
      (sym same) ends

  -- each moment since the start
  pub since-by : (kept : FilePages) (journal : Journal) (checkpoint : FilePages) (stage : Stage) (old new : D)
      → (IsTrue (d.keeps_crashes old) → (image : Content) → d.left_since old old image → d.may_leave old image) → MakesPages journal kept checkpoint
      → EveryImage d (StageImage stage kept journal checkpoint) old → Meanwhile d (GivesFrom stage kept checkpoint) old new
      → IsTrue (d.keeps_crashes old) → (image : Content) → d.left_since old new image → GivesFrom stage kept checkpoint image
  since-by kept journal checkpoint stage old new only makes every meanwhile keeps image left = elim ((meanwhile keeps).each old image left) [
    | inl before ↦ stage-gives stage kept journal checkpoint image makes (every.images keeps image (only keeps image before))
    | inr is ↦ is
  ]
