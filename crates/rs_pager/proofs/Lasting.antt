-- Calls that last one after another last together.
use Rattle.std.proofs.Common.{◌≡◌, ◌≢◌, ◌⊎◌, inl, inr, IsTrue, refl, sym, ap, ◌∙◌, subst}
use Rattle.rs_disk.specs.Content.{Content}
use Rattle.rs_disk.specs.declared.disk.Disk as disk
use Rattle.rs_pages.specs.PageMap.{PageMap, SamePages}
use Rattle.rs_journal.specs.FilePages.{FilePages}
use Rattle.rs_journal.specs.Stages.{GivesFrom, IsQuiet}
use Rattle.rs_journal.specs.declared.stage.Stage.{Stage}
use Rattle.rs_journal.specs.declared.stage.Stage.TheVariants.{Fresh, Gate, Home, Closing}
use Rattle.rs_journal.proofs.Staging.{quiet-gives, stage-gives}
use Rattle.rs_pager.specs.Lasts.{GivesMap, KeepsMap, Lasts}
use Rattle.rs_pager.specs.Maps.{committed, pager_journal, ArePages, IsKept, IsTied, KeepsBelow}
use Rattle.rs_pager.specs.Paged.{Paged}
use Rattle.rs_pager.proofs.Keeping.{ArePages-same}

same_back : (one other : PageMap) → SamePages one other → SamePages other one
same_back one other same = record { fields = sym same.fields; pages = λ n. sym (same.pages n) }

-- what gives the pages of a map gives those of the same one
pub gives_same : (one other : PageMap) (image : Content) → SamePages one other → GivesMap one image → GivesMap other image
gives_same one other image same gives = record {
  pages = gives.pages;
  recovers = gives.recovers;
  are = ArePages-same one other gives.pages (same_back one other same) gives.are;
}

-- from each stage on the pages kept last or the checkpoint's, which are those of this map
stage_gives : (stage : Stage) (kept checkpoint : FilePages) (map : PageMap) (image : Content) → ArePages map checkpoint → GivesFrom stage kept checkpoint image
    → IsQuiet kept image ⊎ GivesMap map image
stage_gives Fresh kept checkpoint map image are (inl was) = inl was
stage_gives Fresh kept checkpoint map image are (inr now) = inr (record { pages = checkpoint; recovers = now; are = are })
stage_gives Gate kept checkpoint map image are (inl was) = inl was
stage_gives Gate kept checkpoint map image are (inr now) = inr (record { pages = checkpoint; recovers = now; are = are })
stage_gives Home kept checkpoint map image are now = inr (record { pages = checkpoint; recovers = now; are = are })
stage_gives Closing kept checkpoint map image are now = inr (record { pages = checkpoint; recovers = now; are = are })

module _ {D : Type 0} (d : disk.Ghosts D) where
  keeps_same : (p : Paged D) (one other : PageMap) → SamePages one other → KeepsMap d p one → KeepsMap d p other
  keeps_same p one other same keeps = record {
    pages = keeps.pages;
    is_kept = keeps.is_kept;
    are = ArePages-same one other keeps.pages (same_back one other same) keeps.are;
  }

  -- what a crash may leave gives the pages kept last or the committed ones
  module _ (p : Paged D) (kept : FilePages) (is : IsKept d p kept) (keeps : IsTrue (d.keeps_crashes p.disk)) (image : Content) (left : d.may_leave p.disk image) where
    carried_gives : p.under_way.stage ≢ Fresh → IsQuiet kept image ⊎ GivesMap (committed d p) image
    carried_gives ne =
        let on = is.under_way ne in
        stage_gives p.under_way.stage kept on.checkpoint (committed d p) image on.are
        (stage-gives p.under_way.stage kept (pager_journal d p) on.checkpoint image on.makes (on.every.images keeps image left))

    image_gives : IsQuiet kept image ⊎ GivesMap (committed d p) image
    image_gives = elim p.under_way.stage as (λ s. p.under_way.stage ≡ s → IsQuiet kept image ⊎ GivesMap (committed d p) image) [
      | Fresh ↦ λ e. inl ((is.quiet e).images keeps image left)
      | Gate ↦ λ e. carried_gives (λ f. cc)
      | Home ↦ λ e. carried_gives (λ f. cc)
      | Closing ↦ λ e. carried_gives (λ f. cc)
    ] refl

  pub below_lasts : (old new : Paged D) → KeepsBelow d old new → Lasts d old new
  below_lasts old new below = record {
    meanwhile = λ kept tied is keeps start image left. elim ((below.crash keeps).meanwhile start image left) [
      | inl before ↦ inl before
      | inr follows ↦ inr (image_gives old kept is keeps image (subst (d.may_leave old.disk) (sym follows.steps) follows.was_left))
    ];
    next = λ kept tied is. inl (below.kept kept tied is);
    keeping = below.keeping;
  }

  -- the second goes on from what the first leaves
  module _ (a b c : Paged D) (tie : IsTied d a → IsTied d b) (same : IsTied d a → SamePages (committed d b) (committed d a)) (first : Lasts d a b) (second : Lasts d b c)
      (kept : FilePages) (tied : IsTied d a) (is : IsKept d a kept) where
    gives_first : (image : Content) → GivesMap (committed d b) image → GivesMap (committed d a) image
    gives_first image = gives_same (committed d b) (committed d a) image (same tied)

    then_meanwhile : IsTrue (d.keeps_crashes a.disk) → (start : D) (image : Content) → d.left_since start c.disk image
        → d.left_since start a.disk image ⊎ (IsQuiet kept image ⊎ GivesMap (committed d a) image)
    then_meanwhile keeps start image left = elim (first.next kept tied is) [
      | inl still ↦ elim (second.meanwhile kept (tie tied) still keeps_on start image left) [
        | inl before ↦ first.meanwhile kept tied is keeps start image before
        | inr (inl was) ↦ inr (inl was)
        | inr (inr now) ↦ inr (inr (gives_first image now))
      ]
      | inr now_kept ↦ elim (second.meanwhile now_kept.pages (tie tied) now_kept.is_kept keeps_on start image left) [
        | inl before ↦ first.meanwhile kept tied is keeps start image before
        | inr (inl was) ↦ inr (inr (record { pages = now_kept.pages; recovers = quiet-gives now_kept.pages image was; are = now_kept.are }))
        | inr (inr now) ↦ inr (inr (gives_first image now))
      ]
    ]
      where
        keeps_on : IsTrue (d.keeps_crashes b.disk)
        keeps_on = subst IsTrue (sym first.keeping) keeps

    then_next : IsKept d c kept ⊎ KeepsMap d c (committed d a)
    then_next = elim (first.next kept tied is) [
      | inl still ↦ elim (second.next kept (tie tied) still) [
        | inl last ↦ inl last
        | inr now ↦ inr (keeps_same c (committed d b) (committed d a) (same tied) now)
      ]
      | inr now_kept ↦ elim (second.next now_kept.pages (tie tied) now_kept.is_kept) [
        | inl last ↦ inr (record { pages = now_kept.pages; is_kept = last; are = now_kept.are })
        | inr now ↦ inr (keeps_same c (committed d b) (committed d a) (same tied) now)
      ]
    ]

  pub goes_on : (a b c : Paged D) → (IsTied d a → IsTied d b) → (IsTied d a → SamePages (committed d b) (committed d a)) → Lasts d a b → Lasts d b c → Lasts d a c
  goes_on a b c tie same first second = record {
    meanwhile = λ kept tied is keeps start image left. then_meanwhile a b c tie same first second kept tied is keeps start image left;
    next = λ kept tied is. then_next a b c tie same first second kept tied is;
    keeping = second.keeping ∙ first.keeping;
  }

  pub settled : (a b c : Paged D) → Lasts d a b → c.disk ≡ b.disk → ((pages : FilePages) → IsKept d b pages → IsKept d c pages) → Lasts d a c
  settled a b c lasts same moves = record {
    meanwhile = λ kept tied is keeps start image left.
        lasts.meanwhile kept tied is keeps start image (subst (λ (disk : D). d.left_since start disk image) same left);
    next = λ kept tied is. elim (lasts.next kept tied is) [
      | inl still ↦ inl (moves kept still)
      | inr now ↦ inr (record { pages = now.pages; is_kept = moves now.pages now.is_kept; are = now.are })
    ];
    keeping = ap d.keeps_crashes same ∙ lasts.keeping;
  }
