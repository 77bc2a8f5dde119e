-- One cell after the other.
use Rattle.std.proofs.Common.{◌≡◌, ◌∙◌, List, take, take_all, refl, sym, subst, arith}
use Rattle.std.proofs.lemmas.Bool.{false≢true}
use Rattle.std.specs.List.{AllByRecursion}
use Rattle.rs_records.specs.Listed.{listed}
use Rattle.rs_tree.proofs.Lists.{zip_lengths}
use Rattle.rs_versioned.specs.MeantParts.{IsMeantOn, seen}
use Rattle.rs_versioned.specs.Records.{is_seen}
use Rattle.rs_versioned.specs.Referents.{ReferentRecord, SaysReferent, kept_referents}
use Rattle.rs_versioned.proofs.CellsWide.{cell_wide}
use Rattle.rs_versioned.proofs.MeantLists.{all_next, passing_at, zip_has}
use Rattle.rs_versioned.proofs.meant.are_meant_on.Goals as goal

pub is_unseen_or_meant-requires : goal.is_unseen_or_meant-requires
is_unseen_or_meant-requires c = record { width = cell_wide c.args.cells.now c.loop-place.place c.get.result.now c.get.ensures ∙ c.requires.width }

pub returns-then-not-is_unseen_or_meant : goal.returns-then-not-is_unseen_or_meant
returns-then-not-is_unseen_or_meant c = λ referents all.
    let at = zip_has SaysReferent (listed c.args.cells.now) referents c.loop-place.place c.get.result.now all c.get.ensures in (
      λ e. absurd (false≢true e),
      λ each. sym c.if-not-is_unseen_or_meant.true
          ∙ (c.is_unseen_or_meant.ensures at.0 at.2).1 (passing_at (IsMeantOn c.args.on) (is_seen kept_referents c.args.version) referents c.loop-place.place at.0 each at.1),
    )

pub loop-place-preserved : goal.loop-place-preserved
loop-place-preserved c = λ referents all.
    let at = zip_has SaysReferent (listed c.args.cells.now) referents c.loop-place.place c.get.result.now all c.get.ensures in
    all_next (IsMeantOn c.args.on) (is_seen kept_referents c.args.version) referents c.loop-place.place at.0 at.1 (c.loop-place.invariant referents all)
    ((c.is_unseen_or_meant.ensures at.0 at.2).0 c.if-not-is_unseen_or_meant.false)

pub returns : goal.returns
returns c = λ referents all.
    let long = zip_lengths SaysReferent (listed c.args.cells.now) referents all in
    let whole : take c.loop-place.place referents ≡ referents = take_all c.loop-place.place referents (omega (arith, long, c.len-place-end.ensures, c.loop-place-test.false)) in (
      λ _. subst (λ (rs : List ReferentRecord). AllByRecursion (IsMeantOn c.args.on) (seen c.args.version rs)) whole (c.loop-place.invariant referents all),
      λ _. refl,
    )
