-- One cell after the other.
use Rattle.std.proofs.Common.{◌≡◌, ◌+◌, ℕ, true, false, List, [], ◌∷◌, ◌++◌, take, take_all, sym, ap, ◌∙◌, subst, arith}
use Rattle.std.proofs.lemmas.List.{append-nil}
use Rattle.rs_facts.specs.Fact.{AreDistinct}
use Rattle.rs_records.specs.Listed.{listed}
use Rattle.rs_records.specs.Order.{is_below}
use Rattle.rs_tree.proofs.Lists.{zip_lengths}
use Rattle.rs_versioned.specs.MeantParts.{names_of, seen}
use Rattle.rs_versioned.specs.Records.{is_seen}
use Rattle.rs_versioned.specs.Referents.{ReferentRecord, SaysReferent, kept_referents}
use Rattle.rs_versioned.proofs.CellsWide.{cell_wide}
use Rattle.rs_versioned.proofs.KeptReferents.{referents_are_kept}
use Rattle.rs_versioned.proofs.MeantLists.{kept_next, mapped_next, names_split, zip_has}
use Rattle.rs_versioned.proofs.Overlapping.{sees_record}
use Rattle.rs_versioned.proofs.RisingNames.{before_less, name_below, rises, rises_more, rises_none}
use Rattle.rs_versioned.proofs.meant.have_own_names.Goals.{then-sees+else-not-is_below, else-sees}
use Rattle.rs_versioned.proofs.meant.have_own_names.Goals as goal

pub sees-requires : goal.sees-requires
sees-requires c = record { width = omega (arith, cell_wide c.args.cells.now c.loop-place.place c.get-cell.result.now c.get-cell.ensures, c.requires.width) }

pub name_of-name-requires : goal.name_of-name-requires
name_of-name-requires c = record { width = cell_wide c.args.cells.now c.loop-place.place c.get-cell.result.now c.get-cell.ensures ∙ c.requires.width }

pub loop-place-init : goal.loop-place-init
loop-place-init c = λ referents all. rises_none

abbrev name_in : ReferentRecord → List ℕ
name_in referent = referent.name

pub returns-then-not-is_below-clause-rise : goal.returns-then-not-is_below-clause-rise
returns-then-not-is_below-clause-rise c = λ referents all ordered some distinct.
    let at = zip_has SaysReferent (listed c.args.cells.now) referents c.loop-place.place c.get-cell.result.now all c.get-cell.ensures in
    let sees : is_seen kept_referents c.args.version at.0 ≡ true = sym (sees_record kept_referents referents_are_kept c.args.version c.get-cell.result.now at.0 at.2) ∙ sym c.sees.ensures ∙ c.if-sees.true in
    let split = names_split name_in (is_seen kept_referents c.args.version) referents c.loop-place.place at.0 at.1 sees in
    let last = c.loop-place.last.now in
    let name = c.name_of-name.ensures at.0 at.2 in
    let before = rises name_in (λ referent. referent.measure) (seen c.args.version referents) (names_of (seen c.args.version (take c.loop-place.place referents))) split.0 last at.0.name split.1
    (c.loop-place.invariant referents all) ordered some distinct in
    sym c.if-not-is_below.true ∙ c.is_below.ensures ∙ ap (is_below last) name ∙ name_below last at.0.name ∙ before

pub loop-place-preserved : goal.loop-place-preserved
loop-place-preserved c = λ referents all.
    let at = zip_has SaysReferent (listed c.args.cells.now) referents c.loop-place.place c.get-cell.result.now all c.get-cell.ensures in
    let told : c.sees.result ≡ is_seen kept_referents c.args.version at.0 = c.sees.ensures ∙ sees_record kept_referents referents_are_kept c.args.version c.get-cell.result.now at.0 at.2 in
    let earlier : List ReferentRecord = seen c.args.version (take c.loop-place.place referents) in
    elim c.if-sees.branch [
      | then-sees+else-not-is_below w ↦
          let name = w.name_of-name.ensures at.0 at.2 in
          let next = kept_next (is_seen kept_referents c.args.version) referents c.loop-place.place at.0 true at.1 (sym told ∙ w.if-sees.true) in
          let less = before_less c.loop-place.last.now at.0.name (ap (is_below c.loop-place.last.now) (sym name) ∙ sym w.is_below.ensures ∙ w.if-not-is_below.false) in
          let more = rises_more (names_of earlier) c.loop-place.last.now at.0.name (c.loop-place.invariant referents all) less in
          let names : names_of (seen c.args.version (take (c.loop-place.place + 1) referents)) ≡ names_of earlier ++ at.0.name ∷ [] = ap names_of next ∙ mapped_next name_in earlier (at.0 ∷ []) in
          rw (w.last-is, names, name) more
      | else-sees w ↦
          let next = kept_next (is_seen kept_referents c.args.version) referents c.loop-place.place at.0 false at.1 (sym told ∙ w.if-sees.false) ∙ append-nil earlier in
          rw (w.last-is, next) (c.loop-place.invariant referents all)
    ]

pub returns-clause-own : goal.returns-clause-own
returns-clause-own c = λ referents all _.
    let long = zip_lengths SaysReferent (listed c.args.cells.now) referents all in
    let whole : take c.loop-place.place referents ≡ referents = take_all c.loop-place.place referents (omega (arith, long, c.len-place-end.ensures, c.loop-place-test.false)) in
    subst (λ (rs : List ReferentRecord). AreDistinct (names_of (seen c.args.version rs))) whole (c.loop-place.invariant referents all).distinct
