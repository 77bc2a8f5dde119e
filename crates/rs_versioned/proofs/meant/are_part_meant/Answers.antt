-- They are meant where each test passes.
use Rattle.std.proofs.Common.{◌∙◌, filter, sym, arith}
use Rattle.std.proofs.lemmas.Bool.{le-leb, leb-true}
use Rattle.std.specs.Prelude.{◌≢◌, []}
use Rattle.rs_records.specs.Listed.{listed}
use Rattle.rs_tree.proofs.Lists.{zip_lengths}
use Rattle.rs_cell_versions.specs.Version.{sees}
use Rattle.rs_lexer.proofs.NameTexts.{not_empty}
use Rattle.rs_versioned.specs.MeantParts.{IsMeantOn, seen}
use Rattle.rs_versioned.specs.Records.{is_seen}
use Rattle.rs_versioned.specs.Referents.{ReferentRecord, SaysReferent, kept_referents}
use Rattle.rs_versioned.proofs.KeptReferents.{referents_are_kept}
use Rattle.rs_versioned.proofs.Lifting.{zip_filter}
use Rattle.rs_versioned.proofs.MeantLists.{all_mapped, all_weaker}
use Rattle.rs_versioned.proofs.Opened.{each_of_listed}
use Rattle.rs_versioned.proofs.Overlapping.{sees_record}
use Rattle.rs_versioned.proofs.meant.are_part_meant.Goals as goal

pub returns-then-not-say_referents-clause-passes : goal.returns-then-not-say_referents-clause-passes
returns-then-not-say_referents-clause-passes c = λ referents all ordered so.
    sym c.if-not-say_referents.true ∙ c.say_referents.ensures.1 (each_of_listed SaysReferent (listed c.args.cells.now) referents all)

pub returns-then-not-are_meant_on-clause-passes : goal.returns-then-not-are_meant_on-clause-passes
returns-then-not-are_meant_on-clause-passes c = λ referents all ordered so. sym c.if-not-are_meant_on.true ∙ (c.are_meant_on.ensures referents all).1 so.each

pub returns-then-not-have_own_names-clause-passes : goal.returns-then-not-have_own_names-clause-passes
returns-then-not-have_own_names-clause-passes c = λ referents all ordered so.
    let some = all_mapped (λ (referent : ReferentRecord). referent.name) (λ name. name ≢ []) (seen c.args.version referents)
    (all_weaker (IsMeantOn c.args.on) (λ referent. referent.name ≢ []) (λ referent one. not_empty referent.name one.own.named) (seen c.args.version referents) so.each) in
    sym c.if-not-have_own_names.true ∙ c.have_own_names.ensures.rise referents all ordered some so.once

pub returns-clause-meant : goal.returns-clause-meant
returns-clause-meant c = λ referents all few.
    let seen_ones = zip_filter SaysReferent (sees c.args.version) (is_seen kept_referents c.args.version) (λ cell referent says. sees_record kept_referents referents_are_kept c.args.version cell referent says)
    (listed c.args.cells.now) referents all in
    let long = zip_lengths SaysReferent (filter (sees c.args.version) (listed c.args.cells.now)) (seen c.args.version referents) seen_ones in
    record {
      each = (c.are_meant_on.ensures referents all).0 c.if-not-are_meant_on.false;
      once = c.have_own_names.ensures.own referents all c.if-not-have_own_names.false;
      few = omega (arith, long, c.count_seen.ensures, leb-true c.count_seen.result 1000 few);
    }

pub returns-clause-passes : goal.returns-clause-passes
returns-clause-passes c = λ referents all ordered so.
    let seen_ones = zip_filter SaysReferent (sees c.args.version) (is_seen kept_referents c.args.version) (λ cell referent says. sees_record kept_referents referents_are_kept c.args.version cell referent says)
    (listed c.args.cells.now) referents all in
    let long = zip_lengths SaysReferent (filter (sees c.args.version) (listed c.args.cells.now)) (seen c.args.version referents) seen_ones in
    le-leb c.count_seen.result 1000 (omega (arith, long, c.count_seen.ensures, so.few))
