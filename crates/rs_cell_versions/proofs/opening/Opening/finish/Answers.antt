-- All were looked at.
use Rattle.std.proofs.Common.{◌≡◌, ◌≤◌, ◌∙◌, ℕ, List, length, sym, ap, subst, arith, rules}
use Rattle.std.proofs.lemmas.Bool.{false≢true}
use Rattle.std.proofs.lemmas.List.Elements.{All-from_recursion, recursion_from_All}
use Rattle.std.proofs.lemmas.List.Sorted.{All-permutation, length_permutation}
use Rattle.std.specs.List.{AllByRecursion}
use Rattle.std.specs.List.Sorted.{IsPermutation}
use Rattle.rs_records.specs.Listed.{listed}
use Rattle.rs_tree.specs.Form.{form_of}
use Rattle.rs_tree.specs.Tree.{IsTree}
use Rattle.rs_cell_versions.specs.Opening.{Looked, StandsOtherwise, StandsTold, Told}
use Rattle.rs_cell_versions.specs.Version.{died_of}
use Rattle.rs_cell_versions.specs.Versioned.{Standing}
use Rattle.rs_cell_versions.proofs.Looks.{left_otherwise, stands_told}
use Rattle.rs_cell_versions.proofs.opening.Opening.finish.Goals as goal

pub returns-then-not-is_whole-clause-finishes : goal.returns-then-not-is_whole-clause-finishes
returns-then-not-is_whole-clause-finishes g c = λ tied.
    let old = (g.P.Pages.store c.args.pages.now).map in
    let now = c.rest.new.self in
    record {
      left = tt;
      stands = λ passed. tt;
      damaged = λ is passed.
          subst (λ (t : Told). StandsOtherwise (form_of g.S.Summary.says g.S.Summary.unit g.S.Summary.join g.S.Summary.of g.S.Summary.WIDTH c.args.self.told.width) old t) c.in_ok-left.ensures.told
          (left_otherwise (form_of g.S.Summary.says g.S.Summary.unit g.S.Summary.join g.S.Summary.of g.S.Summary.WIDTH c.args.self.told.width) old now ((c.in_ok-left.ensures.ends tied).passed passed) (λ none. false≢true (sym c.if-not-is_whole.true ∙ c.is_whole.ensures.whole.1
          (ap (λ (l : Looked). l.living_left) c.self.view_is ∙ none.0, ap (λ (l : Looked). l.garbage_left) c.self.view_is ∙ none.1))));
    }

pub returns-clause-cells : goal.returns-clause-cells
returns-clause-cells g c =
    let d = c.self.inside in
    let moved : IsPermutation (listed d.tally.dead) c.in_ok-dead.dead.working = search rules in
    record {
      width = search rules;
      root = search rules;
      living = search rules;
      garbage =
          let whole = c.is_whole.ensures.whole.0 c.if-not-is_whole.false in
          let told : d.garbage ≡ c.args.self.told.garbage = ap (λ (l : Looked). l.told.garbage) c.self.view_is ∙ ap (λ (t : Told). t.garbage) c.in_ok-left.ensures.told in
          let all : length (listed d.tally.dead) ≡ d.garbage = omega (arith, c.self.invariant.2.counted, whole.1) in
          ap (λ (s : Standing). length s.dead) c.over.ensures.working ∙ length_permutation (listed d.tally.dead) c.in_ok-dead.dead.working moved ∙ all ∙ told;
      order =
          let told : d.tally.accepted ≡ c.args.self.told.accepted = ap (λ (l : Looked). l.told.accepted) c.self.view_is ∙ ap (λ (t : Told). t.accepted) c.in_ok-left.ensures.told in
          let died = recursion_from_All (λ dead. died_of dead ≤ d.tally.accepted) c.in_ok-dead.dead.working (All-permutation (λ dead. died_of dead ≤ d.tally.accepted) (listed d.tally.dead) c.in_ok-dead.dead.working moved
          (All-from_recursion (λ dead. died_of dead ≤ d.tally.accepted) (listed d.tally.dead) c.self.invariant.2.died)) in
          subst (λ (s : Standing). AllByRecursion (λ dead. died_of dead ≤ c.args.self.told.accepted) s.dead) (sym c.over.ensures.working)
          (subst (λ (n : ℕ). AllByRecursion (λ dead. died_of dead ≤ n) c.in_ok-dead.dead.working) told died);
      committed = search rules;
    }

pub returns-clause-finishes : goal.returns-clause-finishes
returns-clause-finishes g c = λ tied.
    record {
      left = (c.in_ok-left.ensures.ends tied).left;
      stands = λ passed.
          let d = c.self.inside in
          let old = (g.P.Pages.store c.args.pages.now).map in
          let now = c.rest.new.self in
          let moved : IsPermutation (listed d.tally.dead) c.in_ok-dead.dead.working = search rules in
          let dead : IsPermutation (listed d.tally.dead) c.over.result.working.dead = subst (λ (s : Standing). IsPermutation (listed d.tally.dead) s.dead) (sym c.over.ensures.working) moved in
          let here = subst (λ (l : Looked). IsPermutation l.dead c.over.result.working.dead) c.self.view_is dead in
          let whole = c.is_whole.ensures.whole.0 c.if-not-is_whole.false in
          subst (λ (t : Told). (cells : List (List ℕ)) (used : ℕ → ℕ) → IsTree (form_of g.S.Summary.says g.S.Summary.unit g.S.Summary.join g.S.Summary.of g.S.Summary.WIDTH c.args.self.told.width) old t.root cells used → StandsTold (form_of g.S.Summary.says g.S.Summary.unit g.S.Summary.join g.S.Summary.of g.S.Summary.WIDTH c.args.self.told.width) old t c.over.result.working.dead cells used) c.in_ok-left.ensures.told
          (stands_told (form_of g.S.Summary.says g.S.Summary.unit g.S.Summary.join g.S.Summary.of g.S.Summary.WIDTH c.args.self.told.width) old now c.over.result.working.dead ((c.in_ok-left.ensures.ends tied).passed passed) (sym (ap (λ (l : Looked). l.living_left) c.self.view_is) ∙ whole.0) (sym (ap (λ (l : Looked). l.garbage_left) c.self.view_is) ∙ whole.1) here);
      damaged = λ is. absurd (cc);
    }
