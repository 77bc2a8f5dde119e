-- The cells of the part are counted after those that were looked at.
use Rattle.std.proofs.Common.{◌≡◌, ℕ, false, Err, List, sym, ap, ◌∙◌, subst, rules}
use Rattle.std.proofs.lemmas.Result.{err_from_is_err_and}
use Rattle.rs_refusal.specs.declared.refusal.Refusal.TheVariants as refusal
use Rattle.rs_records.specs.Listed.{listed}
use Rattle.rs_records.specs.Order.{is_below}
use Rattle.rs_tree.specs.Form.{form_of}
use Rattle.rs_cell_versions.specs.Opening.{HasPassed, Looked, StandsOtherwise, Told}
use Rattle.rs_cell_versions.proofs.Looks.{FindsWithin, no_tree_otherwise, others_otherwise, passed_more, refused_no_tree}
use Rattle.rs_cell_versions.proofs.opening.Opening.part.Goals as goal

pub returns-in_err-found-clause-parts : goal.returns-in_err-found-clause-parts
returns-in_err-found-clause-parts g c = λ tied.
    let d = c.self.inside in
    let old = (g.P.Pages.store c.args.pages.now).map in
    let p = err_from_is_err_and c.from_residual-in_err-found.result c.from_residual-in_err-found.ensures.1 in
    record {
      found = rw p.1 tt;
      passed = λ passed. rw p.1 tt;
      damaged = λ is.
          let why : c.in_err-found.field-0.0 ≡ refusal.DamagedFile = cc (p.1, p.2, is) in
          subst (λ (v : Looked). HasPassed (form_of g.S.Summary.says g.S.Summary.unit g.S.Summary.join g.S.Summary.of g.S.Summary.WIDTH v.told.width) old v → StandsOtherwise (form_of g.S.Summary.says g.S.Summary.unit g.S.Summary.join g.S.Summary.of g.S.Summary.WIDTH v.told.width) old v.told) c.self.view_is
          (λ passed. no_tree_otherwise (form_of g.S.Summary.says g.S.Summary.unit g.S.Summary.join g.S.Summary.of g.S.Summary.WIDTH d.tree.width) old _
          (refused_no_tree (g.P.Pages.is_tied c.args.pages.now) (form_of g.S.Summary.says g.S.Summary.unit g.S.Summary.join g.S.Summary.of g.S.Summary.WIDTH d.tree.width) d.tree.root c.in_err-found.field-0.0 (g.P.Pages.store c.args.pages.now) (g.P.Pages.store c.range.new.pages) c.in_err-found.ensures.refused why tied));
    }

pub invariant_of-self : goal.invariant_of-self
invariant_of-self g c = (c.count.ensures.width ∙ c.self.invariant.0, c.self.invariant.1, c.count.ensures.holds c.self.inside.garbage c.self.invariant.2)

pub invariant_of-self-2 : goal.invariant_of-self-2
invariant_of-self-2 g c = (c.count.ensures.width ∙ c.self.invariant.0, c.self.invariant.1, c.count.ensures.holds c.self.inside.garbage c.self.invariant.2)

pub returns-in_err-count-clause-parts : goal.returns-in_err-count-clause-parts
returns-in_err-count-clause-parts g c = λ tied.
    let d = c.self.inside in
    let old = (g.P.Pages.store c.args.pages.now).map in
    let p = err_from_is_err_and c.from_residual-in_err-count.result c.from_residual-in_err-count.ensures.1 in
    let finds = subst (λ (low : List ℕ). FindsWithin (form_of g.S.Summary.says g.S.Summary.unit g.S.Summary.join g.S.Summary.of g.S.Summary.WIDTH d.tree.width) old d.tree.root low c.args.high.now (listed c.in_ok-found.found)) c.deref.ensures.value (c.in_ok-found.ensures.found tied) in
    record {
      found = rw p.1 tt;
      passed = λ passed. rw p.1 tt;
      damaged = λ is.
          let why : c.in_err-count.field-0.0 ≡ refusal.DamagedFile = cc (p.1, p.2, is) in
          subst (λ (v : Looked). is_below c.args.high.now v.low ≡ false → HasPassed (form_of g.S.Summary.says g.S.Summary.unit g.S.Summary.join g.S.Summary.of g.S.Summary.WIDTH v.told.width) old v → StandsOtherwise (form_of g.S.Summary.says g.S.Summary.unit g.S.Summary.join g.S.Summary.of g.S.Summary.WIDTH v.told.width) old v.told) c.self.view_is
          (λ order passed. others_otherwise (form_of g.S.Summary.says g.S.Summary.unit g.S.Summary.join g.S.Summary.of g.S.Summary.WIDTH d.tree.width) old _ c.args.high.now (listed c.in_ok-found.found) order (c.in_err-count.ensures.damaged (ap Err why)) finds passed) c.requires.order;
    }

pub returns-clause-parts : goal.returns-clause-parts
returns-clause-parts g c = λ tied.
    let d = c.self.inside in
    let old = (g.P.Pages.store c.args.pages.now).map in
    let high : c.in_ok-low.low.items ≡ c.args.high.now = search rules in
    let told : Told = record { width = d.tree.width; root = d.tree.root; living = d.living; garbage = d.garbage; accepted = d.tally.accepted } in
    let was : Looked = record { told = told; low = d.low.items; living_left = d.tally.living_left; garbage_left = d.tally.garbage_left; dead = listed d.tally.dead } in
    let tally = c.count.new.self in
    let now : Looked = record {
      told = record told { accepted = tally.accepted };
      low = c.in_ok-low.low.items;
      living_left = tally.living_left;
      garbage_left = tally.garbage_left;
      dead = listed tally.dead;
    } in
    let same : now.told ≡ told = ap (λ (n : ℕ). record told { accepted = n }) c.in_ok-count.ensures.accepted in
    let finds = subst (λ (low : List ℕ). FindsWithin (form_of g.S.Summary.says g.S.Summary.unit g.S.Summary.join g.S.Summary.of g.S.Summary.WIDTH d.tree.width) old d.tree.root low c.args.high.now (listed c.in_ok-found.found)) c.deref.ensures.value (c.in_ok-found.ensures.found tied) in
    let upto = subst (λ (bound : List ℕ). FindsWithin (form_of g.S.Summary.says g.S.Summary.unit g.S.Summary.join g.S.Summary.of g.S.Summary.WIDTH d.tree.width) old d.tree.root d.low.items bound (listed c.in_ok-found.found)) (sym high) finds in
    record {
      found = subst (λ (v : Looked). FindsWithin (form_of g.S.Summary.says g.S.Summary.unit g.S.Summary.join g.S.Summary.of g.S.Summary.WIDTH v.told.width) old v.told.root v.low c.args.high.now (listed c.in_ok-found.found)) c.self.view_is finds;
      passed = subst (λ (v : Looked). is_below c.args.high.now v.low ≡ false → HasPassed (form_of g.S.Summary.says g.S.Summary.unit g.S.Summary.join g.S.Summary.of g.S.Summary.WIDTH v.told.width) old v → HasPassed (form_of g.S.Summary.says g.S.Summary.unit g.S.Summary.join g.S.Summary.of g.S.Summary.WIDTH v.told.width) old now) c.self.view_is
          (λ order passed. passed_more (form_of g.S.Summary.says g.S.Summary.unit g.S.Summary.join g.S.Summary.of g.S.Summary.WIDTH d.tree.width) old was now (listed c.in_ok-found.found) same (ap (λ (bound : List ℕ). is_below bound d.low.items) high ∙ order) c.in_ok-count.ensures.counts upto passed)
          c.requires.order;
      damaged = λ is. absurd (cc);
    }
