-- No cell is left.
use Rattle.std.proofs.Common.{subst, sym, ap, arith}
use Rattle.rs_cell_versions.specs.DeadCells.{DeadCells}
use Rattle.rs_cell_versions.specs.Versioned.{AreInOrder}
use Rattle.rs_cell_versions.proofs.Fronts.{part-none}
use Rattle.rs_cell_versions.proofs.dead.Dead.clear.Goals as goal

pub invariant_of-self : goal.invariant_of-self
invariant_of-self c =
    let d = c.self.inside in
    record {
      wide = c.self.invariant.wide;
      fits = c.self.invariant.fits;
      begins = omega arith;
      kept_begins = c.self.invariant.kept_begins;
      given_back = c.self.invariant.given_back;
      within = c.self.invariant.within;
      in_order = subst AreInOrder (sym (part-none d.end d.width d.bytes.items)) tt;
      kept_in_order = c.self.invariant.kept_in_order;
    }

pub returns : goal.returns
returns c =
    let d = c.self.inside in
    record {
      working = part-none d.end d.width d.bytes.items;
      width = ap (λ (v : DeadCells). v.width) c.self.view_is;
      committed = ap (λ (v : DeadCells). v.committed) c.self.view_is;
    }
