-- The empty tree takes the place of the one that was cleared.
use Rattle.std.proofs.Common.{ℕ, List, refl, subst, arith}
use Rattle.rs_page_owners.specs.Counts.{no_pages}
use Rattle.rs_page_owners.specs.Owners.{Moves}
use Rattle.rs_tree.specs.Form.{form_of}
use Rattle.rs_tree.specs.Tree.{IsTree}
use Rattle.rs_tree.specs.Forms.{form}
use Rattle.rs_btree.specs.Rooted.{Rooted}
use Rattle.rs_btree.proofs.tree.Tree.clear.Goals as goal

pub returns-clause-clears : goal.returns-clause-clears
returns-clause-clears g c = λ tied.
    let moves = subst (λ (tree : Rooted). (cells : List (List ℕ)) (used : ℕ → ℕ)
    → IsTree (form g.S.Summary tree.width) (g.P.Pages.store c.args.pages.now).map tree.root cells used
    → Moves (g.P.Pages.store c.args.pages.now).map (g.P.Pages.store c.clear.new.pages).map used no_pages) c.self.view_is
    (subst (λ (summary : ℕ). (cells : List (List ℕ)) (used : ℕ → ℕ)
    → IsTree (form_of g.S.Summary.says g.S.Summary.unit g.S.Summary.join g.S.Summary.of summary c.self.inside.layout.width) (g.P.Pages.store c.args.pages.now).map c.self.inside.root cells used
    → Moves (g.P.Pages.store c.args.pages.now).map (g.P.Pages.store c.clear.new.pages).map used no_pages) c.self.invariant (c.in_ok-clear.ensures.clears tied)) in
    record {
      each = λ cells used others tree shares. record {
        after = no_pages;
        tree = record {
          height = 0;
          stands = record { none = c.new-self-inside.ensures; no_cells = refl; no_pages = λ n. refl };
          ascends = tt;
          once = λ n. omega arith;
        };
        moves = moves cells used tree;
      };
    }
