use Rattle.rs_checker.proofs.views.+opened_node.Given as goal

-- Each call opens a view.
abbrev pub decreases-opened_node : goal.decreases-opened_node
decreases-opened_node l = l.openings
