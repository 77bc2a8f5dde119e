use Rattle.std.proofs.Common.{ap, sym, ◌∙◌}
use Rattle.rs_syntax.specs.QueryView.{query_tree}
use Rattle.rs_machine.specs.declared.limits.TheConstants.{NODES, DEPTH}
use Rattle.rs_machine.specs.Opening.{opened, opened_times, nodes, depth}
use Rattle.rs_machine.specs.Checking.{fits_limits}
use Rattle.rs_catalog.specs.Definitions.{views_of}
use Rattle.rs_catalog.proofs.StateLaws.{len-views_of}
use Rattle.std.specs.Prelude.{is_some}
use Rattle.rs_checker.proofs.SizeLaws.{some_left}
use Rattle.rs_checker.proofs.size.fits_limits.Goals as goal

pub returns : goal.returns
unfolding opened
returns c =
    let views = views_of c.args.catalog.now in
    let tree = opened_times c.views_len.result views (query_tree c.args.query.now) in
    c.is_some.ensures ∙ ap is_some c.nodes_left.ensures ∙ some_left NODES DEPTH (nodes tree) (depth tree)
    ∙ ap (λ n. fits_limits (opened_times n views (query_tree c.args.query.now))) (c.views_len.ensures ∙ sym (len-views_of c.args.catalog.now))
