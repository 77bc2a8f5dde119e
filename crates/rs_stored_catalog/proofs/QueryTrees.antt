-- The tree of a query of the code, each variant.
use Rattle.std.proofs.Common.{◌≡◌, ◌∙◌, map, sym, ap}
use Rattle.std.specs.Prelude.{Box, Vec}
use Rattle.std.specs.declared.alloc.Global.{Global}
use Rattle.arrayvec.specs.ArrayString.{ArrayString}
use Rattle.rs_syntax.specs.declared.queries.Atom.{Atom}
use Rattle.rs_syntax.specs.declared.queries.Query.{Query, fold-roll-Query}
use Rattle.rs_syntax.specs.declared.queries.Query.TheOpen.{Query-F}
use Rattle.rs_syntax.specs.declared.queries.Query.TheVariants as queries
use Rattle.rs_syntax.specs.declared.queries.Window.{Window}
use Rattle.rs_syntax.specs.QueryView.{condition_tree, query_step, query_tree, window_tree}
use Rattle.rs_syntax.specs.Tree.{QueryTree, covered, dissolved, filtered, gapped, merged, named, overlaid, renamed, subtracted, transformed, windowed}

pub named_tree : (name : ArrayString) → query_tree (queries.Named name) ≡ named name.bytes
named_tree name = ap query_tree (sym (queries.rolls-Named name)) ∙ fold-roll-Query QueryTree query_step (Query-F.Named name)

pub where_tree : (query : Box Query Global) (condition : Vec (Vec Atom Global) Global) → query_tree (queries.Where query condition) ≡ filtered (query_tree query.value) (condition_tree condition.items)
where_tree query condition = ap query_tree (sym (queries.rolls-Where query condition)) ∙ fold-roll-Query QueryTree query_step (Query-F.Where query condition)

pub dissolve_tree : (query : Box Query Global) (columns : Vec ArrayString Global) → query_tree (queries.Dissolve query columns) ≡ dissolved (query_tree query.value) (map (λ name. name.bytes) columns.items)
dissolve_tree query columns = ap query_tree (sym (queries.rolls-Dissolve query columns)) ∙ fold-roll-Query QueryTree query_step (Query-F.Dissolve query columns)

pub rename_tree : (query : Box Query Global) (from to : ArrayString) → query_tree (queries.Rename query from to) ≡ renamed (query_tree query.value) from.bytes to.bytes
rename_tree query from to = ap query_tree (sym (queries.rolls-Rename query from to)) ∙ fold-roll-Query QueryTree query_step (Query-F.Rename query from to)

pub overlay_tree : (left right : Box Query Global) → query_tree (queries.Overlay left right) ≡ overlaid (query_tree left.value) (query_tree right.value)
overlay_tree left right = ap query_tree (sym (queries.rolls-Overlay left right)) ∙ fold-roll-Query QueryTree query_step (Query-F.Overlay left right)

pub cover_tree : (left right : Box Query Global) → query_tree (queries.Cover left right) ≡ covered (query_tree left.value) (query_tree right.value)
cover_tree left right = ap query_tree (sym (queries.rolls-Cover left right)) ∙ fold-roll-Query QueryTree query_step (Query-F.Cover left right)

pub merge_tree : (left right : Box Query Global) → query_tree (queries.Merge left right) ≡ merged (query_tree left.value) (query_tree right.value)
merge_tree left right = ap query_tree (sym (queries.rolls-Merge left right)) ∙ fold-roll-Query QueryTree query_step (Query-F.Merge left right)

pub minus_tree : (left right : Box Query Global) → query_tree (queries.Minus left right) ≡ subtracted (query_tree left.value) (query_tree right.value)
minus_tree left right = ap query_tree (sym (queries.rolls-Minus left right)) ∙ fold-roll-Query QueryTree query_step (Query-F.Minus left right)

pub window_query_tree : (query : Box Query Global) (window : Window) → query_tree (queries.Window query window) ≡ windowed (query_tree query.value) (window_tree window)
window_query_tree query window = ap query_tree (sym (queries.rolls-Window query window)) ∙ fold-roll-Query QueryTree query_step (Query-F.Window query window)

pub transform_tree : (query : Box Query Global) (alignment : ArrayString) → query_tree (queries.Transform query alignment) ≡ transformed (query_tree query.value) alignment.bytes
transform_tree query alignment = ap query_tree (sym (queries.rolls-Transform query alignment)) ∙ fold-roll-Query QueryTree query_step (Query-F.Transform query alignment)

pub gaps_tree : (query : Box Query Global) → query_tree (queries.Gaps query) ≡ gapped (query_tree query.value)
gaps_tree query = ap query_tree (sym (queries.rolls-Gaps query)) ∙ fold-roll-Query QueryTree query_step (Query-F.Gaps query)
