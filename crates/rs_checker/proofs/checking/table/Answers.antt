use Rattle.std.proofs.Common.{◌≡◌, ◌++◌, map, length, sym, ap, subst, ◌∙◌, arith}
use Rattle.std.proofs.lemmas.List.{length-map}
use Rattle.std.specs.Option.{option_copied}
use Rattle.rs_syntax.specs.View.{column_tree}
use Rattle.rs_checker.proofs.TableLaws.{no_table, table_made, table_is}
use Rattle.rs_checker.specs.Numbers.{AreNumberedIn}
use Rattle.rs_checker.proofs.NumberLaws.{table-names}
use Rattle.rs_checker.proofs.checking.table.Goals as goal
use Rattle.rs_checker.proofs.checking.table.Goals.{After-kind-in-Some}

pub joined-columns-requires : goal.joined-columns-requires
joined-columns-requires c =
    let few = (c.stand.ensures.tables c.args.name.now.bytes c.in-Some.table.now (sym c.table.ensures ∙ ap option_copied c.in-Some.is)).1 in
    let seen = ap length c.columns.ensures in
    let long = length-map c.columns.result.now column_tree in
    let none = ap length c.new.ensures in
    omega (arith, few, seen, long, none)

same_columns : (c : After-kind-in-Some) → map column_tree c.joined-columns.result.items ≡ c.in-Some.table.now.columns
same_columns c = c.joined-columns.ensures ∙ ap (λ zs. map column_tree zs ++ map column_tree c.columns.result.now) c.new.ensures ∙ c.columns.ensures

pub returns-in-Some-clause-ok : goal.returns-in-Some-clause-ok
returns-in-Some-clause-ok c = λ on.
    let there = sym c.table.ensures ∙ ap option_copied c.in-Some.is in
    table_made c.args.catalog.now on c.args.name.now.bytes c.in-Some.table.now there ((c.stand.ensures.tables c.args.name.now.bytes c.in-Some.table.now there).1) _ (table_is _) c.kind-in-Some.ensures
    (same_columns c)

pub returns-in-Some-clause-numbers : goal.returns-in-Some-clause-numbers
returns-in-Some-clause-numbers c =
    let there = sym c.table.ensures ∙ ap option_copied c.in-Some.is in
    let wide : c.len.result ≡ length c.in-Some.table.now.columns = c.len.ensures.value ∙ sym (length-map c.joined-columns.result.items column_tree) ∙ ap length (same_columns c) in
    subst (AreNumberedIn c.args.catalog.now) (sym (table-names _)) ((c.in-Some.table.now, there, sym c.number.ensures, sym c.kind.ensures, sym wide), tt)

pub returns-in-None-clause-refused : goal.returns-in-None-clause-refused
returns-in-None-clause-refused c = λ on. no_table c.args.catalog.now on c.args.name.now.bytes (sym c.table.ensures ∙ ap option_copied c.in-None.is)
