-- What stands in the catalogue, as the machine knows it.
use Rattle.std.proofs.Common.{◌≡◌, Option, Some, None, Bor, sym, ap, ◌∙◌}
use Rattle.std.specs.Option.{option_map, option_copied}
use Rattle.std.specs.FinMap as names
use Rattle.rs_facts.specs.Fact.{Name}
use Rattle.rs_syntax.specs.declared.queries.Query.{Query}
use Rattle.rs_syntax.specs.QueryView.{query_tree}
use Rattle.rs_catalog.specs.Definitions.{ViewItem, Definitions, views_of}
use Rattle.rs_catalog.proofs.Names.{get-map_values}

pub view_there : (definitions : Definitions) (name : Name) (found : Option (Bor ViewItem)) (view : Bor ViewItem) (query : Query) → option_copied found ≡ names.get definitions.views name → found ≡ Some view → query ≡ view.now.query
    → names.get (views_of definitions) name ≡ Some (query_tree query)
view_there definitions name found view query e is same =
    get-map_values (λ item. query_tree item.query) definitions.views name
    ∙ ap (option_map (λ item. query_tree item.query)) (sym e ∙ ap option_copied is) ∙ ap (λ q. Some (query_tree q)) (sym same)

pub view_missing : (definitions : Definitions) (name : Name) (found : Option (Bor ViewItem)) → option_copied found ≡ names.get definitions.views name → found ≡ None → names.get (views_of definitions) name ≡ None
view_missing definitions name found e is =
    get-map_values (λ item. query_tree item.query) definitions.views name ∙ ap (option_map (λ item. query_tree item.query)) (sym e ∙ ap option_copied is)
