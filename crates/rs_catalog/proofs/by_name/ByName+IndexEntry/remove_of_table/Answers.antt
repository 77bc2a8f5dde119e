use Rattle.std.proofs.Common.{◌≡◌, not, filter, rules, ap, ◌∙◌}
use Rattle.std.proofs.lemmas.Map.Made.{filter_same_pairs}
use Rattle.rs_facts.specs.Insert.{same_name}
use Rattle.rs_catalog.specs.Changes.{indexes_of_others}
use Rattle.rs_catalog.specs.Definitions.{IndexItem}
use Rattle.rs_catalog.specs.Names.{names_of}
use Rattle.rs_catalog.proofs.Names.{names_of-kept}
use Rattle.rs_catalog.proofs.DefinitionLaws.{same_kept}
use Rattle.rs_catalog.proofs.by_name.ByName+IndexEntry.remove_of_table.Goals as goal
use Rattle.rs_catalog.proofs.by_name.ByName+IndexEntry.remove_of_table.Goals.{After-retain}

filtered : (c : After-retain) → c.retain.new.self.entries ≡ filter (λ e. not (same_name c.args.table.now.bytes e.1.table)) c.self.inside.entries.entries
filtered c = filter_same_pairs _ (λ e. not (same_name c.args.table.now.bytes e.1.table)) _ (λ k v b w f' t. search rules) _ _ c.retain.ensures.filtered

pub returns : goal.returns
returns c =
    names_of-kept (λ (item : IndexItem). not (same_name c.args.table.now.bytes item.table)) c.self.inside.entries.entries c.retain.new.self.entries c.retain.ensures.was_ordered (filtered c)
    ∙ same_kept c.args.table.now.bytes (names_of (λ x. x) c.self.inside.entries.entries)
    ∙ ap (indexes_of_others c.args.table.now.bytes) c.self.view_is
