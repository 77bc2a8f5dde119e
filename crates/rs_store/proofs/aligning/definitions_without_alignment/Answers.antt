-- What is left of the list is what the other alignments list.
use Rattle.std.proofs.Common.{◌≡◌, ◌∙◌, List, filter, map, not, ap, refl, rules, string_bytes}
use Rattle.std.specs.FinMap as names
use Rattle.std.proofs.lemmas.Fn.{filter_same}
use Rattle.rs_catalog_pages.specs.Items.{AlignmentItem, CatalogueItems}
use Rattle.rs_catalog_pages.specs.Said.{said_alignment, said_catalogue}
use Rattle.rs_catalog_pages.specs.declared.items.StoredAlignment.{StoredAlignment}
use Rattle.rs_facts.specs.Insert.{same_name}
use Rattle.rs_store.proofs.Listed.{listed_without, seen_passing}
use Rattle.rs_store.proofs.aligning.definitions_without_alignment.Goals as goal
use Rattle.rs_stored_catalog.specs.Listing.{listed_alignment}

pub returns : goal.returns
returns c =
    let name = c.args.name.now.bytes in
    let was = c.in_ok-definitions.definitions in
    let catalog = c.args.catalog.now in
    let others : List AlignmentItem → List AlignmentItem = filter (λ alignment. not (same_name name alignment.name)) in
    let left : map said_alignment c.retain.new.self.items ≡ map (listed_alignment catalog.routes) (names.entries (names.remove catalog.alignments name)) =
    ap (map said_alignment) (filter_same _ (λ (alignment : StoredAlignment). not (same_name name (string_bytes alignment.name))) _ (λ x b f' k. search rules) _ _ c.retain.ensures.filtered)
    ∙ seen_passing said_alignment (λ (alignment : StoredAlignment). not (same_name name (string_bytes alignment.name))) (λ alignment. not (same_name name alignment.name)) was.alignments.items (λ alignment. refl)
    ∙ ap (λ (items : CatalogueItems). others items.alignments) c.in_ok-definitions.ensures
    ∙ listed_without catalog.alignments name (listed_alignment catalog.routes) (λ alignment. alignment.name) (λ entry. refl) in
    ap (λ (alignments : List AlignmentItem). record (said_catalogue was) { alignments = alignments }) left
    ∙ ap (λ (items : CatalogueItems). record items { alignments = map (listed_alignment catalog.routes) (names.entries (names.remove catalog.alignments name)) }) c.in_ok-definitions.ensures
