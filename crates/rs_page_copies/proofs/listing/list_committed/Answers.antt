-- The numbers are those of the committed pages, with page 0 before them where its fields are changed.
use Rattle.std.proofs.Common.{Bool, true, sym, subst}
use Rattle.rs_page_copies.specs.Listed.{ListsCommitted}
use Rattle.rs_page_copies.proofs.Numbering.{lists_alone, lists_with_first}
use Rattle.rs_page_copies.proofs.listing.list_committed.Goals as goal

pub returns-in_ok-insert : goal.returns-in_ok-insert
returns-in_ok-insert c = subst (λ (changed : Bool). ListsCommitted c.args.changes.now changed c.insert.new.self.items) (sym c.if-is_header_changed.true)
    (subst (ListsCommitted c.args.changes.now true) (sym c.in_ok-insert.ensures.items)
    (lists_with_first c.args.changes.now c.list_committed.new.numbers.items c.in_ok-list_committed.ensures c.requires))

pub returns-else-is_header_changed : goal.returns-else-is_header_changed
returns-else-is_header_changed c = subst (λ (changed : Bool). ListsCommitted c.args.changes.now changed c.list_committed.new.numbers.items) (sym c.if-is_header_changed.false)
    (lists_alone c.args.changes.now c.list_committed.new.numbers.items c.in_ok-list_committed.ensures)
