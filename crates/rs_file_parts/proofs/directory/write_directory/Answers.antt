-- The directory of what is open is stored beside it.
use Rattle.std.proofs.Common.{List, subst, sym}
use Rattle.std.specs.List.{AllZip}
use Rattle.rs_file.specs.Opening.{IsOpened}
use Rattle.rs_file.specs.declared.opened.OpenedTable.{OpenedTable}
use Rattle.rs_file_parts.specs.Calls.{HoldsNoDirectory}
use Rattle.rs_file_parts.proofs.Written.{directory_written, no_directory}
use Rattle.rs_page_owners.proofs.Working.{works_of}
use Rattle.rs_pages.specs.PageMap.{HasNoFit}
use Rattle.rs_tree.proofs.Loading.{on_ok}
use Rattle.rs_file_parts.proofs.directory.write_directory.Goals as goal

pub returns-clause-leaves : goal.returns-clause-leaves
returns-clause-leaves g c =
    let old = g.P.Pages.store c.args.pages.now in
    record {
      keeps = c.store_directory.ensures.leaves.keeps;
      works = works_of (g.P.Pages.is_tied c.args.pages.now → HasNoFit old.map 1) (g.P.Pages.is_tied c.args.pages.now → HoldsNoDirectory old.map) c.store_directory.result
          old (g.P.Pages.store c.store_directory.new.pages) (λ none tied. no_directory old.map (none tied)) c.store_directory.ensures.leaves.works;
    }

pub returns-clause-writes : goal.returns-clause-writes
returns-clause-writes g c = λ tied.
    on_ok c.store_directory.result (c.store_directory.ensures.stores tied) (λ stores.
    directory_written (g.P.Pages.store c.args.pages.now).map (g.P.Pages.store c.store_directory.new.pages).map c.args.file.now c.args.version c.in_ok-directory.directory c.in_ok-directory.ensures.accepted
    (λ contents definitions opened referents. c.in_ok-directory.ensures.said contents definitions
    (subst (λ (ts : List OpenedTable). AllZip IsOpened ts contents.tables) (sym c.as_slice-tables.ensures.value) opened) referents) stores)
