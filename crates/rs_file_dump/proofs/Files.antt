-- What is shown of a store stays while it is read, and is that of its state.
use Rattle.std.proofs.Common.{◌≡◌, ◌∙◌, ℕ, Some, List, ap, refl, subst, sym}
use Rattle.std.specs.FinMap as names
use Rattle.rs_catalog.specs.Definitions.{ViewItem}
use Rattle.rs_disk.specs.declared.disk.Disk as disk
use Rattle.rs_dump.specs.Shown.{Many, Shown}
use Rattle.rs_file.specs.Contents.{Contents}
use Rattle.rs_file.specs.declared.opened.OpenedFile.{OpenedFile}
use Rattle.rs_dump.specs.Shown.Many.{none, more}
use Rattle.rs_dump.specs.States.{HasDefiningLine, IsStateOf}
use Rattle.rs_facts.specs.Fact.{Name}
use Rattle.rs_facts.specs.Runs.{Stretch}
use Rattle.rs_facts.specs.Spans.{AreAllRunsOf}
use Rattle.rs_file_dump.specs.Files.{ShowsFile, whole_route}
use Rattle.rs_file_meaning.specs.Seen.{events_of, spans_seen}
use Rattle.rs_file_meaning.specs.States.{IsViewOf}
use Rattle.rs_machine.specs.Lawful.{IsLawful}
use Rattle.rs_machine.specs.State.{State, no_cursors}
use Rattle.rs_table_reads.specs.Read.{spans_in}
use Rattle.rs_file_meaning.proofs.Picked.{beside}
use Rattle.rs_store_source.specs.Kept.{StandsIn, StoreState}
use Rattle.rs_store_source.specs.Reading.{ReadsStore}
use Rattle.rs_store_source.proofs.Placed.{entry_there}
use Rattle.rs_store_source.proofs.Facts.{runs_at, whole_read}
use Rattle.rs_store_source.proofs.Passing.{passes_refl, passes_trans, stands_on}
use Rattle.rs_store_source.proofs.States.{StateIs}
use Rattle.rs_store_source.proofs.Within.{NoneLeftOut, RowsWithin}
use Rattle.rs_syntax.specs.QueryView.{query_tree}
use Rattle.rs_syntax.specs.Tree.{define_view}
use Rattle.rs_machine.specs.Request.{Asks, command}
use Rattle.rs_versioned.specs.Events.{facts_at}

module _ {D : Type 0} (d : disk.Ghosts D) where
  -- ---- reads

  pub shown_on : (old new : StoreState D) → ReadsStore d old new → (shown : Shown) → ShowsFile d old shown → ShowsFile d new shown
  shown_on old new reads shown shows = record {
    oldest = shows.oldest;
    state = shows.state;
    stands = stands_on d shows.oldest old new reads shows.state shows.stands;
    spans = λ table kind route.
        shows.spans table kind route
        ∙ ap (λ (file : OpenedFile). spans_in (whole_route kind file.accepted route) (events_of shows.stands.contents table)) (sym reads.keeps.file);
  }

  -- many reads keep what one keeps
  pub many_reads : {H : Type 0} (store_of : H → StoreState D) (first last : H) → Many (λ (old new : H). ReadsStore d (store_of old) (store_of new)) first last
      → ReadsStore d (store_of first) (store_of last)
  many_reads store_of first last none = passes_refl d (store_of first)
  many_reads store_of first last (more {mid} before one) =
      passes_trans d (store_of first) (store_of mid) (store_of last) (many_reads store_of first mid before) one

  -- ---- a store that stands in a state

  -- what it shows
  abbrev pub shown_of : StoreState D → Contents → Shown
  shown_of store contents = λ table kind route. spans_in (whole_route kind store.file.accepted route) (events_of contents table)

  pub shows_its_state : (oldest : ℕ) (store : StoreState D) (state : State) (stands : StandsIn d oldest store state) → ShowsFile d store (shown_of store stands.contents)
  shows_its_state oldest store state stands = record {
    oldest = oldest;
    state = state;
    stands = stands;
    spans = λ table kind route. refl;
  }

  module _ (oldest : ℕ) (store : StoreState D) (state : State) (stands : StandsIn d oldest store state) where
    line_of : (name : Name) (view : ViewItem) → names.get store.catalog.views name ≡ Some view → HasDefiningLine name view
    line_of name view there =
        let listed = beside IsViewOf stands.contents.definitions.views (names.entries store.catalog.views) (name, view) stands.keeps.memory.catalog.views
        (entry_there store.catalog.views name view there) in
        let is = listed.1 in
        subst (λ (text : List ℕ). (line : List ℕ) × (session : ℕ) × Asks line (command session (define_view name (query_tree view.query) text))) (sym is.text)
        (subst (λ (own : Name). (line : List ℕ) × (session : ℕ) × Asks line (command session (define_view own (query_tree view.query) listed.0.text))) (sym is.named)
        (is.defined.line, is.defined.session, is.defined.asks))

    pub is_state_of : StateIs d → NoneLeftOut → RowsWithin → IsLawful state → IsStateOf store.catalog store.referents (shown_of store stands.contents) state
    is_state_of state_is left rows lawful = record {
      lawful = lawful;
      spans_on = spans_seen stands.contents store.file.accepted;
      rest = record { changes = store.file.accepted; cursors = no_cursors };
      is = state_is oldest store state stands;
      spans = λ name table there on route at.
          subst (λ (spans : List Stretch). AreAllRunsOf table.kind (facts_at store.file.accepted route.number (events_of stands.contents table.number)) spans)
          (sym (whole_read d oldest store state stands left rows name table there route.number))
          (runs_at d oldest store state stands name table there route.number);
      views = line_of;
    }
