-- A store in which definitions came or went: what it is left as, and the state that it has become.
use Rattle.std.proofs.Common.{◌≡◌, ◌≤◌, ◌<◌, ◌+◌, ◌^◌, ◌++◌, ℕ, true, false, List, [], ◌∷◌, Result, Ok, Err, None, Some, length, refl, sym, arith}
use Rattle.std.specs.FinMap as names
use Rattle.std.specs.List.{AllByRecursion, AllZip}
use Rattle.std.specs.Prelude.{OnErr, OnOk, Option, codes, is_some}
use Rattle.std.specs.Result.{is_err}
use Rattle.std.proofs.lemmas.Bool.{false≢true}
use Rattle.std.proofs.lemmas.List.{length-append}
use Rattle.std.proofs.lemmas.List.Elements.{All-from_recursion}
use Rattle.rs_catalog.specs.Definitions as catalog
use Rattle.rs_catalog.specs.Definitions.{Definitions, Numbered}
use Rattle.rs_catalog.specs.Referents.{HeldReferents}
use Rattle.rs_catalog_pages.specs.Items.{ViewItem}
use Rattle.rs_cell_versions.specs.declared.cell.TheConstants.{LIVING}
use Rattle.rs_changes.specs.Changing.{GivesState}
use Rattle.rs_changes.specs.Standing.{StandsAt}
use Rattle.rs_disk.specs.declared.disk.Disk as disk
use Rattle.rs_facts.specs.Fact.{Name, Names}
use Rattle.rs_file.specs.Contents.{Contents}
use Rattle.rs_file_meaning.specs.States.{HasLine, IsViewOf}
use Rattle.rs_file_parts.specs.Calls.{ChangesDefinitions}
use Rattle.rs_machine.specs.Request.{Asks, command}
use Rattle.rs_machine.specs.State.{State, has}
use Rattle.rs_machine.specs.declared.limits.TheConstants.{CHANGES}
use Rattle.rs_machine_laws.specs.ViewLines.{IsReadable, shortest_view_line}
use Rattle.rs_pager.specs.Maps.{committed}
use Rattle.rs_store.specs.Kept.{StandsIn, StoreState}
use Rattle.rs_store.specs.Rewriting.{CanBeKept}
use Rattle.rs_stored_catalog.specs.Listing.{listing_of}
use Rattle.rs_syntax.specs.QueryView.{query_tree}
use Rattle.rs_syntax.specs.Tree.{QueryTree, define_view}

-- ---- definitions that can be kept

-- what is said of a line that defines a view
abbrev pub IsLineReadable : Type 0
IsLineReadable = (line : List ℕ) (session : ℕ) (name : List ℕ) (query : QueryTree) (text : List ℕ) → Asks line (command session (define_view name query text)) → IsReadable (shortest_view_line name text)

text_short : IsLineReadable → (name : Name) (query : QueryTree) (text : List ℕ) → HasLine name query text → length text < 2 ^ 16
text_short readable name query text has =
    let few = (readable has.line has.session name query text has.asks).few in
    omega (arith, few, length-append (codes "0 DEFINE VIEW ") (name ++ (codes " AS " ++ text)), length-append name (codes " AS " ++ text), length-append (codes " AS ") text)

pub texts_short : IsLineReadable → (views : List ViewItem) (entries : List (Name × catalog.ViewItem)) → AllZip IsViewOf views entries → AllByRecursion (λ view. length view.text < 2 ^ 16) views
texts_short readable [] entries are = tt
texts_short readable (view ∷ views) [] are = absurd are
texts_short readable (view ∷ views) (entry ∷ entries) are =
    (text_short readable view.name (query_tree entry.1.query) view.text are.0.defined, texts_short readable views entries are.1)

-- definitions that give a lawful state can be kept
pub can_be_kept : IsLineReadable → (oldest : ℕ) (old : Contents) (next : Definitions) (held : Numbered HeldReferents) (after : State)
    → GivesState oldest old (record old { definitions = listing_of next }) next held after → CanBeKept (listing_of next)
can_be_kept readable oldest old next held after gives = record {
  meant = gives.meant.definitions;
  texts = All-from_recursion (λ (view : ViewItem). length view.text < 2 ^ 16) (listing_of next).views
      (texts_short readable (listing_of next).views _ gives.memory.catalog.views);
}

-- what has a name is there
pub stood_there : {X : Type 0} (values : Names X) (name : Name) → has values name ≡ true → (x : X) × (names.get values name ≡ Some x)
stood_there values name is = found (names.get values name) is where
  found : {X : Type 0} (one : Option X) → is_some one ≡ true → (x : X) × (one ≡ Some x)
  found None none = absurd (false≢true none)
  found (Some x) some = (x, refl)

-- ---- answers

pub ok_never : {T E : Type 0} (P : Type 0) (r : Result T E) → is_err r ≡ true → OnOk r P
ok_never P (Ok x) is = absurd (false≢true is)
ok_never P (Err e) is = tt

pub err_never : {T E : Type 0} (P : Type 0) (r : Result T E) → is_err r ≡ false → OnErr r P
err_never P (Ok x) is = tt
err_never P (Err e) is = absurd (false≢true (sym is))

module _ {D : Type 0} (d : disk.Ghosts D) (was : StoreState D) where
  -- a store that stands in a state has committed pages that stand for it
  abbrev pub stands_still : (from : ℕ) (state : State) → StandsIn d from was state → StandsAt from (committed d was.pager) was.file was.catalog was.referents state
  stands_still from state stands = record {
    contents = stands.contents;
    holds = stands.keeps.holds;
    opened = stands.keeps.opened;
    memory = stands.keeps.memory;
    live = stands.live;
    meant = stands.meant;
    is = stands.is;
    views = stands.views;
  }

  -- the next version is one that a record can live to see
  pub next_lives : (from : ℕ) (state : State) (stands : StandsIn d from was state) → was.file.accepted < CHANGES → stands.contents.directory.accepted + 1 < LIVING
  next_lives from state stands room =
      let level : stands.contents.directory.accepted ≡ was.file.accepted = stands.keeps.opened.accepted in omega (arith, level, room)

  -- a state that allows other definitions of the same tables gives another
  abbrev pub Gives : Definitions → (State → Type 0) → (State → State) → Type 0
  Gives next may after = (from oldest : ℕ) (state : State) (stands : StandsIn d from was state) → from ≤ oldest → may state → (part : Contents)
      → ChangesDefinitions (listing_of next) stands.contents part → GivesState oldest stands.contents part next was.referents (after state)

  -- so a file can keep them
  pub given_kept : IsLineReadable → (next : Definitions) (may : State → Type 0) (after : State → State) → Gives next may after
      → (from : ℕ) (state : State) → StandsIn d from was state → may state → CanBeKept (listing_of next)
  given_kept readable next may after gives from state stands allowed =
      can_be_kept readable from stands.contents next was.referents (after state)
      (gives from from state stands (omega arith) allowed (record stands.contents { definitions = listing_of next }) (record { definitions_are = refl; rest = refl }))
