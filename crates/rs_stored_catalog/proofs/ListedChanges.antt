-- The listing of definitions after one of them is added or taken out.
use Rattle.std.proofs.Common.{◌≡◌, ◌==◌, ◌||◌, ℕ, Bool, true, false, cond, not, Some, None, is_some, List, [], ◌∷◌, map, filter, refl, sym, ap, subst, ◌∙◌}
use Rattle.std.specs.List.{AllByRecursion, list_any}
use Rattle.std.specs.Ordering.{eq_by_cmp, is_eq}
use Rattle.std.specs.declared.cmp.Ordering.{Ordering}
use Rattle.std.specs.declared.cmp.Ordering.TheVariants.{Less, Equal, Greater}
use Rattle.std.specs.Cmp.{eq_by_cmp_equiv}
use Rattle.std.specs.FinMap as names
use Rattle.std.specs.FinMap.{entries-from_sorted, entries-insert, entries_sorted, find, get-entries, get-from_sorted, get-insert, get-remove, get-retain_keys, same_map}
use Rattle.std.specs.FinMap.Entries.{by_order, find-where_key, is_sorted-where_key, put, where_key}
use Rattle.std.proofs.lemmas.Bool.{eqb-false, eqb-true, false≢true}
use Rattle.std.proofs.lemmas.List.{map-append}
use Rattle.std.proofs.lemmas.Option.{none-some, same_Some}
use Rattle.rs_catalog.specs.Changes.{indexes_of_others, is_of_another, with_alignment, with_index, with_route, with_table, with_view, without_alignment, without_index, without_route, without_table, without_view}
use Rattle.rs_catalog.specs.Definitions as catalog
use Rattle.rs_catalog.specs.Definitions.{AreDefinitions, Definitions}
use Rattle.rs_catalog.specs.Uses.{some_piece_on}
use Rattle.rs_catalog.proofs.NameOrder.{name_cmp-antisymmetric, name_cmp-total}
use Rattle.rs_catalog_pages.specs.Items.{CatalogueItems, IndexItem}
use Rattle.rs_stored_catalog.specs.Listing.{listed_alignment, listed_index, listed_piece, listed_route, listed_table, listed_view, listing_of, number_found}
use Rattle.rs_stored_catalog.specs.Relisting.{HasAlignmentMore, HasIndexMore, IsPutBetween, HasRouteMore, HasTableMore, HasViewMore, LosesTable}
use Rattle.rs_facts.specs.Fact.{Name, Names, name_cmp}
use Rattle.rs_facts.specs.Insert.{same_name}
use Rattle.rs_facts.specs.Query.{Piece}
use Rattle.rs_facts.specs.WellFormed.{IsPieceOn}
use Rattle.rs_file_meaning.proofs.Named as named
use Rattle.rs_file_meaning.proofs.Named.{itself}
use Rattle.rs_machine.specs.Opening.{piece_on}
use Rattle.rs_machine.specs.State.{has}
use Rattle.rs_stored_catalog.proofs.ListedMaps.{each_of, each_under, map-filtered, value_of}

-- ---- lists

-- what is seen of the items
pub more_seen : {X Y : Type 0} (f : X → Y) (one : X) (old now : List X) → IsPutBetween one old now → IsPutBetween (f one) (map f old) (map f now)
more_seen f one old now more = record {
  before = map f more.before;
  after = map f more.after;
  was = ap (map f) more.was ∙ map-append f more.before more.after;
  is = ap (map f) more.is ∙ map-append f more.before (one ∷ more.after);
}

-- items that are seen alike by two functions
map-alike : {X Y : Type 0} (f g : X → Y) (xs : List X) → AllByRecursion (λ x. f x ≡ g x) xs → map f xs ≡ map g xs
map-alike f g [] all = refl
map-alike f g (x ∷ xs) all = λ i. all.0 i ∷ map-alike f g xs all.1 i

-- where a test passes none
none_passes : {X : Type 0} (test : X → Bool) (xs : List X) → list_any test xs ≡ false → AllByRecursion (λ x. test x ≡ false) xs
none_passes test [] none = tt
none_passes test (x ∷ xs) none = let parts = neither (test x) (list_any test xs) none in (parts.0, none_passes test xs parts.1) where
  neither : (a b : Bool) → (a || b) ≡ false → (a ≡ false) × (b ≡ false)
  neither true b e = absurd (false≢true (sym e))
  neither false b e = (refl, e)

-- ---- maps by name

no_value : {X : Type 0} (m : Names X) (name : Name) → has m name ≡ false → names.get m name ≡ None
no_value m name none = elim (names.get m name) as (λ o. is_some o ≡ false → o ≡ None) [
  | None ↦ λ e. refl
  | Some x ↦ λ e. absurd (false≢true (sym e))
] none

-- a new entry is put between those of lower names and those of higher ones
put_more : {X : Type 0} (name : Name) (x : X) (es : List (Name × X)) → find name_cmp name es ≡ None → IsPutBetween (name, x) es (put name_cmp name x es)
put_more name x [] none = record { before = []; after = []; was = refl; is = refl }
put_more {X} name x (e ∷ es) none = by_turn (name_cmp name e.0) none (put_more name x es) where
  further : IsPutBetween (name, x) es (put name_cmp name x es) → IsPutBetween (name, x) (e ∷ es) (e ∷ put name_cmp name x es)
  further more = record { before = e ∷ more.before; after = more.after; was = ap (λ l. e ∷ l) more.was; is = ap (λ l. e ∷ l) more.is }

  by_turn : (order : Ordering) → cond (is_eq order) (Some e.1) (find name_cmp name es) ≡ None
      → (find name_cmp name es ≡ None → IsPutBetween (name, x) es (put name_cmp name x es))
      → IsPutBetween (name, x) (e ∷ es) (by_order order ((name, x) ∷ e ∷ es) ((e.0, x) ∷ es) (e ∷ put name_cmp name x es))
  by_turn Less given rest = record { before = []; after = e ∷ es; was = refl; is = refl }
  by_turn Equal given rest = absurd (none-some e.1 (sym given))
  by_turn Greater given rest = further (rest given)

insert_more : {X : Type 0} (m : Names X) (name : Name) (x : X) → names.get m name ≡ None → IsPutBetween (name, x) (names.entries m) (names.entries (names.insert m name x))
insert_more m name x none =
    subst (IsPutBetween (name, x) (names.entries m)) (sym (entries-insert name_cmp-total m name x)) (put_more name x (names.entries m) (sym (get-entries m name) ∙ none))

-- what is taken out can be put back
put_back : {X : Type 0} (m : Names X) (name : Name) (x : X) → names.get m name ≡ Some x → names.insert (names.remove m name) name x ≡ m
put_back m name x there = same_map name_cmp-total name_cmp-antisymmetric _ _ (λ q.
    get-insert name_cmp-total (names.remove m name) name x q
    ∙ elim (eq_by_cmp name_cmp q name) as (λ b. eq_by_cmp name_cmp q name ≡ b → cond b (Some x) (names.get (names.remove m name) q) ≡ names.get m q) [
      | true ↦ λ same. sym there ∙ ap (names.get m) (sym (named.same_name q name same))
      | false ↦ λ other. get-remove name_cmp-total m name q ∙ ap (λ b. cond b None (names.get m q)) other
    ] refl)

remove_less : {X : Type 0} (m : Names X) (name : Name) (x : X) → names.get m name ≡ Some x → IsPutBetween (name, x) (names.entries (names.remove m name)) (names.entries m)
remove_less m name x there =
    subst (λ n. IsPutBetween (name, x) (names.entries (names.remove m name)) (names.entries n)) (put_back m name x there)
    (insert_more (names.remove m name) name x (get-remove name_cmp-total m name name ∙ ap (λ b. cond b None (names.get m name)) (itself name)))

-- the entries whose names pass
entries-retained : {X : Type 0} (m : Names X) (p : Name → Bool) → names.entries (names.retain_keys m p) ≡ filter (λ e. p e.0) (names.entries m)
entries-retained m p =
    let sorted = is_sorted-where_key name_cmp p (names.entries m) (entries_sorted m) in
    ap names.entries (same_map name_cmp-total name_cmp-antisymmetric (names.retain_keys m p) (names.from_sorted (where_key name_cmp p (names.entries m))) (λ q.
    get-retain_keys m p q (λ x tied. ap p (sym (name_cmp-antisymmetric q x tied)))
    ∙ ap (λ o. cond (p q) o None) (get-entries m q)
    ∙ sym (find-where_key name_cmp p q (λ x tied. ap p (sym (name_cmp-antisymmetric q x tied))) (names.entries m))
    ∙ sym (get-from_sorted name_cmp (where_key name_cmp p (names.entries m)) q sorted)))
    ∙ entries-from_sorted name_cmp (where_key name_cmp p (names.entries m)) sorted

-- ---- alignments, whose routes are found as they were

abbrev SameFound : Names catalog.RouteItem → Names catalog.RouteItem → Piece → Type 0
SameFound one other piece = (names.get one piece.from_route ≡ names.get other piece.from_route) × (names.get one piece.onto_route ≡ names.get other piece.onto_route)

same_piece : (one other : Names catalog.RouteItem) (piece : Piece) → SameFound one other piece → listed_piece one piece ≡ listed_piece other piece
same_piece one other piece same = λ i. record {
  from_route = number_found (same.0 i);
  from = piece.from;
  to = piece.to;
  onto_route = number_found (same.1 i);
  onto = piece.onto;
}

same_alignments : (one other : Names catalog.RouteItem) (entries : List (Name × List Piece)) → AllByRecursion (λ e. AllByRecursion (SameFound one other) e.1) entries
    → map (listed_alignment one) entries ≡ map (listed_alignment other) entries
same_alignments one other [] all = refl
same_alignments one other (e ∷ es) all = λ i. record {
  name = e.0;
  pieces = map-alike (listed_piece one) (listed_piece other) e.1
      (each_of (SameFound one other) (λ piece. listed_piece one piece ≡ listed_piece other piece) (same_piece one other) e.1 all.0) i;
} ∷ same_alignments one other es all.1 i

-- a route that was not there is none that is found
found_beside : (m : Names catalog.RouteItem) (name : Name) (item : catalog.RouteItem) → names.get m name ≡ None → (route : Name) (found : catalog.RouteItem)
    → names.get m route ≡ Some found → names.get (names.insert m name item) route ≡ names.get m route
found_beside m name item none route found there =
    get-insert name_cmp-total m name item route
    ∙ elim (eq_by_cmp name_cmp route name) as (λ b. eq_by_cmp name_cmp route name ≡ b → cond b (Some item) (names.get m route) ≡ names.get m route) [
      | true ↦ λ same. absurd (none-some found (sym none ∙ ap (names.get m) (sym (named.same_name route name same)) ∙ there))
      | false ↦ λ other. refl
    ] refl

-- nor is one that is taken out, where no piece names it
found_without : (m : Names catalog.RouteItem) (name route : Name) → same_name name route ≡ false → names.get (names.remove m name) route ≡ names.get m route
found_without m name route other =
    get-remove name_cmp-total m name route ∙ ap (λ b. cond b None (names.get m route)) ((eq_by_cmp_equiv name_cmp-total).symm route name ∙ other)

module _ (definitions : Definitions) where
  abbrev old : CatalogueItems
  old = listing_of definitions

  -- ---- routes

  alignments_with : (name : Name) (item : catalog.RouteItem) → AreDefinitions definitions → names.get definitions.routes name ≡ None
      → map (listed_alignment (names.insert definitions.routes name item)) (names.entries definitions.alignments) ≡ old.alignments
  alignments_with name item are none = same_alignments (names.insert definitions.routes name item) definitions.routes (names.entries definitions.alignments)
      (each_under (λ alignment pieces. AllByRecursion (SameFound (names.insert definitions.routes name item) definitions.routes) pieces) definitions.alignments (λ alignment pieces there.
      each_of (IsPieceOn (catalog.routes_of definitions)) (SameFound (names.insert definitions.routes name item) definitions.routes) (λ piece lies.
      let one = value_of (λ (r : catalog.RouteItem). r.ends) definitions.routes piece.from_route lies.first lies.first_there in
      let other = value_of (λ (r : catalog.RouteItem). r.ends) definitions.routes piece.onto_route lies.second lies.second_there in
      (found_beside definitions.routes name item none piece.from_route one.value one.there, found_beside definitions.routes name item none piece.onto_route other.value other.there))
      pieces (are.alignments alignment pieces there)))

  pub route_more : (name : Name) (item : catalog.RouteItem) → AreDefinitions definitions → has definitions.routes name ≡ false
      → HasRouteMore (listed_route (name, item)) old (listing_of (with_route definitions name item))
  route_more name item are new =
      let none = no_value definitions.routes name new in
      record {
        routes = more_seen listed_route (name, item) (names.entries definitions.routes) (names.entries (names.insert definitions.routes name item)) (insert_more definitions.routes name item none);
        others = λ i. record {
          routes = map listed_route (names.entries (names.insert definitions.routes name item));
          tables = old.tables;
          indexes = old.indexes;
          views = old.views;
          alignments = alignments_with name item are none i;
        };
      }

  alignments_without : (name : Name) → some_piece_on definitions name ≡ false → map (listed_alignment (names.remove definitions.routes name)) (names.entries definitions.alignments) ≡ old.alignments
  alignments_without name none = same_alignments (names.remove definitions.routes name) definitions.routes (names.entries definitions.alignments)
      (each_of (λ (alignment : Name × List Piece). list_any (piece_on name) alignment.1 ≡ false) (λ e. AllByRecursion (SameFound (names.remove definitions.routes name) definitions.routes) e.1)
      (λ alignment isnt. each_of (λ piece. piece_on name piece ≡ false) (SameFound (names.remove definitions.routes name) definitions.routes) (λ piece off.
      let parts = neither (same_name name piece.from_route) (same_name name piece.onto_route) off in
      (found_without definitions.routes name piece.from_route parts.0, found_without definitions.routes name piece.onto_route parts.1))
      alignment.1 (none_passes (piece_on name) alignment.1 isnt))
      (names.entries definitions.alignments) (none_passes (λ (alignment : Name × List Piece). list_any (piece_on name) alignment.1) (names.entries definitions.alignments) none))
    where
      neither : (a b : Bool) → (a || b) ≡ false → (a ≡ false) × (b ≡ false)
      neither true b e = absurd (false≢true (sym e))
      neither false b e = (refl, e)

  pub route_less : (name : Name) (item : catalog.RouteItem) → names.get definitions.routes name ≡ Some item → some_piece_on definitions name ≡ false
      → HasRouteMore (listed_route (name, item)) (listing_of (without_route definitions name)) old
  route_less name item there none = record {
    routes = more_seen listed_route (name, item) (names.entries (names.remove definitions.routes name)) (names.entries definitions.routes) (remove_less definitions.routes name item there);
    others = λ i. record {
      routes = old.routes;
      tables = old.tables;
      indexes = old.indexes;
      views = old.views;
      alignments = sym (alignments_without name none) i;
    };
  }

  -- ---- tables

  pub table_more : (name : Name) (item : catalog.TableItem) → has definitions.tables name ≡ false
      → HasTableMore (listed_table (name, item)) old (listing_of (with_table definitions name item))
  table_more name item new = record {
    tables = more_seen listed_table (name, item) (names.entries definitions.tables) (names.entries (names.insert definitions.tables name item))
        (insert_more definitions.tables name item (no_value definitions.tables name new));
    others = refl;
  }

  -- an index is of the table's name where it is of its number
  of_number : (name : Name) (item : catalog.TableItem) → AreDefinitions definitions → names.get definitions.tables name ≡ Some item
      → (index : Name) (kept : catalog.IndexItem) → names.get definitions.indexes index ≡ Some kept → same_name name kept.table ≡ (kept.table_number == item.number)
  of_number name item are there index kept found =
      let of = (are.indexes index kept found).1 in
      elim (same_name name kept.table) as (λ b. same_name name kept.table ≡ b → b ≡ (kept.table_number == item.number)) [
        | true ↦ λ same.
            let one = same_Some item of.table (sym there ∙ ap (names.get definitions.tables) (named.same_name name kept.table same) ∙ of.there) in
            sym (equal kept.table_number item.number (sym of.numbered ∙ ap (λ (t : catalog.TableItem). t.number) (sym one)))
        | false ↦ λ other.
            sym (unequal kept.table_number item.number (λ same. false≢true (sym other ∙ ap (same_name name)
            (are.table_numbers kept.table name of.table item of.there there (of.numbered ∙ same)) ∙ itself name)))
      ] refl
    where
      equal : (a b : ℕ) → a ≡ b → (a == b) ≡ true
      equal a b same = elim (a == b) as (λ x. (a == b) ≡ x → x ≡ true) [
        | true ↦ λ e. refl
        | false ↦ λ e. absurd (eqb-false a b e same)
      ] refl

      unequal : (a b : ℕ) → (a ≡ b → ⊥) → (a == b) ≡ false
      unequal a b other = elim (a == b) as (λ x. (a == b) ≡ x → x ≡ false) [
        | true ↦ λ e. absurd (other (eqb-true a b e))
        | false ↦ λ e. refl
      ] refl

  indexes_left : (name : Name) (item : catalog.TableItem) → AreDefinitions definitions → names.get definitions.tables name ≡ Some item
      → map listed_index (names.entries (indexes_of_others name definitions.indexes)) ≡ filter (λ (index : IndexItem). not (index.table == item.number)) old.indexes
  unfolding indexes_of_others
  indexes_left name item are there =
      ap (map listed_index) (entries-retained definitions.indexes (λ index. is_of_another name (names.get definitions.indexes index)))
      ∙ map-filtered listed_index (λ e. is_of_another name (names.get definitions.indexes e.0)) (λ (index : IndexItem). not (index.table == item.number)) (names.entries definitions.indexes)
      (each_under (λ index kept. is_of_another name (names.get definitions.indexes index) ≡ not (kept.table_number == item.number)) definitions.indexes
      (λ index kept found. ap (is_of_another name) found ∙ ap not (of_number name item are there index kept found)))

  pub table_less : (name : Name) (item : catalog.TableItem) → AreDefinitions definitions → names.get definitions.tables name ≡ Some item
      → LosesTable (listed_table (name, item)) old (listing_of (without_table definitions name))
  table_less name item are there = record {
    tables = more_seen listed_table (name, item) (names.entries (names.remove definitions.tables name)) (names.entries definitions.tables) (remove_less definitions.tables name item there);
    indexes = indexes_left name item are there;
    others = refl;
  }

  -- ---- indexes, views and alignments

  pub index_more : (name : Name) (item : catalog.IndexItem) → has definitions.indexes name ≡ false
      → HasIndexMore (listed_index (name, item)) old (listing_of (with_index definitions name item))
  index_more name item new = record {
    indexes = more_seen listed_index (name, item) (names.entries definitions.indexes) (names.entries (names.insert definitions.indexes name item))
        (insert_more definitions.indexes name item (no_value definitions.indexes name new));
    others = refl;
  }

  pub index_less : (name : Name) (item : catalog.IndexItem) → names.get definitions.indexes name ≡ Some item
      → HasIndexMore (listed_index (name, item)) (listing_of (without_index definitions name)) old
  index_less name item there = record {
    indexes = more_seen listed_index (name, item) (names.entries (names.remove definitions.indexes name)) (names.entries definitions.indexes) (remove_less definitions.indexes name item there);
    others = refl;
  }

  pub view_more : (name : Name) (item : catalog.ViewItem) → has definitions.views name ≡ false
      → HasViewMore (listed_view (name, item)) old (listing_of (with_view definitions name item))
  view_more name item new = record {
    views = more_seen listed_view (name, item) (names.entries definitions.views) (names.entries (names.insert definitions.views name item))
        (insert_more definitions.views name item (no_value definitions.views name new));
    others = refl;
  }

  pub view_less : (name : Name) (item : catalog.ViewItem) → names.get definitions.views name ≡ Some item
      → HasViewMore (listed_view (name, item)) (listing_of (without_view definitions name)) old
  view_less name item there = record {
    views = more_seen listed_view (name, item) (names.entries (names.remove definitions.views name)) (names.entries definitions.views) (remove_less definitions.views name item there);
    others = refl;
  }

  pub alignment_more : (name : Name) (pieces : List Piece) → has definitions.alignments name ≡ false
      → HasAlignmentMore (listed_alignment definitions.routes (name, pieces)) old (listing_of (with_alignment definitions name pieces))
  alignment_more name pieces new = record {
    alignments = more_seen (listed_alignment definitions.routes) (name, pieces) (names.entries definitions.alignments) (names.entries (names.insert definitions.alignments name pieces))
        (insert_more definitions.alignments name pieces (no_value definitions.alignments name new));
    others = refl;
  }

  pub alignment_less : (name : Name) (pieces : List Piece) → names.get definitions.alignments name ≡ Some pieces
      → HasAlignmentMore (listed_alignment definitions.routes (name, pieces)) (listing_of (without_alignment definitions name)) old
  alignment_less name pieces there = record {
    alignments = more_seen (listed_alignment definitions.routes) (name, pieces) (names.entries (names.remove definitions.alignments name)) (names.entries definitions.alignments)
        (remove_less definitions.alignments name pieces there);
    others = refl;
  }
