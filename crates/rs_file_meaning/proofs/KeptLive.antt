-- Live versions see of contents what they saw.
use Rattle.std.proofs.Common.{◌≡◌, ◌<◌, ◌≤◌, ◌==◌, ◌∙◌, inl, inr, ℕ, true, false, Some, None, List, [], ◌∷◌, ◌++◌, length, map, refl, sym, ap, subst, arith}
use Rattle.std.specs.Prelude.{Contains, if◌then◌else◌}
use Rattle.std.specs.FinMap as names
use Rattle.std.specs.FinMap.{entries-from_sorted, same_map}
use Rattle.std.specs.List.{AllZip}
use Rattle.std.specs.List.Sorted.{IsPermutation}
use Rattle.std.proofs.lemmas.Bool.{eqb-true, leb-true}
use Rattle.std.proofs.lemmas.List.Elements.{Contains-append_left, Contains-append_right, Contains-append_cases}
use Rattle.std.proofs.lemmas.List.Sorted.{IsPermutation-refl, IsPermutation-trans}
use Rattle.std.proofs.lemmas.Option.{none-some}
use Rattle.rs_catalog.proofs.NameOrder.{name_cmp-antisymmetric, name_cmp-total}
use Rattle.rs_catalog_meaning.specs.Meaning.{AreInOrder, AreMeant, named_by}
use Rattle.rs_catalog_pages.specs.Directory.{DirectoryItems}
use Rattle.rs_catalog_pages.specs.Items.{CatalogueItems, RouteItem, TableItem}
use Rattle.rs_catalog_pages.proofs.Counting.{times-cons}
use Rattle.rs_facts.specs.Fact.{Name, Names, name_cmp}
use Rattle.rs_file.specs.Contents.{Contents, ReferentContents, TableContents}
use Rattle.rs_versioned.specs.Events.{Event}
use Rattle.rs_file_meaning.specs.Changed.{HasTableBetween, HaveOwnNumbers, RoutesComeAfter, TableComes, with_table}
use Rattle.rs_file_meaning.specs.Live.{KeepsEvents, KeepsLive, KeepsRecords, KeepsReferents, SeesTheSame}
use Rattle.rs_file_meaning.specs.Seen.{born_by, events_of, events_with, is_born, seen_events, seen_referents}
use Rattle.rs_file_meaning.proofs.Lists.{zip_between, zip_each, zip_itself}
use Rattle.rs_file_meaning.proofs.Named.{get_there, item_of, later_there, order_kept, to_T}
use Rattle.rs_file_meaning.proofs.Picked.{first_too, kept_in, kept_passes, kept_there}
use Rattle.rs_file_meaning.proofs.OnRoute.{keeps_same}

-- the version sees of a table what it saw
abbrev SeesSame : ℕ → List Event → List Event → Type 0
SeesSame version old now = IsPermutation (seen_events version now) (seen_events version old)

-- ---- one version

pub sees_itself : (version : ℕ) (contents : Contents) → SeesTheSame version contents contents
sees_itself version contents = record {
  routes = refl;
  tables = λ item there. there;
  events = λ table. IsPermutation-refl (seen_events version (events_of contents table));
  referents = IsPermutation-refl (seen_referents version contents.referents.referents);
}

pub sees_joined : (version : ℕ) (old next now : Contents) → SeesTheSame version old next → SeesTheSame version next now → SeesTheSame version old now
sees_joined version old next now first last = record {
  routes = last.routes ∙ first.routes;
  tables = λ item there. last.tables item (first.tables item there);
  events = λ table. IsPermutation-trans (seen_events version (events_of now table)) (seen_events version (events_of next table)) (seen_events version (events_of old table)) (last.events table) (first.events table);
  referents = IsPermutation-trans (seen_referents version now.referents.referents) (seen_referents version next.referents.referents) (seen_referents version old.referents.referents) last.referents first.referents;
}

-- ---- live versions

pub live_joined : (oldest : ℕ) (old next now : Contents) → KeepsLive oldest old next → KeepsLive oldest next now → old.directory.accepted ≤ next.directory.accepted → KeepsLive oldest old now
live_joined oldest old next now first last upto = record {
  each = λ version low high. sees_joined version old next now (first.each version low high) (last.each version low (omega (arith, high, upto)));
}

pub live_fewer : (oldest from : ℕ) (old now : Contents) → oldest ≤ from → KeepsLive oldest old now → KeepsLive from old now
live_fewer oldest from old now later keeps = record { each = λ version low high. keeps.each version (omega (arith, later, low)) high }

pub live_none : (oldest : ℕ) (old now : Contents) → old.directory.accepted < oldest → KeepsLive oldest old now
live_none oldest old now past = record { each = λ version low high. absurd (omega (arith, past, low, high)) }

pub live_directory : (oldest : ℕ) (contents : Contents) (directory : DirectoryItems) → KeepsLive oldest contents (record contents { directory = directory })
live_directory oldest contents directory = record {
  each = λ version low high. let same = sees_itself version contents in record { routes = same.routes; tables = same.tables; events = same.events; referents = same.referents };
}

-- ---- records

-- what is so of the events of each table is so of those under each number
pub events_beside : (P : List Event → List Event → Type 0) → P [] [] → (items : List TableItem) (one other : List TableContents) → AllZip (λ was is. P was.events is.events) one other
    → (number : ℕ) → P (events_with items one number) (events_with items other number)
events_beside P none [] one other same number = none
events_beside P none (item ∷ items) [] [] same number = none
events_beside P none (item ∷ items) [] (t ∷ other) same number = absurd same
events_beside P none (item ∷ items) (t ∷ one) [] same number = absurd same
events_beside P none (item ∷ items) (t ∷ one) (u ∷ other) same number =
    elim (item.number == number) as (λ b. P (if b then t.events else events_with items one number) (if b then u.events else events_with items other number)) [
      | true ↦ same.0
      | false ↦ events_beside P none items one other same.1 number
    ]

pub live_records : (oldest : ℕ) (old now : Contents) → KeepsRecords oldest old now → KeepsLive oldest old now
live_records oldest old now keeps = record {
  each = λ version low high. record {
    routes = ap (λ (d : CatalogueItems). born_by version d.routes) keeps.definitions;
    tables = λ item there. subst (λ (d : CatalogueItems). Contains d.tables item) (sym keeps.definitions) there;
    events = λ table. subst (λ (d : CatalogueItems). SeesSame version (events_of old table) (events_with d.tables now.tables table)) (sym keeps.definitions)
        (events_beside (SeesSame version) (IsPermutation-refl []) old.definitions.tables old.tables now.tables
        (zip_each (λ was is. KeepsEvents oldest old.directory.accepted was.events is.events) (λ was is. SeesSame version was.events is.events) old.tables now.tables keeps.tables
        (λ was is kept. kept.each version low high)) table);
    referents = keeps.referents.each version low high;
  };
}

pub records_table : (oldest : ℕ) (contents : Contents) (item : TableItem) (before : List TableContents) (table now : TableContents) (after : List TableContents)
    → HasTableBetween contents item before table after → KeepsEvents oldest contents.directory.accepted table.events now.events → KeepsRecords oldest contents (with_table contents before now after)
records_table oldest contents item before table now after has keeps = record {
  definitions = refl;
  tables = subst (λ (ts : List TableContents). AllZip Kept ts (before ++ now ∷ after)) (sym has.tables)
      (zip_between Kept (λ t. keeps_same seen_events oldest accepted t.events) before table now after keeps);
  referents = keeps_same seen_referents oldest accepted contents.referents.referents;
}
  where
    accepted : ℕ
    accepted = contents.directory.accepted

    Kept : TableContents → TableContents → Type 0
    Kept was is = KeepsEvents oldest accepted was.events is.events

pub records_referents : (oldest : ℕ) (contents : Contents) (now : ReferentContents) → KeepsReferents oldest contents.directory.accepted contents.referents.referents now.referents
    → KeepsRecords oldest contents (record contents { referents = now })
records_referents oldest contents now keeps = record {
  definitions = refl;
  tables = zip_itself (λ was is. KeepsEvents oldest contents.directory.accepted was.events is.events) (λ t. keeps_same seen_events oldest contents.directory.accepted t.events) contents.tables;
  referents = keeps;
}

-- ---- definitions

-- two lists of the same items, both in the order of names, are one
module _ {X : Type 0} (name_of : X → Name) where
  abbrev listed : List X → Names X
  listed xs = names.from_sorted {R = name_cmp} (named_by name_of xs)

  moved_item : (xs ys : List X) → AreInOrder name_of xs → AreInOrder name_of ys → ((x : X) → Contains xs x → Contains ys x)
      → (q : Name) (y : X) → names.get (listed xs) q ≡ Some y → names.get (listed ys) q ≡ Some y
  moved_item xs ys rise order still q y there =
      let has = item_of name_of (λ x. x) xs q y rise there in
      subst (λ (n : Name). names.get (listed ys) n ≡ Some y) has.named (get_there name_of (λ x. x) ys has.item order (still has.item has.there) ∙ ap Some has.is)

  same_at : (xs ys : List X) → AreInOrder name_of xs → AreInOrder name_of ys → ((x : X) → Contains xs x → Contains ys x) → ((x : X) → Contains ys x → Contains xs x)
      → (q : Name) → names.get (listed xs) q ≡ names.get (listed ys) q
  same_at xs ys rise order still back q = elim (names.get (listed xs) q) as (λ o. names.get (listed xs) q ≡ o → o ≡ names.get (listed ys) q) [
    | Some y ↦ λ there. sym (moved_item xs ys rise order still q y there)
    | None ↦ λ none. elim (names.get (listed ys) q) as (λ o. names.get (listed ys) q ≡ o → None ≡ o) [
      | Some z ↦ λ there. absurd (none-some z (sym none ∙ moved_item ys xs order rise back q z there))
      | None ↦ λ also. refl
    ] refl
  ] refl

  items_named : (xs : List X) → map (λ (e : Name × X). e.1) (named_by name_of xs) ≡ xs
  items_named [] = refl
  items_named (x ∷ xs) = ap (λ l. x ∷ l) (items_named xs)

  entries_listed : (xs : List X) → AreInOrder name_of xs → names.entries (listed xs) ≡ named_by name_of xs
  entries_listed xs rise = entries-from_sorted name_cmp (named_by name_of xs) (to_T (names.is_sorted name_cmp (named_by name_of xs)) rise)

  pub same_items : (xs ys : List X) → AreInOrder name_of xs → AreInOrder name_of ys → ((x : X) → Contains xs x → Contains ys x) → ((x : X) → Contains ys x → Contains xs x) → xs ≡ ys
  same_items xs ys rise order still back =
      let one : listed xs ≡ listed ys = same_map name_cmp-total name_cmp-antisymmetric _ _ (same_at xs ys rise order still back) in
      sym (items_named xs)
      ∙ ap (map (λ (e : Name × X). e.1)) (sym (entries_listed xs rise) ∙ ap names.entries one ∙ entries_listed ys order)
      ∙ items_named ys

-- routes that come later are not seen
born_same : (version : ℕ) (old now : List RouteItem) → AreInOrder (λ (route : RouteItem). route.name) old → AreInOrder (λ (route : RouteItem). route.name) now → RoutesComeAfter version old now
    → born_by version now ≡ born_by version old
born_same version old now rise order come =
    same_items (λ (route : RouteItem). route.name) (born_by version now) (born_by version old)
    (order_kept (λ (route : RouteItem). route.name) (is_born version) now order) (order_kept (λ (route : RouteItem). route.name) (is_born version) old rise)
    (λ route there.
    let born = kept_passes (is_born version) now route there in
    elim (come.others route (kept_there (is_born version) now route there)) [
      | inl among ↦ kept_in (is_born version) old route among born
      | inr after ↦ absurd (omega (arith, after, leb-true route.born version born))
    ])
    (λ route there. kept_in (is_born version) now route (come.still route (kept_there (is_born version) old route there)) (kept_passes (is_born version) old route there))

earlier : (version later : ℕ) (old now : List RouteItem) → version ≤ later → RoutesComeAfter later old now → RoutesComeAfter version old now
earlier version later old now upto come = record {
  still = come.still;
  others = λ route there. elim (come.others route there) [
    | inl among ↦ inl among
    | inr after ↦ inr (omega (arith, after, upto))
  ];
}

pub live_routes : (oldest : ℕ) (contents : Contents) (definitions : CatalogueItems) → AreMeant contents.definitions → AreMeant definitions → definitions.tables ≡ contents.definitions.tables
    → RoutesComeAfter contents.directory.accepted contents.definitions.routes definitions.routes → KeepsLive oldest contents (record contents { definitions = definitions })
live_routes oldest contents definitions meant means tables come = record {
  each = λ version low high. record {
    routes = born_same version contents.definitions.routes definitions.routes meant.routes.in_order means.routes.in_order
        (earlier version contents.directory.accepted contents.definitions.routes definitions.routes high come);
    tables = λ item there. subst (λ (items : List TableItem). Contains items item) (sym tables) there;
    events = λ table. subst (λ (items : List TableItem). SeesSame version (events_of contents table) (events_with items contents.tables table)) (sym tables)
        (IsPermutation-refl (seen_events version (events_of contents table)));
    referents = IsPermutation-refl (seen_referents version contents.referents.referents);
  };
}

-- a table without events that has come changes no events under any number
abbrev number_of : TableItem → ℕ
number_of table = table.number

none_later : (items : List TableItem) (tables : List TableContents) (number : ℕ) → ((item : TableItem) → Contains items item → number_of item ≡ number → ⊥) → events_with items tables number ≡ []
none_later [] tables number apart = refl
none_later (item ∷ items) [] number apart = refl
none_later (item ∷ items) (t ∷ tables) number apart =
    elim (item.number == number) as (λ b. (item.number == number) ≡ b → (if b then t.events else events_with items tables number) ≡ []) [
      | true ↦ λ same. absurd (apart item (0, omega arith, refl) (eqb-true item.number number same))
      | false ↦ λ other. none_later items tables number (λ one there. apart one (later_there item one items there))
    ] refl

events_come : (number : ℕ) (first : List TableItem) (item : TableItem) (last : List TableItem) (before : List TableContents) (table : TableContents) (after : List TableContents) → length first ≡ length before
    → HaveOwnNumbers (first ++ item ∷ last) → table.events ≡ [] → events_with (first ++ item ∷ last) (before ++ table ∷ after) number ≡ events_with (first ++ last) (before ++ after) number
events_come number [] item last [] table after long own none =
    elim (item.number == number) as (λ b. (item.number == number) ≡ b → (if b then table.events else events_with last after number) ≡ events_with last after number) [
      | true ↦ λ same. none ∙ sym (none_later last after number (λ one there is.
          first_too number_of item one last there.0 there.1 there.2 (eqb-true item.number number same ∙ sym is) (own (number_of one))))
      | false ↦ λ other. refl
    ] refl
events_come number [] item last (b ∷ before) table after long own none = absurd (omega (arith, long))
events_come number (f ∷ first) item last [] table after long own none = absurd (omega (arith, long))
events_come number (f ∷ first) item last (b ∷ before) table after long own none =
    ap (λ (events : List Event). if f.number == number then b.events else events)
    (events_come number first item last before table after (omega (arith, long)) (λ n. omega (arith, own n, times-cons f.number (map number_of (first ++ item ∷ last)) n)) none)

still_between : {X : Type 0} (first last : List X) (item x : X) → Contains (first ++ last) x → Contains (first ++ item ∷ last) x
still_between first last item x there = elim (Contains-append_cases first last x there) [
  | inl among ↦ Contains-append_left first (item ∷ last) x among
  | inr later ↦ Contains-append_right first (item ∷ last) x (later_there item x last later)
]

pub live_table : (oldest : ℕ) (contents : Contents) (definitions : CatalogueItems) (before : List TableContents) (table : TableContents) (after : List TableContents)
    → definitions.routes ≡ contents.definitions.routes → HaveOwnNumbers definitions.tables → TableComes contents definitions before table after
    → KeepsLive oldest contents (record contents { definitions = definitions; tables = before ++ table ∷ after })
live_table oldest contents definitions before table after routes own comes = record {
  each = λ version low high. record {
    routes = ap (born_by version) routes;
    tables = λ item there. subst (λ (items : List TableItem). Contains items item) (sym comes.are)
        (still_between comes.first comes.last comes.item item (subst (λ (items : List TableItem). Contains items item) comes.were there));
    events = λ number. subst (λ (events : List Event). SeesSame version (events_of contents number) events) (sym (same number)) (IsPermutation-refl (seen_events version (events_of contents number)));
    referents = IsPermutation-refl (seen_referents version contents.referents.referents);
  };
}
  where
    same : (number : ℕ) → events_with definitions.tables (before ++ table ∷ after) number ≡ events_of contents number
    same number =
        ap (λ (items : List TableItem). events_with items (before ++ table ∷ after) number) comes.are
        ∙ events_come number comes.first comes.item comes.last before table after comes.long (subst HaveOwnNumbers comes.are own) comes.no_events
        ∙ ap (λ (items : List TableItem). events_with items (before ++ after) number) (sym comes.were)
        ∙ ap (λ (tables : List TableContents). events_with contents.definitions.tables tables number) (sym comes.tables)
