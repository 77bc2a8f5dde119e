-- Indexes and cursors stay what they are, whatever accepted command changes the rest of the state.
use Rattle.std.proofs.Common.{◌≡◌, ◌∙◌, ℕ, ◌<◌, ◌≤◌, Bool, true, false, ◌||◌, cond, List, [], ◌∷◌, length, Option, Some, None, is_some, not, refl, sym, ap, subst, arith}
use Rattle.std.specs.Prelude.{nat_lt, nat_eq, if◌then◌else◌}
use Rattle.std.specs.List.{filter, list_any}
use Rattle.std.specs.FinMap as names
use Rattle.std.specs.FinMap.{get-retain_keys, get_tied, contains_key-keys, same_map}
use Rattle.std.proofs.lemmas.Bool.{eqb-true}
use Rattle.rs_facts.specs.Fact.{Name, Names}
use Rattle.rs_facts.specs.Insert.{same_name}
use Rattle.rs_facts.specs.Query.{Table}
use Rattle.rs_planning.specs.Basis.{IndexedColumn}
use Rattle.rs_syntax.specs.Sound.{IsName}
use Rattle.rs_machine.specs.declared.limits.TheConstants.{SESSIONS, CURSORS}
use Rattle.rs_machine.specs.State.{RowText, Cursors, State, no_cursors, has, cursors_at}
use Rattle.rs_machine.specs.Step.{is_of_another, indexes_of_others}
use Rattle.rs_machine.specs.Lawful.{Each, IsIndex, AreCursors, IsLawful}
use Rattle.rs_machine.proofs.NameOrder.{name_cmp-total, name_cmp-antisymmetric}
use Rattle.rs_machine_laws.proofs.Views.{views-cursors}
use Rattle.rs_machine_laws.proofs.Names.{false_true, none_some, some_same, same_name-true, same_name-back, each_empty, each_inserted, each_removed, removed_other, still_there, len_none, len_more, len_same, len_less}

-- ---- indexes

-- there is one more table
pub index-table_more : (tables : Names Table) (name : Name) (table : Table) → has tables name ≡ false → (q : Name) (index : IndexedColumn) → IsIndex tables q index → IsIndex (names.insert tables name table) q index
index-table_more tables name table new q index is = record {
  named = is.named;
  table = is.table;
  there = still_there tables name table index.table is.table new is.there;
  column = is.column;
}

-- a table has other facts
pub index-table_changed : (tables : Names Table) (name : Name) (table changed : Table) → names.get tables name ≡ Some table → changed.columns ≡ table.columns
    → (q : Name) (index : IndexedColumn) → IsIndex tables q index → IsIndex (names.insert tables name changed) q index
index-table_changed tables name table changed there columns q index is =
    elim (same_name index.table name) as (λ same. same_name index.table name ≡ same → IsIndex (names.insert tables name changed) q index) [
      | true ↦ λ same.
          let its_table : is.table ≡ table = some_same is.table table (sym is.there ∙ ap (names.get tables) (same_name-true index.table name same) ∙ there) in
          record {
            named = is.named;
            table = changed;
            there = get-inserted_here index.table same;
            column = subst (λ t. index.column < length t) (sym columns) (subst (λ (t : Table). index.column < length t.columns) its_table is.column);
          }
      | false ↦ λ apart. record {
        named = is.named;
        table = is.table;
        there = get-inserted_there index.table apart ∙ is.there;
        column = is.column;
      }
    ] refl
  where
    get-inserted_here : (n : Name) → same_name n name ≡ true → names.get (names.insert tables name changed) n ≡ Some changed
    get-inserted_here n same = names.get-insert name_cmp-total tables name changed n ∙ ap (λ b. cond b (Some changed) (names.get tables n)) same

    get-inserted_there : (n : Name) → same_name n name ≡ false → names.get (names.insert tables name changed) n ≡ names.get tables n
    get-inserted_there n apart = names.get-insert name_cmp-total tables name changed n ∙ ap (λ b. cond b (Some changed) (names.get tables n)) apart

-- what is kept of the indexes is of another table
pub get-others : (table : Name) (indexes : Names IndexedColumn) (name : Name) → names.get (indexes_of_others table indexes) name ≡ cond (is_of_another table (names.get indexes name)) (names.get indexes name) None
unfolding indexes_of_others
get-others table indexes name = get-retain_keys indexes (λ n. is_of_another table (names.get indexes n)) name (λ x tied. ap (is_of_another table) (get_tied name_cmp-total indexes name x tied))

of_others : (table : Name) (found : Option IndexedColumn) (index : IndexedColumn) → cond (is_of_another table found) found None ≡ Some index → (same_name table index.table ≡ false) × (found ≡ Some index)
of_others table None index e = none_some index e
of_others table (Some other) index e =
    elim (same_name table other.table) as (λ same. same_name table other.table ≡ same → cond (not same) (Some other) None ≡ Some index → (same_name table index.table ≡ false) × (Some other ≡ Some index)) [
      | true ↦ λ same kept. none_some index kept
      | false ↦ λ apart kept. (subst (λ (i : IndexedColumn). same_name table i.table ≡ false) (some_same other index kept) apart, kept)
    ] refl e

-- a table is gone with its indexes
pub indexes-table_gone : (state : State) (name : Name) → Each state.indexes (IsIndex state.tables) → Each (indexes_of_others name state.indexes) (IsIndex (names.remove state.tables name))
indexes-table_gone state name are q index there =
    let kept = of_others name (names.get state.indexes q) index (sym (get-others name state.indexes q) ∙ there) in
    let is = are q index kept.1 in
    record {
      named = is.named;
      table = is.table;
      there = removed_other state.tables name index.table (same_name-back index.table name ∙ kept.0) ∙ is.there;
      column = is.column;
    }

-- ---- a map keeps some of its names

-- the names taken out one after another
abbrev without_names : {X : Type 0} → List Name → Names X → Names X
without_names [] things = things
without_names (name ∷ list) things = without_names list (names.remove things name)

len-without_names : {X : Type 0} (list : List Name) (things : Names X) (most : ℕ) → names.len things ≤ most → names.len (without_names list things) ≤ most
len-without_names [] things most few = few
len-without_names (name ∷ list) things most few = len-without_names list (names.remove things name) most (len_less things name most few)

both_gone : {X : Type 0} (here later : Bool) (found : Option X) → cond later None (cond here None found) ≡ cond (here || later) None found
both_gone true true found = refl
both_gone true false found = refl
both_gone false later found = refl

get-without_names : {X : Type 0} (list : List Name) (things : Names X) (q : Name) → names.get (without_names list things) q ≡ cond (list_any (same_name q) list) None (names.get things q)
get-without_names [] things q = refl
get-without_names (name ∷ list) things q =
    get-without_names list (names.remove things name) q
    ∙ ap (cond (list_any (same_name q) list) None) (names.get-remove name_cmp-total things name q)
    ∙ both_gone (same_name q name) (list_any (same_name q) list) (names.get things q)

module _ (keeps : Name → Bool) where
  abbrev goes : Name → Bool
  goes name = not (keeps name)

  -- a name that is kept is none of those that go
  none_goes : (list : List Name) (q : Name) → keeps q ≡ true → list_any (same_name q) (filter goes list) ≡ false
  none_goes [] q kept = refl
  none_goes (name ∷ list) q kept =
      elim (keeps name) as (λ b. keeps name ≡ b → list_any (same_name q) (cond (not b) (name ∷ filter goes list) (filter goes list)) ≡ false) [
        | true ↦ λ e. none_goes list q kept
        | false ↦ λ e. elim (same_name q name) as (λ same. same_name q name ≡ same → (same || list_any (same_name q) (filter goes list)) ≡ false) [
          | true ↦ λ same. false_true (sym e ∙ ap keeps (sym (same_name-true q name same)) ∙ kept)
          | false ↦ λ apart. none_goes list q kept
        ] refl
      ] refl

  -- a name that goes, and is there, is one of them
  some_goes : (list : List Name) (q : Name) → keeps q ≡ false → list_any (same_name q) list ≡ true → list_any (same_name q) (filter goes list) ≡ true
  some_goes [] q gone there = there
  some_goes (name ∷ list) q gone there =
      elim (keeps name) as (λ b. keeps name ≡ b → list_any (same_name q) (cond (not b) (name ∷ filter goes list) (filter goes list)) ≡ true) [
        | true ↦ λ e. some_goes list q gone (elim (same_name q name) as (λ same. same_name q name ≡ same → (same || list_any (same_name q) list) ≡ true → list_any (same_name q) list ≡ true) [
          | true ↦ λ same any. false_true (sym gone ∙ ap keeps (same_name-true q name same) ∙ e)
          | false ↦ λ apart any. any
        ] refl there)
        | false ↦ λ e. elim (same_name q name) as (λ same. same_name q name ≡ same → (same || list_any (same_name q) list) ≡ true → (same || list_any (same_name q) (filter goes list)) ≡ true) [
          | true ↦ λ same any. refl
          | false ↦ λ apart any. some_goes list q gone any
        ] refl there
      ] refl

  gone_anyway : {X : Type 0} (b : Bool) → ◌≡◌ {A = Option X} None (cond b None None)
  gone_anyway true = refl
  gone_anyway false = refl

  kept_or_gone : {X : Type 0} (things : Names X) (q : Name) (kept : Bool) (found : Option X) → keeps q ≡ kept → names.get things q ≡ found
      → cond kept found None ≡ cond (list_any (same_name q) (filter goes (names.keys things))) None found
  kept_or_gone things q true found kept is = sym (ap (λ b. cond b None found) (none_goes (names.keys things) q kept))
  kept_or_gone things q false None gone is = gone_anyway (list_any (same_name q) (filter goes (names.keys things)))
  kept_or_gone things q false (Some thing) gone is =
      sym (ap (λ b. cond b None (Some thing)) (some_goes (names.keys things) q gone (sym (contains_key-keys things q) ∙ ap is_some is)))

  retained : {X : Type 0} (things : Names X) → names.retain_keys things keeps ≡ without_names (filter goes (names.keys things)) things
  retained things = same_map name_cmp-total name_cmp-antisymmetric _ _ (λ q.
      get-retain_keys things keeps q (λ x tied. ap keeps (sym (name_cmp-antisymmetric q x tied)))
      ∙ kept_or_gone things q (keeps q) (names.get things q) refl refl
      ∙ sym (get-without_names (filter goes (names.keys things)) things q))

  len-retained : {X : Type 0} (things : Names X) (most : ℕ) → names.len things ≤ most → names.len (names.retain_keys things keeps) ≤ most
  len-retained things most few = subst (λ m. names.len m ≤ most) (sym (retained things)) (len-without_names (filter goes (names.keys things)) things most few)

pub fewer_indexes : (state : State) (name : Name) (most : ℕ) → names.len state.indexes ≤ most → names.len (indexes_of_others name state.indexes) ≤ most
unfolding indexes_of_others
fewer_indexes state name most few = len-retained (λ n. is_of_another name (names.get state.indexes n)) state.indexes most few

-- ---- cursors

pub none-cursors : (session : ℕ) → AreCursors session (no_cursors session)
none-cursors session = record {
  named = each_empty _;
  few = len_none (List RowText) CURSORS;
  none_beyond = λ beyond. let few = len_none (List RowText) 0 in omega arith;
}

-- a state whose cursors are others
pub with_other_cursors : (state : State) (cursors : ℕ → Cursors) → IsLawful state → ((session : ℕ) → AreCursors session (cursors session)) → IsLawful (record state { cursors = cursors })
with_other_cursors state cursors lawful are = record {
  routes = lawful.routes;
  referents_named = record { each = lawful.referents_named.each };
  referents = lawful.referents;
  tables = lawful.tables;
  views = record { each = views-cursors state cursors lawful; order = lawful.views.order };
  alignments = lawful.alignments;
  indexes = lawful.indexes;
  cursors = are;
  limits = record { routes = lawful.limits.routes; referents = lawful.limits.referents; tables = lawful.limits.tables; indexes = lawful.limits.indexes; views = lawful.limits.views; alignments = lawful.limits.alignments; changes = lawful.limits.changes };
}

-- one session has other cursors
pub at_session : (session : ℕ) (cursors : Cursors) (old : ℕ → Cursors) → AreCursors session cursors → ((other : ℕ) → AreCursors other (old other)) → (other : ℕ) → AreCursors other (cursors_at session cursors old other)
unfolding cursors_at
at_session session cursors old is are other = at (nat_eq other session) refl
  where
    at : (same : Bool) → nat_eq other session ≡ same → AreCursors other (if same then cursors else old other)
    at true same = subst (λ n. AreCursors n cursors) (sym (eqb-true other session same)) is
    at false apart = are other

-- a session opened a cursor
pub cursors-more : (session : ℕ) (cursors : Cursors) (name : Name) (lines : List RowText) → session < SESSIONS → IsName name → nat_lt (names.len cursors) CURSORS ≡ true → AreCursors session cursors → AreCursors session (names.insert cursors name lines)
cursors-more session cursors name lines below named room is = record {
  named = each_inserted cursors (λ n l. IsName n) name lines named is.named;
  few = len_more cursors name lines CURSORS room;
  none_beyond = λ beyond. absurd (omega arith);
}

-- a cursor gave some of its lines
pub cursors-same : (session : ℕ) (cursors : Cursors) (name : Name) (before lines : List RowText) → names.get cursors name ≡ Some before → AreCursors session cursors → AreCursors session (names.insert cursors name lines)
cursors-same session cursors name before lines there is = record {
  named = each_inserted cursors (λ n l. IsName n) name lines (is.named name before there) is.named;
  few = len_same cursors name lines CURSORS (ap is_some there) is.few;
  none_beyond = λ beyond. let none = len_same cursors name lines 0 (ap is_some there) (none_at beyond) in omega arith;
}
  where
    none_at : SESSIONS ≤ session → names.len cursors ≤ 0
    none_at beyond = let none = is.none_beyond beyond in omega arith

-- a session closed a cursor
pub cursors-less : (session : ℕ) (cursors : Cursors) (name : Name) → AreCursors session cursors → AreCursors session (names.remove cursors name)
cursors-less session cursors name is = record {
  named = each_removed cursors (λ n l. IsName n) name is.named;
  few = len_less cursors name CURSORS is.few;
  none_beyond = λ beyond. let none = len_less cursors name 0 (none_at beyond) in omega arith;
}
  where
    none_at : SESSIONS ≤ session → names.len cursors ≤ 0
    none_at beyond = let none = is.none_beyond beyond in omega arith
