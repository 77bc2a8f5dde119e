-- The counts that a plan is chosen by are those of a state, and its indexes are those of the definitions.
use Rattle.std.proofs.Common.{◌≡◌, true, false, ◌==◌, nat_eq, List, [], ◌∷◌, ◌++◌, map, length, Some, refl, sym, ap, subst, ◌∙◌}
use Rattle.std.proofs.lemmas.Bool.Decides.{Decides-eqb}
use Rattle.std.proofs.lemmas.List.{map-append, append_assoc}
use Rattle.std.specs.List.{AllByRecursion}
use Rattle.std.specs.FinMap as names
use Rattle.std.specs.Cmp.{eq_by_cmp_equiv}
use Rattle.arrayvec.specs.ArrayString.{ArrayString}
use Rattle.rs_facts.specs.Fact.{Name}
use Rattle.rs_facts.specs.Insert.{same_name}
use Rattle.rs_facts.specs.Query.{table_columns}
use Rattle.rs_planning.specs.Basis.{Basis}
use Rattle.rs_planning.specs.Numbered.{Numbered, numbered_table, numbered_route, numbered_index}
use Rattle.rs_catalog.specs.Definitions.{TableItem, IndexItem, Definitions, AreDefinitions, IsColumnOf, indexes_of, indexed_column}
use Rattle.rs_catalog.specs.Names.{entries_by_bytes}
use Rattle.rs_catalog.proofs.Names.{each_entry, entries-map_values}
use Rattle.rs_catalog.proofs.MapLaws.{some_same, same_name-true}
use Rattle.rs_catalog.proofs.NameOrder.{name_cmp-total}
use Rattle.rs_checker.specs.Numbers.{IsNumberedIn, AreNumberedIn}
use Rattle.rs_plan.specs.Counted.{Counted, AreIndexesOf, IsCounted}
use Rattle.rs_plan.specs.declared.counts.Index.{Index}
use Rattle.rs_answers.specs.Counts.{SeenIndex, index_seen, item_seen, indexes_kept, HasIndexes}

head_same : {X : Type 0} (x y : X) (xs ys : List X) → ◌≡◌ {A = List X} (x ∷ xs) (y ∷ ys) → x ≡ y
head_same x y xs ys e = cc e

tail_same : {X : Type 0} (x y : X) (xs ys : List X) → ◌≡◌ {A = List X} (x ∷ xs) (y ∷ ys) → xs ≡ ys
tail_same x y xs ys e = cc e

-- ---- the indexes of a table

module _ (definitions : Definitions) (are : AreDefinitions definitions) (name : Name) (item : TableItem) (there : names.get definitions.tables name ≡ Some item) where
  same_number : (index : IndexItem) → IsColumnOf definitions.tables index.table index.table_number index.column → same_name index.table name ≡ (index.table_number == item.number)
  same_number index of =
      elim (same_name index.table name) as (λ b. same_name index.table name ≡ b → b ≡ (index.table_number == item.number)) [
        | true ↦ λ same.
            let one : of.table ≡ item = some_same of.table item (sym of.there ∙ ap (names.get definitions.tables) (same_name-true index.table name same) ∙ there) in
            sym ((Decides-eqb index.table_number item.number).1 (sym of.numbered ∙ ap (λ (t : TableItem). t.number) one))
        | false ↦ λ apart.
            elim (nat_eq index.table_number item.number) as (λ b. nat_eq index.table_number item.number ≡ b → false ≡ b) [
              | true ↦ λ equal.
                  let one : index.table ≡ name = are.table_numbers index.table name of.table item of.there there (of.numbered ∙ (Decides-eqb index.table_number item.number).0 equal) in
                  absurd (wrong (sym apart ∙ ap (λ n. same_name n name) one ∙ (eq_by_cmp_equiv name_cmp-total).refl name))
              | false ↦ λ unequal. refl
            ] refl
      ] refl
    where
      wrong : false ≡ true → ⊥
      wrong e = cc

  indexes-seen : (entries : List (Name × IndexItem)) (indexes : List Index) → AllByRecursion (λ e. names.get definitions.indexes e.0 ≡ Some e.1) entries → map index_seen indexes ≡ map item_seen entries
      → AreIndexesOf name item.number (map (λ e. (e.0, indexed_column e.1)) entries) indexes
  indexes-seen [] [] each same = tt
  indexes-seen [] (index ∷ indexes) each same = cc
  indexes-seen (e ∷ es) [] each same = cc
  indexes-seen (e ∷ es) (index ∷ indexes) each same =
      let first = head_same _ _ _ _ same in (
        sym (ap (λ (s : SeenIndex). s.0) first),
        sym (ap (λ (s : SeenIndex). s.1.1.1) first),
        same_number e.1 (are.indexes e.0 e.1 each.0).1 ∙ ap (λ n. n == item.number) (sym (ap (λ (s : SeenIndex). s.1.1.0) first)),
        indexes-seen es indexes each.1 (tail_same _ _ _ _ same),
      )

-- ---- the indexes, one after another

pub indexes-more : (indexes : List Index) (index : Index) (left : List (ArrayString × IndexItem)) (name : ArrayString) (item : IndexItem) (rest : List (ArrayString × IndexItem))
    → left ≡ (name, item) ∷ rest → index_seen index ≡ item_seen (name.bytes, item)
    → map index_seen (indexes ++ (index ∷ [])) ++ map item_seen (entries_by_bytes (λ item. item) rest) ≡ map index_seen indexes ++ map item_seen (entries_by_bytes (λ item. item) left)
indexes-more indexes index left name item rest next same =
    let more = map item_seen (entries_by_bytes (λ item. item) rest) in
    ap (λ l. l ++ more) (map-append index_seen indexes (index ∷ []))
    ∙ append_assoc (map index_seen indexes) (index_seen index ∷ []) more
    ∙ ap (λ s. map index_seen indexes ++ (s ∷ more)) same
    ∙ ap (λ l. map index_seen indexes ++ map item_seen (entries_by_bytes (λ item. item) l)) (sym next)

-- ---- the basis

-- a basis of the definitions' indexes, in whose world each table has as many columns as its definition, with these counts
pub record IsBasisOf (definitions : Definitions) (counted : Counted) (basis : Basis) : Type 0 where
  pub indexes : basis.indexes ≡ indexes_of definitions
  pub columns : (name : Name) (table : TableItem) → names.get definitions.tables name ≡ Some table → length (table_columns (names.get basis.world.tables name)) ≡ length table.columns
  pub records : (name : Name) (table : TableItem) → names.get definitions.tables name ≡ Some table → basis.record_count name ≡ counted.records table.number

module _ (definitions : Definitions) (are : AreDefinitions definitions) (counts : Counted) (seen : HasIndexes definitions counts) (basis : Basis) (is : IsBasisOf definitions counts basis) where
  counted : (named : Numbered) → IsNumberedIn definitions named → IsCounted counts basis named
  unfolding indexes_kept
  counted (numbered_table name number kind width) numbered =
      let item = numbered.0 in
      let there = numbered.1 in (
        is.columns name item there ∙ numbered.4,
        is.records name item there ∙ ap counts.records numbered.2,
        subst (λ n. AreIndexesOf name n (names.entries basis.indexes) counts.indexes) numbered.2
            (subst (λ entries. AreIndexesOf name item.number entries counts.indexes) (sym (ap names.entries is.indexes ∙ entries-map_values indexed_column definitions.indexes))
            (indexes-seen definitions are name item there (names.entries definitions.indexes) counts.indexes (each_entry definitions.indexes) seen)),
      )
  counted (numbered_route name number) numbered = tt
  counted (numbered_index name number) numbered = tt

  pub all-counted : (named : List Numbered) → AreNumberedIn definitions named → AllByRecursion (IsCounted counts basis) named
  all-counted [] numbered = tt
  all-counted (one ∷ more) numbered = (counted one numbered.0, all-counted more numbered.1)
