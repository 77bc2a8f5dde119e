-- What a command keeps of what the views' queries name, and so of the checks that they pass.
use Rattle.std.proofs.Common.{◌≡◌, ◌∙◌, Bool, true, false, ◌||◌, cond, List, [], ◌∷◌, ◌++◌, Some, refl, sym, ap}
use Rattle.std.specs.FinMap as names
use Rattle.std.specs.FinMap.{get-insert}
use Rattle.std.specs.List.{list_any}
use Rattle.rs_facts.specs.Fact.{Name, Names}
use Rattle.rs_facts.specs.Insert.{same_name}
use Rattle.rs_facts.specs.Query.{RouteEnds, Table}
use Rattle.rs_machine.specs.Checks.{window_route}
use Rattle.rs_machine.specs.Lawful.{Each, IsLawful}
use Rattle.rs_machine.specs.Opening.{alignments_in, names_in, opened, windows_in}
use Rattle.rs_machine.specs.State.{State}
use Rattle.rs_syntax.specs.Tree.{QueryTree, WindowTree, covered, dissolved, filtered, gapped, merged, named, overlaid, renamed, subtracted, transformed, windowed}
use Rattle.rs_machine.proofs.NameOrder.{name_cmp-total}
use Rattle.rs_machine_laws.proofs.Names.{either_false, inserted_other, same_name-true, some_same}
use Rattle.rs_machine_laws.proofs.Passing.{AlignmentKept, IsStill, Kept, Passing, RouteKept, TableKept, pass_on}

none_split : {X : Type 0} (test : X → Bool) (xs ys : List X) → list_any test (xs ++ ys) ≡ false → (list_any test xs ≡ false) × (list_any test ys ≡ false)
none_split test [] ys e = (refl, e)
none_split test (x ∷ xs) ys e =
    let first = either_false (test x) (list_any test (xs ++ ys)) e in
    let rest = none_split test xs ys first.1 in
    (ap (λ b. b || list_any test xs) first.0 ∙ rest.0, rest.1)

pub none_any : {X : Type 0} (xs : List X) → list_any (λ x. false) xs ≡ false
none_any [] = refl
none_any (x ∷ xs) = none_any xs

-- ---- routes and tables

-- a route is there still, where one takes other ends
pub route_inserted : (routes : Names RouteEnds) (name : Name) (ends : RouteEnds) (route : Name) (was : RouteEnds) → names.get routes route ≡ Some was → (now : RouteEnds) × (names.get (names.insert routes name ends) route ≡ Some now)
route_inserted routes name ends route was there = elim (same_name route name) as (λ b. same_name route name ≡ b → (now : RouteEnds) × (names.get (names.insert routes name ends) route ≡ Some now)) [
  | true ↦ λ same. (ends, get-insert name_cmp-total routes name ends route ∙ ap (λ b. cond b (Some ends) (names.get routes route)) same)
  | false ↦ λ apart. (was, inserted_other routes name ends route apart ∙ there)
] refl

-- a table of the same kind and columns in the place of another
pub put_still : (tables : Names Table) (name : Name) (table now : Table) → names.get tables name ≡ Some table → now.kind ≡ table.kind → now.columns ≡ table.columns
    → (q : Name) (one : Table) → names.get tables q ≡ Some one → IsStill (names.insert tables name now) q one
put_still tables name table now there kind columns q one at = elim (same_name q name) as (λ b. same_name q name ≡ b → IsStill (names.insert tables name now) q one) [
  | true ↦ λ same.
      let is : table ≡ one = some_same table one (sym there ∙ ap (names.get tables) (sym (same_name-true q name same)) ∙ at) in
      record {
        other = now;
        there = get-insert name_cmp-total tables name now q ∙ ap (λ b. cond b (Some now) (names.get tables q)) same;
        kind = kind ∙ ap (λ (t : Table). t.kind) is;
        columns = columns ∙ ap (λ (t : Table). t.columns) is;
      }
  | false ↦ λ apart. record { other = one; there = inserted_other tables name now q apart ∙ at; kind = refl; columns = refl }
] refl

pub still_same : (tables : Names Table) (name : Name) (table : Table) → names.get tables name ≡ Some table → IsStill tables name table
still_same tables name table there = record { other = table; there = there; kind = refl; columns = refl }

-- ---- queries

-- what is gone
module _ (gone_table : Name → Bool) (gone_window : WindowTree → Bool) (gone_alignment : Name → Bool) where
  pub record NamesNone (tables : List Name) (windows : List WindowTree) (alignments : List Name) : Type 0 where
    pub table : list_any gone_table tables ≡ false
    pub window : list_any gone_window windows ≡ false
    pub alignment : list_any gone_alignment alignments ≡ false

  -- the query names nothing that is gone
  abbrev pub Spares : QueryTree → Type 0
  Spares query = NamesNone (names_in query) (windows_in query) (alignments_in query)

  abbrev Both : QueryTree → QueryTree → Type 0
  Both a b = NamesNone (names_in a ++ names_in b) (windows_in a ++ windows_in b) (alignments_in a ++ alignments_in b)

  first_of_both : (a b : QueryTree) → Both a b → Spares a
  first_of_both a b none = record {
    table = (none_split gone_table (names_in a) (names_in b) none.table).0;
    window = (none_split gone_window (windows_in a) (windows_in b) none.window).0;
    alignment = (none_split gone_alignment (alignments_in a) (alignments_in b) none.alignment).0;
  }

  second_of_both : (a b : QueryTree) → Both a b → Spares b
  second_of_both a b none = record {
    table = (none_split gone_table (names_in a) (names_in b) none.table).1;
    window = (none_split gone_window (windows_in a) (windows_in b) none.window).1;
    alignment = (none_split gone_alignment (alignments_in a) (alignments_in b) none.alignment).1;
  }

  -- all else is kept
  module _ (old new : State) (tables : (name : Name) → gone_table name ≡ false → TableKept old new name)
      (routes : (window : WindowTree) → gone_window window ≡ false → RouteKept old new (window_route window))
      (alignments : (name : Name) → gone_alignment name ≡ false → AlignmentKept old new name) where
    kept_but : (query : QueryTree) → Spares query → Kept old new query
    kept_but (named name) none = tables name (either_false (gone_table name) false none.table).0
    kept_but (filtered query condition) none = kept_but query none
    kept_but (dissolved query columns) none = kept_but query none
    kept_but (renamed query from to) none = kept_but query none
    kept_but (overlaid a b) none = (kept_but a (first_of_both a b none), kept_but b (second_of_both a b none))
    kept_but (covered a b) none = (kept_but a (first_of_both a b none), kept_but b (second_of_both a b none))
    kept_but (merged a b) none = (kept_but a (first_of_both a b none), kept_but b (second_of_both a b none))
    kept_but (subtracted a b) none = (kept_but a (first_of_both a b none), kept_but b (second_of_both a b none))
    kept_but (windowed query window) none =
        let parts = none_split gone_window (windows_in query) (window ∷ []) none.window in
        (kept_but query (record { table = none.table; window = parts.0; alignment = none.alignment }), routes window (either_false (gone_window window) false parts.1).0)
    kept_but (transformed query alignment) none =
        let parts = none_split gone_alignment (alignments_in query) (alignment ∷ []) none.alignment in
        (kept_but query (record { table = none.table; window = none.window; alignment = parts.0 }), alignments alignment (either_false (gone_alignment alignment) false parts.1).0)
    kept_but (gapped query) none = kept_but query none

    -- views that name nothing that is gone still pass
    pub pass_but : IsLawful old → Each old.views (λ name query. Spares query) → Each old.views (λ name query. Passing new (opened old.views query))
    pass_but lawful spared = pass_on old new lawful (λ name query there. kept_but query (spared name query there))

-- where nothing is gone
pub all_kept : (old new : State) → ((name : Name) → TableKept old new name) → ((route : Name) → RouteKept old new route) → ((name : Name) → AlignmentKept old new name) → (query : QueryTree) → Kept old new query
all_kept old new tables routes alignments query =
    kept_but (λ name. false) (λ window. false) (λ name. false) old new (λ name none. tables name) (λ window none. routes (window_route window)) (λ name none. alignments name) query
    (record { table = none_any (names_in query); window = none_any (windows_in query); alignment = none_any (alignments_in query) })

pub all_pass : (old new : State) → IsLawful old → ((name : Name) → TableKept old new name) → ((route : Name) → RouteKept old new route) → ((name : Name) → AlignmentKept old new name)
    → Each old.views (λ name query. Passing new (opened old.views query))
all_pass old new lawful tables routes alignments = pass_on old new lawful (λ name query there. all_kept old new tables routes alignments query)

-- where nothing of these is changed
pub same_pass : (old new : State) → IsLawful old → new.routes ≡ old.routes → new.tables ≡ old.tables → new.alignments ≡ old.alignments → Each old.views (λ name query. Passing new (opened old.views query))
same_pass old new lawful routes tables alignments =
    all_pass old new lawful
    (λ name table there. still_same new.tables name table (ap (λ ts. names.get ts name) tables ∙ there))
    (λ route on. (on.0, ap (λ rs. names.get rs route) routes ∙ on.1))
    (λ name pieces there. ap (λ ls. names.get ls name) alignments ∙ there)
