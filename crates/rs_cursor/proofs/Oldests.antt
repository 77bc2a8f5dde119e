-- Laws of the oldest version, from one session to the next.
use Rattle.std.proofs.Common.{◌≡◌, ◌≤◌, ℕ, true, false, cond, List, [], ◌∷◌, Option, Some, None, map, min, nat_eq, inl, inr, refl, sym, ap, subst, ◌∙◌}
use Rattle.std.specs.BTreeMap.{is_at}
use Rattle.std.specs.FinMap as maps
use Rattle.std.specs.FinMap.{find, get-entries, get-remove, nat_cmp-IsAntisymmetric}
use Rattle.std.specs.Cmp.{Equal-is, eq_by_cmp_equiv}
use Rattle.std.specs.List.{AllByRecursion}
use Rattle.std.specs.List.Sorted.{IsStrictlySortedBy}
use Rattle.std.specs.Map.{keys_of, lookup}
use Rattle.std.specs.Ordering.{eq_by_cmp, nat_cmp}
use Rattle.std.proofs.lemmas.Bool.Decides.{Decides-eqb}
use Rattle.rs_catalog.proofs.MapLaws.{none_some, same_name-true, some_same}
use Rattle.rs_catalog.proofs.NameOrder.{name_cmp-total}
use Rattle.rs_catalog.proofs.Names.{each_entry}
use Rattle.rs_catalog.proofs.Numbered.{numbered}
use Rattle.rs_cursor.proofs.BySession.{Entries, at_found, at_none, held_each}
use Rattle.rs_cursor.proofs.HeldLaws.{none_held, remove-empty}
use Rattle.rs_cursor.proofs.Lowest.{GoesOn, HasIn, goes_over, lowest_none, lowest_one, lowest_same}
use Rattle.rs_cursor.specs.Held.{HeldCursors, IsOldest, held_at, held_of}
use Rattle.rs_cursor.specs.Oldest.{IsLowest, LooksAt}
use Rattle.rs_cursor.specs.declared.cursor.Cursor.{Cursor}
use Rattle.rs_facts.specs.Fact.{Name, Names, name_cmp}

-- ---- the cursors of one session

-- the entry is one of those that count, and looks at the version
abbrev pub Counts : (Name → Type 0) → Name × Cursor → ℕ → Type 0
Counts IsCounted e version = IsCounted e.0 × (e.1.version ≡ version)

-- kept are the cursors whose names count
module _ (IsCounted : Name → Type 0) (cursors kept : Names Cursor)
    (to : (name : Name) (cursor : Cursor) → maps.get kept name ≡ Some cursor → IsCounted name × (maps.get cursors name ≡ Some cursor))
    (from : (name : Name) (cursor : Cursor) → IsCounted name → maps.get cursors name ≡ Some cursor → maps.get kept name ≡ Some cursor) where
  in_found : (name : Name) (cursor : Cursor) (es : List (Name × Cursor)) → IsCounted name → find name_cmp name es ≡ Some cursor → HasIn (Counts IsCounted) es cursor.version
  in_found name cursor [] counts there = none_some cursor there
  in_found name cursor (e ∷ es) counts there =
      elim (eq_by_cmp name_cmp name e.0) as (λ b. eq_by_cmp name_cmp name e.0 ≡ b → cond b (Some e.1) (find name_cmp name es) ≡ Some cursor → HasIn (Counts IsCounted) (e ∷ es) cursor.version) [
        | true ↦ λ same is. inl (subst IsCounted (same_name-true name e.0 same) counts, ap (λ (c : Cursor). c.version) (some_same e.1 cursor is))
        | false ↦ λ same is. inr (in_found name cursor es counts is)
      ] refl there

  looked_at : (version : ℕ) (es : List (Name × Cursor)) → AllByRecursion (λ e. maps.get cursors e.0 ≡ Some e.1) es → HasIn (Counts IsCounted) es version → LooksAt kept version
  looked_at version [] each has = absurd has
  looked_at version (e ∷ es) each (inl here) = record { name = e.0; cursor = e.1; there = from e.0 e.1 here.0 each.0; same = here.1 }
  looked_at version (e ∷ es) each (inr later) = looked_at version es each.1 later

  pub lowest_of_names : (entries : List (Name × Cursor)) → entries ≡ maps.entries cursors → (most oldest : ℕ) → IsLowest (HasIn (Counts IsCounted) entries) most oldest → IsLowest (LooksAt kept) most oldest
  lowest_of_names entries are most oldest is =
      lowest_same _ (LooksAt kept) most oldest
      (λ version has. looked_at version entries (subst (AllByRecursion (λ e. maps.get cursors e.0 ≡ Some e.1)) (sym are) (each_entry cursors)) has)
      (λ version looks.
      let counts = to looks.name looks.cursor looks.there in
      subst (HasIn (Counts IsCounted) entries) looks.same
      (in_found looks.name looks.cursor entries counts.0 (ap (find name_cmp looks.name) are ∙ sym (get-entries cursors looks.name) ∙ counts.1))) is

-- the next entry counts, or is passed
module _ (IsCounted : Name → Type 0) (all before rest : List (Name × Cursor)) (e : Name × Cursor) (most oldest : ℕ) (step : before ≡ e ∷ rest) (goes : GoesOn (Counts IsCounted) all before most oldest) where
  pub one_counted : (next : ℕ) → IsCounted e.0 → next ≡ min oldest e.1.version → GoesOn (Counts IsCounted) all rest most next
  one_counted next counts is = goes_over (Counts IsCounted) all before rest e most oldest next step goes (subst (λ n. IsLowest (Counts IsCounted e) oldest n) (sym is)
      (lowest_same (λ n. e.1.version ≡ n) (Counts IsCounted e) oldest (min oldest e.1.version) (λ n looks. (counts, looks)) (λ n both. both.1) (lowest_one oldest e.1.version)))

  pub one_passed : (IsCounted e.0 → ⊥) → GoesOn (Counts IsCounted) all rest most oldest
  one_passed not = goes_over (Counts IsCounted) all before rest e most oldest oldest step goes (lowest_none (Counts IsCounted e) oldest (λ n both. not both.0))

abbrev pub IsAny : Name → Type 0
IsAny name = Unit {0}

pub lowest_of_all : (cursors : Names Cursor) (entries : List (Name × Cursor)) → entries ≡ maps.entries cursors → (most oldest : ℕ) → IsLowest (HasIn (Counts IsAny) entries) most oldest → IsLowest (LooksAt cursors) most oldest
lowest_of_all cursors = lowest_of_names IsAny cursors cursors (λ name cursor there. (tt, there)) (λ name cursor any there. there)

abbrev pub IsOther : Name → Name → Type 0
IsOther name other = other ≡ name → ⊥

pub lowest_of_others : (name : Name) (cursors : Names Cursor) (entries : List (Name × Cursor)) → entries ≡ maps.entries cursors → (most oldest : ℕ)
    → IsLowest (HasIn (Counts (IsOther name)) entries) most oldest → IsLowest (LooksAt (maps.remove cursors name)) most oldest
lowest_of_others name cursors = lowest_of_names (IsOther name) cursors (maps.remove cursors name) to from
  where
    not_both : false ≡ true → ⊥
    not_both e = cc

    tied : eq_by_cmp name_cmp name name ≡ true
    tied = (eq_by_cmp_equiv name_cmp-total).refl name

    to : (other : Name) (cursor : Cursor) → maps.get (maps.remove cursors name) other ≡ Some cursor → IsOther name other × (maps.get cursors other ≡ Some cursor)
    to other cursor there =
        elim (eq_by_cmp name_cmp other name) as (λ b. eq_by_cmp name_cmp other name ≡ b → cond b None (maps.get cursors other) ≡ Some cursor → IsOther name other × (maps.get cursors other ≡ Some cursor)) [
          | true ↦ λ same is. none_some cursor is
          | false ↦ λ same is. (λ equal. not_both (sym same ∙ ap (λ n. eq_by_cmp name_cmp n name) equal ∙ tied), is)
        ] refl (sym (get-remove name_cmp-total cursors name other) ∙ there)

    from : (other : Name) (cursor : Cursor) → IsOther name other → maps.get cursors other ≡ Some cursor → maps.get (maps.remove cursors name) other ≡ Some cursor
    from other cursor differs there =
        elim (eq_by_cmp name_cmp other name) as (λ b. eq_by_cmp name_cmp other name ≡ b → maps.get (maps.remove cursors name) other ≡ Some cursor) [
          | true ↦ λ same. absurd (differs (same_name-true other name same))
          | false ↦ λ same. get-remove name_cmp-total cursors name other ∙ ap (λ b. cond b None (maps.get cursors other)) same ∙ there
        ] refl

-- ---- the cursors of all sessions

-- what is left of the cursors of each session
module _ (left : ℕ → Names Cursor → Names Cursor) (left_none : (session : ℕ) → left session maps.empty ≡ maps.empty)
    (entries : Entries) (now : HeldCursors) (same : numbered entries ≡ now) (held : ℕ → Names Cursor) (are : (session : ℕ) → held session ≡ left session (held_of now session)) where
  in_lookup : (session version : ℕ) (cursors : Names Cursor) (es : Entries) → LooksAt (left session cursors) version → lookup (is_at (nat_cmp session)) es ≡ Some cursors → HasIn LooksAt (map (λ e. left e.0 e.1) es) version
  in_lookup session version cursors [] looks there = none_some cursors there
  in_lookup session version cursors (e ∷ es) looks there =
      elim (is_at (nat_cmp session) e.0) as (λ b. is_at (nat_cmp session) e.0 ≡ b → cond b (Some e.1) (lookup (is_at (nat_cmp session)) es) ≡ Some cursors → HasIn LooksAt (map (λ e. left e.0 e.1) (e ∷ es)) version) [
        | true ↦ λ tied is. inl (subst (λ (c : Names Cursor). LooksAt (left e.0 c) version) (sym (some_same e.1 cursors is))
            (subst (λ s. LooksAt (left s cursors) version) (nat_cmp-IsAntisymmetric session e.0 ((Equal-is (nat_cmp session e.0)).0 tied)) looks))
        | false ↦ λ tied is. inr (in_lookup session version cursors es looks is)
      ] refl there

  in_held : (session : ℕ) (name : Name) (cursor : Cursor) → maps.get (held session) name ≡ Some cursor → HasIn LooksAt (map (λ e. left e.0 e.1) entries) cursor.version
  in_held session name cursor there = at (lookup (is_at (nat_cmp session)) entries) refl
    where
      found : (cursors : Names Cursor) → held_of now session ≡ cursors → maps.get (left session cursors) name ≡ Some cursor
      found cursors is = ap (λ (c : Names Cursor). maps.get c name) (ap (left session) (sym is) ∙ sym (are session)) ∙ there

      at : (o : Option (Names Cursor)) → lookup (is_at (nat_cmp session)) entries ≡ o → HasIn LooksAt (map (λ e. left e.0 e.1) entries) cursor.version
      at None is = none_some cursor (sym (none_held (left session maps.empty) name (left_none session)) ∙ found maps.empty (at_none entries now session session same refl is))
      at (Some cursors) is =
          in_lookup session cursor.version cursors entries (record { name = name; cursor = cursor; there = found cursors (at_found entries now session session same refl cursors is); same = refl }) is

  bounded : (bound version : ℕ) (es : Entries) → AllByRecursion (λ e. held_of now e.0 ≡ e.1) es → ((session : ℕ) (name : Name) (cursor : Cursor) → maps.get (held session) name ≡ Some cursor → bound ≤ cursor.version)
      → HasIn LooksAt (map (λ e. left e.0 e.1) es) version → bound ≤ version
  bounded bound version [] each bounds has = absurd has
  bounded bound version (e ∷ es) each bounds (inl here) =
      subst (λ v. bound ≤ v) here.same (bounds e.0 here.name here.cursor (ap (λ (c : Names Cursor). maps.get c here.name) (are e.0 ∙ ap (left e.0) each.0) ∙ here.there))
  bounded bound version (e ∷ es) each bounds (inr later) = bounded bound version es each.1 bounds later

  pub oldest_of_sessions : IsStrictlySortedBy nat_cmp (keys_of entries) → (most oldest : ℕ) → IsLowest (HasIn LooksAt (map (λ e. left e.0 e.1) entries)) most oldest → IsOldest held most oldest
  oldest_of_sessions ordered most oldest is = record {
    within = is.within;
    below = λ session name cursor there. is.below cursor.version (in_held session name cursor there);
    greatest = λ bound within each. is.greatest bound within (λ version has. bounded bound version entries (held_each entries now same ordered) each has);
  }

-- without a cursor of one session
abbrev pub without : ℕ → Name → ℕ → Names Cursor → Names Cursor
without session name other cursors = cond (nat_eq other session) (maps.remove cursors name) cursors

pub without-here : (session : ℕ) (name : Name) (other : ℕ) (cursors : Names Cursor) → other ≡ session → without session name other cursors ≡ maps.remove cursors name
without-here session name other cursors same = ap (λ b. cond b (maps.remove cursors name) cursors) ((Decides-eqb other session).1 same)

pub without-elsewhere : (session : ℕ) (name : Name) (other : ℕ) (cursors : Names Cursor) → (other ≡ session → ⊥) → without session name other cursors ≡ cursors
without-elsewhere session name other cursors differs =
    elim (nat_eq other session) as (λ b. nat_eq other session ≡ b → cond b (maps.remove cursors name) cursors ≡ cursors) [
      | true ↦ λ e. absurd (differs ((Decides-eqb other session).0 e))
      | false ↦ λ e. refl
    ] refl

pub without-none : (session : ℕ) (name : Name) (other : ℕ) → without session name other maps.empty ≡ maps.empty
without-none session name other = elim (nat_eq other session) as (λ b. cond b (maps.remove (maps.empty {X = Cursor} {R = name_cmp}) name) maps.empty ≡ maps.empty) [
  | true ↦ remove-empty name
  | false ↦ refl
]

pub without-held : (session : ℕ) (name : Name) (held : ℕ → Names Cursor) (other : ℕ) → held_at session (maps.remove (held session) name) held other ≡ without session name other (held other)
unfolding held_at
without-held session name held other =
    elim (nat_eq other session) as (λ b. nat_eq other session ≡ b → cond b (maps.remove (held session) name) (held other) ≡ cond b (maps.remove (held other) name) (held other)) [
      | true ↦ λ e. ap (λ s. maps.remove (held s) name) (sym ((Decides-eqb other session).0 e))
      | false ↦ λ e. refl
    ] refl
