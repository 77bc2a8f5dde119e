-- Where no session of the machine has a cursor, the engine has none.
use Rattle.std.proofs.Common.{◌≡◌, ◌≤◌, ◌<◌, ◌+◌, ◌∙◌, ◌⊎◌, ℕ, Bool, true, false, None, Some, ap, arith, inl, inr, List, lt-ltb, subst, sym}
use Rattle.std.specs.List.{list_any, range_with_len}
use Rattle.std.specs.Prelude.{nat_lt}
use Rattle.std.proofs.lemmas.List.Folds.{list_any_at}
use Rattle.std.proofs.lemmas.List.FromFn.{get_or-range_with_len, length-range_with_len}
use Rattle.std.proofs.lemmas.Bool.{false≢true}
use Rattle.std.specs.FinMap as names
use Rattle.std.specs.FinMap.{empty_of_len, get-empty}
use Rattle.rs_cursor.specs.Held.{cursors_by, held_of, lines_left}
use Rattle.rs_cursor.specs.declared.cursor.Cursor.{Cursor}
use Rattle.rs_cursor.proofs.MachineCursors.{len-cursors_by}
use Rattle.rs_disk.specs.declared.disk.Disk as disk
use Rattle.rs_engine.specs.Kept.{EngineState, IsMachine, seen_at}
use Rattle.rs_facts.specs.Fact.{Name, Names, name_cmp}
use Rattle.rs_machine.specs.Served.{Machine}
use Rattle.rs_machine.specs.State.{Cursors, RowText, State, some_cursor}
use Rattle.rs_machine.specs.declared.limits.TheConstants.{SESSIONS}

none_kept : (held : Names Cursor) → names.len held ≡ 0 → (name : Name) (cursor : Cursor) → names.get held name ≡ Some cursor → ⊥
none_kept held empty name cursor there = none_some (sym (ap (λ (h : Names Cursor). names.get h name) (empty_of_len held empty) ∙ get-empty name_cmp name) ∙ there)
  where
    none_some : None ≡ Some cursor → ⊥
    none_some e = cc e

-- a session in range that has one is found
some_in_range : (test : ℕ → Bool) (count m : ℕ) → m < count → test m ≡ true → list_any test (range_with_len 0 count) ≡ true
some_in_range test count m less some =
    list_any_at test (range_with_len 0 count) m 0 (subst (λ n. m < n) (sym (length-range_with_len 0 count)) less) (ap test (get_or-range_with_len 0 count m 0 less ∙ no_more m) ∙ some)
  where
    no_more : (n : ℕ) → 0 + n ≡ n
    no_more n = omega arith

some_session : (cursors : ℕ → Cursors) (session : ℕ) → session < SESSIONS → 0 < names.len (cursors session) → some_cursor cursors ≡ true
unfolding some_cursor
some_session cursors session below some = some_in_range (λ s. nat_lt 0 (names.len (cursors s))) SESSIONS session below (lt-ltb 0 (names.len (cursors session)) some)

below_or_not : (a b : ℕ) → (a < b) ⊎ (b ≤ a)
below_or_not a b = grind arith

module _ {D : Type 0} (d : disk.Ghosts D) (engine : EngineState D) (machine : Machine) (is : IsMachine d engine machine) (none : some_cursor machine.state.cursors ≡ false) where
  are : machine.state.cursors ≡ cursors_by (lines_left (seen_at is.stands.contents)) engine.cursors.held
  are = ap (λ (state : State). state.cursors) is.is

  has_none : (session : ℕ) → names.len (machine.state.cursors session) ≡ 0
  has_none session = elim (below_or_not session SESSIONS) [
    | inl below ↦ elim (below_or_not 0 (names.len (machine.state.cursors session))) [
      | inl some ↦ absurd (false≢true (sym none ∙ some_session machine.state.cursors session below some))
      | inr no_more ↦ omega (arith, no_more)
    ]
    | inr beyond ↦ (is.lawful.cursors session).none_beyond beyond
  ]

  pub nobody_waits : (session : ℕ) (name : Name) (cursor : Cursor) → names.get (held_of engine.cursors.held session) name ≡ Some cursor → ⊥
  nobody_waits session name cursor there =
      let lines : Cursor → List RowText = lines_left (seen_at is.stands.contents) in
      none_kept (held_of engine.cursors.held session)
      (sym (len-cursors_by lines engine.cursors.held session) ∙ sym (ap (λ (cursors : ℕ → Cursors). names.len (cursors session)) are) ∙ has_none session) name cursor there
