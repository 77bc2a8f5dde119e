-- Laws of the machine's cursors, by the lines that each cursor has left.
use Rattle.std.proofs.Common.{◌≡◌, ℕ, true, false, cond, List, Option, Some, None, nat_eq, refl, sym, ap, ◌∙◌}
use Rattle.std.specs.FinMap as maps
use Rattle.std.specs.FinMap.{same_map}
use Rattle.std.specs.Option.{option_map}
use Rattle.std.specs.Prelude.{is_some}
use Rattle.std.proofs.Math.Path.{fun_ext}
use Rattle.rs_catalog.proofs.NameOrder.{name_cmp-total, name_cmp-antisymmetric}
use Rattle.rs_catalog.proofs.Names.{get-map_values, len-map_values, map_values-empty, map_values-insert, map_values-remove}
use Rattle.rs_catalog.specs.Names.{map_values}
use Rattle.rs_cursor.specs.Held.{HeldCursors, cursors_by, held_at, held_of}
use Rattle.rs_cursor.specs.declared.cursor.Cursor.{Cursor}
use Rattle.rs_cursor.specs.declared.place.Place.{Place}
use Rattle.rs_facts.specs.Fact.{Name, Names}
use Rattle.rs_machine.specs.State.{RowText, cursors_at, has, no_cursors}

-- ---- of one session

module _ (lines : Cursor → List RowText) (held : HeldCursors) (session : ℕ) where
  -- what the machine finds under a name is what the cursor there has left
  pub get-cursors_by : (name : Name) → maps.get (cursors_by lines held session) name ≡ option_map lines (maps.get (held_of held session) name)
  unfolding cursors_by
  get-cursors_by name = get-map_values lines (held_of held session) name

  pub get-cursors_by-some : (name : Name) (cursor : Cursor) → maps.get (held_of held session) name ≡ Some cursor → maps.get (cursors_by lines held session) name ≡ Some (lines cursor)
  get-cursors_by-some name cursor there = get-cursors_by name ∙ ap (option_map lines) there

  pub get-cursors_by-none : (name : Name) → maps.get (held_of held session) name ≡ None → maps.get (cursors_by lines held session) name ≡ None
  get-cursors_by-none name none = get-cursors_by name ∙ ap (option_map lines) none

  -- the machine has a cursor of a name just where one is held
  pub has-cursors_by : (name : Name) → has (cursors_by lines held session) name ≡ has (held_of held session) name
  has-cursors_by name = ap is_some (get-cursors_by name) ∙ either (maps.get (held_of held session) name)
    where
      either : (o : Option Cursor) → is_some (option_map lines o) ≡ is_some o
      either None = refl
      either (Some cursor) = refl

  pub len-cursors_by : maps.len (cursors_by lines held session) ≡ maps.len (held_of held session)
  unfolding cursors_by
  len-cursors_by = len-map_values lines (held_of held session)

-- ---- of all sessions

-- where no cursor is held, the machine has none
pub cursors_by-none : (lines : Cursor → List RowText) (held : HeldCursors) → ((session : ℕ) → held_of held session ≡ maps.empty) → cursors_by lines held ≡ no_cursors
unfolding cursors_by
cursors_by-none lines held none = fun_ext (λ session. ap (map_values lines) (none session) ∙ map_values-empty lines)

-- the same cursors are held
pub cursors_by-same : (lines : Cursor → List RowText) (old new : HeldCursors) → held_of new ≡ held_of old → cursors_by lines new ≡ cursors_by lines old
unfolding cursors_by
cursors_by-same lines old new same = fun_ext (λ session. ap (λ held. map_values lines (held session)) same)

-- one session has other cursors
pub cursors_by-at : (lines : Cursor → List RowText) (old new : HeldCursors) (session : ℕ) (cursors : Names Cursor) → held_of new ≡ held_at session cursors (held_of old)
    → cursors_by lines new ≡ cursors_at session (map_values lines cursors) (cursors_by lines old)
unfolding cursors_by cursors_at held_at
cursors_by-at lines old new session cursors is = fun_ext (λ other.
    ap (λ held. map_values lines (held other)) is
    ∙ elim (nat_eq other session) as (λ b. map_values lines (cond b cursors (held_of old other)) ≡ cond b (map_values lines cursors) (map_values lines (held_of old other))) [
      | true ↦ refl
      | false ↦ refl
    ])

module _ (lines : Cursor → List RowText) (old new : HeldCursors) (session : ℕ) (name : Name) where
  -- a cursor is opened, or another one stands in its place
  pub cursors_by-insert : (cursor : Cursor) → held_of new ≡ held_at session (maps.insert (held_of old session) name cursor) (held_of old)
      → cursors_by lines new ≡ cursors_at session (maps.insert (cursors_by lines old session) name (lines cursor)) (cursors_by lines old)
  unfolding cursors_by
  cursors_by-insert cursor is =
      cursors_by-at lines old new session _ is ∙ ap (λ cursors. cursors_at session cursors (cursors_by lines old)) (map_values-insert lines (held_of old session) name cursor)

  -- a cursor moves to a place from where it has these lines left
  pub cursors_by-move : (cursor : Cursor) (place : Place) (left : List RowText) → held_of new ≡ held_at session (maps.insert (held_of old session) name (record cursor { place = place })) (held_of old)
      → lines (record cursor { place = place }) ≡ left → cursors_by lines new ≡ cursors_at session (maps.insert (cursors_by lines old session) name left) (cursors_by lines old)
  cursors_by-move cursor place left is are =
      cursors_by-insert (record cursor { place = place }) is ∙ ap (λ rows. cursors_at session (maps.insert (cursors_by lines old session) name rows) (cursors_by lines old)) are

  -- a cursor is closed
  pub cursors_by-remove : held_of new ≡ held_at session (maps.remove (held_of old session) name) (held_of old)
      → cursors_by lines new ≡ cursors_at session (maps.remove (cursors_by lines old session) name) (cursors_by lines old)
  unfolding cursors_by
  cursors_by-remove is =
      cursors_by-at lines old new session _ is ∙ ap (λ cursors. cursors_at session cursors (cursors_by lines old)) (map_values-remove lines (held_of old session) name)

-- two functions that give the same lines of each held cursor give the machine the same cursors
pub cursors_by-agree : (lines others : Cursor → List RowText) (held : HeldCursors)
    → ((session : ℕ) (name : Name) (cursor : Cursor) → maps.get (held_of held session) name ≡ Some cursor → lines cursor ≡ others cursor)
    → cursors_by lines held ≡ cursors_by others held
cursors_by-agree lines others held agree = fun_ext (λ session. same_map name_cmp-total name_cmp-antisymmetric _ _ (λ name.
    get-cursors_by lines held session name ∙ at session name (maps.get (held_of held session) name) refl ∙ sym (get-cursors_by others held session name)))
  where
    at : (session : ℕ) (name : Name) (found : Option Cursor) → maps.get (held_of held session) name ≡ found → option_map lines found ≡ option_map others found
    at session name None there = refl
    at session name (Some cursor) there = ap Some (agree session name cursor there)
