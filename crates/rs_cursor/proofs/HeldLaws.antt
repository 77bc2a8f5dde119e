-- Laws of the cursors that are held of each session.
use Rattle.std.proofs.Common.{◌≡◌, ◌⊎◌, ℕ, Bool, true, false, cond, Option, Some, None, inl, inr, nat_eq, unwrap_or, refl, sym, ap, ◌∙◌}
use Rattle.std.specs.FinMap as maps
use Rattle.std.specs.FinMap.{get-insert, get-remove, get-empty, same_map}
use Rattle.std.specs.Cmp.{nat_cmp_total, unsigned_tied}
use Rattle.std.specs.Ordering.{nat_cmp, eq_by_cmp}
use Rattle.std.proofs.Math.Path.{fun_ext}
use Rattle.std.proofs.lemmas.Bool.Decides.{Decides-eqb}
use Rattle.rs_catalog.proofs.MapLaws.{before_remove, cases_insert}
use Rattle.rs_catalog.proofs.NameOrder.{name_cmp-total, name_cmp-antisymmetric}
use Rattle.rs_cursor.specs.Held.{HeldCursors, held_at, held_of}
use Rattle.rs_cursor.specs.declared.cursor.Cursor.{Cursor}
use Rattle.rs_facts.specs.Fact.{Name, Names, name_cmp}

-- ---- what is held of a session

pub held_of-some : (held : HeldCursors) (session : ℕ) (cursors : Names Cursor) → maps.get held session ≡ Some cursors → held_of held session ≡ cursors
unfolding held_of
held_of-some held session cursors there = ap (λ o. unwrap_or o maps.empty) there

pub held_of-none : (held : HeldCursors) (session : ℕ) → maps.get held session ≡ None → held_of held session ≡ maps.empty
unfolding held_of
held_of-none held session there = ap (λ o. unwrap_or o maps.empty) there

pub held_of-empty : (session : ℕ) → held_of maps.empty session ≡ maps.empty
held_of-empty session = held_of-none maps.empty session (get-empty nat_cmp session)

pub held_of-insert : (held : HeldCursors) (session : ℕ) (cursors : Names Cursor) → held_of (maps.insert held session cursors) ≡ held_at session cursors (held_of held)
unfolding held_of held_at
held_of-insert held session cursors = fun_ext (λ other.
    ap (λ o. unwrap_or o maps.empty) (get-insert nat_cmp_total held session cursors other)
    ∙ ap (λ b. unwrap_or (cond b (Some cursors) (maps.get held other)) maps.empty) (unsigned_tied other session)
    ∙ elim (nat_eq other session) as (λ b. unwrap_or (cond b (Some cursors) (maps.get held other)) maps.empty ≡ cond b cursors (held_of held other)) [
      | true ↦ refl
      | false ↦ refl
    ])

-- no cursor is found where none is held
pub none_held : (cursors : Names Cursor) (name : Name) → cursors ≡ maps.empty → maps.get cursors name ≡ None
none_held cursors name none = ap (λ (c : Names Cursor). maps.get c name) none ∙ get-empty name_cmp name

-- ---- where one session has others

module _ (session : ℕ) (cursors : Names Cursor) (held : ℕ → Names Cursor) where
  -- the session has these, and any other session what it had
  pub cases_held_at : (other : ℕ) → ((other ≡ session) × (held_at session cursors held other ≡ cursors)) ⊎ (held_at session cursors held other ≡ held other)
  unfolding held_at
  cases_held_at other =
      elim (nat_eq other session) as (λ b. nat_eq other session ≡ b → ((other ≡ session) × (cond b cursors (held other) ≡ cursors)) ⊎ (cond b cursors (held other) ≡ held other)) [
        | true ↦ λ e. inl ((Decides-eqb other session).0 e, refl)
        | false ↦ λ e. inr refl
      ] refl

  pub held_at-here : held_at session cursors held session ≡ cursors
  unfolding held_at
  held_at-here = ap (λ b. cond b cursors (held session)) ((Decides-eqb session session).1 refl)

-- nothing changes where a session takes the cursors that it has
pub held_at-same : (held : ℕ → Names Cursor) (session : ℕ) → held_at session (held session) held ≡ held
held_at-same held session = fun_ext (λ other. elim (cases_held_at session (held session) held other) [
  | inl here ↦ here.1 ∙ ap held (sym here.0)
  | inr there ↦ there
])

-- where a session has none, nothing is taken out
pub remove-empty : (name : Name) → maps.remove (maps.empty {X = Cursor} {R = name_cmp}) name ≡ maps.empty
remove-empty name = same_map name_cmp-total name_cmp-antisymmetric _ _ (λ q.
    get-remove name_cmp-total maps.empty name q
    ∙ none_either (eq_by_cmp name_cmp q name) (maps.get maps.empty q) (get-empty name_cmp q)
    ∙ sym (get-empty name_cmp q))
  where
    none_either : (b : Bool) (o : Option Cursor) → o ≡ None → cond b None o ≡ None
    none_either true o e = refl
    none_either false o e = e

-- ---- a cursor of one session that is opened, moved or closed

module _ (held : ℕ → Names Cursor) (session : ℕ) (name : Name) where
  -- a cursor that is then held is the one that was put there, or was held before
  pub cases_put : (cursor : Cursor) (other : ℕ) (q : Name) (found : Cursor) → maps.get (held_at session (maps.insert (held session) name cursor) held other) q ≡ Some found
      → ((other ≡ session) × (q ≡ name) × (cursor ≡ found)) ⊎ (maps.get (held other) q ≡ Some found)
  cases_put cursor other q found there =
      elim (cases_held_at session (maps.insert (held session) name cursor) held other) [
        | inl here ↦ elim (cases_insert (held session) name cursor q found (ap (λ (c : Names Cursor). maps.get c q) (sym here.1) ∙ there)) [
          | inl put ↦ inl (here.0, put.0, put.1)
          | inr before ↦ inr (ap (λ s. maps.get (held s) q) here.0 ∙ before)
        ]
        | inr same ↦ inr (ap (λ (c : Names Cursor). maps.get c q) (sym same) ∙ there)
      ]

  -- a cursor that is still held was held before
  pub held_before : (other : ℕ) (q : Name) (found : Cursor) → maps.get (held_at session (maps.remove (held session) name) held other) q ≡ Some found → maps.get (held other) q ≡ Some found
  held_before other q found there =
      elim (cases_held_at session (maps.remove (held session) name) held other) [
        | inl here ↦ ap (λ s. maps.get (held s) q) here.0 ∙ before_remove (held session) name q found (ap (λ (c : Names Cursor). maps.get c q) (sym here.1) ∙ there)
        | inr same ↦ ap (λ (c : Names Cursor). maps.get c q) (sym same) ∙ there
      ]
