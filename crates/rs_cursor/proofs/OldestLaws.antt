-- Laws of the oldest version that a held cursor looks at.
use Rattle.std.proofs.Common.{◌≡◌, ◌≤◌, ℕ, true, false, cond, Some, inl, inr, refl, sym, ap, subst, ◌∙◌, arith}
use Rattle.std.specs.FinMap as maps
use Rattle.std.specs.FinMap.{get-insert}
use Rattle.std.specs.Ordering.{eq_by_cmp}
use Rattle.rs_catalog.proofs.MapLaws.{get-insert_here, none_some, same_name-true, some_same}
use Rattle.rs_catalog.proofs.NameOrder.{name_cmp-total}
use Rattle.rs_cursor.proofs.HeldLaws.{cases_held_at, cases_put, held_at-here, held_before, none_held}
use Rattle.rs_cursor.specs.Held.{IsOldest, held_at}
use Rattle.rs_cursor.specs.declared.cursor.Cursor.{Cursor}
use Rattle.rs_cursor.specs.declared.place.Place.{Place}
use Rattle.rs_facts.specs.Fact.{Name, Names, name_cmp}

-- a held cursor looks at the version
pub record IsLookedAt (held : ℕ → Names Cursor) (version : ℕ) : Type 0 where
  pub session : ℕ
  pub name : Name
  pub cursor : Cursor
  pub there : maps.get (held session) name ≡ Some cursor
  pub same : cursor.version ≡ version

-- each version at which one of these cursors looks is one at which one of the others looks
pub record HaveVersionsOf (held others : ℕ → Names Cursor) : Type 0 where
  pub each : (session : ℕ) (name : Name) (cursor : Cursor) → maps.get (held session) name ≡ Some cursor → IsLookedAt others cursor.version

-- ---- of any cursors

-- what bounds every version bounds the oldest
pub bound_of_oldest : (held : ℕ → Names Cursor) (most oldest : ℕ) → IsOldest held most oldest → (bound : ℕ) → bound ≤ most
    → ((session : ℕ) (name : Name) (cursor : Cursor) → maps.get (held session) name ≡ Some cursor → bound ≤ cursor.version) → bound ≤ oldest
bound_of_oldest held most oldest is bound within each = is.greatest bound within each

-- with no cursor the oldest is `most`
pub oldest-none : (held : ℕ → Names Cursor) (most oldest : ℕ) → ((session : ℕ) → held session ≡ maps.empty) → IsOldest held most oldest → oldest ≡ most
oldest-none held most oldest none is =
    let within : oldest ≤ most = is.within in
    let all : most ≤ oldest = is.greatest most (omega arith) (λ session name cursor there. none_some cursor (sym (none_held (held session) name (none session)) ∙ there)) in
    omega arith

-- where fewer versions are looked at, the oldest is no older
pub oldest-fewer : (held fewer : ℕ → Names Cursor) (most oldest later : ℕ) → HaveVersionsOf fewer held → IsOldest held most oldest → IsOldest fewer most later → oldest ≤ later
oldest-fewer held fewer most oldest later have is then = then.greatest oldest is.within (λ session name cursor there.
    let of = have.each session name cursor there in
    subst (λ version. oldest ≤ version) of.same (is.below of.session of.name of.cursor of.there))

-- where the same versions are looked at, the oldest is the same
pub oldest-same : (held others : ℕ → Names Cursor) (most oldest : ℕ) → HaveVersionsOf held others → HaveVersionsOf others held → IsOldest held most oldest → IsOldest others most oldest
oldest-same held others most oldest have back is = record {
  within = is.within;
  below = λ session name cursor there.
      let of = back.each session name cursor there in
      subst (λ version. oldest ≤ version) of.same (is.below of.session of.name of.cursor of.there);
  greatest = λ bound within each. is.greatest bound within (λ session name cursor there.
      let of = have.each session name cursor there in
      subst (λ version. bound ≤ version) of.same (each of.session of.name of.cursor of.there));
}

-- ---- of a cursor that moved, and of one that is closed

module _ (held : ℕ → Names Cursor) (session : ℕ) (name : Name) where
  -- the versions that are looked at when a cursor is closed were looked at before
  pub versions_of_fewer : HaveVersionsOf (held_at session (maps.remove (held session) name) held) held
  versions_of_fewer = record {
    each = λ other q cursor there. record { session = other; name = q; cursor = cursor; there = held_before held session name other q cursor there; same = refl };
  }

  module _ (cursor : Cursor) (place : Place) (there : maps.get (held session) name ≡ Some cursor) where
    abbrev moved : ℕ → Names Cursor
    moved = held_at session (maps.insert (held session) name (record cursor { place = place })) held

    pub versions_of_moved : HaveVersionsOf (held_at session (maps.insert (held session) name (record cursor { place = place })) held) held
    versions_of_moved = record {
      each = λ other q found is. elim (cases_put held session name (record cursor { place = place }) other q found is) [
        | inl put ↦ record { session = session; name = name; cursor = cursor; there = there; same = ap (λ (c : Cursor). c.version) put.2 }
        | inr before ↦ record { session = other; name = q; cursor = found; there = before; same = refl }
      ];
    }

    pub versions_after_move : HaveVersionsOf held (held_at session (maps.insert (held session) name (record cursor { place = place })) held)
    versions_after_move = record {
      each = λ other q found is. elim (cases_held_at session (maps.insert (held session) name (record cursor { place = place })) held other) [
        | inl here ↦ elim (eq_by_cmp name_cmp q name) as (λ b. eq_by_cmp name_cmp q name ≡ b → IsLookedAt moved found.version) [
          | true ↦ λ e. record {
            session = session;
            name = name;
            cursor = record cursor { place = place };
            there = ap (λ (c : Names Cursor). maps.get c name) (held_at-here session (maps.insert (held session) name (record cursor { place = place })) held) ∙ get-insert_here (held session) name (record cursor { place = place });
            same = ap (λ (c : Cursor). c.version) (some_same cursor found (sym there ∙ ap (maps.get (held session)) (sym (same_name-true q name e)) ∙ ap (λ s. maps.get (held s) q) (sym here.0) ∙ is));
          }
          | false ↦ λ e. record {
            session = other;
            name = q;
            cursor = found;
            there = ap (λ (c : Names Cursor). maps.get c q) here.1 ∙ get-insert name_cmp-total (held session) name (record cursor { place = place }) q
                ∙ ap (λ b. cond b (Some (record cursor { place = place })) (maps.get (held session) q)) e ∙ ap (λ s. maps.get (held s) q) (sym here.0) ∙ is;
            same = refl;
          }
        ] refl
        | inr same ↦ record { session = other; name = q; cursor = found; there = ap (λ (c : Names Cursor). maps.get c q) same ∙ is; same = refl }
      ];
    }

    -- a move leaves the oldest version as it is
    pub oldest-moved : (most oldest : ℕ) → IsOldest held most oldest → IsOldest (held_at session (maps.insert (held session) name (record cursor { place = place })) held) most oldest
    oldest-moved most oldest is = oldest-same held moved most oldest versions_after_move versions_of_moved is

    pub oldest-before_move : (most oldest : ℕ) → IsOldest (held_at session (maps.insert (held session) name (record cursor { place = place })) held) most oldest → IsOldest held most oldest
    oldest-before_move most oldest is = oldest-same moved held most oldest versions_of_moved versions_after_move is
