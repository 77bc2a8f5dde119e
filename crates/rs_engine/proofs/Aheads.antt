-- What is kept of cursors: what a FETCH takes, and what it leaves.
use Rattle.std.proofs.Common.{◌≡◌, ◌∙◌, ◌⊎◌, ℕ, List, [], Option, None, Some, ap, arith, inl, inr, length, subst, sym}
use Rattle.std.proofs.lemmas.Option.{same_Some}
use Rattle.std.specs.FinMap as names
use Rattle.std.specs.Prelude.{Contains, IfSome}
use Rattle.rs_answers.specs.Versions.{SeenVersion}
use Rattle.rs_cursor.specs.Held.{held_of}
use Rattle.rs_cursor.specs.Kept.{AreKept}
use Rattle.rs_cursor.specs.declared.cursor.Cursor.{Cursor}
use Rattle.rs_cursor.specs.declared.kept.KeptAhead.{KeptAhead}
use Rattle.rs_engine.specs.Ahead.{AreAhead, IsAheadOf, IsAmong, IsEmpty, IsLessOf, IsNewest}
use Rattle.rs_engine.specs.declared.engine.ahead.Ahead.{Ahead}
use Rattle.rs_engine.specs.declared.engine.ahead.LinesAhead.{LinesAhead}
use Rattle.rs_engine.specs.declared.engine.open.OpenCursors.{OpenCursors}
use Rattle.rs_facts.specs.Fact.{Name}

-- where none are kept, these are not
in_none : (slots : List Ahead) → slots ≡ [] → (one : Ahead) → Contains slots one → ⊥
in_none slots empty one there =
    let none : length slots ≡ 0 = ap length empty in
    omega (arith, none, there.1)

pub none_kept : (ahead : LinesAhead) → IsEmpty ahead → (one : Ahead) → IsAmong ahead one → ⊥
none_kept ahead empty one (inl there) = in_none ahead.slots.items empty.0 one there
none_kept ahead empty one (inr there) = in_none ahead.marks.items empty.1 one there

-- some of what is kept is kept
pub some_ahead : (versions : ℕ → SeenVersion) (old new : OpenCursors) → AreAhead versions old → ((one : Ahead) → IsAmong new.ahead one → IsAmong old.ahead one)
    → ((one : Ahead) → IsAmong new.ahead one → (cursor : Cursor) → names.get (held_of new.held one.session) one.name.bytes ≡ Some cursor
    → names.get (held_of old.held one.session) one.name.bytes ≡ Some cursor)
    → AreAhead versions new
some_ahead versions old new are others were = record { each = λ ahead there cursor found. are.each ahead (others ahead there) cursor (were ahead there cursor found) }

module _ (versions : ℕ → SeenVersion) (session : ℕ) (name : Name) (cursor : Cursor) (cursors : OpenCursors) (there : names.get (held_of cursors.held session) name ≡ Some cursor)
    (are : AreAhead versions cursors) where
  abbrev AreOfCursor : KeptAhead → Type 0
  AreOfCursor = AreKept (versions cursor.version) cursor.plan cursor.method

  -- what is taken is the cursor's
  pub taken_kept : (taken : Option KeptAhead) → IfSome taken (IsAheadOf session name cursors.ahead) → IfSome taken AreOfCursor
  taken_kept None from = tt
  taken_kept (Some kept) from =
      subst AreOfCursor (sym from.is_kept) (are.each from.ahead from.is cursor ((λ i. names.get (held_of cursors.held (from.of.0 i)) (from.of.1 i)) ∙ there))

  -- and so is what is put
  newest_kept : (put : Option KeptAhead) → IfSome put AreOfCursor → (one : Ahead) → IsNewest session name put one → (found : Cursor)
      → names.get (held_of cursors.held one.session) one.name.bytes ≡ Some found → AreKept (versions found.version) found.plan found.method one.kept
  newest_kept put kept one is found at =
      let here : cursor ≡ found = same_Some cursor found (sym there ∙ sym (λ i. names.get (held_of cursors.held (is.of.0 i)) (is.of.1 i)) ∙ at) in
      subst (λ (c : Cursor). AreKept (versions c.version) c.plan c.method one.kept) here (subst (λ (k : Option KeptAhead). IfSome k AreOfCursor) is.is_kept kept)

  pub put_ahead : (given : Option KeptAhead) → IfSome given AreOfCursor → (left now : LinesAhead) → ((one : Ahead) → IsAmong left one → IsAmong cursors.ahead one)
      → ((one : Ahead) → IsAmong now one → IsAmong left one ⊎ IsLessOf left one ⊎ IsNewest session name given one)
      → AreAhead versions (record { held = cursors.held; ahead = now })
  put_ahead given kept left now others put = record {
    each = λ ahead is found at.
        elim (put ahead is) [
          | inl before ↦ are.each ahead (others ahead before) found at
          | inr (inl less) ↦ less.kept (versions found.version) found.plan found.method (are.each less.more (others less.more less.is) found ((λ i. names.get (held_of cursors.held (sym less.of.0 i)) (sym less.of.1 i)) ∙ at))
          | inr (inr newest) ↦ newest_kept given kept ahead newest found at
        ];
  }
