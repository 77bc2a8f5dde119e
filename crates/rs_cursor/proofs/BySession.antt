-- Laws of what is kept by the number of a session.
use Rattle.std.proofs.Common.{◌≡◌, ℕ, zero, suc, ◌+◌, ◌<◌, Bool, true, false, ◌||◌, cond, List, [], ◌∷◌, Option, Some, None, refl, sym, ap, subst, ◌∙◌, arith, lt-ltb}
use Rattle.std.specs.BTreeMap.{BTreeMap, is_at}
use Rattle.std.specs.Bool.{IsTrue, OnFalse}
use Rattle.std.specs.Cmp.{Equal-is, eq_by_cmp_equiv, nat_cmp_total}
use Rattle.std.specs.FinMap as maps
use Rattle.std.specs.FinMap.{empty_of_len, get-empty, get-insert, len-empty, nat_cmp-IsAntisymmetric}
use Rattle.std.specs.List.{AllByRecursion, list_any, range_with_len}
use Rattle.std.specs.List.Sorted.{IsStrictlySortedBy}
use Rattle.std.specs.Map.{keys_of, lookup, values_of}
use Rattle.std.specs.Ordering.{eq_by_cmp, is_eq, nat_cmp}
use Rattle.std.specs.Prelude.{is_some, nat_lt}
use Rattle.std.specs.declared.cmp.Ordering.TheVariants.{Less}
use Rattle.std.proofs.lemmas.List.Folds.{list_any_at}
use Rattle.std.proofs.lemmas.List.FromFn.{get_or-range_with_len, length-range_with_len}
use Rattle.rs_catalog.proofs.MapLaws.{none_some, some_same}
use Rattle.rs_catalog.proofs.Numbered.{get-numbered, insert-same, numbered}
use Rattle.rs_cursor.proofs.HeldLaws.{held_at-same, held_of-insert, held_of-none, held_of-some, remove-empty}
use Rattle.rs_cursor.proofs.MachineCursors.{len-cursors_by}
use Rattle.rs_cursor.specs.Held.{HeldCursors, cursors_by, held_at, held_of}
use Rattle.rs_cursor.specs.Sessions.{AreOfSessions}
use Rattle.rs_cursor.specs.declared.cursor.Cursor.{Cursor}
use Rattle.rs_facts.specs.Fact.{Name, Names, name_cmp}
use Rattle.rs_machine.specs.State.{RowText, some_cursor}
use Rattle.rs_machine.specs.declared.limits.TheConstants.{SESSIONS}

abbrev pub Entries : Type 0
Entries = List (ℕ × Names Cursor)

abbrev pub BySession : Type 0
BySession = BTreeMap ℕ (Names Cursor)

-- ---- which sessions something is kept of

pub of_sessions-empty : AreOfSessions maps.empty
of_sessions-empty session has = absurd (none_there (maps.get maps.empty session) (get-empty nat_cmp session) has)
  where
    none_there : (o : Option (Names Cursor)) → o ≡ None → IsTrue (is_some o) → ⊥
    none_there None e has = cc
    none_there (Some cursors) e has = cc

pub of_sessions-insert : (held : HeldCursors) (session : ℕ) (cursors : Names Cursor) → AreOfSessions held → session < SESSIONS → AreOfSessions (maps.insert held session cursors)
of_sessions-insert held session cursors of below other has =
    elim (eq_by_cmp nat_cmp other session) as (λ b. eq_by_cmp nat_cmp other session ≡ b → IsTrue (is_some (cond b (Some cursors) (maps.get held other))) → other < SESSIONS) [
      | true ↦ λ e h. subst (λ s. s < SESSIONS) (sym (nat_cmp-IsAntisymmetric other session ((Equal-is (nat_cmp other session)).0 e))) below
      | false ↦ λ e h. of other h
    ] refl (ap is_some (sym (get-insert nat_cmp_total held session cursors other)) ∙ has)

pub of_sessions_put : (held new : HeldCursors) (n session : ℕ) (cursors : Names Cursor) → AreOfSessions held → n ≡ session → session < SESSIONS → new ≡ maps.insert held n cursors → AreOfSessions new
of_sessions_put held new n session cursors of number below is =
    subst AreOfSessions (sym is) (of_sessions-insert held n cursors of (subst (λ s. s < SESSIONS) (sym number) below))

-- ---- what a look-up finds

pub found_cursors : (entries : Entries) (now : HeldCursors) (session : ℕ) (cursors : Names Cursor) → numbered entries ≡ now → lookup (is_at (nat_cmp session)) entries ≡ Some cursors
    → maps.get now session ≡ Some cursors
found_cursors entries now session cursors same there = ap (λ (m : HeldCursors). maps.get m session) (sym same) ∙ get-numbered entries session ∙ there

pub found_none : (entries : Entries) (now : HeldCursors) (session : ℕ) → numbered entries ≡ now → lookup (is_at (nat_cmp session)) entries ≡ None
    → maps.get now session ≡ None
found_none entries now session same there = ap (λ (m : HeldCursors). maps.get m session) (sym same) ∙ get-numbered entries session ∙ there

-- the number of a session is the session
module _ (entries : Entries) (now : HeldCursors) (n session : ℕ) (same : numbered entries ≡ now) (number : n ≡ session) where
  pub at_found : (cursors : Names Cursor) → lookup (is_at (nat_cmp n)) entries ≡ Some cursors → held_of now session ≡ cursors
  at_found cursors there = ap (held_of now) (sym number) ∙ held_of-some now n cursors (found_cursors entries now n cursors same there)

  pub at_none : lookup (is_at (nat_cmp n)) entries ≡ None → held_of now session ≡ maps.empty
  at_none there = ap (held_of now) (sym number) ∙ held_of-none now n (found_none entries now n same there)

  -- the session's cursors are others
  pub put_at : (new : HeldCursors) (cursors after : Names Cursor) → new ≡ maps.insert (numbered entries) n cursors → cursors ≡ after → held_of new ≡ held_at session after (held_of now)
  put_at new cursors after is are =
      ap held_of (is ∙ ap (λ (old : HeldCursors). maps.insert old n cursors) same)
      ∙ held_of-insert now n cursors
      ∙ ap (λ s. held_at s cursors (held_of now)) number
      ∙ ap (λ (c : Names Cursor). held_at session c (held_of now)) are

  -- the session has the cursors that it had
  pub same_at : (new : HeldCursors) (cursors before : Names Cursor) → lookup (is_at (nat_cmp n)) entries ≡ Some before → new ≡ maps.insert (numbered entries) n cursors → cursors ≡ before → new ≡ now
  same_at new cursors before there is are =
      is ∙ ap (λ (old : HeldCursors). maps.insert old n cursors) same ∙ ap (maps.insert now n) are ∙ insert-same now n before (found_cursors entries now n before same there)

  -- nothing is taken out where the session has none
  pub none_removed : (name : Name) → lookup (is_at (nat_cmp n)) entries ≡ None → held_of now ≡ held_at session (maps.remove (held_of now session) name) (held_of now)
  none_removed name there =
      let none = at_none there in
      sym (ap (λ (c : Names Cursor). held_at session c (held_of now)) (ap (λ (c : Names Cursor). maps.remove c name) none ∙ remove-empty name ∙ sym none) ∙ held_at-same (held_of now) session)

-- ---- all that is kept

-- each entry is found under its number
module _ {V : Type 0} where
  found_later : (first : ℕ × V) (all rest : List (ℕ × V)) → AllByRecursion (λ k. nat_cmp first.0 k ≡ Less) (keys_of rest) → AllByRecursion (λ e. lookup (is_at (nat_cmp e.0)) all ≡ Some e.1) rest
      → AllByRecursion (λ e. lookup (is_at (nat_cmp e.0)) (first ∷ all) ≡ Some e.1) rest
  found_later first all [] less each = tt
  found_later first all (e ∷ es) less each = (
    ap (λ b. cond b (Some first.1) (lookup (is_at (nat_cmp e.0)) all)) ((eq_by_cmp_equiv nat_cmp_total).symm e.0 first.0 ∙ ap is_eq less.0) ∙ each.0,
    found_later first all es less.1 each.1,
  )

  pub found_each : (entries : List (ℕ × V)) → IsStrictlySortedBy nat_cmp (keys_of entries) → AllByRecursion (λ e. lookup (is_at (nat_cmp e.0)) entries ≡ Some e.1) entries
  unfolding IsStrictlySortedBy
  found_each [] ordered = tt
  found_each (e ∷ es) ordered =
      (ap (λ b. cond b (Some e.1) (lookup (is_at (nat_cmp e.0)) es)) ((eq_by_cmp_equiv nat_cmp_total).refl e.0), found_later e es es ordered.0 (found_each es ordered.1))

pub all_alike : {A : Type 0} (P Q : A → Type 0) → ((x : A) → P x → Q x) → (xs : List A) → AllByRecursion P xs → AllByRecursion Q xs
all_alike P Q f [] h = tt
all_alike P Q f (x ∷ xs) h = (f x h.0, all_alike P Q f xs h.1)

-- each entry is what is held of its session
pub held_each : (entries : Entries) (now : HeldCursors) → numbered entries ≡ now → IsStrictlySortedBy nat_cmp (keys_of entries) → AllByRecursion (λ e. held_of now e.0 ≡ e.1) entries
held_each entries now same ordered =
    all_alike (λ e. lookup (is_at (nat_cmp e.0)) entries ≡ Some e.1) (λ e. held_of now e.0 ≡ e.1) (λ e there. at_found entries now e.0 e.0 same refl e.1 there) entries (found_each entries ordered)

-- ---- whether there is a cursor

abbrev pub has_some : Names Cursor → Bool
has_some cursors = nat_lt 0 (maps.len cursors)

true_false : {P : Type 0} → true ≡ false → P
true_false e = cc

left_false : (a b : Bool) → (a || b) ≡ false → a ≡ false
left_false true b e = e
left_false false b e = refl

right_false : (a b : Bool) → (a || b) ≡ false → b ≡ false
right_false true b e = true_false e
right_false false b e = e

no_cursor : (cursors : Names Cursor) → has_some cursors ≡ false → cursors ≡ maps.empty
no_cursor cursors none = empty_of_len cursors (zero_of (maps.len cursors) none)
  where
    zero_of : (n : ℕ) → nat_lt 0 n ≡ false → n ≡ 0
    zero_of zero e = refl
    zero_of (suc n) e = true_false (sym (lt-ltb 0 (suc n) (omega arith)) ∙ e)

found_empty : (entries : Entries) (session : ℕ) (cursors : Names Cursor) → list_any has_some (values_of entries) ≡ false → lookup (is_at (nat_cmp session)) entries ≡ Some cursors → cursors ≡ maps.empty
found_empty [] session cursors none there = none_some cursors there
found_empty (e ∷ es) session cursors none there =
    elim (is_at (nat_cmp session) e.0) as (λ b. cond b (Some e.1) (lookup (is_at (nat_cmp session)) es) ≡ Some cursors → cursors ≡ maps.empty) [
      | true ↦ λ is. sym (some_same e.1 cursors is) ∙ no_cursor e.1 (left_false _ _ none)
      | false ↦ found_empty es session cursors (right_false _ _ none)
    ] there

-- where no session has a cursor, none is held
pub none_kept : (entries : Entries) (now : HeldCursors) → numbered entries ≡ now → list_any has_some (values_of entries) ≡ false → (session : ℕ) → held_of now session ≡ maps.empty
none_kept entries now same none session = at (lookup (is_at (nat_cmp session)) entries) refl
  where
    at : (found : Option (Names Cursor)) → lookup (is_at (nat_cmp session)) entries ≡ found → held_of now session ≡ maps.empty
    at None is = at_none entries now session session same refl is
    at (Some cursors) is = at_found entries now session session same refl cursors is ∙ found_empty entries session cursors none is

-- a session that has a cursor
pub record HasSome (now : HeldCursors) : Type 0 where
  pub session : ℕ
  pub has : has_some (held_of now session) ≡ true

some_kept : (now : HeldCursors) (entries : Entries) → AllByRecursion (λ e. held_of now e.0 ≡ e.1) entries → list_any has_some (values_of entries) ≡ true → HasSome now
some_kept now [] each some = true_false (sym some)
some_kept now (e ∷ es) each some =
    elim (has_some e.1) as (λ b. has_some e.1 ≡ b → (b || list_any has_some (values_of es)) ≡ true → HasSome now) [
      | true ↦ λ has s. record { session = e.0; has = ap has_some each.0 ∙ has }
      | false ↦ λ has s. some_kept now es each.1 s
    ] refl some

session_below : (now : HeldCursors) (session : ℕ) → AreOfSessions now → has_some (held_of now session) ≡ true → session < SESSIONS
session_below now session of has = at (maps.get now session) refl
  where
    at : (found : Option (Names Cursor)) → maps.get now session ≡ found → session < SESSIONS
    at None is = true_false (sym has ∙ ap has_some (held_of-none now session is) ∙ ap (nat_lt 0) (len-empty name_cmp Cursor))
    at (Some cursors) is = of session (ap is_some is)

-- ---- the same of the machine's cursors

none_in_range : (test : ℕ → Bool) (from count : ℕ) → ((m : ℕ) → test m ≡ false) → list_any test (range_with_len from count) ≡ false
none_in_range test from zero none = refl
none_in_range test from (suc count) none = ap (λ b. b || list_any test (range_with_len (from + 1) count)) (none from) ∙ none_in_range test (from + 1) count none

some_in_range : (test : ℕ → Bool) (count m : ℕ) → m < count → test m ≡ true → list_any test (range_with_len 0 count) ≡ true
some_in_range test count m less some =
    list_any_at test (range_with_len 0 count) m 0 (subst (λ n. m < n) (sym (length-range_with_len 0 count)) less) (ap test (get_or-range_with_len 0 count m 0 less ∙ no_more m) ∙ some)
  where
    no_more : (n : ℕ) → 0 + n ≡ n
    no_more n = omega arith

module _ (entries : Entries) (now : HeldCursors) (same : numbered entries ≡ now) where
  pub any_held : OnFalse (list_any has_some (values_of entries)) ((session : ℕ) → held_of now session ≡ maps.empty)
  any_held = on_false (list_any has_some (values_of entries)) (none_kept entries now same)
    where
      on_false : {P : Type 0} (b : Bool) → (b ≡ false → P) → OnFalse b P
      on_false true f = tt
      on_false false f = f refl

  pub any_machine : AreOfSessions (numbered entries) → IsStrictlySortedBy nat_cmp (keys_of entries) → (lines : Cursor → List RowText) → list_any has_some (values_of entries) ≡ some_cursor (cursors_by lines now)
  unfolding some_cursor
  any_machine of ordered lines = at (list_any has_some (values_of entries)) refl
    where
      in_machine : (session : ℕ) → nat_lt 0 (maps.len (cursors_by lines now session)) ≡ has_some (held_of now session)
      in_machine session = ap (nat_lt 0) (len-cursors_by lines now session)

      at : (b : Bool) → list_any has_some (values_of entries) ≡ b → list_any has_some (values_of entries) ≡ list_any (λ session. nat_lt 0 (maps.len (cursors_by lines now session))) (range_with_len 0 SESSIONS)
      at false is = is ∙ sym (none_in_range (λ session. nat_lt 0 (maps.len (cursors_by lines now session))) 0 SESSIONS (λ session.
          in_machine session ∙ ap has_some (none_kept entries now same is session) ∙ ap (nat_lt 0) (len-empty name_cmp Cursor)))
      at true is =
          let some = some_kept now entries (held_each entries now same ordered) is in
          is ∙ sym (some_in_range (λ session. nat_lt 0 (maps.len (cursors_by lines now session))) SESSIONS some.session
          (session_below now some.session (subst AreOfSessions same of) some.has) (in_machine some.session ∙ some.has))
