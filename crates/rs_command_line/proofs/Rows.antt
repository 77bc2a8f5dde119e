-- What holds of each row, where each use of an argument passes.
use Rattle.std.proofs.Common.{◌≡◌, ◌∙◌, ◌||◌, ℕ, Bool, cond, true, false, refl, sym, ap, subst, arith, List, [], ◌∷◌, ◌++◌, length, Some, eqb-true}
use Rattle.std.specs.Prelude.{⊤, ◌==◌, find, fold}
use Rattle.std.specs.Str.{bytes_eq}
use Rattle.std.specs.Option.{option_map_or}
use Rattle.std.proofs.lemmas.Slice.Eq.{bytes_eq-Decides}
use Rattle.clap.specs.Facts.{explicit_source, unwrap_or_range}
use Rattle.clap.specs.Kinds.{Kinds, or_else, range_kinds}
use Rattle.clap.specs.Faults.{action_fault, repeat_fault, use_fault, values_fault}
use Rattle.clap.specs.Walk.{Row, Rule, Text, action_of, at_row, default_rows, has_row, more_values, most_values, reading_by, used, used_as, values_or_missing, with_default, with_values, without}
use Rattle.clap.specs.Takes.{is_given}
use Rattle.clap.specs.declared.builder.action.ArgAction.{ArgAction}
use Rattle.clap.specs.declared.builder.action.ArgAction.TheVariants.{Append, Set, SetTrue}
use Rattle.clap.specs.declared.error.kind.ErrorKind.{ErrorKind}
use Rattle.clap.specs.declared.error.kind.ErrorKind.TheVariants.{InvalidValue, WrongNumberOfValues}
use Rattle.clap.specs.declared.builder.value_parser.Reading.{Reading}
use Rattle.clap.specs.declared.parser.matches.ValueSource.{ValueSource}
use Rattle.clap.specs.declared.parser.matches.ValueSource.TheVariants.{CommandLine, DefaultValue}

-- where neither of two steps has a kind
pub neither : (a b : Kinds) → or_else a b ≡ [] → (a ≡ []) × (b ≡ [])
neither [] b e = (refl, e)
neither (k ∷ ks) b e = cc

pub no_kind : (k : ErrorKind) (ks : Kinds) → k ∷ ks ≡ [] → ⊥
no_kind k ks e = cc

one_is_wanted : (n : ℕ) → range_kinds 1 1 n ≡ [] → n ≡ 1
one_is_wanted n e = go (n == 0) (1 == n) refl e
  where
    go : (none one : Bool) → (1 == n) ≡ one → cond none (InvalidValue ∷ []) (cond one [] (WrongNumberOfValues ∷ [])) ≡ [] → n ≡ 1
    go true one same e = absurd (no_kind _ _ e)
    go false true same e = sym (eqb-true 1 n same)
    go false false same e = absurd (no_kind _ _ e)

-- one value is wanted, and one is there
pub only_value : (values : List Text) → range_kinds 1 1 (length values) ≡ [] → (v : Text) × (values ≡ v ∷ [])
only_value [] e = absurd (no_kind _ _ e)
only_value (v ∷ []) e = (v, refl)
only_value (v ∷ w ∷ ws) e =
    let one = one_is_wanted (length (v ∷ w ∷ ws)) e in
    absurd (omega arith)

module _ (Q : Text → Reading → Text → Type 0) where
  -- the row has a first value, of which Q holds
  abbrev pub HasFirst : Row → Type 0
  HasFirst r = (v : Text) × (vs : List Text) × (r.values ≡ v ∷ vs) × Q r.id r.reading v

  abbrev pub Full : List Row → Type 0
  Full [] = ⊤
  Full (r ∷ rs) = HasFirst r × Full rs

  Full-append : (xs ys : List Row) → Full xs → Full ys → Full (xs ++ ys)
  Full-append [] ys a b = b
  Full-append (x ∷ xs) ys a b = (a.0, Full-append xs ys a.1 b)

  at_row-Full : (id : Text) (change : Row → List Row) (missing rows : List Row) → ((r : Row) → HasFirst r → Full (change r)) → Full missing → Full rows
      → Full (at_row id change missing rows)
  at_row-Full id change missing [] changed new all = new
  at_row-Full id change missing (r ∷ rs) changed new all = go (bytes_eq r.id id) (at_row-Full id change missing rs changed new all.1)
    where
      go : (b : Bool) → Full (at_row id change missing rs) → Full (cond b (change r ++ rs) (r ∷ at_row id change missing rs))
      go true rest = Full-append (change r) rs (changed r all.0) all.1
      go false rest = (all.0, rest)

  with_values-Full : (id : Text) (how : Reading) (source : ValueSource) (v : Text) (vs : List Text) (rows : List Row) → Q id how v → Full rows
      → Full (with_values id how source (v ∷ vs) rows)
  with_values-Full id how source v vs rows q all =
      at_row-Full id (more_values source (v ∷ vs)) _ rows (λ r h. ((h.0, h.1 ++ (v ∷ vs), ap (λ xs. xs ++ (v ∷ vs)) h.2, h.3), tt)) ((v, vs, refl, q), tt) all

  without-Full : (id : Text) (rows : List Row) → Full rows → Full (without id rows)
  without-Full id rows all = at_row-Full id (λ _. []) [] rows (λ r h. tt) tt all

  -- a use that passes leaves each row with a first value
  abbrev pub IsSound : Rule → Type 0
  IsSound a = (again : Bool) (values : List Text) (rows : List Row) → use_fault again a values rows ≡ [] → Full rows → Full (used a values rows)

  abbrev pub AllSound : List Rule → Type 0
  AllSound [] = ⊤
  AllSound (a ∷ rest) = IsSound a × AllSound rest

  pub found_sound : (p : Rule → Bool) (c : List Rule) (a : Rule) → AllSound c → find p c ≡ Some a → IsSound a
  found_sound p [] a all e = cc
  found_sound p (x ∷ xs) a all e = go (p x) e (found_sound p xs a all.1)
    where
      go : (b : Bool) → cond b (Some x) (find p xs) ≡ Some a → (find p xs ≡ Some a → IsSound a) → IsSound a
      go true e rest =
          let same : x ≡ a = cc in
          subst IsSound same all.0
      go false e rest = rest e

  -- an option that takes one value, of which Q holds where its parser takes it
  pub option_sound : (a : Rule) → action_of a ≡ Set → (unwrap_or_range a.range).start_inclusive ≡ 1 → most_values a ≡ 1
      → ((v : Text) → values_fault a (v ∷ []) ≡ [] → Q a.id (reading_by a) v) → IsSound a
  option_sound a set least most takes again values rows e all =
      let steps = neither (range_kinds (unwrap_or_range a.range).start_inclusive (most_values a) (length values)) _ e in
      let one = only_value values (subst (λ n. range_kinds 1 n (length values) ≡ []) most (subst (λ n. range_kinds n (most_values a) (length values) ≡ []) least steps.0)) in
      subst (λ (xs : List Text). Full (used a xs rows)) (sym one.1)
      (subst (λ (x : ArgAction). Full (used_as x a.id (reading_by a) (one.0 ∷ []) rows)) (sym set)
      (go one.0 (subst (λ (x : ArgAction). action_fault x again a (one.0 ∷ []) rows ≡ []) set (subst (λ (xs : List Text). action_fault (action_of a) again a (values_or_missing a xs) rows ≡ []) one.1 steps.1))))
    where
      go : (v : Text) → action_fault Set again a (v ∷ []) rows ≡ [] → Full (used_as Set a.id (reading_by a) (v ∷ []) rows)
      go v passed = with_values-Full a.id (reading_by a) CommandLine v [] (without a.id rows) (takes v (neither (repeat_fault again a.id rows) (values_fault a (v ∷ [])) passed).1) (without-Full a.id rows all)

  -- an option that may come again, each time with one value, which will do
  pub append_sound : (a : Rule) → action_of a ≡ Append → (unwrap_or_range a.range).start_inclusive ≡ 1 → most_values a ≡ 1
      → ((v : Text) → Q a.id (reading_by a) v) → IsSound a
  append_sound a append least most good again values rows e all =
      let steps = neither (range_kinds (unwrap_or_range a.range).start_inclusive (most_values a) (length values)) _ e in
      let one = only_value values (subst (λ n. range_kinds 1 n (length values) ≡ []) most (subst (λ n. range_kinds n (most_values a) (length values) ≡ []) least steps.0)) in
      subst (λ (xs : List Text). Full (used a xs rows)) (sym one.1)
      (subst (λ (x : ArgAction). Full (used_as x a.id (reading_by a) (one.0 ∷ []) rows)) (sym append)
      (with_values-Full a.id (reading_by a) CommandLine one.0 [] rows (good one.0) all))

  -- a flag, each value of which will do
  pub flag_sound : (a : Rule) (given : Text) → action_of a ≡ SetTrue → a.missing ≡ given ∷ [] → ((v : Text) → Q a.id (reading_by a) v) → IsSound a
  flag_sound a given set missing good again values rows e all =
      subst (λ (x : ArgAction). Full (used_as x a.id (reading_by a) (values_or_missing a values) rows)) (sym set) (go values)
    where
      go : (values : List Text) → Full (with_values a.id (reading_by a) CommandLine (values_or_missing a values) (without a.id rows))
      go [] =
          subst (λ (xs : List Text). Full (with_values a.id (reading_by a) CommandLine xs (without a.id rows))) (sym missing)
          (with_values-Full a.id (reading_by a) CommandLine given [] (without a.id rows) (good given) (without-Full a.id rows all))
      go (v ∷ vs) = with_values-Full a.id (reading_by a) CommandLine v vs (without a.id rows) (good v) (without-Full a.id rows all)

  -- a flag that is answered with a text never passes
  pub request_sound : (a : Rule) (k : ErrorKind) → ((again : Bool) (values : List Text) (rows : List Row) → action_fault (action_of a) again a values rows ≡ k ∷ [])
      → IsSound a
  request_sound a k asks again values rows e all =
      let steps = neither (range_kinds (unwrap_or_range a.range).start_inclusive (most_values a) (length values)) _ e in
      absurd (no_kind k [] (sym (asks again (values_or_missing a values) rows) ∙ steps.1))

  -- a default of which Q holds
  pub with_default-Full : (a : Rule) (rows : List Row) → ((v : Text) (vs : List Text) → a.defaults ≡ v ∷ vs → Q a.id (reading_by a) v) → Full rows
      → Full (with_default rows a)
  with_default-Full a rows good all = go (has_row a.id rows)
    where
      filled : (values : List Text) → a.defaults ≡ values → Full (default_rows a.id (reading_by a) values rows)
      filled [] e = all
      filled (v ∷ vs) e = with_values-Full a.id (reading_by a) DefaultValue v vs rows (good v vs e) all

      go : (b : Bool) → Full (cond b rows (default_rows a.id (reading_by a) a.defaults rows))
      go true = all
      go false = filled a.defaults refl

  -- all defaults are such
  abbrev pub AllDefaults : List Rule → Type 0
  AllDefaults [] = ⊤
  AllDefaults (a ∷ rest) = ((v : Text) (vs : List Text) → a.defaults ≡ v ∷ vs → Q a.id (reading_by a) v) × AllDefaults rest

  pub defaults_full : (c : List Rule) (rows : List Row) → AllDefaults c → Full rows → Full (fold with_default rows c)
  defaults_full [] rows good all = all
  defaults_full (a ∷ rest) rows good all = defaults_full rest (with_default rows a) good.1 (with_default-Full a rows good.0 all)

  -- what was found of an id
  pub found_row : (rows : List Row) (id : Text) → Full rows → has_row id rows ≡ true
      → (r : Row) × (find (λ r. bytes_eq r.id id) rows ≡ Some r) × (bytes_eq r.id id ≡ true) × HasFirst r
  found_row [] id all e = cc
  found_row (x ∷ xs) id all e = go (bytes_eq x.id id) refl e (found_row xs id all.1)
    where
      go : (b : Bool) → bytes_eq x.id id ≡ b → (b || has_row id xs) ≡ true
          → (has_row id xs ≡ true → (r : Row) × (find (λ r. bytes_eq r.id id) xs ≡ Some r) × (bytes_eq r.id id ≡ true) × HasFirst r)
          → (r : Row) × (cond b (Some x) (find (λ r. bytes_eq r.id id) xs) ≡ Some r) × (bytes_eq r.id id ≡ true) × HasFirst r
      go true same e rest = (x, refl, same, all.0)
      go false same e rest = rest e

-- what the words gave has a row
pub given_row : (rows : List Row) (id : Text) → is_given id rows ≡ true → has_row id rows ≡ true
given_row [] id e = cc
given_row (x ∷ xs) id e = go (bytes_eq x.id id) e (given_row xs id)
  where
    go : (b : Bool) → option_map_or (λ (r : Row). explicit_source r.source) (cond b (Some x) (find (λ r. bytes_eq r.id id) xs)) false ≡ true
        → (is_given id xs ≡ true → has_row id xs ≡ true) → (b || has_row id xs) ≡ true
    go true e rest = refl
    go false e rest = rest e

-- a default gives a row, and takes none away
same_text : (id : Text) → bytes_eq id id ≡ true
same_text id = (bytes_eq-Decides id id).1 refl

or_else_true : (a b : Bool) → b ≡ true → (a || b) ≡ true
or_else_true true b e = refl
or_else_true false b e = e

values_have_row : (id : Text) (how : Reading) (source : ValueSource) (values : List Text) (rows : List Row) → has_row id (with_values id how source values rows) ≡ true
values_have_row id how source values [] = rw (same_text id) refl
values_have_row id how source values (r ∷ rs) = go (bytes_eq r.id id) refl (values_have_row id how source values rs)
  where
    go : (b : Bool) → bytes_eq r.id id ≡ b → has_row id (with_values id how source values rs) ≡ true
        → has_row id (cond b (more_values source values r ++ rs) (r ∷ with_values id how source values rs)) ≡ true
    go true same rest = rw same refl
    go false same rest = or_else_true (bytes_eq r.id id) _ rest

values_keep_row : (other id : Text) (how : Reading) (source : ValueSource) (values : List Text) (rows : List Row) → has_row other rows ≡ true
    → has_row other (with_values id how source values rows) ≡ true
values_keep_row other id how source values [] e = cc
values_keep_row other id how source values (r ∷ rs) e = go (bytes_eq r.id id) (kept (bytes_eq r.id other) e (values_keep_row other id how source values rs))
  where
    kept : (b : Bool) → (b || has_row other rs) ≡ true → (has_row other rs ≡ true → has_row other (with_values id how source values rs) ≡ true)
        → (b || has_row other (with_values id how source values rs)) ≡ true
    kept true e rest = refl
    kept false e rest = rest e

    go : (b : Bool) → (bytes_eq r.id other || has_row other (with_values id how source values rs)) ≡ true
        → has_row other (cond b (more_values source values r ++ rs) (r ∷ with_values id how source values rs)) ≡ true
    go true rest = e
    go false rest = rest

pub default_gives_row : (a : Rule) (rows : List Row) (v : Text) (vs : List Text) → a.defaults ≡ v ∷ vs → has_row a.id (with_default rows a) ≡ true
default_gives_row a rows v vs e = go (has_row a.id rows) refl
  where
    go : (b : Bool) → has_row a.id rows ≡ b → has_row a.id (cond b rows (default_rows a.id (reading_by a) a.defaults rows)) ≡ true
    go true same = same
    go false same = rw e (values_have_row a.id (reading_by a) DefaultValue (v ∷ vs) rows)

pub default_keeps_row : (other : Text) (a : Rule) (rows : List Row) → has_row other rows ≡ true → has_row other (with_default rows a) ≡ true
default_keeps_row other a rows e = go (has_row a.id rows)
  where
    filled : (values : List Text) → has_row other (default_rows a.id (reading_by a) values rows) ≡ true
    filled [] = e
    filled (v ∷ vs) = values_keep_row other a.id (reading_by a) DefaultValue (v ∷ vs) rows e

    go : (b : Bool) → has_row other (cond b rows (default_rows a.id (reading_by a) a.defaults rows)) ≡ true
    go true = e
    go false = filled a.defaults
