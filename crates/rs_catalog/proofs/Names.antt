-- Laws of what stands under names.
use Rattle.std.proofs.Common.{◌≡◌, Bool, true, false, cond, List, [], ◌∷◌, map, length, ◌&&◌, T, refl, sym, ap, subst, ◌∙◌}
use Rattle.std.specs.Prelude.{Option, Some, None}
use Rattle.std.specs.Option.{option_map}
use Rattle.std.specs.declared.cmp.Ordering.{Ordering}
use Rattle.std.specs.declared.cmp.Ordering.TheVariants.{Less, Equal, Greater}
use Rattle.std.specs.Ordering.{nat_cmp, is_eq, is_lt, eq_by_cmp}
use Rattle.std.specs.Cmp.{Equal-is, eq_by_cmp_equiv}
use Rattle.std.specs.Cmp.Lexicographic.{slice_cmp}
use Rattle.std.specs.List.{AllByRecursion, filter}
use Rattle.std.specs.List.Sorted.{IsStrictlySortedBy}
use Rattle.std.specs.Map.{lookup, keys_of}
use Rattle.std.specs.BTreeMap.{is_at}
use Rattle.std.specs.FinMap as names
use Rattle.std.specs.FinMap.Entries.{below_all}
use Rattle.std.proofs.lemmas.List.{length-map}
use Rattle.std.specs.FinMap.{find, is_sorted, get-entries, get-from_entries, get-from_sorted, get-insert, get-remove, get-retain_keys, get_tied, get-empty, len-entries, entries-from_sorted, entries_sorted, same_map}
use Rattle.arrayvec.specs.ArrayString.{ArrayString}
use Rattle.rs_facts.specs.Fact.{Name, Names, name_cmp}
pub use Rattle.rs_catalog.proofs.NameOrder.{name_cmp-total, name_cmp-antisymmetric}
use Rattle.rs_catalog.specs.Names.{entries_by_bytes, names_of, map_values}

-- names compare by their bytes
abbrev pub by_bytes : ArrayString → ArrayString → Ordering
by_bytes a b = slice_cmp nat_cmp a.bytes b.bytes

abbrev pub text : Name → ArrayString
text bytes = record { bytes = bytes; spare = [] }

pushed : {X Y : Type 0} (f : X → Y) (value : X) (b : Bool) (rest : Option X) → option_map f (cond b (Some value) rest) ≡ cond b (Some (f value)) (option_map f rest)
pushed f value true rest = refl
pushed f value false rest = refl

pushed_none : {X Y : Type 0} (f : X → Y) (b : Bool) (rest : Option X) → option_map f (cond b None rest) ≡ cond b None (option_map f rest)
pushed_none f true rest = refl
pushed_none f false rest = refl

turned : (key : ArrayString) (q : Name) → is_at (by_bytes key) (text q) ≡ eq_by_cmp name_cmp q key.bytes
unfolding name_cmp
turned key q = (eq_by_cmp_equiv name_cmp-total).symm key.bytes q

-- a list in the order of its names is the entries of its map
pub entries-from_entries : {X : Type 0} (entries : List (Name × X)) → T (is_sorted name_cmp entries) → names.entries (names.from_entries {R = name_cmp} entries) ≡ entries
entries-from_entries entries h =
    ap names.entries (same_map name_cmp-total name_cmp-antisymmetric (names.from_entries entries) (names.from_sorted entries)
    (λ q. get-from_entries name_cmp-total entries q ∙ sym (get-from_sorted name_cmp entries q h)))
    ∙ entries-from_sorted name_cmp entries h

module _ {V X : Type 0} (seen : V → X) where
  find-entries_by_bytes : (entries : List (ArrayString × V)) (q : Name) → find name_cmp q (entries_by_bytes seen entries) ≡ option_map seen (lookup (is_at (by_bytes (text q))) entries)
  unfolding name_cmp
  find-entries_by_bytes [] q = refl
  find-entries_by_bytes (e ∷ es) q =
      elim (is_eq (slice_cmp nat_cmp q e.0.bytes)) as (λ b. cond b (Some (seen e.1)) (find name_cmp q (entries_by_bytes seen es)) ≡ option_map seen (cond b (Some e.1) (lookup (is_at (by_bytes (text q))) es))) [
        | true ↦ refl
        | false ↦ find-entries_by_bytes es q
      ]

  pub get-names_of : (entries : List (ArrayString × V)) (q : Name) → names.get (names_of seen entries) q ≡ option_map seen (lookup (is_at (by_bytes (text q))) entries)
  unfolding names_of
  get-names_of entries q = get-from_entries name_cmp-total (entries_by_bytes seen entries) q ∙ find-entries_by_bytes entries q

  -- what a map is after one of its names took a value
  pub names_of-put : (old new : List (ArrayString × V)) (key : ArrayString) (value : V)
      → ((q : ArrayString) → lookup (is_at (by_bytes q)) new ≡ cond (is_at (by_bytes key) q) (Some value) (lookup (is_at (by_bytes q)) old))
      → names_of seen new ≡ names.insert (names_of seen old) key.bytes (seen value)
  names_of-put old new key value puts = same_map name_cmp-total name_cmp-antisymmetric _ _ (λ q.
      get-names_of new q ∙ ap (option_map seen) (puts (text q)) ∙ pushed seen value (is_at (by_bytes key) (text q)) (lookup (is_at (by_bytes (text q))) old)
      ∙ ap (λ b. cond b (Some (seen value)) (option_map seen (lookup (is_at (by_bytes (text q))) old))) (turned key q)
      ∙ sym (get-insert name_cmp-total (names_of seen old) key.bytes (seen value) q ∙ ap (cond (eq_by_cmp name_cmp q key.bytes) (Some (seen value))) (get-names_of old q)))

  -- what a map is after one of its names was taken out
  pub names_of-gone : (old new : List (ArrayString × V)) (key : ArrayString)
      → ((q : ArrayString) → lookup (is_at (by_bytes q)) new ≡ cond (is_at (by_bytes key) q) None (lookup (is_at (by_bytes q)) old))
      → names_of seen new ≡ names.remove (names_of seen old) key.bytes
  names_of-gone old new key goes = same_map name_cmp-total name_cmp-antisymmetric _ _ (λ q.
      get-names_of new q ∙ ap (option_map seen) (goes (text q)) ∙ pushed_none seen (is_at (by_bytes key) (text q)) (lookup (is_at (by_bytes (text q))) old)
      ∙ ap (λ b. cond b None (option_map seen (lookup (is_at (by_bytes (text q))) old))) (turned key q)
      ∙ sym (get-remove name_cmp-total (names_of seen old) key.bytes q ∙ ap (cond (eq_by_cmp name_cmp q key.bytes) None) (get-names_of old q)))

  and_true : (a b : Bool) → T a → T b → T (a && b)
  and_true true b h k = k
  and_true false b h k = absurd h

  below : (x : ArrayString) (entries : List (ArrayString × V)) → AllByRecursion (λ y. by_bytes x y ≡ Less) (keys_of entries) → T (below_all name_cmp x.bytes (entries_by_bytes seen entries))
  unfolding name_cmp
  below x [] h = tt
  below x (e ∷ es) h = and_true _ _ (subst (λ o. T (is_lt o)) (sym h.0) tt) (below x es h.1)

  sorted : (entries : List (ArrayString × V)) → IsStrictlySortedBy by_bytes (keys_of entries) → T (is_sorted name_cmp (entries_by_bytes seen entries))
  unfolding IsStrictlySortedBy
  sorted [] h = tt
  sorted (e ∷ es) h = and_true _ _ (below e.0 es h.0) (sorted es h.1)

  -- the entries of a map in the order of its names are the map's
  pub entries-names_of : (entries : List (ArrayString × V)) → IsStrictlySortedBy by_bytes (keys_of entries) → names.entries (names_of seen entries) ≡ entries_by_bytes seen entries
  unfolding names_of
  entries-names_of entries h = entries-from_entries (entries_by_bytes seen entries) (sorted entries h)

  pub len-names_of : (entries : List (ArrayString × V)) → IsStrictlySortedBy by_bytes (keys_of entries) → names.len (names_of seen entries) ≡ length entries
  len-names_of entries h = len-entries (names_of seen entries) ∙ ap length (entries-names_of entries h) ∙ length-map entries (λ e. (e.0.bytes, seen e.1))

-- ---- what is kept of a map by its values

module _ {X : Type 0} (keeps : X → Bool) where
  abbrev pub kept : Option X → Bool
  kept None = false
  kept (Some x) = keeps x

  none_below : (q k : Name) (es : List (Name × X)) → eq_by_cmp name_cmp q k ≡ true → T (below_all name_cmp k es) → find name_cmp q es ≡ None
  none_below q k [] same below = refl
  none_below q k (e ∷ es) same below =
      let parts = T_parts (is_lt (name_cmp k e.0)) (below_all name_cmp k es) below in
      let apart : eq_by_cmp name_cmp q e.0 ≡ false = ap (λ n. eq_by_cmp name_cmp n e.0) (name_cmp-antisymmetric q k ((Equal-is (name_cmp q k)).0 same)) ∙ less_apart (name_cmp k e.0) parts.0 in
      ap (λ b. cond b (Some e.1) (find name_cmp q es)) apart ∙ none_below q k es same parts.1
    where
      T_parts : (a b : Bool) → T (a && b) → T a × T b
      T_parts true b t = (tt, t)
      T_parts false b t = absurd t

      less_apart : (order : Ordering) → T (is_lt order) → is_eq order ≡ false
      less_apart Less t = refl
      less_apart Equal t = absurd t
      less_apart Greater t = refl

  find-kept : (q : Name) (es : List (Name × X)) → T (is_sorted name_cmp es) → find name_cmp q (filter (λ e. keeps e.1) es) ≡ cond (kept (find name_cmp q es)) (find name_cmp q es) None
  find-kept q [] sorted = refl
  find-kept q (e ∷ es) sorted =
      let parts = T_parts (below_all name_cmp e.0 es) (is_sorted name_cmp es) sorted in
      at (eq_by_cmp name_cmp q e.0) (keeps e.1) refl refl parts.0 (find-kept q es parts.1)
    where
      T_parts : (a b : Bool) → T (a && b) → T a × T b
      T_parts true b t = (tt, t)
      T_parts false b t = absurd t

      at : (same keep : Bool) → eq_by_cmp name_cmp q e.0 ≡ same → keeps e.1 ≡ keep → T (below_all name_cmp e.0 es)
          → find name_cmp q (filter (λ e. keeps e.1) es) ≡ cond (kept (find name_cmp q es)) (find name_cmp q es) None
          → find name_cmp q (cond (keeps e.1) (e ∷ filter (λ e. keeps e.1) es) (filter (λ e. keeps e.1) es)) ≡ cond (kept (cond (eq_by_cmp name_cmp q e.0) (Some e.1) (find name_cmp q es))) (cond (eq_by_cmp name_cmp q e.0) (Some e.1) (find name_cmp q es)) None
      at true true same keep below rest = rw keep (rw same (rw keep refl))
      at true false same keep below rest = let none = none_below q e.0 es same below in rw keep (rw same (rw keep (rest ∙ rw none refl)))
      at false true same keep below rest = rw keep (rw same rest)
      at false false same keep below rest = rw keep (rw same rest)

  entries-kept : (entries : List (ArrayString × X)) → entries_by_bytes (λ x. x) (filter (λ e. keeps e.1) entries) ≡ filter (λ e. keeps e.1) (entries_by_bytes (λ x. x) entries)
  entries-kept [] = refl
  entries-kept (e ∷ es) = elim (keeps e.1) as (λ b. entries_by_bytes (λ x. x) (cond b (e ∷ filter (λ e. keeps e.1) es) (filter (λ e. keeps e.1) es)) ≡ cond b ((e.0.bytes, e.1) ∷ filter (λ e. keeps e.1) (entries_by_bytes (λ x. x) es)) (filter (λ e. keeps e.1) (entries_by_bytes (λ x. x) es))) [
    | true ↦ ap (λ rest. (e.0.bytes, e.1) ∷ rest) (entries-kept es)
    | false ↦ entries-kept es
  ]

  -- the entries whose values pass the test are those of the names whose values pass it
  pub names_of-kept : (old new : List (ArrayString × X)) → IsStrictlySortedBy by_bytes (keys_of old) → new ≡ filter (λ e. keeps e.1) old
      → names_of (λ x. x) new ≡ names.retain_keys (names_of (λ x. x) old) (λ name. kept (names.get (names_of (λ x. x) old) name))
  unfolding names_of
  names_of-kept old new ordered is = same_map name_cmp-total name_cmp-antisymmetric _ _ (λ q.
      get-from_entries name_cmp-total (entries_by_bytes (λ x. x) new) q
      ∙ ap (find name_cmp q) (ap (entries_by_bytes (λ x. x)) is ∙ entries-kept old)
      ∙ find-kept q (entries_by_bytes (λ x. x) old) (sorted (λ x. x) old ordered)
      ∙ ap (λ o. cond (kept o) o None) (sym (get-from_entries name_cmp-total (entries_by_bytes (λ x. x) old) q))
      ∙ sym (get-retain_keys (names_of (λ x. x) old) (λ name. kept (names.get (names_of (λ x. x) old) name)) q (λ x tied. ap kept (get_tied name_cmp-total (names_of (λ x. x) old) q x tied))))

same_option : {X : Type 0} (o : Option X) → option_map (λ x. x) o ≡ o
same_option None = refl
same_option (Some x) = refl

-- what stands under a name, where values are seen as they are
pub get-names_of_same : {X : Type 0} (entries : List (ArrayString × X)) (key : ArrayString) → lookup (is_at (by_bytes key)) entries ≡ names.get (names_of (λ x. x) entries) key.bytes
get-names_of_same entries key = sym (get-names_of (λ x. x) entries key.bytes ∙ same_option _)

-- ---- values by a function

module _ {X Y : Type 0} (change : X → Y) where
  find-map : (entries : List (Name × X)) (q : Name) → find name_cmp q (map (λ e. (e.0, change e.1)) entries) ≡ option_map change (find name_cmp q entries)
  find-map [] q = refl
  find-map (e ∷ es) q =
      elim (eq_by_cmp name_cmp q e.0) as (λ b. cond b (Some (change e.1)) (find name_cmp q (map (λ e. (e.0, change e.1)) es)) ≡ option_map change (cond b (Some e.1) (find name_cmp q es))) [
        | true ↦ refl
        | false ↦ find-map es q
      ]

  pub get-map_values : (values : Names X) (q : Name) → names.get (map_values change values) q ≡ option_map change (names.get values q)
  unfolding map_values
  get-map_values values q = get-from_entries name_cmp-total _ q ∙ find-map (names.entries values) q ∙ ap (option_map change) (sym (get-entries values q))

  pub map_values-empty : map_values change (names.empty {X = X} {R = name_cmp}) ≡ names.empty
  map_values-empty = same_map name_cmp-total name_cmp-antisymmetric _ _ (λ q.
      get-map_values names.empty q ∙ ap (option_map change) (get-empty name_cmp q) ∙ sym (get-empty name_cmp q))

  pub map_values-insert : (values : Names X) (key : Name) (value : X) → map_values change (names.insert values key value) ≡ names.insert (map_values change values) key (change value)
  map_values-insert values key value = same_map name_cmp-total name_cmp-antisymmetric _ _ (λ q.
      get-map_values _ q ∙ ap (option_map change) (get-insert name_cmp-total values key value q) ∙ pushed change value (eq_by_cmp name_cmp q key) (names.get values q)
      ∙ sym (get-insert name_cmp-total (map_values change values) key (change value) q ∙ ap (cond (eq_by_cmp name_cmp q key) (Some (change value))) (get-map_values values q)))

  pub map_values-remove : (values : Names X) (key : Name) → map_values change (names.remove values key) ≡ names.remove (map_values change values) key
  map_values-remove values key = same_map name_cmp-total name_cmp-antisymmetric _ _ (λ q.
      get-map_values _ q ∙ ap (option_map change) (get-remove name_cmp-total values key q) ∙ pushed_none change (eq_by_cmp name_cmp q key) (names.get values q)
      ∙ sym (get-remove name_cmp-total (map_values change values) key q ∙ ap (cond (eq_by_cmp name_cmp q key) None) (get-map_values values q)))

  below-map : (x : Name) (entries : List (Name × X)) → T (below_all name_cmp x entries) → T (below_all name_cmp x (map (λ e. (e.0, change e.1)) entries))
  below-map x [] h = tt
  below-map x (e ∷ es) h =
      elim (is_lt (name_cmp x e.0)) as (λ b. T (b && below_all name_cmp x es) → T (b && below_all name_cmp x (map (λ e. (e.0, change e.1)) es))) [
        | true ↦ below-map x es
        | false ↦ λ h. h
      ] h

  sorted-map : (entries : List (Name × X)) → T (is_sorted name_cmp entries) → T (is_sorted name_cmp (map (λ e. (e.0, change e.1)) entries))
  sorted-map [] h = tt
  sorted-map (e ∷ es) h =
      joined (below_all name_cmp e.0 es) (is_sorted name_cmp es) _ _ (below-map e.0 es) (sorted-map es) h
    where
      joined : (a b c d : Bool) → (T a → T c) → (T b → T d) → T (a && b) → T (c && d)
      joined false b c d f g h = absurd h
      joined true b true d f g h = g h
      joined true b false d f g h = absurd (f tt)

  -- the same names in the same order, each value by the function
  pub entries-map_values : (values : Names X) → names.entries (map_values change values) ≡ map (λ e. (e.0, change e.1)) (names.entries values)
  unfolding map_values
  entries-map_values values = entries-from_entries _ (sorted-map (names.entries values) (entries_sorted values))

  pub len-map_values : (values : Names X) → names.len (map_values change values) ≡ names.len values
  len-map_values values = len-entries _ ∙ ap length (entries-map_values values) ∙ length-map (names.entries values) (λ e. (e.0, change e.1)) ∙ sym (len-entries values)

pub left_true : (a b : Bool) → T (a && b) → T a
left_true true b h = tt
left_true false b h = absurd h

pub right_true : (a b : Bool) → T (a && b) → T b
right_true true b h = h
right_true false b h = absurd h

-- ---- each entry of a map stands under its name

less_apart : (a b : Name) → T (is_lt (name_cmp a b)) → eq_by_cmp name_cmp b a ≡ false
less_apart a b h = (eq_by_cmp_equiv name_cmp-total).symm b a ∙ elim (name_cmp a b) as (λ o. T (is_lt o) → is_eq o ≡ false) [
  | Less ↦ λ h. refl
  | Equal ↦ λ h. absurd h
  | Greater ↦ λ h. refl
] h

module _ {X : Type 0} where
  abbrev FindsIn : List (Name × X) → Name × X → Type 0
  FindsIn all e = find name_cmp e.0 all ≡ Some e.1

  behind_first : (first : Name × X) (all rest : List (Name × X)) → T (below_all name_cmp first.0 rest) → AllByRecursion (FindsIn all) rest → AllByRecursion (FindsIn (first ∷ all)) rest
  behind_first first all [] h each = tt
  behind_first first all (e ∷ es) h each =
      (ap (λ b. cond b (Some first.1) (find name_cmp e.0 all)) (less_apart first.0 e.0 (left_true _ _ h)) ∙ each.0, behind_first first all es (right_true _ _ h) each.1)

  finds_each : (entries : List (Name × X)) → T (is_sorted name_cmp entries) → AllByRecursion (FindsIn entries) entries
  finds_each [] h = tt
  finds_each (e ∷ es) h =
      (ap (λ b. cond b (Some e.1) (find name_cmp e.0 es)) ((eq_by_cmp_equiv name_cmp-total).refl e.0), behind_first e es es (left_true _ _ h) (finds_each es (right_true _ _ h)))

  all_alike : (P Q : Name × X → Type 0) → ((e : Name × X) → P e → Q e) → (entries : List (Name × X)) → AllByRecursion P entries → AllByRecursion Q entries
  all_alike P Q f [] h = tt
  all_alike P Q f (e ∷ es) h = (f e h.0, all_alike P Q f es h.1)

  pub each_entry : (values : Names X) → AllByRecursion (λ e. names.get values e.0 ≡ Some e.1) (names.entries values)
  each_entry values = all_alike (FindsIn (names.entries values)) (λ e. names.get values e.0 ≡ Some e.1) (λ e found. get-entries values e.0 ∙ found) (names.entries values)
      (finds_each (names.entries values) (entries_sorted values))
