-- Columns by name, one after another.
use Rattle.std.proofs.Common.{◌≡◌, ℕ, zero, suc, ◌+◌, ◌-◌, ◌<◌, ◌≤◌, Bool, true, false, ◌&&◌, ◌||◌, List, [], ◌∷◌, map, length, take, drop, get_or, take_all, length-drop, Option, Some, None, Ok, Err, refl, sym, ap, ◌∙◌, arith}
use Rattle.std.specs.List.{list_any}
use Rattle.std.proofs.lemmas.List.{drop_more, drop_all, get_or_default}
use Rattle.std.proofs.Common.{◌++◌, Result, append_assoc, set}
use Rattle.std.proofs.Math.ListN.{get_or-map}
use Rattle.std.proofs.lemmas.List.{append-nil, length-map}
use Rattle.std.specs.List.{refill, AllByRecursion}
use Rattle.std.specs.Prelude.{if◌then◌else◌}
use Rattle.std.proofs.lemmas.List.{length-set}
use Rattle.rs_value.specs.declared.column.ColumnType.{ColumnType}
use Rattle.rs_checker.proofs.ConditionLaws.{type_at}
use Rattle.rs_refusal.specs.declared.refusal.Refusal.{Refusal}
use Rattle.rs_value.specs.declared.column.ColumnType.TheVariants as types
use Rattle.rs_facts.specs.Query.{Column, column_at, renamed_at}
use Rattle.arrayvec.specs.ArrayString.{ArrayString}
use Rattle.rs_refusal.specs.declared.refusal.Refusal.TheVariants.{NoSuchColumn}
use Rattle.rs_facts.specs.Fact.{Name}
use Rattle.rs_facts.specs.Insert.{same_name}
use Rattle.rs_catalog.proofs.MapLaws.{same_name-true}
use Rattle.rs_syntax.specs.declared.commands.ColumnDefinition.{ColumnDefinition}
use Rattle.rs_syntax.specs.View.{column_tree}
use Rattle.rs_machine.specs.Checks.{◌>>=◌, column_names, some_name_twice, found}
use Rattle.rs_machine.specs.Checking.{place_in, column_place, column_places, same_columns, share_a_name}
use Rattle.rs_checker.specs.Inner.{is_same_column, AllBelow}

abbrev pub names_of_columns : List ColumnDefinition → List Name
names_of_columns columns = column_names (map column_tree columns)

abbrev pub bytes_of : List ArrayString → List Name
bytes_of names = map (λ name. name.bytes) names

abbrev pub has_name_in : Name → List ColumnDefinition → Bool
has_name_in name columns = list_any (same_name name) (names_of_columns columns)

abbrev pub is_among_in : Name → List ArrayString → Bool
is_among_in name names = list_any (same_name name) (bytes_of names)

abbrev pub share_in : List ColumnDefinition → List ColumnDefinition → Bool
share_in right left = share_a_name (names_of_columns left) (names_of_columns right)

abbrev pub twice_in : List ArrayString → Bool
twice_in names = some_name_twice (bytes_of names)

-- ---- the place of a name

-- the first column of this name is here
pub place_found : (name : Name) (columns : List ColumnDefinition) (i : ℕ) → i < length columns
    → ((k : ℕ) (d : ColumnDefinition) → k < i → same_name name (get_or columns k d).name.bytes ≡ false)
    → ((d : ColumnDefinition) → same_name name (get_or columns i d).name.bytes ≡ true)
    → place_in (names_of_columns columns) name ≡ Some i
place_found name [] i h none here = absurd (omega arith)
place_found name (first ∷ columns) zero h none here = rw (here first)
place_found name (first ∷ columns) (suc i) h none here =
    rw (none zero first (omega arith), place_found name columns i (omega arith) (λ k d l. none (suc k) d (omega arith)) here)

-- no column has this name
pub place_missing : (name : Name) (columns : List ColumnDefinition)
    → ((k : ℕ) (d : ColumnDefinition) → k < length columns → same_name name (get_or columns k d).name.bytes ≡ false)
    → place_in (names_of_columns columns) name ≡ None
place_missing name [] none = refl
place_missing name (first ∷ columns) none =
    rw (none zero first (omega arith), place_missing name columns (λ k d l. none (suc k) d (omega arith)))

-- ---- columns that agree

abbrev pub agree : List ColumnDefinition → List ColumnDefinition → Bool
agree left right = same_columns (map column_tree left) (map column_tree right)

pub agree_lengths : (left right : List ColumnDefinition) → agree left right ≡ true → length left ≡ length right
agree_lengths [] [] e = refl
agree_lengths [] (b ∷ right) e = cc
agree_lengths (a ∷ left) [] e = cc
agree_lengths (a ∷ left) (b ∷ right) e = ap suc (agree_lengths left right (rest _ _ e))
  where
    rest : (x y : Bool) → (x && y) ≡ true → y ≡ true
    rest true y e = e
    rest false y e = cc

pub agree_next : (left right : List ColumnDefinition) (i : ℕ) (a b : ColumnDefinition) (same : Bool) → length left ≡ length right → i < length left → a ≡ get_or left i a → b ≡ get_or right i b
    → same ≡ is_same_column (column_tree a) (column_tree b)
    → agree (drop i left) (drop i right) ≡ (same && agree (drop (i + 1) left) (drop (i + 1) right))
agree_next left right i a b same lengths h is so test =
    (λ j. agree (drop_more left i a h j) (drop_more right i b (omega arith) j))
    ∙ (λ j. is_same_column (column_tree (sym is j)) (column_tree (sym so j)) && agree (drop (i + 1) left) (drop (i + 1) right))
    ∙ ap (λ t. t && agree (drop (i + 1) left) (drop (i + 1) right)) (sym test)

pub agree_end : (left right : List ColumnDefinition) (i : ℕ) → length left ≡ length right → length left ≤ i → agree (drop i left) (drop i right) ≡ true
agree_end left right i lengths h = λ j. agree (drop_all i left h j) (drop_all i right (omega arith) j)

-- what follows a place is all that is left after it
pub rest_is : {A : Type 0} (xs : List A) (i : ℕ) → take (length xs - (i + 1)) (drop (i + 1) xs) ≡ drop (i + 1) xs
rest_is xs i = take_all _ _ (omega (arith, length-drop (i + 1) xs))

pub not_true : (b : Bool) → (b ≡ true → ⊥) → b ≡ false
not_true true h = absurd (h refl)
not_true false h = refl

pub here_too : (name : Name) (columns : List ColumnDefinition) (i : ℕ) (item d : ColumnDefinition) (b : Bool) → i < length columns → item ≡ get_or columns i item
    → same_name name item.name.bytes ≡ b → same_name name (get_or columns i d).name.bytes ≡ b
here_too name columns i item d b h is e = ap (λ (x : ColumnDefinition). same_name name x.name.bytes) (get_or_default columns i d item h ∙ sym is) ∙ e

-- ---- places

pub below_at : (bound : ℕ) (places : List ℕ) (i : ℕ) → i < length places → AllBelow bound places → get_or places i 0 < bound
below_at bound [] i h all = absurd (omega arith)
below_at bound (x ∷ xs) zero h all = all.0
below_at bound (x ∷ xs) (suc i) h all = below_at bound xs i (omega arith) all.1

pub below_more : (bound : ℕ) (places : List ℕ) (place : ℕ) → AllBelow bound places → place < bound → AllBelow bound (places ++ place ∷ [])
below_more bound [] place all h = (h, tt)
below_more bound (x ∷ xs) place all h = (all.0, below_more bound xs place all.1 h)

pub column_here : (items given : List ColumnDefinition) (place index : ℕ) (item : ColumnDefinition) → given ≡ items → index ≡ place → item ≡ get_or given index item → place < length items
    → column_tree item ≡ column_at (map column_tree items) place
column_here items given place index item same at is h =
    ap column_tree (is ∙ (λ i. get_or (same i) (at i) item))
    ∙ sym (get_or_default (map column_tree items) place ([], types.Int) (column_tree item) (simp length-map h) ∙ get_or-map column_tree items place item)

refill_same : (items ws : List ColumnDefinition) → length ws ≡ length items → refill (length items) items ws ≡ ws
refill_same items ws e = ap (λ zs. take (length items) (ws ++ zs)) (drop_all (length ws) items (omega arith)) ∙ ap (take (length items)) (append-nil ws) ∙ take_all (length items) ws (omega arith)

set_map : (items : List ColumnDefinition) (place : ℕ) (item : ColumnDefinition) → map column_tree (set items place item) ≡ set (map column_tree items) place (column_tree item)
set_map [] place item = refl
set_map (x ∷ items) zero item = refl
set_map (x ∷ items) (suc place) item = ap (λ zs. column_tree x ∷ zs) (set_map items place item)

pub renamed_here : (items given : List ColumnDefinition) (place index : ℕ) (name : ArrayString) (item : ColumnDefinition) → given ≡ items → index ≡ place → place < length items
    → map column_tree (refill (length items) items (set given index (record { name = name; column_type = (get_or given index item).column_type }))) ≡ renamed_at place name.bytes (map column_tree items)
renamed_here items given place index name item same at h =
    let new : ColumnDefinition = record { name = name; column_type = (get_or given index item).column_type } in
    ap (map column_tree) (refill_same items (set given index new) (length-set given index new ∙ ap length same)) ∙ (λ i. map column_tree (set (same i) (at i) new)) ∙ set_map items place new
    ∙ ap (λ (type : ColumnType). set (map column_tree items) place (name.bytes, type)) (sym (type_at items given place index item same at h))

abbrev pub places_after : List Column → List ℕ → List ArrayString → Result (List ℕ) Refusal
places_after columns done [] = Ok done
places_after columns done (name ∷ names) = column_place columns name.bytes >>= (λ place. places_after columns (done ++ place ∷ []) names)

after_all : (columns : List Column) (done : List ℕ) (names : List ArrayString) → places_after columns done names ≡ (column_places columns (bytes_of names) >>= (λ places. Ok (done ++ places)))
after_all columns done [] = ap Ok (sym (append-nil done))
after_all columns done (name ∷ names) =
    elim (column_place columns name.bytes) as (λ r. (r >>= (λ place. places_after columns (done ++ place ∷ []) names)) ≡ ((r >>= (λ place. column_places columns (bytes_of names) >>= (λ places. Ok (place ∷ places)))) >>= (λ places. Ok (done ++ places)))) [
      | Ok place ↦ after_all columns (done ++ place ∷ []) names ∙ elim (column_places columns (bytes_of names)) as (λ s. (s >>= (λ places. Ok ((done ++ place ∷ []) ++ places))) ≡ ((s >>= (λ places. Ok (place ∷ places))) >>= (λ places. Ok (done ++ places)))) [
        | Ok places ↦ ap Ok (append_assoc done (place ∷ []) places)
        | Err refusal ↦ refl
      ]
      | Err refusal ↦ refl
    ]

whole_result : {X : Type 0} (r : Result X Refusal) → (r >>= Ok) ≡ r
whole_result (Ok x) = refl
whole_result (Err refusal) = refl

pub places_same : (columns : List Column) (names : List ArrayString) → places_after columns [] names ≡ column_places columns (bytes_of names)
places_same columns names = after_all columns [] names ∙ whole_result (column_places columns (bytes_of names))

pub places_next : (columns : List Column) (done : List ℕ) (names : List ArrayString) (i : ℕ) (name : ArrayString) (r : Result ℕ Refusal) → i < length names → name ≡ get_or names i name → column_place columns name.bytes ≡ r
    → places_after columns done (drop i names) ≡ (r >>= (λ place. places_after columns (done ++ place ∷ []) (drop (i + 1) names)))
places_next columns done names i name r h is e =
    ap (places_after columns done) (drop_more names i name h ∙ ap (λ x. x ∷ drop (i + 1) names) (sym is))
    ∙ ap (λ r. r >>= (λ place. places_after columns (done ++ place ∷ []) (drop (i + 1) names))) e

pub places_done : (columns : List Column) (done : List ℕ) (names : List ArrayString) (i : ℕ) → length names ≤ i → places_after columns done (drop i names) ≡ Ok done
places_done columns done names i h = ap (places_after columns done) (drop_all i names h)

-- ---- names that are apart and there are no more than the columns

abbrev without : Name → List Name → List Name
without name [] = []
without name (x ∷ xs) = if same_name name x then without name xs else x ∷ without name xs

no_longer : (name : Name) (xs : List Name) → length (without name xs) ≤ length xs
no_longer name [] = omega arith
no_longer name (x ∷ xs) = elim (same_name name x) as (λ b. length (if b then without name xs else x ∷ without name xs) ≤ length (x ∷ xs)) [
  | true ↦ let h = no_longer name xs in omega arith
  | false ↦ let h = no_longer name xs in omega arith
]

shorter : (name : Name) (xs : List Name) → list_any (same_name name) xs ≡ true → length (without name xs) + 1 ≤ length xs
shorter name [] e = cc
shorter name (x ∷ xs) e =
    elim (same_name name x) as (λ b. (b || list_any (same_name name) xs) ≡ true → length (if b then without name xs else x ∷ without name xs) + 1 ≤ length (x ∷ xs)) [
      | true ↦ λ e. let h = no_longer name xs in omega arith
      | false ↦ λ e. let h = shorter name xs e in omega arith
    ] e

stays : (name other : Name) (xs : List Name) → same_name name other ≡ false → list_any (same_name other) xs ≡ true → list_any (same_name other) (without name xs) ≡ true
stays name other [] apart e = cc
stays name other (x ∷ xs) apart e =
    elim (same_name name x) as (λ b. same_name name x ≡ b → list_any (same_name other) (if b then without name xs else x ∷ without name xs) ≡ true) [
      | true ↦ λ same. stays name other xs apart (elim (same_name other x) as (λ c. same_name other x ≡ c → (c || list_any (same_name other) xs) ≡ true → list_any (same_name other) xs ≡ true) [
        | true ↦ λ also h. absurd (differ (sym apart ∙ ap (same_name name) (same_name-true other x also) ∙ same))
        | false ↦ λ also h. h
      ] refl e)
      | false ↦ λ differs. elim (same_name other x) as (λ c. (c || list_any (same_name other) xs) ≡ true → (c || list_any (same_name other) (without name xs)) ≡ true) [
        | true ↦ λ h. refl
        | false ↦ λ h. stays name other xs apart h
      ] e
    ] refl
  where
    differ : false ≡ true → ⊥
    differ e = cc

all_stay : (name : Name) (names xs : List Name) → list_any (same_name name) names ≡ false → AllByRecursion (λ n. list_any (same_name n) xs ≡ true) names → AllByRecursion (λ n. list_any (same_name n) (without name xs) ≡ true) names
all_stay name [] xs apart all = tt
all_stay name (n ∷ names) xs apart all = (stays name n xs (or_first _ _ apart) all.0, all_stay name names xs (or_second _ _ apart) all.1)
  where
    or_first : (a b : Bool) → (a || b) ≡ false → a ≡ false
    or_first true b e = cc
    or_first false b e = refl

    or_second : (a b : Bool) → (a || b) ≡ false → b ≡ false
    or_second true b e = cc
    or_second false b e = e

no_more : (names xs : List Name) → AllByRecursion (λ n. list_any (same_name n) xs ≡ true) names → some_name_twice names ≡ false → length names ≤ length xs
no_more [] xs all once = omega arith
no_more (name ∷ names) xs all once =
    let apart = halves (list_any (same_name name) names) (some_name_twice names) once in
    let fewer = no_more names (without name xs) (all_stay name names xs apart.0 all.1) apart.1 in
    let less = shorter name xs all.0 in
    omega arith
  where
    halves : (a b : Bool) → (a || b) ≡ false → (a ≡ false) × (b ≡ false)
    halves true b e = cc
    halves false b e = (refl, e)

in_columns : (xs : List Name) (name : Name) (place : ℕ) → found (place_in xs name) NoSuchColumn ≡ Ok place → list_any (same_name name) xs ≡ true
in_columns xs name place e = is_in xs name (none_not (place_in xs name) place e)
  where
    none_not : (o : Option ℕ) (place : ℕ) → found o NoSuchColumn ≡ Ok place → ¬ (o ≡ None)
    none_not None place e f = cc
    none_not (Some x) place e f = cc

    is_in : (xs : List Name) (name : Name) → ¬ (place_in xs name ≡ None) → list_any (same_name name) xs ≡ true
    is_in [] name some = absurd (some refl)
    is_in (x ∷ xs) name some =
        elim (same_name name x) as (λ b. same_name name x ≡ b → (b || list_any (same_name name) xs) ≡ true) [
          | true ↦ λ e. refl
          | false ↦ λ e. is_in xs name (λ none. some (rw (e, none)))
        ] refl

placed : (columns : List Column) (names : List Name) (places : List ℕ) → column_places columns names ≡ Ok places → (length places ≡ length names) × AllByRecursion (λ n. list_any (same_name n) (column_names columns) ≡ true) names
placed columns [] places e = (lengths places e, tt)
  where
    lengths : (places : List ℕ) → ◌≡◌ {A = Result (List ℕ) Refusal} (Ok []) (Ok places) → length places ≡ 0
    lengths places e = ap length (given e)
      where
        given : ◌≡◌ {A = Result (List ℕ) Refusal} (Ok []) (Ok places) → places ≡ []
        given e = cc
placed columns (name ∷ names) places e =
    elim (column_place columns name) as (λ r. column_place columns name ≡ r → (r >>= (λ place. column_places columns names >>= (λ places. Ok (place ∷ places)))) ≡ Ok places
    → (length places ≡ suc (length names)) × AllByRecursion (λ n. list_any (same_name n) (column_names columns) ≡ true) (name ∷ names)) [
      | Ok place ↦ λ here. elim (column_places columns names) as (λ s. column_places columns names ≡ s → (s >>= (λ places. Ok (place ∷ places))) ≡ Ok places
          → (length places ≡ suc (length names)) × AllByRecursion (λ n. list_any (same_name n) (column_names columns) ≡ true) (name ∷ names)) [
            | Ok more ↦ λ there e.
                let rest = placed columns names more there in
                (ap length (whole more place places e) ∙ ap suc rest.0, (in_columns (column_names columns) name place here, rest.1))
            | Err refusal ↦ λ there e. cc
          ] refl
      | Err refusal ↦ λ here e. cc
    ] refl e
  where
    whole : (more : List ℕ) (place : ℕ) (places : List ℕ) → ◌≡◌ {A = Result (List ℕ) Refusal} (Ok (place ∷ more)) (Ok places) → places ≡ place ∷ more
    whole more place places e = cc

pub few_places : (columns : List Column) (names : List Name) (places : List ℕ) → column_places columns names ≡ Ok places → some_name_twice names ≡ false → length places ≤ length columns
few_places columns names places e once =
    let at = placed columns names places e in
    let few = no_more names (column_names columns) at.1 once in
    let same : length (column_names columns) ≡ length columns = length-map _ _ in
    omega arith
