-- Laws of the list of referents: its order, what is found in it, and what a change makes of it.
use Rattle.std.proofs.Common.{◌≡◌, ℕ, ◌+◌, ◌<◌, Bool, true, false, cond, not, ◌&&◌, IsTrue, List, [], ◌∷◌, ◌++◌, length, map, filter, get_or, set, insert, take, drop, Option, Some, None, nat_eq, zero, suc, refl, sym, ap, ◌∙◌, subst, arith, append_assoc, add-one}
use Rattle.std.specs.declared.cmp.Ordering.{Ordering}
use Rattle.std.specs.declared.cmp.Ordering.TheVariants.{Less, Equal, Greater}
use Rattle.std.specs.Cmp.{IsTotalOrder}
use Rattle.std.specs.List.{list_all}
use Rattle.std.specs.Str.{bytes_eq}
use Rattle.std.specs.FinMap.{put}
use Rattle.std.specs.FinMap.Entries.{by_order, is_sorted-put, is_sorted-where_key}
use Rattle.std.proofs.lemmas.Cmp.{nat_cmp_total, nat_list_cmp_total, on_total, then_total}
use Rattle.std.proofs.lemmas.Slice.Eq.{bytes_eq-Decides}
use Rattle.std.proofs.lemmas.Bool.Decides.{Decides-eqb}
use lib.Dec.{T}
use Rattle.std.proofs.lemmas.List.{map-append, get_or_default, drop_more, take_more}
use Rattle.rs_methods.specs.declared.referents.Referent.{Referent}
use Rattle.rs_methods.specs.Position.{start_name, measure_of}
use Rattle.rs_methods.specs.Referents.{key_cmp, entry_of, is_key, AreReferents, referents_of}
use Rattle.rs_methods.specs.Inner.{IsFound, IsAbsent}

pub key_cmp_total : IsTotalOrder key_cmp
unfolding key_cmp
key_cmp_total = then_total (on_total (λ (key : ℕ × List ℕ). key.0) nat_cmp_total) (on_total (λ (key : ℕ × List ℕ). key.1) nat_list_cmp_total)

-- Truth of two tests.
pub both : (a b : Bool) → IsTrue a → IsTrue b → IsTrue (a && b)
both true b p q = q
both false b p q = p

pub first : (a b : Bool) → IsTrue (a && b) → IsTrue a
first true b p = refl
first false b p = p

pub second : (a b : Bool) → IsTrue (a && b) → IsTrue b
second true b p = p
second false b p = cc

pub to_T : (b : Bool) → IsTrue b → T b
to_T b e = subst T (sym e) tt

pub from_T : (b : Bool) → T b → IsTrue b
from_T true p = refl
from_T false p = absurd p

-- where a name stands on a route by a list of referents
abbrev pub found_in : ℕ → List ℕ → List Referent → Option ℕ
found_in route name items = measure_of name (referents_of route (map entry_of items))

-- The keys before a place are below the key: it is put after them.
pub record Passed (key : ℕ × List ℕ) (items : List Referent) (place : ℕ) : Type 0 where
  pub puts : (measure : ℕ) → put key_cmp key measure (map entry_of items) ≡ map entry_of (take place items) ++ put key_cmp key measure (map entry_of (drop place items))

-- what the put does at an entry
pub put_at : (key : ℕ × List ℕ) (measure : ℕ) (e : (ℕ × List ℕ) × ℕ) (es : List ((ℕ × List ℕ) × ℕ)) (order : Ordering) → key_cmp key e.0 ≡ order → put key_cmp key measure (e ∷ es) ≡ by_order order ((key, measure) ∷ e ∷ es) ((e.0, measure) ∷ es) (e ∷ put key_cmp key measure es)
put_at key measure e es order same = ap (λ o. by_order o ((key, measure) ∷ e ∷ es) ((e.0, measure) ∷ es) (e ∷ put key_cmp key measure es)) same

pub put_at_place : (key : ℕ × List ℕ) (items : List Referent) (place : ℕ) (d : Referent) (order : Ordering) (measure : ℕ) → place < length items → key_cmp key (entry_of (get_or items place d)).0 ≡ order
    → put key_cmp key measure (map entry_of (drop place items)) ≡ by_order order ((key, measure) ∷ entry_of (get_or items place d) ∷ map entry_of (drop (place + 1) items)) (((entry_of (get_or items place d)).0, measure) ∷ map entry_of (drop (place + 1) items)) (entry_of (get_or items place d) ∷ put key_cmp key measure (map entry_of (drop (place + 1) items)))
put_at_place key items place d order measure within same =
    ap (λ l. put key_cmp key measure (map entry_of l)) (drop_more items place d within)
    ∙ put_at key measure (entry_of (get_or items place d)) (map entry_of (drop (place + 1) items)) order same

pub taken_more : (items : List Referent) (place : ℕ) (d : Referent) → place < length items → map entry_of (take (place + 1) items) ≡ map entry_of (take place items) ++ entry_of (get_or items place d) ∷ []
taken_more items place d within = ap (map entry_of) (take_more items place d within) ∙ map-append entry_of (take place items) (get_or items place d ∷ [])

pub passed_more : (key : ℕ × List ℕ) (items : List Referent) (place : ℕ) (d : Referent) → place < length items → Passed key items place → key_cmp key (entry_of (get_or items place d)).0 ≡ Greater → Passed key items (place + 1)
passed_more key items place d within passed above = record {
  puts = λ measure.
      let x : (ℕ × List ℕ) × ℕ = entry_of (get_or items place d) in
      let rest : List ((ℕ × List ℕ) × ℕ) = put key_cmp key measure (map entry_of (drop (place + 1) items)) in
      passed.puts measure
      ∙ (ap (λ l. map entry_of (take place items) ++ l) (put_at_place key items place d Greater measure within above)
      ∙ (sym (append_assoc (map entry_of (take place items)) (x ∷ []) rest)
      ∙ sym (ap (λ l. l ++ rest) (taken_more items place d within))));
}

pub absent_here : (key : ℕ × List ℕ) (items : List Referent) (place : ℕ) (d : Referent) → place < length items → Passed key items place → key_cmp key (entry_of (get_or items place d)).0 ≡ Less → found_in key.0 key.1 items ≡ None → IsAbsent key items place
absent_here key items place d within passed below missing = record {
  puts = λ measure.
      passed.puts measure
      ∙ (ap (λ l. map entry_of (take place items) ++ l) (put_at_place key items place d Less measure within below)
      ∙ ap (λ l. map entry_of (take place items) ++ (key, measure) ∷ map entry_of l) (sym (drop_more items place d within)));
  missing = missing;
}

set_split_suc : (items : List Referent) (place : ℕ) (x : Referent) → place < length items → set items place x ≡ take place items ++ x ∷ drop (suc place) items
set_split_suc [] place x within = absurd (omega arith)
set_split_suc (y ∷ ys) zero x within = refl
set_split_suc (y ∷ ys) (suc place) x within = ap (λ l. y ∷ l) (set_split_suc ys place x (omega arith))

pub set_split : (items : List Referent) (place : ℕ) (x : Referent) → place < length items → set items place x ≡ take place items ++ x ∷ drop (place + 1) items
set_split items place x within = set_split_suc items place x within ∙ ap (λ n. take place items ++ x ∷ drop n items) (sym (add-one place))

pub found_here : (key : ℕ × List ℕ) (items : List Referent) (place : ℕ) (d : Referent) → place < length items → Passed key items place → key_cmp key (entry_of (get_or items place d)).0 ≡ Equal → found_in key.0 key.1 items ≡ Some (get_or items place d).measure → IsFound key items place
found_here key items place x within passed same stands = record {
  puts = λ d measure.
      let at : Referent = get_or items place d in
      passed.puts measure
      ∙ (ap (λ l. map entry_of (take place items) ++ l) (put_at_place key items place d Equal measure within (ap (λ r. key_cmp key (entry_of r).0) (get_or_default items place d x within) ∙ same))
      ∙ sym (ap (map entry_of) (set_split items place (record at { measure = measure }) within)
      ∙ map-append entry_of (take place items) (record at { measure = measure } ∷ drop (place + 1) items)));
  stands = λ d. stands ∙ ap (λ (r : Referent). Some r.measure) (get_or_default items place x d within);
}

-- What the code's writes make of the list.
pub found_kept : (route measure : ℕ) (name text : List ℕ) (items lent : List Referent) (place : ℕ) (x : Referent) → lent ≡ items → text ≡ name → IsFound (route, text) lent place → x ≡ get_or items place x
    → map entry_of (set items place (record x { measure = measure })) ≡ put key_cmp (route, name) measure (map entry_of items)
found_kept route measure name text items lent place x same_items same_name found read =
    let at : IsFound (route, name) items place = subst (λ l. IsFound (route, name) l place) same_items (subst (λ t. IsFound (route, t) lent place) same_name found) in
    ap (λ (y : Referent). map entry_of (set items place (record y { measure = measure }))) read ∙ sym (at.puts x measure)

pub absent_kept : (text : List ℕ) (items lent left : List Referent) (place : ℕ) (x : Referent) → lent ≡ items → text ≡ x.name.bytes → IsAbsent (x.route, text) lent place → left ≡ insert items place x
    → map entry_of left ≡ put key_cmp (x.route, x.name.bytes) x.measure (map entry_of items)
absent_kept text items lent left place x same_items same_name absent written =
    let at : IsAbsent (x.route, x.name.bytes) items place = subst (λ l. IsAbsent (x.route, x.name.bytes) l place) same_items (subst (λ t. IsAbsent (x.route, t) lent place) same_name absent) in
    ap (map entry_of) written ∙ (map-append entry_of (take place items) (x ∷ drop place items) ∙ sym (at.puts x.measure))

pub names_apart : (name other : List ℕ) → (name ≡ other → ⊥) → IsTrue (not (bytes_eq name other))
names_apart name other apart =
    elim (bytes_eq name other) as (λ b. bytes_eq name other ≡ b → not b ≡ true) [
      | true ↦ λ same. absurd (apart ((bytes_eq-Decides name other).0 same))
      | false ↦ λ same. refl
    ] refl

-- What a put and a removal leave is a list of referents.
abbrev pub never_start : List ((ℕ × List ℕ) × ℕ) → Bool
never_start entries = list_all (λ e. not (bytes_eq e.0.1 start_name)) entries

pub never_start-put : (key : ℕ × List ℕ) (measure : ℕ) (es : List ((ℕ × List ℕ) × ℕ)) → IsTrue (not (bytes_eq key.1 start_name)) → IsTrue (never_start es) → IsTrue (never_start (put key_cmp key measure es))
never_start-put key measure [] other never = both _ _ other refl
never_start-put key measure (e ∷ es) other never =
    elim (key_cmp key e.0) as (λ o. IsTrue (never_start (by_order o ((key, measure) ∷ e ∷ es) ((e.0, measure) ∷ es) (e ∷ put key_cmp key measure es)))) [
      | Less ↦ both _ _ other never
      | Equal ↦ never
      | Greater ↦ both _ _ (first _ _ never) (never_start-put key measure es other (second _ _ never))
    ]

pub are_referents-put : (key : ℕ × List ℕ) (measure : ℕ) (es : List ((ℕ × List ℕ) × ℕ)) → IsTrue (not (bytes_eq key.1 start_name)) → AreReferents es → AreReferents (put key_cmp key measure es)
are_referents-put key measure es other are = record { sorted = from_T _ (is_sorted-put key_cmp key_cmp_total key measure es (to_T _ are.sorted)); never_start = never_start-put key measure es other are.never_start }

pub never_start-filter : (p : (ℕ × List ℕ) → Bool) (es : List ((ℕ × List ℕ) × ℕ)) → IsTrue (never_start es) → IsTrue (never_start (filter (λ e. p e.0) es))
never_start-filter p [] never = refl
never_start-filter p (e ∷ es) never =
    elim (p e.0) as (λ b. IsTrue (never_start (cond b (e ∷ filter (λ e. p e.0) es) (filter (λ e. p e.0) es)))) [
      | true ↦ both _ _ (first _ _ never) (never_start-filter p es (second _ _ never))
      | false ↦ never_start-filter p es (second _ _ never)
    ]

pub are_referents-filter : (p : (ℕ × List ℕ) → Bool) (es : List ((ℕ × List ℕ) × ℕ)) → AreReferents es → AreReferents (filter (λ e. p e.0) es)
are_referents-filter p es are = record { sorted = from_T _ (is_sorted-where_key key_cmp p es (to_T _ are.sorted)); never_start = never_start-filter p es are.never_start }

pub map-filter : (p : (ℕ × List ℕ) → Bool) (items : List Referent) → map entry_of (filter (λ x. p (entry_of x).0) items) ≡ filter (λ e. p e.0) (map entry_of items)
map-filter p [] = refl
map-filter p (x ∷ xs) =
    elim (p (entry_of x).0) as (λ b. map entry_of (cond b (x ∷ filter (λ x. p (entry_of x).0) xs) (filter (λ x. p (entry_of x).0) xs)) ≡ cond b (entry_of x ∷ filter (λ e. p e.0) (map entry_of xs)) (filter (λ e. p e.0) (map entry_of xs))) [
      | true ↦ ap (λ l. entry_of x ∷ l) (map-filter p xs)
      | false ↦ map-filter p xs
    ]

-- What a look-up finds at an entry and past it.
pub measure_of_step : (name : List ℕ) (same : Bool) (r : List ℕ × ℕ) (rs : List (List ℕ × ℕ)) → measure_of name (cond same (r ∷ rs) rs) ≡ cond (same && bytes_eq r.0 name) (Some r.1) (measure_of name rs)
measure_of_step name true r rs = refl
measure_of_step name false r rs = refl

pub found_in-here : (route : ℕ) (name : List ℕ) (x : Referent) (rest : List Referent) → is_key route name (entry_of x).0 ≡ true → found_in route name (x ∷ rest) ≡ Some x.measure
found_in-here route name x rest same =
    measure_of_step name (nat_eq x.route route) (x.name.bytes, x.measure) (referents_of route (map entry_of rest))
    ∙ ap (λ b. cond b (Some x.measure) (found_in route name rest)) same

pub found_in-past : (route : ℕ) (name : List ℕ) (x : Referent) (rest : List Referent) → is_key route name (entry_of x).0 ≡ false → found_in route name (x ∷ rest) ≡ found_in route name rest
found_in-past route name x rest other =
    measure_of_step name (nat_eq x.route route) (x.name.bytes, x.measure) (referents_of route (map entry_of rest))
    ∙ ap (λ b. cond b (Some x.measure) (found_in route name rest)) other

-- the key of a route and a name is that pair
pub key_of : (route : ℕ) (name : List ℕ) (key : ℕ × List ℕ) → is_key route name key ≡ true → ◌≡◌ {A = ℕ × List ℕ} (route, name) key
key_of route name key same =
    let routes : key.0 ≡ route = (Decides-eqb key.0 route).0 (first _ _ same) in
    let names : key.1 ≡ name = (bytes_eq-Decides key.1 name).0 (second _ _ same) in
    λ i. (sym routes i, sym names i)
