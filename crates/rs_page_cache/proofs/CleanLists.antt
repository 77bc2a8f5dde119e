-- The clean pages: a look-up in them, and what stays as they move.
use Rattle.std.proofs.Common.{◌≡◌, ◌⊎◌, inl, inr, ℕ, zero, suc, nat_eq, Bool, true, false, Option, Some, None, List, [], ◌∷◌, ◌++◌, Contains, refl, sym, ap, ◌∙◌, subst, arith}
use Rattle.std.specs.Prelude.{if◌then◌else◌, take}
use Rattle.std.specs.Option.{option_map}
use Rattle.std.specs.Map.{lookup}
use Rattle.std.specs.declared.alloc.Global.{Global}
use Rattle.std.specs.declared.boxed.Box.{Box}
use Rattle.std.proofs.lemmas.Map.Made.{lookup-map_values}
use Rattle.std.proofs.lemmas.List.Elements.{Contains-append_left, Contains-append_right, Contains-append_cases}
use Rattle.std.specs.Prelude.{Result, Ok, Err, OnOk, OnErr, is_some}
use Rattle.std.specs.Option.{option_map_or}
use Rattle.std.specs.Map.{lookup_entry, remove_entry}
use Rattle.std.proofs.lemmas.Bool.{eqb-true}
use Rattle.lru.specs.LruCache.{LruCache, lru_cache, promoted, put_entries}
use Rattle.lru.proofs.CallerLemmas.{Contains-promoted, Contains-put_entries, Contains-lookup_entry, Contains-take}
use Rattle.rs_page.specs.declared.page.Page.{Page}
use Rattle.rs_page_cache.specs.Clean.{Clean, clean_at, spare_page, kept_pages, has_number, Loads}

-- the pages that are kept, by number
pub kept-at : (entries : List (ℕ × Box Page Global)) (n : ℕ) → clean_at (kept_pages entries) n ≡ option_map (λ (page : Box Page Global). page.value.bytes) (lookup (nat_eq n) entries)
kept-at entries n = lookup-map_values (λ (page : Box Page Global). page.value.bytes) (nat_eq n) entries

-- where one of them was looked for
pub kept-found : (entries : List (ℕ × Box Page Global)) (n : ℕ) (found : Option (Box Page Global)) → lookup (nat_eq n) entries ≡ found
    → clean_at (kept_pages entries) n ≡ option_map (λ (page : Box Page Global). page.value.bytes) found
kept-found entries n found is = kept-at entries n ∙ ap (option_map (λ (page : Box Page Global). page.value.bytes)) is

-- the spare page comes first
pub spare-at : (number : Option ℕ) (spare : Box Page Global) (rest : Clean) (n : ℕ)
    → clean_at (spare_page number spare ++ rest) n ≡ (if has_number number n then Some spare.value.bytes else clean_at rest n)
spare-at None spare rest n = refl
spare-at (Some m) spare rest n = refl

-- a page that isn't the spare one is among the others
pub others-at : (number : Option ℕ) (spare : Box Page Global) (rest : Clean) (n : ℕ) → has_number number n ≡ false
    → clean_at (spare_page number spare ++ rest) n ≡ clean_at rest n
others-at number spare rest n other = spare-at number spare rest n ∙ rw other refl

-- what is in a list of one
only : (e f : ℕ × List ℕ) → Contains (f ∷ []) e → e ≡ f
only e f (zero, lt, is) = sym is
only e f (suc k, lt, is) = absurd (omega arith)

-- a page that was read is the spare one, and the others are as before
pub read-loads : (number : ℕ) (page : List ℕ) (read : List ℕ → Type 0) (old kept : Clean) → read page → ((e : ℕ × List ℕ) → Contains kept e → Contains old e)
    → Loads number read old ((number, page) ∷ kept)
read-loads number page read old kept was stays = record {
  each = λ other p there. elim (Contains-append_cases ((number, page) ∷ []) kept (other, p) there) [
    | inl first ↦
        let same : (other, p) ≡ (number, page) = only (other, p) (number, page) first in
        let at : other ≡ number = ap (λ (e : ℕ × List ℕ). e.0) same in
        let bytes : p ≡ page = ap (λ (e : ℕ × List ℕ). e.1) same in
        inr (at, subst read (sym bytes) was)
    | inr rest ↦ inl (stays (other, p) rest)
  ];
}

-- no page was read
pub stays-loads : (number : ℕ) (read : List ℕ → Type 0) (old new : Clean) → ((e : ℕ × List ℕ) → Contains new e → Contains old e) → Loads number read old new
stays-loads number read old new stays = record { each = λ other p there. inl (stays (other, p) there) }

-- the other pages are among all
pub in-all : (number : Option ℕ) (spare : Box Page Global) (kept : Clean) (e : ℕ × List ℕ) → Contains kept e → Contains (spare_page number spare ++ kept) e
in-all number spare kept e there = Contains-append_right (spare_page number spare) kept e there

-- a kept page is among the entries
pub kept-from : (entries : List (ℕ × Box Page Global)) (e : ℕ × List ℕ) → Contains (kept_pages entries) e
    → (x : ℕ × Box Page Global) × Contains entries x × ((x.0, x.1.value.bytes) ≡ e)
kept-from [] e (k, lt, is) = absurd (omega arith)
kept-from (x ∷ xs) e (zero, lt, is) = (x, (0, omega arith, refl), is)
kept-from (x ∷ xs) e (suc k, lt, is) =
    let rest = kept-from xs e (k, omega arith, is) in
    (rest.0, (suc rest.1.0, omega (arith, rest.1.1), rest.1.2), rest.2)

-- and the other way
pub kept-to : (entries : List (ℕ × Box Page Global)) (x : ℕ × Box Page Global) → Contains entries x → Contains (kept_pages entries) (x.0, x.1.value.bytes)
kept-to [] x (k, lt, is) = absurd (omega arith)
kept-to (y ∷ ys) x (zero, lt, is) = (0, omega arith, ap (λ (z : ℕ × Box Page Global). (z.0, z.1.value.bytes)) is)
kept-to (y ∷ ys) x (suc k, lt, is) =
    let rest = kept-to ys x (k, omega arith, is) in (suc rest.0, omega (arith, rest.1), rest.2)

-- what is kept of more entries
pub kept-more : (old new : List (ℕ × Box Page Global)) → ((x : ℕ × Box Page Global) → Contains new x → Contains old x) → (e : ℕ × List ℕ) → Contains (kept_pages new) e → Contains (kept_pages old) e
kept-more old new stays e there =
    let from = kept-from new e there in subst (Contains (kept_pages old)) from.2 (kept-to old from.0 (stays from.0 from.1))

-- after a page was put, each is one that was there, or that page
pub put-kept : {X : Type 0} (old new : LruCache ℕ (Box Page Global)) (n : ℕ) (page : Box Page Global) (r : Result (Option (Box Page Global)) X)
    → OnOk r (new ≡ lru_cache (put_entries nat_eq old n page) old.cap) → OnErr r (new ≡ old) → (e : ℕ × List ℕ) → Contains (kept_pages new.entries) e
    → Contains (kept_pages old.entries) e ⊎ (e ≡ (n, page.value.bytes))
put-kept old new n page (Err x) ok err e there = inl (subst (λ (c : LruCache ℕ (Box Page Global)). Contains (kept_pages c.entries) e) err there)
put-kept old new n page (Ok x) ok err e there =
    let now = subst (λ (c : LruCache ℕ (Box Page Global)). Contains (kept_pages c.entries) e) ok there in
    let from = kept-from (put_entries nat_eq old n page) e now in
    elim (Contains-put_entries nat_eq old n page from.0 from.1) [
      | inl was ↦ inl (subst (Contains (kept_pages old.entries)) from.2 (kept-to old.entries from.0 was))
      | inr put ↦
          let key : from.0.0 ≡ n = elim put.1 [ inl same ↦ same | inr other ↦ sym (eqb-true n from.0.0 other.2) ] in
          let value : from.0.1 ≡ page = put.0 in
          inr (sym from.2 ∙ cc)
    ]

-- the spare page was held before it joined the others
pub kept_spare : (number : Option ℕ) (n : ℕ) (spare : Box Page Global) (kept : Clean) (all : Clean) → number ≡ Some n → spare_page number spare ++ kept ≡ all
    → (e : ℕ × List ℕ) → Contains kept e ⊎ (e ≡ (n, spare.value.bytes)) → Contains all e
kept_spare number n spare kept all is view e (inl rest) = subst (λ (l : Clean). Contains l e) view (in-all number spare kept e rest)
kept_spare number n spare kept all is view e (inr same) =
    subst (λ (l : Clean). Contains l e) (subst (λ (o : Option ℕ). spare_page o spare ++ kept ≡ all) is view) (0, omega arith, sym same)

is_some_map : (o : Option (Box Page Global)) → is_some (option_map (λ (page : Box Page Global). page.value.bytes) o) ≡ is_some o
is_some_map None = refl
is_some_map (Some page) = refl

-- a page that isn't the spare one is held exactly where it is among the others
pub held-kept : (number : Option ℕ) (spare : Box Page Global) (entries : List (ℕ × Box Page Global)) (n : ℕ) → has_number number n ≡ false
    → is_some (lookup (nat_eq n) entries) ≡ is_some (clean_at (spare_page number spare ++ kept_pages entries) n)
held-kept number spare entries n other =
    sym (is_some_map (lookup (nat_eq n) entries)) ∙ ap (is_some {T = List ℕ}) (sym (others-at number spare (kept_pages entries) n other ∙ kept-at entries n))

still_found : (test : ℕ → Bool) (es : List (ℕ × Box Page Global)) (o : Option (ℕ × Box Page Global)) → lookup_entry test es ≡ o → is_some (lookup test es) ≡ true
    → is_some (lookup test (option_map_or (λ f. f ∷ remove_entry test es) o es)) ≡ true
still_found test es None h some = some
still_found test es (Some f) h some = rw (Contains-lookup_entry test es f h).1 refl

pub found-promoted : (test : ℕ → Bool) (es : List (ℕ × Box Page Global)) → is_some (lookup test es) ≡ true → is_some (lookup test (promoted test es)) ≡ true
found-promoted test es = still_found test es (lookup_entry test es) refl

-- each of the first of the pages is held
pub first-stays : (es : List (ℕ × Box Page Global)) (n : ℕ) (e : ℕ × List ℕ) → Contains (kept_pages (take n es)) e → Contains (kept_pages es) e
first-stays es n e there = kept-more es (take n es) (λ one. Contains-take n es one) e there

-- after another page was used the same pages are held
pub promoted-stays : (number : Option ℕ) (spare : Box Page Global) (es : List (ℕ × Box Page Global)) (n : ℕ) (e : ℕ × List ℕ)
    → Contains (spare_page number spare ++ kept_pages (promoted (nat_eq n) es)) e → Contains (spare_page number spare ++ kept_pages es) e
promoted-stays number spare es n e there = elim (Contains-append_cases (spare_page number spare) (kept_pages (promoted (nat_eq n) es)) e there) [
  | inl first ↦ Contains-append_left (spare_page number spare) (kept_pages es) e first
  | inr rest ↦ Contains-append_right (spare_page number spare) (kept_pages es) e (kept-more es (promoted (nat_eq n) es) (Contains-promoted (nat_eq n) es) e rest)
]
