-- Views that are entered one after another, in the place of those that had their names.
use Rattle.std.proofs.Common.{◌≡◌, ◌<◌, ◌≤◌, ◌+◌, ℕ, zero, suc, Bool, true, false, ◌&&◌, cond, Option, Some, None, is_some, List, [], ◌∷◌, ◌++◌, length, map, take, get_or, refl, sym, ap, subst, ◌∙◌, arith}
use Rattle.std.specs.Prelude.{Contains}
use Rattle.std.specs.List.{AllZip}
use Rattle.std.specs.Option.{option_or}
use Rattle.std.specs.Ordering.{eq_by_cmp, is_lt}
use Rattle.std.specs.FinMap as names
use Rattle.std.specs.FinMap.{entries-from_sorted, find, get-from_sorted, get-insert, is_sorted, same_map}
use Rattle.std.specs.FinMap.Entries.{below_all, find-append}
use Rattle.std.proofs.lemmas.List.{take_all}
use Rattle.rs_catalog.proofs.NameOrder.{name_cmp-antisymmetric, name_cmp-total}
use Rattle.rs_catalog.specs.Changes.{with_view}
use Rattle.rs_catalog.specs.Definitions as catalog
use Rattle.rs_catalog.specs.Definitions.{Definitions}
use Rattle.rs_catalog_meaning.specs.Meaning.{AreInOrder, named_by}
use Rattle.rs_catalog_pages.specs.Items.{ViewItem}
use Rattle.rs_facts.specs.Fact.{Name, name_cmp}
use Rattle.rs_file_meaning.proofs.Named.{first_there, later_there, to_T}
use Rattle.rs_stored_catalog.specs.EnteringViews.{AreEntered}
use Rattle.rs_stored_catalog.proofs.Entering.{not_found, taken-more}

abbrev pub Entry : Type 0
Entry = Name × catalog.ViewItem

abbrev pub name_of : ViewItem → Name
name_of view = view.name

-- ---- lists beside one another

pub zip_push : {X Y : Type 0} (R : X → Y → Type 0) (xs : List X) (ys : List Y) (x : X) (y : Y) → AllZip R xs ys → R x y → AllZip R (xs ++ x ∷ []) (ys ++ y ∷ [])
zip_push R [] [] x y all is = (is, tt)
zip_push R [] (z ∷ ys) x y all is = absurd all
zip_push R (w ∷ xs) [] x y all is = absurd all
zip_push R (w ∷ xs) (z ∷ ys) x y all is = (all.0, zip_push R xs ys x y all.1 is)

-- what is beside an element
pub zip_found : {X Y : Type 0} (R : X → Y → Type 0) (xs : List X) (ys : List Y) (k : ℕ) (x : X) → AllZip R xs ys → k < length xs → get_or xs k x ≡ x → (y : Y) × R x y × Contains ys y
zip_found R [] ys k x all inside is = absurd (omega (arith, inside))
zip_found R (w ∷ xs) [] k x all inside is = absurd all
zip_found R (w ∷ xs) (z ∷ ys) zero x all inside is = (z, subst (λ v. R v z) is all.0, first_there z ys)
zip_found R (w ∷ xs) (z ∷ ys) (suc k) x all inside is =
    let found = zip_found R xs ys k x all.1 (omega (arith, inside)) is in
    (found.0, found.1, later_there z found.0 ys found.2)

none_of : {X : Type 0} (o : Option X) → is_some o ≡ false → o ≡ None
none_of None e = refl
none_of (Some x) e = cc

or_first : {X : Type 0} (b : Bool) (x : X) (found other : Option X) → cond b (Some x) (option_or found other) ≡ option_or (cond b (Some x) found) other
or_first true x found other = refl
or_first false x found other = refl

-- ---- entries that have the names of the views

module _ (IsSo : ViewItem → Entry → Type 0) (named : (view : ViewItem) (entry : Entry) → IsSo view entry → entry.0 ≡ view.name) where
  abbrev listed_entry : ViewItem → Name × ViewItem
  listed_entry view = (view.name, view)

  pub some_same : (listed : List ViewItem) (made : List Entry) → AllZip IsSo listed made → (q : Name) → is_some (find name_cmp q made) ≡ is_some (find name_cmp q (map listed_entry listed))
  some_same [] [] all q = refl
  some_same [] (entry ∷ made) all q = absurd all
  some_same (view ∷ listed) [] all q = absurd all
  some_same (view ∷ listed) (entry ∷ made) all q =
      ap (λ n. is_some (cond (eq_by_cmp name_cmp q n) (Some entry.1) (find name_cmp q made))) (named view entry all.0)
      ∙ elim (eq_by_cmp name_cmp q view.name) as (λ b. is_some (cond b (Some entry.1) (find name_cmp q made)) ≡ is_some (cond b (Some view) (find name_cmp q (map listed_entry listed)))) [
        | true ↦ refl
        | false ↦ some_same listed made all.1 q
      ]

  below_same : (listed : List ViewItem) (made : List Entry) → AllZip IsSo listed made → (q : Name) → below_all name_cmp q made ≡ below_all name_cmp q (named_by name_of listed)
  below_same [] [] all q = refl
  below_same [] (entry ∷ made) all q = absurd all
  below_same (view ∷ listed) [] all q = absurd all
  below_same (view ∷ listed) (entry ∷ made) all q =
      ap (λ n. is_lt (name_cmp q n) && below_all name_cmp q made) (named view entry all.0) ∙ ap (λ b. is_lt (name_cmp q view.name) && b) (below_same listed made all.1 q)

  sorted_same : (listed : List ViewItem) (made : List Entry) → AllZip IsSo listed made → is_sorted name_cmp made ≡ is_sorted name_cmp (named_by name_of listed)
  sorted_same [] [] all = refl
  sorted_same [] (entry ∷ made) all = absurd all
  sorted_same (view ∷ listed) [] all = absurd all
  sorted_same (view ∷ listed) (entry ∷ made) all =
      ap (λ n. below_all name_cmp n made && is_sorted name_cmp made) (named view entry all.0)
      ∙ ap (λ b. b && is_sorted name_cmp made) (below_same listed made all.1 view.name)
      ∙ ap (λ b. below_all name_cmp view.name (named_by name_of listed) && b) (sorted_same listed made all.1)

  -- ---- one after another

  -- the first of the views are entered
  pub record Entered (listed : List ViewItem) (k : ℕ) (old now : Definitions) : Type 0 where
    pub made : List Entry
    pub are : AllZip IsSo (take k listed) made
    pub there : (name : Name) → names.get now.views name ≡ option_or (find name_cmp name made) (names.get old.views name)
    pub others : now ≡ record old { views = now.views }

  pub entered_none : (listed : List ViewItem) (old : Definitions) → Entered listed 0 old old
  entered_none [] old = record { made = []; are = tt; there = λ name. refl; others = refl }
  entered_none (view ∷ listed) old = record { made = []; are = tt; there = λ name. refl; others = refl }

  module _ (listed : List ViewItem) (order : AreInOrder name_of listed) (k : ℕ) (old now : Definitions) (so_far : Entered listed k old now) where
    pub entered_more : (view : ViewItem) → k < length listed → get_or listed k view ≡ view → (key : Name) (item : catalog.ViewItem) → IsSo view (key, item)
        → Entered listed (k + 1) old (with_view now key item)
    entered_more view inside is key item so =
        let next : suc k ≡ k + 1 = omega arith in
        let none : find name_cmp key so_far.made ≡ None =
        none_of (find name_cmp key so_far.made)
        (some_same (take k listed) so_far.made so_far.are key
        ∙ ap (λ n. is_some (find name_cmp n (map listed_entry (take k listed)))) (named view (key, item) so)
        ∙ ap is_some (not_found name_of (λ v. v) listed k view order inside is)) in
        record {
          made = so_far.made ++ (key, item) ∷ [];
          are = subst (λ l. AllZip IsSo l (so_far.made ++ (key, item) ∷ [])) (sym (taken-more listed k view inside is) ∙ ap (λ n. take n listed) next) (zip_push IsSo (take k listed) so_far.made view (key, item) so_far.are so);
          there = λ q.
              get-insert name_cmp-total now.views key item q
              ∙ ap (cond (eq_by_cmp name_cmp q key) (Some item)) (so_far.there q)
              ∙ or_first (eq_by_cmp name_cmp q key) item (find name_cmp q so_far.made) (names.get old.views q)
              ∙ ap (λ o. option_or o (names.get old.views q)) (sym (find-append name_cmp name_cmp-total so_far.made key item q none));
          others = ap (λ (d : Definitions). record d { views = names.insert now.views key item }) so_far.others;
        }

    or_none : (found : Option catalog.ViewItem) (q : Name) → (found ≡ None → names.get old.views q ≡ None) → option_or found (names.get old.views q) ≡ found
    or_none None q gone = gone refl
    or_none (Some item) q gone = refl

    -- all of them, where no other name is there
    pub entered_all : length listed ≤ k → ((q : Name) → find name_cmp q (map listed_entry listed) ≡ None → names.get old.views q ≡ None) → AreEntered IsSo listed old now
    entered_all over others =
        let all : AllZip IsSo listed so_far.made = subst (λ l. AllZip IsSo l so_far.made) (take_all k listed over) so_far.are in
        let order_made = to_T (is_sorted name_cmp so_far.made) (sorted_same listed so_far.made all ∙ order) in
        let same : now.views ≡ names.from_sorted so_far.made = same_map name_cmp-total name_cmp-antisymmetric _ _ (λ q.
        so_far.there q
        ∙ or_none (find name_cmp q so_far.made) q (λ none. others q (none_of (find name_cmp q (map listed_entry listed)) (sym (some_same listed so_far.made all q) ∙ ap is_some none)))
        ∙ sym (get-from_sorted name_cmp so_far.made q order_made)) in
        record {
          views = subst (AllZip IsSo listed) (sym (ap names.entries same ∙ entries-from_sorted name_cmp so_far.made order_made)) all;
          others = so_far.others;
        }

-- a name that no view has is no entry's
pub some_none : (listed : List ViewItem) (entries : List Entry) → AllZip (λ view entry. entry.0 ≡ view.name) listed entries → (q : Name)
    → find name_cmp q (map (λ (view : ViewItem). (view.name, view)) listed) ≡ None → find name_cmp q entries ≡ None
some_none listed entries all q none =
    none_of (find name_cmp q entries) (some_same (λ view entry. entry.0 ≡ view.name) (λ view entry is. is) listed entries all q ∙ ap is_some none)
