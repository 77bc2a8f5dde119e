-- What is paired with the items that a test selects.
use Rattle.std.proofs.Common.{◌≡◌, ◌<◌, ◌+◌, ℕ, Bool, true, false, List, [], ◌∷◌, ◌++◌, cond, filter, length, map, get_or, take, drop, sym, ap, subst, ◌∙◌, arith}
use Rattle.std.specs.List.{AllByRecursion, AllZip}
use Rattle.std.proofs.lemmas.List.{append-nil, drop_more, length-append, map-append, take-append-drop, take_more}
use Rattle.std.proofs.lemmas.List.Elements.{filter-append}

-- one more pair
pub zip_push : {X Y : Type 0} (R : X → Y → Type 0) (xs : List X) (ys : List Y) (x : X) (y : Y) → AllZip R xs ys → R x y → AllZip R (xs ++ x ∷ []) (ys ++ y ∷ [])
zip_push R [] [] x y all one = (one, tt)
zip_push R [] (b ∷ bs) x y all one = absurd all
zip_push R (a ∷ rest) [] x y all one = absurd all
zip_push R (a ∷ rest) (b ∷ bs) x y all one = (all.0, zip_push R rest bs x y all.1 one)

-- an item that is paired with nothing
zip_none : {X Y : Type 0} (R : X → Y → Type 0) (xs zs : List X) (x : X) → ((y : Y) → R x y → ⊥) → (ys : List Y) → AllZip R (xs ++ x ∷ zs) ys → ⊥
zip_none R [] zs x none [] all = all
zip_none R [] zs x none (y ∷ ys) all = none y all.0
zip_none R (a ∷ rest) zs x none [] all = all
zip_none R (a ∷ rest) zs x none (y ∷ ys) all = zip_none R rest zs x none ys all.1

-- the items as they are said, of which a test selects some
abbrev pub selected : {A X : Type 0} → (A → X) → (X → Bool) → List A → List X
selected said has items = filter has (map said items)

pub selected_more : {A X : Type 0} (said : A → X) (has : X → Bool) (items : List A) (i : ℕ) (item : A) → i < length items → item ≡ get_or items i item
    → selected said has (take (i + 1) items) ≡ selected said has (take i items) ++ cond (has (said item)) (said item ∷ []) []
selected_more said has items i item inside is =
    ap (selected said has) (take_more items i item inside) ∙ ap (filter has) (map-append said (take i items) (get_or items i item ∷ []))
    ∙ filter-append has (map said (take i items)) (said (get_or items i item) ∷ [])
    ∙ ap (λ a. selected said has (take i items) ++ cond (has (said a)) (said a ∷ []) []) (sym is)

pub selected_here : {A X : Type 0} (said : A → X) (has : X → Bool) (items : List A) (i : ℕ) (item : A) → i < length items → item ≡ get_or items i item
    → has (said item) ≡ true → selected said has items ≡ selected said has (take i items) ++ said item ∷ selected said has (drop (i + 1) items)
selected_here said has items i item inside is so =
    ap (selected said has) (sym (take-append-drop i items)) ∙ ap (filter has) (map-append said (take i items) (drop i items))
    ∙ filter-append has (map said (take i items)) (map said (drop i items))
    ∙ ap (λ rest. selected said has (take i items) ++ selected said has rest) (drop_more items i item inside ∙ ap (λ a. a ∷ drop (i + 1) items) (sym is))
    ∙ ap (λ b. selected said has (take i items) ++ cond b (said item ∷ selected said has (drop (i + 1) items)) (selected said has (drop (i + 1) items))) so

-- fewer are selected before an item that is selected
pub selected_fewer : {A X : Type 0} (said : A → X) (has : X → Bool) (items : List A) (i : ℕ) (item : A) → i < length items → item ≡ get_or items i item
    → has (said item) ≡ true → length (filter has (map said (take i items))) < length (filter has (map said items))
selected_fewer said has items i item inside is so =
    omega (
      arith,
      ap length (selected_here said has items i item inside is so),
      length-append (selected said has (take i items)) (said item ∷ selected said has (drop (i + 1) items)),
    )

-- the pairs after one more item, which is selected or not
pub selected_yes : {A X Y : Type 0} (said : A → X) (has : X → Bool) (R : X → Y → Type 0) (items : List A) (i : ℕ) (item : A) (ys : List Y) (y : Y) → i < length items
    → item ≡ get_or items i item → has (said item) ≡ true → R (said item) y → AllZip R (filter has (map said (take i items))) ys
    → AllZip R (filter has (map said (take (i + 1) items))) (ys ++ y ∷ [])
selected_yes said has R items i item ys y inside is so one all =
    subst (λ xs. AllZip R xs (ys ++ y ∷ [])) (sym (selected_more said has items i item inside is ∙ ap (λ b. selected said has (take i items) ++ cond b (said item ∷ []) []) so))
    (zip_push R (selected said has (take i items)) ys (said item) y all one)

pub selected_no : {A X Y : Type 0} (said : A → X) (has : X → Bool) (R : X → Y → Type 0) (items : List A) (i : ℕ) (item : A) (ys : List Y) → i < length items
    → item ≡ get_or items i item → has (said item) ≡ false → AllZip R (filter has (map said (take i items))) ys
    → AllZip R (filter has (map said (take (i + 1) items))) ys
selected_no said has R items i item ys inside is so all =
    subst (λ xs. AllZip R xs ys)
    (sym (selected_more said has items i item inside is ∙ ap (λ b. selected said has (take i items) ++ cond b (said item ∷ []) []) so ∙ append-nil (selected said has (take i items)))) all

-- there are no pairs where one of the items that are selected has none
pub selected_none : {A X Y : Type 0} (said : A → X) (has : X → Bool) (R : X → Y → Type 0) (items : List A) (i : ℕ) (item : A) → i < length items
    → item ≡ get_or items i item → has (said item) ≡ true → ((y : Y) → R (said item) y → ⊥) → (ys : List Y) → AllZip R (filter has (map said items)) ys → ⊥
selected_none said has R items i item inside is so none ys all =
    zip_none R (selected said has (take i items)) (selected said has (drop (i + 1) items)) (said item) none ys
    (subst (λ xs. AllZip R xs ys) (selected_here said has items i item inside is so) all)

-- what is so of each, and of one more
pub each_push : {X : Type 0} (P : X → Type 0) (xs : List X) (x : X) → AllByRecursion P xs → P x → AllByRecursion P (xs ++ x ∷ [])
each_push P [] x all one = (one, tt)
each_push P (a ∷ rest) x all one = (all.0, each_push P rest x all.1 one)
