-- What is so of each view of a catalogue, and of views in turn.
use Rattle.std.proofs.Common.{◌≡◌, ◌≢◌, ◌<◌, ◌∙◌, ℕ, true, List, [], ◌∷◌, ◌++◌, Option, ap, append-nil, append_assoc, arith, get_or, length, map, refl, suc, subst, sym}
use Rattle.std.specs.Prelude.{Contains}
use Rattle.std.specs.List.{AllByRecursion}
use Rattle.std.specs.FinMap as names
use Rattle.std.specs.Io.KnownBytes.{Appends}
use Rattle.std.proofs.KnownBytes.{Appends-trans}
use Rattle.std.proofs.lemmas.List.{get_or-map, length-map, map-append}
use Rattle.std.proofs.lemmas.List.Elements.{All-contains, All-from_recursion}
use Rattle.arrayvec.specs.ArrayString.{ArrayString}
use Rattle.rs_catalog.specs.Definitions.{ViewItem}
use Rattle.rs_facts.specs.Fact.{Name, Names}
use Rattle.rs_machine.specs.State.{has}
use Rattle.rs_dump.specs.Views.{AreInTurn, IsSorted, Known, MayFollow, names_of, view_of}
use Rattle.rs_dump.specs.Written.{line_bytes, lines_bytes}
use Rattle.rs_dump.proofs.Entries.{entry_there, has_one}
use Rattle.rs_dump.proofs.Written.{lines_joined}

pub all_there : {X : Type 0} (P : X → Type 0) (xs : List X) (x : X) → AllByRecursion P xs → Contains xs x → P x
all_there P xs x all there = All-contains P xs x (All-from_recursion P xs all) there

-- what is so of the names of all entries is so of each name that is there
pub of_each_view : (P : Name → Type 0) (views : Names ViewItem) → AllByRecursion (λ (entry : Name × ViewItem). P entry.0) (names.entries views)
    → (other : Name) → has views other ≡ true → P other
of_each_view P views all other there =
    let one = has_one views other there in
    all_there (λ (entry : Name × ViewItem). P entry.0) (names.entries views) (other, one.0) all (entry_there views other one.0 one.1)

-- ---- a list of names

pub at_head : {X : Type 0} (x : X) (xs : List X) → Contains (x ∷ xs) x
at_head x xs = (0, omega arith, refl)

pub in_tail : {X : Type 0} (x y : X) (xs : List X) → Contains xs y → Contains (x ∷ xs) y
in_tail x y xs there = (suc there.0, omega (arith, there.1), there.2)

-- where none is the name, it is not among them
pub not_there : (those : List Name) (name : Name) → AllByRecursion (λ other. other ≢ name) those → Contains those name → ⊥
not_there those name apart there = all_there (λ other. other ≢ name) those name apart there refl

-- what is read of a list is in it
pub read_there : {X Y : Type 0} (f : X → Y) (xs : List X) (i : ℕ) (x : X) → i < length xs → x ≡ get_or xs i x → Contains (map f xs) (f x)
read_there f xs i x inside is = (i, omega (arith, length-map xs f), get_or-map f xs i x (f x) inside ∙ ap f (sym is))

-- ---- views in turn

-- one view more
pub one_more : (known : Known) (before : List Name) (views : List (Name × ViewItem)) (view : Name × ViewItem) → AreInTurn known before views
    → MayFollow known (before ++ map (λ (v : Name × ViewItem). v.0) views) view → AreInTurn known before (views ++ view ∷ [])
one_more known before [] view turn may = (subst (λ (those : List Name). MayFollow known those view) (append-nil before) may, tt)
one_more known before (first ∷ views) view turn may = (
  turn.0,
  one_more known (before ++ first.0 ∷ []) views view turn.1
      (subst (λ (those : List Name). MayFollow known those view) (sym (append_assoc before (first.0 ∷ []) (map (λ (v : Name × ViewItem). v.0) views))) may),
)

-- and its line
pub sorted_more : (known : Known) (written : List ArrayString) (name : ArrayString) (item : ViewItem) (before mid after : Option (List ℕ)) → IsSorted known (names_of written) before mid
    → MayFollow known (names_of written) (name.bytes, item) → Appends mid after (line_bytes (view_of (name.bytes, item))) → IsSorted known (names_of (written ++ name ∷ [])) before after
sorted_more known written name item before mid after sorted may put =
    let view : Name × ViewItem = (name.bytes, item) in record {
      views = sorted.views ++ view ∷ [];
      named = map-append (λ (v : Name × ViewItem). v.0) sorted.views (view ∷ []) ∙ ap (λ l. l ++ name.bytes ∷ []) sorted.named
          ∙ sym (map-append (λ (n : ArrayString). n.bytes) written (name ∷ []));
      in_turn = one_more known [] sorted.views view sorted.in_turn (subst (λ (those : List Name). MayFollow known those view) (sym sorted.named) may);
      put = subst (Appends before after)
          (ap (λ bytes. lines_bytes (map view_of sorted.views) ++ bytes) (sym (append-nil (line_bytes (view_of view))))
          ∙ sym (lines_joined (map view_of sorted.views) (view_of view ∷ [])) ∙ ap lines_bytes (sym (map-append view_of sorted.views (view ∷ []))))
          (Appends-trans before mid after (lines_bytes (map view_of sorted.views)) (line_bytes (view_of view)) sorted.put put);
    }
