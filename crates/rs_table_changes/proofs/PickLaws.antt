-- Events that are picked one after another.
use Rattle.std.proofs.Common.{◌≡◌, ◌+◌, ℕ, zero, suc, Bool, true, false, cond, Some, List, [], ◌∷◌, ◌++◌, map, take, slice_get, append-nil, refl, sym, ap, ◌∙◌, subst, arith}
use Rattle.std.proofs.lemmas.List.{map-append}
use Rattle.std.proofs.lemmas.List.Elements.{filter-append}
use Rattle.std.specs.List.{AllByRecursion, AllZip}
use Rattle.rs_facts.specs.Runs.{Stretch}
use Rattle.rs_tree.proofs.Lists.{take_next}
use Rattle.rs_value.proofs.EncodingLaws.{said_typed}
use Rattle.rs_value.specs.Row.{Row}
use Rattle.rs_value.specs.Values.{IsRowOf}
use Rattle.rs_value.specs.declared.column.ColumnType.{ColumnType}
use Rattle.rs_versioned.specs.Events.{Event, SaysEvent, span_of}
use Rattle.rs_versioned.proofs.Lifting.{zip_join}
use Rattle.rs_table_changes.specs.Picked.{Picks, SayNone, passing}

-- the events of cells and of one more are events and one more
record Parted (types : List ColumnType) (cells : List (List ℕ)) (cell : List ℕ) (events : List Event) : Type 0 where
  front : List Event
  last : Event
  is : events ≡ front ++ last ∷ []
  say : AllZip (SaysEvent types) cells front
  says : SaysEvent types cell last

parted : (types : List ColumnType) (cells : List (List ℕ)) (cell : List ℕ) (events : List Event) → AllZip (SaysEvent types) (cells ++ cell ∷ []) events → Parted types cells cell events
parted types [] cell [] say = absurd say
parted types [] cell (e ∷ []) say = record { front = []; last = e; is = refl; say = tt; says = say.0 }
parted types [] cell (e ∷ f ∷ es) say = absurd say.1
parted types (c ∷ cs) cell [] say = absurd say
parted types (c ∷ cs) cell (e ∷ es) say =
    let rest = parted types cs cell es say.1 in
    record { front = e ∷ rest.front; last = rest.last; is = ap (λ l. e ∷ l) rest.is; say = (say.0, rest.say); says = rest.says }

module _ (types : List ColumnType) (test : Row → Bool) where
  pub picks_none : Picks types test [] [] []
  picks_none = record { say = λ events say. by events say; are = λ events say. none events say } where
    by : (events : List Event) → AllZip (SaysEvent types) [] events → AllZip (SaysEvent types) [] (passing test events)
    by [] say = tt
    by (e ∷ es) say = absurd say

    none : (events : List Event) → AllZip (SaysEvent types) [] events → [] ≡ map span_of (passing test events)
    none [] say = refl
    none (e ∷ es) say = absurd say

  module _ (found : List (List ℕ)) (place : ℕ) (cell : List ℕ) (cells : List (List ℕ)) (spans : List Stretch) (there : slice_get found place ≡ Some cell) (span : Stretch)
      (is : (event : Event) → SaysEvent types cell event → span ≡ span_of event) (so : Picks types test (take place found) cells spans) where
    next : take (place + 1) found ≡ take place found ++ cell ∷ []
    next = let e : place + 1 ≡ suc place = omega arith in ap (λ n. take n found) e ∙ take_next found place cell there

    tested : (b : Bool) → test span.row ≡ b → (event : Event) → SaysEvent types cell event → test event.row ≡ b
    tested b e event says = ap (λ (s : Stretch). test s.row) (sym (is event says)) ∙ e

    passed : (b : Bool) (front : List Event) (last : Event) → test last.row ≡ b → passing test (front ++ last ∷ []) ≡ passing test front ++ cond b (last ∷ []) []
    passed b front last e = filter-append (λ (one : Event). test one.row) front (last ∷ []) ∙ ap (λ t. passing test front ++ cond t (last ∷ []) []) e

    pub picks_more : test span.row ≡ true → Picks types test (take (place + 1) found) (cells ++ cell ∷ []) (spans ++ span ∷ [])
    picks_more e = subst (λ l. Picks types test l (cells ++ cell ∷ []) (spans ++ span ∷ [])) (sym next) (record { say = say; are = are }) where
      say : (events : List Event) → AllZip (SaysEvent types) (take place found ++ cell ∷ []) events → AllZip (SaysEvent types) (cells ++ cell ∷ []) (passing test events)
      say events all =
          let p = parted types (take place found) cell events all in
          subst (AllZip (SaysEvent types) (cells ++ cell ∷ [])) (sym (ap (passing test) p.is ∙ passed true p.front p.last (tested true e p.last p.says)))
          (zip_join (SaysEvent types) cells (cell ∷ []) (passing test p.front) (p.last ∷ []) (so.say p.front p.say) (p.says, tt))

      are : (events : List Event) → AllZip (SaysEvent types) (take place found ++ cell ∷ []) events → spans ++ span ∷ [] ≡ map span_of (passing test events)
      are events all =
          let p = parted types (take place found) cell events all in
          ap (λ l. l ++ span ∷ []) (so.are p.front p.say)
          ∙ ap (λ s. map span_of (passing test p.front) ++ s ∷ []) (is p.last p.says)
          ∙ sym (map-append span_of (passing test p.front) (p.last ∷ []))
          ∙ sym (ap (map span_of) (ap (passing test) p.is ∙ passed true p.front p.last (tested true e p.last p.says)))

    pub picks_same : test span.row ≡ false → Picks types test (take (place + 1) found) cells spans
    picks_same e = subst (λ l. Picks types test l cells spans) (sym next) (record { say = say; are = are }) where
      passes : (events : List Event) (p : Parted types (take place found) cell events) → passing test events ≡ passing test p.front
      passes events p = ap (passing test) p.is ∙ passed false p.front p.last (tested false e p.last p.says) ∙ append-nil (passing test p.front)

      say : (events : List Event) → AllZip (SaysEvent types) (take place found ++ cell ∷ []) events → AllZip (SaysEvent types) cells (passing test events)
      say events all = let p = parted types (take place found) cell events all in subst (AllZip (SaysEvent types) cells) (sym (passes events p)) (so.say p.front p.say)

      are : (events : List Event) → AllZip (SaysEvent types) (take place found ++ cell ∷ []) events → spans ≡ map span_of (passing test events)
      are events all = let p = parted types (take place found) cell events all in so.are p.front p.say ∙ sym (ap (map span_of) (passes events p))

-- a cell that says none
pub none_at : (types : List ColumnType) (found : List (List ℕ)) (place : ℕ) (cell : List ℕ) → slice_get found place ≡ Some cell → ((event : Event) → SaysEvent types cell event → ⊥) → SayNone types found
none_at types found place cell there none = record { none = by found place there } where
  by : (found : List (List ℕ)) (place : ℕ) → slice_get found place ≡ Some cell → (events : List Event) → AllZip (SaysEvent types) found events → ⊥
  by [] place there events say = absurd (cc)
  by (c ∷ cs) place there [] say = absurd say
  by (c ∷ cs) zero there (e ∷ es) say = let same : c ≡ cell = cc in none e (subst (λ x. SaysEvent types x e) same say.0)
  by (c ∷ cs) (suc k) there (e ∷ es) say = by cs k there es say.1

-- the row of an event is one of these columns
pub row_said : (types : List ColumnType) (cell : List ℕ) (span : Stretch) → ((event : Event) × SaysEvent types cell event) → ((event : Event) → SaysEvent types cell event → span ≡ span_of event) → IsRowOf types span.row
row_said types cell span said is =
    subst (λ (s : Stretch). IsRowOf types s.row) (sym (is said.0 said.1)) (said_typed types said.1.bytes said.0.row said.1.row)

pub all_more : (P : Stretch → Type 0) (xs : List Stretch) (x : Stretch) → AllByRecursion P xs → P x → AllByRecursion P (xs ++ x ∷ [])
all_more P [] x all one = (one, tt)
all_more P (y ∷ xs) x all one = (all.0, all_more P xs x all.1 one)
