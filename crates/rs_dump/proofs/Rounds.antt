-- One view after another, round after round.
use Rattle.std.proofs.Common.{◌≡◌, ◌∙◌, ℕ, ◌+◌, List, [], ◌∷◌, ◌++◌, Option, Some, Err, ap, append-nil, append_assoc, arith, length, length-append, subst, sym}
use Rattle.std.proofs.KnownBytes.{Appends-nil}
use Rattle.std.proofs.lemmas.List.{length_push, nil_from_length}
use Rattle.std.proofs.lemmas.Option.{same_Some}
use Rattle.std.specs.FinMap as names
use Rattle.std.specs.List.{AllByRecursion}
use Rattle.arrayvec.specs.ArrayString.{ArrayString}
use Rattle.rs_catalog.specs.Definitions.{Rest, ViewItem, state_from}
use Rattle.rs_catalog.specs.Referents.{referents_on}
use Rattle.rs_catalog.proofs.Names.{each_entry}
use Rattle.rs_dump.specs.Views.{AreRefused, Goes, Grows, HasAllThatPass, IsRefused, IsSorted, Known, LacksForAReason, MayLack, known_of, names_of, refused}
use Rattle.rs_dump.specs.declared.views.Defined.{Defined}
use Rattle.rs_dump.specs.declared.views.LeftOut.{LeftOut}
use Rattle.rs_dump.specs.declared.views.Sorted.{Sorted}
use Rattle.rs_dump_laws.specs.Parts.{IsUnder}
use Rattle.rs_facts.specs.Fact.{Name}
use Rattle.rs_facts.specs.Runs.{Stretch}
use Rattle.rs_machine.specs.Checking.{checked}
use Rattle.rs_syntax.specs.QueryView.{query_tree}
use Rattle.rs_dump.proofs.Entries.{entry_there}
use Rattle.rs_dump.proofs.Viewed.{all_there}

-- ---- before the first

pub none_written : (known : Known) (items : List ArrayString) (a : Option (List ℕ)) → items ≡ [] → IsSorted known (names_of items) a a
none_written known items a none = record { views = []; named = ap names_of (sym none); in_turn = tt; put = Appends-nil a }

pub none_refused : (known : Known) (those : List LeftOut) → those ≡ [] → AreRefused known those
none_refused known those none = subst (AreRefused known) (sym none) tt

-- ---- a list that grows

pub grows_by_none : (items : List ArrayString) → Grows items items
grows_by_none items = record { more = []; is = sym (append-nil items) }

grows_on : (a b c : List ArrayString) → Grows a b → Grows b c → Grows a c
grows_on a b c one other = record {
  more = one.more ++ other.more;
  is = other.is ∙ ap (λ (l : List ArrayString). l ++ other.more) one.is ∙ append_assoc a one.more other.more;
}

pub grown_length : (a b : List ArrayString) (grows : Grows a b) → length b ≡ length a + length grows.more
grown_length a b grows = ap length grows.is ∙ length-append a grows.more

pub grows_not : (items : List ArrayString) (one : ArrayString) → items ++ one ∷ [] ≡ items → ⊥
grows_not items one same = omega (arith, length_push items one, ap length same)

-- of the same length it is the same
pub same_list : (a b : List ArrayString) → Grows a b → length b ≡ length a → b ≡ a
same_list a b grows same =
    let none : grows.more ≡ [] = nil_from_length grows.more (omega (arith, grown_length a b grows, same)) in
    grows.is ∙ ap (λ (l : List ArrayString). a ++ l) none ∙ append-nil a

-- what is the same in the end was the same all along
same_before : (a b c : List ArrayString) → Grows a b → Grows b c → c ≡ a → b ≡ a
same_before a b c one other same = same_list a b one (omega (arith, grown_length a b one, grown_length b c other, ap length same))

-- ---- steps

pub goes_nowhere : (defined : Defined) (sorted : Sorted) (a : Option (List ℕ)) → Goes defined sorted sorted a a
goes_nowhere defined sorted a = record { sorted = λ before is. is; grows = grows_by_none sorted.written.items; refusals = λ are. are }

pub goes_on : (defined : Defined) (x y z : Sorted) (a b c : Option (List ℕ)) → Goes defined x y a b → Goes defined y z b c → Goes defined x z a c
goes_on defined x y z a b c one other = record {
  sorted = λ before is. other.sorted before (one.sorted before is);
  grows = grows_on x.written.items y.written.items z.written.items one.grows other.grows;
  refusals = λ are. other.refusals (one.refusals are);
}

-- one more is refused
pub refused_more : (known : Known) (those : List LeftOut) (one : LeftOut) → IsRefused known one.name.bytes → AreRefused known those → AreRefused known (those ++ one ∷ [])
refused_more known [] one is are = (is, tt)
refused_more known (first ∷ rest) one is are = (are.0, refused_more known rest one is are.1)

-- such a view may lack
pub lacks_refused : (known : Known) (written : List Name) (name : Name) (view : ViewItem) → names.get known.definitions.views name ≡ Some view → IsRefused known name
    → MayLack known written (query_tree view.query)
lacks_refused known written name view there is =
    refused is.why (subst (λ (item : ViewItem). (spans_on : ℕ → ℕ → List Stretch) (rest : Rest)
    → checked (state_from known.definitions (referents_on known.referents) spans_on rest) (query_tree item.query) ≡ Err is.why)
    (same_Some is.view view (sym is.there ∙ there)) is.each)

-- ---- a round

-- What a round has done before those that are left: where it wrote nothing, each view before them may lack.
pub record RoundGoesOn (defined : Defined) (start now : Sorted) (left : List (Name × ViewItem)) (a b : Option (List ℕ)) : Type 0 where
  pub under : AllByRecursion (IsUnder defined.catalog.now.views) left
  pub goes : Goes defined start now a b
  pub lacks : now.written.items ≡ start.written.items → AreRefused (known_of defined) start.refused.items
      → AllByRecursion (LacksForAReason (known_of defined) (names_of start.written.items)) left
      → AllByRecursion (LacksForAReason (known_of defined) (names_of start.written.items)) (names.entries defined.catalog.now.views)

pub round_begins : (defined : Defined) (start : Sorted) (left : List (Name × ViewItem)) (a : Option (List ℕ)) → left ≡ names.entries defined.catalog.now.views
    → RoundGoesOn defined start start left a a
round_begins defined start left a same = record {
  under = subst (AllByRecursion (IsUnder defined.catalog.now.views)) (sym same) (each_entry defined.catalog.now.views);
  goes = goes_nowhere defined start a;
  lacks = λ kept are each. subst (AllByRecursion (LacksForAReason (known_of defined) (names_of start.written.items))) same each;
}

pub round_goes_on : (defined : Defined) (start mid new : Sorted) (left rest : List (Name × ViewItem)) (one : Name × ViewItem) (a b c : Option (List ℕ)) → left ≡ one ∷ rest
    → RoundGoesOn defined start mid left a b → Goes defined mid new b c
    → (new.written.items ≡ mid.written.items → AreRefused (known_of defined) mid.refused.items → LacksForAReason (known_of defined) (names_of mid.written.items) one)
    → RoundGoesOn defined start new rest a c
round_goes_on defined start mid new left rest one a b c next so_far step lacks = record {
  under = (subst (AllByRecursion (IsUnder defined.catalog.now.views)) next so_far.under).1;
  goes = goes_on defined start mid new a b c so_far.goes step;
  lacks = λ same are each.
      let kept : mid.written.items ≡ start.written.items =
      same_before start.written.items mid.written.items new.written.items so_far.goes.grows step.grows same in
      so_far.lacks kept are (subst (AllByRecursion (LacksForAReason (known_of defined) (names_of start.written.items))) (sym next)
      (subst (λ (items : List ArrayString). LacksForAReason (known_of defined) (names_of items) one) kept (lacks (same ∙ sym kept) (so_far.goes.refusals are)), each));
}

pub round_ends : (defined : Defined) (start now : Sorted) (left : List (Name × ViewItem)) (a b : Option (List ℕ)) → left ≡ [] → RoundGoesOn defined start now left a b
    → now.written.items ≡ start.written.items → AreRefused (known_of defined) start.refused.items → HasAllThatPass (known_of defined) (names_of start.written.items)
round_ends defined start now left a b none so_far kept are = record {
  each = λ name view there.
      all_there (LacksForAReason (known_of defined) (names_of start.written.items)) (names.entries defined.catalog.now.views) (name, view)
      (so_far.lacks kept are (subst (AllByRecursion (LacksForAReason (known_of defined) (names_of start.written.items))) (sym none) tt))
      (entry_there defined.catalog.now.views name view there);
}
