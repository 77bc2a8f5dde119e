-- Which referents are on a route, where those of a version are meant beside the routes, and that names are texts.
use Rattle.std.proofs.Common.{◌≡◌, ◌<◌, ◌==◌, ℕ, zero, suc, Bool, true, false, cond, List, [], ◌∷◌, filter, map, get_or, refl, ap, sym, subst, ◌∙◌, arith}
use Rattle.std.specs.List.{AllByRecursion, Contains, list_all, list_any}
use Rattle.std.specs.Str.{IsUtf8}
use Rattle.std.proofs.lemmas.Bool.{and_parts, false≢true}
use Rattle.std.proofs.lemmas.Bool.Decides.{nat_tests}
use Rattle.std.proofs.lemmas.List.Elements.{All-contains, All-from_recursion}
use Rattle.std.proofs.lemmas.List.Folds.{list_any_at}
use Rattle.std.proofs.lemmas.Str.{IsUtf8-from_ascii}
use Rattle.rs_grammar.specs.Words.{is_word_byte}
use Rattle.rs_methods.specs.PositionText.{IsWord}
use Rattle.rs_stored_catalog.specs.Referents.{IsReferent, IsSpan}
use Rattle.rs_syntax.specs.Sound.{IsName}
use Rattle.rs_versioned.specs.Meant.{AreReferentsMeant, IsReferentMeant}
use Rattle.rs_versioned.specs.Records.{is_seen}
use Rattle.rs_versioned.specs.Referents.{ReferentRecord, is_referent_of, kept_referents, referents_at}
use Rattle.rs_versioned.specs.declared.route_span.RouteSpan.{RouteSpan}

-- ---- lists

-- what is so of each is so of one
all_there : {X : Type 0} (P : X → Type 0) (xs : List X) (x : X) → AllByRecursion P xs → Contains xs x → P x
all_there P xs x all there = All-contains P xs x (All-from_recursion P xs all) there

rest_of : {X : Type 0} (P : X → Type 0) (x : X) (xs : List X) (b : Bool) → AllByRecursion P (cond b (x ∷ xs) xs) → AllByRecursion P xs
rest_of P x xs true all = all.1
rest_of P x xs false all = all

-- where what passes one test passes another, what is so of those that pass that one says what is so of these
passes_too : {X : Type 0} (Good Fine : X → Type 0) (test other : X → Bool) → ((x : X) → other x ≡ true → (test x ≡ true) × (Good x → Fine x)) → (xs : List X)
    → AllByRecursion Good (filter test xs) → AllByRecursion Fine (filter other xs)
passes_too Good Fine test other too [] all = tt
passes_too {X = X} Good Fine test other too (x ∷ xs) all =
    by_test (other x) refl (passes_too Good Fine test other too xs (rest_of Good x (filter test xs) (test x) all)) where
      by_test : (b : Bool) → other x ≡ b → AllByRecursion Fine (filter other xs) → AllByRecursion Fine (cond b (x ∷ filter other xs) (filter other xs))
      by_test true is rest = ((too x is).1 (subst (λ (b : Bool). AllByRecursion Good (cond b (x ∷ filter test xs) (filter test xs))) (too x is).0 all).0, rest)
      by_test false isnt rest = rest

none_left : {X : Type 0} (xs : List X) → AllByRecursion (λ _. ⊥) xs → xs ≡ []
none_left [] all = refl
none_left (x ∷ xs) all = absurd all.0

-- ---- names

low_byte : (byte : ℕ) → is_word_byte byte ≡ true → byte < 128
low_byte byte is = grind (arith, nat_tests)

low_bytes : (bytes : List ℕ) → list_all is_word_byte bytes ≡ true → (i : ℕ) → get_or bytes i 0 < 128
low_bytes [] is zero = omega arith
low_bytes [] is (suc i) = omega arith
low_bytes (byte ∷ bytes) is zero = low_byte byte (and_parts (is_word_byte byte) (list_all is_word_byte bytes) is).0
low_bytes (byte ∷ bytes) is (suc i) = low_bytes bytes (and_parts (is_word_byte byte) (list_all is_word_byte bytes) is).1 i

word_ascii : (name : List ℕ) → IsWord name → (i : ℕ) → get_or name i 0 < 128
word_ascii [] is i = absurd is
word_ascii (letter ∷ bytes) is zero = grind (arith, nat_tests)
word_ascii (letter ∷ bytes) is (suc i) = low_bytes bytes is.1 i

-- a name is a text
pub name_utf8 : (name : List ℕ) → IsName name → IsUtf8 name
name_utf8 name is = IsUtf8-from_ascii name (word_ascii name is.word)

-- ---- routes

-- whether one of the routes has this number
abbrev pub has_number : ℕ → List RouteSpan → Bool
has_number number routes = list_any (λ route. route.number == number) routes

number_there : (routes : List RouteSpan) (route : RouteSpan) (number : ℕ) → Contains routes route → route.number ≡ number → has_number number routes ≡ true
number_there routes route number there is =
    list_any_at (λ (one : RouteSpan). one.number == number) routes there.0 route there.1 (ap (λ (one : RouteSpan). one.number == number) there.2 ∙ grind (arith, nat_tests))

module _ (routes : List RouteSpan) (version : ℕ) (referents : List ReferentRecord) (meant : AreReferentsMeant routes version referents) (number : ℕ) where
  of_both : (one : ReferentRecord) → is_referent_of version number one ≡ true → (one.route ≡ number) × (is_seen kept_referents version one ≡ true)
  of_both one is = let parts = and_parts (one.route == number) (is_seen kept_referents version one) is in (grind (arith, nat_tests), parts.1)

  -- where no route has this number, none is there
  pub none_elsewhere : has_number number routes ≡ false → referents_at version number referents ≡ []
  none_elsewhere missing = ap (map (λ referent. (referent.name, referent.measure))) (none_left (filter (is_referent_of version number) referents)
      (passes_too (IsReferentMeant routes) (λ _. ⊥) (is_seen kept_referents version) (is_referent_of version number)
      (λ one is. ((of_both one is).1, λ good. false≢true (sym missing ∙ number_there routes good.lies.route number good.lies.there (good.lies.numbered ∙ (of_both one is).0))))
      referents meant.each))

  -- each that is there has a name that is not START, at a measure
  pub all_referents : AllByRecursion IsSpan routes → AllByRecursion IsReferent (filter (is_referent_of version number) referents)
  all_referents spans = passes_too (IsReferentMeant routes) IsReferent (is_seen kept_referents version) (is_referent_of version number)
      (λ one is. (
        (of_both one is).1,
        λ good. record {
          named = good.named;
          not_start = good.not_start;
          measured = omega (arith, good.lies.is_so.1, (all_there IsSpan routes good.lies.route spans good.lies.there).measured);
        },
      )) referents meant.each
