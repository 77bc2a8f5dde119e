-- Things that are put one after another into a store, which then answers questions by them.
--
-- What stands under names is such a store, asked by name, and so are the referents of all routes, asked by route and name.
use Rattle.std.proofs.Common.{◌≡◌, ◌≢◌, ◌∙◌, Bool, true, false, cond, inl, inr, List, [], ◌∷◌, Option, Some, None, refl, sym, ap}
use Rattle.std.specs.Prelude.{Contains, fold}
use Rattle.std.specs.List.{AllByRecursion}
use Rattle.rs_dump_laws.specs.Parts.{AreOnce, AreAll}
use Rattle.rs_dump_laws.proofs.Lists.{all_both, of_each, from_each, first_or_later, none_in_nothing}

-- Things of X are put in, questions of Q are asked: a thing answers some of them with its value.
pub record Store (S X Q V : Type 0) : Type 0 where
  pub put : S → X → S
  pub look : S → Q → Option V
  pub answers : X → Q → Bool
  pub value : X → V
  pub looked : (s : S) (x : X) (q : Q) → look (put s x) q ≡ cond (answers x q) (Some (value x)) (look s q)

module _ {S X Q V : Type 0} (store : Store S X Q V) where
  abbrev pub put_all : S → List X → S
  put_all s xs = fold store.put s xs

  -- the one answers no question that the other answers
  abbrev pub AreApart : X → X → Type 0
  AreApart x y = (q : Q) → store.answers x q ≡ true → store.answers y q ≡ false

  abbrev pub AllApart : List X → Type 0
  AllApart [] = Unit {0}
  AllApart (x ∷ xs) = AllByRecursion (AreApart x) xs × AllApart xs

  -- nothing answers yet what the thing answers
  abbrev pub IsNew : S → X → Type 0
  IsNew s x = (q : Q) → store.answers x q ≡ true → store.look s q ≡ None

  -- each is new when its turn comes
  abbrev pub AreNew : S → List X → Type 0
  AreNew s [] = Unit {0}
  AreNew s (x ∷ xs) = IsNew s x × AreNew (store.put s x) xs

  -- ---- after one

  still_new : (s : S) (x y : X) → AreApart x y → IsNew s y → IsNew (store.put s x) y
  still_new s x y apart new q told =
      store.looked s x q ∙ elim (store.answers x q) as (λ b. store.answers x q ≡ b → cond b (Some (store.value x)) (store.look s q) ≡ None) [
        | true ↦ λ is. let other = apart q is in absurd (let wrong : true ≡ false = sym told ∙ other in cc)
        | false ↦ λ is. new q told
      ] refl

  pub apart_new : (s : S) (xs : List X) → AllApart xs → AllByRecursion (IsNew s) xs → AreNew s xs
  apart_new s [] apart new = tt
  apart_new s (x ∷ xs) apart new = (new.0, apart_new (store.put s x) xs apart.1 (all_both (AreApart x) (IsNew s) (IsNew (store.put s x)) (λ y. still_new s x y) xs apart.0 new.1))

  -- ---- after all

  -- a question that none answers is answered as before
  pub look_none : (s : S) (xs : List X) (q : Q) → AllByRecursion (λ x. store.answers x q ≡ false) xs → store.look (put_all s xs) q ≡ store.look s q
  look_none s [] q none = refl
  look_none s (x ∷ xs) q none = look_none (store.put s x) xs q none.1 ∙ store.looked s x q ∙ ap (λ b. cond b (Some (store.value x)) (store.look s q)) none.0

  -- a question that one answers is answered by it
  pub look_one : (s : S) (xs : List X) (q : Q) (x : X) → AllApart xs → Contains xs x → store.answers x q ≡ true → store.look (put_all s xs) q ≡ Some (store.value x)
  look_one s [] q x apart among told = none_in_nothing (store.look s q ≡ Some (store.value x)) x among
  look_one s (y ∷ ys) q x apart among told = elim (first_or_later y x ys among) [
    | inl same ↦
        let answers_too : store.answers y q ≡ true = ap (λ z. store.answers z q) same ∙ told in
        look_none (store.put s y) ys q (all_no y ys q apart.0 answers_too)
        ∙ store.looked s y q
        ∙ ap (λ b. cond b (Some (store.value y)) (store.look s q)) answers_too
        ∙ ap (λ z. Some (store.value z)) same
    | inr later ↦ look_one (store.put s y) ys q x apart.1 later told
  ]
    where
      all_no : (y : X) (ys : List X) (q : Q) → AllByRecursion (AreApart y) ys → store.answers y q ≡ true → AllByRecursion (λ z. store.answers z q ≡ false) ys
      all_no y [] q apart told = tt
      all_no y (z ∷ zs) q apart told = (apart.0 q told, all_no y zs q apart.1 told)

  -- ---- what is listed

  -- the answers are those of the things that are so
  pub record IsAnsweredBy (IsSo : X → Type 0) (target : Q → Option V) : Type 0 where
    pub each : (x : X) → IsSo x → (q : Q) → store.answers x q ≡ true → target q ≡ Some (store.value x)
    pub all : (q : Q) (v : V) → target q ≡ Some v → (x : X) × IsSo x × (store.answers x q ≡ true) × (store.value x ≡ v)
    pub one : (x y : X) → IsSo x → IsSo y → (q : Q) → store.answers x q ≡ true → store.answers y q ≡ true → x ≡ y

  module _ (IsSo : X → Type 0) (target : Q → Option V) (is : IsAnsweredBy IsSo target) where
    differ : (x y : X) → x ≢ y → IsSo x → IsSo y → AreApart x y
    differ x y other so too q told = elim (store.answers y q) as (λ b. store.answers y q ≡ b → b ≡ false) [
      | true ↦ λ both. absurd (other (is.one x y so too q told both))
      | false ↦ λ untold. refl
    ] refl

    pub all_apart : (xs : List X) → AreOnce xs → AllByRecursion IsSo xs → AllApart xs
    all_apart [] once each = tt
    all_apart (x ∷ xs) once each = (all_both (λ y. x ≢ y) IsSo (AreApart x) (λ y other so. differ x y other each.0 so) xs once.0 each.1, all_apart xs once.1 each.1)

    answer_of : (s : S) (xs : List X) → AreAll IsSo xs → (q : Q) → store.look s q ≡ None → (o : Option V) → target q ≡ o → store.look (put_all s xs) q ≡ o
    answer_of s xs all q none None e =
        look_none s xs q (from_each (λ x. store.answers x q ≡ false) xs (λ x among. no x (of_each IsSo xs x all.each among))) ∙ none
      where
        no : (x : X) → IsSo x → store.answers x q ≡ false
        no x so = elim (store.answers x q) as (λ b. store.answers x q ≡ b → b ≡ false) [
          | true ↦ λ told. absurd (let wrong : None ≡ Some (store.value x) = sym e ∙ is.each x so q told in cc)
          | false ↦ λ untold. refl
        ] refl
    answer_of s xs all q none (Some v) e =
        let found = is.all q v e in
        look_one s xs q found.0 (all_apart xs all.once all.each) (all.complete found.0 found.1) found.2 ∙ ap Some found.3

    -- all that is so, once it is put into an empty store, answers as the target does
    pub answered : (s : S) (xs : List X) → AreAll IsSo xs → ((q : Q) → store.look s q ≡ None) → (q : Q) → store.look (put_all s xs) q ≡ target q
    answered s xs all empty q = answer_of s xs all q (empty q) (target q) refl

    pub listed_new : (s : S) (xs : List X) → AreAll IsSo xs → ((q : Q) → store.look s q ≡ None) → AreNew s xs
    listed_new s xs all empty = apart_new s xs (all_apart xs all.once all.each) (from_each (IsNew s) xs (λ x among q told. empty q))
