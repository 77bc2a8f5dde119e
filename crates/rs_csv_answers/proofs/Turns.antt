-- Lines one after another, and what is put of their answers.
use Rattle.std.proofs.Common.{◌≡◌, ◌∙◌, ◌++◌, ◌+◌, ◌&&◌, ◌<◌, ℕ, Bool, true, false, List, [], ◌∷◌, length, get_or, take, drop, map, Option, Result, Ok, Err, inl, is_ok, refl, sym, ap, subst, append_assoc, append-nil, take-append-drop}
use Rattle.std.proofs.KnownBytes.{Appends-trans}
use Rattle.std.proofs.Math.Seq.{take-length}
use Rattle.std.proofs.lemmas.List.{drop_more, map-append, map_more}
use Rattle.std.specs.Io.KnownBytes.{Appends}
use Rattle.rs_csv_answers.specs.Answers.{AnswersAsCsv}
use Rattle.rs_csv_answers.specs.Lines.{IsLineAnswered}
use Rattle.rs_csv_answers.specs.Questions.{IsAnswered, line_of}
use Rattle.rs_csv_answers.specs.Turns.{AnswersEach, PutsAll, PutsFront, PutsOne, Text, are_answered, text_of, text_result}
use Rattle.rs_machine.specs.Served.{Machine}
use Rattle.rs_protocol.specs.Puts.{Puts, PutsBut}
use Rattle.rs_protocol.specs.declared.stream.Fault.{Fault}
use Rattle.rs_refusal.specs.declared.refusal.Refusal.{Refusal}

-- the answer by its bytes
pub line_text : {T : Type 0} (items : T → List ℕ) (line : List ℕ) (old new : Machine) (result : Result T Refusal)
    → AnswersAsCsv items line old result new → IsLineAnswered line old (text_result items result) new
line_text {T} items line old new (Ok text) is = record { given = is.given; answered = is.answered; says = is.says }
line_text {T} items line old new (Err why) is = record { given = is.given; answered = is.answered; says = is.says }

pub answered_text : {T : Type 0} (items : T → List ℕ) (question line : List ℕ) (old new : Machine) (result : Result T Refusal) → line ≡ line_of question
    → AnswersAsCsv items line old result new → IsAnswered question old (text_result items result) new
answered_text {T} items question line old new result same is = inl (line_text items (line_of question) old new result (subst (λ (l : List ℕ). AnswersAsCsv items l old result new) same is))

-- ---- one answer is put

pub is_ok_result : {T : Type 0} (items : T → List ℕ) (result : Result T Refusal) → is_ok (text_result items result) ≡ is_ok result
is_ok_result {T} items (Ok text) = refl
is_ok_result {T} items (Err why) = refl

pub both_true : (both one all : Bool) → both ≡ (one && all) → both ≡ true → (one ≡ true) × (all ≡ true)
both_true both true true is done = (refl, refl)
both_true both true false is done = let wrong : false ≡ true = sym is ∙ done in cc
both_true both false all is done = let wrong : false ≡ true = sym is ∙ done in cc

-- ---- one answer more

swapped : (x y z : Bool) → (x && (y && z)) ≡ (y && (x && z))
swapped true y z = refl
swapped false true z = refl
swapped false false z = refl

pub answered_more : (answers : List Text) (answer : Text) → are_answered (answers ++ answer ∷ []) ≡ (is_ok answer && are_answered answers)
answered_more [] answer = refl
answered_more (other ∷ answers) answer = ap (λ b. is_ok other && b) (answered_more answers answer) ∙ swapped (is_ok other) (is_ok answer) (are_answered answers)

pub puts_then : (A B : Type 0) (fault : Fault) (xs ys : List ℕ) (a b c : Option (List ℕ)) → Appends a b xs → Puts {T = A} (Err fault) ys b c → Puts {T = B} (Err fault) (xs ++ ys) a c
puts_then A B fault xs ys a b c first then =
    let puts : PutsBut ys then.1.0 b c = then.1.2 in (
      then.0,
      (
        then.1.0,
        then.1.1,
        record {
          front = xs ++ puts.front;
          whole = ap (λ l. xs ++ l) puts.whole ∙ sym (append_assoc xs puts.front then.1.0);
          put = Appends-trans a b c xs puts.front first puts.put;
        },
      ),
    )

module _ (Is : List ℕ → Machine → Text → Machine → Type 0) where
  pub each_more : (lines : List (List ℕ)) (answers : List Text) (text : List ℕ) (old between new : Machine) (line : List ℕ) (answer : Text) → AnswersEach Is old lines answers text between
      → Is line between answer new → AnswersEach Is old (lines ++ line ∷ []) (answers ++ answer ∷ []) (text ++ text_of answer) new
  each_more [] [] text old between new line answer each is =
      (new, [], subst (λ (m : Machine). Is line m answer new) each.0 is, (refl, refl), ap (λ l. l ++ text_of answer) each.1 ∙ sym (append-nil (text_of answer)))
  each_more (first ∷ lines) (other ∷ answers) text old between new line answer each is = (
    each.0,
    each.1 ++ text_of answer,
    each.2,
    each_more lines answers each.1 each.0 between new line answer each.3 is,
    ap (λ l. l ++ text_of answer) each.4 ∙ append_assoc (text_of other) each.1 (text_of answer),
  )
  each_more [] (other ∷ answers) text old between new line answer each is = absurd each
  each_more (first ∷ lines) [] text old between new line answer each is = absurd each

  pub all_more : (lines : List (List ℕ)) (line : List ℕ) (old between new : Machine) (all one : Bool) (a b c : Option (List ℕ)) → PutsAll Is lines old all between a b
      → PutsOne Is line between (Ok one) new b c → PutsAll Is (lines ++ line ∷ []) old (one && all) new a c
  all_more lines line old between new all one a b c first then = record {
    answers = first.answers ++ then.answer ∷ [];
    text = first.text ++ text_of then.answer;
    each = each_more lines first.answers first.text old between new line then.answer first.each then.is;
    said = ap (λ t. t && all) then.said ∙ ap (λ t. is_ok then.answer && t) first.said ∙ sym (answered_more first.answers then.answer);
    put = Appends-trans a b c first.text (text_of then.answer) first.put then.put;
  }

  front_stops : (lines : List (List ℕ)) (line : List ℕ) (left : List (List ℕ)) (old between new : Machine) (all : Bool) (fault : Fault) (a b c : Option (List ℕ))
      → PutsAll Is lines old all between a b → PutsOne Is line between (Err fault) new b c → PutsFront Is (lines ++ line ∷ left) old fault new a c
  front_stops lines line left old between new all fault a b c first then = record {
    asked = lines ++ line ∷ [];
    left = left;
    whole = sym (append_assoc lines (line ∷ []) left);
    answers = first.answers ++ then.answer ∷ [];
    text = first.text ++ text_of then.answer;
    each = each_more lines first.answers first.text old between new line then.answer first.each then.is;
    put = puts_then Bool Bool fault first.text (text_of then.answer) a b c first.put then.put;
  }

  -- ---- by their places

  module _ (X : Type 0) (text : X → List ℕ) (texts : List X) (i : ℕ) (d : X) (within : i < length texts) where
    cut_at : map text texts ≡ map text (take i texts) ++ text (get_or texts i d) ∷ map text (drop (i + 1) texts)
    cut_at = ap (map text) (sym (take-append-drop i texts)) ∙ map-append text (take i texts) (drop i texts) ∙ ap (λ l. map text (take i texts) ++ map text l) (drop_more texts i d within)

    pub all_at : (old between new : Machine) (all one both : Bool) (a b c : Option (List ℕ)) → both ≡ (one && all) → PutsAll Is (map text (take i texts)) old all between a b
        → PutsOne Is (text (get_or texts i d)) between (Ok one) new b c → PutsAll Is (map text (take (i + 1) texts)) old both new a c
    all_at old between new all one both a b c is first then =
        subst (λ (so : Bool). PutsAll Is (map text (take (i + 1) texts)) old so new a c) (sym is)
        (subst (λ (l : List (List ℕ)). PutsAll Is l old (one && all) new a c) (sym (map_more text texts i d within))
        (all_more (map text (take i texts)) (text (get_or texts i d)) old between new all one a b c first then))

    pub stops_at : (old between new : Machine) (all : Bool) (fault : Fault) (a b c : Option (List ℕ)) → PutsAll Is (map text (take i texts)) old all between a b
        → PutsOne Is (text (get_or texts i d)) between (Err fault) new b c → PutsFront Is (map text texts) old fault new a c
    stops_at old between new all fault a b c first then =
        subst (λ (l : List (List ℕ)). PutsFront Is l old fault new a c) (sym cut_at)
        (front_stops (map text (take i texts)) (text (get_or texts i d)) (map text (drop (i + 1) texts)) old between new all fault a b c first then)

  -- none is left
  pub all_there : (X : Type 0) (text : X → List ℕ) (texts : List X) (i : ℕ) (old new : Machine) (all : Bool) (a b : Option (List ℕ)) → i ≡ length texts
      → PutsAll Is (map text (take i texts)) old all new a b → PutsAll Is (map text texts) old all new a b
  all_there X text texts i old new all a b end answers =
      subst (λ (l : List X). PutsAll Is (map text l) old all new a b) (subst (λ (n : ℕ). take n texts ≡ texts) (sym end) (take-length texts)) answers
