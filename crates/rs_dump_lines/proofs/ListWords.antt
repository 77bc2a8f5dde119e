-- Items in brackets, with a comma between them and no blank.
use Rattle.std.proofs.Common.{◌≡◌, ◌∙◌, ℕ, ◌+◌, ◌<◌, true, List, [], ◌∷◌, ◌++◌, length, map, refl, sym, ap, subst, append_assoc, append-nil, arith}
use Rattle.std.specs.Prelude.{codes}
use Rattle.std.specs.List.{AllByRecursion, join_with_byte}
use Rattle.std.proofs.lemmas.List.{map-append}
use Rattle.rs_grammar.specs.declared.kind.TokenKind.{TokenKind}
use Rattle.rs_grammar.specs.declared.kind.TokenKind.TheVariants as kinds
use Rattle.rs_grammar.specs.Grammar.{Derives, Part, done, is_shallow, need, nothing, part, pick, rules, sub, that, this}
use Rattle.rs_syntax.specs.Written.{Lexeme, further_lexemes, lexeme_of, lexemes_of, list_lexemes, mark as marked}
use Rattle.rs_csv_lines.proofs.Cuts.{Ends, closing, comma}
use Rattle.rs_dump_lines.proofs.Words.{AreCut, HaveTexts, Word, closing_bracket, comma_sign, cut_append, end_at, kinds_in, mark, none, text_append, texts_append, texts_front, tokens_append, tokens_at, words_text}

module _ {X W : Type 0} (words_of : X → List Word) (lexemes : W → List Lexeme) (item list : Part) (SaysOne : List ℕ → W → X → Type 0) (SaysAll : List ℕ → List W → List X → Type 0) where
  -- what is said of an item that comes at a place
  pub record ItemSaid (line : List ℕ) (place : ℕ) (x : X) : Type 0 where
    pub written : W
    pub spelled : lexemes_of (tokens_at place (words_of x)) ≡ lexemes written
    pub says : SaysOne line written x

  pub record IsItem (x : X) : Type 0 where
    pub cut : (after : List ℕ) → Ends after → AreCut (words_of x) after
    pub derived : (others : List TokenKind) → Derives (rules item) (kinds_in (words_of x) ++ others) others
    pub shallow : (others : List TokenKind) → is_shallow 1 others ≡ true → is_shallow 1 (kinds_in (words_of x) ++ others) ≡ true
    pub said : (line : List ℕ) (place : ℕ) → HaveTexts line place (words_of x) → ItemSaid line place x

  -- how items are joined in what is said and derived
  pub record AreJoined : Type 0 where
    pub says_none : (line : List ℕ) → SaysAll line [] []
    pub says_more : (line : List ℕ) (w : W) (x : X) (ws : List W) (xs : List X) → SaysOne line w x → SaysAll line ws xs → SaysAll line (w ∷ ws) (x ∷ xs)
    pub derives : (tokens middle left : List TokenKind) → Derives (rules item) tokens middle → Derives (pick kinds.Comma (sub list done) done) middle left → Derives (rules list) tokens left

  abbrev pub further : List X → List Word
  further [] = []
  further (x ∷ xs) = mark (codes ",") kinds.Comma ∷ (words_of x ++ further xs)

  abbrev pub listed : X → List X → List Word
  listed x xs = words_of x ++ further xs

  kinds_joined : (x : X) (xs : List X) (others : List TokenKind) → kinds_in (listed x xs) ++ others ≡ kinds_in (words_of x) ++ (kinds_in (further xs) ++ others)
  kinds_joined x xs others = ap (λ ks. ks ++ others) (map-append (λ (w : Word). w.kind) (words_of x) (further xs)) ∙ append_assoc (kinds_in (words_of x)) (kinds_in (further xs)) others

  -- the text is the items' texts with a comma between them
  pub listed_text : (x : X) (xs : List X) → words_text (listed x xs) ≡ join_with_byte 44 (words_text (words_of x) ∷ map (λ y. words_text (words_of y)) xs)
  listed_text x [] = ap words_text (append-nil (words_of x))
  listed_text x (y ∷ ys) = text_append (words_of x) (further (y ∷ ys)) ∙ ap (λ t. words_text (words_of x) ++ (44 ∷ t)) (listed_text y ys)

  further_ends : (xs : List X) (after : List ℕ) → Ends after → Ends (words_text (further xs) ++ after)
  further_ends [] after ends = ends
  further_ends (x ∷ xs) after ends = comma

  further_cut : (xs : List X) (after : List ℕ) → AllByRecursion IsItem xs → Ends after → AreCut (further xs) after
  further_cut [] after are ends = none
  further_cut (x ∷ xs) after are ends = comma_sign (cut_append (words_of x) (further xs) after (are.0.cut (words_text (further xs) ++ after) (further_ends xs after ends)) (further_cut xs after are.1 ends))

  pub listed_cut : (x : X) (xs : List X) (after : List ℕ) → IsItem x → AllByRecursion IsItem xs → Ends after → AreCut (listed x xs) after
  listed_cut x xs after is are ends = cut_append (words_of x) (further xs) after (is.cut (words_text (further xs) ++ after) (further_ends xs after ends)) (further_cut xs after are ends)

  module _ (joined : AreJoined) where
    further_derived : (xs : List X) (others : List TokenKind) → AllByRecursion IsItem xs → Derives (pick kinds.Comma (sub list done) done) (kinds_in (further xs) ++ others) others
    further_derived [] others are = that nothing
    further_derived (x ∷ xs) others are =
        this (part (subst (λ ks. Derives (rules list) ks others) (sym (kinds_joined x xs others))
        (joined.derives _ (kinds_in (further xs) ++ others) others (are.0.derived (kinds_in (further xs) ++ others)) (further_derived xs others are.1))) nothing)

    pub listed_derived : (x : X) (xs : List X) (others : List TokenKind) → IsItem x → AllByRecursion IsItem xs → Derives (rules list) (kinds_in (listed x xs) ++ others) others
    listed_derived x xs others is are =
        subst (λ ks. Derives (rules list) ks others) (sym (kinds_joined x xs others))
        (joined.derives _ (kinds_in (further xs) ++ others) others (is.derived (kinds_in (further xs) ++ others)) (further_derived xs others are))

    further_shallow : (xs : List X) (others : List TokenKind) → AllByRecursion IsItem xs → is_shallow 1 others ≡ true → is_shallow 1 (kinds_in (further xs) ++ others) ≡ true
    further_shallow [] others are shallow = shallow
    further_shallow (x ∷ xs) others are shallow =
        ap (is_shallow 1) (kinds_joined x xs others) ∙ are.0.shallow (kinds_in (further xs) ++ others) (further_shallow xs others are.1 shallow)

    pub listed_shallow : (x : X) (xs : List X) (others : List TokenKind) → IsItem x → AllByRecursion IsItem xs → is_shallow 1 others ≡ true → is_shallow 1 (kinds_in (listed x xs) ++ others) ≡ true
    listed_shallow x xs others is are shallow =
        ap (is_shallow 1) (kinds_joined x xs others) ∙ is.shallow (kinds_in (further xs) ++ others) (further_shallow xs others are shallow)

    -- what is said of items after the first
    record FurtherSaid (line : List ℕ) (place : ℕ) (xs : List X) : Type 0 where
      written : List W
      spelled : lexemes_of (tokens_at place (further xs)) ≡ further_lexemes kinds.Comma lexemes written
      says : SaysAll line written xs

    -- and of all
    pub record ListSaid (line : List ℕ) (place : ℕ) (x : X) (xs : List X) : Type 0 where
      pub written : List W
      pub some : 0 < length written
      pub spelled : lexemes_of (tokens_at place (listed x xs)) ≡ list_lexemes kinds.Comma lexemes written
      pub says : SaysAll line written (x ∷ xs)

    spelled_joined : (place : ℕ) (x : X) (xs : List X) → lexemes_of (tokens_at place (listed x xs)) ≡ lexemes_of (tokens_at place (words_of x)) ++ lexemes_of (tokens_at (end_at place (words_of x)) (further xs))
    spelled_joined place x xs = ap lexemes_of (tokens_append place (words_of x) (further xs)) ∙ map-append lexeme_of (tokens_at place (words_of x)) (tokens_at (end_at place (words_of x)) (further xs))

    further_said : (line : List ℕ) (place : ℕ) (xs : List X) → AllByRecursion IsItem xs → HaveTexts line place (further xs) → FurtherSaid line place xs
    further_said line place [] are have = record { written = []; spelled = refl; says = joined.says_none line }
    further_said line place (x ∷ xs) are have =
        let start = place + 1 in
        let one = are.0.said line start (texts_front line start (words_of x) (further xs) have.1) in
        let more = further_said line (end_at start (words_of x)) xs are.1 (texts_append line start (words_of x) (further xs) have.1) in
        record {
          written = one.written ∷ more.written;
          spelled = ap (λ ls. marked kinds.Comma ∷ ls) (spelled_joined start x xs ∙ ap (λ ls. ls ++ lexemes_of (tokens_at (end_at start (words_of x)) (further xs))) one.spelled ∙ ap (λ ls. lexemes one.written ++ ls) more.spelled);
          says = joined.says_more line one.written x more.written xs one.says more.says;
        }

    pub listed_said : (line : List ℕ) (place : ℕ) (x : X) (xs : List X) → IsItem x → AllByRecursion IsItem xs → HaveTexts line place (listed x xs) → ListSaid line place x xs
    listed_said line place x xs is are have =
        let one = is.said line place (texts_front line place (words_of x) (further xs) have) in
        let more = further_said line (end_at place (words_of x)) xs are (texts_append line place (words_of x) (further xs) have) in
        record {
          written = one.written ∷ more.written;
          some = omega arith;
          spelled = spelled_joined place x xs ∙ ap (λ ls. ls ++ lexemes_of (tokens_at (end_at place (words_of x)) (further xs))) one.spelled ∙ ap (λ ls. lexemes one.written ++ ls) more.spelled;
          says = joined.says_more line one.written x more.written xs one.says more.says;
        }

  -- ---- up to the closing bracket

  abbrev pub closed : X → List X → List Word
  closed x xs = listed x xs ++ mark (codes ")") kinds.RightParen ∷ []

  pub closed_text : (x : X) (xs : List X) → words_text (closed x xs) ≡ join_with_byte 44 (words_text (words_of x) ∷ map (λ y. words_text (words_of y)) xs) ++ codes ")"
  closed_text x xs = text_append (listed x xs) (mark (codes ")") kinds.RightParen ∷ []) ∙ ap (λ t. t ++ codes ")") (listed_text x xs)

  pub closed_cut : (x : X) (xs : List X) → IsItem x → AllByRecursion IsItem xs → AreCut (closed x xs) []
  closed_cut x xs is are = cut_append (listed x xs) (mark (codes ")") kinds.RightParen ∷ []) [] (listed_cut x xs (41 ∷ []) is are closing) (closing_bracket none)

  kinds_closed : (x : X) (xs : List X) → kinds_in (closed x xs) ≡ kinds_in (listed x xs) ++ kinds.RightParen ∷ []
  kinds_closed x xs = map-append (λ (w : Word). w.kind) (listed x xs) (mark (codes ")") kinds.RightParen ∷ [])

  module _ (joined : AreJoined) where
    pub closed_derived : (x : X) (xs : List X) → IsItem x → AllByRecursion IsItem xs → Derives (sub list (need kinds.RightParen done)) (kinds_in (closed x xs)) []
    closed_derived x xs is are =
        subst (λ ks. Derives (sub list (need kinds.RightParen done)) ks []) (sym (kinds_closed x xs))
        (part (listed_derived joined x xs (kinds.RightParen ∷ []) is are) (this nothing))

    pub closed_shallow : (x : X) (xs : List X) → IsItem x → AllByRecursion IsItem xs → is_shallow 1 (kinds_in (closed x xs)) ≡ true
    closed_shallow x xs is are = ap (is_shallow 1) (kinds_closed x xs) ∙ listed_shallow joined x xs (kinds.RightParen ∷ []) is are refl

    pub closed_said : (line : List ℕ) (place : ℕ) (x : X) (xs : List X) → IsItem x → AllByRecursion IsItem xs → HaveTexts line place (closed x xs) → ListSaid joined line place x xs
    closed_said line place x xs is are have = listed_said joined line place x xs is are (texts_front line place (listed x xs) (mark (codes ")") kinds.RightParen ∷ []) have)

    pub closed_spelled : (line : List ℕ) (place : ℕ) (x : X) (xs : List X) (said : ListSaid joined line place x xs)
        → lexemes_of (tokens_at place (closed x xs)) ≡ list_lexemes kinds.Comma lexemes said.written ++ marked kinds.RightParen ∷ []
    closed_spelled line place x xs said =
        ap lexemes_of (tokens_append place (listed x xs) (mark (codes ")") kinds.RightParen ∷ []))
        ∙ map-append lexeme_of (tokens_at place (listed x xs)) (tokens_at (end_at place (listed x xs)) (mark (codes ")") kinds.RightParen ∷ []))
        ∙ ap (λ ls. ls ++ marked kinds.RightParen ∷ []) said.spelled
