-- The text that is put for a position says it wherever it stands in a line.
use Rattle.std.proofs.Common.{◌≡◌, ◌∙◌, ℕ, ◌+◌, Bool, true, List, [], ◌∷◌, ◌++◌, length, drop, map, Some, refl, sym, ap, subst, append_assoc, length-append, arith}
use Rattle.std.specs.Prelude.{codes}
use Rattle.rs_grammar.specs.declared.kind.TokenKind.{TokenKind}
use Rattle.rs_grammar.specs.declared.kind.TokenKind.TheVariants as kinds
use Rattle.rs_grammar.specs.Grammar as grammar
use Rattle.rs_grammar.specs.Grammar.{rules, Derives, nothing, this, that, part, is_shallow}
use Rattle.rs_lexer.specs.declared.token.Token.{Token}
use Rattle.rs_lexer.specs.Lexis.{kinds_of, token_kind, token_text, IsTokenOf, AreTokensFrom}
use Rattle.rs_lexer.proofs.CutLaws.{cut_inside}
use Rattle.rs_measure.specs.Measure.{IsMeasure, SaysMeasure, measure_text}
use Rattle.rs_measure.proofs.MeasureText.{says_measure_text}
use Rattle.rs_measure.specs.Part.{SaysPart}
use Rattle.rs_methods.specs.Position.{PositionExpression, absolute, beyond, before, expression_text, relative_of}
use Rattle.rs_methods.specs.declared.position.Sign.{Sign}
use Rattle.rs_methods.specs.declared.position.Sign.TheVariants.{Plus, Minus}
use Rattle.rs_syntax.specs.declared.written.WrittenPosition.{WrittenPosition}
use Rattle.rs_syntax.specs.declared.written.WrittenPosition.TheVariants as written_positions
use Rattle.rs_syntax.specs.Written.{mark, told, has_text, lexemes_of, position_lexemes, AreToldOf, SaysPosition}
use Rattle.rs_syntax.proofs.VerdictLaws.{told_of}
use Rattle.rs_csv_lines.specs.Fields.{SpellsPosition, WritesBeside}
use Rattle.rs_csv_lines.specs.Texts.{position_text}
use Rattle.rs_csv_lines.proofs.Cuts.{Stops, Ends, stops, token_here, text_here, after_here, cut_here, at_sign_kind, at_sign_stops, plus_kind, plus_stops, minus_kind, minus_stops, percent_kind, percent_stops, plus, minus, percent}
use Rattle.rs_csv_lines.proofs.Lexemes.{lexeme_kind, kinds_spelled, have_texts, told_piece, flat, flat_told}
use Rattle.rs_csv_lines.proofs.NumberTexts.{printed_measure}
use Rattle.rs_csv_lines.proofs.Readings.{before_others}
use Rattle.rs_csv_lines.proofs.Spelled.{referent_name}

-- The tokens of a line from one place up to another are a position: however the line is cut from there on, its cut has
-- them before.
pub record PositionStands (line : List ℕ) (first last : ℕ) (position : PositionExpression) : Type 0 where
  pub tokens : List Token
  pub cut : (rest : List Token) → AreTokensFrom line last rest → AreTokensFrom line first (tokens ++ rest)
  pub derived : (others : List TokenKind) → Derives (rules grammar.position) (kinds_of tokens ++ others) others
  pub shallow : (others : List TokenKind) → is_shallow 0 others ≡ true → is_shallow 0 (kinds_of tokens ++ others) ≡ true
  pub written : WrittenPosition
  pub spelled : lexemes_of tokens ≡ position_lexemes written
  pub says : SaysPosition line written position

-- the tokens of the field that are told
pub told_in : (field : List ℕ) (written : WrittenPosition) (position : PositionExpression) → SpellsPosition field written position → AreToldOf field (position_lexemes written)
told_in field written position spells = subst (AreToldOf field) spells.spelled (told_of field spells.tokens (cut_inside field spells.cut))

-- a text that is a referent is one of its name
pub referent_token : (text : List ℕ) (written : WrittenPosition) (referent : Token) (position : PositionExpression) → SpellsPosition text written position → written ≡ written_positions.Referent referent
    → IsTokenOf text referent × (referent.kind ≡ kinds.Name)
referent_token text written referent position spells is =
    (told_in text (written_positions.Referent referent) position (subst (λ w. SpellsPosition text w position) is spells)).1.0

pub spells_referent : (text name : List ℕ) (written : WrittenPosition) (referent : Token) (position : PositionExpression) → SpellsPosition text written position → written ≡ written_positions.Referent referent
    → name ≡ token_text text referent → SpellsPosition text (written_positions.Referent referent) (beyond name 0)
spells_referent text name written referent position spells is named =
    let whole = subst (λ w. SpellsPosition text w position) is spells in
    subst (SpellsPosition text (written_positions.Referent referent)) (whole.says ∙ ap (λ n. beyond n 0) (sym named)) whole

-- the name of the referent that a field begins with is one token
pub beside_named : (rounds : Bool) (field name : List ℕ) (sign : Sign) (n : ℕ) → WritesBeside rounds field name sign n → token_kind name ≡ Some kinds.Name
beside_named rounds field name sign n writes =
    let told_name = (told_in writes.front (written_positions.Referent writes.referent) (beyond name 0) writes.named).1.0 in
    ap token_kind (referent_name writes.front name writes.referent writes.named) ∙ told_name.0.kind ∙ ap (λ k. Some k) told_name.1

-- the printed text of a measure says it
module _ (line : List ℕ) (place : ℕ) (rest : List ℕ) (ends : Ends rest) where
  pub measure_text_stands : (n : ℕ) → IsMeasure n → drop place line ≡ measure_text n ++ rest → PositionStands line place (place + length (measure_text n)) (absolute n)
  unfolding rules
  measure_text_stands n few at =
      let is = printed_measure n few in
      let here = token_here place (measure_text n) kinds.Decimal in
      record {
        tokens = here ∷ [];
        cut = λ tokens cut. cut_here line place (measure_text n) rest kinds.Decimal at is (stops (measure_text n) rest kinds.Decimal is ends) tokens cut;
        derived = λ others. that (part (that (this nothing)) (that nothing));
        shallow = λ others shallow. flat kinds.Decimal 0 others refl (omega arith) shallow;
        written = written_positions.Measure here;
        spelled = refl;
        says = (n, subst (λ t. SaysMeasure t n) (sym (text_here line place (measure_text n) rest kinds.Decimal at)) (says_measure_text n few), refl);
      }

-- ---- `@`, a name, a sign and a measure

abbrev name_token : ℕ → List ℕ → Token
name_token place name = token_here (place + 1) name kinds.Name

abbrev sign_token : ℕ → ℕ → TokenKind → List ℕ → Token
sign_token place sign sign_kind name = token_here (place + 1 + length name) (sign ∷ []) sign_kind

abbrev measure_token : ℕ → List ℕ → List ℕ → TokenKind → Token
measure_token place name number kind = token_here (place + 1 + length name + 1) number kind

abbrev signed_tokens : ℕ → ℕ → TokenKind → List ℕ → List ℕ → TokenKind → List Token
signed_tokens place sign sign_kind name number kind =
    token_here place (codes "@") kinds.AtSign ∷ name_token place name ∷ sign_token place sign sign_kind name ∷ measure_token place name number kind ∷ []

signed_shallow : (sign_kind kind : TokenKind) (others : List TokenKind) → ((more : List TokenKind) → is_shallow 0 more ≡ true → is_shallow 0 (sign_kind ∷ more) ≡ true)
    → has_text kind ≡ true → is_shallow 0 others ≡ true → is_shallow 0 (kinds.AtSign ∷ kinds.Name ∷ sign_kind ∷ kind ∷ others) ≡ true
signed_shallow sign_kind kind others signs has shallow =
    flat kinds.AtSign 0 (kinds.Name ∷ sign_kind ∷ kind ∷ others) refl (omega arith)
    (flat kinds.Name 0 (sign_kind ∷ kind ∷ others) refl (omega arith)
    (signs (kind ∷ others) (flat_told kind 0 others has (omega arith) shallow)))

module _ (line : List ℕ) (place : ℕ) (rest : List ℕ) (ends : Ends rest) where
  record SignedStands (sign : ℕ) (sign_kind : TokenKind) (name number : List ℕ) (kind : TokenKind) : Type 0 where
    cut : (tokens : List Token) → AreTokensFrom line (place + length (codes "@" ++ name ++ (sign ∷ []) ++ number)) tokens → AreTokensFrom line place (signed_tokens place sign sign_kind name number kind ++ tokens)
    named : token_text line (name_token place name) ≡ name
    measured : token_text line (measure_token place name number kind) ≡ number

  signed_stands : (sign : ℕ) (sign_kind : TokenKind) (name number : List ℕ) (kind : TokenKind) → token_kind name ≡ Some kinds.Name → token_kind number ≡ Some kind
      → token_kind (sign ∷ []) ≡ Some sign_kind → ((more : List ℕ) → Stops (sign ∷ []) more) → Ends (sign ∷ [])
      → drop place line ≡ (codes "@" ++ name ++ (sign ∷ []) ++ number) ++ rest → SignedStands sign sign_kind name number kind
  signed_stands sign sign_kind name number kind named is sign_is sign_stops separates at =
      let whole : drop place line ≡ codes "@" ++ (name ++ (sign ∷ (number ++ rest))) =
      at ∙ append_assoc (codes "@" ++ name ++ (sign ∷ [])) number rest ∙ append_assoc (codes "@" ++ name) (sign ∷ []) (number ++ rest) in
      let second : drop (place + 1) line ≡ name ++ (sign ∷ (number ++ rest)) = after_here line place (codes "@") (name ++ (sign ∷ (number ++ rest))) whole in
      let third : drop (place + 1 + length name) line ≡ (sign ∷ []) ++ (number ++ rest) = after_here line (place + 1) name (sign ∷ (number ++ rest)) second in
      let fourth : drop (place + 1 + length name + 1) line ≡ number ++ rest = after_here line (place + 1 + length name) (sign ∷ []) (number ++ rest) third in
      let bytes = codes "@" ++ name ++ (sign ∷ []) ++ number in
      let end : place + 1 + length name + 1 + length number ≡ place + length bytes =
      omega (arith, length-append (codes "@" ++ name ++ (sign ∷ [])) number, length-append (codes "@" ++ name) (sign ∷ [])) in
      record {
        cut = λ tokens cut.
            cut_here line place (codes "@") (name ++ (sign ∷ (number ++ rest))) kinds.AtSign whole at_sign_kind (at_sign_stops (name ++ (sign ∷ (number ++ rest)))) _
            (cut_here line (place + 1) name (sign ∷ (number ++ rest)) kinds.Name second named (stops name (sign ∷ (number ++ rest)) kinds.Name named separates) _
            (cut_here line (place + 1 + length name) (sign ∷ []) (number ++ rest) sign_kind third sign_is (sign_stops (number ++ rest)) _
            (cut_here line (place + 1 + length name + 1) number rest kind fourth is (stops number rest kind is ends) tokens
            (subst (λ n. AreTokensFrom line n tokens) (sym end) cut))));
        named = text_here line (place + 1) name (sign ∷ (number ++ rest)) kinds.Name second;
        measured = text_here line (place + 1 + length name + 1) number rest kind fourth;
      }

  -- the printed text of a measure beyond a referent or before it says it
  pub beside_text_stands : (name : List ℕ) (sign : Sign) (n : ℕ) → token_kind name ≡ Some kinds.Name → IsMeasure n → drop place line ≡ expression_text (relative_of name sign n) ++ rest
      → PositionStands line place (place + length (expression_text (relative_of name sign n))) (relative_of name sign n)
  unfolding rules
  beside_text_stands name Plus n named few at =
      let number = measure_text n in
      let parts = signed_stands 43 kinds.PlusSign name number kinds.Decimal named (printed_measure n few) plus_kind plus_stops plus at in
      record {
        tokens = signed_tokens place 43 kinds.PlusSign name number kinds.Decimal;
        cut = parts.cut;
        derived = λ others. this (this (this (part (that (this nothing)) nothing)));
        shallow = λ others shallow. signed_shallow kinds.PlusSign kinds.Decimal others (λ more s. flat kinds.PlusSign 0 more refl (omega arith) s) refl shallow;
        written = written_positions.Beyond (name_token place name) (measure_token place name number kinds.Decimal);
        spelled = refl;
        says = (n, subst (λ t. SaysMeasure t n) (sym parts.measured) (says_measure_text n few), ap (λ t. beyond t n) (sym parts.named));
      }
  beside_text_stands name Minus n named few at =
      let number = measure_text n in
      let parts = signed_stands 45 kinds.MinusSign name number kinds.Decimal named (printed_measure n few) minus_kind minus_stops minus at in
      record {
        tokens = signed_tokens place 45 kinds.MinusSign name number kinds.Decimal;
        cut = parts.cut;
        derived = λ others. this (this (that (this (part (that (this nothing)) nothing))));
        shallow = λ others shallow. signed_shallow kinds.MinusSign kinds.Decimal others (λ more s. flat kinds.MinusSign 0 more refl (omega arith) s) refl shallow;
        written = written_positions.Before (name_token place name) (measure_token place name number kinds.Decimal);
        spelled = refl;
        says = (n, subst (λ t. SaysMeasure t n) (sym parts.measured) (says_measure_text n few), ap (λ t. before t n) (sym parts.named));
      }

module _ (line : List ℕ) (place : ℕ) (field rest : List ℕ) (ends : Ends rest) where
  -- the kinds in the field, and so in the line
  derived_as : (written : WrittenPosition) (position : PositionExpression) (ks : List TokenKind) → SpellsPosition field written position → map lexeme_kind (position_lexemes written) ≡ ks
      → (others : List TokenKind) → Derives (rules grammar.position) (ks ++ others) others
  derived_as written position ks spells same others =
      subst (λ ts. Derives (rules grammar.position) (ts ++ others) others) (kinds_spelled spells.tokens (position_lexemes written) spells.spelled ∙ same) (before_others spells.derived others)

  measure_stands : (token : Token) (position : PositionExpression) → SpellsPosition field (written_positions.Measure token) position → drop place line ≡ token_text field token ++ rest
      → PositionStands line place (place + length (token_text field token)) position
  measure_stands token position spells at =
      let text = token_text field token in
      let is : IsTokenOf field token = (told_in field (written_positions.Measure token) position spells).0.0 in
      let here = token_here place text token.kind in
      let has : has_text token.kind ≡ true = (have_texts spells.tokens (position_lexemes (written_positions.Measure token)) spells.spelled).0 in
      let same = text_here line place text rest token.kind at in
      let says = spells.says in
      record {
        tokens = here ∷ [];
        cut = λ tokens cut. cut_here line place text rest token.kind at is.kind (stops text rest token.kind is.kind ends) tokens cut;
        derived = derived_as (written_positions.Measure token) position (token.kind ∷ []) spells refl;
        shallow = λ others shallow. flat_told token.kind 0 others has (omega arith) shallow;
        written = written_positions.Measure here;
        spelled = ap (λ lexeme. lexeme ∷ []) (told_piece here has);
        says = (says.0, subst (λ t. SaysMeasure t says.0) (sym same) says.1, says.2);
      }

  percentage_stands : (token : Token) (position : PositionExpression) → SpellsPosition field (written_positions.Percentage token) position → drop place line ≡ (token_text field token ++ codes "%") ++ rest
      → PositionStands line place (place + length (token_text field token ++ codes "%")) position
  percentage_stands token position spells at =
      let text = token_text field token in
      let is : IsTokenOf field token = (told_in field (written_positions.Percentage token) position spells).0.0 in
      let here = token_here place text token.kind in
      let has : has_text token.kind ≡ true = (have_texts spells.tokens (position_lexemes (written_positions.Percentage token)) spells.spelled).0 in
      let first : drop place line ≡ text ++ (37 ∷ rest) = at ∙ append_assoc text (codes "%") rest in
      let second : drop (place + length text) line ≡ codes "%" ++ rest = after_here line place text (37 ∷ rest) first in
      let end : place + length text + 1 ≡ place + length (text ++ codes "%") = omega (arith, length-append text (codes "%")) in
      let same = text_here line place text (37 ∷ rest) token.kind first in
      let says = spells.says in
      record {
        tokens = here ∷ token_here (place + length text) (codes "%") kinds.PercentSign ∷ [];
        cut = λ tokens cut. cut_here line place text (37 ∷ rest) token.kind first is.kind (stops text (37 ∷ rest) token.kind is.kind percent) _
            (cut_here line (place + length text) (codes "%") rest kinds.PercentSign second percent_kind (percent_stops rest) tokens (subst (λ n. AreTokensFrom line n tokens) (sym end) cut));
        derived = derived_as (written_positions.Percentage token) position (token.kind ∷ kinds.PercentSign ∷ []) spells refl;
        shallow = λ others shallow. flat_told token.kind 0 (kinds.PercentSign ∷ others) has (omega arith) (flat kinds.PercentSign 0 others refl (omega arith) shallow);
        written = written_positions.Percentage here;
        spelled = ap (λ lexeme. lexeme ∷ mark kinds.PercentSign ∷ []) (told_piece here has);
        says = (says.0, subst (λ t. SaysPart t says.0) (sym same) says.1, says.2);
      }

  referent_stands : (name : Token) (position : PositionExpression) → SpellsPosition field (written_positions.Referent name) position → drop place line ≡ (codes "@" ++ token_text field name) ++ rest
      → PositionStands line place (place + length (codes "@" ++ token_text field name)) position
  referent_stands name position spells at =
      let text = token_text field name in
      let told_name = (told_in field (written_positions.Referent name) position spells).1.0 in
      let is : token_kind text ≡ Some kinds.Name = told_name.0.kind ∙ ap (λ k. Some k) told_name.1 in
      let here = token_here (place + 1) text kinds.Name in
      let second : drop (place + 1) line ≡ text ++ rest = after_here line place (codes "@") (text ++ rest) at in
      let end : place + 1 + length text ≡ place + length (codes "@" ++ text) = omega arith in
      let same = text_here line (place + 1) text rest kinds.Name second in
      record {
        tokens = token_here place (codes "@") kinds.AtSign ∷ here ∷ [];
        cut = λ tokens cut. cut_here line place (codes "@") (text ++ rest) kinds.AtSign at at_sign_kind (at_sign_stops (text ++ rest)) _
            (cut_here line (place + 1) text rest kinds.Name second is (stops text rest kinds.Name is ends) tokens (subst (λ n. AreTokensFrom line n tokens) (sym end) cut));
        derived = derived_as (written_positions.Referent name) position (kinds.AtSign ∷ kinds.Name ∷ []) spells refl;
        shallow = λ others shallow. flat kinds.AtSign 0 (kinds.Name ∷ others) refl (omega arith) (flat kinds.Name 0 others refl (omega arith) shallow);
        written = written_positions.Referent here;
        spelled = refl;
        says = spells.says ∙ ap (λ n. beyond n 0) (sym same);
      }

  beyond_stands : (name measure : Token) (position : PositionExpression) → SpellsPosition field (written_positions.Beyond name measure) position
      → drop place line ≡ position_text field (written_positions.Beyond name measure) ++ rest
      → PositionStands line place (place + length (position_text field (written_positions.Beyond name measure))) position
  beyond_stands name measure position spells at =
      let told_all = told_in field (written_positions.Beyond name measure) position spells in
      let has : has_text measure.kind ≡ true = (have_texts spells.tokens (position_lexemes (written_positions.Beyond name measure)) spells.spelled).1.0 in
      let named : token_kind (token_text field name) ≡ Some kinds.Name = told_all.1.0.0.kind ∙ ap (λ k. Some k) told_all.1.0.1 in
      let parts = signed_stands line place rest ends 43 kinds.PlusSign (token_text field name) (token_text field measure) measure.kind named told_all.1.1.1.0.0.kind plus_kind plus_stops plus at in
      let name_here = name_token place (token_text field name) in
      let measure_here = measure_token place (token_text field name) (token_text field measure) measure.kind in
      let says = spells.says in
      record {
        tokens = signed_tokens place 43 kinds.PlusSign (token_text field name) (token_text field measure) measure.kind;
        cut = parts.cut;
        derived = derived_as (written_positions.Beyond name measure) position (kinds.AtSign ∷ kinds.Name ∷ kinds.PlusSign ∷ measure.kind ∷ []) spells refl;
        shallow = λ others shallow. signed_shallow kinds.PlusSign measure.kind others (λ more s. flat kinds.PlusSign 0 more refl (omega arith) s) has shallow;
        written = written_positions.Beyond name_here measure_here;
        spelled = ap (λ lexeme. mark kinds.AtSign ∷ told kinds.Name name_here ∷ mark kinds.PlusSign ∷ lexeme ∷ []) (told_piece measure_here has);
        says = (says.0, subst (λ t. SaysMeasure t says.0) (sym parts.measured) says.1, says.2 ∙ ap (λ n. beyond n says.0) (sym parts.named));
      }

  before_stands : (name measure : Token) (position : PositionExpression) → SpellsPosition field (written_positions.Before name measure) position
      → drop place line ≡ position_text field (written_positions.Before name measure) ++ rest
      → PositionStands line place (place + length (position_text field (written_positions.Before name measure))) position
  before_stands name measure position spells at =
      let told_all = told_in field (written_positions.Before name measure) position spells in
      let has : has_text measure.kind ≡ true = (have_texts spells.tokens (position_lexemes (written_positions.Before name measure)) spells.spelled).1.0 in
      let named : token_kind (token_text field name) ≡ Some kinds.Name = told_all.1.0.0.kind ∙ ap (λ k. Some k) told_all.1.0.1 in
      let parts = signed_stands line place rest ends 45 kinds.MinusSign (token_text field name) (token_text field measure) measure.kind named told_all.1.1.1.0.0.kind minus_kind minus_stops minus at in
      let name_here = name_token place (token_text field name) in
      let measure_here = measure_token place (token_text field name) (token_text field measure) measure.kind in
      let says = spells.says in
      record {
        tokens = signed_tokens place 45 kinds.MinusSign (token_text field name) (token_text field measure) measure.kind;
        cut = parts.cut;
        derived = derived_as (written_positions.Before name measure) position (kinds.AtSign ∷ kinds.Name ∷ kinds.MinusSign ∷ measure.kind ∷ []) spells refl;
        shallow = λ others shallow. signed_shallow kinds.MinusSign measure.kind others (λ more s. flat kinds.MinusSign 0 more refl (omega arith) s) has shallow;
        written = written_positions.Before name_here measure_here;
        spelled = ap (λ lexeme. mark kinds.AtSign ∷ told kinds.Name name_here ∷ mark kinds.MinusSign ∷ lexeme ∷ []) (told_piece measure_here has);
        says = (says.0, subst (λ t. SaysMeasure t says.0) (sym parts.measured) says.1, says.2 ∙ ap (λ n. before n says.0) (sym parts.named));
      }

  -- what a field says, the line says where the text stands that is put for it
  pub position_stands : (written : WrittenPosition) (position : PositionExpression) → SpellsPosition field written position → drop place line ≡ position_text field written ++ rest
      → PositionStands line place (place + length (position_text field written)) position
  position_stands (written_positions.Measure token) position spells at = measure_stands token position spells at
  position_stands (written_positions.Percentage token) position spells at = percentage_stands token position spells at
  position_stands (written_positions.Referent name) position spells at = referent_stands name position spells at
  position_stands (written_positions.Beyond name measure) position spells at = beyond_stands name measure position spells at
  position_stands (written_positions.Before name measure) position spells at = before_stands name measure position spells at
