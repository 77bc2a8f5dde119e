-- A query that is written with tokens of one line, written with the same tokens at other places of another.
use Rattle.std.proofs.Common.{◌≡◌, ℕ, Bool, true, false, List, [], ◌∷◌, ◌++◌, map, refl, sym, ap, ◌∙◌, subst}
use Rattle.std.specs.Prelude.{◌≤◌, ◌^◌, if◌then◌else◌}
use Rattle.std.specs.List.{AllByRecursion}
use Rattle.std.proofs.lemmas.List.{map-append}
use Rattle.rs_measure.specs.FixedPoint.{number_of_digits}
use Rattle.rs_measure.specs.Measure.{SaysMeasure}
use Rattle.rs_measure.specs.Part.{SaysPart}
use Rattle.rs_methods.specs.Position.{beyond, before}
use Rattle.rs_value.specs.Row.{Datum, null, number, text}
use Rattle.rs_grammar.specs.declared.kind.TokenKind.{TokenKind}
use Rattle.rs_grammar.specs.declared.kind.TokenKind.TheVariants as kinds
use Rattle.rs_lexer.specs.declared.token.Token.{Token}
use Rattle.rs_lexer.specs.Lexis.{token_text}
use Rattle.rs_syntax.specs.declared.written.WrittenValue.TheVariants as written_values
use Rattle.rs_syntax.specs.declared.written.WrittenPosition.{WrittenPosition}
use Rattle.rs_syntax.specs.declared.written.WrittenPosition.TheVariants as written_positions
use Rattle.rs_syntax.specs.declared.written.WrittenWindow.{WrittenWindow}
use Rattle.rs_syntax.specs.declared.written.WrittenWindow.TheVariants as written_windows
use Rattle.rs_syntax.specs.declared.written.WrittenOperand.{WrittenOperand}
use Rattle.rs_syntax.specs.declared.written.WrittenOperand.TheVariants as written_operands
use Rattle.rs_syntax.specs.Tree.{part_of_route, whole_route, column_named, compare, is_null, is_not_null, named, dissolved, renamed, transformed}
use Rattle.rs_syntax.specs.WrittenParts.{Lexeme, mark, told, has_text, lexeme_of, lexemes_of, position_lexemes, name_lexemes, further_lexemes, list_lexemes, unquoted, signed, SaysDatum, SaysPosition}
use Rattle.rs_syntax.specs.WrittenQueries.{AtomSyntax, written_comparison, written_null, written_not_null, written_negation, written_bracket, ConjunctionSyntax, last_atom, and_then, ConditionSyntax, last_conjunction, or_else, QuerySyntax, written_name, written_where, written_dissolve, written_rename, written_pair, written_window, written_transform, written_gaps, window_lexemes, comparison_kind, operand_lexemes, atom_lexemes, conjunction_lexemes, condition_lexemes, bracketed_names_lexemes, pair_kind, operator_lexemes, query_lexemes, SaysWindow, SaysOperand, SaysAtom, SaysConjunction, SaysCondition, SaysQuery}
use Rattle.rs_syntax_laws.proofs.MovedTexts.{moved, HasSameText}

module _ (line other : List ℕ) (move : ℕ → ℕ) where
  abbrev pub moved_lexeme : Lexeme → Lexeme
  moved_lexeme (mark kind) = mark kind
  moved_lexeme (told kind token) = told kind (moved move token)

  abbrev pub moved_lexemes : List Lexeme → List Lexeme
  moved_lexemes lexemes = map moved_lexeme lexemes

  -- the tokens that are told have the same bytes in the other line
  abbrev pub AreKept : List Lexeme → Type 0
  AreKept [] = Unit {0}
  AreKept (mark kind ∷ lexemes) = AreKept lexemes
  AreKept (told kind token ∷ lexemes) = HasSameText line other move token × AreKept lexemes

  kept_parts : (xs ys : List Lexeme) → AreKept (xs ++ ys) → AreKept xs × AreKept ys
  kept_parts [] ys kept = (tt, kept)
  kept_parts (mark kind ∷ xs) ys kept = kept_parts xs ys kept
  kept_parts (told kind token ∷ xs) ys kept = let p = kept_parts xs ys kept.1 in ((kept.0, p.0), p.1)

  lexeme_moved : (token : Token) → lexeme_of (moved move token) ≡ moved_lexeme (lexeme_of token)
  lexeme_moved token =
      elim (has_text token.kind) as (λ b. (if b then told token.kind (moved move token) else mark token.kind) ≡ moved_lexeme (if b then told token.kind token else mark token.kind))
      [ true ↦ refl | false ↦ refl ]

  pub lexemes_moved : (tokens : List Token) → lexemes_of (map (moved move) tokens) ≡ moved_lexemes (lexemes_of tokens)
  lexemes_moved [] = refl
  lexemes_moved (token ∷ tokens) =
      ap (λ x. x ∷ lexemes_of (map (moved move) tokens)) (lexeme_moved token) ∙ ap (λ xs. moved_lexeme (lexeme_of token) ∷ xs) (lexemes_moved tokens)

  pub kept_of : (tokens : List Token) → AllByRecursion (HasSameText line other move) tokens → AreKept (lexemes_of tokens)
  kept_of [] all = tt
  kept_of (token ∷ tokens) all =
      let others = kept_of tokens all.1 in
      elim (has_text token.kind) as (λ b. AreKept ((if b then told token.kind token else mark token.kind) ∷ lexemes_of tokens)) [ true ↦ (all.0, others) | false ↦ others ]

  -- a part in the other line: it is spelled by the moved tokens, and says the same
  abbrev pub Moved : {W T : Type 0} → (W → List Lexeme) → (List ℕ → W → T → Type 0) → W → Type 0
  Moved {W} {T} lexemes Says w = (v : W) × (lexemes v ≡ moved_lexemes (lexemes w)) × ((tree : T) → Says line w tree → Says other v tree)

  joined : (xs ys vs ws : List Lexeme) → vs ≡ moved_lexemes xs → ws ≡ moved_lexemes ys → vs ++ ws ≡ moved_lexemes (xs ++ ys)
  joined xs ys vs ws p q = ap (λ zs. zs ++ ws) p ∙ ap (λ zs. moved_lexemes xs ++ zs) q ∙ sym (map-append moved_lexeme xs ys)

  with_mark : (kind : TokenKind) (xs vs : List Lexeme) → vs ≡ moved_lexemes xs → mark kind ∷ vs ≡ moved_lexemes (mark kind ∷ xs)
  with_mark kind xs vs p = ap (λ zs. mark kind ∷ zs) p

  position_moved : (w : WrittenPosition) → AreKept (position_lexemes w) → Moved position_lexemes SaysPosition w
  position_moved (written_positions.Measure token) kept =
      (written_positions.Measure (moved move token), refl, λ tree says. (says.0, subst (λ bytes. SaysMeasure bytes says.0) (sym kept.0) says.1, says.2))
  position_moved (written_positions.Percentage token) kept =
      (written_positions.Percentage (moved move token), refl, λ tree says. (says.0, subst (λ bytes. SaysPart bytes says.0) (sym kept.0) says.1, says.2))
  position_moved (written_positions.Referent name) kept =
      (written_positions.Referent (moved move name), refl, λ tree says. says ∙ ap (λ bytes. beyond bytes 0) (sym kept.0))
  position_moved (written_positions.Beyond name token) kept = (
    written_positions.Beyond (moved move name) (moved move token),
    refl,
    λ tree says. (says.0, subst (λ bytes. SaysMeasure bytes says.0) (sym kept.1.0) says.1, says.2 ∙ ap (λ bytes. beyond bytes says.0) (sym kept.0)),
  )
  position_moved (written_positions.Before name token) kept = (
    written_positions.Before (moved move name) (moved move token),
    refl,
    λ tree says. (says.0, subst (λ bytes. SaysMeasure bytes says.0) (sym kept.1.0) says.1, says.2 ∙ ap (λ bytes. before bytes says.0) (sym kept.0)),
  )

  window_moved : (w : WrittenWindow) → AreKept (window_lexemes w) → Moved window_lexemes SaysWindow w
  window_moved (written_windows.Whole route) kept = (written_windows.Whole (moved move route), refl, λ tree says. says ∙ ap whole_route (sym kept.0))
  window_moved (written_windows.Part route from to) kept =
      let k = kept_parts (position_lexemes from) (mark kinds.To ∷ position_lexemes to) kept.1 in
      let f = position_moved from k.0 in
      let t = position_moved to k.1 in (
        written_windows.Part (moved move route) f.0 t.0,
        ap (λ zs. told kinds.Name (moved move route) ∷ mark kinds.From ∷ zs)
            (joined (position_lexemes from) (mark kinds.To ∷ position_lexemes to) (position_lexemes f.0) (mark kinds.To ∷ position_lexemes t.0) f.1 (with_mark kinds.To (position_lexemes to) (position_lexemes t.0) t.1)),
        λ tree says. (says.0, says.1, f.2 says.0 says.2, t.2 says.1 says.3, says.4 ∙ ap (λ bytes. part_of_route bytes says.0 says.1) (sym kept.0)),
      )

  whole_moved : (is_negative : Bool) (digits : Token) → HasSameText line other move digits → (datum : Datum) → SaysDatum line (written_values.Whole is_negative digits) datum → SaysDatum other (written_values.Whole is_negative (moved move digits)) datum
  whole_moved is_negative digits kept null says = absurd says
  whole_moved is_negative digits kept (text bytes) says = absurd says
  whole_moved is_negative digits kept (number n) says = subst (λ bytes. (number_of_digits bytes ≤ 10 ^ 12) × (n ≡ signed is_negative (number_of_digits bytes))) (sym kept) says

  quoted_moved : (quoted : Token) → HasSameText line other move quoted → (datum : Datum) → SaysDatum line (written_values.Quoted quoted) datum → SaysDatum other (written_values.Quoted (moved move quoted)) datum
  quoted_moved quoted kept null says = absurd says
  quoted_moved quoted kept (number n) says = absurd says
  quoted_moved quoted kept (text bytes) says = says ∙ ap unquoted (sym kept)

  operand_moved : (w : WrittenOperand) → AreKept (operand_lexemes w) → Moved operand_lexemes SaysOperand w
  operand_moved (written_operands.Column name) kept = (written_operands.Column (moved move name), refl, λ tree says. says ∙ ap column_named (sym kept.0))
  operand_moved (written_operands.Whole true digits) kept =
      (written_operands.Whole true (moved move digits), refl, λ tree says. (says.0, whole_moved true digits kept.0 says.0 says.1, says.2))
  operand_moved (written_operands.Whole false digits) kept =
      (written_operands.Whole false (moved move digits), refl, λ tree says. (says.0, whole_moved false digits kept.0 says.0 says.1, says.2))
  operand_moved (written_operands.Quoted quoted) kept =
      (written_operands.Quoted (moved move quoted), refl, λ tree says. (says.0, quoted_moved quoted kept.0 says.0 says.1, says.2))

  mutual
    atom_moved : (w : AtomSyntax) → AreKept (atom_lexemes w) → Moved atom_lexemes SaysAtom w
    atom_moved (written_comparison name comparison operand) kept =
        let o = operand_moved operand kept.1 in (
          written_comparison (moved move name) comparison o.0,
          ap (λ zs. told kinds.Name (moved move name) ∷ mark (comparison_kind comparison) ∷ zs) o.1,
          λ tree says. (says.0, o.2 says.0 says.1, says.2 ∙ ap (λ bytes. compare bytes comparison says.0) (sym kept.0)),
        )
    atom_moved (written_null name) kept = (written_null (moved move name), refl, λ tree says. says ∙ ap is_null (sym kept.0))
    atom_moved (written_not_null name) kept = (written_not_null (moved move name), refl, λ tree says. says ∙ ap is_not_null (sym kept.0))
    atom_moved (written_negation condition) kept =
        let end = mark kinds.RightParen ∷ [] in
        let c = condition_moved condition (kept_parts (condition_lexemes condition) end kept).0 in (
          written_negation c.0,
          ap (λ zs. mark kinds.Not ∷ mark kinds.LeftParen ∷ zs) (joined (condition_lexemes condition) end (condition_lexemes c.0) end c.1 refl),
          λ tree says. (says.0, c.2 says.0 says.1, says.2),
        )
    atom_moved (written_bracket condition) kept =
        let end = mark kinds.RightParen ∷ [] in
        let c = condition_moved condition (kept_parts (condition_lexemes condition) end kept).0 in (
          written_bracket c.0,
          ap (λ zs. mark kinds.LeftParen ∷ zs) (joined (condition_lexemes condition) end (condition_lexemes c.0) end c.1 refl),
          λ tree says. (says.0, c.2 says.0 says.1, says.2),
        )

    conjunction_moved : (w : ConjunctionSyntax) → AreKept (conjunction_lexemes w) → Moved conjunction_lexemes SaysConjunction w
    conjunction_moved (last_atom atom) kept = let a = atom_moved atom kept in (last_atom a.0, a.1, a.2)
    conjunction_moved (and_then atom others) kept =
        let k = kept_parts (atom_lexemes atom) (mark kinds.And ∷ conjunction_lexemes others) kept in
        let a = atom_moved atom k.0 in
        let o = conjunction_moved others k.1 in (
          and_then a.0 o.0,
          joined (atom_lexemes atom) (mark kinds.And ∷ conjunction_lexemes others) (atom_lexemes a.0) (mark kinds.And ∷ conjunction_lexemes o.0) a.1 (with_mark kinds.And (conjunction_lexemes others) (conjunction_lexemes o.0) o.1),
          λ tree says. (says.0, says.1, a.2 says.0 says.2, o.2 says.1 says.3, says.4),
        )

    condition_moved : (w : ConditionSyntax) → AreKept (condition_lexemes w) → Moved condition_lexemes SaysCondition w
    condition_moved (last_conjunction conjunction) kept = let c = conjunction_moved conjunction kept in (last_conjunction c.0, c.1, c.2)
    condition_moved (or_else conjunction others) kept =
        let k = kept_parts (conjunction_lexemes conjunction) (mark kinds.Or ∷ condition_lexemes others) kept in
        let c = conjunction_moved conjunction k.0 in
        let o = condition_moved others k.1 in (
          or_else c.0 o.0,
          joined (conjunction_lexemes conjunction) (mark kinds.Or ∷ condition_lexemes others) (conjunction_lexemes c.0) (mark kinds.Or ∷ condition_lexemes o.0) c.1 (with_mark kinds.Or (condition_lexemes others) (condition_lexemes o.0) o.1),
          λ tree says. (says.0, says.1, c.2 says.0 says.2, o.2 says.1 says.3, says.4),
        )

  -- names with commas
  further_spelled : (names : List Token) → further_lexemes kinds.Comma name_lexemes (map (moved move) names) ≡ moved_lexemes (further_lexemes kinds.Comma name_lexemes names)
  further_spelled [] = refl
  further_spelled (name ∷ names) = ap (λ zs. mark kinds.Comma ∷ told kinds.Name (moved move name) ∷ zs) (further_spelled names)

  names_spelled : (names : List Token) → list_lexemes kinds.Comma name_lexemes (map (moved move) names) ≡ moved_lexemes (list_lexemes kinds.Comma name_lexemes names)
  names_spelled [] = refl
  names_spelled (name ∷ names) = ap (λ zs. told kinds.Name (moved move name) ∷ zs) (further_spelled names)

  abbrev SameTexts : List Token → Type 0
  SameTexts names = map (token_text line) names ≡ map (token_text other) (map (moved move) names)

  one_more : (name : Token) (names : List Token) → HasSameText line other move name → SameTexts names → SameTexts (name ∷ names)
  one_more name names p q = ap (λ bytes. bytes ∷ map (token_text line) names) (sym p) ∙ ap (λ texts. token_text other (moved move name) ∷ texts) q

  further_told : (names : List Token) → AreKept (further_lexemes kinds.Comma name_lexemes names) → SameTexts names
  further_told [] kept = refl
  further_told (name ∷ names) kept = one_more name names kept.0 (further_told names kept.1)

  names_told : (names : List Token) → AreKept (list_lexemes kinds.Comma name_lexemes names) → SameTexts names
  names_told [] kept = refl
  names_told (name ∷ names) kept = one_more name names kept.0 (further_told names kept.1)

  -- a query in brackets, and what is after it in them
  operator_kept : (kind : TokenKind) (query others : List Lexeme) → AreKept (operator_lexemes kind query others) → AreKept query × AreKept others
  operator_kept kind query others kept =
      let k = kept_parts query (mark kinds.Comma ∷ (others ++ mark kinds.RightParen ∷ [])) kept in
      (k.0, (kept_parts others (mark kinds.RightParen ∷ []) k.1).0)

  operator_spelled : (kind : TokenKind) (query others q o : List Lexeme) → q ≡ moved_lexemes query → o ≡ moved_lexemes others → operator_lexemes kind q o ≡ moved_lexemes (operator_lexemes kind query others)
  operator_spelled kind query others q o p r =
      let end = mark kinds.RightParen ∷ [] in
      ap (λ zs. mark kind ∷ mark kinds.LeftParen ∷ zs)
      (joined query (mark kinds.Comma ∷ (others ++ end)) q (mark kinds.Comma ∷ (o ++ end)) p (with_mark kinds.Comma (others ++ end) (o ++ end) (joined others end o end r refl)))

  pub query_moved : (w : QuerySyntax) → AreKept (query_lexemes w) → Moved query_lexemes SaysQuery w
  query_moved (written_name name) kept = (written_name (moved move name), refl, λ tree says. says ∙ ap named (sym kept.0))
  query_moved (written_where query condition) kept =
      let k = operator_kept kinds.Where (query_lexemes query) (condition_lexemes condition) kept in
      let q = query_moved query k.0 in
      let c = condition_moved condition k.1 in (
        written_where q.0 c.0,
        operator_spelled kinds.Where (query_lexemes query) (condition_lexemes condition) (query_lexemes q.0) (condition_lexemes c.0) q.1 c.1,
        λ tree says. (says.0, says.1, q.2 says.0 says.2, c.2 says.1 says.3, says.4),
      )
  query_moved (written_dissolve query names) kept =
      let brackets = bracketed_names_lexemes names in
      let k = operator_kept kinds.Dissolve (query_lexemes query) brackets kept in
      let end = mark kinds.RightParen ∷ [] in
      let list = list_lexemes kinds.Comma name_lexemes names in
      let list_moved = list_lexemes kinds.Comma name_lexemes (map (moved move) names) in
      let q = query_moved query k.0 in
      let spelled : bracketed_names_lexemes (map (moved move) names) ≡ moved_lexemes brackets = with_mark kinds.LeftParen (list ++ end) (list_moved ++ end) (joined list end list_moved end (names_spelled names) refl) in (
        written_dissolve q.0 (map (moved move) names),
        operator_spelled kinds.Dissolve (query_lexemes query) brackets (query_lexemes q.0) (bracketed_names_lexemes (map (moved move) names)) q.1 spelled,
        λ tree says. (says.0, q.2 says.0 says.1, says.2 ∙ ap (dissolved says.0) (names_told names (kept_parts list end k.1).0)),
      )
  query_moved (written_rename query from to) kept =
      let names = told kinds.Name from ∷ mark kinds.To ∷ told kinds.Name to ∷ [] in
      let k = operator_kept kinds.Rename (query_lexemes query) names kept in
      let q = query_moved query k.0 in (
        written_rename q.0 (moved move from) (moved move to),
        operator_spelled kinds.Rename (query_lexemes query) names (query_lexemes q.0) (moved_lexemes names) q.1 refl,
        λ tree says. (
          says.0,
          q.2 says.0 says.1,
          says.2 ∙ ap (λ bytes. renamed says.0 bytes (token_text line to)) (sym k.1.0) ∙ ap (renamed says.0 (token_text other (moved move from))) (sym k.1.1.0),
        ),
      )
  query_moved (written_pair operator left right) kept =
      let k = operator_kept (pair_kind operator) (query_lexemes left) (query_lexemes right) kept in
      let l = query_moved left k.0 in
      let r = query_moved right k.1 in (
        written_pair operator l.0 r.0,
        operator_spelled (pair_kind operator) (query_lexemes left) (query_lexemes right) (query_lexemes l.0) (query_lexemes r.0) l.1 r.1,
        λ tree says. (says.0, says.1, l.2 says.0 says.2, r.2 says.1 says.3, says.4),
      )
  query_moved (written_window query window) kept =
      let k = operator_kept kinds.Window (query_lexemes query) (window_lexemes window) kept in
      let q = query_moved query k.0 in
      let w = window_moved window k.1 in (
        written_window q.0 w.0,
        operator_spelled kinds.Window (query_lexemes query) (window_lexemes window) (query_lexemes q.0) (window_lexemes w.0) q.1 w.1,
        λ tree says. (says.0, says.1, q.2 says.0 says.2, w.2 says.1 says.3, says.4),
      )
  query_moved (written_transform query alignment) kept =
      let k = operator_kept kinds.Transform (query_lexemes query) (name_lexemes alignment) kept in
      let q = query_moved query k.0 in (
        written_transform q.0 (moved move alignment),
        operator_spelled kinds.Transform (query_lexemes query) (name_lexemes alignment) (query_lexemes q.0) (name_lexemes (moved move alignment)) q.1 refl,
        λ tree says. (says.0, q.2 says.0 says.1, says.2 ∙ ap (transformed says.0) (sym k.1.0)),
      )
  query_moved (written_gaps query) kept =
      let end = mark kinds.RightParen ∷ [] in
      let q = query_moved query (kept_parts (query_lexemes query) end kept).0 in (
        written_gaps q.0,
        ap (λ zs. mark kinds.Gaps ∷ mark kinds.LeftParen ∷ zs) (joined (query_lexemes query) end (query_lexemes q.0) end q.1 refl),
        λ tree says. (says.0, q.2 says.0 says.1, says.2),
      )
