-- Any tokens are read as a query or a condition as far as the grammar goes on with them, and what is read is spelled.
use Rattle.std.proofs.Common.{◌≡◌, ℕ, zero, suc, ◌<◌, ◌≤◌, true, false, List, [], ◌∷◌, ◌++◌, length, refl, sym, ap, ◌∙◌, append_assoc, arith}
use Rattle.rs_grammar.specs.declared.kind.TokenKind.{TokenKind}
use Rattle.rs_grammar.specs.declared.kind.TokenKind.TheVariants as kinds
use Rattle.rs_grammar.specs.Grammar as g
use Rattle.rs_grammar.specs.Grammar.{Part, Form, done, pick, sub, need, rules, literal_form, operand_query_form, where_form, dissolve_form, rename_form, pair_form, window_query_form, transform_form, gaps_form, query_form, inside_form, null_form, test_form, atom_form, comparison_form, operand_form}
use Rattle.rs_value.specs.declared.comparison.Comparison.TheVariants as comparisons
use Rattle.rs_lexer.specs.declared.token.Token.{Token}
use Rattle.rs_syntax.specs.declared.written.WrittenOperand.TheVariants as written_operands
use Rattle.rs_syntax.specs.declared.written.PairOperator.{PairOperator}
use Rattle.rs_syntax.specs.declared.written.PairOperator.TheVariants as pair_operators
use Rattle.rs_syntax.specs.WrittenParts.{Lexeme, mark, told, name_lexemes, lexemes_of}
use Rattle.rs_syntax.specs.WrittenQueries.{written_comparison, written_null, written_not_null, written_negation, written_bracket, last_atom, and_then, last_conjunction, or_else, QuerySyntax, written_name, written_where, written_dissolve, written_rename, written_pair, written_window, written_transform, written_gaps, window_lexemes, comparison_lexemes, operand_lexemes, atom_lexemes, conjunction_lexemes, condition_lexemes, bracketed_names_lexemes, pair_kind, operator_lexemes, query_lexemes}
use Rattle.rs_syntax.proofs.Descent.{Reading, Whole, read_done, read_mark, read_text, need_mark, need_text, read_part, read_alone, Closed, read_closed, read_window, read_chain, read_bracketed_names}

read_comparison : (tokens : List Token) → Reading comparison_form tokens (Whole comparison_lexemes tokens)
read_comparison tokens =
    read_mark kinds.Equal done (pick kinds.Unequal done (pick kinds.Less done (pick kinds.LessOrEqual done (pick kinds.Greater done (need kinds.GreaterOrEqual done))))) tokens (Whole comparison_lexemes tokens) refl
    (λ a la ha. read_done a (Whole comparison_lexemes tokens) (comparisons.Equal, record { spelled = ha; shorter = la }))
    (read_mark kinds.Unequal done (pick kinds.Less done (pick kinds.LessOrEqual done (pick kinds.Greater done (need kinds.GreaterOrEqual done)))) tokens (Whole comparison_lexemes tokens) refl
    (λ a la ha. read_done a (Whole comparison_lexemes tokens) (comparisons.Unequal, record { spelled = ha; shorter = la }))
    (read_mark kinds.Less done (pick kinds.LessOrEqual done (pick kinds.Greater done (need kinds.GreaterOrEqual done))) tokens (Whole comparison_lexemes tokens) refl
    (λ a la ha. read_done a (Whole comparison_lexemes tokens) (comparisons.Less, record { spelled = ha; shorter = la }))
    (read_mark kinds.LessOrEqual done (pick kinds.Greater done (need kinds.GreaterOrEqual done)) tokens (Whole comparison_lexemes tokens) refl
    (λ a la ha. read_done a (Whole comparison_lexemes tokens) (comparisons.LessOrEqual, record { spelled = ha; shorter = la }))
    (read_mark kinds.Greater done (need kinds.GreaterOrEqual done) tokens (Whole comparison_lexemes tokens) refl
    (λ a la ha. read_done a (Whole comparison_lexemes tokens) (comparisons.Greater, record { spelled = ha; shorter = la }))
    (need_mark kinds.GreaterOrEqual done tokens (Whole comparison_lexemes tokens) refl
    (λ a la ha. read_done a (Whole comparison_lexemes tokens) (comparisons.GreaterOrEqual, record { spelled = ha; shorter = la })))))))

read_operand : (tokens : List Token) → Reading operand_form tokens (Whole operand_lexemes tokens)
read_operand tokens =
    read_text kinds.Name done literal_form tokens (Whole operand_lexemes tokens) refl
    (λ name a la is ha. read_done a (Whole operand_lexemes tokens) (written_operands.Column name, record { spelled = ha; shorter = la }))
    (read_mark kinds.MinusSign (need kinds.Whole done) (pick kinds.Whole done (need kinds.Quoted done)) tokens (Whole operand_lexemes tokens) refl
    (λ a la ha. need_text kinds.Whole done a (Whole operand_lexemes tokens) refl (λ digits b lb is hb.
    read_done b (Whole operand_lexemes tokens) (written_operands.Whole true digits, record { spelled = ha ∙ ap (λ ps. mark kinds.MinusSign ∷ ps) hb; shorter = omega arith })))
    (read_text kinds.Whole done (need kinds.Quoted done) tokens (Whole operand_lexemes tokens) refl
    (λ digits a la is ha. read_done a (Whole operand_lexemes tokens) (written_operands.Whole false digits, record { spelled = ha; shorter = la }))
    (need_text kinds.Quoted done tokens (Whole operand_lexemes tokens) refl
    (λ quoted a la is ha. read_done a (Whole operand_lexemes tokens) (written_operands.Quoted quoted, record { spelled = ha; shorter = la })))))

-- after a column
read_test : (tokens a : List Token) (name : Token) → length a < length tokens → lexemes_of tokens ≡ told kinds.Name name ∷ lexemes_of a → Reading test_form a (Whole atom_lexemes tokens)
unfolding rules
read_test tokens a name la ha =
    read_mark kinds.Is null_form (sub g.comparison (sub g.operand done)) a (Whole atom_lexemes tokens) refl
    (λ b lb hb. read_mark kinds.Not (need kinds.Null done) (need kinds.Null done) b (Whole atom_lexemes tokens) refl
    (λ c lc hc. need_mark kinds.Null done c (Whole atom_lexemes tokens) refl (λ d ld hd.
    read_done d (Whole atom_lexemes tokens) (written_not_null name, record { spelled = cc; shorter = omega arith })))
    (need_mark kinds.Null done b (Whole atom_lexemes tokens) refl (λ d ld hd.
    read_done d (Whole atom_lexemes tokens) (written_null name, record { spelled = cc; shorter = omega arith }))))
    (read_part comparison_lexemes g.comparison (sub g.operand done) a (Whole atom_lexemes tokens) (read_comparison a) (λ b comparison lb hb.
    read_part operand_lexemes g.operand done b (Whole atom_lexemes tokens) (read_operand b) (λ c operand lc hc.
    read_done c (Whole atom_lexemes tokens) (
      written_comparison name comparison operand,
      record { spelled = ha ∙ ap (λ ps. told kinds.Name name ∷ ps) (hb ∙ ap (λ ps. comparison_lexemes comparison ++ ps) hc); shorter = omega arith },
    ))))

-- Conditions of tokens that are at most so many, where those in brackets are read.
module _ (most : ℕ) (read_inner : (next : List Token) → length next < most → Reading (rules g.condition) next (Whole condition_lexemes next)) where
  read_inside : (tokens : List Token) → length tokens < most → Reading inside_form tokens (Whole (Closed condition_lexemes) tokens)
  read_inside tokens fits = read_closed condition_lexemes g.condition tokens (read_inner tokens fits)

  read_atom : (tokens : List Token) → length tokens ≤ most → Reading atom_form tokens (Whole atom_lexemes tokens)
  read_atom tokens fits =
      read_mark kinds.LeftParen inside_form (pick kinds.Not (need kinds.LeftParen inside_form) (need kinds.Name test_form)) tokens (Whole atom_lexemes tokens) refl
      (λ a la ha. read_alone (Closed condition_lexemes) inside_form a (Whole atom_lexemes tokens) (read_inside a (omega arith)) (λ b condition lb hb.
      (written_bracket condition, record { spelled = ha ∙ ap (λ ps. mark kinds.LeftParen ∷ ps) hb; shorter = omega arith })))
      (read_mark kinds.Not (need kinds.LeftParen inside_form) (need kinds.Name test_form) tokens (Whole atom_lexemes tokens) refl
      (λ a la ha. need_mark kinds.LeftParen inside_form a (Whole atom_lexemes tokens) refl (λ b lb hb.
      read_alone (Closed condition_lexemes) inside_form b (Whole atom_lexemes tokens) (read_inside b (omega arith)) (λ c condition lc hc.
      (written_negation condition, record { spelled = ha ∙ ap (λ ps. mark kinds.Not ∷ ps) (hb ∙ ap (λ ps. mark kinds.LeftParen ∷ ps) hc); shorter = omega arith }))))
      (need_text kinds.Name test_form tokens (Whole atom_lexemes tokens) refl (λ name a la is ha. read_test tokens a name la ha)))

  atom_ruled : (tokens : List Token) → length tokens ≤ most → Reading (rules g.atom) tokens (Whole atom_lexemes tokens)
  unfolding rules
  atom_ruled tokens fits = read_atom tokens fits

  conjunction_is : rules g.conjunction ≡ sub g.atom (pick kinds.And (sub g.conjunction done) done)
  unfolding rules
  conjunction_is = refl

  read_conjunction : (tokens : List Token) → length tokens ≤ most → Reading (rules g.conjunction) tokens (Whole conjunction_lexemes tokens)
  read_conjunction tokens fits = read_chain g.atom g.conjunction kinds.And atom_lexemes conjunction_lexemes last_atom and_then refl (λ item. refl) (λ item others. refl) conjunction_is most atom_ruled tokens fits

  condition_is : rules g.condition ≡ sub g.conjunction (pick kinds.Or (sub g.condition done) done)
  unfolding rules
  condition_is = refl

  read_outer : (tokens : List Token) → length tokens ≤ most → Reading (rules g.condition) tokens (Whole condition_lexemes tokens)
  read_outer tokens fits =
      read_chain g.conjunction g.condition kinds.Or conjunction_lexemes condition_lexemes last_conjunction or_else refl (λ item. refl) (λ item others. refl) condition_is most read_conjunction tokens fits

read_nested : (most : ℕ) (tokens : List Token) → length tokens ≤ most → Reading (rules g.condition) tokens (Whole condition_lexemes tokens)
read_nested zero tokens fits = read_outer 0 (λ next less. absurd (omega arith)) tokens fits
read_nested (suc most) tokens fits = read_outer (suc most) (λ next less. read_nested most next (omega arith)) tokens fits

pub read_condition : (tokens : List Token) → Reading (rules g.condition) tokens (Whole condition_lexemes tokens)
read_condition tokens = read_nested (length tokens) tokens (omega arith)

-- what is after an operator's first query, in its brackets
Renaming : Token × Token → List Lexeme
Renaming names = told kinds.Name names.0 ∷ mark kinds.To ∷ told kinds.Name names.1 ∷ []

read_renaming : (tokens : List Token) → Reading (need kinds.Name (need kinds.To (need kinds.Name (need kinds.RightParen done)))) tokens (Whole (Closed Renaming) tokens)
unfolding Renaming
read_renaming tokens =
    need_text kinds.Name (need kinds.To (need kinds.Name (need kinds.RightParen done))) tokens (Whole (Closed Renaming) tokens) refl (λ from a la ia ha.
    need_mark kinds.To (need kinds.Name (need kinds.RightParen done)) a (Whole (Closed Renaming) tokens) refl (λ b lb hb.
    need_text kinds.Name (need kinds.RightParen done) b (Whole (Closed Renaming) tokens) refl (λ to c lc ic hc.
    need_mark kinds.RightParen done c (Whole (Closed Renaming) tokens) refl (λ d ld hd.
    read_done d (Whole (Closed Renaming) tokens) ((from, to), record { spelled = cc; shorter = omega arith })))))

-- a name, and a closing bracket
read_closed_name : (tokens : List Token) → Reading (need kinds.Name (need kinds.RightParen done)) tokens (Whole (Closed name_lexemes) tokens)
read_closed_name tokens =
    need_text kinds.Name (need kinds.RightParen done) tokens (Whole (Closed name_lexemes) tokens) refl (λ name a la ia ha.
    need_mark kinds.RightParen done a (Whole (Closed name_lexemes) tokens) refl (λ b lb hb.
    read_done b (Whole (Closed name_lexemes) tokens) (name, record { spelled = ha ∙ ap (λ ps. told kinds.Name name ∷ ps) hb; shorter = omega arith })))

window_ruled : (tokens : List Token) → Reading (rules g.window) tokens (Whole window_lexemes tokens)
unfolding rules
window_ruled tokens = read_window tokens

pub bracketed_ruled : (tokens : List Token) → Reading (rules g.bracketed_names) tokens (Whole bracketed_names_lexemes tokens)
unfolding rules
bracketed_ruled tokens = read_bracketed_names tokens

-- An operator's query, after its word.
operator_spelled : {X : Type 0} (lexemes : X → List Lexeme) (kind : TokenKind) (query : QuerySyntax) (x : X) (tokens a b c d e : List Token)
    → lexemes_of tokens ≡ mark kind ∷ lexemes_of a → lexemes_of a ≡ mark kinds.LeftParen ∷ lexemes_of b → lexemes_of b ≡ query_lexemes query ++ lexemes_of c → lexemes_of c ≡ mark kinds.Comma ∷ lexemes_of d
    → lexemes_of d ≡ Closed lexemes x ++ lexemes_of e → lexemes_of tokens ≡ operator_lexemes kind (query_lexemes query) (lexemes x) ++ lexemes_of e
operator_spelled lexemes kind query x tokens a b c d e ha hb hc hd he =
    ha ∙ ap (λ ps. mark kind ∷ ps) (hb ∙ ap (λ ps. mark kinds.LeftParen ∷ ps) (hc ∙ ap (λ ps. query_lexemes query ++ ps) (hd ∙ ap (λ ps. mark kinds.Comma ∷ ps) he)
    ∙ sym (append_assoc (query_lexemes query) (mark kinds.Comma ∷ Closed lexemes x) (lexemes_of e))))

-- Queries of tokens that are at most so many, where those in brackets are read.
module _ (most : ℕ) (read_inner : (next : List Token) → length next < most → Reading (rules g.query) next (Whole query_lexemes next)) where
  read_operator : {X : Type 0} (lexemes : X → List Lexeme) (make : QuerySyntax → X → QuerySyntax) (kind : TokenKind) (form : Form) (tokens : List Token) → length tokens ≤ most
      → ((query : QuerySyntax) (x : X) → query_lexemes (make query x) ≡ operator_lexemes kind (query_lexemes query) (lexemes x))
      → ((next : List Token) → length next < most → Reading form next (Whole (Closed lexemes) next))
      → (a : List Token) → length a < length tokens → lexemes_of tokens ≡ mark kind ∷ lexemes_of a → Reading (operand_query_form form) a (Whole query_lexemes tokens)
  read_operator lexemes make kind form tokens fits made read_other a la ha =
      need_mark kinds.LeftParen (sub g.query (need kinds.Comma form)) a (Whole query_lexemes tokens) refl (λ b lb hb.
      read_part query_lexemes g.query (need kinds.Comma form) b (Whole query_lexemes tokens) (read_inner b (omega arith)) (λ c query lc hc.
      need_mark kinds.Comma form c (Whole query_lexemes tokens) refl (λ d ld hd.
      read_alone (Closed lexemes) form d (Whole query_lexemes tokens) (read_other d (omega arith)) (λ e x le he. (
        make query x,
        record {
          spelled = operator_spelled lexemes kind query x tokens a b c d e ha hb hc hd he ∙ ap (λ ps. ps ++ lexemes_of e) (sym (made query x));
          shorter = omega arith;
        },
      )))))

  read_pair : (operator : PairOperator) (tokens : List Token) → length tokens ≤ most → (a : List Token) → length a < length tokens → lexemes_of tokens ≡ mark (pair_kind operator) ∷ lexemes_of a
      → Reading pair_form a (Whole query_lexemes tokens)
  read_pair operator tokens fits a la ha =
      read_operator query_lexemes (written_pair operator) (pair_kind operator) (sub g.query (need kinds.RightParen done)) tokens fits (λ query x. refl)
      (λ next less. read_closed query_lexemes g.query next (read_inner next less)) a la ha

  read_gaps : (tokens : List Token) → length tokens ≤ most → (a : List Token) → length a < length tokens → lexemes_of tokens ≡ mark kinds.Gaps ∷ lexemes_of a → Reading gaps_form a (Whole query_lexemes tokens)
  read_gaps tokens fits a la ha =
      need_mark kinds.LeftParen (sub g.query (need kinds.RightParen done)) a (Whole query_lexemes tokens) refl (λ b lb hb.
      read_alone (Closed query_lexemes) (sub g.query (need kinds.RightParen done)) b (Whole query_lexemes tokens) (read_closed query_lexemes g.query b (read_inner b (omega arith))) (λ c query lc hc.
      (written_gaps query, record { spelled = ha ∙ ap (λ ps. mark kinds.Gaps ∷ ps) (hb ∙ ap (λ ps. mark kinds.LeftParen ∷ ps) hc); shorter = omega arith })))

  -- the words of a query, from the last on
  abbrev transform_on : Form
  transform_on = pick kinds.Transform transform_form (pick kinds.Gaps gaps_form (need kinds.Name done))

  abbrev window_on : Form
  window_on = pick kinds.Window window_query_form transform_on

  abbrev merge_on : Form
  merge_on = pick kinds.Merge pair_form (pick kinds.Minus pair_form window_on)

  abbrev overlay_on : Form
  overlay_on = pick kinds.Overlay pair_form (pick kinds.Cover pair_form merge_on)

  read_window_on : (tokens : List Token) → length tokens ≤ most → Reading window_on tokens (Whole query_lexemes tokens)
  read_window_on tokens fits =
      read_mark kinds.Window window_query_form transform_on tokens (Whole query_lexemes tokens) refl
      (read_operator window_lexemes written_window kinds.Window (sub g.window (need kinds.RightParen done)) tokens fits (λ query x. refl)
      (λ next less. read_closed window_lexemes g.window next (window_ruled next)))
      (read_mark kinds.Transform transform_form (pick kinds.Gaps gaps_form (need kinds.Name done)) tokens (Whole query_lexemes tokens) refl
      (read_operator name_lexemes written_transform kinds.Transform (need kinds.Name (need kinds.RightParen done)) tokens fits (λ query x. refl)
      (λ next less. read_closed_name next))
      (read_mark kinds.Gaps gaps_form (need kinds.Name done) tokens (Whole query_lexemes tokens) refl (read_gaps tokens fits)
      (need_text kinds.Name done tokens (Whole query_lexemes tokens) refl (λ name a la is ha.
      read_done a (Whole query_lexemes tokens) (written_name name, record { spelled = ha; shorter = la })))))

  read_merge_on : (tokens : List Token) → length tokens ≤ most → Reading merge_on tokens (Whole query_lexemes tokens)
  read_merge_on tokens fits =
      read_mark kinds.Merge pair_form (pick kinds.Minus pair_form window_on) tokens (Whole query_lexemes tokens) refl (read_pair pair_operators.Merge tokens fits)
      (read_mark kinds.Minus pair_form window_on tokens (Whole query_lexemes tokens) refl (read_pair pair_operators.Minus tokens fits)
      (read_window_on tokens fits))

  read_overlay_on : (tokens : List Token) → length tokens ≤ most → Reading overlay_on tokens (Whole query_lexemes tokens)
  read_overlay_on tokens fits =
      read_mark kinds.Overlay pair_form (pick kinds.Cover pair_form merge_on) tokens (Whole query_lexemes tokens) refl (read_pair pair_operators.Overlay tokens fits)
      (read_mark kinds.Cover pair_form merge_on tokens (Whole query_lexemes tokens) refl (read_pair pair_operators.Cover tokens fits)
      (read_merge_on tokens fits))

  read_form : (tokens : List Token) → length tokens ≤ most → Reading query_form tokens (Whole query_lexemes tokens)
  unfolding Renaming
  read_form tokens fits =
      read_mark kinds.Where where_form (pick kinds.Dissolve dissolve_form (pick kinds.Rename rename_form overlay_on)) tokens (Whole query_lexemes tokens) refl
      (read_operator condition_lexemes written_where kinds.Where (sub g.condition (need kinds.RightParen done)) tokens fits (λ query x. refl)
      (λ next less. read_closed condition_lexemes g.condition next (read_condition next)))
      (read_mark kinds.Dissolve dissolve_form (pick kinds.Rename rename_form overlay_on) tokens (Whole query_lexemes tokens) refl
      (read_operator bracketed_names_lexemes written_dissolve kinds.Dissolve (sub g.bracketed_names (need kinds.RightParen done)) tokens fits (λ query x. refl)
      (λ next less. read_closed bracketed_names_lexemes g.bracketed_names next (bracketed_ruled next)))
      (read_mark kinds.Rename rename_form overlay_on tokens (Whole query_lexemes tokens) refl
      (read_operator Renaming (λ query names. written_rename query names.0 names.1) kinds.Rename (need kinds.Name (need kinds.To (need kinds.Name (need kinds.RightParen done)))) tokens fits (λ query x. refl)
      (λ next less. read_renaming next))
      (read_overlay_on tokens fits)))

  read_level : (tokens : List Token) → length tokens ≤ most → Reading (rules g.query) tokens (Whole query_lexemes tokens)
  unfolding rules
  read_level tokens fits = read_form tokens fits

read_levels : (most : ℕ) (tokens : List Token) → length tokens ≤ most → Reading (rules g.query) tokens (Whole query_lexemes tokens)
read_levels zero tokens fits = read_level 0 (λ next less. absurd (omega arith)) tokens fits
read_levels (suc most) tokens fits = read_level (suc most) (λ next less. read_levels most next (omega arith)) tokens fits

pub read_query : (tokens : List Token) → Reading (rules g.query) tokens (Whole query_lexemes tokens)
read_query tokens = read_levels (length tokens) tokens (omega arith)
