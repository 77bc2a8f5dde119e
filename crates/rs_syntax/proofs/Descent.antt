-- Any tokens are read as a part as far as the grammar goes on with them, and what is read is spelled: all parts but
-- queries and commands.
use Rattle.std.proofs.Common.{◌≡◌, ℕ, zero, suc, ◌<◌, ◌≤◌, true, false, List, [], ◌∷◌, ◌++◌, length, Some, Ok, Err, refl, sym, ap, ◌∙◌, subst, inl, inr, ⊎_elim, append_assoc, append-nil, arith}
use Rattle.std.specs.Prelude.{◌⊎◌, if◌then◌else◌}
use Rattle.std.proofs.lemmas.Bool.{false≢true}
use denote.Enum.Bare.{sameb, same_true, true_same}
use Rattle.rs_grammar.specs.contracts.kind.TokenKind.{the_type}
use Rattle.rs_grammar.specs.declared.kind.TokenKind.{TokenKind}
use Rattle.rs_grammar.specs.declared.kind.TokenKind.TheVariants as kinds
use Rattle.rs_grammar.specs.Grammar as g
use Rattle.rs_grammar.specs.Grammar.{Part, Form, done, fail, pick, sub, need, rules, type_form, column_form, literal_form, value_form, measure_form, offset_form, position_form, span_form, place_form, method_form, column_name_form, bracketed_names_form, window_form, piece_form}
use Rattle.rs_methods.specs.declared.position.Method.TheVariants as methods
use Rattle.rs_lexer.specs.declared.token.Token.{Token}
use Rattle.rs_lexer.specs.Lexis.{kinds_of}
use Rattle.rs_syntax.specs.declared.written.WrittenType.TheVariants as written_types
use Rattle.rs_syntax.specs.declared.written.WrittenValue.TheVariants as written_values
use Rattle.rs_syntax.specs.declared.written.WrittenPosition.{WrittenPosition}
use Rattle.rs_syntax.specs.declared.written.WrittenPosition.TheVariants as written_positions
use Rattle.rs_syntax.specs.declared.written.WrittenLocation.TheVariants as written_locations
use Rattle.rs_syntax.specs.declared.written.WrittenWindow.TheVariants as written_windows
use Rattle.rs_syntax.specs.WrittenParts.{Lexeme, mark, told, has_text, lexeme_of, measure_lexemes, position_lexemes, span_lexemes, location_lexemes, method_lexemes, type_lexemes, column_lexemes, value_lexemes, name_lexemes, piece_lexemes, list_lexemes, lexemes_of}
use Rattle.rs_syntax.specs.WrittenQueries.{bracketed_names_lexemes, window_lexemes}
use Rattle.rs_grammar.specs.Reading.{Lacks, Runs, is_done, is_fail, takes, skips, through, stops_in}

-- two kinds are the same, or not
pub kind_cases : (a b : TokenKind) → (a ≡ b) ⊎ (a ≡ b → ⊥)
kind_cases a b =
    elim (sameb the_type a b) as (λ same. sameb the_type a b ≡ same → (a ≡ b) ⊎ (a ≡ b → ⊥)) [
      | true ↦ λ e. inl (same_true the_type tt a b e)
      | false ↦ λ e. inr (λ same. false≢true (sym e ∙ true_same the_type a b same))
    ] refl

-- Reading by a form: the tokens after what is read, and what is known of them; or where it stops.
abbrev pub Reading : Form → List Token → (List Token → Type 0) → Type 0
Reading form tokens Known = ((rest : List Token) × Runs form (kinds_of tokens) (Ok (kinds_of rest)) × Known rest) ⊎ ((left : List TokenKind) × Runs form (kinds_of tokens) (Err (Some left)))

pub read_done : (tokens : List Token) (Known : List Token → Type 0) → Known tokens → Reading done tokens Known
read_done tokens Known known = inl (tokens, is_done, known)

taken : (kind : TokenKind) (form other : Form) (token : Token) (rest : List Token) (Known : List Token → Type 0) → token.kind ≡ kind → Reading form rest Known → Reading (pick kind form other) (token ∷ rest) Known
taken kind form other token rest Known is (inl found) = inl (found.0, subst (λ k. Runs (pick kind form other) (k ∷ kinds_of rest) (Ok (kinds_of found.0))) (sym is) (takes found.1), found.2)
taken kind form other token rest Known is (inr stop) = inr (stop.0, subst (λ k. Runs (pick kind form other) (k ∷ kinds_of rest) (Err (Some stop.0))) (sym is) (takes stop.1))

skipped : (kind : TokenKind) (form other : Form) (tokens : List Token) (Known : List Token → Type 0) → Lacks kind (kinds_of tokens) → Reading other tokens Known → Reading (pick kind form other) tokens Known
skipped kind form other tokens Known lacks (inl found) = inl (found.0, skips lacks found.1, found.2)
skipped kind form other tokens Known lacks (inr stop) = inr (stop.0, skips lacks stop.1)

told_piece : (kind : TokenKind) (token : Token) → has_text kind ≡ true → token.kind ≡ kind → lexeme_of token ≡ told kind token
told_piece kind token text is = ap (λ k. if has_text k then told k token else mark k) is ∙ ap (λ b. if b then told kind token else mark kind) text

mark_piece : (kind : TokenKind) (token : Token) → has_text kind ≡ false → token.kind ≡ kind → lexeme_of token ≡ mark kind
mark_piece kind token text is = ap (λ k. if has_text k then told k token else mark k) is ∙ ap (λ b. if b then told kind token else mark kind) text

-- a mark at the front, or another form
pub read_mark : (kind : TokenKind) (form other : Form) (tokens : List Token) (Known : List Token → Type 0) → has_text kind ≡ false
    → ((rest : List Token) → length rest < length tokens → lexemes_of tokens ≡ mark kind ∷ lexemes_of rest → Reading form rest Known) → Reading other tokens Known → Reading (pick kind form other) tokens Known
read_mark kind form other [] Known text next else_ = skipped kind form other [] Known tt else_
read_mark kind form other (token ∷ rest) Known text next else_ =
    ⊎_elim
    (λ is. taken kind form other token rest Known is (next rest (omega arith) (ap (λ p. p ∷ lexemes_of rest) (mark_piece kind token text is))))
    (λ no. skipped kind form other (token ∷ rest) Known no else_)
    (kind_cases token.kind kind)

-- a token whose text counts at the front, or another form
pub read_text : (kind : TokenKind) (form other : Form) (tokens : List Token) (Known : List Token → Type 0) → has_text kind ≡ true
    → ((token : Token) (rest : List Token) → length rest < length tokens → token.kind ≡ kind → lexemes_of tokens ≡ told kind token ∷ lexemes_of rest → Reading form rest Known) → Reading other tokens Known → Reading (pick kind form other) tokens Known
read_text kind form other [] Known text next else_ = skipped kind form other [] Known tt else_
read_text kind form other (token ∷ rest) Known text next else_ =
    ⊎_elim
    (λ is. taken kind form other token rest Known is (next token rest (omega arith) is (ap (λ p. p ∷ lexemes_of rest) (told_piece kind token text is))))
    (λ no. skipped kind form other (token ∷ rest) Known no else_)
    (kind_cases token.kind kind)

stop_here : (tokens : List Token) (Known : List Token → Type 0) → Reading fail tokens Known
stop_here tokens Known = inr (kinds_of tokens, is_fail)

pub need_mark : (kind : TokenKind) (form : Form) (tokens : List Token) (Known : List Token → Type 0) → has_text kind ≡ false
    → ((rest : List Token) → length rest < length tokens → lexemes_of tokens ≡ mark kind ∷ lexemes_of rest → Reading form rest Known) → Reading (need kind form) tokens Known
need_mark kind form tokens Known text next = read_mark kind form fail tokens Known text next (stop_here tokens Known)

pub need_text : (kind : TokenKind) (form : Form) (tokens : List Token) (Known : List Token → Type 0) → has_text kind ≡ true
    → ((token : Token) (rest : List Token) → length rest < length tokens → token.kind ≡ kind → lexemes_of tokens ≡ told kind token ∷ lexemes_of rest → Reading form rest Known) → Reading (need kind form) tokens Known
need_text kind form tokens Known text next = read_text kind form fail tokens Known text next (stop_here tokens Known)

-- What is known after a part that was read: it is spelled so, and took a token at least.
pub record Spelled {X : Type 0} (lexemes : X → List Lexeme) (tokens : List Token) (x : X) (rest : List Token) : Type 0 where
  pub spelled : lexemes_of tokens ≡ lexemes x ++ lexemes_of rest
  pub shorter : length rest < length tokens

abbrev pub Whole : {X : Type 0} → (X → List Lexeme) → List Token → List Token → Type 0
Whole {X} lexemes tokens rest = (x : X) × Spelled lexemes tokens x rest

-- a part, and what follows it
part_through : {X : Type 0} (lexemes : X → List Lexeme) (p : Part) (form : Form) (tokens rest : List Token) (Known : List Token → Type 0) → Runs (rules p) (kinds_of tokens) (Ok (kinds_of rest)) → Reading form rest Known → Reading (sub p form) tokens Known
part_through lexemes p form tokens rest Known run (inl found) = inl (found.0, through run found.1, found.2)
part_through lexemes p form tokens rest Known run (inr stop) = inr (stop.0, through run stop.1)

pub read_part : {X : Type 0} (lexemes : X → List Lexeme) (p : Part) (form : Form) (tokens : List Token) (Known : List Token → Type 0) → Reading (rules p) tokens (Whole lexemes tokens)
    → ((rest : List Token) (x : X) → length rest < length tokens → lexemes_of tokens ≡ lexemes x ++ lexemes_of rest → Reading form rest Known) → Reading (sub p form) tokens Known
read_part lexemes p form tokens Known (inl found) next = part_through lexemes p form tokens found.0 Known found.1 (next found.0 found.2.0 found.2.1.shorter found.2.1.spelled)
read_part lexemes p form tokens Known (inr stop) next = inr (stop.0, stops_in stop.1)

-- a form read by itself, and what is known of it
pub read_alone : {X : Type 0} (lexemes : X → List Lexeme) (form : Form) (tokens : List Token) (Known : List Token → Type 0) → Reading form tokens (Whole lexemes tokens)
    → ((rest : List Token) (x : X) → length rest < length tokens → lexemes_of tokens ≡ lexemes x ++ lexemes_of rest → Known rest) → Reading form tokens Known
read_alone lexemes form tokens Known (inl found) known = inl (found.0, found.1, known found.0 found.2.0 found.2.1.shorter found.2.1.spelled)
read_alone lexemes form tokens Known (inr stop) known = inr stop

abbrev pub Closed : {X : Type 0} → (X → List Lexeme) → X → List Lexeme
Closed lexemes x = lexemes x ++ mark kinds.RightParen ∷ []

-- a part, and a closing bracket
pub read_closed : {X : Type 0} (lexemes : X → List Lexeme) (p : Part) (tokens : List Token) → Reading (rules p) tokens (Whole lexemes tokens)
    → Reading (sub p (need kinds.RightParen done)) tokens (Whole (Closed lexemes) tokens)
read_closed lexemes p tokens read =
    read_part lexemes p (need kinds.RightParen done) tokens (Whole (Closed lexemes) tokens) read (λ a x la ha.
    need_mark kinds.RightParen done a (Whole (Closed lexemes) tokens) refl (λ b lb hb.
    read_done b (Whole (Closed lexemes) tokens) (
      x,
      record {
        spelled = ha ∙ ap (λ ps. lexemes x ++ ps) hb ∙ sym (append_assoc (lexemes x) (mark kinds.RightParen ∷ []) (lexemes_of b));
        shorter = omega arith;
      },
    )))

-- The parts, from the least on.
pub read_measure : (tokens : List Token) → Reading measure_form tokens (Whole measure_lexemes tokens)
read_measure tokens =
    read_text kinds.Whole done (need kinds.Decimal done) tokens (Whole measure_lexemes tokens) refl
    (λ token rest less is here. read_done rest (Whole measure_lexemes tokens) (token, record { spelled = here ∙ ap (λ k. told k token ∷ lexemes_of rest) (sym is); shorter = less }))
    (need_text kinds.Decimal done tokens (Whole measure_lexemes tokens) refl
    (λ token rest less is here. read_done rest (Whole measure_lexemes tokens) (token, record { spelled = here ∙ ap (λ k. told k token ∷ lexemes_of rest) (sym is); shorter = less })))

read_type : (tokens : List Token) → Reading type_form tokens (Whole type_lexemes tokens)
read_type tokens =
    read_mark kinds.Int done (need kinds.Text (need kinds.LeftParen (need kinds.Whole (need kinds.RightParen done)))) tokens (Whole type_lexemes tokens) refl
    (λ rest less here. read_done rest (Whole type_lexemes tokens) (written_types.Int, record { spelled = here; shorter = less }))
    (need_mark kinds.Text (need kinds.LeftParen (need kinds.Whole (need kinds.RightParen done))) tokens (Whole type_lexemes tokens) refl (λ a la ha.
    need_mark kinds.LeftParen (need kinds.Whole (need kinds.RightParen done)) a (Whole type_lexemes tokens) refl (λ b lb hb.
    need_text kinds.Whole (need kinds.RightParen done) b (Whole type_lexemes tokens) refl (λ most c lc is hc.
    need_mark kinds.RightParen done c (Whole type_lexemes tokens) refl (λ d ld hd.
    read_done d (Whole type_lexemes tokens) (written_types.Text most, record { spelled = cc; shorter = omega arith }))))))

read_column : (tokens : List Token) → Reading column_form tokens (Whole column_lexemes tokens)
read_column tokens =
    need_text kinds.Name type_form tokens (Whole column_lexemes tokens) refl (λ name a la ia ha.
    read_alone type_lexemes type_form a (Whole column_lexemes tokens) (read_type a) (λ b type lb hb.
    (record { name = name; column_type = type }, record { spelled = ha ∙ ap (λ ps. told kinds.Name name ∷ ps) hb; shorter = omega arith })))

read_value : (tokens : List Token) → Reading value_form tokens (Whole value_lexemes tokens)
read_value tokens =
    read_mark kinds.Null done (pick kinds.MinusSign (need kinds.Whole done) (pick kinds.Whole done (need kinds.Quoted done))) tokens (Whole value_lexemes tokens) refl
    (λ a la ha. read_done a (Whole value_lexemes tokens) (written_values.Null, record { spelled = ha; shorter = la }))
    (read_mark kinds.MinusSign (need kinds.Whole done) (pick kinds.Whole done (need kinds.Quoted done)) tokens (Whole value_lexemes tokens) refl
    (λ a la ha. need_text kinds.Whole done a (Whole value_lexemes tokens) refl (λ digits b lb is hb.
    read_done b (Whole value_lexemes tokens) (written_values.Whole true digits, record { spelled = cc; shorter = omega arith })))
    (read_text kinds.Whole done (need kinds.Quoted done) tokens (Whole value_lexemes tokens) refl
    (λ digits a la is ha. read_done a (Whole value_lexemes tokens) (written_values.Whole false digits, record { spelled = ha; shorter = la }))
    (need_text kinds.Quoted done tokens (Whole value_lexemes tokens) refl
    (λ quoted a la is ha. read_done a (Whole value_lexemes tokens) (written_values.Quoted quoted, record { spelled = ha; shorter = la })))))

pub read_method : (tokens : List Token) → Reading method_form tokens (Whole method_lexemes tokens)
read_method tokens =
    read_mark kinds.Absolute done (pick kinds.Relative done (need kinds.Interpolative done)) tokens (Whole method_lexemes tokens) refl
    (λ a la ha. read_done a (Whole method_lexemes tokens) (methods.Absolute, record { spelled = ha; shorter = la }))
    (read_mark kinds.Relative done (need kinds.Interpolative done) tokens (Whole method_lexemes tokens) refl
    (λ a la ha. read_done a (Whole method_lexemes tokens) (methods.Relative, record { spelled = ha; shorter = la }))
    (need_mark kinds.Interpolative done tokens (Whole method_lexemes tokens) refl
    (λ a la ha. read_done a (Whole method_lexemes tokens) (methods.Interpolative, record { spelled = ha; shorter = la }))))

-- after `@` and a name
read_offset : (tokens middle : List Token) (name : Token) → length middle < length tokens → lexemes_of tokens ≡ mark kinds.AtSign ∷ told kinds.Name name ∷ lexemes_of middle → Reading offset_form middle (Whole position_lexemes tokens)
unfolding rules
read_offset tokens middle name less here =
    read_mark kinds.PlusSign (sub g.measure done) (pick kinds.MinusSign (sub g.measure done) done) middle (Whole position_lexemes tokens) refl
    (λ a la ha. read_part measure_lexemes g.measure done a (Whole position_lexemes tokens) (read_measure a) (λ rest m lm hm.
    read_done rest (Whole position_lexemes tokens) (written_positions.Beyond name m, record { spelled = cc; shorter = omega arith })))
    (read_mark kinds.MinusSign (sub g.measure done) done middle (Whole position_lexemes tokens) refl
    (λ a la ha. read_part measure_lexemes g.measure done a (Whole position_lexemes tokens) (read_measure a) (λ rest m lm hm.
    read_done rest (Whole position_lexemes tokens) (written_positions.Before name m, record { spelled = cc; shorter = omega arith })))
    (read_done middle (Whole position_lexemes tokens) (written_positions.Referent name, record { spelled = here; shorter = less })))

pub read_position : (tokens : List Token) → Reading position_form tokens (Whole position_lexemes tokens)
unfolding rules
read_position tokens =
    read_mark kinds.AtSign (need kinds.Name offset_form) (sub g.measure (pick kinds.PercentSign done done)) tokens (Whole position_lexemes tokens) refl
    (λ a la ha. need_text kinds.Name offset_form a (Whole position_lexemes tokens) refl (λ name b lb is hb. read_offset tokens b name (omega arith) cc))
    (read_part measure_lexemes g.measure (pick kinds.PercentSign done done) tokens (Whole position_lexemes tokens) (read_measure tokens) (λ rest m lm hm.
    read_mark kinds.PercentSign done done rest (Whole position_lexemes tokens) refl
    (λ a la ha. read_done a (Whole position_lexemes tokens) (written_positions.Percentage m, record { spelled = cc; shorter = omega arith }))
    (read_done rest (Whole position_lexemes tokens) (written_positions.Measure m, record { spelled = hm; shorter = lm }))))

abbrev pub Span : WrittenPosition × WrittenPosition → List Lexeme
Span span = span_lexemes span.0 span.1

-- after FROM
pub read_span : (tokens : List Token) → Reading span_form tokens (Whole Span tokens)
unfolding rules
read_span tokens =
    read_part position_lexemes g.position (need kinds.To (sub g.position done)) tokens (Whole Span tokens) (read_position tokens) (λ b from lb hb.
    need_mark kinds.To (sub g.position done) b (Whole Span tokens) refl (λ c lc hc.
    read_part position_lexemes g.position done c (Whole Span tokens) (read_position c) (λ d to ld hd.
    read_done d (Whole Span tokens) (
      (from, to),
      record {
        spelled = hb ∙ ap (λ ps. position_lexemes from ++ ps) (hc ∙ ap (λ ps. mark kinds.To ∷ ps) hd) ∙ sym (append_assoc (position_lexemes from) (mark kinds.To ∷ position_lexemes to) (lexemes_of d));
        shorter = omega arith;
      },
    ))))

pub read_place : (tokens : List Token) → Reading place_form tokens (Whole location_lexemes tokens)
unfolding rules
read_place tokens =
    read_mark kinds.From span_form (need kinds.At (sub g.position done)) tokens (Whole location_lexemes tokens) refl
    (λ a la ha. read_alone Span span_form a (Whole location_lexemes tokens) (read_span a) (λ b span lb hb.
    (written_locations.Along span.0 span.1, record { spelled = ha ∙ ap (λ ps. mark kinds.From ∷ ps) hb; shorter = omega arith })))
    (need_mark kinds.At (sub g.position done) tokens (Whole location_lexemes tokens) refl
    (λ a la ha. read_part position_lexemes g.position done a (Whole location_lexemes tokens) (read_position a) (λ b position lb hb.
    read_done b (Whole location_lexemes tokens) (written_locations.At position, record { spelled = ha ∙ ap (λ ps. mark kinds.At ∷ ps) hb; shorter = omega arith }))))

-- a route, or a part of it
pub read_window : (tokens : List Token) → Reading window_form tokens (Whole window_lexemes tokens)
read_window tokens =
    need_text kinds.Name (pick kinds.From span_form done) tokens (Whole window_lexemes tokens) refl (λ route a la ia ha.
    read_mark kinds.From span_form done a (Whole window_lexemes tokens) refl
    (λ b lb hb. read_alone Span span_form b (Whole window_lexemes tokens) (read_span b) (λ c span lc hc.
    (written_windows.Part route span.0 span.1, record { spelled = ha ∙ ap (λ ps. told kinds.Name route ∷ ps) (hb ∙ ap (λ ps. mark kinds.From ∷ ps) hc); shorter = omega arith })))
    (read_done a (Whole window_lexemes tokens) (written_windows.Whole route, record { spelled = ha; shorter = la })))

-- a piece of an alignment
read_piece : (tokens : List Token) → Reading piece_form tokens (Whole piece_lexemes tokens)
unfolding rules
read_piece tokens =
    need_text kinds.Name (need kinds.From (sub g.measure (need kinds.To (sub g.measure (need kinds.Into (need kinds.Name (need kinds.At (sub g.measure done)))))))) tokens (Whole piece_lexemes tokens) refl (λ from_route a la ia ha.
    need_mark kinds.From (sub g.measure (need kinds.To (sub g.measure (need kinds.Into (need kinds.Name (need kinds.At (sub g.measure done))))))) a (Whole piece_lexemes tokens) refl (λ b lb hb.
    read_part measure_lexemes g.measure (need kinds.To (sub g.measure (need kinds.Into (need kinds.Name (need kinds.At (sub g.measure done)))))) b (Whole piece_lexemes tokens) (read_measure b) (λ c from lc hc.
    need_mark kinds.To (sub g.measure (need kinds.Into (need kinds.Name (need kinds.At (sub g.measure done))))) c (Whole piece_lexemes tokens) refl (λ d ld hd.
    read_part measure_lexemes g.measure (need kinds.Into (need kinds.Name (need kinds.At (sub g.measure done)))) d (Whole piece_lexemes tokens) (read_measure d) (λ e to le he.
    need_mark kinds.Into (need kinds.Name (need kinds.At (sub g.measure done))) e (Whole piece_lexemes tokens) refl (λ f lf hf.
    need_text kinds.Name (need kinds.At (sub g.measure done)) f (Whole piece_lexemes tokens) refl (λ onto_route i li ii hi.
    need_mark kinds.At (sub g.measure done) i (Whole piece_lexemes tokens) refl (λ j lj hj.
    read_part measure_lexemes g.measure done j (Whole piece_lexemes tokens) (read_measure j) (λ k onto lk hk.
    read_done k (Whole piece_lexemes tokens) (
      record { from_route = from_route; from = from; to = to; onto_route = onto_route; onto = onto },
      record {
        spelled = ha ∙ ap (λ ps. told kinds.Name from_route ∷ ps) (hb ∙ ap (λ ps. mark kinds.From ∷ ps) (hc ∙ ap (λ ps. measure_lexemes from ++ ps)
            (hd ∙ ap (λ ps. mark kinds.To ∷ ps) (he ∙ ap (λ ps. measure_lexemes to ++ ps) (hf ∙ ap (λ ps. mark kinds.Into ∷ ps)
            (hi ∙ ap (λ ps. told kinds.Name onto_route ∷ ps) (hj ∙ ap (λ ps. mark kinds.At ∷ ps) hk)))))));
        shorter = omega arith;
      },
    ))))))))))

-- A chain: an item, and after its mark the others.
module _ {A B : Type 0} (p q : Part) (kind : TokenKind) (one : A → List Lexeme) (many : B → List Lexeme) (last : A → B) (more : A → B → B)
    (is_mark : has_text kind ≡ false) (is_last : (item : A) → many (last item) ≡ one item) (is_more : (item : A) (others : B) → many (more item others) ≡ one item ++ mark kind ∷ many others)
    (is_chain : rules q ≡ sub p (pick kind (sub q done) done)) (most : ℕ) (read_item : (tokens : List Token) → length tokens ≤ most → Reading (rules p) tokens (Whole one tokens)) where
  read_others : (tokens : List Token) → length tokens ≤ most → ((next : List Token) → length next < length tokens → Reading (rules q) next (Whole many next)) → Reading (rules q) tokens (Whole many tokens)
  read_others tokens fits others = subst (λ form. Reading form tokens (Whole many tokens)) (sym is_chain)
      (read_part one p (pick kind (sub q done) done) tokens (Whole many tokens) (read_item tokens fits) (λ a item la ha.
      read_mark kind (sub q done) done a (Whole many tokens) is_mark
      (λ b lb hb. read_part many q done b (Whole many tokens) (others b (omega arith)) (λ c rest lc hc.
      read_done c (Whole many tokens) (
        more item rest,
        record {
          spelled = ha ∙ ap (λ ps. one item ++ ps) (hb ∙ ap (λ ps. mark kind ∷ ps) hc) ∙ sym (append_assoc (one item) (mark kind ∷ many rest) (lexemes_of c))
              ∙ ap (λ ps. ps ++ lexemes_of c) (sym (is_more item rest));
          shorter = omega arith;
        },
      )))
      (read_done a (Whole many tokens) (last item, record { spelled = ha ∙ ap (λ ps. ps ++ lexemes_of a) (sym (is_last item)); shorter = la }))))

  read_fuel : (fuel : ℕ) (tokens : List Token) → length tokens ≤ fuel → length tokens ≤ most → Reading (rules q) tokens (Whole many tokens)
  read_fuel zero tokens enough fits = read_others tokens fits (λ next less. absurd (omega arith))
  read_fuel (suc fuel) tokens enough fits = read_others tokens fits (λ next less. read_fuel fuel next (omega arith) (omega arith))

  pub read_chain : (tokens : List Token) → length tokens ≤ most → Reading (rules q) tokens (Whole many tokens)
  read_chain tokens fits = read_fuel (length tokens) tokens (omega arith) fits

-- A list: a chain with commas.
abbrev pub Items : {A : Type 0} → (A → List Lexeme) → A × List A → List Lexeme
Items lexemes items = list_lexemes kinds.Comma lexemes (items.0 ∷ items.1)

module _ {A : Type 0} (p q : Part) (lexemes : A → List Lexeme) (is_list : rules q ≡ sub p (pick kinds.Comma (sub q done) done))
    (read_item : (tokens : List Token) → Reading (rules p) tokens (Whole lexemes tokens)) where
  read_list : (tokens : List Token) → Reading (rules q) tokens (Whole (Items lexemes) tokens)
  read_list tokens =
      read_chain p q kinds.Comma lexemes (Items lexemes) (λ item. (item, [])) (λ item others. (item, others.0 ∷ others.1)) refl
      (λ item. append-nil (lexemes item)) (λ item others. refl) is_list (length tokens) (λ next fits. read_item next) tokens (omega arith)

columns_are : rules g.columns ≡ sub g.column (pick kinds.Comma (sub g.columns done) done)
unfolding rules
columns_are = refl

column_ruled : (tokens : List Token) → Reading (rules g.column) tokens (Whole column_lexemes tokens)
unfolding rules
column_ruled tokens = read_column tokens

pub read_columns : (tokens : List Token) → Reading (rules g.columns) tokens (Whole (Items column_lexemes) tokens)
read_columns tokens = read_list g.column g.columns column_lexemes columns_are column_ruled tokens

values_are : rules g.values ≡ sub g.value (pick kinds.Comma (sub g.values done) done)
unfolding rules
values_are = refl

value_ruled : (tokens : List Token) → Reading (rules g.value) tokens (Whole value_lexemes tokens)
unfolding rules
value_ruled tokens = read_value tokens

pub read_values : (tokens : List Token) → Reading (rules g.values) tokens (Whole (Items value_lexemes) tokens)
read_values tokens = read_list g.value g.values value_lexemes values_are value_ruled tokens

pieces_are : rules g.pieces ≡ sub g.piece (pick kinds.Comma (sub g.pieces done) done)
unfolding rules
pieces_are = refl

piece_ruled : (tokens : List Token) → Reading (rules g.piece) tokens (Whole piece_lexemes tokens)
unfolding rules
piece_ruled tokens = read_piece tokens

pub read_pieces : (tokens : List Token) → Reading (rules g.pieces) tokens (Whole (Items piece_lexemes) tokens)
read_pieces tokens = read_list g.piece g.pieces piece_lexemes pieces_are piece_ruled tokens

names_are : rules g.names ≡ sub g.column_name (pick kinds.Comma (sub g.names done) done)
unfolding rules
names_are = refl

name_ruled : (tokens : List Token) → Reading (rules g.column_name) tokens (Whole name_lexemes tokens)
unfolding rules
name_ruled tokens = need_text kinds.Name done tokens (Whole name_lexemes tokens) refl (λ name a la is ha. read_done a (Whole name_lexemes tokens) (name, record { spelled = ha; shorter = la }))

read_names : (tokens : List Token) → Reading (rules g.names) tokens (Whole (Items name_lexemes) tokens)
read_names tokens = read_list g.column_name g.names name_lexemes names_are name_ruled tokens

-- names in brackets, perhaps none
pub read_bracketed_names : (tokens : List Token) → Reading bracketed_names_form tokens (Whole bracketed_names_lexemes tokens)
read_bracketed_names tokens =
    need_mark kinds.LeftParen (pick kinds.RightParen done (sub g.names (need kinds.RightParen done))) tokens (Whole bracketed_names_lexemes tokens) refl (λ a la ha.
    read_mark kinds.RightParen done (sub g.names (need kinds.RightParen done)) a (Whole bracketed_names_lexemes tokens) refl
    (λ b lb hb. read_done b (Whole bracketed_names_lexemes tokens) ([], record { spelled = ha ∙ ap (λ ps. mark kinds.LeftParen ∷ ps) hb; shorter = omega arith }))
    (read_alone (Closed (Items name_lexemes)) (sub g.names (need kinds.RightParen done)) a (Whole bracketed_names_lexemes tokens) (read_closed (Items name_lexemes) g.names a (read_names a)) (λ b names lb hb.
    (names.0 ∷ names.1, record { spelled = ha ∙ ap (λ ps. mark kinds.LeftParen ∷ ps) hb; shorter = omega arith }))))
