-- Any tokens are read as a command as far as the grammar goes on with them, and what is read is spelled.
use Rattle.std.proofs.Common.{◌≡◌, ◌<◌, List, [], ◌∷◌, ◌++◌, length, Option, Some, None, refl, sym, ap, ◌∙◌, append_assoc, append-nil, arith}
use Rattle.rs_grammar.specs.declared.kind.TokenKind.TheVariants as kinds
use Rattle.rs_grammar.specs.Grammar as g
use Rattle.rs_grammar.specs.Grammar.{Form, done, pick, sub, need, rules, wanted_form, command_form, define_form, define_route_form, define_referent_form, define_index_form, define_view_form, define_table_form, define_alignment_form, drop_name_form, drop_referent_form, drop_form, move_form, insert_form, removal_form, remove_form, translate_form, select_form, summed_form, total_form, explain_form, open_form, fetch_form, close_form}
use Rattle.rs_value.specs.declared.column.Kind.{Kind}
use Rattle.rs_value.specs.declared.column.Kind.TheVariants as table_kinds
use Rattle.rs_lexer.specs.declared.token.Token.{Token}
use Rattle.rs_syntax.specs.declared.written.WrittenWindow.{WrittenWindow}
use Rattle.rs_methods.specs.declared.position.Method.{Method}
use Rattle.rs_syntax.specs.WrittenParts.{Lexeme, mark, told, measure_lexemes, position_lexemes, location_lexemes, method_lexemes, wanted_lexemes, table_kind, column_lexemes, value_lexemes, summed_lexemes, piece_lexemes, lexemes_of}
use Rattle.rs_syntax.specs.WrittenQueries.{QuerySyntax, window_lexemes, condition_lexemes, bracketed_names_lexemes, query_lexemes}
use Rattle.rs_syntax.specs.Written.{Written, written_route, written_table, written_referent, written_index, written_view, written_alignment, written_move, written_drop_route, written_drop_table, written_drop_index, written_drop_view, written_drop_alignment, written_drop_referent, written_insert, written_remove, written_translate, written_select, written_total, written_explain, written_open, written_fetch, written_close, written_save, written_reopen, spelling, IsFull}
use Rattle.rs_syntax.proofs.Descent.{Spelled, read_done, read_mark, need_mark, need_text, read_part, read_measure, read_position, read_method, read_place, read_window, Items, read_columns, read_values, read_pieces}
use Rattle.rs_syntax.proofs.QueryDescent.{read_condition, bracketed_ruled, read_query}
pub use Rattle.rs_syntax.proofs.Descent.{Reading}

-- a command was read, and each list of it has an item
abbrev pub Full : List Token → List Token → Type 0
Full tokens rest = (written : Written) × Spelled spelling tokens written rest × IsFull written

-- what is read after BY and its columns is the end of TOTAL
total_spelled : (query : QuerySyntax) (by : List Token) (summed : Option Token) (a rest : List Token) → lexemes_of a ≡ summed_lexemes summed ++ lexemes_of rest
    → mark kinds.Total ∷ (query_lexemes query ++ mark kinds.By ∷ (bracketed_names_lexemes by ++ lexemes_of a)) ≡ spelling (written_total query by summed) ++ lexemes_of rest
total_spelled query by summed a rest here =
    ap (λ ps. mark kinds.Total ∷ ps)
    (ap (λ ps. query_lexemes query ++ mark kinds.By ∷ ps) (ap (λ ps. bracketed_names_lexemes by ++ ps) here ∙ sym (append_assoc (bracketed_names_lexemes by) (summed_lexemes summed) (lexemes_of rest)))
    ∙ sym (append_assoc (query_lexemes query) (mark kinds.By ∷ (bracketed_names_lexemes by ++ summed_lexemes summed)) (lexemes_of rest)))

-- what is read after a query and perhaps AS is the end of SELECT and of OPEN
wanted_spelled : (front : List Lexeme) (query : QuerySyntax) (method : Option Method) (a rest : List Token) → lexemes_of a ≡ wanted_lexemes method ++ lexemes_of rest
    → front ++ (query_lexemes query ++ lexemes_of a) ≡ (front ++ (query_lexemes query ++ wanted_lexemes method)) ++ lexemes_of rest
wanted_spelled front query method a rest here =
    ap (λ ps. front ++ ps) (ap (λ ps. query_lexemes query ++ ps) here ∙ sym (append_assoc (query_lexemes query) (wanted_lexemes method) (lexemes_of rest)))
    ∙ sym (append_assoc front (query_lexemes query ++ wanted_lexemes method) (lexemes_of rest))

-- The commands, each after its first words, which the tokens of the whole line begin with.
module _ (tokens : List Token) where
  abbrev Known : List Token → Type 0
  Known = Full tokens

  read_route : (a : List Token) → length a < length tokens → lexemes_of tokens ≡ mark kinds.Define ∷ mark kinds.Route ∷ lexemes_of a → Reading define_route_form a Known
  unfolding rules
  read_route a la ha =
      need_text kinds.Name (need kinds.From (sub g.measure (need kinds.To (sub g.measure done)))) a Known refl (λ name b lb ib hb.
      need_mark kinds.From (sub g.measure (need kinds.To (sub g.measure done))) b Known refl (λ c lc hc.
      read_part measure_lexemes g.measure (need kinds.To (sub g.measure done)) c Known (read_measure c) (λ d start ld hd.
      need_mark kinds.To (sub g.measure done) d Known refl (λ e le he.
      read_part measure_lexemes g.measure done e Known (read_measure e) (λ f finish lf hf.
      read_done f Known (written_route name start finish, record { spelled = cc; shorter = omega arith }, tt))))))

  read_referent : (a : List Token) → length a < length tokens → lexemes_of tokens ≡ mark kinds.Define ∷ mark kinds.Referent ∷ lexemes_of a → Reading define_referent_form a Known
  unfolding rules
  read_referent a la ha =
      need_text kinds.Name (need kinds.Name (need kinds.At (sub g.position done))) a Known refl (λ route b lb ib hb.
      need_text kinds.Name (need kinds.At (sub g.position done)) b Known refl (λ name c lc ic hc.
      need_mark kinds.At (sub g.position done) c Known refl (λ d ld hd.
      read_part position_lexemes g.position done d Known (read_position d) (λ e position le he.
      read_done e Known (written_referent route name position, record { spelled = cc; shorter = omega arith }, tt)))))

  read_table : (kind : Kind) (a : List Token) → length a < length tokens → lexemes_of tokens ≡ mark kinds.Define ∷ mark (table_kind kind) ∷ lexemes_of a → Reading define_table_form a Known
  unfolding rules
  read_table kind a la ha =
      need_mark kinds.Table (need kinds.Name (need kinds.LeftParen (sub g.columns (need kinds.RightParen done)))) a Known refl (λ b lb hb.
      need_text kinds.Name (need kinds.LeftParen (sub g.columns (need kinds.RightParen done))) b Known refl (λ name c lc ic hc.
      need_mark kinds.LeftParen (sub g.columns (need kinds.RightParen done)) c Known refl (λ d ld hd.
      read_part (Items column_lexemes) g.columns (need kinds.RightParen done) d Known (read_columns d) (λ e columns le he.
      need_mark kinds.RightParen done e Known refl (λ f lf hf.
      read_done f Known (
        written_table kind name (columns.0 ∷ columns.1),
        record {
          spelled = ha ∙ ap (λ ps. mark kinds.Define ∷ mark (table_kind kind) ∷ ps) (hb ∙ ap (λ ps. mark kinds.Table ∷ ps) (hc ∙ ap (λ ps. told kinds.Name name ∷ ps) (hd ∙ ap (λ ps. mark kinds.LeftParen ∷ ps)
              (he ∙ ap (λ ps. Items column_lexemes columns ++ ps) hf ∙ sym (append_assoc (Items column_lexemes columns) (mark kinds.RightParen ∷ []) (lexemes_of f))))));
          shorter = omega arith;
        },
        omega arith,
      ))))))

  read_index : (a : List Token) → length a < length tokens → lexemes_of tokens ≡ mark kinds.Define ∷ mark kinds.Index ∷ lexemes_of a → Reading define_index_form a Known
  read_index a la ha =
      need_text kinds.Name (need kinds.On (need kinds.Name (need kinds.LeftParen (need kinds.Name (need kinds.RightParen done))))) a Known refl (λ name b lb ib hb.
      need_mark kinds.On (need kinds.Name (need kinds.LeftParen (need kinds.Name (need kinds.RightParen done)))) b Known refl (λ c lc hc.
      need_text kinds.Name (need kinds.LeftParen (need kinds.Name (need kinds.RightParen done))) c Known refl (λ table d ld id hd.
      need_mark kinds.LeftParen (need kinds.Name (need kinds.RightParen done)) d Known refl (λ e le he.
      need_text kinds.Name (need kinds.RightParen done) e Known refl (λ column f lf if_ hf.
      need_mark kinds.RightParen done f Known refl (λ h lh hh.
      read_done h Known (written_index name table column, record { spelled = cc; shorter = omega arith }, tt)))))))

  read_view : (a : List Token) → length a < length tokens → lexemes_of tokens ≡ mark kinds.Define ∷ mark kinds.View ∷ lexemes_of a → Reading define_view_form a Known
  read_view a la ha =
      need_text kinds.Name (need kinds.As (sub g.query done)) a Known refl (λ name b lb ib hb.
      need_mark kinds.As (sub g.query done) b Known refl (λ c lc hc.
      read_part query_lexemes g.query done c Known (read_query c) (λ d query ld hd.
      read_done d Known (
        written_view name query,
        record { spelled = ha ∙ ap (λ ps. mark kinds.Define ∷ mark kinds.View ∷ ps) (hb ∙ ap (λ ps. told kinds.Name name ∷ ps) (hc ∙ ap (λ ps. mark kinds.As ∷ ps) hd)); shorter = omega arith },
        tt,
      ))))

  read_alignment : (a : List Token) → length a < length tokens → lexemes_of tokens ≡ mark kinds.Define ∷ mark kinds.Alignment ∷ lexemes_of a → Reading define_alignment_form a Known
  read_alignment a la ha =
      need_text kinds.Name (need kinds.LeftParen (sub g.pieces (need kinds.RightParen done))) a Known refl (λ name b lb ib hb.
      need_mark kinds.LeftParen (sub g.pieces (need kinds.RightParen done)) b Known refl (λ c lc hc.
      read_part (Items piece_lexemes) g.pieces (need kinds.RightParen done) c Known (read_pieces c) (λ d pieces ld hd.
      need_mark kinds.RightParen done d Known refl (λ e le he.
      read_done e Known (
        written_alignment name (pieces.0 ∷ pieces.1),
        record {
          spelled = ha ∙ ap (λ ps. mark kinds.Define ∷ mark kinds.Alignment ∷ ps) (hb ∙ ap (λ ps. told kinds.Name name ∷ ps) (hc ∙ ap (λ ps. mark kinds.LeftParen ∷ ps)
              (hd ∙ ap (λ ps. Items piece_lexemes pieces ++ ps) he ∙ sym (append_assoc (Items piece_lexemes pieces) (mark kinds.RightParen ∷ []) (lexemes_of e)))));
          shorter = omega arith;
        },
        omega arith,
      )))))

  read_define : (a : List Token) → length a < length tokens → lexemes_of tokens ≡ mark kinds.Define ∷ lexemes_of a → Reading define_form a Known
  read_define a la ha =
      read_mark kinds.Route define_route_form (pick kinds.Referent define_referent_form (pick kinds.View define_view_form (pick kinds.Alignment define_alignment_form (pick kinds.Index define_index_form (pick kinds.Line define_table_form (need kinds.Point define_table_form)))))) a Known refl
      (λ b lb hb. read_route b (omega arith) (ha ∙ ap (λ ps. mark kinds.Define ∷ ps) hb))
      (read_mark kinds.Referent define_referent_form (pick kinds.View define_view_form (pick kinds.Alignment define_alignment_form (pick kinds.Index define_index_form (pick kinds.Line define_table_form (need kinds.Point define_table_form))))) a Known refl
      (λ b lb hb. read_referent b (omega arith) (ha ∙ ap (λ ps. mark kinds.Define ∷ ps) hb))
      (read_mark kinds.View define_view_form (pick kinds.Alignment define_alignment_form (pick kinds.Index define_index_form (pick kinds.Line define_table_form (need kinds.Point define_table_form)))) a Known refl
      (λ b lb hb. read_view b (omega arith) (ha ∙ ap (λ ps. mark kinds.Define ∷ ps) hb))
      (read_mark kinds.Alignment define_alignment_form (pick kinds.Index define_index_form (pick kinds.Line define_table_form (need kinds.Point define_table_form))) a Known refl
      (λ b lb hb. read_alignment b (omega arith) (ha ∙ ap (λ ps. mark kinds.Define ∷ ps) hb))
      (read_mark kinds.Index define_index_form (pick kinds.Line define_table_form (need kinds.Point define_table_form)) a Known refl
      (λ b lb hb. read_index b (omega arith) (ha ∙ ap (λ ps. mark kinds.Define ∷ ps) hb))
      (read_mark kinds.Line define_table_form (need kinds.Point define_table_form) a Known refl
      (λ b lb hb. read_table table_kinds.Line b (omega arith) (ha ∙ ap (λ ps. mark kinds.Define ∷ ps) hb))
      (need_mark kinds.Point define_table_form a Known refl
      (λ b lb hb. read_table table_kinds.Point b (omega arith) (ha ∙ ap (λ ps. mark kinds.Define ∷ ps) hb))))))))

  read_drop : (a : List Token) → length a < length tokens → lexemes_of tokens ≡ mark kinds.Drop ∷ lexemes_of a → Reading drop_form a Known
  read_drop a la ha =
      read_mark kinds.Route drop_name_form (pick kinds.Table drop_name_form (pick kinds.View drop_name_form (pick kinds.Alignment drop_name_form (pick kinds.Index drop_name_form (need kinds.Referent drop_referent_form))))) a Known refl
      (λ b lb hb. need_text kinds.Name done b Known refl (λ name c lc ic hc. read_done c Known (written_drop_route name, record { spelled = cc; shorter = omega arith }, tt)))
      (read_mark kinds.Table drop_name_form (pick kinds.View drop_name_form (pick kinds.Alignment drop_name_form (pick kinds.Index drop_name_form (need kinds.Referent drop_referent_form)))) a Known refl
      (λ b lb hb. need_text kinds.Name done b Known refl (λ name c lc ic hc. read_done c Known (written_drop_table name, record { spelled = cc; shorter = omega arith }, tt)))
      (read_mark kinds.View drop_name_form (pick kinds.Alignment drop_name_form (pick kinds.Index drop_name_form (need kinds.Referent drop_referent_form))) a Known refl
      (λ b lb hb. need_text kinds.Name done b Known refl (λ name c lc ic hc. read_done c Known (written_drop_view name, record { spelled = cc; shorter = omega arith }, tt)))
      (read_mark kinds.Alignment drop_name_form (pick kinds.Index drop_name_form (need kinds.Referent drop_referent_form)) a Known refl
      (λ b lb hb. need_text kinds.Name done b Known refl (λ name c lc ic hc. read_done c Known (written_drop_alignment name, record { spelled = cc; shorter = omega arith }, tt)))
      (read_mark kinds.Index drop_name_form (need kinds.Referent drop_referent_form) a Known refl
      (λ b lb hb. need_text kinds.Name done b Known refl (λ name c lc ic hc. read_done c Known (written_drop_index name, record { spelled = cc; shorter = omega arith }, tt)))
      (need_mark kinds.Referent drop_referent_form a Known refl (λ b lb hb.
      need_text kinds.Name (need kinds.Name done) b Known refl (λ route c lc ic hc.
      need_text kinds.Name done c Known refl (λ name d ld id hd.
      read_done d Known (written_drop_referent route name, record { spelled = cc; shorter = omega arith }, tt)))))))))

  read_move : (a : List Token) → length a < length tokens → lexemes_of tokens ≡ mark kinds.Move ∷ lexemes_of a → Reading move_form a Known
  unfolding rules
  read_move a la ha =
      need_mark kinds.Referent (need kinds.Name (need kinds.Name (need kinds.To (sub g.position done)))) a Known refl (λ b lb hb.
      need_text kinds.Name (need kinds.Name (need kinds.To (sub g.position done))) b Known refl (λ route c lc ic hc.
      need_text kinds.Name (need kinds.To (sub g.position done)) c Known refl (λ name d ld id hd.
      need_mark kinds.To (sub g.position done) d Known refl (λ e le he.
      read_part position_lexemes g.position done e Known (read_position e) (λ f position lf hf.
      read_done f Known (written_move route name position, record { spelled = cc; shorter = omega arith }, tt))))))

  read_insert : (a : List Token) → length a < length tokens → lexemes_of tokens ≡ mark kinds.Insert ∷ lexemes_of a → Reading insert_form a Known
  unfolding rules
  read_insert a la ha =
      need_mark kinds.Into (need kinds.Name (need kinds.On (need kinds.Name (sub g.place (need kinds.Values (need kinds.LeftParen (sub g.values (need kinds.RightParen done)))))))) a Known refl (λ b lb hb.
      need_text kinds.Name (need kinds.On (need kinds.Name (sub g.place (need kinds.Values (need kinds.LeftParen (sub g.values (need kinds.RightParen done))))))) b Known refl (λ table c lc ic hc.
      need_mark kinds.On (need kinds.Name (sub g.place (need kinds.Values (need kinds.LeftParen (sub g.values (need kinds.RightParen done)))))) c Known refl (λ d ld hd.
      need_text kinds.Name (sub g.place (need kinds.Values (need kinds.LeftParen (sub g.values (need kinds.RightParen done))))) d Known refl (λ route e le ie he.
      read_part location_lexemes g.place (need kinds.Values (need kinds.LeftParen (sub g.values (need kinds.RightParen done)))) e Known (read_place e) (λ f place lf hf.
      need_mark kinds.Values (need kinds.LeftParen (sub g.values (need kinds.RightParen done))) f Known refl (λ i li hi.
      need_mark kinds.LeftParen (sub g.values (need kinds.RightParen done)) i Known refl (λ j lj hj.
      read_part (Items value_lexemes) g.values (need kinds.RightParen done) j Known (read_values j) (λ k row lk hk.
      need_mark kinds.RightParen done k Known refl (λ l ll hl.
      read_done l Known (
        written_insert table route place (row.0 ∷ row.1),
        record {
          spelled = ha ∙ ap (λ ps. mark kinds.Insert ∷ ps) (hb ∙ ap (λ ps. mark kinds.Into ∷ ps) (hc ∙ ap (λ ps. told kinds.Name table ∷ ps) (hd ∙ ap (λ ps. mark kinds.On ∷ ps) (he ∙ ap (λ ps. told kinds.Name route ∷ ps)
              (hf ∙ ap (λ ps. location_lexemes place ++ ps) (hi ∙ ap (λ ps. mark kinds.Values ∷ ps) (hj ∙ ap (λ ps. mark kinds.LeftParen ∷ ps)
              (hk ∙ ap (λ ps. Items value_lexemes row ++ ps) hl ∙ sym (append_assoc (Items value_lexemes row) (mark kinds.RightParen ∷ []) (lexemes_of l)))))
              ∙ sym (append_assoc (location_lexemes place) (mark kinds.Values ∷ mark kinds.LeftParen ∷ (Items value_lexemes row ++ mark kinds.RightParen ∷ [])) (lexemes_of l)))))));
          shorter = omega arith;
        },
        omega arith,
      ))))))))))

  read_removal : (table : Token) (window : WrittenWindow) (a : List Token) → length a < length tokens
      → lexemes_of tokens ≡ mark kinds.Remove ∷ told kinds.Name table ∷ mark kinds.On ∷ (window_lexemes window ++ lexemes_of a) → Reading removal_form a Known
  read_removal table window a la ha =
      read_mark kinds.Where (sub g.condition done) done a Known refl
      (λ b lb hb. read_part condition_lexemes g.condition done b Known (read_condition b) (λ c condition lc hc.
      read_done c Known (
        written_remove table window (Some condition),
        record {
          spelled = ha ∙ ap (λ ps. mark kinds.Remove ∷ told kinds.Name table ∷ mark kinds.On ∷ ps)
              (ap (λ ps. window_lexemes window ++ ps) (hb ∙ ap (λ ps. mark kinds.Where ∷ ps) hc) ∙ sym (append_assoc (window_lexemes window) (mark kinds.Where ∷ condition_lexemes condition) (lexemes_of c)));
          shorter = omega arith;
        },
        tt,
      )))
      (read_done a Known (
        written_remove table window None,
        record { spelled = ha ∙ ap (λ ps. mark kinds.Remove ∷ told kinds.Name table ∷ mark kinds.On ∷ (ps ++ lexemes_of a)) (sym (append-nil (window_lexemes window))); shorter = la },
        tt,
      ))

  read_remove : (a : List Token) → length a < length tokens → lexemes_of tokens ≡ mark kinds.Remove ∷ lexemes_of a → Reading remove_form a Known
  unfolding rules
  read_remove a la ha =
      need_text kinds.Name (need kinds.On (sub g.window removal_form)) a Known refl (λ table b lb ib hb.
      need_mark kinds.On (sub g.window removal_form) b Known refl (λ c lc hc.
      read_part window_lexemes g.window removal_form c Known (read_window c) (λ d window ld hd.
      read_removal table window d (omega arith) (ha ∙ ap (λ ps. mark kinds.Remove ∷ ps) (hb ∙ ap (λ ps. told kinds.Name table ∷ ps) (hc ∙ ap (λ ps. mark kinds.On ∷ ps) hd))))))

  read_translate : (a : List Token) → length a < length tokens → lexemes_of tokens ≡ mark kinds.Translate ∷ lexemes_of a → Reading translate_form a Known
  unfolding rules
  read_translate a la ha =
      need_text kinds.Name (sub g.position (need kinds.As (sub g.method done))) a Known refl (λ route b lb ib hb.
      read_part position_lexemes g.position (need kinds.As (sub g.method done)) b Known (read_position b) (λ c position lc hc.
      need_mark kinds.As (sub g.method done) c Known refl (λ d ld hd.
      read_part method_lexemes g.method done d Known (read_method d) (λ e method le he.
      read_done e Known (
        written_translate route position method,
        record {
          spelled = ha ∙ ap (λ ps. mark kinds.Translate ∷ ps) (hb ∙ ap (λ ps. told kinds.Name route ∷ ps)
              (hc ∙ ap (λ ps. position_lexemes position ++ ps) (hd ∙ ap (λ ps. mark kinds.As ∷ ps) he) ∙ sym (append_assoc (position_lexemes position) (mark kinds.As ∷ method_lexemes method) (lexemes_of e))));
          shorter = omega arith;
        },
        tt,
      )))))

  -- the end of a command after its query
  read_wanted : (front : List Lexeme) (query : QuerySyntax) (command : Option Method → Written)
      → ((method : Option Method) → (front ++ (query_lexemes query ++ wanted_lexemes method) ≡ spelling (command method)) × IsFull (command method))
      → (a : List Token) → length a < length tokens → lexemes_of tokens ≡ front ++ (query_lexemes query ++ lexemes_of a) → Reading wanted_form a Known
  unfolding rules
  read_wanted front query command known a la ha =
      read_mark kinds.As (sub g.method done) done a Known refl
      (λ b lb hb. read_part method_lexemes g.method done b Known (read_method b) (λ c method lc hc.
      read_done c Known (
        command (Some method),
        record {
          spelled = ha ∙ wanted_spelled front query (Some method) a c (hb ∙ ap (λ ps. mark kinds.As ∷ ps) hc) ∙ ap (λ ps. ps ++ lexemes_of c) (known (Some method)).0;
          shorter = omega arith;
        },
        (known (Some method)).1,
      )))
      (read_done a Known (
        command None,
        record { spelled = ha ∙ wanted_spelled front query None a a refl ∙ ap (λ ps. ps ++ lexemes_of a) (known None).0; shorter = la },
        (known None).1,
      ))

  read_select : (a : List Token) → length a < length tokens → lexemes_of tokens ≡ mark kinds.Select ∷ lexemes_of a → Reading select_form a Known
  read_select a la ha =
      read_part query_lexemes g.query wanted_form a Known (read_query a) (λ b query lb hb.
      read_wanted (mark kinds.Select ∷ []) query (written_select query) (λ method. (refl, tt)) b (omega arith) (ha ∙ ap (λ ps. mark kinds.Select ∷ ps) hb))

  read_explain : (a : List Token) → length a < length tokens → lexemes_of tokens ≡ mark kinds.Explain ∷ lexemes_of a → Reading explain_form a Known
  read_explain a la ha =
      read_part query_lexemes g.query done a Known (read_query a) (λ b query lb hb.
      read_done b Known (written_explain query, record { spelled = ha ∙ ap (λ ps. mark kinds.Explain ∷ ps) hb; shorter = omega arith }, tt))

  read_open : (a : List Token) → length a < length tokens → lexemes_of tokens ≡ mark kinds.Open ∷ lexemes_of a → Reading open_form a Known
  read_open a la ha =
      need_text kinds.Name (need kinds.For (sub g.query wanted_form)) a Known refl (λ cursor b lb ib hb.
      need_mark kinds.For (sub g.query wanted_form) b Known refl (λ c lc hc.
      read_part query_lexemes g.query wanted_form c Known (read_query c) (λ d query ld hd.
      read_wanted (mark kinds.Open ∷ told kinds.Name cursor ∷ mark kinds.For ∷ []) query (written_open cursor query) (λ method. (refl, tt)) d (omega arith)
      (ha ∙ ap (λ ps. mark kinds.Open ∷ ps) (hb ∙ ap (λ ps. told kinds.Name cursor ∷ ps) (hc ∙ ap (λ ps. mark kinds.For ∷ ps) hd))))))

  read_fetch : (a : List Token) → length a < length tokens → lexemes_of tokens ≡ mark kinds.Fetch ∷ lexemes_of a → Reading fetch_form a Known
  read_fetch a la ha =
      need_text kinds.Name (need kinds.Whole done) a Known refl (λ cursor b lb ib hb.
      need_text kinds.Whole done b Known refl (λ rows c lc ic hc.
      read_done c Known (written_fetch cursor rows, record { spelled = cc; shorter = omega arith }, tt)))

  read_close : (a : List Token) → length a < length tokens → lexemes_of tokens ≡ mark kinds.Close ∷ lexemes_of a → Reading close_form a Known
  read_close a la ha =
      need_text kinds.Name done a Known refl (λ cursor b lb ib hb.
      read_done b Known (written_close cursor, record { spelled = cc; shorter = omega arith }, tt))

  read_summed : (query : QuerySyntax) (by : List Token) (a : List Token) → length a < length tokens
      → lexemes_of tokens ≡ mark kinds.Total ∷ (query_lexemes query ++ mark kinds.By ∷ (bracketed_names_lexemes by ++ lexemes_of a)) → Reading summed_form a Known
  read_summed query by a la ha =
      read_mark kinds.Sum (need kinds.Name done) done a Known refl
      (λ b lb hb. need_text kinds.Name done b Known refl (λ name c lc ic hc.
      read_done c Known (written_total query by (Some name), record { spelled = ha ∙ total_spelled query by (Some name) a c (hb ∙ ap (λ ps. mark kinds.Sum ∷ ps) hc); shorter = omega arith }, tt)))
      (read_done a Known (written_total query by None, record { spelled = ha ∙ total_spelled query by None a a refl; shorter = la }, tt))

  read_total : (a : List Token) → length a < length tokens → lexemes_of tokens ≡ mark kinds.Total ∷ lexemes_of a → Reading total_form a Known
  read_total a la ha =
      read_part query_lexemes g.query (need kinds.By (sub g.bracketed_names summed_form)) a Known (read_query a) (λ b query lb hb.
      need_mark kinds.By (sub g.bracketed_names summed_form) b Known refl (λ c lc hc.
      read_part bracketed_names_lexemes g.bracketed_names summed_form c Known (bracketed_ruled c) (λ d by ld hd.
      read_summed query by d (omega arith) (ha ∙ ap (λ ps. mark kinds.Total ∷ ps) (hb ∙ ap (λ ps. query_lexemes query ++ ps) (hc ∙ ap (λ ps. mark kinds.By ∷ ps) hd))))))

  -- the commands without parts
  read_file : Reading (pick kinds.Save done (need kinds.Reopen done)) tokens Known
  read_file =
      read_mark kinds.Save done (need kinds.Reopen done) tokens Known refl (λ a la ha. read_done a Known (written_save, record { spelled = ha; shorter = la }, tt))
      (need_mark kinds.Reopen done tokens Known refl (λ a la ha. read_done a Known (written_reopen, record { spelled = ha; shorter = la }, tt)))

  -- the commands that ask, and those after them
  read_asking : Reading (pick kinds.Translate translate_form (pick kinds.Select select_form (pick kinds.Total total_form (pick kinds.Explain explain_form (pick kinds.Open open_form (pick kinds.Fetch fetch_form (pick kinds.Close close_form (pick kinds.Save done (need kinds.Reopen done))))))))) tokens Known
  read_asking =
      read_mark kinds.Translate translate_form (pick kinds.Select select_form (pick kinds.Total total_form (pick kinds.Explain explain_form (pick kinds.Open open_form (pick kinds.Fetch fetch_form (pick kinds.Close close_form (pick kinds.Save done (need kinds.Reopen done)))))))) tokens Known refl read_translate
      (read_mark kinds.Select select_form (pick kinds.Total total_form (pick kinds.Explain explain_form (pick kinds.Open open_form (pick kinds.Fetch fetch_form (pick kinds.Close close_form (pick kinds.Save done (need kinds.Reopen done))))))) tokens Known refl read_select
      (read_mark kinds.Total total_form (pick kinds.Explain explain_form (pick kinds.Open open_form (pick kinds.Fetch fetch_form (pick kinds.Close close_form (pick kinds.Save done (need kinds.Reopen done)))))) tokens Known refl read_total
      (read_mark kinds.Explain explain_form (pick kinds.Open open_form (pick kinds.Fetch fetch_form (pick kinds.Close close_form (pick kinds.Save done (need kinds.Reopen done))))) tokens Known refl read_explain
      (read_mark kinds.Open open_form (pick kinds.Fetch fetch_form (pick kinds.Close close_form (pick kinds.Save done (need kinds.Reopen done)))) tokens Known refl read_open
      (read_mark kinds.Fetch fetch_form (pick kinds.Close close_form (pick kinds.Save done (need kinds.Reopen done))) tokens Known refl read_fetch
      (read_mark kinds.Close close_form (pick kinds.Save done (need kinds.Reopen done)) tokens Known refl read_close
      read_file))))))

  -- the tokens as a command
  read_command : Reading command_form tokens Known
  read_command =
      read_mark kinds.Define define_form (pick kinds.Drop drop_form (pick kinds.Move move_form (pick kinds.Insert insert_form (pick kinds.Remove remove_form (pick kinds.Translate translate_form (pick kinds.Select select_form (pick kinds.Total total_form (pick kinds.Explain explain_form (pick kinds.Open open_form (pick kinds.Fetch fetch_form (pick kinds.Close close_form (pick kinds.Save done (need kinds.Reopen done))))))))))))) tokens Known refl read_define
      (read_mark kinds.Drop drop_form (pick kinds.Move move_form (pick kinds.Insert insert_form (pick kinds.Remove remove_form (pick kinds.Translate translate_form (pick kinds.Select select_form (pick kinds.Total total_form (pick kinds.Explain explain_form (pick kinds.Open open_form (pick kinds.Fetch fetch_form (pick kinds.Close close_form (pick kinds.Save done (need kinds.Reopen done)))))))))))) tokens Known refl read_drop
      (read_mark kinds.Move move_form (pick kinds.Insert insert_form (pick kinds.Remove remove_form (pick kinds.Translate translate_form (pick kinds.Select select_form (pick kinds.Total total_form (pick kinds.Explain explain_form (pick kinds.Open open_form (pick kinds.Fetch fetch_form (pick kinds.Close close_form (pick kinds.Save done (need kinds.Reopen done))))))))))) tokens Known refl read_move
      (read_mark kinds.Insert insert_form (pick kinds.Remove remove_form (pick kinds.Translate translate_form (pick kinds.Select select_form (pick kinds.Total total_form (pick kinds.Explain explain_form (pick kinds.Open open_form (pick kinds.Fetch fetch_form (pick kinds.Close close_form (pick kinds.Save done (need kinds.Reopen done)))))))))) tokens Known refl read_insert
      (read_mark kinds.Remove remove_form (pick kinds.Translate translate_form (pick kinds.Select select_form (pick kinds.Total total_form (pick kinds.Explain explain_form (pick kinds.Open open_form (pick kinds.Fetch fetch_form (pick kinds.Close close_form (pick kinds.Save done (need kinds.Reopen done))))))))) tokens Known refl read_remove
      read_asking))))

-- Reading to the end, or to where it stops.
pub read_whole : (tokens : List Token) → Reading command_form tokens (Full tokens)
read_whole tokens = read_command tokens
