-- Words that are taken ask something.
use Rattle.std.proofs.Common.{◌≡◌, ◌∙◌, ◌||◌, ℕ, Bool, cond, true, false, refl, sym, subst, arith, drop, List, [], ◌∷◌, Option, Some, None, codes, option_map, is_some, true≢false, unwrap_or}
use Rattle.std.specs.Prelude.{⊤, IfSome, IsSome, ◌==◌, option_and_then, pos}
use Rattle.std.specs.Option.{option_map_or}
use Rattle.std.specs.Str.{bytes_eq}
use Rattle.std.specs.Str.Parse.{IsNumeral, starts_with_minus, without_leading_plus}
use Rattle.std.proofs.lemmas.Int.{ints}
use Rattle.std.proofs.lemmas.Slice.Eq.{bytes_eq-Decides}
use Rattle.clap.specs.Lexer.{without_minus}
use Rattle.clap.specs.Faults.{check_fault, defaults_fault, entered_fault, fault_of, level_fault, other_fault, settle_fault, walk_fault}
use Rattle.clap.specs.Kinds.{value_kinds}
use Rattle.clap.specs.Simple.{Shape, argument_words, built, built_leaf, entered, filled, help_rule, help_shape, inherited, marked_built, names_of, rows_at, version_rule, with_leaf_noted}
use Rattle.clap.specs.Takes.{is_given}
use Rattle.clap.specs.ValueTests.{accepts, is_unsigned_in}
use Rattle.clap.specs.Walk.{Held, Row, Text, all_of, answers_to, finished, first_of, has_row, nothing_held, rows_after, settled, walk, walk_from, with_default}
use Rattle.clap.specs.declared.error.kind.ErrorKind.TheVariants.{DisplayHelp, DisplayVersion, InvalidSubcommand, MissingRequiredArgument, MissingSubcommand, ValueValidation}
use Rattle.clap.specs.declared.builder.value_parser.Reading.{Reading}
use Rattle.clap.specs.declared.builder.value_parser.Reading.TheVariants.{WithoutMinus}
use Rattle.clap.specs.declared.builder.value_parser.ValueParser.TheVariants.{Signed, Unsigned}
use Rattle.clap.proofs.ValueTestLemmas.{Accepts-accepts, accepts-Accepts}
use Rattle.rs_command_line.specs.CommandLine.{ask_command, command_line, connections_option, create_command, csv_command, dump_command, explain_command, file_option, flag, listen_option, question_argument, run_command, serve_command, table_command, text_option}
use Rattle.rs_command_line.specs.Asked.{address_in, asked_by, asked_of, asks, connections_in, creates, dumps, file_in, flag_in, serves}
use Rattle.rs_command_line.proofs.Rows.{AllDefaults, AllSound, Full, IsSound, append_sound, default_gives_row, default_keeps_row, defaults_full, flag_sound, found_row, given_row, neither, no_kind, option_sound, request_sound}
use Rattle.rs_command_line.proofs.Walks.{settle_full, walk_good}

-- a text that passed the range reads as a number in it
without_minus-cond : (t : Text) → without_minus t ≡ cond (starts_with_minus t) (drop 1 t) t
without_minus-cond [] = refl
without_minus-cond (x ∷ xs) = go (x == 45)
  where
    go : (b : Bool) → unwrap_or (cond b (Some xs) None) (x ∷ xs) ≡ cond b xs (x ∷ xs)
    go true = refl
    go false = refl

pub number_passes : (t : Text) → accepts false (Signed (pos 1) (pos 1000000)) t ≡ true → is_unsigned_in 1 1000000 (without_minus t) ≡ true
number_passes t e = go (starts_with_minus t) refl
  where
    go : (b : Bool) → starts_with_minus t ≡ b → is_unsigned_in 1 1000000 (without_minus t) ≡ true
    go true minus =
        let passed = accepts-Accepts false (Signed (pos 1) (pos 1000000)) t e in
        let low_ok = rw minus at passed.2 in
        absurd (omega (arith, ints))
    go false minus =
        let passed = accepts-Accepts false (Signed (pos 1) (pos 1000000)) t e in
        let low_ok = rw minus at passed.2 in
        let high_ok = rw minus at passed.3 in
        let numeral : IsNumeral 10 (without_leading_plus t) = rw minus at passed.0 in
        rw (without_minus-cond t, minus) (Accepts-accepts false (Unsigned 1 1000000) t (numeral, omega (arith, ints), omega (arith, ints), omega (arith, ints)))

-- a value of `--connections` passed its parser
abbrev IsNumber : Text → Reading → Text → Type 0
IsNumber id how v = bytes_eq id (codes "connections") ≡ true → (how ≡ WithoutMinus) × (accepts false (Signed (pos 1) (pos 1000000)) v ≡ true)

-- ---- the commands, as they are built

abbrev above : Shape
above = with_leaf_noted (marked_built command_line.top)

abbrev create_shape : Shape
create_shape = built_leaf (inherited above create_command.top)

abbrev run_shape : Shape
run_shape = built_leaf (inherited above run_command.top)

abbrev ask_shape : Shape
ask_shape = built_leaf (inherited above ask_command.top)

abbrev csv_shape : Shape
csv_shape = built_leaf (inherited above csv_command.top)

abbrev table_shape : Shape
table_shape = built_leaf (inherited above table_command.top)

abbrev dump_shape : Shape
dump_shape = built_leaf (inherited above dump_command.top)

abbrev explain_shape : Shape
explain_shape = built_leaf (inherited above explain_command.top)

abbrev help_leaf : Shape
help_leaf = built_leaf help_shape

abbrev serve_shape : Shape
serve_shape = built_leaf (inherited above serve_command.top)

-- what holds at the end of a command's words that pass
level_end : (s : Shape) (words : List Text) → AllSound IsNumber s.rules → AllDefaults IsNumber s.rules → level_fault s [] nothing_held words false [] ≡ []
    → Full IsNumber (rows_after s.rules [] words) × (check_fault s (rows_after s.rules [] words) false ≡ [])
level_end s words sound defaults e =
    let end = (walk s.rules [] nothing_held words).held in
    let first = neither (walk_fault s [] (walk_from nothing_held) words) _ e in
    let second = neither (settle_fault s.rules s.args_override_self end) _ first.1 in
    let third = neither _ _ second.1 in
    let walked = walk_good IsNumber (λ name. ⊤) s [] sound (λ name word h passed. tt) words (walk_from nothing_held) first.0 (tt, tt) in
    let used = settle_full IsNumber (λ name. ⊤) s [] sound (λ name word h passed. tt) end second.0 walked.0 in
    (defaults_full IsNumber s.rules (settled s.rules end).rows defaults used, third.1)

first_text : (rows : List Row) (id : Text) → Full IsNumber rows → has_row id rows ≡ true → IsSome (first_of id rows)
first_text rows id all has =
    let found = found_row IsNumber rows id all has in
    let value = found.3 in
    rw (found.1, value.2) refl

number_given : (rows : List Row) → Full IsNumber rows → has_row (codes "connections") rows ≡ true → IsSome (connections_in rows)
number_given rows all has =
    let found = found_row IsNumber rows (codes "connections") all has in
    let value = found.3 in
    let passed = value.3 found.2 in
    rw (found.1, value.2, passed.0, number_passes value.0 passed.1) refl

-- ---- their arguments

file_id : (how : Reading) (v : Text) → IsNumber (codes "file") how v
file_id how v e = absurd (true≢false (sym e))

listen_id : (how : Reading) (v : Text) → IsNumber (codes "listen") how v
listen_id how v e = absurd (true≢false (sym e))

definitions_id : (how : Reading) (v : Text) → IsNumber (codes "definitions") how v
definitions_id how v e = absurd (true≢false (sym e))

question_id : (how : Reading) (v : Text) → IsNumber (codes "question") how v
question_id how v e = absurd (true≢false (sym e))

table_id : (how : Reading) (v : Text) → IsNumber (codes "table") how v
table_id how v e = absurd (true≢false (sym e))

number_kinds : (v : Text) → value_kinds false (Signed (pos 1) (pos 1000000)) v ≡ [] → accepts false (Signed (pos 1) (pos 1000000)) v ≡ true
number_kinds v e = go (accepts false (Signed (pos 1) (pos 1000000)) v) refl
  where
    go : (b : Bool) → accepts false (Signed (pos 1) (pos 1000000)) v ≡ b → b ≡ true
    go true same = refl
    go false same = absurd (no_kind ValueValidation [] (rw same at e))

help_sound : IsSound IsNumber (filled help_rule)
help_sound = request_sound IsNumber (filled help_rule) DisplayHelp (λ again values rows. refl)

version_sound : IsSound IsNumber (filled version_rule)
version_sound = request_sound IsNumber (filled version_rule) DisplayVersion (λ again values rows. refl)

file_sound : (required : Bool) → IsSound IsNumber (filled (file_option required))
file_sound required = option_sound IsNumber (filled (file_option required)) refl refl refl (λ v passed. file_id _ v)

listen_sound : IsSound IsNumber (filled listen_option)
listen_sound = option_sound IsNumber (filled listen_option) refl refl refl (λ v passed. listen_id _ v)

definitions_sound : IsSound IsNumber (filled (flag (codes "definitions")))
definitions_sound = flag_sound IsNumber (filled (flag (codes "definitions"))) (codes "true") refl refl (λ v. definitions_id _ v)

table_sound : IsSound IsNumber (filled (text_option (codes "table")))
table_sound = option_sound IsNumber (filled (text_option (codes "table"))) refl refl refl (λ v passed. table_id _ v)

question_sound : IsSound IsNumber (record (filled question_argument) { index = Some 1 })
question_sound = append_sound IsNumber (record (filled question_argument) { index = Some 1 }) refl refl refl (λ v. question_id _ v)

connections_sound : IsSound IsNumber (filled connections_option)
connections_sound = option_sound IsNumber (filled connections_option) refl refl refl (λ v passed same. (refl, number_kinds v (neither _ [] passed).0))

top_sound : AllSound IsNumber (built command_line).top.rules
top_sound = (help_sound, (version_sound, tt))

create_sound : AllSound IsNumber create_shape.rules
create_sound = (file_sound true, (help_sound, tt))

ask_sound : AllSound IsNumber ask_shape.rules
ask_sound = (file_sound true, (question_sound, (help_sound, tt)))

dump_sound : AllSound IsNumber dump_shape.rules
dump_sound = (file_sound true, (definitions_sound, (table_sound, (help_sound, tt))))

serve_sound : AllSound IsNumber serve_shape.rules
serve_sound = (file_sound true, (listen_sound, (connections_sound, (help_sound, tt))))

no_value : (v : Text) (vs : List Text) → [] ≡ v ∷ vs → ⊥
no_value v vs e = cc

create_defaults : AllDefaults IsNumber create_shape.rules
create_defaults = ((λ v vs e. absurd (no_value v vs e)), ((λ v vs e. absurd (no_value v vs e)), tt))

ask_defaults : AllDefaults IsNumber ask_shape.rules
ask_defaults = ((λ v vs e. absurd (no_value v vs e)), ((λ v vs e. absurd (no_value v vs e)), ((λ v vs e. absurd (no_value v vs e)), tt)))

dump_defaults : AllDefaults IsNumber dump_shape.rules
dump_defaults = (
  (λ v vs e. absurd (no_value v vs e)),
  ((λ v vs e. definitions_id _ v), ((λ v vs e. absurd (no_value v vs e)), ((λ v vs e. absurd (no_value v vs e)), tt))),
)

one_is_taken : (v : Text) (vs : List Text) → codes "1" ∷ [] ≡ v ∷ vs → accepts false (Signed (pos 1) (pos 1000000)) v ≡ true
one_is_taken v vs e =
    let same : codes "1" ≡ v = cc in
    subst (λ (t : Text). accepts false (Signed (pos 1) (pos 1000000)) t ≡ true) same refl

serve_defaults : AllDefaults IsNumber serve_shape.rules
serve_defaults = (
  (λ v vs e. absurd (no_value v vs e)),
  ((λ v vs e. listen_id _ v), ((λ v vs e same. (refl, one_is_taken v vs e)), ((λ v vs e. absurd (no_value v vs e)), tt))),
)

-- ---- what each command asks

some_map : {X Y : Type 0} (f : X → Y) (o : Option X) → IsSome o → IsSome (option_map f o)
some_map f None h = h
some_map f (Some x) h = refl

all_three : (file address : Option Text) (number : Option ℕ) → IsSome file → IsSome address → IsSome number
    → IsSome (option_and_then (λ file. option_and_then (λ address. option_map (serves file address) number) address) file)
all_three None address number a b c = a
all_three (Some f) None number a b c = b
all_three (Some f) (Some d) number a b c = some_map (serves f d) number c

-- a command that needs its file was given one
needs_file : (rows : List Row) → check_fault create_shape rows false ≡ [] → is_given (codes "file") rows ≡ true
needs_file rows e = go (is_given (codes "file") rows) refl
  where
    go : (b : Bool) → is_given (codes "file") rows ≡ b → b ≡ true
    go true same = refl
    go false same = absurd (no_kind MissingRequiredArgument [] (rw same at e))

ask_needs_file : (rows : List Row) → check_fault ask_shape rows false ≡ [] → is_given (codes "file") rows ≡ true
ask_needs_file rows e = go (is_given (codes "file") rows) refl
  where
    go : (b : Bool) → is_given (codes "file") rows ≡ b → b ≡ true
    go true same = refl
    go false same = absurd (no_kind MissingRequiredArgument [] (rw same at e))

dump_needs_file : (rows : List Row) → check_fault dump_shape rows false ≡ [] → is_given (codes "file") rows ≡ true
dump_needs_file rows e = go (is_given (codes "file") rows) refl
  where
    go : (b : Bool) → is_given (codes "file") rows ≡ b → b ≡ true
    go true same = refl
    go false same = absurd (no_kind MissingRequiredArgument [] (rw same at e))

serve_needs_file : (rows : List Row) → check_fault serve_shape rows false ≡ [] → is_given (codes "file") rows ≡ true
serve_needs_file rows e = go (is_given (codes "file") rows) refl
  where
    go : (b : Bool) → is_given (codes "file") rows ≡ b → b ≡ true
    go true same = refl
    go false same = absurd (no_kind MissingRequiredArgument [] (rw same at e))

create_asks : (words : List Text) → level_fault create_shape [] nothing_held words false [] ≡ [] → IsSome (asked_by (rows_at create_shape words))
create_asks words e =
    let end = level_end create_shape words create_sound create_defaults e in
    let rows = rows_after create_shape.rules [] words in
    some_map creates (file_in rows) (first_text rows (codes "file") end.0 (given_row rows (codes "file") (needs_file rows end.1)))

ask_asks : (words : List Text) → level_fault ask_shape [] nothing_held words false [] ≡ [] → IsSome (asked_by (rows_at ask_shape words))
ask_asks words e =
    let end = level_end ask_shape words ask_sound ask_defaults e in
    let rows = rows_after ask_shape.rules [] words in
    some_map (λ (file : Text). asks file (unwrap_or (all_of (codes "question") rows) [])) (file_in rows)
    (first_text rows (codes "file") end.0 (given_row rows (codes "file") (ask_needs_file rows end.1)))

dump_asks : (words : List Text) → level_fault dump_shape [] nothing_held words false [] ≡ [] → IsSome (asked_by (rows_at dump_shape words))
dump_asks words e =
    let end = level_end dump_shape words dump_sound dump_defaults e in
    let rows = rows_after dump_shape.rules [] words in
    some_map (λ (file : Text). dumps file (first_of (codes "table") rows) (flag_in (codes "definitions") rows)) (file_in rows)
    (first_text rows (codes "file") end.0 (given_row rows (codes "file") (dump_needs_file rows end.1)))

-- the defaults of `serve` leave no gap
serve_rows : (words : List Text)
    → (has_row (codes "listen") (rows_after serve_shape.rules [] words) ≡ true) × (has_row (codes "connections") (rows_after serve_shape.rules [] words) ≡ true)
serve_rows words =
    let held = (settled serve_shape.rules (walk serve_shape.rules [] nothing_held words).held).rows in
    let files = with_default held (filled (file_option true)) in
    let listens = with_default files (filled listen_option) in
    let counts = with_default listens (filled connections_option) in (
      default_keeps_row (codes "listen") (filled help_rule) counts
          (default_keeps_row (codes "listen") (filled connections_option) listens (default_gives_row (filled listen_option) files (codes "127.0.0.1:7400") [] refl)),
      default_keeps_row (codes "connections") (filled help_rule) counts (default_gives_row (filled connections_option) listens (codes "1") [] refl),
    )

serve_asks : (words : List Text) → level_fault serve_shape [] nothing_held words false [] ≡ [] → IsSome (asked_by (rows_at serve_shape words))
serve_asks words e =
    let end = level_end serve_shape words serve_sound serve_defaults e in
    let rows = rows_after serve_shape.rules [] words in
    let has = serve_rows words in
    all_three (file_in rows) (address_in rows) (connections_in rows)
    (first_text rows (codes "file") end.0 (given_row rows (codes "file") (serve_needs_file rows end.1)))
    (first_text rows (codes "listen") end.0 has.0)
    (number_given rows end.0 has.1)

-- the words ask for the help of a command, which is a fault of theirs
names_no_help : (name word : Text) (h : Held) → other_fault (built command_line).top (Some name) word h ≡ [] → bytes_eq name (codes "help") ≡ false
names_no_help name word h e = go (bytes_eq name (codes "help")) refl
  where
    go : (b : Bool) → bytes_eq name (codes "help") ≡ b → b ≡ false
    go true same = absurd (no_kind DisplayHelp (InvalidSubcommand ∷ []) (rw same at e))
    go false same = refl

no_help_met : (name : Text) → bytes_eq name (codes "help") ≡ false → (bytes_eq (codes "help") name || false) ≡ true → ⊥
no_help_met name other same = go (bytes_eq (codes "help") name) refl same
  where
    go : (b : Bool) → bytes_eq (codes "help") name ≡ b → (b || false) ≡ true → ⊥
    go true same e =
        let is : codes "help" ≡ name = (bytes_eq-Decides (codes "help") name).0 same in
        true≢false (sym ((bytes_eq-Decides name (codes "help")).1 (sym is)) ∙ other)
    go false same e = true≢false (sym e)

-- the command that was met, one of those that there are
met : (words : List Text) (a b k c t d e f g : Bool) → (g ≡ true → ⊥)
    → option_map_or (λ s. level_fault s [] nothing_held words false []) (cond a (Some create_shape) (cond b (Some run_shape) (cond k (Some ask_shape) (cond c (Some csv_shape) (cond t (Some table_shape) (cond d (Some dump_shape) (cond e (Some explain_shape) (cond f (Some serve_shape) (cond g (Some help_leaf) None))))))))) [] ≡ []
    → is_some (option_map (λ s. rows_at s words) (cond a (Some create_shape) (cond b (Some run_shape) (cond k (Some ask_shape) (cond c (Some csv_shape) (cond t (Some table_shape) (cond d (Some dump_shape) (cond e (Some explain_shape) (cond f (Some serve_shape) (cond g (Some help_leaf) None)))))))))) ≡ true
    → IsSome (option_and_then asked_by (option_map (λ s. rows_at s words) (cond a (Some create_shape) (cond b (Some run_shape) (cond k (Some ask_shape) (cond c (Some csv_shape) (cond t (Some table_shape) (cond d (Some dump_shape) (cond e (Some explain_shape) (cond f (Some serve_shape) (cond g (Some help_leaf) None)))))))))))
met words true b k c t d e f g other fault has = create_asks words fault
met words false true k c t d e f g other fault has = refl
met words false false true c t d e f g other fault has = ask_asks words fault
met words false false false true t d e f g other fault has = refl
met words false false false false true d e f g other fault has = refl
met words false false false false false true e f g other fault has = dump_asks words fault
met words false false false false false false true f g other fault has = refl
met words false false false false false false false true g other fault has = serve_asks words fault
met words false false false false false false false false true other fault has = absurd (other refl)
met words false false false false false false false false false other fault has = absurd (true≢false (sym has))

-- a command is demanded
demanded : (rows : List Row) (has : Bool) → check_fault (built command_line).top rows has ≡ [] → has ≡ true
demanded rows true e = refl
demanded rows false e = absurd (no_kind MissingSubcommand [] e)

entered_asks : (stop : Option (Text × List Text)) → IfSome stop (λ p. bytes_eq p.0 (codes "help") ≡ false) → entered_fault (built command_line) stop ≡ []
    → is_some (entered (built command_line) stop) ≡ true → IsSome (option_and_then asked_by (entered (built command_line) stop))
entered_asks None other e has = absurd (true≢false (sym has))
entered_asks (Some p) other e has =
    met p.1 (answers_to p.0 (codes "create", [])) (answers_to p.0 (codes "run", [])) (answers_to p.0 (codes "ask", [])) (answers_to p.0 (codes "csv", [])) (answers_to p.0 (codes "table", [])) (answers_to p.0 (codes "dump", [])) (answers_to p.0 (codes "explain", [])) (answers_to p.0 (codes "serve", [])) (answers_to p.0 (codes "help", []))
    (no_help_met p.0 other) e has

pub words_ask : (words : List Text) → fault_of command_line words ≡ [] → IsSome (asked_of words)
words_ask words e =
    let app = built command_line in
    let rest = argument_words command_line words in
    let stop = (walk app.top.rules (names_of app) nothing_held rest).stopped in
    let end = (walk app.top.rules (names_of app) nothing_held rest).held in
    let first = neither (walk_fault app.top (names_of app) (walk_from nothing_held) rest) _ e in
    let second = neither (entered_fault app stop) _ first.1 in
    let third = neither (settle_fault app.top.rules app.top.args_override_self end) _ second.1 in
    let fourth = neither (defaults_fault (settled app.top.rules end).rows app.top.rules) _ third.1 in
    let walked = walk_good IsNumber (λ name. bytes_eq name (codes "help") ≡ false) app.top (names_of app) top_sound names_no_help rest (walk_from nothing_held) first.0 (tt, tt) in
    entered_asks stop walked.1 second.0 (demanded (finished app.top.rules end) (is_some (entered app stop)) fourth.1)
