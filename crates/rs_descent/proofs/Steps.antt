-- Steps of reading by a form.
use Rattle.std.proofs.Common.{◌≡◌, ◌<◌, ◌≤◌, suc, length, List, [], ◌∷◌, ◌++◌, Option, Some, Result, Ok, Err, refl, sym, ap, ◌∙◌, subst, append_assoc, append-nil, arith, length-append}
use Rattle.std.specs.Prelude.{MatchResult, IfOk}
use Rattle.std.specs.Borrow.{Bor}
use Rattle.rs_grammar.specs.declared.kind.TokenKind.{TokenKind}
use Rattle.rs_lexer.specs.declared.token.Token.{Token}
use Rattle.rs_descent.specs.declared.front.Stop.{Stop}
use Rattle.rs_lexer.specs.Lexis.{kinds_of}
use Rattle.rs_syntax.specs.Written.{Lexeme, mark, list_lexemes, further_lexemes, lexemes_of}
use Rattle.rs_grammar.specs.Grammar.{Part, Form, done, pick, sub, need, rules}
use Rattle.rs_descent.specs.Reading.{Lacks, halt_of, RunsTo, leading_lexemes, Runs, is_done, is_fail, takes, skips, through, stops_in}

-- the token wanted stands at the front
pub takes_as : {kind : TokenKind} {form other : Form} {tokens rest : List TokenKind} {outcome : Result (List TokenKind) (Option (List TokenKind))}
    → tokens ≡ kind ∷ rest → Runs form rest outcome → Runs (pick kind form other) tokens outcome
takes_as {kind} {form} {other} {tokens} {rest} {outcome} e run = subst (λ ts. Runs (pick kind form other) ts outcome) (sym e) (takes run)

-- the token wanted doesn't stand at the front
pub misses : {kind : TokenKind} {form : Form} {tokens : List TokenKind} {halt : Option (List TokenKind)}
    → Lacks kind tokens × (halt ≡ Some tokens) → Runs (need kind form) tokens (Err halt)
misses {kind} {form} {tokens} {halt} m = subst (λ h. Runs (need kind form) tokens (Err h)) (sym m.1) (skips m.0 is_fail)

-- a part read whole, after which its form asks for nothing
pub alone_through : {p : Part} {tokens : List TokenKind} {outcome : Result (List TokenKind) (Option (List TokenKind))}
    → Runs (rules p) tokens outcome → Runs (sub p done) tokens outcome
alone_through {outcome = Ok rest} run = through run is_done
alone_through {outcome = Err halt} run = stops_in run

-- the same of what a function answers
pub RunsTo-skips : {X : Type 0} (kind : TokenKind) (form other : Form) (tokens : List Token) (answer : Result (X × Bor (List Token)) Stop)
    → Lacks kind (kinds_of tokens) → RunsTo other tokens answer → RunsTo (pick kind form other) tokens answer
RunsTo-skips kind form other tokens (Ok found) lacks run = skips lacks run
RunsTo-skips kind form other tokens (Err stop) lacks run = skips lacks run

pub RunsTo-takes : {X : Type 0} (kind : TokenKind) (form other : Form) (tokens rest : List Token) (answer : Result (X × Bor (List Token)) Stop)
    → kinds_of tokens ≡ kind ∷ kinds_of rest → RunsTo form rest answer → RunsTo (pick kind form other) tokens answer
RunsTo-takes kind form other tokens rest (Ok found) e run = takes_as e run
RunsTo-takes kind form other tokens rest (Err stop) e run = takes_as e run

-- what a function answers after what a form begins with
pub RunsTo-after : {X : Type 0} (form other : Form) (tokens rest : List Token) (answer : Result (X × Bor (List Token)) Stop)
    → ((outcome : Result (List TokenKind) (Option (List TokenKind))) → Runs form (kinds_of rest) outcome → Runs other (kinds_of tokens) outcome)
    → RunsTo form rest answer → RunsTo other tokens answer
RunsTo-after form other tokens rest (Ok found) before run = before (Ok (kinds_of found.1.now)) run
RunsTo-after form other tokens rest (Err stop) before run = before (Err (halt_of stop)) run

-- fewer tokens are left than some of which fewer are left
pub shorter-after : {X : Type 0} (tokens rest : List Token) (answer : Result (X × Bor (List Token)) Stop) → length rest < length tokens
    → IfOk answer (λ found. length found.1.now < length rest) → IfOk answer (λ found. length found.1.now < length tokens)
shorter-after tokens rest (Ok found) h shorter = omega arith
shorter-after tokens rest (Err stop) h shorter = tt

pub RunsTo-need : (kind : TokenKind) (tokens : List Token) (answer : Result (Token × Bor (List Token)) Stop)
    → MatchResult answer (λ found. kinds_of tokens ≡ kind ∷ kinds_of found.1.now) (λ stop. Lacks kind (kinds_of tokens) × (halt_of stop ≡ Some (kinds_of tokens)))
    → RunsTo (need kind done) tokens answer
RunsTo-need kind tokens (Ok found) e = takes_as e is_done
RunsTo-need kind tokens (Err stop) m = misses m

-- what the loop over a list keeps
pub record IsListSoFar {A : Type 0} (kind : TokenKind) (form : Form) (lexemes : A → List Lexeme) (tokens : List Token) (items : List A) (rest : List Token) : Type 0 where
  pub runs : (outcome : Result (List TokenKind) (Option (List TokenKind))) → Runs form (kinds_of rest) outcome → Runs form (kinds_of tokens) outcome
  pub spelled : lexemes_of tokens ≡ leading_lexemes kind lexemes items (lexemes_of rest)

-- the items so far, and one more with its mark
leading_lexemes-push : {A : Type 0} (kind : TokenKind) (lexemes : A → List Lexeme) (items : List A) (item : A) (more : List Lexeme)
    → leading_lexemes kind lexemes (items ++ item ∷ []) more ≡ leading_lexemes kind lexemes items (lexemes item ++ mark kind ∷ more)
leading_lexemes-push kind lexemes [] item more = refl
leading_lexemes-push kind lexemes (first ∷ items) item more = ap (λ ps. lexemes first ++ mark kind ∷ ps) (leading_lexemes-push kind lexemes items item more)

further_lexemes-push : {A : Type 0} (kind : TokenKind) (lexemes : A → List Lexeme) (items : List A) (item : A) (more : List Lexeme)
    → further_lexemes kind lexemes (items ++ item ∷ []) ++ more ≡ mark kind ∷ leading_lexemes kind lexemes items (lexemes item ++ more)
further_lexemes-push kind lexemes [] item more = ap (λ ps. mark kind ∷ (ps ++ more)) (append-nil (lexemes item))
further_lexemes-push kind lexemes (first ∷ items) item more =
    ap (λ ps. mark kind ∷ ps) (append_assoc (lexemes first) (further_lexemes kind lexemes (items ++ item ∷ [])) more ∙ ap (λ ps. lexemes first ++ ps) (further_lexemes-push kind lexemes items item more))

-- the items so far and the last one are the list
list_lexemes-push : {A : Type 0} (kind : TokenKind) (lexemes : A → List Lexeme) (items : List A) (item : A) (more : List Lexeme)
    → list_lexemes kind lexemes (items ++ item ∷ []) ++ more ≡ leading_lexemes kind lexemes items (lexemes item ++ more)
list_lexemes-push kind lexemes [] item more = ap (λ ps. ps ++ more) (append-nil (lexemes item))
list_lexemes-push kind lexemes (first ∷ items) item more = append_assoc (lexemes first) (further_lexemes kind lexemes (items ++ item ∷ [])) more ∙ ap (λ ps. lexemes first ++ ps) (further_lexemes-push kind lexemes items item more)

-- reading goes on with the form of a list after a mark
module _ {A : Type 0} (kind : TokenKind) (p q : Part) (lexemes : A → List Lexeme) (is_list : rules q ≡ sub p (pick kind (sub q done) done)) where
  pub list-item : (tokens rest behind : List Token) (items : List A) (outcome : Result (List TokenKind) (Option (List TokenKind)))
      → IsListSoFar kind (rules q) lexemes tokens items rest → Runs (sub p (pick kind (sub q done) done)) (kinds_of rest) outcome → Runs (rules q) (kinds_of tokens) outcome
  list-item tokens rest behind items outcome before run = before.runs outcome (subst (λ form. Runs form (kinds_of rest) outcome) (sym is_list) run)

  pub list-next : (tokens rest behind next : List Token) (items : List A) (item : A) → IsListSoFar kind (rules q) lexemes tokens items rest
      → Runs (rules p) (kinds_of rest) (Ok (kinds_of behind)) → kinds_of behind ≡ kind ∷ kinds_of next
      → lexemes_of rest ≡ lexemes item ++ lexemes_of behind → lexemes_of behind ≡ mark kind ∷ lexemes_of next
      → IsListSoFar kind (rules q) lexemes tokens (items ++ item ∷ []) next
  list-next tokens rest behind next items item before run marked here there = record {
    runs = λ outcome further. list-item tokens rest behind items outcome before (through run (takes_as marked (alone_through further)));
    spelled = before.spelled ∙ ap (leading_lexemes kind lexemes items) (here ∙ ap (λ ps. lexemes item ++ ps) there) ∙ sym (leading_lexemes-push kind lexemes items item (lexemes_of next));
  }

  pub list-end : (tokens rest behind : List Token) (items : List A) (item : A) → IsListSoFar kind (rules q) lexemes tokens items rest
      → Runs (rules p) (kinds_of rest) (Ok (kinds_of behind)) → Lacks kind (kinds_of behind) → Runs (rules q) (kinds_of tokens) (Ok (kinds_of behind))
  list-end tokens rest behind items item before run lacks = list-item tokens rest behind items (Ok (kinds_of behind)) before (through run (skips lacks is_done))

  pub list-spelled : (tokens rest behind : List Token) (items : List A) (item : A) → IsListSoFar kind (rules q) lexemes tokens items rest
      → lexemes_of rest ≡ lexemes item ++ lexemes_of behind → lexemes_of tokens ≡ list_lexemes kind lexemes (items ++ item ∷ []) ++ lexemes_of behind
  list-spelled tokens rest behind items item before here =
      before.spelled ∙ ap (leading_lexemes kind lexemes items) here ∙ sym (list_lexemes-push kind lexemes items item (lexemes_of behind))

  pub list-stops : (tokens rest : List Token) (items : List A) (halt : Option (List TokenKind)) → IsListSoFar kind (rules q) lexemes tokens items rest
      → Runs (rules p) (kinds_of rest) (Err halt) → Runs (rules q) (kinds_of tokens) (Err halt)
  list-stops tokens rest items halt before run = list-item tokens rest rest items (Err halt) before (stops_in run)

length-lexemes_of : (tokens : List Token) → length (lexemes_of tokens) ≡ length tokens
length-lexemes_of [] = refl
length-lexemes_of (token ∷ tokens) = ap suc (length-lexemes_of tokens)

-- what is read before some tokens leaves no more of them
pub within : (tokens rest : List Token) (front : List Lexeme) → lexemes_of tokens ≡ front ++ lexemes_of rest → length rest ≤ length tokens
within tokens rest front e =
    omega (arith, ap length e, length-append front (lexemes_of rest), length-lexemes_of tokens, length-lexemes_of rest)

leading-within : {A : Type 0} (kind : TokenKind) (lexemes : A → List Lexeme) (items : List A) (more : List Lexeme) → length more ≤ length (leading_lexemes kind lexemes items more)
leading-within kind lexemes [] more = omega arith
leading-within kind lexemes (item ∷ items) more =
    let others = leading-within kind lexemes items more in
    let all = length-append (lexemes item) (mark kind ∷ leading_lexemes kind lexemes items more) in
    omega arith

-- the loop over a list is never before where it began
pub list-within : {A : Type 0} (kind : TokenKind) (form : Form) (lexemes : A → List Lexeme) (tokens rest : List Token) (items : List A)
    → IsListSoFar kind form lexemes tokens items rest → length rest ≤ length tokens
list-within kind form lexemes tokens rest items so_far =
    omega (arith, ap length so_far.spelled, leading-within kind lexemes items (lexemes_of rest), length-lexemes_of tokens, length-lexemes_of rest)
