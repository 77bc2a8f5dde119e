-- The law of the grammar's table: reading with one token ahead finds the commands, and the first token
-- that fits no rule.
use Rattle.std.proofs.Common.{◌≡◌, Bool, true, false, List, [], ◌∷◌, ◌++◌, Option, Some, None, Ok, Err, refl, sym, ap, ◌∙◌, subst, inl, inr, ⊎_elim, append_assoc, append-nil}
use Rattle.std.specs.Prelude.{◌⊎◌, ◌&&◌, ◌||◌, if◌then◌else◌}
use Rattle.std.proofs.lemmas.Bool.{false≢true, and_parts}
use Rattle.std.proofs.lemmas.List.{append_cancel_right}
use Rattle.rs_grammar.specs.declared.kind.TokenKind.{TokenKind}
use Rattle.rs_grammar.specs.declared.kind.TokenKind.TheVariants as kinds
use Rattle.rs_grammar.specs.Grammar as g
use Rattle.rs_grammar.specs.Grammar.{Part, Form, done, fail, pick, sub, rules, Derives, nothing, this, that, part, IsCommand, IsViable}
use Rattle.rs_grammar.specs.Reading.{Lacks, Runs, is_done, is_fail, takes, skips, through, stops_in, gives_up}
use Rattle.rs_grammar.proofs.ExactReading.{Frame, frame, sound, or-cases, checked, exact}
pub use Rattle.rs_grammar.proofs.ExactReading.{Outcome}

-- Reading looks at one token of what it leaves.
abbrev SameNext : List TokenKind → List TokenKind → Type 0
SameNext [] [] = Unit {0}
SameNext [] (b ∷ bs) = ⊥
SameNext (a ∷ more) [] = ⊥
SameNext (a ∷ more) (b ∷ bs) = a ≡ b

SameNext-append : (front left other : List TokenKind) → SameNext left other → SameNext (front ++ left) (front ++ other)
SameNext-append [] left other s = s
SameNext-append (first ∷ front) left other s = refl

Lacks-same : (kind : TokenKind) (left other : List TokenKind) → SameNext left other → Lacks kind left → Lacks kind other
Lacks-same kind [] [] s l = tt
Lacks-same kind [] (b ∷ bs) s l = absurd s
Lacks-same kind (a ∷ more) [] s l = absurd s
Lacks-same kind (a ∷ more) (b ∷ bs) s l = λ e. l (s ∙ e)

abbrev pub left_in : Outcome → List TokenKind
left_in (Ok left) = left
left_in (Err None) = []
left_in (Err (Some left)) = left

abbrev halt_with : Option (List TokenKind) → List TokenKind → Option (List TokenKind)
halt_with None others = None
halt_with (Some left) others = Some others

abbrev outcome_with : Outcome → List TokenKind → Outcome
outcome_with (Ok left) others = Ok others
outcome_with (Err halt) others = Err (halt_with halt others)

abbrev Local : Form → List TokenKind → Outcome → Type 0
Local form tokens outcome = (front : List TokenKind) × (tokens ≡ front ++ left_in outcome)
    × ((others : List TokenKind) → SameNext (left_in outcome) others → Runs form (front ++ others) (outcome_with outcome others))

local : {form : Form} {tokens : List TokenKind} {outcome : Outcome} → Runs form tokens outcome → Local form tokens outcome
local is_done = ([], refl, λ others s. is_done)
local is_fail = ([], refl, λ others s. is_fail)
local (takes {kind = kind} run) = let l = local run in (kind ∷ l.0, ap (λ ts. kind ∷ ts) l.1, λ others s. takes (l.2 others s))
local {outcome = outcome} (skips {kind = kind} lacks run) =
    let l = local run in
    (l.0, l.1, λ others s. skips (Lacks-same kind (l.0 ++ left_in outcome) (l.0 ++ others) (SameNext-append l.0 (left_in outcome) others s) (subst (Lacks kind) l.1 lacks)) (l.2 others s))
local {outcome = outcome} (through {p = p} {form = form} {middle = middle} run more) =
    let l = local run in
    let m = local more in (
      l.0 ++ m.0,
      l.1 ∙ ap (λ ts. l.0 ++ ts) m.1 ∙ sym (append_assoc l.0 m.0 (left_in outcome)),
      λ others s. subst (λ ts. Runs (sub p form) ts (outcome_with outcome others)) (sym (append_assoc l.0 m.0 others))
          (through (l.2 (m.0 ++ others) (subst (λ ts. SameNext ts (m.0 ++ others)) (sym m.1) (SameNext-append m.0 (left_in outcome) others s))) (m.2 others s)),
    )
local (stops_in run) = let l = local run in (l.0, l.1, λ others s. stops_in (l.2 others s))
local {tokens = tokens} gives_up = (tokens, sym (append-nil tokens), λ others s. gives_up)

-- A sample of what a form asks for, given one of each part.
abbrev completes : Form → Bool
completes done = true
completes fail = false
completes (pick kind form other) = completes other || completes form
completes (sub p form) = completes form

abbrev sample : (Part → List TokenKind) → Form → List TokenKind
sample samples done = []
sample samples fail = []
sample samples (pick kind form other) = if completes other then sample samples other else kind ∷ sample samples form
sample samples (sub p form) = samples p ++ sample samples form

-- a sample of each part
abbrev word : Part → List TokenKind
word g.command = kinds.Drop ∷ kinds.View ∷ kinds.Name ∷ []
word g.place = kinds.At ∷ kinds.Whole ∷ []
word g.columns = kinds.Name ∷ kinds.Int ∷ []
word g.column = kinds.Name ∷ kinds.Int ∷ []
word g.values = kinds.Null ∷ []
word g.value = kinds.Null ∷ []
word g.measure = kinds.Whole ∷ []
word g.query = kinds.Name ∷ []
word g.position = kinds.Whole ∷ []
word g.method = kinds.Absolute ∷ []
word g.column_name = kinds.Name ∷ []
word g.names = kinds.Name ∷ []
word g.bracketed_names = kinds.LeftParen ∷ kinds.RightParen ∷ []
word g.window = kinds.Name ∷ []
word g.condition = kinds.Name ∷ kinds.Is ∷ kinds.Null ∷ []
word g.conjunction = kinds.Name ∷ kinds.Is ∷ kinds.Null ∷ []
word g.atom = kinds.Name ∷ kinds.Is ∷ kinds.Null ∷ []
word g.comparison = kinds.Equal ∷ []
word g.operand = kinds.Name ∷ []
word g.pieces = kinds.Name ∷ kinds.From ∷ kinds.Whole ∷ kinds.To ∷ kinds.Whole ∷ kinds.Into ∷ kinds.Name ∷ kinds.At ∷ kinds.Whole ∷ []
word g.piece = kinds.Name ∷ kinds.From ∷ kinds.Whole ∷ kinds.To ∷ kinds.Whole ∷ kinds.Into ∷ kinds.Name ∷ kinds.At ∷ kinds.Whole ∷ []

abbrev IsSample : Form → List TokenKind → Type 0
IsSample form tokens = (others : List TokenKind) → Derives form (tokens ++ others) others

sample_derived : (samples : Part → List TokenKind) → ((p : Part) → IsSample (rules p) (samples p)) → (form : Form) → completes form ≡ true → IsSample form (sample samples form)
sample_derived samples known done e others = nothing
sample_derived samples known fail e others = absurd (false≢true e)
sample_derived samples known (pick kind form other) e others =
    elim (completes other) as (λ b. completes other ≡ b → Derives (pick kind form other) ((if b then sample samples other else kind ∷ sample samples form) ++ others) others) [
      | true ↦ λ c. that (sample_derived samples known other c others)
      | false ↦ λ c. this (sample_derived samples known form (⊎_elim (λ h. absurd (false≢true (sym c ∙ h))) (λ h. h) (or-cases (completes other) (completes form) e)) others)
    ] refl
sample_derived samples known (sub p form) e others =
    subst (λ ts. Derives (sub p form) ts others) (sym (append_assoc (samples p) (sample samples form) others))
    (part (known p (sample samples form ++ others)) (sample_derived samples known form e others))

word_derived : (p : Part) → IsSample (rules p) (word p)
unfolding rules
word_derived g.command others = that (this (that (that (this (this nothing)))))
word_derived g.place others = that (this (part (that (part (this nothing) (that nothing))) nothing))
word_derived g.columns others = part (this (this nothing)) (that nothing)
word_derived g.column others = this (this nothing)
word_derived g.values others = part (this nothing) (that nothing)
word_derived g.value others = this nothing
word_derived g.measure others = this nothing
word_derived g.query others = that (that (that (that (that (that (that (that (that (that (this nothing))))))))))
word_derived g.position others = that (part (this nothing) (that nothing))
word_derived g.method others = this nothing
word_derived g.column_name others = this nothing
word_derived g.names others = part (this nothing) (that nothing)
word_derived g.bracketed_names others = this (this nothing)
word_derived g.window others = this (that nothing)
word_derived g.condition others = part (part (that (that (this (this (that (this nothing)))))) (that nothing)) (that nothing)
word_derived g.conjunction others = part (that (that (this (this (that (this nothing)))))) (that nothing)
word_derived g.atom others = that (that (this (this (that (this nothing)))))
word_derived g.comparison others = this nothing
word_derived g.operand others = this nothing
word_derived g.pieces others = part (this (this (part (this nothing) (this (part (this nothing) (this (this (this (part (this nothing) nothing))))))))) (that nothing)
word_derived g.piece others = this (this (part (this nothing) (this (part (this nothing) (this (this (this (part (this nothing) nothing))))))))

-- a form can be completed after each of its tokens
abbrev is_productive : Form → Bool
is_productive done = true
is_productive fail = true
is_productive (pick kind form other) = completes form && (is_productive form && is_productive other)
is_productive (sub p form) = completes form && is_productive form

sample_of : Form → List TokenKind
sample_of form = sample word form

sample_of_derived : (form : Form) → completes form ≡ true → IsSample form (sample_of form)
unfolding sample_of
sample_of_derived form e = sample_derived word word_derived form e

productive : (p : Part) → is_productive (rules p) ≡ true
unfolding rules
productive g.command = refl
productive g.place = refl
productive g.columns = refl
productive g.column = refl
productive g.values = refl
productive g.value = refl
productive g.measure = refl
productive g.query = refl
productive g.position = refl
productive g.method = refl
productive g.column_name = refl
productive g.names = refl
productive g.bracketed_names = refl
productive g.window = refl
productive g.condition = refl
productive g.conjunction = refl
productive g.atom = refl
productive g.comparison = refl
productive g.operand = refl
productive g.pieces = refl
productive g.piece = refl

-- What was read before a fault can be completed, unless nothing was read.
abbrev GoesOn : Form → List TokenKind → List TokenKind → Type 0
GoesOn form tokens left = (left ≡ tokens) ⊎ ((front : List TokenKind) × (more : List TokenKind) × (tokens ≡ front ++ left) × ((others : List TokenKind) → Derives form (front ++ (more ++ others)) others))

abbrev Completes : Form → List TokenKind → Outcome → Type 0
Completes form tokens (Ok left) = Unit {0}
Completes form tokens (Err None) = Unit {0}
Completes form tokens (Err (Some left)) = GoesOn form tokens left

Completes-takes : (kind : TokenKind) (form other : Form) (tokens : List TokenKind) (outcome : Outcome) → completes form ≡ true
    → Completes form tokens outcome → Completes (pick kind form other) (kind ∷ tokens) outcome
Completes-takes kind form other tokens (Ok left) c e = tt
Completes-takes kind form other tokens (Err None) c e = tt
Completes-takes kind form other tokens (Err (Some left)) c e =
    ⊎_elim
    (λ none. inr (kind ∷ [], sample_of form, ap (λ ts. kind ∷ ts) (sym none), λ others. this (sample_of_derived form c others)))
    (λ s. inr (kind ∷ s.0, s.1, ap (λ ts. kind ∷ ts) s.2, λ others. this (s.3 others)))
    e

Completes-skips : (kind : TokenKind) (form other : Form) (tokens : List TokenKind) (outcome : Outcome)
    → Completes other tokens outcome → Completes (pick kind form other) tokens outcome
Completes-skips kind form other tokens (Ok left) e = tt
Completes-skips kind form other tokens (Err None) e = tt
Completes-skips kind form other tokens (Err (Some left)) e = ⊎_elim (λ none. inl none) (λ s. inr (s.0, s.1, s.2, λ others. that (s.3 others))) e

Completes-through : (p : Part) (form : Form) (tokens middle : List TokenKind) (outcome : Outcome) → completes form ≡ true
    → Frame (rules p) tokens middle → Completes form middle outcome → Completes (sub p form) tokens outcome
Completes-through p form tokens middle (Ok left) c f e = tt
Completes-through p form tokens middle (Err None) c f e = tt
Completes-through p form tokens middle (Err (Some left)) c f e =
    ⊎_elim
    (λ none. inr (f.0, sample_of form, f.1 ∙ ap (λ ts. f.0 ++ ts) (sym none), λ others. part (f.2 (sample_of form ++ others)) (sample_of_derived form c others)))
    (λ s. inr (
      f.0 ++ s.0,
      s.1,
      f.1 ∙ ap (λ ts. f.0 ++ ts) s.2 ∙ sym (append_assoc f.0 s.0 left),
      λ others. subst (λ ts. Derives (sub p form) ts others) (sym (append_assoc f.0 s.0 (s.1 ++ others))) (part (f.2 (s.0 ++ (s.1 ++ others))) (s.3 others)),
    ))
    e

Completes-stops : (p : Part) (form : Form) (tokens : List TokenKind) (halt : Option (List TokenKind)) → completes form ≡ true
    → Completes (rules p) tokens (Err halt) → Completes (sub p form) tokens (Err halt)
Completes-stops p form tokens None c e = tt
Completes-stops p form tokens (Some left) c e =
    ⊎_elim
    (λ none. inl none)
    (λ s. inr (
      s.0,
      s.1 ++ sample_of form,
      s.2,
      λ others. subst (λ ts. Derives (sub p form) (s.0 ++ ts) others) (sym (append_assoc s.1 (sample_of form) others)) (part (s.3 (sample_of form ++ others)) (sample_of_derived form c others)),
    ))
    e

completed : {form : Form} {tokens : List TokenKind} {outcome : Outcome} → Runs form tokens outcome → is_productive form ≡ true → Completes form tokens outcome
completed is_done e = tt
completed is_fail e = inl refl
completed {outcome = outcome} (takes {kind = kind} {form = form} {other = other} {tokens = tokens} run) e =
    let p = and_parts (completes form) (is_productive form && is_productive other) e in
    Completes-takes kind form other tokens outcome p.0 (completed run (and_parts (is_productive form) (is_productive other) p.1).0)
completed {tokens = tokens} {outcome = outcome} (skips {kind = kind} {form = form} {other = other} lacks run) e =
    let p = and_parts (completes form) (is_productive form && is_productive other) e in
    Completes-skips kind form other tokens outcome (completed run (and_parts (is_productive form) (is_productive other) p.1).1)
completed {tokens = tokens} {outcome = outcome} (through {p = p} {form = form} {middle = middle} run more) e =
    let q = and_parts (completes form) (is_productive form) e in
    Completes-through p form tokens middle outcome q.0 (frame (sound run middle refl)) (completed more q.1)
completed {tokens = tokens} (stops_in {p = p} {form = form} {halt = halt} run) e =
    let q = and_parts (completes form) (is_productive form) e in
    Completes-stops p form tokens halt q.0 (completed run (productive p))
completed gives_up e = tt

command_completes : completes (rules g.command) ≡ true
unfolding rules
command_completes = refl

-- lists with the same end
append_same : (xs ys zs : List TokenKind) → xs ++ zs ≡ ys ++ zs → xs ≡ ys
append_same xs ys zs e = append_cancel_right xs ys zs e

-- Reading a command finds the first token that fits no rule.
abbrev pub Read : List TokenKind → Outcome → Type 0
Read tokens outcome = Runs (rules g.command) tokens outcome

pub is_command : (tokens : List TokenKind) → Read tokens (Ok []) → IsCommand tokens
is_command tokens run = sound run [] refl

-- the tokens before what is left
pub front_of : (tokens : List TokenKind) (outcome : Outcome) → Read tokens outcome → (front : List TokenKind) × (tokens ≡ front ++ left_in outcome)
front_of tokens outcome run = let l = local run in (l.0, l.1)

viable_ok : (tokens left front : List TokenKind) → Read tokens (Ok left) → tokens ≡ front ++ left → IsViable front
viable_ok tokens left front run e =
    let f = frame (sound run left refl) in
    ([], subst (λ ts. Derives (rules g.command) (ts ++ []) []) (append_same f.0 front left (sym f.1 ∙ e)) (f.2 []))

viable_err : (tokens left front : List TokenKind) → Read tokens (Err (Some left)) → tokens ≡ front ++ left → IsViable front
viable_err tokens left front run e =
    ⊎_elim
    (λ none. (sample_of (rules g.command), subst (λ ts. Derives (rules g.command) (ts ++ sample_of (rules g.command)) []) (append_same [] front left (none ∙ e)) (subst (λ ts. Derives (rules g.command) ts []) (append-nil (sample_of (rules g.command))) (sample_of_derived (rules g.command) command_completes []))))
    (λ s. (s.1 ++ [], subst (λ ts. Derives (rules g.command) (ts ++ (s.1 ++ [])) []) (append_same s.0 front left (sym s.2 ∙ e)) (s.3 [])))
    (completed run (productive g.command))

-- what can't be: no command begins with the tokens up to the fault and with it
not_viable_err : (tokens front left : List TokenKind) (kind : TokenKind) → Read tokens (Err (Some (kind ∷ left))) → tokens ≡ front ++ kind ∷ left → IsViable (front ++ kind ∷ []) → ⊥
not_viable_err tokens front left kind run e v =
    let l = local run in
    let same : l.0 ≡ front = append_same l.0 front (kind ∷ left) (sym l.1 ∙ e) in
    let again : Read (front ++ kind ∷ v.0) (Err (Some (kind ∷ v.0))) = subst (λ ts. Read (ts ++ kind ∷ v.0) (Err (Some (kind ∷ v.0)))) same (l.2 (kind ∷ v.0) refl) in
    exact again (checked g.command).clear [] (subst IsCommand (append_assoc front (kind ∷ []) v.0) v.1) tt

not_viable_ok : (tokens front left : List TokenKind) (kind : TokenKind) → Read tokens (Ok (kind ∷ left)) → tokens ≡ front ++ kind ∷ left → IsViable (front ++ kind ∷ []) → ⊥
not_viable_ok tokens front left kind run e v =
    let l = local run in
    let same : l.0 ≡ front = append_same l.0 front (kind ∷ left) (sym l.1 ∙ e) in
    let again : Read (front ++ kind ∷ v.0) (Ok (kind ∷ v.0)) = subst (λ ts. Read (ts ++ kind ∷ v.0) (Ok (kind ∷ v.0))) same (l.2 (kind ∷ v.0) refl) in
    let none : kind ∷ v.0 ≡ [] = exact again (checked g.command).clear [] (subst IsCommand (append_assoc front (kind ∷ []) v.0) v.1) tt in
    cc

not_command : (tokens : List TokenKind) → Read tokens (Err (Some [])) → IsCommand tokens → ⊥
not_command tokens run d = exact run (checked g.command).clear [] d tt

-- where reading stops before the end, or leaves tokens
abbrev pub StopsAt : List TokenKind → List TokenKind → Type 0
StopsAt tokens left = Read tokens (Ok left) ⊎ Read tokens (Err (Some left))

pub is_viable : (tokens left front : List TokenKind) → StopsAt tokens left → tokens ≡ front ++ left → IsViable front
is_viable tokens left front s e = ⊎_elim (λ run. viable_ok tokens left front run e) (λ run. viable_err tokens left front run e) s

pub is_not_viable : (tokens front left : List TokenKind) (kind : TokenKind) → StopsAt tokens (kind ∷ left) → tokens ≡ front ++ kind ∷ left → IsViable (front ++ kind ∷ []) → ⊥
is_not_viable tokens front left kind s e v = ⊎_elim (λ run. not_viable_ok tokens front left kind run e v) (λ run. not_viable_err tokens front left kind run e v) s

pub is_no_command : (tokens : List TokenKind) → Read tokens (Err (Some [])) → IsCommand tokens → ⊥
is_no_command tokens run d = not_command tokens run d
