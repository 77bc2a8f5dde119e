-- What is read by the table is derived, and what is derived is read. This holds of every table that passes the
-- checks below.
use Rattle.std.proofs.Common.{◌≡◌, Bool, true, false, List, [], ◌∷◌, ◌++◌, Option, Some, None, Result, Ok, Err, refl, sym, ap, ◌∙◌, subst, inl, inr, ⊎_elim, append_assoc}
use Rattle.std.specs.Prelude.{◌⊎◌, ◌&&◌, ◌||◌, not}
use Rattle.std.proofs.lemmas.Bool.{false≢true, and_parts}
use denote.Enum.Bare.{sameb, same_true, true_same}
use Rattle.rs_grammar.specs.contracts.kind.TokenKind.{the_type}
use Rattle.rs_grammar.specs.declared.kind.TokenKind.{TokenKind}
use Rattle.rs_grammar.specs.declared.kind.TokenKind.TheVariants as kinds
use Rattle.rs_grammar.specs.Grammar as g
use Rattle.rs_grammar.specs.Grammar.{Part, Form, done, fail, pick, sub, rules, Derives, nothing, this, that, part, IsCommand, IsViable}
use Rattle.rs_grammar.specs.Reading.{Lacks, Runs, is_done, is_fail, takes, skips, through, stops_in, gives_up}

abbrev pub Outcome : Type 0
Outcome = Result (List TokenKind) (Option (List TokenKind))

-- what a derivation is made of
abbrev MadeOf : Form → List TokenKind → List TokenKind → Type 0
MadeOf done tokens left = tokens ≡ left
MadeOf fail tokens left = ⊥
MadeOf (pick kind form other) tokens left = ((rest : List TokenKind) × (tokens ≡ kind ∷ rest) × Derives form rest left) ⊎ Derives other tokens left
MadeOf (sub p form) tokens left = (middle : List TokenKind) × Derives (rules p) tokens middle × Derives form middle left

made_of : {form : Form} {tokens left : List TokenKind} → Derives form tokens left → MadeOf form tokens left
made_of nothing = refl
made_of (this {tokens = rest} d) = inl (rest, refl, d)
made_of (that d) = inr d
made_of (part {middle = middle} d e) = (middle, d, e)

-- a derivation doesn't look at what is left
abbrev pub Frame : Form → List TokenKind → List TokenKind → Type 0
Frame form tokens left = (front : List TokenKind) × (tokens ≡ front ++ left) × ((others : List TokenKind) → Derives form (front ++ others) others)

pub frame : {form : Form} {tokens left : List TokenKind} → Derives form tokens left → Frame form tokens left
frame nothing = ([], refl, λ others. nothing)
frame (this {kind = kind} d) = let f = frame d in (kind ∷ f.0, ap (λ ts. kind ∷ ts) f.1, λ others. this (f.2 others))
frame (that d) = let f = frame d in (f.0, f.1, λ others. that (f.2 others))
frame (part {p = p} {form = form} {left = left} d e) =
    let f = frame d in
    let h = frame e in (
      f.0 ++ h.0,
      f.1 ∙ ap (λ ts. f.0 ++ ts) h.1 ∙ sym (append_assoc f.0 h.0 left),
      λ others. subst (λ ts. Derives (sub p form) ts others) (sym (append_assoc f.0 h.0 others)) (part (f.2 (h.0 ++ others)) (h.2 others)),
    )

-- what is read is derived
pub sound : {form : Form} {tokens : List TokenKind} {outcome : Outcome} → Runs form tokens outcome → (left : List TokenKind) → outcome ≡ Ok left → Derives form tokens left
sound {outcome = outcome} (is_done {tokens}) left e = let same : tokens ≡ left = cc in subst (Derives done tokens) same nothing
sound is_fail left e = absurd cc
sound (takes run) left e = this (sound run left e)
sound (skips lacks run) left e = that (sound run left e)
sound (through {middle = middle} run more) left e = part (sound run middle refl) (sound more left e)
sound (stops_in run) left e = absurd cc
sound gives_up left e = absurd cc

-- the kind is in the list
abbrev pub has : List TokenKind → TokenKind → Bool
has [] kind = false
has (first ∷ others) kind = sameb the_type first kind || has others kind

same-refl : (kind : TokenKind) → sameb the_type kind kind ≡ true
same-refl kind = true_same the_type kind kind refl

or-right : (a b : Bool) → b ≡ true → (a || b) ≡ true
or-right true b e = refl
or-right false b e = e

or-left : (a b : Bool) → a ≡ true → (a || b) ≡ true
or-left true b e = refl
or-left false b e = absurd (false≢true e)

or-false : (a b : Bool) → (a || b) ≡ false → (a ≡ false) × (b ≡ false)
or-false true b e = absurd (false≢true (sym e))
or-false false b e = (refl, e)

pub or-cases : (a b : Bool) → (a || b) ≡ true → (a ≡ true) ⊎ (b ≡ true)
or-cases true b e = inl refl
or-cases false b e = inr e

not-true : (a : Bool) → not a ≡ true → a ≡ false
not-true true e = absurd (false≢true e)
not-true false e = refl

has-here : (kind : TokenKind) (others : List TokenKind) → has (kind ∷ others) kind ≡ true
has-here kind others = or-left (sameb the_type kind kind) (has others kind) (same-refl kind)

has-append : (xs ys : List TokenKind) (kind : TokenKind) → has (xs ++ ys) kind ≡ false → (has xs kind ≡ false) × (has ys kind ≡ false)
has-append [] ys kind e = (refl, e)
has-append (x ∷ xs) ys kind e =
    let p = or-false (sameb the_type x kind) (has (xs ++ ys) kind) e in
    let q = has-append xs ys kind p.1 in
    (elim (sameb the_type x kind) as (λ b. b ≡ false → (b || has xs kind) ≡ false) [ true ↦ λ h. h | false ↦ λ h. q.0 ] p.0, q.1)

abbrev pub all_in : List TokenKind → List TokenKind → Bool
all_in [] kinds = true
all_in (kind ∷ others) kinds = has kinds kind && all_in others kinds

abbrev pub none_in : List TokenKind → List TokenKind → Bool
none_in [] kinds = true
none_in (kind ∷ others) kinds = not (has kinds kind) && none_in others kinds

all_in-has : (xs ys : List TokenKind) (kind : TokenKind) → all_in xs ys ≡ true → has xs kind ≡ true → has ys kind ≡ true
all_in-has [] ys kind all e = absurd (false≢true e)
all_in-has (x ∷ xs) ys kind all e =
    let p = and_parts (has ys x) (all_in xs ys) all in
    ⊎_elim
    (λ same. subst (λ k. has ys k ≡ true) (same_true the_type tt x kind same) p.0)
    (λ later. all_in-has xs ys kind p.1 later)
    (or-cases (sameb the_type x kind) (has xs kind) e)

none_in-has : (xs ys : List TokenKind) (kind : TokenKind) → none_in xs ys ≡ true → has xs kind ≡ true → has ys kind ≡ false
none_in-has [] ys kind none e = absurd (false≢true e)
none_in-has (x ∷ xs) ys kind none e =
    let p = and_parts (not (has ys x)) (none_in xs ys) none in
    ⊎_elim
    (λ same. subst (λ k. has ys k ≡ false) (same_true the_type tt x kind same) (not-true (has ys x) p.0))
    (λ later. none_in-has xs ys kind p.1 later)
    (or-cases (sameb the_type x kind) (has xs kind) e)

bool-cases : (b : Bool) → (b ≡ true) ⊎ (b ≡ false)
bool-cases true = inl refl
bool-cases false = inr refl

all_in-lacks : (xs ys : List TokenKind) (kind : TokenKind) → all_in xs ys ≡ true → has ys kind ≡ false → has xs kind ≡ false
all_in-lacks xs ys kind all e =
    ⊎_elim (λ there. absurd (false≢true (sym e ∙ all_in-has xs ys kind all there))) (λ not_there. not_there) (bool-cases (has xs kind))

-- The first tokens of a part, and the tokens that reading it would take where something else follows.
abbrev pub first_kinds : Part → List TokenKind
first_kinds g.command = kinds.Define ∷ kinds.Drop ∷ kinds.Move ∷ kinds.Insert ∷ kinds.Remove ∷ kinds.Translate ∷ kinds.Select ∷ kinds.Total ∷ kinds.Explain ∷ kinds.Open ∷ kinds.Fetch ∷ kinds.Close ∷ kinds.Save ∷ kinds.Reopen ∷ []
first_kinds g.place = kinds.From ∷ kinds.At ∷ []
first_kinds g.columns = kinds.Name ∷ []
first_kinds g.column = kinds.Name ∷ []
first_kinds g.values = kinds.Null ∷ kinds.MinusSign ∷ kinds.Whole ∷ kinds.Quoted ∷ []
first_kinds g.value = kinds.Null ∷ kinds.MinusSign ∷ kinds.Whole ∷ kinds.Quoted ∷ []
first_kinds g.measure = kinds.Whole ∷ kinds.Decimal ∷ []
first_kinds g.query = kinds.Where ∷ kinds.Dissolve ∷ kinds.Rename ∷ kinds.Overlay ∷ kinds.Cover ∷ kinds.Merge ∷ kinds.Minus ∷ kinds.Window ∷ kinds.Transform ∷ kinds.Gaps ∷ kinds.Name ∷ []
first_kinds g.position = kinds.AtSign ∷ kinds.Whole ∷ kinds.Decimal ∷ []
first_kinds g.method = kinds.Absolute ∷ kinds.Relative ∷ kinds.Interpolative ∷ []
first_kinds g.column_name = kinds.Name ∷ []
first_kinds g.names = kinds.Name ∷ []
first_kinds g.bracketed_names = kinds.LeftParen ∷ []
first_kinds g.window = kinds.Name ∷ []
first_kinds g.condition = kinds.LeftParen ∷ kinds.Not ∷ kinds.Name ∷ []
first_kinds g.conjunction = kinds.LeftParen ∷ kinds.Not ∷ kinds.Name ∷ []
first_kinds g.atom = kinds.LeftParen ∷ kinds.Not ∷ kinds.Name ∷ []
first_kinds g.comparison = kinds.Equal ∷ kinds.Unequal ∷ kinds.Less ∷ kinds.LessOrEqual ∷ kinds.Greater ∷ kinds.GreaterOrEqual ∷ []
first_kinds g.operand = kinds.Name ∷ kinds.MinusSign ∷ kinds.Whole ∷ kinds.Quoted ∷ []
first_kinds g.pieces = kinds.Name ∷ []
first_kinds g.piece = kinds.Name ∷ []

abbrev pub part_bars : Part → List TokenKind
part_bars g.command = kinds.PlusSign ∷ kinds.MinusSign ∷ kinds.PercentSign ∷ kinds.From ∷ kinds.As ∷ kinds.Where ∷ kinds.And ∷ kinds.Or ∷ kinds.Sum ∷ []
part_bars g.place = kinds.PlusSign ∷ kinds.MinusSign ∷ kinds.PercentSign ∷ []
part_bars g.columns = kinds.Comma ∷ []
part_bars g.values = kinds.Comma ∷ []
part_bars g.position = kinds.PlusSign ∷ kinds.MinusSign ∷ kinds.PercentSign ∷ []
part_bars g.names = kinds.Comma ∷ []
part_bars g.window = kinds.From ∷ kinds.PlusSign ∷ kinds.MinusSign ∷ kinds.PercentSign ∷ []
part_bars g.condition = kinds.And ∷ kinds.Or ∷ []
part_bars g.conjunction = kinds.And ∷ []
part_bars g.pieces = kinds.Comma ∷ []
part_bars _ = []

-- the form may ask for nothing
abbrev pub can_end : Form → Bool
can_end done = true
can_end fail = false
can_end (pick kind form other) = can_end other
can_end (sub p form) = false

abbrev pub firsts : Form → List TokenKind
firsts done = []
firsts fail = []
firsts (pick kind form other) = kind ∷ firsts other
firsts (sub p form) = first_kinds p

abbrev pub list_if : Bool → List TokenKind → List TokenKind
list_if true kinds = kinds
list_if false kinds = []

abbrev pub bars : Form → List TokenKind
bars done = []
bars fail = []
bars (pick kind form other) = bars form ++ (bars other ++ list_if (can_end other) (kind ∷ []))
bars (sub p form) = bars form ++ list_if (can_end form) (part_bars p)

-- one token decides
abbrev pub is_clear : Form → Bool
is_clear done = true
is_clear fail = true
is_clear (pick kind form other) = not (has (firsts other) kind) && (is_clear form && is_clear other)
is_clear (sub p form) = none_in (firsts form) (part_bars p) && is_clear form

-- what the checks say of each part
pub record IsChecked (p : Part) : Type 0 where
  pub clear : is_clear (rules p) ≡ true
  pub asks : can_end (rules p) ≡ false
  pub firsts_known : all_in (firsts (rules p)) (first_kinds p) ≡ true
  pub bars_known : all_in (bars (rules p)) (part_bars p) ≡ true

pub checked : (p : Part) → IsChecked p
unfolding rules
checked g.command = record { clear = refl; asks = refl; firsts_known = refl; bars_known = refl }
checked g.place = record { clear = refl; asks = refl; firsts_known = refl; bars_known = refl }
checked g.columns = record { clear = refl; asks = refl; firsts_known = refl; bars_known = refl }
checked g.column = record { clear = refl; asks = refl; firsts_known = refl; bars_known = refl }
checked g.values = record { clear = refl; asks = refl; firsts_known = refl; bars_known = refl }
checked g.value = record { clear = refl; asks = refl; firsts_known = refl; bars_known = refl }
checked g.measure = record { clear = refl; asks = refl; firsts_known = refl; bars_known = refl }
checked g.query = record { clear = refl; asks = refl; firsts_known = refl; bars_known = refl }
checked g.position = record { clear = refl; asks = refl; firsts_known = refl; bars_known = refl }
checked g.method = record { clear = refl; asks = refl; firsts_known = refl; bars_known = refl }
checked g.column_name = record { clear = refl; asks = refl; firsts_known = refl; bars_known = refl }
checked g.names = record { clear = refl; asks = refl; firsts_known = refl; bars_known = refl }
checked g.bracketed_names = record { clear = refl; asks = refl; firsts_known = refl; bars_known = refl }
checked g.window = record { clear = refl; asks = refl; firsts_known = refl; bars_known = refl }
checked g.condition = record { clear = refl; asks = refl; firsts_known = refl; bars_known = refl }
checked g.conjunction = record { clear = refl; asks = refl; firsts_known = refl; bars_known = refl }
checked g.atom = record { clear = refl; asks = refl; firsts_known = refl; bars_known = refl }
checked g.comparison = record { clear = refl; asks = refl; firsts_known = refl; bars_known = refl }
checked g.operand = record { clear = refl; asks = refl; firsts_known = refl; bars_known = refl }
checked g.pieces = record { clear = refl; asks = refl; firsts_known = refl; bars_known = refl }
checked g.piece = record { clear = refl; asks = refl; firsts_known = refl; bars_known = refl }

-- a derivation begins with one of the form's first tokens, or has none
abbrev Begins : Form → List TokenKind → List TokenKind → Type 0
Begins form tokens left = ((can_end form ≡ true) × (tokens ≡ left)) ⊎ ((kind : TokenKind) × (rest : List TokenKind) × (tokens ≡ kind ∷ rest) × (has (firsts form) kind ≡ true))

begins : {form : Form} {tokens left : List TokenKind} → Derives form tokens left → Begins form tokens left
begins nothing = inl (refl, refl)
begins (this {kind = kind} {other = other} {tokens = rest} d) = inr (kind, rest, refl, has-here kind (firsts other))
begins (that {kind = kind} {other = other} d) =
    ⊎_elim (λ ends. inl ends) (λ b. inr (b.0, b.1, b.2, or-right (sameb the_type kind b.0) (has (firsts other) b.0) b.3)) (begins d)
begins (part {p = p} d e) =
    let c = checked p in
    ⊎_elim
    (λ ends. absurd (false≢true (sym c.asks ∙ ends.0)))
    (λ b. inr (b.0, b.1, b.2, all_in-has (firsts (rules p)) (first_kinds p) b.0 c.firsts_known b.3))
    (begins d)

-- what follows doesn't begin with one of the kinds
abbrev pub NotBegun : List TokenKind → List TokenKind → Type 0
NotBegun kinds [] = Unit {0}
NotBegun kinds (first ∷ others) = has kinds first ≡ false

NotBegun-left : (xs ys left : List TokenKind) → NotBegun (xs ++ ys) left → NotBegun xs left
NotBegun-left xs ys [] n = tt
NotBegun-left xs ys (first ∷ others) n = (has-append xs ys first n).0

NotBegun-right : (xs ys left : List TokenKind) → NotBegun (xs ++ ys) left → NotBegun ys left
NotBegun-right xs ys [] n = tt
NotBegun-right xs ys (first ∷ others) n = (has-append xs ys first n).1

NotBegun-fewer : (xs ys left : List TokenKind) → all_in xs ys ≡ true → NotBegun ys left → NotBegun xs left
NotBegun-fewer xs ys [] all n = tt
NotBegun-fewer xs ys (first ∷ others) all n = all_in-lacks xs ys first all n

NotBegun-list_if : (b : Bool) (xs left : List TokenKind) → b ≡ true → NotBegun (list_if b xs) left → NotBegun xs left
NotBegun-list_if true xs left e n = n
NotBegun-list_if false xs left e n = absurd (false≢true e)

-- the outcome of reading fits a derivation
abbrev pub Fits : Outcome → List TokenKind → Type 0
Fits (Ok rest) left = rest ≡ left
Fits (Err None) left = Unit {0}
Fits (Err (Some rest)) left = ⊥

Fits-halt : (halt : Option (List TokenKind)) (left other : List TokenKind) → Fits (Err halt) left → Fits (Err halt) other
Fits-halt None left other f = tt
Fits-halt (Some rest) left other f = f

head-same : (a b : TokenKind) (xs ys : List TokenKind) → a ∷ xs ≡ b ∷ ys → a ≡ b
head-same a b xs ys e = cc

-- reading is complete: what is derived is read
pub exact : {form : Form} {tokens : List TokenKind} {outcome : Outcome} → Runs form tokens outcome → is_clear form ≡ true
    → (left : List TokenKind) → Derives form tokens left → NotBegun (bars form) left → Fits outcome left
exact is_done clear left d n = made_of d
exact is_fail clear left d n = absurd (made_of d)
exact {outcome = outcome} (takes {kind = kind} {form = form} {other = other} {tokens = rest} run) clear left d n =
    let p = and_parts (not (has (firsts other) kind)) (is_clear form && is_clear other) clear in
    let q = and_parts (is_clear form) (is_clear other) p.1 in
    ⊎_elim
    (λ t. let same : t.0 ≡ rest = cc in exact run q.0 left (subst (λ ts. Derives form ts left) same t.2) (NotBegun-left (bars form) _ left n))
    (λ e. ⊎_elim
    (λ ends.
    let here = NotBegun-list_if (can_end other) (kind ∷ []) left ends.0 (NotBegun-right (bars other) _ left (NotBegun-right (bars form) _ left n)) in
    absurd (false≢true (sym (subst (NotBegun (kind ∷ [])) (sym ends.1) here) ∙ has-here kind [])))
    (λ b. absurd (false≢true (sym (not-true (has (firsts other) kind) p.0) ∙ subst (λ k. has (firsts other) k ≡ true) (sym (head-same kind b.0 rest b.1 b.2)) b.3)))
    (begins e))
    (made_of d)
exact (skips {kind = kind} {form = form} {other = other} {tokens = tokens} lacks run) clear left d n =
    let p = and_parts (not (has (firsts other) kind)) (is_clear form && is_clear other) clear in
    let q = and_parts (is_clear form) (is_clear other) p.1 in
    ⊎_elim
    (λ t. let no : Lacks kind (kind ∷ t.0) = subst (Lacks kind) t.1 lacks in absurd (no refl))
    (λ e. exact run q.1 left e (NotBegun-left (bars other) _ left (NotBegun-right (bars form) _ left n)))
    (made_of d)
exact (through {p = p} {form = form} {middle = middle} run more) clear left d n =
    let c = and_parts (none_in (firsts form) (part_bars p)) (is_clear form) clear in
    let k = checked p in
    let m = made_of d in
    let follows : NotBegun (part_bars p) m.0 =
    ⊎_elim
    (λ ends. subst (NotBegun (part_bars p)) (sym ends.1) (NotBegun-list_if (can_end form) (part_bars p) left ends.0 (NotBegun-right (bars form) _ left n)))
    (λ b. subst (NotBegun (part_bars p)) (sym b.2) (none_in-has (firsts form) (part_bars p) b.0 c.0 b.3))
    (begins m.2) in
    let same : middle ≡ m.0 = exact run k.clear m.0 m.1 (NotBegun-fewer (bars (rules p)) (part_bars p) m.0 k.bars_known follows) in
    exact more c.1 left (subst (λ ts. Derives form ts left) (sym same) m.2) (NotBegun-left (bars form) _ left n)
exact (stops_in {p = p} {form = form} {halt = halt} run) clear left d n =
    let c = and_parts (none_in (firsts form) (part_bars p)) (is_clear form) clear in
    let k = checked p in
    let m = made_of d in
    let follows : NotBegun (part_bars p) m.0 =
    ⊎_elim
    (λ ends. subst (NotBegun (part_bars p)) (sym ends.1) (NotBegun-list_if (can_end form) (part_bars p) left ends.0 (NotBegun-right (bars form) _ left n)))
    (λ b. subst (NotBegun (part_bars p)) (sym b.2) (none_in-has (firsts form) (part_bars p) b.0 c.0 b.3))
    (begins m.2) in
    Fits-halt halt m.0 left (exact run k.clear m.0 m.1 (NotBegun-fewer (bars (rules p)) (part_bars p) m.0 k.bars_known follows))
exact gives_up clear left d n = tt
