-- What the descent read by a form is derived, whatever follows it.
use Rattle.std.proofs.Common.{◌≡◌, ◌∙◌, List, [], ◌∷◌, ◌++◌, Option, Result, Ok, refl, sym, ap, subst, append_assoc, append-nil}
use Rattle.rs_grammar.specs.declared.kind.TokenKind.{TokenKind}
use Rattle.rs_grammar.specs.Grammar.{Form, done, sub, Derives, nothing, this, that, part}
use Rattle.rs_grammar.specs.Reading.{Runs, is_done, is_fail, takes, skips, through, stops_in, gives_up}

-- what is read is derived
pub derived : {form : Form} {tokens : List TokenKind} {outcome : Result (List TokenKind) (Option (List TokenKind))} → Runs form tokens outcome → (left : List TokenKind) → outcome ≡ Ok left → Derives form tokens left
derived {outcome = outcome} (is_done {tokens}) left e = let same : tokens ≡ left = cc in subst (Derives done tokens) same nothing
derived is_fail left e = absurd cc
derived (takes run) left e = this (derived run left e)
derived (skips lacks run) left e = that (derived run left e)
derived (through {middle = middle} run more) left e = part (derived run middle refl) (derived more left e)
derived (stops_in run) left e = absurd cc
derived gives_up left e = absurd cc

-- a derivation doesn't look at what is left
abbrev Frame : Form → List TokenKind → List TokenKind → Type 0
Frame form tokens left = (front : List TokenKind) × (tokens ≡ front ++ left) × ((others : List TokenKind) → Derives form (front ++ others) others)

frame : {form : Form} {tokens left : List TokenKind} → Derives form tokens left → Frame form tokens left
frame nothing = ([], refl, λ others. nothing)
frame (this {kind = kind} d) = let f = frame d in (kind ∷ f.0, ap (λ ts. kind ∷ ts) f.1, λ others. this (f.2 others))
frame (that d) = let f = frame d in (f.0, f.1, λ others. that (f.2 others))
frame (part {p = p} {form = form} {left = left} d e) =
    let f = frame d in
    let h = frame e in (
      f.0 ++ h.0,
      f.1 ∙ ap (λ ts. f.0 ++ ts) h.1 ∙ sym (append_assoc f.0 h.0 left),
      λ others. subst (λ ts. Derives (sub p form) ts others) (sym (append_assoc f.0 h.0 others)) (part (f.2 (h.0 ++ others)) (h.2 others)),
    )

pub before_others : {form : Form} {tokens : List TokenKind} → Derives form tokens [] → (others : List TokenKind) → Derives form (tokens ++ others) others
before_others {form} {tokens} d others =
    let f = frame d in
    let same : f.0 ≡ tokens = sym (f.1 ∙ append-nil f.0) in
    subst (λ ts. Derives form (ts ++ others) others) same (f.2 others)
