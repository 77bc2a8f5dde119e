-- What chains of AND and OR say, part by part.
use Rattle.std.proofs.Common.{◌≡◌, ℕ, zero, suc, ◌+◌, ◌<◌, ◌≤◌, List, [], ◌∷◌, ◌++◌, length, take, get_or, refl, sym, ap, ◌∙◌, subst, arith, length-append, inl, inr}
use Rattle.std.specs.Prelude.{map, Vec}
use Rattle.std.specs.formers.vec.Vec.{mapped}
use Rattle.std.specs.declared.alloc.Global.{Global}
use Rattle.std.proofs.lemmas.Bool.{false≢true}
use Rattle.std.proofs.lemmas.List.{take_more}
use Rattle.rs_refusal.specs.declared.refusal.Refusal.{Refusal}
use Rattle.rs_grammar.specs.declared.kind.TokenKind.{TokenKind}
use Rattle.rs_grammar.specs.declared.kind.TokenKind.TheVariants as kinds
use Rattle.rs_syntax.specs.declared.queries.Atom.{Atom, fold-roll-Atom}
use Rattle.rs_syntax.specs.declared.queries.Atom.TheOpen.{Atom-F}
use Rattle.rs_syntax.specs.declared.queries.Atom.TheVariants as atoms
use Rattle.rs_syntax.specs.declared.written.WrittenAtom.{WrittenAtom}
use Rattle.rs_syntax.specs.declared.written.WrittenAtom.TheVariants as written_atoms
use Rattle.rs_syntax.specs.Tree.{ConditionTree, negated, bracketed}
use Rattle.rs_syntax.specs.QueryView.{all_of, any_of, atom_step, atom_tree, condition_tree}
use Rattle.rs_syntax.specs.Written.{Lexeme, mark, list_lexemes, further_lexemes, written_negation, written_bracket, has_text, atom_lexemes, conjunction_lexemes, condition_lexemes, SaysAtom, SaysConjunction, SaysCondition, AreToldOf}
use Rattle.rs_syntax.specs.WrittenView.{atom_syntax, conjunction_syntax, condition_syntax}
use Rattle.rs_syntax.proofs.ChainLaws.{negation_written, bracket_written, conjunction_spelled, condition_spelled}
use Rattle.rs_syntax.proofs.ToldLaws.{AreToldOf-append}
use Rattle.rs_meaning.specs.Saying.{NothingSaid}
use Rattle.rs_meaning.proofs.MeaningLaws.{list_told}

abbrev part_lexemes : WrittenAtom → List Lexeme
part_lexemes part = atom_lexemes (atom_syntax part)

abbrev parts_lexemes : Vec WrittenAtom Global → List Lexeme
parts_lexemes parts = conjunction_lexemes (conjunction_syntax parts.items)

-- Each of some items is in a relation with the one in its place.
abbrev pub Each : {A B : Type 0} → (A → B → Type 0) → List A → List B → Type 0
Each relation [] [] = Unit {0}
Each relation (a ∷ xs) (b ∷ ys) = relation a b × Each relation xs ys
Each relation _ _ = ⊥

Each-push : {A B : Type 0} (relation : A → B → Type 0) (xs : List A) (ys : List B) (a : A) (b : B) → Each relation xs ys → relation a b → Each relation (xs ++ a ∷ []) (ys ++ b ∷ [])
Each-push relation [] [] a b each here = (here, tt)
Each-push relation [] (second ∷ ys) a b each here = absurd each
Each-push relation (first ∷ xs) [] a b each here = absurd each
Each-push relation (first ∷ xs) (second ∷ ys) a b each here = (each.0, Each-push relation xs ys a b each.1 here)

-- one item more
pub each-more : {A B : Type 0} (relation : A → B → Type 0) (xs : List A) (i : ℕ) (d : A) (ys : List B) (b : B) → i < length xs
    → Each relation (take i xs) ys → relation (get_or xs i d) b → Each relation (take (i + 1) xs) (ys ++ b ∷ [])
each-more relation xs i d ys b h each here =
    subst (λ zs. Each relation zs (ys ++ b ∷ [])) (sym (take_more xs i d h)) (Each-push relation (take i xs) ys (get_or xs i d) b each here)

-- where nothing is said of a part, nothing is said of the whole
pub nothing-said : {A B : Type 0} (part : A → Type 0) (whole : B → Type 0) (refusal : Refusal) → ((b : B) → whole b → (a : A) × part a)
    → NothingSaid part refusal → NothingSaid whole refusal
nothing-said part whole refusal inside (inl memory) = inl memory
nothing-said part whole refusal inside (inr range) = inr (range.0, λ b says. let p = inside b says in range.1 p.0 p.1)

abbrev pub SaysPart : List ℕ → WrittenAtom → Atom → Type 0
SaysPart line written atom = SaysAtom line (atom_syntax written) (atom_tree atom)

abbrev pub SaysParts : List ℕ → Vec WrittenAtom Global → Vec Atom Global → Type 0
SaysParts line written parts = SaysConjunction line (conjunction_syntax written.items) (all_of (map atom_tree parts.items))

-- an item of a list is no longer than the list
further-length : {A : Type 0} (kind : TokenKind) (lexemes : A → List Lexeme) (items : List A) (i : ℕ) (d : A) → i < length items
    → length (lexemes (get_or items i d)) ≤ length (further_lexemes kind lexemes items)
further-length kind lexemes [] i d h = absurd (omega arith)
further-length kind lexemes (item ∷ items) zero d h = omega (arith, length-append (lexemes item) (further_lexemes kind lexemes items))
further-length kind lexemes (item ∷ items) (suc i) d h =
    let others = further-length kind lexemes items i d (omega arith) in
    omega (arith, length-append (lexemes item) (further_lexemes kind lexemes items))

list-length : {A : Type 0} (kind : TokenKind) (lexemes : A → List Lexeme) (items : List A) (i : ℕ) (d : A) → i < length items
    → length (lexemes (get_or items i d)) ≤ length (list_lexemes kind lexemes items)
list-length kind lexemes [] i d h = absurd (omega arith)
list-length kind lexemes (item ∷ items) zero d h = omega (arith, length-append (lexemes item) (further_lexemes kind lexemes items))
list-length kind lexemes (item ∷ items) (suc i) d h =
    let others = further-length kind lexemes items i d (omega arith) in
    omega (arith, length-append (lexemes item) (further_lexemes kind lexemes items))

-- Parts between which AND stands.
conjunction-is_no_list : (line : List ℕ) → AreToldOf line (conjunction_lexemes (conjunction_syntax [])) → ⊥
conjunction-is_no_list line told = false≢true (ap has_text told.0.1)

pub conjunction-some : (line : List ℕ) (written : List WrittenAtom) → AreToldOf line (conjunction_lexemes (conjunction_syntax written)) → 0 < length written
conjunction-some line [] told = absurd (conjunction-is_no_list line told)
conjunction-some line (part ∷ others) told = omega arith

pub conjunction-told : (line : List ℕ) (written : List WrittenAtom) (i : ℕ) (part : WrittenAtom) → i < length written → part ≡ get_or written i part
    → AreToldOf line (conjunction_lexemes (conjunction_syntax written)) → AreToldOf line (atom_lexemes (atom_syntax part))
conjunction-told line written i part h is told =
    subst (λ w. AreToldOf line (part_lexemes w)) (sym is)
    (list_told kinds.And line part_lexemes written (subst (AreToldOf line) (conjunction_spelled written (conjunction-some line written told)) told) i part h)

pub conjunction-more : (line : List ℕ) (written : List WrittenAtom) (i : ℕ) (part : WrittenAtom) (parts : List Atom) (atom : Atom) → i < length written → part ≡ get_or written i part
    → Each (SaysPart line) (take i written) parts → SaysAtom line (atom_syntax part) (atom_tree atom) → Each (SaysPart line) (take (i + 1) written) (parts ++ atom ∷ [])
conjunction-more line written i part parts atom h is each here =
    each-more (SaysPart line) written i part parts atom h each (subst (λ w. SaysPart line w atom) is here)

pub conjunction-each : (line : List ℕ) (written : List WrittenAtom) (parts : List Atom) → 0 < length written → Each (SaysPart line) written parts
    → SaysConjunction line (conjunction_syntax written) (all_of (map atom_tree parts))
conjunction-each line [] parts some each = absurd (omega arith)
conjunction-each line (w ∷ ws) [] some each = absurd each
conjunction-each line (w ∷ []) (a ∷ []) some each = each.0
conjunction-each line (w ∷ []) (a ∷ b ∷ xs) some each = absurd each.1
conjunction-each line (w ∷ v ∷ ws) (a ∷ []) some each = absurd each.1
conjunction-each line (w ∷ v ∷ ws) (a ∷ b ∷ xs) some each =
    (atom_tree a, all_of (map atom_tree (b ∷ xs)), each.0, conjunction-each line (v ∷ ws) (b ∷ xs) (omega arith) each.1, refl)

none-in_conjunction : (line : List ℕ) (written : List WrittenAtom) (i : ℕ) (d : WrittenAtom) → i < length written
    → ((tree : ConditionTree) → SaysAtom line (atom_syntax (get_or written i d)) tree → ⊥) → (tree : ConditionTree) → SaysConjunction line (conjunction_syntax written) tree → ⊥
none-in_conjunction line [] i d h none tree says = omega arith
none-in_conjunction line (w ∷ []) zero d h none tree says = none tree says
none-in_conjunction line (w ∷ []) (suc i) d h none tree says = omega arith
none-in_conjunction line (w ∷ v ∷ ws) zero d h none tree says = none says.0 says.2
none-in_conjunction line (w ∷ v ∷ ws) (suc i) d h none tree says = none-in_conjunction line (v ∷ ws) i d (omega arith) none says.1 says.3

pub conjunction-none : (line : List ℕ) (written : List WrittenAtom) (i : ℕ) (part : WrittenAtom) (refusal : Refusal) → i < length written → part ≡ get_or written i part
    → NothingSaid (SaysAtom line (atom_syntax part)) refusal → NothingSaid (SaysConjunction line (conjunction_syntax written)) refusal
conjunction-none line written i part refusal h is (inl memory) = inl memory
conjunction-none line written i part refusal h is (inr range) =
    inr (range.0, none-in_conjunction line written i part h (subst (λ w. (tree : ConditionTree) → SaysAtom line (atom_syntax w) tree → ⊥) is range.1))

pub conjunction-length : (written : List WrittenAtom) (i : ℕ) (part : WrittenAtom) → i < length written → part ≡ get_or written i part
    → length (atom_lexemes (atom_syntax part)) ≤ length (conjunction_lexemes (conjunction_syntax written))
conjunction-length written i part h is =
    let here = ap (λ w. length (part_lexemes w)) is in
    let all = ap length (conjunction_spelled written (omega arith)) in
    omega (arith, list-length kinds.And part_lexemes written i part h)

-- Parts between which OR stands.
condition-is_no_list : (line : List ℕ) → AreToldOf line (condition_lexemes (condition_syntax [])) → ⊥
condition-is_no_list line told = false≢true (ap has_text told.0.1)

pub condition-some : (line : List ℕ) (written : List (Vec WrittenAtom Global)) → AreToldOf line (condition_lexemes (condition_syntax written)) → 0 < length written
condition-some line [] told = absurd (condition-is_no_list line told)
condition-some line (part ∷ others) told = omega arith

pub condition-told : (line : List ℕ) (written : List (Vec WrittenAtom Global)) (i : ℕ) (part : Vec WrittenAtom Global) (items : List WrittenAtom) → i < length written
    → part ≡ get_or written i part → items ≡ part.items
    → AreToldOf line (condition_lexemes (condition_syntax written)) → AreToldOf line (conjunction_lexemes (conjunction_syntax items))
condition-told line written i part items h is same told =
    subst (λ ws. AreToldOf line (conjunction_lexemes (conjunction_syntax ws))) (sym (same ∙ ap (λ w. w.items) is))
    (list_told kinds.Or line parts_lexemes written (subst (AreToldOf line) (condition_spelled written (condition-some line written told)) told) i part h)

pub condition-more : (line : List ℕ) (written : List (Vec WrittenAtom Global)) (i : ℕ) (part : Vec WrittenAtom Global) (items : List WrittenAtom) (parts : List (Vec Atom Global)) (conjunction : Vec Atom Global)
    → i < length written → part ≡ get_or written i part → items ≡ part.items → Each (SaysParts line) (take i written) parts
    → SaysConjunction line (conjunction_syntax items) (all_of (map atom_tree conjunction.items)) → Each (SaysParts line) (take (i + 1) written) (parts ++ conjunction ∷ [])
condition-more line written i part items parts conjunction h is same each here =
    each-more (SaysParts line) written i part parts conjunction h each
    (subst (λ ws. SaysConjunction line (conjunction_syntax ws) (all_of (map atom_tree conjunction.items))) (same ∙ ap (λ w. w.items) is) here)

pub condition-each : (line : List ℕ) (written : List (Vec WrittenAtom Global)) (parts : List (Vec Atom Global)) → 0 < length written → Each (SaysParts line) written parts
    → SaysCondition line (condition_syntax written) (condition_tree parts)
condition-each line [] parts some each = absurd (omega arith)
condition-each line (w ∷ ws) [] some each = absurd each
condition-each line (w ∷ []) (a ∷ []) some each = each.0
condition-each line (w ∷ []) (a ∷ b ∷ xs) some each = absurd each.1
condition-each line (w ∷ v ∷ ws) (a ∷ []) some each = absurd each.1
condition-each line (w ∷ v ∷ ws) (a ∷ b ∷ xs) some each =
    (all_of (map atom_tree a.items), condition_tree (b ∷ xs), each.0, condition-each line (v ∷ ws) (b ∷ xs) (omega arith) each.1, refl)

none-in_condition : (line : List ℕ) (written : List (Vec WrittenAtom Global)) (i : ℕ) (d : Vec WrittenAtom Global) → i < length written
    → ((tree : ConditionTree) → SaysConjunction line (conjunction_syntax (get_or written i d).items) tree → ⊥) → (tree : ConditionTree) → SaysCondition line (condition_syntax written) tree → ⊥
none-in_condition line [] i d h none tree says = omega arith
none-in_condition line (w ∷ []) zero d h none tree says = none tree says
none-in_condition line (w ∷ []) (suc i) d h none tree says = omega arith
none-in_condition line (w ∷ v ∷ ws) zero d h none tree says = none says.0 says.2
none-in_condition line (w ∷ v ∷ ws) (suc i) d h none tree says = none-in_condition line (v ∷ ws) i d (omega arith) none says.1 says.3

pub condition-none : (line : List ℕ) (written : List (Vec WrittenAtom Global)) (i : ℕ) (part : Vec WrittenAtom Global) (items : List WrittenAtom) (refusal : Refusal) → i < length written
    → part ≡ get_or written i part → items ≡ part.items
    → NothingSaid (SaysConjunction line (conjunction_syntax items)) refusal → NothingSaid (SaysCondition line (condition_syntax written)) refusal
condition-none line written i part items refusal h is same (inl memory) = inl memory
condition-none line written i part items refusal h is same (inr range) =
    inr (
      range.0,
      none-in_condition line written i part h
          (subst (λ ws. (tree : ConditionTree) → SaysConjunction line (conjunction_syntax ws) tree → ⊥) (same ∙ ap (λ w. w.items) is) range.1),
    )

pub condition-length : (written : List (Vec WrittenAtom Global)) (i : ℕ) (part : Vec WrittenAtom Global) (items : List WrittenAtom) → i < length written
    → part ≡ get_or written i part → items ≡ part.items
    → length (conjunction_lexemes (conjunction_syntax items)) ≤ length (condition_lexemes (condition_syntax written))
condition-length written i part items h is same =
    let here = ap (λ ws. length (conjunction_lexemes (conjunction_syntax ws))) (same ∙ ap (λ w. w.items) is) in
    let all = ap length (condition_spelled written (omega arith)) in
    omega (arith, list-length kinds.Or parts_lexemes written i part h)

-- Conditions in brackets.
parts-tree : (conjunctions : List (Vec Atom Global)) → map (λ parts. all_of parts.items) (map (mapped {H = Global} atom_tree) conjunctions) ≡ map (λ parts. all_of (map atom_tree parts.items)) conjunctions
parts-tree [] = refl
parts-tree (parts ∷ conjunctions) = ap (λ others. all_of (map atom_tree parts.items) ∷ others) (parts-tree conjunctions)

negated-tree : (condition : Vec (Vec Atom Global) Global) → atom_tree (atoms.Negated condition) ≡ negated (condition_tree condition.items)
negated-tree condition =
    ap atom_tree (sym (atoms.rolls-Negated condition)) ∙ fold-roll-Atom ConditionTree atom_step (Atom-F.Negated condition)
    ∙ ap (λ parts. negated (any_of parts)) (parts-tree condition.items)

bracketed-tree : (condition : Vec (Vec Atom Global) Global) → atom_tree (atoms.Bracketed condition) ≡ bracketed (condition_tree condition.items)
bracketed-tree condition =
    ap atom_tree (sym (atoms.rolls-Bracketed condition)) ∙ fold-roll-Atom ConditionTree atom_step (Atom-F.Bracketed condition)
    ∙ ap (λ parts. bracketed (any_of parts)) (parts-tree condition.items)

-- What an atom that is a condition in brackets says, by how it is written.
module _ (line : List ℕ) (atom : WrittenAtom) (written : Vec (Vec WrittenAtom Global) Global) (items : List (Vec WrittenAtom Global)) (is : atom ≡ written_atoms.Negated written) (same : items ≡ written.items) where
  negation-is : atom_syntax atom ≡ written_negation (condition_syntax items)
  negation-is = ap atom_syntax is ∙ negation_written written ∙ ap (λ ws. written_negation (condition_syntax ws)) (sym same)

  pub negation-length : length (condition_lexemes (condition_syntax items)) + 2 ≤ length (atom_lexemes (atom_syntax atom))
  negation-length =
      let all = ap (λ syntax. length (atom_lexemes syntax)) negation-is in
      omega (arith, length-append (condition_lexemes (condition_syntax items)) (mark kinds.RightParen ∷ []))

  pub negation-told : AreToldOf line (atom_lexemes (atom_syntax atom)) → AreToldOf line (condition_lexemes (condition_syntax items))
  negation-told told =
      let inside = subst (λ syntax. AreToldOf line (atom_lexemes syntax)) negation-is told in
      (AreToldOf-append line (condition_lexemes (condition_syntax items)) _ inside.1.1).0

  pub negation-none : (refusal : Refusal) → NothingSaid (SaysCondition line (condition_syntax items)) refusal → NothingSaid (SaysAtom line (atom_syntax atom)) refusal
  negation-none refusal none =
      nothing-said (SaysCondition line (condition_syntax items)) (SaysAtom line (atom_syntax atom)) refusal
      (λ tree says. let inside = subst (λ syntax. SaysAtom line syntax tree) negation-is says in (inside.0, inside.1)) none

  pub negation-says : (condition : Vec (Vec Atom Global) Global) → SaysCondition line (condition_syntax items) (condition_tree condition.items)
      → SaysAtom line (atom_syntax atom) (atom_tree (atoms.Negated condition))
  negation-says condition says =
      subst (λ syntax. SaysAtom line syntax (atom_tree (atoms.Negated condition))) (sym negation-is)
      (condition_tree condition.items, says, negated-tree condition)

module _ (line : List ℕ) (atom : WrittenAtom) (written : Vec (Vec WrittenAtom Global) Global) (items : List (Vec WrittenAtom Global)) (is : atom ≡ written_atoms.Bracketed written) (same : items ≡ written.items) where
  bracket-is : atom_syntax atom ≡ written_bracket (condition_syntax items)
  bracket-is = ap atom_syntax is ∙ bracket_written written ∙ ap (λ ws. written_bracket (condition_syntax ws)) (sym same)

  pub bracket-length : length (condition_lexemes (condition_syntax items)) + 2 ≤ length (atom_lexemes (atom_syntax atom))
  bracket-length =
      let all = ap (λ syntax. length (atom_lexemes syntax)) bracket-is in
      omega (arith, length-append (condition_lexemes (condition_syntax items)) (mark kinds.RightParen ∷ []))

  pub bracket-told : AreToldOf line (atom_lexemes (atom_syntax atom)) → AreToldOf line (condition_lexemes (condition_syntax items))
  bracket-told told =
      let inside = subst (λ syntax. AreToldOf line (atom_lexemes syntax)) bracket-is told in
      (AreToldOf-append line (condition_lexemes (condition_syntax items)) _ inside.1).0

  pub bracket-none : (refusal : Refusal) → NothingSaid (SaysCondition line (condition_syntax items)) refusal → NothingSaid (SaysAtom line (atom_syntax atom)) refusal
  bracket-none refusal none =
      nothing-said (SaysCondition line (condition_syntax items)) (SaysAtom line (atom_syntax atom)) refusal
      (λ tree says. let inside = subst (λ syntax. SaysAtom line syntax tree) bracket-is says in (inside.0, inside.1)) none

  pub bracket-says : (condition : Vec (Vec Atom Global) Global) → SaysCondition line (condition_syntax items) (condition_tree condition.items)
      → SaysAtom line (atom_syntax atom) (atom_tree (atoms.Bracketed condition))
  bracket-says condition says =
      subst (λ syntax. SaysAtom line syntax (atom_tree (atoms.Bracketed condition))) (sym bracket-is)
      (condition_tree condition.items, says, bracketed-tree condition)
