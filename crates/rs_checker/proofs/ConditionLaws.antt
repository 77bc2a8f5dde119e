-- Conditions, and chains of them that are checked one after another.
use Rattle.std.proofs.lemmas.Bool.Decides.{nat_tests}
use Rattle.std.proofs.Common.{◌≡◌, ◌⊎◌, inl, inr, Bool, true, false, ◌==◌, ℕ, ◌+◌, ◌<◌, ◌≤◌, List, [], ◌∷◌, ◌++◌, map, length, drop, get_or, length-append, Result, Ok, Err, Vec, Global, refl, sym, ap, ◌∙◌, append_assoc, arith}
use Rattle.std.proofs.lemmas.List.{drop_more, drop_all, append-nil, map-append, nil_from_length, get_or_default, length-map}
use Rattle.std.proofs.Math.ListN.{get_or-map}
use mathlib.Core.Former.{Count}
use Rattle.rs_refusal.specs.declared.refusal.Refusal.{Refusal}
use Rattle.rs_facts.specs.Condition as said
use Rattle.rs_facts.specs.ConditionView.{condition_of, all_of, any_of}
use Rattle.rs_facts.specs.declared.condition.Condition.{Condition, Both, Either, Both', Either', Row_of-Condition, end_of-Condition, more_of-Condition, items-the_row-Condition, items_hidden-the_row-Condition-0}
use Rattle.arrayvec.specs.ArrayString.{ArrayString}
use Rattle.rs_value.specs.declared.comparison.Comparison.{Comparison}
use Rattle.rs_value.specs.declared.column.ColumnType.TheVariants as types
use Rattle.rs_facts.specs.Fact.{Name}
use Rattle.rs_facts.specs.Query.{Column}
use Rattle.rs_syntax.specs.declared.queries.Operand.{Operand}
use Rattle.rs_syntax.specs.declared.commands.ColumnDefinition.{ColumnDefinition}
use Rattle.rs_syntax.specs.View.{column_tree}
use Rattle.rs_syntax.specs.declared.queries.Atom.{Atom, Compare, IsNull, IsNotNull, Negated, Bracketed, fold-roll-Atom}
use Rattle.rs_syntax.specs.declared.queries.Atom.TheVariants.{rolls-Compare, rolls-IsNull, rolls-IsNotNull, rolls-Negated, rolls-Bracketed}
use Rattle.rs_syntax.specs.declared.queries.Atom.TheOpen.{Atom-F}
use Rattle.rs_syntax.specs.QueryView as trees
use Rattle.rs_syntax.specs.QueryView.{atom_step, atom_tree, condition_tree}
use Rattle.rs_syntax.specs.Tree.{OperandTree, ConditionTree, compare, is_null, is_not_null, negated, bracketed}
use Rattle.rs_machine.specs.Checks.{◌>>=◌}
use Rattle.rs_machine.specs.Checking.{condition_checked, operand_checked, column_place, column_type}
use Rattle.rs_checker.specs.Inner.{atoms_tree, conditions_of, all_joined, any_joined}

-- ---- a list inside a condition

abbrev row_of_parts : Condition → (n : Count) × Row_of-Condition n
row_of_parts (Both' _ parts) = (_, parts)
row_of_parts (Either' _ parts) = (_, parts)
row_of_parts _ = (_, end_of-Condition)

row_all : (n : _) (parts : Row_of-Condition n) → all_joined (conditions_of (items-the_row-Condition n parts)) ≡ all_of parts
row_all n end_of-Condition = refl
row_all n (more_of-Condition part end_of-Condition) = refl
row_all n (more_of-Condition part (more_of-Condition next rest)) = ap (said.both (condition_of part)) (row_all _ (more_of-Condition next rest))

row_any : (n : _) (parts : Row_of-Condition n) → any_joined (conditions_of (items-the_row-Condition n parts)) ≡ any_of parts
row_any n end_of-Condition = refl
row_any n (more_of-Condition part end_of-Condition) = refl
row_any n (more_of-Condition part (more_of-Condition next rest)) = ap (said.either (condition_of part)) (row_any _ (more_of-Condition next rest))

pub both_is : (parts : Vec Condition Global) → condition_of (Both parts) ≡ all_joined (conditions_of parts.items)
both_is parts =
    let inner = row_of_parts (Both parts) in
    sym (ap (λ zs. all_joined (conditions_of zs)) (sym (items_hidden-the_row-Condition-0 parts)) ∙ row_all inner.0 inner.1)

pub either_is : (parts : Vec Condition Global) → condition_of (Either parts) ≡ any_joined (conditions_of parts.items)
either_is parts =
    let inner = row_of_parts (Either parts) in
    sym (ap (λ zs. any_joined (conditions_of zs)) (sym (items_hidden-the_row-Condition-0 parts)) ∙ row_any inner.0 inner.1)

pub one_joined : (parts : Vec Condition Global) (none : List Condition) → none ≡ [] → (part : Condition) → parts.items ≡ none ++ part ∷ [] → condition_of part ≡ all_joined (conditions_of parts.items)
one_joined parts none is part e = sym (ap (λ zs. all_joined (conditions_of zs)) (e ∙ ap (λ zs. zs ++ part ∷ []) is))

-- ---- brackets

module _ (g : Vec Atom Global → Vec ConditionTree Global) (same : (atoms : Vec Atom Global) → (g atoms).items ≡ map atom_tree atoms.items) where
  inside : (conjunctions : List (Vec Atom Global)) → map (λ (parts : Vec ConditionTree Global). trees.all_of parts.items) (map g conjunctions) ≡ map (λ (atoms : Vec Atom Global). atoms_tree atoms.items) conjunctions
  inside [] = refl
  inside (atoms ∷ more) = λ i. trees.all_of (same atoms i) ∷ inside more i

pub negated_is : (conjunctions : Vec (Vec Atom Global) Global) → atom_tree (Negated conjunctions) ≡ negated (condition_tree conjunctions.items)
negated_is conjunctions =
    ap atom_tree (sym (rolls-Negated conjunctions)) ∙ fold-roll-Atom ConditionTree atom_step (Atom-F.Negated conjunctions)
    ∙ ap (λ parts. negated (trees.any_of parts)) (inside _ (λ atoms. refl) conjunctions.items)

pub bracketed_is : (conjunctions : Vec (Vec Atom Global) Global) → atom_tree (Bracketed conjunctions) ≡ bracketed (condition_tree conjunctions.items)
bracketed_is conjunctions =
    ap atom_tree (sym (rolls-Bracketed conjunctions)) ∙ fold-roll-Atom ConditionTree atom_step (Atom-F.Bracketed conjunctions)
    ∙ ap (λ parts. bracketed (trees.any_of parts)) (inside _ (λ atoms. refl) conjunctions.items)

-- ---- chains

whole_result : {X : Type 0} (r : Result X Refusal) → (r >>= Ok) ≡ r
whole_result (Ok x) = refl
whole_result (Err refusal) = refl

both_joined : (r s : Result said.Condition Refusal) (u : Result (List said.Condition) Refusal)
    → (r >>= (λ left. (((s >>= (λ d. u >>= (λ ds. Ok (d ∷ ds)))) >>= (λ cs. Ok (all_joined cs))) >>= (λ right. Ok (said.both left right)))))
    ≡ ((r >>= (λ c. (s >>= (λ d. u >>= (λ ds. Ok (d ∷ ds)))) >>= (λ cs. Ok (c ∷ cs)))) >>= (λ cs. Ok (all_joined cs)))
both_joined (Ok c) (Ok d) (Ok ds) = refl
both_joined (Ok c) (Ok d) (Err refusal) = refl
both_joined (Ok c) (Err refusal) u = refl
both_joined (Err refusal) s u = refl

either_joined : (r s : Result said.Condition Refusal) (u : Result (List said.Condition) Refusal)
    → (r >>= (λ left. (((s >>= (λ d. u >>= (λ ds. Ok (d ∷ ds)))) >>= (λ cs. Ok (any_joined cs))) >>= (λ right. Ok (said.either left right)))))
    ≡ ((r >>= (λ c. (s >>= (λ d. u >>= (λ ds. Ok (d ∷ ds)))) >>= (λ cs. Ok (c ∷ cs)))) >>= (λ cs. Ok (any_joined cs)))
either_joined (Ok c) (Ok d) (Ok ds) = refl
either_joined (Ok c) (Ok d) (Err refusal) = refl
either_joined (Ok c) (Err refusal) u = refl
either_joined (Err refusal) s u = refl

one_all : (r : Result said.Condition Refusal) → r ≡ ((r >>= (λ c. Ok [] >>= (λ cs. Ok (c ∷ cs)))) >>= (λ cs. Ok (all_joined cs)))
one_all (Ok c) = refl
one_all (Err refusal) = refl

one_any : (r : Result said.Condition Refusal) → r ≡ ((r >>= (λ c. Ok [] >>= (λ cs. Ok (c ∷ cs)))) >>= (λ cs. Ok (any_joined cs)))
one_any (Ok c) = refl
one_any (Err refusal) = refl

module _ (columns : List Column) {A : Type 0} (tree : A → ConditionTree) where
  -- those that were checked, and then those that are left
  abbrev pub checked_after : List said.Condition → List A → Result (List said.Condition) Refusal
  checked_after done [] = Ok done
  checked_after done (item ∷ items) = condition_checked columns (tree item) >>= (λ condition. checked_after (done ++ condition ∷ []) items)

  abbrev each_checked : List A → Result (List said.Condition) Refusal
  each_checked [] = Ok []
  each_checked (item ∷ items) = condition_checked columns (tree item) >>= (λ c. each_checked items >>= (λ cs. Ok (c ∷ cs)))

  after_each : (done : List said.Condition) (items : List A) → checked_after done items ≡ (each_checked items >>= (λ cs. Ok (done ++ cs)))
  after_each done [] = ap Ok (sym (append-nil done))
  after_each done (item ∷ items) =
      elim (condition_checked columns (tree item)) as (λ r. (r >>= (λ condition. checked_after (done ++ condition ∷ []) items)) ≡ ((r >>= (λ c. each_checked items >>= (λ cs. Ok (c ∷ cs)))) >>= (λ cs. Ok (done ++ cs)))) [
        | Ok c ↦ after_each (done ++ c ∷ []) items ∙ elim (each_checked items) as (λ s. (s >>= (λ cs. Ok ((done ++ c ∷ []) ++ cs))) ≡ ((s >>= (λ cs. Ok (c ∷ cs))) >>= (λ cs. Ok (done ++ cs)))) [
          | Ok cs ↦ ap Ok (append_assoc done (c ∷ []) cs)
          | Err refusal ↦ refl
        ]
        | Err refusal ↦ refl
      ]

  all_each : (item : A) (items : List A) → condition_checked columns (trees.all_of (map tree (item ∷ items))) ≡ (each_checked (item ∷ items) >>= (λ cs. Ok (all_joined cs)))
  all_each item [] = one_all (condition_checked columns (tree item))
  all_each item (next ∷ items) =
      ap (λ r. condition_checked columns (tree item) >>= (λ left. r >>= (λ right. Ok (said.both left right)))) (all_each next items)
      ∙ both_joined (condition_checked columns (tree item)) (condition_checked columns (tree next)) (each_checked items)

  any_each : (item : A) (items : List A) → condition_checked columns (trees.any_of (map tree (item ∷ items))) ≡ (each_checked (item ∷ items) >>= (λ cs. Ok (any_joined cs)))
  any_each item [] = one_any (condition_checked columns (tree item))
  any_each item (next ∷ items) =
      ap (λ r. condition_checked columns (tree item) >>= (λ left. r >>= (λ right. Ok (said.either left right)))) (any_each next items)
      ∙ either_joined (condition_checked columns (tree item)) (condition_checked columns (tree next)) (each_checked items)

  pub record InChain (items : List A) (i : ℕ) (parts : List Condition) : Type 0 where
    pub count : length parts ≡ i
    pub same : checked_after (conditions_of parts) (drop i items) ≡ checked_after [] items

  by_each : (items : List A) (r : Result (List said.Condition) Refusal) → r ≡ checked_after [] items → each_checked items ≡ r
  by_each items r e = sym (e ∙ after_each [] items ∙ whole_result (each_checked items))

  pub chain_begins : (items : List A) (parts : List Condition) → parts ≡ [] → InChain items 0 parts
  chain_begins items parts e = record { count = ap length e; same = ap (λ zs. checked_after (conditions_of zs) items) e }

  opened_here : (items : List A) (i : ℕ) (parts : List Condition) (item : A) → InChain items i parts → i < length items → item ≡ get_or items i item
      → checked_after [] items ≡ (condition_checked columns (tree item) >>= (λ condition. checked_after (conditions_of parts ++ condition ∷ []) (drop (i + 1) items)))
  opened_here items i parts item at h is =
      sym at.same ∙ ap (checked_after (conditions_of parts)) (drop_more items i item h ∙ ap (λ x. x ∷ drop (i + 1) items) (sym is))

  pub chain_goes : (items : List A) (i : ℕ) (parts more : List Condition) (item : A) (part : Condition) → InChain items i parts → i < length items → item ≡ get_or items i item
      → condition_checked columns (tree item) ≡ Ok (condition_of part) → more ≡ parts ++ part ∷ [] → InChain items (i + 1) more
  chain_goes items i parts more item part at h is ok e = record {
    count = ap length e ∙ simp length-append (ap (λ n. n + 1) at.count);
    same = ap (λ zs. checked_after (conditions_of zs) (drop (i + 1) items)) e
        ∙ ap (λ zs. checked_after zs (drop (i + 1) items)) (map-append condition_of parts (part ∷ []))
        ∙ sym (opened_here items i parts item at h is ∙ ap (λ r. r >>= (λ condition. checked_after (conditions_of parts ++ condition ∷ []) (drop (i + 1) items))) ok);
  }

  stopped : (items : List A) (refusal : Refusal) → each_checked items ≡ Err refusal → (condition_checked columns (trees.all_of (map tree items)) ≡ Err refusal) × (condition_checked columns (trees.any_of (map tree items)) ≡ Err refusal)
  stopped [] refusal e = cc
  stopped (item ∷ items) refusal e = (all_each item items ∙ ap (λ r. r >>= (λ cs. Ok (all_joined cs))) e, any_each item items ∙ ap (λ r. r >>= (λ cs. Ok (any_joined cs))) e)

  pub chain_stops : (items : List A) (i : ℕ) (parts : List Condition) (item : A) (refusal : Refusal) → InChain items i parts → i < length items → item ≡ get_or items i item
      → condition_checked columns (tree item) ≡ Err refusal
      → (condition_checked columns (trees.all_of (map tree items)) ≡ Err refusal) × (condition_checked columns (trees.any_of (map tree items)) ≡ Err refusal)
  chain_stops items i parts item refusal at h is err =
      stopped items refusal (by_each items (Err refusal) (sym (opened_here items i parts item at h is ∙ ap (λ r. r >>= (λ condition. checked_after (conditions_of parts ++ condition ∷ []) (drop (i + 1) items))) err)))

  all_done : (items : List A) (conditions : List said.Condition) → each_checked items ≡ Ok conditions → 0 < length items
      → (condition_checked columns (trees.all_of (map tree items)) ≡ Ok (all_joined conditions)) × (condition_checked columns (trees.any_of (map tree items)) ≡ Ok (any_joined conditions))
  all_done [] conditions e h = absurd (omega arith)
  all_done (item ∷ items) conditions e h = (all_each item items ∙ ap (λ r. r >>= (λ cs. Ok (all_joined cs))) e, any_each item items ∙ ap (λ r. r >>= (λ cs. Ok (any_joined cs))) e)

  pub chain_ends : (items : List A) (i : ℕ) (parts : List Condition) → InChain items i parts → length items ≤ i → i ≤ length items → ¬ (length parts ≡ 0)
      → (condition_checked columns (trees.all_of (map tree items)) ≡ Ok (all_joined (conditions_of parts))) × (condition_checked columns (trees.any_of (map tree items)) ≡ Ok (any_joined (conditions_of parts)))
  chain_ends items i parts at h k some =
      all_done items (conditions_of parts) (by_each items (Ok (conditions_of parts)) (ap (checked_after (conditions_of parts)) (sym (drop_all i items h)) ∙ at.same)) (positive _ (λ e. some (at.count ∙ omega arith)))
    where
      positive : (n : ℕ) → ¬ (n ≡ 0) → 0 < n
      positive n h = omega arith

  pub chain_none : (items : List A) (i : ℕ) (parts : List Condition) → InChain items i parts → length items ≤ i → length parts ≡ 0 → items ≡ []
  chain_none items i parts at h none = nil_from_length items (omega (arith, at.count))

pub or_refused : {A P Q : Type 0} → (P → Q) → A ⊎ P → A ⊎ Q
or_refused f (inl a) = inl a
or_refused f (inr p) = inr (f p)

pub is_none : (b : Bool) (n m : ℕ) → b ≡ (n == 0) → b ≡ true → n ≡ m → m ≡ 0
is_none b n m e so is = sym is ∙ when_zero n (sym e ∙ so)
  where
    when_zero : (n : ℕ) → (n == 0) ≡ true → n ≡ 0
    when_zero n h = grind (arith, nat_tests)

pub is_some : (b : Bool) (n m : ℕ) → b ≡ (n == 0) → b ≡ false → n ≡ m → ¬ (m ≡ 0)
is_some b n m e so is h = when_some n (sym e ∙ so) (is ∙ h)
  where
    when_some : (n : ℕ) → (n == 0) ≡ false → ¬ (n ≡ 0)
    when_some n h = grind (arith, nat_tests)

-- ---- atoms

pub compare_is : (name : ArrayString) (comparison : Comparison) (operand : Operand) → atom_tree (Compare name comparison operand) ≡ compare name.bytes comparison (trees.operand_tree operand)
compare_is name comparison operand = ap atom_tree (sym (rolls-Compare name comparison operand)) ∙ fold-roll-Atom ConditionTree atom_step (Atom-F.Compare name comparison operand)

pub null_is : (name : ArrayString) → atom_tree (IsNull name) ≡ is_null name.bytes
null_is name = ap atom_tree (sym (rolls-IsNull name)) ∙ fold-roll-Atom ConditionTree atom_step (Atom-F.IsNull name)

not_null_is : (name : ArrayString) → atom_tree (IsNotNull name) ≡ is_not_null name.bytes
not_null_is name = ap atom_tree (sym (rolls-IsNotNull name)) ∙ fold-roll-Atom ConditionTree atom_step (Atom-F.IsNotNull name)

module _ (columns : List Column) (name : ArrayString) (tree : ConditionTree) (is : tree ≡ atom_tree (IsNotNull name)) where
  negates : (place : Result ℕ Refusal) → (place >>= (λ place. Ok (said.negated (said.tests_null (said.column place))))) ≡ ((place >>= (λ place. Ok (said.tests_null (said.column place)))) >>= (λ inside. Ok (said.negated inside)))
  negates (Ok place) = refl
  negates (Err refusal) = refl

  not_null : condition_checked columns tree ≡ (condition_checked columns (is_null name.bytes) >>= (λ inside. Ok (said.negated inside)))
  not_null = ap (condition_checked columns) (is ∙ not_null_is name) ∙ negates (column_place columns name.bytes)

  pub not_null_refused : (refusal : Refusal) → condition_checked columns (is_null name.bytes) ≡ Err refusal → condition_checked columns tree ≡ Err refusal
  not_null_refused refusal e = not_null ∙ ap (λ r. r >>= (λ inside. Ok (said.negated inside))) e

  pub not_null_done : (condition : said.Condition) → condition_checked columns (is_null name.bytes) ≡ Ok condition → condition_checked columns tree ≡ Ok (said.negated condition)
  not_null_done condition e = not_null ∙ ap (λ r. r >>= (λ inside. Ok (said.negated inside))) e

pub compare_checked : (columns : List Column) (name : Name) (comparison : Comparison) (operand : OperandTree) (place : ℕ) (term : said.Term)
    → column_place columns name ≡ Ok place → operand_checked columns (column_type columns place) operand ≡ Ok term → condition_checked columns (compare name comparison operand) ≡ Ok (said.compare (said.column place) comparison term)
compare_checked columns name comparison operand place term there checked = rw (there, checked)

-- the type of a column of the code
pub type_at : (items given : List ColumnDefinition) (place index : ℕ) (item : ColumnDefinition) → given ≡ items → index ≡ place → place < length items
    → column_type (map column_tree items) place ≡ (get_or given index item).column_type
type_at items given place index item same at h =
    ap (λ (column : Column). column.1) (get_or_default (map column_tree items) place ([], types.Int) (column_tree item) (simp length-map h) ∙ get_or-map column_tree items place item)
    ∙ ap (λ (x : ColumnDefinition). x.column_type) (sym (λ i. get_or (same i) (at i) item))

module _ (columns : List Column) (tree : ConditionTree) (conjunctions : List (Vec Atom Global)) where
  pub negated_refused : (refusal : Refusal) → tree ≡ negated (condition_tree conjunctions) → condition_checked columns (condition_tree conjunctions) ≡ Err refusal → condition_checked columns tree ≡ Err refusal
  negated_refused refusal is e = ap (condition_checked columns) is ∙ ap (λ r. r >>= (λ inside. Ok (said.negated inside))) e

  pub bracketed_refused : (refusal : Refusal) → tree ≡ bracketed (condition_tree conjunctions) → condition_checked columns (condition_tree conjunctions) ≡ Err refusal → condition_checked columns tree ≡ Err refusal
  bracketed_refused refusal is e = ap (condition_checked columns) is ∙ ap (λ r. r >>= (λ inside. Ok (said.bracketed inside))) e

  pub negated_done : (condition : said.Condition) → tree ≡ negated (condition_tree conjunctions) → condition_checked columns (condition_tree conjunctions) ≡ Ok condition → condition_checked columns tree ≡ Ok (said.negated condition)
  negated_done condition is e = ap (condition_checked columns) is ∙ ap (λ r. r >>= (λ inside. Ok (said.negated inside))) e

  pub bracketed_done : (condition : said.Condition) → tree ≡ bracketed (condition_tree conjunctions) → condition_checked columns (condition_tree conjunctions) ≡ Ok condition → condition_checked columns tree ≡ Ok (said.bracketed condition)
  bracketed_done condition is e = ap (condition_checked columns) is ∙ ap (λ r. r >>= (λ inside. Ok (said.bracketed inside))) e
