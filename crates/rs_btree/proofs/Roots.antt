-- Searches for cells from the root of a tree.
use Rattle.std.proofs.Common.{◌≡◌, ◌⊎◌, ◌<◌, ◌≤◌, ℕ, zero, suc, Bool, List, [], ◌∷◌, Result, Ok, Err, IfErr, IsTrue, refl, sym, ap, subst, inl, inr, arith}
use Rattle.std.specs.Prelude.{◌↔◌, length, get_or}
use Rattle.std.proofs.lemmas.Bool.{cases_lt}
use Rattle.std.proofs.lemmas.Option.{slice_get-get_or}
use Rattle.std.specs.List.{AllByRecursion, Contains}
use Rattle.rs_refusal.specs.declared.refusal.Refusal.{Refusal}
use Rattle.rs_refusal.specs.declared.refusal.Refusal.TheVariants as refusal
use Rattle.rs_pages.specs.Lending.{RestsAfter}
use Rattle.rs_pages.specs.PageMap.{PageMap}
use Rattle.rs_pages.specs.Store.{Store}
use Rattle.rs_records.specs.Order.{Ascends}
use Rattle.rs_tree.specs.Calls.{RefusesToRead}
use Rattle.rs_tree.specs.Form.{Form}
use Rattle.rs_tree.specs.Shape.{Shape, Lies, page_of}
use Rattle.rs_tree.specs.Tree.{IsNoTree, IsTree, Stands}
use Rattle.rs_tree.specs.Walking.{HasNoPart}
use Rattle.rs_tree.proofs.Lists.{all_at}
use Rattle.rs_tree.proofs.Searching.{no_part-no_tree, walk_refuses}
use Rattle.rs_btree.specs.Looking.{HasNoTop, IsFirst, IsReadRefusal, OfEach, TellsFirst}

each_there : (cells all : List (List ℕ)) → OfEach (Contains all) cells 0 (length cells) → AllByRecursion (Contains all) cells
each_there [] all has = tt
each_there (c ∷ cs) all has = (
  has 0 c (omega arith) (omega arith) refl,
  each_there cs all (λ place cell low high there. has (suc place) cell (omega arith) (omega (arith, high)) there),
)

page_after : (form : Form) (pages : PageMap) (height : ℕ) (shape : Shape height) → Lies form pages height shape → 1 < page_of height shape
page_after form pages zero shape lies = lies.after
page_after form pages (suc height) shape lies = lies.0.after

module _ (form : Form) (pages : PageMap) (root : ℕ) (cells all : List (List ℕ)) (used : ℕ → ℕ) where
  -- the empty tree has no cell
  pub empty_tells : (found : Bool) → (IsTrue found ↔ (length cells ≡ 0)) → root ≡ 0 → IsTree form pages root all used → (IsTrue found ↔ AllByRecursion (Contains all) cells)
  empty_tells found is none tree = (λ yes. of_none cells (is.0 yes), λ each. is.1 (by_list cells each)) where
    of_none : (cs : List (List ℕ)) → length cs ≡ 0 → AllByRecursion (Contains all) cs
    of_none [] e = tt
    of_none (c ∷ cs) e = absurd (omega (arith, e))

    lacks : (height : ℕ) (cell : List ℕ) → Stands form pages height root all used → Contains all cell → ⊥
    lacks zero cell stands has = let nothing : Contains [] cell = subst (λ (l : List (List ℕ)). Contains l cell) stands.no_cells has in omega (arith, nothing.1)
    lacks (suc height) cell stands has = omega (arith, page_after form pages height stands.shape stands.lies, stands.top, none)

    by_list : (cs : List (List ℕ)) → AllByRecursion (Contains all) cs → length cs ≡ 0
    by_list [] each = refl
    by_list (c ∷ cs) each = absurd (lacks tree.height c tree.stands each.0)

  -- what is told of the root is told of the tree
  pub root_tells : (found : Bool) (place : ℕ) → (IsTrue found ↔ (place ≡ length cells)) → place ≤ length cells → (root ≡ 0 → ⊥) → TellsFirst form pages root cells 0 (length cells) place
      → IsTree form pages root all used → (IsTrue found ↔ AllByRecursion (Contains all) cells)
  root_tells found place is inside some told tree = (λ yes. each_there cells all (past (is.0 yes)), λ each. is.1 (not_before each (cases_lt place (length cells)))) where
    at : (height : ℕ) → Stands form pages height root all used → IsFirst all cells 0 (length cells) place
    at zero stands = absurd (some stands.none)
    at (suc height) stands =
        subst (λ (l : List (List ℕ)). IsFirst l cells 0 (length cells) place) stands.lists
        (told.each height stands.shape (record { lies = stands.lies; top = stands.top }) (subst Ascends (sym stands.lists) tree.ascends))

    first : IsFirst all cells 0 (length cells) place
    first = at tree.height tree.stands

    past : place ≡ length cells → OfEach (Contains all) cells 0 (length cells)
    past e k cell low high there = first.has k cell low (omega (arith, high, e)) there

    not_before : AllByRecursion (Contains all) cells → (place < length cells) ⊎ (length cells ≤ place) → place ≡ length cells
    not_before each (inl before) =
        let there = slice_get-get_or cells place [] before in
        absurd (first.lacks before (get_or cells place []) there (all_at (Contains all) cells place (get_or cells place []) each there))
    not_before each (inr after) = omega (arith, inside, after)

-- where the root is the top of no part, no tree stands there
pub no_top-no_tree : (form : Form) (pages : PageMap) (root count : ℕ) → (root ≡ 0 → ⊥) → count ≡ pages.fields.pages → count < 4294967296 → HasNoTop form pages root 31 → IsNoTree form pages root
no_top-no_tree form pages root count some counted small none =
    let part : HasNoPart form pages root 31 count = record { none = λ height shape is low few. none.none height shape is low } in
    no_part-no_tree form pages root count some counted small part

-- why a search from the root is refused
pub read_refuses : {S T : Type 0} (is_tied : S → Type 0) (store : S → Store) (keeps : S → S → Type 0) (form : Form) (root : ℕ) (result : Result T Refusal) (old new : S)
    → RestsAfter is_tied store keeps result old new → IfErr result IsReadRefusal → (result ≡ Err refusal.DamagedFile → is_tied old → IsNoTree form (store old).map root)
    → IfErr result (λ why. RefusesToRead (is_tied old) form root why (store old) (store new))
read_refuses is_tied store keeps form root (Ok x) old new rests refused damaged = tt
read_refuses is_tied store keeps form root (Err why) old new rests refused damaged =
    walk_refuses (is_tied old) form root why (store old) (store new) (inr refused) (λ is tied. damaged (ap Err is) tied) rests.count
