-- Where no page in use fits a number, no page of a tree has it.
use Rattle.std.proofs.Common.{◌≡◌, ◌<◌, ℕ, false, Option, Some, None, IfNone, List, Result, Ok, Err, IfErr, OnOk, refl, subst}
use Rattle.rs_page.specs.PageBytes.{is_free, IsFit}
use Rattle.rs_page.specs.declared.header.PageKind.TheVariants as kind
use Rattle.rs_pages.specs.PageMap.{PageMap, HasNoFit}
use Rattle.rs_pages.proofs.Stores.{used_there}
use Rattle.rs_tree.specs.Content.{tree_header}
use Rattle.rs_tree.specs.Node.{IsNode}
use Rattle.rs_tree.specs.declared.layout.Layout.{Layout}
use Rattle.rs_tree.specs.declared.node.Node.{Node}
use Rattle.rs_tree.specs.declared.node.Node.TheVariants.{Leaf, Inner}
use Rattle.rs_tree.specs.Reading.{HasNoNode}

pub node_fits : (page : List ℕ) (number pages : ℕ) (layout : Layout) (node : Node) → 1 < number → IsNode page number layout node → IsFit page number pages
node_fits page number pages layout (Leaf count) past is = record { header = tree_header kind.Leaf count number; there = is.0.header; fits = (refl, (past, is.1, refl)) }
node_fits page number pages layout (Inner count) past is = record { header = tree_header kind.Inner count number; there = is.0.header; fits = (refl, (past, is.1, refl)) }

pub node_used : (page : List ℕ) (number : ℕ) (layout : Layout) (node : Node) → IsNode page number layout node → is_free page ≡ false
node_used page number layout (Leaf count) is = rw is.0.header.kind refl
node_used page number layout (Inner count) is = rw is.0.header.kind refl

pub no_fit-no_node : (map : PageMap) (number : ℕ) (layout : Layout) → HasNoFit map number → HasNoNode map number layout
no_fit-no_node map number layout none = record {
  none = λ page node there past is.
      none.none page (used_there map number page there (node_used page number layout node is)) (node_fits page number map.fields.pages layout node past is);
}

-- what holds of a refusal holds where it is handed on
pub on_err : {T E : Type 0} (result : Result T E) (why : E) (P : E → Type 0) → result ≡ Err why → P why → IfErr result P
on_err (Ok x) why P e p = tt
on_err (Err y) why P e p = let same : why ≡ y = cc in subst P same p

-- what follows where a call was not refused
pub on_ok : {T E P Q : Type 0} (result : Result T E) → OnOk result P → (P → Q) → OnOk result Q
on_ok (Ok x) p f = f p
on_ok (Err e) p f = tt

-- what holds where nothing is there
pub where_none : {X P : Type 0} (option : Option X) → ((x : X) → option ≡ Some x → ⊥) → IfNone option P → P
where_none (Some x) none p = absurd (none x refl)
where_none None none p = p
