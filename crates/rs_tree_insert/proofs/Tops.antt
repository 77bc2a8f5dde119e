-- Pages at the tops of parts, and their entries.
use Rattle.std.proofs.Common.{◌≡◌, ◌*◌, ℕ, zero, suc, Some, List, [], ◌∷◌, ◌++◌, length, take, drop, map, slice_get, inl, inr, refl, sym, ap, ◌∙◌, subst, arith}
use Rattle.std.proofs.lemmas.List.{take_at, drop_at}
use Rattle.std.specs.List.{AllByRecursion}
use Rattle.rs_page.specs.declared.header.PageKind.TheVariants as kind
use Rattle.rs_pages.specs.PageMap.{PageMap, SamePages}
use Rattle.rs_pages.proofs.FreeLists.{same_pages_have_one_free_list}
use Rattle.rs_pages.proofs.Stores.{HasNoFit-before}
use Rattle.rs_tree_edit.specs.Editing.{AddsPage, HasNoFreeList}
use Rattle.rs_tree_insert.specs.Writing.{IsBroken, PutsRecords}
use Rattle.rs_records.specs.Records.{records}
use Rattle.rs_records.proofs.RecordLists.{records_more, records_none, records-take}
use Rattle.rs_tree.specs.Form.{Form}
use Rattle.rs_tree.specs.Shape.{Shape, Lies, page_of, size_of}
use Rattle.rs_tree.specs.Layouts.{form_with}
use Rattle.rs_tree.specs.declared.layout.Layout.{Layout}
use Rattle.rs_tree.specs.Reading.{HasNoNode}
use Rattle.rs_tree.specs.Walking.{IsPart}
use Rattle.rs_tree.proofs.Entering.{no_node-no_part}
use Rattle.rs_tree_edit.specs.Parts.{SaysPart}
use Rattle.rs_tree_insert.specs.Inserting.{tops, HasNoTops, SaysTops}
use Rattle.rs_tree_insert.specs.declared.answer.Put.{Put}
use Rattle.rs_tree_insert.specs.declared.answer.Put.TheVariants.{Found, Placed, Kept, Split}

pub tops_first : (first : ℕ) (answer : Put) → slice_get (tops first answer) 0 ≡ Some first
tops_first first Found = refl
tops_first first Placed = refl
tops_first first Kept = refl
tops_first first (Split other) = refl

pub no_node_before : (old mid : PageMap) (number : ℕ) (layout : Layout) → SamePages mid old → HasNoNode mid number layout → HasNoNode old number layout
no_node_before old mid number layout same none = record { none = λ page node there past is. none.none page node (same.pages number ∙ there) past is }

top_at : (form : Form) (pages : PageMap) (height : ℕ) (parts : List (Shape height)) (i n : ℕ) → slice_get (map (page_of height) parts) i ≡ Some n → AllByRecursion (Lies form pages height) parts
    → (part : Shape height) × IsPart form pages n height part
top_at form pages height [] i n e lie = absurd (cc)
top_at form pages height (x ∷ xs) zero n e lie = let same : page_of height x ≡ n = cc in (x, record { lies = lie.0; top = same })
top_at form pages height (x ∷ xs) (suc i) n e lie = top_at form pages height xs i n e lie.1

-- where one of the pages is none of a tree's, they are the tops of no parts
pub top_missing : (says : List ℕ → List (List ℕ) → Type 0) (layout : Layout) (pages : PageMap) (numbers : List ℕ) (i n : ℕ) → slice_get numbers i ≡ Some n → HasNoNode pages n layout → HasNoTops (form_with says layout) pages numbers
top_missing says layout pages numbers i n e none = record {
  none = λ height parts top lie.
      let part = top_at (form_with says layout) pages height parts i n (ap (λ (ns : List ℕ). slice_get ns i) top ∙ e) lie in
      (no_node-no_part says layout pages n height (size_of height part.0) (λ some. none)).none height part.0 part.1 (omega arith) (omega arith);
}

pub one_entry : (w e : ℕ) (one rest : List ℕ) → w ≡ e → length one ≡ w → records 1 e (one ++ rest) ≡ one ∷ []
one_entry w e one rest is size =
    ap (λ n. records 1 n (one ++ rest)) (sym is) ∙ records_more 0 w (one ++ rest) ∙ ap (λ x. x ∷ records 0 w (drop w (one ++ rest))) (take_at one rest w size) ∙ ap (λ rs. one ∷ rs) (records_none w (drop w (one ++ rest)))

pub two_entries : (w e : ℕ) (one old other rest : List ℕ) → w ≡ e → length one ≡ w → length other ≡ w → records 2 e (take w (one ++ old) ++ (other ++ rest)) ≡ one ∷ other ∷ []
two_entries w e one old other rest is size same =
    ap (λ n. records 2 n (take w (one ++ old) ++ (other ++ rest))) (sym is) ∙ ap (λ xs. records 2 w (xs ++ (other ++ rest))) (take_at one old w size)
    ∙ records_more 1 w (one ++ (other ++ rest)) ∙ ap (λ x. x ∷ records 1 w (drop w (one ++ (other ++ rest)))) (take_at one (other ++ rest) w size)
    ∙ ap (λ xs. one ∷ records 1 w xs) (drop_at one (other ++ rest) w size) ∙ ap (λ rs. one ∷ rs) (one_entry w w other rest refl same)

pub tops_one : (first : ℕ) (answer : Put) → ((other : ℕ) → answer ≡ Split other → ⊥) → tops first answer ≡ first ∷ []
tops_one first Found none = refl
tops_one first Placed none = refl
tops_one first Kept none = refl
tops_one first (Split other) none = absurd (none other refl)

pub says_one : (form : Form) (pages : PageMap) (first : ℕ) (answer : Put) (entries : List (List ℕ)) (one : List ℕ) → tops first answer ≡ first ∷ [] → entries ≡ one ∷ [] → SaysPart form pages first one
    → SaysTops form pages (tops first answer) entries
says_one form pages first answer entries one top is says =
    subst (λ ns. SaysTops form pages ns entries) (sym top) (subst (SaysTops form pages (first ∷ [])) (sym is) (record { each = (says, tt) }))

pub says_two : (form : Form) (pages : PageMap) (first other : ℕ) (answer : Put) (entries : List (List ℕ)) (one two : List ℕ) → answer ≡ Split other → entries ≡ one ∷ two ∷ []
    → SaysPart form pages first one → SaysPart form pages other two → SaysTops form pages (tops first answer) entries
says_two form pages first other answer entries one two split is says also =
    subst (λ (a : Put). SaysTops form pages (tops first a) entries) (sym split) (subst (SaysTops form pages (first ∷ other ∷ [])) (sym is) (record { each = (says, (also, tt)) }))

-- an entry that was said in pages that were only read since
pub says_before : (form : Form) (old mid : PageMap) (number : ℕ) (entry : List ℕ) → ((height : ℕ) (shape : Shape height) → IsPart form old number height shape → IsPart form mid number height shape)
    → SaysPart form mid number entry → SaysPart form old number entry
says_before form old mid number entry later says = record { each = λ height shape part. says.each height shape (later height shape part) }

-- what can't be written once pages were read, could not be before
pub broken_before : (old mid : PageMap) (number : ℕ) → SamePages mid old → IsBroken mid number → IsBroken old number
broken_before old mid number same (inl none) = inl (HasNoFit-before old mid number same none)
broken_before old mid number same (inr none) = inr (record { none = λ free list. none.none free (same_pages_have_one_free_list mid old free same list) })

pub list_before : (old mid : PageMap) → SamePages mid old → HasNoFreeList mid → HasNoFreeList old
list_before old mid same none = record { none = λ free list. none.none free (same_pages_have_one_free_list mid old free same list) }

-- the entries are the records of the bytes that they begin
pub puts_entries : (mid new : PageMap) (number : ℕ) (page : List ℕ) (w e count at more : ℕ) (bytes : List ℕ) (answer : Put) → w ≡ e
    → PutsRecords mid new number page kind.Inner w count at 1 (records more w (take (more * w) bytes)) answer → PutsRecords mid new number page kind.Inner e count at 1 (records more e bytes) answer
puts_entries mid new number page w e count at more bytes answer is puts =
    subst (λ n. PutsRecords mid new number page kind.Inner n count at 1 (records more n bytes) answer) is
    (subst (λ rs. PutsRecords mid new number page kind.Inner w count at 1 rs answer) (records-take more w (more * w) bytes (omega arith)) puts)

pub adds_entries : (mid new : PageMap) (number w e more : ℕ) (bytes : List ℕ) → w ≡ e
    → AddsPage mid new number kind.Inner w (records more w (take (more * w) bytes)) → AddsPage mid new number kind.Inner e (records more e bytes)
adds_entries mid new number w e more bytes is adds =
    subst (λ n. AddsPage mid new number kind.Inner n (records more n bytes)) is
    (subst (AddsPage mid new number kind.Inner w) (records-take more w (more * w) bytes (omega arith)) adds)
