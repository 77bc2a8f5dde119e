-- Where a page that is the top of a part is not released or not lent.
use Rattle.std.proofs.Common.{◌≡◌, ◌<◌, ℕ, zero, suc, false, Some, List, length, map, refl, subst, inl, inr, arith}
use Rattle.rs_page.specs.PageBytes.{is_free, IsFit}
use Rattle.rs_page.specs.declared.header.PageKind.TheVariants as kind
use Rattle.rs_pages.specs.PageMap.{PageMap, HasNoFit}
use Rattle.rs_pages.specs.Store.{Store}
use Rattle.rs_pages.proofs.FreeLists.{free_list_is_shorter_than_the_count}
use Rattle.rs_pages.proofs.Stores.{used_there}
use Rattle.rs_page_owners.specs.Owners.{Shares}
use Rattle.rs_tree.specs.Content.{tree_header}
use Rattle.rs_tree.specs.Form.{Form}
use Rattle.rs_tree.specs.Shape.{Shape, child_of}
use Rattle.rs_tree.specs.Walking.{IsPart}
use Rattle.rs_page_owners.proofs.Working.{NotReleased}

-- the page with this number is in use and fits its number, and is one of the file's
pub record IsLent (map : PageMap) (number : ℕ) : Type 0 where
  pub page : List ℕ
  pub there : map.page number ≡ Some page
  pub used : is_free page ≡ false
  pub fits : (pages : ℕ) → IsFit page number pages
  pub past : 1 < number
  pub below : number < map.fields.pages

pub part_lent : (form : Form) (map : PageMap) (number height : ℕ) (shape : Shape height) → IsPart form map number height shape → IsLent map number
part_lent form pages number zero shape part =
    let past = subst (λ n. 1 < n) part.top part.lies.after in
    let header = subst (λ n. IsLent pages n) part.top (record {
      page = part.lies.page;
      there = part.lies.there;
      used = rw part.lies.leaf.has.header.kind refl;
      fits = λ count. record { header = tree_header kind.Leaf (length shape.cells) shape.page; there = part.lies.leaf.has.header; fits = (refl, (part.lies.after, part.lies.leaf.some, refl)) };
      past = part.lies.after;
      below = part.lies.below;
    }) in header
part_lent form pages number (suc height) shape part =
    subst (λ n. IsLent pages n) part.top (record {
      page = part.lies.0.page;
      there = part.lies.0.there;
      used = rw part.lies.0.inner.has.header.kind refl;
      fits = λ count. record { header = tree_header kind.Inner (length (map (child_of height) shape.parts)) shape.page; there = part.lies.0.inner.has.header; fits = (refl, (part.lies.0.after, part.lies.0.inner.some, refl)) };
      past = part.lies.0.after;
      below = part.lies.0.below;
    })

pub lent-fits : (map : PageMap) (number : ℕ) → IsLent map number → HasNoFit map number → ⊥
lent-fits map number lent none = none.none lent.page (used_there map number lent.page lent.there lent.used) (lent.fits map.fields.pages)

pub lent-released : (tied : Type 0) (s : Store) (number : ℕ) (used : ℕ → ℕ) → tied → IsLent s.map number → Shares s.map used → NotReleased tied number s → ⊥
lent-released tied s number used is lent shares refused = elim refused [
  | inl none ↦ lent-fits s.map number lent (none is)
  | inr (inl one) ↦ absurd (omega (arith, lent.past, one))
  | inr (inr long) ↦ absurd (omega (arith, free_list_is_shorter_than_the_count s.map shares.free (omega (arith, lent.below)) shares.list))
]
