-- The first of the pages has this number, or it is looked for among all.
use Rattle.std.proofs.Common.{◌≡◌, ◌∙◌, ℕ, nat_eq, Some, None, List, [], ◌∷◌, ap, sym, eq-eqb, refl, rules}
use Rattle.std.specs.Prelude.{slice_get}
use Rattle.std.specs.Map.{lookup}
use Rattle.std.specs.declared.alloc.Global.{Global}
use Rattle.std.specs.declared.boxed.Box.{Box}
use Rattle.rs_page.specs.declared.page.Page.{Page}
use Rattle.rs_page_cache.specs.Clean.{clean_at, kept_pages}
use Rattle.rs_page_cache.proofs.CleanLists.{kept-found}
use Rattle.rs_page_cache.proofs.clean.kept_page.Goals as goal

first_is : (entries : List (ℕ × Box Page Global)) (n : ℕ) (page : Box Page Global) → slice_get entries 0 ≡ Some (n, page)
    → clean_at (kept_pages entries) n ≡ Some page.value.bytes
first_is [] n page is = cc
first_is (e ∷ es) n page is =
    let first : e ≡ (n, page) = cc in
    rw first (rw (eq-eqb n n refl) refl)

pub returns-in-Some : goal.returns-in-Some
returns-in-Some c =
    let first : slice_get c.args.kept.now.entries 0 ≡ Some (c.args.number, c.in-Some.page.now) = search rules in
    let page : c.deref.result.now ≡ c.in-Some.page.now.value = search rules in
    ap (λ (p : Page). Some p.bytes) page ∙ sym (first_is c.args.kept.now.entries c.args.number c.in-Some.page.now first)

pub returns-in-Some-peek : goal.returns-in-Some-peek
returns-in-Some-peek c =
    let found : lookup (nat_eq c.args.number) c.args.kept.now.entries ≡ Some c.in-Some-peek.page.now = search rules in
    let page : c.deref-in-Some-peek.result.now ≡ c.in-Some-peek.page.now.value = search rules in
    ap (λ (p : Page). Some p.bytes) page ∙ sym (kept-found c.args.kept.now.entries c.args.number _ found)

pub returns-in-None : goal.returns-in-None
returns-in-None c =
    let found : lookup (nat_eq c.args.number) c.args.kept.now.entries ≡ None = search rules in
    sym (kept-found c.args.kept.now.entries c.args.number _ found)
