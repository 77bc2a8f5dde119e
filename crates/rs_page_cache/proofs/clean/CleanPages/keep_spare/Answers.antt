-- The spare page joins the others.
use Rattle.std.proofs.Common.{◌≡◌, ◌⊎◌, ℕ, inl, inr, Some, None, Contains, ◌++◌, subst, rules}
use Rattle.std.specs.declared.alloc.Global.{Global}
use Rattle.std.specs.declared.boxed.Box.{Box}
use Rattle.rs_page.specs.declared.page.Page.{Page}
use Rattle.rs_page_cache.specs.Clean.{Clean, kept_pages, spare_page}
use Rattle.rs_page_cache.proofs.CleanLists.{kept_spare, in-all}
use Rattle.rs_page_cache.proofs.clean.CleanPages.keep_spare.Goals as goal

pub returns-in_default-page_for_another : goal.returns-in_default-page_for_another
returns-in_default-page_for_another c = record {
  pages = λ e there.
      let i = c.self.inside in
      let none : c.take.new.self ≡ None = search rules in
      let left : Contains (kept_pages c.page_for_another.new.kept.entries) e = subst (λ number. Contains (spare_page number i.spare ++ kept_pages c.page_for_another.new.kept.entries) e) none there in
      subst (λ (all : Clean). Contains all e) c.self.view_is (in-all i.spare_number i.spare (kept_pages i.kept.entries) e (c.page_for_another.ensures.pages e left));
}

pub returns-in-Some-page_for_another : goal.returns-in-Some-page_for_another
returns-in-Some-page_for_another c = record {
  pages = λ e there.
      let i = c.self.inside in
      let none : c.take.new.self ≡ None = search rules in
      let kept : Contains (kept_pages c.put_page.new.kept.entries) e = subst (λ number. Contains (spare_page number c.replace-page.new.dest ++ kept_pages c.put_page.new.kept.entries) e) none there in
      let was : i.spare_number ≡ Some c.in-Some.number = search rules in
      let page : c.replace-page.result ≡ i.spare = search rules in
      let number : c.number.result ≡ c.in-Some.number = search rules in
      let put : Contains (kept_pages i.kept.entries) e ⊎ (e ≡ (c.number.result, c.replace-page.result.value.bytes)) = elim (c.put_page.ensures.pages e kept) [
        | inl held ↦ inl (c.page_for_another.ensures.pages e held)
        | inr now ↦ inr now
      ] in
      kept_spare i.spare_number c.in-Some.number i.spare (kept_pages i.kept.entries) c.args.self.now was c.self.view_is e
      (subst (λ (p : Box Page Global). Contains (kept_pages i.kept.entries) e ⊎ (e ≡ (c.in-Some.number, p.value.bytes))) page
      (subst (λ (n : ℕ). Contains (kept_pages i.kept.entries) e ⊎ (e ≡ (n, c.replace-page.result.value.bytes))) number put));
}
