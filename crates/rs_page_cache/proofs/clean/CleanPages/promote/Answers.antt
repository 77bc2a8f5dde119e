-- A page that isn't the spare one is looked for among the others.
use Rattle.std.proofs.Common.{◌≡◌, ◌∙◌, ℕ, nat_eq, true, false, Contains, ◌++◌, ◌<◌, ◌≤◌, ◌+◌, length, ap, sym, subst, arith, rules}
use Rattle.std.specs.Prelude.{is_some}
use Rattle.std.specs.Map.{lookup}
use Rattle.std.specs.declared.alloc.Global.{Global}
use Rattle.std.specs.declared.boxed.Box.{Box}
use Rattle.lru.specs.LruCache.{LruCache, lru_cache, promoted}
use Rattle.rs_page.specs.declared.page.Page.{Page}
use Rattle.rs_page_cache.specs.declared.clean.TheConstants.{MOST_CLEAN}
use Rattle.rs_page_cache.specs.Clean.{Clean, clean_at, has_number, kept_pages, spare_page}
use Rattle.rs_page_cache.proofs.CleanCounts.{count-promoted}
use Rattle.rs_page_cache.proofs.CleanLists.{held-kept, found-promoted, promoted-stays}
use Rattle.rs_page_cache.proofs.clean.CleanPages.promote.Goals as goal

pub invariant_of-self : goal.invariant_of-self
invariant_of-self c =
    let i = c.self.inside in
    let now : c.promote.new.self ≡ lru_cache (promoted (nat_eq c.args.number) i.kept.entries) i.kept.cap = search rules in
    let count : length (promoted (nat_eq c.args.number) i.kept.entries) ≡ length i.kept.entries = count-promoted (nat_eq c.args.number) i.kept.entries in
    subst (λ (kept : LruCache ℕ (Box Page Global)). (kept.cap < MOST_CLEAN) × (length kept.entries + length i.unused.items ≤ kept.cap)) (sym now)
    (c.self.invariant.0, omega (arith, count, c.self.invariant.1))

pub returns-else-is_number-clause-held : goal.returns-else-is_number-clause-held
returns-else-is_number-clause-held c =
    let other : has_number c.self.inside.spare_number c.args.number ≡ false = search rules in
    let value : c.promote.result ≡ is_some (lookup (nat_eq c.args.number) c.self.inside.kept.entries) = search rules in
    value ∙ held-kept c.self.inside.spare_number c.self.inside.spare c.self.inside.kept.entries c.args.number other
    ∙ ap (λ (all : Clean). is_some (clean_at all c.args.number)) c.self.view_is

pub returns-else-is_number-clause-there : goal.returns-else-is_number-clause-there
returns-else-is_number-clause-there c = λ yes.
    let other : has_number c.self.inside.spare_number c.args.number ≡ false = search rules in
    let value : c.promote.result ≡ is_some (lookup (nat_eq c.args.number) c.self.inside.kept.entries) = search rules in
    let now : c.promote.new.self ≡ lru_cache (promoted (nat_eq c.args.number) c.self.inside.kept.entries) c.self.inside.kept.cap = search rules in
    subst (λ (kept : LruCache ℕ (Box Page Global)). is_some (clean_at (spare_page c.self.inside.spare_number c.self.inside.spare ++ kept_pages kept.entries) c.args.number) ≡ true) (sym now)
    (sym (held-kept c.self.inside.spare_number c.self.inside.spare (promoted (nat_eq c.args.number) c.self.inside.kept.entries) c.args.number other)
    ∙ found-promoted (nat_eq c.args.number) c.self.inside.kept.entries (sym value ∙ yes))

pub returns-else-is_number-clause-pages : goal.returns-else-is_number-clause-pages
returns-else-is_number-clause-pages c = λ e there.
    let now : c.promote.new.self ≡ lru_cache (promoted (nat_eq c.args.number) c.self.inside.kept.entries) c.self.inside.kept.cap = search rules in
    subst (λ (all : Clean). Contains all e) c.self.view_is
    (promoted-stays c.self.inside.spare_number c.self.inside.spare c.self.inside.kept.entries c.args.number e
    (subst (λ (kept : LruCache ℕ (Box Page Global)). Contains (spare_page c.self.inside.spare_number c.self.inside.spare ++ kept_pages kept.entries) e) now there))
