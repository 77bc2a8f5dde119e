-- The pages that stay were held before.
use Rattle.std.proofs.Common.{◌≡◌, ◌-◌, ℕ, List, length, take, Contains, subst}
use Rattle.std.specs.declared.alloc.Global.{Global}
use Rattle.std.specs.declared.boxed.Box.{Box}
use Rattle.lru.specs.LruCache.{LruCache, lru_cache}
use Rattle.rs_page.specs.declared.page.Page.{Page}
use Rattle.rs_page_cache.specs.Clean.{kept_pages}
use Rattle.rs_page_cache.proofs.CleanLists.{first-stays}
use Rattle.rs_page_cache.proofs.clean.page_for_another.Goals as goal

after_pop : (was now : LruCache ℕ (Box Page Global)) → now ≡ lru_cache (take (length was.entries - 1) was.entries) was.cap
    → (e : ℕ × List ℕ) → Contains (kept_pages now.entries) e → Contains (kept_pages was.entries) e
after_pop was now is e there = first-stays was.entries (length was.entries - 1) e
    (subst (λ (kept : LruCache ℕ (Box Page Global)). Contains (kept_pages kept.entries) e) is there)

pub returns-in-Some-pop_lru-clause-pages : goal.returns-in-Some-pop_lru-clause-pages
returns-in-Some-pop_lru-clause-pages c = after_pop c.args.kept.now c.pop_lru.new.self c.pop_lru.ensures.entries

pub returns-in-None-clause-pages : goal.returns-in-None-clause-pages
returns-in-None-clause-pages c = after_pop c.args.kept.now c.pop_lru.new.self c.pop_lru.ensures.entries
