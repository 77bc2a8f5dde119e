-- The committed page where it is held, else page 0.
use Rattle.std.proofs.Common.{◌≡◌, ◌<◌, ◌∙◌, ℕ, List, slice_index, ap, subst, sym}
use Rattle.std.specs.Option.{option_map}
use Rattle.rs_page.specs.declared.page.TheConstants.{PAGE_SIZE}
use Rattle.rs_page_cache.specs.Changes.{held_at}
use Rattle.rs_page_copies.specs.Listed.{CopiedPages, copy_in}
use Rattle.rs_page_copies.proofs.Copying.{copy-some, copy-none}
use Rattle.rs_page_copies.proofs.copied.CopiedCopies.page.Goals as goal

pub returns-in-Some : goal.returns-in-Some
returns-in-Some c = subst (λ (copied : CopiedPages). (k : ℕ) → k < PAGE_SIZE
    → slice_index c.in-Some.page.now.bytes k ≡ slice_index (copy_in copied.changes copied.first_page (slice_index copied.numbers c.args.place)) k) c.self.view_is
    (λ k lt. ap (λ (bytes : List ℕ). slice_index bytes k) (copy-some c.self.inside.changes.now c.self.inside.first_page.now.bytes (slice_index c.self.inside.numbers.now c.args.place) c.in-Some.page.now.bytes (sym (ap (option_map (λ page. page.now.bytes)) c.in-Some.is) ∙ (c.committed.ensures ∙ ap (λ number. (held_at c.self.inside.changes.now number).committed) c.new-number.ensures))))

pub returns-in-None : goal.returns-in-None
returns-in-None c = subst (λ (copied : CopiedPages). (k : ℕ) → k < PAGE_SIZE
    → slice_index c.self.inside.first_page.now.bytes k ≡ slice_index (copy_in copied.changes copied.first_page (slice_index copied.numbers c.args.place)) k) c.self.view_is
    (λ k lt. ap (λ (bytes : List ℕ). slice_index bytes k) (copy-none c.self.inside.changes.now c.self.inside.first_page.now.bytes (slice_index c.self.inside.numbers.now c.args.place) (sym (ap (option_map (λ page. page.now.bytes)) c.in-None.is) ∙ (c.committed.ensures ∙ ap (λ number. (held_at c.self.inside.changes.now number).committed) c.new-number.ensures))))
