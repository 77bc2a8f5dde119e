-- The copy goes, or the slot does where the committed page isn't held.
use Rattle.std.proofs.Common.{◌≡◌, ◌∙◌, Bool, List, ℕ, Option, Some, None, false, is_some, option_map, refl, sym, ap}
use Rattle.rs_pages.specs.Held.{HeldPage, nothing_held}
use Rattle.rs_page_cache.specs.Changes.{Changes, abandoned_held, held_at}
use Rattle.rs_page_cache.proofs.Placed.{held_changed, held_read, others_changed, places_changed}
use Rattle.rs_page_cache.proofs.slots.Slots.abandon.Goals as goal

same_some : {A B : Type 0} (f : A → B) (o : Option A) → is_some (option_map f o) ≡ is_some o
same_some f None = refl
same_some f (Some x) = refl

-- what is held of the page is some committed page, or none
committed_is : {A : Type 0} (f : A → List ℕ) (read : Option A) (held slot : HeldPage) (answer : Bool)
    → option_map f read ≡ slot.committed → answer ≡ is_some read → held ≡ slot → is_some held.committed ≡ answer
committed_is f read held slot answer bytes tells is =
    ap (λ (h : HeldPage). is_some h.committed) is ∙ ap (is_some {T = List ℕ}) (sym bytes) ∙ same_some f read ∙ sym tells

no_copy : (held : HeldPage) → is_some held.committed ≡ false → nothing_held ≡ abandoned_held held
no_copy held none = left held.committed none
  where
    left : (committed : Option (List ℕ)) → is_some committed ≡ false → ◌≡◌ {A = HeldPage} nothing_held (record { committed = committed; copy = None })
    left None none = refl
    left (Some page) none = cc

pub invariant_of-self : goal.invariant_of-self
invariant_of-self c = places_changed _ _ c.self.invariant _ c.self.view_is _ c.args.number c.in-Some.ensures.some _ _ c.index_mut.ensures.value abandoned_held c.abandon.ensures
    (committed_is _ _ _ _ _ c.committed.ensures c.is_some.ensures (ap (λ (slots : Changes). held_at slots c.args.number) c.self.view_is ∙ held_read _ _ c.self.view_is _ c.args.number c.in-Some.ensures.some _ c.index.ensures) ∙ c.if-is_some.true)

pub returns-then-is_some-clause-there : goal.returns-then-is_some-clause-there
returns-then-is_some-clause-there c = held_changed _ _ c.self.invariant _ c.self.view_is _ c.args.number c.in-Some.ensures.some _ _ c.index_mut.ensures.value abandoned_held c.abandon.ensures

pub returns-then-is_some-clause-others : goal.returns-then-is_some-clause-others
returns-then-is_some-clause-others c = others_changed _ _ c.self.invariant _ c.self.view_is _ c.args.number c.in-Some.ensures.some _ _ c.index_mut.ensures.value abandoned_held c.abandon.ensures

pub returns-else-is_some-clause-there : goal.returns-else-is_some-clause-there
returns-else-is_some-clause-there c = c.remove.ensures.there
    ∙ no_copy (held_at c.args.self.now c.args.number) (committed_is _ _ _ _ _ c.committed.ensures c.is_some.ensures (held_read _ _ c.self.view_is _ c.args.number c.in-Some.ensures.some _ c.index.ensures) ∙ c.if-is_some.false)
