-- What is written into the copy is held, and all else stays.
use Rattle.std.proofs.Common.{◌≡◌, ◌∙◌, ℕ, List, Option, Some, None, true, MutBor, option_map, ap, get_or, set, slice_get, sym, subst, refl}
use Rattle.std.specs.Prelude.{OnSome, IfSome, IfNone, IsSomeAnd}
use Rattle.std.proofs.lemmas.List.{set-get_or}
use Rattle.rs_page.specs.declared.page.Page.{Page}
use Rattle.rs_page.specs.PageBytes.{is_free}
use Rattle.rs_pages.specs.Held.{HeldPage, with_copy}
use Rattle.rs_page_cache.specs.Changes.{Changes, HeldSlot, held_at, IsUsedCopy}
use Rattle.rs_page_cache.proofs.Placed.{held_changed, held_read, others_changed, places_changed, some_there}
use Rattle.rs_page_cache.proofs.slots.Slots.used_copy_mut.Goals as goal

on_some : {X : Type 0} {P : Type 0} (r : Option X) → P → OnSome r P
on_some (Some x) p = p
on_some None p = tt

-- what is lent is the copy, which is in use
used_some : (h slot : HeldPage) → h ≡ slot → (r : Option (MutBor Page)) → slot.copy ≡ option_map (λ (page : MutBor Page). page.now.bytes) r → IsSomeAnd slot.copy (λ page. IsUsedCopy page slot)
    → IfSome r (λ (page : MutBor Page). IsUsedCopy page.now.bytes h)
used_some h slot here (Some page) is used =
    subst (IsUsedCopy page.now.bytes) (sym here) (subst (λ (o : Option (List ℕ)). IsSomeAnd o (λ page. IsUsedCopy page slot)) is used)
used_some h slot here None is used = tt

used_none : (h slot : HeldPage) → (r : Option (MutBor Page)) → slot.copy ≡ option_map (λ (page : MutBor Page). page.now.bytes) r → IsSomeAnd slot.copy (λ page. IsUsedCopy page slot)
    → IfNone r ((page : List ℕ) → h.copy ≡ Some page → is_free page ≡ true)
used_none h slot (Some page) is used = tt
used_none h slot None is used = absurd (subst (λ (o : Option (List ℕ)). IsSomeAnd o (λ page. IsUsedCopy page slot)) is used)

seen : (slots value : Changes) → slots ≡ value → (k n : ℕ) → slice_get slots k ≡ Some (n, held_at slots n) → slice_get value k ≡ Some (n, held_at value n)
seen slots value view_is k n there = subst (λ (all : Changes). slice_get all k ≡ Some (n, held_at all n)) view_is there

-- the slot that was read, put back
put_back : (slots value : Changes) → slots ≡ value → (k : ℕ) (slot : HeldSlot) → slot ≡ get_or slots k slot → set slots k slot ≡ value
put_back slots value view_is k slot read = ap (set slots k) read ∙ set-get_or slots k slot ∙ view_is

pub invariant_of-self-lent : goal.invariant_of-self-lent
invariant_of-self-lent c =
    let there : slice_get c.self.inside.held.items c.in-Some.place ≡ Some (c.args.number, held_at c.self.inside.held.items c.args.number) = c.in-Some.ensures.some in
    let at = seen c.self.inside.held.items c.args.self.now c.self.view_is c.in-Some.place c.args.number there in
    λ _. (
      (λ w. places_changed _ _ c.self.invariant _ c.self.view_is _ c.args.number at _ _ c.index_mut-slot.ensures.value (with_copy w.bytes) refl refl),
      places_changed _ _ c.self.invariant _ c.self.view_is _ c.args.number at _ _ c.index_mut-slot.ensures.value (λ held. held) refl
          (some_there _ _ c.self.invariant _ c.self.view_is _ c.args.number at _ c.index_mut-slot.result.now c.index_mut-slot.ensures.value (λ held. held) refl),
    )

pub returns-then-has_used_copy : goal.returns-then-has_used_copy
returns-then-has_used_copy c =
    let there : slice_get c.self.inside.held.items c.in-Some.place ≡ Some (c.args.number, held_at c.self.inside.held.items c.args.number) = c.in-Some.ensures.some in
    let at = seen c.self.inside.held.items c.args.self.now c.self.view_is c.in-Some.place c.args.number there in
    let here : held_at c.args.self.now c.args.number ≡ c.index_mut-slot.result.now.1 = held_read _ _ c.self.view_is _ c.args.number at _ c.index_mut-slot.ensures.value in
    let used = c.has_used_copy.ensures.used c.if-has_used_copy.true in (
      (
        refl,
        (λ w. on_some c.copy_mut.result (record {
          there = held_changed _ _ c.self.invariant _ c.self.view_is _ c.args.number at _ _ c.index_mut-slot.ensures.value (with_copy w.bytes) refl;
          others = others_changed _ _ c.self.invariant _ c.self.view_is _ c.args.number at _ _ c.index_mut-slot.ensures.value (with_copy w.bytes) refl;
        })),
        put_back _ _ c.self.view_is _ _ c.index_mut-slot.ensures.value,
      ),
      record {
        lends = tt;
        held = used_some (held_at c.args.self.now c.args.number) c.index_mut-slot.result.now.1 here c.copy_mut.result c.copy_mut.ensures.held used;
        none = used_none (held_at c.args.self.now c.args.number) c.index_mut-slot.result.now.1 c.copy_mut.result c.copy_mut.ensures.held used;
      },
    )

pub returns-else-has_used_copy : goal.returns-else-has_used_copy
returns-else-has_used_copy c =
    let there : slice_get c.self.inside.held.items c.in-Some.place ≡ Some (c.args.number, held_at c.self.inside.held.items c.args.number) = c.in-Some.ensures.some in
    let at = seen c.self.inside.held.items c.args.self.now c.self.view_is c.in-Some.place c.args.number there in
    let here : held_at c.args.self.now c.args.number ≡ c.index_mut-slot.result.now.1 = held_read _ _ c.self.view_is _ c.args.number at _ c.index_mut-slot.ensures.value in (
      (refl, (λ _. tt), put_back _ _ c.self.view_is _ _ c.index_mut-slot.ensures.value),
      record { lends = tt; held = tt; none = λ page copy. c.has_used_copy.ensures.none c.if-has_used_copy.false page (sym (ap (λ (h : HeldPage). h.copy) here) ∙ copy) },
    )
