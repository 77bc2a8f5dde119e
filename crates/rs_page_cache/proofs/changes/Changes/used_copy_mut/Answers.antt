-- What is written into the copy is held, and all else stays.
use Rattle.std.proofs.Common.{◌≡◌, ℕ, List, Option, Some, IsSome, MutBor, sym, subst, refl}
use Rattle.std.specs.Prelude.{OnSome}
use Rattle.rs_page.specs.declared.page.Page.{Page}
use Rattle.rs_page_cache.specs.Changes.{Changes, HasCopied, IsUsedCopy, held_at}
use Rattle.rs_page_cache.specs.Lending.{WritesCopy}
use Rattle.rs_page_cache.proofs.Changed.{lists_same}
use Rattle.rs_page_cache.proofs.changes.Changes.used_copy_mut.Goals as goal

written : (r : Option (MutBor Page)) (lent : MutBor Page) → r ≡ Some lent → (P : Type 0) → OnSome r P → P
written r lent is P holds = subst (λ (o : Option (MutBor Page)). OnSome o P) is holds

-- the numbers of the copies stay where one that is in use was written
still_copied : (old new : Changes) (copied : List ℕ) (n : ℕ) (was : List ℕ) (page : Page) → HasCopied old copied → IsUsedCopy was (held_at old n) → WritesCopy n page old new → HasCopied new copied
still_copied old new copied n was page lists used writes =
    lists_same old new copied n page.bytes lists (subst (IsSome {T = List ℕ}) (sym used.copy) refl) writes.there writes.others

pub invariant_of-self-lent : goal.invariant_of-self-lent
invariant_of-self-lent c = λ w. still_copied _ _ _ _ _ w c.self.invariant c.in-Some.ensures.held
    (written c.used_copy_mut.result c.in-Some.page c.in-Some.is _ (c.used_copy_mut.follows.holds w))

pub returns-in-Some : goal.returns-in-Some
returns-in-Some c = (
  (
    refl,
    (λ w. subst (λ n. WritesCopy n w c.args.self.now (c.used_copy_mut.follows.lender w)) c.number.ensures
        (subst (λ (old : Changes). WritesCopy c.number.result w old (c.used_copy_mut.follows.lender w)) c.self.view_is
        (written c.used_copy_mut.result c.in-Some.page c.in-Some.is _ (c.used_copy_mut.follows.holds w)))),
    refl,
  ),
  record {
    lends = tt;
    held = subst (λ n. IsUsedCopy c.in-Some.page.now.bytes (held_at c.args.self.now n)) c.number.ensures
        (subst (λ (old : Changes). IsUsedCopy c.in-Some.page.now.bytes (held_at old c.number.result)) c.self.view_is c.in-Some.ensures.held);
    none = tt;
  },
)
