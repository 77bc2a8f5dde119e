-- Calls that read pages, one after another.
use Rattle.std.proofs.Common.{◌≡◌, Result, Ok, Err, refl, ap, ◌∙◌}
use Rattle.rs_refusal.specs.declared.refusal.Refusal.{Refusal}
use Rattle.rs_refusal.specs.declared.refusal.Refusal.TheVariants as refusal
use Rattle.rs_refusal.specs.Counts.{counted_on}
use Rattle.rs_pages.specs.Store.{Store, Rests, CountsFailure}
use Rattle.rs_pages.specs.Lending.{RestsAfter}
use Rattle.rs_pages.proofs.Stores.{SamePages-trans, KeepsCounts-trans, Rests-refl}

pub rests_trans : (tied later : Type 0) (a b c : Store) → (tied → later) → Rests tied a b → Rests later b c → Rests tied a c
rests_trans tied later a b c then one other = record {
  keeps = record {
    pages = λ is. SamePages-trans c.map b.map a.map (other.keeps.pages (then is)) (one.keeps.pages is);
    fields = other.keeps.fields ∙ one.keeps.fields;
    held = λ n. other.keeps.held n ∙ one.keeps.held n;
  };
  counts = KeepsCounts-trans a b c one.counts other.counts;
  full = other.full ∙ one.full;
}

-- a refusal after a call that counted nothing
pub counts_after : (why : Refusal) (a b c : Store) → b.failures ≡ a.failures → CountsFailure why b c → CountsFailure why a c
counts_after why a b c same counts = record {
  disk = λ is. counts.disk is ∙ ap counted_on same;
  other = λ isnt. counts.other isnt ∙ same;
}

module _ {S : Type 0} (is_tied : S → Type 0) (store : S → Store) (keeps : S → S → Type 0) where
  -- nothing was called yet
  pub rests_none : {T : Type 0} (x : T) (s : S) → keeps s s → RestsAfter is_tied store keeps (Ok x) s s
  rests_none x s kept = record { rests = Rests-refl (is_tied s) (store s); below = kept; count = refl }

  -- another call follows
  pub rests_then : {T U : Type 0} (x : T) (r : Result U Refusal) (a b c : S) → ((a b c : S) → keeps a b → keeps b c → keeps a c) → ((a b : S) → keeps a b → is_tied a → is_tied b)
      → RestsAfter is_tied store keeps (Ok x) a b → RestsAfter is_tied store keeps r b c → RestsAfter is_tied store keeps r a c
  rests_then x (Ok y) a b c trans tied one other = record {
    rests = rests_trans (is_tied a) (is_tied b) (store a) (store b) (store c) (tied a b one.below) one.rests other.rests;
    below = trans a b c one.below other.below;
    count = other.count ∙ one.count;
  }
  rests_then x (Err why) a b c trans tied one other = record {
    rests = rests_trans (is_tied a) (is_tied b) (store a) (store b) (store c) (tied a b one.below) one.rests other.rests;
    below = trans a b c one.below other.below;
    count = counts_after why (store a) (store b) (store c) one.count other.count;
  }

  -- what is answered from what was read
  pub rests_ok : {T U : Type 0} (x : T) (y : U) (a b : S) → RestsAfter is_tied store keeps (Ok x) a b → RestsAfter is_tied store keeps (Ok y) a b
  rests_ok x y a b one = record { rests = one.rests; below = one.below; count = one.count }

  -- a refusal that is handed on
  pub rests_err : {T U : Type 0} (why : Refusal) (a b : S) → RestsAfter {T = T} is_tied store keeps (Err why) a b → RestsAfter {T = U} is_tied store keeps (Err why) a b
  rests_err why a b one = record { rests = one.rests; below = one.below; count = one.count }

  -- a refusal that is none of the disk's
  pub rests_refused : {T U : Type 0} (x : T) (why : Refusal) (a b : S) → (why ≡ refusal.Disk → ⊥) → RestsAfter is_tied store keeps (Ok x) a b → RestsAfter {T = U} is_tied store keeps (Err why) a b
  rests_refused x why a b isnt one = record { rests = one.rests; below = one.below; count = record { disk = λ is. absurd (isnt is); other = λ _. one.count } }
