-- Calls of a disk one after another, by what each does to what a read gives and to what a crash may leave.
use Rattle.std.proofs.Common.{inl, inr, ℕ, ◌+◌, ◌≤◌, IsTrue, arith, refl, sym, ◌∙◌, subst}
use Rattle.rs_disk.specs.Content.{Content, KeepsOthers}
use Rattle.rs_disk.specs.Crash.{Same, Torn, Passes}
use Rattle.rs_disk.specs.declared.disk.Disk as disk
use Rattle.rs_disk.specs.Reaches.{IsOutside, KeepsWhere, Reaches, Through}

pub keeps_all : (stays : ℕ → Type 0) (content : Content) → KeepsWhere stays content content
keeps_all stays content = record { bytes = λ i _ _. refl; no_shorter = omega arith }

pub keeps_less : (more less : ℕ → Type 0) (a b : Content) → ((i : ℕ) → less i → more i) → KeepsWhere more a b → KeepsWhere less a b
keeps_less more less a b fewer keeps = record { bytes = λ i within is. keeps.bytes i within (fewer i is); no_shorter = keeps.no_shorter }

pub keeps_then : (stays : ℕ → Type 0) (a b c : Content) → KeepsWhere stays a b → KeepsWhere stays b c → KeepsWhere stays a c
keeps_then stays a b c one two = record {
  bytes = λ i inside is. let longer : a.size ≤ b.size = one.no_shorter in two.bytes i (omega arith) is ∙ one.bytes i inside is;
  no_shorter = let longer : a.size ≤ b.size = one.no_shorter in let still : b.size ≤ c.size = two.no_shorter in omega arith;
}

pub torn_keeps : (at n : ℕ) (a b : Content) → Torn at n a b → KeepsWhere (IsOutside at (at + n)) a b
torn_keeps at n a b torn = record {
  bytes = λ i inside is. elim is [ inl before ↦ torn.before i inside before | inr after ↦ torn.after i inside after ];
  no_shorter = torn.no_shorter;
}

pub others_keep : (at n : ℕ) (a b : Content) → KeepsOthers at n a b → KeepsWhere (IsOutside at (at + n)) a b
others_keep at n a b keeps = record {
  bytes = λ i inside is. elim is [ inl before ↦ keeps.before i before | inr after ↦ keeps.after i after ];
  no_shorter = keeps.no_shorter;
}

module _ {D : Type 0} (may_leave : D → Content → Type 0) (left_since : D → D → Content → Type 0) where
  pub passes_less : (one step : Content → Content → Type 0) (old new : D) → ((a b : Content) → one a b → step a b)
      → Passes may_leave left_since one old new → Passes may_leave left_since step old new
  passes_less one step old new less passes = record {
    now = λ image left. let f = passes.now image left in record { source = f.source; was_left = f.was_left; steps = less f.source image f.steps };
    meanwhile = λ start image left. elim (passes.meanwhile start image left) [
      | inl before ↦ inl before
      | inr f ↦ inr (record { source = f.source; was_left = f.was_left; steps = less f.source image f.steps })
    ];
    earlier = passes.earlier;
  }

  pub passes_then : (one two step : Content → Content → Type 0) (old mid new : D) → ((a b : Content) → one a b → step a b)
      → ((a b c : Content) → one a b → two b c → step a c)
      → Passes may_leave left_since one old mid → Passes may_leave left_since two mid new → Passes may_leave left_since step old new
  passes_then one two step old mid new alone both first second = record {
    now = λ image left.
        let f = second.now image left in
        let e = first.now f.source f.was_left in
        record { source = e.source; was_left = e.was_left; steps = both e.source f.source image e.steps f.steps };
    meanwhile = λ start image left. elim (second.meanwhile start image left) [
      | inl earlier ↦ elim (first.meanwhile start image earlier) [
        | inl before ↦ inl before
        | inr f ↦ inr (record { source = f.source; was_left = f.was_left; steps = alone f.source image f.steps })
      ]
      | inr f ↦ let e = first.now f.source f.was_left in
          inr (record { source = e.source; was_left = e.was_left; steps = both e.source f.source image e.steps f.steps })
    ];
    earlier = λ start image left. second.earlier start image (first.earlier start image left);
  }

  -- nothing was called
  pub passes_none : (step : Content → Content → Type 0) (old : D) → ((a : Content) → step a a) → Passes may_leave left_since step old old
  passes_none step old same = record {
    now = λ image left. record { source = image; was_left = left; steps = same image };
    meanwhile = λ start image left. inl left;
    earlier = λ start image left. left;
  }

module _ {D : Type 0} (d : disk.Ghosts D) where
  pub reaches_less : (one step : Content → Content → Type 0) (old new : D) → ((a b : Content) → one a b → step a b)
      → Reaches d one old new → Reaches d step old new
  reaches_less one step old new less reaches = record {
    honesty = reaches.honesty;
    keeping = reaches.keeping;
    reads = λ honest. less (d.seen old) (d.seen new) (reaches.reads honest);
    images = λ keeps. passes_less d.may_leave d.left_since one step old new less (reaches.images keeps);
  }

  pub reaches_then : (one two step : Content → Content → Type 0) (old mid new : D) → ((a b : Content) → one a b → step a b)
      → ((a b c : Content) → one a b → two b c → step a c)
      → Reaches d one old mid → Reaches d two mid new → Reaches d step old new
  reaches_then one two step old mid new alone both first second = record {
    honesty = second.honesty ∙ first.honesty;
    keeping = second.keeping ∙ first.keeping;
    reads = λ honest.
        both (d.seen old) (d.seen mid) (d.seen new) (first.reads honest) (second.reads (subst IsTrue (sym first.honesty) honest));
    images = λ keeps.
        passes_then d.may_leave d.left_since one two step old mid new alone both (first.images keeps)
        (second.images (subst IsTrue (sym first.keeping) keeps));
  }

  pub reaches_none : (step : Content → Content → Type 0) (old : D) → ((a : Content) → step a a) → Reaches d step old old
  reaches_none step old same = record {
    honesty = refl;
    keeping = refl;
    reads = λ _. same (d.seen old);
    images = λ _. passes_none d.may_leave d.left_since step old same;
  }

  -- with bytes that stay in both
  pub reaches_on : (one two stays : ℕ → Type 0) (old mid new : D) → ((i : ℕ) → stays i → one i) → ((i : ℕ) → stays i → two i)
      → Reaches d (KeepsWhere one) old mid → Reaches d (KeepsWhere two) mid new → Reaches d (KeepsWhere stays) old new
  reaches_on one two stays old mid new in_one in_two first second =
      reaches_then (KeepsWhere one) (KeepsWhere two) (KeepsWhere stays) old mid new
      (λ a b keeps. keeps_less one stays a b in_one keeps)
      (λ a b c keeps more. keeps_then stays a b c (keeps_less one stays a b in_one keeps) (keeps_less two stays b c in_two more))
      first second

  -- and a sync after them
  pub reaches_synced : (stays : ℕ → Type 0) (old mid new : D) → Reaches d (KeepsWhere stays) old mid → Reaches d Same mid new
      → Reaches d (KeepsWhere stays) old new
  reaches_synced stays old mid new first second =
      reaches_then (KeepsWhere stays) Same (KeepsWhere stays) old mid new (λ a b keeps. keeps)
      (λ a b c keeps same. subst (λ content. KeepsWhere stays a content) (sym same) keeps) first second

  pub reaches_bytes : (one stays : ℕ → Type 0) (old new : D) → ((i : ℕ) → stays i → one i)
      → Reaches d (KeepsWhere one) old new → Reaches d (KeepsWhere stays) old new
  reaches_bytes one stays old new fewer reaches =
      reaches_less (KeepsWhere one) (KeepsWhere stays) old new (λ a b keeps. keeps_less one stays a b fewer keeps) reaches

module _ {D : Type 0} (d : disk.Ghosts D) where
  -- reads one after another
  pub same-then : (old mid new : D) → Reaches d Same old mid → Reaches d Same mid new → Reaches d Same old new
  same-then old mid new first second = reaches_then d Same Same Same old mid new (λ a b same. same) (λ a b c one two. two ∙ one) first second

  -- reads, then writes
  pub same-reaches : (stays : ℕ → Type 0) (old mid new : D) → Reaches d Same old mid → Reaches d (KeepsWhere stays) mid new
      → Reaches d (KeepsWhere stays) old new
  same-reaches stays old mid new first second =
      reaches_then d Same (KeepsWhere stays) (KeepsWhere stays) old mid new
      (λ a b same. subst (λ content. KeepsWhere stays a content) (sym same) (keeps_all stays a))
      (λ a b c same keeps. subst (λ content. KeepsWhere stays content c) same keeps) first second

  pub same-keeps : (stays : ℕ → Type 0) (old new : D) → Reaches d Same old new → Reaches d (KeepsWhere stays) old new
  same-keeps stays old new reaches =
      reaches_less d Same (KeepsWhere stays) old new
      (λ a b same. subst (λ content. KeepsWhere stays a content) (sym same) (keeps_all stays a)) reaches

-- What a crash might have left since an earlier moment.

module _ {D : Type 0} (d : disk.Ghosts D) where
  pub through-then : (P : Content → Type 0) (old mid new : D) → Through d P old mid → Through d P mid new → Through d P old new
  through-then P old mid new first second = record {
    each = λ start image left. elim (second.each start image left) [ inl before ↦ first.each start image before | inr is ↦ inr is ];
  }

  pub through-less : (P Q : Content → Type 0) (old new : D) → ((image : Content) → P image → Q image) → Through d P old new → Through d Q old new
  through-less P Q old new less through = record {
    each = λ start image left. elim (through.each start image left) [ inl before ↦ inl before | inr is ↦ inr (less image is) ];
  }

  pub through-none : (P : Content → Type 0) (old : D) → Through d P old old
  through-none P old = record { each = λ start image left. inl left }
