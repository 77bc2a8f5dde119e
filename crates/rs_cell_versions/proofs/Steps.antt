-- What each step of a change makes of the cells that stand there, of the count of the living and of the dead.
use Rattle.std.proofs.Common.{◌≡◌, ◌⊎◌, ◌↔◌, ◌<◌, ◌≤◌, ◌+◌, ◌-◌, ◌^◌, ℕ, suc, Bool, true, false, cond, min, List, [], ◌∷◌, ◌++◌, IsTrue, filter, refl, sym, ap, ◌∙◌, subst, inl, inr, arith}
use Rattle.std.proofs.lemmas.Bool.{false≢true, cases_Bool, lt-ltb, le-ltb, not-true}
use Rattle.std.proofs.lemmas.List.{append_assoc}
use Rattle.std.proofs.lemmas.List.Sorted.{Contains-permutation, IsPermutation-cons, IsPermutation-sym, IsPermutation-to_front, IsPermutation-trans}
use Rattle.std.proofs.lemmas.List.Sums.{count_by-le-length}
use Rattle.std.specs.List.{Contains, count_by}
use Rattle.std.specs.List.Sorted.{IsPermutation}
use Rattle.rs_page_owners.specs.Counts.{◌&◌, no_pages}
use Rattle.rs_page_owners.specs.Owners.{Shares}
use Rattle.rs_page_owners.proofs.Moving.{moves_same, moves_trans, same_pages-moves}
use Rattle.rs_pages.specs.PageMap.{PageMap}
use Rattle.rs_tree.specs.Calls.{Becomes, Changes, IsNotShared}
use Rattle.rs_tree.specs.Cells.{with_cell, without_cell}
use Rattle.rs_tree.specs.Form.{Form}
use Rattle.rs_tree.specs.Tree.{IsTree}
use Rattle.rs_btree.proofs.Sizes.{tree_le}
use Rattle.rs_cell_versions.specs.Changes.{with_end, without_cells}
use Rattle.rs_cell_versions.specs.Inner.{Adds, EndsOne, HoldsNoneFirst, TakesOut, standing, with_last}
use Rattle.rs_cell_versions.specs.Version.{born_of, ended, is_dead, is_living}
use Rattle.rs_cell_versions.specs.Versioned.{BecomesCells, ChangesCells, HoldsCells, HoldsNone, Standing, nothing_stands}
use Rattle.rs_cell_versions.proofs.Among.{among, count-with, filter-with_no, filter-with_yes, filtered, with_present, without_absent}
use Rattle.rs_cell_versions.proofs.Ending.{ended-dead, living-not_dead, not_living-dead}
use Rattle.rs_cell_versions.proofs.Permutations.{IsPermutation-rest}
use Rattle.rs_cell_versions.proofs.Sizes.{no_cells_no_pages}

-- it is told whether the cell is there
abbrev pub Tells : Form → PageMap → ℕ → List ℕ → Bool → Type 0
Tells form pages root cell found = (cells : List (List ℕ)) (used others : ℕ → ℕ) → IsTree form pages root cells used → Shares pages (used & others) → (IsTrue found ↔ Contains cells cell)

-- it is told whether the cell is new
abbrev pub TellsNew : Form → PageMap → ℕ → List ℕ → Bool → Type 0
TellsNew form pages root cell is_new = (cells : List (List ℕ)) (used : ℕ → ℕ) → IsTree form pages root cells used → (IsTrue is_new ↔ (Contains cells cell → ⊥))

-- one cell more
one_more : (test : List ℕ → Bool) (cell : List ℕ) (cells : List (List ℕ)) → test cell ≡ true → count_by test (with_cell cell cells) ≡ suc (count_by test (without_cell cell cells))
one_more test cell cells is = count-with test cell cells ∙ (let e : cond {A = ℕ} (test cell) 1 0 ≡ 1 = ap (λ b. cond {A = ℕ} b 1 0) is in omega arith)

no_more : (test : List ℕ → Bool) (cell : List ℕ) (cells : List (List ℕ)) → test cell ≡ false → count_by test (with_cell cell cells) ≡ count_by test (without_cell cell cells)
no_more test cell cells isnt = count-with test cell cells ∙ (let e : cond {A = ℕ} (test cell) 1 0 ≡ 0 = ap (λ b. cond {A = ℕ} b 1 0) isnt in omega arith)

-- what a count and a permutation of dead ones make of cells
record Fits (cells : List (List ℕ)) (living : ℕ) (dead : List (List ℕ)) : Type 0 where
  counted : count_by is_living cells ≡ living
  kept : IsPermutation (filter is_dead cells) dead

fits_of : (form : Form) (pages : PageMap) (root living : ℕ) (dead cells : List (List ℕ)) (used : ℕ → ℕ) → HoldsCells form pages (standing root living dead) cells used → Fits cells living dead
fits_of form pages root living dead cells used holds = record { counted = holds.living; kept = holds.dead }

module _ (cell : List ℕ) (cells : List (List ℕ)) (living : ℕ) (dead : List (List ℕ)) where
  -- a living cell comes
  fits_with : is_living cell ≡ true → without_cell cell cells ≡ cells → Fits cells living dead → Fits (with_cell cell cells) (suc living) dead
  fits_with lives apart fits = record {
    counted = one_more is_living cell cells lives ∙ ap (λ cs. suc (count_by is_living cs)) apart ∙ ap suc fits.counted;
    kept = subst (λ cs. IsPermutation cs dead) (sym (filter-with_no is_dead cell cells (living-not_dead cell lives) ∙ ap (filter is_dead) apart)) fits.kept;
  }

  -- a living cell goes
  fits_without : is_living cell ≡ true → with_cell cell cells ≡ cells → Fits cells living dead → Fits (without_cell cell cells) (living - 1) dead
  fits_without lives there fits =
      let more : count_by is_living cells ≡ suc (count_by is_living (without_cell cell cells)) = ap (count_by is_living) (sym there) ∙ one_more is_living cell cells lives in
      record {
        counted = omega (arith, more, fits.counted);
        kept = subst (λ cs. IsPermutation cs dead) (ap (filter is_dead) (sym there) ∙ filter-with_no is_dead cell cells (living-not_dead cell lives)) fits.kept;
      }

  -- a dead cell comes
  fits_died : is_living cell ≡ false → without_cell cell cells ≡ cells → Fits cells living dead → Fits (with_cell cell cells) living (dead ++ cell ∷ [])
  fits_died ended apart fits =
      let first : IsPermutation (filter is_dead (with_cell cell cells)) (cell ∷ filter is_dead (without_cell cell cells)) = filter-with_yes is_dead cell cells (not_living-dead cell ended) in
      let next : IsPermutation (filter is_dead (with_cell cell cells)) (cell ∷ filter is_dead cells) =
      subst (λ cs. IsPermutation (filter is_dead (with_cell cell cells)) (cell ∷ filter is_dead cs)) apart first in
      let last : IsPermutation (cell ∷ dead) (dead ++ cell ∷ []) = IsPermutation-sym (dead ++ cell ∷ []) (cell ∷ dead) (IsPermutation-to_front dead cell) in
      record {
        counted = no_more is_living cell cells ended ∙ ap (count_by is_living) apart ∙ fits.counted;
        kept = IsPermutation-trans (filter is_dead (with_cell cell cells)) (cell ∷ filter is_dead cells) (dead ++ cell ∷ []) next
            (IsPermutation-trans (cell ∷ filter is_dead cells) (cell ∷ dead) (dead ++ cell ∷ []) (IsPermutation-cons cell (filter is_dead cells) dead fits.kept) last);
      }

-- the first of the dead goes
fits_cleared : (cell : List ℕ) (cells : List (List ℕ)) (living : ℕ) (rest : List (List ℕ)) → is_dead cell ≡ true → with_cell cell cells ≡ cells
    → Fits cells living (cell ∷ rest) → Fits (without_cell cell cells) living rest
fits_cleared cell cells living rest ended there fits =
    let without : List (List ℕ) = filter is_dead (without_cell cell cells) in
    let parted : IsPermutation (filter is_dead cells) (cell ∷ without) =
    subst (λ cs. IsPermutation (filter is_dead cs) (cell ∷ without)) there (filter-with_yes is_dead cell cells ended) in
    record {
      counted = sym (no_more is_living cell cells (not-true (is_living cell) ended)) ∙ ap (count_by is_living) there ∙ fits.counted;
      kept = IsPermutation-rest cell without rest
          (IsPermutation-trans (cell ∷ without) (filter is_dead cells) (cell ∷ rest) (IsPermutation-sym (filter is_dead cells) (cell ∷ without) parted) fits.kept);
    }

-- the first of the dead is one of the cells
first_dead : (cell : List ℕ) (cells : List (List ℕ)) (living : ℕ) (rest : List (List ℕ)) → Fits cells living (cell ∷ rest) → (is_dead cell ≡ true) × Contains cells cell
first_dead cell cells living rest fits =
    filtered is_dead cells cell
    (Contains-permutation (cell ∷ rest) (filter is_dead cells) cell (IsPermutation-sym (filter is_dead cells) (cell ∷ rest) fits.kept) (0, omega arith, refl))

-- a tree with such cells has taken the place of one
module _ (form : Form) (new : PageMap) (to now : ℕ) (dead : List (List ℕ)) where
  becomes_held : (old : PageMap) (used : ℕ → ℕ) (cells : List (List ℕ)) → Becomes form old new to used cells → Fits cells now dead → BecomesCells form old new used (standing to now dead) cells
  becomes_held old used cells becomes fits = record {
    after = becomes.after;
    holds = record { tree = becomes.tree; living = fits.counted; dead = fits.kept };
    moves = becomes.moves;
  }

  becomes_cells : (old : PageMap) (used : ℕ → ℕ) (cells others : List (List ℕ)) → cells ≡ others → BecomesCells form old new used (standing to now dead) cells → BecomesCells form old new used (standing to now dead) others
  becomes_cells old used cells others same becomes = subst (BecomesCells form old new used (standing to now dead)) same becomes

module _ (form : Form) (old new : PageMap) (root to : ℕ) (cell : List ℕ) (lives : IsTrue (is_living cell)) where
  -- a living cell that is new
  pub adds_new : (living now : ℕ) (is_new : Bool) → 1 ≤ form.width → old.fields.pages < 2 ^ 32 → now ≡ min (living + 1) (2 ^ 64 - 1) → IsTrue is_new
      → Changes form old new root to (with_cell cell) → TellsNew form old root cell is_new → Adds form old new root living to now cell
  adds_new living now is_new wide few count is changes tells = record {
    each = λ dead. record {
      each = λ cells used others holds shares.
          let fits = fits_of form old root living dead cells used holds in
          let apart = without_absent cell cells holds.tree.ascends ((tells cells used holds.tree).0 is) in
          let most = tree_le form old wide root cells used holds.tree in
          let less = count_by-le-length is_living cells in
          let next : suc living ≡ now = omega (arith, most, less, fits.counted) in
          becomes_held form new to now dead old used (with_cell cell cells) (changes.each cells used others holds.tree shares)
          (subst (λ n. Fits (with_cell cell cells) n dead) next (fits_with cell cells living dead lives apart fits));
    };
  }

  -- and one that isn't
  pub adds_known : (living : ℕ) (is_new : Bool) → is_new ≡ false → Changes form old new root to (with_cell cell) → TellsNew form old root cell is_new → Adds form old new root living to living cell
  adds_known living is_new isnt changes tells = record {
    each = λ dead. record {
      each = λ cells used others holds shares.
          let there = with_present cell cells holds.tree.ascends (elim (among cell cells) [
            | inl has ↦ has
            | inr none ↦ absurd (false≢true (sym isnt ∙ (tells cells used holds.tree).1 none))
          ]) in
          becomes_held form new to living dead old used (with_cell cell cells) (changes.each cells used others holds.tree shares)
          (subst (λ cs. Fits cs living dead) (sym there) (fits_of form old root living dead cells used holds));
    };
  }

  -- a cell that isn't there stays away
  pub ends_missing : (living version : ℕ) (found : Bool) → found ≡ false → Changes form old new root to (without_cell cell) → Tells form old root cell found
      → EndsOne form old new root living to living false version cell
  ends_missing living version found isnt changes tells = record {
    each = λ dead. record {
      there = λ cells used others holds shares has. absurd (false≢true (sym isnt ∙ (tells cells used others holds.tree shares).1 has));
      missing = λ cells used others holds shares none.
          let apart = without_absent cell cells holds.tree.ascends none in
          becomes_cells form new to living dead old used (without_cell cell cells) cells apart
          (becomes_held form new to living dead old used (without_cell cell cells) (changes.each cells used others holds.tree shares)
          (subst (λ cs. Fits cs living dead) (sym apart) (fits_of form old root living dead cells used holds)));
    };
  }

  -- a cell that isnt version has seen before is taken out
  pub ends_gone : (living version now : ℕ) (found : Bool) → IsTrue found → version ≤ born_of cell → now ≡ living - 1 → Changes form old new root to (without_cell cell) → Tells form old root cell found
      → EndsOne form old new root living to now false version cell
  ends_gone living version now found is late count changes tells = record {
    each = λ dead. record {
      there = λ cells used others holds shares has.
          let there = with_present cell cells holds.tree.ascends has in
          let gone : without_cell cell cells ≡ with_end version cell cells =
          ap (λ b. cond b (with_cell (ended version cell) (without_cell cell cells)) (without_cell cell cells)) (sym (le-ltb (born_of cell) version late)) in
          becomes_cells form new to now dead old used (without_cell cell cells) (with_end version cell cells) gone
          (becomes_held form new to now dead old used (without_cell cell cells) (changes.each cells used others holds.tree shares)
          (subst (λ n. Fits (without_cell cell cells) n dead) (sym count) (fits_without cell cells living dead lives there (fits_of form old root living dead cells used holds))));
      missing = λ cells used others holds shares none. absurd (none ((tells cells used others holds.tree shares).0 is));
    };
  }

-- a cell that versions have seen before ends
module _ (form : Form) (old mid new : PageMap) (root below to : ℕ) (cell last : List ℕ) (lives : IsTrue (is_living cell)) where
  with_the_last : (dead cells : List (List ℕ)) (now version : ℕ) (is_new : Bool) → version < 2 ^ 64 - 1 → last ≡ ended version cell
      → (without_cell last cells ≡ cells) × IsTrue is_new ⊎ (with_cell last cells ≡ cells) × (is_new ≡ false)
      → Fits cells now dead → Fits (with_cell last cells) now (with_last is_new (ended version cell) dead)
  with_the_last dead cells now version is_new before same (inl one) fits =
      subst (λ b. Fits (with_cell last cells) now (with_last b (ended version cell) dead)) (sym one.1)
      (subst (λ c. Fits (with_cell last cells) now (dead ++ c ∷ [])) same
      (fits_died last cells now dead (ap is_living same ∙ ended-dead version cell before) one.0 fits))
  with_the_last dead cells now version is_new before same (inr other) fits =
      subst (λ b. Fits (with_cell last cells) now (with_last b (ended version cell) dead)) (sym other.1) (subst (λ cs. Fits cs now dead) (sym other.0) fits)

  apart_or_there : (cells : List (List ℕ)) (used : ℕ → ℕ) (is_new : Bool) → IsTree form mid below cells used → TellsNew form mid below last is_new
      → (without_cell last cells ≡ cells) × IsTrue is_new ⊎ (with_cell last cells ≡ cells) × (is_new ≡ false)
  apart_or_there cells used is_new tree tells = elim (cases_Bool is_new) [
    | inl is ↦ inl (without_absent last cells tree.ascends ((tells cells used tree).0 is), is)
    | inr isnt ↦ inr (
      with_present last cells tree.ascends (elim (among last cells) [
        | inl has ↦ has
        | inr none ↦ absurd (false≢true (sym isnt ∙ (tells cells used tree).1 none))
      ]),
      isnt,
    )
  ]

  pub ends_last : (living version now : ℕ) (found is_new : Bool) → IsTrue found → born_of cell < version → version < 2 ^ 64 - 1 → now ≡ living - 1 → last ≡ ended version cell
      → Changes form old mid root below (without_cell cell) → Tells form old root cell found → Changes form mid new below to (with_cell last) → TellsNew form mid below last is_new
      → EndsOne form old new root living to now is_new version cell
  ends_last living version now found is_new is early before count same removed tells put tells_new = record {
    each = λ dead. record {
      there = λ cells used others holds shares has.
          let there = with_present cell cells holds.tree.ascends has in
          let first = removed.each cells used others holds.tree shares in
          let second = put.each (without_cell cell cells) first.after others first.tree (first.moves.beside others shares).shares in
          let fits : Fits (without_cell cell cells) now dead =
          subst (λ n. Fits (without_cell cell cells) n dead) (sym count) (fits_without cell cells living dead lives there (fits_of form old root living dead cells used holds)) in
          let whole : Becomes form old new to used (with_cell last (without_cell cell cells)) =
          record { after = second.after; tree = second.tree; moves = moves_trans old mid new used first.after second.after first.moves second.moves } in
          let end : with_cell last (without_cell cell cells) ≡ with_end version cell cells =
          ap (λ c. with_cell c (without_cell cell cells)) same
          ∙ ap (λ b. cond b (with_cell (ended version cell) (without_cell cell cells)) (without_cell cell cells)) (sym (lt-ltb (born_of cell) version early)) in
          becomes_cells form new to now (with_last is_new (ended version cell) dead) old used (with_cell last (without_cell cell cells)) (with_end version cell cells) end
          (becomes_held form new to now (with_last is_new (ended version cell) dead) old used (with_cell last (without_cell cell cells)) whole
          (with_the_last dead (without_cell cell cells) now version is_new before same (apart_or_there (without_cell cell cells) first.after is_new first.tree tells_new) fits));
      missing = λ cells used others holds shares none. absurd (none ((tells cells used others holds.tree shares).0 is));
    };
  }

-- isnt tree stands there, so isnt cells do
pub none_shared : (form : Form) (pages : PageMap) (standing : Standing) → IsNotShared form pages standing.root → HoldsNone form pages standing
none_shared form pages standing none = record { none = λ cells used others holds shares. none.none cells used others holds.tree shares }

pub none_first : (form : Form) (pages : PageMap) (root : ℕ) (first : List (List ℕ)) → IsNotShared form pages root → HoldsNoneFirst form pages root first
none_first form pages root first none = record { each = λ living rest. none_shared form pages (standing root living (first ++ rest)) none }

-- the first of the dead is taken out
pub takes_one : (form : Form) (old new : PageMap) (root to : ℕ) (cell : List ℕ) → Changes form old new root to (without_cell cell) → TakesOut form old new root to (cell ∷ [])
takes_one form old new root to cell changes = record {
  each = λ living rest. record {
    each = λ cells used others holds shares.
        let fits = fits_of form old root living (cell ∷ rest) cells used holds in
        let first = first_dead cell cells living rest fits in
        becomes_held form new to living rest old used (without_cell cell cells) (changes.each cells used others holds.tree shares)
        (fits_cleared cell cells living rest first.0 (with_present cell cells holds.tree.ascends first.1) fits);
  };
}

-- or isn't there
pub none_found : (form : Form) (pages : PageMap) (root : ℕ) (cell : List ℕ) (found : Bool) → found ≡ false → Tells form pages root cell found → HoldsNoneFirst form pages root (cell ∷ [])
none_found form pages root cell found isnt tells = record {
  each = λ living rest. record {
    none = λ cells used others holds shares.
        let first = first_dead cell cells living rest (fits_of form pages root living (cell ∷ rest) cells used holds) in
        false≢true (sym isnt ∙ (tells cells used others holds.tree shares).1 first.1);
  };
}

-- none was taken out yet
pub takes_none : (form : Form) (pages : PageMap) (root : ℕ) → TakesOut form pages pages root root []
takes_none form pages root = record {
  each = λ living rest. record {
    each = λ cells used others holds shares.
        record { after = used; holds = holds; moves = same_pages-moves pages pages used (record { fields = refl; pages = λ n. refl }) };
  };
}

without_cells-append : (gone : List (List ℕ)) (cell : List ℕ) (cells : List (List ℕ)) → without_cell cell (without_cells gone cells) ≡ without_cells (gone ++ cell ∷ []) cells
without_cells-append [] cell cells = refl
without_cells-append (g ∷ gs) cell cells = without_cells-append gs cell (without_cell g cells)

module _ (form : Form) (old mid new : PageMap) (root below to : ℕ) (gone : List (List ℕ)) (cell : List ℕ) (takes : TakesOut form old mid root below gone) where
  split : (rest : List (List ℕ)) → (gone ++ cell ∷ []) ++ rest ≡ gone ++ (cell ∷ rest)
  split rest = append_assoc gone (cell ∷ []) rest

  held_before : (living : ℕ) (rest cells : List (List ℕ)) (used others : ℕ → ℕ) → HoldsCells form old (standing root living ((gone ++ cell ∷ []) ++ rest)) cells used → Shares old (used & others)
      → BecomesCells form old mid used (standing below living (cell ∷ rest)) (without_cells gone cells)
  held_before living rest cells used others holds shares =
      (takes.each living (cell ∷ rest)).each cells used others (subst (λ dead. HoldsCells form old (standing root living dead) cells used) (split rest) holds) shares

  -- another one is
  pub takes_next : TakesOut form mid new below to (cell ∷ []) → TakesOut form old new root to (gone ++ cell ∷ [])
  takes_next next = record {
    each = λ living rest. record {
      each = λ cells used others holds shares.
          let first = held_before living rest cells used others holds shares in
          let second = (next.each living rest).each (without_cells gone cells) first.after others first.holds (first.moves.beside others shares).shares in
          let whole : BecomesCells form old new used (standing to living rest) (without_cell cell (without_cells gone cells)) =
          record { after = second.after; holds = second.holds; moves = moves_trans old mid new used first.after second.after first.moves second.moves } in
          subst (BecomesCells form old new used (standing to living rest)) (without_cells-append gone cell cells) whole;
    };
  }

  -- or none stood there
  pub none_next : HoldsNoneFirst form mid below (cell ∷ []) → (more : List (List ℕ)) → HoldsNoneFirst form old root ((gone ++ cell ∷ []) ++ more)
  none_next none more = record {
    each = λ living rest. record {
      none = λ cells used others holds shares.
          let parted : ((gone ++ cell ∷ []) ++ more) ++ rest ≡ (gone ++ cell ∷ []) ++ (more ++ rest) = append_assoc (gone ++ cell ∷ []) more rest in
          let first = held_before living (more ++ rest) cells used others (subst (λ dead. HoldsCells form old (standing root living dead) cells used) parted holds) shares in
          (none.each living (more ++ rest)).none (without_cells gone cells) first.after others first.holds (first.moves.beside others shares).shares;
    };
  }

-- all cells are gone
pub cleared_cells : (form : Form) (old new : PageMap) (was : Standing) (to : ℕ) → Changes form old new was.root to (λ _. []) → ChangesCells form old new was nothing_stands (λ _. [])
cleared_cells form old new was to changes = record {
  each = λ cells used others holds shares.
      let becomes = changes.each cells used others holds.tree shares in
      let none = no_cells_no_pages form new to becomes.after becomes.tree in
      record {
        after = no_pages;
        holds = record {
          tree = record {
            height = 0;
            stands = record { none = refl; no_cells = refl; no_pages = λ n. refl };
            ascends = tt;
            once = λ n. omega arith;
          };
          living = refl;
          dead = record { moves = []; below = tt; is = refl };
        };
        moves = moves_same old new used becomes.after used no_pages (λ n. refl) none becomes.moves;
      };
}
