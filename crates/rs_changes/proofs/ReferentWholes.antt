-- A referent that comes, moves or ends, at the next version.
use Rattle.std.proofs.Common.{◌≡◌, ◌≤◌, ◌+◌, ◌∙◌, ℕ, Bool, List, [], ◌∷◌, sym, ap, subst, arith}
use Rattle.std.specs.List.{AllByRecursion}
use Rattle.rs_cell_versions.specs.Version.{HaveDiedBy}
use Rattle.rs_file.specs.Contents.{Contents, HoldsParts}
use Rattle.rs_file.specs.declared.opened.OpenedFile.{OpenedFile}
use Rattle.rs_file.specs.declared.opened.OpenedTable.{OpenedTable}
use Rattle.rs_file_parts.specs.Calls.{ChangesReferents, EndsNamed}
use Rattle.rs_file_parts.specs.Parts.{HaveAllDiedBy, HoldsNoParts, Makes}
use Rattle.rs_file_parts.proofs.Made.{makes_then}
use Rattle.rs_pages.specs.PageMap.{PageMap}
use Rattle.rs_versioned.specs.Records.{HasOneMore}
use Rattle.rs_change_laws.specs.Changing.{HoldsNoFile}
use Rattle.rs_change_laws.specs.Parts.{EndsReferent, MovesReferent, PutsReferent, living_referent}
use Rattle.rs_changes.proofs.Wholes.{MakesNext, makes_next, parts_opened}

-- ---- records that are dead

died_later : (version later : ℕ) → version ≤ later → (dead : List (List ℕ)) → HaveDiedBy version dead → HaveDiedBy later dead
died_later version later upto [] all = tt
died_later version later upto (d ∷ dead) all = (omega (arith, all.0, upto), died_later version later upto dead all.1)

tables_later : (version later : ℕ) → version ≤ later → (tables : List OpenedTable) → AllByRecursion (λ (table : OpenedTable). HaveDiedBy version table.records.working.dead) tables
    → AllByRecursion (λ (table : OpenedTable). HaveDiedBy later table.records.working.dead) tables
tables_later version later upto [] all = tt
tables_later version later upto (t ∷ tables) all = (died_later version later upto t.records.working.dead all.0, tables_later version later upto tables all.1)

-- what died by a version died by the next one
pub order_next : (version : ℕ) (file : OpenedFile) → HaveAllDiedBy version file → HaveAllDiedBy (version + 1) file
order_next version file order = record {
  tables = tables_later version (version + 1) (omega arith) file.tables.items order.tables;
  referents = died_later version (version + 1) (omega arith) file.referents.working.dead order.referents;
}

-- ---- the changes

abbrev Comes : ℕ → ℕ → List ℕ → ℕ → Contents → Contents → Type 0
Comes version route name measure = ChangesReferents (HasOneMore (living_referent version route name measure))

abbrev Goes : ℕ → ℕ → List ℕ → Bool → Contents → Contents → Type 0
Goes version route name found = ChangesReferents (EndsNamed version route name found)

-- whether there was one is not looked at
goes : (route : ℕ) (name : List ℕ) (found : Bool) (version : ℕ) (contents now : Contents) → contents.directory.accepted ≡ version → Goes (version + 1) route name found contents now
    → EndsReferent route name contents now
goes route name found version contents now level change =
    let there : Goes (contents.directory.accepted + 1) route name found contents now = subst (λ n. Goes (n + 1) route name found contents now) (sym level) change in
    record { rest = there.rest; changed = (found, there.changed) }

comes : (route : ℕ) (name : List ℕ) (measure version : ℕ) (contents now : Contents) → contents.directory.accepted ≡ version → Comes (version + 1) route name measure contents now
    → PutsReferent route name measure contents now
comes route name measure version contents now level change = subst (λ n. Comes (n + 1) route name measure contents now) (sym level) change

-- one went and one came
record GoesAndComes (version route : ℕ) (name : List ℕ) (measure : ℕ) (found : Bool) (old now : Contents) : Type 0 where
  between : Contents
  went : Goes (version + 1) route name found old between
  came : Comes (version + 1) route name measure between now

-- only the referents have changed
pub puts_beside : (route : ℕ) (name : List ℕ) (measure : ℕ) (contents now : Contents) → PutsReferent route name measure contents now → now.directory ≡ contents.directory
puts_beside route name measure contents now change = ap (λ (c : Contents). c.directory) change.rest

pub ends_beside : (route : ℕ) (name : List ℕ) (contents now : Contents) → EndsReferent route name contents now → now.directory ≡ contents.directory
ends_beside route name contents now change = ap (λ (c : Contents). c.directory) change.rest

pub moves_beside : (route : ℕ) (name : List ℕ) (measure : ℕ) (contents now : Contents) → MovesReferent route name measure contents now → now.directory ≡ contents.directory
moves_beside route name measure contents now change = puts_beside route name measure change.0 now change.2 ∙ ends_beside route name contents change.0 change.1

module _ (old new : PageMap) (was is : OpenedFile) (route : ℕ) (name : List ℕ) where
  pub puts_next : (measure : ℕ) → ((accepted : ℕ) → accepted ≤ was.accepted + 1 → Makes old new was is accepted (was.accepted + 1) (Comes (was.accepted + 1) route name measure))
      → MakesNext old new was is (PutsReferent route name measure)
  puts_next measure makes =
      makes_next (Comes (was.accepted + 1) route name measure) (PutsReferent route name measure) old new was is (comes route name measure was.accepted) (makes was.accepted (omega arith))

  pub ends_next : (found : Bool) → ((accepted : ℕ) → accepted ≤ was.accepted + 1 → Makes old new was is accepted (was.accepted + 1) (Goes (was.accepted + 1) route name found))
      → MakesNext old new was is (EndsReferent route name)
  ends_next found makes =
      makes_next (Goes (was.accepted + 1) route name found) (EndsReferent route name) old new was is (goes route name found was.accepted) (makes was.accepted (omega arith))

  pub moves_next : (mid : PageMap) (between : OpenedFile) (found : Bool) (measure : ℕ)
      → ((accepted : ℕ) → accepted ≤ was.accepted + 1 → Makes old mid was between accepted (was.accepted + 1) (Goes (was.accepted + 1) route name found))
      → ((accepted : ℕ) → accepted ≤ was.accepted + 1 → Makes mid new between is accepted (was.accepted + 1) (Comes (was.accepted + 1) route name measure))
      → MakesNext old new was is (MovesReferent route name measure)
  moves_next mid between found measure ended came =
      makes_next (GoesAndComes was.accepted route name measure found) (MovesReferent route name measure) old new was is
      (λ contents now level both. (
        both.between,
        goes route name found was.accepted contents both.between level both.went,
        comes route name measure was.accepted both.between now (ap (λ (c : Contents). c.directory.accepted) both.went.rest ∙ level) both.came,
      ))
      (makes_then (Goes (was.accepted + 1) route name found) (Comes (was.accepted + 1) route name measure) (GoesAndComes was.accepted route name measure found)
      (λ first next last went came. record { between = next; went = went; came = came })
      old mid new was between is was.accepted (was.accepted + 1) (was.accepted + 1) (ended was.accepted (omega arith)) (came (was.accepted + 1) (omega arith)))

-- where no contents lie there after the part, the file held none before it
pub no_file_before : (old mid : PageMap) (was between : OpenedFile) (change : Contents → Contents → Type 0) → MakesNext old mid was between change → HoldsNoParts mid between → HoldsNoFile old was
no_file_before old mid was between change makes none = record {
  none = λ contents holds opened.
      let made = makes.each contents opened.accepted (subst (λ n. HoldsParts old n contents) opened.accepted holds.parts) (parts_opened was contents opened) in
      none.none (was.accepted + 1) made.contents made.holds made.opened;
}
