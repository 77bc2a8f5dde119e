-- A disk that has no pages is no file of any state.
use Rattle.std.proofs.Common.{◌≡◌, ◌≤◌, ◌∙◌, ℕ, false, refl, sym, subst, inl, inr, arith}
use Rattle.std.specs.Prelude.{Result}
use Rattle.std.proofs.lemmas.Bool.{cases_lt, eqb-false}
use Rattle.rs_disk.specs.Content.{Content}
use Rattle.rs_file.specs.Contents.{Contents, HoldsAll}
use Rattle.rs_machine.specs.State.{State}
use Rattle.rs_page_owners.proofs.Moving.{one_at-same}
use Rattle.rs_pager.specs.Versions.{IsNoFile}
use Rattle.rs_pages.specs.PageMap.{PageMap}
use Rattle.rs_store.specs.Standing.{IsFileOf}
use Rattle.rs_store.specs.Calls.{IsNoFileOfAny}

-- the directory is a page of its own
pub two_pages : (map : PageMap) (contents : Contents) → HoldsAll map contents → 2 ≤ map.fields.pages
two_pages map contents holds = elim (cases_lt 1 map.fields.pages) [
  | inl below ↦ omega (arith, below)
  | inr past ↦ absurd (omega (arith, holds.parts.shares.beyond 1 past, one_at-same 1))
]

-- no pages, no file
pub no_file_of_any : (content : Content) (limit : ℕ) → IsNoFile content limit → IsNoFileOfAny limit content
no_file_of_any content limit lacks = record {
  none = λ state is. lacks.none is.pages is.stores (two_pages is.pages is.stand.contents is.stand.stands.holds) is.stand.within;
}
