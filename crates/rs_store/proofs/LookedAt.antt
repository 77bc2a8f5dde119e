-- A look stands for what the file stands for.
use Rattle.std.proofs.Common.{◌≡◌, ◌≤◌, ◌∙◌, ℕ, inl, inr, sym}
use Rattle.std.proofs.lemmas.Bool.{cases_eq}
use Rattle.rs_disk.specs.Content.{Content}
use Rattle.rs_machine.specs.State.{State}
use Rattle.rs_page.specs.declared.file_header.TheConstants.{FLAG_OFFSET}
use Rattle.rs_pager.specs.LookedAt.{IsFileOfNone, ShowsSameFile}
use Rattle.rs_pager.specs.Versions.{IsFileOfPages, StoresFirst}
use Rattle.rs_pages.specs.PageMap.{PageMap}
use Rattle.rs_store.specs.Calls.{IsLeftOpen, IsNoFileOfAny}
use Rattle.rs_store.specs.Standing.{IsFileOf, Stands, StandWithin}
use Rattle.rs_store.proofs.NoFile.{two_pages}

least : (limit : ℕ) (map : PageMap) (state : State) → StandWithin limit map state → 2 ≤ map.fields.pages
least limit map state stand = two_pages map stand.contents stand.stands.holds

module _ (limit : ℕ) (content look : Content) (shows : ShowsSameFile content look) where
  stores_shown : (map : PageMap) → 2 ≤ map.fields.pages → IsFileOfPages content map → IsFileOfPages look map
  stores_shown map two (inl gives) = inl (shows.second map gives)
  stores_shown map two (inr first) = elim (cases_eq (content.byte FLAG_OFFSET) 0) [
    | inl closed ↦ inl (shows.closed map two first closed)
    | inr not_closed ↦ inr (shows.left_open map two first not_closed)
  ]

  abbrev file_shown : (state : State) → IsFileOf limit content state → IsFileOf limit look state
  file_shown state file = record { pages = file.pages; stores = stores_shown file.pages (least limit file.pages state file.stand) file.stores; stand = file.stand }

  abbrev file_was : (state : State) → IsFileOf limit look state → IsFileOf limit content state
  file_was state file = record { pages = file.pages; stores = shows.others file.pages (least limit file.pages state file.stand) file.stores; stand = file.stand }

  pub stands_shown : (state : State) → Stands limit content state → Stands limit look state
  stands_shown state stands =
      let two = least limit stands.file.pages state stands.file.stand in
      record {
        file = file_shown state stands.file;
        closed = λ first. shows.flag stands.file.pages two first ∙ stands.closed (shows.first stands.file.pages two first);
      }

  pub stands_was : (state : State) → Stands limit look state → Stands limit content state
  stands_was state stands =
      let two = least limit stands.file.pages state stands.file.stand in
      record {
        file = file_was state stands.file;
        closed = λ first. elim (cases_eq (content.byte FLAG_OFFSET) 0) [
          | inl closed ↦ closed
          | inr not_closed ↦
              let left = shows.left_open stands.file.pages two first not_closed in
              sym (shows.flag stands.file.pages two left) ∙ stands.closed left
        ];
      }

  pub left_open_was : IsLeftOpen limit look → IsLeftOpen limit content
  left_open_was left =
      let two = least limit left.file.pages left.state left.file.stand in
      record {
        state = left.state;
        file = file_was left.state left.file;
        first = shows.first left.file.pages two left.first;
        not_closed = λ closed. left.not_closed (shows.flag left.file.pages two left.first ∙ closed);
      }

  pub no_file_was : IsNoFileOfAny limit look → IsNoFileOfAny limit content
  no_file_was lacks = record { none = λ state file. lacks.none state (file_shown state file) }

-- what is a file of no pages is one of no state
pub none_of_any : (limit : ℕ) (content : Content) → IsFileOfNone content → IsNoFileOfAny limit content
none_of_any limit content is = record { none = λ state file. is.none file.pages (least limit file.pages state file.stand) file.stores }
