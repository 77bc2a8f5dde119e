-- The line by which a view's text is read.
use Rattle.std.proofs.Common.{◌≡◌, ◌&&◌, ℕ, true, false, not, List, Ok, refl, sym, subst}
use Rattle.std.specs.List.{list_any}
use Rattle.std.specs.Str.{IsUtf8, is_utf8}
use Rattle.std.proofs.lemmas.Str.{IsUtf8-from_is_utf8}
use Rattle.rs_file_meaning.specs.States.{HasLine}
use Rattle.rs_machine.specs.Request.{Asks, command}
use Rattle.rs_machine_laws.specs.ViewLines.{IsReadable, shortest_view_line}
use Rattle.rs_syntax.specs.Sound.{IsName}
use Rattle.rs_syntax.specs.Tree.{CommandTree, QueryTree, define_view}
use Rattle.rs_syntax.specs.Verdict.{Reads}
use Rattle.rs_value.specs.Values.{is_control, is_text}

pub is_text-no_utf8 : (bytes : List ℕ) → (IsUtf8 bytes → ⊥) → is_text bytes ≡ false
is_text-no_utf8 bytes none =
    elim (is_utf8 bytes) as (λ b. is_utf8 bytes ≡ b → (b && not (list_any is_control bytes)) ≡ false) [ true ↦ λ e. absurd (none (IsUtf8-from_is_utf8 bytes e)) | false ↦ λ e. refl ] refl

-- what is said of the shortest line of a view
abbrev pub SaysTheSame : Type 0
SaysTheSame = (line : List ℕ) (from : ℕ) (name : List ℕ) (query : QueryTree) (text : List ℕ) → IsName name → Reads line from (Ok (define_view name query text)) → Reads (shortest_view_line name text) 1 (Ok (define_view name query text))

abbrev pub IsReadableThen : Type 0
IsReadableThen = (line : List ℕ) (session : ℕ) (name : List ℕ) (query : QueryTree) (text : List ℕ) → Asks line (command session (define_view name query text)) → IsReadable (shortest_view_line name text)

module _ (line name text : List ℕ) (is : line ≡ shortest_view_line name text) where
  -- where it is not readable no line defines the view
  pub none_unreadable : IsReadableThen → (IsReadable line → ⊥) → (query : QueryTree) → HasLine name query text → ⊥
  none_unreadable readable not query has = not (subst IsReadable (sym is) (readable has.line has.session name query text has.asks))

  -- what the line says is all that any line says
  pub reads_it : SaysTheSame → IsName name → (query : QueryTree) → HasLine name query text → Reads line 1 (Ok (define_view name query text))
  reads_it same named query has = subst (λ bytes. Reads bytes 1 (Ok (define_view name query text))) (sym is) (same _ _ name query text named has.asks.reads)

  -- what it says defines the view
  pub has_line : ((name text : List ℕ) (tree : CommandTree) → IsReadable (shortest_view_line name text) → Reads (shortest_view_line name text) 1 (Ok tree) → Asks (shortest_view_line name text) (command 0 tree))
      → IsReadable line → (query : QueryTree) → Reads line 1 (Ok (define_view name query text)) → HasLine name query text
  has_line asks readable query reads = record {
    line = shortest_view_line name text;
    session = 0;
    asks = asks name text (define_view name query text) (subst IsReadable is readable) (subst (λ bytes. Reads bytes 1 (Ok (define_view name query text))) is reads);
  }
