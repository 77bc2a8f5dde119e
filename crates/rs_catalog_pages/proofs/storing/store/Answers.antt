-- The pages that are there now are in use; then the bytes are written into them.
use Rattle.std.proofs.Common.{◌≡◌, ◌<◌, ◌+◌, ◌*◌, ◌^◌, ◌++◌, List, ℕ, Ok, Err, length, sym, ap, subst, ◌∙◌, arith, rules}
use Rattle.std.proofs.lemmas.Result.{err_from_is_err_and}
use Rattle.rs_refusal.specs.declared.refusal.Refusal.TheVariants as refusal
use Rattle.rs_pages.specs.Uses.{SetsCatalogue}
use Rattle.rs_catalog_pages.specs.Items.{SaysCatalogue}
use Rattle.rs_catalog_pages.specs.Said.{said_catalogue}
use Rattle.rs_catalog_pages.specs.Places.{number_from}
use Rattle.rs_catalog_pages.specs.Storing.{AreNotOwn, MovesPages, HasNoOwnBytes, WritesParts}
use Rattle.rs_catalog_pages.proofs.Fronts.{kept_both}
use Rattle.rs_catalog_pages.proofs.Moving.{MovesPages-trans, not_own_before}
use Rattle.rs_page_owners.proofs.Working.{works_then, works_ok}
use Rattle.rs_catalog_pages.proofs.Refused.{works-stores}
use Rattle.rs_catalog_pages.proofs.Writing.{not_own-no_bytes, stores}
use Rattle.rs_catalog_pages.proofs.storing.store.Goals as goal

pub returns-in_err-grow-clause-leaves : goal.returns-in_err-grow-clause-leaves
returns-in_err-grow-clause-leaves g c =
    let p = err_from_is_err_and c.from_residual-in_err-grow.result c.from_residual-in_err-grow.ensures.1 in
    let copied = c.in_ok-extend_from_slice.ensures.items ∙ ap (λ (l : List ℕ). l ++ c.args.numbers.now) c.new-after.ensures.items in
    record {
      keeps = c.in_err-grow.ensures.keeps;
      works = rw (p.1, p.2) (works-stores (g.P.Pages.is_tied c.args.pages.now → AreNotOwn (g.P.Pages.store c.args.pages.now).map c.extend_from_slice.new.self.items) (g.P.Pages.is_tied c.args.pages.now → HasNoOwnBytes (g.P.Pages.store c.args.pages.now).map c.args.numbers.now)
          c.in_err-grow.field-0.0 (g.P.Pages.store c.args.pages.now) (g.P.Pages.store c.grow.new.pages)
          (λ none tied. not_own-no_bytes (g.P.Pages.store c.args.pages.now).map c.args.numbers.now (subst (λ ns. AreNotOwn (g.P.Pages.store c.args.pages.now).map ns) copied (none tied)))
          c.in_err-grow.ensures.works);
    }

pub returns-in_err-grow-clause-room : goal.returns-in_err-grow-clause-room
returns-in_err-grow-clause-room g c = λ is.
    let p = err_from_is_err_and c.from_residual-in_err-grow.result c.from_residual-in_err-grow.ensures.1 in
    let why : c.in_err-grow.field-0.0 ≡ refusal.FileFull = cc (p.1, p.2, is) in
    let written = c.in_ok-write.ensures.written in
    let whole : c.write.new.bytes.items ≡ written.back = written.is ∙ ap (λ (l : List ℕ). l ++ written.back) c.new-bytes.ensures.items in
    let copied = c.in_ok-extend_from_slice.ensures.items ∙ ap (λ (l : List ℕ). l ++ c.args.numbers.now) c.new-after.ensures.items in
    record {
      bytes = c.write.new.bytes.items;
      says = subst (λ (l : List ℕ). SaysCatalogue l (said_catalogue c.args.catalogue.now)) (sym whole) written.said;
      more = omega (arith, c.in_err-grow.ensures.room (ap Err why), ap (length {A = ℕ}) copied, c.parts_of-count.ensures.few, c.len.ensures, c.write.new.bytes.ok.0);
    }

pub returns-in_err-shrink-clause-leaves : goal.returns-in_err-shrink-clause-leaves
returns-in_err-shrink-clause-leaves g c =
    let p = err_from_is_err_and c.from_residual-in_err-shrink.result c.from_residual-in_err-shrink.ensures.1 in
    let copied = c.in_ok-extend_from_slice.ensures.items ∙ ap (λ (l : List ℕ). l ++ c.args.numbers.now) c.new-after.ensures.items in
    record {
      keeps = g.met.P.Pages.keeps_trans c.args.pages.now c.grow.new.pages c.shrink.new.pages c.in_ok-grow.ensures.keeps c.in_err-shrink.ensures.keeps;
      works = rw (p.1, p.2) (works-stores (g.P.Pages.is_tied c.args.pages.now → HasNoOwnBytes (g.P.Pages.store c.args.pages.now).map c.args.numbers.now) (g.P.Pages.is_tied c.args.pages.now → HasNoOwnBytes (g.P.Pages.store c.args.pages.now).map c.args.numbers.now)
          c.in_err-shrink.field-0.0 (g.P.Pages.store c.args.pages.now) (g.P.Pages.store c.shrink.new.pages) (λ none. none)
          (works_then (g.P.Pages.is_tied c.args.pages.now → AreNotOwn (g.P.Pages.store c.args.pages.now).map c.extend_from_slice.new.self.items) (g.P.Pages.is_tied c.args.pages.now → HasNoOwnBytes (g.P.Pages.store c.args.pages.now).map c.args.numbers.now)
          (g.P.Pages.is_tied c.grow.new.pages → AreNotOwn (g.P.Pages.store c.grow.new.pages).map c.grow.new.numbers.items) (tt {0}) (Err c.in_err-shrink.field-0.0)
          (g.P.Pages.store c.args.pages.now) (g.P.Pages.store c.grow.new.pages) (g.P.Pages.store c.shrink.new.pages)
          (λ none tied.
          let later = g.met.P.Pages.keeps_tied c.args.pages.now c.grow.new.pages c.in_ok-grow.ensures.keeps tied in
          not_own-no_bytes (g.P.Pages.store c.args.pages.now).map c.args.numbers.now
          (subst (λ ns. AreNotOwn (g.P.Pages.store c.args.pages.now).map ns) copied
          (not_own_before (g.P.Pages.store c.args.pages.now).map (g.P.Pages.store c.grow.new.pages).map c.extend_from_slice.new.self.items c.grow.new.numbers.items (c.in_ok-grow.ensures.moves tied) (none later))))
          c.in_ok-grow.ensures.works c.in_err-shrink.ensures.works));
    }

pub returns-in_err-write_parts-clause-leaves : goal.returns-in_err-write_parts-clause-leaves
returns-in_err-write_parts-clause-leaves g c =
    let p = err_from_is_err_and c.from_residual-in_err-write_parts.result c.from_residual-in_err-write_parts.ensures.1 in
    let copied = c.in_ok-extend_from_slice.ensures.items ∙ ap (λ (l : List ℕ). l ++ c.args.numbers.now) c.new-after.ensures.items in
    record {
      keeps = g.met.P.Pages.keeps_trans c.args.pages.now c.grow.new.pages c.write_parts.new.pages c.in_ok-grow.ensures.keeps (g.met.P.Pages.keeps_trans c.grow.new.pages c.shrink.new.pages c.write_parts.new.pages c.in_ok-shrink.ensures.keeps c.in_err-write_parts.ensures.keeps);
      works = rw (p.1, p.2) (works-stores (g.P.Pages.is_tied c.args.pages.now → HasNoOwnBytes (g.P.Pages.store c.args.pages.now).map c.args.numbers.now) (g.P.Pages.is_tied c.args.pages.now → HasNoOwnBytes (g.P.Pages.store c.args.pages.now).map c.args.numbers.now)
          c.in_err-write_parts.field-0.0 (g.P.Pages.store c.args.pages.now) (g.P.Pages.store c.write_parts.new.pages) (λ none. none)
          (works_then ⊥ (g.P.Pages.is_tied c.args.pages.now → HasNoOwnBytes (g.P.Pages.store c.args.pages.now).map c.args.numbers.now)
          (g.P.Pages.is_tied c.shrink.new.pages → AreNotOwn (g.P.Pages.store c.shrink.new.pages).map c.as_slice.result.now) (tt {0}) (Err c.in_err-write_parts.field-0.0)
          (g.P.Pages.store c.args.pages.now) (g.P.Pages.store c.shrink.new.pages) (g.P.Pages.store c.write_parts.new.pages)
          (λ none tied.
          let later = g.met.P.Pages.keeps_tied c.args.pages.now c.grow.new.pages c.in_ok-grow.ensures.keeps tied in
          let last = g.met.P.Pages.keeps_tied c.grow.new.pages c.shrink.new.pages c.in_ok-shrink.ensures.keeps later in
          let moves = MovesPages-trans (g.P.Pages.store c.args.pages.now).map (g.P.Pages.store c.grow.new.pages).map (g.P.Pages.store c.shrink.new.pages).map c.extend_from_slice.new.self.items c.grow.new.numbers.items c.shrink.new.numbers.items
          (c.in_ok-grow.ensures.moves tied) (c.in_ok-shrink.ensures.moves later) in
          not_own-no_bytes (g.P.Pages.store c.args.pages.now).map c.args.numbers.now
          (subst (λ ns. AreNotOwn (g.P.Pages.store c.args.pages.now).map ns) copied
          (not_own_before (g.P.Pages.store c.args.pages.now).map (g.P.Pages.store c.shrink.new.pages).map c.extend_from_slice.new.self.items c.shrink.new.numbers.items moves
          (subst (λ ns. AreNotOwn (g.P.Pages.store c.shrink.new.pages).map ns) c.as_slice.ensures.value (none last)))))
          (works_then (g.P.Pages.is_tied c.args.pages.now → AreNotOwn (g.P.Pages.store c.args.pages.now).map c.extend_from_slice.new.self.items) ⊥ ⊥ (tt {0}) (Ok (tt {0}))
          (g.P.Pages.store c.args.pages.now) (g.P.Pages.store c.grow.new.pages) (g.P.Pages.store c.shrink.new.pages) (λ none. none) c.in_ok-grow.ensures.works
          (works_ok (g.P.Pages.is_tied c.grow.new.pages → AreNotOwn (g.P.Pages.store c.grow.new.pages).map c.grow.new.numbers.items) ⊥ (tt {0}) (tt {0}) (g.P.Pages.store c.grow.new.pages) (g.P.Pages.store c.shrink.new.pages) c.in_ok-shrink.ensures.works))
          c.in_err-write_parts.ensures.works));
    }

pub overflow_cast-len : goal.overflow_cast-len
overflow_cast-len g c =
    let written = c.in_ok-write.ensures.written in
    let whole : c.write.new.bytes.items ≡ written.back = written.is ∙ ap (λ (l : List ℕ). l ++ written.back) c.new-bytes.ensures.items in
    let small : length c.write.new.bytes.items < 2 ^ 32 = subst (λ (l : List ℕ). length l < 2 ^ 32) (sym whole) (c.requires.short.each written.back written.said) in
    let size : c.len-2.result ≡ length c.write.new.bytes.items = omega (arith, c.len-2.ensures, c.write.new.bytes.ok.0) in
    search rules

pub returns-clause-stores : goal.returns-clause-stores
returns-clause-stores g c = λ tied.
    let written = c.in_ok-write.ensures.written in
    let whole : c.write.new.bytes.items ≡ written.back = written.is ∙ ap (λ (l : List ℕ). l ++ written.back) c.new-bytes.ensures.items in
    let says = subst (λ (l : List ℕ). SaysCatalogue l (said_catalogue c.args.catalogue.now)) (sym whole) written.said in
    let size : c.len-2.result ≡ length c.write.new.bytes.items = omega (arith, c.len-2.ensures, c.write.new.bytes.ok.0) in
    let few : length c.shrink.new.numbers.items * 4080 < length c.write.new.bytes.items + 4080 = omega (arith, c.in_ok-shrink.ensures.enough, c.parts_of-count.ensures.few, c.len.ensures, c.write.new.bytes.ok.0) in
    let copied = c.in_ok-extend_from_slice.ensures.items ∙ ap (λ (l : List ℕ). l ++ c.args.numbers.now) c.new-after.ensures.items in
    let kept = kept_both c.args.numbers.now c.extend_from_slice.new.self.items c.grow.new.numbers.items c.shrink.new.numbers.items copied c.in_ok-grow.ensures.kept c.in_ok-shrink.ensures.kept in
    let later = g.met.P.Pages.keeps_tied c.args.pages.now c.grow.new.pages c.in_ok-grow.ensures.keeps tied in
    let last = g.met.P.Pages.keeps_tied c.grow.new.pages c.shrink.new.pages c.in_ok-shrink.ensures.keeps later in
    let end = g.met.P.Pages.keeps_tied c.shrink.new.pages c.write_parts.new.pages c.in_ok-write_parts.ensures.keeps last in
    let moves = MovesPages-trans (g.P.Pages.store c.args.pages.now).map (g.P.Pages.store c.grow.new.pages).map (g.P.Pages.store c.shrink.new.pages).map c.extend_from_slice.new.self.items c.grow.new.numbers.items c.shrink.new.numbers.items
    (c.in_ok-grow.ensures.moves tied) (c.in_ok-shrink.ensures.moves later) in
    let writes = subst (λ bs. WritesParts (g.P.Pages.store c.shrink.new.pages).map (g.P.Pages.store c.write_parts.new.pages).map c.shrink.new.numbers.items bs (number_from c.shrink.new.numbers.items 0)) c.as_slice-2.ensures.value
    (subst (λ ns. WritesParts (g.P.Pages.store c.shrink.new.pages).map (g.P.Pages.store c.write_parts.new.pages).map ns c.as_slice-2.result.now (number_from ns 0)) c.as_slice.ensures.value (c.in_ok-write_parts.ensures.writes last)) in
    let first : c.number_from.result ≡ number_from c.shrink.new.numbers.items 0 = c.number_from.ensures ∙ ap (λ ns. number_from ns 0) c.as_slice-3.ensures.value in
    let sets = subst (λ n. SetsCatalogue (g.P.Pages.is_tied c.write_parts.new.pages) n (length c.write.new.bytes.items) (g.P.Pages.store c.write_parts.new.pages) (g.P.Pages.store c.set_catalogue.new.self)) first
    (subst (λ k. SetsCatalogue (g.P.Pages.is_tied c.write_parts.new.pages) c.number_from.result k (g.P.Pages.store c.write_parts.new.pages) (g.P.Pages.store c.set_catalogue.new.self)) size c.set_catalogue.ensures.sets) in
    stores (g.P.Pages.is_tied c.write_parts.new.pages) end (g.P.Pages.store c.args.pages.now).map (g.P.Pages.store c.shrink.new.pages).map (g.P.Pages.store c.write_parts.new.pages) (g.P.Pages.store c.set_catalogue.new.self)
    c.args.numbers.now c.shrink.new.numbers.items c.write.new.bytes.items (said_catalogue c.args.catalogue.now) says few kept
    (subst (λ ns. MovesPages (g.P.Pages.store c.args.pages.now).map (g.P.Pages.store c.shrink.new.pages).map ns c.shrink.new.numbers.items) copied moves) writes sets
