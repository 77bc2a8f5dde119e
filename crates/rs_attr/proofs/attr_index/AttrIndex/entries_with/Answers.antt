-- The bounds are the bytes of the value with the others after them; each entry between them passes.
use Rattle.std.proofs.Common.{◌≡◌, ◌∙◌, ◌++◌, List, ℕ, true, IfErr, IfOk, refl, sym, ap, subst, rules}
use Rattle.std.proofs.lemmas.Result.{IfOk-weaker}
use Rattle.rs_attr.specs.Entries.{Field, entry_bytes, index_form, plain_form}
use Rattle.rs_attr.specs.Finding.{FindsEntries}
use Rattle.rs_attr.specs.Tables.{IndexState}
use Rattle.rs_attr.proofs.Indexes.{in_index}
use Rattle.rs_records.specs.Listed.{listed, record_width}
use Rattle.rs_tree.specs.Calls.{Finds, RefusesToRead}
use Rattle.rs_value.specs.Values.{IsOfType}
use Rattle.rs_value.specs.View.{datum_of}
use Rattle.rs_attr.proofs.attr_index.AttrIndex.entries_with.Goals as goal

pub value_bytes-requires : goal.value_bytes-requires
value_bytes-requires g c = record {
  of_type = subst (λ (s : IndexState). IsOfType s.field.column (datum_of c.args.value.now)) (sym c.self.view_is) c.requires.of_type;
}

pub returns-clause-width : goal.returns-clause-width
returns-clause-width g c =
    IfOk-weaker c.descend.result (λ found. record_width found.0 ≡ c.self.inside.tree.width) (λ found. record_width found.0 ≡ entry_bytes c.args.self.now.field)
    (λ found same. same ∙ c.self.invariant.0 ∙ ap (λ (s : IndexState). entry_bytes s.field) c.self.view_is) c.descend.ensures.width

pub returns-clause-found : goal.returns-clause-found
returns-clause-found g c = λ tied.
    let d = c.self.inside in
    let pages = (g.P.Pages.store c.args.pages.now).map in
    let datum = datum_of c.args.value.now in
    let field : Field = record { column = d.column; start = d.start; cell_width = d.cell_width } in
    let bytes : List ℕ = c.in_ok-bytes.bytes.items in
    let from : List ℕ = c.args.from.now in
    let to : List ℕ = c.args.to.now in
    let low : c.deref-3.result.now ≡ bytes ++ from = c.deref-3.ensures.value ∙ c.in_ok-low.ensures ∙ ap (λ (l : List ℕ). l ++ from) c.deref.ensures.value in
    let high : c.deref-4.result.now ≡ bytes ++ to = c.deref-4.ensures.value ∙ c.in_ok-high.ensures ∙ ap (λ (l : List ℕ). l ++ to) c.deref-2.ensures.value in
    let found = c.descend.ensures.found tied (λ _. true) (record { each = λ summary result told. search rules }) (record { each = λ one other. refl }) in
    in_index (λ (f : Field) (working : ℕ). IfOk c.descend.result (λ found. FindsEntries f pages working datum from to (listed found.0) found.1)) d.column d.start d.cell_width d.tree.root d.committed
    c.args.self.now c.self.view_is
    (IfOk-weaker c.descend.result (λ found. Finds (index_form field) pages d.tree.root (bytes ++ from) (bytes ++ to) (λ _. true) (listed found.0) found.1)
    (λ found. FindsEntries field pages d.tree.root datum from to (listed found.0) found.1)
    (λ found finds. record { bytes = bytes; says = c.in_ok-bytes.ensures.says; finds = finds })
    (subst (λ (h : List ℕ). IfOk c.descend.result (λ found. Finds (index_form field) pages d.tree.root (bytes ++ from) h (λ _. true) (listed found.0) found.1)) high
    (subst (λ (l : List ℕ). IfOk c.descend.result (λ found. Finds (index_form field) pages d.tree.root l c.deref-4.result.now (λ _. true) (listed found.0) found.1)) low
    (subst (λ (w : ℕ). IfOk c.descend.result (λ found. Finds (plain_form w) pages d.tree.root c.deref-3.result.now c.deref-4.result.now (λ _. true) (listed found.0) found.1)) c.self.invariant.0 found))))

pub returns-clause-refused : goal.returns-clause-refused
returns-clause-refused g c =
    let d = c.self.inside in
    let before = g.P.Pages.store c.args.pages.now in
    let after = g.P.Pages.store c.descend.new.pages in
    let tied = g.P.Pages.is_tied c.args.pages.now in
    in_index (λ (f : Field) (working : ℕ). IfErr c.descend.result (λ why. RefusesToRead tied (index_form f) working why before after))
    d.column d.start d.cell_width d.tree.root d.committed c.args.self.now c.self.view_is
    (subst (λ (w : ℕ). IfErr c.descend.result (λ why. RefusesToRead tied (plain_form w) d.tree.root why before after)) c.self.invariant.0 c.descend.ensures.refused)
