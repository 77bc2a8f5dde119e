-- What holds of the cells of a table holds by what is known of the table.
use Rattle.std.proofs.Common.{◌≡◌, ℕ, [], sym, ◌∙◌, subst}
use Rattle.rs_tree.specs.declared.summary.NoSummary.{NoSummary}
use Rattle.rs_tree.specs.declared.summary.Summary.{Ghosts as Summaries}
use Rattle.rs_tree.specs.Form.{Form, form_of}
use Rattle.rs_cell_versions.specs.Versioned.{Standing, Versioned}
use Rattle.rs_versioned.specs.declared.kind.RecordKind.{Ghosts as Kinds}
use Rattle.rs_versioned.specs.Kinds.{kept_as}
use Rattle.rs_versioned.specs.Records.{IsKept}
use Rattle.rs_versioned.specs.Referents.{referent_form, referent_width}
use Rattle.rs_versioned.specs.Tables.{TableState}

-- a table over cells with versions
abbrev pub table_of : {T : Type 0} → T → Versioned → TableState T
table_of types versions = record { types = types; working = versions.working; committed = versions.committed }

module _ {S T : Type 0} (summaries : Summaries S) (kinds : Kinds T S) (types : T) (versions : Versioned) (table : TableState T)
    (sound : (versions.width ≡ kinds.width types) × IsKept (kept_as summaries kinds types)) (is : table_of types versions ≡ table) where
  pub in_table : (P : ℕ → Standing → Type 0) → P versions.width versions.working → P (kinds.width table.types) table.working
  in_table P here = subst (λ (t : TableState T). P (kinds.width t.types) t.working) is (subst (λ (w : ℕ). P w versions.working) sound.0 here)

  pub from_table : (P : Standing → Type 0) → P table.working → P versions.working
  from_table P here = subst (λ (t : TableState T). P t.working) (sym is) here

  pub kept_in_table : IsKept (kept_as summaries kinds table.types)
  kept_in_table = subst (λ (t : TableState T). IsKept (kept_as summaries kinds t.types)) is sound.1

-- the form of a tree of cells that keeps no summaries
abbrev pub form_without : ℕ → ℕ → Form
form_without summary width = form_of (λ bytes (_ : NoSummary). bytes ≡ []) (record {}) (λ _ _. record {}) (λ _. record {}) summary width

abbrev pub plain_form : ℕ → Form
plain_form width = form_without 0 width

-- of a layout that is that of the table
pub in_layout : (P : Form → ℕ → Type 0) (summary width other root top : ℕ) → summary ≡ 0 → width ≡ other → other ≡ referent_width → root ≡ top → P (form_without summary width) root → P referent_form top
in_layout P summary width other root top none same wide is here =
    subst (P referent_form) is
    (subst (λ (w : ℕ). P (form_without 0 w) root) (same ∙ wide) (subst (λ (n : ℕ). P (form_without n width) root) none here))
