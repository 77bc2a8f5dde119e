use Rattle.std.proofs.Common.{◌≡◌, true, refl}
use Rattle.rs_syntax.specs.declared.written.WrittenCommand.TheVariants as forms
use Rattle.rs_syntax.specs.View.{written_of}
use Rattle.rs_meaning.specs.Schema.{is_drop, changes_schema}
use Rattle.rs_meaning.proofs.said_commands.schema_change_said.Goals as goal

pub returns-in-DefineRoute-clause-err : goal.returns-in-DefineRoute-clause-err
returns-in-DefineRoute-clause-err c = rw c.in-DefineRoute.is c.route_said.ensures.err

pub returns-in-DefineTable-clause-err : goal.returns-in-DefineTable-clause-err
returns-in-DefineTable-clause-err c = rw (c.in-DefineTable.is, ← c.deref.ensures.value) c.table_said.ensures.err

pub returns-in-DefineReferent-clause-err : goal.returns-in-DefineReferent-clause-err
returns-in-DefineReferent-clause-err c = rw c.in-DefineReferent.is c.referent_said.ensures.err

pub returns-in-DefineView-clause-err : goal.returns-in-DefineView-clause-err
returns-in-DefineView-clause-err c = rw (c.in-DefineView.is, ← c.deref-in-DefineView.ensures) c.view_said.ensures.err

pub returns-in-DefineAlignment-clause-err : goal.returns-in-DefineAlignment-clause-err
returns-in-DefineAlignment-clause-err c = rw (c.in-DefineAlignment.is, ← c.deref-in-DefineAlignment.ensures.value) c.alignment_said.ensures.err

pub returns-in-DefineRoute-clause-ok : goal.returns-in-DefineRoute-clause-ok
returns-in-DefineRoute-clause-ok c = rw c.in-DefineRoute.is c.route_said.ensures.ok

pub returns-in-DefineTable-clause-ok : goal.returns-in-DefineTable-clause-ok
returns-in-DefineTable-clause-ok c = rw (c.in-DefineTable.is, ← c.deref.ensures.value) c.table_said.ensures.ok

pub returns-in-DefineReferent-clause-ok : goal.returns-in-DefineReferent-clause-ok
returns-in-DefineReferent-clause-ok c = rw c.in-DefineReferent.is c.referent_said.ensures.ok

pub returns-in-DefineView-clause-ok : goal.returns-in-DefineView-clause-ok
returns-in-DefineView-clause-ok c = rw (c.in-DefineView.is, ← c.deref-in-DefineView.ensures) c.view_said.ensures.ok

pub returns-in-DefineAlignment-clause-ok : goal.returns-in-DefineAlignment-clause-ok
returns-in-DefineAlignment-clause-ok c = rw (c.in-DefineAlignment.is, ← c.deref-in-DefineAlignment.ensures.value) c.alignment_said.ensures.ok

pub drop_said-requires-clause-drops : goal.drop_said-requires-clause-drops
drop_said-requires-clause-drops c =
    let no = c.in_default in
    elim (c.args.written.now) as (λ written. c.args.written.now ≡ written → changes_schema (written_of written) ≡ true → is_drop (written_of written) ≡ true) [
      | forms.DefineRoute name start finish ↦ λ is schema. absurd (no.not-DefineRoute name start finish is)
      | forms.DefineTable kind name columns ↦ λ is schema. absurd (no.not-DefineTable kind name columns is)
      | forms.DefineReferent route name position ↦ λ is schema. absurd (no.not-DefineReferent route name position is)
      | forms.DefineIndex name table column ↦ λ is schema. absurd (no.not-DefineIndex name table column is)
      | forms.DefineView name query ↦ λ is schema. absurd (no.not-DefineView name query is)
      | forms.DefineAlignment name pieces ↦ λ is schema. absurd (no.not-DefineAlignment name pieces is)
      | forms.DropRoute name ↦ λ is schema. schema
      | forms.DropTable name ↦ λ is schema. schema
      | forms.DropIndex name ↦ λ is schema. schema
      | forms.DropView name ↦ λ is schema. schema
      | forms.DropAlignment name ↦ λ is schema. schema
      | forms.DropReferent route name ↦ λ is schema. schema
      | forms.MoveReferent route name position ↦ λ is schema. schema
      | forms.Insert table route place values ↦ λ is schema. schema
      | forms.Remove table window condition ↦ λ is schema. schema
      | forms.Translate route position method ↦ λ is schema. schema
      | forms.Select query method ↦ λ is schema. schema
      | forms.Total query by summed ↦ λ is schema. schema
      | forms.Explain query ↦ λ is schema. schema
      | forms.Open cursor query method ↦ λ is schema. schema
      | forms.Fetch cursor rows ↦ λ is schema. schema
      | forms.Close cursor ↦ λ is schema. schema
      | forms.Save ↦ λ is schema. schema
      | forms.Reopen ↦ λ is schema. schema
    ] refl c.requires.schema
