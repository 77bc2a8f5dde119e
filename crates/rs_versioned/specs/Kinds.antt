-- How the records of a kind are kept.
use Rattle.rs_tree.specs.Forms.{form}
use Rattle.rs_tree.specs.declared.summary.Summary.{Ghosts as Summaries}
use Rattle.rs_versioned.specs.Records.{Kept}
use Rattle.rs_versioned.specs.declared.kind.RecordKind.{Ghosts as Kinds}

-- in a tree that keeps the kind's summaries of cells of the kind's width
abbrev pub kept_as : {S T : Type 0} → Summaries S → (kinds : Kinds T S) → T → Kept kinds.Record
kept_as summaries kinds types = record {
  form = form summaries (kinds.width types);
  says = kinds.says types;
  born = kinds.born;
  died = kinds.died;
  ended = kinds.ended;
}
