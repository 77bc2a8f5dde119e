-- Which commands change the schema.
use Rattle.std.specs.Prelude.{Bool, true, false}
use Rattle.rs_syntax.specs.Written.{Written, written_route, written_table, written_referent, written_index, written_view, written_alignment, written_drop_route, written_drop_table, written_drop_index, written_drop_view, written_drop_alignment, written_drop_referent}

-- whether a command begins with DROP
abbrev pub is_drop : Written → Bool
is_drop (written_drop_route name) = true
is_drop (written_drop_table name) = true
is_drop (written_drop_index name) = true
is_drop (written_drop_view name) = true
is_drop (written_drop_alignment name) = true
is_drop (written_drop_referent route name) = true
is_drop _ = false

-- whether a command begins with DEFINE or DROP
abbrev pub changes_schema : Written → Bool
changes_schema (written_route name start finish) = true
changes_schema (written_table kind name columns) = true
changes_schema (written_referent route name position) = true
changes_schema (written_index name table column) = true
changes_schema (written_view name query) = true
changes_schema (written_alignment name pieces) = true
changes_schema other = is_drop other
