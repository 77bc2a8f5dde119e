-- Two kinds are the same or not.
use Rattle.std.proofs.Common.{◌≡◌, true, refl}
use Rattle.std.proofs.lemmas.Bool.{false≢true}
use Rattle.rs_value.specs.declared.column.Kind.{Kind}
use Rattle.rs_value.specs.declared.column.Kind.TheVariants.{Line, Point}
use Rattle.rs_store_source.specs.Shown.{same_kind}

pub kind_same : (one other : Kind) → same_kind one other ≡ true → one ≡ other
kind_same Line Line e = refl
kind_same Line Point e = absurd (false≢true e)
kind_same Point Line e = absurd (false≢true e)
kind_same Point Point e = refl

pub kind_itself : (kind : Kind) → same_kind kind kind ≡ true
kind_itself Line = refl
kind_itself Point = refl
