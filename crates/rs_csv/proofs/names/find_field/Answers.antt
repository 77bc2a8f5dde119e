use Rattle.std.proofs.Common.{◌∙◌, ◌+◌, ◌≤◌, length, subst, sym, arith}
use Rattle.std.proofs.lemmas.Bool.{false≢true}
use Rattle.csv.specs.Records.{fields_of}
use Rattle.rs_csv.specs.Header.{Has}
use Rattle.rs_csv.proofs.Headers.{HasBelow, below_first, below_none, below_other, below_start, below_twice, has_inside, none_in_all, only_in_all}
use Rattle.rs_csv.proofs.names.find_field.Goals as goal
use Rattle.rs_csv.proofs.names.find_field.Goals.{then-is_named+else-is_some, else-is_named}

pub returns-then-is_some : goal.returns-then-is_some
returns-then-is_some c =
    let This = Has c.args.makes_names c.args.case (fields_of c.args.header.now) c.args.name.now in
    below_twice This c.loop-place.place c.loop-place.found (sym c.is_some.ensures ∙ c.if-is_some.true) c.loop-place.invariant.below (c.is_named.ensures.0 c.if-is_named.true)

pub returns-in-Some : goal.returns-in-Some
returns-in-Some c =
    let header = fields_of c.args.header.now in
    let This = Has c.args.makes_names c.args.case header c.args.name.now in
    let all : length header ≤ c.loop-place.place = omega (arith, c.len-place-end.ensures, c.loop-place-test.false) in
    only_in_all This c.loop-place.place c.in-Some.place (has_inside c.args.makes_names c.args.case header c.args.name.now c.loop-place.place all) (subst (HasBelow This c.loop-place.place) c.in-Some.is c.loop-place.invariant.below)

pub returns-in-None : goal.returns-in-None
returns-in-None c =
    let header = fields_of c.args.header.now in
    let This = Has c.args.makes_names c.args.case header c.args.name.now in
    let all : length header ≤ c.loop-place.place = omega (arith, c.len-place-end.ensures, c.loop-place-test.false) in
    none_in_all This c.loop-place.place (has_inside c.args.makes_names c.args.case header c.args.name.now c.loop-place.place all) (subst (HasBelow This c.loop-place.place) c.in-None.is c.loop-place.invariant.below)

pub loop-place-init : goal.loop-place-init
loop-place-init c = record { below = below_start (Has c.args.makes_names c.args.case (fields_of c.args.header.now) c.args.name.now) }

pub loop-place-preserved : goal.loop-place-preserved
loop-place-preserved c =
    let This = Has c.args.makes_names c.args.case (fields_of c.args.header.now) c.args.name.now in
    let below = c.loop-place.invariant.below in
    record {
      below = elim c.if-is_named.branch [
        | then-is_named+else-is_some w ↦
            subst (HasBelow This (c.loop-place.place + 1)) (sym w.found-is)
            (below_first This c.loop-place.place (below_none This c.loop-place.place c.loop-place.found (sym w.is_some.ensures ∙ w.if-is_some.false) below) (c.is_named.ensures.0 w.if-is_named.true))
        | else-is_named w ↦
            subst (HasBelow This (c.loop-place.place + 1)) (sym w.found-is)
            (below_other This c.loop-place.place c.loop-place.found below (λ has. false≢true (sym w.if-is_named.false ∙ c.is_named.ensures.1 has)))
      ];
    }
