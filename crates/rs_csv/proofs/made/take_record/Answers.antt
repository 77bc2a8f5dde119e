use Rattle.std.proofs.Common.{◌∙◌, ◌++◌, ◌∷◌, [], Some, ap, refl, string_bytes, subst, sym}
use Rattle.csv.specs.Records.{fields_of}
use Rattle.rs_csv_lines.specs.Fields.{content}
use Rattle.rs_csv_lines.specs.Inserts.{TellsRoute}
use Rattle.rs_csv_lines.proofs.Inserts.{route_is_name}
use Rattle.rs_csv.specs.Routes.{MeetsMore}
use Rattle.rs_csv.specs.Texts.{IsOneText, text_of_name}
use Rattle.rs_csv.proofs.Meeting.{meets_event, meets_none}
use Rattle.rs_csv.proofs.Outputs.{makes_insert, makes_left_out}
use Rattle.rs_csv.proofs.made.take_record.Goals as goal

pub is_only_text-requires : goal.is_only_text-requires
is_only_text-requires g c = record {
  route = subst (TellsRoute c.args.planned.now.plan.makes_names (fields_of c.args.csv_record.now) c.args.planned.now.plan.route) c.in-Ok.ensures.2 c.in-Ok.ensures.1.route_told;
}

pub returns-in_ok-meet_event-in-Ok-clause-made : goal.returns-in_ok-meet_event-in-Ok-clause-made
returns-in_ok-meet_event-in-Ok-clause-made g c = λ table.
    let asks = c.in-Ok.ensures in
    let told = asks.1.route_told in
    let fields = fields_of c.args.csv_record.now in
    makes_insert c.args.planned.now.plan.session table c.args.planned.now.plan c.args.made.now _ (string_bytes c.write_insert.new.line) fields asks.0 c.in_ok-made.ensures.counted
    (c.in_ok-push_line-in-Ok.ensures ∙ ap (λ line. c.args.made.now.bytes.items ++ line ++ 10 ∷ []) c.as_str.ensures.value) asks.1
    (subst (λ route. IsOneText c.args.planned.now.plan (text_of_name c.is_only_text.new.texts) fields route) (sym asks.2) (c.in_ok-is_only-in-Ok.ensures.only c.if-not-is_only.false)) asks.3
    (subst (λ extents. MeetsMore extents (Some c.meet_event.new.extents) ((asks.1.route, asks.1.place) ∷ [])) (sym c.in-Some.is)
    (meets_event c.in-Some.extents c.meet_event.new.extents c.in-Ok.event.route.bytes asks.1.route c.in-Ok.event.ends asks.1.place asks.2
    (route_is_name c.args.planned.now.plan.makes_names (content told.0) asks.1.route told.3) asks.4 c.in_ok-meet_event-in-Ok.ensures))

pub returns-in_default-clause-made : goal.returns-in_default-clause-made
returns-in_default-clause-made g c = λ table.
    let asks = c.in-Ok.ensures in
    let fields = fields_of c.args.csv_record.now in
    makes_insert c.args.planned.now.plan.session table c.args.planned.now.plan c.args.made.now _ (string_bytes c.write_insert.new.line) fields asks.0 c.in_ok-made.ensures.counted
    (c.in_ok-push_line-in-Ok.ensures ∙ ap (λ line. c.args.made.now.bytes.items ++ line ++ 10 ∷ []) c.as_str.ensures.value) asks.1
    (subst (λ route. IsOneText c.args.planned.now.plan (text_of_name c.is_only_text.new.texts) fields route) (sym asks.2) (c.in_ok-is_only-in-Ok.ensures.only c.if-not-is_only.false)) asks.3
    (meets_none c.args.made.now.extents c.args.made.now.extents ((asks.1.route, asks.1.place) ∷ []) c.in_default.is)

pub returns-in_ok-tell_faults-in-Err-clause-made : goal.returns-in_ok-tell_faults-in-Err-clause-made
returns-in_ok-tell_faults-in-Err-clause-made g c = λ table. makes_left_out c.args.planned.now.plan.session table c.args.planned.now.plan c.args.made.now _ (fields_of c.args.csv_record.now) c.in_ok-made.ensures.counted refl refl refl

pub returns-then-len-clause-made : goal.returns-then-len-clause-made
returns-then-len-clause-made g c = λ table. makes_left_out c.args.planned.now.plan.session table c.args.planned.now.plan c.args.made.now _ (fields_of c.args.csv_record.now) c.in_ok-made.ensures.counted refl refl refl

pub returns-then-not-is_only-clause-made : goal.returns-then-not-is_only-clause-made
returns-then-not-is_only-clause-made g c = λ table. makes_left_out c.args.planned.now.plan.session table c.args.planned.now.plan c.args.made.now _ (fields_of c.args.csv_record.now) c.in_ok-made.ensures.counted refl refl refl
