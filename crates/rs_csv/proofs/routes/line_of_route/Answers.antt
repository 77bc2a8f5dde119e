use Rattle.std.proofs.Common.{◌∙◌, ◌++◌, ap, string_bytes}
use Rattle.rs_csv.proofs.RouteLines.{whole_route}
use Rattle.rs_csv.proofs.routes.line_of_route.Goals as goal

pub returns : goal.returns
returns c = whole_route c.args.session c.args.name.bytes c.args.start c.args.finish _ _ _ _ _ _ _ _
    c.new-line.ensures.bytes c.in_ok-put_session.ensures c.in_ok-push_str.ensures.bytes (c.in_ok-push_str-2.ensures.bytes ∙ ap (λ t. string_bytes c.push_str.new.self ++ t) c.as_str.ensures.value) c.in_ok-push_str-3.ensures.bytes
    (c.in_ok-push_str-4.ensures.bytes ∙ ap (λ t. string_bytes c.push_str-3.new.self ++ t) (c.as_str-2.ensures.value ∙ c.write_measure.ensures)) c.in_ok-push_str-5.ensures.bytes
    (c.in_ok-push_str-6.ensures.bytes ∙ ap (λ t. string_bytes c.push_str-5.new.self ++ t) (c.as_str-3.ensures.value ∙ c.write_measure-2.ensures))
