use Rattle.std.proofs.Common.{◌≡◌, ◌∙◌, ◌≤◌, ◌++◌, ◌∷◌, true, ap, subst, length, string_bytes, Ok}
use Rattle.std.specs.Prelude.{codes}
use Rattle.rs_value.specs.Values.{is_text}
use Rattle.rs_syntax.specs.Verdict.{Reads}
use Rattle.rs_syntax.specs.View.{tree_of}
use Rattle.rs_machine.specs.declared.limits.TheConstants.{LINE_BYTES}
use Rattle.rs_csv_lines.specs.Texts.{session_text}
use Rattle.rs_csv_lines.proofs.Putting.{two_more}
use Rattle.rs_csv_lines.proofs.Sessions.{words_ask}
use Rattle.rs_csv_lines.proofs.words.write_words.Goals as goal

pub returns-clause-asks : goal.returns-clause-asks
returns-clause-asks c =
    let line = string_bytes c.push_str-2.new.self in
    let same = c.as_str.ensures.value in
    let begun : string_bytes c.put_session.new.line ≡ session_text c.args.session = c.in_ok-put_session.ensures ∙ ap (λ l. l ++ session_text c.args.session) c.clear.ensures.bytes in
    let whole : line ≡ session_text c.args.session ++ 32 ∷ c.args.words.now =
    two_more (string_bytes c.put_session.new.line) (string_bytes c.push_str.new.self) line (codes " ") c.args.words.now c.in_ok-push_str.ensures.bytes c.in_ok-push_str-2.ensures.bytes ∙ ap (λ l. l ++ 32 ∷ c.args.words.now) begun in
    let digits : length c.as_str-begun.result.now ≡ length (session_text c.args.session) = ap length (c.as_str-begun.ensures.value ∙ begun) in
    words_ask line c.args.session (length c.as_str-begun.result.now) c.args.words.now (tree_of c.in_ok-asked.asked) c.requires
    (subst (λ l. length l ≤ LINE_BYTES) same c.in_ok-asked.ensures.short) (subst (λ l. is_text l ≡ true) same c.in_ok-asked.ensures.text) whole digits
    (subst (λ l. Reads l (length c.as_str-begun.result.now) (Ok (tree_of c.in_ok-asked.asked))) same c.in_ok-asked.ensures.reads)

pub returns-clause-line : goal.returns-clause-line
returns-clause-line c =
    let line = string_bytes c.push_str-2.new.self in
    let begun : string_bytes c.put_session.new.line ≡ session_text c.args.session = c.in_ok-put_session.ensures ∙ ap (λ l. l ++ session_text c.args.session) c.clear.ensures.bytes in
    c.in_ok-push_str-2.ensures.bytes ∙ ap (λ l. l ++ c.args.words.now) (c.in_ok-push_str.ensures.bytes ∙ ap (λ l. l ++ codes " ") begun)
