use Rattle.std.proofs.Common.{rules, ◌≡◌, ◌+◌, ◌≤◌, length, drop, ap, ◌∙◌, arith}
use Rattle.std.proofs.lemmas.List.{take_rest}
use Rattle.std.proofs.lemmas.List.Sums.{prefix_len-le-length}
use Rattle.std.specs.Char.{is_ascii_alphabetic}
use Rattle.std.specs.List.{prefix_len}
use Rattle.rs_grammar.specs.Words.{is_word_byte}
use Rattle.rs_lexer.proofs.LongestLaws.{word_length}
use Rattle.rs_lexer.proofs.scan.word_length.Goals as goal

pub slice_bounds-word_bytes_length-count : goal.slice_bounds-word_bytes_length-count
slice_bounds-word_bytes_length-count c = omega (arith, c.letters_length-letters.ensures, prefix_len-le-length is_ascii_alphabetic c.args.bytes.now)

pub slice_bounds-word_bytes_length-start : goal.slice_bounds-word_bytes_length-start
slice_bounds-word_bytes_length-start c =
    let few : c.letters_length-letters.result ≤ length c.args.bytes.now = omega (arith, c.letters_length-letters.ensures, prefix_len-le-length is_ascii_alphabetic c.args.bytes.now) in
    search rules

pub overflow_add-result : goal.overflow_add-result
overflow_add-result c =
    let is : c.word_bytes_length.result ≡ prefix_len is_word_byte (drop c.letters_length-letters.result c.args.bytes.now) =
    c.word_bytes_length.ensures ∙ ap (prefix_len is_word_byte) (take_rest c.args.bytes.now c.letters_length-letters.result) in
    let sum = word_length c.args.bytes.now c.letters_length-letters.result c.word_bytes_length.result c.letters_length-letters.ensures is in
    let few : c.letters_length-letters.result + c.word_bytes_length.result ≤ length c.args.bytes.now = omega (arith, sum, prefix_len-le-length is_word_byte c.args.bytes.now) in
    search rules

pub returns-clause-count : goal.returns-clause-count
returns-clause-count c =
    word_length c.args.bytes.now c.letters_length-letters.result c.word_bytes_length.result c.letters_length-letters.ensures
    (c.word_bytes_length.ensures ∙ ap (prefix_len is_word_byte) (take_rest c.args.bytes.now c.letters_length-letters.result))

pub returns-clause-inside : goal.returns-clause-inside
returns-clause-inside c =
    let sum = word_length c.args.bytes.now c.letters_length-letters.result c.word_bytes_length.result c.letters_length-letters.ensures
    (c.word_bytes_length.ensures ∙ ap (prefix_len is_word_byte) (take_rest c.args.bytes.now c.letters_length-letters.result)) in
    omega (arith, sum, prefix_len-le-length is_word_byte c.args.bytes.now)
