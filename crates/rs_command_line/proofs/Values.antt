-- What a word is that does not begin with a hyphen.
use Rattle.std.proofs.Common.{◌≡◌, ◌∷◌, [], false, None, refl}
use Rattle.std.specs.Str.{bytes_eq}
use Rattle.clap.specs.Lexer.{long_of, short_of}
use Rattle.clap.specs.Words.{Text}
use Rattle.rs_command_line.specs.Asked.{begins_with_hyphen}

pub no_end : (text : Text) → begins_with_hyphen text ≡ false → bytes_eq text (45 ∷ 45 ∷ []) ≡ false
no_end [] e = refl
no_end (x ∷ xs) e = rw e refl

pub no_long : (text : Text) → begins_with_hyphen text ≡ false → long_of text ≡ None
no_long [] e = refl
no_long (x ∷ xs) e = rw e refl

pub no_short : (text : Text) → begins_with_hyphen text ≡ false → short_of text ≡ None
no_short [] e = refl
no_short (x ∷ xs) e = rw e refl
