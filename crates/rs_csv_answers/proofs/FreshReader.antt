-- A reader that has read nothing yet has what is left of the one that it reads from.
use Rattle.std.proofs.Common.{◌≡◌, ◌∙◌, ◌==◌, ℕ, Bool, false, List, [], Option, Some, None, ap, refl}
use Rattle.std.specs.Io.Buffered.{reader_buffer, reader_capacity, reader_inner, reader_remaining}
use Rattle.std.specs.Io.KnownBytes.{prepend_known}
use Rattle.std.specs.Prelude.{if◌then◌else◌}
use Rattle.std.specs.declared.io.buffered.BufReader.{BufReader}

none_before : (known : Option (List ℕ)) → prepend_known [] known ≡ known
none_before None = refl
none_before (Some bytes) = refl

pub fresh_reader : {T A : Type 0} (remaining : T → Option (List ℕ)) (reader : BufReader T A) (inner : T) (bytes : ℕ) → reader_inner reader ≡ inner → reader_buffer reader ≡ []
    → reader_capacity reader ≡ bytes → (bytes == 0) ≡ false → reader_remaining remaining reader ≡ remaining inner
fresh_reader {T} {A} remaining reader inner bytes of empty capacity some =
    ap (λ (b : Bool). if b then None else prepend_known (reader_buffer reader) (remaining reader.inner)) (ap (λ n. n == 0) capacity ∙ some)
    ∙ ap (λ (l : List ℕ). prepend_known l (remaining reader.inner)) empty ∙ none_before (remaining reader.inner) ∙ ap remaining of
