-- What is read and written part by part, and what is said by its parts.
use Rattle.std.proofs.Common.{ℕ, List, ◌++◌, refl, ap, ◌∙◌, append_assoc}
use Rattle.rs_bytes.specs.Codes.{Code, Reads, ReadsNone, Writes, SaysBoth}

pub both_written : {A B : Type 0} (says : Code A) (tells : Code B) (old mid new : List ℕ) (x : A) (y : B) → Writes says old x mid → Writes tells mid y new → Writes (SaysBoth says tells) old (x, y) new
both_written says tells old mid new x y first second = record {
  back = first.back ++ second.back;
  is = second.is ∙ ap (λ l. l ++ second.back) first.is ∙ append_assoc old first.back second.back;
  said = (first.back, second.back, refl, first.said, second.said);
}

pub reads_as : {A B : Type 0} (says : Code A) (tells : Code B) (x : A) (y : B) → ((f : List ℕ) → says f x → tells f y) → (old new : List ℕ) → Reads says old x new → Reads tells old y new
reads_as says tells x y as_that old new reads = record { front = reads.front; is = reads.is; said = as_that reads.front reads.said }

pub none_as : {A B : Type 0} (says : Code A) (tells : Code B) (parts : B → A) → ((f : List ℕ) (y : B) → tells f y → says f (parts y)) → (old : List ℕ) → ReadsNone says old → ReadsNone tells old
none_as says tells parts as_that old lacks = record {
  none = λ y new reads. lacks.none (parts y) new (record { front = reads.front; is = reads.is; said = as_that reads.front y reads.said });
}

pub writes_as : {A B : Type 0} (says : Code A) (tells : Code B) (x : A) (y : B) → ((f : List ℕ) → says f x → tells f y) → (old new : List ℕ) → Writes says old x new → Writes tells old y new
writes_as says tells x y as_that old new writes = record { back = writes.back; is = writes.is; said = as_that writes.back writes.said }

-- three values and a fourth, said as one after another
pub fourth_after : {A B C D : Type 0} (says : Code A) (tells : Code B) (names : Code C) (calls : Code D) (x : A) (y : B) (z : C) (w : D) (f : List ℕ)
    → SaysBoth (SaysBoth says (SaysBoth tells names)) calls f ((x, (y, z)), w) → SaysBoth says (SaysBoth tells (SaysBoth names calls)) f (x, (y, (z, w)))
fourth_after says tells names calls x y z w f (three, last, all, (one, two, both, said, (second, third, parts, told, named)), called) = (
  one,
  second ++ (third ++ last),
  all ∙ ap (λ l. l ++ last) both ∙ append_assoc one two last ∙ ap (λ l. one ++ l) (ap (λ l. l ++ last) parts ∙ append_assoc second third last),
  said,
  (second, third ++ last, refl, told, (third, last, refl, named, called)),
)
