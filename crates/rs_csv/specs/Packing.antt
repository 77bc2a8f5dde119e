-- How texts are packed: by words that were met before.
use Rattle.std.specs.Prelude.{ℕ, List, All, map}
use Rattle.rs_csv.specs.Words.{AreKnown, unpacked}
use Rattle.rs_csv.specs.declared.packing.PackedLines.TheInside.{Inside}

-- the texts that are packed
abbrev pub packed_texts : Inside → List (List ℕ)
packed_texts packed = map (λ codes. unpacked packed.words codes.items) packed.blocks.items

-- each code in them is known: it stands for a byte or for one of the words
abbrev pub HasKnownCodes : Inside → Type 0
HasKnownCodes packed = All (λ codes. AreKnown packed.words codes.items) packed.blocks.items
