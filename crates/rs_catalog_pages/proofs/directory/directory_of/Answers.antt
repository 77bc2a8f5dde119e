-- A directory begins with its header, and has zeros after so many bytes.
use Rattle.std.proofs.Common.{◌≡◌, ◌+◌, ◌-◌, ◌++◌, length, drop, sym, ap, ◌∙◌}
use Rattle.std.proofs.lemmas.Bool.{false≢true}
use Rattle.std.proofs.lemmas.Result.{IfOk-weaker}
use Rattle.rs_page.specs.declared.page.TheConstants.{PAGE_SIZE}
use Rattle.rs_catalog_pages.specs.Directory.{SaysDirectory, IsDirectory}
use Rattle.rs_catalog_pages.specs.Fitting.{FitsDirectory}
use Rattle.rs_catalog_pages.specs.Laws.{directory_fits}
use Rattle.rs_catalog_pages.specs.Parts.{content}
use Rattle.rs_catalog_pages.specs.Said.{said_directory}
use Rattle.rs_catalog_pages.proofs.Directories.{directory_there, directory_parts, each_zeros, zeros_each}
use Rattle.rs_catalog_pages.proofs.directory.directory_of.Goals as goal
use Rattle.rs_catalog_pages.proofs.directory.directory_of.Goals.{then-not-begins_directory-via-then-not-begins_directory, then-not-begins_directory-via-else-not-begins_directory+then-not-are_zeros}

pub returns-then-not-begins_directory-clause-damaged : goal.returns-then-not-begins_directory-clause-damaged
returns-then-not-begins_directory-clause-damaged c = λ is directory there.
    elim c.then-not-begins_directory.branch [
      | then-not-begins_directory-via-then-not-begins_directory w ↦ false≢true (sym w.if-not-begins_directory.true ∙ c.begins_directory.ensures.1 there.header)
      | then-not-begins_directory-via-else-not-begins_directory+then-not-are_zeros w ↦
          let parts = directory_parts c.args.page.now.bytes directory there in
          let zeros = c.split_at.ensures.back ∙ ap (drop 2844) c.content.ensures.bytes ∙ parts.1 in
          false≢true (sym w.if-not-are_zeros.true ∙ w.are_zeros.ensures.1 (λ k lt. zeros_each c.split_at.result.1.now (PAGE_SIZE - (16 + length there.said)) zeros k lt))
    ]

pub returns-clause-read : goal.returns-clause-read
returns-clause-read c =
    let whole : content c.args.page.now.bytes ≡ c.split_at.result.0.now ++ c.split_at.result.1.now = sym c.content.ensures.bytes ∙ c.split_at.ensures.by_index.0 in
    IfOk-weaker c.directory_said.result (λ directory. SaysDirectory c.split_at.result.0.now (said_directory directory)) (λ directory. IsDirectory c.args.page.now.bytes (said_directory directory))
    (λ directory says.
    directory_there c.args.page.now.bytes c.split_at.result.0.now c.split_at.result.1.now (said_directory directory) c.content.ensures.page (c.begins_directory.ensures.0 c.if-not-begins_directory.false) says whole
    (each_zeros c.split_at.result.1.now (c.are_zeros.ensures.0 c.if-not-are_zeros.false)))
    c.directory_said.ensures.read

pub returns-clause-fits : goal.returns-clause-fits
returns-clause-fits c =
    IfOk-weaker c.directory_said.result (λ directory. SaysDirectory c.split_at.result.0.now (said_directory directory)) (λ directory. FitsDirectory (said_directory directory))
    (λ directory says. directory_fits c.split_at.result.0.now (said_directory directory) says) c.directory_said.ensures.read

pub returns-clause-memory : goal.returns-clause-memory
returns-clause-memory c = λ is.
    let whole : content c.args.page.now.bytes ≡ c.split_at.result.0.now ++ c.split_at.result.1.now = sym c.content.ensures.bytes ∙ c.split_at.ensures.by_index.0 in
    let said = c.directory_said.ensures.says in
    record {
      directory = said.0;
      is = directory_there c.args.page.now.bytes c.split_at.result.0.now c.split_at.result.1.now said.0 c.content.ensures.page (c.begins_directory.ensures.0 c.if-not-begins_directory.false) said.1 whole
          (each_zeros c.split_at.result.1.now (c.are_zeros.ensures.0 c.if-not-are_zeros.false));
    }
