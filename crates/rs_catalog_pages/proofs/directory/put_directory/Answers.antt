-- A blank page has zeros after its header, and those past the bytes stay.
use Rattle.rs_catalog_pages.proofs.Directories.{blank_content, put_blank}
use Rattle.rs_catalog_pages.proofs.Parts.{length-content}
use Rattle.rs_catalog_pages.proofs.directory.put_directory.Goals as goal

pub returns-clause-bytes : goal.returns-clause-bytes
returns-clause-bytes c =
    put_blank c.put_content.new.bytes c.blank.result.bytes c.args.bytes.now (length-content c.blank.result.bytes c.blank.ensures.size)
    (blank_content c.blank.result.bytes c.new.result c.new-2.result c.blank.ensures) c.put_content.ensures.bytes c.put_content.ensures.after
