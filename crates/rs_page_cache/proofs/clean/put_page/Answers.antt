-- Each page that is held then was held before, or is the one that was put.
use Rattle.rs_page_cache.proofs.CleanCounts.{count-put}
use Rattle.rs_page_cache.proofs.CleanLists.{put-kept}
use Rattle.rs_page_cache.proofs.clean.put_page.Goals as goal

pub returns-clause-pages : goal.returns-clause-pages
returns-clause-pages c = put-kept c.args.kept.now c.put.new.self c.args.number c.args.page c.put.result c.put.ensures.entries c.put.ensures.err

pub returns-clause-count : goal.returns-clause-count
returns-clause-count c = count-put c.args.kept.now c.put.new.self c.args.number c.args.page c.put.result c.put.ensures.entries c.put.ensures.err
