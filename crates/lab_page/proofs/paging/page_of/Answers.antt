use Rattle.lab_template.proofs.SafeLemmas.{safe_closed}
use Rattle.lab_page.proofs.paging.page_of.Goals as goal

pub returns-clause-closed : goal.returns-clause-closed
returns-clause-closed c = safe_closed c.args.json.now
