use Rattle.std.proofs.Common.{Err, rules}
use Rattle.sites.specs.declared.fault.SiteFault.TheVariants.{TooLong}
use Rattle.sites.specs.Site.{site_of}
use Rattle.sites.proofs.Accepting.{accepted_site, bounded_site}
use Rattle.sites.proofs.Laid.{site_law_of}
use Rattle.sites.proofs.site.read_site.Goals as goal

pub returns-then-text-gt-MOST_BYTES-clause-law : goal.returns-then-text-gt-MOST_BYTES-clause-law
unfolding site_of
returns-then-text-gt-MOST_BYTES-clause-law c = site_law_of (Err TooLong) c.args.text.now (search rules)

pub returns-in_err-due-clause-law : goal.returns-in_err-due-clause-law
unfolding site_of
returns-in_err-due-clause-law c = site_law_of c.from_residual.result c.args.text.now (search rules)

pub returns-in_err-floor-clause-law : goal.returns-in_err-floor-clause-law
unfolding site_of
returns-in_err-floor-clause-law c = site_law_of c.from_residual-in_err-floor.result c.args.text.now (search rules)

pub returns-clause-accepted : goal.returns-clause-accepted
unfolding site_of
returns-clause-accepted c = accepted_site c.read_sheet.result c.args.text.now (search rules)

pub returns-clause-bounded : goal.returns-clause-bounded
unfolding site_of
returns-clause-bounded c = bounded_site c.read_sheet.result c.args.text.now (search rules)

pub returns-clause-law : goal.returns-clause-law
unfolding site_of
returns-clause-law c = site_law_of c.read_sheet.result c.args.text.now (search rules)
