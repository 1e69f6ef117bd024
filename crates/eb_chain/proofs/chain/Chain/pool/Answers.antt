use Rattle.eb_chain.proofs.Pools.{pool_at_end, pool_at_posting, pool_at_link}
use Rattle.eb_chain.proofs.chain.Chain.pool.Goals as goal

pub returns-in-End : goal.returns-in-End
returns-in-End c m s t opened rest is h = pool_at_end m s t c.args.self.now opened rest h c.in-End.is

pub returns-in-At : goal.returns-in-At
returns-in-At c m s t opened rest is h = pool_at_posting m s t c.args.self.now opened rest c.in-At.address c.pool_of.result is h c.in-At.is c.pool_of.ensures

pub returns-in-Link : goal.returns-in-Link
returns-in-Link c m s t opened rest is h = pool_at_link m s t c.args.self.now opened rest c.in-Link.link c.pool_of-in-Link.result is h c.in-Link.is c.pool_of-in-Link.ensures
