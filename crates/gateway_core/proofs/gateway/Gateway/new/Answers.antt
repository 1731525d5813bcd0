use Rattle.gateway_core.proofs.gateway.Gateway.new.Goals as goal

pub returns-clause-shows : goal.returns-clause-shows
returns-clause-shows c = c.new.ensures.shows
