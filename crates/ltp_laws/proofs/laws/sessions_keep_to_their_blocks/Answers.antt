use Rattle.ltp_laws.specs.Blocks.{BlockFacts}
use Rattle.ltp_laws.specs.Kinds.{KindFacts}
use Rattle.ltp_laws.specs.Spelling.{SpellingFacts, HeldFacts}
use Rattle.ltp_laws.proofs.LogLemmas.{every_fact}
use Rattle.ltp_laws.proofs.laws.sessions_keep_to_their_blocks.Goals as goal

pub returns : goal.returns
returns c = record {
  fits = every_fact BlockFacts (λ block red v f. f.basic);
  kinds = every_fact KindFacts (λ block red v f. f.kinds);
  spelled = every_fact SpellingFacts (λ block red v f. f.spelled);
  held = every_fact HeldFacts (λ block red v f. f.held);
}
