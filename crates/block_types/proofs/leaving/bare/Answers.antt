use Rattle.block_types.specs.Bare.{bare_of}
use Rattle.block_types.proofs.BareLemmas.{bare-sound}
use Rattle.block_types.proofs.leaving.bare.Goals as goal

pub returns-clause-sound : goal.returns-clause-sound
unfolding bare_of
returns-clause-sound c = λ sound. rw (c.default6.ensures, c.bare_shared.ensures, c.bare_exts.ensures) (bare-sound c.args.full sound)
