use Rattle.std.proofs.Common.{rules}
use Rattle.path_world.proofs.JoinLemmas.{joiner-stays, whole-can}
use Rattle.path_world.proofs.joining.join.Goals as goal

pub spelled_whole-requires-clause-sound : goal.spelled_whole-requires-clause-sound
spelled_whole-requires-clause-sound c =
    (whole-can c.args.face c.args.joiner.now c.add.new.self c.args.full.now c.in-Ok-Whole.whole c.add.result c.requires.whole c.requires.taken c.add.ensures.adds (search rules) c.sized_content.ensures).sound

pub spelled_whole-requires-clause-fits : goal.spelled_whole-requires-clause-fits
spelled_whole-requires-clause-fits c =
    (whole-can c.args.face c.args.joiner.now c.add.new.self c.args.full.now c.in-Ok-Whole.whole c.add.result c.requires.whole c.requires.taken c.add.ensures.adds (search rules) c.sized_content.ensures).fits

pub returns-in-Ok-Waiting-clause-whole : goal.returns-in-Ok-Waiting-clause-whole
returns-in-Ok-Waiting-clause-whole c = joiner-stays c.args.face c.args.joiner.now c.add.new.self c.args.full.now c.add.result c.in-Ok-Waiting.field-0 c.requires.whole c.requires.taken c.add.ensures.adds c.in-Ok-Waiting.is c.add.ensures.bounded

pub returns-in-Ok-Repeat-clause-whole : goal.returns-in-Ok-Repeat-clause-whole
returns-in-Ok-Repeat-clause-whole c = joiner-stays c.args.face c.args.joiner.now c.add.new.self c.args.full.now c.add.result c.in-Ok-Repeat.field-0 c.requires.whole c.requires.taken c.add.ensures.adds c.in-Ok-Repeat.is c.add.ensures.bounded

pub returns-in_ok-spelled_whole-in-Ok-Whole-clause-whole : goal.returns-in_ok-spelled_whole-in-Ok-Whole-clause-whole
returns-in_ok-spelled_whole-in-Ok-Whole-clause-whole c = joiner-stays c.args.face c.args.joiner.now c.add.new.self c.args.full.now c.add.result c.in-Ok-Whole.field-0 c.requires.whole c.requires.taken c.add.ensures.adds c.in-Ok-Whole.is c.add.ensures.bounded
