use Rattle.fragment_lines.proofs.joining.write_joined6.Goals as goal

pub returns-in-Word : goal.returns-in-Word
returns-in-Word c = rw c.in-Word.is c.write_open.ensures

pub returns-in_ok-spelled_old-in-Whole : goal.returns-in_ok-spelled_old-in-Whole
returns-in_ok-spelled_old-in-Whole c = rw (c.in-Whole.is, ← c.in_ok-spelled_old-in-Whole.ensures.exact) c.write_whole.ensures
