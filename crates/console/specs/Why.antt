-- Which runs end with a line on standard error, and the one that names a limit.
use Rattle.std.specs.Prelude.{Bool, true, false, ℕ, List, ◌++◌, codes}
use Rattle.std.specs.Fmt.{decimal}
use Rattle.gateway_run.specs.declared.commands.passed.Passed.{Passed}
use Rattle.gateway_run.specs.declared.commands.passed.Passed.TheVariants.{Size, Lines, LineLength, Own, Script}
use Rattle.edge_traits.specs.declared.status.Status.{Status}
use Rattle.edge_traits.specs.declared.status.Status.TheVariants.{Done, Refused, Usage, ReadFault, WriteFault, Limit, Memory}

-- the output doesn't say why the run ended so
abbrev pub wants_line : Status → Bool
wants_line Done = false
wants_line Refused = false
wants_line Usage = true
wants_line ReadFault = true
wants_line WriteFault = true
wants_line Limit = true
wants_line Memory = true

-- the line that names the limit that was passed, and where; of a limit of the command's own it says
-- what passes it
abbrev pub limit_text : (passes : List ℕ) → Passed → List ℕ
limit_text passes Size = codes "fimdahol: the input has more than 67108864 octets\n"
limit_text passes Lines = codes "fimdahol: the input has more than 1000000 lines\n"
limit_text passes (LineLength line) =
    codes "fimdahol: line " ++ (decimal line ++ codes " has more than 9000000 octets\n")
limit_text passes (Own line) =
    codes "fimdahol: line " ++ (decimal line ++ (codes " " ++ (passes ++ codes "\n")))
limit_text passes Script = codes "fimdahol: the script " ++ (passes ++ codes "\n")
