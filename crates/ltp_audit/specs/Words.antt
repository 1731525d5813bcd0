-- The names of the rules.

use Rattle.std.specs.Prelude.{ℕ, List, codes}
use Rattle.ltp_audit.specs.declared.fault.Rule.{Rule}
use Rattle.ltp_audit.specs.declared.fault.Rule.TheVariants as rules

abbrev pub rule_word : Rule → List ℕ
rule_word rules.Side = codes "Side"
rule_word rules.ClaimUnseen = codes "ClaimUnseen"
rule_word rules.CheckpointUnseen = codes "CheckpointUnseen"
rule_word rules.AckUnseen = codes "AckUnseen"
rule_word rules.OctetsDiffer = codes "OctetsDiffer"
rule_word rules.CancelUnseen = codes "CancelUnseen"
