-- Words of the lines of a path have no line feed.
use Rattle.std.proofs.Common.{refl}
use Rattle.command_frame.specs.InputLines.{ended_part}
use Rattle.bundle6.specs.declared.fault.Cause6.{Cause6}
use Rattle.bundle6.specs.declared.fault.Cause6.TheVariants as six
use Rattle.bundle6.specs.Cause as cause6
use Rattle.bundle7.specs.declared.fault.Cause7.{Cause7}
use Rattle.bundle7.specs.declared.fault.Cause7.TheVariants as seven
use Rattle.bundle7.specs.Cause as cause7
use Rattle.gate_cases.specs.declared.cause.BadCause.{BadCause}
use Rattle.gate_cases.specs.declared.cause.BadCause.TheVariants.{Six, Seven, Trailing}
use Rattle.gate_cases.specs.Blocks.{word_of as bad_word}
use Rattle.translate.specs.declared.refused.Refused.{Refused}
use Rattle.translate.specs.declared.refused.Refused.TheVariants as refusals
use Rattle.translate.specs.Refusals.{word_of as refused_word}
use Rattle.gateway_core.specs.declared.note.GateNote.{GateNote}
use Rattle.gateway_core.specs.declared.note.GateNote.TheVariants as notes
use Rattle.gateway_core.specs.Notes.{gate_note_name}
use Rattle.replay_script.specs.Lines.{route_word}
use Rattle.gate_lines.specs.GateLines.{gate_details}
use Rattle.path_laws.specs.declared.effects.EndJoin.{EndJoin}
use Rattle.path_laws.specs.declared.effects.EndJoin.TheVariants as told
use Rattle.path_laws.specs.declared.places.Place.{Place}
use Rattle.path_laws.specs.declared.places.Place.TheVariants as places
use Rattle.path_laws.specs.Words.{join_word}
use Rattle.node_run.proofs.PlainLemmas.{Plain, PlainWords, decimal-plain, hex-plain, name-plain, details-plain}
use Rattle.world_run.specs.WrittenLines.{place_word, route_of, whole_word}

pub place-plain : (x : Place) → Plain (place_word x)
unfolding ended_part
place-plain places.OldNode = refl
place-plain places.OldFace = refl
place-plain places.NewFace = refl
place-plain places.NewNode = refl

pub route-plain : (x : Place) → Plain (route_word (route_of x))
unfolding ended_part
route-plain places.OldNode = refl
route-plain places.OldFace = refl
route-plain places.NewFace = refl
route-plain places.NewNode = refl

pub join-plain : (x : EndJoin) → Plain (join_word x)
unfolding ended_part
join-plain told.Waiting = refl
join-plain told.Repeat = refl
join-plain (told.Whole body) = refl
join-plain told.TooLarge = refl
join-plain told.TotalDiffers = refl
join-plain told.Full = refl

six-plain : (x : Cause6) → Plain (cause6.word_of x)
unfolding ended_part
six-plain six.Version = refl
six-plain six.Number = refl
six-plain six.Names = refl
six-plain six.PrimaryEnd = refl
six-plain six.SecondPayload = refl
six-plain six.TooManyBlocks = refl
six-plain six.NoPayload = refl
six-plain six.BlockRefs = refl
six-plain six.FragmentRange = refl
six-plain six.Truncated = refl
six-plain six.TooLong = refl

seven-plain : (x : Cause7) → Plain (cause7.word_of x)
unfolding ended_part
seven-plain seven.Start = refl
seven-plain seven.Head = refl
seven-plain seven.Version = refl
seven-plain seven.Number = refl
seven-plain seven.CrcType = refl
seven-plain seven.ItemCount = refl
seven-plain seven.Eid = refl
seven-plain seven.Timestamp = refl
seven-plain seven.Crc = refl
seven-plain seven.BlockHead = refl
seven-plain seven.TooManyBlocks = refl
seven-plain seven.Repeated = refl
seven-plain seven.BlockNumber = refl
seven-plain seven.Body = refl
seven-plain seven.FragmentRange = refl
seven-plain seven.ExtensionBody = refl
seven-plain seven.Break = refl
seven-plain seven.Truncated = refl
seven-plain seven.TooLong = refl

refused-plain : (x : Refused) → Plain (refused_word x)
unfolding ended_part
refused-plain refusals.CustodyAsked = refl
refused-plain refusals.Clockless = refl
refused-plain refusals.LifetimeZero = refl
refused-plain refusals.TimeTooLarge = refl
refused-plain refusals.SequenceTooLarge = refl
refused-plain refusals.PayloadRefs = refl
refused-plain refusals.AdminFragment = refl
refused-plain refusals.CustodySignal = refl
refused-plain refusals.CustodyReport = refl
refused-plain refusals.AdminUnknown = refl
refused-plain refusals.BadAdmin = refl
refused-plain refusals.ResidueBad = refl
refused-plain refusals.WrapBad = refl
refused-plain refusals.TooManyBlocks = refl
refused-plain refusals.Memory = refl

bad-plain : (x : BadCause) → Plain (bad_word x)
unfolding ended_part
bad-plain (Six cause) = six-plain cause
bad-plain (Seven cause) = seven-plain cause
bad-plain Trailing = refl

pub whole-plain : (x : EndJoin) → PlainWords (whole_word x)
whole-plain told.Waiting = tt
whole-plain told.Repeat = tt
whole-plain (told.Whole body) = (hex-plain body, tt)
whole-plain told.TooLarge = tt
whole-plain told.TotalDiffers = tt
whole-plain told.Full = tt

pub gate-name-plain : (x : GateNote) → Plain (gate_note_name x)
unfolding ended_part
gate-name-plain (notes.Engine note) = name-plain note
gate-name-plain (notes.BadBundle session at cause) = refl
gate-name-plain (notes.Untranslated session cause) = refl
gate-name-plain (notes.Expired session) = refl
gate-name-plain (notes.HopLimit session) = refl
gate-name-plain (notes.Storage session) = refl
gate-name-plain (notes.Passed session pieces) = refl
gate-name-plain (notes.Reported session) = refl
gate-name-plain (notes.Unreported session) = refl

pub gate-details-plain : (x : GateNote) → PlainWords (gate_details x)
gate-details-plain (notes.Engine note) = details-plain note
gate-details-plain (notes.BadBundle session at cause) = (decimal-plain session, (decimal-plain at, (bad-plain cause, tt)))
gate-details-plain (notes.Untranslated session cause) = (decimal-plain session, (refused-plain cause, tt))
gate-details-plain (notes.Expired session) = (decimal-plain session, tt)
gate-details-plain (notes.HopLimit session) = (decimal-plain session, tt)
gate-details-plain (notes.Storage session) = (decimal-plain session, tt)
gate-details-plain (notes.Passed session pieces) = (decimal-plain session, (decimal-plain pieces, tt))
gate-details-plain (notes.Reported session) = (decimal-plain session, tt)
gate-details-plain (notes.Unreported session) = (decimal-plain session, tt)
