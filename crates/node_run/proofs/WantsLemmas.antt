-- Each line of an engine's effects has octets.
use Rattle.std.proofs.Common.{ℕ, ◌<◌, List, [], ◌∷◌, length, codes}
use Rattle.std.specs.Fmt.{decimal}
use Rattle.hex_text.specs.Hex.{encode_lower}
use Rattle.ltp_segment.specs.declared.session.Green.{Green}
use Rattle.ltp_engine.specs.declared.effects.Up.{Up}
use Rattle.replay_script.specs.Lines.{bit_word}
use Rattle.node_run.specs.WrittenLines.{out_line, up_words, up_line, green_line}
use Rattle.node_run.proofs.TextLineLemmas.{line-some}

pub out-some : (datagram : List ℕ) → 0 < length (out_line datagram)
out-some datagram = line-some (codes "out" ∷ encode_lower datagram ∷ [])

pub up-some : (up : Up) → 0 < length (up_line up)
up-some up = line-some (up_words up)

pub green-some : (g : Green) → 0 < length (green_line g)
green-some g = line-some (codes "green" ∷ decimal g.session ∷ decimal g.offset ∷ bit_word g.last ∷ encode_lower g.body ∷ [])
