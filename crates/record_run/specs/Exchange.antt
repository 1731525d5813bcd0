-- What `record` writes over a run, whoever is at the other end: the lines of a recording in which
-- no entry that went out breaks a rule.

use Rattle.std.specs.Prelude.{◌≡◌, ◌≢◌, ℕ, ◌<◌, ◌^◌, List, [], ◌++◌}
use Rattle.std.specs.List.{flat_map}
use Rattle.edge_traits.specs.Settled.{at_end}
use Rattle.command_frame.specs.Within.{within}
use Rattle.ltp_audit.specs.declared.entry.Entry.{Entry}
use Rattle.ltp_audit.specs.Keeping.{KeepsRules}
use Rattle.node_run.specs.RedParts.{IsClosing}
use Rattle.record_run.specs.Record.{entry_line, settles}

-- the text has the lines of a recording, and after them at most the line of a refusal; no entry
-- that went out breaks a rule over all that come before it
pub record WritesExchange (own peer : ℕ) (text : List ℕ) : Type 0 where
  pub entries : List Entry
  pub closing : List ℕ
  pub written : text ≡ flat_map entry_line entries ++ closing
  pub closes : IsClosing closing
  pub rules : KeepsRules own peer [] entries

-- two engines, by their numbers
pub record AreEngines (own peer : ℕ) : Type 0 where
  pub apart : own ≢ peer
  pub own_fits : own < 2 ^ 64
  pub peer_fits : peer < 2 ^ 64

-- whatever the input
abbrev pub WritesExchanges : Type 0
WritesExchanges =
    (own peer most : ℕ) (input : List ℕ) → AreEngines own peer
    → WritesExchange own peer (within most (settles own peer) at_end input).text
