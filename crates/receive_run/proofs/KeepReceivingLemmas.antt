-- `receive --keep-going` answers as `receive` does where that refuses no line.
use Rattle.std.proofs.Common.{◌≡◌, ◌≢◌, ℕ, ◌+◌, Bool, true, false, ◌||◌, List, [], ◌∷◌, length, take, Some, refl, ap, nat_lt, if◌then◌else◌}
use Rattle.edge_traits.specs.declared.status.Status.TheVariants as statuses
use Rattle.edge_traits.specs.Settled.{Ends, at_end, goes_on, Settled, put_before}
use Rattle.command_frame.specs.InputLines.{lines_of, ended_part}
use Rattle.command_frame.specs.Lines.{Turn, passes, ends_run, turn_at, after_turn, lines_settle, lines_from}
use Rattle.command_frame.specs.Within.{within, or_limit, end_or_limit}
use Rattle.receive_run.specs.LineContent.{content_of}
use Rattle.receive_run.specs.KeptSessions.{Kept}
use Rattle.receive_run.specs.Receive.{Limits, content_turn, receive_rules}
use Rattle.receive_run.specs.Receive as plain
use Rattle.receive_run.specs.KeepReceiving.{Receiving, turn_on, keep_receiving_rules, nothing_received, SameUnlessRefused}
use Rattle.receive_run.specs.KeepReceiving as keeping

abbrev unrefused : List Kept → Receiving
unrefused kept = record { kept = kept; refused = false }

-- from here on both settle the same, where no line is refused
abbrev Agree : (List Kept → Settled) → (Receiving → Settled) → Type 0
Agree one on = (now : List Kept) → (one now).ends ≢ Some statuses.Refused → on (unrefused now) ≡ one now

turn-same : (kept : List Kept) (turn : Turn (List Kept)) (one : List Kept → Settled) (on : Receiving → Settled) → Agree one on
    → (after_turn turn one).ends ≢ Some statuses.Refused → after_turn (turn_on (unrefused kept) turn) on ≡ after_turn turn one
turn-same kept (passes text now) one on later none = ap (put_before text) (later now none)
turn-same kept (ends_run text statuses.Refused) one on later none = absurd (none refl)
turn-same kept (ends_run text statuses.Limit) one on later none = refl
turn-same kept (ends_run text statuses.Done) one on later none = refl
turn-same kept (ends_run text statuses.Usage) one on later none = refl
turn-same kept (ends_run text statuses.ReadFault) one on later none = refl
turn-same kept (ends_run text statuses.WriteFault) one on later none = refl
turn-same kept (ends_run text statuses.Memory) one on later none = refl

module _ (limits : Limits) where
  line-same : (n : ℕ) (kept : List Kept) (line : List ℕ) (one : List Kept → Settled) (on : Receiving → Settled) → Agree one on
      → (after_turn (turn_at (receive_rules limits) n kept line) one).ends ≢ Some statuses.Refused
      → after_turn (turn_at (keep_receiving_rules limits) n (unrefused kept) line) on
      ≡ after_turn (turn_at (receive_rules limits) n kept line) one
  unfolding turn_at
  line-same n kept line one on later = by_test (nat_lt limits.lines n || nat_lt limits.octets (length line))
    where
      by_test : (t : Bool)
          → (after_turn (if t then ends_run [] statuses.Limit else content_turn limits n kept (content_of line)) one).ends ≢ Some statuses.Refused
          → after_turn (if t then ends_run [] statuses.Limit else turn_on (unrefused kept) (content_turn limits n kept (content_of line))) on
          ≡ after_turn (if t then ends_run [] statuses.Limit else content_turn limits n kept (content_of line)) one
      by_test true none = refl
      by_test false none = turn-same kept (content_turn limits n kept (content_of line)) one on later none

  lines-same : (n : ℕ) (kept : List Kept) (lines : List (List ℕ)) (one : List Kept → Settled) (on : Receiving → Settled) → Agree one on
      → (lines_settle (receive_rules limits) n kept lines one).ends ≢ Some statuses.Refused
      → lines_settle (keep_receiving_rules limits) n (unrefused kept) lines on ≡ lines_settle (receive_rules limits) n kept lines one
  unfolding lines_settle
  lines-same n kept [] one on later none = later kept none
  lines-same n kept (line ∷ lines) one on later none =
      line-same n kept line _ _ (λ now. lines-same (n + 1) now lines one on later) none

  from-same : (ends : Ends) (octets : List ℕ) → (plain.settles limits ends octets).ends ≢ Some statuses.Refused
      → keeping.settles limits ends octets ≡ plain.settles limits ends octets
  unfolding lines_from
  from-same at_end octets none = lines-same 1 [] (lines_of octets) _ _ (λ now kept. refl) none
  from-same goes_on octets none = lines-same 1 [] (lines_of (ended_part octets)) _ _ (λ now kept. refl) none

  pub same_unless_refused : (most : ℕ) (input : List ℕ) → SameUnlessRefused limits most input
  unfolding within
  same_unless_refused most input = by_test (nat_lt most (length input))
    where
      by_test : (t : Bool)
          → (if t then or_limit (plain.settles limits goes_on (take most input)) else plain.settles limits at_end input).ends ≢ Some statuses.Refused
          → (if t then or_limit (keeping.settles limits goes_on (take most input)) else keeping.settles limits at_end input)
          ≡ (if t then or_limit (plain.settles limits goes_on (take most input)) else plain.settles limits at_end input)
      by_test true none =
          ap or_limit (from-same goes_on (take most input) (λ refused. none (ap end_or_limit refused)))
      by_test false none = from-same at_end input none
