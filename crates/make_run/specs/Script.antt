-- The script that `make` plays: what is drawn says what is planned, and the path as it is then says
-- which event that is.
use Rattle.std.specs.Prelude.{ℕ, zero, suc, ◌+◌, ◌-◌, ◌%◌, ◌==◌, min, length, List, [], ◌∷◌, ◌++◌, if◌then◌else◌}
use Rattle.endpoint.specs.declared.name.Endpoint.TheVariants.{Ipn}
use Rattle.path_laws.specs.Path.{PathSetup, Path, PathEvent, sends, delivers, clock_shows}
use Rattle.path_laws.specs.Path.{path_setup, starts_path, path_step}
use Rattle.make_run.specs.Draws.{next, drawn}
use Rattle.make_run.specs.Bundles.{sender_of, bundle_octets}

-- ---- the path

-- what `path ipn:9.0 512 10000 100 4096 1000000` sets up: segments of 512 octets, waits of 10,000 ms,
-- at most 100 sendings, and pieces of 4,096 octets
unfoldable pub the_setup : PathSetup
the_setup =
    path_setup (Ipn 9 0) (record { segment = 512; timeout = 10000; limit = 100; cap = 10000 }) 4096

unfoldable pub the_start : Path
the_start = starts_path the_setup 1000000

-- ---- what is planned

-- a bundle of this number is sent, with so many octets of payload; so many milliseconds pass; or one of
-- the 32 datagrams comes that were sent last, by this number
pub data Plan : Type 0 where
  a_send : ℕ → ℕ → Plan
  a_wait : ℕ → Plan
  a_delivery : ℕ → Plan

-- the i-th send, by one number drawn
abbrev pub send_by : ℕ → ℕ → Plan
send_by i r = a_send i (1 + r % 6000)

-- another event, by two numbers drawn
abbrev pub event_by : ℕ → ℕ → Plan
event_by r t = if r % 4 == 3 then a_wait (t % 20000) else a_delivery t

-- so many other events, from a state of the generator on, and the state after them
unfoldable pub others : ℕ → ℕ → List Plan
others zero x = []
others (suc n) x = event_by (drawn (next x)) (drawn (next (next x))) ∷ others n (next (next x))

unfoldable pub after_others : ℕ → ℕ → ℕ
after_others zero x = x
after_others (suc n) x = after_others n (next (next x))

-- so many sends, from the i-th on, and eight other events after each
unfoldable pub plans : ℕ → ℕ → ℕ → List Plan
plans zero i x = []
plans (suc left) i x =
    send_by i (drawn (next x))
    ∷ (others 8 (next x) ++ plans left (i + 1) (after_others 8 (next x)))

-- ---- the events

-- of n datagrams, one of the last 32
abbrev pub one_of_last : ℕ → ℕ → ℕ
one_of_last n t = n - 1 - t % min n 32

-- the event that a plan is on a path
abbrev pub event_on : Path → Plan → PathEvent
event_on w (a_send i size) = sends (sender_of i) (bundle_octets i size)
event_on w (a_wait ms) = clock_shows (w.now + ms)
event_on w (a_delivery t) = delivers (one_of_last (length w.sent) t)

-- the events that plans are, from a path on
unfoldable pub events_of : PathSetup → Path → List Plan → List PathEvent
events_of s w [] = []
events_of s w (plan ∷ more) =
    event_on w plan ∷ events_of s (path_step s w (event_on w plan)).path more

-- the events before the drain
abbrev pub script_of : ℕ → ℕ → List PathEvent
script_of seed count = events_of the_setup the_start (plans count 0 seed)
