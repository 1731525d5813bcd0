-- The text of the metrics, in Prometheus' text format: for each family its help, its type, and its
-- samples, a line each.

use Rattle.std.specs.Prelude.{ℕ, ◌/◌, ◌%◌, List, [], ◌∷◌, ◌++◌, flat_map, codes}
use Rattle.std.specs.Fmt.{decimal}
use Rattle.moment_text.specs.Text.{digits}
use Rattle.gate_cases.specs.declared.face.Face.{Face}
use Rattle.gate_cases.specs.declared.face.Face.TheVariants.{Old, New}
use Rattle.gate_metrics.specs.declared.counters.BlockCounters.{BlockCounters}
use Rattle.gate_metrics.specs.declared.counters.EndCounters.{EndCounters}
use Rattle.gate_metrics.specs.declared.counters.Counters.{Counters}
use Rattle.gate_metrics.specs.declared.gauges.LinkGauge.{LinkGauge}
use Rattle.gate_metrics.specs.declared.gauges.LinkGauge.TheVariants as states
use Rattle.gate_metrics.specs.declared.gauges.Gauges.{Gauges}

-- ---- families

-- a number, and the labels that say what it is of
pub record Sample : Type 0 where
  pub labels : List ℕ
  pub number : List ℕ

pub record Family : Type 0 where
  pub name : List ℕ
  pub help : List ℕ
  pub kind : List ℕ
  pub samples : List Sample

abbrev pub counter : (name help : List ℕ) → List Sample → Family
counter name help samples =
    record { name = name; help = help; kind = codes "counter"; samples = samples }

abbrev pub gauge : (name help : List ℕ) → List Sample → Family
gauge name help samples =
    record { name = name; help = help; kind = codes "gauge"; samples = samples }

-- ---- samples

abbrev pub face_word : Face → List ℕ
face_word Old = codes "old"
face_word New = codes "new"

-- of a face
abbrev pub at : Face → List ℕ → Sample
at face number = record {
  labels = codes "{face=\"" ++ (face_word face ++ codes "\"}");
  number = number;
}

-- of no face
abbrev pub alone : ℕ → Sample
alone number = record { labels = []; number = decimal number }

-- of a face, and of a case there or of a way to end
abbrev pub at_by : Face → (key value : List ℕ) → ℕ → Sample
at_by face key value number = record {
  labels = codes "{face=\"" ++ (face_word face ++ (codes "\"," ++ (key ++ (codes "=\""
      ++ (value ++ codes "\"}")))));
  number = decimal number;
}

-- one of each face, the old one first
abbrev pub by_face : (old new : ℕ) → List Sample
by_face old new = at Old (decimal old) ∷ at New (decimal new) ∷ []

abbrev pub by_case : Face → BlockCounters → List Sample
by_case face blocks =
    at_by face (codes "case") (codes "passed") blocks.passed
    ∷ at_by face (codes "case") (codes "bad_bundle") blocks.bad_bundle
    ∷ at_by face (codes "case") (codes "untranslated") blocks.untranslated
    ∷ at_by face (codes "case") (codes "expired") blocks.expired
    ∷ at_by face (codes "case") (codes "hop_limit") blocks.hop_limit
    ∷ at_by face (codes "case") (codes "storage") blocks.storage
    ∷ []

abbrev pub by_end : Face → EndCounters → List Sample
by_end face ends =
    at_by face (codes "how") (codes "sent") ends.sent
    ∷ at_by face (codes "how") (codes "failed") ends.failed
    ∷ at_by face (codes "how") (codes "cancelled") ends.cancelled
    ∷ []

abbrev pub is_open : LinkGauge → ℕ
is_open states.Open = 1
is_open (states.Opens after) = 0
is_open states.Closed = 0

-- milliseconds in seconds, with three digits after the point
abbrev pub seconds : ℕ → List ℕ
seconds ms = decimal (ms / 1000) ++ (codes "." ++ digits 3 (ms % 1000))

-- until the link opens: none where it is closed for good
abbrev pub opening : Face → LinkGauge → List Sample
opening face states.Open = at face (seconds 0) ∷ []
opening face (states.Opens after) = at face (seconds after) ∷ []
opening face states.Closed = []

-- ---- the families in their order

abbrev pub traffic : Counters → List Family
traffic c =
    counter (codes "blocks_total") (codes "Blocks that came whole, by what became of them.")
    (by_case Old c.old.blocks ++ by_case New c.new.blocks)
    ∷ counter (codes "datagrams_received_total") (codes "Datagrams that came.")
    (by_face c.old.datagrams_received c.new.datagrams_received)
    ∷ counter (codes "received_bytes_total") (codes "Octets of the datagrams that came.")
    (by_face c.old.octets_received c.new.octets_received)
    ∷ counter (codes "datagrams_sent_total") (codes "Datagrams that went.")
    (by_face c.old.datagrams_sent c.new.datagrams_sent)
    ∷ counter (codes "sent_bytes_total") (codes "Octets of the datagrams that went.")
    (by_face c.old.octets_sent c.new.octets_sent)
    ∷ []

abbrev pub troubles : Counters → List Family
troubles c =
    counter (codes "datagrams_dropped_total")
    (codes "Datagrams for which the outbox had no room.")
    (by_face c.old.datagrams_dropped c.new.datagrams_dropped)
    ∷ counter (codes "sessions_begun_total") (codes "Sending sessions that began.")
    (by_face c.old.sessions_begun c.new.sessions_begun)
    ∷ counter (codes "sessions_ended_total") (codes "Sending sessions that ended, by how.")
    (by_end Old c.old.sessions_ended ++ by_end New c.new.sessions_ended)
    ∷ counter (codes "poll_failures_total") (codes "Polls that failed.")
    (by_face c.old.polls_failed c.new.polls_failed)
    ∷ counter (codes "send_failures_total") (codes "Sends that failed.")
    (by_face c.old.sends_failed c.new.sends_failed)
    ∷ []

abbrev pub kept : Gauges → List Family
kept g =
    gauge (codes "sending_sessions") (codes "Sending sessions that are kept.")
    (by_face g.old.sending_sessions g.new.sending_sessions)
    ∷ gauge (codes "receiving_sessions") (codes "Receiving sessions that are kept.")
    (by_face g.old.receiving_sessions g.new.receiving_sessions)
    ∷ gauge (codes "outbox_datagrams") (codes "Datagrams that wait.")
    (by_face g.old.outbox_datagrams g.new.outbox_datagrams)
    ∷ gauge (codes "outbox_bytes") (codes "Octets of the datagrams that wait.")
    (by_face g.old.outbox_octets g.new.outbox_octets)
    ∷ []

abbrev pub links : (old new : LinkGauge) → List Family
links old new =
    gauge (codes "link_open") (codes "1 where the link is open.")
    (by_face (is_open old) (is_open new))
    ∷ gauge (codes "next_contact_seconds")
    (codes "Seconds until the link opens; 0 where it is open.")
    (opening Old old ++ opening New new)
    ∷ []

abbrev pub journal : ℕ → List Family
journal pending =
    gauge (codes "journal_pending_pieces") (codes "Pieces in the journal that haven't ended.")
    (alone pending ∷ [])
    ∷ []

abbrev pub families : Counters → Gauges → List Family
families c g =
    traffic c ++ (troubles c ++ (kept g ++ (links g.old.link g.new.link
    ++ journal g.pending_pieces)))

-- what a gateway among other implementations tells besides: the octets of the pieces that wait at the old
-- face and at the new one, too
abbrev pub beside : Counters → (old new : ℕ) → List Family
beside c old new =
    counter (codes "foreign_datagrams_total") (codes "Datagrams from elsewhere that were dropped.")
    (by_face c.old.foreign_datagrams c.new.foreign_datagrams)
    ∷ counter (codes "green_bytes_total") (codes "Octets of green data that came.")
    (by_face c.old.green_octets c.new.green_octets)
    ∷ gauge (codes "gathered_bytes") (codes "Octets of the pieces that wait to be sent.")
    (by_face old new)
    ∷ []

abbrev pub peer_families : Counters → Gauges → (old new : ℕ) → List Family
peer_families c g old new = families c g ++ beside c old new

-- ---- their text

unfoldable pub sample_text : List ℕ → Sample → List ℕ
sample_text name sample =
    codes "fimdahol_" ++ (name ++ (sample.labels ++ (codes " " ++ (sample.number ++ codes "\n"))))

-- what stands before the samples
unfoldable pub head_text : (name help kind : List ℕ) → List ℕ
head_text name help kind =
    codes "# HELP fimdahol_" ++ (name ++ (codes " " ++ (help ++ (codes "\n# TYPE fimdahol_"
    ++ (name ++ (codes " " ++ (kind ++ codes "\n")))))))

unfoldable pub family_text : Family → List ℕ
family_text family =
    head_text family.name family.help family.kind
    ++ flat_map (sample_text family.name) family.samples

unfoldable pub metrics_text : Counters → Gauges → List ℕ
metrics_text c g = flat_map family_text (families c g)

unfoldable pub peer_text : Counters → Gauges → (old new : ℕ) → List ℕ
peer_text c g old new = flat_map family_text (peer_families c g old new)
