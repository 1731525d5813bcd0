-- What holds of all counters and of all texts.

use Rattle.std.specs.Prelude.{◌≡◌, ℕ, ◌-◌, ◌^◌, ◌<◌, ◌≤◌, Bool, true, ◌&&◌, not}
use Rattle.std.specs.Prelude.{List, [], ◌∷◌, map, length, drop, codes, if◌then◌else◌}
use Rattle.std.specs.Str.{bytes_eq}
use Rattle.std.specs.List.{list_any, list_all}
use Rattle.gate_metrics.specs.declared.counters.FaceCounters.{FaceCounters}
use Rattle.gate_metrics.specs.declared.counters.Counters.{Counters}
use Rattle.gate_metrics.specs.Text.{Family}

-- ---- counters

-- all counters of a face, in the order of their samples
abbrev pub all_at : FaceCounters → List ℕ
all_at c =
    c.blocks.passed ∷ c.blocks.bad_bundle ∷ c.blocks.untranslated ∷ c.blocks.expired
    ∷ c.blocks.hop_limit ∷ c.blocks.storage ∷ c.datagrams_received ∷ c.octets_received
    ∷ c.datagrams_sent ∷ c.octets_sent ∷ c.datagrams_dropped ∷ c.sessions_begun
    ∷ c.sessions_ended.sent ∷ c.sessions_ended.failed ∷ c.sessions_ended.cancelled
    ∷ c.polls_failed ∷ c.sends_failed ∷ c.foreign_datagrams ∷ c.green_octets ∷ []

-- each is a number that it can hold
abbrev pub AllFit : List ℕ → Type 0
AllFit [] = Unit {0}
AllFit (n ∷ ns) = (n < 2 ^ 64) × AllFit ns

abbrev pub AreCounts : Counters → Type 0
AreCounts c = AllFit (all_at c.old) × AllFit (all_at c.new)

-- none is smaller than it was
abbrev pub AllGrown : (before after : List ℕ) → Type 0
AllGrown [] [] = Unit {0}
AllGrown [] (n ∷ ns) = ⊥
AllGrown (m ∷ ms) [] = ⊥
AllGrown (m ∷ ms) (n ∷ ns) = (m ≤ n) × AllGrown ms ns

abbrev pub HaveGrown : (before after : Counters) → Type 0
HaveGrown before after =
    AllGrown (all_at before.old) (all_at after.old) × AllGrown (all_at before.new) (all_at after.new)

-- ---- names

-- no two are the same
abbrev pub are_apart : List (List ℕ) → Bool
are_apart [] = true
are_apart (name ∷ names) = not (list_any (bytes_eq name) names) && are_apart names

-- no two families have one name, and no two samples of a family the same labels
abbrev pub is_family : Family → Bool
is_family f = are_apart (map (λ s. s.labels) f.samples)

pub record AreApart (fs : List Family) : Type 0 where
  pub names : are_apart (map (λ f. f.name) fs) ≡ true
  pub labels : list_all is_family fs ≡ true

abbrev pub ends_in : List ℕ → List ℕ → Bool
ends_in end name = bytes_eq (drop (length name - length end) name) end

-- a counter's name ends in `_total`, and only a counter's
abbrev pub is_named : Family → Bool
is_named f =
    if bytes_eq f.kind (codes "counter") then ends_in (codes "_total") f.name
    else not (ends_in (codes "_total") f.name)
