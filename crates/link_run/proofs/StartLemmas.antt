-- What the first line of a script says, where it sets up a link.

use Rattle.std.proofs.Common.{◌≡◌, ℕ, ◌≤◌, nat_lt, length, Bool, true, false, List, [], ◌∷◌, codes, Option, None, Some, Result, Ok, Err, inl, inr, refl, sym, if◌then◌else◌}
use Rattle.endpoint.specs.Numeral.{number_of}
use Rattle.replay_script.specs.declared.fault.LineFault.{LineFault}
use Rattle.replay_script.specs.declared.fault.LineFault.TheVariants as faults
use Rattle.replay_script.specs.declared.link.LinkEvent.{LinkEvent}
use Rattle.replay_script.specs.declared.link.LinkEvent.TheVariants as events
use Rattle.replay_script.specs.declared.picks.PickWord.{PickWord}
use Rattle.replay_script.specs.Events.{Reads, hex_of, joined, number_in, number_line, number_word, or_fault, with_number}
use Rattle.replay_script.specs.LinkEvents.{LinkWords, is_link_line, link_drain_line, link_event, link_event_by, link_event_of, link_line, link_numbers, link_send_line, link_send_words, link_words, picks_of, two_words, window_line}
use Rattle.replay_script.specs.Words.{is_word, words_of}
use Rattle.replay_script.proofs.PathLemmas.{unless_fault, in_range}
use Rattle.link_run.specs.Link.{first_said}

-- ---- a line of the word `link`

pub record SoundLink (segment timeout limit cap : ℕ) : Type 0 where
  pub segments : (512 ≤ segment) × (segment ≤ 8192)
  pub timeouts : (1 ≤ timeout) × (timeout ≤ 3600000)
  pub limits : (1 ≤ limit) × (limit ≤ 100)
  pub caps : (timeout ≤ cap) × (cap ≤ 3600000)

record Found {N : Type 0} (make : ℕ → ℕ → ℕ → ℕ → ℕ → N) (out : N → Result LinkEvent LineFault) (event : LinkEvent) (a b c : Option ℕ) (f : ℕ → Option ℕ) : Type 0 where
  segment : ℕ
  timeout : ℕ
  limit : ℕ
  cap : ℕ
  start : ℕ
  segment_is : a ≡ Some segment
  timeout_is : b ≡ Some timeout
  limit_is : c ≡ Some limit
  cap_is : f timeout ≡ Some cap
  said : out (make segment timeout limit cap start) ≡ Ok event

found : {N : Type 0} (make : ℕ → ℕ → ℕ → ℕ → ℕ → N) (out : N → Result LinkEvent LineFault) (event : LinkEvent) (a b c e : Option ℕ) (f : ℕ → Option ℕ)
    → or_fault (joined a (λ segment. joined b (λ timeout. joined c (λ limit. joined (f timeout) (λ longest. joined e (λ start. Some (make segment timeout limit longest start)))))))
    faults.Number out ≡ Ok event
    → Found make out event a b c f
found make out event None b c e f is = absurd (cc)
found make out event (Some segment) None c e f is = absurd (cc)
found make out event (Some segment) (Some timeout) None e f is = absurd (cc)
found {N} make out event (Some segment) (Some timeout) (Some limit) e f is = last (f timeout) refl e is
  where
    last : (o : Option ℕ) → f timeout ≡ o → (e : Option ℕ)
        → or_fault (joined o (λ longest. joined e (λ start. Some (make segment timeout limit longest start)))) faults.Number out ≡ Ok event
        → Found make out event (Some segment) (Some timeout) (Some limit) f
    last None there e is = absurd (cc)
    last (Some longest) there None is = absurd (cc)
    last (Some longest) there (Some start) is = record {
      segment = segment;
      timeout = timeout;
      limit = limit;
      cap = longest;
      start = start;
      segment_is = refl;
      timeout_is = refl;
      limit_is = refl;
      cap_is = there;
      said = is;
    }

module _ (segment timeout limit longest start : ℕ) where
  abbrev event : LinkEvent
  event = events.Link segment timeout limit longest start

  abbrev Sound : Type 0
  Sound = SoundLink segment timeout limit longest

  sound_numbers : (words : LinkWords) → or_fault (link_numbers words) faults.Number (λ n. Ok (link_event n)) ≡ Ok event → Sound
  unfolding link_numbers
  sound_numbers words is =
      let all = found _ _ event (number_in 512 8192 words.segment) (number_in 1 3600000 words.timeout) (number_in 1 100 words.limit) (number_of words.start)
      (λ timeout. number_in timeout 3600000 words.cap) is in
      let segments : all.segment ≡ segment = let said = all.said in cc in
      let timeouts : all.timeout ≡ timeout = let said = all.said in cc in
      let limits : all.limit ≡ limit = let said = all.said in cc in
      let caps : all.cap ≡ longest = let said = all.said in cc in
      in_ranges words all.segment all.timeout all.limit all.cap segments timeouts limits caps all.segment_is all.timeout_is all.limit_is all.cap_is
    where
      in_ranges : (words : LinkWords) (a b c d : ℕ) → a ≡ segment → b ≡ timeout → c ≡ limit → d ≡ longest
          → number_in 512 8192 words.segment ≡ Some a → number_in 1 3600000 words.timeout ≡ Some b → number_in 1 100 words.limit ≡ Some c → number_in b 3600000 words.cap ≡ Some d → Sound
      in_ranges words a b c d segments timeouts limits caps first second third last =
          let one = in_range 512 8192 words.segment a first in
          let two = in_range 1 3600000 words.timeout b second in
          let three = in_range 1 100 words.limit c third in
          let four = in_range b 3600000 words.cap d last in
          rw (← segments, ← timeouts, ← limits, ← caps) (record { segments = one; timeouts = two; limits = three; caps = four })

  sound_line : (words : List (List ℕ)) → link_line words ≡ Ok event → Sound
  sound_line words is =
      let (link, link_is, numbered) = unless_fault (link_words words) faults.Word _ event is in
      sound_numbers link numbered

  no_window : (words : List (List ℕ)) → window_line words ≡ Ok event → Sound
  no_window words is =
      let (window, window_is, from) = unless_fault (two_words words) faults.Word _ event is in
      let (n, n_is, to) = unless_fault (number_of window.0) faults.Number _ event from in
      let (m, m_is, said) = unless_fault (number_of window.1) faults.Number _ event to in
      absurd (cc)

  no_send : (words : List (List ℕ)) → link_send_line words ≡ Ok event → Sound
  no_send words is =
      let (send, send_is, hex) = unless_fault (link_send_words words) faults.Word _ event is in
      let (body, body_is, said) = unless_fault (hex_of send.1) faults.Hex _ event hex in
      absurd (cc)

  no_deliver : (k : Result ℕ LineFault) → with_number events.Deliver k ≡ Ok event → Sound
  no_deliver (Ok k) is = absurd (cc)
  no_deliver (Err fault) is = absurd (cc)

  no_clock : (now : Result ℕ LineFault) → with_number events.Clock now ≡ Ok event → Sound
  no_clock (Ok now) is = absurd (cc)
  no_clock (Err fault) is = absurd (cc)

  no_picks : (b : Bool) (picks : Option (List PickWord)) → (if b then Err faults.Word else or_fault picks faults.Number (λ p. Ok (events.DrainBy p))) ≡ Ok event → Sound
  no_picks true picks is = absurd (cc)
  no_picks false None is = absurd (cc)
  no_picks false (Some picks) is = absurd (cc)

  no_drain : (words : List (List ℕ)) → link_drain_line words ≡ Ok event → Sound
  no_drain [] is = absurd (cc)
  no_drain (word ∷ words) is = no_picks (nat_lt 100000 (length (word ∷ words))) (picks_of (word ∷ words)) is

  by_first : (words : List (List ℕ)) (link window send deliver clock drain : Bool)
      → (if link then link_line words
      else if window then window_line words
      else if send then link_send_line words
      else if deliver then number_line events.Deliver words
      else if clock then number_line events.Clock words
      else if drain then link_drain_line words
      else Err faults.Word) ≡ Ok event → Sound
  by_first words true window send deliver clock drain is = sound_line words is
  by_first words false true send deliver clock drain is = no_window words is
  by_first words false false true deliver clock drain is = no_send words is
  by_first words false false false true clock drain is = no_deliver (number_word words) is
  by_first words false false false false true drain is = no_clock (number_word words) is
  by_first words false false false false false true is = no_drain words is
  by_first words false false false false false false is = absurd (cc)

  by_words : (words : List (List ℕ)) → link_event_by words ≡ Ok event → Sound
  by_words [] is = absurd (cc)
  by_words (first ∷ words) is =
      by_first words (is_word first (codes "link")) (is_word first (codes "window")) (is_word first (codes "send")) (is_word first (codes "deliver"))
      (is_word first (codes "clock")) (is_word first (codes "drain")) is

  link_sound : (line : List ℕ) → link_event_of line ≡ Ok event → Sound
  unfolding link_event_of
  link_sound line is = by_words (words_of line) is

  first_event : (line : List ℕ) → first_said line ≡ Ok event → link_event_of line ≡ Ok event
  first_event line is = by_test (is_link_line line) is
    where
      by_test : (t : Bool) → (if t then link_event_of line else Err faults.Word) ≡ Ok event → link_event_of line ≡ Ok event
      by_test true is = is
      by_test false is = absurd (cc)

  pub sound_said : (line : List ℕ) → first_said line ≡ Ok event → Sound
  sound_said line is = link_sound line (first_event line is)

  pub was_said : (line : List ℕ) → Reads (first_said line) (Ok event) → first_said line ≡ Ok event
  was_said line (inl is) = sym is
  was_said line (inr (memory, some)) = absurd (cc)

  pub read_sound : (line : List ℕ) → Reads (first_said line) (Ok event) → Sound
  read_sound line reads = link_sound line (first_event line (was_said line reads))
