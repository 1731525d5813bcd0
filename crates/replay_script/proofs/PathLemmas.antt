-- What a line says that sets up a path.
use Rattle.std.proofs.Common.{◌≡◌, ◌≢◌, ℕ, ◌≤◌, ◌&&◌, nat_le, Bool, true, false, List, [], ◌∷◌, codes, Option, None, Some, Result, Ok, Err, refl, sym, arith, if◌then◌else◌}
use Rattle.std.proofs.lemmas.Bool.Decides.{nat_tests}
use Rattle.endpoint.specs.declared.name.Endpoint.{Endpoint}
use Rattle.endpoint.specs.declared.name.Endpoint.TheVariants.{Null, Ipn, Dtn}
use Rattle.endpoint.specs.declared.fault.EndpointFault.{EndpointFault}
use Rattle.endpoint.specs.Numeral.{number_of}
use Rattle.endpoint.specs.Reading.{read_text}
use Rattle.endpoint.proofs.ReadingLemmas.{read_text-found}
use Rattle.replay_script.specs.declared.event.Event.{Event}
use Rattle.replay_script.specs.declared.event.Event.TheVariants as events
use Rattle.replay_script.specs.declared.fault.LineFault.{LineFault}
use Rattle.replay_script.specs.declared.fault.LineFault.TheVariants as faults
use Rattle.replay_script.specs.declared.path.PathNumbers.{PathNumbers}
use Rattle.replay_script.specs.Words.{words_of, is_word}
use Rattle.replay_script.specs.Events.{PathWords, path_words, gate_of, other_than_null, hex_of, send_words, within, number_in, joined, or_fault, path_numbers, path_event, path_line, send_line, with_number, number_word, number_line, drain_line, event_by, event_of}
use Rattle.replay_script.specs.Laws.{IsSoundPath, PathsAreSound}

-- ---- values that are there

pub unless_fault : {X Y : Type 0} (o : Option X) (fault : LineFault) (f : X → Result Y LineFault) (y : Y) → or_fault o fault f ≡ Ok y
    → (x : X) × (o ≡ Some x) × (f x ≡ Ok y)
unless_fault None fault f y is = absurd (cc)
unless_fault (Some x) fault f y is = (x, refl, is)

some_within : (least most n : ℕ) (said : Option ℕ) → within least most said ≡ Some n → (least ≤ n) × (n ≤ most)
some_within least most n None is = absurd (cc)
some_within least most n (Some m) is = by_test (nat_le least m) (nat_le m most) refl refl is
  where
    by_test : (a b : Bool) → nat_le least m ≡ a → nat_le m most ≡ b → (if a && b then Some m else None) ≡ Some n → (least ≤ n) × (n ≤ most)
    by_test true true low high is =
        let same : m ≡ n = cc in
        rw (sym same) (grind (arith, nat_tests, low), grind (arith, nat_tests, high))
    by_test true false low high is = absurd (cc)
    by_test false b low high is = absurd (cc)

pub in_range : (least most : ℕ) (word : List ℕ) (n : ℕ) → number_in least most word ≡ Some n → (least ≤ n) × (n ≤ most)
unfolding number_in
in_range least most word n is = some_within least most n (number_of word) is

-- ---- a gate's name

not_null : (read : Result Endpoint EndpointFault) (gate : Endpoint) → other_than_null read ≡ Some gate → (read ≡ Ok gate) × (gate ≢ Null)
not_null (Ok Null) gate is = absurd (cc)
not_null (Ok (Ipn node service)) gate is = (cc, λ null. cc)
not_null (Ok (Dtn ssp)) gate is = (cc, λ null. cc)
not_null (Err fault) gate is = absurd (cc)

-- ---- a line of the word `path`

abbrev numbers : (segment timeout limit cut start cap : ℕ) → PathNumbers
numbers segment timeout limit cut start cap =
    record { segment = segment; timeout = timeout; limit = limit; cut = cut; start = start; cap = cap }

-- six numbers that are there
record Values (n : PathNumbers) (a b c d e : Option ℕ) (f : ℕ → Option ℕ) : Type 0 where
  segment : a ≡ Some n.segment
  timeout : b ≡ Some n.timeout
  limit : c ≡ Some n.limit
  cut : d ≡ Some n.cut
  start : e ≡ Some n.start
  cap : f n.timeout ≡ Some n.cap

values : (n : PathNumbers) (a b c d e : Option ℕ) (f : ℕ → Option ℕ)
    → joined a (λ segment. joined b (λ timeout. joined c (λ limit. joined d (λ cut. joined e (λ start.
    joined (f timeout) (λ longest. Some (numbers segment timeout limit cut start longest))))))) ≡ Some n
    → Values n a b c d e f
values n None b c d e f is = absurd (cc)
values n (Some segment) None c d e f is = absurd (cc)
values n (Some segment) (Some timeout) None d e f is = absurd (cc)
values n (Some segment) (Some timeout) (Some limit) None e f is = absurd (cc)
values n (Some segment) (Some timeout) (Some limit) (Some cut) None f is = absurd (cc)
values n (Some segment) (Some timeout) (Some limit) (Some cut) (Some start) f is = last (f timeout) refl is
  where
    last : (o : Option ℕ) → f timeout ≡ o → joined o (λ longest. Some (numbers segment timeout limit cut start longest)) ≡ Some n
        → Values n (Some segment) (Some timeout) (Some limit) (Some cut) (Some start) f
    last None there is = absurd (cc)
    last (Some longest) there is =
        let same : numbers segment timeout limit cut start longest ≡ n = cc in
        rw (sym same) (record { segment = refl; timeout = refl; limit = refl; cut = refl; start = refl; cap = there })

sound_numbers : (words : PathWords) (gate : Endpoint) (n : PathNumbers) → gate_of words.gate ≡ Some gate → path_numbers words ≡ Some n
    → IsSoundPath gate n.segment n.timeout n.limit n.cut n.cap
unfolding gate_of path_numbers
sound_numbers words gate n named is =
    let read = not_null (read_text words.gate) gate named in
    let all = values n (number_in 512 8192 words.segment) (number_in 1 3600000 words.timeout) (number_in 1 100 words.limit)
    (number_in 1 4000000 words.cut) (number_of words.start) (λ timeout. number_in timeout 3600000 words.cap) is in
    record {
      named = read.1;
      legal = (read_text-found words.gate gate read.0).legal;
      segments = in_range 512 8192 words.segment n.segment all.segment;
      timeouts = in_range 1 3600000 words.timeout n.timeout all.timeout;
      limits = in_range 1 100 words.limit n.limit all.limit;
      cuts = in_range 1 4000000 words.cut n.cut all.cut;
      caps = in_range n.timeout 3600000 words.cap n.cap all.cap;
    }

-- what a line says
abbrev says : Event → Result Event LineFault
says event = Ok event

module _ (gate : Endpoint) (segment timeout limit cut start longest : ℕ) where
  abbrev event : Event
  event = events.Path gate segment timeout limit cut start longest

  abbrev Sound : Type 0
  Sound = IsSoundPath gate segment timeout limit cut longest

  sound_line : (words : List (List ℕ)) → path_line words ≡ Ok event → Sound
  sound_line words is =
      let (path, path_is, named) = unless_fault (path_words words) faults.Word _ event is in
      let (name, name_is, numbered) = unless_fault (gate_of path.gate) faults.Name _ event named in
      let (n, n_is, said) = unless_fault (path_numbers path) faults.Number _ event numbered in
      let sound = sound_numbers path name n name_is n_is in
      let same : says (path_event name n) ≡ says event = said in
      by_parts name n sound same
    where
      by_parts : (name : Endpoint) (n : PathNumbers) → IsSoundPath name n.segment n.timeout n.limit n.cut n.cap
          → says (path_event name n) ≡ says event → Sound
      by_parts name n sound same =
          let gates : name ≡ gate = cc in
          let segments : n.segment ≡ segment = cc in
          let timeouts : n.timeout ≡ timeout = cc in
          let limits : n.limit ≡ limit = cc in
          let cuts : n.cut ≡ cut = cc in
          let caps : n.cap ≡ longest = cc in
          rw (sym gates, sym segments, sym timeouts, sym limits, sym cuts, sym caps) sound

  -- ---- the other lines say other events

  no_send : (words : List (List ℕ)) → send_line words ≡ Ok event → Sound
  no_send words is =
      let (send, send_is, hex) = unless_fault (send_words words) faults.Word _ event is in
      let (body, body_is, said) = unless_fault (hex_of send.1) faults.Hex _ event hex in
      absurd (cc)

  no_deliver : (k : Result ℕ LineFault) → with_number events.Deliver k ≡ Ok event → Sound
  no_deliver (Ok k) is = absurd (cc)
  no_deliver (Err fault) is = absurd (cc)

  no_clock : (now : Result ℕ LineFault) → with_number events.Clock now ≡ Ok event → Sound
  no_clock (Ok now) is = absurd (cc)
  no_clock (Err fault) is = absurd (cc)

  no_drain : (words : List (List ℕ)) → drain_line words ≡ Ok event → Sound
  no_drain [] is = absurd (cc)
  no_drain (word ∷ words) is = absurd (cc)

  by_first : (words : List (List ℕ)) (path send deliver clock drain : Bool)
      → (if path then path_line words
      else if send then send_line words
      else if deliver then number_line events.Deliver words
      else if clock then number_line events.Clock words
      else if drain then drain_line words
      else Err faults.Word) ≡ Ok event → Sound
  by_first words true send deliver clock drain is = sound_line words is
  by_first words false true deliver clock drain is = no_send words is
  by_first words false false true clock drain is = no_deliver (number_word words) is
  by_first words false false false true drain is = no_clock (number_word words) is
  by_first words false false false false true is = no_drain words is
  by_first words false false false false false is = absurd (cc)

  by_words : (words : List (List ℕ)) → event_by words ≡ Ok event → Sound
  by_words [] is = absurd (cc)
  by_words (first ∷ words) is =
      by_first words (is_word first (codes "path")) (is_word first (codes "send")) (is_word first (codes "deliver"))
      (is_word first (codes "clock")) (is_word first (codes "drain")) is

pub path_sound : PathsAreSound
unfolding event_of
path_sound line gate segment timeout limit cut start longest is = by_words gate segment timeout limit cut start longest (words_of line) is
